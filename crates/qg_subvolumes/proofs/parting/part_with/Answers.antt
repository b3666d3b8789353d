use Rattle.std.proofs.Common.{◌≡◌, ℕ, ◌≤◌, Global, List, Option, Some, None, Vec, arith, sym, ap, subst, ◌∙◌, false}
use Rattle.std.specs.List.{All, Contains}
use Rattle.std.specs.Prelude.{◌==◌, IsTrue}
use Rattle.std.proofs.lemmas.Option.{same_Some}
use Rattle.qg_node.specs.declared.node.Node.{Node}
use Rattle.qg_super.proofs.Served.{SizesFit-is_served}
use Rattle.qg_super.specs.Places.{is_run}
use Rattle.qg_image.specs.declared.element.Element.{Element}
use Rattle.qg_image.specs.Owed.{owed_by_node}
use Rattle.qg_space.specs.Holding.{Holding, free_slots}
use Rattle.qg_node_alloc.specs.declared.ground.Ground.{Ground}
use Rattle.qg_refs.specs.declared.kept.Kept.{Kept}
use Rattle.qg_refs.specs.Book.{references_at}
use Rattle.qg_extents.specs.Table.{IsTable, book_of}
use Rattle.qg_tree_edits.proofs.Rejoined.{unbroken-other}
use Rattle.qg_tree_backrefs.specs.Following.{exchange_by_parting, references_to}
use Rattle.qg_subvolumes.specs.Dropping.{HoldsPartly, RestsButRuns, extents_known, without_references}
use Rattle.qg_subvolumes.proofs.Concluded.{parted-goes, parted-stays}
use Rattle.qg_subvolumes.proofs.Knowing.{knows-exchanged}
use Rattle.qg_subvolumes.proofs.Parted.{but}
use Rattle.qg_subvolumes.proofs.Reading.{node-is, none-met}
use Rattle.qg_subvolumes.proofs.Resting.{RestsButRuns-given, RestsButRuns-same, free-left, unbroken-handed}
use Rattle.qg_subvolumes.proofs.Sound.{can-part, taken-all}
use Rattle.qg_subvolumes.proofs.Weighing.{held-node, parted-heavier}
use Rattle.qg_num.specs.declared.rule.Rule.TheVariants.{Refs}
use Rattle.qg_blocks.proofs.Stopping.{rule-err}
use Rattle.qg_subvolumes.proofs.parting.part_with.Goals as goal
use Rattle.qg_subvolumes.proofs.parting.part_with.Goals.{in-Goes+in_ok-gone, in_default-case}

pub returns-clause-parted : goal.returns-clause-parted
returns-clause-parted c state sub waiting history placed backed holds there mark waits under =
    let land = c.args.land.now in
    let before = c.args.book.now in
    let after = c.part_with.new.self in
    let at = c.args.at in
    let node = c.peek-2.result.now in
    let first : IsTable before.refs = subst IsTable c.refs.ensures c.len-ascending.ensures.table in
    let last : IsTable after.refs = subst IsTable c.refs-3.ensures c.len-ascending_still.ensures.table in
    let fits : after.misfit ≡ None = sym c.misfit.ensures ∙ c.in_default.is in
    let peeked = same_Some c.peek.result.now node (sym c.peek.ensures ∙ c.peek-2.ensures) in
    let known = c.in_ok-named.ensures
    ∙ ap (λ (refs : List (ℕ × Kept)). extents_known (book_of refs)
    (owed_by_node (record { node = c.peek.result.now; full = false }))) c.refs-2.ensures
    ∙ ap (λ (n : Node). extents_known (book_of before.refs) (owed_by_node (record { node = n; full = false })))
    peeked in
    elim c.match-case.branch [
      | in-Goes+in_ok-gone w ↦
          let mid : Ground = record land { space = w.give_runs.new.self } in
          let given = ap (λ (h : Holding). record land { space = h }) w.give_runs.ensures in
          let value = w.as_slice-in-Goes.ensures.value ∙ w.in_ok-gone.ensures.value
          ∙ ap (λ (refs : List (ℕ × Kept)). without_references (book_of refs) w.as_slice.result.now)
          w.refs-in-Goes.ensures ∙ ap (λ (es : List Element). without_references (book_of after.refs) es)
          w.as_slice.ensures.value in
          subst (λ (g : Ground). HoldsPartly g history after state sub (but waiting at)) (sym w.land-is)
          (parted-goes land history before after state sub waiting holds first.book last.book at node c.args.full placed
          there mark waits under backed c.peek-2.ensures c.in_ok-case.ensures.done fits
          (sym c.in_ok-case.ensures.case ∙ w.in-Goes.is) c.in_ok-named.named.items w.as_slice-in-Goes.result.now known
          value mid w.let_go.new.land given
          (λ none. w.let_go.ensures.goes
          (ap (λ (refs : List (ℕ × Kept)). references_at (book_of refs) at) w.refs-in-Goes-2.ensures ∙ none))
          w.let_go.ensures.gone)
      | in_default-case w ↦
          subst (λ (g : Ground). HoldsPartly g history after state sub (but waiting at)) (sym w.land-is)
          (parted-stays land history before after state sub waiting holds first.book last.book at node c.args.full
          placed there mark waits under backed c.peek-2.ensures c.in_ok-case.ensures.done fits
          (λ goes. w.in_default-case.not-Goes (c.in_ok-case.ensures.case ∙ goes)))
    ]

pub returns-clause-heavier : goal.returns-clause-heavier
returns-clause-heavier c history generation backed drafted =
    let before = c.args.book.now in
    let after = c.part_with.new.self in
    let first : IsTable before.refs = subst IsTable c.refs.ensures c.len-ascending.ensures.table in
    let last : IsTable after.refs = subst IsTable c.refs-3.ensures c.len-ascending_still.ensures.table in
    let fits : after.misfit ≡ None = sym c.misfit.ensures ∙ c.in_default.is in
    parted-heavier before after (record { node = c.peek-2.result.now; full = c.args.full })
    c.args.land.now.space.sizes.nodesize c.args.at first last c.in_ok-case.ensures.done fits
    (held-node c.args.land.now history generation c.args.at c.peek-2.result.now backed drafted c.peek-2.ensures)

pub returns-clause-book : goal.returns-clause-book
returns-clause-book c =
    let kept = c.part_with.ensures.kept in
    record {
      tree = kept.0;
      nodesize = kept.1;
      next = kept.2;
      known = knows-exchanged c.args.book.now c.part_with.new.self
          (exchange_by_parting (book_of c.args.book.now.refs) c.args.book.now.tree
          (record { node = c.peek-2.result.now; full = c.args.full }))
          c.in_ok-case.ensures.done (sym c.misfit.ensures ∙ c.in_default.is);
    }

pub returns-in-Some-clause-sound : goal.returns-in-Some-clause-sound
returns-in-Some-clause-sound c state sub waiting history placed generation backed drafted holds there mark waits under =
    let land = c.args.land.now in
    let before = c.args.book.now in
    let after = c.part_with.new.self in
    let first : IsTable before.refs = subst IsTable c.refs.ensures c.len-ascending.ensures.table in
    let fit = (SizesFit-is_served land.space.sizes drafted.sizes.served).nodesize in
    let small : state.sizes.nodesize ≤ 16384 =
    subst (λ sizes. sizes.nodesize ≤ 16384) (sym holds.sizes) fit in
    let can = can-part land history before state sub waiting holds first.book first.fitting small c.args.at placed there
    waits in
    let fits = none-met land history before state sub waiting holds first.book c.args.at c.peek-2.result.now c.args.full
    placed there mark waits backed c.peek-2.ensures after c.in_ok-case.ensures.done can in
    let wrong : ◌≡◌ {A = Option ℕ} None (Some c.in-Some.address) = sym fits ∙ sym c.misfit.ensures ∙ c.in-Some.is in
    absurd cc

pub returns-in_err-gone-clause-sound : goal.returns-in_err-gone-clause-sound
returns-in_err-gone-clause-sound c state sub waiting history placed generation backed drafted holds there mark waits
    under =
    let land = c.args.land.now in
    let before = c.args.book.now in
    let after = c.part_with.new.self in
    let at = c.args.at in
    let node = c.peek-2.result.now in
    let first : IsTable before.refs = subst IsTable c.refs.ensures c.len-ascending.ensures.table in
    let fault = c.in_err-gone.field-0.0 in
    let read = same_Some c.peek.result.now node (sym c.peek.ensures ∙ c.peek-2.ensures)
    ∙ node-is land history before state sub waiting holds first.book at node c.args.full placed there mark waits backed
    c.peek-2.ensures in
    let known = c.as_slice.ensures.value ∙ c.in_ok-named.ensures
    ∙ ap (λ (refs : List (ℕ × Kept)). extents_known (book_of refs)
    (owed_by_node (record { node = c.peek.result.now; full = false }))) c.refs-2.ensures
    ∙ ap (λ (n : Node). extents_known (book_of before.refs) (owed_by_node (record { node = n; full = false }))) read in
    let all = taken-all land history before state sub waiting holds first.book at placed there waits
    (λ (e : Element). references_to (book_of c.refs-in-Goes.result.now) e.address == 0) in
    unbroken-handed c.from_residual-in_err-gone.result fault c.from_residual-in_err-gone.ensures.1
    (unbroken-other (Vec Element Global) (Unit {0}) fault (c.in_err-gone.ensures.sound
    (subst (λ (es : List Element). All (λ (run : Element). Contains land.space.runs run
    × IsTrue (is_run land.space.sizes run.address run.bytes))
    (without_references (book_of c.refs-in-Goes.result.now) es)) (sym known) all)))

pub returns-clause-rests : goal.returns-clause-rests
returns-clause-rests c history generation backed drafted =
    let land = c.args.land.now in
    elim c.match-case.branch [
      | in-Goes+in_ok-gone w ↦
          let mid : Ground = record land { space = w.give_runs.new.self } in
          let given = ap (λ (h : Holding). record land { space = h }) w.give_runs.ensures in
          let free = free-left land mid w.let_go.new.land w.as_slice-in-Goes.result.now c.args.at
          (references_at (book_of w.refs-in-Goes-2.result.now) c.args.at) given w.let_go.ensures.stays
          w.let_go.ensures.goes in
          subst (λ (g : Ground). RestsButRuns land g history generation) (sym w.land-is)
          (RestsButRuns-given land mid w.let_go.new.land w.as_slice-in-Goes.result.now given history generation free
          (w.let_go.ensures.rests history generation) backed drafted)
      | in_default-case w ↦
          subst (λ (g : Ground). RestsButRuns land g history generation) (sym w.land-is)
          (RestsButRuns-same land history generation backed drafted)
    ]

pub returns-clause-slots : goal.returns-clause-slots
returns-clause-slots c =
    let land = c.args.land.now in
    elim c.match-case.branch [
      | in-Goes+in_ok-gone w ↦
          let mid : Ground = record land { space = w.give_runs.new.self } in
          let given = ap (λ (h : Holding). record land { space = h }) w.give_runs.ensures in
          let most = free-left land mid w.let_go.new.land w.as_slice-in-Goes.result.now c.args.at
          (references_at (book_of w.refs-in-Goes-2.result.now) c.args.at) given w.let_go.ensures.stays
          w.let_go.ensures.goes in
          let same = ap (λ (g : Ground). g.space) w.land-is in
          omega (arith, most, ap free_slots same)
      | in_default-case w ↦ omega (arith, ap (λ (g : Ground). free_slots g.space) w.land-is)
    ]

pub give_runs-requires : goal.give_runs-requires
give_runs-requires c =
    subst (λ (es : List Element). All (λ (run : Element). Contains c.args.land.now.space.runs run) es)
    (sym c.as_slice-in-Goes.ensures.value) c.in_ok-gone.ensures.taken

pub returns-in_err-gone-clause-refs : goal.returns-in_err-gone-clause-refs
returns-in_err-gone-clause-refs c =
    let residual = c.from_residual-in_err-gone in
    rule-err (Vec Element Global) residual.result c.in_err-gone.field-0.0 Refs residual.ensures.1
    c.in_err-gone.ensures.refs
