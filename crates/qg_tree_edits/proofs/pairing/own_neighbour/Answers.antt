use Rattle.std.proofs.lemmas.Result.{err_from_is_err_and}
use Rattle.std.specs.Prelude.{length}
use Rattle.std.proofs.Common.{◌≡◌, arith, rules, sym, subst, ◌∙◌, ℕ, Err, refl, inl, inr}
use Rattle.std.proofs.lemmas.Bool.{eqb-true}
use Rattle.qg_node.specs.declared.node.Node.{Node}
use Rattle.qg_node.specs.declared.node.Node.TheVariants.{Inner}
use Rattle.qg_node.specs.Nodes.{own_pointers}
use Rattle.qg_shape.specs.Parts.{IsInner}
use Rattle.qg_blocks.proofs.Telling.{fresh-held}
use Rattle.qg_tree_edits.specs.declared.pairing.Pair.{Pair}
use Rattle.qg_tree_edits.specs.Editing.{IsBeside}
use Rattle.qg_tree_edits.proofs.Beside.{beside-apart}
use Rattle.qg_tree_edits.proofs.Rejoined.{unbroken-other}
use Rattle.qg_tree_edits.proofs.Served.{fresh-inner}
use Rattle.qg_device.proofs.Causes.{cause-handed, cause-other}
use Rattle.qg_tree_edits.proofs.ToldBeside.{beside-judged, beside-taken, beside-told, paired-behind, paired-front}
use Rattle.qg_tree_edits.proofs.Naming.{names-other}
use Rattle.qg_tree_edits.proofs.Unfit.{beside-child, misread-same}
use Rattle.qg_tree_edits.specs.Failing.{IsRefused, LacksNeighbour}
use Rattle.std.proofs.Common.{ap}
use Rattle.qg_num.specs.declared.fault.BlockFault.{BlockFault}
use Rattle.qg_num.specs.declared.rule.Rule.TheVariants.{Refs}
use Rattle.qg_blocks.proofs.Stopping.{misfit-refs, stops-err, stops-misfit}
use Rattle.qg_tree_edits.proofs.Stopped.{stops-lone}
use Rattle.qg_tree_edits.proofs.pairing.own_neighbour.Goals as goal

pub neighbour_of-requires-clause-inner : goal.neighbour_of-requires-clause-inner
neighbour_of-requires-clause-inner g c =
    let node = c.requires.place.fresh.node in
    subst (λ (n : Node). IsInner n) (sym (fresh-held c.args.land.now.blocks c.args.at node c.peek.result.now
    c.requires.place.fresh.here c.peek.ensures)) (fresh-inner c.args.land.now c.args.tree.now.next c.args.level
    c.args.at node c.requires.editable.drafted c.requires.place.fresh c.requires.place.fresh.here)

pub returns-then-beside-place-clause-told : goal.returns-then-beside-place-clause-told
returns-then-beside-place-clause-told g c items un before log follows =
    let same : c.peek.result.now ≡ Inner un.header un.pointers = fresh-held c.args.land.now.blocks c.args.at
    (Inner un.header un.pointers) c.peek.result.now un.here c.peek.ensures in
    let is = subst (λ (n : Node). IsBeside (own_pointers n) c.args.to c.args.level c.args.place c.in-Some.beside) same
    c.in-Some.ensures in
    let owned = c.in_ok-other.ensures.owned.is in
    let there = beside-told g.P.TreePart.tree c.args.tree.now c.args.land.now c.own.new.land
    (g.D.Disk.history c.args.disk.now) c.args.level c.args.at c.args.to c.args.place c.args.child items un
    c.in-Some.beside c.in_ok-other.other is owned in
    let taken = beside-taken g.P.TreePart.tree c.args.tree.now c.args.land.now c.own.new.land
    (g.D.Disk.history c.args.disk.now) c.args.level c.args.at c.args.to c.args.place c.args.child items un
    c.in-Some.beside c.in_ok-other.other is owned in
    paired-behind g.P.TreePart.tree c.args.tree.now c.args.land.now c.own.new.land (g.D.Disk.history c.args.disk.now)
    c.args.level c.args.at c.args.to c.args.place c.args.child items un c.in-Some.beside c.in_ok-other.other is owned
    (λ tellings. g.B.Book.follows before tellings c.own.new.book) log (c.in_ok-other.ensures.told owned.node there taken
    before log follows) (search rules) (search rules)

pub returns-clause-told : goal.returns-clause-told
returns-clause-told g c items un before log follows =
    let same : c.peek.result.now ≡ Inner un.header un.pointers = fresh-held c.args.land.now.blocks c.args.at
    (Inner un.header un.pointers) c.peek.result.now un.here c.peek.ensures in
    let is = subst (λ (n : Node). IsBeside (own_pointers n) c.args.to c.args.level c.args.place c.in-Some.beside) same
    c.in-Some.ensures in
    let owned = c.in_ok-other.ensures.owned.is in
    let there = beside-told g.P.TreePart.tree c.args.tree.now c.args.land.now c.own.new.land
    (g.D.Disk.history c.args.disk.now) c.args.level c.args.at c.args.to c.args.place c.args.child items un
    c.in-Some.beside c.in_ok-other.other is owned in
    let taken = beside-taken g.P.TreePart.tree c.args.tree.now c.args.land.now c.own.new.land
    (g.D.Disk.history c.args.disk.now) c.args.level c.args.at c.args.to c.args.place c.args.child items un
    c.in-Some.beside c.in_ok-other.other is owned in
    paired-front g.P.TreePart.tree c.args.tree.now c.args.land.now c.own.new.land (g.D.Disk.history c.args.disk.now)
    c.args.level c.args.at c.args.to c.args.place c.args.child items un c.in-Some.beside c.in_ok-other.other is owned
    (λ tellings. g.B.Book.follows before tellings c.own.new.book) log (c.in_ok-other.ensures.told owned.node there taken
    before log follows) (search rules) (search rules)

-- ---- where it fails

pub returns-in_default-clause-fails : goal.returns-in_default-clause-fails
returns-in_default-clause-fails g c =
    let land = c.args.land.now in
    let at = c.args.at in
    let peeked = c.peek.result.now in
    record {
      sound = λ items un.
          let same : peeked ≡ Inner un.header un.pointers =
          fresh-held land.blocks at (Inner un.header un.pointers) peeked un.here c.peek.ensures in
          let lone = subst (λ (n : Node). length (own_pointers n) ≡ 1) same c.in_default.ensures in
          let several = un.several in
          absurd (omega (arith, lone, several));
      broken = λ node here fresh events told_is.
          let same = fresh-held land.blocks at node peeked here c.peek.ensures in
          let lone : length (own_pointers node) ≡ 1 =
          subst (λ (n : Node). length (own_pointers n) ≡ 1) same c.in_default.ensures in
          rw c.unfit.ensures (inl (lone, refl, refl));
      cause = cause-other (g.D.Disk.faults c.args.disk.now) (g.D.Disk.faults c.args.disk.now) (Err c.unfit.result)
          (omega arith) (λ is. let unfit = c.unfit.ensures in cc);
    }

pub returns-in_err-other-clause-fails : goal.returns-in_err-other-clause-fails
returns-in_err-other-clause-fails g c =
    let p = err_from_is_err_and c.from_residual.result c.from_residual.ensures.1 in
    let tree = g.P.TreePart.tree in
    let root = c.args.tree.now in
    let land = c.args.land.now in
    let new = c.own.new.land in
    let beside = c.in-Some.beside in
    let fault = c.in_err-other.field-0.0 in
    let old = g.D.Disk.faults c.args.disk.now in
    rw (p.1, p.2) (record {
      sound = λ items un.
          let same = fresh-held land.blocks c.args.at (Inner un.header un.pointers) c.peek.result.now un.here
          c.peek.ensures in
          let is = subst (λ (n : Node). IsBeside (own_pointers n) c.args.to c.args.level c.args.place beside) same
          c.in-Some.ensures in
          let judged = beside-judged tree root land (g.D.Disk.history c.args.disk.now) c.args.level c.args.at c.args.to
          c.args.place c.args.child items un beside is in
          unbroken-other ℕ Pair fault (c.in_err-other.ensures.fails.sound judged.0 judged.1 judged.2);
      broken = λ node here fresh events told_is.
          let same = fresh-held land.blocks c.args.at node c.peek.result.now here c.peek.ensures in
          let is = subst (λ (n : Node). IsBeside (own_pointers n) c.args.to c.args.level c.args.place beside) same
          c.in-Some.ensures in
          names-other ℕ Pair fault (IsRefused tree root land new events beside.way.expected beside.way.address)
          (LacksNeighbour tree root new events node c.args.at c.args.to c.args.level c.args.place c.args.child)
          (λ rule address bad. inr (
            beside,
            is,
            inl (misread-same tree root land new events beside.way.expected beside.way.address rule address bad.1
                bad.0),
          ))
          (c.in_err-other.ensures.fails.broken events told_is);
      cause = cause-handed ℕ Pair old old (g.D.Disk.faults c.own.new.disk) fault (omega arith)
          c.in_err-other.ensures.fails.cause;
    })

pub returns-then-eq-clause-fails : goal.returns-then-eq-clause-fails
returns-then-eq-clause-fails g c =
    let tree = g.P.TreePart.tree in
    let root = c.args.tree.now in
    let land = c.args.land.now in
    let new = c.own.new.land in
    let history = g.D.Disk.history c.args.disk.now in
    let beside = c.in-Some.beside in
    let other = c.in_ok-other.other in
    let owned = c.in_ok-other.ensures.owned.is in
    let equal = eqb-true other c.args.child (sym c.eq.ensures ∙ c.if-eq.true) in
    record {
      sound = λ items un.
          let same = fresh-held land.blocks c.args.at (Inner un.header un.pointers) c.peek.result.now un.here
          c.peek.ensures in
          let is = subst (λ (n : Node). IsBeside (own_pointers n) c.args.to c.args.level c.args.place beside) same
          c.in-Some.ensures in
          absurd (beside-apart tree root land new history c.args.level c.args.at c.args.to c.args.place c.args.child
          items un beside other is owned equal);
      broken = λ node here fresh events told_is.
          let same = fresh-held land.blocks c.args.at node c.peek.result.now here c.peek.ensures in
          let is = subst (λ (n : Node). IsBeside (own_pointers n) c.args.to c.args.level c.args.place beside) same
          c.in-Some.ensures in
          let child = beside-child tree root land new history beside.way.expected beside.way.address other c.args.child
          c.args.level root.next c.requires.editable.drafted fresh owned equal in
          rw c.unfit-then-eq.ensures (inr (beside, is, inr (child, refl, refl)));
      cause = cause-other (g.D.Disk.faults c.args.disk.now) (g.D.Disk.faults c.own.new.disk)
          (Err c.unfit-then-eq.result) c.in_ok-other.ensures.fails.cause.fine
          (λ is. let unfit = c.unfit-then-eq.ensures in cc);
    }

-- ---- over any disk

pub returns-in_default-clause-stops : goal.returns-in_default-clause-stops
returns-in_default-clause-stops g c =
    let land = c.args.land.now in
    let at = c.args.at in
    let fresh = c.requires.place.fresh in
    let same = fresh-held land.blocks at fresh.node c.peek.result.now fresh.here c.peek.ensures in
    let lone : length (own_pointers fresh.node) ≡ 1 =
    subst (λ (n : Node). length (own_pointers n) ≡ 1) same c.in_default.ensures in
    stops-lone {A = Pair} (Err c.unfit.result) land c.args.tree.now.next at fresh.node (g.D.Disk.size c.args.disk.now)
    c.requires.editable.drafted fresh.here lone (ap (λ (f : BlockFault). Err f) c.unfit.ensures)

pub returns-in_err-other-clause-stops : goal.returns-in_err-other-clause-stops
returns-in_err-other-clause-stops g c =
    let sizes = c.args.land.now.blocks.draft.sizes in
    let bytes = g.D.Disk.size c.args.disk.now in
    stops-err ℕ c.from_residual.result c.in_err-other.field-0.0 sizes sizes bytes bytes c.from_residual.ensures.1 refl
    refl c.in_err-other.ensures.stops

pub returns-then-eq-clause-stops : goal.returns-then-eq-clause-stops
returns-then-eq-clause-stops g c =
    stops-misfit {A = Pair} (Err c.unfit-then-eq.result) Refs c.args.at c.args.land.now.blocks.draft.sizes
    (g.D.Disk.size c.args.disk.now) misfit-refs (ap (λ (f : BlockFault). Err f) c.unfit-then-eq.ensures)
