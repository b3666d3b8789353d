use Rattle.std.proofs.Common.{◌≡◌, ◌∙◌, ◌++◌, ◌∷◌, [], ℕ, Bool, true, false, List, Option, arith, ap, refl, subst, sym}
use Rattle.std.specs.Prelude.{◌==◌, IfSome, not}
use Rattle.std.proofs.lemmas.Bool.{eq-eqb, eqb-true, false≢true, not_from_true, true≢false}
use Rattle.qg_device.specs.History.{History}
use Rattle.qg_image.specs.State.{State}
use Rattle.qg_extents.specs.Table.{IsTable}
use Rattle.qg_node_alloc.specs.declared.ground.Ground.{Ground}
use Rattle.qg_node_alloc.specs.Calls.{LeavesBe}
use Rattle.qg_open_image.specs.TreeEditsEditing.{IsEditable}
use Rattle.qg_open_image.specs.Heavier.{BookGetsHeavier, node_bytes}
use Rattle.qg_open_image.specs.Types.{TreeRefs}
use Rattle.qg_open_image.specs.ForestStanding.{HoldsState}
use Rattle.qg_qgroups.specs.declared.state.QuotaState.{QuotaState}
use Rattle.qg_qgroups.specs.Tracked.{IsTracked}
use Rattle.qg_open_image.proofs.PiecesRead.{handed}
use Rattle.qg_open_image.proofs.WholeFile.{handed-sound}
use Rattle.qg_tree_read.specs.Tree.{Root}
use Rattle.qg_open_image.proofs.Runs.{state-held}
use Rattle.qg_open_image.specs.declared.open_image.OpenImage.{OpenImage}
use Rattle.qg_open_image.specs.declared.open_image.KeptSubvolume.{KeptSubvolume}
use Rattle.qg_open_image.specs.Keeping.{IsKept, IsKeptOf, kept_at}
use Rattle.qg_image_changes.proofs.Added.{group-may-come, number-good}
use Rattle.qg_image_changes.proofs.CreatedKept.{changed-created, kept-created, number-new}
use Rattle.qg_image_changes.proofs.GroupAdded.{group-created, quota-created, rest-grouped}
use Rattle.qg_open_image.proofs.Looked.{is-subvolume}
use Rattle.qg_open_image.proofs.Stepped.{tree-kept}
use Rattle.qg_image_changes.proofs.Trees.{held-for}
use Rattle.qg_image_changes.proofs.Young.{known-now}
use Rattle.std.proofs.Common.{inr}
use Rattle.qg_blocks.proofs.Stopping.{misfit-refs}
use Rattle.qg_open_image.proofs.Stopped.{first-err}
use Rattle.qg_image_changes.proofs.changing.create_change.Goals as goal

-- ---- what is asked

pub create-requires-clause-editable : goal.create-requires-clause-editable
create-requires-clause-editable g c =
    let history = g.D.Disk.history c.args.disk.now in
    let bytes = g.D.Disk.size c.args.disk.now in
    subst (λ (n : ℕ). IsEditable c.args.kept.now.fs.land history bytes n) (sym c.next-next.ensures)
    (is-subvolume c.args.kept.now history bytes c.requires.kept).editable

pub create-requires-clause-number : goal.create-requires-clause-number
create-requires-clause-number g c = number-good c.args.kept.now 0 c.args.sub c.requires.number c.requires.few

by_false : (b : Bool) → not b ≡ false → b ≡ true
by_false true is = refl
by_false false is = absurd (true≢false is)

pub create-requires-clause-book : goal.create-requires-clause-book
create-requires-clause-book g c = (
  ap (λ (r : TreeRefs). r.tree) c.stand_for.ensures,
  ap (λ (r : TreeRefs). r.next) c.stand_for.ensures ∙ sym c.next.ensures
      ∙ eqb-true c.next.result c.next-next.result
      (by_false (c.next.result == c.next-next.result) (sym c.ne.ensures ∙ c.if-ne.false)),
)

pub create-requires-clause-slots : goal.create-requires-clause-slots
create-requires-clause-slots g c = let room = c.requires.room.free in omega (arith, room)

-- quota is as it was where the group is added
pub add_group-requires : goal.add_group-requires
add_group-requires g c =
    let same = ap (λ (k : OpenImage). k.quota) c.in_ok-add_subvolume.ensures.rest in
    record {
      tracked = subst (λ (quota : Option QuotaState). IfSome quota IsTracked) (sym same) c.requires.kept.fitted.tracked;
      free = group-may-come c.args.kept.now 0 c.args.sub c.requires.number c.requires.few
          c.add_subvolume.new.kept.quota same;
    }

-- ---- the book's next generation is the trees'

pub returns-then-ne-clause-sound : goal.returns-then-ne-clause-sound
returns-then-ne-clause-sound g c = λ state events keeps told.
    let same = c.next.ensures ∙ keeps.keeps.holds.stands.book.next ∙ sym c.next-next.ensures in
    absurd (false≢true (sym (not_from_true (c.next.result == c.next-next.result)
    (eq-eqb c.next.result c.next-next.result same)) ∙ sym c.ne.ensures ∙ c.if-ne.true))

-- ---- what is left

-- what is held before, the book standing for the new subvolume
holds-for : (kept : OpenImage) (history : History) (bytes sub : ℕ) (state : State) (book : TreeRefs)
    → IsKept kept history bytes → IsKeptOf kept state history → IsTable kept.fs.refs.refs
    → book ≡ record kept.fs.refs { tree = sub } → HoldsState kept.fs.land history book state
holds-for kept history bytes sub state book fits keeps table is =
    subst (λ (b : TreeRefs). HoldsState kept.fs.land history b state) (sym is)
    (held-for kept.fs.land history kept.fs.refs state sub
    (state-held kept.fs history bytes state keeps.mine keeps.files (tree-kept kept state history bytes fits keeps table)
    keeps.keeps))

-- all but the book is as it was told, and the book stands for the tree at hand again
rest-now : (old new : OpenImage) (land : Ground) (book now : TreeRefs) (number : ℕ)
    → now ≡ record book { tree = number }
    → number ≡ old.fs.tree.owner
    → new ≡ record old {
      fs = record old.fs { others = new.fs.others; land = land; refs = now };
      snapshots = new.snapshots;
      quota = new.quota;
    }
    → new ≡ record old {
      fs = record old.fs { others = new.fs.others; land = land; refs = record book { tree = old.fs.tree.owner } };
      snapshots = new.snapshots;
      quota = new.quota;
    }
rest-now old new land book now number is own rest =
    rest
    ∙ ap (λ (r : TreeRefs). record old {
      fs = record old.fs { others = new.fs.others; land = land; refs = r };
      snapshots = new.snapshots;
      quota = new.quota;
    }) (is ∙ ap (λ (n : ℕ). record book { tree = n }) own)

pub returns-in_err-tree-clause-sound : goal.returns-in_err-tree-clause-sound
returns-in_err-tree-clause-sound g c = λ state events keeps told.
    let kept = c.args.kept.now in
    let history = g.D.Disk.history c.args.disk.now in
    let bytes = g.D.Disk.size c.args.disk.now in
    handed-sound Root c.from_residual.result _ (handed c.from_residual.result _ c.from_residual.ensures.1)
    (c.in_err-tree.ensures.sound state events told
    (holds-for kept history bytes c.args.sub state c.stand_for.new.self c.requires.kept keeps
    (subst IsTable c.refs.ensures c.len-ascending.ensures.table) c.stand_for.ensures)
    (number-new kept state history c.args.sub c.requires.kept.fitted keeps c.requires.number))

-- a new tree is of the generation to come, and nodes and space rest so
made_next : (tree : Root) (sub next to_come : ℕ) → next ≡ to_come
    → tree ≡ record { address = tree.address; height = 0; owner = sub; next = next }
    → tree ≡ record { address = tree.address; height = 0; owner = sub; next = to_come }
made_next tree sub next to_come same is =
    is ∙ (λ i. let made : Root = record {
      address = tree.address;
      height = 0;
      owner = sub;
      next = same i;
    } in made)

made_snapshots : (old new : OpenImage) (tree : Root) (snapshot : ℕ) → snapshot ≡ 0
    → new.snapshots ≡ old.snapshots ++ (tree.owner, kept_at snapshot) ∷ []
    → new.snapshots ≡ old.snapshots ++ (tree.owner, kept_at 0) ∷ []
made_snapshots old new tree snapshot none is =
    is ∙ (λ i. let table : List (ℕ × KeptSubvolume) = old.snapshots ++ (tree.owner, kept_at (none i)) ∷ [] in table)

pub returns-clause-kept : goal.returns-clause-kept
returns-clause-kept g c =
    let kept = c.args.kept.now in
    let mid = c.add_subvolume.new.kept in
    let new = c.add_group.new.kept in
    let history = g.D.Disk.history c.args.disk.now in
    let after = g.D.Disk.history c.create.new.disk in
    let bytes = g.D.Disk.size c.args.disk.now in
    let left = g.D.Disk.size c.create.new.disk in
    let next = c.next-next.result in
    let tree = c.in_ok-tree.tree in
    let added = c.in_ok-add_subvolume.ensures in
    let group = c.in_ok-add_group.ensures in
    let same = ap (λ (k : OpenImage). k.quota) added.rest in
    kept-created kept new c.create.new.land c.create.new.book history after bytes left c.args.sub tree c.requires.kept
    c.requires.number c.requires.few
    (subst (λ (n : ℕ). LeavesBe kept.fs.land c.create.new.land history after bytes left n) c.next-next.ensures
    c.in_ok-tree.ensures.rests)
    (made_next tree c.args.sub next kept.fs.tree.next c.next-next.ensures c.in_ok-tree.ensures.begun.is)
    (ap (λ (k : OpenImage). k.fs.others.items) group.rest ∙ added.trees)
    (made_snapshots kept new tree c.new.result c.new.ensures (ap (λ (k : OpenImage). k.snapshots) group.rest
    ∙ added.snapshots))
    (quota-created kept mid new next same c.next-next.ensures group.tracked group.held c.args.sub group.quota)
    (group-created kept mid new next same c.next-next.ensures group.tracked group.held c.args.sub group.quota)
    (rest-now kept new c.create.new.land c.create.new.book c.stand_for-2.new.self c.owner-hand.result
    c.stand_for-2.ensures c.owner-hand.ensures
    (rest-grouped kept mid new c.create.new.land c.stand_for-2.new.self group.rest added.rest))

pub returns-clause-changed : goal.returns-clause-changed
returns-clause-changed g c = λ state keeps none.
    let kept = c.args.kept.now in
    let mid = c.add_subvolume.new.kept in
    let new = c.add_group.new.kept in
    let history = g.D.Disk.history c.args.disk.now in
    let after = g.D.Disk.history c.create.new.disk in
    let bytes = g.D.Disk.size c.args.disk.now in
    let left = g.D.Disk.size c.create.new.disk in
    let next = c.next-next.result in
    let tree = c.in_ok-tree.tree in
    let added = c.in_ok-add_subvolume.ensures in
    let group = c.in_ok-add_group.ensures in
    let same = ap (λ (k : OpenImage). k.quota) added.rest in
    let table = subst IsTable c.refs.ensures c.len-ascending.ensures.table in
    let made = c.in_ok-tree.ensures.created state
    (holds-for kept history bytes c.args.sub state c.stand_for.new.self c.requires.kept keeps table c.stand_for.ensures)
    (number-new kept state history c.args.sub c.requires.kept.fitted keeps c.requires.number) in
    changed-created kept new c.create.new.land c.create.new.book history after bytes left c.args.sub tree
    c.requires.kept c.requires.number c.requires.few
    (subst (λ (n : ℕ). LeavesBe kept.fs.land c.create.new.land history after bytes left n) c.next-next.ensures
    c.in_ok-tree.ensures.rests)
    (made_next tree c.args.sub next kept.fs.tree.next c.next-next.ensures c.in_ok-tree.ensures.begun.is)
    (ap (λ (k : OpenImage). k.fs.others.items) group.rest ∙ added.trees)
    (made_snapshots kept new tree c.new.result c.new.ensures (ap (λ (k : OpenImage). k.snapshots) group.rest
    ∙ added.snapshots))
    (quota-created kept mid new next same c.next-next.ensures group.tracked group.held c.args.sub group.quota)
    (group-created kept mid new next same c.next-next.ensures group.tracked group.held c.args.sub group.quota)
    (rest-now kept new c.create.new.land c.create.new.book c.stand_for-2.new.self c.owner-hand.result
    c.stand_for-2.ensures c.owner-hand.ensures
    (rest-grouped kept mid new c.create.new.land c.stand_for-2.new.self group.rest added.rest))
    state made.0 keeps none c.requires.room table
    (subst IsTable (ap (λ (r : TreeRefs). r.refs) c.stand_for-2.ensures)
    (subst IsTable c.refs-2.ensures c.len-ascending_still.ensures.table))
    made.1 made.2 made.3
    (subst (λ (b : TreeRefs). BookGetsHeavier b c.create.new.book node_bytes) c.stand_for.ensures
    c.in_ok-tree.ensures.begun.heavier)
    c.in_ok-tree.ensures.begun.slots
    (known-now kept c.args.sub c.stand_for.new.self c.create.new.book c.stand_for.ensures
    keeps.keeps.holds.stands.book.next c.in_ok-tree.ensures.begun.book)

-- ---- over any disk

pub returns-then-ne-clause-stops : goal.returns-then-ne-clause-stops
returns-then-ne-clause-stops g c = inr (inr (inr misfit-refs))

pub returns-in_err-tree-clause-stops : goal.returns-in_err-tree-clause-stops
returns-in_err-tree-clause-stops g c =
    first-err Root c.from_residual.result c.in_err-tree.field-0.0 c.args.kept.now (g.D.Disk.size c.args.disk.now)
    c.from_residual.ensures.1 c.in_err-tree.ensures.stops
