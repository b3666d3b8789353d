use Rattle.std.proofs.Common.{◌≡◌, ◌+◌, ◌∙◌, ◌++◌, ◌∷◌, [], ℕ, List, Option, arith, ap, length, refl, subst, sym, true}
use Rattle.std.specs.Prelude.{IfSome}
use Rattle.qg_device.specs.History.{History}
use Rattle.qg_super.specs.Places.{capacity}
use Rattle.qg_image.specs.Table.{has_key, with_value}
use Rattle.qg_image.specs.State.{State, has_subvolume}
use Rattle.qg_machine.specs.Step.{Snapshots}
use Rattle.qg_extents.specs.Table.{IsTable}
use Rattle.qg_node_alloc.specs.declared.ground.Ground.{Ground}
use Rattle.qg_open_image.specs.Heavier.{BookGetsHeavier, node_bytes}
use Rattle.qg_open_image.specs.Types.{TreeRefs}
use Rattle.qg_open_image.specs.ForestStanding.{HoldsState}
use Rattle.qg_qgroups.specs.declared.state.QuotaState.{QuotaState}
use Rattle.qg_qgroups.specs.Tracked.{IsTracked}
use Rattle.qg_open_image.proofs.PiecesRead.{handed}
use Rattle.qg_open_image.proofs.WholeFile.{handed-sound}
use Rattle.qg_tree_read.specs.Tree.{Root}
use Rattle.qg_open_image.specs.FsLawsKeeping.{other_names}
use Rattle.qg_open_image.proofs.Runs.{state-held}
use Rattle.qg_open_image.specs.declared.open_image.OpenImage.{OpenImage}
use Rattle.qg_open_image.specs.Keeping.{IsFitted, IsKept, IsKeptOf, kept_at}
use Rattle.qg_image_changes.proofs.Added.{group-may-come, level-lowest, number-good}
use Rattle.qg_image_changes.proofs.CreatedKept.{number-new}
use Rattle.qg_image_changes.proofs.GroupAdded.{group-snapped, parents-may-be, quota-snapped, rest-grouped}
use Rattle.qg_open_image.proofs.Known.{sub-known}
use Rattle.qg_open_image.proofs.Looked.{hand-among, is-subvolume, tree-listed}
use Rattle.qg_image_changes.proofs.SnappedKept.{changed-snapped, kept-snapped, rest-snapped}
use Rattle.qg_open_image.proofs.Stepped.{tree-kept}
use Rattle.qg_open_image.proofs.Tables.{listed-key}
use Rattle.qg_image_changes.proofs.Trees.{held-for, tree-is}
use Rattle.qg_image_changes.proofs.Young.{known-now}
use Rattle.qg_open_image.proofs.Stopped.{first-err}
use Rattle.qg_image_changes.proofs.changing.snap_change.Goals as goal

-- ---- what is asked

pub snapshot-requires-clause-editable : goal.snapshot-requires-clause-editable
snapshot-requires-clause-editable g c =
    (is-subvolume c.args.kept.now (g.D.Disk.history c.args.disk.now) (g.D.Disk.size c.args.disk.now)
    c.requires.kept).editable

pub snapshot-requires-clause-number : goal.snapshot-requires-clause-number
snapshot-requires-clause-number g c =
    number-good c.args.kept.now (length c.args.parents.now) c.args.copy c.requires.number c.requires.listed.few

pub snapshot-requires-clause-slots : goal.snapshot-requires-clause-slots
snapshot-requires-clause-slots g c = let room = c.requires.room.free in omega (arith, room)

-- the source is there
source_there : (kept : OpenImage) (sub : ℕ) → IsFitted kept → kept.fs.tree.owner ≡ sub
    → has_key sub kept.snapshots ≡ true
source_there kept sub fits hand =
    subst (λ (n : ℕ). has_key n kept.snapshots ≡ true) hand
    (listed-key kept.fs.tree.owner kept.snapshots (tree-listed kept fits kept.fs.tree (hand-among kept.fs)))

pub mark_snapshot-requires : goal.mark_snapshot-requires
mark_snapshot-requires g c = record {
  there = source_there c.args.kept.now c.args.sub c.requires.kept.fitted c.requires.hand;
  ascending = c.requires.kept.fitted.subvolumes.ascending;
}

-- quota is as it was where the group is added
pub inherit_group-requires : goal.inherit_group-requires
inherit_group-requires g c =
    let kept = c.args.kept.now in
    let parents = c.args.parents.now in
    let now = c.add_subvolume.new.kept in
    let same = ap (λ (k : OpenImage). k.quota) c.in_ok-add_subvolume.ensures.rest
    ∙ ap (λ (k : OpenImage). k.quota) c.mark_snapshot.ensures in
    record {
      tracked = subst (λ (quota : Option QuotaState). IfSome quota IsTracked) (sym same) c.requires.kept.fitted.tracked;
      free = group-may-come kept (length parents) c.args.copy c.requires.number c.requires.listed.few now.quota same;
      level = level-lowest kept (length parents) c.args.copy c.requires.number c.requires.listed.few;
      parents = parents-may-be kept parents now.quota same c.requires.listed.parents;
    }

-- ---- what is left

-- what is held before, the book standing for the new subvolume
holds-for : (kept : OpenImage) (history : History) (bytes sub : ℕ) (state : State) (book : TreeRefs)
    → IsKept kept history bytes → IsKeptOf kept state history → IsTable kept.fs.refs.refs
    → book ≡ record kept.fs.refs { tree = sub } → HoldsState kept.fs.land history book state
holds-for kept history bytes sub state book fits keeps table is =
    subst (λ (b : TreeRefs). HoldsState kept.fs.land history b state) (sym is)
    (held-for kept.fs.land history kept.fs.refs state sub
    (state-held kept.fs history bytes state keeps.mine keeps.files (tree-kept kept state history bytes fits keeps table)
    keeps.keeps))

-- the source's subvolume is there
source_known : (kept : OpenImage) (history : History) (state : State) → IsFitted kept
    → IsKeptOf kept state history → has_subvolume state kept.fs.tree.owner ≡ true
source_known kept history state fits keeps =
    sub-known kept state history keeps kept.fs.tree.owner
    ∙ source_there kept kept.fs.tree.owner fits refl

pub returns-in_err-tree-clause-sound : goal.returns-in_err-tree-clause-sound
returns-in_err-tree-clause-sound g c = λ state events keeps told.
    let kept = c.args.kept.now in
    let history = g.D.Disk.history c.args.disk.now in
    let bytes = g.D.Disk.size c.args.disk.now in
    handed-sound Root c.from_residual.result _ (handed c.from_residual.result _ c.from_residual.ensures.1)
    (c.in_err-tree.ensures.sound state events told
    (holds-for kept history bytes c.args.copy state c.stand_for.new.self c.requires.kept keeps
    (subst IsTable c.refs.ensures c.len-ascending.ensures.table) c.stand_for.ensures)
    (source_known kept history state c.requires.kept.fitted keeps)
    (tree-is kept history bytes state (other_names state) c.requires.kept keeps kept.fs.tree (hand-among kept.fs))
    (number-new kept state history c.args.copy c.requires.kept.fitted keeps c.requires.number))

-- what the source's mark left, told by what was there before
marked_others : (old mid new : OpenImage) (land : Ground) (now : TreeRefs) (sub stamp : ℕ) (tree : Root)
    → mid ≡ record old {
      fs = record old.fs { land = land; refs = now };
      snapshots = with_value sub (kept_at stamp) old.snapshots;
    }
    → new.fs.others.items ≡ mid.fs.others.items ++ tree ∷ [] → new.fs.others.items ≡ old.fs.others.items ++ tree ∷ []
marked_others old mid new land now sub stamp tree is others =
    others ∙ ap (λ (k : OpenImage). k.fs.others.items ++ tree ∷ []) is

marked_snapshots : (old mid new : OpenImage) (land : Ground) (now : TreeRefs) (sub stamp : ℕ) (tree : Root)
    → mid ≡ record old {
      fs = record old.fs { land = land; refs = now };
      snapshots = with_value sub (kept_at stamp) old.snapshots;
    }
    → old.fs.tree.owner ≡ sub → stamp ≡ old.fs.tree.next
    → new.snapshots ≡ mid.snapshots ++ (tree.owner, kept_at stamp) ∷ []
    → new.snapshots
    ≡ with_value old.fs.tree.owner (kept_at old.fs.tree.next) old.snapshots
    ++ (tree.owner, kept_at old.fs.tree.next) ∷ []
marked_snapshots old mid new land now sub stamp tree is hand dated snapshots =
    snapshots ∙ ap (λ (k : OpenImage). k.snapshots ++ (tree.owner, kept_at stamp) ∷ []) is
    ∙ (λ i. with_value (sym hand i) (kept_at (dated i)) old.snapshots ++ (tree.owner, kept_at (dated i)) ∷ [])

pub returns-clause-kept : goal.returns-clause-kept
returns-clause-kept g c =
    let kept = c.args.kept.now in
    let mid = c.mark_snapshot.new.kept in
    let put = c.add_subvolume.new.kept in
    let new = c.inherit_group.new.kept in
    let land = c.snapshot.new.land in
    let now = c.stand_for-2.new.self in
    let stamp = c.next-next.result in
    let tree = c.in_ok-tree.tree in
    let added = c.in_ok-add_subvolume.ensures in
    let group = c.in_ok-inherit_group.ensures in
    let parents = c.args.parents.now in
    let same = ap (λ (k : OpenImage). k.quota) added.rest ∙ ap (λ (k : OpenImage). k.quota) c.mark_snapshot.ensures in
    kept-snapped kept new land c.snapshot.new.book (g.D.Disk.history c.args.disk.now)
    (g.D.Disk.history c.snapshot.new.disk) (g.D.Disk.size c.args.disk.now) (g.D.Disk.size c.snapshot.new.disk)
    c.args.sub c.args.copy parents tree c.requires.kept c.requires.hand c.requires.number c.requires.listed.few
    c.in_ok-tree.ensures.rests c.in_ok-tree.ensures.begun.is
    (marked_others kept mid new land now c.args.sub stamp tree c.mark_snapshot.ensures
    (ap (λ (k : OpenImage). k.fs.others.items) group.rest ∙ added.trees))
    (marked_snapshots kept mid new land now c.args.sub stamp tree c.mark_snapshot.ensures c.requires.hand
    c.next-next.ensures (ap (λ (k : OpenImage). k.snapshots) group.rest ∙ added.snapshots))
    (quota-snapped kept put new stamp same c.next-next.ensures group.tracked group.held c.args.sub c.args.copy parents
    group.quota)
    (group-snapped kept put new stamp same c.next-next.ensures group.tracked group.held c.args.sub c.args.copy parents
    group.quota)
    (rest-snapped kept mid new land c.snapshot.new.book now c.args.sub stamp c.stand_for-2.ensures c.requires.hand
    c.mark_snapshot.ensures (rest-grouped mid put new mid.fs.land mid.fs.refs group.rest added.rest))

pub returns-clause-changed : goal.returns-clause-changed
returns-clause-changed g c = λ state keeps none.
    let kept = c.args.kept.now in
    let history = g.D.Disk.history c.args.disk.now in
    let bytes = g.D.Disk.size c.args.disk.now in
    let table = subst IsTable c.refs.ensures c.len-ascending.ensures.table in
    let mid = c.mark_snapshot.new.kept in
    let put = c.add_subvolume.new.kept in
    let new = c.inherit_group.new.kept in
    let land = c.snapshot.new.land in
    let now = c.stand_for-2.new.self in
    let stamp = c.next-next.result in
    let tree = c.in_ok-tree.tree in
    let added = c.in_ok-add_subvolume.ensures in
    let group = c.in_ok-inherit_group.ensures in
    let parents = c.args.parents.now in
    let same = ap (λ (k : OpenImage). k.quota) added.rest ∙ ap (λ (k : OpenImage). k.quota) c.mark_snapshot.ensures in
    let made = c.in_ok-tree.ensures.copied state parents
    (holds-for kept history bytes c.args.copy state c.stand_for.new.self c.requires.kept keeps table
    c.stand_for.ensures)
    (source_known kept history state c.requires.kept.fitted keeps)
    (tree-is kept history bytes state (other_names state) c.requires.kept keeps kept.fs.tree (hand-among kept.fs))
    (number-new kept state history c.args.copy c.requires.kept.fitted keeps c.requires.number) in
    changed-snapped kept new land c.snapshot.new.book history (g.D.Disk.history c.snapshot.new.disk) bytes
    (g.D.Disk.size c.snapshot.new.disk) c.args.sub c.args.copy parents tree c.requires.kept c.requires.hand
    c.requires.number c.requires.listed.few c.in_ok-tree.ensures.rests c.in_ok-tree.ensures.begun.is
    (marked_others kept mid new land now c.args.sub stamp tree c.mark_snapshot.ensures
    (ap (λ (k : OpenImage). k.fs.others.items) group.rest ∙ added.trees))
    (marked_snapshots kept mid new land now c.args.sub stamp tree c.mark_snapshot.ensures c.requires.hand
    c.next-next.ensures (ap (λ (k : OpenImage). k.snapshots) group.rest ∙ added.snapshots))
    (quota-snapped kept put new stamp same c.next-next.ensures group.tracked group.held c.args.sub c.args.copy parents
    group.quota)
    (group-snapped kept put new stamp same c.next-next.ensures group.tracked group.held c.args.sub c.args.copy parents
    group.quota)
    (rest-snapped kept mid new land c.snapshot.new.book now c.args.sub stamp c.stand_for-2.ensures c.requires.hand
    c.mark_snapshot.ensures (rest-grouped mid put new mid.fs.land mid.fs.refs group.rest added.rest))
    state made.0 keeps none c.requires.room table
    (subst IsTable (ap (λ (r : TreeRefs). r.refs) c.stand_for-2.ensures)
    (subst IsTable c.refs-2.ensures c.len-ascending_still.ensures.table))
    (subst (λ (n : ℕ). Snapshots state n parents c.args.copy made.0) c.requires.hand made.1) made.2 made.3
    (subst (λ (b : TreeRefs). BookGetsHeavier b c.snapshot.new.book
    (node_bytes + capacity kept.fs.land.space.sizes.nodesize)) c.stand_for.ensures c.in_ok-tree.ensures.begun.heavier)
    c.in_ok-tree.ensures.begun.slots
    (known-now kept c.args.copy c.stand_for.new.self c.snapshot.new.book c.stand_for.ensures
    keeps.keeps.holds.stands.book.next c.in_ok-tree.ensures.begun.book)

-- ---- over any disk

pub returns-in_err-tree-clause-stops : goal.returns-in_err-tree-clause-stops
returns-in_err-tree-clause-stops g c =
    first-err Root c.from_residual.result c.in_err-tree.field-0.0 c.args.kept.now (g.D.Disk.size c.args.disk.now)
    c.from_residual.ensures.1 c.in_err-tree.ensures.stops
