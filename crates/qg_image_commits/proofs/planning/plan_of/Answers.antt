use Rattle.std.proofs.Common.{◌≡◌, ℕ, ◌≤◌, List, Option, length, sym, ap, subst, ◌∙◌}
use Rattle.std.specs.Prelude.{All}
use Rattle.std.specs.List.{Contains}
use Rattle.qg_num.specs.declared.counters.Counters.{Counters}
use Rattle.qg_items.specs.declared.root.RootItem.{RootItem}
use Rattle.qg_image.specs.Table.{keys_of}
use Rattle.qg_image.specs.declared.quota.Quota.{Quota}
use Rattle.qg_image.specs.Members.{level_of_group}
use Rattle.qg_refs.specs.declared.kept.Kept.{Kept as Reference}
use Rattle.qg_extents.specs.Table.{IsTable}
use Rattle.qg_space.specs.Holding.{free_slots}
use Rattle.qg_tree_read.specs.Tree.{Root}
use Rattle.qg_qgroups.specs.Changing.{groups_in}
use Rattle.qg_qgroups.specs.Tracked.{quota_of}
use Rattle.qg_open_image.proofs.PiecesRead.{handed}
use Rattle.qg_open_image.proofs.WholeFile.{handed-sound}
use Rattle.qg_open_image.specs.declared.open_image.OpenImage.{OpenImage}
use Rattle.qg_open_image.specs.declared.open_image.KeptSubvolume.{KeptSubvolume}
use Rattle.qg_open_image.specs.Keeping.{commit_need}
use Rattle.qg_image_commits.specs.Planning.{AreRootsBy, numbers_of}
use Rattle.qg_image_commits.proofs.ByNumber.{tree-back, trees-are}
use Rattle.qg_image_commits.proofs.Cleaned.{nothing-surveyed, surveyed-keeps}
use Rattle.qg_image_commits.proofs.Counters.{quota-still}
use Rattle.qg_image_commits.proofs.GroupCounts.{trees-low}
use Rattle.qg_open_image.proofs.KnownBook.{later-known}
use Rattle.qg_image_commits.proofs.OnOff.{groups-ascend, laid_by}
use Rattle.qg_image_commits.proofs.PlanNow.{IsPlanned, lockstep, plan-so, plan-told, trees-moved}
use Rattle.qg_image_commits.proofs.RootsNow.{root-known}
use Rattle.std.proofs.Common.{inr, refl}
use Rattle.std.specs.Prelude.{Err}
use Rattle.qg_num.specs.declared.rule.Rule.TheVariants.{Refs}
use Rattle.qg_blocks.proofs.Stopping.{misfit-refs, stops-at, stops-err, stops-rule}
use Rattle.qg_open_image.proofs.Stopped.{first-err}
use Rattle.qg_image_commits.proofs.planning.plan_of.Given.{Over}
use Rattle.qg_image_commits.proofs.planning.plan_of.Goals as goal
use Rattle.qg_image_commits.proofs.planning.plan_of.Goals.{In_ok-quota}

-- ---- what is asked

pub counts_now-requires-clause-lowest : goal.counts_now-requires-clause-lowest
counts_now-requires-clause-lowest g c =
    subst (λ (trees : List Root). All (λ tree. level_of_group tree.owner ≡ 0) trees) (sym c.as_slice.ensures.value)
    (trees-low c.args.kept.now c.requires.kept.fitted c.in_ok-trees.trees.items c.in_ok-trees.ensures.moved)

pub roots_now-requires : goal.roots_now-requires
roots_now-requires g c =
    record {
      lockstep = ap numbers_of c.as_slice-2.ensures.value
          ∙ lockstep c.args.kept.now c.counts_now.new.kept (g.D.Disk.history c.args.disk.now)
          (g.D.Disk.history c.counts_now.new.disk) (g.D.Disk.size c.args.disk.now) (g.D.Disk.size c.counts_now.new.disk)
          c.in_ok-trees.trees.items c.requires.kept c.in_ok-counts.ensures.looked c.in_ok-trees.ensures.moved
          c.in_ok-trees.ensures.ascending
          ∙ ap (λ (table : List (ℕ × KeptSubvolume)). keys_of table) (sym c.as_slice-3.ensures);
    }

pub slots_for-requires : goal.slots_for-requires
slots_for-requires g c = record { fitted = c.in_ok-counts.ensures.kept.fitted }

pub quota_now-requires-clause-ascending : goal.quota_now-requires-clause-ascending
quota_now-requires-clause-ascending g c =
    let kept = c.counts_now.new.kept in
    groups-ascend kept.fs.tree.next (keys_of kept.snapshots) (quota_of kept.quota)
    c.in_ok-counts.ensures.kept.fitted.groups

pub quota_now-requires-clause-all : goal.quota_now-requires-clause-all
quota_now-requires-clause-all g c =
    ap (λ (counts : List Counters). length counts) c.as_slice-4.ensures.value ∙ c.in_ok-counts.ensures.all
    ∙ ap (λ (quota : Option Quota). length (groups_in quota))
    (sym (quota-still c.args.kept.now c.counts_now.new.kept (g.D.Disk.history c.args.disk.now)
    (g.D.Disk.history c.counts_now.new.disk) (g.D.Disk.size c.args.disk.now) (g.D.Disk.size c.counts_now.new.disk)
    c.in_ok-counts.ensures.looked))

-- ---- what is planned

planned : (g : Over) (c : In_ok-quota g)
    → IsPlanned c.args.kept.now c.counts_now.new.kept (g.D.Disk.history c.args.disk.now)
    (g.D.Disk.history c.counts_now.new.disk) (g.D.Disk.size c.args.disk.now) (g.D.Disk.size c.counts_now.new.disk)
    c.in_ok-trees.trees.items c.in_ok-counts.counts.items
    (record { roots = c.in_ok-roots.roots; quota = c.in_ok-quota.quota; slots = c.in_ok-slots.slots })
planned g c =
    record {
      fits = c.requires.kept;
      table = subst (λ (book : List (ℕ × Reference)). IsTable book) c.refs.ensures c.len-ascending.ensures.table;
      looked = c.in_ok-counts.ensures.looked;
      kept = c.in_ok-counts.ensures.kept;
      moved = c.in_ok-trees.ensures.moved;
      up = c.in_ok-trees.ensures.ascending;
      roots = subst (λ (trees : List Root). AreRootsBy c.counts_now.new.kept trees c.counts_now.new.kept.snapshots
          c.in_ok-roots.roots) c.as_slice-2.ensures.value
          (subst (λ (table : List (ℕ × KeptSubvolume)). AreRootsBy c.counts_now.new.kept c.as_slice-2.result.now table
          c.in_ok-roots.roots) c.as_slice-3.ensures c.in_ok-roots.ensures.roots);
      quota = c.in_ok-quota.ensures
          ∙ (λ i. laid_by (c.next-generation.ensures i) (c.as_slice-4.ensures.value i) c.counts_now.new.kept.quota);
      order = c.in_ok-counts.ensures.order;
      earlier = subst (λ (book : List (ℕ × Reference)). All (λ entry. entry.1.what.generation
          ≤ c.counts_now.new.kept.fs.tree.next) book) c.refs-2.ensures
          (subst (λ (n : ℕ). All (λ (entry : ℕ × Reference). entry.1.what.generation ≤ n) c.refs-2.result.now)
          c.next.ensures c.in_default.ensures.none);
      free = c.in_ok-slots.ensures.free;
      few = c.in_ok-slots.ensures.few;
      enough = c.in_ok-slots.ensures.enough;
      most = c.in_ok-slots.ensures.most;
    }

pub returns-clause-plan : goal.returns-clause-plan
returns-clause-plan g c =
    plan-so c.args.kept.now c.counts_now.new.kept (g.D.Disk.history c.args.disk.now)
    (g.D.Disk.history c.counts_now.new.disk) (g.D.Disk.size c.args.disk.now) (g.D.Disk.size c.counts_now.new.disk)
    c.in_ok-trees.trees.items c.in_ok-counts.counts.items _
    (planned g (goal.at.returns-clause-plan g c).In_ok-quota)

pub returns-clause-told : goal.returns-clause-told
returns-clause-told g c = λ state names keeps.
    plan-told c.args.kept.now c.counts_now.new.kept (g.D.Disk.history c.args.disk.now)
    (g.D.Disk.history c.counts_now.new.disk) (g.D.Disk.size c.args.disk.now) (g.D.Disk.size c.counts_now.new.disk)
    c.in_ok-trees.trees.items c.in_ok-counts.counts.items _
    (planned g (goal.at.returns-clause-told g c).In_ok-quota) state names keeps
    (λ quota are on. c.in_ok-counts.ensures.direct state names quota keeps (c.as_slice.ensures.value ∙ are) on)

-- ---- what can't be

pub returns-in_err-counts-clause-sound : goal.returns-in_err-counts-clause-sound
returns-in_err-counts-clause-sound g c = λ state events names told keeps enough.
    let table = subst (λ (book : List (ℕ × Reference)). IsTable book) c.refs.ensures c.len-ascending.ensures.table in
    handed-sound (List Counters) c.from_residual-in_err-counts.result _
    (handed c.from_residual-in_err-counts.result _ c.from_residual-in_err-counts.ensures.1)
    (c.in_err-counts.ensures.sound state events names told keeps
    (c.as_slice.ensures.value
    ∙ trees-are c.args.kept.now (g.D.Disk.history c.args.disk.now) (g.D.Disk.size c.args.disk.now) state names
    c.in_ok-trees.trees.items c.requires.kept table keeps c.in_ok-trees.ensures.moved
    c.in_ok-trees.ensures.ascending))

pub returns-in_err-roots-clause-sound : goal.returns-in_err-roots-clause-sound
returns-in_err-roots-clause-sound g c = λ state events names told keeps enough.
    let before = g.D.Disk.history c.args.disk.now in
    let after = g.D.Disk.history c.counts_now.new.disk in
    let new = c.counts_now.new.kept in
    let left = g.D.Disk.size c.counts_now.new.disk in
    let looked = c.in_ok-counts.ensures.looked in
    let table = subst (λ (book : List (ℕ × Reference)). IsTable book) c.refs.ensures c.len-ascending.ensures.table in
    let then = surveyed-keeps c.args.kept.now new before after (g.D.Disk.size c.args.disk.now) left looked state names
    keeps in
    let table_then = subst (λ (kept : OpenImage). IsTable kept.fs.refs.refs) (sym looked.rest) table in
    let moved = trees-moved c.args.kept.now new before after (g.D.Disk.size c.args.disk.now) left
    c.in_ok-trees.trees.items c.requires.kept looked c.in_ok-trees.ensures.moved c.in_ok-trees.ensures.ascending in
    handed-sound (List (ℕ × RootItem)) c.from_residual-in_err-roots.result _
    (handed c.from_residual-in_err-roots.result _ c.from_residual-in_err-roots.ensures.1)
    (c.in_err-roots.ensures.sound (λ tree has.
    root-known new after left state names c.in_ok-counts.ensures.kept table_then then tree
    (tree-back new c.in_ok-counts.ensures.kept.fitted c.in_ok-trees.trees.items moved c.in_ok-trees.ensures.ascending
    tree (subst (λ (trees : List Root). Contains trees tree) c.as_slice-2.ensures.value has))))

pub returns-in-Some-clause-sound : goal.returns-in-Some-clause-sound
returns-in-Some-clause-sound g c = λ state events names told keeps enough.
    let before = g.D.Disk.history c.args.disk.now in
    let after = g.D.Disk.history c.counts_now.new.disk in
    let new = c.counts_now.new.kept in
    let left = g.D.Disk.size c.counts_now.new.disk in
    let then = surveyed-keeps c.args.kept.now new before after (g.D.Disk.size c.args.disk.now) left
    c.in_ok-counts.ensures.looked state names keeps in
    absurd (later-known new state after left names c.in_ok-counts.ensures.kept then c.refs-2.result.now c.next.result
    c.refs-2.ensures c.next.ensures c.in-Some.ensures.table c.in-Some.ensures.some)

pub returns-in_err-slots-clause-sound : goal.returns-in_err-slots-clause-sound
returns-in_err-slots-clause-sound g c = λ state events names told keeps enough.
    let room = subst (λ (kept : OpenImage). commit_need kept ≤ free_slots kept.fs.land.space)
    (sym c.in_ok-counts.ensures.looked.rest) enough in
    handed-sound (List ℕ) c.from_residual-in_err-slots.result _
    (handed c.from_residual-in_err-slots.result _ c.from_residual-in_err-slots.ensures.1)
    (c.in_err-slots.ensures.sound room)

-- ---- where memory is refused before anything was read

pub returns-in_err-trees-clause-kept : goal.returns-in_err-trees-clause-kept
returns-in_err-trees-clause-kept g c = c.requires.kept

pub returns-in_err-trees-clause-looked : goal.returns-in_err-trees-clause-looked
returns-in_err-trees-clause-looked g c =
    nothing-surveyed c.args.kept.now (g.D.Disk.history c.args.disk.now) (g.D.Disk.size c.args.disk.now)

-- ---- over any disk

pub returns-in_err-counts-clause-stops : goal.returns-in_err-counts-clause-stops
returns-in_err-counts-clause-stops g c =
    let residual = c.from_residual-in_err-counts in
    first-err (List Counters) residual.result c.in_err-counts.field-0.0 c.args.kept.now
    (g.D.Disk.size c.args.disk.now) residual.ensures.1 c.in_err-counts.ensures.stops

pub returns-in_err-roots-clause-stops : goal.returns-in_err-roots-clause-stops
returns-in_err-roots-clause-stops g c =
    let residual = c.from_residual-in_err-roots in
    let sizes = c.args.kept.now.fs.land.blocks.draft.sizes in
    let bytes = g.D.Disk.size c.args.disk.now in
    let fault = c.in_err-roots.field-0.0 in
    stops-err (List (ℕ × RootItem)) residual.result fault sizes sizes bytes bytes residual.ensures.1 refl refl
    (stops-rule {A = List (ℕ × RootItem)} (Err fault) Refs sizes bytes misfit-refs c.in_err-roots.ensures.refs)

pub returns-in-Some-clause-stops : goal.returns-in-Some-clause-stops
returns-in-Some-clause-stops g c = inr (inr (inr misfit-refs))

pub returns-in_err-slots-clause-stops : goal.returns-in_err-slots-clause-stops
returns-in_err-slots-clause-stops g c =
    let residual = c.from_residual-in_err-slots in
    let sizes = c.args.kept.now.fs.land.blocks.draft.sizes in
    let bytes = g.D.Disk.size c.args.disk.now in
    let fault = c.in_err-slots.field-0.0 in
    stops-err (List ℕ) residual.result fault sizes sizes bytes bytes residual.ensures.1 refl refl
    (stops-at {A = List ℕ} (Err fault) Refs c.counts_now.new.kept.fs.tree.address sizes bytes misfit-refs
    c.in_err-slots.ensures.short)
