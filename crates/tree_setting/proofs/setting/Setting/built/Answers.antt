use Rattle.std.proofs.Common.{◌≤◌, ℕ, ap, lit≤, subst, sym, ◌∙◌}
use Rattle.qg_device.specs.History.{Unrecorded}
use Rattle.qg_super.specs.declared.sizes.Sizes.{Sizes}
use Rattle.qg_super.specs.Places.{second_place}
use Rattle.qg_blocks.specs.NodesInMemory.{slots_of}
use Rattle.qg_space.specs.Holding.{Holding}
use Rattle.qg_node_alloc.specs.Land.{Rests}
use Rattle.tree_setting.proofs.Settings.{can_build, draft_sizes, node_size, rested_land}
use Rattle.tree_setting.proofs.setting.Setting.built.Goals as goal

pub is_buildable-requires : goal.is_buildable-requires
is_buildable-requires g c = node_size (slots_of c.args.nodesize c.args.slots) c.requires.served

pub build-requires-clause-ready : goal.build-requires-clause-ready
build-requires-clause-ready g c =
    let sizes : Sizes = slots_of c.args.nodesize c.args.slots in
    let land = c.in_ok-land.land in
    let history = g.D.Disk.history c.lengthen.new.disk in
    let bytes = g.D.Disk.size c.lengthen.new.disk in
    let space = ap (λ (holding : Holding). holding.sizes) c.in_ok-land.ensures.space in
    let asked = c.if-not-is_buildable.false in
    can_build land sizes history bytes c.new.result c.new-2.result c.free_slots.result c.args.items.now
    c.as_slice.result.now c.requires.served c.in_ok-land.ensures.draft space (c.in_ok-land.ensures.backed history)
    c.in_ok-lengthen.ensures c.new.ensures c.new-2.ensures c.as_slice.ensures c.free_slots.ensures
    (c.is_buildable.ensures.ascending asked) (c.is_buildable.ensures.short asked) (c.is_buildable.ensures.slots asked)

pub invariant_of-result : goal.invariant_of-result
invariant_of-result g c =
    let sizes : Sizes = slots_of c.args.nodesize c.args.slots in
    let old = c.in_ok-land.land in
    let new = c.build.new.land in
    let history = g.D.Disk.history c.build.new.disk in
    let bytes = g.D.Disk.size c.build.new.disk in
    let leaves = c.build.ensures.rests in
    let built = c.in_ok-tree.ensures.built (Unrecorded 0) in
    let room : second_place ≤ bytes = let same = leaves.size in rw same c.in_ok-lengthen.ensures in
    let dated = subst (λ (generation : ℕ). Rests old new history generation) (sym built.dated) leaves.rests in
    let nodes = draft_sizes old.blocks.draft sizes c.in_ok-land.ensures.draft in
    let space = ap (λ (holding : Holding). holding.sizes) c.in_ok-land.ensures.space in (
      rested_land old new history bytes c.in_ok-tree.tree.next dated room,
      built.makes,
      leaves.rests.node_sizes ∙ nodes,
      leaves.rests.sizes ∙ space,
      lit≤ tt,
    )
