use Rattle.std.proofs.Common.{◌≡◌, ◌<◌, ◌≤◌, ap, arith, subst, true, ◌∙◌}
use Rattle.qg_super.specs.declared.sizes.Sizes.{Sizes}
use Rattle.qg_super.specs.Places.{is_served, second_place}
use Rattle.qg_blocks.specs.NodesInMemory.{nothing_fresh, slots_of}
use Rattle.qg_space.specs.Holding.{Holding}
use Rattle.qg_node_alloc.specs.declared.ground.Ground.{Ground}
use Rattle.tree_setting.proofs.Settings.{draft_sizes, empty_land, makes_files}
use Rattle.tree_setting.proofs.setting.Setting.commit.Goals as goal

pub invariant_of-result : goal.invariant_of-result
invariant_of-result g c =
    let s = c.self.inside in
    let sizes : Sizes = slots_of s.nodesize s.slots in
    let new : Ground = record { blocks = c.write_fresh.new.blocks; space = c.committed.new.self } in
    let bytes = g.D.Disk.size c.write_fresh.new.disk in
    let served : is_served sizes ≡ true =
    subst (λ (x : Sizes). is_served x ≡ true) c.self.invariant.3 c.self.invariant.0.drafted.sizes.served in
    let empty : new.blocks.draft ≡ nothing_fresh sizes = c.in_ok-write_fresh.ensures.draft
    ∙ ap nothing_fresh c.sizes_of.ensures in
    let space : new.space.sizes ≡ sizes = ap (λ (holding : Holding). holding.sizes) c.committed.ensures
    ∙ c.self.invariant.3 in
    let room : second_place ≤ bytes = omega (arith, c.self.invariant.0.room, c.in_ok-write_fresh.ensures.size) in
    let later : 0 < c.saturating_add-generation.result = omega (arith, c.saturating_add-generation.ensures) in
    let editable = empty_land new sizes served empty space (g.D.Disk.history c.write_fresh.new.disk) bytes
    c.tree_at.result.next c.in_ok-write_fresh.ensures.backed room in
    let makes = makes_files c.tree_at.result c.root.result c.height.result c.saturating_add-generation.result
    c.tree_at.ensures later in
    (editable, makes, draft_sizes new.blocks.draft sizes empty, space, later)
