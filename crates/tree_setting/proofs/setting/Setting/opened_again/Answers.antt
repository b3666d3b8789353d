use Rattle.std.proofs.Common.{◌≡◌, ap, subst, true, ◌∙◌}
use Rattle.qg_super.specs.declared.sizes.Sizes.{Sizes}
use Rattle.qg_super.specs.Places.{is_served}
use Rattle.qg_blocks.specs.NodesInMemory.{slots_of}
use Rattle.qg_space.specs.Holding.{Holding}
use Rattle.qg_node_alloc.specs.declared.ground.Ground.{Ground}
use Rattle.tree_setting.proofs.Settings.{draft_sizes, empty_land, makes_files}
use Rattle.tree_setting.proofs.setting.Setting.opened_again.Goals as goal

pub invariant_of-result : goal.invariant_of-result
invariant_of-result g c =
    let s = c.self.inside in
    let is = c.self.invariant in
    let sizes : Sizes = slots_of s.nodesize s.slots in
    let new : Ground = record { blocks = c.in_ok-land.land.blocks; space = c.hold_first.new.space } in
    let history = g.D.Disk.history s.disk in
    let served : is_served sizes ≡ true = subst (λ (x : Sizes). is_served x ≡ true) is.3 is.0.drafted.sizes.served in
    let space : new.space.sizes ≡ sizes = c.hold_first.ensures
    ∙ ap (λ (holding : Holding). holding.sizes) c.in_ok-land.ensures.space in
    let editable = empty_land new sizes served c.in_ok-land.ensures.draft space history
    (g.D.Disk.size s.disk) c.tree_at.result.next
    (c.in_ok-land.ensures.backed history) is.0.room in
    let makes = makes_files c.tree_at.result c.args.root c.args.height s.generation c.tree_at.ensures is.4 in
    (editable, makes, draft_sizes new.blocks.draft sizes c.in_ok-land.ensures.draft, space, is.4)
