use Rattle.std.proofs.Common.{◌≡◌, ◌≤◌, ℕ, ap, lit≤, refl, subst, sym, ◌∙◌}
use Rattle.qg_super.specs.declared.sizes.Sizes.{Sizes}
use Rattle.qg_super.specs.Places.{second_place}
use Rattle.qg_blocks.specs.NodesInMemory.{slots_of}
use Rattle.qg_space.specs.Holding.{Holding}
use Rattle.qg_node_alloc.specs.Land.{Rests}
use Rattle.tree_setting.proofs.Settings.{draft_sizes, makes_files, rested_land}
use Rattle.tree_setting.proofs.setting.Setting.new.Goals as goal

pub invariant_of-result : goal.invariant_of-result
invariant_of-result g c =
    let sizes : Sizes = slots_of c.args.nodesize c.args.slots in
    let old = c.in_ok-land.land in
    let new = c.make_node.new.land in
    let history = g.D.Disk.history c.make_node.new.disk in
    let bytes = g.D.Disk.size c.make_node.new.disk in
    let rests = c.make_node.ensures.rests.rests in
    let room : second_place ≤ bytes = let same = c.make_node.ensures.rests.size in rw same c.in_ok-lengthen.ensures in
    let next : c.tree_at.result.next ≡ 1 = rw c.tree_at.ensures refl in
    let dated = subst (λ (generation : ℕ). Rests old new history generation) (c.empty_leaf-node.ensures
    ∙ sym next) rests in
    let makes = makes_files c.tree_at.result c.in_ok-root.root 0 1 c.tree_at.ensures (lit≤ tt) in
    let nodes = draft_sizes old.blocks.draft sizes c.in_ok-land.ensures.draft in
    let space = ap (λ (holding : Holding). holding.sizes) c.in_ok-land.ensures.space in (
      rested_land old new history bytes c.tree_at.result.next dated room,
      makes,
      rests.node_sizes ∙ nodes,
      rests.sizes
          ∙ space,
      lit≤ tt,
    )
