use Rattle.std.proofs.Common.{◌≤◌, ℕ, sym, subst, ◌∙◌}
use Rattle.qg_super.specs.Places.{second_place}
use Rattle.qg_node_alloc.specs.Land.{Rests}
use Rattle.tree_setting.proofs.Settings.{edited_makes, edited_names, rested_land}
use Rattle.tree_setting.proofs.setting.Setting.remove.Goals as goal

pub invariant_of-self : goal.invariant_of-self
invariant_of-self g c =
    let old = c.self.inside.land in
    let new = c.remove.new.land in
    let tree = c.remove.new.tree in
    let history = g.D.Disk.history c.remove.new.disk in
    let bytes = g.D.Disk.size c.remove.new.disk in
    let rests = c.remove.ensures.rests in
    let names = edited_names c.self.inside.tree tree old new c.remove.result c.remove.ensures.tree in
    let dated = subst (λ (generation : ℕ). Rests old new history generation) (sym names.1) rests.rests in
    let room : second_place ≤ bytes = let same = rests.size in rw same c.self.invariant.0.room in (
      rested_land old new history bytes tree.next dated room,
      edited_makes c.self.inside.tree tree names c.self.invariant.1,
      rests.rests.node_sizes ∙ c.self.invariant.2,
      rests.rests.sizes ∙ c.self.invariant.3,
      c.self.invariant.4,
    )
