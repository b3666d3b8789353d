use Rattle.std.proofs.Common.{sym, ap, ◌∙◌}
use Rattle.qg_space.specs.Holding.{Holding, free_slots}
use Rattle.qg_space.proofs.Marks.{SlotsFit-is_served}
use Rattle.qg_space.proofs.Free.{free_counted}
use Rattle.qg_space.proofs.space.Space.free_slots.Goals as goal

pub returns : goal.returns
returns c =
    let s = c.self.inside in
    c.self.invariant.counted
    ∙ sym (free_counted s.sizes s.runs.items s.slots.items (SlotsFit-is_served s.sizes c.self.invariant.served)
    c.self.invariant.all)
    ∙ ap (λ (h : Holding). free_slots h) c.self.view_is
