use Rattle.std.proofs.Common.{ap, ◌∙◌}
use Rattle.qg_space.specs.Holding.{Holding, is_free_slot}
use Rattle.qg_space.proofs.Free.{free_is_slot}
use Rattle.qg_space.proofs.space.Space.take_slot_at.Goals as goal

pub number_of-number-requires-clause-slot : goal.number_of-number-requires-clause-slot
number_of-number-requires-clause-slot c =
    let s = c.self.inside in
    free_is_slot _ c.args.at (ap (λ (h : Holding). is_free_slot h c.args.at) c.self.view_is ∙ c.requires)
