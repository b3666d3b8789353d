use Rattle.std.proofs.Common.{sym, ◌∙◌}
use Rattle.qg_space.proofs.Firsts.{is_free_slot-first}
use Rattle.qg_node_alloc.proofs.Slots.{some-free}
use Rattle.qg_node_alloc.proofs.putting.take_slot.Goals as goal

pub unreachable-requires : goal.unreachable-requires
unreachable-requires c = some-free c.args.space.now c.requires (sym c.in_ok-slot.ensures.slot ∙ c.in-None.is)

pub returns-clause-free : goal.returns-clause-free
returns-clause-free c = is_free_slot-first c.args.space.now c.in-Some.slot (sym c.in_ok-slot.ensures.slot
    ∙ c.in-Some.is)
