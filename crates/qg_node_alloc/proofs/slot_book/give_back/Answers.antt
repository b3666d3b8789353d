use Rattle.std.proofs.Common.{sym}
use Rattle.qg_node_alloc.proofs.Slots.{without-no_slot}
use Rattle.qg_node_alloc.proofs.slot_book.give_back.Goals as goal

pub returns-else-has_slot : goal.returns-else-has_slot
returns-else-has_slot c = without-no_slot c.args.space.now c.args.at (sym c.if-has_slot.ensures)
