use Rattle.std.proofs.Common.{ℕ, ap}
use Rattle.qg_node_alloc.specs.SlotTally.{SlotTally}
use Rattle.qg_node_alloc.specs.Tellings.Telling.{Made}
use Rattle.qg_node_alloc.proofs.SlotFollows.{follows-more}
use Rattle.qg_node_alloc.proofs.slot_book.SlotBookBook.made.Goals as goal

pub returns-clause-told : goal.returns-clause-told
returns-clause-told g c before log follows =
    follows-more before c.args.self.now c.come.new.self log (Made c.args.at) follows
    (ap (λ (book : SlotTally). book.told) c.come.ensures) (ap (λ (book : SlotTally). book.slots) c.come.ensures)
