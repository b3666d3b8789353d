use Rattle.std.proofs.Common.{sym, ◌∙◌}
use Rattle.qg_extent_items.proofs.OneAddress.{read-reference, unread-reference}
use Rattle.qg_extent_items.proofs.reading.count_in.Goals as goal

pub returns-in-None : goal.returns-in-None
returns-in-None c = unread-reference c.args.at c.new.result c.args.reference.now c.args.item.now
    (sym c.read.ensures ∙ c.in-None.is)

pub returns-in-Some : goal.returns-in-Some
returns-in-Some c = read-reference c.args.at c.new.result c.args.reference.now c.args.item.now c.in-Some.part
    c.counted.result (sym c.read.ensures ∙ c.in-Some.is) c.counted.ensures
