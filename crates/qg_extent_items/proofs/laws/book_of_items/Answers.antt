use Rattle.qg_extent_items.proofs.TheBook.{have-heads, the-book}
use Rattle.qg_extent_items.proofs.Opened.{are-opened}
use Rattle.qg_extent_items.proofs.laws.book_of_items.Goals as goal

pub returns-clause-opened : goal.returns-clause-opened
returns-clause-opened c = are-opened

pub returns-clause-told : goal.returns-clause-told
returns-clause-told c = the-book

pub returns-clause-heads : goal.returns-clause-heads
returns-clause-heads c nodesize items at reference are some = have-heads nodesize items at reference some
