use Rattle.std.proofs.Common.{◌≡◌, take}
use Rattle.qg_extents.specs.Table.{book_of}
use Rattle.qg_backref_rule.specs.OwedLists.{owings_told}
use Rattle.qg_tree_backrefs.specs.Exchange.{Gives}
use Rattle.qg_subvolumes.proofs.sharing.give_all.Given as goal

abbrev pub invariant-loop-owing : goal.invariant-loop-owing
invariant-loop-owing l = record {
  given : Gives (book_of l.initial.book.refs) (book_of l.book.refs) (owings_told (take l.owing-index l.owings));
  others : l.book ≡ record l.initial.book { refs = l.book.refs };
}
