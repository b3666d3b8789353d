use Rattle.std.proofs.Common.{◌≡◌, ◌++◌, length}
use Rattle.qg_extents.specs.Table.{book_of}
use Rattle.qg_subvolumes.specs.Dropping.{children_told}
use Rattle.qg_subvolumes.proofs.child.children_at.Given as goal

abbrev pub decreases-pointers : goal.decreases-pointers
decreases-pointers l = length l.rest

abbrev pub invariant-pointers : goal.invariant-pointers
invariant-pointers l = record {
  told : l.children.items ++ children_told (book_of l.book.refs) l.to l.level l.rest
      ≡ children_told (book_of l.book.refs) l.to l.level l.pointers;
}
