use Rattle.std.proofs.Common.{refl}
use Rattle.qg_extents.specs.Table.{book_of}
use Rattle.qg_extents.proofs.book.ExtentsRefBook.drop_one.Goals as goal

pub drop_at-requires : goal.drop_at-requires
drop_at-requires g c = c.requires.there (book_of c.args.self.now) refl
