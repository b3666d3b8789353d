use Rattle.std.proofs.Common.{refl}
use Rattle.qg_extents.specs.Table.{book_of}
use Rattle.qg_extents.proofs.book.ExtentsRefBook.set_full.Goals as goal

pub mark-requires : goal.mark-requires
mark-requires g c = c.requires.there (book_of c.args.self.now) refl
