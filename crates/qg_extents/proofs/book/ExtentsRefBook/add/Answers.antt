use Rattle.std.proofs.Common.{refl}
use Rattle.qg_extents.specs.Table.{book_of}
use Rattle.qg_extents.proofs.book.ExtentsRefBook.add.Goals as goal

pub add_one-requires : goal.add_one-requires
add_one-requires g c = c.requires.fits (book_of c.args.self.now) refl
