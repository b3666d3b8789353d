use Rattle.qg_extents.proofs.Agreeing.{owed-read}
use Rattle.qg_extents.proofs.Back.{book-ordered, book-sound, book-told}
use Rattle.qg_extents.proofs.laws.book_laws.Goals as goal

pub returns-clause-back : goal.returns-clause-back
returns-clause-back c nodesize table is readable = record {
  ordered = book-ordered table is.ascend;
  sound = book-sound nodesize table is readable;
  told = book-told nodesize table is readable;
}

pub returns-clause-owed : goal.returns-clause-owed
returns-clause-owed c = owed-read
