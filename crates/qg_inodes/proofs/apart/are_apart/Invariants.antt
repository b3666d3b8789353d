use Rattle.std.proofs.Common.{ℕ, IsTrue, drop}
use Rattle.qg_image.specs.FilesOf.{are_pieces}
use Rattle.qg_files.specs.Apart.{AreApart, AreApartFrom}
use Rattle.qg_inodes.proofs.apart.are_apart.Given as goal

abbrev pub invariant-loop-piece : goal.invariant-loop-piece
invariant-loop-piece l = record {
  whole : AreApartFrom l.end (drop l.piece-index l.pieces) → AreApart l.pieces;
  each : (size : ℕ) → IsTrue (are_pieces 0 size l.pieces)
      → IsTrue (are_pieces l.end size (drop l.piece-index l.pieces));
}
