-- Edits of a file's pieces, worked out by hand.
use Rattle.std.specs.Prelude.{◌≡◌, ℕ, List, [], ◌∷◌, Some, None, refl}
use Rattle.qg_num.specs.declared.piece.Piece.{Piece}
use Rattle.qg_machine.specs.FileChange.{after, before, with_range}
use Rattle.qg_inodes.specs.PiecesWritten.{pieces_cut, pieces_met, piece_at_cut, piece_at_range}

-- a piece of so many bytes at a position, from an offset on in its extent of 16384 bytes
abbrev of_extent : ℕ → ℕ → ℕ → Piece
of_extent position len offset =
    record { position = position; len = len; extent = 67174400; offset = offset; stamp = 2; extent_bytes = 16384 }

-- one of 4096 bytes, written later
abbrev written : Piece
written = record { position = 4096; len = 4096; extent = 67190784; offset = 0; stamp = 3; extent_bytes = 4096 }

-- two pieces: 12288 bytes at 0, and 4096 at 16384
abbrev old : List Piece
old = of_extent 0 12288 0 ∷ of_extent 16384 4096 12288 ∷ []

-- 4096 bytes are written at 4096: the first piece goes, and its front, what was written and its rest are put in
meets_the_first : pieces_met 4096 8192 old ≡ of_extent 0 12288 0 ∷ []
meets_the_first = refl

puts_three : with_range 4096 8192 (written ∷ []) (pieces_met 4096 8192 old)
    ≡ of_extent 0 4096 0 ∷ written ∷ of_extent 8192 4096 8192 ∷ []
unfolding before after
puts_three = refl

keeps_the_second : piece_at_range 4096 8192 (written ∷ []) old 16384 ≡ Some (of_extent 16384 4096 12288)
keeps_the_second = refl

rests_at_the_end : piece_at_range 4096 8192 (written ∷ []) old 8192 ≡ Some (of_extent 8192 4096 8192)
rests_at_the_end = refl

none_in_the_hole : piece_at_range 4096 8192 (written ∷ []) old 12288 ≡ None
none_in_the_hole = refl

-- it is cut to 8192 bytes: both pieces go, and the front of the first is put in
cuts_both : pieces_cut 8192 old ≡ old
cuts_both = refl

puts_the_front : before 8192 (pieces_cut 8192 old) ≡ of_extent 0 8192 0 ∷ []
unfolding before
puts_the_front = refl

none_past_the_cut : piece_at_cut 8192 old 16384 ≡ None
none_past_the_cut = refl
