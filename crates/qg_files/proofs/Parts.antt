-- The parts of one piece in front of a position and from one on. Positions and lengths are in bytes.
use Rattle.std.proofs.Common.{◌≡◌, ℕ, ◌+◌, ◌-◌, ◌<◌, ◌≤◌, Bool, true, false, min, max, Some, None, ap, ◌∙◌, arith}
use Rattle.std.specs.Bool.{then_some}
use Rattle.std.proofs.lemmas.Bool.{lt-ltb, le-ltb}
use Rattle.qg_num.specs.declared.piece.Piece.{Piece}
use Rattle.qg_image.specs.FilesOf.{piece_end}
use Rattle.qg_machine.specs.FileChange.{part_before, part_after}

some : {A : Type 0} (b : Bool) (x : A) → b ≡ true → then_some b x ≡ Some x
some b x h = ap (λ c. then_some c x) h

none : {A : Type 0} (b : Bool) (x : A) → b ≡ false → then_some b x ≡ None
none b x h = ap (λ c. then_some c x) h

-- a piece that ends by the position lies in front of it whole
pub before_whole : (to : ℕ) (x : Piece) → 0 < x.len → piece_end x ≤ to → part_before to x ≡ Some x
before_whole to x long ends =
    let same : min x.len (to - x.position) ≡ x.len = omega arith in
    some _ _ (lt-ltb x.position to (omega arith)) ∙ ap (λ n. Some (record x { len = n })) same

pub before_none : (to : ℕ) (x : Piece) → to ≤ x.position → part_before to x ≡ None
before_none to x begins = none _ _ (le-ltb x.position to begins)

-- a piece that begins at the position or past it lies behind it whole
pub after_whole : (from : ℕ) (x : Piece) → 0 < x.len → from ≤ x.position → part_after from x ≡ Some x
after_whole from x long begins =
    let at : max from x.position ≡ x.position = omega arith in
    some _ _ (lt-ltb from (piece_end x) (omega arith))
    ∙ ap (λ p. Some (record x { position = p; len = piece_end x - p; offset = x.offset + (p - x.position) })) at
    ∙ ap (λ n. Some (record x { len = n; offset = x.offset + (x.position - x.position) })) whole
    ∙ ap (λ n. Some (record x { offset = n })) same
  where
    whole : piece_end x - x.position ≡ x.len
    whole = omega arith

    same : x.offset + (x.position - x.position) ≡ x.offset
    same = omega arith

pub after_none : (from : ℕ) (x : Piece) → piece_end x ≤ from → part_after from x ≡ None
after_none from x ends = none _ _ (le-ltb from (piece_end x) ends)
