-- The bytes of pieces, as they are counted.
use Rattle.std.proofs.Common.{◌≡◌, ℕ, ◌+◌, ◌-◌, ◌^◌, ◌<◌, ◌≤◌, min, List, [], ◌∷◌, take, arith, ap, ◌∙◌}
use Rattle.std.proofs.lemmas.List.Sums.{sum_by-append}
use Rattle.qg_num.specs.declared.piece.Piece.{Piece}
use Rattle.qg_image.specs.FilesOf.{pieces_bytes}
use Rattle.qg_file_edits.proofs.Items.{IsAt}

one_sum : (piece : Piece) → pieces_bytes (piece ∷ []) ≡ piece.len
one_sum piece = omega arith

add_one : (sum len whole next : ℕ) → (whole < 2 ^ 64 → sum ≡ whole) → next ≡ min (sum + len) (2 ^ 64 - 1)
    → whole + len < 2 ^ 64 → next ≡ whole + len
add_one sum len whole next so_far is small =
    let here = so_far (omega (arith, small)) in
    omega (arith, here, is, small)

-- one piece more
pub sum-more : (pieces : List Piece) (i : ℕ) (piece : Piece) → IsAt pieces i piece → (sum next : ℕ)
    → (pieces_bytes (take i pieces) < 2 ^ 64 → sum ≡ pieces_bytes (take i pieces))
    → next ≡ min (sum + piece.len) (2 ^ 64 - 1)
    → pieces_bytes (take (i + 1) pieces) < 2 ^ 64 → next ≡ pieces_bytes (take (i + 1) pieces)
sum-more pieces i piece at sum next so_far is small =
    let whole = pieces_bytes (take i pieces) in
    let len = λ (p : Piece). p.len in
    let more : pieces_bytes (take (i + 1) pieces) ≡ whole + pieces_bytes (piece ∷ []) =
    ap pieces_bytes at.more ∙ sum_by-append len (take i pieces) (piece ∷ []) in
    let one = one_sum piece in
    let added = add_one sum piece.len whole next so_far is (omega (arith, more, one, small)) in
    omega (arith, more, one, added)

-- what is left once some go, and then with others
pub sum-exchanged : (bytes gone put less more left result sum : ℕ) → sum < 2 ^ 64 → gone ≤ bytes → bytes < 2 ^ 64
    → sum + gone ≡ bytes + put → (gone < 2 ^ 64 → less ≡ gone) → (put < 2 ^ 64 → more ≡ put) → left ≡ bytes - less
    → result ≡ min (left + more) (2 ^ 64 - 1) → result ≡ sum
sum-exchanged bytes gone put less more left result sum small part fits is less_is more_is left_is result_is =
    let first = less_is (omega (arith, part, fits)) in
    let second = more_is (omega (arith, small, part, is)) in
    omega (arith, small, part, is, first, second, left_is, result_is)
