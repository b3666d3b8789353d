-- What a range takes out of a file's pieces, by the indices of those that it meets. Positions and lengths are in bytes.
use Rattle.std.proofs.Common.{◌≡◌, ℕ, ◌+◌, ◌-◌, ◌<◌, ◌≤◌, List, [], ◌++◌, length, get_or, take, drop, Option, Some}
use Rattle.std.proofs.Common.{None, refl, sym, ap, subst, ◌∙◌, arith, append_assoc, length-append}
use Rattle.std.specs.List.{All}
use Rattle.std.specs.Option.{option_to_list}
use Rattle.std.proofs.lemmas.List.{append-nil, get_or-take, get_or-drop, length-drop, length-take-le}
use Rattle.std.proofs.lemmas.List.Elements.{recursion_from_All}
use Rattle.qg_num.specs.declared.piece.Piece.{Piece}
use Rattle.qg_image.specs.FilesOf.{piece_end}
use Rattle.qg_machine.specs.FileChange.{part_before, part_after, before, after, with_range}
use Rattle.qg_files.specs.Apart.{AreApart}
use Rattle.qg_files.specs.Meeting.{AreMeeting}
use Rattle.qg_files.specs.Split.{IsSplit}
use Rattle.qg_files.proofs.Edits.{in_three, read_is, before_meeting, after_meeting, put_between}
use Rattle.qg_files.proofs.Ranges.{after_nothing}

-- an item between two indices stands before the one and not before the other
short_of : {A : Type 0} (xs : List A) (first end k : ℕ) → first ≤ end → end ≤ length xs
    → k < length (take (end - first) (drop first xs)) → first + k < end
short_of xs first end k order bound short =
    let long : end - first ≤ length (drop first xs) = omega (arith, length-drop first xs) in
    omega (arith, length-take-le (end - first) (drop first xs) long)

-- what holds of the items before the one and from the other on holds of those between
between : {A : Type 0} (P Q : A → Type 0) (xs : List A) (first end : ℕ) → first ≤ end → end ≤ length xs
    → All P (take end xs) → All Q (drop first xs)
    → All (λ x. P x × Q x) (take (end - first) (drop first xs))
between P Q xs first end order bound front back = λ k d short.
    let inside = short_of xs first end k order bound short in
    let part = get_or-take (end - first) (drop first xs) k d (omega arith) in
    let later : k < length (drop first xs) = omega (arith, length-drop first xs) in
    let at : get_or (drop first xs) k d ≡ get_or xs (first + k) d = get_or-drop first xs k d in
    let early : first + k < length (take end xs) = omega (arith, length-take-le end xs bound) in (
      subst P (sym (part ∙ at)) (subst P (get_or-take end xs (first + k) d inside) (front (first + k) d early)),
      subst Q (sym part) (back k d later),
    )

-- no more than one part is left of a piece
at_most_one : {A : Type 0} (part : Option A) → length (option_to_list part) ≤ 1
at_most_one None = omega arith
at_most_one (Some x) = omega arith

at_most_two : {A : Type 0} (part other : Option A) → length (option_to_list part ++ option_to_list other) ≤ 2
at_most_two part other =
    omega (arith, length-append (option_to_list part) (option_to_list other), at_most_one part, at_most_one other)

abbrev middle : List Piece → ℕ → ℕ → List Piece
middle xs first end = take (end - first) (drop first xs)

-- the pieces that a range meets lie in it, each with some byte or none
met_between : (from to : ℕ) (xs : List Piece) (first end : ℕ) → AreMeeting from to xs first end
    → All (λ z. (z.position < to) × (from < piece_end z)) (middle xs first end)
met_between from to xs first end meeting =
    between (λ z. z.position < to) (λ z. from < piece_end z) xs first end meeting.order meeting.finish.bound
    meeting.finish.front meeting.begin.back

in_two : {A : Type 0} (xs : List A) (first end : ℕ) → first ≤ end
    → xs ≡ take first xs ++ take (end - first) (drop first xs) ++ drop end xs
in_two xs first end order = in_three xs first end order
    ∙ sym (append_assoc (take first xs) (take (end - first) (drop first xs)) (drop end xs))

-- where it meets some, the first and the last of them leave rests
pub split_meeting : (from to : ℕ) (xs items : List Piece) (first end : ℕ) (x y : Piece) → AreApart xs
    → AreMeeting from to xs first end → first < end
    → items ≡ xs → x ≡ get_or items first x → y ≡ get_or items (end - 1) y
    → IsSplit from to xs (middle xs first end) (option_to_list (part_before from x) ++ option_to_list (part_after to y))
split_meeting from to xs items first end x y apart meeting some same first_is last_is = record {
  front = take first xs;
  back = drop end xs;
  before_rest = option_to_list (part_before from x);
  after_rest = option_to_list (part_after to y);
  old = in_two xs first end meeting.order;
  rest = refl;
  few = at_most_two (part_before from x) (part_after to y);
  met = met_between from to xs first end meeting;
  new = λ given.
      ap (λ zs. zs ++ given ++ after to xs) (before_meeting from to xs first end x apart meeting some
      (read_is xs items first x same first_is))
      ∙ ap (λ zs. (take first xs ++ option_to_list (part_before from x)) ++ given ++ zs)
      (after_meeting from to xs first end y apart meeting some (read_is xs items (end - 1) y same last_is));
}

-- where it meets none, nothing goes
pub split_nothing : (from to : ℕ) (xs : List Piece) (i : ℕ) → AreApart xs → from ≤ to → AreMeeting from to xs i i
    → IsSplit from to xs (middle xs i i) []
split_nothing from to xs i apart order meeting = record {
  front = take i xs;
  back = drop i xs;
  before_rest = [];
  after_rest = [];
  old = in_two xs i i meeting.order;
  rest = refl;
  few = omega arith;
  met = met_between from to xs i i meeting;
  new = λ given.
      put_between from to given xs i apart order meeting.begin.front meeting.finish.back
      ∙ ap (λ zs. zs ++ given ++ drop i xs) (sym (append-nil (take i xs)));
}

-- a truncate takes out the range from the size on up to where all pieces have ended
pub truncate_is_cut : (size top : ℕ) (pieces : List Piece) → All (λ piece. piece_end piece ≤ top) pieces
    → with_range size top [] pieces ≡ before size pieces
truncate_is_cut size top pieces ends =
    ap (λ zs. before size pieces ++ [] ++ zs)
    (after_nothing top pieces (recursion_from_All (λ piece. piece_end piece ≤ top) pieces ends))
    ∙ append-nil (before size pieces ++ [])
    ∙ append-nil (before size pieces)
