-- What an edit at indices leaves, as what pieces have beside a range. Positions and lengths are in bytes.
use Rattle.std.proofs.Common.{◌≡◌, ℕ, ◌+◌, ◌-◌, ◌<◌, ◌≤◌, inl, inr, Bool, false, List, [], ◌∷◌, ◌++◌, length, get_or}
use Rattle.std.proofs.Common.{take, drop, Option, Some, None, refl, sym, ap, subst, ◌∙◌, arith, append_assoc}
use Rattle.std.specs.Prelude.{nat_lt, ◌&&◌, count_by, cond}
use Rattle.std.specs.List.{All, AllByRecursion, cons_option, filter_map}
use Rattle.std.specs.Option.{option_to_list, option_and_then}
use Rattle.std.proofs.lemmas.Bool.{cases_lt, cases_Bool, and_cases, cond-true, ltb-false, lt-ltb, true≢false}
use Rattle.std.proofs.lemmas.List.{take-append-drop, take_more, append-nil, get_or-take, get_or-drop, length-take-le}
use Rattle.std.proofs.lemmas.List.{length-drop, take_all, drop-drop}
use Rattle.std.proofs.lemmas.List.Elements.{recursion_from_All, All-from_recursion, All-weaker, All-drop}
use Rattle.std.proofs.lemmas.List.Elements.{filter_map-append}
use Rattle.std.proofs.lemmas.List.Sums.{sum_by-cons}
use Rattle.qg_num.specs.declared.piece.Piece.{Piece}
use Rattle.qg_image.specs.FilesOf.{piece_end}
use Rattle.qg_machine.specs.FileChange.{part_before, part_after, before, after, within, with_range, pieces_meeting}
use Rattle.qg_files.specs.Apart.{IsWithinSizes, AreApart}
use Rattle.qg_files.specs.Meeting.{IsFirstPast, IsFirstFrom, AreMeeting}
use Rattle.qg_files.proofs.Order.{all_within_sizes, apart-take, apart-drop}
use Rattle.qg_files.proofs.Splices.{beside_middle}
use Rattle.qg_files.proofs.Ranges.{cons_none, before_nothing, after_all, after_nothing, before-append, after-append}
use Rattle.qg_files.proofs.Ranges.{before_at, after_at, before_split, after_split}

-- ---- indices

-- a piece of the list is within the sizes
pub sizes_at : (xs : List Piece) (i : ℕ) (x : Piece) → AreApart xs → i < length xs → x ≡ get_or xs i x → IsWithinSizes x
sizes_at xs i x apart short is =
    subst IsWithinSizes (sym is) (All-from_recursion IsWithinSizes xs (all_within_sizes 0 xs apart) i x short)

-- a piece that is read of a list that is the same
pub read_is : (xs items : List Piece) (i : ℕ) (x : Piece) → items ≡ xs → x ≡ get_or items i x → x ≡ get_or xs i x
read_is xs items i x same is = is ∙ ap (λ zs. get_or zs i x) same

-- and so is the last one that a range meets
pub last_sizes : (from to : ℕ) (xs items : List Piece) (first end : ℕ) (y : Piece) → AreApart xs
    → AreMeeting from to xs first end → first < end → items ≡ xs → y ≡ get_or items (end - 1) y → IsWithinSizes y
last_sizes from to xs items first end y apart meeting some same is =
    sizes_at xs (end - 1) y apart (omega (arith, meeting.finish.bound)) (read_is xs items (end - 1) y same is)

-- the first piece of the rest of a list
pub at_drop : {A : Type 0} (P : A → Type 0) (xs : List A) (i : ℕ) (d : A) → i < length xs → All P (drop i xs)
    → P (get_or xs i d)
at_drop P xs i d short all =
    let here : i + 0 ≡ i = omega arith in
    subst (λ k. P (get_or xs k d)) here (subst P (get_or-drop i xs 0 d) (all 0 d (omega (arith, length-drop i xs))))

-- the last piece of the front of a list
pub at_take : {A : Type 0} (P : A → Type 0) (xs : List A) (i : ℕ) (d : A) → 0 < i → i ≤ length xs → All P (take i xs)
    → P (get_or xs (i - 1) d)
at_take P xs i d some bound all =
    subst P (get_or-take i xs (i - 1) d (omega arith)) (all (i - 1) d (omega (arith, length-take-le i xs bound)))

-- and so is a piece of a part of it
pub sizes_in : (xs : List Piece) (first n i : ℕ) (x : Piece) → AreApart xs → i < length (take n (drop first xs))
    → x ≡ get_or (take n (drop first xs)) i x → IsWithinSizes x
sizes_in xs first n i x apart short is =
    let part = apart-take 0 n (drop first xs) (apart-drop 0 first xs apart) in
    sizes_at (take n (drop first xs)) i x part short is

no_piece : Piece
no_piece = record { position = 0; len = 0; extent = 0; offset = 0; stamp = 0; extent_bytes = 0 }

-- the first piece that ends past a range's start is no later than the first one from the range's end on
pub in_order : (from to : ℕ) (xs : List Piece) (first end : ℕ) → AreApart xs → from ≤ to → IsFirstPast from xs first
    → IsFirstFrom to xs end → first ≤ end
in_order from to xs first end apart order begin finish = elim (cases_lt end first) [
  | inr fine ↦ fine
  | inl wrong ↦
      let d = no_piece in
      let short : end < length xs = omega (arith, begin.bound) in
      let size = (All-from_recursion IsWithinSizes xs (all_within_sizes 0 xs apart) end d short).some in
      let ends = subst (λ x. piece_end x ≤ from) (get_or-take first xs end d wrong)
      (begin.front end d (omega (arith, length-take-le first xs begin.bound))) in
      let begins = at_drop (λ x. to ≤ x.position) xs end d short finish.back in
      absurd (omega (arith, size, ends, begins))
]

-- ---- cuts

-- where pieces meet the range, what is left of the first of them stands behind those in front of it
pub before_meeting : (from to : ℕ) (xs : List Piece) (first end : ℕ) (x : Piece) → AreApart xs
    → AreMeeting from to xs first end → first < end → x ≡ get_or xs first x
    → before from xs ≡ take first xs ++ option_to_list (part_before from x)
before_meeting from to xs first end x apart meeting some is =
    let short : first < length xs = omega (arith, meeting.finish.bound) in
    let past = subst (λ z. from < piece_end z) (sym is)
    (at_drop (λ z. from < piece_end z) xs first x short meeting.begin.back) in
    before_at from xs first x apart meeting.begin.front short is past

-- and what is left of the last of them in front of those behind it
pub after_meeting : (from to : ℕ) (xs : List Piece) (first end : ℕ) (y : Piece) → AreApart xs
    → AreMeeting from to xs first end → first < end → y ≡ get_or xs (end - 1) y
    → after to xs ≡ option_to_list (part_after to y) ++ drop end xs
after_meeting from to xs first end y apart meeting some is =
    let begun = subst (λ z. z.position < to) (sym is)
    (at_take (λ z. z.position < to) xs end y (omega arith) meeting.finish.bound meeting.finish.front) in
    let last : end - 1 + 1 ≡ end = omega arith in
    let behind = subst (λ k. All (λ z. to ≤ z.position) (drop k xs)) (sym last) meeting.finish.back in
    after_at to xs (end - 1) y apart behind (omega (arith, meeting.finish.bound)) is begun
    ∙ ap (λ k. option_to_list (part_after to y) ++ drop k xs) last

-- so both stand in the place of those that the range meets
pub cut_meeting : (from to : ℕ) (xs items : List Piece) (first end : ℕ) (x y : Piece) → AreApart xs
    → AreMeeting from to xs first end → first < end
    → items ≡ xs → x ≡ get_or items first x → y ≡ get_or items (end - 1) y
    → with_range from to [] xs ≡ take first xs ++ option_to_list (part_before from x)
    ++ option_to_list (part_after to y) ++ drop end xs
cut_meeting from to xs items first end x y apart meeting some same first_is last_is =
    let front = take first xs ++ option_to_list (part_before from x) in
    let back = option_to_list (part_after to y) in
    ap (λ zs. before from xs ++ [] ++ zs) (after_meeting from to xs first end y apart meeting some
    (read_is xs items (end - 1) y same last_is))
    ∙ ap (λ zs. zs ++ [] ++ (back ++ drop end xs)) (before_meeting from to xs first end x apart meeting some
    (read_is xs items first x same first_is))
    ∙ ap (λ zs. zs ++ (back ++ drop end xs)) (append-nil front)
    ∙ sym (append_assoc front back (drop end xs))

-- and given pieces stand between both
pub put_meeting : (from to : ℕ) (given xs items : List Piece) (first end : ℕ) (x y : Piece) → AreApart xs
    → AreMeeting from to xs first end → first < end
    → items ≡ xs → x ≡ get_or items first x → y ≡ get_or items (end - 1) y
    → with_range from to given xs ≡ take first xs
    ++ (option_to_list (part_before from x) ++ given ++ option_to_list (part_after to y)) ++ drop end xs
put_meeting from to given xs items first end x y apart meeting some same first_is last_is =
    let front = option_to_list (part_before from x) in
    let rest = option_to_list (part_after to y) in
    ap (λ zs. before from xs ++ given ++ zs) (after_meeting from to xs first end y apart meeting some
    (read_is xs items (end - 1) y same last_is))
    ∙ ap (λ zs. zs ++ given ++ (rest ++ drop end xs)) (before_meeting from to xs first end x apart meeting some
    (read_is xs items first x same first_is))
    ∙ sym (beside_middle (take first xs) front given rest (drop end xs))

-- where no piece meets the range, given pieces stand between those in front of it and those behind
pub put_between : (from to : ℕ) (given xs : List Piece) (i : ℕ) → AreApart xs → from ≤ to
    → All (λ z. piece_end z ≤ from) (take i xs) → All (λ z. to ≤ z.position) (drop i xs)
    → with_range from to given xs ≡ take i xs ++ given ++ drop i xs
put_between from to given xs i apart order front back =
    ap (λ zs. zs ++ given ++ after to xs)
    (before_split from xs i apart front (All-weaker (λ z. to ≤ z.position) (λ z. from ≤ z.position)
    (λ z h. omega arith) (drop i xs) back))
    ∙ ap (λ zs. take i xs ++ given ++ zs)
    (after_split to xs i apart (All-weaker (λ z. piece_end z ≤ from) (λ z. piece_end z ≤ to) (λ z h. omega arith)
    (take i xs) front) back)

-- so a range that no piece meets stays as it is
pub cut_nothing : (from to : ℕ) (xs : List Piece) (i : ℕ) → AreApart xs → from ≤ to → AreMeeting from to xs i i
    → xs ≡ with_range from to [] xs
cut_nothing from to xs i apart order meeting =
    sym (put_between from to [] xs i apart order meeting.begin.front meeting.finish.back
    ∙ ap (λ zs. zs ++ drop i xs) (append-nil (take i xs))
    ∙ take-append-drop i xs)

-- what lies in front of a size, where a piece ends past it
pub cut_behind : (size : ℕ) (xs : List Piece) (first : ℕ) (x : Piece) → AreApart xs → IsFirstPast size xs first
    → first < length xs → x ≡ get_or xs first x
    → before size xs ≡ take first xs ++ option_to_list (part_before size x)
cut_behind size xs first x apart begin short is =
    let past = subst (λ z. size < piece_end z) (sym is)
    (at_drop (λ z. size < piece_end z) xs first x short begin.back) in
    before_at size xs first x apart begin.front short is past

-- and where none does
pub keep_before : (size : ℕ) (xs : List Piece) (first : ℕ) → AreApart xs → IsFirstPast size xs first → length xs ≤ first
    → xs ≡ before size xs
keep_before size xs first apart begin over =
    sym (before_split size xs first apart begin.front (λ k d short. absurd (omega (arith, length-drop first xs)))
    ∙ take_all first xs over)

-- ---- what is in a range

-- only the pieces that the range meets have something in it
filter_map_twice : {A B C : Type 0} (g : B → Option C) (f : A → Option B) (xs : List A)
    → filter_map g (filter_map f xs) ≡ filter_map (λ x. option_and_then g (f x)) xs
filter_map_twice g f [] = refl
filter_map_twice {B = B} g f (x ∷ xs) = first (f x)
    ∙ ap (λ ys. cons_option (option_and_then g (f x)) ys) (filter_map_twice g f xs) where
      first : (y : Option B) → filter_map g (cons_option y (filter_map f xs)) ≡ cons_option (option_and_then g y)
          (filter_map g (filter_map f xs))
      first None = refl
      first (Some y) = refl

-- a list in front of an index, up to another one, and from there on
pub in_three : {A : Type 0} (xs : List A) (first end : ℕ) → first ≤ end
    → xs ≡ take first xs ++ (take (end - first) (drop first xs) ++ drop end xs)
in_three xs first end order =
    let over : first + (end - first) ≡ end = omega arith in
    sym (take-append-drop first xs)
    ∙ ap (λ ys. take first xs ++ ys) (sym (take-append-drop (end - first) (drop first xs)))
    ∙ ap (λ ys. take first xs ++ (take (end - first) (drop first xs) ++ ys)) (drop-drop (end - first) first xs
    ∙ ap (λ k. drop k xs) over)

pub within_meeting : (from to : ℕ) (xs : List Piece) (first end : ℕ) → AreApart xs → from ≤ to
    → AreMeeting from to xs first end
    → within from to xs ≡ filter_map (λ x. option_and_then (part_before to) (part_after from x))
    (take (end - first) (drop first xs))
unfolding before after
within_meeting from to xs first end apart order meeting =
    let middle = take (end - first) (drop first xs) in
    let back = drop end xs in
    ap (λ ys. before to (after from ys)) (in_three xs first end meeting.order)
    ∙ ap (before to) (after-append from (take first xs) (middle ++ back))
    ∙ ap (λ ys. before to (ys ++ after from (middle ++ back)))
    (after_nothing from (take first xs)
    (recursion_from_All (λ z. piece_end z ≤ from) (take first xs) meeting.begin.front))
    ∙ ap (before to) (after-append from middle back)
    ∙ ap (λ ys. before to (after from middle ++ ys))
    (after_all from back (all_within_sizes 0 back (apart-drop 0 end xs apart))
    (recursion_from_All (λ z. from ≤ z.position) back later))
    ∙ before-append to (after from middle) back
    ∙ ap (λ ys. before to (after from middle) ++ ys)
    (before_nothing to back (recursion_from_All (λ z. to ≤ z.position) back meeting.finish.back))
    ∙ append-nil (before to (after from middle))
    ∙ filter_map_twice (part_before to) (part_after from) middle
  where
    later : All (λ z. from ≤ z.position) (drop end xs)
    later = All-weaker (λ z. to ≤ z.position) (λ z. from ≤ z.position) (λ z h. omega arith)
        (drop end xs) meeting.finish.back

-- one more piece of a list
pub filter_map_more : {A B : Type 0} (h : A → Option B) (xs : List A) (i : ℕ) (x : A) → i < length xs
    → x ≡ get_or xs i x
    → filter_map h (take (i + 1) xs) ≡ filter_map h (take i xs) ++ option_to_list (h x)
filter_map_more h xs i x short is =
    ap (filter_map h) (take_more xs i x short ∙ ap (λ y. take i xs ++ y ∷ []) (sym is))
    ∙ filter_map-append h (take i xs) (x ∷ [])
    ∙ ap (λ ys. filter_map h (take i xs) ++ ys) (cons_none (h x))

-- ---- a piece that is put where nothing is

none_pass : {A : Type 0} (p : A → Bool) (xs : List A) → count_by p xs ≡ 0 → AllByRecursion (λ x. p x ≡ false) xs
none_pass p [] none = tt
none_pass p (x ∷ xs) none =
    let parts = sum_by-cons (λ y. cond (p y) 1 0) x xs in (
      elim (cases_Bool (p x)) [
        | inl passes ↦ absurd (omega (arith, parts, cond-true {A = ℕ} (p x) 1 0 passes))
        | inr fails ↦ fails
      ],
      none_pass p xs (omega (arith, parts)),
    )

-- of a piece that does not meet the range, and ends past its start
begins_behind : (from to : ℕ) (x : Piece) → (nat_lt x.position to && nat_lt from (piece_end x)) ≡ false
    → from < piece_end x → to ≤ x.position
begins_behind from to x apart past = elim (and_cases (nat_lt x.position to) (nat_lt from (piece_end x)) apart) [
  | inl behind ↦ ltb-false x.position to behind
  | inr in_front ↦ absurd (true≢false (sym (lt-ltb from (piece_end x) past) ∙ in_front))
]

pub put_hole : (piece : Piece) (xs : List Piece) (i : ℕ) → AreApart xs → IsWithinSizes piece
    → pieces_meeting piece.position (piece_end piece) xs ≡ 0 → IsFirstPast piece.position xs i
    → with_range piece.position (piece_end piece) (piece ∷ []) xs ≡ take i xs ++ piece ∷ [] ++ drop i xs
put_hole piece xs i apart size none begin =
    put_between piece.position (piece_end piece) (piece ∷ []) xs i apart (omega arith) begin.front
    (λ k d short. begins_behind piece.position (piece_end piece) (get_or (drop i xs) k d)
    (All-drop (λ x. meets x ≡ false) i xs all k d short) (begin.back k d short))
  where
    meets : Piece → Bool
    meets x = nat_lt x.position (piece_end piece) && nat_lt piece.position (piece_end x)

    all : All (λ x. meets x ≡ false) xs
    all = All-from_recursion (λ x. meets x ≡ false) xs (none_pass meets xs none)
