-- The next number is greater than those that there are.
use Rattle.std.proofs.Common.{◌≡◌, ◌≢◌, ℕ, zero, suc, ◌+◌, ◌^◌, ◌<◌, ◌≤◌, true, false, List, [], ◌∷◌, ◌++◌, arith}
use Rattle.std.proofs.Common.{get_or, length, take, Option, Some, None, refl, sym, ap, ◌∙◌, inl, inr}
use Rattle.std.specs.Prelude.{◌==◌, ◌&&◌, max, nat_le, nat_lt}
use Rattle.std.specs.List.{Contains, filter, fold}
use Rattle.std.proofs.Math.Nat.{le-max_left, le-max_right}
use Rattle.std.proofs.Math.Seq.{take-suc}
use Rattle.std.proofs.lemmas.Bool.{and_parts, cond-false, cond-true, eq-eqb, eqb-true, ltb-true, or_cases, true≢false}
use Rattle.std.proofs.lemmas.Bool.Decides.{eqb_tells}
use Rattle.std.proofs.lemmas.List.{map-append}
use Rattle.std.proofs.lemmas.List.Elements.{filter-append}
use Rattle.std.proofs.lemmas.List.Sums.{fold-append}
use Rattle.qg_items.specs.declared.tree.TheConstants.{FIRST_FREE, TOP_LEVEL}
use Rattle.qg_image.specs.ItemMeaning.{is_subvolume_number}
use Rattle.qg_image.specs.Table.{keys_of}
use Rattle.qg_image.specs.declared.quota.Quota.{Quota}
use Rattle.qg_image.specs.Members.{level_of_group, next_subvolume}
use Rattle.qg_image.proofs.Contained.{contains_cases, none_contained}
use Rattle.qg_image.specs.Verdict.{most_relations}
use Rattle.qg_space.proofs.Members.{contains_filter}
use Rattle.qg_qgroups.specs.Changing.{pairs_in}
use Rattle.qg_open_image.specs.Editable.{AreGroupsOf}

-- ---- numbers of subvolumes

-- a number that a subvolume may have is below 2^48
pub number-below : (n : ℕ) → is_subvolume_number n ≡ true → n < 2 ^ 48
unfolding is_subvolume_number
number-below n is = elim (or_cases (n == TOP_LEVEL) (nat_le FIRST_FREE n && nat_lt n (2 ^ 48)) is) [
  | inl top ↦ let same = eqb-true n TOP_LEVEL top in omega (arith, same)
  | inr free ↦ ltb-true n (2 ^ 48) (and_parts (nat_le FIRST_FREE n) (nat_lt n (2 ^ 48)) free).1
]

-- ---- the greatest

-- a greatest is no less than what it began with
pub max-least : (from : ℕ) (numbers : List ℕ) → from ≤ fold max from numbers
max-least from [] = omega arith
max-least from (number ∷ numbers) =
    let rest = max-least (max from number) numbers in
    let first = le-max_left from number in
    omega (arith, rest, first)

-- nor than any of the numbers
pub max-all : (from : ℕ) (numbers : List ℕ) (number : ℕ) → Contains numbers number → number ≤ fold max from numbers
max-all from [] number has = absurd (none_contained number has)
max-all from (first ∷ numbers) number has = elim (contains_cases first numbers number has) [
  | inl same ↦
      let rest = max-least (max from first) numbers in
      let front = le-max_right from first in
      omega (arith, rest, front, same)
  | inr later ↦ max-all (max from first) numbers number later
]

-- the next number is greater than each subvolume's
pub next-greater : (subvolumes groups : List ℕ) (number : ℕ) → Contains subvolumes number
    → number < next_subvolume subvolumes groups
unfolding next_subvolume
next-greater subvolumes groups number has =
    let one = max-all 255 subvolumes number has in
    let more = max-least (fold max 255 subvolumes) (filter (λ (group : ℕ). level_of_group group == 0) groups) in
    omega (arith, one, more)

-- and than 255
pub next-some : (subvolumes groups : List ℕ) → 255 < next_subvolume subvolumes groups
unfolding next_subvolume
next-some subvolumes groups =
    let one = max-least 255 subvolumes in
    let more = max-least (fold max 255 subvolumes) (filter (λ (group : ℕ). level_of_group group == 0) groups) in
    omega (arith, one, more)

-- and than each group's of level 0
pub next-above : (subvolumes groups : List ℕ) (number : ℕ) → Contains groups number
    → (level_of_group number == 0) ≡ true → number < next_subvolume subvolumes groups
unfolding next_subvolume
next-above subvolumes groups number has level =
    let one = max-all (fold max 255 subvolumes) (filter (λ (group : ℕ). level_of_group group == 0) groups) number
    (contains_filter (λ (group : ℕ). level_of_group group == 0) groups number has level) in
    omega (arith, one)

-- ---- one number more

suc_is : (k : ℕ) → suc k ≡ k + 1
suc_is k = omega arith

-- the front with one more
pub front-more : {A : Type 0} (xs : List A) (k : ℕ) (one : A) → k < length xs → one ≡ get_or xs k one
    → take (k + 1) xs ≡ take k xs ++ one ∷ []
front-more {A} xs k one inside is =
    ap (λ (n : ℕ). take n xs) (sym (suc_is k)) ∙ take-suc xs k one inside
    ∙ ap (λ (x : A). take k xs ++ x ∷ []) (sym is)

pub greatest-more : {A : Type 0} (from last k : ℕ) (table : List (ℕ × A)) (one : ℕ × A) → k < length table
    → one ≡ get_or table k one → last ≡ fold max from (keys_of (take k table))
    → max last one.0 ≡ fold max from (keys_of (take (k + 1) table))
greatest-more {A} from last k table one inside is before =
    ap (λ (n : ℕ). max n one.0) before
    ∙ sym (ap (λ (front : List (ℕ × A)). fold max from (keys_of front)) (front-more table k one inside is)
    ∙ ap (λ (numbers : List ℕ). fold max from numbers) (map-append (λ (e : ℕ × A). e.0) (take k table) (one ∷ []))
    ∙ fold-append max from (keys_of (take k table)) (one.0 ∷ []))

numbers_more : {A : Type 0} (from : ℕ) (table : List (ℕ × A)) (k : ℕ) (one : ℕ × A) → k < length table
    → one ≡ get_or table k one
    → fold max from (filter (λ group. level_of_group group == 0) (keys_of (take (k + 1) table)))
    ≡ fold max (fold max from (filter (λ group. level_of_group group == 0) (keys_of (take k table))))
    (filter (λ group. level_of_group group == 0) (one.0 ∷ []))
numbers_more {A} from table k one inside is =
    ap (λ (front : List (ℕ × A)). fold max from (filter (λ (g : ℕ). level_of_group g == 0) (keys_of front)))
    (front-more table k one inside is)
    ∙ ap (λ (numbers : List ℕ). fold max from (filter (λ (g : ℕ). level_of_group g == 0) numbers))
    (map-append (λ (e : ℕ × A). e.0) (take k table) (one ∷ []))
    ∙ ap (λ (numbers : List ℕ). fold max from numbers)
    (filter-append (λ (g : ℕ). level_of_group g == 0) (keys_of (take k table)) (one.0 ∷ []))
    ∙ fold-append max from (filter (λ (g : ℕ). level_of_group g == 0) (keys_of (take k table)))
    (filter (λ (g : ℕ). level_of_group g == 0) (one.0 ∷ []))

pub greatest-level : {A : Type 0} (from last k : ℕ) (table : List (ℕ × A)) (one : ℕ × A) → k < length table
    → one ≡ get_or table k one
    → last ≡ fold max from (filter (λ group. level_of_group group == 0) (keys_of (take k table)))
    → (level_of_group one.0 == 0) ≡ true
    → max last one.0 ≡ fold max from (filter (λ group. level_of_group group == 0) (keys_of (take (k + 1) table)))
greatest-level {A} from last k table one inside is before level =
    ap (λ (n : ℕ). max n one.0) before
    ∙ sym (numbers_more from table k one inside is
    ∙ ap (λ (numbers : List ℕ). fold max (fold max from (filter (λ (g : ℕ). level_of_group g == 0)
    (keys_of (take k table)))) numbers) (cond-true (level_of_group one.0 == 0) (one.0 ∷ []) [] level))

pub greatest-other : {A : Type 0} (from last k : ℕ) (table : List (ℕ × A)) (one : ℕ × A) → k < length table
    → one ≡ get_or table k one
    → last ≡ fold max from (filter (λ group. level_of_group group == 0) (keys_of (take k table)))
    → (level_of_group one.0 == 0) ≡ false
    → last ≡ fold max from (filter (λ group. level_of_group group == 0) (keys_of (take (k + 1) table)))
greatest-other {A} from last k table one inside is before level =
    before
    ∙ sym (numbers_more from table k one inside is
    ∙ ap (λ (numbers : List ℕ). fold max (fold max from (filter (λ (g : ℕ). level_of_group g == 0)
    (keys_of (take k table)))) numbers) (cond-false (level_of_group one.0 == 0) (one.0 ∷ []) [] level))

-- what comes next, by the two greatest
pub next-is : (subvolumes groups : List ℕ) (from last : ℕ) → from ≡ fold max 255 subvolumes
    → last ≡ fold max from (filter (λ group. level_of_group group == 0) groups)
    → last + 1 ≡ next_subvolume subvolumes groups
unfolding next_subvolume
next-is subvolumes groups from last first second =
    ap (λ (n : ℕ). n + 1)
    (second ∙ ap (λ (n : ℕ). fold max n (filter (λ (group : ℕ). level_of_group group == 0) groups)) first)

-- ---- the place of a number

index_same : {A : Type 0} (table : List A) (i : ℕ) (d e : A) → i < length table → get_or table i d ≡ get_or table i e
index_same [] i d e inside = absurd (omega (arith, inside))
index_same (first ∷ table) zero d e inside = refl
index_same (first ∷ table) (suc i) d e inside = index_same table i d e (omega (arith, inside))

-- one more that is not of the number
pub none-there : {A : Type 0} (table : List (ℕ × A)) (number i : ℕ) (found : ℕ × A) → i < length table
    → found ≡ get_or table i found → (found.0 == number) ≡ false
    → ((k : ℕ) (d : ℕ × A) → k < i → (get_or table k d).0 ≢ number)
    → (k : ℕ) (d : ℕ × A) → k < i + 1 → (get_or table k d).0 ≢ number
none-there {A} table number i found inside is differs before k d less same = elim (eqb_tells k i) [
  | inl (equal, here) ↦
      let own : (get_or table i d).0 ≡ number = ap (λ (j : ℕ). (get_or table j d).0) (sym here) ∙ same in
      let there = ap (λ (e : ℕ × A). e.0) (is ∙ index_same table i found d inside) in
      absurd (true≢false (sym (eq-eqb found.0 number (there ∙ own)) ∙ differs))
  | inr (unequal, differ) ↦ before k d (omega (arith, less, differ)) same
]

-- ---- relations

-- there are no more than an image can have
pub pairs-few : (generation : ℕ) (subvolumes : List ℕ) (quota : Option Quota) → AreGroupsOf generation subvolumes quota
    → length (pairs_in quota) ≤ most_relations
pairs-few generation subvolumes None groups = omega arith
pairs-few generation subvolumes (Some quota) groups = groups.few_pairs
