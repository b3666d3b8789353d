-- A map from numbers, and the list of its entries by number.
use Rattle.std.proofs.Common.{◌≡◌, ℕ, Bool, true, false, List, [], ◌∷◌, Option, Some, refl, sym, ap, ◌∙◌, arith, inl}
use Rattle.std.proofs.Common.{inr, unwrap_or}
use Rattle.std.specs.Prelude.{if◌then◌else◌, ◌==◌, is_some}
use Rattle.std.specs.BTreeMap.{BTreeMap, Updates, get, is_at}
use Rattle.std.specs.Map.{lookup}
use Rattle.std.specs.Ordering.{is_eq, nat_cmp}
use Rattle.std.proofs.lemmas.Bool.{cases_Bool, cond-true, cond-false}
use Rattle.std.proofs.lemmas.Bool.Decides.{nat_tests}
use Rattle.qg_image.specs.Table.{has_key, value_at}

equal_numbers : (a b : ℕ) → is_eq (nat_cmp a b) ≡ (b == a)
equal_numbers a b = grind (arith, nat_tests)

same_number : (n : ℕ) → (n == n) ≡ true
same_number n = grind (arith, nat_tests)

found_at : {X : Type 0} (k : ℕ) (entries : List (ℕ × X)) → value_at k entries ≡ lookup (is_at (nat_cmp k)) entries
found_at k [] = refl
found_at {X} k (e ∷ entries) =
    ap (λ (rest : Option X). if e.0 == k then Some e.1 else rest) (found_at k entries)
    ∙ ap (λ (here : Bool). if here then Some e.1 else lookup (is_at (nat_cmp k)) entries) (sym (equal_numbers k e.0))

-- what a search finds in the map is the value at the number
pub got_at : {X : Type 0} (m : BTreeMap ℕ X) (k : ℕ) → value_at k m.entries ≡ get nat_cmp m k
got_at m k = found_at k m.entries

-- what is put at a number, or taken away there, is the value at that number alone
pub value_after : {X : Type 0} (old new : BTreeMap ℕ X) (k : ℕ) (w : Option X) → Updates nat_cmp old new k w
    → (other : ℕ) → value_at other new.entries ≡ (if other == k then w else value_at other old.entries)
value_after {X} old new k w sets other =
    got_at new other ∙ sets.0 other
    ∙ ap (λ (rest : Option X). if is_eq (nat_cmp k other) then w else rest) (sym (got_at old other))
    ∙ ap (λ (here : Bool). if here then w else value_at other old.entries) (equal_numbers k other)

chosen : {X : Type 0} (here : Bool) (w o : Option X) (d : X)
    → unwrap_or (if here then w else o) d ≡ (if here then unwrap_or w d else unwrap_or o d)
chosen true w o d = refl
chosen false w o d = refl

-- the same of what stands where nothing is listed
pub set_at : {X : Type 0} (old new : BTreeMap ℕ X) (k : ℕ) (w : Option X) (d x : X) → Updates nat_cmp old new k w
    → unwrap_or w d ≡ x
    → (other : ℕ)
    → unwrap_or (value_at other new.entries) d ≡ (if other == k then x else unwrap_or (value_at other old.entries) d)
set_at {X} old new k w d x sets is other =
    ap (λ (o : Option X). unwrap_or o d) (value_after old new k w sets other)
    ∙ chosen (other == k) w (value_at other old.entries) d
    ∙ ap (λ (y : X). if other == k then y else unwrap_or (value_at other old.entries) d) is

-- what is listed stays so, and so is what was put
pub listed_still : {X : Type 0} (old new : BTreeMap ℕ X) (k : ℕ) (v : X) → Updates nat_cmp old new k (Some v)
    → (other : ℕ) → has_key other old.entries ≡ true → has_key other new.entries ≡ true
listed_still {X} old new k v sets other had = elim (cases_Bool (other == k)) [
  | inl here ↦ ap (λ (o : Option X). is_some o) (value_after old new k (Some v) sets other ∙ cond-true _ _ _ here)
  | inr apart ↦ ap (λ (o : Option X). is_some o) (value_after old new k (Some v) sets other ∙ cond-false _ _ _ apart)
      ∙ had
]

pub listed_now : {X : Type 0} (old new : BTreeMap ℕ X) (k : ℕ) (v : X) → Updates nat_cmp old new k (Some v)
    → has_key k new.entries ≡ true
listed_now {X} old new k v sets = ap (λ (o : Option X). is_some o) (value_after old new k (Some v) sets k
    ∙ cond-true _ _ _ (same_number k))
