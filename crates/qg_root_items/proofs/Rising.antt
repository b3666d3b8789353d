-- Tables that ascend by number, from what stands before them.
use Rattle.std.proofs.Common.{◌≡◌, ℕ, suc, ◌+◌, ◌<◌, Bool, true, List, [], ◌∷◌, refl, sym, subst, arith}
use Rattle.std.specs.Prelude.{◌&&◌, slice_index}
use Rattle.std.specs.List.Sorted.{IsStrictlyIncreasing}
use Rattle.std.specs.Ordering.{is_lt, nat_cmp}
use Rattle.std.specs.Cmp.{nat_cmp_is}
use Rattle.std.specs.declared.cmp.Ordering.TheVariants.{Less}
use Rattle.qg_num.specs.Key.{key_cmp}
use Rattle.qg_image.specs.Table.{keys_of}
use Rattle.qg_tree_items.specs.Keys.{key_with}

-- entries ascend by number, and all are above one
abbrev pub Above : {A : Type 0} → ℕ → List (ℕ × A) → Type 0
Above n [] = Unit {0}
Above n (entry ∷ entries) = (n < entry.0) × Above entry.0 entries

-- entries ascend by number
abbrev pub Rises : {A : Type 0} → List (ℕ × A) → Type 0
Rises [] = Unit {0}
Rises (entry ∷ entries) = Above entry.0 entries

later_increasing : (x : ℕ) (xs : List ℕ) → IsStrictlyIncreasing (x ∷ xs) → IsStrictlyIncreasing xs
later_increasing x xs h k inside =
    let next : suc k + 1 ≡ suc (k + 1) = omega arith in
    subst (λ (n : ℕ). slice_index xs k < slice_index (x ∷ xs) n) next (h (suc k) (omega arith))

pub Above-increasing : {A : Type 0} (n : ℕ) (entries : List (ℕ × A)) → IsStrictlyIncreasing (n ∷ keys_of entries)
    → Above n entries
Above-increasing n [] h = tt
Above-increasing n (entry ∷ entries) h =
    (h 0 (omega arith), Above-increasing entry.0 entries (later_increasing n (keys_of (entry ∷ entries)) h))

pub Rises-increasing : {A : Type 0} (entries : List (ℕ × A)) → IsStrictlyIncreasing (keys_of entries) → Rises entries
Rises-increasing [] h = tt
Rises-increasing (entry ∷ entries) h = Above-increasing entry.0 entries h

-- ---- keys

is_less : (a b : ℕ) → a < b → nat_cmp a b ≡ Less
is_less a b h = sym (nat_cmp_is a b Less h)

-- a key of a lesser object is before
pub before_object : (kind a b : ℕ) → a < b → is_lt (key_cmp (key_with a kind 0) (key_with b kind 0)) ≡ true
before_object kind a b h = rw (is_less a b h) refl

pub both : (a b : Bool) → a ≡ true → b ≡ true → (a && b) ≡ true
both a b first second = rw (first, second) refl
