-- What is known of no later generation, groups that can be told in a later one, and lists by elements and keys.
use Rattle.std.proofs.Common.{◌≡◌, ℕ, ◌≤◌, Bool, true, false, List, [], ◌∷◌, Option, Some, None, inl, inr, refl, sym}
use Rattle.std.proofs.Common.{ap, subst, ◌∙◌, arith}
use Rattle.std.specs.Prelude.{◌==◌, All}
use Rattle.std.specs.List.{AllByRecursion, Contains, list_any}
use Rattle.std.specs.Map.{lookup}
use Rattle.std.proofs.lemmas.Bool.{cases_Bool, cond-false, cond-true}
use Rattle.std.proofs.lemmas.List.Elements.{All-cons, All-nil}
use Rattle.qg_image.specs.Table.{has_key, keys_of}
use Rattle.qg_image.specs.declared.quota.Quota.{Quota}
use Rattle.qg_image.proofs.Contained.{contains_here, contains_later}
use Rattle.qg_refs.specs.declared.kept.What.{What}
use Rattle.qg_refs.specs.declared.kept.Kept.{Kept as Reference}
use Rattle.qg_refs.specs.Book.{what_in}
use Rattle.qg_fs_laws.specs.Editable.{AreGroups, AreGroupsOf}

-- what is known somewhere is of no later generation than all that is known
abbrev pub IsEarly : ℕ → ℕ × Reference → Type 0
IsEarly next entry = entry.1.what.generation ≤ next

pub early-known : (next : ℕ) (what : What) (test : ℕ → Bool) (table : List (ℕ × Reference))
    → AllByRecursion (IsEarly next) table → what_in (lookup test table) ≡ Some what → what.generation ≤ next
early-known next what test [] all is = absurd cc
early-known next what test (entry ∷ table) all is = elim (cases_Bool (test entry.0)) [
  | inl passes ↦
      let found : lookup test (entry ∷ table) ≡ Some entry.1 =
      cond-true (test entry.0) (Some entry.1) (lookup test table) passes in
      let same : entry.1.what ≡ what = let told = ap what_in (sym found) ∙ is in cc in
      subst (λ (w : What). w.generation ≤ next) same all.0
  | inr fails ↦
      let later : lookup test (entry ∷ table) ≡ lookup test table =
      cond-false (test entry.0) (Some entry.1) (lookup test table) fails in
      early-known next what test table all.1 (ap what_in (sym later) ∙ is)
]

-- ---- groups

-- what the quota tree can tell in a generation it can in a later one
pub groups-later : (generation next : ℕ) (subvolumes : List ℕ) (quota : Quota) → generation ≤ next
    → AreGroups generation subvolumes quota → AreGroups next subvolumes quota
groups-later generation next subvolumes quota later groups = record {
  few = groups.few;
  ascending = groups.ascending;
  numbers = groups.numbers;
  own = groups.own;
  stamped = λ k d below. let old = groups.stamped k d below in omega (arith, old, later);
  few_pairs = groups.few_pairs;
  sound = groups.sound;
}

-- so it is of quota that may be off
pub later-of : (generation next : ℕ) (subvolumes : List ℕ) (quota : Option Quota) → generation ≤ next
    → AreGroupsOf generation subvolumes quota → AreGroupsOf next subvolumes quota
later-of generation next subvolumes None later groups = tt
later-of generation next subvolumes (Some quota) later groups =
    groups-later generation next subvolumes quota later groups

-- ---- lists

pub All-from-contains : {A : Type 0} (P : A → Type 0) (xs : List A) → ((x : A) → Contains xs x → P x) → All P xs
All-from-contains P [] each = All-nil P
All-from-contains P (x ∷ xs) each =
    All-cons P x xs (each x (contains_here x xs))
    (All-from-contains P xs (λ y has. each y (contains_later x xs y has)))

-- whether there is a number is told by the numbers
pub key_by : {A : Type 0} (n : ℕ) (table : List (ℕ × A)) → has_key n table ≡ list_any (λ m. m == n) (keys_of table)
key_by n [] = refl
key_by {A} n (entry ∷ table) = from (key_by n table) (entry.0 == n) refl where
  from : has_key n table ≡ list_any (λ m. m == n) (keys_of table) → (b : Bool) → (entry.0 == n) ≡ b
      → has_key n (entry ∷ table) ≡ list_any (λ m. m == n) (keys_of (entry ∷ table))
  from rest true is = rw is refl
  from rest false is = rw is rest
