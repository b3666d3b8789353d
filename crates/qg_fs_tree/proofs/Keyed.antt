-- Keyed references of a tree, by a count of ways.
use Rattle.std.proofs.Common.{◌≡◌, ℕ, ◌+◌, ◌≤◌, Bool, true, false, [], ◌∷◌, arith, refl, sym, ap, ◌∙◌, inl, inr}
use Rattle.std.specs.Prelude.{◌==◌, if◌then◌else◌}
use Rattle.std.proofs.lemmas.Bool.{eq-eqb}
use Rattle.std.proofs.lemmas.Bool.Decides.{eqb_tells}
use Rattle.qg_items.specs.declared.extent.Reference.{Reference}
use Rattle.qg_items.specs.declared.extent.Reference.TheVariants.{KeyedBlock, SharedBlock, KeyedData, SharedData}
use Rattle.qg_image.specs.Record.{same_reference}
use Rattle.qg_cow_refs.specs.Children.{way_to}
use Rattle.qg_tree_edits.specs.Counting.{one}
use Rattle.qg_tree_edits.proofs.Ways.{one-here, one-other}
use Rattle.qg_tree_backrefs.specs.Exchange.{times}
use Rattle.qg_tree_backrefs.proofs.Times.{times_here, times_there}
use Rattle.qg_tree_backrefs.proofs.ReferenceTotals.{IsCounted, IsCounted-as, IsCounted-one}

-- the references of a tree to a node, by how many ways lead to it: a keyed one for each
abbrev pub keyed_ways : ℕ → (ℕ → ℕ) → ℕ → Reference → ℕ
keyed_ways owner count at (KeyedBlock tree) = if tree == owner then count at else 0
keyed_ways owner count at (SharedBlock parent) = 0
keyed_ways owner count at (KeyedData tree ino offset) = 0
keyed_ways owner count at (SharedData parent) = 0

either_moved : (b : Bool) (m n k l : ℕ) → m + n ≡ k + l
    → (if b then m else 0) + (if b then n else 0) ≡ (if b then k else 0) + (if b then l else 0)
either_moved true m n k l same = same
either_moved false m n k l same = refl

either_plus : (b : Bool) (m n : ℕ) → (if b then m + n else 0) ≡ (if b then m else 0) + (if b then n else 0)
either_plus true m n = refl
either_plus false m n = refl

either_less : (b : Bool) (m n : ℕ) → m ≤ n → (if b then m else 0) ≤ (if b then n else 0)
either_less true m n less = less
either_less false m n less = omega arith

either_most : (b : Bool) (m : ℕ) → (if b then m else 0) ≤ m
either_most true m = omega arith
either_most false m = omega arith

module _ (owner : ℕ) where
  pub keyed-moved : (v w l g : ℕ → ℕ) (at : ℕ) (reference : Reference) → v at + l at ≡ w at + g at
      → keyed_ways owner v at reference + keyed_ways owner l at reference
      ≡ keyed_ways owner w at reference + keyed_ways owner g at reference
  keyed-moved v w l g at (KeyedBlock tree) same = either_moved (tree == owner) (v at) (l at) (w at) (g at) same
  keyed-moved v w l g at (SharedBlock parent) same = refl
  keyed-moved v w l g at (KeyedData tree ino offset) same = refl
  keyed-moved v w l g at (SharedData parent) same = refl

  pub keyed-plus : (v w : ℕ → ℕ) (at : ℕ) (reference : Reference)
      → keyed_ways owner (λ q. v q + w q) at reference ≡ keyed_ways owner v at reference + keyed_ways owner w at
      reference
  keyed-plus v w at (KeyedBlock tree) = either_plus (tree == owner) (v at) (w at)
  keyed-plus v w at (SharedBlock parent) = refl
  keyed-plus v w at (KeyedData tree ino offset) = refl
  keyed-plus v w at (SharedData parent) = refl

  pub keyed-less : (v w : ℕ → ℕ) (at : ℕ) (reference : Reference) → v at ≤ w at
      → keyed_ways owner v at reference ≤ keyed_ways owner w at reference
  keyed-less v w at (KeyedBlock tree) less = either_less (tree == owner) (v at) (w at) less
  keyed-less v w at (SharedBlock parent) less = omega arith
  keyed-less v w at (KeyedData tree ino offset) less = omega arith
  keyed-less v w at (SharedData parent) less = omega arith

  pub keyed-same : (v w : ℕ → ℕ) (at : ℕ) (reference : Reference) → v at ≡ w at
      → keyed_ways owner v at reference ≡ keyed_ways owner w at reference
  keyed-same v w at (KeyedBlock tree) same = ap (λ (n : ℕ). if tree == owner then n else 0) same
  keyed-same v w at (SharedBlock parent) same = refl
  keyed-same v w at (KeyedData tree ino offset) same = refl
  keyed-same v w at (SharedData parent) same = refl

  -- no more than ways
  pub keyed-most : (w : ℕ → ℕ) (at : ℕ) (reference : Reference) → keyed_ways owner w at reference ≤ w at
  keyed-most w at (KeyedBlock tree) = either_most (tree == owner) (w at)
  keyed-most w at (SharedBlock parent) = omega arith
  keyed-most w at (KeyedData tree ino offset) = omega arith
  keyed-most w at (SharedData parent) = omega arith

  -- none where no way leads
  pub keyed-none : (w : ℕ → ℕ) (at : ℕ) (reference : Reference) → w at ≡ 0 → keyed_ways owner w at reference ≡ 0
  keyed-none w at reference none = let most = keyed-most w at reference in omega (arith, most, none)

  -- the tree's own
  pub keyed-own : (w : ℕ → ℕ) (at : ℕ) → keyed_ways owner w at (KeyedBlock owner) ≡ w at
  keyed-own w at = ap (λ (b : Bool). if b then w at else 0) (eq-eqb owner owner refl)

  -- those of one address
  keyed_is : (n at : ℕ) (w : ℕ → ℕ) (reference : Reference) → w at ≡ n
      → keyed_ways owner w at reference ≡ (if same_reference reference (KeyedBlock owner) then n else 0)
  keyed_is n at w (KeyedBlock tree) is = ap (λ (m : ℕ). if tree == owner then m else 0) is
  keyed_is n at w (SharedBlock parent) is = refl
  keyed_is n at w (KeyedData tree ino offset) is = refl
  keyed_is n at w (SharedData parent) is = refl

  pub IsCounted-keyed : (w : ℕ → ℕ) (at : ℕ) → IsCounted (λ reference. keyed_ways owner w at reference) (w at)
  IsCounted-keyed w at =
      IsCounted-as (λ (reference : Reference). if same_reference reference (KeyedBlock owner) then w at else 0)
      (λ (reference : Reference). keyed_ways owner w at reference) (w at) (w at)
      (λ reference. keyed_is (w at) at w reference refl) refl (IsCounted-one (w at) (KeyedBlock owner))

  pub times-way : (at q : ℕ) (reference : Reference)
      → times (way_to at owner ∷ []) q reference ≡ keyed_ways owner (one at) q reference
  times-way at q reference = elim (eqb_tells at q) [
    | inl (equal, same) ↦
        times_here (way_to at owner) q reference same ∙ sym (keyed_is 1 q (one at) reference (one-here at q (sym same)))
    | inr (unequal, differ) ↦
        let none = one-other at q (λ (same : q ≡ at). differ (sym same)) in
        times_there (way_to at owner) q reference differ ∙ sym (keyed-none (one at) q reference none)
  ]
