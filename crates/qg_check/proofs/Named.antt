-- The trees that a root tree names.
use Rattle.std.proofs.Common.{◌≡◌, ℕ, Bool, true, false, cond, List, [], ◌∷◌, refl, sym, ap, ◌∙◌, subst}
use Rattle.std.specs.Prelude.{◌==◌, Option, Some, None, is_some}
use Rattle.std.proofs.lemmas.Bool.{and_parts, eqb-true}
use Rattle.qg_items.specs.declared.root.RootItem.{RootItem}
use Rattle.qg_image.specs.Table.{has_key, value_at}
use Rattle.qg_image.specs.ItemMeaning.{is_subvolume_number}
use Rattle.qg_image.specs.ImageState.{subvolume_roots}
use Rattle.qg_image.specs.Verdict.{are_roots}

-- what `root` asks of the roots
pub record AreAsked (roots : List (ℕ × RootItem)) : Type 0 where
  pub extents : is_some (value_at 2 roots) ≡ true
  pub files : is_some (value_at 5 roots) ≡ true

pub are_roots_asked : (roots : List (ℕ × RootItem)) → are_roots roots ≡ true → AreAsked roots
unfolding are_roots
are_roots_asked roots are =
    let both = and_parts (has_key 2 roots) (has_key 5 roots) are in
    record { extents = both.0; files = both.1 }

pub missing : {A : Type 0} (found : Option A) → found ≡ None → is_some found ≡ true → ⊥
missing found none some = absurd cc

-- ---- subvolumes

top_number : (n : ℕ) → n ≡ 5 → is_subvolume_number n ≡ true
unfolding is_subvolume_number
top_number n is = let P : ℕ → Type 0 = λ m. is_subvolume_number m ≡ true in subst P (sym is) refl

-- the top-level one is among them
pub top_there : (roots : List (ℕ × RootItem)) → has_key 5 roots ≡ true → has_key 5 (subvolume_roots roots) ≡ true
top_there [] there = absurd cc
top_there (entry ∷ roots) there = cases (entry.0 == 5) (is_subvolume_number entry.0) refl refl
    (top_there roots) there where
      cases : (top sub : Bool) → (entry.0 == 5) ≡ top → is_subvolume_number entry.0 ≡ sub
          → (has_key 5 roots ≡ true → has_key 5 (subvolume_roots roots) ≡ true)
          → is_some (cond top (Some entry.1) (value_at 5 roots)) ≡ true
          → has_key 5 (cond sub (entry ∷ subvolume_roots roots) (subvolume_roots roots)) ≡ true
      cases true true is kind behind found =
          ap (λ (b : Bool). is_some (cond b (Some entry.1) (value_at 5 (subvolume_roots roots)))) is
      cases true false is kind behind found =
          let same : true ≡ false = sym (top_number entry.0 (eqb-true entry.0 5 is)) ∙ kind in
          absurd cc
      cases false true is kind behind found =
          ap (λ (b : Bool). is_some (cond b (Some entry.1) (value_at 5 (subvolume_roots roots)))) is ∙ behind found
      cases false false is kind behind found = behind found
