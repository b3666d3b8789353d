-- The value at each number of a table once one is put in, or taken out.
use Rattle.std.proofs.Common.{◌≡◌, ℕ, true, false, List, [], ◌∷◌, Some, None, refl, sym, ap, ◌∙◌, arith, inl, inr}
use Rattle.std.specs.Prelude.{◌==◌, nat_lt, if◌then◌else◌}
use Rattle.std.specs.List.Sorted.{IsStrictlyIncreasing}
use Rattle.std.proofs.lemmas.Bool.{cases_Bool, eqb-false, eqb-true, ne_eqb}
use Rattle.std.proofs.lemmas.List.Elements.{All-filter, All-from_recursion, recursion_from_All}
use Rattle.qg_image.specs.declared.file.File.{File}
use Rattle.qg_image.specs.Table.{keys_of, value_at, with_value, without_key}
use Rattle.qg_tree_items.specs.Writable.{AreWritableFiles, IsWritableFile}
use Rattle.qg_files.proofs.Ascending.{Ascends-increasing, all-with_value, ascends-filter, ascends-with_value}
use Rattle.qg_files.proofs.Ascending.{increasing-Ascends}

module _ {A : Type 0} (n ino : ℕ) where
  -- where two numbers are the same, both or neither is this one
  alike : (entry : ℕ × A) → (entry.0 == ino) ≡ true → (entry.0 == n) ≡ (ino == n)
  alike entry same = ap (λ (k : ℕ). k == n) (eqb-true entry.0 ino same)

  -- and where they differ, not both are
  not_both : (entry : ℕ × A) → (entry.0 == ino) ≡ false → (entry.0 == n) ≡ true → (ino == n) ≡ false
  not_both entry differ here =
      let number = eqb-true entry.0 n here in
      let apart = eqb-false entry.0 ino differ in
      ne_eqb ino n (λ is. apart (number ∙ sym is))

  pub value-with : (value : A) (table : List (ℕ × A))
      → value_at n (with_value ino value table) ≡ (if ino == n then Some value else value_at n table)
  value-with value [] = refl
  value-with value (entry ∷ table) = elim (cases_Bool (nat_lt ino entry.0)) [
    | inl front ↦ rw front refl
    | inr behind ↦ elim (cases_Bool (entry.0 == ino)) [
      | inl same ↦ elim (cases_Bool (ino == n)) [
        | inl here ↦ rw (behind, same, here) refl
        | inr other ↦ rw (behind, same, other, alike entry same, other) refl
      ]
      | inr differ ↦ elim (cases_Bool (entry.0 == n)) [
        | inl here ↦ rw (behind, differ, here, not_both entry differ here) refl
        | inr other ↦ rw (behind, differ, other) (value-with value table)
      ]
    ]
  ]

  pub value-without : (table : List (ℕ × A))
      → value_at n (without_key ino table) ≡ (if ino == n then None else value_at n table)
  value-without [] = elim (cases_Bool (ino == n)) [ inl here ↦ rw here refl | inr other ↦ rw other refl ]
  value-without (entry ∷ table) = elim (cases_Bool (entry.0 == ino)) [
    | inl same ↦ elim (cases_Bool (ino == n)) [
      | inl here ↦ rw (same, here) (value-without table ∙ rw here refl)
      | inr other ↦ rw (same, other, alike entry same, other) (value-without table ∙ rw other refl)
    ]
    | inr differ ↦ elim (cases_Bool (entry.0 == n)) [
      | inl here ↦ rw (differ, here, not_both entry differ here) refl
      | inr other ↦ rw (differ, other) (value-without table)
    ]
  ]

-- ---- kept

module _ {A : Type 0} (ino : ℕ) (table : List (ℕ × A)) (up : IsStrictlyIncreasing (keys_of table)) where
  pub increasing-with : (value : A) → IsStrictlyIncreasing (keys_of (with_value ino value table))
  increasing-with value =
      increasing-Ascends 0 (with_value ino value table)
      (ascends-with_value 0 ino value table (omega arith) (Ascends-increasing table up))

  pub increasing-without : IsStrictlyIncreasing (keys_of (without_key ino table))
  increasing-without =
      increasing-Ascends 0 (without_key ino table) (ascends-filter 0 _ table (Ascends-increasing table up))

pub writable-with : (ino : ℕ) (file : File) (files : List (ℕ × File)) → AreWritableFiles files
    → IsWritableFile (ino, file)
    → AreWritableFiles (with_value ino file files)
writable-with ino file files are new =
    let each = all-with_value IsWritableFile ino file files new (recursion_from_All IsWritableFile files are.each) in
    record {
      ascending = increasing-with ino files are.ascending file;
      each = All-from_recursion IsWritableFile (with_value ino file files) each;
    }

pub writable-without : (ino : ℕ) (files : List (ℕ × File)) → AreWritableFiles files
    → AreWritableFiles (without_key ino files)
writable-without ino files are = record {
  ascending = increasing-without ino files are.ascending;
  each = All-filter _ IsWritableFile files are.each;
}
