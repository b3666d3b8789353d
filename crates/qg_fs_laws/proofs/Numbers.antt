-- Subvolumes by number, and one of them with other files and another root.
use Rattle.std.proofs.Common.{◌≡◌, ℕ, arith, Bool, true, false, List, [], ◌∷◌, map, refl, sym, ap, subst, ◌∙◌}
use Rattle.std.specs.Prelude.{◌==◌, nat_lt}
use Rattle.std.specs.List.{flat_map}
use Rattle.std.specs.List.Sorted.{IsStrictlyIncreasing}
use Rattle.std.proofs.lemmas.Bool.{eq-eqb, le-ltb}
use Rattle.qg_device.specs.History.{History}
use Rattle.qg_image.specs.declared.file.File.{File}
use Rattle.qg_image.specs.Table.{keys_of, with_value}
use Rattle.qg_image.specs.State.{State, Subvolume}
use Rattle.qg_root_items.specs.Written.{items_of_file}
use Rattle.qg_file_edits.specs.Types.{FsTree}
use Rattle.qg_file_edits.proofs.Roots.{roots-ascend}
use Rattle.qg_file_edits.proofs.Trees.{numbers-apart, roots-laid}
use Rattle.qg_file_edits.proofs.Snapshotted.{root_entry}
use Rattle.qg_file_edits.specs.Named.{named}
use Rattle.qg_fs_laws.specs.Keeping.{IsKept, KeepsState}

-- numbers with their roots have the numbers that they had
keys_same : (table : List (ℕ × Subvolume)) → keys_of (map root_entry table) ≡ keys_of table
keys_same [] = refl
keys_same (entry ∷ table) = ap (λ (ns : List ℕ). entry.0 ∷ ns) (keys_same table)

module _ (fs : FsTree) (history : History) (bytes : ℕ) (state : State) (mine : Subvolume)
    (files : List (ℕ × File)) (kept : IsKept fs history bytes) (keeps : KeepsState fs history state mine files) where
  pub numbers-ascend : IsStrictlyIncreasing (keys_of state.subvolumes)
  numbers-ascend = subst (λ (ns : List ℕ). IsStrictlyIncreasing ns)
      (ap (λ (table : List (ℕ × ℕ)). keys_of table)
      (sym (roots-laid fs history bytes (flat_map items_of_file files) (named files) kept.subvolume
      keeps.holds.stands state keeps.laid))
      ∙ keys_same state.subvolumes)
      (roots-ascend fs keeps.holds.stands.ascending
      (numbers-apart fs history bytes (flat_map items_of_file files) (named files) kept.subvolume
      keeps.holds.stands))

-- ---- one more value at a number

less_self : (n : ℕ) → nat_lt n n ≡ false
less_self n = le-ltb n n (omega arith)

-- the value that was put last is there
pub with-twice : {A : Type 0} (n : ℕ) (first last : A) (table : List (ℕ × A))
    → with_value n last (with_value n first table) ≡ with_value n last table
with-twice n first last [] = rw (less_self n, eq-eqb n n refl) refl
with-twice {A} n first last (entry ∷ table) =
    from (nat_lt n entry.0) refl (entry.0 == n) refl (with-twice n first last table) where
      from : (b : Bool) → nat_lt n entry.0 ≡ b → (c : Bool) → (entry.0 == n) ≡ c
          → with_value n last (with_value n first table) ≡ with_value n last table
          → with_value n last (with_value n first (entry ∷ table)) ≡ with_value n last (entry ∷ table)
      from true before c is rest = rw (before, less_self n, eq-eqb n n refl) refl
      from false after true is rest = rw (after, is, less_self n, eq-eqb n n refl) refl
      from false after false is rest =
          rw (after, is) (rw (after, is) (ap (λ (later : List (ℕ × A)). entry ∷ later) rest))

-- roots of subvolumes, where one is put
pub roots-with : (n : ℕ) (value : Subvolume) (table : List (ℕ × Subvolume))
    → map root_entry (with_value n value table) ≡ with_value n value.root (map root_entry table)
roots-with n value [] = refl
roots-with n value (entry ∷ table) =
    from (nat_lt n entry.0) refl (entry.0 == n) refl (roots-with n value table) where
      from : (b : Bool) → nat_lt n entry.0 ≡ b → (c : Bool) → (entry.0 == n) ≡ c
          → map root_entry (with_value n value table) ≡ with_value n value.root (map root_entry table)
          → map root_entry (with_value n value (entry ∷ table))
          ≡ with_value n value.root (map root_entry (entry ∷ table))
      from true before c is rest = rw before refl
      from false after true is rest = rw (after, is) refl
      from false after false is rest =
          rw (after, is) (ap (λ (later : List (ℕ × ℕ)). root_entry entry ∷ later) rest)
