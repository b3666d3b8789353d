-- Roots that can be written as items, so that they are read again (this project's own).
use Rattle.std.specs.Prelude.{◌≡◌, ℕ, ◌≤◌, List, All, IsTrue}
use Rattle.std.specs.List.Sorted.{IsStrictlyIncreasing}
use Rattle.qg_items.specs.declared.root.RootItem.{RootItem}
use Rattle.qg_items.specs.Laws.{RootFits}
use Rattle.qg_image.specs.ItemMeaning.{is_subvolume_number}
use Rattle.qg_image.specs.Table.{keys_of}

-- a tree has one reference, and its numbers fit their fields
pub record IsWritableRoot (root : RootItem) : Type 0 where
  pub counted : root.refs ≡ 1
  pub fits : RootFits root

-- it tells no generation past this one
pub record IsRootBy (generation : ℕ) (root : RootItem) : Type 0 where
  pub made : root.generation ≤ generation
  pub copied : root.last_snapshot ≤ generation

-- subvolumes ascend by number, each has a number that a subvolume may have, and its tree has one reference
pub record AreWritableRoots (subvolumes : List (ℕ × RootItem)) : Type 0 where
  pub ascending : IsStrictlyIncreasing (keys_of subvolumes)
  pub numbers : All (λ entry. IsTrue (is_subvolume_number entry.0)) subvolumes
  pub counted : All (λ entry. entry.1.refs ≡ 1) subvolumes
