-- The references of an image that is just made (this project's own). Addresses and lengths are in bytes.
use Rattle.std.specs.Prelude.{ℕ, false, List, [], ◌∷◌, Some}
use Rattle.qg_items.specs.declared.tree.TheConstants.{TOP_LEVEL}
use Rattle.qg_items.specs.declared.extent.Reference.TheVariants.{KeyedBlock}
use Rattle.qg_refs.specs.declared.kept.Kept.{Kept}

-- what is kept of a leaf of generation 1 and so many bytes that the top-level subvolume has as its root: one keyed
-- reference of that subvolume
abbrev pub fresh_root : ℕ → Kept
fresh_root nodesize = record {
  what = record { bytes = nodesize; level = Some 0; generation = 1 };
  full = false;
  references = record { reference = KeyedBlock TOP_LEVEL; count = 1 } ∷ [];
}

-- the references of an image whose one subvolume has its root at an address: nothing else has one
abbrev pub fresh_table : ℕ → ℕ → List (ℕ × Kept)
fresh_table nodesize root = (root, fresh_root nodesize) ∷ []
