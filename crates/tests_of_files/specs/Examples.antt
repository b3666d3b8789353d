-- What the tests lay out (this project's own).
use Rattle.std.specs.Prelude.{ℕ, List, [], ◌∷◌}
use Rattle.qg_items.specs.declared.root.RootItem.{RootItem}
use Rattle.qg_items.specs.declared.tree.TheConstants.{TOP_LEVEL}
use Rattle.qg_image.specs.declared.quota.Quota.{Quota}
use Rattle.qg_other_trees.specs.Telling.{one_group}

-- quota of a fresh image: the top-level subvolume's group counts one node
abbrev pub fresh_quota : Quota
fresh_quota = one_group (record { rfer = 4096; excl = 4096 }) 1

-- the only subvolume, whose root is a leaf of generation 1 in the third slot
abbrev pub seventh_roots : List (ℕ × RootItem)
seventh_roots = (TOP_LEVEL, record { generation = 1; bytenr = 1056768; last_snapshot = 0; refs = 1; level = 0 }) ∷ []
