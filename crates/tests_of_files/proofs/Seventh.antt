-- What is asked of the trees that the tests lay out.
use Rattle.std.proofs.Common.{◌≡◌, ℕ, ◌+◌, ◌*◌, ◌≤◌, List, [], ◌∷◌, refl, arith}
use Rattle.std.specs.Prelude.{None, Some}
use Rattle.std.specs.List.{All}
use Rattle.std.proofs.lemmas.Cmp.{nat_eq_equiv}
use Rattle.std.proofs.lemmas.List.Elements.{All-from_recursion}
use Rattle.std.proofs.lemmas.Map.Made.{IsDistinct-from_count}
use Rattle.qg_node.specs.Nodes.{items_bytes}
use Rattle.qg_items.specs.declared.root.RootItem.{RootItem}
use Rattle.qg_check.specs.Editable.{AreGroups, AreSubvolumes}
use Rattle.qg_refs.specs.declared.kept.Kept.{Kept}
use Rattle.qg_extents.specs.Fresh.{fresh_table}
use Rattle.qg_extents.specs.Written.{items_of_book}
use Rattle.tests_of_files.specs.Examples.{fresh_quota, seventh_roots}
use Rattle.qg_other_trees.specs.Trees.{AreEnough, nodes_of_trees}
use Rattle.qg_other_trees.proofs.One.{one_named, one_told}
use Rattle.qg_other_trees.proofs.Weight.{book_weighs}

-- the slots that are given
abbrev pub free : List ℕ
free =
    1052672 ∷ 1060864 ∷ 1048576 ∷ 1064960 ∷ 1069056 ∷ 1073152 ∷ 1077248 ∷ 1081344 ∷ 1085440 ∷ 1089536 ∷ 1093632
    ∷ 1097728
    ∷ 1101824 ∷ 1105920 ∷ 1110016 ∷ 1114112 ∷ 1118208 ∷ 1122304 ∷ []

-- a record and one reference
weighs : items_bytes (items_of_book (fresh_table 4096 1056768)) ≡ 74
weighs = book_weighs (fresh_table 4096 1056768)

-- what is known is of no later generation
pub known : All (λ (entry : ℕ × Kept). entry.1.what.generation ≤ 7) (fresh_table 4096 1056768)
known =
    All-from_recursion (λ (entry : ℕ × Kept). entry.1.what.generation ≤ 7) (fresh_table 4096 1056768) (omega arith, tt)

-- the only subvolume's ROOT_ITEM
abbrev root : RootItem
root = record { generation = 1; bytenr = 1056768; last_snapshot = 0; refs = 1; level = 0 }

pub named : AreSubvolumes 7 seventh_roots
named = one_named 7 root refl (record { made = omega arith; copied = omega arith })

pub told : AreGroups 7 (5 ∷ []) fresh_quota
told = one_told 7 (record { rfer = 4096; excl = 4096 }) 1 (omega arith)

-- they are enough for three trees, and for two
pub room : AreEnough (5 * nodes_of_trees 4096 (fresh_table 4096 1056768) seventh_roots (Some fresh_quota) + 3) free
room = record {
  apart = IsDistinct-from_count nat_eq_equiv free refl;
  few = omega arith;
  enough = rw weighs (omega arith);
}

pub room_for_two : AreEnough (5 * nodes_of_trees 4096 (fresh_table 4096 1056768) seventh_roots None + 3) free
room_for_two = record {
  apart = IsDistinct-from_count nat_eq_equiv free refl;
  few = omega arith;
  enough = rw weighs (omega arith);
}
