-- What is owed once a subvolume has a snapshot: the copy's way, and what the copy owes, besides what was owed before.
use Rattle.std.proofs.Common.{◌≡◌, ℕ, ◌+◌, List, [], ◌∷◌, map, Option, Some, None, arith, refl, sym, ap, ◌∙◌}
use Rattle.std.specs.Prelude.{false}
use Rattle.std.specs.List.{flat_map}
use Rattle.std.specs.List.Sorted.{IsStrictlyIncreasing}
use Rattle.qg_items.specs.declared.extent.Reference.{Reference}
use Rattle.qg_node.specs.declared.node.Node.{Node}
use Rattle.qg_node.specs.declared.node.Node.TheVariants.{Leaf, Inner}
use Rattle.qg_image.specs.Table.{keys_of, value_at, with_value}
use Rattle.qg_image.specs.State.{Placed, State, Subvolume, layout_of, next_generation}
use Rattle.qg_image.specs.Owed.{Owing, owed_by_node, owed_count}
use Rattle.qg_machine.specs.Step.{Snapshots}
use Rattle.qg_machine.specs.Step.{copy_of as machine_copy}
use Rattle.qg_cow_refs.specs.Children.{keyed_children, way_to}
use Rattle.qg_cow_refs.specs.Copying.{copy_of}
use Rattle.qg_cow_refs.proofs.CopyLaws.{owed-copy}
use Rattle.qg_files.proofs.Ascending.{Ascends-increasing}
use Rattle.qg_refs.specs.Book.{AgreesWithOwed, Book, count_at}
use Rattle.qg_reach.proofs.Layouts.{value_at-with_other}
use Rattle.qg_tree_backrefs.specs.Exchange.{times}
use Rattle.qg_shared_trees.proofs.Tables.{map-with, times-with}
use Rattle.qg_shared_trees.proofs.Owing.{node_owes, owed-parts, root_owes, times-mapped}

-- the machine's copy of a node is that of the cases of copies
same_copy : (generation sub address : ℕ) (node : Node) → machine_copy generation sub address node
    ≡ (copy_of (record { node = node; full = false }) address generation sub).node
same_copy generation sub address (Leaf header items) = refl
same_copy generation sub address (Inner header pointers) = refl

-- what a copy owes
pub copy-owes : (generation sub address : ℕ) (node : Node)
    → owed_by_node (record { node = machine_copy generation sub address node; full = false }) ≡ keyed_children node sub
copy-owes generation sub address node =
    ap (λ (copy : Node). owed_by_node (record { node = copy; full = false })) (same_copy generation sub address node)
    ∙ owed-copy (record { node = node; full = false }) address generation sub

-- a subvolume's root with its number
abbrev pub root_entry : ℕ × Subvolume → ℕ × ℕ
root_entry entry = (entry.0, entry.1.root)

module _ (before after : State) (sub copy : ℕ) (parents : List ℕ) (snap : Snapshots before sub parents copy after)
    (up : IsStrictlyIncreasing (keys_of before.subvolumes)) (other : value_at copy before.subvolumes ≡ None)
    (free : value_at snap.address before.layout ≡ None) (at : ℕ) (reference : Reference) where
  -- the source, and the copy
  marked : Subvolume
  marked = record snap.source { last_snapshot = next_generation before }

  made : Subvolume
  made = record {
    files = snap.source.files;
    root = snap.address;
    last_snapshot = next_generation before;
  }

  placed : Placed
  placed = record { node = machine_copy (next_generation before) copy snap.address snap.root; full = false }

  owes_root : ℕ × Subvolume → List Owing
  owes_root entry = root_owes (root_entry entry)

  by_roots : List (ℕ × Subvolume) → ℕ
  by_roots table = times (flat_map root_owes (map root_entry table)) at reference

  by_nodes : List (ℕ × Placed) → ℕ
  by_nodes table = times (flat_map node_owes table) at reference

  still_none : value_at copy (with_value sub marked before.subvolumes) ≡ None
  unfolding marked
  still_none =
      value_at-with_other sub copy (record snap.source { last_snapshot = next_generation before }) before.subvolumes
      apart ∙ other
    where
      apart : sub ≡ copy → ⊥
      apart same =
          let wrong : ◌≡◌ {A = Option Subvolume} None (Some snap.source) =
          sym other ∙ ap (λ (n : ℕ). value_at n before.subvolumes) (sym same) ∙ snap.there in absurd cc

  roots_marked : by_roots (with_value sub marked before.subvolumes) ≡ by_roots before.subvolumes
  unfolding marked by_roots
  roots_marked =
      ap (λ (roots : List (ℕ × ℕ)). times (flat_map root_owes roots) at reference)
      (map-with root_entry sub snap.source (record snap.source { last_snapshot = next_generation before }) refl 0
      before.subvolumes (Ascends-increasing before.subvolumes up) snap.there)

  roots_made : by_roots (with_value copy made (with_value sub marked before.subvolumes))
      ≡ times (way_to snap.address copy ∷ []) at reference + by_roots (with_value sub marked before.subvolumes)
  unfolding marked made by_roots
  roots_made =
      let table = with_value sub (record snap.source { last_snapshot = next_generation before }) before.subvolumes in
      let new : Subvolume = record {
        files = snap.source.files;
        root = snap.address;
        last_snapshot = next_generation before;
      } in
      let first = times-mapped root_entry root_owes (with_value copy new table) at reference in
      let more = times-with (λ (entry : ℕ × Subvolume). root_owes (root_entry entry)) copy new at reference table
      still_none in
      let last = times-mapped root_entry root_owes table at reference in
      omega (arith, first, more, last)

  nodes_made : by_nodes (with_value snap.address placed before.layout)
      ≡ times (keyed_children snap.root copy) at reference + by_nodes before.layout
  unfolding placed by_nodes
  nodes_made =
      let new : Placed = record {
        node = machine_copy (next_generation before) copy snap.address snap.root;
        full = false;
      } in
      let more = times-with node_owes snap.address new at reference before.layout free in
      let owes = ap (λ (owings : List Owing). times owings at reference)
      (copy-owes (next_generation before) copy snap.address snap.root) in
      omega (arith, more, owes)

  -- what is owed after, and before
  pub owed-snapshot : owed_count (layout_of after) at reference
      ≡ owed_count (layout_of before) at reference + times (way_to snap.address copy ∷ []) at reference
      + times (keyed_children snap.root copy) at reference
  unfolding marked made placed by_roots by_nodes
  owed-snapshot =
      let now = owed-parts (layout_of after) at reference in
      let was = owed-parts (layout_of before) at reference in
      let roots = ap (λ (state : State). times (flat_map root_owes (map root_entry state.subvolumes)) at reference)
      snap.copied in
      let nodes = ap (λ (state : State). times (flat_map node_owes state.layout) at reference) snap.copied in
      omega (arith, now, was, roots, nodes, roots_made, roots_marked, nodes_made)

-- a book that counts what was owed, and has these references besides, counts what is owed
pub agrees-snapshot : (before after : State) (sub copy : ℕ) (parents : List ℕ)
    (snap : Snapshots before sub parents copy after) → IsStrictlyIncreasing (keys_of before.subvolumes)
    → value_at copy before.subvolumes ≡ None → value_at snap.address before.layout ≡ None
    → (old new : Book) → AgreesWithOwed (layout_of before) old
    → ((at : ℕ) (reference : Reference) → count_at new at reference
    ≡ count_at old at reference + times (way_to snap.address copy ∷ []) at reference
    + times (keyed_children snap.root copy) at reference)
    → AgreesWithOwed (layout_of after) new
agrees-snapshot before after sub copy parents snap up other free old new agrees counts = λ at reference.
    let owed = owed-snapshot before after sub copy parents snap up other free at reference in
    let was = agrees at reference in
    let now = counts at reference in
    omega (arith, owed, was, now)
