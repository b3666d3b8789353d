-- A state with one subvolume more, whose root is a new node: what its layout owes.
use Rattle.std.proofs.Common.{◌≡◌, ℕ, ◌+◌, false, List, [], ◌∷◌, map, Option, None, arith, sym, ap, ◌∙◌}
use Rattle.std.specs.List.{AllByRecursion, Contains, flat_map}
use Rattle.std.specs.List.Sorted.{IsStrictlyIncreasing}
use Rattle.std.specs.Option.{option_map}
use Rattle.qg_items.specs.declared.extent.Reference.{Reference}
use Rattle.qg_node.specs.Nodes.{header_of}
use Rattle.qg_super.specs.declared.superblock.Super.{Super}
use Rattle.qg_image.specs.declared.file.File.{File}
use Rattle.qg_image.specs.Table.{keys_of, value_at, with_value}
use Rattle.qg_image.specs.declared.element.Element.{Element}
use Rattle.qg_image.specs.Owed.{Owing, owed_by_node, owed_count}
use Rattle.qg_image.specs.Reach.{extent_of}
use Rattle.qg_image.specs.State.{Placed, State, Subvolume, layout_of, next_generation}
use Rattle.qg_machine.specs.Layout.{IsTreeOf, super_to_come}
use Rattle.qg_cow_refs.specs.Children.{way_to}
use Rattle.qg_refs.specs.Book.{AgreesWithOwed, Book, count_at}
use Rattle.qg_tree_backrefs.specs.Exchange.{times}
use Rattle.qg_shared_trees.proofs.Meeting.{root-valued}
use Rattle.qg_shared_trees.proofs.Owing.{node_owes, owed-parts, root_owes, times-mapped}
use Rattle.qg_shared_trees.proofs.Snapshotted.{root_entry}
use Rattle.qg_shared_trees.proofs.Tables.{times-with}

-- the extents that a subvolume's files name
abbrev pub named_by : Subvolume → List Element
named_by subvolume = flat_map (λ (file : ℕ × File). map extent_of file.1.pieces) subvolume.files

abbrev pub named_in : ℕ × Subvolume → List Element
named_in entry = named_by entry.1

-- A subvolume comes, whose root is a node where there was none. The others have the roots, the files and the trees that
-- they had, and all else but the groups is as it was. The files of the one that comes name what others name
pub record OneMore (before after : State) (sub : ℕ) : Type 0 where
  pub others : List (ℕ × Subvolume)
  pub made : Subvolume
  pub placed : Placed
  pub subvolumes : after.subvolumes ≡ with_value sub made others
  pub layout : after.layout ≡ with_value made.root placed before.layout
  pub sizes : after.sizes ≡ before.sizes
  pub held : after.held ≡ before.held
  pub to_come : super_to_come after ≡ super_to_come before
  pub numbers : IsStrictlyIncreasing (keys_of others)
  pub unused : value_at sub others ≡ None
  pub free : value_at made.root before.layout ≡ None
  pub roots : map root_entry others ≡ map root_entry before.subvolumes
  pub names : flat_map named_in others ≡ flat_map named_in before.subvolumes
  pub trees : AllByRecursion (λ entry. IsTreeOf before entry.1) others
  pub owner : (header_of placed.node).owner ≡ sub
  pub bare : placed.full ≡ false
  pub named : (run : Element) → Contains (named_by made) run → Contains (flat_map named_in before.subvolumes) run

module _ (before after : State) (sub : ℕ) (more : OneMore before after sub) where
  pub next-is : next_generation after ≡ next_generation before
  next-is = ap (λ (super : Super). super.generation) more.to_come

  -- no root has its number yet
  pub no-root : value_at sub (layout_of before).roots ≡ None
  no-root =
      ap (λ (roots : List (ℕ × ℕ)). value_at sub roots) (sym more.roots) ∙ root-valued sub more.others
      ∙ ap (λ (o : Option Subvolume). option_map (λ (subvolume : Subvolume). subvolume.root) o) more.unused

  module _ (at : ℕ) (reference : Reference) where
    roots_more : times (flat_map root_owes (map root_entry after.subvolumes)) at reference
        ≡ times (way_to more.made.root sub ∷ []) at reference
        + times (flat_map root_owes (map root_entry before.subvolumes)) at reference
    roots_more =
        let table = ap (λ (table : List (ℕ × Subvolume)). times (flat_map root_owes (map root_entry table)) at
        reference)
        more.subvolumes in
        let first = times-mapped root_entry root_owes (with_value sub more.made more.others) at reference in
        let comes = times-with (λ (entry : ℕ × Subvolume). root_owes (root_entry entry)) sub more.made at reference
        more.others more.unused in
        let last = times-mapped root_entry root_owes more.others at reference in
        let same = ap (λ (roots : List (ℕ × ℕ)). times (flat_map root_owes roots) at reference) more.roots in
        omega (arith, table, first, comes, last, same)

    nodes_more : times (flat_map node_owes after.layout) at reference
        ≡ times (owed_by_node more.placed) at reference + times (flat_map node_owes before.layout) at reference
    nodes_more =
        ap (λ (table : List (ℕ × Placed)). times (flat_map node_owes table) at reference) more.layout
        ∙ times-with node_owes more.made.root more.placed at reference before.layout more.free

    -- what is owed besides: the way to the new node, and what this one owes
    pub owed-more : owed_count (layout_of after) at reference
        ≡ owed_count (layout_of before) at reference + times (way_to more.made.root sub ∷ []) at reference
        + times (owed_by_node more.placed) at reference
    owed-more =
        let now = owed-parts (layout_of after) at reference in
        let was = owed-parts (layout_of before) at reference in
        let roots = roots_more in
        let nodes = nodes_more in
        omega (arith, now, was, roots, nodes)

  -- a book that counts what was owed, and has these references besides, counts what is owed
  pub agrees-more : (old new : Book) (children : List Owing) → owed_by_node more.placed ≡ children
      → AgreesWithOwed (layout_of before) old
      → ((at : ℕ) (reference : Reference) → count_at new at reference
      ≡ count_at old at reference + times (way_to more.made.root sub ∷ []) at reference
      + times children at reference)
      → AgreesWithOwed (layout_of after) new
  agrees-more old new children owes agrees counts = λ at reference.
      let owed = owed-more at reference in
      let was = agrees at reference in
      let now = counts at reference in
      let own = ap (λ (owings : List Owing). times owings at reference) owes in
      omega (arith, owed, was, now, own)
