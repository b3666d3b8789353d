-- A snapshot is one subvolume more: its root is a copy of the source's, and its files are the source's.
use Rattle.std.proofs.Common.{◌≡◌, ◌≢◌, ℕ, ◌≤◌, Bool, true, false, List, [], ◌∷◌, ◌++◌, map, Option, Some, None, arith}
use Rattle.std.proofs.Common.{refl, sym, ap, ◌∙◌}
use Rattle.std.specs.Prelude.{is_none}
use Rattle.std.specs.List.{AllByRecursion, Contains, flat_map}
use Rattle.std.specs.List.Sorted.{IsStrictlyIncreasing}
use Rattle.std.proofs.lemmas.Bool.{true≢false}
use Rattle.std.proofs.lemmas.List.Concat.{flat_map-cons}
use Rattle.qg_node.specs.declared.node.Node.{Node}
use Rattle.qg_node.specs.declared.node.Node.TheVariants.{Leaf, Inner}
use Rattle.qg_node.specs.Nodes.{header_of}
use Rattle.qg_image.specs.Below.{items_below}
use Rattle.qg_image.specs.ItemMeaning.{is_subvolume_number, when}
use Rattle.qg_image.specs.Table.{keys_of, value_at, with_value}
use Rattle.qg_image.specs.declared.element.Element.{Element}
use Rattle.qg_image.specs.Owed.{homeless, owed_by_node}
use Rattle.qg_image.specs.Reach.{level_of}
use Rattle.qg_image.specs.State.{Placed, State, Subvolume, layout_of, next_generation, node_at}
use Rattle.qg_image.specs.declared.failure.Failure.{Failure}
use Rattle.qg_image.specs.declared.tree.TreeKind.TheVariants.{Files}
use Rattle.qg_image.specs.ItemsUnder.{is_way, nodes_of}
use Rattle.qg_image.specs.Walk.{deepest, root_expected, walk_failure, way_failure}
use Rattle.qg_machine.specs.Layout.{IsTreeOf, IsWhole, found_in, super_to_come}
use Rattle.qg_machine.specs.Step.{Snapshots, copy_of, subvolume_copy}
use Rattle.qg_cow_refs.specs.Children.{keyed_children}
use Rattle.qg_files.proofs.Ascending.{Ascends-increasing, all-with_value, ascends-with_value, increasing-Ascends}
use Rattle.qg_owner_rule.proofs.Reaching.{entry_of_value}
use Rattle.qg_reach.proofs.Layouts.{value_at-with_other}
use Rattle.qg_reach.proofs.Members.{contains_flat_map}
use Rattle.qg_shared_trees.proofs.Snapshotted.{copy-owes, root_entry}
use Rattle.qg_shared_trees.proofs.Tables.{map-with}
use Rattle.qg_subvolumes.proofs.CopyWalked.{copy-items, copy-level, copy-walked, copy-way}
use Rattle.qg_subvolumes.proofs.Homed.{node_now, tree_at}
use Rattle.qg_subvolumes.proofs.More.{OneMore, named_by, named_in, next-is}
use Rattle.qg_subvolumes.proofs.TreesStand.{nodes-are}
use Rattle.qg_subvolumes.proofs.WholeAfter.{stays, still}

when_some : {A : Type 0} (way : Bool) (list : Option A) (x : A) → when way list ≡ Some x → (way ≡ true)
    × (list ≡ Some x)
when_some true list x is = (refl, is)
when_some {A} false list x is = let wrong : ◌≡◌ {A = Option A} None (Some x) = is in absurd cc

none_is : (o : Option Failure) → is_none o ≡ true → o ≡ None
none_is None is = refl
none_is (Some failure) is = absurd (true≢false (sym is))

-- the lists of some things one after the other are those of their images
flat_mapped : {A : Type 0} (f : A → List Element) (xs : List A)
    → flat_map f xs ≡ flat_map (λ (ys : List Element). ys) (map f xs)
flat_mapped {A} f [] = refl
flat_mapped {A} f (x ∷ xs) =
    flat_map-cons f x xs ∙ ap (λ (rest : List Element). f x ++ rest) (flat_mapped f xs)
    ∙ sym (flat_map-cons (λ (ys : List Element). ys) (f x) (map f xs))

pub copy-owner : (generation copy address : ℕ) (node : Node)
    → (header_of (copy_of generation copy address node)).owner ≡ copy
copy-owner generation copy address (Leaf header items) = refl
copy-owner generation copy address (Inner header pointers) = refl

pub copy-address : (generation copy address : ℕ) (node : Node)
    → (header_of (copy_of generation copy address node)).address ≡ address
copy-address generation copy address (Leaf header items) = refl
copy-address generation copy address (Inner header pointers) = refl

module _ (before after : State) (sub copy : ℕ) (parents : List ℕ) (snap : Snapshots before sub parents copy after)
    (whole : IsWhole before) (up : IsStrictlyIncreasing (keys_of before.subvolumes))
    (other : value_at copy before.subvolumes ≡ None) (free : value_at snap.address before.layout ≡ None) where
  abbrev marked : Subvolume
  marked = record snap.source { last_snapshot = next_generation before }

  abbrev made : Subvolume
  made = subvolume_copy (next_generation before) snap.source snap.address

  abbrev node_copy : Node
  node_copy = copy_of (next_generation before) copy snap.address snap.root

  abbrev placed_copy : Placed
  placed_copy = record { node = node_copy; full = false }

  abbrev others : List (ℕ × Subvolume)
  others = with_value sub marked before.subvolumes

  pub apart : sub ≢ copy
  apart same =
      let wrong : ◌≡◌ {A = Option Subvolume} None (Some snap.source) =
      sym other ∙ ap (λ (n : ℕ). value_at n before.subvolumes) (sym same) ∙ snap.there in absurd cc

  pub numbers_others : IsStrictlyIncreasing (keys_of others)
  numbers_others =
      increasing-Ascends 0 others
      (ascends-with_value 0 sub marked before.subvolumes (omega arith) (Ascends-increasing before.subvolumes up))

  pub roots_others : map root_entry others ≡ map root_entry before.subvolumes
  roots_others =
      map-with root_entry sub snap.source marked refl 0 before.subvolumes (Ascends-increasing before.subvolumes up)
      snap.there

  pub names_others : flat_map named_in others ≡ flat_map named_in before.subvolumes
  names_others =
      flat_mapped named_in others
      ∙ ap (λ (lists : List (List Element)). flat_map (λ (ys : List Element). ys) lists)
      (map-with named_in sub snap.source marked refl 0 before.subvolumes (Ascends-increasing before.subvolumes up)
      snap.there)
      ∙ sym (flat_mapped named_in before.subvolumes)

  source_before : IsTreeOf before snap.source
  source_before = tree_at before whole sub snap.source snap.there

  marked_tree : IsTreeOf before marked
  marked_tree = record {
    items = source_before.items;
    walked = source_before.walked;
    under = source_before.under;
    files = source_before.files;
  }

  pub trees_others : AllByRecursion (λ entry. IsTreeOf before entry.1) others
  trees_others =
      all-with_value (λ (entry : ℕ × Subvolume). IsTreeOf before entry.1) sub marked before.subvolumes marked_tree
      whole.trees

  pub named_made : (run : Element) → Contains (named_by made) run → Contains (flat_map named_in before.subvolumes) run
  named_made run has =
      contains_flat_map named_in before.subvolumes (sub, snap.source) run
      (entry_of_value sub snap.source before.subvolumes snap.there) has

  abbrev pub more : OneMore before after copy
  more = record {
    others = others;
    made = made;
    placed = placed_copy;
    subvolumes = ap (λ (state : State). state.subvolumes) snap.copied;
    layout = ap (λ (state : State). state.layout) snap.copied;
    sizes = ap (λ (state : State). state.sizes) snap.copied;
    held = ap (λ (state : State). state.held) snap.copied;
    to_come = ap super_to_come snap.copied;
    numbers = numbers_others;
    unused = value_at-with_other sub copy marked before.subvolumes apart ∙ other;
    free = free;
    roots = roots_others;
    names = names_others;
    trees = trees_others;
    owner = copy-owner (next_generation before) copy snap.address snap.root;
    bare = refl;
    named = named_made;
  }

  -- what the copy owes
  pub owes-children : owed_by_node placed_copy ≡ keyed_children snap.root copy
  owes-children = copy-owes (next_generation before) copy snap.address snap.root

  module _ (home : homeless (layout_of before) ≡ None) (number : is_subvolume_number copy ≡ true) where
    source_tree : IsTreeOf after snap.source
    source_tree = still before after copy more whole home snap.source source_before

    source_there : node_at after.layout snap.source.root ≡ Some snap.root
    source_there =
        stays before after copy more whole home snap.source.root snap.root snap.root_there ∙ snap.root_there

    copy_there : node_at after.layout snap.address ≡ Some node_copy
    copy_there = node_now before after copy more whole home

    by_next : next_generation before ≤ (super_to_come after).generation
    by_next = let same = next-is before after copy more in omega (arith, same)

    source_under : (is_way Files (super_to_come after) (found_in after.layout)
        (root_expected None None) snap.source.root
        ≡ true)
        × (items_below (nodes_of (found_in after.layout)) (level_of (node_at after.layout snap.source.root))
        snap.source.root
        ≡ Some source_tree.items)
    source_under =
        when_some (is_way Files (super_to_come after) (found_in after.layout)
        (root_expected None None) snap.source.root)
        (items_below (nodes_of (found_in after.layout)) (level_of (node_at after.layout snap.source.root))
        snap.source.root)
        source_tree.items source_tree.under

    way_there : is_way Files (super_to_come after) (found_in after.layout) (root_expected None None) snap.address ≡ true
    unfolding is_way
    way_there =
        ap (λ (o : Option Failure). is_none o)
        (copy-way (super_to_come after) (next_generation before) copy snap.address snap.source.root number
        (omega arith) by_next (node_at after.layout) snap.root source_there copy_there 6
        (none_is (walk_failure (way_failure Files (super_to_come after)) (found_in after.layout) deepest
        (root_expected None None) snap.source.root) source_under.0))

    level_same : level_of (node_at after.layout snap.address) ≡ level_of (node_at after.layout snap.source.root)
    level_same =
        ap level_of copy_there ∙ copy-level (next_generation before) copy snap.address snap.root
        ∙ sym (ap level_of source_there)

    items_there : items_below (nodes_of (found_in after.layout)) (level_of (node_at after.layout snap.address))
        snap.address
        ≡ Some source_tree.items
    items_there =
        let level = level_of (node_at after.layout snap.source.root) in
        ap (λ (n : ℕ). items_below (nodes_of (found_in after.layout)) n snap.address) level_same
        ∙ ap (λ (nodes : ℕ → Option Node). items_below nodes level snap.address) (nodes-are after)
        ∙ copy-items (super_to_come after) (next_generation before) copy snap.address snap.source.root number
        (omega arith) by_next (node_at after.layout) snap.root source_there copy_there level
        ∙ sym (ap (λ (nodes : ℕ → Option Node). items_below nodes level snap.source.root) (nodes-are after))
        ∙ source_under.1

    -- the new subvolume has the source's items
    pub copy-tree : IsTreeOf after made
    copy-tree = record {
      items = source_tree.items;
      walked = copy-walked (super_to_come after) (next_generation before) copy snap.address snap.source.root number
          (omega arith) by_next (node_at after.layout) snap.root source_there copy_there 6 source_tree.walked;
      under = ap (λ (way : Bool). when way (items_below (nodes_of (found_in after.layout))
          (level_of (node_at after.layout snap.address)) snap.address)) way_there ∙ items_there;
      files = source_tree.files;
    }
