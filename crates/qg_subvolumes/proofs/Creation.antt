-- A new subvolume without files is one subvolume more: its root is an empty leaf.
use Rattle.std.proofs.Common.{◌≡◌, ℕ, suc, ◌<◌, ◌≤◌, Bool, true, [], Option, Some, None, arith, refl, ap, ◌∙◌}
use Rattle.std.specs.Prelude.{is_none}
use Rattle.std.specs.List.{list_all}
use Rattle.std.specs.List.Sorted.{IsStrictlyIncreasing}
use Rattle.std.specs.Option.{option_and_then}
use Rattle.qg_num.specs.declared.rule.Rule.TheVariants as rule
use Rattle.qg_node.specs.declared.node.Node.{Node}
use Rattle.qg_node.specs.Nodes.{own_items}
use Rattle.qg_super.specs.declared.superblock.Super.{Super}
use Rattle.qg_image.specs.Below.{items_below, leaf_items}
use Rattle.qg_image.specs.FilesOf.{are_files, files_of, AreItemsOfFiles}
use Rattle.qg_image.specs.IsShaped.{is_shaped}
use Rattle.qg_image.specs.ItemMeaning.{is_subvolume_number, when}
use Rattle.qg_image.specs.Table.{keys_of, value_at}
use Rattle.qg_image.specs.Owed.{homeless, owed_by_node}
use Rattle.qg_image.specs.Reach.{level_of}
use Rattle.qg_image.specs.State.{Placed, State, Subvolume, layout_of, next_generation, node_at, blank_subvolume}
use Rattle.qg_image.proofs.Contained.{none_contained}
use Rattle.qg_image.specs.declared.failure.Failure.{Failure}
use Rattle.qg_image.specs.declared.tree.TreeKind.TheVariants.{Files}
use Rattle.qg_image.specs.Among.{found_there}
use Rattle.qg_image.specs.Failure.{unless}
use Rattle.qg_image.specs.ItemsUnder.{is_way, nodes_of}
use Rattle.qg_image.specs.Walk.{found_failure, is_item_of, node_failure, pointers_failure, root_expected, shape_failure}
use Rattle.qg_image.specs.Walk.{walk_failure, way_failure}
use Rattle.qg_machine.specs.Layout.{IsTreeOf, IsWhole, super_to_come}
use Rattle.qg_machine.specs.Layout.{found_in as found_by}
use Rattle.qg_machine.specs.Step.{CreatesSubvolume, empty_leaf}
use Rattle.qg_tree_read.specs.Tree.{found_in}
use Rattle.qg_subvolumes.proofs.CopyWalked.{both_none, three_none, way_copied}
use Rattle.qg_subvolumes.proofs.Homed.{node_now}
use Rattle.qg_subvolumes.proofs.More.{OneMore, next-is}
use Rattle.qg_subvolumes.proofs.TreesStand.{nodes-are}

no_files : (generation : ℕ) → AreItemsOfFiles generation [] []
unfolding files_of are_files
no_files generation = refl

-- ---- the walk of an empty leaf

module _ (super : Super) (generation sub address : ℕ) (number : is_subvolume_number sub ≡ true)
    (some : 0 < generation) (by : generation ≤ super.generation) where
  abbrev leaf : Node
  leaf = (empty_leaf generation sub address).node

  -- it breaks no rule
  way_none : way_failure Files super (root_expected None None) address leaf ≡ None
  way_none = way_copied super generation sub address address number some by leaf

  shape_none : shape_failure super.nodesize (root_expected None None) address leaf ≡ None
  unfolding is_shaped
  shape_none = refl

  judged : node_failure Files super (root_expected None None) address leaf ≡ None
  unfolding node_failure
  judged =
      three_none (way_failure Files super (root_expected None None) address leaf)
      (shape_failure super.nodesize (root_expected None None) address leaf)
      (unless (list_all (is_item_of Files super.generation) (own_items leaf)) rule.Item address) way_none shape_none
      refl

  module _ (nodes : ℕ → Option Node) (here : nodes address ≡ Some leaf) where
    pub leaf-walked : (depth : ℕ)
        → walk_failure (node_failure Files super) (found_in nodes) (suc depth) (root_expected None None) address ≡ None
    unfolding walk_failure
    leaf-walked depth =
        let judge = node_failure Files super in
        let walk = walk_failure judge (found_in nodes) depth in
        ap (λ (o : Option Node). found_failure judge walk (root_expected None None) address (found_there o address))
        here
        ∙ both_none (judge (root_expected None None) address leaf) (pointers_failure walk 0 None []) judged refl

    pub leaf-way : (depth : ℕ)
        → walk_failure (way_failure Files super) (found_in nodes) (suc depth) (root_expected None None) address ≡ None
    unfolding walk_failure
    leaf-way depth =
        let judge = way_failure Files super in
        let walk = walk_failure judge (found_in nodes) depth in
        ap (λ (o : Option Node). found_failure judge walk (root_expected None None) address (found_there o address))
        here
        ∙ both_none (judge (root_expected None None) address leaf) (pointers_failure walk 0 None []) way_none refl

-- ---- a state that has it

module _ (before after : State) (sub : ℕ) (new : CreatesSubvolume before sub after) (whole : IsWhole before)
    (up : IsStrictlyIncreasing (keys_of before.subvolumes)) (other : value_at sub before.subvolumes ≡ None)
    (free : value_at new.address before.layout ≡ None) where
  abbrev made : Subvolume
  made = blank_subvolume new.address

  abbrev placed : Placed
  placed = empty_leaf (next_generation before) sub new.address

  abbrev pub more : OneMore before after sub
  more = record {
    others = before.subvolumes;
    made = made;
    placed = placed;
    subvolumes = ap (λ (state : State). state.subvolumes) new.created;
    layout = ap (λ (state : State). state.layout) new.created;
    sizes = ap (λ (state : State). state.sizes) new.created;
    held = ap (λ (state : State). state.held) new.created;
    to_come = ap super_to_come new.created;
    numbers = up;
    unused = other;
    free = free;
    roots = refl;
    names = refl;
    trees = whole.trees;
    owner = refl;
    bare = refl;
    named = λ run has. absurd (none_contained run has);
  }

  -- the leaf owes nothing
  pub owes-none : owed_by_node placed ≡ []
  unfolding owed_by_node
  owes-none = refl

  module _ (home : homeless (layout_of before) ≡ None) (number : is_subvolume_number sub ≡ true) where
    there : node_at after.layout new.address ≡ Some placed.node
    there = node_now before after sub more whole home

    by_next : next_generation before ≤ (super_to_come after).generation
    by_next = let same = next-is before after sub more in omega (arith, same)

    way_there : is_way Files (super_to_come after) (found_by after.layout) (root_expected None None) new.address ≡ true
    unfolding is_way
    way_there =
        ap (λ (o : Option Failure). is_none o)
        (leaf-way (super_to_come after) (next_generation before) sub new.address number (omega arith) by_next
        (node_at after.layout) there 6)

    items_there : items_below (nodes_of (found_by after.layout)) (level_of (node_at after.layout new.address))
        new.address
        ≡ Some []
    items_there =
        ap (λ (n : ℕ). items_below (nodes_of (found_by after.layout)) n new.address) (ap level_of there)
        ∙ ap (λ (nodes : ℕ → Option Node). items_below nodes 0 new.address) (nodes-are after)
        ∙ ap (λ (o : Option Node). option_and_then leaf_items o) there

    -- the new subvolume has its tree
    pub leaf-tree : IsTreeOf after made
    leaf-tree = record {
      items = [];
      walked = leaf-walked (super_to_come after) (next_generation before) sub new.address number (omega arith) by_next
          (node_at after.layout) there 6;
      under = ap (λ (way : Bool). when way (items_below (nodes_of (found_by after.layout))
          (level_of (node_at after.layout new.address)) new.address)) way_there ∙ items_there;
      files = no_files (next_generation after);
    }
