-- A tree whose levels are put one after the other.
use Rattle.std.proofs.Common.{◌≡◌, ℕ, zero, suc, ◌+◌, ◌-◌, ◌*◌, ◌≤◌, ◌<◌, ◌^◌, true, List, [], ◌∷◌, ◌++◌, map, refl}
use Rattle.std.proofs.Common.{sym, ap, ◌∙◌, subst, length, arith, get_or, length-append}
use Rattle.std.specs.Prelude.{Option, Some, None, ◌==◌, is_none}
use Rattle.std.specs.Option.{option_and_then}
use Rattle.std.specs.List.{IsDistinct, list_all, sum_by}
use Rattle.std.proofs.lemmas.List.{append-nil, length-map}
use Rattle.qg_node.specs.declared.item.Item.{Item}
use Rattle.qg_node.specs.declared.pointer.Pointer.{Pointer}
use Rattle.qg_node.specs.declared.node.Header.{Header}
use Rattle.qg_node.specs.declared.node.Node.{Node}
use Rattle.qg_node.specs.declared.node.Node.TheVariants.{Leaf, Inner}
use Rattle.qg_node.specs.Nodes.{is_ascending, item_bytes, items_bytes, own_items, own_pointers}
use Rattle.qg_node.specs.NodeText.{IsNodeSize}
use Rattle.qg_super.specs.declared.superblock.Super.{Super}
use Rattle.qg_super.specs.Places.{capacity}
use Rattle.qg_image.specs.Below.{items_below}
use Rattle.qg_image.specs.ItemMeaning.{when}
use Rattle.qg_image.specs.Need.{nodes_filled}
use Rattle.qg_image.specs.declared.failure.Failure.{Failure}
use Rattle.qg_image.specs.ItemsUnder.{is_way, items_under, nodes_of}
use Rattle.qg_image.specs.declared.tree.TreeKind.{TreeKind}
use Rattle.qg_image.specs.declared.expected.Expected.{Expected}
use Rattle.qg_image.specs.Walk.{deepest, is_item_of, node_failure, root_expected, shape_failure, walk_failure}
use Rattle.qg_image.specs.Walk.{way_failure}
use Rattle.qg_tree_layout.specs.Build.{IsBuilt, IsOneLeaf}
use Rattle.qg_image.specs.Among.{node_among, found_among}
use Rattle.qg_tree_layout.specs.Row.{pointer_to, IsRow, PutsRow}
use Rattle.qg_tree_layout.proofs.Counts.{IsCounted, counted_leaves, counted_inners, fewer_above, most_on, room_above}
use Rattle.qg_tree_layout.proofs.Counts.{wide}
use Rattle.qg_tree_layout.proofs.Frame.{Keeps-found, under_kept}
use Rattle.qg_tree_layout.proofs.Growing.{sum_by-same}
use Rattle.qg_tree_layout.proofs.Levels.{risen_leaves, risen_inners}
use Rattle.qg_tree_layout.proofs.Passing.{node_accepts, shape_accepts, way_accepts}
use Rattle.qg_tree_layout.proofs.Reached.{only_reached}
use Rattle.qg_tree_layout.proofs.Rising.{HasRisen}

-- ---- the items that a walk meets

-- each item passes where no test is made
all_pass : (items : List Item) → list_all (λ item. true) items ≡ true
all_pass [] = refl
all_pass (item ∷ items) = all_pass items

-- where the walk meets no failure on its way, the items are those of the nodes below
under_walk : (tree : TreeKind) (super : Super) (nodes : List Node) (expected : Expected) (level root : ℕ)
    (items : List Item)
    → walk_failure (way_failure tree super) (found_among nodes) deepest expected root ≡ None
    → items_below (node_among nodes) level root ≡ Some items
    → items_under tree super (found_among nodes) level expected root ≡ Some items
unfolding is_way
under_walk tree super nodes expected level root items way held =
    ap (λ (failure : Option Failure). when (is_none failure) (items_below (nodes_of (found_among nodes)) level root))
    way
    ∙ under_kept (node_among nodes) (nodes_of (found_among nodes)) (Keeps-found nodes) level root items held

-- ---- one leaf

-- a single leaf has all the items, and there is no pointer but that to it
pub record IsAlone (owner generation : ℕ) (items : List Item) (nodes : List Node) (level : ℕ)
    (pointers : List Pointer) : Type 0 where
  pub pointer : Pointer
  pub only : pointers ≡ pointer ∷ []
  pub leaf : IsOneLeaf owner generation items nodes pointer.child level

abbrev leaf_header : ℕ → ℕ → ℕ → ℕ → Header
leaf_header address generation owner level = record {
  address = address;
  generation = generation;
  owner = owner;
  level = level;
}

-- a row of one leaf is such
row-IsAlone : (nodesize owner generation : ℕ) (slots : List ℕ) (items : List Item) (row : List Node) → length row ≡ 1
    → IsRow own_items nodesize owner generation 0 slots items row
    → IsAlone owner generation items row 0 (map pointer_to row)
row-IsAlone nodesize owner generation slots items [] one is = absurd (omega (arith, one))
row-IsAlone nodesize owner generation slots items (first ∷ second ∷ row) one is = absurd (omega (arith, one))
row-IsAlone nodesize owner generation slots items (Inner header pointers ∷ []) one is =
    absurd (omega (arith, is.each.0.levelled.0, is.each.0.stands))
row-IsAlone nodesize owner generation slots items (Leaf header own ∷ []) one is =
    let whole : own ≡ items = sym (append-nil own) ∙ is.whole in
    let headed : header ≡ leaf_header header.address generation owner 0 =
    ap (λ (level : ℕ). leaf_header header.address header.generation header.owner level) is.each.0.stands
    ∙ ap (λ (by : ℕ). leaf_header header.address header.generation by 0) is.each.0.owned
    ∙ ap (λ (made : ℕ). leaf_header header.address made owner 0) is.each.0.made in
    record {
      pointer = pointer_to (Leaf header own);
      only = refl;
      leaf = record {
        alone = ap (λ (given : Header). Leaf given own ∷ []) headed
            ∙ ap (λ (all : List Item). Leaf (leaf_header header.address generation owner 0) all ∷ []) whole;
        flat = refl;
      };
    }

-- ---- level by level

-- the levels so far
pub record HasLevels (nodesize owner generation : ℕ) (items : List Item) (slots : List ℕ) (nodes : List Node)
    (level : ℕ) (pointers : List Pointer) : Type 0 where
  pub risen : HasRisen nodesize owner generation items slots nodes level pointers
  pub counted : IsCounted (nodes_filled nodesize (items_bytes items)) (length nodes) (length pointers) level
  pub single : items_bytes items ≤ capacity nodesize → IsAlone owner generation items nodes level pointers

module _ (nodesize owner generation : ℕ) (items : List Item) (slots : List ℕ) (size : IsNodeSize nodesize)
    (distinct : IsDistinct (λ a b. a == b) slots) where
  pub HasLevels-none : (nodes : List Node) (pointers : List Pointer)
      → is_ascending (map (λ item. item.key) items) ≡ true
      → 5 * nodes_filled nodesize (items_bytes items) + 1 ≤ length slots → length slots ≤ 16128
      → PutsRow own_items item_bytes nodesize owner generation 0 slots items [] nodes pointers
      → HasLevels nodesize owner generation items slots nodes 0 pointers
  HasLevels-none nodes pointers ascending room few put =
      let big = wide nodesize size in
      let risen : HasRisen nodesize owner generation items slots put.row 0 (map pointer_to put.row) =
      risen_leaves nodesize owner generation items slots put.row (omega (arith, big)) distinct ascending put.is in
      let counted : IsCounted (nodes_filled nodesize (items_bytes items)) (length put.row) (length put.row) 0 =
      counted_leaves nodesize (items_bytes items) (length put.row) (length slots) size put.is.some put.few room
      few in
      let made : HasLevels nodesize owner generation items slots put.row 0 (map pointer_to put.row) =
      record {
        risen = risen;
        counted = subst (λ (n : ℕ). IsCounted (nodes_filled nodesize (items_bytes items)) (length put.row) n 0)
            (sym (length-map put.row pointer_to)) counted;
        single = λ light. row-IsAlone nodesize owner generation slots items put.row (put.single light) put.is;
      } in
      rw (put.grown, put.pointed) made

  pub HasLevels-more : (nodes : List Node) (level : ℕ) (pointers : List Pointer) (new : List Node)
      (above : List Pointer) → HasLevels nodesize owner generation items slots nodes level pointers
      → 2 ≤ length pointers
      → PutsRow own_pointers (λ _. 33) nodesize owner generation (level + 1) slots pointers nodes new above
      → HasLevels nodesize owner generation items slots new (level + 1) above
  HasLevels-more nodes level pointers new above is many put =
      let big = wide nodesize size in
      let risen : HasRisen nodesize owner generation items slots (nodes ++ put.row) (level + 1)
      (map pointer_to put.row) =
      risen_inners nodesize owner generation items slots nodes level pointers put.row (omega (arith, big)) distinct many
      is.risen put.is in
      let heavy : 2 ≤ length put.row → capacity nodesize * length put.row ≤ 4 * (33 * length pointers) =
      λ two. omega (arith, put.few two, sum_by-same 33 pointers) in
      let counted : IsCounted (nodes_filled nodesize (items_bytes items)) (length nodes + length put.row)
      (length put.row) (level + 1) =
      counted_inners nodesize (nodes_filled nodesize (items_bytes items)) (length nodes) (length pointers) level
      (length put.row) size is.counted many put.is.some heavy in
      let made : HasLevels nodesize owner generation items slots (nodes ++ put.row) (level + 1)
      (map pointer_to put.row) = record {
        risen = risen;
        counted = rw (length-append nodes put.row, length-map put.row pointer_to) counted;
        single = λ light. absurd (omega (arith, many, ap length (is.single light).only));
      } in
      rw (put.grown, put.pointed) made

  pub above_fewer : (nodes : List Node) (level above_level : ℕ) (pointers : List Pointer) (new : List Node)
      (above : List Pointer) → 2 ≤ length pointers
      → PutsRow own_pointers (λ _. 33) nodesize owner generation above_level slots pointers nodes new above
      → length above < length pointers
  above_fewer nodes level above_level pointers new above many put =
      let heavy : 2 ≤ length put.row → capacity nodesize * length put.row ≤ 4 * (33 * length pointers) =
      λ two. omega (arith, put.few two, sum_by-same 33 pointers) in
      let fewer : length put.row < length pointers =
      fewer_above nodesize (length pointers) (length put.row) size many heavy in
      rw put.pointed (rw (length-map put.row pointer_to) fewer)

  pub light_enough : (nodes : List Node) (level : ℕ) (pointers : List Pointer)
      → HasLevels nodesize owner generation items slots nodes level pointers → 2 ≤ length pointers
      → length slots ≤ 16128
      → sum_by (λ _. 33) pointers < 2 ^ 32
  light_enough nodes level pointers is many few =
      omega (arith, sum_by-same 33 pointers, most level, is.counted.low) where
        most : (level : ℕ) → most_on level ≤ 16128
        most zero = omega arith
        most (suc zero) = omega arith
        most (suc (suc zero)) = omega arith
        most (suc (suc (suc level))) = omega arith

  pub room_for_more : (nodes : List Node) (level : ℕ) (pointers : List Pointer)
      → HasLevels nodesize owner generation items slots nodes level pointers → 2 ≤ length pointers
      → 5 * nodes_filled nodesize (items_bytes items) + 1 ≤ length slots
      → 4 * sum_by (λ _. 33) pointers < capacity nodesize * (length slots - length nodes)
  room_for_more nodes level pointers is many room =
      rw (sum_by-same 33 pointers) (room_above nodesize (nodes_filled nodesize (items_bytes items)) (length nodes)
      (length pointers) level (length slots) size is.counted many room)

  pub IsBuilt-all : (nodes : List Node) (level : ℕ) (pointers : List Pointer) (root : Pointer)
      → HasLevels nodesize owner generation items slots nodes level pointers → length pointers ≤ 1
      → root ≡ get_or pointers 0 root
      → IsBuilt nodesize owner generation items slots nodes root.child level
  IsBuilt-all nodes level [] root is one there = absurd (omega (arith, is.counted.some))
  IsBuilt-all nodes level (first ∷ second ∷ others) root is one there = absurd (omega (arith, one))
  IsBuilt-all nodes level (only ∷ []) root is one there =
      let low : level ≤ deepest = omega (arith, is.counted.flat) in
      let held : items_below (node_among nodes) level only.child ≡ Some items =
      alone (items_below (node_among nodes) level only.child) is.risen.under in
      let made : IsBuilt nodesize owner generation items slots nodes only.child level = record {
        reached = only_reached nodes level only is.risen.reached;
        under = λ tree super allows.
            under_walk tree super nodes (root_expected (Some level) (Some generation)) level only.child items
            (is.risen.walked (way_failure tree super) (λ item. true)
            (way_accepts tree super nodesize owner generation allows) (all_pass items) deepest low) held;
        held = held;
        shaped = is.risen.walked (shape_failure nodesize) (λ item. true) (shape_accepts nodesize owner generation)
            (all_pass items) deepest low;
        walked = λ tree super allows hold. is.risen.walked (node_failure tree super) (is_item_of tree super.generation)
            (node_accepts tree super nodesize owner generation allows) hold deepest low;
        made = is.risen.made;
        placed = is.risen.placed;
        few = is.counted.few;
        low = low;
        single = λ light. leaf_of (is.single light);
      } in
      rw there made where
        leaf_of : IsAlone owner generation items nodes level (only ∷ [])
            → IsOneLeaf owner generation items nodes only.child level
        leaf_of is = subst (λ (pointer : Pointer). IsOneLeaf owner generation items nodes pointer.child level)
            (sym (ap (λ (pointers : List Pointer). get_or pointers 0 only) is.only)) is.leaf

        alone : (under : Option (List Item))
            → option_and_then (λ first. option_and_then (λ rest. Some (first ++ rest)) (Some [])) under ≡ Some items
            → under ≡ Some items
        alone (Some own) h = ap (λ (all : List Item). Some all) (sym (append-nil own)) ∙ h
        alone None h = absurd cc
