-- The leaves of a tree, and one more level of it.
use Rattle.std.proofs.Common.{◌≡◌, ℕ, zero, suc, ◌+◌, ◌≤◌, Bool, true, List, [], ◌∷◌, ◌++◌, map, refl, sym, ap, ◌∙◌}
use Rattle.std.proofs.Common.{length, arith, take, drop, length-append}
use Rattle.std.specs.Prelude.{Option, Some, None, ◌==◌}
use Rattle.std.specs.List.{AllByRecursion, IsDistinct, flat_map, list_all}
use Rattle.std.proofs.lemmas.Bool.{le-leb}
use Rattle.std.proofs.Math.Seq.{take-add}
use Rattle.std.proofs.lemmas.List.{append-nil, map-append}
use Rattle.qg_node.specs.declared.item.Item.{Item}
use Rattle.qg_node.specs.declared.pointer.Pointer.{Pointer}
use Rattle.qg_node.specs.declared.node.Node.{Node}
use Rattle.qg_node.specs.declared.node.Node.TheVariants.{Leaf, Inner}
use Rattle.qg_node.specs.Nodes.{own_items, own_keys, own_pointers, is_ascending}
use Rattle.qg_image.specs.IsShaped.{is_shaped}
use Rattle.qg_image.specs.Below.{items_below}
use Rattle.qg_image.specs.declared.failure.Failure.{Failure}
use Rattle.qg_image.specs.declared.expected.Expected.{Expected}
use Rattle.qg_image.specs.Walk.{pointers_failure, walk_failure}
use Rattle.qg_tree_layout.specs.Build.{IsMadeFor}
use Rattle.qg_image.specs.Among.{node_among, found_among}
use Rattle.qg_tree_layout.specs.Row.{pointer_to, address_of, IsRowNode, IsRow}
use Rattle.qg_tree_layout.proofs.Frame.{Judge, AreFound, Keeps-append, AllByRecursion-append, all_under_kept}
use Rattle.qg_tree_layout.proofs.Frame.{all_walked_kept}
use Rattle.qg_tree_layout.proofs.Frame.{joined-append}
use Rattle.qg_tree_layout.proofs.Passing.{Accepts, inners_pass_below, leaves_pass_below}
use Rattle.qg_tree_layout.proofs.Reached.{inners_reached, leaves_reached}
use Rattle.qg_tree_layout.proofs.Rising.{HasRisen, Pass, all_under, found_ok, hold_each, inner_keys, inners_hold}
use Rattle.qg_tree_layout.proofs.Rising.{leaf_keys}
use Rattle.qg_tree_layout.proofs.Rising.{nodes_are, pointers_ascend, row_found, row_pass}

-- ---- the items under a row

leaves_under : (nodesize owner generation : ℕ) (all row : List Node)
    → AllByRecursion (IsRowNode nodesize owner generation 0) row → AreFound all row
    → all_under all 0 (map pointer_to row) ≡ Some (flat_map own_items row)
leaves_under nodesize owner generation all [] are found = refl
leaves_under nodesize owner generation all (Leaf header items ∷ row) are found =
    rw (found.0, leaves_under nodesize owner generation all row are.1 found.1) refl
leaves_under nodesize owner generation all (Inner header pointers ∷ row) are found =
    absurd (omega (arith, are.0.levelled.0, are.0.stands))

inners_under : (nodesize owner generation level : ℕ) (all row : List Node)
    → AllByRecursion (IsRowNode nodesize owner generation (suc level)) row → AreFound all row
    → all_under all (suc level) (map pointer_to row) ≡ all_under all level (flat_map own_pointers row)
inners_under nodesize owner generation level all [] are found = refl
inners_under nodesize owner generation level all (Leaf header items ∷ row) are found =
    absurd (omega (arith, are.0.levelled, are.0.stands))
inners_under nodesize owner generation level all (Inner header pointers ∷ row) are found =
    rw (found.0, inners_under nodesize owner generation level all row are.1 found.1)
    (sym (joined-append (λ pointer. items_below (node_among all) level pointer.child) pointers
    (flat_map own_pointers row)))

-- ---- leaves

leaves_shaped : (nodesize owner generation : ℕ) (row : List Node)
    → AllByRecursion (IsRowNode nodesize owner generation 0) row
    → AllByRecursion (λ node. is_shaped nodesize None node ≡ true) row
unfolding is_shaped
leaves_shaped nodesize owner generation [] are = tt
leaves_shaped nodesize owner generation (Leaf header items ∷ row) are =
    (refl, leaves_shaped nodesize owner generation row are.1)
leaves_shaped nodesize owner generation (Inner header pointers ∷ row) are =
    absurd (omega (arith, are.0.levelled.0, are.0.stands))

leaves_pass : (nodesize owner generation : ℕ) (slots : List ℕ) (items : List Item) (row : List Node) → 102 ≤ nodesize
    → AreFound row row → is_ascending (flat_map own_keys row) ≡ true
    → IsRow own_items nodesize owner generation 0 slots items row
    → (judge : Judge) (holds : Item → Bool) → Accepts judge holds nodesize owner generation
    → list_all holds items ≡ true
    → (depth : ℕ) → Pass (walk_failure judge (found_among row) depth) 0 generation (map pointer_to row)
unfolding walk_failure
leaves_pass nodesize owner generation slots items row wide found ascending is judge holds accepts hold zero =
    row_pass judge holds nodesize owner generation 0 (found_among row) (λ expected address. None) row wide accepts
    is.each
    (hold_each holds row (ap (list_all holds) is.whole ∙ hold)) (found_ok row row found) is.full
    (λ one. leaves_shaped nodesize owner generation row is.each) ascending
    (leaves_pass_below (λ expected address. None) nodesize owner generation row is.each)
leaves_pass nodesize owner generation slots items row wide found ascending is judge holds accepts hold (suc depth) =
    row_pass judge holds nodesize owner generation 0 (found_among row) (walk_failure judge (found_among row) depth) row
    wide accepts is.each
    (hold_each holds row (ap (list_all holds) is.whole ∙ hold)) (found_ok row row found) is.full
    (λ one. leaves_shaped nodesize owner generation row is.each) ascending
    (leaves_pass_below (walk_failure judge (found_among row) depth) nodesize owner generation row is.each)

pub risen_leaves : (nodesize owner generation : ℕ) (items : List Item) (slots : List ℕ) (row : List Node)
    → 102 ≤ nodesize → IsDistinct (λ a b. a == b) slots → is_ascending (map (λ item. item.key) items) ≡ true
    → IsRow own_items nodesize owner generation 0 slots items row
    → HasRisen nodesize owner generation items slots row 0 (map pointer_to row)
risen_leaves nodesize owner generation items slots row wide distinct ascending is =
    let found : AreFound row row = row_found slots [] row distinct refl is.placed in
    let keys : is_ascending (flat_map own_keys row) ≡ true =
    ap is_ascending (leaf_keys nodesize owner generation row is.each ∙ ap (map (λ (item : Item). item.key)) is.whole)
    ∙ ascending in
    record {
      reached = leaves_reached nodesize owner generation row is.each found;
      under = leaves_under nodesize owner generation row row is.each found
          ∙ ap (λ (all : List Item). Some all) is.whole;
      ascending = pointers_ascend nodesize row wide is.full keys;
      walked = λ judge holds accepts hold depth deep. leaves_pass nodesize owner generation slots items row wide found
          keys is judge holds accepts hold depth;
      made = nodes_are nodesize owner generation 0 row is.each keys;
      placed = is.placed;
    }

-- ---- one more level

single_shaped : (nodesize owner generation level : ℕ) (pointers : List Pointer) (row : List Node)
    → AllByRecursion (IsRowNode nodesize owner generation (suc level)) row
    → flat_map own_pointers row ≡ pointers → 2 ≤ length pointers → length row ≡ 1
    → AllByRecursion (λ node. is_shaped nodesize None node ≡ true) row
unfolding is_shaped
single_shaped nodesize owner generation level pointers [] are whole many one = tt
single_shaped nodesize owner generation level pointers (Leaf header items ∷ row) are whole many one =
    absurd (omega (arith, are.0.levelled, are.0.stands))
single_shaped nodesize owner generation level pointers (Inner header own ∷ []) are whole many one =
    let all : own ≡ pointers = sym (append-nil own) ∙ whole in
    (le-leb 2 (length own) (rw all many), tt)
single_shaped nodesize owner generation level pointers (Inner header own ∷ next ∷ row) are whole many one =
    absurd (omega arith)

pass_all : (walk : Expected → ℕ → Option Failure) (level generation : ℕ) (pointers : List Pointer) → 2 ≤ length pointers
    → Pass walk level generation pointers → pointers_failure walk level None pointers ≡ None
pass_all walk level generation [] many pass = absurd (omega arith)
pass_all walk level generation (pointer ∷ []) many pass = absurd (omega arith)
pass_all walk level generation (first ∷ second ∷ others) many pass = pass

inners_pass : (nodesize owner generation level : ℕ) (items : List Item) (slots : List ℕ) (nodes : List Node)
    (pointers : List Pointer) (row : List Node) → 102 ≤ nodesize
    → AreFound (nodes ++ row) row → is_ascending (flat_map own_keys row) ≡ true → 2 ≤ length pointers
    → HasRisen nodesize owner generation items slots nodes level pointers
    → IsRow own_pointers nodesize owner generation (suc level) (drop (length nodes) slots) pointers row
    → (judge : Judge) (holds : Item → Bool) → Accepts judge holds nodesize owner generation
    → list_all holds items ≡ true
    → (depth : ℕ) → suc level ≤ depth
    → Pass (walk_failure judge (found_among (nodes ++ row)) depth) (suc level) generation (map pointer_to row)
unfolding walk_failure
inners_pass nodesize owner generation level items slots nodes pointers row wide found ascending many risen is judge
    holds accepts hold zero deep = absurd (omega arith)
inners_pass nodesize owner generation level items slots nodes pointers row wide found ascending many risen is judge
    holds accepts hold (suc depth) deep =
    let all = nodes ++ row in
    let old = pass_all (walk_failure judge (found_among nodes) depth) level generation pointers many
    (risen.walked judge holds accepts hold depth (omega arith)) in
    let new : pointers_failure (walk_failure judge (found_among all) depth) level None pointers ≡ None =
    all_walked_kept judge nodes all (Keeps-append nodes row) depth level None pointers old in
    row_pass judge holds nodesize owner generation (suc level) (found_among all)
    (walk_failure judge (found_among all) depth) row wide accepts is.each
    (inners_hold holds nodesize owner generation level row is.each) (found_ok all row found) is.full
    (single_shaped nodesize owner generation level pointers row is.each is.whole many) ascending
    (inners_pass_below (walk_failure judge (found_among all) depth) nodesize owner generation level row is.each
    (ap (pointers_failure (walk_failure judge (found_among all) depth) level None) is.whole ∙ new))

pub risen_inners : (nodesize owner generation : ℕ) (items : List Item) (slots : List ℕ) (nodes : List Node) (level : ℕ)
    (pointers : List Pointer) (row : List Node) → 102 ≤ nodesize
    → IsDistinct (λ a b. a == b) slots → 2 ≤ length pointers
    → HasRisen nodesize owner generation items slots nodes level pointers
    → IsRow own_pointers nodesize owner generation (level + 1) (drop (length nodes) slots) pointers row
    → HasRisen nodesize owner generation items slots (nodes ++ row) (level + 1) (map pointer_to row)
risen_inners nodesize owner generation items slots nodes level pointers row wide distinct many risen is_next =
    let next : level + 1 ≡ suc level = omega arith in
    let is : IsRow own_pointers nodesize owner generation (suc level) (drop (length nodes) slots) pointers row =
    rw next at is_next in
    let found : AreFound (nodes ++ row) row = row_found slots nodes row distinct risen.placed is.placed in
    let keys : is_ascending (flat_map own_keys row) ≡ true =
    ap is_ascending (inner_keys nodesize owner generation level row is.each
    ∙ ap (map (λ (pointer : Pointer). pointer.key)) is.whole) ∙ risen.ascending in
    let result : HasRisen nodesize owner generation items slots (nodes ++ row) (suc level) (map pointer_to row) =
    record {
      reached = inners_reached nodesize owner generation level nodes row pointers is.each found is.whole risen.reached;
      under =
          inners_under nodesize owner generation level (nodes ++ row) row is.each found
          ∙ ap (all_under (nodes ++ row) level) is.whole
          ∙ all_under_kept (node_among nodes) (node_among (nodes ++ row)) (Keeps-append nodes row) level pointers items
          risen.under;
      ascending = pointers_ascend nodesize row wide is.full keys;
      walked = inners_pass nodesize owner generation level items slots nodes pointers row wide found keys many risen is;
      made = AllByRecursion-append (IsMadeFor nodesize owner generation) nodes row risen.made
          (nodes_are nodesize owner generation (suc level) row is.each keys);
      placed =
          map-append address_of nodes row
          ∙ ap (λ (back : List ℕ). map address_of nodes ++ back) is.placed
          ∙ ap (λ (front : List ℕ). front ++ take (length row) (drop (length nodes) slots)) risen.placed
          ∙ sym (take-add (length nodes) (length row) slots)
          ∙ ap (λ (n : ℕ). take n slots) (sym (length-append nodes row));
    } in
    rw next result
