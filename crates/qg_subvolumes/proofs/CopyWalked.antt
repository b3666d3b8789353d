-- The copy of a root, by another subvolume and of the generation to come, is a root: the walk meets no failure
-- there, and finds the same items.
use Rattle.std.proofs.Common.{◌≡◌, ℕ, zero, suc, ◌-◌, ◌<◌, ◌≤◌, Bool, true, List, [], ◌∷◌, Option, Some, None, refl}
use Rattle.std.proofs.Common.{sym, ap, ◌∙◌}
use Rattle.std.specs.Prelude.{◌&&◌, Ok, nat_le, nat_lt}
use Rattle.std.specs.List.{list_all}
use Rattle.std.specs.Option.{option_and_then}
use Rattle.std.proofs.lemmas.Bool.{le-leb, lt-ltb}
use Rattle.qg_num.specs.declared.rule.Rule.TheVariants as rule
use Rattle.qg_node.specs.declared.item.Item.{Item}
use Rattle.qg_node.specs.declared.pointer.Pointer.{Pointer}
use Rattle.qg_node.specs.declared.node.Node.{Node}
use Rattle.qg_node.specs.declared.node.Node.TheVariants.{Leaf, Inner}
use Rattle.qg_node.specs.Nodes.{header_of, own_items, own_pointers}
use Rattle.qg_super.specs.declared.superblock.Super.{Super}
use Rattle.qg_image.specs.Below.{inner_pointers, items_below, joined, leaf_items}
use Rattle.qg_image.specs.IsShaped.{is_shaped}
use Rattle.qg_image.specs.ItemMeaning.{is_subvolume_number}
use Rattle.qg_image.specs.declared.expected.Expected.{Expected}
use Rattle.qg_image.specs.declared.failure.Failure.{Failure}
use Rattle.qg_image.specs.declared.tree.TreeKind.TheVariants.{Files}
use Rattle.qg_image.specs.Failure.{first_failure, unless}
use Rattle.qg_image.specs.Among.{found_there}
use Rattle.qg_image.specs.Walk.{found_failure, is_item_of, node_failure, pointers_failure, root_expected, shape_failure}
use Rattle.qg_image.specs.Walk.{walk_failure, way_failure}
use Rattle.qg_machine.specs.Step.{copy_of}
use Rattle.qg_walk.proofs.Failures.{kept-none, neither}
use Rattle.qg_tree_read.specs.Tree.{found_in}

-- ---- failures

pub both_none : (a b : Option Failure) → a ≡ None → b ≡ None → first_failure (a ∷ b ∷ []) ≡ None
both_none a b first last = rw (first, last) refl

pub three_none : (a b c : Option Failure) → a ≡ None → b ≡ None → c ≡ None → first_failure (a ∷ b ∷ c ∷ []) ≡ None
three_none a b c first second third = rw (first, second, third) refl

of_three : (a b c : Option Failure) → first_failure (a ∷ b ∷ c ∷ []) ≡ None → (b ≡ None) × (c ≡ None)
of_three None None None none = (refl, refl)
of_three None None (Some failure) none = absurd cc
of_three None (Some failure) c none = absurd cc
of_three (Some failure) b c none = absurd cc

four_none : (owner generation : Bool) (at : ℕ) → owner ≡ true → generation ≡ true
    → first_failure (unless true rule.Depth at ∷ unless owner rule.Owner at ∷ unless generation rule.Gen at ∷ unless
    true rule.Range at ∷ [])
    ≡ None
four_none owner generation at own dated = rw (own, dated) refl

test_none : (test : Bool) (at : ℕ) → test ≡ true → unless test rule.Shape at ≡ None
test_none test at passes = rw passes refl

item_none : (test : Bool) (at : ℕ) → test ≡ true → unless test rule.Item at ≡ None
item_none test at passes = rw passes refl

-- ---- the copy of a node

pub copy-pointers : (generation copy address : ℕ) (root : Node)
    → own_pointers (copy_of generation copy address root) ≡ own_pointers root
copy-pointers generation copy address (Leaf header items) = refl
copy-pointers generation copy address (Inner header pointers) = refl

copy_items : (generation copy address : ℕ) (root : Node)
    → own_items (copy_of generation copy address root) ≡ own_items root
copy_items generation copy address (Leaf header items) = refl
copy_items generation copy address (Inner header pointers) = refl

pub copy-level : (generation copy address : ℕ) (root : Node)
    → (header_of (copy_of generation copy address root)).level ≡ (header_of root).level
copy-level generation copy address (Leaf header items) = refl
copy-level generation copy address (Inner header pointers) = refl

copy_shaped : (size generation copy address : ℕ) (root : Node)
    → is_shaped size None (copy_of generation copy address root) ≡ is_shaped size None root
unfolding is_shaped
copy_shaped size generation copy address (Leaf header items) = refl
copy_shaped size generation copy address (Inner header pointers) = refl

dated : (generation last : ℕ) → 0 < generation → generation ≤ last
    → (true && nat_lt 0 generation && nat_le generation last) ≡ true
dated generation last some by = rw (lt-ltb 0 generation some, le-leb generation last by) refl

abbrev root_none : Expected
root_none = root_expected None None

module _ (super : Super) (generation copy address at : ℕ) (number : is_subvolume_number copy ≡ true)
    (some : 0 < generation) (by : generation ≤ super.generation) where
  pub way_copied : (root : Node) → way_failure Files super root_none address (copy_of generation copy address root)
      ≡ None
  unfolding way_failure
  way_copied (Leaf header items) =
      four_none (is_subvolume_number copy) (true && nat_lt 0 generation && nat_le generation super.generation) address
      number (dated generation super.generation some by)
  way_copied (Inner header pointers) =
      four_none (is_subvolume_number copy) (true && nat_lt 0 generation && nat_le generation super.generation) address
      number (dated generation super.generation some by)

  judged : (root : Node) → node_failure Files super root_none at root ≡ None
      → node_failure Files super root_none address (copy_of generation copy address root) ≡ None
  unfolding node_failure
  judged root none =
      let parts = of_three (way_failure Files super root_none at root) (shape_failure super.nodesize root_none at root)
      (unless (list_all (is_item_of Files super.generation) (own_items root)) rule.Item at) none in
      let shaped = kept-none (is_shaped super.nodesize None root) rule.Shape at parts.0 in
      let held = kept-none (list_all (is_item_of Files super.generation) (own_items root)) rule.Item at parts.1 in
      three_none (way_failure Files super root_none address (copy_of generation copy address root))
      (shape_failure super.nodesize root_none address (copy_of generation copy address root))
      (unless (list_all (is_item_of Files super.generation) (own_items (copy_of generation copy address root)))
      rule.Item address)
      (way_copied root)
      (test_none (is_shaped super.nodesize None (copy_of generation copy address root)) address
      (copy_shaped super.nodesize generation copy address root ∙ shaped))
      (item_none (list_all (is_item_of Files super.generation) (own_items (copy_of generation copy address root)))
      address
      (ap (λ (items : List Item). list_all (is_item_of Files super.generation) items)
      (copy_items generation copy address root) ∙ held))

  below_copied : (walk : Expected → ℕ → Option Failure) (root : Node)
      → pointers_failure walk ((header_of root).level - 1) None (own_pointers root) ≡ None
      → pointers_failure walk ((header_of (copy_of generation copy address root)).level - 1) None
      (own_pointers (copy_of generation copy address root)) ≡ None
  below_copied walk root none =
      ap (λ (level : ℕ). pointers_failure walk (level - 1) None (own_pointers (copy_of generation copy address root)))
      (copy-level generation copy address root)
      ∙ ap (λ (pointers : List Pointer). pointers_failure walk ((header_of root).level - 1) None pointers)
      (copy-pointers generation copy address root) ∙ none

  -- the walk meets no failure from the copy down, where it meets none from the node
  found_copied : (walk : Expected → ℕ → Option Failure) (root : Node)
      → found_failure (node_failure Files super) walk root_none at (Ok root) ≡ None
      → found_failure (node_failure Files super) walk root_none address (Ok (copy_of generation copy address root))
      ≡ None
  found_copied walk root none =
      let parts = neither (node_failure Files super root_none at root)
      (pointers_failure walk ((header_of root).level - 1) None (own_pointers root)) none in
      both_none (node_failure Files super root_none address (copy_of generation copy address root))
      (pointers_failure walk ((header_of (copy_of generation copy address root)).level - 1) None
      (own_pointers (copy_of generation copy address root))) (judged root parts.0) (below_copied walk root parts.1)

  way_found : (walk : Expected → ℕ → Option Failure) (root : Node)
      → found_failure (way_failure Files super) walk root_none at (Ok root) ≡ None
      → found_failure (way_failure Files super) walk root_none address (Ok (copy_of generation copy address root))
      ≡ None
  way_found walk root none =
      let parts = neither (way_failure Files super root_none at root)
      (pointers_failure walk ((header_of root).level - 1) None (own_pointers root)) none in
      both_none (way_failure Files super root_none address (copy_of generation copy address root))
      (pointers_failure walk ((header_of (copy_of generation copy address root)).level - 1) None
      (own_pointers (copy_of generation copy address root))) (way_copied root) (below_copied walk root parts.1)

  module _ (nodes : ℕ → Option Node) (root : Node) (there : nodes at ≡ Some root)
      (here : nodes address ≡ Some (copy_of generation copy address root)) where
    pub copy-walked : (depth : ℕ) → walk_failure (node_failure Files super) (found_in nodes) (suc depth) root_none at
        ≡ None
        → walk_failure (node_failure Files super) (found_in nodes) (suc depth) root_none address ≡ None
    unfolding walk_failure
    copy-walked depth none =
        let walk = walk_failure (node_failure Files super) (found_in nodes) depth in
        ap (λ (o : Option Node). found_failure (node_failure Files super) walk root_none address
        (found_there o address)) here
        ∙ found_copied walk root
        (sym (ap (λ (o : Option Node). found_failure (node_failure Files super) walk root_none at (found_there o at))
        there)
        ∙ none)

    pub copy-way : (depth : ℕ) → walk_failure (way_failure Files super) (found_in nodes) (suc depth) root_none at ≡ None
        → walk_failure (way_failure Files super) (found_in nodes) (suc depth) root_none address ≡ None
    unfolding walk_failure
    copy-way depth none =
        let walk = walk_failure (way_failure Files super) (found_in nodes) depth in
        ap (λ (o : Option Node). found_failure (way_failure Files super) walk root_none address
        (found_there o address)) here
        ∙ way_found walk root
        (sym (ap (λ (o : Option Node). found_failure (way_failure Files super) walk root_none at (found_there o at))
        there)
        ∙ none)

    leaf_same : (node : Node) → leaf_items (copy_of generation copy address node) ≡ leaf_items node
    leaf_same (Leaf header items) = refl
    leaf_same (Inner header pointers) = refl

    inner_same : (node : Node) → inner_pointers (copy_of generation copy address node) ≡ inner_pointers node
    inner_same (Leaf header items) = refl
    inner_same (Inner header pointers) = refl

    -- and the items are the same
    pub copy-items : (level : ℕ) → items_below nodes level address ≡ items_below nodes level at
    copy-items zero =
        ap (λ (o : Option Node). option_and_then leaf_items o) here ∙ leaf_same root
        ∙ sym (ap (λ (o : Option Node). option_and_then leaf_items o) there)
    copy-items (suc level) =
        let under = joined (λ (pointer : Pointer). items_below nodes level pointer.child) in
        ap (λ (o : Option Node). option_and_then under (option_and_then inner_pointers o)) here
        ∙ ap (λ (o : Option (List Pointer)). option_and_then under o) (inner_same root)
        ∙ sym (ap (λ (o : Option Node). option_and_then under (option_and_then inner_pointers o)) there)
