-- A tree stands where nothing that it reaches changes.
use Rattle.std.proofs.Common.{◌≡◌, ℕ, zero, suc, ◌-◌, inl, inr, List, [], ◌∷◌, ◌++◌, refl, ap, subst, ◌∙◌, Option, Some}
use Rattle.std.proofs.Common.{None}
use Rattle.std.specs.Prelude.{Bool, ◌==◌, if◌then◌else◌, slice_get}
use Rattle.std.specs.Option.{option_and_then}
use Rattle.std.proofs.lemmas.Bool.Decides.{eqb_tells}
use Rattle.qg_num.specs.declared.key.Key.{Key}
use Rattle.qg_node.specs.declared.item.Item.{Item}
use Rattle.qg_node.specs.declared.pointer.Pointer.{Pointer}
use Rattle.qg_node.specs.declared.node.Node.{Node}
use Rattle.qg_node.specs.declared.node.Node.TheVariants.{Leaf, Inner}
use Rattle.qg_node.specs.Nodes.{header_of, own_pointers}
use Rattle.qg_super.specs.declared.superblock.Super.{Super}
use Rattle.qg_blocks.specs.Below.{inner_pointers, items_below, joined, leaf_items}
use Rattle.qg_blocks.specs.Types.{Failure}
use Rattle.qg_blocks.specs.Types.{TreeKind}
use Rattle.qg_blocks.specs.Types.{Expected}
use Rattle.qg_blocks.specs.Among.{found_there}
use Rattle.qg_blocks.specs.Failure.{first_failure}
use Rattle.qg_blocks.specs.Walk.{found_failure, pointers_failure, root_expected, walk_failure}
use Rattle.qg_walk.specs.Standing.{expected_below, form_failure}
use Rattle.qg_tree_read.specs.Tree.{IsTree, Reaches, found_in}

-- ---- what is the same under each pointer is the same under all

pointers_same : (walk other : Expected → ℕ → Option Failure) (level : ℕ) (to : Option Key) (pointers : List Pointer)
    → ((place : ℕ) (pointer : Pointer) → slice_get pointers place ≡ Some pointer → (expected : Expected)
    → other expected pointer.child ≡ walk expected pointer.child)
    → pointers_failure other level to pointers ≡ pointers_failure walk level to pointers
pointers_same walk other level to [] each = refl
pointers_same walk other level to (pointer ∷ pointers) each =
    ap (λ (o : Option Failure). first_failure (o ∷ pointers_failure other level to pointers ∷ []))
    (each 0 pointer refl (expected_below level to pointer pointers))
    ∙ ap (λ (o : Option Failure). first_failure (walk (expected_below level to pointer pointers) pointer.child ∷ o
    ∷ []))
    (pointers_same walk other level to pointers (λ place p is. each (suc place) p is))

joined_same : {A : Type 0} (under other : Pointer → Option (List A)) (pointers : List Pointer)
    → ((place : ℕ) (pointer : Pointer) → slice_get pointers place ≡ Some pointer → other pointer ≡ under pointer)
    → joined other pointers ≡ joined under pointers
joined_same under other [] each = refl
joined_same under other (pointer ∷ pointers) each =
    ap (λ o. option_and_then (λ first. option_and_then (λ rest. Some (first ++ rest)) (joined other pointers)) o)
    (each 0 pointer refl)
    ∙ ap (λ o. option_and_then (λ first. option_and_then (λ rest. Some (first ++ rest)) o) (under pointer))
    (joined_same under other pointers (λ place p is. each (suc place) p is))

-- ---- the walk, and the items

module _ (judge : Expected → ℕ → Node → Option Failure) where
  found_same : (walk other : Expected → ℕ → Option Failure) (expected : Expected) (address : ℕ) (o : Option Node)
      → ((node : Node) → o ≡ Some node → (place : ℕ) (pointer : Pointer)
      → slice_get (own_pointers node) place ≡ Some pointer → (expected : Expected)
      → other expected pointer.child ≡ walk expected pointer.child)
      → found_failure judge other expected address (found_there o address) ≡ found_failure judge walk expected address
      (found_there o address)
  found_same walk other expected address None each = refl
  found_same walk other expected address (Some node) each =
      ap (λ (f : Option Failure). first_failure (judge expected address node ∷ f ∷ []))
      (pointers_same walk other ((header_of node).level - 1) expected.to (own_pointers node) (each node refl))

  pub walk-same : (nodes nodes' : ℕ → Option Node) (level : ℕ) (expected : Expected) (address : ℕ)
      → ((q : ℕ) → Reaches nodes level address q → nodes' q ≡ nodes q)
      → walk_failure judge (found_in nodes') level expected address ≡ walk_failure judge (found_in nodes) level expected
      address
  unfolding walk_failure Reaches
  walk-same nodes nodes' zero expected address same =
      ap (λ (o : Option Node). found_failure judge (λ expected address. None) expected address (found_there o address))
      (same address refl)
  walk-same nodes nodes' (suc level) expected address same =
      ap (λ (o : Option Node). found_failure judge (walk_failure judge (found_in nodes') level) expected address
      (found_there o address)) (same address (inl refl))
      ∙ found_same (walk_failure judge (found_in nodes) level) (walk_failure judge (found_in nodes') level) expected
      address (nodes address)
      (λ node is place pointer there below. walk-same nodes nodes' level below pointer.child
      (λ q reaches. same q (inr (node, is, place, pointer, there, reaches))))

inner_same : (under other : Pointer → Option (List Item)) (o : Option Node)
    → ((node : Node) → o ≡ Some node → (place : ℕ) (pointer : Pointer)
    → slice_get (own_pointers node) place ≡ Some pointer → other pointer ≡ under pointer)
    → option_and_then (joined other) (option_and_then inner_pointers o) ≡ option_and_then (joined under)
    (option_and_then inner_pointers o)
inner_same under other None each = refl
inner_same under other (Some (Leaf header items)) each = refl
inner_same under other (Some (Inner header pointers)) each =
    joined_same under other pointers (each (Inner header pointers) refl)

pub items-same : (nodes nodes' : ℕ → Option Node) (level address : ℕ)
    → ((q : ℕ) → Reaches nodes level address q → nodes' q ≡ nodes q)
    → items_below nodes' level address ≡ items_below nodes level address
unfolding Reaches
items-same nodes nodes' zero address same = ap (λ (o : Option Node). option_and_then leaf_items o) (same address refl)
items-same nodes nodes' (suc level) address same =
    ap (λ (o : Option Node). option_and_then (joined (λ pointer. items_below nodes' level pointer.child))
    (option_and_then inner_pointers o)) (same address (inl refl))
    ∙ inner_same (λ pointer. items_below nodes level pointer.child) (λ pointer. items_below nodes' level pointer.child)
    (nodes address)
    (λ node is place pointer there. items-same nodes nodes' level pointer.child
    (λ q reaches. same q (inr (node, is, place, pointer, there, reaches))))

-- ---- the tree

-- the same tree, where what it reaches is told as before
pub IsTree-same : (tree : TreeKind) (super : Super) (nodes nodes' : ℕ → Option Node) (height address : ℕ)
    (items : List Item) → IsTree tree super nodes height address items
    → ((q : ℕ) → Reaches nodes height address q → nodes' q ≡ nodes q) → IsTree tree super nodes' height address items
IsTree-same tree super nodes nodes' height address items is same = record {
  walked = walk-same (form_failure tree super) nodes nodes' height (root_expected (Some height) None) address same
      ∙ is.walked;
  items_are = items-same nodes nodes' height address same ∙ is.items_are;
}

-- a node that is put where the tree does not reach leaves it so
pub IsTree-put : (tree : TreeKind) (super : Super) (nodes nodes' : ℕ → Option Node) (put : ℕ) (node : Node)
    (height address : ℕ) (items : List Item)
    → ((q : ℕ) → nodes' q ≡ if q == put then Some node else nodes q) → (Reaches nodes height address put → ⊥)
    → IsTree tree super nodes height address items
    → IsTree tree super nodes' height address items
IsTree-put tree super nodes nodes' put node height address items is apart stands =
    IsTree-same tree super nodes nodes' height address items stands (λ q reaches. elim (eqb_tells q put) [
      | inl (is_same, there) ↦ absurd (apart (subst (λ (a : ℕ). Reaches nodes height address a) there reaches))
      | inr (is_other, other) ↦ is q ∙ ap (λ (b : Bool). if b then Some node else nodes q) is_other
    ])
