-- Two nodes beside each other, and the items or pointers of both.
use Rattle.std.proofs.Common.{◌≡◌, ◌≤◌, ◌<◌, true, List, ◌++◌, length, length-append, refl, sym, ap, subst, ◌∙◌, arith}
use Rattle.std.specs.List.{All, list_all}
use Rattle.std.specs.Ordering.{is_lt}
use Rattle.std.proofs.lemmas.List.{map-append}
use Rattle.std.proofs.lemmas.List.Elements.{All-append}
use Rattle.qg_num.specs.Key.{key_cmp}
use Rattle.qg_node.specs.declared.item.Item.{Item}
use Rattle.qg_node.specs.declared.pointer.Pointer.{Pointer}
use Rattle.qg_node.specs.declared.node.Node.{Node}
use Rattle.qg_node.specs.declared.node.Node.TheVariants.{Leaf, Inner}
use Rattle.qg_node.specs.Fits.{ItemFits, NodeFits, PointerFits}
use Rattle.qg_node.specs.Nodes.{header_of, is_ascending, own_items, own_keys, own_pointers}
use Rattle.qg_node.specs.NodeText.{IsLevelled}
use Rattle.qg_shape.specs.Parts.{AreAlike, whole_of}
use Rattle.qg_shape.specs.Filled.{HasShortBodies}
use Rattle.qg_shape.specs.Pointing.{first_key}
use Rattle.qg_shape.proofs.Ascending.{ascending_together}

-- ---- what both have

pub header_of-whole_of : (left right : Node) → header_of (whole_of left right) ≡ header_of left
header_of-whole_of (Leaf header items) right = refl
header_of-whole_of (Inner header pointers) right = refl

pub own_items-whole_of : (left right : Node) → AreAlike left right → own_items (whole_of left right) ≡ own_items left
    ++ own_items right
own_items-whole_of (Leaf header items) right alike = refl
own_items-whole_of (Inner header pointers) (Leaf header' items) alike = absurd alike
own_items-whole_of (Inner header pointers) (Inner header' others) alike = refl

pub own_pointers-whole_of : (left right : Node) → AreAlike left right
    → own_pointers (whole_of left right) ≡ own_pointers left ++ own_pointers right
own_pointers-whole_of (Leaf header items) (Leaf header' others) alike = refl
own_pointers-whole_of (Leaf header items) (Inner header' pointers) alike = absurd alike
own_pointers-whole_of (Inner header pointers) right alike = refl

pub own_keys-whole_of : (left right : Node) → AreAlike left right → own_keys (whole_of left right) ≡ own_keys left
    ++ own_keys right
own_keys-whole_of (Leaf header items) (Leaf header' others) alike = map-append (λ (item : Item). item.key) items others
own_keys-whole_of (Leaf header items) (Inner header' pointers) alike = absurd alike
own_keys-whole_of (Inner header pointers) (Leaf header' items) alike = absurd alike
own_keys-whole_of (Inner header pointers) (Inner header' others) alike =
    map-append (λ (pointer : Pointer). pointer.key) pointers others

-- keys ascend together where the left one's are less than the right one's first
pub ascending-whole_of : (left right : Node) → AreAlike left right → is_ascending (own_keys left) ≡ true
    → is_ascending (own_keys right) ≡ true
    → (0 < length (own_keys right) → list_all (λ key. is_lt (key_cmp key (first_key (own_keys right)))) (own_keys left)
    ≡ true) → is_ascending (own_keys (whole_of left right)) ≡ true
ascending-whole_of left right alike h k below = ap is_ascending (own_keys-whole_of left right alike)
    ∙ ascending_together (own_keys left) (own_keys right) h k below

-- the level is a node's where it is of either, as the other may be empty
pub levelled_left : (left right : Node) → IsLevelled left → IsLevelled (whole_of left right)
levelled_left (Leaf header items) right levelled = levelled
levelled_left (Inner header pointers) right levelled =
    (levelled.0, levelled.1, omega (arith, levelled.2, length-append pointers (own_pointers right)))

pub levelled_right : (left right : Node) → AreAlike left right → (header_of left).level ≡ (header_of right).level
    → IsLevelled right → IsLevelled (whole_of left right)
levelled_right (Leaf header items) (Leaf header' others) alike same levelled = same ∙ levelled
levelled_right (Leaf header items) (Inner header' pointers) alike same levelled = absurd alike
levelled_right (Inner header pointers) (Leaf header' items) alike same levelled = absurd alike
levelled_right (Inner header pointers) (Inner header' others) alike same levelled = (
  omega (arith, levelled.0, same),
  omega (arith, levelled.1, same),
  omega
      (arith, levelled.2, length-append pointers others),
)

pub NodeFits-whole_of : (left right : Node) → AreAlike left right → NodeFits left → NodeFits right
    → NodeFits (whole_of left right)
NodeFits-whole_of (Leaf header items) (Leaf header' others) alike fits other =
    (fits.0, All-append ItemFits items others fits.1 other.1)
NodeFits-whole_of (Leaf header items) (Inner header' pointers) alike fits other = absurd alike
NodeFits-whole_of (Inner header pointers) (Leaf header' items) alike fits other = absurd alike
NodeFits-whole_of (Inner header pointers) (Inner header' others) alike fits other =
    (fits.0, All-append PointerFits pointers others fits.1 other.1)

pub HasShortBodies-whole_of : (left right : Node) → AreAlike left right → HasShortBodies left → HasShortBodies right
    → HasShortBodies (whole_of left right)
HasShortBodies-whole_of left right alike short other =
    subst HasShort (sym (own_items-whole_of left right alike))
    (All-append (λ item. length item.body ≤ 1024) (own_items left) (own_items right) short other)
  where
    HasShort : List Item → Type 0
    HasShort items = All (λ item. length item.body ≤ 1024) items
