-- The two sides of a node that was cut, or of two that share anew: both are nodes, and the left one's keys are less
-- than the right one's.
use Rattle.std.proofs.Common.{◌≡◌, ℕ, ◌+◌, ◌*◌, ◌≤◌, true, List, [], ◌∷◌, ◌++◌, length, sym, ap, subst, ◌∙◌, arith}
use Rattle.std.specs.Prelude.{Some}
use Rattle.std.specs.List.{All, list_all}
use Rattle.std.specs.Ordering.{is_lt}
use Rattle.std.proofs.lemmas.Bool.{and_from, le-leb}
use Rattle.std.proofs.lemmas.List.Elements.{All-drop, All-take}
use Rattle.std.proofs.Math.Seq.{drop-append_seam, take-append_seam}
use Rattle.qg_num.specs.declared.key.Key.{Key}
use Rattle.qg_num.specs.Key.{key_cmp}
use Rattle.qg_node.specs.declared.item.Item.{Item}
use Rattle.qg_node.specs.declared.node.Header.{Header}
use Rattle.qg_node.specs.declared.node.Node.{Node}
use Rattle.qg_node.specs.declared.node.Node.TheVariants.{Leaf, Inner}
use Rattle.qg_node.specs.Fits.{HeaderFits, ItemFits, NodeFits, PointerFits}
use Rattle.qg_node.specs.Nodes.{header_of, is_ascending, own_items, own_keys, own_pointers, used_bytes}
use Rattle.qg_node.specs.NodeText.{IsLevelled, IsNode}
use Rattle.qg_super.specs.Places.{capacity}
use Rattle.qg_image.specs.IsShaped.{is_first, is_shaped}
use Rattle.qg_shape.specs.Parts.{AreAlike, whole_of}
use Rattle.qg_shape.specs.Filled.{Fits, HasShortBodies, IsFilled}
use Rattle.qg_shape.specs.Outcomes.{IsParted, IsSplit}
use Rattle.qg_shape.specs.Pointing.{first_key, pointer_to}
use Rattle.qg_shape.proofs.Ascending.{all_before, ascending_back, ascending_front, same_itself}
use Rattle.qg_shape.proofs.Together.{header_of-whole_of, own_items-whole_of, own_keys-whole_of}
use Rattle.qg_shape.proofs.Weights.{used_bytes-whole_of}

-- ---- a filled node

pub some_keys : (nodesize : ℕ) (node : Node) → 102 ≤ nodesize → IsFilled nodesize node → 1 ≤ length (own_keys node)
some_keys nodesize (Leaf header []) wide filled = absurd (omega (arith, filled.full))
some_keys nodesize (Leaf header (item ∷ items)) wide filled = omega arith
some_keys nodesize (Inner header []) wide filled = absurd (omega (arith, filled.full))
some_keys nodesize (Inner header (pointer ∷ pointers)) wide filled = omega arith

pub first_itself : (keys : List Key) → 1 ≤ length keys → is_first (first_key keys) keys ≡ true
first_itself [] some = absurd (omega arith)
first_itself (key ∷ keys) some = same_itself key

-- a filled node is shaped below the pointer to it
pub is_shaped-pointer_to : (nodesize : ℕ) (node : Node) → 102 ≤ nodesize → IsFilled nodesize node
    → is_shaped nodesize (Some (pointer_to node).key) node ≡ true
unfolding is_shaped
is_shaped-pointer_to nodesize node wide filled =
    and_from _ _ (le-leb (capacity nodesize) (4 * used_bytes node) filled.full)
    (first_itself (own_keys node) (some_keys nodesize node wide filled))

-- two nodes that fit in one and are not thin together fill it
pub IsFilled-whole_of : (nodesize : ℕ) (left right : Node) → AreAlike left right
    → capacity nodesize ≤ 4 * (used_bytes left + used_bytes right) → Fits nodesize (whole_of left right)
    → IsFilled nodesize (whole_of left right)
IsFilled-whole_of nodesize left right alike full fits =
    record { fits = fits; full = omega (arith, full, used_bytes-whole_of left right alike) }

-- ---- two sides of one node

pub record AreSides (nodesize : ℕ) (left right : Node) : Type 0 where
  pub left_node : IsNode nodesize left
  pub right_node : IsNode nodesize right
  pub below : list_all (λ key. is_lt (key_cmp key (first_key (own_keys right)))) (own_keys left) ≡ true

left_levelled : (nodesize : ℕ) (left right : Node) → 102 ≤ nodesize → IsFilled nodesize left
    → IsLevelled (whole_of left right) → IsLevelled left
left_levelled nodesize (Leaf header items) right wide filled levelled = levelled
left_levelled nodesize (Inner header pointers) right wide filled levelled =
    (levelled.0, levelled.1, omega (arith, filled.full))

right_levelled : (nodesize : ℕ) (left right : Node) → 102 ≤ nodesize → AreAlike left right
    → (header_of right).level ≡ (header_of left).level → IsFilled nodesize right → IsLevelled (whole_of left right)
    → IsLevelled right
right_levelled nodesize (Leaf header items) (Leaf header' others) wide alike same filled levelled = same ∙ levelled
right_levelled nodesize (Leaf header items) (Inner header' pointers) wide alike same filled levelled = absurd alike
right_levelled nodesize (Inner header pointers) (Leaf header' items) wide alike same filled levelled = absurd alike
right_levelled nodesize (Inner header pointers) (Inner header' others) wide alike same filled levelled =
    (omega (arith, levelled.0, same), omega (arith, levelled.1, same), omega (arith, filled.full))

all_below : (front back : List Key) → 1 ≤ length back → is_ascending (front ++ back) ≡ true
    → list_all (λ key. is_lt (key_cmp key (first_key back))) front ≡ true
all_below front [] some ascending = absurd (omega arith)
all_below front (key ∷ back) some ascending = all_before front key back ascending

pub AreSides-filled : (nodesize : ℕ) (left right : Node) → 102 ≤ nodesize → AreAlike left right
    → (header_of right).level ≡ (header_of left).level → IsFilled nodesize left → IsFilled nodesize right
    → IsLevelled (whole_of left right) → is_ascending (own_keys (whole_of left right)) ≡ true
    → AreSides nodesize left right
AreSides-filled nodesize left right wide alike same left_filled right_filled levelled ascending =
    let keys : is_ascending (own_keys left ++ own_keys right) ≡ true =
    ap is_ascending (sym (own_keys-whole_of left right alike)) ∙ ascending in
    record {
      left_node = record {
        levelled = left_levelled nodesize left right wide left_filled levelled;
        ascending = ascending_front (own_keys left) (own_keys right) keys;
        fits = left_filled.fits;
      };
      right_node = record {
        levelled = right_levelled nodesize left right wide alike same right_filled levelled;
        ascending = ascending_back (own_keys left) (own_keys right) keys;
        fits = right_filled.fits;
      };
      below = all_below (own_keys left) (own_keys right) (some_keys nodesize right wide right_filled) keys;
    }

-- the numbers of both fit where those of the whole do
pub front-all : {A : Type 0} (P : A → Type 0) (front back : List A) → All P (front ++ back) → All P front
front-all P front back all = subst (All P) (take-append_seam front back) (All-take P (length front) (front ++ back) all)

pub back-all : {A : Type 0} (P : A → Type 0) (front back : List A) → All P (front ++ back) → All P back
back-all P front back all = subst (All P) (drop-append_seam front back) (All-drop P (length front) (front ++ back) all)

pub left_fits : (left right : Node) → AreAlike left right → NodeFits (whole_of left right) → NodeFits left
left_fits (Leaf header items) right alike fits = (fits.0, front-all ItemFits items (own_items right) fits.1)
left_fits (Inner header pointers) right alike fits =
    (fits.0, front-all PointerFits pointers (own_pointers right) fits.1)

pub right_fits : (left right : Node) → AreAlike left right → HeaderFits (header_of right)
    → NodeFits (whole_of left right) → NodeFits right
right_fits (Leaf header items) (Leaf header' others) alike own fits = (own, back-all ItemFits items others fits.1)
right_fits (Leaf header items) (Inner header' pointers) alike own fits = absurd alike
right_fits (Inner header pointers) (Leaf header' items) alike own fits = absurd alike
right_fits (Inner header pointers) (Inner header' others) alike own fits =
    (own, back-all PointerFits pointers others fits.1)

abbrev AreShort : List Item → Type 0
AreShort items = All (λ item. length item.body ≤ 1024) items

pub left_short : (left right : Node) → AreAlike left right → HasShortBodies (whole_of left right) → HasShortBodies left
left_short left right alike short = front-all (λ (item : Item). length item.body ≤ 1024) (own_items left)
    (own_items right) (subst AreShort (own_items-whole_of left right alike) short)

pub right_short : (left right : Node) → AreAlike left right → HasShortBodies (whole_of left right)
    → HasShortBodies right
right_short left right alike short = back-all (λ (item : Item). length item.body ≤ 1024) (own_items left)
    (own_items right) (subst AreShort (own_items-whole_of left right alike) short)

-- ---- what a split and a join leave

-- the two parts of a node that was cut are nodes
pub AreSides-split : (nodesize address : ℕ) (old front rest : Node) → 102 ≤ nodesize
    → IsSplit nodesize address old front rest → IsLevelled old → is_ascending (own_keys old) ≡ true
    → AreSides nodesize front rest
AreSides-split nodesize address old front rest wide split levelled ascending =
    let same : (header_of rest).level ≡ (header_of front).level =
    ap (λ (header : Header). header.level) split.header ∙ ap (λ (node : Node). (header_of node).level) (sym split.whole)
    ∙ ap (λ (header : Header). header.level) (header_of-whole_of front rest) in
    AreSides-filled nodesize front rest wide split.alike same split.front_filled split.rest_filled
    (subst IsLevelled (sym split.whole) levelled) (ap (λ (node : Node). is_ascending (own_keys node)) split.whole
    ∙ ascending)

-- the two parts use what the node did
pub used_bytes-split : (nodesize address : ℕ) (old front rest : Node) → IsSplit nodesize address old front rest
    → used_bytes front + used_bytes rest ≡ used_bytes old
used_bytes-split nodesize address old front rest split = sym (used_bytes-whole_of front rest split.alike)
    ∙ ap used_bytes split.whole

-- the front keeps the header
pub header_of-split : (nodesize address : ℕ) (old front rest : Node) → IsSplit nodesize address old front rest
    → header_of front ≡ header_of old
header_of-split nodesize address old front rest split = sym (header_of-whole_of front rest) ∙ ap header_of split.whole

-- two neighbours that share anew are nodes
pub AreSides-parted : (nodesize : ℕ) (left right new_left new_right : Node) → 102 ≤ nodesize
    → IsParted nodesize left right new_left new_right → (header_of right).level ≡ (header_of left).level
    → IsLevelled (whole_of left right) → is_ascending (own_keys (whole_of left right)) ≡ true
    → AreSides nodesize new_left new_right
AreSides-parted nodesize left right new_left new_right wide parted level levelled ascending =
    let same : (header_of new_right).level ≡ (header_of new_left).level =
    ap (λ (header : Header). header.level) parted.header ∙ level
    ∙ ap (λ (header : Header). header.level) (sym (header_of-whole_of left right))
    ∙ ap (λ (node : Node). (header_of node).level) (sym parted.whole)
    ∙ ap (λ (header : Header). header.level) (header_of-whole_of new_left new_right) in
    AreSides-filled nodesize new_left new_right wide parted.alike same parted.left_filled parted.right_filled
    (subst IsLevelled (sym parted.whole) levelled)
    (ap (λ (node : Node). is_ascending (own_keys node)) parted.whole ∙ ascending)

pub header_of-parted : (nodesize : ℕ) (left right new_left new_right : Node)
    → IsParted nodesize left right new_left new_right → header_of new_left ≡ header_of left
header_of-parted nodesize left right new_left new_right parted = sym (header_of-whole_of new_left new_right)
    ∙ ap header_of parted.whole ∙ header_of-whole_of left right
