-- What stands under a node, level by level, as the walk tells it.
use Rattle.std.proofs.Common.{◌≡◌, ℕ, zero, suc, ◌-◌, true, List, [], ◌∷◌, ◌++◌, map, arith, refl, sym, ap, subst, ◌∙◌}
use Rattle.std.proofs.Common.{Option, Some, None}
use Rattle.std.specs.Prelude.{Bool}
use Rattle.std.specs.List.{list_all}
use Rattle.std.specs.Option.{option_and_then}
use Rattle.std.proofs.lemmas.Bool.{and_parts, eqb-true}
use Rattle.std.proofs.lemmas.List.Folds.{list_all-map}
use Rattle.qg_num.specs.declared.key.Key.{Key}
use Rattle.qg_node.specs.declared.item.Item.{Item}
use Rattle.qg_node.specs.declared.pointer.Pointer.{Pointer}
use Rattle.qg_node.specs.declared.node.Header.{Header}
use Rattle.qg_node.specs.declared.node.Node.{Node}
use Rattle.qg_node.specs.declared.node.Node.TheVariants.{Leaf, Inner}
use Rattle.qg_node.specs.Nodes.{own_keys}
use Rattle.qg_super.specs.declared.superblock.Super.{Super}
use Rattle.qg_blocks.specs.Below.{inner_pointers, items_below, joined, leaf_items}
use Rattle.qg_blocks.specs.IsShaped.{is_first, is_shaped}
use Rattle.qg_blocks.specs.Types.{Failure}
use Rattle.qg_blocks.specs.Types.{TreeKind}
use Rattle.qg_blocks.specs.Types.{Expected}
use Rattle.qg_blocks.specs.Among.{found_there}
use Rattle.qg_blocks.specs.Walk.{found_failure, is_told, next_key, pointers_failure, shape_failure, walk_failure}
use Rattle.qg_blocks.specs.Walk.{way_failure}
use Rattle.qg_num.specs.declared.rule.Rule.TheVariants as rule
use Rattle.qg_walk.specs.Added.{is_from, is_to}
use Rattle.qg_walk.specs.Standing.{expected_below, form_failure}
use Rattle.qg_walk.proofs.Failures.{IsFormed-form, kept-none, neither}
use Rattle.qg_walk.proofs.KeyRanges.{begins_at-all, ends_before-each, is_from-later, is_to-earlier, list_all-both}
use Rattle.qg_walk.proofs.KeyRanges.{list_all-weaker, same_key-true}
use Rattle.qg_tree_read.specs.Tree.{found_in}

-- the walk of these nodes by the rules from `depth` to `shape`
abbrev pub walk_in : TreeKind → Super → (ℕ → Option Node) → ℕ → Expected → ℕ → Option Failure
walk_in tree super nodes = walk_failure (form_failure tree super) (found_in nodes)

abbrev pub below_in : (ℕ → Option Node) → ℕ → Pointer → Option (List Item)
below_in nodes level = λ pointer. items_below nodes level pointer.child

-- ---- a node of a level, and what stands under it

-- the walk meets no failure from the node of a level on, and these are the items under it
pub record IsUnder (tree : TreeKind) (super : Super) (nodes : ℕ → Option Node) (level : ℕ) (expected : Expected)
    (address : ℕ) (items : List Item) : Type 0 where
  pub levelled : expected.level ≡ Some level
  pub walked : walk_in tree super nodes level expected address ≡ None
  pub items_are : items_below nodes level address ≡ Some items

-- so it is under pointers to nodes of a level
pub record AreUnder (tree : TreeKind) (super : Super) (nodes : ℕ → Option Node) (level : ℕ) (to : Option Key)
    (pointers : List Pointer) (items : List Item) : Type 0 where
  pub walked : pointers_failure (walk_in tree super nodes level) level to pointers ≡ None
  pub items_are : joined (below_in nodes level) pointers ≡ Some items

-- a leaf
pub record IsLeafUnder (tree : TreeKind) (super : Super) (nodes : ℕ → Option Node) (expected : Expected) (address : ℕ)
    (items : List Item) : Type 0 where
  pub header : Header
  pub here : nodes address ≡ Some (Leaf header items)
  pub formed : form_failure tree super expected address (Leaf header items) ≡ None

-- an inner node, whose children have a level
pub record IsInnerUnder (tree : TreeKind) (super : Super) (nodes : ℕ → Option Node) (level : ℕ) (expected : Expected)
    (address : ℕ) (items : List Item) : Type 0 where
  pub header : Header
  pub pointers : List Pointer
  pub here : nodes address ≡ Some (Inner header pointers)
  pub formed : form_failure tree super expected address (Inner header pointers) ≡ None
  pub level_is : header.level ≡ suc level
  pub below : AreUnder tree super nodes level expected.to pointers items

pub level-told : (told : Option ℕ) (level n : ℕ) → told ≡ Some level → is_told told n ≡ true → n ≡ level
level-told None level n told is = cc
level-told (Some t) level n told is = let same = eqb-true t n is in cc

leaf_from : (tree : TreeKind) (super : Super) (nodes : ℕ → Option Node) (expected : Expected) (address : ℕ)
    (items : List Item) (o : Option Node) → nodes address ≡ o
    → found_failure (form_failure tree super) (λ expected address. None) expected address (found_there o address) ≡ None
    → option_and_then leaf_items o ≡ Some items
    → IsLeafUnder tree super nodes expected address items
leaf_from tree super nodes expected address items None is walked items_are = absurd cc
leaf_from tree super nodes expected address items (Some (Inner header pointers)) is walked items_are = absurd cc
leaf_from tree super nodes expected address items (Some (Leaf header own)) is walked items_are =
    let same : own ≡ items = cc in
    let formed = (neither (form_failure tree super expected address (Leaf header own)) None walked).0 in
    record {
      header = header;
      here = is ∙ ap (λ (xs : List Item). Some (Leaf header xs)) same;
      formed = subst (λ (xs : List Item). form_failure tree super expected address (Leaf header xs) ≡ None) same formed;
    }

pub under-leaf : (tree : TreeKind) (super : Super) (nodes : ℕ → Option Node) (expected : Expected) (address : ℕ)
    (items : List Item)
    → IsUnder tree super nodes 0 expected address items → IsLeafUnder tree super nodes expected address items
unfolding walk_failure
under-leaf tree super nodes expected address items under =
    leaf_from tree super nodes expected address items (nodes address) refl under.walked under.items_are

inner_from : (tree : TreeKind) (super : Super) (nodes : ℕ → Option Node) (level : ℕ) (expected : Expected) (address : ℕ)
    (items : List Item) (o : Option Node) → nodes address ≡ o
    → expected.level ≡ Some (suc level)
    → found_failure (form_failure tree super) (walk_in tree super nodes level) expected address (found_there o address)
    ≡ None
    → option_and_then (joined (below_in nodes level)) (option_and_then inner_pointers o) ≡ Some items
    → IsInnerUnder tree super nodes level expected address items
inner_from tree super nodes level expected address items None is levelled walked items_are = absurd cc
inner_from tree super nodes level expected address items (Some (Leaf header own)) is levelled walked items_are =
    absurd cc
inner_from tree super nodes level expected address items (Some (Inner header pointers)) is levelled walked items_are =
    let below = pointers_failure (walk_in tree super nodes level) (header.level - 1) expected.to pointers in
    let parts = neither (form_failure tree super expected address (Inner header pointers)) below walked in
    let formed = IsFormed-form tree super expected address (Inner header pointers) parts.0 in
    let high : header.level ≡ suc level = level-told expected.level (suc level) header.level levelled formed.level in
    let low : header.level - 1 ≡ level = omega (arith, high) in
    record {
      header = header;
      pointers = pointers;
      here = is;
      formed = parts.0;
      level_is = high;
      below = record {
        walked = subst
            (λ (n : ℕ). pointers_failure (walk_in tree super nodes level) n expected.to pointers ≡ None) low parts.1;
        items_are = items_are;
      };
    }

pub under-inner : (tree : TreeKind) (super : Super) (nodes : ℕ → Option Node) (level : ℕ) (expected : Expected)
    (address : ℕ) (items : List Item)
    → IsUnder tree super nodes (suc level) expected address items
    → IsInnerUnder tree super nodes level expected address items
unfolding walk_failure
under-inner tree super nodes level expected address items under =
    inner_from tree super nodes level expected address items (nodes address) refl under.levelled under.walked
    under.items_are

-- ---- pointers, one by one

joined_none : {A : Type 0} (under : Pointer → Option (List A)) (items : List A) → joined under [] ≡ Some items
    → items ≡ []
joined_none under items is = cc

pub none-under : (tree : TreeKind) (super : Super) (nodes : ℕ → Option Node) (level : ℕ) (to : Option Key)
    (items : List Item) → AreUnder tree super nodes level to [] items → items ≡ []
none-under tree super nodes level to items under = joined_none (below_in nodes level) items under.items_are

-- the items under the first pointer, and those under the others
pub record AreBoth (tree : TreeKind) (super : Super) (nodes : ℕ → Option Node) (level : ℕ) (to : Option Key)
    (pointer : Pointer) (pointers : List Pointer) (items : List Item) : Type 0 where
  pub first : List Item
  pub others : List Item
  pub items_are : items ≡ first ++ others
  pub here : IsUnder tree super nodes level (expected_below level to pointer pointers) pointer.child first
  pub behind : AreUnder tree super nodes level to pointers others

joined_both : {A : Type 0} (a b : Option (List A)) (items : List A)
    → option_and_then (λ first. option_and_then (λ rest. Some (first ++ rest)) b) a ≡ Some items
    → (first : List A) × (rest : List A) × (a ≡ Some first) × (b ≡ Some rest) × (items ≡ first ++ rest)
joined_both None b items is = absurd cc
joined_both (Some first) None items is = absurd cc
joined_both (Some first) (Some rest) items is = (first, rest, refl, refl, cc)

pub both-under : (tree : TreeKind) (super : Super) (nodes : ℕ → Option Node) (level : ℕ) (to : Option Key)
    (pointer : Pointer) (pointers : List Pointer) (items : List Item)
    → AreUnder tree super nodes level to (pointer ∷ pointers) items
    → AreBoth tree super nodes level to pointer pointers items
both-under tree super nodes level to pointer pointers items under =
    let walks = neither (walk_in tree super nodes level (expected_below level to pointer pointers) pointer.child)
    (pointers_failure (walk_in tree super nodes level) level to pointers) under.walked in
    let parts = joined_both (below_in nodes level pointer) (joined (below_in nodes level) pointers) items
    under.items_are in
    record {
      first = parts.0;
      others = parts.1;
      items_are = parts.4;
      here = record { levelled = refl; walked = walks.0; items_are = parts.2 };
      behind = record { walked = walks.1; items_are = parts.3 };
    }

-- ---- no item is less than the key that the way begins at

abbrev pub all_from : Option Key → List Item → Bool
all_from from items = list_all (λ item. is_from from item.key) items

abbrev pub all_to : Option Key → List Item → Bool
all_to to items = list_all (λ item. is_to to item.key) items

module _ (tree : TreeKind) (super : Super) (nodes : ℕ → Option Node) where
  from_each : (level : ℕ) → ((expected : Expected) (address : ℕ) (items : List Item)
      → IsUnder tree super nodes level expected address items → all_from expected.from items ≡ true)
      → (from to : Option Key) (pointers : List Pointer) (items : List Item)
      → list_all (λ pointer. is_from from pointer.key) pointers ≡ true
      → AreUnder tree super nodes level to pointers items → all_from from items ≡ true
  from_each level each from to [] items keys under = rw (none-under tree super nodes level to items under) refl
  from_each level each from to (pointer ∷ pointers) items keys under =
      let both = both-under tree super nodes level to pointer pointers items under in
      let parts = and_parts (is_from from pointer.key)
      (list_all (λ (pointer : Pointer). is_from from pointer.key) pointers) keys in
      let here = each (expected_below level to pointer pointers) pointer.child both.first both.here in
      let first = list_all-weaker (λ (item : Item). is_from (Some pointer.key) item.key)
      (λ (item : Item). is_from from item.key)
      (λ item. is_from-later from pointer.key item.key parts.0) both.first here in
      rw both.items_are (list_all-both (λ (item : Item). is_from from item.key) both.first both.others first
      (from_each level each from to pointers both.others parts.1 both.behind))

  pub from-under : (level : ℕ) (expected : Expected) (address : ℕ) (items : List Item)
      → IsUnder tree super nodes level expected address items → all_from expected.from items ≡ true
  from-under zero expected address items under =
      let leaf = under-leaf tree super nodes expected address items under in
      let formed = IsFormed-form tree super expected address (Leaf leaf.header items) leaf.formed in
      sym (list_all-map (is_from expected.from) (λ (item : Item). item.key) items)
      ∙ begins_at-all expected.from (map (λ (item : Item). item.key) items) formed.begins
  from-under (suc level) expected address items under =
      let inner = under-inner tree super nodes level expected address items under in
      let formed = IsFormed-form tree super expected address (Inner inner.header inner.pointers) inner.formed in
      let keys = sym (list_all-map (is_from expected.from) (λ (pointer : Pointer). pointer.key) inner.pointers)
      ∙ begins_at-all expected.from (map (λ (pointer : Pointer). pointer.key) inner.pointers) formed.begins in
      from_each level (from-under level) expected.from expected.to inner.pointers items keys inner.below

  pub from-pointers : (level : ℕ) (from to : Option Key) (pointers : List Pointer) (items : List Item)
      → list_all (λ pointer. is_from from pointer.key) pointers ≡ true
      → AreUnder tree super nodes level to pointers items → all_from from items ≡ true
  from-pointers level = from_each level (from-under level)

  -- and each is less than the next key on the way
  to_each : (level : ℕ) → ((expected : Expected) (address : ℕ) (items : List Item)
      → IsUnder tree super nodes level expected address items → all_to expected.to items ≡ true)
      → (to : Option Key) (pointers : List Pointer) (items : List Item)
      → list_all (λ pointer. is_to to pointer.key) pointers ≡ true
      → AreUnder tree super nodes level to pointers items → all_to to items ≡ true
  to_each level each to [] items keys under = rw (none-under tree super nodes level to items under) refl
  to_each level each to (pointer ∷ pointers) items keys under =
      let both = both-under tree super nodes level to pointer pointers items under in
      let parts = and_parts (is_to to pointer.key) (list_all (λ (pointer : Pointer). is_to to pointer.key) pointers)
      keys in
      let here = each (expected_below level to pointer pointers) pointer.child both.first both.here in
      let first = earlier to pointers both.first parts.1 here in
      rw both.items_are (list_all-both (λ (item : Item). is_to to item.key) both.first both.others first
      (to_each level each to pointers both.others parts.1 both.behind)) where
        earlier : (to : Option Key) (pointers : List Pointer) (items : List Item)
            → list_all (λ pointer. is_to to pointer.key) pointers ≡ true → all_to (next_key to pointers) items ≡ true
            → all_to to items ≡ true
        earlier to [] items keys h = h
        earlier to (next ∷ pointers) items keys h =
            let parts = and_parts (is_to to next.key) (list_all (λ (pointer : Pointer). is_to to pointer.key) pointers)
            keys in
            list_all-weaker (λ (item : Item). is_to (Some next.key) item.key) (λ (item : Item). is_to to item.key)
            (λ item. is_to-earlier to next.key item.key parts.0) items h

  pub to-under : (level : ℕ) (expected : Expected) (address : ℕ) (items : List Item)
      → IsUnder tree super nodes level expected address items → all_to expected.to items ≡ true
  to-under zero expected address items under =
      let leaf = under-leaf tree super nodes expected address items under in
      let formed = IsFormed-form tree super expected address (Leaf leaf.header items) leaf.formed in
      let keys = map (λ (item : Item). item.key) items in
      sym (list_all-map (is_to expected.to) (λ (item : Item). item.key) items) ∙ sym (ends_before-each expected.to keys)
      ∙ formed.ends
  to-under (suc level) expected address items under =
      let inner = under-inner tree super nodes level expected address items under in
      let formed = IsFormed-form tree super expected address (Inner inner.header inner.pointers) inner.formed in
      let keys = map (λ (pointer : Pointer). pointer.key) inner.pointers in
      let each = sym (list_all-map (is_to expected.to) (λ (pointer : Pointer). pointer.key) inner.pointers)
      ∙ sym (ends_before-each expected.to keys) ∙ formed.ends in
      to_each level (to-under level) expected.to inner.pointers items each inner.below

-- ---- the first item has the key that the way begins at

-- what a node's shape says of its first key
first_of_shape : (nodesize : ℕ) (key : Key) (node : Node) → is_shaped nodesize (Some key) node ≡ true
    → is_first key (own_keys node) ≡ true
unfolding is_shaped
first_of_shape nodesize key node shaped = (and_parts _ (is_first key (own_keys node)) shaped).1

pub formed-first : (tree : TreeKind) (super : Super) (expected : Expected) (address : ℕ) (key : Key) (node : Node)
    → expected.from ≡ Some key
    → form_failure tree super expected address node ≡ None → is_first key (own_keys node) ≡ true
formed-first tree super expected address key node from formed =
    let shape = (neither (way_failure tree super expected address node)
    (shape_failure super.nodesize expected address node) formed).1 in
    let shaped = kept-none (is_shaped super.nodesize expected.from node) rule.Shape address shape in
    first_of_shape super.nodesize key node
    (subst (λ (from : Option Key). is_shaped super.nodesize from node ≡ true) from shaped)

-- items begin at a key
abbrev pub BeginAt : Key → List Item → Type 0
BeginAt key [] = ⊥
BeginAt key (item ∷ items) = item.key ≡ key

begin_front : (key : Key) (front back : List Item) → BeginAt key front → BeginAt key (front ++ back)
begin_front key [] back h = absurd h
begin_front key (item ∷ front) back h = h

begin_keys : (key : Key) (items : List Item) → is_first key (map (λ (item : Item). item.key) items) ≡ true
    → BeginAt key items
begin_keys key [] h = absurd cc
begin_keys key (item ∷ items) h = same_key-true item.key key h

module _ (tree : TreeKind) (super : Super) (nodes : ℕ → Option Node) where
  begin_each : (level : ℕ) → ((expected : Expected) (address : ℕ) (key : Key) (items : List Item)
      → expected.from ≡ Some key → IsUnder tree super nodes level expected address items → BeginAt key items)
      → (key : Key) (to : Option Key) (pointers : List Pointer) (items : List Item)
      → is_first key (map (λ (pointer : Pointer). pointer.key) pointers) ≡ true
      → AreUnder tree super nodes level to pointers items → BeginAt key items
  begin_each level each key to [] items first under = absurd cc
  begin_each level each key to (pointer ∷ pointers) items first under =
      let both = both-under tree super nodes level to pointer pointers items under in
      let same = same_key-true pointer.key key first in
      let here = each (expected_below level to pointer pointers) pointer.child pointer.key both.first refl both.here in
      rw both.items_are (begin_front key both.first both.others (subst (λ (k : Key). BeginAt k both.first) same here))

  pub begins-under : (level : ℕ) (expected : Expected) (address : ℕ) (key : Key) (items : List Item)
      → expected.from ≡ Some key → IsUnder tree super nodes level expected address items → BeginAt key items
  begins-under zero expected address key items from under =
      let leaf = under-leaf tree super nodes expected address items under in
      begin_keys key items (formed-first tree super expected address key (Leaf leaf.header items) from leaf.formed)
  begins-under (suc level) expected address key items from under =
      let inner = under-inner tree super nodes level expected address items under in
      begin_each level (begins-under level) key expected.to inner.pointers items
      (formed-first tree super expected address key (Inner inner.header inner.pointers) from inner.formed) inner.below
