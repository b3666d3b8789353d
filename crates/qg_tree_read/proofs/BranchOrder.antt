-- The items that the walk tells ascend.
use Rattle.std.proofs.Common.{◌≡◌, ℕ, zero, suc, true, List, [], ◌∷◌, ◌++◌, map, refl, sym, ap, ◌∙◌, append-nil, Option}
use Rattle.std.proofs.Common.{Some, None}
use Rattle.std.specs.List.{list_all}
use Rattle.std.specs.Ordering.{is_lt}
use Rattle.std.specs.Prelude.{IsTrue}
use Rattle.std.proofs.lemmas.Bool.{and_from}
use Rattle.std.proofs.lemmas.List.{map-append}
use Rattle.std.proofs.lemmas.List.Folds.{list_all-map}
use Rattle.qg_num.specs.Key.{key_cmp}
use Rattle.qg_num.specs.declared.key.Key.{Key}
use Rattle.qg_node.specs.declared.item.Item.{Item}
use Rattle.qg_node.specs.declared.pointer.Pointer.{Pointer}
use Rattle.qg_node.specs.declared.node.Node.{Node}
use Rattle.qg_node.specs.declared.node.Node.TheVariants.{Leaf, Inner}
use Rattle.qg_node.specs.Nodes.{is_ascending, own_keys}
use Rattle.qg_super.specs.declared.superblock.Super.{Super}
use Rattle.qg_shape.proofs.Ascending.{all_behind, ascending_tail_of}
use Rattle.qg_blocks.specs.Types.{TreeKind}
use Rattle.qg_blocks.specs.Types.{Expected}
use Rattle.qg_walk.specs.Added.{AreWithin, is_from, is_to}
use Rattle.qg_walk.specs.Standing.{expected_below}
use Rattle.qg_walk.proofs.KeyRanges.{AreWithin-append, ends_before-each, list_all-true, list_all-weaker}
use Rattle.qg_walk.proofs.KeyRanges.{not_less_behind, not_less_itself}
use Rattle.qg_tree_read.proofs.Split.{keys_to}
use Rattle.qg_tree_read.proofs.Under.{AreUnder, IsUnder, all_from, all_to, both-under, from-pointers, none-under}
use Rattle.qg_tree_read.proofs.Under.{to-under, under-inner, under-leaf}

-- the keys of items
abbrev pub keys_of : List Item → List Key
keys_of items = map (λ item. item.key) items

-- items with a key between ascend together
pub ascending-between : (key : Key) (front back : List Item) → is_ascending (keys_of front) ≡ true
    → all_to (Some key) front ≡ true → is_ascending (keys_of back) ≡ true
    → all_from (Some key) back ≡ true → is_ascending (keys_of (front ++ back)) ≡ true
ascending-between key front back ascending to behind from =
    let low : AreWithin None (Some key) (keys_of front) = record {
      ascending = ascending;
      first = list_all-true (keys_of front);
      last = ends_before-each (Some key) (keys_of front)
          ∙ list_all-map (is_to (Some key)) (λ (item : Item). item.key) front ∙ to;
    } in
    let high : AreWithin (Some key) None (keys_of back) = record {
      ascending = behind;
      first = list_all-map (is_from (Some key)) (λ (item : Item). item.key) back ∙ from;
      last = refl;
    } in
    ap is_ascending (map-append (λ (item : Item). item.key) front back)
    ∙ (AreWithin-append None None key (keys_of front) (keys_of back) low high refl refl).ascending

-- of ascending pointers none is less than the first
pub pointers-from : (pointer : Pointer) (pointers : List Pointer) → is_ascending (keys_to (pointer ∷ pointers)) ≡ true
    → list_all (λ other. is_from (Some pointer.key) other.key) (pointer ∷ pointers) ≡ true
unfolding is_ascending
pointers-from pointer pointers ascending =
    and_from (is_from (Some pointer.key) pointer.key)
    (list_all (λ (other : Pointer). is_from (Some pointer.key) other.key) pointers) (not_less_itself pointer.key)
    (sym (list_all-map (is_from (Some pointer.key)) (λ (other : Pointer). other.key) pointers)
    ∙ list_all-weaker (λ (later : Key). is_lt (key_cmp pointer.key later)) (is_from (Some pointer.key))
    (not_less_behind pointer.key) (keys_to pointers)
    (all_behind pointer.key (keys_to pointers) ascending))

module _ (tree : TreeKind) (super : Super) (nodes : ℕ → Option Node) where
  ascends_each : (level : ℕ) → ((expected : Expected) (address : ℕ) (items : List Item)
      → IsUnder tree super nodes level expected address items → is_ascending (keys_of items) ≡ true)
      → (to : Option Key) (pointers : List Pointer) (items : List Item) → is_ascending (keys_to pointers) ≡ true
      → AreUnder tree super nodes level to pointers items
      → is_ascending (keys_of items) ≡ true
  unfolding is_ascending
  ascends_each level ascends to [] items ascending under = rw (none-under tree super nodes level to items under) refl
  ascends_each level ascends to (pointer ∷ []) items ascending under =
      let both = both-under tree super nodes level to pointer [] items under in
      let alone : items ≡ both.first = both.items_are
      ∙ ap (λ (zs : List Item). both.first ++ zs) (none-under tree super nodes level to both.others both.behind)
      ∙ append-nil both.first in
      rw alone (ascends (expected_below level to pointer []) pointer.child both.first both.here)
  ascends_each level ascends to (pointer ∷ (next ∷ pointers)) items ascending under =
      let both = both-under tree super nodes level to pointer (next ∷ pointers) items under in
      let expected = expected_below level to pointer (next ∷ pointers) in
      let later : is_ascending (keys_to (next ∷ pointers)) ≡ true =
      ascending_tail_of pointer.key (keys_to (next ∷ pointers)) ascending in
      let here = ascends expected pointer.child both.first both.here in
      let less = to-under tree super nodes level expected pointer.child both.first both.here in
      let behind = ascends_each level ascends to (next ∷ pointers) both.others later both.behind in
      let from = from-pointers tree super nodes level (Some next.key) to (next ∷ pointers) both.others
      (pointers-from next pointers later) both.behind in
      rw both.items_are (ascending-between next.key both.first both.others here less behind from)

  -- where the keys of each node ascend, so do the items that the walk tells
  pub ascends-under : ((q : ℕ) (node : Node) → nodes q ≡ Some node → IsTrue (is_ascending (own_keys node)))
      → (level : ℕ) (expected : Expected) (address : ℕ) (items : List Item)
      → IsUnder tree super nodes level expected address items → is_ascending (keys_of items) ≡ true
  ascends-under own zero expected address items under =
      let leaf = under-leaf tree super nodes expected address items under in
      own address (Leaf leaf.header items) leaf.here
  ascends-under own (suc level) expected address items under =
      let inner = under-inner tree super nodes level expected address items under in
      ascends_each level (ascends-under own level) expected.to inner.pointers items
      (own address (Inner inner.header inner.pointers) inner.here) inner.below
