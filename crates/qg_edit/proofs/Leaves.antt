-- A leaf, once its items are changed, and before it is cut.
use Rattle.std.proofs.Common.{◌≡◌, ℕ, zero, suc, ◌+◌, ◌<◌, ◌≤◌, true, List, [], ◌∷◌, length, refl, sym, ap, subst, ◌∙◌}
use Rattle.std.proofs.Common.{arith, get_or, set, Option, Some, None, inl, inr}
use Rattle.std.specs.Prelude.{not, insert, remove, slice_get, ◌↔◌, IsSome, Result, Ok, Err, OnOk, OnErr, IfOk}
use Rattle.std.specs.List.{All}
use Rattle.std.proofs.lemmas.List.Elements.{All-set}
use Rattle.std.proofs.lemmas.Option.{get_or_from_slice_get}
use Rattle.qg_num.specs.declared.key.Key.{Key}
use Rattle.qg_num.specs.declared.rule.Rule.TheVariants.{Refs, Item as ItemRule}
use Rattle.qg_num.specs.declared.fault.BlockFault.{BlockFault}
use Rattle.qg_num.specs.declared.fault.BlockFault.TheVariants.{NoMemory, Disk, Image}
use Rattle.qg_node.specs.declared.item.Item.{Item}
use Rattle.qg_node.specs.declared.pointer.Pointer.{Pointer}
use Rattle.qg_node.specs.declared.node.Header.{Header}
use Rattle.qg_node.specs.declared.node.Node.{Node}
use Rattle.qg_node.specs.declared.node.Node.TheVariants.{Leaf, Inner}
use Rattle.qg_node.specs.Nodes.{header_of, is_ascending, item_bytes, own_items, own_keys, used_bytes}
use Rattle.qg_node.specs.NodeText.{IsLevelled, IsNode, IsNodeSize}
use Rattle.qg_shape.specs.Filled.{HasShortBodies, IsOverfull}
use Rattle.qg_shape.specs.Parts.{IsInner, IsLeaf, with_items, with_pointers}
use Rattle.qg_shape.specs.Places.{GoesAt}
use Rattle.qg_shape.proofs.Edits.{All-insert, All-remove, insert_ascends, remove_ascends}
use Rattle.qg_shape.proofs.Edited.{HasItems-with_items, used_bytes-insert_item, used_bytes-remove_item}
use Rattle.qg_shape.proofs.Edited.{used_bytes-set_item}
use Rattle.qg_edit.specs.declared.edit.Change.{Change}
use Rattle.qg_edit.specs.declared.edit.Change.TheVariants.{Insert, Replace, Remove}
use Rattle.qg_edit.specs.Edits.{CanChange, changed}
use Rattle.qg_edit.specs.Answering.{AnswersBy, CanCut, IsBrokenByChange, IsBrokenUnless, IsChangeable}
use Rattle.qg_edit.specs.Outcome.{IsCutOf, IsLeftOf, IsNodeFor, IsOldOrCleared, RestIsNode, cleared}
use Rattle.qg_edit.proofs.Lists.{has_key-goes, has_key-there, item-there, keys_of, with_item-goes, with_item-there}
use Rattle.qg_edit.proofs.Lists.{without_key-there}

-- a node is what a change makes of a leaf, with an item too much at most
pub record IsChanged (nodesize : ℕ) (key : Key) (change : Change) (leaf mid : Node) : Type 0 where
  pub is : with_items leaf (changed key change (own_items leaf)) ≡ mid
  pub can : CanChange key change (own_items leaf)
  pub header : header_of mid ≡ header_of leaf
  pub levelled : IsLevelled mid
  pub ascending : is_ascending (own_keys mid) ≡ true
  pub by_one : 101 + used_bytes mid ≤ nodesize + 1049
  pub short : HasShortBodies leaf → HasShortBodies mid

-- ---- the same header

pub IsNodeFor-header : (nodesize : ℕ) (old mid new : Node) → header_of mid ≡ header_of old → IsNodeFor nodesize mid new
    → IsNodeFor nodesize old new
IsNodeFor-header nodesize old mid new same is = record {
  sound = is.sound;
  address = is.address ∙ ap (λ (h : Header). h.address) same;
  owner = is.owner ∙ ap (λ (h : Header). h.owner) same;
  generation = is.generation ∙ ap (λ (h : Header). h.generation) same;
}

pub RestIsNode-header : (nodesize : ℕ) (old mid : Node) (rest : Option Node) → header_of mid ≡ header_of old
    → RestIsNode nodesize mid rest → RestIsNode nodesize old rest
RestIsNode-header nodesize old mid None same is = tt
RestIsNode-header nodesize old mid (Some rest) same is = IsNodeFor-header nodesize old mid rest same is

pub IsNodeFor-itself : (nodesize : ℕ) (node : Node) → IsNode nodesize node → IsNodeFor nodesize node node
IsNodeFor-itself nodesize node sound = record { sound = sound; address = refl; owner = refl; generation = refl }

-- an empty leaf
pub IsNodeFor-cleared : (nodesize : ℕ) (node : Node) → IsNodeSize nodesize → IsNodeFor nodesize node (cleared node)
unfolding is_ascending
IsNodeFor-cleared nodesize node size = record {
  sound = record {
    levelled = refl;
    ascending = refl;
    fits = elim size [ inl is ↦ omega (arith, is) | inr is ↦ omega (arith, is) ];
  };
  address = refl;
  owner = refl;
  generation = refl;
}

pub header-pointers : (node : Node) (pointers : List Pointer) → IsInner node
    → header_of (with_pointers node pointers) ≡ header_of node
header-pointers (Leaf header items) pointers is = absurd is
header-pointers (Inner header own) pointers is = refl

-- ---- an item is put in

levelled_same : (leaf : Node) (items : List Item) → IsLeaf leaf → IsLevelled leaf → IsLevelled (with_items leaf items)
levelled_same leaf items is levelled = level leaf is levelled where
  level : (leaf : Node) → IsLeaf leaf → IsLevelled leaf → IsLevelled (with_items leaf items)
  level (Leaf header own) is levelled = levelled
  level (Inner header own) is levelled = absurd is

within : {A : Type 0} (xs : List A) (place : ℕ) (x : A) → slice_get xs place ≡ Some x → place < length xs
within [] place x there = absurd cc
within (y ∷ xs) zero x there = omega arith
within (y ∷ xs) (suc place) x there = let later = within xs place x there in omega (arith, later)

-- a key is put in its own place
keys_set : (items : List Item) (place : ℕ) (key : Key) (new : Item) → slice_get (keys_of items) place ≡ Some key
    → new.key ≡ key → keys_of (set items place new) ≡ keys_of items
keys_set [] place key new there same = refl
keys_set (item ∷ items) zero key new there same = let e : item.key ≡ key = cc in
    ap (λ (k : Key). k ∷ keys_of items) (same ∙ sym e)
keys_set (item ∷ items) (suc place) key new there same =
    ap (λ (ks : List Key). item.key ∷ ks) (keys_set items place key new there same)

module _ (nodesize : ℕ) (leaf : Node) (leafy : IsLeaf leaf) (sound : IsNode nodesize leaf) where
  keys_are : own_keys leaf ≡ keys_of (own_items leaf)
  keys_are = keys leaf leafy where
    keys : (leaf : Node) → IsLeaf leaf → own_keys leaf ≡ keys_of (own_items leaf)
    keys (Leaf header own) is = refl
    keys (Inner header own) is = absurd is

  ascends : is_ascending (keys_of (own_items leaf)) ≡ true
  ascends = ap is_ascending (sym keys_are) ∙ sound.ascending

  pub inserted : (key : Key) (body : List ℕ) (place : ℕ) (mid : Node) → length body ≤ 1024
      → GoesAt (keys_of (own_items leaf)) key place
      → mid ≡ with_items leaf (insert (own_items leaf) place (record { key = key; body = body }))
      → IsChanged nodesize key (Insert body) leaf mid
  inserted key body place mid short goes is =
      let new : Item = record { key = key; body = body } in
      let items = insert (own_items leaf) place new in
      let has = HasItems-with_items leaf items leafy in
      let used = used_bytes-insert_item leaf place new leafy in
      let fits = sound.fits in
      let one : IsChanged nodesize key (Insert body) leaf (with_items leaf items) = record {
        is = ap (with_items leaf) (with_item-goes new (own_items leaf) place goes);
        can = ap not (has_key-goes key (own_items leaf) place goes);
        header = has.header;
        levelled = levelled_same leaf items leafy sound.levelled;
        ascending = ap is_ascending has.keys
            ∙ insert_ascends (λ (item : Item). item.key) (own_items leaf) new place ascends goes;
        by_one = omega (arith, used, fits, short);
        short = λ all. subst (λ (xs : List Item). All (λ item. length item.body ≤ 1024) xs) (sym has.own)
            (All-insert (λ (item : Item). length item.body ≤ 1024) (own_items leaf) new place all short);
      } in
      subst (λ (n : Node). IsChanged nodesize key (Insert body) leaf n) (sym is) one

  bytes_at : (place : ℕ) (item : Item) → slice_get (own_items leaf) place ≡ Some item
      → get_or (own_items leaf) place item ≡ item
  bytes_at place item there = get_or_from_slice_get (own_items leaf) place item item there

  -- with a body that is no longer than the old one it fits still
  pub replaced-fits : (body : List ℕ) (place : ℕ) (mid : Node) (item : Item)
      → slice_get (own_items leaf) place ≡ Some item → length body ≤ length item.body
      → mid ≡ with_items leaf (set (own_items leaf) place (record item { body = body }))
      → 101 + used_bytes mid ≤ nodesize
  replaced-fits body place mid item there less is =
      let used = used_bytes-set_item leaf place (record item { body = body }) item leafy
      (within (own_items leaf) place item there) in
      let old = ap item_bytes (bytes_at place item there) in
      let same = ap used_bytes is in
      let fits = sound.fits in
      omega (arith, used, old, same, fits, less)

  pub replaced : (key : Key) (body : List ℕ) (place : ℕ) (mid : Node) → length body ≤ 1024
      → slice_get (keys_of (own_items leaf)) place ≡ Some key
      → ((item : Item) → slice_get (own_items leaf) place ≡ Some item
      → mid ≡ with_items leaf (set (own_items leaf) place (record item { body = body })))
      → IsChanged nodesize key (Replace body) leaf mid
  replaced key body place mid short there is =
      let at = item-there key (own_items leaf) place there in
      let item : Item = at.0 in
      let same : item.key ≡ key = at.1.1 in
      let new : Item = record { key = key; body = body } in
      let put : record item { body = body } ≡ new = ap (λ (k : Key). let i : Item = record { key = k; body = body } in
      i) same in
      let items = set (own_items leaf) place new in
      let has = HasItems-with_items leaf items leafy in
      let inside = within (own_items leaf) place item at.1.0 in
      let used = used_bytes-set_item leaf place new item leafy inside in
      let fits = sound.fits in
      let one : IsChanged nodesize key (Replace body) leaf (with_items leaf items) = record {
        is = ap (with_items leaf) (with_item-there (own_items leaf) place item new ascends at.1.0 same);
        can = has_key-there key (own_items leaf) place there;
        header = has.header;
        levelled = levelled_same leaf items leafy sound.levelled;
        ascending = ap is_ascending has.keys ∙ ap is_ascending (keys_set (own_items leaf) place key new there refl)
            ∙ ascends;
        by_one = omega (arith, used, fits, short);
        short = λ all. subst (λ (xs : List Item). All (λ item. length item.body ≤ 1024) xs) (sym has.own)
            (All-set (λ (item : Item). length item.body ≤ 1024) (own_items leaf) place new short all);
      } in
      subst (λ (n : Node). IsChanged nodesize key (Replace body) leaf n)
      (sym (is item at.1.0 ∙ ap (λ (i : Item). with_items leaf (set (own_items leaf) place i)) put)) one

  pub removed : (key : Key) (place : ℕ) (mid : Node) → slice_get (keys_of (own_items leaf)) place ≡ Some key
      → mid ≡ with_items leaf (remove (own_items leaf) place) → IsChanged nodesize key Remove leaf mid
  removed key place mid there is =
      let at = item-there key (own_items leaf) place there in
      let items = remove (own_items leaf) place in
      let has = HasItems-with_items leaf items leafy in
      let inside = within (own_items leaf) place at.0 at.1.0 in
      let used = used_bytes-remove_item leaf place at.0 leafy inside in
      let fits = sound.fits in
      let one : IsChanged nodesize key Remove leaf (with_items leaf items) = record {
        is = ap (with_items leaf) (without_key-there key (own_items leaf) place ascends there);
        can = has_key-there key (own_items leaf) place there;
        header = has.header;
        levelled = levelled_same leaf items leafy sound.levelled;
        ascending = ap is_ascending has.keys
            ∙ remove_ascends (λ (item : Item). item.key) (own_items leaf) place inside ascends;
        by_one = omega (arith, used, fits);
        short = λ all. subst (λ (xs : List Item). All (λ item. length item.body ≤ 1024) xs) (sym has.own)
            (All-remove (λ (item : Item). length item.body ≤ 1024) (own_items leaf) place all);
      } in
      subst (λ (n : Node). IsChanged nodesize key Remove leaf n) (sym is) one

  pub removed-sound : (key : Key) (place : ℕ) (mid : Node) → slice_get (keys_of (own_items leaf)) place ≡ Some key
      → mid ≡ with_items leaf (remove (own_items leaf) place) → IsNodeFor nodesize leaf mid
  removed-sound key place mid there is =
      let one = removed key place mid there is in
      let at = item-there key (own_items leaf) place there in
      let used = used_bytes-remove_item leaf place at.0 leafy (within (own_items leaf) place at.0 at.1.0) in
      let same : used_bytes mid ≡ used_bytes (with_items leaf (remove (own_items leaf) place)) = ap used_bytes is in
      let fits = sound.fits in
      IsNodeFor-header nodesize leaf mid mid one.header
      (IsNodeFor-itself nodesize mid (record {
        levelled = one.levelled;
        ascending = one.ascending;
        fits = omega (arith, used, same, fits);
      }))

  -- it has not too much then
  pub removed-fits : (key : Key) (place : ℕ) (mid : Node) → slice_get (keys_of (own_items leaf)) place ≡ Some key
      → mid ≡ with_items leaf (remove (own_items leaf) place)
      → IsOverfull nodesize (with_items leaf (changed key Remove (own_items leaf))) → ⊥
  removed-fits key place mid there is over =
      let fits = (removed-sound key place mid there is).sound.fits in
      let same : used_bytes (with_items leaf (changed key Remove (own_items leaf))) ≡ used_bytes mid =
      ap used_bytes (removed key place mid there is).is in
      omega (arith, fits, same, over)

-- ---- what is answered

-- what is left of a whole is so in the place of another node with the same header
pub left-of : (nodesize : ℕ) (old mid whole new : Node) (result : Result (Option Node) BlockFault) → whole ≡ mid
    → header_of mid ≡ header_of old
    → IfOk result (IsLeftOf nodesize mid mid new) → IfOk result (IsLeftOf nodesize old whole new)
left-of nodesize old mid whole new (Ok rest) is same left = record {
  cut = subst (λ (n : Node). IsCutOf nodesize n new rest) (sym is) left.cut;
  overfull = subst (λ (n : Node). IsSome rest ↔ IsOverfull nodesize n) (sym is) left.overfull;
  rest = RestIsNode-header nodesize old mid rest same left.rest;
}
left-of nodesize old mid whole new (Err fault) is same left = tt

pub answers-cut : (nodesize : ℕ) (key : Key) (change : Change) (leaf mid : Node)
    (result : Result (Option Node) BlockFault) → IsChanged nodesize key change leaf mid
    → AnswersBy (CanCut nodesize mid) (IsBrokenUnless ItemRule mid (CanCut nodesize mid)) result
    → AnswersBy (IsChangeable nodesize key change leaf) (IsBrokenByChange nodesize key change leaf) result
answers-cut nodesize key change leaf mid (Ok rest) made cut =
    (made.can, subst (λ (n : Node). CanCut nodesize n) (sym made.is) cut)
answers-cut nodesize key change leaf mid (Err (Image rule at)) made cut =
    inr (
      made.can,
      (
        cut.0,
        (
          cut.1.0 ∙ ap (λ (h : Header). h.address) made.header,
          λ can.
              cut.1.1 (subst (λ (n : Node). CanCut nodesize n) made.is can),
        ),
      ),
    )
answers-cut nodesize key change leaf mid (Err Disk) made cut = absurd cut
answers-cut nodesize key change leaf mid (Err NoMemory) made cut = tt

-- the leaf is not what the change relies on
pub answers-misfit : (nodesize : ℕ) (key : Key) (change : Change) (leaf : Node) (fault : BlockFault)
    → fault ≡ Image Refs (header_of leaf).address
    → (CanChange key change (own_items leaf) → ⊥) → AnswersBy {A = Option Node} (IsChangeable nodesize key change leaf)
    (IsBrokenByChange nodesize key change leaf) (Err fault)
answers-misfit nodesize key change leaf fault is unless =
    subst (λ (f : BlockFault). AnswersBy {A = Option Node} (IsChangeable nodesize key change leaf)
    (IsBrokenByChange nodesize key change leaf) (Err f)) (sym is)
    (inl (refl, (refl, unless)))

cleared-header : (a b : Node) → header_of a ≡ header_of b → cleared a ≡ cleared b
cleared-header a b same = ap (λ (h : Header). Leaf (record h { level = 0 }) []) same

pub err-cut : (nodesize : ℕ) (key : Key) (change : Change) (leaf mid new : Node)
    (result : Result (Option Node) BlockFault) → IsChanged nodesize key change leaf mid
    → OnErr result (new ≡ cleared mid) → OnErr result (IsOldOrCleared leaf new)
err-cut nodesize key change leaf mid new (Ok rest) made cut = tt
err-cut nodesize key change leaf mid new (Err fault) made cut = inr (cut ∙ cleared-header mid leaf made.header)

pub ok-known : {A : Type 0} (P : Type 0) (result : Result A BlockFault) → P → OnOk result P
ok-known P (Ok x) known = known
ok-known P (Err fault) known = tt
