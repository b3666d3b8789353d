-- Items whose keys ascend, once one comes in, gets another body, or goes.
use Rattle.std.proofs.Common.{◌≡◌, Bool, true, false, List, [], ◌∷◌, ◌++◌, refl, sym, ap, ◌∙◌, inl, inr}
use Rattle.std.specs.Prelude.{◌==◌}
use Rattle.std.specs.List.{list_all}
use Rattle.std.specs.Ordering.{is_lt}
use Rattle.std.proofs.Math.Bool.{and_assoc}
use Rattle.std.proofs.lemmas.Bool.{and_from, and_parts, cases_Bool, or_left, or_right, or_parts}
use Rattle.std.proofs.lemmas.List.{map-append}
use Rattle.qg_num.specs.declared.key.Key.{Key}
use Rattle.qg_num.specs.Key.{key_cmp}
use Rattle.qg_node.specs.declared.item.Item.{Item}
use Rattle.qg_node.specs.Nodes.{is_ascending}
use Rattle.qg_image.specs.IsShaped.{same_key}
use Rattle.qg_shape.proofs.Ascending.{all_behind, all_greater, ascending_back, ascending_front, ascending_round}
use Rattle.qg_shape.proofs.Ascending.{ascending_tail_of, ascending_without, greater, not_itself, same_itself}
use Rattle.qg_walk.proofs.KeyRanges.{same_key-true}
use Rattle.qg_edit.specs.Edits.{has_key, with_item, without_key}
use Rattle.qg_edit.proofs.Lists.{keys_of, same-not_less, same-not_greater}
use Rattle.qg_extent_items.proofs.Splices.{Among, any-among}

abbrev pub Ascend : List Item → Type 0
Ascend items = is_ascending (keys_of items) ≡ true

-- ---- an item comes in

-- those in front of a key are less, and those behind it greater
pub record GoesIn (new : Item) (items : List Item) : Type 0 where
  pub front : List Item
  pub back : List Item
  pub parted : items ≡ front ++ back
  pub less : list_all (λ key. is_lt (key_cmp key new.key)) (keys_of front) ≡ true
  pub more : list_all (λ key. is_lt (key_cmp new.key key)) (keys_of back) ≡ true
  pub with : with_item new items ≡ front ++ (new ∷ back)

-- a key that is neither less than another nor the same is greater
behind : (a b : Key) → is_lt (key_cmp a b) ≡ false → same_key a b ≡ false → is_lt (key_cmp b a) ≡ true
behind a b unless differ =
    greater a b unless (sym (and_assoc (a.objectid == b.objectid) (a.kind == b.kind) (a.offset == b.offset)) ∙ differ)

pub goes-in : (new : Item) (items : List Item) → Ascend items → has_key new.key items ≡ false → GoesIn new items
unfolding is_ascending
goes-in new [] ascend absent = record { front = []; back = []; parted = refl; less = refl; more = refl; with = refl }
goes-in new (item ∷ items) ascend absent =
    let parts = or_parts (same_key item.key new.key) (has_key new.key items) absent in
    let rest = goes-in new items (ascending_tail_of item.key (keys_of items) ascend) parts.1 in
    elim (cases_Bool (is_lt (key_cmp item.key new.key))) [
      | inl less ↦ record {
        front = item ∷ rest.front;
        back = rest.back;
        parted = ap (λ (l : List Item). item ∷ l) rest.parted;
        less = and_from (is_lt (key_cmp item.key new.key))
            (list_all (λ key. is_lt (key_cmp key new.key)) (keys_of rest.front)) less rest.less;
        more = rest.more;
        with = rw less (ap (λ (l : List Item). item ∷ l) rest.with);
      }
      | inr unless ↦ record {
        front = [];
        back = item ∷ items;
        parted = refl;
        less = refl;
        more = all_greater new.key item.key (keys_of items) (behind item.key new.key unless parts.0) ascend;
        with = rw (unless, parts.0) refl;
      }
    ]

pub ascend-in : (new : Item) (items : List Item) → Ascend items → GoesIn new items → Ascend (with_item new items)
ascend-in new items ascend goes =
    let both : is_ascending (keys_of goes.front ++ keys_of goes.back) ≡ true =
    ap is_ascending (sym (map-append (λ (item : Item). item.key) goes.front goes.back)
    ∙ ap keys_of (sym goes.parted)) ∙ ascend in
    ap (λ (l : List Item). is_ascending (keys_of l)) goes.with
    ∙ ap is_ascending (map-append (λ (item : Item). item.key) goes.front (new ∷ goes.back))
    ∙ ascending_round (keys_of goes.front) new.key (keys_of goes.back)
    (ascending_front (keys_of goes.front) (keys_of goes.back) both) goes.less
    (ascending_back (keys_of goes.front) (keys_of goes.back) both) goes.more

-- ---- an item that is there

-- what holds of all keys holds of one between others
at-key : (p : Key → Bool) (front : List Item) (old : Item) (back : List Item)
    → list_all p (keys_of (front ++ (old ∷ back))) ≡ true → p old.key ≡ true
at-key p [] old back all = (and_parts (p old.key) (list_all p (keys_of back)) all).0
at-key p (item ∷ front) old back all =
    at-key p front old back (and_parts (p item.key) (list_all p (keys_of (front ++ (old ∷ back)))) all).1

-- those in front of it are less
first-less : (item : Item) (front : List Item) (old : Item) (back : List Item)
    → Ascend (item ∷ (front ++ (old ∷ back))) → is_lt (key_cmp item.key old.key) ≡ true
unfolding is_ascending
first-less item front old back ascend =
    at-key (λ key. is_lt (key_cmp item.key key)) front old back
    (all_behind item.key (keys_of (front ++ (old ∷ back))) ascend)

tail-ascend : (item : Item) (items : List Item) → Ascend (item ∷ items) → Ascend items
tail-ascend item items ascend = ascending_tail_of item.key (keys_of items) ascend

pub has-between : (front : List Item) (old : Item) (back : List Item)
    → has_key old.key (front ++ (old ∷ back)) ≡ true
has-between [] old back = or_left (same_key old.key old.key) (has_key old.key back) (same_itself old.key)
has-between (item ∷ front) old back =
    or_right (same_key item.key old.key) (has_key old.key (front ++ (old ∷ back))) (has-between front old back)

-- it is the one that gets another body
pub with-between : (front : List Item) (old : Item) (back : List Item) (new : Item)
    → Ascend (front ++ (old ∷ back)) → new.key ≡ old.key
    → with_item new (front ++ (old ∷ back)) ≡ front ++ (new ∷ back)
with-between [] old back new ascend same =
    let unless : is_lt (key_cmp old.key new.key) ≡ false =
    ap (λ (key : Key). is_lt (key_cmp old.key key)) same ∙ not_itself old.key in
    let equal : same_key old.key new.key ≡ true =
    ap (λ (key : Key). same_key old.key key) same ∙ same_itself old.key in
    rw (unless, equal) refl
with-between (item ∷ front) old back new ascend same =
    let less : is_lt (key_cmp item.key new.key) ≡ true =
    ap (λ (key : Key). is_lt (key_cmp item.key key)) same ∙ first-less item front old back ascend in
    rw less (ap (λ (l : List Item). item ∷ l)
    (with-between front old back new (tail-ascend item (front ++ (old ∷ back)) ascend) same))

-- no item behind a key has it
all-apart : (key : Key) (back : List Item) → list_all (λ other. is_lt (key_cmp key other)) (keys_of back) ≡ true
    → without_key key back ≡ back
all-apart key [] all = refl
all-apart key (item ∷ back) all =
    let parts = and_parts (is_lt (key_cmp key item.key))
    (list_all (λ other. is_lt (key_cmp key other)) (keys_of back)) all in
    rw (same-not_greater item.key key parts.0) (ap (λ (l : List Item). item ∷ l) (all-apart key back parts.1))

-- it is the one that goes
pub without-between : (front : List Item) (old : Item) (back : List Item) → Ascend (front ++ (old ∷ back))
    → without_key old.key (front ++ (old ∷ back)) ≡ front ++ back
unfolding is_ascending
without-between [] old back ascend =
    rw (same_itself old.key) (all-apart old.key back (all_behind old.key (keys_of back) ascend))
without-between (item ∷ front) old back ascend =
    let less = first-less item front old back ascend in
    rw (same-not_less item.key old.key less) (ap (λ (l : List Item). item ∷ l)
    (without-between front old back (tail-ascend item (front ++ (old ∷ back)) ascend)))

pub ascend-other : (front : List Item) (old : Item) (back : List Item) (new : Item)
    → Ascend (front ++ (old ∷ back)) → new.key ≡ old.key → Ascend (front ++ (new ∷ back))
ascend-other front old back new ascend same =
    ap is_ascending (map-append (λ (item : Item). item.key) front (new ∷ back)
    ∙ ap (λ (key : Key). keys_of front ++ (key ∷ keys_of back)) same
    ∙ sym (map-append (λ (item : Item). item.key) front (old ∷ back))) ∙ ascend

pub ascend-out : (front : List Item) (old : Item) (back : List Item) → Ascend (front ++ (old ∷ back))
    → Ascend (front ++ back)
ascend-out front old back ascend =
    ap is_ascending (map-append (λ (item : Item). item.key) front back)
    ∙ ascending_without (keys_of front) old.key (keys_of back)
    (ap is_ascending (sym (map-append (λ (item : Item). item.key) front (old ∷ back))) ∙ ascend)

-- ---- a key that is there

pub key-among : (key : Key) (items : List Item) → has_key key items ≡ true
    → (item : Item) × (Among item items × (item.key ≡ key))
key-among key items has =
    let found = any-among (λ (item : Item). same_key item.key key) items has in
    (found.0, (found.1.0, same_key-true found.0.key key found.1.1))
