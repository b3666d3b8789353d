-- What stands under each key once an item is put in, or one goes.
use Rattle.std.proofs.Common.{◌≡◌, true, false, List, [], ◌∷◌, Some, None, refl, sym, ap, subst, ◌∙◌, inl, inr}
use Rattle.std.specs.Prelude.{ℕ, ◌==◌, Option, if◌then◌else◌}
use Rattle.std.specs.Ordering.{is_lt}
use Rattle.std.proofs.Math.Bool.{and_assoc}
use Rattle.std.proofs.lemmas.Bool.{and_from, and_parts, cases_Bool, true≢false}
use Rattle.qg_num.specs.declared.key.Key.{Key}
use Rattle.qg_num.specs.Key.{key_cmp}
use Rattle.qg_node.specs.declared.item.Item.{Item}
use Rattle.qg_node.specs.Nodes.{ascends_from, is_ascending}
use Rattle.qg_image.specs.IsShaped.{same_key}
use Rattle.qg_shape.proofs.Ascending.{ascending_tail, from_lower, greater, same_itself}
use Rattle.qg_walk.proofs.KeyRanges.{same_key-true}
use Rattle.qg_edit.specs.Edits.{with_item, without_key}
use Rattle.qg_edit.proofs.Lists.{keys_of, same-not_less}
use Rattle.qg_tree_read.specs.Reading.{body_at}
use Rattle.qg_inodes.specs.Bodies.{Ascend}
use Rattle.qg_inodes.specs.FileItemsLaws.{IsPutIn, IsTakenOut}

-- ---- of one list in front of two tests

-- the body of the one that has the key, or another answer
abbrev pub body_or : Item → Key → Option (List ℕ) → Option (List ℕ)
body_or item key other = if same_key item.key key then Some item.body else other

-- two items of different keys in either order
swapped : (a b : Item) (key : Key) (other : Option (List ℕ)) → same_key a.key b.key ≡ false
    → body_or a key (body_or b key other) ≡ body_or b key (body_or a key other)
swapped a b key other differ = elim (cases_Bool (same_key a.key key)) [
  | inr no_a ↦ rw no_a refl
  | inl is_a ↦ elim (cases_Bool (same_key b.key key)) [
    | inr no_b ↦ rw (is_a, no_b) refl
    | inl is_b ↦
        let keys : b.key ≡ a.key = same_key-true b.key key is_b ∙ sym (same_key-true a.key key is_a) in
        let equal : same_key a.key b.key ≡ true = ap (λ (k : Key). same_key a.key k) keys ∙ same_itself a.key in
        absurd (true≢false (sym equal ∙ differ))
  ]
]

-- the second of two items of one key does not count
hidden : (a b : Item) (key : Key) (other : Option (List ℕ)) → same_key b.key a.key ≡ true
    → body_or a key other ≡ body_or a key (body_or b key other)
hidden a b key other same = elim (cases_Bool (same_key a.key key)) [
  | inl is_a ↦ rw is_a refl
  | inr no_a ↦
      let no_b : same_key b.key key ≡ false =
      ap (λ (k : Key). same_key k key) (same_key-true b.key a.key same) ∙ no_a
      in
      rw (no_a, no_b) refl
]

-- ---- one item more

pub body-with_item : (new : Item) (items : List Item) (key : Key)
    → body_at key (with_item new items) ≡ (if same_key new.key key then Some new.body else body_at key items)
body-with_item new [] key = refl
body-with_item new (item ∷ items) key = elim (cases_Bool (is_lt (key_cmp item.key new.key))) [
  | inl less ↦
      let later = body-with_item new items key in
      let differ = same-not_less item.key new.key less in
      rw less (ap (body_or item key) later ∙ swapped item new key (body_at key items) differ)
  | inr unless ↦ elim (cases_Bool (same_key item.key new.key)) [
    | inl same ↦ rw (unless, same) (hidden new item key (body_at key items) same)
    | inr differ ↦ rw (unless, differ) refl
  ]
]

-- a key that is neither less than another nor the same is greater
behind : (a b : Key) → is_lt (key_cmp a b) ≡ false → same_key a b ≡ false → is_lt (key_cmp b a) ≡ true
behind a b unless differ =
    greater a b unless (sym (and_assoc (a.objectid == b.objectid) (a.kind == b.kind) (a.offset == b.offset)) ∙ differ)

ascends-with_item : (low : Key) (new : Item) (items : List Item) → is_lt (key_cmp low new.key) ≡ true
    → ascends_from low (keys_of items) ≡ true → ascends_from low (keys_of (with_item new items)) ≡ true
unfolding ascends_from
ascends-with_item low new [] less ascends = and_from (is_lt (key_cmp low new.key)) true less refl
ascends-with_item low new (item ∷ items) less ascends =
    let parts = and_parts (is_lt (key_cmp low item.key)) (ascends_from item.key (keys_of items)) ascends in
    elim (cases_Bool (is_lt (key_cmp item.key new.key))) [
      | inl front ↦
          let later = ascends-with_item item.key new items front parts.1 in
          rw front (and_from (is_lt (key_cmp low item.key))
          (ascends_from item.key (keys_of (with_item new items))) parts.0 later)
      | inr unless ↦ elim (cases_Bool (same_key item.key new.key)) [
        | inl same ↦
            let keys = same_key-true item.key new.key same in
            let later : ascends_from new.key (keys_of items) ≡ true =
            subst (λ (k : Key). ascends_from k (keys_of items) ≡ true) keys parts.1
            in
            rw (unless, same) (and_from (is_lt (key_cmp low new.key)) (ascends_from new.key (keys_of items)) less later)
        | inr differ ↦
            let more = behind item.key new.key unless differ in
            let later : ascends_from new.key (keys_of (item ∷ items)) ≡ true =
            and_from (is_lt (key_cmp new.key item.key)) (ascends_from item.key (keys_of items)) more parts.1
            in
            rw (unless, differ) (and_from (is_lt (key_cmp low new.key))
            (ascends_from new.key (keys_of (item ∷ items))) less later)
      ]
    ]

pub ascending-with_item : (new : Item) (items : List Item) → Ascend items → Ascend (with_item new items)
unfolding is_ascending ascends_from
ascending-with_item new [] ascending = refl
ascending-with_item new (item ∷ items) ascending = elim (cases_Bool (is_lt (key_cmp item.key new.key))) [
  | inl front ↦ rw front (ascends-with_item item.key new items front ascending)
  | inr unless ↦ elim (cases_Bool (same_key item.key new.key)) [
    | inl same ↦
        let keys = same_key-true item.key new.key same in
        rw (unless, same) (subst (λ (k : Key). ascends_from k (keys_of items) ≡ true) keys ascending)
    | inr differ ↦
        let more = behind item.key new.key unless differ in
        rw (unless, differ) (and_from (is_lt (key_cmp new.key item.key))
        (ascends_from item.key (keys_of items)) more ascending)
  ]
]

pub put-in : (new : Item) (items : List Item) → IsPutIn new items
put-in new items = record { bodies = body-with_item new items; ascending = ascending-with_item new items }

-- ---- one item less

-- nothing, where this is the key
abbrev none_or : Key → Key → Option (List ℕ) → Option (List ℕ)
none_or gone key other = if same_key gone key then None else other

-- an item that has the key does not count
gone-first : (gone : Key) (item : Item) (key : Key) (other : Option (List ℕ)) → same_key item.key gone ≡ true
    → none_or gone key other ≡ none_or gone key (body_or item key other)
gone-first gone item key other same = elim (cases_Bool (same_key gone key)) [
  | inl is ↦ rw is refl
  | inr not_gone ↦
      let not_item : same_key item.key key ≡ false =
      ap (λ (k : Key). same_key k key) (same_key-true item.key gone same) ∙ not_gone
      in
      rw (not_gone, not_item) refl
]

-- and another one counts as before
gone-later : (gone : Key) (item : Item) (key : Key) (other : Option (List ℕ)) → same_key item.key gone ≡ false
    → body_or item key (none_or gone key other) ≡ none_or gone key (body_or item key other)
gone-later gone item key other differ = elim (cases_Bool (same_key gone key)) [
  | inr not_gone ↦ rw not_gone refl
  | inl is ↦
      let keys : gone ≡ key = same_key-true gone key is in
      let not_item : same_key item.key key ≡ false = ap (λ (k : Key). same_key item.key k) (sym keys) ∙ differ in
      rw (is, not_item) refl
]

pub body-without_key : (gone : Key) (items : List Item) (key : Key)
    → body_at key (without_key gone items) ≡ (if same_key gone key then None else body_at key items)
body-without_key gone [] key = elim (cases_Bool (same_key gone key)) [
  | inl is ↦ rw is refl
  | inr not_gone ↦ rw not_gone refl
]
body-without_key gone (item ∷ items) key =
    let later = body-without_key gone items key in
    elim (cases_Bool (same_key item.key gone)) [
      | inl same ↦ rw same (later ∙ gone-first gone item key (body_at key items) same)
      | inr differ ↦ rw differ (ap (body_or item key) later ∙ gone-later gone item key (body_at key items) differ)
    ]

ascends-without_key : (low gone : Key) (items : List Item) → ascends_from low (keys_of items) ≡ true
    → ascends_from low (keys_of (without_key gone items)) ≡ true
unfolding ascends_from
ascends-without_key low gone [] ascends = refl
ascends-without_key low gone (item ∷ items) ascends =
    let parts = and_parts (is_lt (key_cmp low item.key)) (ascends_from item.key (keys_of items)) ascends in
    let later = ascends-without_key item.key gone items parts.1 in
    elim (cases_Bool (same_key item.key gone)) [
      | inl same ↦ rw same (from_lower low item.key (keys_of (without_key gone items)) parts.0 later)
      | inr differ ↦
          rw differ (and_from (is_lt (key_cmp low item.key))
          (ascends_from item.key (keys_of (without_key gone items))) parts.0 later)
    ]

pub ascending-without_key : (gone : Key) (items : List Item) → Ascend items → Ascend (without_key gone items)
unfolding is_ascending
ascending-without_key gone [] ascending = refl
ascending-without_key gone (item ∷ items) ascending =
    let later = ascends-without_key item.key gone items ascending in
    elim (cases_Bool (same_key item.key gone)) [
      | inl same ↦ rw same (ascending_tail item.key (keys_of (without_key gone items)) later)
      | inr differ ↦ rw differ later
    ]

pub taken-out : (gone : Key) (items : List Item) → IsTakenOut gone items
taken-out gone items = record { bodies = body-without_key gone items; ascending = ascending-without_key gone items }
