-- The way that a key leads from a root down to a leaf.
use Rattle.std.proofs.Common.{◌≡◌, ℕ, zero, suc, ◌+◌, ◌<◌, true, List, [], ◌∷◌, ◌++◌, arith, refl, sym, ap, subst, ◌∙◌}
use Rattle.std.proofs.Common.{take, drop, Option, Some, None, inl, inr}
use Rattle.std.specs.Prelude.{not, ◌⊎◌, slice_get}
use Rattle.std.specs.List.{list_all}
use Rattle.std.specs.Option.{option_map}
use Rattle.std.specs.Ordering.{is_lt}
use Rattle.std.proofs.lemmas.Bool.{and_parts}
use Rattle.std.proofs.lemmas.List.{append_assoc, append-nil}
use Rattle.std.proofs.lemmas.Option.{get_or_from_slice_get, slice_get-map}
use Rattle.qg_num.specs.Key.{key_cmp}
use Rattle.qg_num.specs.declared.key.Key.{Key}
use Rattle.qg_node.specs.declared.item.Item.{Item}
use Rattle.qg_node.specs.declared.pointer.Pointer.{Pointer}
use Rattle.qg_node.specs.declared.node.Header.{Header}
use Rattle.qg_node.specs.declared.node.Node.{Node}
use Rattle.qg_node.specs.declared.node.Node.TheVariants.{Leaf, Inner}
use Rattle.qg_node.specs.Nodes.{is_ascending, own_keys, own_pointers}
use Rattle.qg_super.specs.declared.superblock.Super.{Super}
use Rattle.qg_blocks.specs.IsShaped.{is_first}
use Rattle.qg_shape.proofs.Searched.{leads_upto}
use Rattle.qg_blocks.specs.Types.{TreeKind}
use Rattle.qg_blocks.specs.Types.{Expected}
use Rattle.qg_blocks.specs.Walk.{next_key, root_expected}
use Rattle.qg_walk.specs.Added.{is_from, is_to}
use Rattle.qg_walk.specs.Standing.{expected_below}
use Rattle.qg_walk.proofs.Failures.{IsFormed-form}
use Rattle.qg_walk.proofs.KeyRanges.{ends_before-each, is_from-later, less_upto, list_all-both, list_all-weaker}
use Rattle.qg_walk.proofs.KeyRanges.{not_less_behind, same_key-true}
use Rattle.qg_tree_read.specs.declared.way.Way.{Way}
use Rattle.qg_tree_read.specs.Reading.{is_upto}
use Rattle.qg_tree_read.specs.Tree.{IsTree}
use Rattle.qg_tree_read.specs.Way.{Follow, IsPartFor, LeadsFor}
use Rattle.qg_tree_read.proofs.Under.{AreUnder, IsInnerUnder, IsUnder, all_from, all_to, begins-under, formed-first}
use Rattle.qg_tree_read.proofs.Under.{under-inner, under-leaf}
use Rattle.qg_tree_read.proofs.Split.{keys_to, split-under}
use Rattle.qg_tree_read.proofs.Parts.{last-begin}

-- what begins a node's keys is not greater than a key, and is told
pub record BeginsUpto (key : Key) (expected : Expected) : Type 0 where
  pub from : Key
  pub told : expected.from ≡ Some from
  pub upto : is_upto key from ≡ true

-- the way to a key has come to the node of a level, under which some of the tree's items stand: those in front are less
-- than the key, and those behind begin at the next key on the way
pub record IsOnWay (tree : TreeKind) (super : Super) (nodes : ℕ → Option Node) (key : Key) (level : ℕ)
    (expected : Expected)
    (address : ℕ) (whole : List Item) : Type 0 where
  pub items : List Item
  pub under : IsUnder tree super nodes level expected address items
  pub front : List Item
  pub back : List Item
  pub whole_is : whole ≡ front ++ (items ++ back)
  pub less : all_to (Some key) front ≡ true
  pub upto : (front ≡ []) ⊎ BeginsUpto key expected
  pub behind : Follow expected.to back

pub on_way-root : (tree : TreeKind) (super : Super) (nodes : ℕ → Option Node) (key : Key) (height address : ℕ)
    (whole : List Item) → IsTree tree super nodes height address whole
    → IsOnWay tree super nodes key height (root_expected (Some height) None) address whole
on_way-root tree super nodes key height address whole is = record {
  items = whole;
  under = record { levelled = refl; walked = is.walked; items_are = is.items_are };
  front = [];
  back = [];
  whole_is = sym (append-nil whole);
  less = refl;
  upto = inl refl;
  behind = refl;
}

-- ---- a step down

-- a list, cut where an item stands
cut_behind : {A : Type 0} (xs : List A) (place : ℕ) (x : A) → slice_get xs place ≡ Some x
    → xs ≡ take place xs ++ (x ∷ drop (suc place) xs)
cut_behind [] place x is = absurd cc
cut_behind (y ∷ xs) zero x is = let same : y ≡ x = cc in ap (λ (z : _). z ∷ xs) same
cut_behind (y ∷ xs) (suc place) x is = ap (λ (zs : List _). y ∷ zs) (cut_behind xs place x is)

pub cut_at : {A : Type 0} (xs : List A) (place : ℕ) (x : A) → slice_get xs place ≡ Some x
    → xs ≡ take place xs ++ (x ∷ drop (place + 1) xs)
cut_at xs place x is =
    let next : suc place ≡ place + 1 = omega arith in
    cut_behind xs place x is ∙ ap (λ (n : ℕ). take place xs ++ (x ∷ drop n xs)) next

regroup : (front f m b back : List Item) → front ++ ((f ++ (m ++ b)) ++ back) ≡ (front ++ f) ++ (m ++ (b ++ back))
regroup front f m b back =
    ap (λ (xs : List Item). front ++ xs) (append_assoc f (m ++ b) back
    ∙ ap (λ (xs : List Item). f ++ xs) (append_assoc m b back))
    ∙ sym (append_assoc front f (m ++ (b ++ back)))

-- items that begin at a later key
follow_all : (key : Key) (to : Option Key) (back : List Item) → is_to to key ≡ true → Follow to back
    → all_from (Some key) back ≡ true
follow_all key None back less follow = rw follow refl
follow_all key (Some to) [] less follow = absurd follow
follow_all key (Some to) (item ∷ back) less follow =
    list_all-weaker (λ (item : Item). is_from (Some to) item.key) (λ (item : Item). is_from (Some key) item.key)
    (λ item. is_from-later (Some key) to item.key (not_less_behind key to less)) (item ∷ back) follow.1

follow_both : (key : Key) (front back : List Item) → Follow (Some key) front → all_from (Some key) back ≡ true
    → Follow (Some key) (front ++ back)
follow_both key [] back follow from = absurd follow
follow_both key (item ∷ front) back follow from =
    (follow.0, list_all-both (λ (item : Item). is_from (Some key) item.key) (item ∷ front) back follow.1 from)

follow_on : (to : Option Key) (after : List Pointer) (front back : List Item)
    → list_all (is_to to) (keys_to after) ≡ true → Follow (next_key None after) front → Follow to back
    → Follow (next_key to after) (front ++ back)
follow_on to [] front back less first later = rw first later
follow_on to (next ∷ after) front back less first later =
    let here = (and_parts (is_to to next.key) (list_all (is_to to) (keys_to after)) less).0 in
    follow_both next.key front back first (follow_all next.key to back here later)

later_keys : (p : Key → _) (before : List Pointer) (pointer : Pointer) (after : List Pointer)
    → list_all p (keys_to (before ++ (pointer ∷ after))) ≡ true → list_all p (keys_to after) ≡ true
later_keys p [] pointer after h = (and_parts (p pointer.key) (list_all p (keys_to after)) h).1
later_keys p (first ∷ before) pointer after h =
    later_keys p before pointer after (and_parts (p first.key) (list_all p (keys_to (before ++ (pointer ∷ after)))) h).1

module _ (key : Key) (pointers : List Pointer) (to : Option Key) (level : ℕ) (way : Way)
    (leads : LeadsFor pointers to level key way) where
  -- the pointer that is followed is not greater than the key, but for the first one
  pub followed_upto : 0 < leads.place → is_upto key leads.pointer.key ≡ true
  followed_upto above =
      let there : slice_get (keys_to pointers) leads.place ≡ Some leads.pointer.key =
      slice_get-map (λ (pointer : Pointer). pointer.key) pointers leads.place
      ∙ ap (option_map (λ (pointer : Pointer). pointer.key)) leads.there in
      ap (λ (other : Key). not (is_lt (key_cmp key other)))
      (sym (get_or_from_slice_get (keys_to pointers) leads.place leads.pointer.key leads.pointer.key there))
      ∙ leads_upto (keys_to pointers) key leads.place leads.pointer.key leads.leads above

next_past : (key : Key) (to : Option Key) (pointers : List Pointer) (n : ℕ) → is_to to key ≡ true
    → list_all (λ other. is_lt (key_cmp key other)) (drop n (keys_to pointers)) ≡ true
    → is_to (next_key to (drop n pointers)) key ≡ true
next_past key to [] zero less past = less
next_past key to [] (suc n) less past = less
next_past key to (pointer ∷ pointers) zero less past = (and_parts (is_lt (key_cmp key pointer.key)) _ past).0
next_past key to (pointer ∷ pointers) (suc n) less past = next_past key to pointers n less past

-- the key is less than the next one on the way
pub leads-past : (key : Key) (pointers : List Pointer) (to : Option Key) (level : ℕ) (way : Way)
    → LeadsFor pointers to level key way → is_to to key ≡ true → is_to way.expected.to key ≡ true
leads-past key pointers to level way leads less =
    ap (λ (e : Expected). is_to e.to key) leads.expects
    ∙ next_past key to pointers (leads.place + 1) less leads.leads.past

first_key_at : (from : Key) (pointers : List Pointer) (pointer : Pointer) → is_first from (keys_to pointers) ≡ true
    → slice_get pointers 0 ≡ Some pointer → pointer.key ≡ from
first_key_at from [] pointer first is = absurd cc
first_key_at from (p ∷ pointers) pointer first is = let same : p ≡ pointer = cc in
    subst (λ (q : Pointer). q.key ≡ from) same (same_key-true p.key from first)

-- what the step does to the items in front
pub record IsInFront (key : Key) (below : Expected) (front more : List Item) : Type 0 where
  pub less : all_to (Some key) (front ++ more) ≡ true
  pub upto : (front ++ more ≡ []) ⊎ BeginsUpto key below

in_front : (key : Key) (expected below : Expected) (pointer : Pointer) (place : ℕ) (front more : List Item)
    → below.from ≡ Some pointer.key
    → (0 < place → is_upto key pointer.key ≡ true) → (place ≡ 0 → more ≡ [])
    → (place ≡ 0 → (from : Key) → expected.from ≡ Some from → pointer.key ≡ from)
    → all_to (Some pointer.key) more ≡ true → all_to (Some key) front ≡ true → (front ≡ []) ⊎ BeginsUpto key expected
    → IsInFront key below front more
in_front key expected below pointer zero front more told upto none first less before begins =
    let same : more ≡ [] = none refl in
    let whole : front ++ more ≡ front = ap (λ (xs : List Item). front ++ xs) same ∙ append-nil front in
    record {
      less = rw whole before;
      upto = elim begins [
        | inl empty ↦ inl (whole ∙ empty)
        | inr begin ↦ inr (record {
          from = pointer.key;
          told = told;
          upto = rw (first refl begin.from begin.told) begin.upto;
        })
      ];
    }
in_front key expected below pointer (suc place) front more told upto none first less before begins =
    let here = upto (omega arith) in
    record {
      less = list_all-both (λ (item : Item). is_to (Some key) item.key) front more before
          (list_all-weaker (λ (item : Item). is_to (Some pointer.key) item.key)
          (λ (item : Item). is_to (Some key) item.key) (λ item h. less_upto item.key pointer.key key h here) more
          less);
      upto = inr (record { from = pointer.key; told = told; upto = here });
    }

module _ (tree : TreeKind) (super : Super) (nodes : ℕ → Option Node) (key : Key) where
  step_inner : (level : ℕ) (expected : Expected) (address : ℕ) (whole : List Item) (way : Way)
      (on : IsOnWay tree super nodes key (suc level) expected address whole)
      (inner : IsInnerUnder tree super nodes level expected address on.items)
      → is_ascending (keys_to inner.pointers) ≡ true
      → LeadsFor inner.pointers expected.to level key way
      → IsOnWay tree super nodes key level way.expected way.address whole
  step_inner level expected address whole way on inner ascending leads =
      let pointers = inner.pointers in
      let pointer = leads.pointer in
      let before = take leads.place pointers in
      let after = drop (leads.place + 1) pointers in
      let cut = cut_at pointers leads.place pointer leads.there in
      let split = split-under tree super nodes level expected.to before pointer after on.items
      (subst (λ (ps : List Pointer). is_ascending (keys_to ps) ≡ true) cut ascending)
      (subst (λ (ps : List Pointer). AreUnder tree super nodes level expected.to ps on.items) cut inner.below) in
      let formed = IsFormed-form tree super expected address (Inner inner.header pointers) inner.formed in
      let ends = sym (ends_before-each expected.to (keys_to pointers)) ∙ formed.ends in
      let later = later_keys (is_to expected.to) before pointer after
      (subst (λ (ps : List Pointer). list_all (is_to expected.to) (keys_to ps) ≡ true) cut ends) in
      let below = expected_below level expected.to pointer after in
      let front = in_front key expected below pointer leads.place on.front split.front refl
      (followed_upto key pointers expected.to level way leads)
      (λ low. split.none (ap (λ (n : ℕ). take n pointers) low))
      (λ low from told. first_key_at from pointers pointer
      (formed-first tree super expected address from (Inner inner.header pointers) told inner.formed)
      (subst (λ (n : ℕ). slice_get pointers n ≡ Some pointer) low leads.there))
      split.less on.less on.upto in
      let come : IsOnWay tree super nodes key level below pointer.child whole =
      record {
        items = split.mine;
        under = split.under;
        front = on.front ++ split.front;
        back = split.back ++ on.back;
        whole_is = on.whole_is ∙ ap (λ (xs : List Item). on.front ++ (xs ++ on.back)) split.items_are
            ∙ regroup on.front split.front split.mine split.back on.back;
        less = front.less;
        upto = front.upto;
        behind = follow_on expected.to after split.back on.back later split.behind on.behind;
      } in
      let there = subst (λ (e : Expected). IsOnWay tree super nodes key level e pointer.child whole)
      (sym leads.expects) come in
      subst (λ (at : ℕ). IsOnWay tree super nodes key level way.expected at whole) (sym leads.child) there

  pub on_way-step : (level : ℕ) (expected : Expected) (address : ℕ) (whole : List Item) (way : Way) (node : Node)
      → nodes address ≡ Some node
      → is_ascending (own_keys node) ≡ true → LeadsFor (own_pointers node) expected.to level key way
      → IsOnWay tree super nodes key (suc level) expected address whole
      → IsOnWay tree super nodes key level way.expected way.address whole
  on_way-step level expected address whole way node here ascending leads on =
      let inner = under-inner tree super nodes level expected address on.items on.under in
      let same : node ≡ Inner inner.header inner.pointers = let e = sym here ∙ inner.here in cc in
      step_inner level expected address whole way on inner
      (subst (λ (n : Node). is_ascending (own_keys n) ≡ true) same ascending)
      (subst (λ (n : Node). LeadsFor (own_pointers n) expected.to level key way) same leads)

  -- the leaf that it comes to
  pub on_way-leaf : (expected : Expected) (address : ℕ) (whole items : List Item) (header : Header)
      → nodes address ≡ Some (Leaf header items)
      → IsOnWay tree super nodes key 0 expected address whole → IsPartFor key expected.to whole items
  on_way-leaf expected address whole items header here on =
      let leaf = under-leaf tree super nodes expected address on.items on.under in
      let same : on.items ≡ items = let e = sym leaf.here ∙ here in cc in
      let formed = IsFormed-form tree super expected address (Leaf leaf.header on.items) leaf.formed in
      let part : IsPartFor key expected.to whole on.items = record {
        front = on.front;
        back = on.back;
        whole_is = on.whole_is;
        less = on.less;
        upto = elim on.upto [
          | inl empty ↦ inl empty
          | inr begin ↦ inr (last-begin key begin.from on.items begin.upto
              (begins-under tree super nodes 0 expected address begin.from on.items begin.told on.under))
        ];
        within = formed.ends;
        behind = on.behind;
      } in
      subst (λ (xs : List Item). IsPartFor key expected.to whole xs) same part
