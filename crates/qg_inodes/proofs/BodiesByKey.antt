-- Items whose keys ascend are told by what stands under each key.
use Rattle.std.proofs.Common.{◌≡◌, true, false, List, [], ◌∷◌, Some, None, refl, sym, ap, ◌∙◌, inl, inr}
use Rattle.std.specs.Prelude.{ℕ, IsTrue, is_some}
use Rattle.std.specs.List.{list_all}
use Rattle.std.specs.Ordering.{is_lt}
use Rattle.std.proofs.lemmas.Bool.{and_parts, cases_Bool, true≢false}
use Rattle.qg_num.specs.declared.key.Key.{Key}
use Rattle.qg_num.specs.Key.{key_cmp}
use Rattle.qg_node.specs.declared.item.Item.{Item}
use Rattle.qg_node.specs.Nodes.{is_ascending}
use Rattle.qg_image.specs.IsShaped.{same_key}
use Rattle.qg_shape.proofs.Ascending.{all_behind, ascending_tail_of, less_trans, not_itself, same_itself}
use Rattle.qg_walk.proofs.KeyRanges.{same_key-true}
use Rattle.qg_edit.specs.Edits.{has_key}
use Rattle.qg_edit.proofs.Lists.{keys_of, same-not_greater}
use Rattle.qg_tree_read.specs.Reading.{body_at}
use Rattle.qg_inodes.specs.Bodies.{Ascend}

-- keys that are greater than one
abbrev pub AreGreater : Key → List Item → Type 0
AreGreater low items = IsTrue (list_all (λ other. is_lt (key_cmp low other)) (keys_of items))

-- ---- the first item

pub body-first : (key : Key) (item : Item) (items : List Item) → same_key item.key key ≡ true
    → body_at key (item ∷ items) ≡ Some item.body
body-first key item items same = rw same refl

pub body-later : (key : Key) (item : Item) (items : List Item) → same_key item.key key ≡ false
    → body_at key (item ∷ items) ≡ body_at key items
body-later key item items differ = rw differ refl

pub body-itself : (item : Item) (items : List Item) → body_at item.key (item ∷ items) ≡ Some item.body
body-itself item items = body-first item.key item items (same_itself item.key)

-- ---- where keys are greater

pub greater-first : (low : Key) (item : Item) (items : List Item) → AreGreater low (item ∷ items)
    → is_lt (key_cmp low item.key) ≡ true
greater-first low item items all =
    (and_parts (is_lt (key_cmp low item.key)) (list_all (λ other. is_lt (key_cmp low other)) (keys_of items)) all).0

pub greater-later : (low : Key) (item : Item) (items : List Item) → AreGreater low (item ∷ items) → AreGreater low items
greater-later low item items all =
    (and_parts (is_lt (key_cmp low item.key)) (list_all (λ other. is_lt (key_cmp low other)) (keys_of items)) all).1

-- nothing stands under a lesser key
pub no_body : (low : Key) (items : List Item) → AreGreater low items → body_at low items ≡ None
no_body low [] all = refl
no_body low (item ∷ items) all =
    let differ = same-not_greater item.key low (greater-first low item items all) in
    body-later low item items differ ∙ no_body low items (greater-later low item items all)

-- and what stands under a key stands behind a lesser one
body_behind : (low key : Key) (items : List Item) (body : List ℕ) → AreGreater low items → body_at key items ≡ Some body
    → is_lt (key_cmp low key) ≡ true
body_behind low key [] body all is = absurd cc
body_behind low key (item ∷ items) body all is = elim (cases_Bool (same_key item.key key)) [
  | inl same ↦
      ap (λ (k : Key). is_lt (key_cmp low k)) (sym (same_key-true item.key key same))
      ∙ greater-first low item items all
  | inr differ ↦
      body_behind low key items body (greater-later low item items all) (sym (body-later key item items differ) ∙ is)
]

-- ---- keys that ascend

pub first_least : (item : Item) (items : List Item) → Ascend (item ∷ items) → AreGreater item.key items
unfolding is_ascending
first_least item items ascending = all_behind item.key (keys_of items) ascending

pub later_ascend : (item : Item) (items : List Item) → Ascend (item ∷ items) → Ascend items
later_ascend item items ascending = ascending_tail_of item.key (keys_of items) ascending

-- ---- two lists with the same bodies

abbrev AreAlike : List Item → List Item → Type 0
AreAlike a b = (key : Key) → body_at key a ≡ body_at key b

-- where the first keys differ, each is behind the other
apart : (x y : Item) (a b : List Item) → Ascend (x ∷ a) → AreAlike (x ∷ a) (y ∷ b) → same_key x.key y.key ≡ false
    → is_lt (key_cmp x.key y.key) ≡ true
apart x y a b ascending alike differ =
    let there : body_at y.key a ≡ Some y.body = sym (body-later y.key x a differ) ∙ alike y.key ∙ body-itself y b in
    body_behind x.key y.key a y.body (first_least x a ascending) there

same_key-swap : (a b : Key) → same_key a b ≡ false → same_key b a ≡ false
same_key-swap a b differ = elim (cases_Bool (same_key b a)) [
  | inl same ↦
      let equal : same_key a b ≡ true = ap (λ (k : Key). same_key a k) (same_key-true b a same) ∙ same_itself a in
      absurd (true≢false (sym equal ∙ differ))
  | inr other ↦ other
]

first_keys : (x y : Item) (a b : List Item) → Ascend (x ∷ a) → Ascend (y ∷ b) → AreAlike (x ∷ a) (y ∷ b) → x.key ≡ y.key
first_keys x y a b ascend_a ascend_b alike = elim (cases_Bool (same_key x.key y.key)) [
  | inl same ↦ same_key-true x.key y.key same
  | inr differ ↦
      let less = apart x y a b ascend_a alike differ in
      let more = apart y x b a ascend_b (λ key. sym (alike key)) (same_key-swap x.key y.key differ) in
      absurd (true≢false (sym (less_trans x.key y.key x.key less more) ∙ not_itself x.key))
]

first_bodies : (x y : Item) (a b : List Item) → x.key ≡ y.key → AreAlike (x ∷ a) (y ∷ b) → x.body ≡ y.body
first_bodies x y a b same alike =
    let left = body-itself x a in
    let right : body_at x.key (y ∷ b) ≡ Some y.body =
    ap (λ (k : Key). body_at k (y ∷ b)) same ∙ body-itself y b
    in
    let both : ◌≡◌ (Some x.body) (Some y.body) = sym left ∙ alike x.key ∙ right in
    cc

later_alike : (x y : Item) (a b : List Item) → Ascend (x ∷ a) → Ascend (y ∷ b) → x.key ≡ y.key
    → AreAlike (x ∷ a) (y ∷ b)
    → AreAlike a b
later_alike x y a b ascend_a ascend_b same alike key = elim (cases_Bool (same_key x.key key)) [
  | inl here ↦
      let is = same_key-true x.key key here in
      let left : body_at key a ≡ None =
      ap (λ (k : Key). body_at k a) (sym is) ∙ no_body x.key a (first_least x a ascend_a)
      in
      let right : body_at key b ≡ None =
      ap (λ (k : Key). body_at k b) (sym is ∙ same) ∙ no_body y.key b (first_least y b ascend_b)
      in
      left ∙ sym right
  | inr differ ↦
      let other : same_key y.key key ≡ false = ap (λ (k : Key). same_key k key) (sym same) ∙ differ in
      sym (body-later key x a differ) ∙ alike key ∙ body-later key y b other
]

same_item : (x y : Item) → x.key ≡ y.key → x.body ≡ y.body → x ≡ y
same_item x y key body = λ i. record { key = key i; body = body i }

pub same-bodies : (a b : List Item) → Ascend a → Ascend b → ((key : Key) → body_at key a ≡ body_at key b) → a ≡ b
same-bodies [] [] ascend_a ascend_b alike = refl
same-bodies [] (y ∷ b) ascend_a ascend_b alike =
    let none : ◌≡◌ None (Some y.body) = alike y.key ∙ body-itself y b in absurd cc
same-bodies (x ∷ a) [] ascend_a ascend_b alike =
    let none : ◌≡◌ (Some x.body) None = sym (body-itself x a) ∙ alike x.key in absurd cc
same-bodies (x ∷ a) (y ∷ b) ascend_a ascend_b alike =
    let keys = first_keys x y a b ascend_a ascend_b alike in
    let first = same_item x y keys (first_bodies x y a b keys alike) in
    let later =
    same-bodies a b (later_ascend x a ascend_a) (later_ascend y b ascend_b)
    (later_alike x y a b ascend_a ascend_b keys alike)
    in
    ap (λ (i : Item). i ∷ a) first ∙ ap (λ (items : List Item). y ∷ items) later

-- ---- an item stands under a key

pub has-body : (key : Key) (items : List Item) → has_key key items ≡ is_some (body_at key items)
has-body key [] = refl
has-body key (item ∷ items) = elim (cases_Bool (same_key item.key key)) [
  | inl same ↦ rw same refl
  | inr differ ↦ rw differ (has-body key items)
]
