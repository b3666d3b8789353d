-- One edit of items at an address: what they say there, and what they say and are elsewhere.
use Rattle.std.proofs.Common.{◌≡◌, ◌≢◌, ℕ, ◌≤◌, true, false, List, [], ◌∷◌, ◌++◌, length, Some, refl}
use Rattle.std.proofs.Common.{sym, ap, subst, ◌∙◌, eq-eqb, ne_eqb}
use Rattle.std.specs.Prelude.{◌==◌}
use Rattle.std.specs.List.{list_all}
use Rattle.std.proofs.lemmas.Bool.{not_from_false}
use Rattle.qg_num.specs.declared.key.Key.{Key}
use Rattle.qg_node.specs.declared.item.Item.{Item}
use Rattle.qg_tree_items.specs.Types.{ExtentPart}
use Rattle.qg_tree_items.specs.ItemMeaning.{extent_part}
use Rattle.qg_tree_items.specs.Owed.{part_address}
use Rattle.qg_edit.specs.Edits.{CanEdit, IsShort, edited, has_key, with_item, without_key}
use Rattle.qg_edit.specs.declared.edit.Edit.{Edit}
use Rattle.qg_extent_items.specs.Told.{is_said, items_at, parts_here, parts_of}
use Rattle.qg_extent_items.specs.BookEdits.{put_item, take_item}
use Rattle.qg_extent_items.proofs.Keyed.{Ascend, ascend-in, ascend-other, ascend-out, goes-in, has-between}
use Rattle.qg_extent_items.proofs.Keyed.{with-between, without-between}
use Rattle.qg_extent_items.proofs.PartKeys.{part-address}
use Rattle.qg_extent_items.proofs.Splices.{Among, Splice, all-splice, among-between, filter-splice}
use Rattle.qg_extent_items.proofs.Splices.{filter_map-splice}

-- ---- items of one address

-- they say these parts, which are at the address
pub record Says (at : ℕ) (some : List Item) (parts : List ExtentPart) : Type 0 where
  pub said : list_all is_said some ≡ true
  pub here : parts_here some at ≡ parts
  pub others : (other : ℕ) → other ≢ at → parts_here some other ≡ []
  pub elsewhere : (other : ℕ) → other ≢ at → items_at some other ≡ []

says-none : (at : ℕ) → Says at [] []
says-none at = record { said = refl; here = refl; others = λ other apart. refl; elsewhere = λ other apart. refl }

says-one : (at : ℕ) (item : Item) (part : ExtentPart) → extent_part item ≡ Some part → part_address part ≡ at
    → Says at (item ∷ []) (part ∷ [])
says-one at item part says place = record {
  said = rw says refl;
  here = rw (says, eq-eqb (part_address part) at place) refl;
  others = λ other apart. rw (says, ne_eqb (part_address part) other (λ is. apart (sym is ∙ place))) refl;
  elsewhere = λ other apart.
      rw (ne_eqb item.key.objectid other (λ is. apart (sym is ∙ part-address item part says ∙ place))) refl;
}

-- ---- one edit

-- what items say at an address differs in this, and nothing else does
pub record Step (at : ℕ) (items next : List Item) (old new : List ExtentPart) : Type 0 where
  pub ascend : Ascend next
  pub said : list_all is_said next ≡ true
  pub here : Splice (parts_here items at) (parts_here next at) old new
  pub others : (other : ℕ) → other ≢ at → parts_here next other ≡ parts_here items other
  pub elsewhere : (other : ℕ) → other ≢ at → items_at next other ≡ items_at items other

here_splice : (items next old new : List Item) → Splice items next old new → (at : ℕ)
    → Splice (parts_here items at) (parts_here next at) (parts_here old at) (parts_here new at)
here_splice items next old new splice at =
    filter-splice (λ (part : ExtentPart). part_address part == at) (parts_of items) (parts_of next) (parts_of old)
    (parts_of new) (filter_map-splice extent_part items next old new splice)

-- the same stretch by other names
pub renamed : {X : Type 0} (xs ys old new old' new' : List X) → Splice xs ys old new → old ≡ old' → new ≡ new'
    → Splice xs ys old' new'
renamed {X} xs ys old new old' new' splice was now = record {
  front = splice.front;
  back = splice.back;
  was = splice.was ∙ ap (λ (l : List X). splice.front ++ (l ++ splice.back)) was;
  now = splice.now ∙ ap (λ (l : List X). splice.front ++ (l ++ splice.back)) now;
}

-- where both stretches are empty nothing differs
pub emptied : {X : Type 0} (xs ys old new : List X) → Splice xs ys old new → old ≡ [] → new ≡ [] → ys ≡ xs
emptied {X} xs ys old new splice was now =
    splice.now ∙ ap (λ (l : List X). splice.front ++ (l ++ splice.back)) (now ∙ sym was) ∙ sym splice.was

step_of : (at : ℕ) (items next old new : List Item) (was is : List ExtentPart) → Splice items next old new
    → Ascend next → list_all is_said items ≡ true → Says at old was → Says at new is → Step at items next was is
step_of at items next old new was is splice ascend said before after = record {
  ascend = ascend;
  said = all-splice is_said items next old new splice said after.said;
  here = renamed (parts_here items at) (parts_here next at) (parts_here old at) (parts_here new at) was is
      (here_splice items next old new splice at) before.here after.here;
  others = λ other apart.
      emptied (parts_here items other) (parts_here next other) (parts_here old other) (parts_here new other)
      (here_splice items next old new splice other) (before.others other apart) (after.others other apart);
  elsewhere = λ other apart.
      emptied (items_at items other) (items_at next other) (items_at old other) (items_at new other)
      (filter-splice (λ (item : Item). item.key.objectid == other) items next old new splice)
      (before.elsewhere other apart) (after.elsewhere other apart);
}

-- the edit can be made, and it makes this difference
pub record Made (at : ℕ) (items : List Item) (edit : Edit) (old new : List ExtentPart) : Type 0 where
  pub can : CanEdit edit items
  pub short : IsShort edit.change
  pub step : Step at items (edited edit items) old new

-- an item comes in under a key that none has
pub comes-in : (at : ℕ) (items : List Item) (item : Item) (part : ExtentPart) → Ascend items
    → list_all is_said items ≡ true → has_key item.key items ≡ false → extent_part item ≡ Some part
    → part_address part ≡ at → length item.body ≤ 1024 → Made at items (put_item false item) [] (part ∷ [])
comes-in at items item part ascend said absent says place short =
    let goes = goes-in item items ascend absent in
    let splice : Splice items (with_item item items) [] (item ∷ []) =
    record { front = goes.front; back = goes.back; was = goes.parted; now = goes.with } in
    record {
      can = not_from_false (has_key item.key items) absent;
      short = short;
      step = step_of at items (with_item item items) [] (item ∷ []) [] (part ∷ []) splice
          (ascend-in item items ascend goes) said (says-none at) (says-one at item part says place);
    }

-- one that is there gets another body
pub gets-body : (at : ℕ) (items : List Item) (old item : Item) (was part : ExtentPart) → Ascend items
    → list_all is_said items ≡ true → Among old items → item.key ≡ old.key → extent_part old ≡ Some was
    → part_address was ≡ at → extent_part item ≡ Some part → part_address part ≡ at → length item.body ≤ 1024
    → Made at items (put_item true item) (was ∷ []) (part ∷ [])
gets-body at items old item was part ascend said among same said_old place_old says place short =
    let between = among-between old items among in
    let there : Ascend (between.front ++ (old ∷ between.back)) =
    subst (λ (l : List Item). Ascend l) between.stand ascend in
    let now : with_item item items ≡ between.front ++ (item ∷ between.back) =
    ap (λ (l : List Item). with_item item l) between.stand
    ∙ with-between between.front old between.back item there same in
    let splice : Splice items (with_item item items) (old ∷ []) (item ∷ []) =
    record { front = between.front; back = between.back; was = between.stand; now = now } in
    record {
      can = ap (λ (key : Key). has_key key items) same
          ∙ ap (λ (l : List Item). has_key old.key l) between.stand
          ∙ has-between between.front old between.back;
      short = short;
      step = step_of at items (with_item item items) (old ∷ []) (item ∷ []) (was ∷ []) (part ∷ []) splice
          (subst (λ (l : List Item). Ascend l) (sym now)
          (ascend-other between.front old between.back item there same)) said
          (says-one at old was said_old place_old) (says-one at item part says place);
    }

-- and one that is there goes
pub goes-out : (at : ℕ) (items : List Item) (old item : Item) (was : ExtentPart) → Ascend items
    → list_all is_said items ≡ true → Among old items → item.key ≡ old.key → extent_part old ≡ Some was
    → part_address was ≡ at → Made at items (take_item item) (was ∷ []) []
goes-out at items old item was ascend said among same said_old place_old =
    let between = among-between old items among in
    let there : Ascend (between.front ++ (old ∷ between.back)) =
    subst (λ (l : List Item). Ascend l) between.stand ascend in
    let now : without_key item.key items ≡ between.front ++ between.back =
    ap (λ (key : Key). without_key key items) same
    ∙ ap (λ (l : List Item). without_key old.key l) between.stand
    ∙ without-between between.front old between.back there in
    let splice : Splice items (without_key item.key items) (old ∷ []) [] =
    record { front = between.front; back = between.back; was = between.stand; now = now } in
    record {
      can = ap (λ (key : Key). has_key key items) same
          ∙ ap (λ (l : List Item). has_key old.key l) between.stand
          ∙ has-between between.front old between.back;
      short = tt;
      step = step_of at items (without_key item.key items) (old ∷ []) [] (was ∷ []) [] splice
          (subst (λ (l : List Item). Ascend l) (sym now) (ascend-out between.front old between.back there)) said
          (says-one at old was said_old place_old) (says-none at);
    }
