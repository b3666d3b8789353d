-- What the tree may hold, once items are edited.
use Rattle.std.proofs.Common.{◌≡◌, ℕ, ◌-◌, ◌≤◌, ◌<◌, Bool, true, false, List, [], ◌∷◌, Option, Some, None, refl, sym}
use Rattle.std.proofs.Common.{ap, ◌∙◌, arith, cond, leb-true}
use Rattle.std.specs.Prelude.{◌==◌, ◌&&◌, not, nat_le}
use Rattle.std.specs.List.{list_all}
use Rattle.std.specs.Ordering.{is_lt}
use Rattle.std.proofs.lemmas.Bool.{and_from, and_parts, le-leb}
use Rattle.qg_num.specs.declared.key.Key.{Key}
use Rattle.qg_num.specs.Key.{key_cmp}
use Rattle.qg_node.specs.declared.item.Item.{Item}
use Rattle.qg_items.specs.declared.extent.ExtentItem.{ExtentItem}
use Rattle.qg_items.specs.declared.extent.Reference.{Reference}
use Rattle.qg_image.specs.IsShaped.{same_key}
use Rattle.qg_tree_items.specs.Types.{Extents, ExtentPart}
use Rattle.qg_tree_items.specs.ItemMeaning.{extent_part_stamps, some_passes}
use Rattle.qg_tree_items.specs.Walk.{are_by, is_item_of}
use Rattle.qg_refs.specs.Counts.{greatest_count}
use Rattle.qg_extents.specs.declared.head.Head.{Head}
use Rattle.qg_extents.specs.Written.{ReferenceFits, extent_of_head, item_of_head, item_of_reference, record_part}
use Rattle.qg_extents.proofs.ItemsSaid.{reference_said}
use Rattle.qg_edit.specs.Edits.{edited, with_item, without_key}
use Rattle.qg_extent_items.specs.BookEdits.{lessened, put_item, take_item}
use Rattle.qg_extent_items.specs.Laws.{AreAllowed, HeadFits}
use Rattle.qg_extent_items.proofs.Entries.{head_parts}
use Rattle.qg_extent_items.proofs.PartKeys.{head-said, part_of_head}
use Rattle.qg_extent_items.proofs.RecordSteps.{has_record, records_here}
use Rattle.qg_extent_items.proofs.Splices.{among-all}
use Rattle.qg_extent_items.proofs.Standings.{greatest_small}

-- ---- what passes of items passes of what an edit makes of them

all_with : (p : Item → Bool) (new : Item) (items : List Item) → list_all p items ≡ true → p new ≡ true
    → list_all p (with_item new items) ≡ true
all_with p new [] all own = and_from (p new) true own refl
all_with p new (item ∷ items) all own =
    let parts = and_parts (p item) (list_all p items) all in
    by (is_lt (key_cmp item.key new.key)) (same_key item.key new.key) parts.0 parts.1
    (all_with p new items parts.1 own)
  where
    by : (b c : Bool) → p item ≡ true → list_all p items ≡ true → list_all p (with_item new items) ≡ true
        → list_all p (cond b (item ∷ with_item new items) (cond c (new ∷ items) (new ∷ item ∷ items))) ≡ true
    by true c first later rest = and_from (p item) (list_all p (with_item new items)) first rest
    by false true first later rest = and_from (p new) (list_all p items) own later
    by false false first later rest =
        and_from (p new) (p item && list_all p items) own (and_from (p item) (list_all p items) first later)

all_without : (p : Item → Bool) (key : Key) (items : List Item) → list_all p items ≡ true
    → list_all p (without_key key items) ≡ true
all_without p key [] all = refl
all_without p key (item ∷ items) all =
    let parts = and_parts (p item) (list_all p items) all in
    by (not (same_key item.key key)) parts.0 (all_without p key items parts.1)
  where
    by : (b : Bool) → p item ≡ true → list_all p (without_key key items) ≡ true
        → list_all p (cond b (item ∷ without_key key items) (without_key key items)) ≡ true
    by true first rest = and_from (p item) (list_all p (without_key key items)) first rest
    by false first rest = rest

pub all-put : (p : Item → Bool) (there : Bool) (item : Item) (items : List Item) → list_all p items ≡ true
    → p item ≡ true → list_all p (edited (put_item there item) items) ≡ true
all-put p true item items all own = all_with p item items all own
all-put p false item items all own = all_with p item items all own

pub all-lessened : (p : Item → Bool) (count : ℕ) (item_of : ℕ → Item) (items : List Item) → list_all p items ≡ true
    → ((count == 1) ≡ false → p (item_of (count - 1)) ≡ true)
    → list_all p (edited (lessened count item_of) items) ≡ true
all-lessened p count item_of items all own = by (count == 1) refl
  where
    by : (b : Bool) → (count == 1) ≡ b
        → list_all p (edited (cond b (take_item (item_of count)) (put_item true (item_of (count - 1)))) items) ≡ true
    by true is = all_without p (item_of count).key items all
    by false is = all-put p true (item_of (count - 1)) items all (own is)

-- ---- the items that come in

pub reference-allowed : (generation at number : ℕ) (x : Reference) (m : ℕ) → ReferenceFits x → 0 < m
    → m ≤ greatest_count x → is_item_of Extents generation (item_of_reference at number x m) ≡ true
unfolding is_item_of
reference-allowed generation at number x m fits some most =
    ap (λ (o : Option ExtentPart). some_passes (λ part. are_by generation (extent_part_stamps part)) o)
    (reference_said at number x m fits (omega (arith, most, greatest_small x)) some most)

record_stamps : (at bytes : ℕ) (level : Option ℕ) (extent : ExtentItem)
    → extent_part_stamps (record_part at bytes level extent) ≡ extent.generation ∷ []
record_stamps at bytes None extent = refl
record_stamps at bytes (Some level) extent = refl

-- a record is allowed where it is no newer
head_by : (generation at : ℕ) (head : Head)
    → are_by generation (extent_part_stamps (part_of_head at head)) ≡ (nat_le head.what.generation generation && true)
head_by generation at head =
    ap (are_by generation) (record_stamps at head.what.bytes head.what.level (extent_of_head head))

pub record-allowed : (generation at : ℕ) (head : Head) → HeadFits head → head.what.generation ≤ generation
    → is_item_of Extents generation (item_of_head at head) ≡ true
unfolding is_item_of
record-allowed generation at head fits made =
    ap (λ (o : Option ExtentPart). some_passes (λ part. are_by generation (extent_part_stamps part)) o)
    (head-said at head fits) ∙ head_by generation at head
    ∙ and_from (nat_le head.what.generation generation) true (le-leb head.what.generation generation made) refl

-- and the one that is there isn't
pub record-made : (generation at : ℕ) (items : List Item) (head : Head)
    → records_here items at ≡ head_parts at (Some head) → AreAllowed generation items
    → head.what.generation ≤ generation
unfolding is_item_of
record-made generation at items head is allowed =
    let has = has_record at items head is in
    let own : is_item_of Extents generation has.item ≡ true =
    among-all (is_item_of Extents generation) has.item items allowed has.among in
    let by : (nat_le head.what.generation generation && true) ≡ true =
    sym (head_by generation at head)
    ∙ ap (λ (o : Option ExtentPart). some_passes (λ part. are_by generation (extent_part_stamps part)) o)
    (sym has.says) ∙ own in
    leb-true head.what.generation generation (and_parts (nat_le head.what.generation generation) true by).0
