-- What the items of one address tell, read one by one.
use Rattle.std.proofs.Common.{◌≡◌, ℕ, zero, suc, ◌+◌, ◌<◌, Bool, true, false, List, [], ◌∷◌, length}
use Rattle.std.proofs.Common.{drop, get_or, Option, Some, None, refl, sym, ap, subst, ◌∙◌, arith, inl, inr, cond}
use Rattle.std.specs.Prelude.{◌==◌, ◌||◌, not, MatchOption}
use Rattle.std.specs.List.{find, list_any}
use Rattle.std.specs.Option.{option_map}
use Rattle.std.specs.Ordering.{is_lt}
use Rattle.std.proofs.lemmas.Bool.{and_from, and_parts, eq-eqb, eqb-true, false_from_ne_true}
use Rattle.std.proofs.lemmas.Bool.{true≢false}
use Rattle.std.proofs.lemmas.List.{drop_more}
use Rattle.std.proofs.lemmas.Option.{none-some}
use Rattle.qg_num.specs.declared.key.Key.{Key}
use Rattle.qg_num.specs.Key.{key_cmp}
use Rattle.qg_node.specs.declared.item.Item.{Item}
use Rattle.qg_node.specs.Nodes.{ascends_from, is_ascending}
use Rattle.qg_items.specs.declared.extent.Reference.{Reference}
use Rattle.qg_items.specs.declared.extent.Reference.TheVariants.{KeyedBlock, SharedBlock, KeyedData, SharedData}
use Rattle.qg_image.specs.IsShaped.{same_key}
use Rattle.qg_shape.proofs.Ascending.{ascending_tail, from_lower}
use Rattle.qg_tree_items.specs.Types.{Extents, ExtentPart}
use Rattle.qg_tree_items.specs.Types.{DataRecord, NodeRecord, Referenced}
use Rattle.qg_tree_items.specs.ItemMeaning.{extent_part, extent_part_stamps, some_passes, when}
use Rattle.qg_tree_items.specs.Keys.{key_with}
use Rattle.qg_tree_items.specs.Owed.{is_record, part_address}
use Rattle.qg_tree_items.specs.Walk.{are_by, is_item_of}
use Rattle.qg_extents.specs.declared.head.Head.{Head}
use Rattle.qg_extents.specs.BookRecords.{is_sound_record, refs_told, tells_full, told_in}
use Rattle.qg_extents.specs.Reading.{IsHeadOf}
use Rattle.qg_edit.specs.Edits.{has_key}
use Rattle.qg_edit.proofs.Lists.{keys_of}
use Rattle.qg_extent_items.specs.Told.{AreRecords, head_at, head_told, items_at, parts_here, parts_of}
use Rattle.qg_extent_items.specs.Laws.{AreAllowed}
use Rattle.qg_extent_items.specs.Reading.{IsCountIn, IsFirst, IsHeadIn, data_ref_key, is_record_item}
use Rattle.qg_extent_items.specs.Standing.{HasNumber, IsFreeNumber, IsStanding, is_reference_to}
use Rattle.qg_extent_items.specs.Standing.{number_of, tells}
use Rattle.qg_extent_items.specs.declared.standing.Standing.{Standing}
use Rattle.qg_extent_items.proofs.Entries.{Sums, head-address, head-back, head-sound, head_parts}
use Rattle.qg_extent_items.proofs.Keyed.{Ascend}
use Rattle.qg_extent_items.proofs.PartKeys.{part-address, part_of_head, told-is}
use Rattle.qg_extent_items.proofs.RecordSteps.{has_record, records_here}
use Rattle.qg_extent_items.proofs.Splices.{Among, among-all, among-filter, among-gives, among-none, among-passes}
use Rattle.qg_extent_items.proofs.Splices.{find-some}
use Rattle.qg_extent_items.proofs.Standings.{teller, told_among, told_often, untold}
use Rattle.qg_extent_items.proofs.TheBook.{entry-at}

-- ---- the items of an address alone

-- an item that tells a reference to an address is there
teller_there : (at : ℕ) (x : Reference) (item : Item) → tells at x item ≡ true → (item.key.objectid == at) ≡ true
teller_there at x item is =
    let tell = teller at x item is in
    eq-eqb item.key.objectid at (part-address item (Referenced at x tell.count) tell.says)

pub find-here : (at : ℕ) (x : Reference) (items : List Item)
    → find (tells at x) (items_at items at) ≡ find (tells at x) items
find-here at x [] = refl
find-here at x (item ∷ items) = by (item.key.objectid == at) refl (find-here at x items)
  where
    by : (b : Bool) → (item.key.objectid == at) ≡ b
        → find (tells at x) (items_at items at) ≡ find (tells at x) items
        → find (tells at x) (cond b (item ∷ items_at items at) (items_at items at))
        ≡ cond (tells at x item) (Some item) (find (tells at x) items)
    by true is rest = ap (λ (o : Option Item). cond (tells at x item) (Some item) o) rest
    by false is rest =
        let not' : tells at x item ≡ false =
        false_from_ne_true (tells at x item) (λ own. true≢false (sym (teller_there at x item own) ∙ is)) in
        rest ∙ ap (λ (b : Bool). cond b (Some item) (find (tells at x) items)) (sym not')

pub has-here : (at kind offset : ℕ) (items : List Item)
    → has_key (key_with at kind offset) (items_at items at) ≡ has_key (key_with at kind offset) items
has-here at kind offset [] = refl
has-here at kind offset (item ∷ items) = by (item.key.objectid == at) refl (has-here at kind offset items)
  where
    by : (b : Bool) → (item.key.objectid == at) ≡ b
        → has_key (key_with at kind offset) (items_at items at) ≡ has_key (key_with at kind offset) items
        → has_key (key_with at kind offset) (cond b (item ∷ items_at items at) (items_at items at))
        ≡ (same_key item.key (key_with at kind offset) || has_key (key_with at kind offset) items)
    by true is rest =
        ap (λ (b : Bool). same_key item.key (key_with at kind offset) || b) rest
    by false is rest = rw is rest

above : (low : Key) (items : List Item) (at : ℕ) → ascends_from low (keys_of items) ≡ true
    → ascends_from low (keys_of (items_at items at)) ≡ true
unfolding ascends_from
above low [] at ascend = refl
above low (item ∷ items) at ascend =
    let parts = and_parts (is_lt (key_cmp low item.key)) (ascends_from item.key (keys_of items)) ascend in
    by (item.key.objectid == at) parts.0 (above item.key items at parts.1)
  where
    by : (b : Bool) → is_lt (key_cmp low item.key) ≡ true
        → ascends_from item.key (keys_of (items_at items at)) ≡ true
        → ascends_from low (keys_of (cond b (item ∷ items_at items at) (items_at items at))) ≡ true
    by true less rest =
        and_from (is_lt (key_cmp low item.key)) (ascends_from item.key (keys_of (items_at items at))) less rest
    by false less rest = from_lower low item.key (keys_of (items_at items at)) less rest

pub ascend-here : (items : List Item) (at : ℕ) → Ascend items → Ascend (items_at items at)
unfolding is_ascending
ascend-here [] at ascend = refl
ascend-here (item ∷ items) at ascend = by (item.key.objectid == at) (above item.key items at ascend)
  where
    by : (b : Bool) → ascends_from item.key (keys_of (items_at items at)) ≡ true
        → is_ascending (keys_of (cond b (item ∷ items_at items at) (items_at items at))) ≡ true
    by true rest = rest
    by false rest = ascending_tail item.key (keys_of (items_at items at)) rest

-- ---- how a reference stands

pub stands-first : (at : ℕ) (x : Reference) (items here : List Item) (standing : Standing) → AreRecords items
    → here ≡ items_at items at → IsFirst at x here standing → IsStanding at x items standing
stands-first at x items here standing are is first =
    let found : find (tells at x) items ≡ Some first.item =
    sym (find-here at x items) ∙ ap (λ (l : List Item). find (tells at x) l) (sym is) ∙ first.first in
    let among = (find-some (tells at x) first.item items found).1 in
    let often = told_often x standing.count (told_in (parts_here items at))
    (told_among at x standing.count items first.item among first.count) (entry-at 0 items are at).clean in
    record {
      count = often.1.0 ∙ sym often.1.1;
      number = by x (ap (option_map (λ (item : Item). item.key.offset)) found);
    }
  where
    by : (y : Reference) → number_of at y items ≡ Some first.item.key.offset
        → HasNumber at items y standing.number
    by (KeyedData root ino offset) there =
        subst (λ (o : Option ℕ). MatchOption o (IsFreeNumber at items standing.number)
        (λ there. standing.number ≡ there)) (sym there) first.number
    by (KeyedBlock root) there = tt
    by (SharedBlock parent) there = tt
    by (SharedData parent) there = tt

pub stands-none : (at : ℕ) (x : Reference) (items here : List Item) (number : ℕ) → AreRecords items
    → here ≡ items_at items at → find (tells at x) here ≡ None
    → (Ascend here → IsFreeNumber at here number)
    → IsStanding at x items (record { count = 0; number = number })
stands-none at x items here number are is none free =
    let found : find (tells at x) items ≡ None =
    sym (find-here at x items) ∙ ap (λ (l : List Item). find (tells at x) l) (sym is) ∙ none in
    let least = free (subst (λ (l : List Item). Ascend l) (sym is) (ascend-here items at are.ascending)) in
    let same : (n : ℕ) → has_key (data_ref_key at n) here ≡ has_key (data_ref_key at n) items =
    λ n. ap (λ (l : List Item). has_key (data_ref_key at n) l) is ∙ has-here at 178 n items in
    record {
      count = sym (untold at x items found);
      number = by x (ap (option_map (λ (item : Item). item.key.offset)) found) (record {
        free = ap not (sym (same number)) ∙ least.free;
        least = λ lesser below. sym (same lesser) ∙ least.least lesser below;
      });
    }
  where
    by : (y : Reference) → number_of at y items ≡ None → IsFreeNumber at items number → HasNumber at items y number
    by (KeyedData root ino offset) none free =
        subst (λ (o : Option ℕ). MatchOption o (IsFreeNumber at items number) (λ there. number ≡ there)) (sym none) free
    by (KeyedBlock root) none free = tt
    by (SharedBlock parent) none free = tt
    by (SharedData parent) none free = tt

-- ---- what the record tells

sound_is_record : (part : ExtentPart) → is_sound_record part ≡ true → is_record part ≡ true
sound_is_record (DataRecord address bytes extent) is = refl
sound_is_record (NodeRecord address level extent) is = refl
sound_is_record (Referenced address reference count) is = absurd (true≢false (sym is))

told_by : (nodesize : ℕ) (part : ExtentPart) (head : Head) → IsHeadOf nodesize part head
    → head_told nodesize part ≡ Some head
told_by nodesize part head is =
    ap (option_map (λ what. record { what = what; full = tells_full part; refs = refs_told part })) (sym is.what)
    ∙ (λ i. Some (record { what = head.what; full = sym is.full i; refs = sym is.refs i }))

pub head-here : (nodesize : ℕ) (items here : List Item) (at : ℕ) (item : Item) (head : Head) → AreRecords items
    → here ≡ items_at items at → Among item here → IsHeadIn nodesize item head
    → Some head ≡ head_at nodesize items at
head-here nodesize items here at item head are is among own =
    let there = among-filter (λ (other : Item). other.key.objectid == at) item items
    (subst (λ (l : List Item). Among item l) is among) in
    let place : part_address own.part ≡ at =
    sym (part-address item own.part own.says) ∙ eqb-true item.key.objectid at there.0 in
    let entry = entry-at nodesize items are at in
    let here' : Among own.part (records_here items at) =
    among-passes is_record own.part (parts_here items at) (sound_is_record own.part own.is.sound)
    (among-passes (λ (other : ExtentPart). part_address other == at) own.part (parts_of items)
    (eq-eqb (part_address own.part) at place) (among-gives extent_part item own.part items own.says there.1)) in
    by (head_at nodesize items at) entry.sums
    (subst (λ (l : List ExtentPart). Among own.part l) entry.records here')
  where
    by : (o : Option Head) → Sums nodesize o (told_in (parts_here items at)) → Among own.part (head_parts at o)
        → Some head ≡ o
    by None sums among = absurd among
    by (Some other) sums (inl same) =
        sym (told_by nodesize own.part head own.is) ∙ ap (head_told nodesize) (sym same)
        ∙ head-back nodesize at other sums.tell
    by (Some other) sums (inr never) = absurd never

pub no-head-here : (nodesize generation : ℕ) (items here : List Item) (at : ℕ) → AreRecords items
    → AreAllowed generation items → here ≡ items_at items at → list_any (is_record_item generation) here ≡ false
    → None ≡ head_at nodesize items at
no-head-here nodesize generation items here at are allowed is none =
    let entry = entry-at nodesize items are at in
    by (head_at nodesize items at) entry.records entry.sums
  where
    by : (o : Option Head) → records_here items at ≡ head_parts at o
        → Sums nodesize o (told_in (parts_here items at)) → None ≡ o
    by None records sums = refl
    by (Some head) records sums =
        let has = has_record at items head records in
        let place : has.item.key.objectid ≡ at =
        part-address has.item (part_of_head at head) has.says ∙ head-address at head in
        let among : Among has.item here =
        subst (λ (l : List Item). Among has.item l) (sym is)
        (among-passes (λ (other : Item). other.key.objectid == at) has.item items
        (eq-eqb has.item.key.objectid at place) has.among) in
        let own : is_record_item generation has.item ≡ true =
        ap (λ (b : Bool). some_passes is_sound_record (when b (extent_part has.item)))
        (among-all (is_item_of Extents generation) has.item items allowed has.among)
        ∙ ap (λ (p : Option ExtentPart). some_passes is_sound_record p) has.says
        ∙ head-sound nodesize at head sums.tell in
        absurd (true≢false (sym own ∙ among-none (is_record_item generation) has.item here none among))

-- ---- an index

pub among-index : {X : Type 0} (xs : List X) (i : ℕ) (x : X) → i < length xs → x ≡ get_or xs i x → Among x xs
among-index [] i x inside is = absurd (omega (arith, inside))
among-index (y ∷ xs) zero x inside is = inl (sym is)
among-index (y ∷ xs) (suc i) x inside is = inr (among-index xs i x (omega (arith, inside)) is)

-- ---- one item after the other

cut : {X : Type 0} (xs : List X) (i : ℕ) (x : X) → i < length xs → x ≡ get_or xs i x
    → drop i xs ≡ x ∷ drop (i + 1) xs
cut {X} xs i x inside is = drop_more xs i x inside ∙ ap (λ (y : X). y ∷ drop (i + 1) xs) (sym is)

pub any-next : {X : Type 0} (p : X → Bool) (xs : List X) (i : ℕ) (x : X) → i < length xs → x ≡ get_or xs i x
    → p x ≡ false → list_any p (drop i xs) ≡ list_any p (drop (i + 1) xs)
any-next {X} p xs i x inside is fails =
    ap (λ (l : List X). list_any p l) (cut xs i x inside is)
    ∙ ap (λ (b : Bool). b || list_any p (drop (i + 1) xs)) fails

pub find-next : {X : Type 0} (p : X → Bool) (xs : List X) (i : ℕ) (x : X) → i < length xs → x ≡ get_or xs i x
    → p x ≡ false → find p (drop i xs) ≡ find p (drop (i + 1) xs)
find-next {X} p xs i x inside is fails =
    ap (λ (l : List X). find p l) (cut xs i x inside is)
    ∙ ap (λ (b : Bool). cond b (Some x) (find p (drop (i + 1) xs))) fails

pub find-hit : {X : Type 0} (p : X → Bool) (xs : List X) (i : ℕ) (x : X) → i < length xs → x ≡ get_or xs i x
    → p x ≡ true → find p (drop i xs) ≡ Some x
find-hit {X} p xs i x inside is passed =
    ap (λ (l : List X). find p l) (cut xs i x inside is)
    ∙ ap (λ (b : Bool). cond b (Some x) (find p (drop (i + 1) xs))) passed

-- an item that tells a reference with some count tells it
pub tells-count : (at : ℕ) (x : Reference) (count : ℕ) (item : Item)
    → extent_part item ≡ Some (Referenced at x count) → tells at x item ≡ true
tells-count at x count item says =
    ap (λ (o : Option ExtentPart). some_passes (is_reference_to at x) o) says ∙ told-is at x count

-- ---- what is read

pub when_parts : {A : Type 0} (b : Bool) (o : Option A) (x : A) → when b o ≡ Some x → o ≡ Some x
when_parts true o x is = is
when_parts false o x is = absurd (none-some x is)

-- a reference is read in an image of any generation
pub read-reference : (at generation : ℕ) (x : Reference) (item : Item) (part : ExtentPart) (count : Option ℕ)
    → when (is_item_of Extents generation item) (extent_part item) ≡ Some part
    → MatchOption count (is_reference_to at x part ≡ false) (λ n. part ≡ Referenced at x n)
    → MatchOption count (tells at x item ≡ false) (IsCountIn at x item)
read-reference at generation x item part None read not' =
    ap (λ (o : Option ExtentPart). some_passes (is_reference_to at x) o)
    (when_parts (is_item_of Extents generation item) (extent_part item) part read) ∙ not'
read-reference at generation x item part (Some n) read is =
    when_parts (is_item_of Extents generation item) (extent_part item) part read
    ∙ ap (λ (p : ExtentPart). Some p) is

-- and what isn't read is none
pub unread-reference : (at generation : ℕ) (x : Reference) (item : Item)
    → when (is_item_of Extents generation item) (extent_part item) ≡ None → tells at x item ≡ false
unfolding is_item_of
unread-reference at generation x item read = by (extent_part item) read
  where
    by : (o : Option ExtentPart) → when (some_passes (λ part. are_by generation (extent_part_stamps part)) o) o ≡ None
        → some_passes (is_reference_to at x) o ≡ false
    by None read = refl
    by (Some (DataRecord address bytes extent)) read = refl
    by (Some (NodeRecord address level extent)) read = refl
    by (Some (Referenced address told count)) read =
        absurd (none-some (Referenced address told count) (sym read))
