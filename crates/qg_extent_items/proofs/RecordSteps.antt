-- The edit of a record's item, and what is at its address then.
use Rattle.std.proofs.Common.{◌≡◌, ◌≢◌, ℕ, ◌-◌, ◌≤◌, Bool, true, false, List, [], length, Option}
use Rattle.std.proofs.Common.{Some, None, refl, sym, ap, subst, ◌∙◌, arith, inl, inr, cond, ◌⊎◌, eq-eqb}
use Rattle.std.specs.Prelude.{◌==◌, is_some}
use Rattle.std.specs.List.{filter, list_all}
use Rattle.std.specs.Option.{option_and_then, option_map}
use Rattle.std.proofs.lemmas.Bool.{cases_eq, false_from_ne_true}
use Rattle.qg_node.specs.declared.item.Item.{Item}
use Rattle.qg_tree_items.specs.Types.{ExtentPart}
use Rattle.qg_tree_items.specs.ItemMeaning.{extent_part}
use Rattle.qg_tree_items.specs.Owed.{is_record, part_address, reference_told}
use Rattle.qg_refs.specs.declared.kept.What.{What}
use Rattle.qg_extents.specs.declared.head.Head.{Head}
use Rattle.qg_extents.specs.Written.{extent_of_head, item_of_head, record_item}
use Rattle.qg_extents.specs.BookRecords.{the_record, told_in}
use Rattle.qg_extents.proofs.ItemsSaid.{record_short}
use Rattle.qg_extents.proofs.Telling.{Told}
use Rattle.qg_edit.specs.Edits.{has_key}
use Rattle.qg_extent_items.specs.Told.{AreRecords, book_told, head_told, is_said, items_at, kept_by, parts_here}
use Rattle.qg_extent_items.specs.Told.{parts_of}
use Rattle.qg_extent_items.specs.BookEdits.{head_less, head_more, lessened, put_item, take_item}
use Rattle.qg_extent_items.specs.Laws.{AreStillRecords, HeadFits}
use Rattle.qg_extent_items.proofs.CountsTold.{IsClean}
use Rattle.qg_extent_items.proofs.Entries.{IsEntryWith, IsNoneOrEntry, Sums, each-entry, entries-none, entry-back}
use Rattle.qg_extent_items.proofs.Entries.{entry-head, head-address, head-records, head-tells, head_parts}
use Rattle.qg_extent_items.proofs.Keyed.{Ascend, key-among}
use Rattle.qg_extent_items.proofs.PartKeys.{head-said, is-record-key, one-record-key, part-keyed, part_of_head}
use Rattle.qg_extent_items.proofs.PartKeys.{record-key}
use Rattle.qg_extent_items.proofs.Splices.{Among, among-all, among-filter, among-filter_map, among-gives, among-passes}
use Rattle.qg_extent_items.proofs.Splices.{filter-splice, filter_map-splice, some-is, whole-splice}
use Rattle.qg_extent_items.proofs.Steps.{Made, Step, comes-in, emptied, gets-body, goes-out}
use Rattle.qg_extent_items.proofs.TheBook.{kept_of}

-- ---- the record's item

-- the records at an address
abbrev pub records_here : List Item → ℕ → List ExtentPart
records_here items at = filter is_record (parts_here items at)

-- no item has the key of a record where there is none
no_record : (at : ℕ) (items : List Item) (head : Head) → list_all is_said items ≡ true → records_here items at ≡ []
    → has_key (item_of_head at head).key items ≡ false
no_record at items head said none =
    false_from_ne_true (has_key (item_of_head at head).key items) (λ has.
    let found = key-among (item_of_head at head).key items has in
    let item = found.0 in
    let part = some-is (extent_part item) (among-all is_said item items said found.1.0) in
    let key = sym (part-keyed item part.0 part.1) ∙ found.1.1
    ∙ record-key at head.what.bytes head.what.level (extent_of_head head) 0 in
    let is = is-record-key item.key.offset 0 part.0 at head.what.bytes head.what.level (extent_of_head head) key in
    let among : Among part.0 (records_here items at) =
    among-passes is_record part.0 (parts_here items at) is.0
    (among-passes (λ (other : ExtentPart). part_address other == at) part.0 (parts_of items)
    (eq-eqb (part_address part.0) at is.1)
    (among-gives extent_part item part.0 items part.1 found.1.0)) in
    subst (λ (l : List ExtentPart). Among part.0 l) none among)

-- the item of the record that is there
pub record HasRecord (at : ℕ) (head : Head) (items : List Item) : Type 0 where
  pub item : Item
  pub among : Among item items
  pub says : extent_part item ≡ Some (part_of_head at head)
  pub key : (item_of_head at head).key ≡ item.key

pub has_record : (at : ℕ) (items : List Item) (head : Head) → records_here items at ≡ head_parts at (Some head)
    → HasRecord at head items
has_record at items head is =
    let part = part_of_head at head in
    let own : Among part (records_here items at) =
    subst (λ (l : List ExtentPart). Among part l) (sym is) (inl refl) in
    let here = (among-filter is_record part (parts_here items at) own).1 in
    let said = (among-filter (λ (other : ExtentPart). part_address other == at) part (parts_of items) here).1 in
    let given = among-filter_map extent_part part items said in
    record {
      item = given.from;
      among = given.among;
      says = given.gives;
      key = record-key at head.what.bytes head.what.level (extent_of_head head) given.from.key.offset
          ∙ sym (part-keyed given.from part given.gives);
    }

-- a record that tells something else of the same has the same key
one_key : (at : ℕ) (head other : Head) → other.what ≡ head.what
    → (item_of_head at other).key ≡ (item_of_head at head).key
one_key at head other same =
    ap (λ (what : What). (record_item at what.bytes what.level (extent_of_head other)).key) same
    ∙ one-record-key at head.what.bytes head.what.level (extent_of_head other) (extent_of_head head)

short_head : (at : ℕ) (head : Head) → length (item_of_head at head).body ≤ 1024
short_head at head = record_short at head.what.bytes head.what.level (extent_of_head head)

puts_first : (at : ℕ) (items : List Item) (head : Head) → Ascend items → list_all is_said items ≡ true
    → records_here items at ≡ head_parts at None → HeadFits head
    → Made at items (put_item false (item_of_head at head)) (head_parts at None) (head_parts at (Some head))
puts_first at items head ascend said is fits =
    comes-in at items (item_of_head at head) (part_of_head at head) ascend said (no_record at items head said is)
    (head-said at head fits) (head-address at head) (short_head at head)

pub puts-again : (at : ℕ) (items : List Item) (head other : Head) → other.what ≡ head.what → Ascend items
    → list_all is_said items ≡ true → records_here items at ≡ head_parts at (Some head) → HeadFits other
    → Made at items (put_item true (item_of_head at other)) (head_parts at (Some head)) (head_parts at (Some other))
puts-again at items head other same ascend said is fits =
    let has = has_record at items head is in
    gets-body at items has.item (item_of_head at other) (part_of_head at head) (part_of_head at other) ascend said
    has.among (one_key at head other same ∙ has.key) has.says (head-address at head) (head-said at other fits)
    (head-address at other) (short_head at other)

takes_out : (at : ℕ) (items : List Item) (head : Head) → Ascend items → list_all is_said items ≡ true
    → records_here items at ≡ head_parts at (Some head)
    → Made at items (take_item (item_of_head at head)) (head_parts at (Some head)) (head_parts at None)
takes_out at items head ascend said is =
    let has = has_record at items head is in
    goes-out at items has.item (item_of_head at head) (part_of_head at head) ascend said has.among has.key has.says
    (head-address at head)

-- it tells one reference more
pub more-record : (at : ℕ) (items : List Item) (what : What) (head : Option Head) → Ascend items
    → list_all is_said items ≡ true → records_here items at ≡ head_parts at head → HeadFits (head_more what head)
    → Made at items (put_item (is_some head) (item_of_head at (head_more what head))) (head_parts at head)
    (head_parts at (Some (head_more what head)))
more-record at items what None ascend said is fits =
    puts_first at items (head_more what None) ascend said is fits
more-record at items what (Some head) ascend said is fits =
    puts-again at items head (head_more what (Some head)) refl ascend said is fits

-- or one less
pub less-record : (at : ℕ) (items : List Item) (head : Head) → Ascend items → list_all is_said items ≡ true
    → records_here items at ≡ head_parts at (Some head) → HeadFits head
    → Made at items (lessened head.refs (λ refs. item_of_head at (record head { refs = refs })))
    (head_parts at (Some head)) (head_parts at (head_less head))
less-record at items head ascend said is fits = by (head.refs == 1)
  where
    less : Head
    less = record head { refs = head.refs - 1 }

    by : (b : Bool) → Made at items (cond b (take_item (item_of_head at head)) (put_item true (item_of_head at
        (record head { refs = head.refs - 1 })))) (head_parts at (Some head))
        (head_parts at (cond b None (Some (record head { refs = head.refs - 1 }))))
    by true = takes_out at items head ascend said is
    by false =
        puts-again at items head (record head { refs = head.refs - 1 }) refl ascend said is
        (record { refs = omega (arith, fits.refs); generation = fits.generation })

-- ---- what is at the address then

-- this record, and the references that were told before
pub record IsSettled (nodesize at : ℕ) (items next : List Item) (head : Option Head) : Type 0 where
  pub told : told_in (parts_here next at) ≡ told_in (parts_here items at)
  pub entry : IsEntryWith nodesize at (parts_here next at) head

pub is-settled : (nodesize at : ℕ) (items next : List Item) (head other : Option Head)
    → records_here items at ≡ head_parts at head → Step at items next (head_parts at head) (head_parts at other)
    → IsClean (told_in (parts_here items at)) → Sums nodesize other (told_in (parts_here items at))
    → IsSettled nodesize at items next other
is-settled nodesize at items next head other is step clean sums =
    let told : told_in (parts_here next at) ≡ told_in (parts_here items at) =
    emptied (told_in (parts_here items at)) (told_in (parts_here next at)) (told_in (head_parts at head))
    (told_in (head_parts at other))
    (filter_map-splice reference_told (parts_here items at) (parts_here next at) (head_parts at head)
    (head_parts at other) step.here) (head-tells at head) (head-tells at other) in
    let records : records_here next at ≡ head_parts at other =
    whole-splice (records_here items at) (records_here next at) (filter is_record (head_parts at head))
    (filter is_record (head_parts at other))
    (filter-splice is_record (parts_here items at) (parts_here next at) (head_parts at head) (head_parts at other)
    step.here) (is ∙ sym (head-records at head)) ∙ head-records at other in
    record {
      told = told;
      entry = record {
        records = records;
        clean = subst (λ (some : Told). IsClean some) (sym told) clean;
        sums = subst (λ (some : Told). Sums nodesize other some) (sym told) sums;
      };
    }

-- ---- all addresses

pub still-records : (nodesize at : ℕ) (items next : List Item) (head : Option Head) → AreRecords items → Ascend next
    → list_all is_said next ≡ true → IsEntryWith nodesize at (parts_here next at) head
    → ((other : ℕ) → other ≢ at → parts_here next other ≡ parts_here items other)
    → ((other : ℕ) → other ≢ at → items_at next other ≡ items_at items other)
    → AreStillRecords at items next
still-records nodesize at items next head are ascend said entry others elsewhere = record {
  records = record {
    ascending = ascend;
    said = said;
    sound = entries-none (parts_of next) (λ q. by q (cases_eq q at));
  };
  elsewhere = elsewhere;
}
  where
    by : (q : ℕ) → (q ≡ at) ⊎ (q ≡ at → ⊥) → IsNoneOrEntry (parts_here next q)
    by q (inl is) =
        subst (λ (p : ℕ). IsNoneOrEntry (parts_here next p)) (sym is)
        (entry-back nodesize at (parts_here next at) head entry)
    by q (inr apart) =
        subst (λ (here : List ExtentPart). IsNoneOrEntry here) (sym (others q apart))
        (each-entry (parts_of items) are.sound q)

-- the book has there what is told
pub book-there : (nodesize at : ℕ) (items : List Item) (head : Option Head)
    → IsEntryWith nodesize at (parts_here items at) head
    → book_told nodesize items at ≡ kept_of (told_in (parts_here items at)) head
book-there nodesize at items head entry =
    ap (λ (o : Option Head). kept_of (told_in (parts_here items at)) o)
    (entry-head nodesize at (parts_here items at) head entry)

-- and elsewhere what it had
pub book-elsewhere : (nodesize other : ℕ) (items next : List Item) → parts_here next other ≡ parts_here items other
    → book_told nodesize next other ≡ book_told nodesize items other
book-elsewhere nodesize other items next same =
    ap (λ (here : List ExtentPart). option_map (kept_by (told_in here))
    (option_and_then (head_told nodesize) (the_record here))) same
