-- The references that the items of one address tell, taken one by one.
use Rattle.std.proofs.Common.{◌≡◌, ℕ, ◌+◌, ◌≤◌, ◌<◌, Bool, true, false, List, [], ◌∷◌, ◌++◌, length, take, drop, get_or}
use Rattle.std.proofs.Common.{append-nil, Option, Some, None, refl, sym, ap, subst, ◌∙◌, arith, cond}
use Rattle.std.proofs.Common.{take-append-drop, take_all}
use Rattle.std.specs.Prelude.{◌==◌}
use Rattle.std.specs.List.{cons_option, filter_map, list_all}
use Rattle.std.specs.Option.{option_and_then}
use Rattle.std.proofs.lemmas.List.{drop_more, take_more}
use Rattle.std.proofs.lemmas.List.Elements.{filter_map-append}
use Rattle.std.proofs.lemmas.List.Sums.{sum_by-append, sum_by-cons}
use Rattle.std.proofs.lemmas.Bool.{cond-true}
use Rattle.std.proofs.lemmas.Option.{none-some}
use Rattle.qg_node.specs.declared.item.Item.{Item}
use Rattle.qg_items.specs.declared.extent.Reference.{Reference}
use Rattle.qg_tree_items.specs.Types.{Extents, ExtentPart}
use Rattle.qg_tree_items.specs.Types.{DataRecord, NodeRecord, Referenced}
use Rattle.qg_tree_items.specs.ItemMeaning.{extent_part, extent_part_stamps, some_passes, when}
use Rattle.qg_tree_items.specs.Owed.{part_address, reference_told}
use Rattle.qg_tree_items.specs.Walk.{are_by, is_item_of}
use Rattle.qg_refs.specs.declared.counted.Counted.{Counted}
use Rattle.qg_refs.specs.Book.{references_at}
use Rattle.qg_refs.specs.Counts.{IsRefList, count_of}
use Rattle.qg_refs.proofs.Counting.{count-nil}
use Rattle.qg_refs.proofs.RankOrder.{same_itself}
use Rattle.qg_extents.specs.BookRecords.{is_count, parts_at, told_count, told_in}
use Rattle.qg_extents.proofs.Telling.{Told}
use Rattle.qg_extent_items.specs.Told.{AreRecords, book_told, head_at, items_at, parts_here, parts_of}
use Rattle.qg_extent_items.specs.Reading.{IsAdded, told_of}
use Rattle.qg_extent_items.proofs.CountsTold.{IsClean, count-some, counts_of, few-once, none_counted, once_of, times}
use Rattle.qg_extent_items.proofs.PartKeys.{part-address}
use Rattle.qg_extent_items.proofs.Sorted.{one-list}
use Rattle.qg_extent_items.proofs.Splices.{among-all, between-among}
use Rattle.qg_extent_items.proofs.TheBook.{entry-at, kept-count, kept-list}

-- ---- what items of one address tell

abbrev pub told_by : List Item → Told
told_by items = filter_map told_of items

pub told-here : (items : List Item) (at : ℕ) → told_in (parts_here items at) ≡ told_by (items_at items at)
told-here [] at = refl
told-here (item ∷ items) at = by (extent_part item) refl (item.key.objectid == at) refl (told-here items at)
  where
    by : (o : Option ExtentPart) → extent_part item ≡ o → (b : Bool) → (item.key.objectid == at) ≡ b
        → told_in (parts_here items at) ≡ told_by (items_at items at)
        → told_in (parts_at (cons_option o (parts_of items)) at)
        ≡ told_by (cond b (item ∷ items_at items at) (items_at items at))
    by None says true is rest =
        rest ∙ ap (λ (p : Option ExtentPart). cons_option (option_and_then reference_told p)
        (told_by (items_at items at))) (sym says)
    by None says false is rest = rest
    by (Some part) says true is rest =
        let place : (part_address part == at) ≡ true = ap (λ (n : ℕ). n == at) (sym (part-address item part says)) ∙ is
        in
        ap (λ (c : Bool). told_in (cond c (part ∷ parts_here items at) (parts_here items at))) place
        ∙ ap (λ (l : Told). cons_option (reference_told part) l) rest
        ∙ ap (λ (p : Option ExtentPart). cons_option (option_and_then reference_told p)
        (told_by (items_at items at))) (sym says)
    by (Some part) says false is rest =
        let place : (part_address part == at) ≡ false =
        ap (λ (n : ℕ). n == at) (sym (part-address item part says)) ∙ is in
        ap (λ (c : Bool). told_in (cond c (part ∷ parts_here items at) (parts_here items at))) place ∙ rest

-- ---- one item

-- what isn't read tells no reference
pub unread-told : (generation : ℕ) (item : Item)
    → when (is_item_of Extents generation item) (extent_part item) ≡ None → told_of item ≡ None
unfolding is_item_of
unread-told generation item read = by (extent_part item) read
  where
    by : (o : Option ExtentPart) → when (some_passes (λ part. are_by generation (extent_part_stamps part)) o) o ≡ None
        → option_and_then reference_told o ≡ None
    by None read = refl
    by (Some (DataRecord address bytes extent)) read = refl
    by (Some (NodeRecord address level extent)) read = refl
    by (Some (Referenced address told count)) read =
        absurd (none-some (Referenced address told count) (sym read))

-- ---- item by item

-- a list has the counts that the first items tell
abbrev pub HasSoFar : List Item → ℕ → List Counted → Type 0
HasSoFar here i references = IsClean (told_by here) → (x : Reference)
    → count_of references x ≡ told_count (told_by (take i here)) x

pub so-far-none : (here : List Item) → HasSoFar here 0 []
so-far-none here clean x = count-nil x

told_next : (here : List Item) (i : ℕ) (item : Item) → i < length here → item ≡ get_or here i item
    → told_by (take (i + 1) here) ≡ told_by (take i here) ++ cons_option (told_of item) []
told_next here i item inside is =
    ap told_by (take_more here i item inside ∙ ap (λ (next : Item). take i here ++ next ∷ []) (sym is))
    ∙ filter_map-append told_of (take i here) (item ∷ [])

told_cut : (here : List Item) (i : ℕ) (item : Item) → i < length here → item ≡ get_or here i item
    → told_by here ≡ told_by (take i here) ++ cons_option (told_of item) (told_by (drop (i + 1) here))
told_cut here i item inside is =
    ap told_by (sym (take-append-drop i here)) ∙ filter_map-append told_of (take i here) (drop i here)
    ∙ ap (λ (back : List Item). told_by (take i here) ++ told_by back)
    (drop_more here i item inside ∙ ap (λ (next : Item). next ∷ drop (i + 1) here) (sym is))

pub so-far-next : (here : List Item) (i : ℕ) (item : Item) (old new : List Counted) → i < length here
    → item ≡ get_or here i item → IsAdded (told_of item) old new → HasSoFar here i old → HasSoFar here (i + 1) new
so-far-next here i item old new inside is added so clean x =
    by (told_of item) added (told_next here i item inside is) (told_cut here i item inside is)
  where
    by : (o : Option (Reference × ℕ)) → IsAdded o old new
        → told_by (take (i + 1) here) ≡ told_by (take i here) ++ cons_option o []
        → told_by here ≡ told_by (take i here) ++ cons_option o (told_by (drop (i + 1) here))
        → count_of new x ≡ told_count (told_by (take (i + 1) here)) x
    by None same next whole =
        ap (λ (l : List Counted). count_of l x) same ∙ so clean x
        ∙ ap (λ (l : Told). told_count l x) (sym (next ∙ append-nil (told_by (take i here))))
    by (Some told) adds next whole =
        let front = told_by (take i here) in
        let back = told_by (drop (i + 1) here) in
        let some : 0 < told.1 =
        count-some told (among-all is_count told (front ++ (told ∷ back))
        (subst (λ (l : Told). list_all is_count l ≡ true) whole clean.counts) (between-among told front back)) in
        let one : once_of told.0 told ≡ 1 = cond-true _ _ _ (same_itself told.0) in
        let few : times (front ++ (told ∷ back)) told.0 ≤ 1 =
        subst (λ (l : Told). times l told.0 ≤ 1) whole (few-once (told_by here) told.0 clean.once) in
        let none : times front told.0 ≡ 0 =
        omega (
          arith,
          few,
          sum_by-append (once_of told.0) front (told ∷ back),
          sum_by-cons (once_of told.0) told back,
          one,
        ) in
        let more = adds some (so clean told.0 ∙ none_counted front told.0 none) in
        omega (
          arith,
          more x,
          so clean x,
          ap (λ (l : Told). told_count l x) next,
          sum_by-append (counts_of x) front (told ∷ []),
          sum_by-cons (counts_of x) told [],
        )

-- all of them are those of the book
pub references-read : (nodesize at : ℕ) (items here : List Item) (i : ℕ) (references : List Counted)
    → AreRecords items → here ≡ items_at items at → length here ≤ i → HasSoFar here i references
    → IsRefList references → references ≡ references_at (book_told nodesize items) at
references-read nodesize at items here i references are is past so list =
    let entry = entry-at nodesize items are at in
    let told : told_by here ≡ told_in (parts_here items at) = ap told_by is ∙ sym (told-here items at) in
    let all : told_by (take i here) ≡ told_in (parts_here items at) =
    ap told_by (take_all i here past) ∙ told in
    let clean : IsClean (told_by here) = subst (λ (l : Told). IsClean l) (sym told) entry.clean in
    one-list references (references_at (book_told nodesize items) at) list
    (kept-list (told_in (parts_here items at)) (head_at nodesize items at) entry.clean)
    (λ x. so clean x ∙ ap (λ (l : Told). told_count l x) all
    ∙ sym (kept-count nodesize (told_in (parts_here items at)) (head_at nodesize items at) entry.sums x))
