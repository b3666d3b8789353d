-- The book that items tell, and that it is the only one.
use Rattle.std.proofs.Common.{◌≡◌, ◌≢◌, ℕ, ◌<◌, Bool, true, List, [], ◌∷◌, length, Option, Some, None}
use Rattle.std.proofs.Common.{refl, sym, ap, subst, ◌∙◌, arith}
use Rattle.std.specs.Prelude.{is_some, IsSome}
use Rattle.std.specs.Option.{option_and_then, option_map}
use Rattle.std.proofs.lemmas.Option.{none-some, same_Some}
use Rattle.qg_node.specs.declared.item.Item.{Item}
use Rattle.qg_items.specs.declared.extent.Reference.{Reference}
use Rattle.qg_tree_items.specs.Types.{ExtentPart}
use Rattle.qg_tree_items.specs.Types.{DataRecord, NodeRecord, Referenced}
use Rattle.qg_tree_items.specs.ItemMeaning.{some_passes}
use Rattle.qg_refs.specs.declared.counted.Counted.{Counted}
use Rattle.qg_refs.specs.declared.kept.Kept.{Kept}
use Rattle.qg_refs.specs.declared.kept.What.{What}
use Rattle.qg_refs.specs.Book.{Book, IsBook, count_at, full_in, references_in, what_in}
use Rattle.qg_refs.specs.Counts.{IsRefList, count_of}
use Rattle.qg_refs.proofs.Counting.{count-nil}
use Rattle.qg_extents.specs.declared.head.Head.{Head}
use Rattle.qg_extents.specs.BookRecords.{IsTold, refs_told, tells_full, the_record, told_count, told_in}
use Rattle.qg_extents.specs.BookRecords.{told_sum, what_told}
use Rattle.qg_extents.proofs.Tables.{nothing_kept}
use Rattle.qg_extents.proofs.Telling.{Told}
use Rattle.qg_extent_items.specs.Told.{AreRecords, book_told, head_at, head_told, kept_by, parts_here, parts_of}
use Rattle.qg_extent_items.specs.Told.{references_told}
use Rattle.qg_extent_items.specs.Laws.{IsTheBook}
use Rattle.qg_extent_items.proofs.CountsTold.{IsClean, count-fitting}
use Rattle.qg_extent_items.proofs.Entries.{IsEntryWith, Sums, each-entry, entry-of}
use Rattle.qg_extent_items.proofs.Sorted.{one-list, told-count, told-empty, told-list}

-- ---- one address

-- what is kept where a record tells this and these references are told
abbrev pub kept_of : Told → Option Head → Option Kept
kept_of told head = option_map (kept_by told) head

-- the counts there are those that are told
pub kept-count : (nodesize : ℕ) (told : Told) (head : Option Head) → Sums nodesize head told → (x : Reference)
    → count_of (references_in (kept_of told head)) x ≡ told_count told x
kept-count nodesize told None sums x =
    count-nil x ∙ ap (λ (some : Told). told_count some x) (sym sums)
kept-count nodesize told (Some head) sums x = told-count told x

pub kept-list : (told : Told) (head : Option Head) → IsClean told → IsRefList (references_in (kept_of told head))
kept-list told None clean = nothing_kept.sound
kept-list told (Some head) clean = told-list told clean

some_list : {A : Type 0} (xs : List A) → xs ≢ [] → 0 < length xs
some_list [] some = absurd (some refl)
some_list (x ∷ xs) some = omega arith

kept_some : (nodesize : ℕ) (told : Told) (head : Option Head) → Sums nodesize head told → (kept : Kept)
    → kept_of told head ≡ Some kept → 0 < length kept.references
kept_some nodesize told None sums kept is = absurd (none-some kept is)
kept_some nodesize told (Some head) sums kept is =
    let some : 0 < length (references_told told) =
    some_list (references_told told) (λ none. omega (
      arith,
      sums.some,
      ap (λ (all : Told). told_sum all) (told-empty told none),
    )) in
    subst (λ (o : Option Kept). 0 < length (references_in o)) is some

-- ---- all addresses

pub entry-at : (nodesize : ℕ) (items : List Item) → AreRecords items → (at : ℕ)
    → IsEntryWith nodesize at (parts_here items at) (head_at nodesize items at)
entry-at nodesize items are at = entry-of nodesize items at (each-entry (parts_of items) are.sound at)

pub told-book : (nodesize : ℕ) (items : List Item) → AreRecords items → IsBook (book_told nodesize items)
told-book nodesize items are = record {
  sound = λ at. kept-list (told_in (parts_here items at)) (head_at nodesize items at)
      (entry-at nodesize items are at).clean;
  some = λ at kept is. kept_some nodesize (told_in (parts_here items at)) (head_at nodesize items at)
      (entry-at nodesize items are at).sums kept is;
}

pub told-counts : (nodesize : ℕ) (items : List Item) → AreRecords items → (at : ℕ) (x : Reference)
    → count_at (book_told nodesize items) at x ≡ told_count (told_in (parts_here items at)) x
told-counts nodesize items are at x =
    kept-count nodesize (told_in (parts_here items at)) (head_at nodesize items at)
    (entry-at nodesize items are at).sums x

-- what is known there is what the record tells
what_kept : (nodesize : ℕ) (told : Told) (part : Option ExtentPart)
    → what_in (kept_of told (option_and_then (head_told nodesize) part)) ≡ option_and_then (what_told nodesize) part
what_kept nodesize told None = refl
what_kept nodesize told (Some part) = by (what_told nodesize part)
  where
    by : (what : Option What) → what_in (kept_of told (option_map (λ (w : What). record {
      what = w;
      full = tells_full part;
      refs = refs_told part;
    }) what)) ≡ what
    by None = refl
    by (Some what) = refl

-- and so is the mark, where it tells something
full_kept : (nodesize at : ℕ) (told : Told) (here : List ExtentPart) (head : Option Head)
    → IsEntryWith nodesize at here head → option_and_then (head_told nodesize) (the_record here) ≡ head
    → full_in (kept_of told head) ≡ some_passes tells_full (the_record here)
full_kept nodesize at told here head entry is =
    ap (λ (o : Option Head). full_in (kept_of told o)) (sym is) ∙ by (the_record here)
  where
    by : (part : Option ExtentPart) → full_in (kept_of told (option_and_then (head_told nodesize) part))
        ≡ some_passes tells_full part
    by None = refl
    by (Some (DataRecord address bytes extent)) = refl
    by (Some (NodeRecord address level extent)) = refl
    by (Some (Referenced address reference count)) = refl

pub is-told : (nodesize : ℕ) (items : List Item) → AreRecords items
    → IsTold nodesize (parts_of items) (book_told nodesize items)
is-told nodesize items are = record {
  what = λ at. what_kept nodesize (told_in (parts_here items at)) (the_record (parts_here items at));
  full = λ at. full_kept nodesize at (told_in (parts_here items at)) (parts_here items at) (head_at nodesize items at)
      (entry-at nodesize items are at) refl;
  count = λ at x. told-counts nodesize items are at x;
}

-- ---- no other book

same_kept : (what : What) (full : Bool) (references : List Counted) (kept : Kept) → kept.what ≡ what
    → kept.full ≡ full → kept.references ≡ references
    → kept ≡ record { what = what; full = full; references = references }
same_kept what full references kept w f r = λ i. record { what = w i; full = f i; references = r i }

one_kept : (a b : Option Kept) → what_in a ≡ what_in b → full_in a ≡ full_in b → references_in a ≡ references_in b
    → a ≡ b
one_kept None None what full references = refl
one_kept None (Some kept) what full references = absurd (none-some kept.what what)
one_kept (Some kept) None what full references = absurd (none-some kept.what (sym what))
one_kept (Some a) (Some b) what full references =
    ap (λ (kept : Kept). Some kept)
    (same_kept b.what b.full b.references a (same_Some a.what b.what what) full references)

pub only-book : (nodesize : ℕ) (items : List Item) → AreRecords items → (book : Book) → IsBook book
    → IsTold nodesize (parts_of items) book → (at : ℕ) → book at ≡ book_told nodesize items at
only-book nodesize items are book sound told at =
    let own = is-told nodesize items are in
    let list = (told-book nodesize items are).sound at in
    one_kept (book at) (book_told nodesize items at) (told.what at ∙ sym (own.what at))
    (told.full at ∙ sym (own.full at))
    (one-list (references_in (book at)) (references_in (book_told nodesize items at)) (sound.sound at) list
    (λ x. told.count at x ∙ sym (own.count at x)))

pub the-book : (nodesize : ℕ) (items : List Item) → AreRecords items → IsTheBook nodesize items
the-book nodesize items are = record {
  sound = told-book nodesize items are;
  fitting = λ at x. omega (
    arith,
    told-counts nodesize items are at x,
    count-fitting (told_in (parts_here items at)) (entry-at nodesize items are at).clean x,
  );
  told = is-told nodesize items are;
  only = only-book nodesize items are;
}

-- a reference that is told has a record
some_head : (nodesize : ℕ) (told : Told) (head : Option Head) (x : Reference)
    → 0 < count_of (references_in (kept_of told head)) x → is_some head ≡ true
some_head nodesize told None x some = absurd (omega (arith, some, count-nil x))
some_head nodesize told (Some head) x some = refl

pub have-heads : (nodesize : ℕ) (items : List Item) (at : ℕ) (reference : Reference)
    → 0 < count_at (book_told nodesize items) at reference → IsSome (head_at nodesize items at)
have-heads nodesize items at reference some =
    some_head nodesize (told_in (parts_here items at)) (head_at nodesize items at) reference some
