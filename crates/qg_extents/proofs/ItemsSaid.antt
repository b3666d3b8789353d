-- What the items of a table say, and how long they are.
use Rattle.std.proofs.Common.{◌≡◌, ℕ, ◌+◌, ◌≤◌, ◌<◌, ◌^◌, Bool, true, false, List, [], ◌∷◌, ◌++◌, map, length, Option}
use Rattle.std.proofs.Common.{Some, None, refl, sym, ap, subst, ◌∙◌, arith, lit<, append-nil, Bor}
use Rattle.std.specs.Prelude.{All, IfSome}
use Rattle.std.specs.List.{AllByRecursion, flat_map, list_all}
use Rattle.std.proofs.lemmas.Bool.{le-leb}
use Rattle.std.specs.Map.Iter.{deref_pair}
use Rattle.std.proofs.lemmas.List.{append_assoc, map-append}
use Rattle.std.proofs.lemmas.List.Concat.{flat_map-append}
use Rattle.std.proofs.lemmas.List.Elements.{All-append, All-cons, All-nil, All-push}
use Rattle.std.proofs.lemmas.List.Folds.{list_all-append}
use Rattle.std.proofs.lemmas.List.Sums.{sum_by-cons}
use Rattle.qg_num.proofs.AreBytes.{AreBytes, append, of_u32, of_u64}
use Rattle.qg_node.specs.declared.item.Item.{Item}
use Rattle.qg_node.specs.Fits.{ItemFits}
use Rattle.qg_items.specs.declared.extent.ExtentItem.{ExtentItem}
use Rattle.qg_items.specs.declared.extent.ExtentDataRef.{ExtentDataRef}
use Rattle.qg_items.specs.declared.extent.SharedDataRef.{SharedDataRef}
use Rattle.qg_items.specs.declared.extent.Reference.{Reference}
use Rattle.qg_items.specs.declared.extent.Reference.TheVariants.{KeyedBlock, SharedBlock, KeyedData, SharedData}
use Rattle.qg_items.specs.ItemText.{extent_text, data_ref_text, shared_data_ref_text}
use Rattle.qg_items.specs.Laws.{ExtentFits}
use Rattle.qg_items.proofs.ExtentBodies.{length-extent_text, extent_read-extent_text, length-data_ref_text}
use Rattle.qg_items.proofs.ExtentBodies.{data_ref_read-data_ref_text, length-shared_data_ref_text}
use Rattle.qg_items.proofs.ExtentBodies.{shared_data_ref_read-shared_data_ref_text}
use Rattle.qg_tree_items.specs.Types.{ExtentPart}
use Rattle.qg_tree_items.specs.Types.{Referenced}
use Rattle.qg_tree_items.specs.ItemMeaning.{extent_part}
use Rattle.qg_tree_items.specs.Types.{Extents}
use Rattle.qg_tree_items.specs.Walk.{is_item_of}
use Rattle.qg_refs.specs.declared.counted.Counted.{Counted}
use Rattle.qg_refs.specs.declared.kept.Kept.{Kept}
use Rattle.qg_refs.specs.Counts.{greatest_count}
use Rattle.qg_extents.specs.Written.{refs_of, extent_of, record_flags, record_part, part_of, parts_of_extent}
use Rattle.qg_extents.specs.Written.{parts_of_book, item_at, item_of_reference, number_behind, items_of_references}
use Rattle.qg_extents.specs.Written.{record_item, item_of_record, items_of_extent, items_of_book, ReferenceFits}
use Rattle.qg_extents.specs.Written.{CountedFits, EntryFits}

-- ---- a reference

-- a reference whose numbers fit, with a count that it may have
pub record IsSayable (entry : Counted) : Type 0 where
  pub fits : CountedFits entry
  pub some : 0 < entry.count
  pub fitting : entry.count ≤ greatest_count entry.reference

pub reference_said : (at number : ℕ) (reference : Reference) (count : ℕ) → ReferenceFits reference → count < 2 ^ 32
    → 0 < count → count ≤ greatest_count reference
    → extent_part (item_of_reference at number reference count) ≡ Some (Referenced at reference count)
unfolding extent_part
reference_said at number (KeyedBlock root) count fits small some fitting =
    let one : 1 ≡ count = omega (arith, some, fitting) in
    ap (λ (n : ℕ). Some (Referenced at (KeyedBlock root) n)) one
reference_said at number (SharedBlock parent) count fits small some fitting =
    let one : 1 ≡ count = omega (arith, some, fitting) in
    ap (λ (n : ℕ). Some (Referenced at (SharedBlock parent) n)) one
reference_said at number (KeyedData root ino offset) count fits small some fitting =
    let told : ExtentDataRef = record { root = root; objectid = ino; offset = offset; count = count } in
    rw (data_ref_read-data_ref_text told (record { root = fits.0; objectid = fits.1; offset = fits.2; count = small }))
    refl
reference_said at number (SharedData parent) count fits small some fitting =
    let told : SharedDataRef = record { count = count } in
    rw (shared_data_ref_read-shared_data_ref_text told (record { count = small })) refl

data_ref_text-AreBytes : (told : ExtentDataRef) → AreBytes (data_ref_text told)
unfolding data_ref_text
data_ref_text-AreBytes told = append (append (append (of_u64 told.root) (of_u64 told.objectid)) (of_u64 told.offset))
    (of_u32 told.count)

shared_data_ref_text-AreBytes : (told : SharedDataRef) → AreBytes (shared_data_ref_text told)
unfolding shared_data_ref_text
shared_data_ref_text-AreBytes told = of_u32 told.count

extent_text-AreBytes : (extent : ExtentItem) → AreBytes (extent_text extent)
unfolding extent_text
extent_text-AreBytes extent = append (append (of_u64 extent.refs) (of_u64 extent.generation)) (of_u64 extent.flags)

no-AreBytes : AreBytes []
no-AreBytes = record { are = λ k. lit< tt }

item-fits : (at kind offset : ℕ) (body : List ℕ) → at < 2 ^ 64 → kind < 256 → offset < 2 ^ 64 → AreBytes body
    → ItemFits (item_at at kind offset body)
item-fits at kind offset body at_fits kind_fits offset_fits are =
    record { key = record { objectid = at_fits; kind = kind_fits; offset = offset_fits }; body = are.are }

reference_fits : (at number : ℕ) (reference : Reference) (count : ℕ) → at < 2 ^ 64 → number < 2 ^ 64
    → ReferenceFits reference → ItemFits (item_of_reference at number reference count)
reference_fits at number (KeyedBlock root) count placed numbered fits = item-fits at 176 root [] placed
    (lit< tt) fits no-AreBytes
reference_fits at number (SharedBlock parent) count placed numbered fits = item-fits at 182 parent [] placed
    (lit< tt) fits no-AreBytes
reference_fits at number (KeyedData root ino offset) count placed numbered fits =
    item-fits at 178 number _ placed (lit< tt) numbered
    (data_ref_text-AreBytes (record { root = root; objectid = ino; offset = offset; count = count }))
reference_fits at number (SharedData parent) count placed numbered fits =
    item-fits at 184 parent _ placed (lit< tt) fits (shared_data_ref_text-AreBytes (record { count = count }))

pub reference_short : (at number : ℕ) (reference : Reference) (count : ℕ)
    → length (item_of_reference at number reference count).body ≤ 1024
reference_short at number (KeyedBlock root) count = omega arith
reference_short at number (SharedBlock parent) count = omega arith
reference_short at number (KeyedData root ino offset) count =
    omega (arith, length-data_ref_text (record { root = root; objectid = ino; offset = offset; count = count }))
reference_short at number (SharedData parent) count = omega
    (arith, length-shared_data_ref_text (record { count = count }))

-- ---- a record

pub record_said : (at bytes : ℕ) (level : Option ℕ) (extent : ExtentItem) → ExtentFits extent
    → extent_part (record_item at bytes level extent) ≡ Some (record_part at bytes level extent)
unfolding extent_part
record_said at bytes None extent fits = rw (extent_read-extent_text extent fits) refl
record_said at bytes (Some level) extent fits = rw (extent_read-extent_text extent fits) refl

record_fits : (at bytes : ℕ) (level : Option ℕ) (extent : ExtentItem) → at < 2 ^ 64 → bytes < 2 ^ 64
    → IfSome level (λ n. n < 256) → ItemFits (record_item at bytes level extent)
record_fits at bytes None extent placed fits low = item-fits at 168 bytes _ placed (lit< tt) fits
    (extent_text-AreBytes extent)
record_fits at bytes (Some level) extent placed fits low = item-fits at 169 level _ placed (lit< tt)
    (omega (arith, low)) (extent_text-AreBytes extent)

pub record_short : (at bytes : ℕ) (level : Option ℕ) (extent : ExtentItem)
    → length (record_item at bytes level extent).body ≤ 1024
record_short at bytes None extent = omega (arith, length-extent_text extent)
record_short at bytes (Some level) extent = omega (arith, length-extent_text extent)

pub flags_small : (level : Option ℕ) (full : Bool) → record_flags level full < 2 ^ 64
flags_small None full = lit< tt
flags_small (Some level) true = lit< tt
flags_small (Some level) false = lit< tt

extent_fits : (entry : ℕ × Kept) → EntryFits entry → ExtentFits (extent_of entry.1)
extent_fits entry fits = record {
  refs = fits.refs;
  generation = fits.generation;
  flags = flags_small entry.1.what.level
      entry.1.full;
}

-- ---- what is kept at an address

-- numbers that fit, and counts that may be
pub record IsSayableEntry (entry : ℕ × Kept) : Type 0 where
  pub fits : EntryFits entry
  pub references : AllByRecursion IsSayable entry.1.references

references_said : (at number : ℕ) (entries : List Counted) → AllByRecursion IsSayable entries
    → map extent_part (items_of_references at number entries) ≡ map (λ part. Some part) (map (part_of at) entries)
references_said at number [] say = refl
references_said at number (entry ∷ entries) say =
    rw (
      reference_said at number entry.reference entry.count say.0.fits.reference say.0.fits.count say.0.some
          say.0.fitting,
      references_said at (number_behind number entry.reference) entries say.1,
    ) refl

extent_said : (entry : ℕ × Kept) → IsSayableEntry entry
    → map extent_part (items_of_extent entry) ≡ map (λ part. Some part) (parts_of_extent entry)
extent_said entry say =
    rw (
      record_said entry.0 entry.1.what.bytes entry.1.what.level (extent_of entry.1)
          (extent_fits entry say.fits),
      references_said entry.0 0 entry.1.references say.references,
    ) refl

pub book-said : (table : List (ℕ × Kept)) → AllByRecursion IsSayableEntry table
    → map extent_part (items_of_book table) ≡ map (λ part. Some part) (parts_of_book table)
book-said [] say = refl
book-said (entry ∷ table) say =
    map-append extent_part (items_of_extent entry) (items_of_book table)
    ∙ ap (λ (front : List (Option ExtentPart)). front ++ map extent_part (items_of_book table))
    (extent_said entry say.0)
    ∙ ap (λ (back : List (Option ExtentPart)). map (λ part. Some part) (parts_of_extent entry) ++ back)
    (book-said table say.1)
    ∙ sym (map-append (λ (part : ExtentPart). Some part) (parts_of_extent entry) (parts_of_book table))

-- ---- what the tree may hold

references_allowed : (generation at number : ℕ) (entries : List Counted) → AllByRecursion IsSayable entries
    → list_all (is_item_of Extents generation) (items_of_references at number entries) ≡ true
unfolding is_item_of
references_allowed generation at number [] say = refl
references_allowed generation at number (entry ∷ entries) say =
    rw (
      reference_said at number entry.reference entry.count say.0.fits.reference say.0.fits.count say.0.some
          say.0.fitting,
      references_allowed generation at (number_behind number entry.reference) entries say.1,
    ) refl

record_allowed : (generation at bytes : ℕ) (level : Option ℕ) (extent : ExtentItem) → ExtentFits extent
    → extent.generation ≤ generation
    → is_item_of Extents generation (record_item at bytes level extent) ≡ true
unfolding is_item_of
record_allowed generation at bytes None extent fits by = rw
    (record_said at bytes None extent fits, le-leb extent.generation generation by) refl
record_allowed generation at bytes (Some level) extent fits by = rw
    (record_said at bytes (Some level) extent fits, le-leb extent.generation generation by) refl

extent_allowed : (generation : ℕ) (entry : ℕ × Kept) → IsSayableEntry entry → entry.1.what.generation ≤ generation
    → list_all (is_item_of Extents generation) (items_of_extent entry) ≡ true
extent_allowed generation entry say by =
    rw (
      record_allowed generation entry.0 entry.1.what.bytes entry.1.what.level (extent_of entry.1)
          (extent_fits entry say.fits) by,
      references_allowed generation entry.0 0 entry.1.references say.references,
    ) refl

pub book-allowed : (generation : ℕ) (table : List (ℕ × Kept)) → AllByRecursion IsSayableEntry table
    → AllByRecursion (λ entry. entry.1.what.generation ≤ generation) table
    → list_all (is_item_of Extents generation) (items_of_book table) ≡ true
book-allowed generation [] say by = refl
book-allowed generation (entry ∷ table) say by =
    list_all-append (is_item_of Extents generation) (items_of_extent entry) (items_of_book table)
    ∙ rw (extent_allowed generation entry say.0 by.0, book-allowed generation table say.1 by.1) refl

-- ---- lengths and numbers

abbrev IsShort : Item → Type 0
IsShort item = length item.body ≤ 1024

references_short : (at number : ℕ) (entries : List Counted)
    → All (λ (item : Item). length item.body ≤ 1024) (items_of_references at number entries)
references_short at number [] = All-nil IsShort
references_short at number (entry ∷ entries) =
    All-cons IsShort (item_of_reference at number entry.reference entry.count)
    (items_of_references at (number_behind number entry.reference) entries)
    (reference_short at number entry.reference entry.count)
    (references_short at (number_behind number entry.reference) entries)

pub book-short : (table : List (ℕ × Kept)) → All (λ (item : Item). length item.body ≤ 1024) (items_of_book table)
book-short [] = All-nil IsShort
book-short (entry ∷ table) =
    All-append IsShort (items_of_extent entry) (items_of_book table)
    (All-cons IsShort (item_of_record entry) (items_of_references entry.0 0 entry.1.references)
    (record_short entry.0 entry.1.what.bytes entry.1.what.level (extent_of entry.1))
    (references_short entry.0 0 entry.1.references))
    (book-short table)

number_small : (number : ℕ) (reference : Reference) → number_behind number reference ≤ number + 1
number_small number (KeyedBlock root) = omega arith
number_small number (SharedBlock parent) = omega arith
number_small number (KeyedData root ino offset) = omega arith
number_small number (SharedData parent) = omega arith

references_fit : (at number : ℕ) (entries : List Counted) → at < 2 ^ 64 → number + length entries < 2 ^ 64
    → AllByRecursion IsSayable entries → All ItemFits (items_of_references at number entries)
references_fit at number [] placed room say = All-nil ItemFits
references_fit at number (entry ∷ entries) placed room say =
    All-cons ItemFits (item_of_reference at number entry.reference entry.count)
    (items_of_references at (number_behind number entry.reference) entries)
    (reference_fits at number entry.reference entry.count placed (omega (arith, room)) say.0.fits.reference)
    (references_fit at (number_behind number entry.reference) entries placed
    (omega (arith, room, number_small number entry.reference)) say.1)

-- each reference counts at least one
few_references : (entries : List Counted) → AllByRecursion IsSayable entries → length entries ≤ refs_of entries
few_references [] say = omega arith
few_references (entry ∷ entries) say = omega (
  arith,
  few_references entries say.1,
  say.0.some,
  sum_by-cons
      (λ (e : Counted). e.count) entry entries,
)

extent_items_fit : (entry : ℕ × Kept) → IsSayableEntry entry → All ItemFits (items_of_extent entry)
extent_items_fit entry say =
    All-cons ItemFits (item_of_record entry) (items_of_references entry.0 0 entry.1.references)
    (record_fits entry.0 entry.1.what.bytes entry.1.what.level
    (extent_of entry.1) say.fits.address say.fits.bytes say.fits.level)
    (references_fit entry.0 0 entry.1.references say.fits.address
    (omega (arith, few_references entry.1.references say.references, say.fits.refs)) say.references)

pub book-fit : (table : List (ℕ × Kept)) → AllByRecursion IsSayableEntry table → All ItemFits (items_of_book table)
book-fit [] say = All-nil ItemFits
book-fit (entry ∷ table) say = All-append ItemFits (items_of_extent entry) (items_of_book table)
    (extent_items_fit entry say.0) (book-fit table say.1)

-- ---- item by item

-- a reference's item was put at the end
pub references-put : (done new : List Item) (item : Item) (at number number' : ℕ) (entry : Counted)
    (left rest : List Counted) → new ≡ done ++ item ∷ []
    → item ≡ item_of_reference at number entry.reference entry.count → number' ≡ number_behind number entry.reference
    → left ≡ entry ∷ rest
    → new ++ items_of_references at number' rest ≡ done ++ items_of_references at number left
references-put done new item at number number' entry left rest put is behind split =
    ap (λ (xs : List Item). xs ++ items_of_references at number' rest) put
    ∙ append_assoc done (item ∷ []) (items_of_references at number' rest)
    ∙ ap (λ (x : Item). done ++ x ∷ items_of_references at number' rest) is
    ∙ ap (λ (n : ℕ). done ++ item_of_reference at number entry.reference entry.count ∷ items_of_references at n rest)
    behind
    ∙ ap (λ (xs : List Counted). done ++ items_of_references at number xs) (sym split)

-- the items of one address more
pub entries-put : (done new : List Item) (some : List (Bor ℕ × Bor Kept)) (next : Bor ℕ × Bor Kept)
    → done ≡ flat_map items_of_extent (map deref_pair some)
    → new ≡ done ++ items_of_extent (next.0.now, next.1.now)
    → new ≡ flat_map items_of_extent (map deref_pair (some ++ next ∷ []))
entries-put done new some next is put =
    put ∙ ap (λ (xs : List Item). xs ++ items_of_extent (next.0.now, next.1.now)) is
    ∙ ap (λ (xs : List Item). flat_map items_of_extent (map deref_pair some) ++ xs)
    (sym (append-nil (items_of_extent (next.0.now, next.1.now))))
    ∙ sym (flat_map-append items_of_extent (map deref_pair some) (deref_pair next ∷ []))
    ∙ ap (flat_map items_of_extent) (sym (map-append deref_pair some (next ∷ [])))

pub entries-fit : (some : List (Bor ℕ × Bor Kept)) (next : Bor ℕ × Bor Kept) → All EntryFits (map deref_pair some)
    → EntryFits (next.0.now, next.1.now)
    → All EntryFits (map deref_pair (some ++ next ∷ []))
entries-fit some next fits own =
    subst (λ (xs : List (ℕ × Kept)). All EntryFits xs) (sym (map-append deref_pair some (next ∷ [])))
    (All-push EntryFits (map deref_pair some) (deref_pair next) fits own)
