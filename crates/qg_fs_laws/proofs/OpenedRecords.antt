-- The book of a sound image is what its last commit recorded.
use Rattle.std.proofs.Common.{◌≡◌, ℕ, ◌+◌, ◌<◌, Bool, true, false, List, [], ◌∷◌, ◌++◌, map, Option, Some, None, arith}
use Rattle.std.proofs.Common.{refl, sym, ap, subst, ◌∙◌, inl, inr}
use Rattle.std.specs.Prelude.{◌&&◌, ◌||◌, ◌==◌, if◌then◌else◌, nat_lt}
use Rattle.std.specs.List.{AllByRecursion, filter, count_by, filter_map, list_all, list_any, sum_by}
use Rattle.std.specs.Option.{option_and_then}
use Rattle.std.proofs.lemmas.Bool.{and_parts, cases_Bool, eq-eqb, eqb-true, false_from_ne_true}
use Rattle.std.proofs.lemmas.Bool.{and_from, lt-ltb, ltb-true, true≢false}
use Rattle.std.proofs.lemmas.List.Folds.{list_any-append}
use Rattle.std.proofs.lemmas.List.Sums.{sum_by-cons}
use Rattle.qg_items.specs.declared.extent.Reference.{Reference}
use Rattle.qg_items.specs.declared.root.RootItem.{RootItem}
use Rattle.qg_super.specs.declared.superblock.Super.{Super}
use Rattle.qg_image.specs.declared.part.ExtentPart.{ExtentPart}
use Rattle.qg_image.specs.declared.part.ExtentPart.TheVariants.{DataRecord, NodeRecord, Referenced}
use Rattle.qg_image.specs.declared.part.QuotaPart.{QuotaPart}
use Rattle.qg_image.specs.declared.part.QuotaPart.TheVariants as part
use Rattle.qg_image.specs.declared.quota.Quota.{Quota}
use Rattle.qg_image.specs.Need.{held_records}
use Rattle.qg_image.specs.Owed.{Agrees, What, agrees_at, are_references, is_record, is_recorded_once}
use Rattle.qg_image.specs.Owed.{owed_to, part_address, reference_told, what_at}
use Rattle.qg_image.specs.Record.{Record, RootOf, ExtentOf, NodeOf, ReferenceTo, Status, InfoOf, LimitOf, RelationOf}
use Rattle.qg_image.specs.Record.{extent_record, quota_record, same_record, same_reference}
use Rattle.qg_image.specs.State.{Layout, layout_of}
use Rattle.qg_image.specs.ImageState.{extent_parts, quota_parts, roots_in, state_in}
use Rattle.qg_refs.specs.declared.kept.Kept.{Kept}
use Rattle.qg_refs.specs.declared.kept.What.{What as Known}
use Rattle.qg_refs.specs.Book.{Book, references_in, what_in}
use Rattle.qg_refs.specs.Counts.{count_of}
use Rattle.qg_refs.proofs.Counting.{count-nil}
use Rattle.qg_extents.specs.Table.{IsTable, book_of}
use Rattle.qg_extents.specs.BookRecords.{IsTold, parts_at, the_only, told_count, told_in, what_told}
use Rattle.qg_weighed.specs.Laws.{IsRecorded, is_among, is_of_extents}
use Rattle.qg_weighed.specs.Weight.{record_known, record_of_level}
use Rattle.qg_weighed.proofs.Distinct.{same_record_is}
use Rattle.qg_weighed.proofs.Recorded.{place_of, recorded, recorded_in, records-say}
use Rattle.qg_weighed.proofs.Trees.{Are, none-named}
use Rattle.qg_file_edits.specs.Types.{FsTree}
use Rattle.qg_commit_trees.specs.Opening.{IsOpened, IsSoundImage}
use Rattle.qg_fs_laws.specs.Opening.{HoldsCommit, HoldsOthers}
use Rattle.qg_fs_laws.specs.OpeningLaws.{OpenedIsRecorded}
use Rattle.qg_fs_laws.proofs.OtherRecords.{entry_record, records-there}

-- ---- parts at one address

place_part : (told : ExtentPart) → place_of (extent_record told) ≡ part_address told
place_part (DataRecord address bytes extent) = refl
place_part (NodeRecord address level extent) = refl
place_part (Referenced address reference count) = refl

-- a record is among those of parts exactly where it is among those at its address
among_here : (parts : List ExtentPart) (one : Record)
    → is_among (map extent_record parts) one ≡ is_among (map extent_record (parts_at parts (place_of one))) one
among_here [] one = refl
among_here (told ∷ parts) one = elim (cases_Bool (part_address told == place_of one)) [
  | inl here ↦ rw here (ap (λ (b : Bool). same_record one (extent_record told) || b) (among_here parts one))
  | inr elsewhere ↦
      let unlike : same_record one (extent_record told) ≡ false =
      false_from_ne_true (same_record one (extent_record told)) (λ same.
      let place : part_address told ≡ place_of one =
      sym (place_part told) ∙ ap place_of (sym (same_record_is one (extent_record told) same)) in
      true≢false (sym (eq-eqb (part_address told) (place_of one) place) ∙ elsewhere)) in
      rw (elsewhere, unlike) (among_here parts one)
]

abbrev AreAt : ℕ → List ExtentPart → Type 0
AreAt at parts = AllByRecursion (λ told. part_address told ≡ at) parts

all_at : (parts : List ExtentPart) (at : ℕ) → AreAt at (parts_at parts at)
all_at [] at = tt
all_at (told ∷ parts) at = elim (cases_Bool (part_address told == at)) [
  | inl here ↦ rw here (eqb-true (part_address told) at here, all_at parts at)
  | inr elsewhere ↦ rw elsewhere (all_at parts at)
]

records_at : (parts : List ExtentPart) (at : ℕ) → AreAt at parts → AreAt at (filter is_record parts)
records_at [] at are = tt
records_at (DataRecord address bytes extent ∷ parts) at are = (are.0, records_at parts at are.1)
records_at (NodeRecord address level extent ∷ parts) at are = (are.0, records_at parts at are.1)
records_at (Referenced address reference count ∷ parts) at are = records_at parts at are.1

-- ---- references

among_references : (here : List ExtentPart) (at : ℕ) (reference : Reference) → AreAt at here
    → is_among (map extent_record here) (ReferenceTo at reference)
    ≡ list_any (λ entry. same_reference reference entry.0) (told_in here)
among_references [] at reference are = refl
among_references (DataRecord address bytes extent ∷ here) at reference are =
    among_references here at reference are.1
among_references (NodeRecord address level extent ∷ here) at reference are =
    among_references here at reference are.1
among_references (Referenced address other count ∷ here) at reference are =
    let same : (at == address) ≡ true = eq-eqb at address (sym are.0) in
    rw same (ap (λ (b : Bool). same_reference reference other || b) (among_references here at reference are.1))

abbrev is_some_count : Reference × ℕ → Bool
is_some_count entry = nat_lt 0 entry.1

told_some : (told : List (Reference × ℕ)) (reference : Reference) → list_all is_some_count told ≡ true
    → list_any (λ entry. same_reference reference entry.0) told ≡ nat_lt 0 (told_count told reference)
told_some [] reference some = refl
told_some (entry ∷ told) reference some =
    let both = and_parts (nat_lt 0 entry.1) (list_all is_some_count told) some in
    let count : Reference × ℕ → ℕ = λ other. if same_reference reference other.0 then other.1 else 0 in
    let sum : told_count (entry ∷ told) reference ≡ count entry + told_count told reference =
    sum_by-cons count entry told in
    elim (cases_Bool (same_reference reference entry.0)) [
      | inl same ↦
          let high : 0 < entry.1 = ltb-true 0 entry.1 both.0 in
          let first : count entry ≡ entry.1 = rw same refl in
          ap (λ (b : Bool). b || list_any (λ (other : Reference × ℕ). same_reference reference other.0) told) same
          ∙ sym (lt-ltb 0 (told_count (entry ∷ told) reference) (omega (arith, sum, first, high)))
      | inr other ↦
          let first : count entry ≡ 0 = rw other refl in
          let whole : told_count (entry ∷ told) reference ≡ told_count told reference = omega (arith, sum, first) in
          ap (λ (b : Bool). b || list_any (λ (other : Reference × ℕ). same_reference reference other.0) told) other
          ∙ told_some told reference both.1 ∙ ap (λ (n : ℕ). nat_lt 0 n) (sym whole)
    ]

-- ---- records

-- a record that is no reference
abbrev IsNoReference : Record → Type 0
IsNoReference one = (address : ℕ) (reference : Reference) → same_record one (ReferenceTo address reference) ≡ false

among_records : (here : List ExtentPart) (one : Record) → IsNoReference one
    → is_among (map extent_record here) one ≡ is_among (map extent_record (filter is_record here)) one
among_records [] one apart = refl
among_records (DataRecord address bytes extent ∷ here) one apart =
    ap (λ (b : Bool). same_record one (ExtentOf address bytes) || b) (among_records here one apart)
among_records (NodeRecord address level extent ∷ here) one apart =
    ap (λ (b : Bool). same_record one (NodeOf address level) || b) (among_records here one apart)
among_records (Referenced address reference count ∷ here) one apart =
    rw (apart address reference) (among_records here one apart)

-- what is known of what begins at an address has a record
abbrev known_says : ℕ → Option Known → Record → Bool
known_says at None one = false
known_says at (Some known) one = same_record one (record_known at known)

or_none : (a : Bool) → (a || false) ≡ a
or_none true = refl
or_none false = refl

once_says : (nodesize at : ℕ) (one : Record) (what : What) (refs : ℕ) (records : List ExtentPart) → IsNoReference one
    → AreAt at records → is_recorded_once what refs records ≡ true
    → is_among (map extent_record records) one
    ≡ known_says at (option_and_then (what_told nodesize) (the_only records)) one
once_says nodesize at one what refs [] apart are once = refl
once_says nodesize at one what refs (DataRecord address bytes extent ∷ []) apart are once =
    or_none (same_record one (ExtentOf address bytes))
    ∙ ap (λ (q : ℕ). same_record one (ExtentOf q bytes)) are.0
once_says nodesize at one what refs (NodeRecord address level extent ∷ []) apart are once =
    or_none (same_record one (NodeOf address level))
    ∙ ap (λ (q : ℕ). same_record one (NodeOf q level)) are.0
once_says nodesize at one what refs (Referenced address reference count ∷ []) apart are once =
    or_none (same_record one (ReferenceTo address reference)) ∙ apart address reference
once_says nodesize at one what refs (first ∷ second ∷ records) apart are once = absurd cc

-- ---- a book

level_other : (at bytes : ℕ) (level : Option ℕ) (reference : Reference)
    → same_record (ReferenceTo at reference) (record_of_level at bytes level) ≡ false
level_other at bytes None reference = refl
level_other at bytes (Some level) reference = refl

book_reference : (at : ℕ) (reference : Reference) (kept : Option Kept)
    → recorded_in at kept (ReferenceTo at reference) ≡ nat_lt 0 (count_of (references_in kept) reference)
book_reference at reference None = ap (λ (n : ℕ). nat_lt 0 n) (sym (count-nil reference))
book_reference at reference (Some kept) =
    rw (level_other at kept.what.bytes kept.what.level reference, eq-eqb at at refl) refl

book_extent : (at bytes : ℕ) (kept : Option Kept)
    → recorded_in at kept (ExtentOf at bytes) ≡ known_says at (what_in kept) (ExtentOf at bytes)
book_extent at bytes None = refl
book_extent at bytes (Some kept) = or_none (same_record (ExtentOf at bytes) (record_known at kept.what))

book_node : (at level : ℕ) (kept : Option Kept)
    → recorded_in at kept (NodeOf at level) ≡ known_says at (what_in kept) (NodeOf at level)
book_node at level None = refl
book_node at level (Some kept) = or_none (same_record (NodeOf at level) (record_known at kept.what))

counted_some : (told : List (Reference × ℕ)) (owed : List Reference) → are_references told owed ≡ true
    → list_all is_some_count told ≡ true
counted_some told owed are = each told (and_parts _ _ (and_parts _ _ are).0).1 where
  each : (some : List (Reference × ℕ))
      → list_all (λ entry. nat_lt 0 entry.1 && (entry.1 == count_by (same_reference entry.0) owed)) some ≡ true
      → list_all is_some_count some ≡ true
  each [] all = refl
  each (entry ∷ some) all =
      let both = and_parts _ _ all in
      and_from (nat_lt 0 entry.1) (list_all is_some_count some) (and_parts _ _ both.0).0 (each some both.1)

module _ (nodesize : ℕ) (layout : Layout) (parts : List ExtentPart) (book : Book) (agrees : Agrees layout parts)
    (told : IsTold nodesize parts book) where
  agrees_there : (at : ℕ) → (is_recorded_once (what_at layout at)
      (sum_by (λ entry. entry.1) (filter_map reference_told (parts_at parts at)))
      (filter is_record (parts_at parts at)) ≡ true)
      × (are_references (filter_map reference_told (parts_at parts at)) (owed_to layout at) ≡ true)
  unfolding agrees_at
  agrees_there at = and_parts (is_recorded_once (what_at layout at)
      (sum_by (λ entry. entry.1) (filter_map reference_told (parts_at parts at)))
      (filter is_record (parts_at parts at)))
      (are_references (filter_map reference_told (parts_at parts at)) (owed_to layout at)) (agrees at)

  say_reference : (at : ℕ) (reference : Reference)
      → is_among (map extent_record parts) (ReferenceTo at reference) ≡ recorded book (ReferenceTo at reference)
  say_reference at reference =
      among_here parts (ReferenceTo at reference)
      ∙ among_references (parts_at parts at) at reference (all_at parts at)
      ∙ told_some (told_in (parts_at parts at)) reference
      (counted_some (told_in (parts_at parts at)) (owed_to layout at) (agrees_there at).1)
      ∙ ap (λ (n : ℕ). nat_lt 0 n) (sym (told.count at reference))
      ∙ sym (book_reference at reference (book at))

  say_known : (at : ℕ) (one : Record) → place_of one ≡ at → IsNoReference one
      → recorded_in at (book at) one ≡ known_says at (what_in (book at)) one
      → is_among (map extent_record parts) one ≡ recorded_in at (book at) one
  say_known at one place apart known =
      among_here parts one
      ∙ ap (λ (q : ℕ). is_among (map extent_record (parts_at parts q)) one) place
      ∙ among_records (parts_at parts at) one apart
      ∙ once_says nodesize at one (what_at layout at)
      (sum_by (λ entry. entry.1) (filter_map reference_told (parts_at parts at)))
      (filter is_record (parts_at parts at)) apart (records_at (parts_at parts at) at (all_at parts at))
      (agrees_there at).0
      ∙ ap (λ (o : Option Known). known_says at o one) (sym (told.what at))
      ∙ sym known

  pub parts-say : (one : Record) → is_of_extents one ≡ true
      → is_among (map extent_record parts) one ≡ recorded book one
  parts-say (ReferenceTo at reference) extents = say_reference at reference
  parts-say (ExtentOf at bytes) extents =
      say_known at (ExtentOf at bytes) refl (λ address reference. refl) (book_extent at bytes (book at))
  parts-say (NodeOf at level) extents =
      say_known at (NodeOf at level) refl (λ address reference. refl) (book_node at level (book at))
  parts-say (RootOf tree) extents = absurd cc
  parts-say Status extents = absurd cc
  parts-say (InfoOf group) extents = absurd cc
  parts-say (LimitOf group) extents = absurd cc
  parts-say (RelationOf group other) extents = absurd cc

-- ---- the last commit

roots_other : (roots : List (ℕ × RootItem)) → Are false (map entry_record roots)
roots_other [] = tt
roots_other (entry ∷ roots) = (refl, roots_other roots)

quota_other : (told : QuotaPart) → is_of_extents (quota_record told) ≡ false
quota_other (part.Status status) = refl
quota_other (part.Info group info) = refl
quota_other (part.Limits group limit) = refl
quota_other (part.Relation group other) = refl

quotas_other : (parts : List QuotaPart) → Are false (map quota_record parts)
quotas_other [] = tt
quotas_other (told ∷ parts) = (quota_other told, quotas_other parts)

extent_other : (told : ExtentPart) → is_of_extents (extent_record told) ≡ true
extent_other (DataRecord address bytes extent) = refl
extent_other (NodeRecord address level extent) = refl
extent_other (Referenced address reference count) = refl

pub extents_other : (parts : List ExtentPart) → Are true (map extent_record parts)
extents_other [] = tt
extents_other (told ∷ parts) = (extent_other told, extents_other parts)

middle : (a b c : Bool) → a ≡ false → c ≡ false → ((a || b) || c) ≡ b
middle a b c first last = rw (first, last) (or_none b)

module _ (super : Super) (image : List ℕ) (quota : Option Quota) (holds : HoldsOthers super image quota) where
  abbrev roots : List Record
  roots = map entry_record (roots_in super image)

  abbrev extents : List Record
  extents = map extent_record (extent_parts super image)

  abbrev quotas : List Record
  quotas = map quota_record (quota_parts super image)

  pub among-held : (one : Record) → is_among (held_records (state_in super image).held) one
      ≡ ((is_among roots one || is_among extents one) || is_among quotas one)
  among-held one =
      ap (λ (records : List Record). is_among records one) (records-there super image quota holds)
      ∙ list_any-append (same_record one) (roots ++ extents) quotas
      ∙ ap (λ (b : Bool). b || is_among quotas one) (list_any-append (same_record one) roots extents)

  extents_held : (one : Record) → is_of_extents one ≡ true
      → is_among (held_records (state_in super image).held) one ≡ is_among extents one
  extents_held one of_extents =
      among-held one
      ∙ middle (is_among roots one) (is_among extents one) (is_among quotas one)
      (none-named false roots one (roots_other (roots_in super image)) of_extents)
      (none-named false quotas one (quotas_other (quota_parts super image)) of_extents)

  book_recorded : (fs : FsTree) → IsTable fs.refs.refs → IsSoundImage super image → IsOpened fs super image
      → HoldsCommit fs super image → IsRecorded (state_in super image) fs.refs.held
  book_recorded fs table sound opened commit =
      let recorded_refs : IsRecorded (state_in super image) fs.refs.refs = record {
        kept = table;
        same = λ one of_extents.
            extents_held one of_extents
            ∙ parts-say super.nodesize (layout_of (state_in super image)) (extent_parts super image)
            (book_of fs.refs.refs) sound.agrees opened.told one of_extents
            ∙ sym (records-say fs.refs.refs one table);
      } in
      subst (λ (book : List (ℕ × Kept)). IsRecorded (state_in super image) book) (sym commit.book) recorded_refs

pub opened-recorded : OpenedIsRecorded
opened-recorded fs super image quota table sound opened commit holds =
    book_recorded super image quota holds fs table sound opened commit
