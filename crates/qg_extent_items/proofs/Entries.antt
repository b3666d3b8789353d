-- What is at one address: nothing, or a record that agrees with the references there.
use Rattle.std.proofs.Common.{◌≡◌, ℕ, ◌<◌, Bool, true, false, List, [], ◌∷◌, map, length, Option, Some}
use Rattle.std.proofs.Common.{None, refl, sym, ap, subst, ◌∙◌, ◌⊎◌, inl, inr, cond, eq-eqb, lt-ltb}
use Rattle.std.specs.Prelude.{◌&&◌, ◌||◌, ◌==◌, not, nat_lt, IfSome}
use Rattle.std.specs.List.{filter, find, list_all}
use Rattle.std.specs.Option.{option_and_then}
use Rattle.std.proofs.lemmas.Bool.{and_from, and_parts, eqb-true, ltb-true, or_cases}
use Rattle.std.proofs.lemmas.Bool.{true≢false}
use Rattle.std.proofs.lemmas.Option.{none-some, same_Some}
use Rattle.qg_node.specs.declared.item.Item.{Item}
use Rattle.qg_items.specs.declared.extent.ExtentItem.{ExtentItem}
use Rattle.qg_tree_items.specs.Types.{ExtentPart}
use Rattle.qg_tree_items.specs.Types.{DataRecord, NodeRecord, Referenced}
use Rattle.qg_tree_items.specs.ItemMeaning.{some_passes}
use Rattle.qg_tree_items.specs.Owed.{is_record, is_told_once, node_flags, part_address}
use Rattle.qg_refs.specs.declared.kept.What.{What}
use Rattle.qg_extents.specs.declared.head.Head.{Head}
use Rattle.qg_extents.specs.Written.{extent_of_head, record_flags, record_part}
use Rattle.qg_extents.specs.BookRecords.{are_counted, is_count, is_entry, is_sound_record, parts_at, records_failure}
use Rattle.qg_extents.specs.BookRecords.{refs_told, the_only, the_record, told_in, told_sum}
use Rattle.qg_extents.proofs.Records.{HaveEntries, records_failure-none}
use Rattle.qg_extents.proofs.Telling.{Told}
use Rattle.qg_extent_items.specs.Told.{head_at, head_told, parts_here, parts_of}
use Rattle.qg_extent_items.specs.Laws.{IsKnown}
use Rattle.qg_extent_items.proofs.CountsTold.{IsClean, clean-none, sum-some, told-some}
use Rattle.qg_extent_items.proofs.PartKeys.{part_of_head}
use Rattle.qg_extent_items.proofs.Splices.{Among, among-filter, among-passes}

-- ---- a record, by what it tells

abbrev pub head_parts : ℕ → Option Head → List ExtentPart
head_parts at None = []
head_parts at (Some head) = part_of_head at head ∷ []

-- what it tells can be told: a node has so many bytes, and a data extent has no mark
pub record IsTellable (nodesize : ℕ) (head : Head) : Type 0 where
  pub known : IsKnown nodesize head.what
  pub extent : head.what.level ≡ None → head.full ≡ false

mark_back : (full : Bool) → (node_flags full == node_flags true) ≡ full
mark_back true = refl
mark_back false = refl

level_known : (nodesize : ℕ) (what : What) (level : ℕ) → what.level ≡ Some level → IsKnown nodesize what
    → (level < 256) × (what.bytes ≡ nodesize)
level_known nodesize what level is known =
    subst (λ (o : Option ℕ). IfSome o (λ n. (n < 256) × (what.bytes ≡ nodesize))) is known

back : (nodesize at : ℕ) (head : Head) (level : Option ℕ) → head.what.level ≡ level → IsTellable nodesize head
    → head_told nodesize (record_part at head.what.bytes level
    (record { refs = head.refs; generation = head.what.generation; flags = record_flags level head.full })) ≡ Some head
back nodesize at head None is tell = λ i. Some (record {
  what = record { bytes = head.what.bytes; level = sym is i; generation = head.what.generation };
  full = sym (tell.extent is) i;
  refs = head.refs;
})
back nodesize at head (Some level) is tell =
    let known = level_known nodesize head.what level is tell.known in
    λ i. Some (record {
      what = record { bytes = sym known.1 i; level = sym is i; generation = head.what.generation };
      full = mark_back head.full i;
      refs = head.refs;
    })

pub head-back : (nodesize at : ℕ) (head : Head) → IsTellable nodesize head
    → head_told nodesize (part_of_head at head) ≡ Some head
head-back nodesize at head tell = back nodesize at head head.what.level refl tell

sound : (nodesize at bytes : ℕ) (what : What) (level : Option ℕ) (refs generation : ℕ) (full : Bool)
    → what.level ≡ level → IsKnown nodesize what
    → is_sound_record (record_part at bytes level
    (record { refs = refs; generation = generation; flags = record_flags level full })) ≡ true
sound nodesize at bytes what None refs generation full is known = refl
sound nodesize at bytes what (Some level) refs generation full is known = by full
  where
    low : nat_lt level 256 ≡ true
    low = lt-ltb level 256 (level_known nodesize what level is known).0

    by : (mark : Bool) → is_sound_record (record_part at bytes (Some level)
        (record { refs = refs; generation = generation; flags = record_flags (Some level) mark })) ≡ true
    by true = rw low refl
    by false = rw low refl

pub head-sound : (nodesize at : ℕ) (head : Head) → IsTellable nodesize head
    → is_sound_record (part_of_head at head) ≡ true
head-sound nodesize at head tell =
    sound nodesize at head.what.bytes head.what head.what.level head.refs head.what.generation head.full refl tell.known

record_refs : (at bytes : ℕ) (level : Option ℕ) (extent : ExtentItem)
    → refs_told (record_part at bytes level extent) ≡ extent.refs
record_refs at bytes None extent = refl
record_refs at bytes (Some level) extent = refl

record_passes : (at bytes : ℕ) (level : Option ℕ) (extent : ExtentItem) (parts : List ExtentPart)
    → filter is_record (record_part at bytes level extent ∷ parts)
    ≡ record_part at bytes level extent ∷ filter is_record parts
record_passes at bytes None extent parts = refl
record_passes at bytes (Some level) extent parts = refl

pub head-records : (at : ℕ) (head : Option Head) → filter is_record (head_parts at head) ≡ head_parts at head
head-records at None = refl
head-records at (Some head) = record_passes at head.what.bytes head.what.level (extent_of_head head) []

record_tells : (at bytes : ℕ) (level : Option ℕ) (extent : ExtentItem) (parts : List ExtentPart)
    → told_in (record_part at bytes level extent ∷ parts) ≡ told_in parts
record_tells at bytes None extent parts = refl
record_tells at bytes (Some level) extent parts = refl

pub head-tells : (at : ℕ) (head : Option Head) → told_in (head_parts at head) ≡ []
head-tells at None = refl
head-tells at (Some head) = record_tells at head.what.bytes head.what.level (extent_of_head head) []

record_address : (at bytes : ℕ) (level : Option ℕ) (extent : ExtentItem)
    → part_address (record_part at bytes level extent) ≡ at
record_address at bytes None extent = refl
record_address at bytes (Some level) extent = refl

pub head-address : (at : ℕ) (head : Head) → part_address (part_of_head at head) ≡ at
head-address at head = record_address at head.what.bytes head.what.level (extent_of_head head)

-- ---- one address

-- the record's sum is that of the counts of some references; without one none is told
pub record IsSummed (nodesize : ℕ) (head : Head) (told : Told) : Type 0 where
  pub some : 0 < told_sum told
  pub refs : head.refs ≡ told_sum told
  pub tell : IsTellable nodesize head

abbrev pub Sums : ℕ → Option Head → Told → Type 0
Sums nodesize None told = told ≡ []
Sums nodesize (Some head) told = IsSummed nodesize head told

-- the parts are a record that tells this, and references that are told
pub record IsEntryWith (nodesize at : ℕ) (here : List ExtentPart) (head : Option Head) : Type 0 where
  pub records : filter is_record here ≡ head_parts at head
  pub clean : IsClean (told_in here)
  pub sums : Sums nodesize head (told_in here)

-- nothing, or what a book may have at an address
abbrev pub IsNoneOrEntry : List ExtentPart → Type 0
IsNoneOrEntry here = (here ≡ []) ⊎ (is_entry here ≡ true)

-- ---- from what a book may have

only_one : {A : Type 0} (xs : List A) (x : A) → the_only xs ≡ Some x → xs ≡ x ∷ []
only_one [] x is = absurd (none-some x is)
only_one {A} (y ∷ []) x is = ap (λ (z : A). z ∷ []) (same_Some y x is)
only_one (y ∷ z ∷ others) x is = absurd (none-some x is)

flags_back : (flags : ℕ) → ((flags == node_flags false) || (flags == node_flags true)) ≡ true
    → node_flags (flags == node_flags true) ≡ flags
flags_back flags h = elim (or_cases (flags == node_flags false) (flags == node_flags true) h) [
  | inl plain ↦
      let is : flags ≡ 2 = eqb-true flags 2 plain in
      ap (λ (n : ℕ). node_flags (n == node_flags true)) is ∙ sym is
  | inr full ↦
      let is : flags ≡ 258 = eqb-true flags 258 full in
      ap (λ (n : ℕ). node_flags (n == node_flags true)) is ∙ sym is
]

-- what a sound record is, and tells
record IsOfHead (nodesize at : ℕ) (part : ExtentPart) (head : Head) : Type 0 where
  told : head_told nodesize part ≡ Some head
  is : part ≡ part_of_head at head
  refs : refs_told part ≡ head.refs
  tell : IsTellable nodesize head

of_head : (nodesize at : ℕ) (part : ExtentPart) → part_address part ≡ at → is_sound_record part ≡ true
    → (head : Head) × IsOfHead nodesize at part head
of_head nodesize at (DataRecord address bytes extent) place is =
    let flags : extent.flags ≡ 1 = eqb-true extent.flags 1 is in (
      record {
        what = record { bytes = bytes; level = None; generation = extent.generation };
        full = false;
        refs = extent.refs;
      },
      record {
        told = refl;
        is = λ i. DataRecord (place i) bytes
            (record { refs = extent.refs; generation = extent.generation; flags = flags i });
        refs = refl;
        tell = record { known = tt; extent = λ _. refl };
      },
    )
of_head nodesize at (NodeRecord address level extent) place is =
    let parts = and_parts ((extent.flags == node_flags false) || (extent.flags == node_flags true)) (nat_lt level 256)
    is in
    let flags : extent.flags ≡ node_flags (extent.flags == node_flags true) = sym (flags_back extent.flags parts.0) in (
      record {
        what = record { bytes = nodesize; level = Some level; generation = extent.generation };
        full = extent.flags == node_flags true;
        refs = extent.refs;
      },
      record {
        told = refl;
        is = λ i. NodeRecord (place i) level
            (record { refs = extent.refs; generation = extent.generation; flags = flags i });
        refs = refl;
        tell = record {
          known = (ltb-true level 256 parts.1, refl);
          extent = λ none. absurd (none-some level (sym none));
        };
      },
    )
of_head nodesize at (Referenced address reference count) place is = absurd (true≢false (sym is))

-- what is at an address has it
pub here-address : (items : List Item) (at : ℕ) (part : ExtentPart) → Among part (parts_here items at)
    → part_address part ≡ at
here-address items at part among =
    eqb-true (part_address part) at (among-filter (λ part. part_address part == at) part (parts_of items) among).0

entry_of : (nodesize : ℕ) (items : List Item) (at : ℕ) (found : Option ExtentPart)
    → the_record (parts_here items at) ≡ found → are_counted (told_in (parts_here items at)) ≡ true
    → some_passes (λ part. is_sound_record part && (refs_told part == told_sum (told_in (parts_here items at)))) found
    ≡ true
    → IsEntryWith nodesize at (parts_here items at) (option_and_then (head_told nodesize) found)
entry_of nodesize items at None is counted agrees = absurd (true≢false (sym agrees))
entry_of nodesize items at (Some part) is counted agrees =
    let here = parts_here items at in
    let told = told_in here in
    let parts = and_parts (is_sound_record part) (refs_told part == told_sum told) agrees in
    let all : filter is_record here ≡ part ∷ [] = only_one (filter is_record here) part is in
    let among : Among part (filter is_record here) =
    subst (λ (l : List ExtentPart). Among part l) (sym all) (inl refl) in
    let place = here-address items at part (among-filter is_record part here among).1 in
    let of = of_head nodesize at part place parts.0 in
    let some = and_parts (nat_lt 0 (length told)) (is_told_once told && list_all is_count told) counted in
    let clean = and_parts (is_told_once told) (list_all is_count told) some.1 in
    subst (λ (o : Option Head). IsEntryWith nodesize at here o) (sym of.1.told)
    (record {
      records = all ∙ ap (λ (p : ExtentPart). p ∷ []) of.1.is;
      clean = record { once = clean.0; counts = clean.1 };
      sums = record {
        some = sum-some told clean.1 some.0;
        refs = sym of.1.refs ∙ eqb-true (refs_told part) (told_sum told) parts.1;
        tell = of.1.tell;
      };
    })

-- so it has what its record tells
pub entry-of : (nodesize : ℕ) (items : List Item) (at : ℕ) → IsNoneOrEntry (parts_here items at)
    → IsEntryWith nodesize at (parts_here items at) (head_at nodesize items at)
unfolding is_entry
entry-of nodesize items at (inl none) =
    subst (λ (here : List ExtentPart). IsEntryWith nodesize at here (option_and_then (head_told nodesize)
    (the_record here))) (sym none) (record { records = refl; clean = clean-none; sums = refl })
entry-of nodesize items at (inr entry) =
    let parts = and_parts (are_counted (told_in (parts_here items at)))
    (some_passes (λ part. is_sound_record part && (refs_told part == told_sum (told_in (parts_here items at))))
    (the_record (parts_here items at))) entry in
    entry_of nodesize items at (the_record (parts_here items at)) refl parts.0 parts.1

-- ---- and back

nothing_here : (here : List ExtentPart) → filter is_record here ≡ [] → told_in here ≡ [] → here ≡ []
nothing_here [] records told = refl
nothing_here (DataRecord address bytes extent ∷ here) records told = absurd (none records)
  where
    none : DataRecord address bytes extent ∷ filter is_record here ≡ [] → ⊥
    none h = cc
nothing_here (NodeRecord address level extent ∷ here) records told = absurd (none records)
  where
    none : NodeRecord address level extent ∷ filter is_record here ≡ [] → ⊥
    none h = cc
nothing_here (Referenced address reference count ∷ here) records told = absurd (none told)
  where
    none : (reference, count) ∷ told_in here ≡ [] → ⊥
    none h = cc

pub entry-back : (nodesize at : ℕ) (here : List ExtentPart) (head : Option Head)
    → IsEntryWith nodesize at here head → IsNoneOrEntry here
unfolding is_entry
entry-back nodesize at here None entry = inl (nothing_here here entry.records entry.sums)
entry-back nodesize at here (Some head) entry =
    let told = told_in here in
    let counted : are_counted told ≡ true =
    and_from (nat_lt 0 (length told)) (is_told_once told && list_all is_count told) (told-some told entry.sums.some)
    (and_from (is_told_once told) (list_all is_count told) entry.clean.once entry.clean.counts) in
    let refs : (refs_told (part_of_head at head) == told_sum told) ≡ true =
    eq-eqb (refs_told (part_of_head at head)) (told_sum told)
    (record_refs at head.what.bytes head.what.level (extent_of_head head) ∙ entry.sums.refs) in
    let agrees : some_passes (λ part. is_sound_record part && (refs_told part == told_sum told))
    (the_only (filter is_record here)) ≡ true =
    ap (λ (l : List ExtentPart). some_passes (λ part. is_sound_record part && (refs_told part == told_sum told))
    (the_only l)) entry.records
    ∙ and_from (is_sound_record (part_of_head at head)) (refs_told (part_of_head at head) == told_sum told)
    (head-sound nodesize at head entry.sums.tell) refs in
    inr (and_from (are_counted told) (some_passes
    (λ part. is_sound_record part && (refs_told part == told_sum told)) (the_record here)) counted agrees)

-- it is what its record tells
pub entry-head : (nodesize at : ℕ) (here : List ExtentPart) (head : Option Head)
    → IsEntryWith nodesize at here head → option_and_then (head_told nodesize) (the_record here) ≡ head
entry-head nodesize at here None entry =
    ap (λ (l : List ExtentPart). option_and_then (head_told nodesize) (the_only l)) entry.records
entry-head nodesize at here (Some head) entry =
    ap (λ (l : List ExtentPart). option_and_then (head_told nodesize) (the_only l)) entry.records
    ∙ head-back nodesize at head entry.sums.tell

-- ---- all addresses

abbrev pub AreEntries : List ExtentPart → Type 0
AreEntries parts = (at : ℕ) → IsNoneOrEntry (parts_at parts at)

none_failing : (parts some : List ExtentPart)
    → find (λ at. not (is_entry (parts_at parts at))) (map part_address some) ≡ None → HaveEntries parts some
none_failing parts [] none = tt
none_failing parts (part ∷ some) none =
    let rest : find (λ at. not (is_entry (parts_at parts at))) (map part_address some) ≡ None → HaveEntries parts some =
    λ later. none_failing parts some later in
    by (is_entry (parts_at parts (part_address part))) refl none rest
  where
    by : (b : Bool) → is_entry (parts_at parts (part_address part)) ≡ b
        → cond (not b) (Some (part_address part)) (find (λ at. not (is_entry (parts_at parts at)))
        (map part_address some)) ≡ None
        → (find (λ at. not (is_entry (parts_at parts at))) (map part_address some) ≡ None → HaveEntries parts some)
        → HaveEntries parts (part ∷ some)
    by true has later rest = (has, rest later)
    by false has fails rest = absurd (none-some (part_address part) (sym fails))

each_entry : (parts some : List ExtentPart) (at : ℕ) → HaveEntries parts some
    → (parts_at some at ≡ []) ⊎ (is_entry (parts_at parts at) ≡ true)
each_entry parts [] at have = inl refl
each_entry parts (part ∷ some) at have =
    by (part_address part == at) refl (each_entry parts some at have.1)
  where
    by : (b : Bool) → (part_address part == at) ≡ b
        → (parts_at some at ≡ []) ⊎ (is_entry (parts_at parts at) ≡ true)
        → (cond b (part ∷ parts_at some at) (parts_at some at) ≡ []) ⊎ (is_entry (parts_at parts at) ≡ true)
    by true same rest =
        inr (subst (λ (q : ℕ). is_entry (parts_at parts q) ≡ true) (eqb-true (part_address part) at same) have.0)
    by false differs rest = rest

-- where no address fails, each has nothing or what a book may have
pub each-entry : (parts : List ExtentPart) → records_failure parts ≡ None → AreEntries parts
unfolding records_failure
each-entry parts none at = each_entry parts parts at (none_failing parts parts none)

have_each : (parts some : List ExtentPart) → AreEntries parts → ((part : ExtentPart) → Among part some
    → Among part parts) → HaveEntries parts some
have_each parts [] each within = tt
have_each parts (part ∷ some) each within =
    let among : Among part (parts_at parts (part_address part)) =
    among-passes (λ other. part_address other == part_address part) part parts
    (eq-eqb (part_address part) (part_address part) refl) (within part (inl refl)) in (
      by (each (part_address part)) among,
      have_each parts some each (λ other later. within other (inr later)),
    )
  where
    by : IsNoneOrEntry (parts_at parts (part_address part)) → Among part (parts_at parts (part_address part))
        → is_entry (parts_at parts (part_address part)) ≡ true
    by (inl none) among = absurd (subst (λ (l : List ExtentPart). Among part l) none among)
    by (inr entry) among = entry

-- and the other way round
pub entries-none : (parts : List ExtentPart) → AreEntries parts → records_failure parts ≡ None
entries-none parts each = records_failure-none parts (have_each parts parts each (λ part among. among))
