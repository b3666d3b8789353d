-- Parts that agree with what is owed are the records of a book.
use Rattle.std.proofs.Common.{◌≡◌, ◌≢◌, ℕ, ◌≤◌, ◌<◌, Bool, true, false, List, [], ◌∷◌, length, refl, sym, ap, subst}
use Rattle.std.proofs.Common.{◌∙◌, arith, ◌⊎◌, inl, inr}
use Rattle.std.specs.Prelude.{None, ◌&&◌, ◌||◌, not, ◌==◌, if◌then◌else◌, nat_lt, nat_le, cond}
use Rattle.std.specs.List.{count_by, filter, list_all, list_any}
use Rattle.std.proofs.lemmas.Bool.{cases_Bool, cond-true, cond-false, true≢false, eq-eqb, lt-ltb}
use Rattle.std.proofs.lemmas.Bool.Decides.{nat_tests}
use Rattle.std.proofs.lemmas.List.Sums.{sum_by-cons}
use Rattle.qg_node.specs.declared.node.Header.{Header}
use Rattle.qg_items.specs.declared.extent.Reference.{Reference}
use Rattle.qg_tree_items.specs.Types.{ExtentPart}
use Rattle.qg_tree_items.specs.Types.{DataRecord, NodeRecord, Referenced}
use Rattle.qg_tree_items.specs.ItemMeaning.{some_passes}
use Rattle.qg_tree_items.specs.State.{Layout}
use Rattle.qg_tree_items.specs.Record.{same_reference}
use Rattle.qg_tree_items.specs.Owed.{Agrees, What, agrees_at, are_references, is_nothing, is_record, is_recorded_once}
use Rattle.qg_tree_items.specs.Owed.{is_told_once, node_flags, owed_count, owed_to, part_address, what_at}
use Rattle.qg_tree_items.specs.Owed.What.{Nothing, Data, Block}
use Rattle.qg_refs.specs.Book.{AgreesWithOwed, Book}
use Rattle.qg_refs.specs.Counts.{greatest_count}
use Rattle.qg_refs.proofs.RankOrder.{same_reference_is}
use Rattle.qg_extents.specs.BookRecords.{IsTold, are_counted, is_count, is_entry, is_sound_record, parts_at}
use Rattle.qg_extents.specs.BookRecords.{records_failure}
use Rattle.qg_extents.specs.BookRecords.{refs_told, the_only, told_count, told_in, told_sum}
use Rattle.qg_extents.specs.Laws.{AreFew, IsOwedBook, IsOwing}
use Rattle.qg_extents.proofs.Records.{HasEntry, HaveEntries, records_failure-none}
use Rattle.qg_extents.proofs.Telling.{Told, both_of}

-- ---- counts

abbrev one-where : Bool → ℕ
one-where here = cond here 1 0

abbrev tells : Reference → Told → Bool
tells x told = list_any (λ entry. same_reference x entry.0) told

-- each told reference has the count of those owed
abbrev AreOwedCounts : List Reference → Told → Bool
AreOwedCounts owed told = list_all (λ entry. nat_lt 0 entry.1 && (entry.1 == count_by (same_reference entry.0) owed))
    told

abbrev counts_of : Reference → Reference × ℕ → ℕ
counts_of x entry = if same_reference x entry.0 then entry.1 else 0

not_true : (b : Bool) → not b ≡ true → b ≡ false
not_true true is = absurd (true≢false (sym is))
not_true false is = refl

eqb_is : (a b : ℕ) → (a == b) ≡ true → a ≡ b
eqb_is a b h = grind (arith, nat_tests)

-- one that is not told counts nothing
untold_count : (told : Told) (x : Reference) → tells x told ≡ false → told_count told x ≡ 0
untold_count [] x untold = refl
untold_count (entry ∷ told) x untold = elim (cases_Bool (same_reference x entry.0)) [
  | inl same ↦ absurd (true≢false (sym (ap (λ (b : Bool). b || tells x told) same) ∙ untold))
  | inr differs ↦
      let none : counts_of x entry ≡ 0 = cond-false _ _ _ differs in
      let rest : tells x told ≡ false = sym (ap (λ (b : Bool). b || tells x told) differs) ∙ untold in
      omega (arith, sum_by-cons (counts_of x) entry told, none, untold_count told x rest)
]

-- one that is told once counts what is owed
once_count : (owed : List Reference) (told : Told) (x : Reference) → is_told_once told ≡ true
    → AreOwedCounts owed told ≡ true → tells x told ≡ true
    → told_count told x ≡ count_by (same_reference x) owed
once_count owed [] x once counts tell = absurd (true≢false (sym tell))
once_count owed (entry ∷ told) x once counts tell =
    let apart = both_of (not (tells entry.0 told)) (is_told_once told) once in
    let each = both_of (nat_lt 0 entry.1 && (entry.1 == count_by (same_reference entry.0) owed))
    (AreOwedCounts owed told) counts in
    elim (cases_Bool (same_reference x entry.0)) [
      | inl same ↦
          let is : x ≡ entry.0 = same_reference_is x entry.0 same in
          let own : counts_of x entry ≡ entry.1 = cond-true _ _ _ same in
          let rest : told_count told x ≡ 0 = untold_count told x
          (subst (λ (y : Reference). tells y told ≡ false) (sym is) (not_true _ apart.0)) in
          let count : entry.1 ≡ count_by (same_reference entry.0) owed = eqb_is _ _
          (both_of (nat_lt 0 entry.1) _ each.0).1 in
          omega (
            arith,
            sum_by-cons (counts_of x) entry told,
            own,
            rest,
            count,
            ap
                (λ (y : Reference). count_by (same_reference y) owed) is,
          )
      | inr differs ↦
          let none : counts_of x entry ≡ 0 = cond-false _ _ _ differs in
          let rest : tells x told ≡ true = sym (ap (λ (b : Bool). b || tells x told) differs) ∙ tell in
          omega (arith, sum_by-cons (counts_of x) entry told, none, once_count owed told x apart.1 each.1 rest)
    ]

-- one that is not told is not owed
untold_owed : (told : Told) (owed : List Reference) (x : Reference)
    → list_all (λ reference. tells reference told) owed ≡ true → tells x told ≡ false
    → count_by (same_reference x) owed ≡ 0
untold_owed told [] x all untold = refl
untold_owed told (y ∷ owed) x all untold =
    let parts = both_of (tells y told) (list_all (λ reference. tells reference told) owed) all in
    elim (cases_Bool (same_reference x y)) [
      | inl same ↦
          absurd (true≢false (sym parts.0 ∙ subst (λ (z : Reference). tells z told ≡ false)
          (same_reference_is x y same) untold))
      | inr differs ↦
          let none : one-where (same_reference x y) ≡ 0 = cond-false _ _ _ differs in
          omega (
            arith,
            sum_by-cons (λ (z : Reference). cond (same_reference x z) 1 0) y owed,
            none,
            untold_owed told
                owed x parts.1 untold,
          )
    ]

pub told-owed : (told : Told) (owed : List Reference) (x : Reference) → are_references told owed ≡ true
    → told_count told x ≡ count_by (same_reference x) owed
told-owed told owed x are =
    let back = both_of (is_told_once told && AreOwedCounts owed told)
    (list_all (λ reference. tells reference told) owed) are in
    let front = both_of (is_told_once told) (AreOwedCounts owed told) back.0 in
    elim (cases_Bool (tells x told)) [
      | inl tell ↦ once_count owed told x front.0 front.1 tell
      | inr untold ↦ untold_count told x untold ∙ sym (untold_owed told owed x back.1 untold)
    ]

-- ---- one address

-- nothing is told where nothing is owed
told_none : (told : Told) → AreOwedCounts [] told ≡ true → told ≡ []
told_none [] counts = refl
told_none (entry ∷ told) counts =
    let each = both_of (nat_lt 0 entry.1 && (entry.1 == 0)) (AreOwedCounts [] told) counts in
    absurd (clash entry.1 each.0)
  where
    clash : (n : ℕ) → (nat_lt 0 n && (n == 0)) ≡ true → ⊥
    clash n h = grind (arith, nat_tests)

owed_none : (owed : List Reference) → length owed ≡ 0 → owed ≡ []
owed_none [] none = refl
owed_none (x ∷ owed) none = absurd (omega (arith, none))

-- each part is a record or tells a reference
none_here : (here : List ExtentPart) → filter is_record here ≡ [] → told_in here ≡ [] → here ≡ []
none_here [] records told = refl
none_here (DataRecord address bytes extent ∷ here) records told = cc
none_here (NodeRecord address level extent ∷ here) records told = cc
none_here (Referenced address reference count ∷ here) records told = cc

owed_told : (told : Told) (owed : List Reference) → 0 < length owed
    → list_all (λ reference. tells reference told) owed ≡ true → nat_lt 0 (length told) ≡ true
owed_told told [] some all = absurd (omega (arith, some))
owed_told [] (x ∷ owed) some all = absurd (true≢false (sym all))
owed_told (entry ∷ told) (x ∷ owed) some all = grind (arith, nat_tests)

few_counts : (owed : List Reference) (told : Told) → AreOwedCounts owed told ≡ true
    → list_all (λ entry. nat_le entry.1 (greatest_count entry.0)) told ≡ true → list_all is_count told ≡ true
few_counts owed [] counts few = refl
few_counts owed (entry ∷ told) counts few =
    let each = both_of (nat_lt 0 entry.1 && (entry.1 == count_by (same_reference entry.0) owed))
    (AreOwedCounts owed told) counts in
    let most = both_of (nat_le entry.1 (greatest_count entry.0))
    (list_all (λ entry. nat_le entry.1 (greatest_count entry.0)) told) few in
    rw ((both_of (nat_lt 0 entry.1) _ each.0).0, most.0, few_counts owed told each.1 most.1) refl

few_at : (p : ExtentPart → Bool) (parts : List ExtentPart)
    → list_all (λ entry. nat_le entry.1 (greatest_count entry.0)) (told_in parts) ≡ true
    → list_all (λ entry. nat_le entry.1 (greatest_count entry.0)) (told_in (filter p parts)) ≡ true
few_at p [] few = refl
few_at p (DataRecord address bytes extent ∷ parts) few = elim (cases_Bool (p (DataRecord address bytes extent))) [
  | inl passes ↦ rw passes (few_at p parts few)
  | inr fails ↦ rw fails (few_at p parts few)
]
few_at p (NodeRecord address level extent ∷ parts) few = elim (cases_Bool (p (NodeRecord address level extent))) [
  | inl passes ↦ rw passes (few_at p parts few)
  | inr fails ↦ rw fails (few_at p parts few)
]
few_at p (Referenced address reference count ∷ parts) few =
    let most = both_of (nat_le count (greatest_count reference))
    (list_all (λ entry. nat_le entry.1 (greatest_count entry.0)) (told_in parts)) few in
    elim (cases_Bool (p (Referenced address reference count))) [
      | inl passes ↦ rw (passes, most.0) (few_at p parts most.1)
      | inr fails ↦ rw fails (few_at p parts most.1)
    ]

-- ---- a record

data_sound : (a b c : Bool) → (a && b && c) ≡ true → (b && c) ≡ true
data_sound true b c h = h
data_sound false b c h = absurd (true≢false (sym h))

or_last : (b : Bool) → (b || true) ≡ true
or_last true = refl
or_last false = refl

either_flags : (flags : ℕ) (mark : Bool) → (flags == node_flags mark) ≡ true
    → ((flags == node_flags false) || (flags == node_flags true)) ≡ true
either_flags flags true same = rw same (or_last (flags == node_flags false))
either_flags flags false same = rw same refl

node_sound : (flags : ℕ) (full a c d low : Bool) → low ≡ true → (a && (flags == node_flags full) && c && d) ≡ true
    → (((flags == node_flags false) || (flags == node_flags true)) && low && c) ≡ true
node_sound flags full a c d low is h =
    let last = both_of (a && (flags == node_flags full) && c) d h in
    let third = both_of (a && (flags == node_flags full)) c last.0 in
    let second = both_of a (flags == node_flags full) third.0 in
    rw (is, third.1, either_flags flags full second.1) refl

recorded : (what : What) (refs : ℕ) (records : List ExtentPart) → is_recorded_once what refs records ≡ true
    → is_nothing what ≡ false
    → ((header : Header) (full : Bool) → what ≡ Block header full → header.level < 256)
    → some_passes (λ part. is_sound_record part && (refs_told part == refs)) (the_only records) ≡ true
recorded what refs [] once some low = absurd (true≢false (sym once ∙ some))
recorded Nothing refs (part ∷ []) once some low = absurd (true≢false (sym once))
recorded (Data bytes) refs (DataRecord address length' extent ∷ []) once some low = data_sound (length' == bytes)
    (extent.flags == 1) (extent.refs == refs) once
recorded (Data bytes) refs (NodeRecord address level extent ∷ []) once some low = absurd (true≢false (sym once))
recorded (Data bytes) refs (Referenced address reference count ∷ []) once some low = absurd (true≢false (sym once))
recorded (Block header full) refs (NodeRecord address level extent ∷ []) once some low =
    let first = both_of (level == header.level) _ (both_of
    ((level == header.level) && (extent.flags == node_flags full)) (extent.refs == refs)
    (both_of _ (extent.generation == header.generation) once).0).0 in
    node_sound extent.flags full (level == header.level) (extent.refs == refs) (extent.generation == header.generation)
    (nat_lt level 256)
    (lt-ltb level 256 (omega (arith, eqb_is level header.level first.0, low header full refl))) once
recorded (Block header full) refs (DataRecord address bytes extent ∷ []) once some low = absurd (true≢false (sym once))
recorded (Block header full) refs (Referenced address reference count ∷ []) once some low = absurd
    (true≢false (sym once))
recorded what refs (part ∷ other ∷ records) once some low = absurd (true≢false (sym once))

-- ---- all addresses

-- what stands at an address is recorded once, with the references that are owed
pub record AgreesHere (layout : Layout) (parts : List ExtentPart) (at : ℕ) : Type 0 where
  pub once : is_recorded_once (what_at layout at) (told_sum (told_in (parts_at parts at)))
      (filter is_record (parts_at parts at)) ≡ true
  pub are : are_references (told_in (parts_at parts at)) (owed_to layout at) ≡ true

pub agrees_here : (layout : Layout) (parts : List ExtentPart) (at : ℕ) → agrees_at layout parts at ≡ true
    → AgreesHere layout parts at
unfolding agrees_at
agrees_here layout parts at agrees = let split = both_of _ _ agrees in record { once = split.0; are = split.1 }

nothing_records : (what : What) (refs : ℕ) (records : List ExtentPart) → is_recorded_once what refs records ≡ true
    → is_nothing what ≡ true → records ≡ []
nothing_records what refs [] once none = refl
nothing_records Nothing refs (part ∷ []) once none = absurd (true≢false (sym once))
nothing_records (Data bytes) refs (part ∷ []) once none = absurd (true≢false (sym none))
nothing_records (Block header full) refs (part ∷ []) once none = absurd (true≢false (sym none))
nothing_records what refs (part ∷ other ∷ records) once none = absurd (true≢false (sym once))

-- where there is a part, parts that agree are an entry
has_entry : (layout : Layout) (parts : List ExtentPart) (at : ℕ) → AgreesHere layout parts at → IsOwing layout
    → AreFew parts → parts_at parts at ≢ [] → HasEntry parts at
unfolding is_entry
has_entry layout parts at agrees owing few some =
    let here = parts_at parts at in
    let told = told_in here in
    let owed = owed_to layout at in
    let back = both_of (is_told_once told && AreOwedCounts owed told)
    (list_all (λ reference. tells reference told) owed) agrees.are in
    let front = both_of (is_told_once told) (AreOwedCounts owed told) back.0 in
    elim (cases_Bool (is_nothing (what_at layout at))) [
      | inl none ↦
          let no_owed : owed ≡ [] = owed_none owed (eqb_is (length owed) 0 (sym (owing.owed at) ∙ none)) in
          let no_told = told_none told (subst (λ (o : List Reference). AreOwedCounts o told ≡ true) no_owed front.1) in
          absurd (some (none_here here (nothing_records (what_at layout at) (told_sum told)
          (filter is_record here) agrees.once none) no_told))
      | inr begins ↦
          let owed_some : 0 < length owed = eqb_some (length owed) (sym (owing.owed at) ∙ begins) in
          let counted : are_counted told ≡ true = rw (
            owed_told told owed owed_some back.1,
            front.0,
            few_counts owed
                told front.1 (few_at (λ part. part_address part == at) parts few),
          ) refl in
          rw (counted) (recorded (what_at layout at) (told_sum told) (filter is_record here) agrees.once begins
          (owing.low at))
    ]
  where
    eqb_some : (n : ℕ) → (n == 0) ≡ false → 0 < n
    eqb_some n h = grind (arith, nat_tests)

-- a part is among others
abbrev IsAmong : ExtentPart → List ExtentPart → Type 0
IsAmong part [] = ⊥
IsAmong part (first ∷ parts) = (first ≡ part) ⊎ IsAmong part parts

more : (b : Bool) (part : ExtentPart) (parts : List ExtentPart) → length parts ≤ length (cond b (part ∷ parts) parts)
more true part parts = omega arith
more false part parts = omega arith

-- and then among those at its address
among_there : (parts : List ExtentPart) (part : ExtentPart) → IsAmong part parts
    → 0 < length (parts_at parts (part_address part))
among_there [] part among = absurd among
among_there (first ∷ parts) part (inl is) =
    let own : (part_address first == part_address part) ≡ true = eq-eqb (part_address first) (part_address part)
    (ap part_address is) in
    rw own (omega arith)
among_there (first ∷ parts) part (inr later) =
    let below : 0 < length (parts_at parts (part_address part)) = among_there parts part later in
    omega (arith, below, more (part_address first == part_address part) first (parts_at parts (part_address part)))

all_entries : (layout : Layout) (parts some : List ExtentPart) → Agrees layout parts → IsOwing layout → AreFew parts
    → ((part : ExtentPart) → IsAmong part some → IsAmong part parts)
    → HaveEntries parts some
all_entries layout parts [] agrees owing few among = tt
all_entries layout parts (part ∷ some) agrees owing few among =
    let at = part_address part in
    let there = among_there parts part (among part (inl refl)) in (
      has_entry layout parts at (agrees_here layout parts at (agrees at)) owing few
          (λ none. omega (arith, there, ap (λ (l : List ExtentPart). length l) none)),
      all_entries layout parts some agrees owing few (λ other is. among other (inr is)),
    )

pub book_agrees : (nodesize : ℕ) (layout : Layout) (parts : List ExtentPart) (book : Book) → Agrees layout parts
    → IsTold nodesize parts book → AgreesWithOwed layout book
unfolding owed_count
book_agrees nodesize layout parts book agrees told at x =
    told.count at x ∙ told-owed (told_in (parts_at parts at)) (owed_to layout at) x
    (agrees_here layout parts at (agrees at)).are

-- parts that agree fail nowhere
pub owed-sound : (layout : Layout) (parts : List ExtentPart) → Agrees layout parts → IsOwing layout → AreFew parts
    → records_failure parts ≡ None
owed-sound layout parts agrees owing few =
    records_failure-none parts (all_entries layout parts parts agrees owing few (λ part among. among))

pub owed-read : (nodesize : ℕ) (layout : Layout) (parts : List ExtentPart) (book : Book) → Agrees layout parts
    → IsOwing layout → AreFew parts → IsTold nodesize parts book
    → IsOwedBook nodesize layout parts book
owed-read nodesize layout parts book agrees owing few told = record {
  sound = owed-sound layout parts agrees owing few;
  agrees = book_agrees nodesize layout parts book agrees told;
}
