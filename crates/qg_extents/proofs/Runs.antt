-- Runs of parts at one address, by their indices.
use Rattle.std.proofs.Common.{◌≡◌, ◌≢◌, ℕ, ◌+◌, ◌-◌, ◌≤◌, ◌<◌, true, false, List, ◌++◌, length, take, drop, get_or, sym}
use Rattle.std.proofs.Common.{ap, subst, ◌∙◌, arith, length-append, ◌⊎◌, inl, inr, ltb}
use Rattle.std.specs.Prelude.{Some, slice_range}
use Rattle.std.proofs.lemmas.Bool.{cases_Bool, ltb-true, ltb-false}
use Rattle.std.proofs.lemmas.List.{get_or-take, get_or-drop, get_or_default, length-take-le, length-drop}
use Rattle.std.proofs.lemmas.List.{take-append-drop, take_at}
use Rattle.std.proofs.lemmas.List.Elements.{All-from_recursion, recursion_from_All}
use Rattle.std.proofs.lemmas.List.Folds.{drop_split}
use Rattle.qg_tree_items.specs.Types.{ExtentPart}
use Rattle.qg_tree_items.specs.Owed.{part_address}
use Rattle.qg_refs.specs.declared.kept.Kept.{Kept}
use Rattle.qg_refs.specs.Book.{Book}
use Rattle.qg_extents.specs.Table.{IsPut}
use Rattle.qg_extents.specs.BookRecords.{AreInOrder, IsEntryOf, IsTold, is_entry, records_failure}
use Rattle.qg_extents.specs.Reading.{IsRun}
use Rattle.qg_extents.proofs.Records.{AreApart, AreAt, AreOff, HaveEntries, append_assoc, entries-more, failure-at}
use Rattle.qg_extents.proofs.Records.{told-more}

abbrev pub address_of : List ExtentPart → ℕ → ExtentPart → ℕ
address_of parts i d = part_address (get_or parts i d)

-- the parts up to an index are at lesser addresses than those from there on
abbrev pub IsDone : ℕ → List ExtentPart → Type 0
IsDone from parts = (i j : ℕ) (d : ExtentPart) → i < from → from ≤ j → j < length parts
    → address_of parts i d < address_of parts j d

pub done_none : (parts : List ExtentPart) → IsDone 0 parts
done_none parts i j d below above inside = absurd (omega (arith, below))

order_le : (parts : List ExtentPart) (i j : ℕ) (d : ExtentPart) → AreInOrder parts → i ≤ j → j < length parts
    → address_of parts i d ≤ address_of parts j d
order_le parts i j d order le inside = elim (cases_Bool (ltb i j)) [
  | inl below ↦ order i j d (ltb-true i j below) inside
  | inr not ↦
      let same : i ≡ j = omega (arith, ltb-false i j not, le) in
      omega (arith, ap (λ (k : ℕ). address_of parts k d) same)
]

pub done_next : (parts : List ExtentPart) (from to : ℕ) → AreInOrder parts → IsRun parts from to → IsDone to parts
done_next parts from to order run i j d below above inside =
    let here : address_of parts i d ≤ address_of parts from d = low (cases_Bool (ltb i from)) in
    let up : address_of parts from d ≤ address_of parts to d = order_le parts from to d order (omega (arith, run.some))
    (omega (arith, above, inside)) in
    let apart : address_of parts to d ≢ address_of parts from d = run.next d (omega (arith, above, inside)) in
    let over : address_of parts to d ≤ address_of parts j d = order_le parts to j d order above inside in
    less (address_of parts i d) (address_of parts from d) (address_of parts to d)
    (address_of parts j d) here up apart over
  where
    low : (ltb i from ≡ true) ⊎ (ltb i from ≡ false) → address_of parts i d ≤ address_of parts from d
    low (inl before) = order_le parts i from d order (omega (arith, ltb-true i from before))
        (omega (arith, run.some, above, inside))
    low (inr behind) = omega (arith, run.same i d (ltb-false i from behind) below)

    less : (a b c e : ℕ) → a ≤ b → b ≤ c → c ≢ b → c ≤ e → a < e
    less a b c e ab bc cb ce = grind arith

-- ---- what is done, a run, and the rest

pub whole_split : (parts : List ExtentPart) (from to : ℕ) → from ≤ to → parts ≡ take from parts
    ++ slice_range parts from to ++ drop to parts
whole_split parts from to le =
    sym (take-append-drop from parts) ∙ ap (λ (back : List ExtentPart). take from parts ++ back)
    (drop_split parts from to le)
    ∙ sym (append_assoc (take from parts) (slice_range parts from to) (drop to parts))

run_length : (parts : List ExtentPart) (from to : ℕ) → from ≤ to → to ≤ length parts
    → length (slice_range parts from to) ≡ to - from
run_length parts from to le bound = length-take-le (to - from) (drop from parts)
    (omega (arith, le, bound, length-drop from parts))

pub take_split : (parts : List ExtentPart) (from to : ℕ) → from ≤ to → to ≤ length parts
    → take to parts ≡ take from parts ++ slice_range parts from to
take_split parts from to le bound =
    ap (take to) (whole_split parts from to le)
    ∙ take_at (take from parts ++ slice_range parts from to) (drop to parts) to
    (omega (
      arith,
      le,
      length-append (take from parts) (slice_range parts from to),
      length-take-le from parts
          (omega (arith, le, bound)),
      run_length parts from to le bound,
    ))

pub run_some : (parts : List ExtentPart) (from to : ℕ) → IsRun parts from to → 0 < length (slice_range parts from to)
run_some parts from to run = omega (arith, run.some, run_length parts from to (omega (arith, run.some)) run.bound)

pub apart_done : (parts : List ExtentPart) (from : ℕ) (at : ℕ) → ((d : ExtentPart) → address_of parts from d ≡ at)
    → IsDone from parts → from < length parts → AreApart at (take from parts)
apart_done parts from at is done inside = recursion_from_All (λ p. part_address p ≢ at) (take from parts)
    (λ i d low same.
    let below : i < from = omega (arith, low, length-take-le from parts (omega (arith, inside))) in
    let there = ap part_address (get_or-take from parts i d below) in
    omega (arith, done i from d below (omega arith) inside, is d, same, there))

pub at_run : (parts : List ExtentPart) (from to : ℕ) (at : ℕ) → ((d : ExtentPart) → address_of parts from d ≡ at)
    → IsRun parts from to → AreAt at (slice_range parts from to)
at_run parts from to at is run = recursion_from_All (λ p. part_address p ≡ at) (slice_range parts from to) (λ i d low.
    let below : i < to - from = omega (arith, low, run_length parts from to (omega (arith, run.some)) run.bound) in
    ap part_address (get_or-take (to - from) (drop from parts) i d below ∙ get_or-drop from parts i d)
    ∙ run.same (from + i) d (omega arith) (omega (arith, below)) ∙ is d)

pub apart_rest : (parts : List ExtentPart) (from to : ℕ) (at : ℕ) → ((d : ExtentPart) → address_of parts from d ≡ at)
    → IsRun parts from to → IsDone to parts → AreApart at (drop to parts)
apart_rest parts from to at is run done = recursion_from_All (λ p. part_address p ≢ at) (drop to parts) (λ i d low same.
    let inside : to + i < length parts = omega (arith, low, length-drop to parts) in
    let there = ap part_address (get_or-drop to parts i d) in
    omega (arith, done from (to + i) d run.some (omega arith) inside, is d, same, there))

pub off_done : (parts : List ExtentPart) (from : ℕ) → IsDone from parts → from ≤ length parts
    → AreOff (drop from parts) (take from parts)
off_done parts from done bound = recursion_from_All (λ p. AreApart (part_address p) (drop from parts)) (take from parts)
    (λ i d low.
    recursion_from_All (λ p. part_address p ≢ part_address (get_or (take from parts) i d)) (drop from parts)
    (λ j e low' same.
    let below : i < from = omega (arith, low, length-take-le from parts bound) in
    let inside : from + j < length parts = omega (arith, low', length-drop from parts) in
    let first = ap part_address (get_or-take from parts i d below) in
    let first' = ap part_address (get_or_default parts i d e (omega (arith, below, bound))) in
    let second = ap part_address (get_or-drop from parts j e) in
    omega (arith, done i (from + j) e below (omega arith) inside, first, first', second, same)))

-- parts at one address are in order
pub one_address : (at : ℕ) (parts : List ExtentPart) → AreAt at parts → AreInOrder parts
one_address at parts are = λ i j d below inside.
    let all = All-from_recursion (λ (p : ExtentPart). part_address p ≡ at) parts are in
    omega (arith, all i d (omega (arith, below, inside)), all j d inside)

-- ---- one run more

pub address_is : (parts : List ExtentPart) (from : ℕ) (part : ExtentPart) (at : ℕ) → from < length parts
    → part ≡ get_or parts from part → at ≡ part_address part
    → (d : ExtentPart) → address_of parts from d ≡ at
address_is parts from part at inside is there d = ap part_address (get_or_default parts from d part inside ∙ sym is)
    ∙ sym there

pub failure_run : (parts : List ExtentPart) (from to at : ℕ) → AreInOrder parts → IsDone from parts
    → from < length parts → IsRun parts from to → ((d : ExtentPart) → address_of parts from d ≡ at)
    → HaveEntries (take from parts) (take from parts) → is_entry (slice_range parts from to) ≡ false
    → records_failure parts ≡ Some at
failure_run parts from to at order done inside run is have bad =
    let le : from ≤ to = omega (arith, run.some) in
    ap records_failure (whole_split parts from to le)
    ∙ failure-at at (take from parts) (slice_range parts from to) (drop to parts) (run_some parts from to run)
    (apart_done parts from at is done inside) (at_run parts from to at is run)
    (apart_rest parts from to at is run (done_next parts from to order run))
    (subst (λ (rest : List ExtentPart). AreOff rest (take from parts)) (drop_split parts from to le)
    (off_done parts from done (omega (arith, inside)))) have bad

pub told_run : (nodesize : ℕ) (parts : List ExtentPart) (from to at : ℕ) (old new : Book) (kept : Kept)
    → IsDone from parts → from < length parts → IsRun parts from to
    → ((d : ExtentPart) → address_of parts from d ≡ at) → IsTold nodesize (take from parts) old
    → IsEntryOf nodesize (slice_range parts from to) kept → IsPut old new at (Some kept)
    → IsTold nodesize (take to parts) new
told_run nodesize parts from to at old new kept done inside run is told entry put =
    subst (λ (some : List ExtentPart). IsTold nodesize some new)
    (sym (take_split parts from to (omega (arith, run.some)) run.bound))
    (told-more nodesize at (take from parts) (slice_range parts from to) old new kept
    (apart_done parts from at is done inside) (at_run parts from to at is run) told entry put)

pub entries_run : (parts : List ExtentPart) (from to at : ℕ) → IsDone from parts → from < length parts
    → IsRun parts from to → ((d : ExtentPart) → address_of parts from d ≡ at)
    → HaveEntries (take from parts) (take from parts) → is_entry (slice_range parts from to) ≡ true
    → HaveEntries (take to parts) (take to parts)
entries_run parts from to at done inside run is have entry =
    subst (λ (some : List ExtentPart). HaveEntries some some)
    (sym (take_split parts from to (omega (arith, run.some)) run.bound))
    (entries-more at (take from parts) (slice_range parts from to) (apart_done parts from at is done inside)
    (at_run parts from to at is run) entry have)
