-- Parts by address: those of one address after another.
use Rattle.std.proofs.Common.{◌≡◌, ◌≢◌, ℕ, ◌<◌, true, false, List, [], ◌∷◌, ◌++◌, map, length, refl, sym, ap, subst}
use Rattle.std.proofs.Common.{◌∙◌, arith, inl, inr, append-nil}
use Rattle.std.specs.Prelude.{Some, None, not, ◌==◌}
use Rattle.std.specs.List.{AllByRecursion, find}
use Rattle.std.proofs.lemmas.Bool.{cases_Bool, eq-eqb}
use Rattle.std.proofs.lemmas.Bool.Decides.{nat_tests}
use Rattle.std.proofs.lemmas.List.Elements.{filter-append}
use Rattle.qg_tree_items.specs.Types.{ExtentPart}
use Rattle.qg_tree_items.specs.Owed.{part_address}
use Rattle.qg_refs.specs.declared.kept.Kept.{Kept}
use Rattle.qg_refs.specs.Book.{Book, no_references}
use Rattle.qg_refs.proofs.Counting.{count-nil}
use Rattle.qg_extents.specs.Table.{IsPut}
use Rattle.qg_extents.specs.BookRecords.{IsEntryOf, IsTold, is_entry, parts_at, records_failure}
use Rattle.qg_extents.proofs.Tables.{put-here, put-other}

-- ---- the parts at an address

-- each part is at an address, or none is
abbrev pub AreAt : ℕ → List ExtentPart → Type 0
AreAt at parts = AllByRecursion (λ part. part_address part ≡ at) parts

abbrev pub AreApart : ℕ → List ExtentPart → Type 0
AreApart at parts = AllByRecursion (λ part. part_address part ≢ at) parts

differ-eqb : (a b : ℕ) → a ≢ b → (a == b) ≡ false
differ-eqb a b apart = grind (arith, nat_tests)

pub parts_at-here : (at : ℕ) (here : List ExtentPart) → AreAt at here → parts_at here at ≡ here
parts_at-here at [] are = refl
parts_at-here at (part ∷ here) are = rw (eq-eqb (part_address part) at are.0, parts_at-here at here are.1) refl

pub parts_at-apart : (at : ℕ) (parts : List ExtentPart) → AreApart at parts → parts_at parts at ≡ []
parts_at-apart at [] are = refl
parts_at-apart at (part ∷ parts) are = rw (differ-eqb (part_address part) at are.0, parts_at-apart at parts are.1) refl

pub parts_at-append : (at : ℕ) (xs ys : List ExtentPart) → parts_at (xs ++ ys) at ≡ parts_at xs at ++ parts_at ys at
parts_at-append at xs ys = filter-append (λ part. part_address part == at) xs ys

other_apart : (at other : ℕ) (here : List ExtentPart) → other ≢ at → AreAt at here → AreApart other here
other_apart at other [] apart are = tt
other_apart at other (part ∷ here) apart are = (λ is. apart (sym is ∙ are.0), other_apart at other here apart are.1)

-- ---- each address so far has an entry

abbrev pub HasEntry : List ExtentPart → ℕ → Type 0
HasEntry parts at = is_entry (parts_at parts at) ≡ true

abbrev pub HaveEntries : List ExtentPart → List ExtentPart → Type 0
HaveEntries parts [] = Unit {0}
HaveEntries parts (part ∷ some) = HasEntry parts (part_address part) × HaveEntries parts some

-- and no address fails
failure_none : (parts some : List ExtentPart) → HaveEntries parts some
    → find (λ at. not (is_entry (parts_at parts at))) (map part_address some) ≡ None
failure_none parts [] have = refl
failure_none parts (part ∷ some) have = rw (have.0, failure_none parts some have.1) refl

pub records_failure-none : (parts : List ExtentPart) → HaveEntries parts parts → records_failure parts ≡ None
unfolding records_failure
records_failure-none parts have = failure_none parts parts have

failure_first : (parts some : List ExtentPart) (part : ExtentPart) (rest : List ExtentPart) → HaveEntries parts some
    → is_entry (parts_at parts (part_address part)) ≡ false
    → find (λ at. not (is_entry (parts_at parts at))) (map part_address (some ++ part ∷ rest)) ≡ Some
    (part_address part)
failure_first parts [] part rest have bad = rw bad refl
failure_first parts (first ∷ some) part rest have bad = rw (have.0, failure_first parts some part rest have.1 bad) refl

-- ---- done, and those at one address

append_at : (at : ℕ) (done here : List ExtentPart) → AreApart at done → AreAt at here
    → parts_at (done ++ here) at ≡ here
append_at at done here apart are =
    parts_at-append at done here
    ∙ ap (λ (front : List ExtentPart). front ++ parts_at here at) (parts_at-apart at done apart)
    ∙ nil_append (parts_at here at) ∙ parts_at-here at here are
  where
    nil_append : (xs : List ExtentPart) → [] ++ xs ≡ xs
    nil_append xs = refl

append_other : (at other : ℕ) (done here : List ExtentPart) → other ≢ at → AreAt at here
    → parts_at (done ++ here) other ≡ parts_at done other
append_other at other done here apart are =
    parts_at-append other done here
    ∙ ap (λ (back : List ExtentPart). parts_at done other ++ back)
    (parts_at-apart other here (other_apart at other here apart are))
    ∙ append-nil (parts_at done other)

keep_entries : (at : ℕ) (done here some : List ExtentPart) → AreAt at here → AreApart at some → HaveEntries done some
    → HaveEntries (done ++ here) some
keep_entries at done here [] are apart have = tt
keep_entries at done here (part ∷ some) are apart have = (
  subst (λ (parts : List ExtentPart). is_entry parts ≡ true)
      (sym (append_other at (part_address part) done here apart.0 are)) have.0,
  keep_entries at done here some are apart.1 have.1,
)

pub new_entries : (at : ℕ) (parts some : List ExtentPart) → AreAt at some → HasEntry parts at → HaveEntries parts some
new_entries at parts [] are has = tt
new_entries at parts (part ∷ some) are has = (
  subst (λ (q : ℕ). HasEntry parts q)
      (sym are.0) has,
  new_entries at parts some are.1 has,
)

pub both_entries : (parts xs ys : List ExtentPart) → HaveEntries parts xs → HaveEntries parts ys
    → HaveEntries parts (xs ++ ys)
both_entries parts [] ys first second = second
both_entries parts (part ∷ xs) ys first second = (first.0, both_entries parts xs ys first.1 second)

-- one address more has an entry
pub entries-more : (at : ℕ) (done here : List ExtentPart) → AreApart at done → AreAt at here → is_entry here ≡ true
    → HaveEntries done done → HaveEntries (done ++ here) (done ++ here)
entries-more at done here apart are entry have =
    both_entries (done ++ here) done here (keep_entries at done here done are apart have)
    (new_entries at (done ++ here) here are (subst (λ (parts : List ExtentPart). is_entry parts ≡ true)
    (sym (append_at at done here apart are)) entry))

-- and a book that tells those that are done tells it too
pub told-more : (nodesize at : ℕ) (done here : List ExtentPart) (old new : Book) (kept : Kept) → AreApart at done
    → AreAt at here → IsTold nodesize done old
    → IsEntryOf nodesize here kept → IsPut old new at (Some kept) → IsTold nodesize (done ++ here) new
told-more nodesize at done here old new kept apart are told entry put = record {
  what = λ q. elim (cases_Bool (q == at)) [
    | inl same ↦ let is : q ≡ at = eqb_is q at same in rw (is, own) (rw (append_at at done here apart are) entry.what)
    | inr differs ↦ let far : q ≢ at = eqb_apart q at differs in rw
        (put-other old new at (Some kept) put q far, append_other at q done here far are) (told.what q)
  ];
  full = λ q. elim (cases_Bool (q == at)) [
    | inl same ↦ let is : q ≡ at = eqb_is q at same in rw (is, own) (rw (append_at at done here apart are) entry.full)
    | inr differs ↦ let far : q ≢ at = eqb_apart q at differs in rw
        (put-other old new at (Some kept) put q far, append_other at q done here far are) (told.full q)
  ];
  count = λ q x. elim (cases_Bool (q == at)) [
    | inl same ↦ let is : q ≡ at = eqb_is q at same in rw (is, own)
        (rw (append_at at done here apart are) (entry.count x))
    | inr differs ↦ let far : q ≢ at = eqb_apart q at differs in rw
        (put-other old new at (Some kept) put q far, append_other at q done here far are) (told.count q x)
  ];
}
  where
    own : new at ≡ Some kept
    own = put-here old new at (Some kept) put

    eqb_is : (a b : ℕ) → (a == b) ≡ true → a ≡ b
    eqb_is a b h = grind (arith, nat_tests)

    eqb_apart : (a b : ℕ) → (a == b) ≡ false → a ≢ b
    eqb_apart a b h = grind (arith, nat_tests)

pub told-none : (nodesize : ℕ) → IsTold nodesize [] no_references
told-none nodesize = record { what = λ at. refl; full = λ at. refl; count = λ at x. count-nil x }

-- the parts at an address that is done are those of all
done_at : (at : ℕ) (done back : List ExtentPart) → AreApart at back → parts_at (done ++ back) at ≡ parts_at done at
done_at at done back apart =
    parts_at-append at done back ∙ ap (λ (rest : List ExtentPart). parts_at done at ++ rest)
    (parts_at-apart at back apart) ∙ append-nil (parts_at done at)

-- each of some parts is at an address where none of others is
abbrev pub AreOff : List ExtentPart → List ExtentPart → Type 0
AreOff others parts = AllByRecursion (λ part. AreApart (part_address part) others) parts

more_entries : (done back some : List ExtentPart) → AreOff back some → HaveEntries done some
    → HaveEntries (done ++ back) some
more_entries done back [] off have = tt
more_entries done back (part ∷ some) off have = (
  subst (λ (parts : List ExtentPart). is_entry parts ≡ true)
      (sym (done_at (part_address part) done back off.0)) have.0,
  more_entries done back some off.1 have.1,
)

pub append_assoc : (xs ys zs : List ExtentPart) → xs ++ ys ++ zs ≡ xs ++ (ys ++ zs)
append_assoc [] ys zs = refl
append_assoc (x ∷ xs) ys zs = ap (λ (l : List ExtentPart). x ∷ l) (append_assoc xs ys zs)

-- the first address without an entry fails
pub failure-at : (at : ℕ) (done here rest : List ExtentPart) → 0 < length here → AreApart at done → AreAt at here
    → AreApart at rest
    → AreOff (here ++ rest) done → HaveEntries done done → is_entry here ≡ false
    → records_failure (done ++ here ++ rest) ≡ Some at
unfolding records_failure
failure-at at done [] rest some apart are behind off have bad = absurd (omega (arith, some))
failure-at at done (part ∷ here) rest some apart are behind off have bad =
    let all = done ++ (part ∷ here) ++ rest in
    let there : parts_at all at ≡ part ∷ here = done_at at (done ++ (part ∷ here)) rest behind
    ∙ append_at at done (part ∷ here) apart are in
    let first : find (λ q. not (is_entry (parts_at all q))) (map part_address (done ++ part ∷ (here ++ rest))) ≡ Some
    (part_address part) =
    failure_first all done part (here ++ rest)
    (subst (λ (parts : List ExtentPart). HaveEntries parts done) (sym (append_assoc done (part ∷ here) rest))
    (more_entries done ((part ∷ here) ++ rest) done off have))
    (ap (λ (q : ℕ). is_entry (parts_at all q)) are.0 ∙ ap is_entry there ∙ bad) in
    ap (λ (parts : List ExtentPart). find (λ q. not (is_entry (parts_at all q))) (map part_address parts))
    (append_assoc done (part ∷ here) rest) ∙ first ∙ ap (λ (q : ℕ). Some q) are.0
