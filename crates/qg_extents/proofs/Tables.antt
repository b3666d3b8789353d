-- A table after an edit at one address.
use Rattle.std.proofs.Common.{◌≡◌, ◌≢◌, ℕ, ◌<◌, ◌≤◌, Bool, true, false, List, [], ◌∷◌, length, Option, Some, None, cond}
use Rattle.std.proofs.Common.{refl, sym, ap, subst, ◌∙◌, arith, inl, inr}
use Rattle.std.specs.Prelude.{if◌then◌else◌, unwrap_or, IsSome, OnErr, Result, Ok, Err}
use Rattle.std.proofs.lemmas.Map.Steps.{set_value_same}
use Rattle.std.specs.BTreeMap.{BTreeMap, WritesThrough, get, get_by, is_at}
use Rattle.std.specs.List.Sorted.{IsStrictlySortedBy}
use Rattle.std.specs.Map.{keys_of, set_value}
use Rattle.std.specs.Ordering.{nat_cmp}
use Rattle.std.proofs.lemmas.Bool.{cases_Bool, cond-true, cond-false}
use Rattle.std.proofs.lemmas.Bool.Decides.{nat_tests}
use Rattle.qg_items.specs.declared.extent.Reference.{Reference}
use Rattle.qg_tree_items.specs.Record.{same_reference}
use Rattle.qg_refs.specs.declared.counted.Counted.{Counted}
use Rattle.qg_refs.specs.declared.kept.What.{What}
use Rattle.qg_refs.specs.declared.kept.Kept.{Kept}
use Rattle.qg_refs.specs.Book.{Book, Adds, Drops, Marks, references_in}
use Rattle.qg_refs.specs.Counts.{count_of, HasOneMore, IsRefList, greatest_count}
use Rattle.qg_refs.proofs.Counting.{count-nil}
use Rattle.qg_refs.proofs.RankOrder.{same_itself, same_reference_is}
use Rattle.qg_extents.specs.Table.{book_of, IsPut, IsTable, MayKeep}

-- ---- one address

pub at_itself : (at : ℕ) → is_at (nat_cmp at) at ≡ true
at_itself at = grind (arith, nat_tests)

pub at_other : (at q : ℕ) → q ≢ at → is_at (nat_cmp at) q ≡ false
at_other at q apart = grind (arith, nat_tests)

pub put-here : (old new : Book) (at : ℕ) (kept : Option Kept) → IsPut old new at kept → new at ≡ kept
put-here old new at kept put = put.each at ∙ ap (λ (b : Bool). cond b kept (old at)) (at_itself at)

pub put-other : (old new : Book) (at : ℕ) (kept : Option Kept) → IsPut old new at kept → (q : ℕ) → q ≢ at
    → new q ≡ old q
put-other old new at kept put q apart = put.each q ∙ ap (λ (b : Bool). cond b kept (old q)) (at_other at q apart)

cond-cond : (b : Bool) (x y z : Option Kept) → cond b x (cond b y z) ≡ cond b x z
cond-cond true x y z = refl
cond-cond false x y z = refl

-- the later of two edits at one address holds
pub put-put : (old mid new : Book) (at : ℕ) (kept other : Option Kept) → IsPut old mid at kept → IsPut mid new at other
    → IsPut old new at other
put-put old mid new at kept other first second = record {
  each = λ q. second.each q ∙ ap (λ (o : Option Kept). cond (is_at (nat_cmp at) q) other o) (first.each q)
      ∙ cond-cond (is_at (nat_cmp at) q) other kept (old q);
}

cond-case : (P : Option Kept → Type 0) (b : Bool) (x y : Option Kept) → P x → P y → P (cond b x y)
cond-case P true x y here there = here
cond-case P false x y here there = there

-- what holds of what is put, and of what was there, holds everywhere
put-case : (P : Option Kept → Type 0) (old new : Book) (at : ℕ) (kept : Option Kept) → IsPut old new at kept → P kept
    → ((q : ℕ) → P (old q)) → (q : ℕ) → P (new q)
put-case P old new at kept put here there q = subst P (sym (put.each q))
    (cond-case P (is_at (nat_cmp at) q) kept (old q) here (there q))

-- ---- a table

pub nothing_kept : MayKeep None
nothing_kept = record {
  sound = record { ascend = λ i j d h k. absurd (omega (arith, k)); some = λ i d h. absurd (omega (arith, h)) };
  some = λ there is. absurd (none_some there is);
  fitting = λ reference. omega (arith, count-nil reference);
}
  where
    none_some : (there : Kept) → None ≡ Some there → ⊥
    none_some there is = cc

pub kept_at : (table : List (ℕ × Kept)) (at : ℕ) → IsTable table → MayKeep (book_of table at)
kept_at table at is = record { sound = is.book.sound at; some = is.book.some at; fitting = is.fitting at }

pub table-put : (table new : List (ℕ × Kept)) (at : ℕ) (kept : Option Kept) → IsTable table
    → IsStrictlySortedBy nat_cmp (keys_of new)
    → IsPut (book_of table) (book_of new) at kept → MayKeep kept → IsTable new
table-put table new at kept is ascend put may =
    let all : (q : ℕ) → MayKeep (book_of new q) = put-case MayKeep (book_of table) (book_of new) at kept put may
    (λ q. kept_at table q is) in
    record {
      ascend = ascend;
      book = record { sound = λ q. (all q).sound; some = λ q. (all q).some };
      fitting = λ q. (all q).fitting;
    }

-- ---- references after an edit

abbrev one-where : Bool → ℕ
one-where here = if here then 1 else 0

-- one reference more is some
pub more_some : (old new : List Counted) (reference : Reference) → HasOneMore old new reference → 0 < length new
more_some old (entry ∷ new) reference more = omega arith
more_some old [] reference more =
    let one : one-where (same_reference reference reference) ≡ 1 = cond-true _ _ _ (same_itself reference) in
    absurd (omega (arith, more reference, count-nil reference, one))

pub more_fitting : (old new : List Counted) (reference : Reference) → HasOneMore old new reference
    → count_of old reference < greatest_count reference
    → ((other : Reference) → count_of old other ≤ greatest_count other) → (other : Reference)
    → count_of new other ≤ greatest_count other
more_fitting old new reference more room fitting other = elim (cases_Bool (same_reference other reference)) [
  | inl same ↦
      let is : other ≡ reference = same_reference_is other reference same in
      let one : one-where (same_reference other reference) ≡ 1 = cond-true _ _ _ same in
      omega (arith, more other, one, room, ap (count_of old) is, ap greatest_count is)
  | inr differs ↦
      let none : one-where (same_reference other reference) ≡ 0 = cond-false _ _ _ differs in
      omega (arith, more other, none, fitting other)
]

pub less_fitting : (old new : List Counted) (reference : Reference) → HasOneMore new old reference
    → ((other : Reference) → count_of old other ≤ greatest_count other) → (other : Reference)
    → count_of new other ≤ greatest_count other
less_fitting old new reference less fitting other = omega (arith, less other, fitting other)

-- ---- edits of the book

pub adds-in : (old new : Book) (at : ℕ) (what : What) (reference : Reference) (kept next : Kept) → old at ≡ Some kept
    → IsPut old new at (Some next)
    → next ≡ record kept { references = next.references } → HasOneMore kept.references next.references reference
    → Adds old new at what reference
adds-in old new at what reference kept next was put same more =
    let is : new at ≡ Some (record kept { references = next.references }) = put-here old new at (Some next) put
    ∙ ap (λ (k : Kept). Some k) same in
    record {
      count = rw (was, is) more;
      known = rw (was, is) refl;
      full = rw (was, is) refl;
      elsewhere = put-other old new at (Some next) put;
    }

pub adds-new : (old new : Book) (at : ℕ) (what : What) (reference : Reference) (references : List Counted)
    → old at ≡ None → IsPut old new at (Some (record { what = what; full = false; references = references }))
    → HasOneMore [] references reference → Adds old new at what reference
adds-new old new at what reference references was put more =
    let is = put-here old new at (Some (record { what = what; full = false; references = references })) put in
    record {
      count = rw (was, is) more;
      known = rw (was, is) refl;
      full = rw (was, is) refl;
      elsewhere = put-other old new at _ put;
    }

pub drops-in : (old new : Book) (at : ℕ) (reference : Reference) (kept next : Kept) → old at ≡ Some kept
    → IsPut old new at (Some next)
    → next ≡ record kept { references = next.references } → HasOneMore next.references kept.references reference
    → 0 < length next.references → Drops old new at reference
drops-in old new at reference kept next was put same less some =
    let is : new at ≡ Some (record kept { references = next.references }) = put-here old new at (Some next) put
    ∙ ap (λ (k : Kept). Some k) same in
    record {
      count = rw (was, is) less;
      gone = λ none. absurd (omega (
        arith,
        some,
        ap (λ (r : List Counted). length r)
            (sym (ap references_in is) ∙ none),
      ));
      known = λ _. rw (was, is) refl;
      full = λ _. rw (was, is) refl;
      elsewhere = put-other old new at (Some next) put;
    }

pub drops-last : (old new : Book) (at : ℕ) (reference : Reference) (kept : Kept) (references : List Counted)
    → old at ≡ Some kept → IsPut old new at None → HasOneMore references kept.references reference
    → length references ≡ 0 → Drops old new at reference
drops-last old new at reference kept references was put less last =
    let is = put-here old new at None put in
    let none : references ≡ [] = nothing references last in
    record {
      count = rw (was, is) (subst (λ (r : List Counted). HasOneMore r kept.references reference) none less);
      gone = λ _. is;
      known = λ some. absurd (some (ap references_in is));
      full = λ some. absurd (some (ap references_in is));
      elsewhere = put-other old new at _ put;
    }
  where
    nothing : (xs : List Counted) → length xs ≡ 0 → xs ≡ []
    nothing [] h = refl
    nothing (x ∷ xs) h = absurd (omega (arith, h))

pub marks-put : (old new : Book) (at : ℕ) (kept : Kept) → old at ≡ Some kept
    → IsPut old new at (Some (record kept { full = true })) → Marks old new at
marks-put old new at kept was put =
    let is = put-here old new at (Some (record kept { full = true })) put in
    record { there = rw (was, is) refl; elsewhere = put-other old new at _ put }

-- ---- what may be kept after an edit

some_kept : (P : Kept → Type 0) (kept : Kept) → P kept → (there : Kept) → Some kept ≡ Some there → P there
some_kept P kept holds there is = subst (λ (o : Option Kept). P (unwrap_or o kept)) is holds

pub may_be : (kept : Kept) → IsRefList kept.references → 0 < length kept.references
    → ((x : Reference) → count_of kept.references x ≤ greatest_count x) → MayKeep (Some kept)
may_be kept sound some fitting = record {
  sound = sound;
  some = some_kept
      (λ (k : Kept). 0 < length k.references) kept some;
  fitting = fitting;
}

pub may_more : (kept next : Kept) (reference : Reference) → MayKeep (Some kept)
    → HasOneMore kept.references next.references reference → IsRefList next.references
    → count_of kept.references reference < greatest_count reference → MayKeep (Some next)
may_more kept next reference may more sound room =
    may_be next sound (more_some kept.references next.references reference more)
    (more_fitting kept.references next.references reference more room may.fitting)

pub may_first : (next : Kept) (reference : Reference) → HasOneMore [] next.references reference
    → IsRefList next.references → 0 < greatest_count reference → MayKeep (Some next)
may_first next reference more sound room =
    may_be next sound (more_some [] next.references reference more)
    (more_fitting [] next.references reference more (omega (arith, room, count-nil reference))
    (λ x. omega (arith, count-nil x)))

pub may_less : (kept next : Kept) (reference : Reference) → MayKeep (Some kept)
    → HasOneMore next.references kept.references reference → IsRefList next.references
    → 0 < length next.references → MayKeep (Some next)
may_less kept next reference may less sound some = may_be next sound some
    (less_fitting kept.references next.references reference less may.fitting)

pub may_full : (kept : Kept) → MayKeep (Some kept) → MayKeep (Some (record kept { full = true }))
may_full kept may = may_be (record kept { full = true }) may.sound (may.some kept refl) may.fitting

-- ---- a map of what is kept, where one was lent

-- it was found there
pub found_there : (m : BTreeMap ℕ Kept) (key at : ℕ) (kept : Option Kept) → key ≡ at → kept ≡ get_by (nat_cmp key) m
    → book_of m.entries at ≡ kept
found_there m key at kept is found = ap (λ (k : ℕ). get_by (nat_cmp k) m) (sym is) ∙ sym found

pub lent_put : (m n : BTreeMap ℕ Kept) (key at : ℕ) (kept next : Kept) → key ≡ at → Some kept ≡ get_by (nat_cmp key) m
    → WritesThrough nat_cmp (nat_cmp key) m next n
    → IsPut (book_of m.entries) (book_of n.entries) at (Some next)
lent_put m n key at kept next is found writes =
    subst (λ (k : ℕ). IsPut (book_of m.entries) (book_of n.entries) k (Some next)) is
    (record { each = (writes.3 (some found)).0 })
  where
    some : Some kept ≡ get_by (nat_cmp key) m → IsSome (get_by (nat_cmp key) m)
    some h = subst (λ (o : Option Kept). IsSome o) h refl

pub lent_same : (m n : BTreeMap ℕ Kept) (key : ℕ) (kept next : Kept) → Some kept ≡ get_by (nat_cmp key) m → next ≡ kept
    → WritesThrough nat_cmp (nat_cmp key) m next n → n.entries ≡ m.entries
lent_same m n key kept next found same writes =
    writes.0 ∙ ap (λ (k : Kept). set_value (is_at (nat_cmp key)) m.entries k) same
    ∙ set_value_same (is_at (nat_cmp key)) m.entries kept (sym found)

pub updated_put : (m n : BTreeMap ℕ Kept) (key at : ℕ) (kept : Option Kept) → key ≡ at
    → ((q : ℕ) → get nat_cmp n q ≡ cond (is_at (nat_cmp key) q) kept (get nat_cmp m q))
    → IsPut (book_of m.entries) (book_of n.entries) at kept
updated_put m n key at kept is each = subst (λ (k : ℕ). IsPut (book_of m.entries) (book_of n.entries) k kept) is
    (record { each = each })

pub nothing_there : (kept : Option Kept) (reference : Reference) → kept ≡ None
    → 0 < count_of (references_in kept) reference → ⊥
nothing_there kept reference none some = omega (
  arith,
  some,
  ap
      (λ (o : Option Kept). count_of (references_in o) reference) none,
  count-nil reference,
)

pub empty_table : IsTable []
unfolding IsStrictlySortedBy
empty_table = record {
  ascend = tt;
  book = record { sound = λ at. nothing_kept.sound; some = λ at. nothing_kept.some };
  fitting = λ at. nothing_kept.fitting;
}

pub on_err : {A E : Type 0} → (P : Type 0) (r : Result A E) → P → OnErr r P
on_err P (Ok x) holds = tt
on_err P (Err e) holds = holds
