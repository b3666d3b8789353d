-- References that are told, taken one by one.
use Rattle.std.proofs.Common.{◌≡◌, ◌≢◌, ℕ, ◌+◌, ◌≤◌, ◌<◌, Bool, true, false, List, [], ◌∷◌, ◌++◌, length, take, drop}
use Rattle.std.proofs.Common.{get_or, append-nil, Option, Some, None, refl, sym, ap, subst, ◌∙◌, arith, ◌⊎◌, inl, inr}
use Rattle.std.specs.Prelude.{◌&&◌, ◌||◌, not, ◌==◌, if◌then◌else◌, nat_lt}
use Rattle.std.specs.List.{cons_option, list_any, list_all}
use Rattle.std.proofs.lemmas.List.{drop_more, take_more, take-append-drop}
use Rattle.std.proofs.lemmas.List.Elements.{filter_map-append}
use Rattle.qg_tree_items.specs.Types.{ExtentPart}
use Rattle.std.proofs.lemmas.Bool.{cases_Bool, cond-true, cond-false, true≢false, eq-eqb}
use Rattle.std.proofs.lemmas.Bool.Decides.{nat_tests}
use Rattle.std.proofs.lemmas.List.Folds.{list_all-append, list_any-append}
use Rattle.std.proofs.lemmas.List.Sums.{sum_by-append, sum_by-cons}
use Rattle.qg_items.specs.declared.extent.Reference.{Reference}
use Rattle.qg_tree_items.specs.Owed.{is_told_once, reference_told}
use Rattle.qg_tree_items.specs.Record.{same_reference}
use Rattle.qg_refs.specs.declared.counted.Counted.{Counted}
use Rattle.qg_refs.specs.Counts.{count_of, greatest_count}
use Rattle.qg_refs.proofs.Counting.{count-nil}
use Rattle.qg_refs.proofs.RankOrder.{same_itself, same_reference_is}
use Rattle.qg_extents.specs.declared.gather.Gathered.{Gathered}
use Rattle.qg_extents.specs.BookRecords.{are_counted, is_count, told_count, told_in, told_sum}
use Rattle.qg_extents.specs.Reading.{IsPartRefused, IsPartTaken, IsRefused, IsTaken}

-- ---- booleans

and_true : (a b : Bool) → a ≡ true → b ≡ true → (a && b) ≡ true
and_true a b first second = rw (first, second) refl

and_false : (a b : Bool) → b ≡ false → (a && b) ≡ false
and_false true b second = second
and_false false b second = refl

false_and : (a b : Bool) → a ≡ false → (a && b) ≡ false
false_and a b first = rw first refl

or_true : (a b : Bool) → b ≡ true → (a || b) ≡ true
or_true true b second = refl
or_true false b second = second

pub both_of : (a b : Bool) → (a && b) ≡ true → (a ≡ true) × (b ≡ true)
both_of true b both = (refl, both)
both_of false b both = absurd (true≢false (sym both))

either_of : (a b : Bool) → (a || b) ≡ true → (a ≡ true) ⊎ (b ≡ true)
either_of true b either = inl refl
either_of false b either = inr either

-- ---- what is told

abbrev pub Told : Type 0
Told = List (Reference × ℕ)

-- a reference is among them
abbrev pub is_among : Reference → Told → Bool
is_among x told = list_any (λ other. same_reference other.0 x) told

-- what an entry adds to the count of a reference
abbrev counts_of : Reference → Reference × ℕ → ℕ
counts_of x entry = if same_reference x entry.0 then entry.1 else 0

count-more : (told : Told) (entry : Reference × ℕ) (x : Reference)
    → told_count (told ++ entry ∷ []) x ≡ told_count told x + counts_of x entry
count-more told entry x = omega (
  arith,
  sum_by-append (counts_of x) told (entry ∷ []),
  sum_by-cons
      (counts_of x) entry [],
)

same_sides : (a b : Reference) → same_reference a b ≡ true → same_reference b a ≡ true
same_sides a b same = subst (λ (c : Reference). same_reference c a ≡ true) (same_reference_is a b same) (same_itself a)

-- one that counts is among them
among_counts : (told : Told) (x : Reference) → 0 < told_count told x → is_among x told ≡ true
among_counts [] x some = absurd (omega (arith, some))
among_counts (entry ∷ told) x some = elim (cases_Bool (same_reference x entry.0)) [
  | inl same ↦ rw (same_sides x entry.0 same) refl
  | inr differs ↦
      let none : counts_of x entry ≡ 0 = cond-false _ _ _ differs in
      or_true (same_reference entry.0 x) (is_among x told)
      (among_counts told x (omega (arith, some, sum_by-cons (counts_of x) entry told, none)))
]

is_count-some : (entry : Reference × ℕ) → is_count entry ≡ true → 0 < entry.1
is_count-some entry is = grind (arith, nat_tests)

is_count-most : (entry : Reference × ℕ) → is_count entry ≡ true → entry.1 ≤ greatest_count entry.0
is_count-most entry is = grind (arith, nat_tests)

-- one that does not count is not
not_among : (told : Told) (x : Reference) → list_all is_count told ≡ true → told_count told x ≡ 0
    → is_among x told ≡ false
not_among [] x all none = refl
not_among (entry ∷ told) x all none =
    let parts = both_of (is_count entry) (list_all is_count told) all in
    elim (cases_Bool (same_reference entry.0 x)) [
      | inl same ↦
          let own : counts_of x entry ≡ entry.1 = cond-true _ _ _ (same_sides entry.0 x same) in
          absurd (omega (arith, is_count-some entry parts.0, own, none, sum_by-cons (counts_of x) entry told))
      | inr differs ↦ rw (differs, not_among told x parts.1 (omega (arith, none, sum_by-cons (counts_of x) entry told)))
          refl
    ]

-- ---- one more

once-more : (told : Told) (entry : Reference × ℕ) → is_told_once told ≡ true → is_among entry.0 told ≡ false
    → is_told_once (told ++ entry ∷ []) ≡ true
once-more [] entry once apart = refl
once-more (first ∷ told) entry once apart = elim (cases_Bool (same_reference first.0 entry.0)) [
  | inl same ↦ absurd (true≢false (sym (ap (λ (b : Bool). b || is_among entry.0 told) same) ∙ apart))
  | inr differs ↦
      let parts = both_of (not (list_any (λ (other : Reference × ℕ). same_reference first.0 other.0) told))
      (is_told_once told) once in
      let rest : is_among entry.0 told ≡ false = sym (ap (λ (b : Bool). b || is_among entry.0 told) differs) ∙ apart in
      and_true _ _
      (ap not (list_any-append (λ (other : Reference × ℕ). same_reference first.0 other.0) told (entry ∷ []))
      ∙ rw (differs) (not_or _ parts.0))
      (once-more told entry parts.1 rest)
]
  where
    not_or : (a : Bool) → not a ≡ true → not (a || (false || false)) ≡ true
    not_or true is = is
    not_or false is = refl

-- one that is among them already is told twice, whatever comes behind
told_twice : (told rest : Told) (entry : Reference × ℕ) → is_among entry.0 told ≡ true
    → is_told_once (told ++ entry ∷ rest) ≡ false
told_twice [] rest entry among = absurd (true≢false (sym among))
told_twice (first ∷ told) rest entry among = elim (either_of (same_reference first.0 entry.0)
    (is_among entry.0 told) among) [
      | inl same ↦
          let twice : list_any (λ (other : Reference × ℕ). same_reference first.0 other.0) (told ++ entry ∷ rest)
          ≡ true =
          list_any-append (λ (other : Reference × ℕ). same_reference first.0 other.0) told (entry ∷ rest)
          ∙ or_true _ _ (ap (λ (b : Bool). b || list_any (λ (other : Reference × ℕ). same_reference first.0 other.0)
          rest)
          same) in
          false_and _ _ (ap not twice)
      | inr later ↦ and_false _ _ (told_twice told rest entry later)
    ]

-- ---- what was taken so far, of so many references in all

pub record IsSoFar (refs left : ℕ) (told : Told) (references : List Counted) : Type 0 where
  pub once : is_told_once told ≡ true
  pub counts : list_all is_count told ≡ true
  pub sum : left + told_sum told ≡ refs
  pub count : (x : Reference) → count_of references x ≡ told_count told x
  pub fitting : (x : Reference) → count_of references x ≤ greatest_count x

pub so_far-none : (refs : ℕ) → IsSoFar refs refs [] []
so_far-none refs = record {
  once = refl;
  counts = refl;
  sum = omega arith;
  count = λ x. count-nil x;
  fitting = λ x. omega (arith, count-nil x);
}

pub so_far-more : (refs : ℕ) (told : Told) (old new : Gathered) (x : Reference) (n : ℕ)
    → IsSoFar refs old.left told old.references → IsTaken old new x n
    → IsSoFar refs new.left (told ++ (x, n) ∷ []) new.references
so_far-more refs told old new x n so taken =
    let absent : told_count told x ≡ 0 = sym (so.count x) ∙ taken.absent in
    record {
      once = once-more told (x, n) so.once (not_among told x so.counts absent);
      counts = list_all-append is_count told ((x, n) ∷ []) ∙ and_true _ _ so.counts (and_true _ _ taken.counted refl);
      sum = omega (
        arith,
        so.sum,
        taken.left,
        sum_by-append (λ (entry : Reference × ℕ). entry.1) told
            ((x, n) ∷ []),
        sum_by-cons (λ (entry : Reference × ℕ). entry.1) (x, n) [],
      );
      count = λ y. taken.put y ∙ ap (λ (m : ℕ). m + (if same_reference y x then n else 0)) (so.count y)
          ∙ sym (count-more told (x, n) y);
      fitting = λ y. elim (cases_Bool (same_reference y x)) [
        | inl same ↦
            let is : y ≡ x = same_reference_is y x same in
            let all : (if same_reference y x then n else 0) ≡ n = cond-true _ _ _ same in
            omega (
              arith,
              taken.put y,
              all,
              taken.absent,
              ap
                  (count_of old.references) is,
              ap greatest_count is,
              is_count-most (x, n) taken.counted,
            )
        | inr differs ↦
            let none : (if same_reference y x then n else 0) ≡ 0 = cond-false _ _ _ differs in
            omega (arith, taken.put y, none, so.fitting y)
      ];
    }

-- whether they are counted, with this sum
abbrev pub add_up : ℕ → Told → Bool
add_up refs told = are_counted told && (refs == told_sum told)

uncounted : (refs : ℕ) (told : Told) → (is_told_once told && list_all is_count told) ≡ false → add_up refs told ≡ false
uncounted refs told bad = false_and _ _ (and_false (nat_lt 0 (length told)) _ bad)

differ-eqb : (a b : ℕ) → a ≢ b → (a == b) ≡ false
differ-eqb a b apart = grind (arith, nat_tests)

-- one that is refused spoils them, whatever comes behind
pub so_far-refused : (refs : ℕ) (told rest : Told) (old : Gathered) (x : Reference) (n : ℕ)
    → IsSoFar refs old.left told old.references → IsRefused old x n
    → add_up refs (told ++ (x, n) ∷ rest) ≡ false
so_far-refused refs told rest old x n so (inl uncountable) =
    uncounted refs (told ++ (x, n) ∷ rest)
    (and_false _ _ (list_all-append is_count told ((x, n) ∷ rest) ∙ and_false _ _ (false_and _ _ uncountable)))
so_far-refused refs told rest old x n so (inr (inl there)) =
    let among : is_among x told ≡ true = among_counts told x (omega (arith, so.count x, there)) in
    uncounted refs (told ++ (x, n) ∷ rest) (false_and _ _ (told_twice told rest (x, n) among))
so_far-refused refs told rest old x n so (inr (inr more)) =
    let sum : told_sum (told ++ (x, n) ∷ rest) ≡ told_sum told + told_sum ((x, n) ∷ rest) = sum_by-append
    (λ (entry : Reference × ℕ). entry.1) told ((x, n) ∷ rest) in
    let head : told_sum ((x, n) ∷ rest) ≡ n + told_sum rest = sum_by-cons (λ (entry : Reference × ℕ). entry.1)
    (x, n) rest in
    and_false _ _ (differ-eqb refs (told_sum (told ++ (x, n) ∷ rest))
    (λ same. omega (arith, same, sum, head, so.sum, more)))

-- the sum of none is 0, and of some is not
counted_some : (told : Told) → are_counted told ≡ true → 0 < told_sum told
counted_some [] counted = absurd (true≢false (sym counted))
counted_some (entry ∷ told) counted =
    let all = both_of _ _ (both_of _ _ counted).1 in
    let first = is_count-some entry (both_of (is_count entry) (list_all is_count told) all.1).0 in
    omega (arith, first, sum_by-cons (λ (entry : Reference × ℕ). entry.1) entry told)

pub so_far-short : (refs left : ℕ) (told : Told) (references : List Counted) → IsSoFar refs left told references
    → (refs ≡ 0) ⊎ (left ≢ 0) → add_up refs told ≡ false
so_far-short refs left told references so (inl none) = elim (cases_Bool (are_counted told)) [
  | inl counted ↦
      let some = counted_some told counted in
      and_false _ _ (differ-eqb refs (told_sum told) (λ same. omega (arith, same, some, none)))
  | inr not ↦ false_and _ _ not
]
so_far-short refs left told references so (inr over) =
    and_false _ _ (differ-eqb refs (told_sum told) (λ same. over (omega (arith, same, so.sum))))

told_some : (told : Told) → told_sum told ≢ 0 → nat_lt 0 (length told) ≡ true
told_some [] some = absurd (some refl)
told_some (entry ∷ told) some = grind (arith, nat_tests)

pub so_far-sound : (refs : ℕ) (told : Told) (references : List Counted) → IsSoFar refs 0 told references → refs ≢ 0
    → add_up refs told ≡ true
so_far-sound refs told references so some =
    and_true _ _ (and_true _ _ (told_some told (λ none. some (omega (arith, none, so.sum))))
    (and_true _ _ so.once so.counts)) (eq-eqb refs (told_sum told) (omega (arith, so.sum)))

-- references with so many counts are some
pub so_far-some : (refs : ℕ) (told : Told) (references : List Counted) → IsSoFar refs 0 told references → refs ≢ 0
    → 0 < length references
so_far-some refs told (entry ∷ references) so some = omega arith
so_far-some refs told [] so some = absurd (some (omega (
  arith,
  so.sum,
  none told so.counts
      (λ x. sym (so.count x) ∙ count-nil x),
)))
  where
    none : (all : Told) → list_all is_count all ≡ true → ((x : Reference) → told_count all x ≡ 0) → told_sum all ≡ 0
    none [] counts each = refl
    none (first ∷ later) counts each =
        let own : counts_of first.0 first ≡ first.1 = cond-true _ _ _ (same_itself first.0) in
        let count = is_count-some first (both_of (is_count first) (list_all is_count later) counts).0 in
        absurd (omega (arith, each first.0, own, count, sum_by-cons (counts_of first.0) first later))

-- ---- part by part

pub part-taken : (refs : ℕ) (told : Told) (old new : Gathered) (part : Option (Reference × ℕ))
    → IsSoFar refs old.left told old.references → IsPartTaken old new part
    → IsSoFar refs new.left (told ++ cons_option part []) new.references
part-taken refs told old new None so taken = rw append-nil
    (subst (λ (g : Gathered). IsSoFar refs g.left told g.references) (sym taken) so)
part-taken refs told old new (Some entry) so taken = so_far-more refs told old new entry.0 entry.1 so taken

pub part-refused : (refs : ℕ) (told rest : Told) (old : Gathered) (part : Option (Reference × ℕ))
    → IsSoFar refs old.left told old.references → IsPartRefused old part
    → add_up refs (told ++ cons_option part rest) ≡ false
part-refused refs told rest old None so refused = absurd refused
part-refused refs told rest old (Some entry) so refused = so_far-refused refs told rest old entry.0 entry.1 so refused

pub told-next : (here : List ExtentPart) (i : ℕ) (part : ExtentPart) → i < length here → part ≡ get_or here i part
    → told_in (take (i + 1) here) ≡ told_in (take i here) ++ cons_option (reference_told part) []
told-next here i part inside is =
    ap told_in (take_more here i part inside ∙ ap (λ (next : ExtentPart). take i here ++ next ∷ []) (sym is))
    ∙ filter_map-append reference_told (take i here) (part ∷ [])

pub told-cut : (here : List ExtentPart) (i : ℕ) (part : ExtentPart) → i < length here → part ≡ get_or here i part
    → told_in here ≡ told_in (take i here) ++ cons_option (reference_told part) (told_in (drop (i + 1) here))
told-cut here i part inside is =
    ap told_in (sym (take-append-drop i here)) ∙ filter_map-append reference_told (take i here) (drop i here)
    ∙ ap (λ (back : List ExtentPart). told_in (take i here) ++ told_in back)
    (drop_more here i part inside ∙ ap (λ (next : ExtentPart). next ∷ drop (i + 1) here) (sym is))
