-- References that are told, once one of them is told with another count, comes in or goes.
use Rattle.std.proofs.Common.{◌≡◌, ℕ, zero, suc, ◌+◌, ◌≤◌, ◌<◌, true, false, [], ◌∷◌, ◌++◌, length}
use Rattle.std.proofs.Common.{refl, sym, ap, ◌∙◌, arith, ◌⊎◌, inl, inr}
use Rattle.std.specs.Prelude.{◌&&◌, not, if◌then◌else◌, nat_le, nat_lt}
use Rattle.std.specs.List.{list_any, list_all, sum_by}
use Rattle.std.proofs.lemmas.Bool.{and_from, and_parts, cases_Bool, cond-true, cond-false, not_from_false, not-true}
use Rattle.std.proofs.lemmas.Bool.{or_cases, or_parts, true≢false}
use Rattle.std.proofs.lemmas.Bool.Decides.{nat_tests}
use Rattle.std.proofs.lemmas.List.Sums.{sum_by-append, sum_by-cons}
use Rattle.qg_items.specs.declared.extent.Reference.{Reference}
use Rattle.qg_tree_items.specs.Owed.{is_told_once}
use Rattle.qg_tree_items.specs.Record.{same_reference}
use Rattle.qg_refs.specs.Counts.{greatest_count}
use Rattle.qg_refs.proofs.RankOrder.{same_itself, same_reference_is}
use Rattle.qg_extents.specs.BookRecords.{is_count, told_count, told_sum}
use Rattle.qg_extents.proofs.Telling.{Told}
use Rattle.qg_extent_items.proofs.Splices.{Splice, all-splice}

-- ---- how many entries a reference has

abbrev pub once_of : Reference → Reference × ℕ → ℕ
once_of x entry = if same_reference x entry.0 then 1 else 0

abbrev pub counts_of : Reference → Reference × ℕ → ℕ
counts_of x entry = if same_reference x entry.0 then entry.1 else 0

abbrev pub times : Told → Reference → ℕ
times told x = sum_by (once_of x) told

pub times-cons : (entry : Reference × ℕ) (told : Told) (x : Reference)
    → times (entry ∷ told) x ≡ once_of x entry + times told x
times-cons entry told x = sum_by-cons (once_of x) entry told

pub count-cons : (entry : Reference × ℕ) (told : Told) (x : Reference)
    → told_count (entry ∷ told) x ≡ counts_of x entry + told_count told x
count-cons entry told x = sum_by-cons (counts_of x) entry told

pub sum-cons : (entry : Reference × ℕ) (told : Told) → told_sum (entry ∷ told) ≡ entry.1 + told_sum told
sum-cons entry told = sum_by-cons (λ (e : Reference × ℕ). e.1) entry told

none_times : (told : Told) (x : Reference) → list_any (λ other. same_reference x other.0) told ≡ false
    → times told x ≡ 0
none_times [] x none = refl
none_times (entry ∷ told) x none =
    let parts = or_parts (same_reference x entry.0) (list_any (λ other. same_reference x other.0) told) none in
    let own : once_of x entry ≡ 0 = cond-false _ _ _ parts.0 in
    omega (arith, times-cons entry told x, own, none_times told x parts.1)

some_times : (told : Told) (x : Reference) → list_any (λ other. same_reference x other.0) told ≡ true
    → 0 < times told x
some_times [] x some = absurd (true≢false (sym some))
some_times (entry ∷ told) x some =
    elim (or_cases (same_reference x entry.0) (list_any (λ other. same_reference x other.0) told) some) [
      | inl own ↦
          let one : once_of x entry ≡ 1 = cond-true _ _ _ own in
          omega (arith, times-cons entry told x, one)
      | inr later ↦ omega (arith, times-cons entry told x, some_times told x later)
    ]

-- told once is to have one entry at most
pub few-once : (told : Told) (x : Reference) → is_told_once told ≡ true → times told x ≤ 1
few-once [] x once = omega arith
few-once (entry ∷ told) x once =
    let parts = and_parts (not (list_any (λ other. same_reference entry.0 other.0) told)) (is_told_once told) once in
    let none = none_times told entry.0
    (not-true (list_any (λ other. same_reference entry.0 other.0) told) parts.0) in
    elim (cases_Bool (same_reference x entry.0)) [
      | inl same ↦
          let one : once_of x entry ≡ 1 = cond-true _ _ _ same in
          let is : x ≡ entry.0 = same_reference_is x entry.0 same in
          omega (arith, times-cons entry told x, one, none, ap (λ (y : Reference). times told y) is)
      | inr differs ↦
          let zero' : once_of x entry ≡ 0 = cond-false _ _ _ differs in
          omega (arith, times-cons entry told x, zero', few-once told x parts.1)
    ]

pub once-few : (told : Told) → ((x : Reference) → times told x ≤ 1) → is_told_once told ≡ true
once-few [] few = refl
once-few (entry ∷ told) few =
    let later = once-few told (λ x. omega (arith, times-cons entry told x, few x)) in
    elim (cases_Bool (list_any (λ other. same_reference entry.0 other.0) told)) [
      | inl again ↦
          let one : once_of entry.0 entry ≡ 1 = cond-true _ _ _ (same_itself entry.0) in
          absurd (omega (
            arith,
            times-cons entry told entry.0,
            one,
            few entry.0,
            some_times told entry.0 again,
          ))
      | inr apart ↦ and_from (not (list_any (λ other. same_reference entry.0 other.0) told)) (is_told_once told)
          (not_from_false (list_any (λ other. same_reference entry.0 other.0) told) apart) later
    ]

pub count-some : (entry : Reference × ℕ) → is_count entry ≡ true → 0 < entry.1
count-some entry is = grind (arith, nat_tests)

pub count-most : (entry : Reference × ℕ) → is_count entry ≡ true → entry.1 ≤ greatest_count entry.0
count-most entry is = grind (arith, nat_tests)

-- an entry counts one at least
times_counted : (told : Told) (x : Reference) → list_all is_count told ≡ true → times told x ≤ told_count told x
times_counted [] x counts = omega arith
times_counted (entry ∷ told) x counts =
    let parts = and_parts (is_count entry) (list_all is_count told) counts in
    let rest = times_counted told x parts.1 in
    elim (cases_Bool (same_reference x entry.0)) [
      | inl same ↦
          let one : once_of x entry ≡ 1 = cond-true _ _ _ same in
          let own : counts_of x entry ≡ entry.1 = cond-true _ _ _ same in
          omega (
            arith,
            times-cons entry told x,
            count-cons entry told x,
            one,
            own,
            count-some entry parts.0,
            rest,
          )
      | inr differs ↦
          let none : once_of x entry ≡ 0 = cond-false _ _ _ differs in
          omega (arith, times-cons entry told x, none, count-cons entry told x, rest)
    ]

-- and without an entry there is no count
pub none_counted : (told : Told) (x : Reference) → times told x ≡ 0 → told_count told x ≡ 0
none_counted [] x none = refl
none_counted (entry ∷ told) x none =
    elim (cases_Bool (same_reference x entry.0)) [
      | inl same ↦
          let one : once_of x entry ≡ 1 = cond-true _ _ _ same in
          absurd (omega (arith, times-cons entry told x, one, none))
      | inr differs ↦
          let own : counts_of x entry ≡ 0 = cond-false _ _ _ differs in
          omega (
            arith,
            count-cons entry told x,
            own,
            none_counted told x (omega (arith, times-cons entry told x, none)),
          )
    ]

-- ---- one reference with a count

-- so many of a reference; none where there are 0
abbrev pub some_told : Reference → ℕ → Told
some_told x zero = []
some_told x (suc n) = (x, suc n) ∷ []

-- so many of a reference, and none of another
abbrev pub so_many : ℕ → Reference → Reference → ℕ
so_many n x y = if same_reference y x then n else 0

some_sum : (x : Reference) (n : ℕ) → told_sum (some_told x n) ≡ n
some_sum x zero = refl
some_sum x (suc n) = omega (arith, sum-cons (x, suc n) [])

some_count : (x : Reference) (n : ℕ) (y : Reference) → told_count (some_told x n) y ≡ so_many n x y
some_count x zero y = elim (cases_Bool (same_reference y x)) [
  | inl same ↦ sym (cond-true _ _ _ same)
  | inr differs ↦ sym (cond-false _ _ _ differs)
]
some_count x (suc n) y = omega (arith, count-cons (x, suc n) [] y)

some_few : (x : Reference) (n : ℕ) (y : Reference) → times (some_told x n) y ≤ 1
some_few x zero y = omega arith
some_few x (suc n) y = few-once (some_told x (suc n)) y refl

some_other : (x : Reference) (n : ℕ) (y : Reference) → same_reference y x ≡ false → times (some_told x n) y ≡ 0
some_other x zero y differs = refl
some_other x (suc n) y differs =
    let none : once_of y (x, suc n) ≡ 0 = cond-false _ _ _ differs in
    omega (arith, times-cons (x, suc n) [] y, none)

some_own : (x : Reference) (n : ℕ) → times (some_told x (suc n)) x ≡ 1
some_own x n =
    let one : once_of x (x, suc n) ≡ 1 = cond-true _ _ _ (same_itself x) in
    omega (arith, times-cons (x, suc n) [] x, one)

-- ---- another count

-- each is told once, with a count that it may have
pub record IsClean (told : Told) : Type 0 where
  pub once : is_told_once told ≡ true
  pub counts : list_all is_count told ≡ true

pub clean-none : IsClean []
clean-none = record { once = refl; counts = refl }

-- a reference is told so often where it was told that often
pub record IsChanged (x : Reference) (n m : ℕ) (old new : Told) : Type 0 where
  pub clean : IsClean new
  pub sum : told_sum new + n ≡ told_sum old + m
  pub count : (y : Reference) → told_count new y + so_many n x y ≡ told_count old y + so_many m x y

sums : (f : Reference × ℕ → ℕ) (front some back : Told)
    → sum_by f (front ++ (some ++ back)) ≡ sum_by f front + (sum_by f some + sum_by f back)
sums f front some back =
    omega (arith, sum_by-append f front (some ++ back), sum_by-append f some back)

module _ (x : Reference) (n m : ℕ) (old new : Told) (splice : Splice old new (some_told x n) (some_told x m)) where
  abbrev front : Told
  front = splice.front

  abbrev back : Told
  back = splice.back

  sum_old : (f : Reference × ℕ → ℕ) → sum_by f old ≡ sum_by f front + (sum_by f (some_told x n) + sum_by f back)
  sum_old f = ap (λ (told : Told). sum_by f told) splice.was ∙ sums f front (some_told x n) back

  sum_new : (f : Reference × ℕ → ℕ) → sum_by f new ≡ sum_by f front + (sum_by f (some_told x m) + sum_by f back)
  sum_new f = ap (λ (told : Told). sum_by f told) splice.now ∙ sums f front (some_told x m) back

-- where it was told so often, the rest doesn't tell it
rest_none : (x : Reference) (n m : ℕ) (old new : Told) (splice : Splice old new (some_told x n) (some_told x m))
    → IsClean old → n ≡ told_count old x → times splice.front x + times splice.back x ≡ 0
rest_none x zero m old new splice clean is =
    omega (
      arith,
      sum_old x zero m old new splice (once_of x),
      times_counted old x clean.counts,
      is,
    )
rest_none x (suc n) m old new splice clean is =
    omega (
      arith,
      sum_old x (suc n) m old new splice (once_of x),
      few-once old x clean.once,
      some_own x n,
    )

-- one that is told is told so often
pub count-there : (x : Reference) (n m : ℕ) (old new : Told)
    → Splice old new (some_told x (suc n)) (some_told x m) → IsClean old → told_count old x ≡ suc n
count-there x n m old new splice clean =
    let rest : times splice.front x + times splice.back x ≡ 0 =
    omega (
      arith,
      sum_old x (suc n) m old new splice (once_of x),
      few-once old x clean.once,
      some_own x n,
    ) in
    let own : so_many (suc n) x x ≡ suc n = cond-true _ _ _ (same_itself x) in
    omega (
      arith,
      sum_old x (suc n) m old new splice (counts_of x),
      some_count x (suc n) x,
      own,
      none_counted splice.front x (omega (arith, rest)),
      none_counted splice.back x (omega (arith, rest)),
    )

counts_some : (x : Reference) (m : ℕ) → m ≤ greatest_count x → list_all is_count (some_told x m) ≡ true
counts_some x zero most = refl
counts_some x (suc m) most = and_from (is_count (x, suc m)) true (is (suc m) (greatest_count x) (omega arith) most) refl
  where
    is : (k most : ℕ) → 0 < k → k ≤ most → (nat_lt 0 k && nat_le k most) ≡ true
    is k most some fitting = grind (arith, nat_tests)

pub changed : (x : Reference) (n m : ℕ) (old new : Told) → Splice old new (some_told x n) (some_told x m)
    → IsClean old → n ≡ told_count old x → m ≤ greatest_count x → IsChanged x n m old new
changed x n m old new splice clean is most = record {
  clean = record {
    once = once-few new (λ y. few y (cases_Bool (same_reference y x)));
    counts = all-splice is_count old new (some_told x n) (some_told x m) splice clean.counts (counts_some x m most);
  };
  sum = omega (
    arith,
    sum_old x n m old new splice (λ (e : Reference × ℕ). e.1),
    sum_new x n m old new splice (λ (e : Reference × ℕ). e.1),
    some_sum x n,
    some_sum x m,
  );
  count = λ y. omega (
    arith,
    sum_old x n m old new splice (counts_of y),
    sum_new x n m old new splice (counts_of y),
    some_count x n y,
    some_count x m y,
  );
}
  where
    few : (y : Reference) → (same_reference y x ≡ true) ⊎ (same_reference y x ≡ false) → times new y ≤ 1
    few y (inl same) =
        let at : y ≡ x = same_reference_is y x same in
        omega (
          arith,
          sum_new x n m old new splice (once_of x),
          rest_none x n m old new splice clean is,
          some_few x m x,
          ap (λ (z : Reference). times new z) at,
        )
    few y (inr differs) =
        omega (
          arith,
          sum_new x n m old new splice (once_of y),
          sum_old x n m old new splice (once_of y),
          some_other x n y differs,
          some_other x m y differs,
          few-once old y clean.once,
        )

-- ---- sums

-- where the sum isn't 0 some are told, and where it is none
pub told-some : (told : Told) → 0 < told_sum told → nat_lt 0 (length told) ≡ true
told-some [] some = absurd (omega (arith, some))
told-some (entry ∷ told) some = grind (arith, nat_tests)

pub told-none : (told : Told) → list_all is_count told ≡ true → told_sum told ≡ 0 → told ≡ []
told-none [] counts none = refl
told-none (entry ∷ told) counts none =
    absurd (omega (
      arith,
      none,
      sum-cons entry told,
      count-some entry (and_parts (is_count entry) (list_all is_count told) counts).0,
    ))

pub sum-some : (told : Told) → list_all is_count told ≡ true → nat_lt 0 (length told) ≡ true → 0 < told_sum told
sum-some [] counts some = absurd (true≢false (sym some))
sum-some (entry ∷ told) counts some =
    omega (
      arith,
      sum-cons entry told,
      count-some entry (and_parts (is_count entry) (list_all is_count told) counts).0,
    )

-- the count of one is no more than the sum
pub count-within : (told : Told) (x : Reference) → told_count told x ≤ told_sum told
count-within [] x = omega arith
count-within (entry ∷ told) x =
    elim (cases_Bool (same_reference x entry.0)) [
      | inl same ↦
          let own : counts_of x entry ≡ entry.1 = cond-true _ _ _ same in
          omega (arith, count-cons entry told x, own, sum-cons entry told, count-within told x)
      | inr differs ↦
          let none : counts_of x entry ≡ 0 = cond-false _ _ _ differs in
          omega (arith, count-cons entry told x, none, sum-cons entry told, count-within told x)
    ]

-- none is told more often than it may be
pub count-fitting : (told : Told) → IsClean told → (x : Reference) → told_count told x ≤ greatest_count x
count-fitting [] clean x = omega arith
count-fitting (entry ∷ told) clean x =
    let once = and_parts (not (list_any (λ other. same_reference entry.0 other.0) told)) (is_told_once told)
    clean.once in
    let counts = and_parts (is_count entry) (list_all is_count told) clean.counts in
    let rest = count-fitting told (record { once = once.1; counts = counts.1 }) x in
    elim (cases_Bool (same_reference x entry.0)) [
      | inl same ↦
          let own : counts_of x entry ≡ entry.1 = cond-true _ _ _ same in
          let one : once_of x entry ≡ 1 = cond-true _ _ _ same in
          let at : x ≡ entry.0 = same_reference_is x entry.0 same in
          let none = none_counted told x
          (omega (arith, few-once (entry ∷ told) x clean.once, times-cons entry told x, one)) in
          omega (
            arith,
            count-cons entry told x,
            own,
            none,
            count-most entry counts.0,
            ap greatest_count at,
          )
      | inr differs ↦
          let none : counts_of x entry ≡ 0 = cond-false _ _ _ differs in
          omega (arith, count-cons entry told x, none, rest)
    ]
