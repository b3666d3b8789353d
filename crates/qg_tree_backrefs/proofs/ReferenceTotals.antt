-- How many references there are in all, by how often each one is there.
use Rattle.std.proofs.Common.{◌≡◌, ℕ, zero, suc, ◌+◌, ◌*◌, ◌<◌, ◌≤◌, Bool, true, false, List, [], ◌∷◌, ◌++◌, length}
use Rattle.std.proofs.Common.{arith, refl, sym, ap, subst, ◌∙◌, inl, inr}
use Rattle.std.specs.Prelude.{if◌then◌else◌}
use Rattle.std.specs.List.{count_by, sum_by}
use Rattle.std.proofs.lemmas.Bool.{cases_Bool, cond-true, cond-false}
use Rattle.std.proofs.lemmas.List.{length-append}
use Rattle.std.proofs.lemmas.List.Sums.{sum_by-append, sum_by-cons}
use Rattle.qg_items.specs.declared.extent.Reference.{Reference}
use Rattle.qg_image.specs.Record.{same_reference}
use Rattle.qg_image.specs.Owed.{Owing}
use Rattle.qg_refs.specs.declared.counted.Counted.{Counted}
use Rattle.qg_refs.specs.Counts.{count_of, counted}
use Rattle.qg_refs.proofs.Counting.{count-cons, count-nil}
use Rattle.qg_refs.proofs.RankOrder.{same_itself, same_reference_is}
use Rattle.qg_tree_backrefs.specs.Exchange.{those_at, times}
use Rattle.qg_tree_backrefs.proofs.Times.{one_of}

-- how often a list has a reference
abbrev pub among : Reference → List Reference → ℕ
among reference references = count_by (same_reference reference) references

among-cons : (reference first : Reference) (rest : List Reference)
    → among reference (first ∷ rest) ≡ one_of reference first + among reference rest
among-cons reference first rest = sum_by-cons (λ (other : Reference). one_of reference other) first rest

among-append : (reference : Reference) (xs ys : List Reference)
    → among reference (xs ++ ys) ≡ among reference xs + among reference ys
among-append reference xs ys = sum_by-append (λ (other : Reference). one_of reference other) xs ys

one_itself : (reference : Reference) → one_of reference reference ≡ 1
one_itself reference = cond-true _ _ _ (same_itself reference)

-- a list that has a reference, without it
record IsWithout (x : Reference) (ys : List Reference) : Type 0 where
  rest : List Reference
  shorter : length ys ≡ suc (length rest)
  counts : (reference : Reference) → among reference ys ≡ one_of reference x + among reference rest

without : (x : Reference) (ys : List Reference) → 0 < among x ys → IsWithout x ys
without x [] some = absurd (omega (arith, some))
without x (y ∷ ys) some = elim (cases_Bool (same_reference x y)) [
  | inl same ↦
      let is : x ≡ y = same_reference_is x y same in
      record {
        rest = ys;
        shorter = refl;
        counts = λ reference. among-cons reference y ys
            ∙ ap (λ (z : Reference). one_of reference z + among reference ys) (sym is);
      }
  | inr differs ↦
      let none : one_of x y ≡ 0 = cond-false _ _ _ differs in
      let first = among-cons x y ys in
      let others = without x ys (omega (arith, none, first, some)) in
      record {
        rest = y ∷ others.rest;
        shorter = ap (λ (n : ℕ). suc n) others.shorter;
        counts = λ reference.
            let now = among-cons reference y ys in
            let before = others.counts reference in
            let left = among-cons reference y others.rest in
            omega (arith, now, before, left);
      }
]

-- lists that have each reference as often are as long
pub same-length : (xs ys : List Reference) → ((reference : Reference) → among reference xs ≡ among reference ys)
    → length xs ≡ length ys
same-length [] [] same = refl
same-length [] (y ∷ ys) same =
    let equal = same y in
    let first = among-cons y y ys in
    let one = one_itself y in
    absurd (omega (arith, equal, first, one))
same-length (x ∷ xs) ys same =
    let first = among-cons x x xs in
    let one = one_itself x in
    let equal = same x in
    let others = without x ys (omega (arith, first, one, equal)) in
    let rest = same-length xs others.rest (λ reference.
    let all = same reference in
    let here = among-cons reference x xs in
    let there = others.counts reference in
    omega (arith, all, here, there)) in
    let shorter = others.shorter in
    omega (arith, rest, shorter)

-- ---- counts and their number

-- a count of references comes of a list of so many
pub record IsCounted (count : Reference → ℕ) (all : ℕ) : Type 0 where
  pub listed : List Reference
  pub counts : (reference : Reference) → among reference listed ≡ count reference
  pub many : length listed ≡ all

-- equal counts are of as many
pub IsCounted-same : (f g : Reference → ℕ) (m n : ℕ) → IsCounted f m → IsCounted g n
    → ((reference : Reference) → f reference ≡ g reference) → m ≡ n
IsCounted-same f g m n first last same =
    let lengths = same-length first.listed last.listed (λ reference.
    first.counts reference ∙ same reference ∙ sym (last.counts reference)) in
    let a = first.many in
    let b = last.many in
    omega (arith, lengths, a, b)

pub IsCounted-none : (f : Reference → ℕ) → ((reference : Reference) → f reference ≡ 0) → IsCounted f 0
IsCounted-none f none = record { listed = []; counts = λ reference. sym (none reference); many = refl }

pub IsCounted-plus : (f g : Reference → ℕ) (m n : ℕ) → IsCounted f m → IsCounted g n
    → IsCounted (λ reference. f reference + g reference) (m + n)
IsCounted-plus f g m n first last = record {
  listed = first.listed ++ last.listed;
  counts = λ reference.
      let both = among-append reference first.listed last.listed in
      let a = first.counts reference in
      let b = last.counts reference in
      omega (arith, both, a, b);
  many =
      let both = length-append first.listed last.listed in
      let a = first.many in
      let b = last.many in
      omega (arith, both, a, b);
}

-- the same counts
pub IsCounted-as : (f g : Reference → ℕ) (m n : ℕ) → ((reference : Reference) → g reference ≡ f reference) → n ≡ m
    → IsCounted f m → IsCounted g n
IsCounted-as f g m n same equal whole = record {
  listed = whole.listed;
  counts = λ reference. whole.counts reference ∙ sym (same reference);
  many = whole.many ∙ sym equal;
}

-- one reference, so often
either_same : (b : Bool) (n : ℕ) → (if b then n else n) ≡ n
either_same true n = refl
either_same false n = refl

either_more : (b : Bool) (n : ℕ) → (if b then 1 else 0) + (if b then n else 0) ≡ (if b then suc n else 0)
either_more true n = omega arith
either_more false n = refl

pub IsCounted-one : (n : ℕ) (x : Reference) → IsCounted (λ reference. if same_reference reference x then n else 0) n
IsCounted-one zero x = IsCounted-none (λ (reference : Reference). if same_reference reference x then 0 else 0)
    (λ reference. either_same (same_reference reference x) 0)
IsCounted-one (suc n) x =
    let rest = IsCounted-one n x in
    record {
      listed = x ∷ rest.listed;
      counts = λ reference.
          let first = among-cons reference x rest.listed in
          let later = rest.counts reference in
          let more = either_more (same_reference reference x) n in
          omega (arith, first, later, more);
      many = ap (λ (m : ℕ). suc m) rest.many;
    }

-- references with their counts
abbrev pub total : List Counted → ℕ
total references = sum_by (λ entry. entry.count) references

-- an entry adds at most its count
either_few : (b : Bool) (n : ℕ) → (if b then n else 0) ≤ n
either_few true n = omega arith
either_few false n = omega arith

pub counted-most : (reference : Reference) (entry : Counted) → counted reference entry ≤ entry.count
counted-most reference entry = either_few (same_reference reference entry.reference) entry.count

pub total-cons : (entry : Counted) (references : List Counted) → total (entry ∷ references)
    ≡ entry.count + total references
total-cons entry references = sum_by-cons (λ (e : Counted). e.count) entry references

pub IsCounted-list : (references : List Counted) → IsCounted (count_of references) (total references)
IsCounted-list [] = IsCounted-none (count_of []) count-nil
IsCounted-list (entry ∷ references) =
    IsCounted-as (λ (x : Reference). counted x entry + count_of references x) (count_of (entry ∷ references))
    (entry.count + total references) (total (entry ∷ references))
    (λ reference. count-cons entry references reference) (total-cons entry references)
    (IsCounted-plus (counted_by entry) (count_of references) entry.count (total references)
    (IsCounted-one entry.count entry.reference) (IsCounted-list references)) where
      counted_by : Counted → Reference → ℕ
      counted_by e x = if same_reference x e.reference then e.count else 0

-- ---- references of a list

-- how many of a list lead to an address
abbrev pub many : List Owing → ℕ → ℕ
many owings at = length (those_at owings at)

pub IsCounted-times : (owings : List Owing) (at : ℕ) → IsCounted (λ reference. times owings at reference)
    (many owings at)
unfolding times
IsCounted-times owings at = record { listed = those_at owings at; counts = λ reference. refl; many = refl }

-- ---- sums

pub IsCounted-sum : {A : Type 0} (f : A → Reference → ℕ) (n : A → ℕ) (xs : List A) → ((x : A) → IsCounted (f x) (n x))
    → IsCounted (λ reference. sum_by (λ x. f x reference) xs) (sum_by n xs)
IsCounted-sum f n [] each = IsCounted-none (λ (reference : Reference). 0) (λ reference. refl)
IsCounted-sum {A} f n (x ∷ xs) each =
    IsCounted-as (λ (reference : Reference). f x reference + sum_by (λ (y : A). f y reference) xs)
    (λ (reference : Reference). sum_by (λ (y : A). f y reference) (x ∷ xs))
    (n x + sum_by n xs) (sum_by n (x ∷ xs))
    (λ reference. sum_by-cons (λ (y : A). f y reference) x xs) (sum_by-cons n x xs)
    (IsCounted-plus (f x) (λ (reference : Reference). sum_by (λ (y : A). f y reference) xs) (n x) (sum_by n xs)
    (each x) (IsCounted-sum f n xs each))

-- so many times over
pub IsCounted-over : (k : ℕ) (f : Reference → ℕ) (n : ℕ) → IsCounted f n → IsCounted (λ reference. k * f reference)
    (k * n)
IsCounted-over zero f n whole =
    IsCounted-as (λ (reference : Reference). 0) (λ (reference : Reference). 0 * f reference) 0 (0 * n)
    (λ reference. omega arith) (omega arith)
    (IsCounted-none (λ (reference : Reference). 0) (λ reference. refl))
IsCounted-over (suc k) f n whole =
    IsCounted-as (λ (reference : Reference). f reference + k * f reference)
    (λ (reference : Reference). suc k * f reference)
    (n + k * n) (suc k * n) (λ reference. omega arith) (omega arith)
    (IsCounted-plus f (λ (reference : Reference). k * f reference) n (k * n) whole (IsCounted-over k f n whole))
