-- How often groups are named by the members of a set, and what is counted of them so.
use Rattle.std.proofs.Common.{◌≡◌, ℕ, zero, suc, ◌+◌, ◌<◌, ◌≤◌, Bool, true, false, not, List, [], ◌∷◌, ◌++◌, length}
use Rattle.std.proofs.Common.{take}
use Rattle.std.proofs.Common.{get_or, set as set_at, refl, sym, ap, subst, ◌∙◌, arith, ◌⊎◌, inl, inr, get_or-set_same}
use Rattle.std.proofs.Common.{get_or-set_other}
use Rattle.std.proofs.Common.{length-take}
use Rattle.std.specs.Prelude.{◌==◌, ◌&&◌, ◌-◌}
use Rattle.std.specs.List.{All, list_any, flat_map}
use Rattle.std.specs.List.Sorted.{IsStrictlyIncreasing}
use Rattle.std.proofs.lemmas.Bool.{cases_eq, cases_order, eq-eqb, ne_eqb, or_right, true≢false}
use Rattle.std.proofs.lemmas.List.{get_or-take, get_or_default, length-set, take_all, take_more}
use Rattle.std.proofs.lemmas.List.Folds.{list_any_more, list_any_none}
use Rattle.std.proofs.lemmas.List.Elements.{All-from_get_or}
use Rattle.std.proofs.lemmas.List.Kept.{AllPairs-from_increasing}
use Rattle.qg_num.specs.declared.counters.Counters.{Counters}
use Rattle.qg_qgroup_counts.specs.Sets.{AreMembers}
use Rattle.qg_qgroup_counts.specs.Above.{list_at}
use Rattle.qg_qgroup_counts.specs.declared.groups.Tally.{Tally}
use Rattle.qg_qgroup_counts.specs.Portions.{given, row_has, HasRoom}
use Rattle.qg_qgroup_counts.specs.Groups.{is_above, passing_count, times, hits_by, hit_once, with_hits, none, IsUnseen}
use Rattle.qg_qgroup_counts.specs.Groups.{HaveHits}
use Rattle.qg_qgroup_counts.specs.Groups.{HasRoomFor}
use Rattle.qg_qgroup_counts.proofs.SetWeights.{made, given_is, given_not, first_false, counters_same}
use Rattle.qg_qgroup_counts.proofs.Members.{is_told, told_none, told_now, told_other, told_fresh, told_is, or_false}

-- ---- how often an index is named

times_none : (k : ℕ) → times [] k ≡ 0
unfolding times
times_none k = refl

times_one : (one : ℕ) (named : List ℕ) (k : ℕ) → times (one ∷ named) k ≡ given (one == k) 1 + times named k
unfolding times
times_one one named k = refl

times_append : (xs ys : List ℕ) (k : ℕ) → times (xs ++ ys) k ≡ times xs k + times ys k
times_append [] ys k = omega (arith, times_none k)
times_append (x ∷ xs) ys k =
    let is : times ((x ∷ xs) ++ ys) k ≡ given (x == k) 1 + times (xs ++ ys) k = times_one x (xs ++ ys) k in
    omega (arith, is, times_one x xs k, times_append xs ys k)

times_more : (named : List ℕ) (i k : ℕ) → i < length named
    → times (take (i + 1) named) k ≡ times (take i named) k + given (get_or named i 0 == k) 1
times_more named i k short =
    let one : times (get_or named i 0 ∷ []) k ≡ given (get_or named i 0 == k) 1 =
    omega (arith, times_one (get_or named i 0) [] k, times_none k) in
    ap (λ (xs : List ℕ). times xs k) (take_more named i 0 short)
    ∙ times_append (take i named) (get_or named i 0 ∷ []) k ∙ ap (λ n. times (take i named) k + n) one

times_le : (named : List ℕ) (i k : ℕ) → i ≤ length named → times (take i named) k ≤ i
times_le named zero k le = let is : times (take 0 named) k ≡ 0 = times_none k in omega (arith, is)
times_le named (suc i) k le =
    let next = ap (λ n. times (take n named) k) (suc_is i) in
    omega (arith, next, times_more named i k (omega (arith, le)), times_le named i k (omega (arith, le)), few) where
      suc_is : (n : ℕ) → suc n ≡ n + 1
      suc_is n = omega arith

      below_one : (b : Bool) → given b 1 ≤ 1
      below_one true = omega (arith, given_is true 1 refl)
      below_one false = omega (arith, given_not false 1 refl)

      few : given (get_or named i 0 == k) 1 ≤ 1
      few = below_one (get_or named i 0 == k)

-- in a list that ascends an index is named once, if it is there
module _ (xs : List ℕ) (up : IsStrictlyIncreasing xs) (k : ℕ) where
  fresh : (i : ℕ) → i < length xs → get_or xs i 0 ≡ k → list_any (λ one. one == k) (take i xs) ≡ false
  fresh i short is = list_any_none (λ one. one == k) (take i xs) each where
    each : All (λ one. (one == k) ≡ false) (take i xs)
    each j d inside =
        let below : j < i = omega (arith, inside, length-take i xs, short) in
        let here = get_or-take i xs j d below in
        let same = get_or_default xs j d 0 (omega (arith, below, short)) in
        let less = AllPairs-from_increasing xs up j i 0 below short in
        ne_eqb (get_or (take i xs) j d) k (λ wrong. omega (arith, wrong, here, same, less, is))

  once_take : (i : ℕ) → i ≤ length xs → times (take i xs) k ≡ given (list_any (λ one. one == k) (take i xs)) 1
  once_take zero le =
      let any = list_any_none (λ one. one == k) [] (λ j d short. absurd (omega (arith, short))) in
      let is : times (take 0 xs) k ≡ 0 = times_none k in
      let given_none : given (list_any (λ one. one == k) (take 0 xs)) 1 ≡ 0 = given_not _ 1 any in
      omega (arith, is, given_none)
  once_take (suc i) le =
      subst (λ n. times (take n xs) k ≡ given (list_any (λ one. one == k) (take n xs)) 1) next
      (by (cases_eq (get_or xs i 0) k) (once_take i (omega (arith, le)))) where
        next : i + 1 ≡ suc i
        next = omega arith

        short : i < length xs
        short = omega (arith, le)

        by : (get_or xs i 0 ≡ k) ⊎ (get_or xs i 0 ≡ k → ⊥)
            → times (take i xs) k ≡ given (list_any (λ one. one == k) (take i xs)) 1
            → times (take (i + 1) xs) k ≡ given (list_any (λ one. one == k) (take (i + 1) xs)) 1
        by (inl is) before =
            let was = fresh i short is in
            let old = given_not (list_any (λ one. one == k) (take i xs)) 1 was in
            let now =
            list_any_more (λ one. one == k) xs i 0 short
            ∙ or_right (list_any (λ one. one == k) (take i xs)) (get_or xs i 0 == k) (eq-eqb (get_or xs i 0) k is) in
            let new = given_is (list_any (λ one. one == k) (take (i + 1) xs)) 1 now in
            let hit = given_is (get_or xs i 0 == k) 1 (eq-eqb (get_or xs i 0) k is) in
            omega (arith, times_more xs i k short, before, old, new, hit)
        by (inr other) before =
            let miss = ne_eqb (get_or xs i 0) k other in
            let no = given_not (get_or xs i 0 == k) 1 miss in
            let now =
            ap (λ b. given b 1)
            (list_any_more (λ one. one == k) xs i 0 short
            ∙ or_false (list_any (λ one. one == k) (take i xs)) (get_or xs i 0 == k) miss) in
            omega (arith, times_more xs i k short, before, no, now)

  times_once : times xs k ≡ given (list_any (λ one. one == k) xs) 1
  times_once =
      subst (λ (list : List ℕ). times list k ≡ given (list_any (λ one. one == k) list) 1)
      (take_all (length xs) xs (omega arith)) (once_take (length xs) (omega arith))

-- ---- how many members pass

abbrev pub passing : (ℕ → Bool) → List ℕ → ℕ
passing test [] = 0
passing test (member ∷ members) = given (test member) 1 + passing test members

pub times_named : (above : List (List ℕ)) (k : ℕ) (members : List ℕ)
    → ((place : ℕ) → IsStrictlyIncreasing (list_at above place))
    → times (flat_map (list_at above) members) k ≡ passing (is_above above k) members
times_named above k [] once = times_none k
times_named above k (member ∷ members) once =
    let all : times (flat_map (list_at above) (member ∷ members)) k
    ≡ times (list_at above member) k + times (flat_map (list_at above) members) k =
    times_append (list_at above member) (flat_map (list_at above) members) k in
    omega (arith, all, times_once (list_at above member) (once member) k, times_named above k members once)

passing_append : (test : ℕ → Bool) (xs ys : List ℕ) → passing test (xs ++ ys) ≡ passing test xs + passing test ys
passing_append test [] ys = omega arith
passing_append test (x ∷ xs) ys = omega (arith, passing_append test xs ys)

passing_more : (test : ℕ → Bool) (xs : List ℕ) (i : ℕ) → i < length xs
    → passing test (take (i + 1) xs) ≡ passing test (take i xs) + given (test (get_or xs i 0)) 1
passing_more test xs i short =
    let one : passing test (get_or xs i 0 ∷ []) ≡ given (test (get_or xs i 0)) 1 = omega arith in
    ap (passing test) (take_more xs i 0 short) ∙ passing_append test (take i xs) (get_or xs i 0 ∷ [])
    ∙ ap (λ n. passing test (take i xs) + n) one

pub passing_le : (test : ℕ → Bool) (xs : List ℕ) → passing test xs ≤ length xs
passing_le test [] = omega arith
passing_le test (x ∷ xs) = omega (arith, below_one (test x), passing_le test xs) where
  below_one : (b : Bool) → given b 1 ≤ 1
  below_one true = omega (arith, given_is true 1 refl)
  below_one false = omega (arith, given_not false 1 refl)

pub passed_first : (test : ℕ → Bool) (row : List ℕ) → passing_count test row 0 ≡ 0
unfolding passing_count
passed_first test row = refl

pub passed_suc : (test : ℕ → Bool) (row : List ℕ) (n : ℕ)
    → passing_count test row (suc n) ≡ given (row_has row n && test n) 1 + passing_count test row n
unfolding passing_count
passed_suc test row n = refl

-- how many indices below a bound are told and pass
abbrev marked : (ℕ → Bool) → List ℕ → ℕ → ℕ
marked test xs zero = 0
marked test xs (suc n) = given (is_told xs n && test n) 1 + marked test xs n

marked_none : (test : ℕ → Bool) (n : ℕ) → marked test [] n ≡ 0
marked_none test zero = refl
marked_none test (suc n) =
    omega (
      arith,
      given_not (is_told [] n && test n) 1 (first_false (is_told [] n) (test n) (told_none n)),
      marked_none
          test n,
    )

marked_same : (test : ℕ → Bool) (xs ys : List ℕ) (n : ℕ) → ((k : ℕ) → k < n → is_told xs k ≡ is_told ys k)
    → marked test xs n ≡ marked test ys n
marked_same test xs ys zero same = refl
marked_same test xs ys (suc n) same =
    let here = ap (λ told. given (told && test n) 1) (same n (omega arith)) in
    omega (arith, here, marked_same test xs ys n (λ k short. same k (omega (arith, short))))

marked_in : (test : ℕ → Bool) (xs ys : List ℕ) (m n : ℕ) → is_told xs m ≡ true → is_told ys m ≡ false
    → ((k : ℕ) → (k ≡ m → ⊥) → is_told xs k ≡ is_told ys k) → m < n
    → marked test xs n ≡ given (test m) 1 + marked test ys n
marked_in test xs ys m zero has fresh same less = absurd (omega (arith, less))
marked_in test xs ys m (suc n) has fresh same less = elim (cases_eq n m) [
  | inl is ↦
      let here =
      ap (λ told. given (told && test n) 1) (subst (λ k. is_told xs k ≡ true) (sym is) has)
      ∙ ap (λ k. given (test k) 1) is in
      let was =
      given_not (is_told ys n && test n) 1
      (first_false (is_told ys n) (test n) (subst (λ k. is_told ys k ≡ false) (sym is) fresh)) in
      omega (arith, here, was, marked_same test xs ys n (λ k short. same k (λ wrong. omega (arith, short, wrong, is))))
  | inr other ↦
      let here = ap (λ told. given (told && test n) 1) (same n other) in
      omega (arith, here, marked_in test xs ys m n has fresh same (omega (arith, less, other)))
]

marked_take : (test : ℕ → Bool) (members : List ℕ) (n i : ℕ) → IsStrictlyIncreasing members
    → All (λ member. member < n) members → i ≤ length members
    → marked test (take i members) n ≡ passing test (take i members)
marked_take test members n zero up inside le = marked_none test n
marked_take test members n (suc i) up inside le =
    let short : i < length members = omega (arith, le) in
    let next : suc i ≡ i + 1 = omega arith in
    let more =
    marked_in test (take (i + 1) members) (take i members) (get_or members i 0) n (told_now members i short)
    (told_fresh members i up short) (λ k other. told_other members i k short other) (inside i 0 short) in
    let first = ap (λ j. marked test (take j members) n) next in
    let second = ap (λ j. passing test (take j members)) next in
    omega (
      arith,
      first,
      second,
      more,
      passing_more test members i short,
      marked_take test members n i up inside (omega (arith, short)),
    )

marked_count : (test : ℕ → Bool) (members row : List ℕ) (n : ℕ)
    → ((k : ℕ) → k < n → is_told members k ≡ row_has row k) → marked test members n ≡ passing_count test row n
marked_count test members row zero same = sym (passed_first test row)
marked_count test members row (suc n) same =
    let here = ap (λ told. given (told && test n) 1) (same n (omega arith)) in
    omega (
      arith,
      here,
      passed_suc test row n,
      marked_count test members row n
          (λ k short. same k (omega (arith, short))),
    )

pub passing_is : (test : ℕ → Bool) (row : List ℕ) (n : ℕ) (members : List ℕ) → AreMembers row n members
    → All (λ member. member < n) members → passing test members ≡ passing_count test row n
passing_is test row n members are below =
    let whole = take_all (length members) members (omega arith) in
    sym (ap (passing test) whole)
    ∙ sym (marked_take test members n (length members) are.ascending below (omega arith))
    ∙ ap (λ (xs : List ℕ). marked test xs n) whole
    ∙ marked_count test members row n (told_is row n members are)

-- ---- what is counted at a hit

both_true : (a b : Bool) → a ≡ true → b ≡ true → (a && b) ≡ true
both_true true b _ is = is
both_true false b wrong _ = absurd (true≢false (sym wrong))

second_false : (a b : Bool) → b ≡ false → (a && b) ≡ false
second_false true b is = is
second_false false b is = refl

-- a set of so many members has as many hits at least
abbrev are_all : ℕ → ℕ → Bool
are_all many hits = not (many == 0) && (many - hits == 0)

all_hit : (many hits : ℕ) → (many ≡ 0 → ⊥) → many ≤ hits → are_all many hits ≡ true
all_hit many hits some le =
    both_true (not (many == 0)) (many - hits == 0) (ap not (ne_eqb many 0 some))
    (eq-eqb (many - hits) 0 (omega (arith, le)))

few_hit : (many hits : ℕ) → hits < many → are_all many hits ≡ false
few_hit many hits less =
    second_false (not (many == 0)) (many - hits == 0) (ne_eqb (many - hits) 0 (λ wrong. omega (arith, wrong, less)))

none_hit : (many hits : ℕ) → many ≡ 0 → are_all many hits ≡ false
none_hit many hits is = first_false (not (many == 0)) (many - hits == 0) (ap not (eq-eqb many 0 is))

first_next : (hits bytes : ℕ)
    → given (not (hits == 0)) bytes + given (hits + 1 == 1) bytes ≡ given (not (hits + 1 == 0)) bytes
first_next hits bytes = by (cases_eq hits 0) where
  after : given (not (hits + 1 == 0)) bytes ≡ bytes
  after = given_is (not (hits + 1 == 0)) bytes (ap not (ne_eqb (hits + 1) 0 (λ wrong. omega (arith, wrong))))

  by : (hits ≡ 0) ⊎ (hits ≡ 0 → ⊥)
      → given (not (hits == 0)) bytes + given (hits + 1 == 1) bytes ≡ given (not (hits + 1 == 0)) bytes
  by (inl is) =
      omega (
        arith,
        after,
        given_not (not (hits == 0)) bytes (ap not (eq-eqb hits 0 is)),
        given_is (hits + 1 == 1) bytes (eq-eqb (hits + 1) 1 (omega (arith, is))),
      )
  by (inr other) =
      omega (
        arith,
        after,
        given_is (not (hits == 0)) bytes (ap not (ne_eqb hits 0 other)),
        given_not (hits + 1 == 1) bytes (ne_eqb (hits + 1) 1 (λ wrong. other (omega (arith, wrong)))),
      )

last_next : (many hits bytes : ℕ)
    → given (are_all many hits) bytes + given (hits + 1 == many) bytes ≡ given (are_all many (hits + 1)) bytes
last_next many hits bytes = by (cases_eq many 0) where
  no : (hits + 1 ≡ many → ⊥) → given (hits + 1 == many) bytes ≡ 0
  no other = given_not (hits + 1 == many) bytes (ne_eqb (hits + 1) many other)

  some : (many ≡ 0 → ⊥) → (hits + 1 ≡ many) ⊎ ((hits + 1 < many) ⊎ (many < hits + 1))
      → given (are_all many hits) bytes + given (hits + 1 == many) bytes ≡ given (are_all many (hits + 1)) bytes
  some _ (inl is) =
      omega (
        arith,
        given_not (are_all many hits) bytes (few_hit many hits (omega (arith, is))),
        given_is (hits + 1 == many) bytes (eq-eqb (hits + 1) many is),
        given_is (are_all many (hits + 1)) bytes (all_hit many (hits + 1) (λ wrong. omega (arith, wrong, is))
            (omega (arith, is))),
      )
  some _ (inr (inl less)) =
      omega (
        arith,
        given_not (are_all many hits) bytes (few_hit many hits (omega (arith, less))),
        no (λ wrong. omega (arith, wrong, less)),
        given_not (are_all many (hits + 1)) bytes (few_hit many (hits + 1) less),
      )
  some is (inr (inr more)) =
      omega (
        arith,
        given_is (are_all many hits) bytes (all_hit many hits is (omega (arith, more))),
        no (λ wrong. omega (arith, wrong, more)),
        given_is (are_all many (hits + 1)) bytes (all_hit many (hits + 1) is (omega (arith, more))),
      )

  by : (many ≡ 0) ⊎ (many ≡ 0 → ⊥)
      → given (are_all many hits) bytes + given (hits + 1 == many) bytes ≡ given (are_all many (hits + 1)) bytes
  by (inl is) =
      omega (
        arith,
        given_not (are_all many hits) bytes (none_hit many hits is),
        no (λ wrong. omega (arith, wrong, is)),
        given_not (are_all many (hits + 1)) bytes (none_hit many (hits + 1) is),
      )
  by (inr other) = some other (cases_order (hits + 1) many)

-- as many hits as members: one at least, and all
pub all_is : (hits many : ℕ) → hits ≤ many → are_all many hits ≡ (not (hits == 0) && (hits == many))
all_is hits many le = by (cases_eq many 0) where
  some : (many ≡ 0 → ⊥) → (hits ≡ many) ⊎ (hits ≡ many → ⊥) → are_all many hits ≡ (not (hits == 0) && (hits == many))
  some other (inl is) =
      all_hit many hits other (omega (arith, is))
      ∙ sym (both_true (not (hits == 0)) (hits == many)
      (ap not (ne_eqb hits 0 (λ wrong. other (omega (arith, wrong, is)))))
      (eq-eqb hits many is))
  some _ (inr differs) =
      few_hit many hits (omega (arith, le, differs))
      ∙ sym (second_false (not (hits == 0)) (hits == many) (ne_eqb hits many differs))

  by : (many ≡ 0) ⊎ (many ≡ 0 → ⊥) → are_all many hits ≡ (not (hits == 0) && (hits == many))
  by (inl is) =
      none_hit many hits is
      ∙ sym (first_false (not (hits == 0)) (hits == many) (ap not (eq-eqb hits 0 (omega (arith, le, is)))))
  by (inr other) = some other (cases_eq hits many)

hits_next : (hits many bytes : ℕ) (old : Counters) (rfer excl : ℕ)
    → rfer ≡ (with_hits hits many bytes old).rfer + given (hits + 1 == 1) bytes
    → excl ≡ (with_hits hits many bytes old).excl + given (hits + 1 == many) bytes
    → made rfer excl ≡ with_hits (hits + 1) many bytes old
hits_next hits many bytes old rfer excl first second =
    counters_same (made rfer excl) (with_hits (hits + 1) many bytes old)
    (omega (arith, first, first_next hits bytes)) (omega (arith, second, last_next many hits bytes))

-- ---- one hit after the other

-- the first of those named have been hit
pub record HitFirst (named : List ℕ) (set many bytes n : ℕ) (old new : List Tally) : Type 0 where
  pub same : length new ≡ length old
  pub seen : (k : ℕ) → k < length old → (get_or new k none).seen ≤ set + 1
  pub hits : (k : ℕ) → k < length old → hits_by set (get_or new k none) ≡ times (take n named) k
  pub each : (k : ℕ) → k < length old → (get_or new k none).counters
      ≡ with_hits (times (take n named) k) many bytes (get_or old k none).counters

with_none : (many bytes : ℕ) (counters : Counters) → with_hits 0 many bytes counters ≡ counters
with_none many bytes counters =
    counters_same (with_hits 0 many bytes counters) counters
    (omega (arith, given_not (not (0 == 0)) bytes (ap not (eq-eqb 0 0 refl)))) (by (cases_eq many 0)) where
      by : (many ≡ 0) ⊎ (many ≡ 0 → ⊥) → counters.excl + given (are_all many 0) bytes ≡ counters.excl
      by (inl is) = omega (arith, given_not (are_all many 0) bytes (none_hit many 0 is))
      by (inr other) = omega (arith, given_not (are_all many 0) bytes (few_hit many 0 (omega (arith, other))))

pub hit_none : (named : List ℕ) (set many bytes : ℕ) (old : List Tally) → All (IsUnseen set) old
    → HitFirst named set many bytes 0 old old
hit_none named set many bytes old unseen = record {
  same = refl;
  seen = λ k short. omega (arith, unseen k none short);
  hits = λ k short.
      given_not ((get_or old k none).seen == set + 1) (get_or old k none).hits
      (ne_eqb (get_or old k none).seen (set + 1) (λ wrong. omega (arith, wrong, unseen k none short)))
      ∙ sym (times_none k);
  each = λ k short.
      sym (with_none many bytes (get_or old k none).counters)
      ∙ ap (λ n. with_hits n many bytes (get_or old k none).counters) (sym (times_none k));
}

-- the hits that a tally has had are no more than there are names
pub hits_few : (named : List ℕ) (set many bytes i : ℕ) (old mid : List Tally) (k : ℕ) → i ≤ length named
    → k < length old
    → HitFirst named set many bytes i old mid → hits_by set (get_or mid k none) ≤ i
hits_few named set many bytes i old mid k le short first =
    omega (arith, first.hits k short, times_le named i k le)

pub hit_more : (named : List ℕ) (set many bytes i : ℕ) (old mid : List Tally) (new : Tally) → i < length named
    → get_or named i 0 < length old → new ≡ hit_once set many bytes (get_or mid (get_or named i 0) none)
    → HitFirst named set many bytes i old mid
    → HitFirst named set many bytes (i + 1) old (set_at mid (get_or named i 0) new)
hit_more named set many bytes i old mid new short inside is first = record {
  same = length-set mid (get_or named i 0) new ∙ first.same;
  seen = λ k within. seen k within (cases_eq k (get_or named i 0));
  hits = λ k within. hits k within (cases_eq k (get_or named i 0));
  each = λ k within. each k within (cases_eq k (get_or named i 0));
} where
  here : get_or (set_at mid (get_or named i 0) new) (get_or named i 0) none
      ≡ hit_once set many bytes (get_or mid (get_or named i 0) none)
  here = get_or-set_same mid (get_or named i 0) new none (omega (arith, inside, first.same)) ∙ is

  there : (k : ℕ) → (k ≡ get_or named i 0 → ⊥) → get_or (set_at mid (get_or named i 0) new) k none ≡ get_or mid k none
  there k other = get_or-set_other mid (get_or named i 0) k new none other

  now : times (take (i + 1) named) (get_or named i 0) ≡ times (take i named) (get_or named i 0) + 1
  now =
      let hit = given_is (get_or named i 0 == get_or named i 0) 1 (eq-eqb (get_or named i 0) (get_or named i 0) refl) in
      omega (arith, times_more named i (get_or named i 0) short, hit)

  still : (k : ℕ) → (k ≡ get_or named i 0 → ⊥) → times (take (i + 1) named) k ≡ times (take i named) k
  still k other =
      let miss = given_not (get_or named i 0 == k) 1 (ne_eqb (get_or named i 0) k (λ wrong. other (sym wrong))) in
      omega (arith, times_more named i k short, miss)

  seen : (k : ℕ) → k < length old → (k ≡ get_or named i 0) ⊎ (k ≡ get_or named i 0 → ⊥)
      → (get_or (set_at mid (get_or named i 0) new) k none).seen ≤ set + 1
  seen k within (inl same) =
      let there_now = ap (λ (t : Tally). t.seen) (ap (λ j. get_or (set_at mid (get_or named i 0) new) j none) same
      ∙ here) in
      omega (arith, there_now)
  seen k within (inr other) =
      let there_now = ap (λ (t : Tally). t.seen) (there k other) in
      omega (arith, there_now, first.seen k within)

  hits : (k : ℕ) → k < length old → (k ≡ get_or named i 0) ⊎ (k ≡ get_or named i 0 → ⊥)
      → hits_by set (get_or (set_at mid (get_or named i 0) new) k none) ≡ times (take (i + 1) named) k
  hits k within (inl same) =
      ap (λ j. hits_by set (get_or (set_at mid (get_or named i 0) new) j none)) same ∙ ap (hits_by set) here
      ∙ given_is (set + 1 == set + 1) (hits_by set (get_or mid (get_or named i 0) none) + 1)
      (eq-eqb (set + 1) (set + 1) refl)
      ∙ ap (λ n. n + 1) (first.hits (get_or named i 0) inside) ∙ sym now
      ∙ ap (λ j. times (take (i + 1) named) j) (sym same)
  hits k within (inr other) = ap (hits_by set) (there k other) ∙ first.hits k within ∙ sym (still k other)

  each : (k : ℕ) → k < length old → (k ≡ get_or named i 0) ⊎ (k ≡ get_or named i 0 → ⊥)
      → (get_or (set_at mid (get_or named i 0) new) k none).counters
      ≡ with_hits (times (take (i + 1) named) k) many bytes (get_or old k none).counters
  each k within (inl same) =
      ap (λ j. (get_or (set_at mid (get_or named i 0) new) j none).counters) same ∙ ap (λ (t : Tally). t.counters) here
      ∙ hits_next (times (take i named) (get_or named i 0)) many bytes (get_or old (get_or named i 0) none).counters
      (hit_once set many bytes (get_or mid (get_or named i 0) none)).counters.rfer
      (hit_once set many bytes (get_or mid (get_or named i 0) none)).counters.excl
      (before_rfer (first.each (get_or named i 0) inside) (first.hits (get_or named i 0) inside))
      (before_excl (first.each (get_or named i 0) inside) (first.hits (get_or named i 0) inside))
      ∙ ap (λ n. with_hits n many bytes (get_or old (get_or named i 0) none).counters) (sym now)
      ∙ ap (λ j. with_hits (times (take (i + 1) named) j) many bytes (get_or old j none).counters) (sym same) where
        before_rfer : (get_or mid (get_or named i 0) none).counters
            ≡ with_hits (times (take i named) (get_or named i 0)) many bytes
            (get_or old (get_or named i 0) none).counters
            → hits_by set (get_or mid (get_or named i 0) none) ≡ times (take i named) (get_or named i 0)
            → (hit_once set many bytes (get_or mid (get_or named i 0) none)).counters.rfer
            ≡ (with_hits (times (take i named) (get_or named i 0)) many bytes
            (get_or old (get_or named i 0) none).counters).rfer
            + given (times (take i named) (get_or named i 0) + 1 == 1) bytes
        before_rfer counters hit =
            let one = ap (λ (c : Counters). c.rfer) counters in
            let two = ap (λ n. given (n + 1 == 1) bytes) hit in
            omega (arith, one, two)

        before_excl : (get_or mid (get_or named i 0) none).counters
            ≡ with_hits (times (take i named) (get_or named i 0)) many bytes
            (get_or old (get_or named i 0) none).counters
            → hits_by set (get_or mid (get_or named i 0) none) ≡ times (take i named) (get_or named i 0)
            → (hit_once set many bytes (get_or mid (get_or named i 0) none)).counters.excl
            ≡ (with_hits (times (take i named) (get_or named i 0)) many bytes
            (get_or old (get_or named i 0) none).counters).excl
            + given (times (take i named) (get_or named i 0) + 1 == many) bytes
        before_excl counters hit =
            let one = ap (λ (c : Counters). c.excl) counters in
            let two = ap (λ n. given (n + 1 == many) bytes) hit in
            omega (arith, one, two)
  each k within (inr other) =
      ap (λ (t : Tally). t.counters) (there k other) ∙ first.each k within
      ∙ ap (λ n. with_hits n many bytes (get_or old k none).counters) (sym (still k other))

-- a tally has room for the set at its first and at its last hit, as all had at the start
pub room_for : (named : List ℕ) (set many bytes i : ℕ) (old mid : List Tally) (k : ℕ) → k < length old
    → All (λ tally. HasRoom bytes tally.counters) old → HitFirst named set many bytes i old mid
    → HasRoomFor set many bytes (get_or mid k none)
room_for named set many bytes i old mid k short room first = record {
  first = λ is.
      let hits : times (take i named) k ≡ 0 = sym (first.hits k short) ∙ is in
      let counters = ap (λ (c : Counters). c.rfer) (first.each k short) in
      let no = given_not (not (times (take i named) k == 0)) bytes (ap not (eq-eqb (times (take i named) k) 0 hits)) in
      let small = (room k none short).0 in
      omega (arith, counters, no, small);
  last = λ is.
      let hits = first.hits k short in
      let counters = ap (λ (c : Counters). c.excl) (first.each k short) in
      let no =
      given_not (are_all many (times (take i named) k)) bytes
      (few_hit many (times (take i named) k) (omega (arith, hits, is))) in
      let small = (room k none short).1 in
      omega (arith, counters, no, small);
}

pub hit_all : (named : List ℕ) (set many bytes i : ℕ) (old new : List Tally) → length named ≤ i
    → HitFirst named set many bytes i old new → HaveHits named set many bytes old new
hit_all named set many bytes i old new past first = record {
  same = first.same;
  seen = All-from_get_or (IsUnseen (set + 1)) new none (λ k short. first.seen k (omega (arith, short, first.same)));
  each = λ k short.
      first.each k short
      ∙ ap (λ (list : List ℕ). with_hits (times list k) many bytes (get_or old k none).counters)
      (take_all i named past);
}
