-- Who is told, and how many members there are.
use Rattle.std.proofs.Common.{◌≡◌, ℕ, zero, suc, ◌+◌, ◌<◌, ◌≤◌, Bool, true, false, List, [], length, take, get_or}
use Rattle.std.proofs.Common.{refl, sym, ap, subst, ◌∙◌, arith, inl, inr}
use Rattle.std.proofs.Common.{length-take}
use Rattle.std.specs.Prelude.{◌==◌, ◌||◌}
use Rattle.std.specs.List.{All, list_any}
use Rattle.std.specs.List.Sorted.{IsStrictlyIncreasing}
use Rattle.std.proofs.lemmas.Bool.{cases_eq, eq-eqb, ne_eqb, eqb-true, or_right}
use Rattle.std.proofs.lemmas.List.{get_or-take, get_or_default, take_all}
use Rattle.std.proofs.lemmas.List.Folds.{list_any_more, list_any_none, list_any_at}
use Rattle.std.proofs.lemmas.List.Kept.{AllPairs-from_increasing}
use Rattle.std.proofs.lemmas.Map.Views.{Contains-from_any}
use Rattle.std.proofs.lemmas.List.Elements.{Contains-get_or}
use Rattle.std.proofs.lemmas.Option.{slice_get_within, get_or_from_slice_get}
use Rattle.qg_owner_rule.proofs.Listed.{index_of}
use Rattle.qg_qgroup_counts.specs.Sets.{HasMember, AreMembers}
use Rattle.qg_qgroup_counts.specs.Portions.{given, row_has, member_count}
use Rattle.qg_qgroup_counts.proofs.SetWeights.{given_is, given_not, has_is, count_first, count_suc}

-- ---- who is told

-- a subvolume is among these
abbrev pub is_told : List ℕ → ℕ → Bool
is_told members k = list_any (λ member. k == member) members

pub told_none : (k : ℕ) → is_told [] k ≡ false
told_none k = list_any_none (λ member. k == member) [] (λ j d short. absurd (omega (arith, short)))

pub or_false : (b c : Bool) → c ≡ false → (b || c) ≡ b
or_false true c _ = refl
or_false false c is = is

pub told_now : (members : List ℕ) (i : ℕ) → i < length members
    → is_told (take (i + 1) members) (get_or members i 0) ≡ true
told_now members i short =
    list_any_more (λ member. get_or members i 0 == member) members i 0 short
    ∙ or_right (is_told (take i members) (get_or members i 0)) (get_or members i 0 == get_or members i 0)
    (eq-eqb (get_or members i 0) (get_or members i 0) refl)

pub told_other : (members : List ℕ) (i k : ℕ) → i < length members → (k ≡ get_or members i 0 → ⊥)
    → is_told (take (i + 1) members) k ≡ is_told (take i members) k
told_other members i k short other =
    list_any_more (λ member. k == member) members i 0 short
    ∙ or_false (is_told (take i members) k) (k == get_or members i 0) (ne_eqb k (get_or members i 0) other)

pub told_fresh : (members : List ℕ) (i : ℕ) → IsStrictlyIncreasing members → i < length members
    → is_told (take i members) (get_or members i 0) ≡ false
told_fresh members i up short = list_any_none (λ member. get_or members i 0 == member) (take i members) each where
  each : All (λ member. (get_or members i 0 == member) ≡ false) (take i members)
  each j d inside =
      let below : j < i = omega (arith, inside, length-take i members, short) in
      let is = get_or-take i members j d below in
      let same = get_or_default members j d 0 (omega (arith, below, short)) in
      let less = AllPairs-from_increasing members up j i 0 below short in
      ne_eqb (get_or members i 0) (get_or (take i members) j d) (λ wrong. omega (arith, wrong, is, same, less))

-- ---- how many members there are

abbrev ones : List ℕ → ℕ → ℕ
ones members zero = 0
ones members (suc n) = given (is_told members n) 1 + ones members n

ones_none : (n : ℕ) → ones [] n ≡ 0
ones_none zero = refl
ones_none (suc n) = omega (arith, given_not (is_told [] n) 1 (told_none n), ones_none n)

ones_same : (xs ys : List ℕ) (n : ℕ) → ((k : ℕ) → k < n → is_told xs k ≡ is_told ys k) → ones xs n ≡ ones ys n
ones_same xs ys zero same = refl
ones_same xs ys (suc n) same =
    let here = ap (λ told. given told 1) (same n (omega arith)) in
    omega (arith, here, ones_same xs ys n (λ k short. same k (omega (arith, short))))

ones_in : (xs ys : List ℕ) (m n : ℕ) → is_told xs m ≡ true → is_told ys m ≡ false
    → ((k : ℕ) → (k ≡ m → ⊥) → is_told xs k ≡ is_told ys k) → m < n → ones xs n ≡ 1 + ones ys n
ones_in xs ys m zero has fresh same less = absurd (omega (arith, less))
ones_in xs ys m (suc n) has fresh same less = elim (cases_eq n m) [
  | inl is ↦
      let here = given_is (is_told xs n) 1 (subst (λ k. is_told xs k ≡ true) (sym is) has) in
      let was = given_not (is_told ys n) 1 (subst (λ k. is_told ys k ≡ false) (sym is) fresh) in
      omega (arith, here, was, ones_same xs ys n (λ k short. same k (λ wrong. omega (arith, short, wrong, is))))
  | inr other ↦
      let here = ap (λ told. given told 1) (same n other) in
      omega (arith, here, ones_in xs ys m n has fresh same (omega (arith, less, other)))
]

ones_take : (members : List ℕ) (n i : ℕ) → IsStrictlyIncreasing members → All (λ member. member < n) members
    → i ≤ length members → ones (take i members) n ≡ i
ones_take members n zero up inside le = ones_none n
ones_take members n (suc i) up inside le =
    let short : i < length members = omega (arith, le) in
    let next : suc i ≡ i + 1 = omega arith in
    let more =
    ones_in (take (i + 1) members) (take i members) (get_or members i 0) n (told_now members i short)
    (told_fresh members i up short) (λ k other. told_other members i k short other) (inside i 0 short) in
    let same = ap (λ j. ones (take j members) n) next in
    omega (arith, same, more, ones_take members n i up inside (omega (arith, short)))

ones_count : (members row : List ℕ) (n : ℕ) → ((k : ℕ) → k < n → is_told members k ≡ row_has row k)
    → ones members n ≡ member_count row n
ones_count members row zero same = sym (count_first row)
ones_count members row (suc n) same =
    let here = ap (λ told. given told 1) (same n (omega arith)) in
    omega (arith, here, count_suc row n, ones_count members row n (λ k short. same k (omega (arith, short))))

module _ (row : List ℕ) (n : ℕ) (members : List ℕ) (are : AreMembers row n members) where
  told_back : (k : ℕ) → k < n → HasMember row k → is_told members k ≡ true
  told_back k short has =
      let at = index_of members k ((are.told k).1 (short, has)) in
      list_any_at (λ member. k == member) members at.0 0 (slice_get_within members at.0 k at.1)
      (eq-eqb k (get_or members at.0 0) (sym (get_or_from_slice_get members at.0 k 0 at.1)))

  pub told_is : (k : ℕ) → k < n → is_told members k ≡ row_has row k
  told_is k short =
      has_is (is_told members k) row k (
        λ told. ((are.told k).0 (Contains-from_any (λ (x : ℕ) (y : ℕ). eqb-true x y) k members told)).1,
        told_back k
            short,
      )

  below : All (λ member. member < n) members
  below i d short = ((are.told (get_or members i d)).0 (Contains-get_or members i d short)).0

  pub many : length members ≡ member_count row n
  many =
      sym (ones_take members n (length members) are.ascending below (omega arith))
      ∙ ap (λ (xs : List ℕ). ones xs n) (take_all (length members) members (omega arith))
      ∙ ones_count members row n told_is

pub members_below : (row : List ℕ) (n : ℕ) (members : List ℕ) → AreMembers row n members
    → All (λ member. member < n) members
members_below row n members are = below row n members are
