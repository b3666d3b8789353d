-- Tables that ascend by number: with one number more, and that two with the same entries are one.
use Rattle.std.proofs.Common.{◌≡◌, ◌≢◌, ℕ, ◌<◌, ◌≤◌, Bool, true, false, List, [], ◌∷◌, arith, refl, sym, ap, subst, ◌∙◌}
use Rattle.std.proofs.Common.{inl, inr}
use Rattle.std.specs.Prelude.{◌⊎◌, ⊤, ◌==◌, if◌then◌else◌, nat_lt}
use Rattle.std.specs.List.{Contains}
use Rattle.std.proofs.lemmas.Bool.{ltb-true, ne_eqb}
use Rattle.std.proofs.lemmas.Bool.Decides.{nat_tests}
use Rattle.qg_image.specs.Table.{with_value}
use Rattle.qg_image.proofs.Contained.{contains_cases, contains_here, contains_later, none_contained}

not_before : (a b : ℕ) → nat_lt a b ≡ false → b ≤ a
not_before a b is = grind (arith, nat_tests)

-- each number is below those behind it
abbrev pub Rises : List (ℕ × ℕ) → Type 0
Rises [] = ⊤
Rises (entry ∷ entries) = ((later : ℕ × ℕ) → Contains entries later → entry.0 < later.0) × Rises entries

-- no entry is of a number
abbrev pub HasNone : ℕ → List (ℕ × ℕ) → Type 0
HasNone n entries = (entry : ℕ × ℕ) → Contains entries entry → entry.0 ≢ n

-- a table with an entry of a number that it has not, by the two tests of each entry
abbrev with_by : ℕ → ℕ → ℕ × ℕ → List (ℕ × ℕ) → Bool → Bool → List (ℕ × ℕ)
with_by n value entry entries before same =
    if before then (n, value) ∷ entry ∷ entries
    else (if same then (n, value) ∷ entries else entry ∷ with_value n value entries)

rest_none : (n : ℕ) (entry : ℕ × ℕ) (entries : List (ℕ × ℕ)) → HasNone n (entry ∷ entries) → HasNone n entries
rest_none n entry entries none later has = none later (contains_later entry entries later has)

module _ (n value : ℕ) where
  -- ---- what it has

  from_by : (entry : ℕ × ℕ) (entries : List (ℕ × ℕ)) (before same : Bool) → same ≡ false
      → ((e : ℕ × ℕ) → Contains (with_value n value entries) e → (e ≡ (n, value)) ⊎ Contains entries e)
      → (e : ℕ × ℕ) → Contains (with_by n value entry entries before same) e
      → (e ≡ (n, value)) ⊎ Contains (entry ∷ entries) e
  from_by entry entries true same differ rest e has = elim (contains_cases (n, value) (entry ∷ entries) e has) [
    | inl is ↦ inl (sym is)
    | inr later ↦ inr later
  ]
  from_by entry entries false true differ rest e has = absurd cc
  from_by entry entries false false differ rest e has =
      elim (contains_cases entry (with_value n value entries) e has) [
        | inl is ↦ inr (subst (λ (z : ℕ × ℕ). Contains (entry ∷ entries) z) is (contains_here entry entries))
        | inr later ↦ elim (rest e later) [
          | inl is ↦ inl is
          | inr own ↦ inr (contains_later entry entries e own)
        ]
      ]

  pub from-with : (entries : List (ℕ × ℕ)) → HasNone n entries → (e : ℕ × ℕ)
      → Contains (with_value n value entries) e → (e ≡ (n, value)) ⊎ Contains entries e
  from-with [] none e has = elim (contains_cases (n, value) [] e has) [
    | inl is ↦ inl (sym is)
    | inr later ↦ absurd (none_contained e later)
  ]
  from-with (entry ∷ entries) none e has =
      from_by entry entries (nat_lt n entry.0) (entry.0 == n)
      (ne_eqb entry.0 n (none entry (contains_here entry entries)))
      (from-with entries (rest_none n entry entries none)) e has

  here_by : (entry : ℕ × ℕ) (entries : List (ℕ × ℕ)) (before same : Bool) → same ≡ false
      → Contains (with_value n value entries) (n, value)
      → Contains (with_by n value entry entries before same) (n, value)
  here_by entry entries true same differ rest = contains_here (n, value) (entry ∷ entries)
  here_by entry entries false true differ rest = absurd cc
  here_by entry entries false false differ rest =
      contains_later entry (with_value n value entries) (n, value) rest

  pub here-with : (entries : List (ℕ × ℕ)) → HasNone n entries → Contains (with_value n value entries) (n, value)
  here-with [] none = contains_here (n, value) []
  here-with (entry ∷ entries) none =
      here_by entry entries (nat_lt n entry.0) (entry.0 == n)
      (ne_eqb entry.0 n (none entry (contains_here entry entries)))
      (here-with entries (rest_none n entry entries none))

  kept_by : (entry : ℕ × ℕ) (entries : List (ℕ × ℕ)) (before same : Bool) → same ≡ false
      → ((e : ℕ × ℕ) → Contains entries e → Contains (with_value n value entries) e)
      → (e : ℕ × ℕ) → Contains (entry ∷ entries) e → Contains (with_by n value entry entries before same) e
  kept_by entry entries true same differ rest e has = contains_later (n, value) (entry ∷ entries) e has
  kept_by entry entries false true differ rest e has = absurd cc
  kept_by entry entries false false differ rest e has = elim (contains_cases entry entries e has) [
    | inl is ↦
        subst (λ (z : ℕ × ℕ). Contains (entry ∷ with_value n value entries) z) is
        (contains_here entry (with_value n value entries))
    | inr later ↦ contains_later entry (with_value n value entries) e (rest e later)
  ]

  pub kept-with : (entries : List (ℕ × ℕ)) → HasNone n entries → (e : ℕ × ℕ) → Contains entries e
      → Contains (with_value n value entries) e
  kept-with [] none e has = absurd (none_contained e has)
  kept-with (entry ∷ entries) none e has =
      kept_by entry entries (nat_lt n entry.0) (entry.0 == n)
      (ne_eqb entry.0 n (none entry (contains_here entry entries)))
      (kept-with entries (rest_none n entry entries none)) e has

  -- ---- it ascends

  rises_by : (entry : ℕ × ℕ) (entries : List (ℕ × ℕ)) (before same : Bool) → nat_lt n entry.0 ≡ before → same ≡ false
      → entry.0 ≢ n → HasNone n entries → Rises (entry ∷ entries) → Rises (with_value n value entries)
      → Rises (with_by n value entry entries before same)
  rises_by entry entries true same less differ apart none rises rest =
      let first = ltb-true n entry.0 less in (
        λ later has. elim (contains_cases entry entries later has) [
          | inl is ↦ subst (λ (z : ℕ × ℕ). n < z.0) is first
          | inr own ↦ let more = rises.0 later own in omega (arith, first, more)
        ],
        rises,
      )
  rises_by entry entries false true less differ apart none rises rest = absurd cc
  rises_by entry entries false false less differ apart none rises rest =
      let most = not_before n entry.0 less in (
        λ later has. elim (from-with entries none later has) [
          | inl is ↦
              let own : entry.0 < n = omega (arith, most, apart) in
              subst (λ (z : ℕ × ℕ). entry.0 < z.0) (sym is) own
          | inr own ↦ rises.0 later own
        ],
        rest,
      )

  pub rises-with : (entries : List (ℕ × ℕ)) → HasNone n entries → Rises entries → Rises (with_value n value entries)
  rises-with [] none rises = (λ later has. absurd (none_contained later has), tt)
  rises-with (entry ∷ entries) none rises =
      rises_by entry entries (nat_lt n entry.0) (entry.0 == n) refl
      (ne_eqb entry.0 n (none entry (contains_here entry entries))) (none entry (contains_here entry entries))
      (rest_none n entry entries none) rises (rises-with entries (rest_none n entry entries none) rises.1)

-- ---- two with the same entries are one

-- what is in one and is not its first is behind the first of the other
behind : (x : ℕ × ℕ) (xs ys : List (ℕ × ℕ)) → ((z : ℕ × ℕ) → Contains xs z → x.0 < z.0)
    → ((z : ℕ × ℕ) → Contains (x ∷ xs) z → Contains (x ∷ ys) z) → (z : ℕ × ℕ) → Contains xs z → Contains ys z
behind x xs ys rises on z has = elim (contains_cases x ys z (on z (contains_later x xs z has))) [
  | inl is ↦ let more = rises z has in let same = ap (λ (e : ℕ × ℕ). e.0) is in absurd (omega (arith, more, same))
  | inr later ↦ later
]

pub same-rising : (xs ys : List (ℕ × ℕ)) → Rises xs → Rises ys → ((z : ℕ × ℕ) → Contains xs z → Contains ys z)
    → ((z : ℕ × ℕ) → Contains ys z → Contains xs z) → xs ≡ ys
same-rising [] [] up up_too on back = refl
same-rising [] (y ∷ ys) up up_too on back = absurd (none_contained y (back y (contains_here y ys)))
same-rising (x ∷ xs) [] up up_too on back = absurd (none_contained x (on x (contains_here x xs)))
same-rising (x ∷ xs) (y ∷ ys) up up_too on back = elim (contains_cases y ys x (on x (contains_here x xs))) [
  | inl is ↦
      let on_there = subst (λ (e : ℕ × ℕ). (z : ℕ × ℕ) → Contains (x ∷ xs) z → Contains (e ∷ ys) z) is on in
      let back_there = subst (λ (e : ℕ × ℕ). (z : ℕ × ℕ) → Contains (e ∷ ys) z → Contains (x ∷ xs) z) is back in
      let less = subst (λ (e : ℕ × ℕ). (z : ℕ × ℕ) → Contains ys z → e.0 < z.0) is up_too.0 in
      let rest = same-rising xs ys up.1 up_too.1 (behind x xs ys up.0 on_there) (behind x ys xs less back_there) in
      ap (λ (e : ℕ × ℕ). e ∷ xs) (sym is) ∙ ap (λ (es : List (ℕ × ℕ)). y ∷ es) rest
  | inr later ↦
      let below = up_too.0 x later in
      elim (contains_cases x xs y (back y (contains_here y ys))) [
        | inl is ↦ let same = ap (λ (e : ℕ × ℕ). e.0) is in absurd (omega (arith, below, same))
        | inr behind_x ↦ let above = up.0 y behind_x in absurd (omega (arith, below, above))
      ]
]
