-- The counters of all groups, one group after the other.
use Rattle.std.proofs.Common.{◌≡◌, ℕ, zero, suc, ◌<◌, ◌≤◌, Bool, true, false, List, [], ◌∷◌, length, get_or, map, Some}
use Rattle.std.proofs.Common.{refl, sym, ap, subst, ◌∙◌, arith, inl, inr}
use Rattle.std.specs.Prelude.{◌==◌, ◌&&◌, ◌||◌, if◌then◌else◌, slice_get, slice_set, IfErr, IsErrAnd, OnErr}
use Rattle.std.proofs.Common.{Result, Ok, Err}
use Rattle.std.specs.List.{Contains, list_any}
use Rattle.std.specs.List.Sorted.{IsStrictlySortedBy}
use Rattle.std.specs.Ordering.{nat_cmp}
use Rattle.std.proofs.lemmas.Bool.{cases_Bool, cond-false, cond-true, eq-eqb, eqb-true, ne_eqb, or_from, or_left}
use Rattle.std.proofs.lemmas.Bool.{or_right}
use Rattle.std.proofs.lemmas.Bool.{or_cases, true≢false}
use Rattle.std.proofs.lemmas.Map.Keys.{sorted_tail}
use Rattle.std.proofs.lemmas.Option.{same_Some}
use Rattle.qg_num.specs.declared.counters.Counters.{Counters}
use Rattle.qg_image.specs.Members.{Hierarchy, is_member}
use Rattle.qg_image.specs.Table.{keys_of, value_at}
use Rattle.qg_image.proofs.Contained.{contains_cases, contains_here, contains_later, none_contained}
use Rattle.qg_reach.proofs.Members.{contains_map, one_mapped}
use Rattle.qg_qgroups.specs.Groups.{has_number, is_kept}
use Rattle.qg_qgroups.proofs.Order.{first_least, has_first}
use Rattle.qg_account.specs.declared.fault.CounterFault.{CounterFault}
use Rattle.qg_account.specs.declared.fault.CounterFault.TheVariants as why
use Rattle.qg_account.specs.Moves.{CanMove, OwnerChange, moved}
use Rattle.std.proofs.Common.{◌+◌}
use Rattle.qg_qgroup_counts.proofs.SetWeights.{counters_same}
use Rattle.qg_account.specs.Laws.{SameOwnersAddUp}
use Rattle.qg_account.specs.Standing.{lies_within, meets}
use Rattle.qg_account.proofs.CounterShifts.{shift-twice}
use Rattle.qg_account.specs.Pivots.{ArePivots}
use Rattle.qg_account.specs.Updating.{CanTake, HaveMovedInPart, group_moved, moved_but, with_counters}
use Rattle.qg_account.proofs.PivotOwners.{number-in, others-can, others-keep}

-- ---- maps of lists

map-same : {A B : Type 0} (f g : A → B) (xs : List A) → ((x : A) → Contains xs x → f x ≡ g x) → map f xs ≡ map g xs
map-same f g [] same = refl
map-same {A} {B} f g (x ∷ xs) same =
    ap (λ (y : B). y ∷ map f xs) (same x (contains_here x xs))
    ∙ ap (λ ys. g x ∷ ys) (map-same f g xs (λ y has. same y (contains_later x xs y has)))

map-nothing : {A : Type 0} (f : A → A) (xs : List A) → ((x : A) → Contains xs x → f x ≡ x) → map f xs ≡ xs
map-nothing f [] same = refl
map-nothing {A} f (x ∷ xs) same =
    ap (λ (y : A). y ∷ map f xs) (same x (contains_here x xs))
    ∙ ap (λ ys. x ∷ ys) (map-nothing f xs (λ y has. same y (contains_later x xs y has)))

map-twice : {A : Type 0} (f g : A → A) (xs : List A) → map f (map g xs) ≡ map (λ x. f (g x)) xs
map-twice f g [] = refl
map-twice f g (x ∷ xs) = ap (λ ys. f (g x) ∷ ys) (map-twice f g xs)

-- ---- two changes with the same owners

pub same-owners : SameOwnersAddUp
same-owners hierarchy bytes more before now counters =
    map-twice (group_moved hierarchy (change more)) (group_moved hierarchy (change bytes)) counters
    ∙ map-same (λ e. group_moved hierarchy (change more) (group_moved hierarchy (change bytes) e))
    (group_moved hierarchy (change (bytes + more))) counters (λ e there. each e)
  where
    change : ℕ → OwnerChange
    change n = record { bytes = n; before = before; now = now }

    each : (e : ℕ × Counters)
        → group_moved hierarchy (change more) (group_moved hierarchy (change bytes) e)
        ≡ group_moved hierarchy (change (bytes + more)) e
    each e =
        let member = is_member hierarchy e.0 in
        ap (λ (c : Counters). (e.0, c))
        (counters_same (moved member (change more) (moved member (change bytes) e.1))
        (moved member (change (bytes + more)) e.1)
        (shift-twice (meets member before) (meets member now) bytes more e.1.rfer)
        (shift-twice (lies_within member before) (lies_within member now) bytes more e.1.excl))

-- ---- one group

-- numbers behind the first are greater, so a change of the first leaves them
others-left : (group : ℕ) (change : Counters → Counters) (counters : List (ℕ × Counters))
    → ((n : ℕ) → has_number n (keys_of counters) ≡ true → group < n) → with_counters group change counters ≡ counters
others-left group change counters greater =
    map-nothing (λ (e : ℕ × Counters). if e.0 == group then (e.0, change e.1) else e) counters
    (λ e has. cond-false (e.0 == group) (e.0, change e.1) e
    (ne_eqb e.0 group (λ same. omega (arith, same, greater e.0 (key-in e has)))))
  where
    key-in : (e : ℕ × Counters) → Contains counters e → has_number e.0 (keys_of counters) ≡ true
    key-in e has = number-in e.0 (keys_of counters) (contains_map (λ (one : ℕ × Counters). one.0) counters e has)

-- what stands at a place is contained
contains-got : {A : Type 0} (xs : List A) (place : ℕ) (x : A) → slice_get xs place ≡ Some x → Contains xs x
contains-got [] place x wrong = absurd cc
contains-got {A} (y ∷ ys) zero x same =
    subst (λ (z : A). Contains (y ∷ ys) z) (same_Some y x same) (contains_here y ys)
contains-got (y ∷ ys) (suc place) x same = contains_later y ys x (contains-got ys place x same)

-- an entry of a list that ascends is what it has at the entry's number
pub value-of : {A : Type 0} (table : List (ℕ × A)) (entry : ℕ × A) → IsStrictlySortedBy nat_cmp (keys_of table)
    → Contains table entry → value_at entry.0 table ≡ Some entry.1
value-of [] entry up has = absurd (none_contained entry has)
value-of {A} (e ∷ table) entry up has = elim (contains_cases e table entry has) [
  | inl here ↦
      cond-true (e.0 == entry.0) (Some e.1) (value_at entry.0 table)
      (eq-eqb e.0 entry.0 (ap (λ (x : ℕ × A). x.0) here)) ∙ ap (λ (x : ℕ × A). Some x.1) here
  | inr later ↦
      let less = first_least e.0 (keys_of table) up entry.0
      (number-in entry.0 (keys_of table) (contains_map (λ (x : ℕ × A). x.0) table entry later)) in
      cond-false (e.0 == entry.0) (Some e.1) (value_at entry.0 table)
      (ne_eqb e.0 entry.0 (λ same. omega (arith, same, less)))
      ∙ value-of table entry (sorted_tail nat_cmp e.0 (keys_of table) up) later
]

-- so a group has one pair of counters
pub counters-one : (counters : List (ℕ × Counters)) (place group : ℕ) (kept other : Counters)
    → IsStrictlySortedBy nat_cmp (keys_of counters) → slice_get counters place ≡ Some (group, kept)
    → Contains counters (group, other) → kept ≡ other
counters-one counters place group kept other up is has =
    same_Some kept other
    (sym (value-of counters (group, kept) up (contains-got counters place (group, kept) is))
    ∙ value-of counters (group, other) up has)

-- counters that are set at a group's place are the group's from then on
pub set-at : (group place : ℕ) (change : Counters → Counters) (counters : List (ℕ × Counters)) (kept : Counters)
    → IsStrictlySortedBy nat_cmp (keys_of counters) → slice_get counters place ≡ Some (group, kept)
    → slice_set counters place (group, change kept) ≡ with_counters group change counters
set-at group place change [] kept up is = absurd cc
set-at group zero change (e ∷ counters) kept up is =
    let same : e ≡ (group, kept) = same_Some e (group, kept) is in
    let here : e.0 ≡ group = ap (λ (one : ℕ × Counters). one.0) same in
    let there : e.1 ≡ kept = ap (λ (one : ℕ × Counters). one.1) same in
    sym (ap (λ (one : ℕ × Counters). one ∷ with_counters group change counters)
    (cond-true (e.0 == group) (e.0, change e.1) e (eq-eqb e.0 group here)
    ∙ ap (λ (n : ℕ). (n, change e.1)) here ∙ ap (λ (c : Counters). (group, change c)) there)
    ∙ ap (λ rest. (group, change kept) ∷ rest)
    (others-left group change counters (λ n has. subst (λ (m : ℕ). m < n) here
    (first_least e.0 (keys_of counters) up n has))))
set-at group (suc place) change (e ∷ counters) kept up is =
    ap (λ rest. e ∷ rest)
    (set-at group place change counters kept (sorted_tail nat_cmp e.0 (keys_of counters) up) is)
    ∙ sym (ap (λ (one : ℕ × Counters). one ∷ with_counters group change counters)
    (cond-false (e.0 == group) (e.0, change e.1) e
    (ne_eqb e.0 group (λ same. omega (arith, same, first_least e.0 (keys_of counters) up group later)))))
  where
    later : has_number group (keys_of counters) ≡ true
    later =
        number-in group (keys_of counters)
        (contains_map (λ (one : ℕ × Counters). one.0) counters (group, kept)
        (contains-got counters place (group, kept) is))

-- a group that stands at a place has counters there
pub counters-at : (counters : List (ℕ × Counters)) (place group : ℕ) (one : ℕ × Counters)
    → slice_get (keys_of counters) place ≡ Some group → one ≡ get_or counters place one
    → slice_get counters place ≡ Some (group, one.1)
counters-at [] place group one is same = absurd cc
counters-at (e ∷ counters) zero group one is same =
    ap (λ (c : Counters). Some (e.0, c)) (sym (ap (λ (x : ℕ × Counters). x.1) same))
    ∙ ap (λ (n : ℕ). Some (n, one.1)) (same_Some e.0 group is)
counters-at (e ∷ counters) (suc place) group one is same = counters-at counters place group one is same

pub place-short : (xs : List ℕ) (place n : ℕ) → slice_get xs place ≡ Some n → place < length xs
place-short [] place n is = absurd cc
place-short (x ∷ xs) zero n is = omega arith
place-short (x ∷ xs) (suc place) n is = let rest = place-short xs place n is in omega (arith, rest)

-- the keys stay
pub keys-with : (group : ℕ) (change : Counters → Counters) (counters : List (ℕ × Counters))
    → keys_of (with_counters group change counters) ≡ keys_of counters
keys-with group change [] = refl
keys-with group change (e ∷ counters) =
    ap (λ (n : ℕ). n ∷ keys_of (with_counters group change counters)) (by (e.0 == group))
    ∙ ap (λ rest. e.0 ∷ rest) (keys-with group change counters)
  where
    by : (b : Bool) → (if b then (e.0, change e.1) else e).0 ≡ e.0
    by true = refl
    by false = refl

-- ---- group after group

module _ (hierarchy : Hierarchy) (change : OwnerChange) (initial : List (ℕ × Counters)) where
  -- the groups that aren't left have moved, and could
  pub record HaveMoved (left : List ℕ) (counters : List (ℕ × Counters)) : Type 0 where
    pub moved : counters ≡ moved_but left hierarchy change initial
    pub kept : (group : ℕ) → has_number group left ≡ true → is_kept hierarchy group ≡ true
    pub can : (group : ℕ) (kept : Counters) → Contains initial (group, kept) → has_number group left ≡ false
        → CanMove (is_member hierarchy group) change kept

  group-kept : keys_of initial ≡ hierarchy.groups → (e : ℕ × Counters) → Contains initial e
      → is_kept hierarchy e.0 ≡ true
  group-kept same e has =
      ap (has_number e.0) (sym same)
      ∙ number-in e.0 (keys_of initial) (contains_map (λ (one : ℕ × Counters). one.0) initial e has)

  -- at first all candidates are left
  module _ (subs left : List ℕ) (are : ArePivots change.before change.now subs)
      (same : keys_of initial ≡ hierarchy.groups)
      (has : (group : ℕ) → has_number group left
      ≡ (list_any (is_member hierarchy group) subs && is_kept hierarchy group)) where
    no-pivot : (e : ℕ × Counters) → Contains initial e → has_number e.0 left ≡ false
        → list_any (is_member hierarchy e.0) subs ≡ false
    no-pivot e there none =
        sym (and_true (list_any (is_member hierarchy e.0) subs))
        ∙ ap (λ (b : Bool). list_any (is_member hierarchy e.0) subs && b) (sym (group-kept same e there))
        ∙ sym (has e.0) ∙ none
      where
        and_true : (b : Bool) → (b && true) ≡ b
        and_true true = refl
        and_true false = refl

    kept-of : (any kept : Bool) → (any && kept) ≡ true → kept ≡ true
    kept-of true kept is = is
    kept-of false kept wrong = absurd cc

    pub moved-none : HaveMoved left initial
    moved-none = record {
      moved = sym (map-nothing (λ (e : ℕ × Counters). if has_number e.0 left then e else group_moved hierarchy change e)
          initial each);
      kept = λ group is. kept-of (list_any (is_member hierarchy group) subs) (is_kept hierarchy group)
          (sym (has group) ∙ is);
      can = λ group kept there none. others-can (is_member hierarchy group) change kept subs are
          (no-pivot (group, kept) there none);
    } where
      each : (e : ℕ × Counters) → Contains initial e
          → (if has_number e.0 left then e else group_moved hierarchy change e) ≡ e
      each e there = elim (cases_Bool (has_number e.0 left)) [
        | inl is ↦ cond-true (has_number e.0 left) e (group_moved hierarchy change e) is
        | inr none ↦ cond-false (has_number e.0 left) e (group_moved hierarchy change e) none
            ∙ ap (λ (c : Counters). (e.0, c))
            (others-keep (is_member hierarchy e.0) change e.1 subs are (no-pivot e there none))
      ]

  -- one group more has moved
  module _ (group : ℕ) (left : List ℕ) (up : IsStrictlySortedBy nat_cmp (group ∷ left)) where
    once : has_number group left ≡ false
    once = by (has_number group left) refl where
      by : (b : Bool) → has_number group left ≡ b → b ≡ false
      by false is = refl
      by true is = absurd (omega (arith, first_least group left up group is))

    -- its counters are those that it had
    still-there : (kept : Counters) → Contains initial (group, kept)
        → Contains (moved_but (group ∷ left) hierarchy change initial) (group, kept)
    still-there kept has =
        subst (λ (e : ℕ × Counters). Contains (moved_but (group ∷ left) hierarchy change initial) e)
        (cond-true (has_number group (group ∷ left)) (group, kept) (group_moved hierarchy change (group, kept))
        (has_first group left))
        (contains_map (λ (e : ℕ × Counters). if has_number e.0 (group ∷ left) then e else group_moved hierarchy change
        e)
        initial (group, kept) has)

    was-there : (kept : Counters) → Contains (moved_but (group ∷ left) hierarchy change initial) (group, kept)
        → Contains initial (group, kept)
    was-there kept has =
        let one =
        one_mapped (λ (e : ℕ × Counters). if has_number e.0 (group ∷ left) then e else group_moved hierarchy change e)
        initial (group, kept) has in
        by one.0 one.1 one.2 (has_number one.0.0 (group ∷ left)) refl
      where
        by : (e : ℕ × Counters) → Contains initial e
            → (if has_number e.0 (group ∷ left) then e else group_moved hierarchy change e) ≡ (group, kept)
            → (b : Bool) → has_number e.0 (group ∷ left) ≡ b → Contains initial (group, kept)
        by e there is true listed =
            subst (λ (x : ℕ × Counters). Contains initial x)
            (sym (cond-true (has_number e.0 (group ∷ left)) e (group_moved hierarchy change e) listed) ∙ is) there
        by e there is false other =
            let image = sym (cond-false (has_number e.0 (group ∷ left)) e (group_moved hierarchy change e) other) ∙ is
            in
            let same : e.0 ≡ group = ap (λ (x : ℕ × Counters). x.0) image in
            absurd (true≢false (sym (has_first group left) ∙ ap (λ (n : ℕ). has_number n (group ∷ left)) (sym same)
            ∙ other))

    abbrev set : ℕ × Counters → ℕ × Counters
    set e = if e.0 == group then (e.0, moved (is_member hierarchy group) change e.1) else e

    abbrev before : ℕ × Counters → ℕ × Counters
    before e = if has_number e.0 (group ∷ left) then e else group_moved hierarchy change e

    abbrev after : ℕ × Counters → ℕ × Counters
    after e = if has_number e.0 left then e else group_moved hierarchy change e

    here : (e : ℕ × Counters) → group ≡ e.0 → set (before e) ≡ after e
    here e same =
        ap set (cond-true (has_number e.0 (group ∷ left)) e (group_moved hierarchy change e)
        (or_left (group == e.0) (has_number e.0 left) (eq-eqb group e.0 same)))
        ∙ cond-true (e.0 == group) (e.0, moved (is_member hierarchy group) change e.1) e (eq-eqb e.0 group (sym same))
        ∙ ap (λ (n : ℕ). (e.0, moved (is_member hierarchy n) change e.1)) same
        ∙ sym (cond-false (has_number e.0 left) e (group_moved hierarchy change e)
        (ap (λ (n : ℕ). has_number n left) (sym same) ∙ once))

    same-number : (e : ℕ × Counters) (b : Bool) → (if b then e else group_moved hierarchy change e).0 ≡ e.0
    same-number e true = refl
    same-number e false = refl

    set-other : (e : ℕ × Counters) → (e.0 ≡ group → ⊥) → set e ≡ e
    set-other e differs =
        cond-false (e.0 == group) (e.0, moved (is_member hierarchy group) change e.1) e (ne_eqb e.0 group differs)

    elsewhere : (e : ℕ × Counters) → (group == e.0) ≡ false → set (before e) ≡ after e
    elsewhere e other =
        ap set (ap (λ (b : Bool). if b then e else group_moved hierarchy change e)
        (ap (λ (b : Bool). b || has_number e.0 left) other))
        ∙ set-other (after e) (λ same. true≢false
        (sym (eq-eqb group e.0 (sym (sym (same-number e (has_number e.0 left)) ∙ same))) ∙ other))

    each : (e : ℕ × Counters) → set (before e) ≡ after e
    each e = elim (cases_Bool (group == e.0)) [
      | inl same ↦ here e (eqb-true group e.0 same)
      | inr other ↦ elsewhere e other
    ]

    moved-next : with_counters group (moved (is_member hierarchy group) change)
        (moved_but (group ∷ left) hierarchy change initial) ≡ moved_but left hierarchy change initial
    moved-next = map-twice set before initial ∙ map-same (λ e. set (before e)) after initial (λ e there. each e)

    module _ (counters : List (ℕ × Counters)) (are : HaveMoved (group ∷ left) counters) where
      pub moved-more : (more : List (ℕ × Counters))
          → more ≡ with_counters group (moved (is_member hierarchy group) change) counters
          → ((kept : Counters) → Contains counters (group, kept) → CanMove (is_member hierarchy group) change kept)
          → HaveMoved left more
      moved-more more is could = record {
        moved = is ∙ ap (with_counters group (moved (is_member hierarchy group) change)) are.moved ∙ moved-next;
        kept = λ n listed. are.kept n (or_right (group == n) (has_number n left) listed);
        can = λ n kept there none. elim (cases_Bool (group == n)) [
          | inl same ↦
              let is' = eqb-true group n same in
              subst (λ (m : ℕ). CanMove (is_member hierarchy m) change kept) is'
              (could kept (subst (λ (xs : List (ℕ × Counters)). Contains xs (group, kept)) (sym are.moved)
              (still-there kept (subst (λ (m : ℕ). Contains initial (m, kept)) (sym is') there))))
          | inr other ↦ are.can n kept there (or_from (group == n) (has_number n left) other none)
        ];
      }

      pub moved-broken : (kept : Counters) → Contains counters (group, kept)
          → (CanMove (is_member hierarchy group) change kept → ⊥) → CanTake hierarchy change initial → ⊥
      moved-broken kept there broken could =
          broken (could group kept
          (was-there kept (subst (λ (xs : List (ℕ × Counters)). Contains xs (group, kept)) are.moved there)))

  -- the keys are those that there were
  pub keys-moved : (left : List ℕ) (counters : List (ℕ × Counters)) → HaveMoved left counters
      → keys_of counters ≡ keys_of initial
  keys-moved left counters are = ap keys_of are.moved ∙ all initial where
    by : (e : ℕ × Counters) (b : Bool) → (if b then e else group_moved hierarchy change e).0 ≡ e.0
    by e true = refl
    by e false = refl

    all : (xs : List (ℕ × Counters)) → keys_of (moved_but left hierarchy change xs) ≡ keys_of xs
    all [] = refl
    all (e ∷ xs) =
        ap (λ (n : ℕ). n ∷ keys_of (moved_but left hierarchy change xs)) (by e (has_number e.0 left))
        ∙ ap (λ rest. e.0 ∷ rest) (all xs)

  pub moved-not : HaveMovedInPart hierarchy change initial initial
  moved-not = (
    keys_of initial,
    sym (map-nothing
        (λ (e : ℕ × Counters). if has_number e.0 (keys_of initial) then e else group_moved hierarchy change e) initial
        (λ e has. cond-true (has_number e.0 (keys_of initial)) e (group_moved hierarchy change e)
        (number-in e.0 (keys_of initial) (contains_map (λ (one : ℕ × Counters). one.0) initial e has)))),
  )

-- ---- the place of a group

-- where numbers before a place are less, and those from it on are not, the number itself stands there
pub at-place : (counters : List (ℕ × Counters)) (place group : ℕ)
    → ((k : ℕ) (d : ℕ × Counters) → k < place → (get_or counters k d).0 < group)
    → ((k : ℕ) (d : ℕ × Counters) → place ≤ k → k < length counters → group ≤ (get_or counters k d).0)
    → IsStrictlySortedBy nat_cmp (keys_of counters) → has_number group (keys_of counters) ≡ true
    → slice_get (keys_of counters) place ≡ Some group
at-place [] place group less rest up has = absurd (true≢false (sym has))
at-place (e ∷ counters) zero group less rest up has = elim (or_cases (e.0 == group)
    (has_number group (keys_of counters)) has) [
      | inl here ↦ ap Some (eqb-true e.0 group here)
      | inr later ↦
          let least = first_least e.0 (keys_of counters) up group later in
          let most = rest 0 e (omega arith) (omega arith) in
          absurd (omega (arith, least, most))
    ]
at-place (e ∷ counters) (suc place) group less rest up has =
    let first = less 0 e (omega arith) in
    at-place counters place group (λ k d short. less (suc k) d (omega (arith, short)))
    (λ k d low short. rest (suc k) d (omega (arith, low)) (omega (arith, short)))
    (sorted_tail nat_cmp e.0 (keys_of counters) up)
    (elim (or_cases (e.0 == group) (has_number group (keys_of counters)) has) [
      | inl here ↦ absurd (omega (arith, first, eqb-true e.0 group here))
      | inr later ↦ later
    ])

-- ---- faults

pub on-err : {A E : Type 0} (P : Type 0) (result : Result A E) → P → OnErr result P
on-err P (Ok value) said = tt
on-err P (Err fault) said = said

-- a fault that is handed on
pub broken-handed : {A : Type 0} (result : Result A CounterFault) (fault : CounterFault) (P : Type 0)
    → IsErrAnd result (λ given. given ≡ fault) → (fault ≡ why.Broken → P)
    → IfErr result (λ given. given ≡ why.Broken → P)
broken-handed (Ok value) fault P is gives = tt
broken-handed (Err given) fault P is gives = λ broken. gives (sym is ∙ broken)
