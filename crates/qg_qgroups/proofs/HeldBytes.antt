-- What is set and held, by a map and by its entries.
use Rattle.std.proofs.Common.{◌≡◌, ℕ, ◌+◌, ◌*◌, ◌<◌, ◌≤◌, ◌^◌, true, false, List, [], ◌∷◌, length, take, drop, get_or}
use Rattle.std.proofs.Common.{map, Option, Some, None, refl, sym, ap, subst, ◌∙◌, arith, inl, inr, unwrap_or}
use Rattle.std.specs.Prelude.{if◌then◌else◌, ◌==◌, is_some, slice_get, IsTrue}
use Rattle.std.specs.List.{All, cons_option, filter_map}
use Rattle.std.specs.Option.{option_map}
use Rattle.std.specs.BTreeMap.{BTreeMap, Updates, get}
use Rattle.std.specs.Ordering.{nat_cmp}
use Rattle.std.proofs.lemmas.Bool.{cases_Bool, cond-true, cond-false, true≢false}
use Rattle.std.proofs.lemmas.Bool.Decides.{nat_tests}
use Rattle.std.proofs.lemmas.List.{drop_more}
use Rattle.std.proofs.lemmas.List.Elements.{All-get_or, All-weaker}
use Rattle.std.proofs.lemmas.List.Sums.{count_by_more_yes, count_by_more_no, sum_by-take-le}
use Rattle.std.proofs.Math.Nat.{mul-le-mul_left}
use Rattle.qg_num.specs.declared.counters.Counters.{Counters}
use Rattle.qg_num.specs.declared.counters.Which.{Which}
use Rattle.qg_image.specs.Table.{has_key}
use Rattle.qg_image.specs.declared.quota.Group.{Group}
use Rattle.qg_image.specs.Limits.{first_over, limit_passed}
use Rattle.qg_qgroups.specs.declared.limits.Maxima.{Maxima}
use Rattle.qg_qgroups.specs.Limit.{Limited, IsSetAt, bytes_after, bytes_at, first_over_of, held_of, limited_group}
use Rattle.qg_qgroups.specs.Limit.{maxima_at, no_maxima, times_named}
use Rattle.qg_qgroups.proofs.MapsByNumber.{got_at, set_at}

-- ---- limits

none_is : (o : Option ℕ) → is_some o ≡ false → None ≡ o
none_is None none = refl
none_is (Some n) none = absurd (true≢false none)

-- a group without both limits has none
pub without_both : (both : Maxima) → is_some both.rfer ≡ false → is_some both.excl ≡ false → no_maxima ≡ both
without_both both rfer excl =
    ap (λ (o : Option ℕ). record { rfer = o; excl = None }) (none_is both.rfer rfer)
    ∙ ap (λ (o : Option ℕ). record { rfer = both.rfer; excl = o }) (none_is both.excl excl)

pub maxima_got : (maxima : BTreeMap ℕ Maxima) (group : ℕ) (o : Option Maxima) → get nat_cmp maxima group ≡ o
    → unwrap_or o no_maxima ≡ maxima_at maxima.entries group
maxima_got maxima group o got = ap (λ (p : Option Maxima). unwrap_or p no_maxima) (sym (got_at maxima group ∙ got))

pub maxima_set : (old new : BTreeMap ℕ Maxima) (group : ℕ) (w : Option Maxima) (both : Maxima)
    → Updates nat_cmp old new group w → unwrap_or w no_maxima ≡ both
    → IsSetAt old.entries new.entries group both
maxima_set old new group w both sets is = set_at old new group w no_maxima both sets is

-- ---- what is held

pub bytes_got : (held : BTreeMap ℕ ℕ) (group : ℕ) → unwrap_or (get nat_cmp held group) 0 ≡ bytes_at held.entries group
bytes_got held group = ap (λ (o : Option ℕ). unwrap_or o 0) (sym (got_at held group))

pub bytes_set : (old new : BTreeMap ℕ ℕ) (group bytes : ℕ) → Updates nat_cmp old new group (Some bytes) → (other : ℕ)
    → bytes_at new.entries other ≡ (if other == group then bytes else bytes_at old.entries other)
bytes_set old new group bytes sets other = set_at old new group (Some bytes) 0 bytes sets refl other

-- an entry of nothing changes nothing that is held
pub room_made : (old new : BTreeMap ℕ ℕ) (group : ℕ) → Updates nat_cmp old new group (Some 0)
    → get nat_cmp old group ≡ None → (other : ℕ) → bytes_at new.entries other ≡ bytes_at old.entries other
room_made old new group sets none other = elim (cases_Bool (other == group)) [
  | inl here ↦
      let is : other ≡ group = grind (arith, nat_tests) in
      bytes_set old new group 0 sets other ∙ cond-true _ _ _ here
      ∙ sym (ap (λ (g : ℕ). bytes_at old.entries g) is ∙ ap (λ (o : Option ℕ). unwrap_or o 0) (got_at old group
      ∙ none))
  | inr apart ↦ bytes_set old new group 0 sets other ∙ cond-false _ _ _ apart
]

-- what is listed is found
pub not_absent : (held : BTreeMap ℕ ℕ) (k group : ℕ) → k ≡ group → has_key group held.entries ≡ true
    → get nat_cmp held k ≡ None → ⊥
not_absent held k group is has none =
    true≢false (sym has ∙ ap (λ (o : Option ℕ). is_some o) (got_at held group
    ∙ ap (λ (n : ℕ). get nat_cmp held n) (sym is) ∙ none))

-- the next group of a path is listed
pub next_listed : (path : List ℕ) (i named : ℕ) (entries : List (ℕ × ℕ)) → i < length path → named ≡ get_or path i named
    → All (λ group. IsTrue (has_key group entries)) path → has_key named entries ≡ true
next_listed path i named entries inside is there =
    subst (λ (group : ℕ). has_key group entries ≡ true) (sym is)
    (All-get_or (λ (group : ℕ). IsTrue (has_key group entries)) path i named inside there)

-- ---- what is held for each group of a path

-- one where two groups are the same
abbrev pub one : ℕ → ℕ → ℕ
one named group = if named == group then 1 else 0

-- one group of the path more
times_more : (path : List ℕ) (i group named : ℕ) → i < length path → named ≡ get_or path i named
    → times_named (take (i + 1) path) group ≡ times_named (take i path) group + one named group
times_more path i group named inside is = elim (cases_Bool (named == group)) [
  | inl here ↦
      let at : (get_or path i named == group) ≡ true = subst (λ (n : ℕ). (n == group) ≡ true) is here in
      let single : one named group ≡ 1 = cond-true _ _ _ here in
      omega (arith, single, count_by_more_yes (λ (n : ℕ). n == group) path i named inside at)
  | inr apart ↦
      let at : (get_or path i named == group) ≡ false = subst (λ (n : ℕ). (n == group) ≡ false) is apart in
      let none : one named group ≡ 0 = cond-false _ _ _ apart in
      omega (arith, none, count_by_more_no (λ (n : ℕ). n == group) path i named inside at)
]

-- what is held for the next group of a path has room for so many bytes
pub next_fits : (start : List (ℕ × ℕ)) (path : List ℕ) (n i named : ℕ) → i < length path → named ≡ get_or path i named
    → All (λ group. bytes_after start path n group < 2 ^ 64) path → bytes_after start (take i path) n named + n < 2 ^ 64
next_fits start path n i named inside is fits =
    let all : bytes_at start named + n * times_named path named < 2 ^ 64 =
    subst (λ (group : ℕ). bytes_after start path n group < 2 ^ 64) (sym is)
    (All-get_or (λ (group : ℕ). bytes_after start path n group < 2 ^ 64) path i named inside fits) in
    let same : (named == named) ≡ true = grind (arith, nat_tests) in
    let single : one named named ≡ 1 = cond-true _ _ _ same in
    let few : times_named (take (i + 1) path) named ≤ times_named path named =
    sum_by-take-le (λ (group : ℕ). if group == named then 1 else 0) path (i + 1) in
    let more : times_named (take i path) named + 1 ≤ times_named path named =
    omega (arith, few, single, times_more path i named named inside is) in
    let scaled : n * (times_named (take i path) named + 1) ≤ n * times_named path named = mul-le-mul_left n more in
    omega (arith, all, scaled)

-- and is as much more after it
pub next_held : (start : List (ℕ × ℕ)) (old new : BTreeMap ℕ ℕ) (path : List ℕ) (n i named bytes : ℕ) → i < length path
    → named ≡ get_or path i named
    → ((group : ℕ) → bytes_at old.entries group ≡ bytes_after start (take i path) n group)
    → bytes ≡ bytes_at old.entries named → Updates nat_cmp old new named (Some (bytes + n))
    → (group : ℕ) → bytes_at new.entries group ≡ bytes_after start (take (i + 1) path) n group
next_held start old new path n i named bytes inside is held got sets group =
    let more = times_more path i group named inside is in
    let put = bytes_set old new named (bytes + n) sets group in
    elim (cases_Bool (named == group)) [
      | inl here ↦
          let equal : named ≡ group = grind (arith, nat_tests) in
          let flipped : (group == named) ≡ true = grind (arith, nat_tests) in
          let single : one named group ≡ 1 = cond-true _ _ _ here in
          let now : bytes_at new.entries group ≡ bytes + n = put ∙ cond-true _ _ _ flipped in
          let was : bytes ≡ bytes_after start (take i path) n group = got ∙ ap (λ (g : ℕ). bytes_at old.entries g) equal
          ∙ held group in
          let times : times_named (take (i + 1) path) group ≡ times_named (take i path) group + 1 =
          omega (arith, more, single) in
          let scaled : n * times_named (take (i + 1) path) group ≡ n * (times_named (take i path) group + 1) =
          ap (λ (t : ℕ). n * t) times in
          omega (arith, now, was, scaled)
      | inr apart ↦
          let flipped : (group == named) ≡ false = grind (arith, nat_tests) in
          let none : one named group ≡ 0 = cond-false _ _ _ apart in
          let now : bytes_at new.entries group ≡ bytes_at old.entries group = put ∙ cond-false _ _ _ flipped in
          let times : times_named (take (i + 1) path) group ≡ times_named (take i path) group =
          omega (arith, more, none) in
          now ∙ held group ∙ ap (λ (t : ℕ). bytes_at start group + n * t) (sym times)
    ]

-- as many bytes stand for each group of a path where others are held for none
pub fits_still : (old new : List (ℕ × ℕ)) (path : List ℕ) (n : ℕ)
    → ((group : ℕ) → bytes_at new group ≡ bytes_at old group)
    → All (λ group. bytes_after old path n group < 2 ^ 64) path
    → All (λ group. bytes_after new path n group < 2 ^ 64) path
fits_still old new path n same fits =
    All-weaker (λ (group : ℕ). bytes_after old path n group < 2 ^ 64)
    (λ (group : ℕ). bytes_after new path n group < 2 ^ 64) (λ group few. omega (arith, few, same group)) path fits

-- ---- the first group over its limit

pub over_here : (reserved : ℕ → ℕ) (n : ℕ) (entry : ℕ × Group) (entries : List (ℕ × Group)) (which : Which)
    → limit_passed (reserved entry.0) n entry.1 ≡ Some which
    → first_over reserved n (entry ∷ entries) ≡ Some (entry.0, which)
unfolding first_over
over_here reserved n entry entries which is =
    ap (λ (o : Option Which). slice_get (cons_option (option_map (λ (w : Which). (entry.0, w)) o)
    (filter_map (λ (e : ℕ × Group). option_map (λ (w : Which). (e.0, w)) (limit_passed (reserved e.0) n e.1)) entries))
    0) is

pub over_later : (reserved : ℕ → ℕ) (n : ℕ) (entry : ℕ × Group) (entries : List (ℕ × Group))
    → limit_passed (reserved entry.0) n entry.1 ≡ None
    → first_over reserved n (entry ∷ entries) ≡ first_over reserved n entries
unfolding first_over
over_later reserved n entry entries is =
    ap (λ (o : Option Which). slice_get (cons_option (option_map (λ (w : Which). (entry.0, w)) o)
    (filter_map (λ (e : ℕ × Group). option_map (λ (w : Which). (e.0, w)) (limit_passed (reserved e.0) n e.1)) entries))
    0) is

-- the rest of a path from a group on
rest_of : (limited : Limited) (path : List (ℕ × Counters)) (n i : ℕ) (entry : ℕ × Counters) → i < length path
    → entry ≡ get_or path i entry
    → first_over_of limited (drop i path) n ≡ first_over_of limited (entry ∷ drop (i + 1) path) n
rest_of limited path n i entry inside is =
    ap (λ (entries : List (ℕ × Counters)). first_over_of limited entries n)
    (drop_more path i entry inside ∙ ap (λ (e : ℕ × Counters). e ∷ drop (i + 1) path) (sym is))

pub passed_here : (limited : Limited) (path : List (ℕ × Counters)) (n i : ℕ) (entry : ℕ × Counters) (which : Which)
    → i < length path → entry ≡ get_or path i entry
    → limit_passed (held_of limited entry.0) n (limited_group limited entry).1 ≡ Some which
    → first_over_of limited (drop i path) n ≡ Some (entry.0, which)
passed_here limited path n i entry which inside is here =
    rest_of limited path n i entry inside is ∙ over_here (held_of limited) n (limited_group limited entry)
    (map (limited_group limited) (drop (i + 1) path)) which here

pub passed_later : (limited : Limited) (path : List (ℕ × Counters)) (n i : ℕ) (entry : ℕ × Counters) → i < length path
    → entry ≡ get_or path i entry
    → limit_passed (held_of limited entry.0) n (limited_group limited entry).1 ≡ None
    → first_over_of limited (drop i path) n ≡ first_over_of limited (drop (i + 1) path) n
passed_later limited path n i entry inside is none =
    rest_of limited path n i entry inside is ∙ over_later (held_of limited) n (limited_group limited entry)
    (map (limited_group limited) (drop (i + 1) path)) none

-- past its end nothing is left
pub passed_none : (limited : Limited) (n : ℕ) → first_over_of limited [] n ≡ None
unfolding first_over
passed_none limited n = refl
