-- What was read of all nodes is the layout's, in the order of their numbers.
use Rattle.std.proofs.Common.{◌≡◌, ℕ, suc, ◌<◌, ◌≤◌, Bool, true, false, cond, List, [], ◌∷◌, map, length, Option, Some}
use Rattle.std.proofs.Common.{None, refl, sym, ap, subst, ◌∙◌, arith, inl, inr}
use Rattle.std.specs.Prelude.{◌==◌, Contains, IsSome}
use Rattle.std.specs.BTreeMap.{is_at}
use Rattle.std.specs.List.{AllByRecursion}
use Rattle.std.specs.List.Sorted.{IsStrictlyIncreasing, IsStrictlySortedBy}
use Rattle.std.specs.Option.{option_map}
use Rattle.std.specs.Ordering.{nat_cmp}
use Rattle.std.proofs.lemmas.Bool.{cases_Bool, cond-true, cond-false, eq-eqb, eqb-true, true≢false}
use Rattle.std.proofs.lemmas.Bool.Decides.{nat_tests}
use Rattle.std.proofs.lemmas.Map.Keys.{sorted_from_strictly_increasing}
use Rattle.std.proofs.lemmas.Option.{same_Some}
use Rattle.qg_image.specs.Table.{keys_of, value_at}
use Rattle.qg_image.specs.State.{Placed, State}
use Rattle.qg_image.proofs.Contained.{contains_cases, contains_here, contains_later, none_contained}
use Rattle.qg_reach.proofs.Ascending.{Rise, rise_sorted, rises_same}
use Rattle.qg_reach.proofs.Members.{each_contained}
use Rattle.qg_qgroup_counts.specs.Surveyed.{surveyed_of}
use Rattle.qg_qgroup_counts.specs.declared.surveyed.Surveyed.{Surveyed}
use Rattle.qg_survey.specs.Surveying.{AreRead, link_at}
use Rattle.qg_survey.proofs.Reading.{is-there, there-is}

-- ---- what was read of all nodes

at_number : (q n : ℕ) → is_at (nat_cmp q) n ≡ (n == q)
at_number q n = grind (arith, nat_tests)

-- what a map has at a number
pub link-value : (links : List (ℕ × Surveyed)) (q : ℕ) → link_at links q ≡ value_at q links
link-value [] q = refl
link-value (entry ∷ links) q =
    ap (λ (o : Option Surveyed). cond (is_at (nat_cmp q) entry.0) (Some entry.1) o) (link-value links q)
    ∙ ap (λ (b : Bool). cond b (Some entry.1) (value_at q links)) (at_number q entry.0)

-- the nodes of a layout, as they are read
abbrev linked_there : ℕ × Placed → ℕ × Surveyed
linked_there entry = (entry.0, surveyed_of entry.0 entry.1)

keys-linked : (layout : List (ℕ × Placed)) → keys_of (map linked_there layout) ≡ keys_of layout
keys-linked [] = refl
keys-linked (entry ∷ layout) = ap (λ (ns : List ℕ). entry.0 ∷ ns) (keys-linked layout)

values-linked : (layout : List (ℕ × Placed)) → map (λ (e : ℕ × Surveyed). e.1) (map linked_there layout)
    ≡ map (λ (e : ℕ × Placed). surveyed_of e.0 e.1) layout
values-linked [] = refl
values-linked (entry ∷ layout) = ap (λ (ls : List Surveyed). surveyed_of entry.0 entry.1 ∷ ls) (values-linked layout)

value-linked : (layout : List (ℕ × Placed)) (q : ℕ) → value_at q (map linked_there layout)
    ≡ option_map (surveyed_of q) (value_at q layout)
value-linked [] q = refl
value-linked (entry ∷ layout) q = elim (cases_Bool (entry.0 == q)) [
  | inl is ↦
      cond-true (entry.0 == q) _ _ is ∙ ap (λ (n : ℕ). Some (surveyed_of n entry.1)) (eqb-true entry.0 q is)
      ∙ ap (option_map (surveyed_of q)) (sym (cond-true (entry.0 == q) (Some entry.1) (value_at q layout) is))
  | inr differs ↦
      cond-false (entry.0 == q) _ _ differs ∙ value-linked layout q
      ∙ ap (option_map (surveyed_of q)) (sym (cond-false (entry.0 == q) (Some entry.1) (value_at q layout) differs))
]

-- where all nodes of a layout were read, what was read are they, by address
pub links-are : (state : State) (links : List (ℕ × Surveyed)) → AreRead state links
    → ((q : ℕ) (placed : Placed) → value_at q state.layout ≡ Some placed → IsSome (link_at links q))
    → IsStrictlySortedBy nat_cmp (map (λ (e : ℕ × Surveyed). e.0) links) → IsStrictlyIncreasing (keys_of state.layout)
    → map (λ (e : ℕ × Surveyed). e.1) links ≡ map (λ (e : ℕ × Placed). surveyed_of e.0 e.1) state.layout
links-are state links read all sorted up =
    ap (map (λ (e : ℕ × Surveyed). e.1)) (rises_same links (map linked_there state.layout)
    (rise_sorted (keys_of links) sorted)
    (subst Rise (sym (keys-linked state.layout))
    (rise_sorted (keys_of state.layout) (sorted_from_strictly_increasing (keys_of state.layout) up))) same)
    ∙ values-linked state.layout
  where
    none : (q : ℕ) → value_at q state.layout ≡ None → (o : Option Surveyed) → link_at links q ≡ o → o ≡ None
    none q missing None is = refl
    none q missing (Some link) is =
        let its = read.each q link is in
        absurd (let both : Some its.0 ≡ None = sym its.1 ∙ missing in cc)

    at : (q : ℕ) (o : Option Placed) → value_at q state.layout ≡ o → link_at links q ≡ option_map (surveyed_of q) o
    at q None missing = none q missing (link_at links q) refl
    at q (Some placed) has =
        let link = there-is (link_at links q) (all q placed has) in
        let its = read.each q link.0 link.1 in
        let one : its.0 ≡ placed = same_Some its.0 placed (sym its.1 ∙ has) in
        link.1 ∙ ap (λ (l : Surveyed). Some l) (its.2 ∙ ap (surveyed_of q) one)

    same : (q : ℕ) → value_at q links ≡ value_at q (map linked_there state.layout)
    same q = sym (link-value links q) ∙ at q (value_at q state.layout) refl ∙ sym (value-linked state.layout q)

-- ---- how many

-- numbers that ascend, each of which stands among others that ascend, are no more than these
few : (ms ns : List ℕ) → Rise ms → Rise ns → ((q : ℕ) → Contains ms q → Contains ns q) → length ms ≤ length ns
few [] ns up up' all = omega arith
few (a ∷ ms) [] up up' all = absurd (none_contained a (all a (contains_here a ms)))
few (a ∷ ms) (b ∷ ns) up up' all = elim (cases_Bool (a == b)) [
  | inl is ↦
      let rest = few ms ns up.1 up'.1 (λ n has. past (eqb-true a b is) n has) in
      omega (arith, rest)
  | inr differs ↦
      let rest = few (a ∷ ms) ns up up'.1 (λ n has. later differs n has) in
      omega (arith, rest)
] where
  above : (c : ℕ) (cs : List ℕ) → AllByRecursion (λ m. c < m) cs → (n : ℕ) → Contains cs n → c < n
  above c cs each n has = each_contained (λ m. c < m) cs n each has

  past : a ≡ b → (q : ℕ) → Contains ms q → Contains ns q
  past same n has = elim (contains_cases b ns n (all n (contains_later a ms n has))) [
    | inl is ↦ let more = above a ms up.0 n has in absurd (omega (arith, more, same, is))
    | inr behind ↦ behind
  ]

  -- b is less than all of ms, or a would not be there
  later : (a == b) ≡ false → (n : ℕ) → Contains (a ∷ ms) n → Contains ns n
  later differs n has = elim (contains_cases b ns n (all n has)) [
    | inr behind ↦ behind
    | inl is ↦
        let mine : b < a = elim (contains_cases b ns a (all a (contains_here a ms))) [
          | inl same ↦ absurd (true≢false (sym (eq-eqb a b (sym same)) ∙ differs))
          | inr behind ↦ above b ns up'.0 a behind
        ] in
        elim (contains_cases a ms n has) [
          | inl first ↦ absurd (omega (arith, mine, is, first))
          | inr behind ↦ let more = above a ms up.0 n behind in absurd (omega (arith, more, mine, is))
        ]
  ]

pub key-has : {A : Type 0} (table : List (ℕ × A)) (q : ℕ) → Contains (keys_of table) q → IsSome (value_at q table)
key-has [] q has = absurd (none_contained q has)
key-has {A} (entry ∷ table) q has = elim (cases_Bool (entry.0 == q)) [
  | inl is ↦ is-there (value_at q (entry ∷ table)) entry.1
      (cond-true (entry.0 == q) (Some entry.1) (value_at q table) is)
  | inr differs ↦ elim (contains_cases entry.0 (keys_of table) q has) [
    | inl same ↦ absurd (true≢false (sym (eq-eqb entry.0 q same) ∙ differs))
    | inr later ↦
        subst (λ (o : Option A). IsSome o) (sym (cond-false (entry.0 == q) (Some entry.1) (value_at q table) differs))
        (key-has table q later)
  ]
]

pub key-of : {A : Type 0} (table : List (ℕ × A)) (q : ℕ) (value : A) → value_at q table ≡ Some value
    → Contains (keys_of table) q
key-of [] q value has = absurd cc
key-of (entry ∷ table) q value has = elim (cases_Bool (entry.0 == q)) [
  | inl is ↦
      subst (λ (n : ℕ). Contains (entry.0 ∷ keys_of table) n) (eqb-true entry.0 q is)
      (contains_here entry.0 (keys_of table))
  | inr differs ↦
      contains_later entry.0 (keys_of table) q
      (key-of table q value (sym (cond-false (entry.0 == q) (Some entry.1) (value_at q table) differs) ∙ has))
]

length-keys : {A : Type 0} (table : List (ℕ × A)) → length (keys_of table) ≡ length table
length-keys [] = refl
length-keys (entry ∷ table) = ap suc (length-keys table)

-- no more nodes were read than a layout has
pub few-read : (state : State) (links : List (ℕ × Surveyed)) → AreRead state links
    → IsStrictlySortedBy nat_cmp (map (λ (e : ℕ × Surveyed). e.0) links) → IsStrictlyIncreasing (keys_of state.layout)
    → length links ≤ length state.layout
few-read state links read sorted up =
    let least = few (keys_of links) (keys_of state.layout) (rise_sorted (keys_of links) sorted)
    (rise_sorted (keys_of state.layout) (sorted_from_strictly_increasing (keys_of state.layout) up)) each in
    omega (arith, least, length-keys links, length-keys state.layout)
  where
    each : (q : ℕ) → Contains (keys_of links) q → Contains (keys_of state.layout) q
    each q has =
        let link = there-is (value_at q links) (key-has links q has) in
        let its = read.each q link.0 (link-value links q ∙ link.1) in
        key-of state.layout q its.0 its.1
