-- The direct counts of a group as sums over one list of elements, by the owners of each.
use Rattle.std.proofs.Common.{◌≡◌, ℕ, Bool, true, false, not, List, [], ◌∷◌, Option, Some, None, refl, sym, ap, subst}
use Rattle.std.proofs.Common.{◌∙◌, inl, inr}
use Rattle.std.specs.Prelude.{◌==◌, ◌&&◌, ◌||◌}
use Rattle.std.specs.List.{Contains, filter, flat_map, list_any}
use Rattle.std.proofs.lemmas.Bool.{cases_Bool, cond-true, cond-false, eq-eqb, eqb-true, true≢false}
use Rattle.std.proofs.lemmas.List.Elements.{Contains-append_left, Contains-append_right, Contains-append_cases}
use Rattle.qg_image.specs.Table.{keys_of, value_at}
use Rattle.qg_image.specs.declared.element.Element.{Element}
use Rattle.qg_image.specs.State.{Layout}
use Rattle.qg_image.specs.Reach.{reach, reach_of, reaches, owners, is_among, distinct}
use Rattle.qg_image.specs.Members.{Hierarchy, members, is_member}
use Rattle.qg_image.specs.Counts.{bytes_of, reach_of_group, referenced, exclusive, is_reached_outside}
use Rattle.qg_image.proofs.Contained.{none_contained, contains_here, contains_later, contains_cases}
use Rattle.qg_reach.specs.Sets.{HaveSame}
use Rattle.qg_reach.proofs.Distinct.{AreApart, apart_none, apart_same, apart_with, bytes_of_distinct}
use Rattle.qg_reach.proofs.Members.{contains_flat_map, one_flat_mapped}
use Rattle.qg_qgroup_counts.specs.AllReached.{AreAllReached}
use Rattle.qg_qgroup_counts.proofs.Filtered.{passed, passes, apart-passed, same-passed, passes-both}
use Rattle.qg_qgroup_counts.proofs.Beginning.{there, found, at_address, distinct-passed}
use Rattle.qg_qgroup_counts.proofs.PortionBytes.{any-there, any-of, both-true, and-true, same-bool}
use Rattle.qg_account.specs.Standing.{meets, lies_within}
use Rattle.qg_account.specs.Laws.{all_reached, reached_in_both, HaveOneSize, OneListHasOneSize}
use Rattle.qg_account.proofs.Weighing.{weigh, weigh-is, weigh-same}

-- ---- owners

-- a number at which there is a value is one of those
key-there : {A : Type 0} (n : ℕ) (value : A) (table : List (ℕ × A)) → value_at n table ≡ Some value
    → Contains (keys_of table) n
key-there n value [] is = absurd cc
key-there n value (entry ∷ table) is = elim (cases_Bool (entry.0 == n)) [
  | inl here ↦
      subst (λ (m : ℕ). Contains (keys_of (entry ∷ table)) m) (eqb-true entry.0 n here)
      (contains_here entry.0 (keys_of table))
  | inr other ↦
      contains_later entry.0 (keys_of table) n
      (key-there n value table (sym (cond-false (entry.0 == n) (Some entry.1) (value_at n table) other) ∙ is))
]

-- who reaches something is a subvolume
pub subvolume-there : (layout : Layout) (sub : ℕ) (e : Element) → Contains (reach layout sub) e
    → Contains (keys_of layout.roots) sub
unfolding reach
subvolume-there layout sub e has = by (value_at sub layout.roots) refl has where
  by : (value : Option ℕ) → value_at sub layout.roots ≡ value → Contains (reach_of layout value) e
      → Contains (keys_of layout.roots) sub
  by None is none = absurd (none_contained e none)
  by (Some root) is some =
      key-there sub root layout.roots is

pub all-there : (layout : Layout) (sub : ℕ) (e : Element) → Contains (reach layout sub) e
    → Contains (all_reached layout) e
all-there layout sub e has =
    contains_flat_map (reach layout) (keys_of layout.roots) sub e (subvolume-there layout sub e has) has

-- lists of the same elements begin at the same addresses
pub same-reach : (xs ys : List Element) (address : ℕ) → HaveSame xs ys → is_among address ys ≡ is_among address xs
same-reach xs ys address same = same-bool (is_among address ys) (is_among address xs) into back where
  into : is_among address ys ≡ true → is_among address xs ≡ true
  into met =
      let one = found ys address met in
      subst (λ (a : ℕ). is_among a xs ≡ true) one.2 (there xs one.0 (same.back one.0 one.1))

  back : is_among address xs ≡ true → is_among address ys ≡ true
  back met =
      let one = found xs address met in
      subst (λ (a : ℕ). is_among a ys ≡ true) one.2 (there ys one.0 (same.into one.0 one.1))

filtered-passes : (test : ℕ → Bool) (ns : List ℕ) (n : ℕ) → Contains (filter test ns) n → test n ≡ true
filtered-passes test [] n has = absurd (none_contained n has)
filtered-passes test (m ∷ ms) n has = elim (cases_Bool (test m)) [
  | inl passes' ↦ elim (contains_cases m (filter test ms) n
      (subst (λ (xs : List ℕ). Contains xs n) (cond-true (test m) (m ∷ filter test ms) (filter test ms) passes') has)) [
        | inl same ↦ sym (ap test same) ∙ passes'
        | inr later ↦ filtered-passes test ms n later
      ]
  | inr fails ↦ filtered-passes test ms n
      (subst (λ (xs : List ℕ). Contains xs n) (cond-false (test m) (m ∷ filter test ms) (filter test ms) fails) has)
]

-- an owner reaches what it owns
pub owner-reaches : (layout : Layout) (address sub : ℕ) → Contains (owners layout address) sub
    → reaches layout sub address ≡ true
unfolding owners
owner-reaches layout address sub has =
    filtered-passes (λ n. reaches layout n address) (keys_of layout.roots) sub has

any-filtered : (test keep : ℕ → Bool) (ns : List ℕ)
    → list_any (λ n. test n && keep n) ns ≡ list_any test (filter keep ns)
any-filtered test keep [] = refl
any-filtered test keep (n ∷ ns) = by (keep n) refl (any-filtered test keep ns) where
  right : (a : Bool) → (a && true) ≡ a
  right true = refl
  right false = refl

  wrong : (a : Bool) → (a && false) ≡ false
  wrong true = refl
  wrong false = refl

  by : (b : Bool) → keep n ≡ b → list_any (λ m. test m && keep m) ns ≡ list_any test (filter keep ns)
      → list_any (λ m. test m && keep m) (n ∷ ns) ≡ list_any test (filter keep (n ∷ ns))
  by true is rest =
      ap (λ (b : Bool). (test n && b) || list_any (λ m. test m && keep m) ns) is
      ∙ ap (λ (b : Bool). b || list_any (λ m. test m && keep m) ns) (right (test n))
      ∙ ap (λ (b : Bool). test n || b) rest
      ∙ sym (ap (list_any test) (cond-true (keep n) (n ∷ filter keep ns) (filter keep ns) is))
  by false is rest =
      ap (λ (b : Bool). (test n && b) || list_any (λ m. test m && keep m) ns) is
      ∙ ap (λ (b : Bool). b || list_any (λ m. test m && keep m) ns) (wrong (test n))
      ∙ rest
      ∙ sym (ap (list_any test) (cond-false (keep n) (n ∷ filter keep ns) (filter keep ns) is))

-- what is asked of owners is asked of the subvolumes that reach an address
pub owners-are : (layout : Layout) (test : ℕ → Bool) (address : ℕ)
    → list_any (λ sub. test sub && reaches layout sub address) (keys_of layout.roots) ≡ list_any test
    (owners layout address)
unfolding owners
owners-are layout test address = any-filtered test (λ sub. reaches layout sub address) (keys_of layout.roots)

-- what nobody reaches has no owners
pub nobody : (layout : Layout) (elements : List Element) (address : ℕ) → AreAllReached layout elements
    → is_among address elements ≡ false → (test : ℕ → Bool) → list_any test (owners layout address) ≡ false
nobody layout elements address reached none test = by (list_any test (owners layout address)) refl where
  by : (b : Bool) → list_any test (owners layout address) ≡ b → b ≡ false
  by false is = refl
  by true is =
      let sub = any-there (λ one. test one && reaches layout one address) (keys_of layout.roots)
      (owners-are layout test address ∙ is) in
      let both = both-true (test sub.0) (reaches layout sub.0 address) sub.2 in
      let one = found (reach layout sub.0) address both.1 in
      absurd (true≢false (sym (there elements one.0 (reached.all sub.0 one.0 one.1)) ∙ ap
      (λ (a : ℕ). is_among a elements) one.2 ∙ none))

-- ---- a group

module _ (layout : Layout) (hierarchy : Hierarchy) (elements : List Element) (group : ℕ)
    (reached : AreAllReached layout elements) where
  -- some member reaches it, and nobody else does
  abbrev met_at : ℕ → Bool
  met_at address = list_any (λ sub. is_member hierarchy group sub && reaches layout sub address) (keys_of layout.roots)

  abbrev own_at : ℕ → Bool
  own_at address = not (is_reached_outside layout hierarchy group address)

  abbrev both_at : ℕ → Bool
  both_at address = met_at address && own_at address

  abbrev met : List Element
  met = flat_map (reach layout) (members hierarchy group)

  -- what members reach are those of the elements that one of them reaches
  same-met : HaveSame met (filter (at_address met_at) elements)
  same-met = record { into = into; back = back } where
    into : (e : Element) → Contains met e → Contains (filter (at_address met_at) elements) e
    into e has =
        let sub = one_flat_mapped (reach layout) (members hierarchy group) e has in
        let member = any-of (λ one. one == sub.0) (members hierarchy group) sub.0 sub.1 (eq-eqb sub.0 sub.0 refl) in
        passes (at_address met_at) elements e (reached.all sub.0 e sub.2)
        (any-of (λ one. is_member hierarchy group one && reaches layout one e.address) (keys_of layout.roots) sub.0
        (subvolume-there layout sub.0 e sub.2)
        (and-true (is_member hierarchy group sub.0) (reaches layout sub.0 e.address) member
        (there (reach layout sub.0) e sub.2)))

    back : (e : Element) → Contains (filter (at_address met_at) elements) e → Contains met e
    back e has =
        let left = passed (at_address met_at) elements e has in
        let sub =
        any-there (λ one. is_member hierarchy group one && reaches layout one e.address) (keys_of layout.roots) left.1
        in
        let both = both-true (is_member hierarchy group sub.0) (reaches layout sub.0 e.address) sub.2 in
        let one = found (reach layout sub.0) e.address both.1 in
        let same = apart_same elements one.0 e reached.apart (reached.all sub.0 one.0 one.1) left.0 one.2 in
        let member = any-there (λ m. m == sub.0) (members hierarchy group) both.0 in
        contains_flat_map (reach layout) (members hierarchy group) sub.0 e
        (subst (λ (n : ℕ). Contains (members hierarchy group) n) (eqb-true member.0 sub.0 member.2) member.1)
        (subst (λ z. Contains (reach layout sub.0) z) same one.1)

  referenced-met : referenced layout hierarchy group ≡ bytes_of (filter (at_address met_at) elements)
  unfolding referenced reach_of_group
  referenced-met =
      bytes_of_distinct met (filter (at_address met_at) elements) (apart-passed (at_address met_at) elements
      reached.apart)
      same-met

  both-right : (a b : Bool) → a ≡ true → (a && b) ≡ b
  both-right true b is = refl
  both-right false b wrong = absurd cc

  both-wrong : (a b : Bool) → a ≡ false → (a && b) ≡ false
  both-wrong false b is = refl
  both-wrong true b wrong = absurd cc

  exclusive-met : exclusive layout hierarchy group ≡ bytes_of (filter (at_address both_at) elements)
  unfolding exclusive reach_of_group
  exclusive-met =
      ap bytes_of (distinct-passed own_at met)
      ∙ bytes_of_distinct (filter (at_address own_at) met)
      (filter (at_address own_at) (filter (at_address met_at) elements))
      (apart-passed (at_address own_at) (filter (at_address met_at) elements)
      (apart-passed (at_address met_at) elements reached.apart))
      (same-passed (at_address own_at) met (filter (at_address met_at) elements) same-met)
      ∙ ap bytes_of (passes-both (at_address met_at) (at_address own_at) (at_address both_at) elements
      (λ e has is. both-right (met_at e.address) (own_at e.address) is)
      (λ e has is. both-wrong (met_at e.address) (own_at e.address) is))

  outside-is : (address : ℕ) → is_reached_outside layout hierarchy group address
      ≡ list_any (λ sub. not (is_member hierarchy group sub) && reaches layout sub address) (keys_of layout.roots)
  unfolding is_reached_outside
  outside-is address = refl

  -- referenced bytes are a sum over all elements, by the owners of each
  pub referenced-weighs : referenced layout hierarchy group
      ≡ weigh (λ address. meets (is_member hierarchy group) (owners layout address)) elements
  referenced-weighs =
      referenced-met ∙ weigh-is met_at elements
      ∙ weigh-same met_at (λ address. meets (is_member hierarchy group) (owners layout address)) elements
      (λ e has. owners-are layout (is_member hierarchy group) e.address)

  -- and so are exclusive ones
  pub exclusive-weighs : exclusive layout hierarchy group
      ≡ weigh (λ address. lies_within (is_member hierarchy group) (owners layout address)) elements
  exclusive-weighs =
      exclusive-met ∙ weigh-is both_at elements
      ∙ weigh-same both_at (λ address. lies_within (is_member hierarchy group) (owners layout address)) elements
      (λ e has.
      ap (λ (b : Bool). b && own_at e.address) (owners-are layout (is_member hierarchy group) e.address)
      ∙ ap (λ (b : Bool). meets (is_member hierarchy group) (owners layout e.address) && not b)
      (outside-is e.address ∙ owners-are layout (λ sub. not (is_member hierarchy group sub)) e.address))

-- ---- one list for two layouts

-- one address has one element
abbrev Agree : List Element → Type 0
Agree xs = (x y : Element) → Contains xs x → Contains xs y → x.address ≡ y.address → x ≡ y

distinct-only : (xs : List Element) (y : Element) → Contains (distinct xs) y → Contains xs y
distinct-only [] y has = has
distinct-only (x ∷ xs) y has = elim (cases_Bool (is_among x.address xs)) [
  | inl is ↦ contains_later x xs y (distinct-only xs y (subst (λ zs. Contains zs y) (cond-true _ _ _ is) has))
  | inr not' ↦ elim (contains_cases x (distinct xs) y (subst (λ zs. Contains zs y) (cond-false _ _ _ not') has)) [
    | inl is ↦ subst (λ z. Contains (x ∷ xs) z) is (contains_here x xs)
    | inr later ↦ contains_later x xs y (distinct-only xs y later)
  ]
]

pub contained-once : (xs : List Element) (y : Element) → Contains (distinct xs) y → Contains xs y
contained-once xs y has = distinct-only xs y has

pub distinct-apart : (xs : List Element) → AreApart (distinct xs)
distinct-apart [] = apart_none
distinct-apart (x ∷ xs) = elim (cases_Bool (is_among x.address xs)) [
  | inl is ↦ subst AreApart (sym (cond-true _ _ _ is)) (distinct-apart xs)
  | inr not' ↦ subst AreApart (sym (cond-false _ _ _ not')) (apart_with x (distinct xs)
      (λ y has same. true≢false (sym (subst (λ a. is_among a xs ≡ true) (sym same)
      (there xs y (distinct-only xs y has))) ∙ not')) (distinct-apart xs))
]

distinct-all : (xs : List Element) (y : Element) → Agree xs → Contains xs y → Contains (distinct xs) y
distinct-all [] y agree has = has
distinct-all (x ∷ xs) y agree has =
    let agree' : Agree xs = λ a b has' has'' same. agree a b (contains_later x xs a has') (contains_later x xs b has'')
    same in
    elim (cases_Bool (is_among x.address xs)) [
      | inl is ↦ subst (λ zs. Contains zs y) (sym (cond-true _ _ _ is)) (elim (contains_cases x xs y has) [
        | inl here ↦
            let one = found xs x.address is in
            let same = agree one.0 x (contains_later x xs one.0 one.1) (contains_here x xs) one.2 in
            distinct-all xs y agree' (subst (λ z. Contains xs z) (same ∙ here) one.1)
        | inr later ↦ distinct-all xs y agree' later
      ])
      | inr not' ↦ subst (λ zs. Contains zs y) (sym (cond-false _ _ _ not')) (elim (contains_cases x xs y has) [
        | inl here ↦ subst (λ z. Contains (x ∷ distinct xs) z) here (contains_here x (distinct xs))
        | inr later ↦ contains_later x (distinct xs) y (distinct-all xs y agree' later)
      ])
    ]

abbrev pub element : ℕ → ℕ → Element
element address bytes = record { address = address; bytes = bytes }

pub same-element : (x y : Element) → x.address ≡ y.address → x.bytes ≡ y.bytes → x ≡ y
same-element x y address bytes = ap (λ (a : ℕ). element a x.bytes) address ∙ ap (element y.address) bytes

pub all-once : (xs : List Element) (y : Element) → HaveOneSize xs → Contains xs y → Contains (distinct xs) y
all-once xs y size has = distinct-all xs y (λ a b has' has'' same. same-element a b same (size a b has' has'' same)) has

-- what is reached in one layout or the other, each once, has all that subvolumes reach in either
pub old-reached : (old new : Layout) → HaveOneSize (reached_in_both old new)
    → AreAllReached old (distinct (reached_in_both old new))
old-reached old new size = record {
  apart = distinct-apart (reached_in_both old new);
  all = λ sub e has. all-once (reached_in_both old new) e size (Contains-append_left (all_reached old)
      (all_reached new) e (all-there old sub e has));
}

pub new-reached : (old new : Layout) → HaveOneSize (reached_in_both old new)
    → AreAllReached new (distinct (reached_in_both old new))
new-reached old new size = record {
  apart = distinct-apart (reached_in_both old new);
  all = λ sub e has. all-once (reached_in_both old new) e size (Contains-append_right (all_reached old)
      (all_reached new) e (all-there new sub e has));
}

-- and back: one list for both layouts has one size at each address
pub one-list : OneListHasOneSize
one-list old new elements olds news a b in-a in-b same =
    ap (λ (e : Element). e.bytes) (apart_same elements a b olds.apart (among a in-a) (among b in-b) same)
  where
    among : (e : Element) → Contains (reached_in_both old new) e → Contains elements e
    among e has = elim (Contains-append_cases (all_reached old) (all_reached new) e has) [
      | inl before ↦ let one = one_flat_mapped (reach old) (keys_of old.roots) e before in olds.all one.0 e one.2
      | inr after ↦ let one = one_flat_mapped (reach new) (keys_of new.roots) e after in news.all one.0 e one.2
    ]
