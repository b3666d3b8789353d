-- One address after the other: the first disagreement is at the least address, or among what stands above it.
use Rattle.std.proofs.Common.{◌≡◌, ℕ, ◌<◌, ◌≤◌, Bool, true, false, List, [], ◌∷◌, ◌++◌, map, take, drop, refl, sym, ap}
use Rattle.std.proofs.Common.{subst, ◌∙◌, arith, ◌⊎◌, inl, inr, cond, leb-true, leb-false}
use Rattle.std.specs.Prelude.{Option, Some, None, ◌==◌, ◌&&◌, not, nat_le, nat_lt}
use Rattle.std.specs.List.{Contains, filter, find, prefix_len}
use Rattle.std.specs.Option.{option_map}
use Rattle.std.proofs.lemmas.Bool.{cases_Bool, cond-true, cond-false, ne_eqb, le-leb}
use Rattle.std.proofs.lemmas.Bool.Decides.{nat_tests}
use Rattle.std.proofs.lemmas.Option.{same_Some}
use Rattle.std.proofs.lemmas.List.Elements.{Contains-append_left, Contains-append_right, Contains-append_cases}
use Rattle.qg_items.specs.declared.extent.Reference.{Reference}
use Rattle.qg_image.specs.Table.{number_set}
use Rattle.qg_image.specs.declared.part.ExtentPart.{ExtentPart}
use Rattle.qg_image.proofs.Contained.{contains_here, contains_cases}
use Rattle.qg_image.specs.Owed.{part_address}
use Rattle.qg_reach.proofs.Members.{contains_map, one_mapped}
use Rattle.qg_backref_rule.specs.declared.owing.Owing.{Owing}
use Rattle.qg_backref_rule.specs.declared.thing.Thing.{Thing}
use Rattle.qg_backref_rule.specs.declared.thing.Kind.{Kind}
use Rattle.qg_backref_rule.specs.OwedLists.{kind_at}
use Rattle.qg_backref_rule.specs.Judged.{what_of, agree, agree_at, told_addresses, first_disagreement, kind_first}
use Rattle.qg_backref_rule.specs.Judged.{least_address}
use Rattle.qg_backref_rule.proofs.NumberSets.{number_set_same, number_set_least}
use Rattle.qg_backref_rule.proofs.Filters.{filter_same, find_same, none_found, filter_of_filter, find_of_filter}
use Rattle.qg_backref_rule.proofs.Filters.{contains_kept}
use Rattle.qg_backref_rule.proofs.Filters.{kept_contains, Rises, Falls, take_front, drop_front}

-- ---- tests on a number

later_test : (k a b : ℕ) → a < b → (not (nat_le k a) && (k == b)) ≡ (k == b)
later_test k a b higher = grind (arith, nat_tests)

front_test : (k a : ℕ) → (not (nat_lt k a) && nat_le k a) ≡ (k == a)
front_test k a = grind (arith, nat_tests)

rest_test : (k a : ℕ) → (not (nat_lt k a) && not (nat_le k a)) ≡ not (nat_le k a)
rest_test k a = grind (arith, nat_tests)

at_test : (k a : ℕ) → a ≤ k → nat_le k a ≡ (k == a)
at_test k a h = grind (arith, nat_tests)

above_test : (k a : ℕ) → a < k → not (nat_le k a) ≡ true
above_test k a h = grind (arith, nat_tests)

is_above : (k a : ℕ) → not (nat_le k a) ≡ true → a < k
is_above k a h = grind (arith, nat_tests)

-- ---- a list at, and above, a number

module _ {X : Type 0} (key : X → ℕ) (a : ℕ) where
  abbrev pub upto : X → Bool
  upto x = nat_le (key x) a

  abbrev pub below : X → Bool
  below x = nat_lt (key x) a

  abbrev pub above : X → Bool
  above x = not (nat_le (key x) a)

  upto_falls : Falls key upto
  upto_falls x y le holds = le-leb (key x) a (omega (arith, le, leb-true (key y) a holds))

  below_falls : Falls key below
  below_falls x y le holds = grind (arith, nat_tests)

  pub front_at : (xs : List X) → Rises key xs → ((x : X) → Contains xs x → a ≤ key x)
      → take (prefix_len upto xs) xs ≡ filter (λ x. key x == a) xs
  front_at xs up least = take_front key upto upto_falls xs up
      ∙ filter_same upto (λ x. key x == a) xs (λ x has. at_test (key x) a (least x has))

  pub rest_above : (xs : List X) → Rises key xs → drop (prefix_len upto xs) xs ≡ filter above xs
  rest_above xs up = drop_front key upto upto_falls xs up

  pub past_below : (xs : List X) → Rises key xs
      → drop (prefix_len below xs) xs ≡ filter (λ x. not (nat_lt (key x) a)) xs
  past_below xs up = drop_front key below below_falls xs up

  pub front_past : (xs past : List X) → past ≡ filter (λ x. not (nat_lt (key x) a)) xs → Rises key past
      → take (prefix_len upto past) past ≡ filter (λ x. key x == a) xs
  front_past xs past is up =
      take_front key upto upto_falls past up ∙ ap (filter upto) is
      ∙ filter_of_filter upto (λ x. not (nat_lt (key x) a)) (λ x. key x == a) xs (λ x. front_test (key x) a)

  pub above_past : (xs past : List X) → past ≡ filter (λ x. not (nat_lt (key x) a)) xs → Rises key past
      → drop (prefix_len upto past) past ≡ filter above xs
  above_past xs past is up =
      rest_above past up ∙ ap (filter above) is ∙ filter_of_filter above (λ x. not (nat_lt (key x) a)) above xs
      (λ x. rest_test (key x) a)

  pub at_above : (b : ℕ) (xs : List X) → a < b
      → filter (λ x. key x == b) (filter above xs) ≡ filter (λ x. key x == b) xs
  at_above b xs higher = filter_of_filter (λ x. key x == b) above (λ x. key x == b) xs
      (λ x. later_test (key x) a b higher)

  pub find_above : (b : ℕ) (xs : List X) → a < b → find (λ x. key x == b) (filter above xs) ≡ find (λ x. key x == b) xs
  find_above b xs higher = find_of_filter (λ x. key x == b) above (λ x. key x == b) xs
      (λ x. later_test (key x) a b higher)

  pub split_at : (xs : List X) (n : ℕ) → ((x : X) → Contains xs x → a ≤ key x) → Contains (map key xs) n
      → (a ≡ n) ⊎ Contains (map key (filter above xs)) n
  split_at xs n least has =
      let found = one_mapped key xs n has in
      elim (cases_Bool (above found.0)) [
        | inl holds ↦ inr (subst (λ m. Contains (map key (filter above xs)) m) found.2
            (contains_map key (filter above xs) found.0 (contains_kept above xs found.0 found.1 holds)))
        | inr fails ↦ inl (same found.0 n (least found.0 found.1) found.2 fails)
      ]
    where
      same : (x : X) (m : ℕ) → a ≤ key x → key x ≡ m → not (nat_le (key x) a) ≡ false → a ≡ m
      same x m le is fails = grind (arith, nat_tests)

  pub whole_above : (xs : List X) (n : ℕ) → Contains (map key (filter above xs)) n → Contains (map key xs) n × (a < n)
  whole_above xs n has =
      let found = one_mapped key (filter above xs) n has in
      let kept = kept_contains above xs found.0 found.1 in (
        subst (λ m. Contains (map key xs) m) found.2 (contains_map key xs found.0 kept.0),
        subst (λ m. a < m) found.2
            (is_above (key found.0) a kept.1),
      )

-- ---- the least address

abbrev pub address_of_thing : Thing → ℕ
address_of_thing thing = thing.address

abbrev pub address_of_owing : Owing → ℕ
address_of_owing owing = owing.address

-- an address that some thing or item has, and none a lower one
pub record IsLeast (things : List Thing) (parts : List ExtentPart) (a : ℕ) : Type 0 where
  pub each_thing : (thing : Thing) → Contains things thing → a ≤ thing.address
  pub each_part : (part : ExtentPart) → Contains parts part → a ≤ part_address part
  pub among : Contains (map part_address parts ++ map address_of_thing things) a

module _ {X : Type 0} (key : X → ℕ) where
  first_least : (a : ℕ) (x : X) (xs : List X) → Rises key (x ∷ xs) → a ≤ key x → (y : X) → Contains (x ∷ xs) y
      → a ≤ key y
  first_least a x xs up le y has = elim (contains_cases x xs y has) [
    | inl is ↦ subst (λ w. a ≤ key w) is le
    | inr later ↦ omega (arith, le, up.0 y later)
  ]

pub least_is : (things : List Thing) (parts : List ExtentPart) (a : ℕ) → Rises address_of_thing things
    → Rises part_address parts → least_address things parts ≡ Some a → IsLeast things parts a
least_is [] [] a up up' is = cc
least_is [] (part ∷ parts) a up up' is =
    let one = same_Some (part_address part) a is in
    record {
      each_thing = λ thing has. absurd (omega (arith, has.1));
      each_part = first_least part_address a part parts up' (omega (arith, one));
      among = subst (λ n. Contains (map part_address (part ∷ parts) ++ map address_of_thing []) n) one
          (contains_here (part_address part) (map part_address parts ++ map address_of_thing []));
    }
least_is (thing ∷ things) [] a up up' is =
    let one = same_Some thing.address a is in
    record {
      each_thing = first_least address_of_thing a thing things up (omega (arith, one));
      each_part = λ part has. absurd (omega (arith, has.1));
      among = subst (λ n. Contains (map address_of_thing (thing ∷ things)) n) one
          (contains_here thing.address (map address_of_thing things));
    }
least_is (thing ∷ things) (part ∷ parts) a up up' is = elim (cases_Bool (nat_le thing.address (part_address part))) [
  | inl lower ↦
      let one = sym (cond-true (nat_le thing.address (part_address part)) thing.address (part_address part) lower)
      ∙ same_Some _ a is in
      let le = leb-true thing.address (part_address part) lower in
      record {
        each_thing = first_least address_of_thing a thing things up (omega (arith, one));
        each_part = first_least part_address a part parts up' (omega (arith, one, le));
        among = subst (λ n. Contains (map part_address (part ∷ parts) ++ map address_of_thing (thing ∷ things)) n) one
            (Contains-append_right (map part_address (part ∷ parts)) (map address_of_thing (thing ∷ things))
            thing.address (contains_here thing.address (map address_of_thing things)));
      }
  | inr higher ↦
      let one = sym (cond-false (nat_le thing.address (part_address part)) thing.address (part_address part) higher)
      ∙ same_Some _ a is in
      let gt = leb-false thing.address (part_address part) higher in
      record {
        each_thing = first_least address_of_thing a thing things up (omega (arith, one, gt));
        each_part = first_least part_address a part parts up' (omega (arith, one));
        among = subst (λ n. Contains (map part_address (part ∷ parts) ++ map address_of_thing (thing ∷ things)) n) one
            (contains_here (part_address part) (map part_address parts ++ map address_of_thing (thing ∷ things)));
      }
]

-- nothing is left
pub none_left : (owings : List Owing) (things : List Thing) (parts : List ExtentPart)
    → least_address things parts ≡ None → first_disagreement owings things parts ≡ None
unfolding first_disagreement told_addresses
none_left owings [] [] none = refl
none_left owings [] (part ∷ parts) none = cc
none_left owings (thing ∷ things) [] none = cc
none_left owings (thing ∷ things) (part ∷ parts) none = cc

-- ---- what stands at the least address

kind_there : (things : List Thing) (a : ℕ) → Rises address_of_thing things
    → ((thing : Thing) → Contains things thing → a ≤ thing.address) → kind_first things a ≡ kind_at things a
kind_there [] a up least = refl
kind_there (thing ∷ things) a up least = elim (cases_Bool (thing.address == a)) [
  | inl here ↦
      cond-true (thing.address == a) (Some thing.kind) None here
      ∙ sym (ap (option_map (λ (t : Thing). t.kind))
      (cond-true (thing.address == a) (Some thing) (find (λ t. t.address == a) things) here))
  | inr other ↦
      let higher : a < thing.address = past (least thing (contains_here thing things)) other in
      cond-false (thing.address == a) (Some thing.kind) None other
      ∙ sym (ap (option_map (λ (t : Thing). t.kind))
      (cond-false (thing.address == a) (Some thing) (find (λ t. t.address == a) things) other
      ∙ none_found (λ t. t.address == a) things
      (λ t has. ne_eqb t.address a (λ is. omega (arith, is, higher, up.0 t has)))))
] where
  past : a ≤ thing.address → (thing.address == a) ≡ false → a < thing.address
  past le fails = grind (arith, nat_tests)

module _ (owings : List Owing) (a : ℕ) where
  abbrev pub owings_past : List Owing
  owings_past = drop (prefix_len (below address_of_owing a) owings) owings

  abbrev pub owings_here : List Owing
  owings_here = take (prefix_len (upto address_of_owing a) owings_past) owings_past

  abbrev pub owings_rest : List Owing
  owings_rest = drop (prefix_len (upto address_of_owing a) owings_past) owings_past

abbrev pub things_rest : List Thing → ℕ → List Thing
things_rest things a = drop (prefix_len (upto address_of_thing a) things) things

abbrev pub parts_here : List ExtentPart → ℕ → List ExtentPart
parts_here parts a = take (prefix_len (upto part_address a) parts) parts

abbrev pub parts_rest : List ExtentPart → ℕ → List ExtentPart
parts_rest parts a = drop (prefix_len (upto part_address a) parts) parts

abbrev pub references_of : List Owing → List Reference
references_of owings = map (λ owing. owing.reference) owings

pub same_agree : (kind kind' : Option Kind) (owed owed' : List Reference) (parts parts' : List ExtentPart)
    → kind ≡ kind' → owed ≡ owed' → parts ≡ parts'
    → agree (what_of kind) owed parts ≡ agree (what_of kind') owed' parts'
same_agree kind kind' owed owed' parts parts' p q r = λ i. agree (what_of (p i)) (q i) (r i)

module _ (owings : List Owing) (things : List Thing) (parts : List ExtentPart) (a : ℕ)
    (up_owings : Rises address_of_owing owings) (up_past : Rises address_of_owing (owings_past owings a))
    (up_things : Rises address_of_thing things) (up_parts : Rises part_address parts)
    (least : IsLeast things parts a) where
  past_is : owings_past owings a ≡ filter (λ (owing : Owing). not (nat_lt owing.address a)) owings
  past_is = past_below address_of_owing a owings up_owings

  agree_here : agree (what_of (kind_first things a)) (references_of (owings_here owings a)) (parts_here parts a)
      ≡ agree_at owings things parts a
  unfolding agree_at
  agree_here = same_agree _ _ _ _ _ _
      (kind_there things a up_things least.each_thing)
      (ap references_of (front_past address_of_owing a owings (owings_past owings a) past_is up_past))
      (front_at part_address a parts up_parts least.each_part)

  agree_later : (b : ℕ) → a < b
      → agree_at owings things parts b ≡ agree_at (owings_rest owings a) (things_rest things a) (parts_rest parts a) b
  unfolding agree_at
  agree_later b higher = same_agree _ _ _ _ _ _
      (ap (option_map (λ (t : Thing). t.kind)) (sym (find_above address_of_thing a b things higher)
      ∙ ap (find (λ (t : Thing). t.address == b)) (sym (rest_above address_of_thing a things up_things))))
      (ap references_of (sym (at_above address_of_owing a b owings higher)
      ∙ ap (filter (λ (o : Owing). o.address == b))
      (sym (above_past address_of_owing a owings (owings_past owings a) past_is up_past))))
      (sym (at_above part_address a b parts higher)
      ∙ ap (filter (λ part. part_address part == b)) (sym (rest_above part_address a parts up_parts)))

  split : (n : ℕ) → Contains (map part_address parts ++ map address_of_thing things) n
      → (a ≡ n) ⊎ Contains (map part_address (filter (above part_address a) parts)
      ++ map address_of_thing (filter (above address_of_thing a) things)) n
  split n has = elim (Contains-append_cases (map part_address parts) (map address_of_thing things) n has) [
    | inl part ↦ elim (split_at part_address a parts n least.each_part part) [
      | inl is ↦ inl is
      | inr later ↦ inr (Contains-append_left (map part_address (filter (above part_address a) parts))
          (map address_of_thing (filter (above address_of_thing a) things)) n later)
    ]
    | inr thing ↦ elim (split_at address_of_thing a things n least.each_thing thing) [
      | inl is ↦ inl is
      | inr later ↦ inr (Contains-append_right (map part_address (filter (above part_address a) parts))
          (map address_of_thing (filter (above address_of_thing a) things)) n later)
    ]
  ]

  whole : (n : ℕ)
      → Contains (map part_address (filter (above part_address a) parts)
      ++ map address_of_thing (filter (above address_of_thing a) things)) n
      → Contains (map part_address parts ++ map address_of_thing things) n × (a < n)
  whole n has = elim (Contains-append_cases (map part_address (filter (above part_address a) parts))
      (map address_of_thing (filter (above address_of_thing a) things)) n has) [
        | inl part ↦
            let found = whole_above part_address a parts n part in
            (Contains-append_left (map part_address parts) (map address_of_thing things) n found.0, found.1)
        | inr thing ↦
            let found = whole_above address_of_thing a things n thing in
            (Contains-append_right (map part_address parts) (map address_of_thing things) n found.0, found.1)
      ]

  addresses_rest : told_addresses (things_rest things a) (parts_rest parts a)
      ≡ number_set (map part_address (filter (above part_address a) parts)
      ++ map address_of_thing (filter (above address_of_thing a) things))
  unfolding told_addresses
  addresses_rest = λ i. number_set (map part_address (rest_above part_address a parts up_parts i)
      ++ map address_of_thing (rest_above address_of_thing a things up_things i))

  addresses_least : told_addresses things parts ≡ a ∷ told_addresses (things_rest things a) (parts_rest parts a)
  unfolding told_addresses
  addresses_least =
      number_set_least a (map part_address parts ++ map address_of_thing things)
      (map part_address (filter (above part_address a) parts)
      ++ map address_of_thing (filter (above address_of_thing a) things))
      least.among split (λ n has. (whole n has).0) (λ n has. (whole n has).1)
      ∙ ap (λ ns. a ∷ ns) (sym addresses_rest)

  later_above : (n : ℕ) → Contains (told_addresses (things_rest things a) (parts_rest parts a)) n → a < n
  later_above n has =
      (whole n ((number_set_same (map part_address (filter (above part_address a) parts)
      ++ map address_of_thing (filter (above address_of_thing a) things))).into n
      (subst (λ ns. Contains ns n) addresses_rest has))).1

  turned : {Y : Type 0} (b : Bool) (x y : Y) → cond (not b) x y ≡ cond b y x
  turned true x y = refl
  turned false x y = refl

  -- the first disagreement is here, or among what is left
  pub step : first_disagreement owings things parts
      ≡ cond (agree (what_of (kind_first things a)) (references_of (owings_here owings a)) (parts_here parts a))
      (first_disagreement (owings_rest owings a) (things_rest things a) (parts_rest parts a)) (Some a)
  unfolding first_disagreement
  step =
      let later = find_same (λ b. not (agree_at owings things parts b))
      (λ b. not (agree_at (owings_rest owings a) (things_rest things a) (parts_rest parts a) b))
      (told_addresses (things_rest things a) (parts_rest parts a))
      (λ b has. ap not (agree_later b (later_above b has))) in
      ap (find (λ b. not (agree_at owings things parts b))) addresses_least
      ∙ ap (λ w. cond (not (agree_at owings things parts a)) (Some a) w) later
      ∙ turned (agree_at owings things parts a) (Some a)
      (find (λ b. not (agree_at (owings_rest owings a) (things_rest things a) (parts_rest parts a) b))
      (told_addresses (things_rest things a) (parts_rest parts a)))
      ∙ ap (λ b. cond b (find (λ b. not (agree_at (owings_rest owings a) (things_rest things a) (parts_rest parts a) b))
      (told_addresses (things_rest things a) (parts_rest parts a))) (Some a)) (sym agree_here)
