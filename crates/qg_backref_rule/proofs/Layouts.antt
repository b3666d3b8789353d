-- The rule `refs` of a layout, by lists that tell it.
use Rattle.std.proofs.Common.{◌≡◌, ℕ, Bool, true, false, List, [], ◌∷◌, ◌++◌, map, refl, sym, ap, subst, ◌∙◌, arith}
use Rattle.std.proofs.Common.{◌⊎◌, inl, inr, cond}
use Rattle.std.specs.Prelude.{Option, Some, None, is_some, ◌==◌, ◌&&◌, not, if◌then◌else◌}
use Rattle.std.specs.List.{Contains, filter, filter_map, find, sum_by, cons_option}
use Rattle.std.specs.List.Sorted.{IsPermutation}
use Rattle.std.specs.Option.{option_map}
use Rattle.std.proofs.lemmas.Bool.{cases_Bool, cond-true, cond-false, eq-eqb, eqb-true, true≢false}
use Rattle.std.proofs.lemmas.List.Sums.{sum_by-cons}
use Rattle.std.proofs.lemmas.List.Sorted.{sum_by-IsPermutation, IsPermutation-refl, IsPermutation-map}
use Rattle.std.proofs.lemmas.List.Sorted.{IsPermutation-trans}
use Rattle.std.proofs.lemmas.List.Elements.{Contains-append_left, Contains-append_right, Contains-append_cases}
use Rattle.qg_items.specs.declared.extent.Reference.{Reference}
use Rattle.qg_image.specs.Table.{value_at, keys_of}
use Rattle.qg_image.specs.declared.part.ExtentPart.{ExtentPart}
use Rattle.qg_image.specs.declared.part.ExtentPart.TheVariants.{DataRecord, NodeRecord, Referenced}
use Rattle.qg_image.specs.Record.{same_reference}
use Rattle.qg_image.specs.declared.element.Element.{Element}
use Rattle.qg_image.specs.State.{Layout, Placed}
use Rattle.qg_image.specs.Owed.{Owing as OwedReference, owed, owed_to, What, Nothing, Data, Block, what_at}
use Rattle.qg_image.specs.Owed.{layout_extents, part_address, is_nothing, is_record, is_record_of, is_recorded_once}
use Rattle.qg_image.specs.Owed.{reference_told, are_references, agrees_at, recorded_addresses, disagreement}
use Rattle.qg_image.proofs.Contained.{none_contained, contains_here, contains_later, contains_cases}
use Rattle.qg_reach.specs.Sets.{HaveSame}
use Rattle.qg_backref_rule.specs.declared.owing.Owing.{Owing}
use Rattle.qg_backref_rule.specs.declared.thing.Thing.{Thing}
use Rattle.qg_backref_rule.specs.OwedLists.{owing_told, owings_told, kind_of, kind_at, IsTold}
use Rattle.qg_backref_rule.specs.Judged.{what_of, owed_at, parts_at, agree_at, told_addresses, first_disagreement}
use Rattle.qg_backref_rule.proofs.NumberSets.{number_set_of_same}
use Rattle.qg_backref_rule.proofs.Filters.{find_same}
use Rattle.qg_backref_rule.proofs.Steps.{address_of_thing}
use Rattle.qg_backref_rule.proofs.Passing.{count-cons}
use Rattle.qg_backref_rule.proofs.Owed.{times_owed, are_references_moved}

-- ---- the record of what there is

record_of : (what : What) (refs : ℕ) (part : ExtentPart)
    → is_record_of what refs part ≡ is_record_of (what_of (kind_of what)) refs part
record_of Nothing refs part = refl
record_of (Data bytes) refs part = refl
record_of (Block header full) refs (DataRecord address bytes extent) = refl
record_of (Block header full) refs (NodeRecord address level extent) = refl
record_of (Block header full) refs (Referenced address reference count) = refl

nothing_alike : (what : What) → is_nothing what ≡ is_nothing (what_of (kind_of what))
nothing_alike Nothing = refl
nothing_alike (Data bytes) = refl
nothing_alike (Block header full) = refl

recorded_alike : (what : What) (refs : ℕ) (records : List ExtentPart)
    → is_recorded_once what refs records ≡ is_recorded_once (what_of (kind_of what)) refs records
recorded_alike what refs [] = nothing_alike what
recorded_alike what refs (part ∷ []) = record_of what refs part
recorded_alike what refs (part ∷ other ∷ parts) = refl

-- ---- what is owed to an address

-- what one owing adds to how often a reference is owed to an address
abbrev adds : ℕ → Reference → OwedReference → ℕ
adds address reference owing = cond (owing.address == address) (cond (same_reference reference owing.reference) 1 0) 0

times_of_layout : (address : ℕ) (reference : Reference) (owings : List OwedReference)
    → times_owed reference (filter_map (λ owing. if owing.address == address then Some owing.reference else None)
    owings) ≡ sum_by (adds address reference) owings
times_of_layout address reference [] = refl
times_of_layout address reference (o ∷ os) =
    let here : List Reference = filter_map (λ owing. if owing.address == address then Some owing.reference else None)
    os in
    elim (cases_Bool (o.address == address)) [
      | inl holds ↦
          let first = ap (λ given. times_owed reference (cons_option given here))
          (cond-true (o.address == address) (Some o.reference) None holds) in
          let part = cond-true {A = ℕ} (o.address == address) (cond (same_reference reference o.reference) 1 0) 0
          holds in
          first ∙ omega (
            arith,
            count-cons (same_reference reference) o.reference here,
            part,
            times_of_layout address
                reference os,
            sum_by-cons (adds address reference) o os,
          )
      | inr fails ↦
          let first = ap (λ given. times_owed reference (cons_option given here))
          (cond-false (o.address == address) (Some o.reference) None fails) in
          let part = cond-false {A = ℕ} (o.address == address) (cond (same_reference reference o.reference) 1 0) 0
          fails in
          first ∙ omega (arith, part, times_of_layout address reference os, sum_by-cons (adds address reference) o os)
    ]

times_of_list : (address : ℕ) (reference : Reference) (owings : List Owing)
    → times_owed reference (owed_at owings address) ≡ sum_by (adds address reference) (owings_told owings)
times_of_list address reference [] = refl
times_of_list address reference (o ∷ os) =
    let here : List Owing = filter (λ owing. owing.address == address) os in
    elim (cases_Bool (o.address == address)) [
      | inl holds ↦
          let first = ap (λ ws. times_owed reference (map (λ (owing : Owing). owing.reference) ws))
          (cond-true (o.address == address) (o ∷ here) here holds) in
          let part = cond-true {A = ℕ} (o.address == address) (cond (same_reference reference o.reference) 1 0) 0
          holds in
          first
          ∙ omega (
            arith,
            count-cons (same_reference reference) o.reference
                (map (λ (owing : Owing). owing.reference) here),
            part,
            times_of_list address reference os,
            sum_by-cons
                (adds address reference) (owing_told o) (owings_told os),
          )
      | inr fails ↦
          let first = ap (λ ws. times_owed reference (map (λ (owing : Owing). owing.reference) ws))
          (cond-false (o.address == address) (o ∷ here) here fails) in
          let part = cond-false {A = ℕ} (o.address == address) (cond (same_reference reference o.reference) 1 0) 0
          fails in
          first ∙ omega (
            arith,
            part,
            times_of_list address reference os,
            sum_by-cons (adds address reference)
                (owing_told o) (owings_told os),
          )
    ]

-- ---- what is found

pub some_or_none : {A : Type 0} (given : Option A) → (given ≡ None) ⊎ ((x : A) × (given ≡ Some x))
some_or_none None = inl refl
some_or_none (Some x) = inr (x, refl)

some_mapped : {A B : Type 0} (f : A → B) (given : Option A) → is_some (option_map f given) ≡ is_some given
some_mapped f None = refl
some_mapped f (Some x) = refl

module _ {X : Type 0} (key : X → ℕ) (n : ℕ) where
  found_if : (xs : List X) → Contains (map key xs) n → is_some (find (λ x. key x == n) xs) ≡ true
  found_if [] has = absurd (none_contained n has)
  found_if (x ∷ xs) has = elim (cases_Bool (key x == n)) [
    | inl holds ↦ ap is_some (cond-true (key x == n) (Some x) (find (λ x. key x == n) xs) holds)
    | inr fails ↦ elim (contains_cases (key x) (map key xs) n has) [
      | inl is ↦ absurd (true≢false (sym (eq-eqb (key x) n is) ∙ fails))
      | inr later ↦ ap is_some (cond-false (key x == n) (Some x) (find (λ x. key x == n) xs) fails) ∙ found_if xs later
    ]
  ]

  if_found : (xs : List X) → is_some (find (λ x. key x == n) xs) ≡ true → Contains (map key xs) n
  if_found [] h = absurd (true≢false (sym h))
  if_found (x ∷ xs) h = elim (cases_Bool (key x == n)) [
    | inl holds ↦ subst (λ m. Contains (key x ∷ map key xs) m) (eqb-true (key x) n holds)
        (contains_here (key x) (map key xs))
    | inr fails ↦ contains_later (key x) (map key xs) n
        (if_found xs (sym (ap is_some (cond-false (key x == n) (Some x) (find (λ x. key x == n) xs) fails)) ∙ h))
  ]

module _ {A : Type 0} (n : ℕ) where
  value_if : (entries : List (ℕ × A)) → Contains (keys_of entries) n → is_some (value_at n entries) ≡ true
  value_if [] has = absurd (none_contained n has)
  value_if (e ∷ es) has = elim (cases_Bool (e.0 == n)) [
    | inl holds ↦ ap is_some (cond-true (e.0 == n) (Some e.1) (value_at n es) holds)
    | inr fails ↦ elim (contains_cases e.0 (keys_of es) n has) [
      | inl is ↦ absurd (true≢false (sym (eq-eqb e.0 n is) ∙ fails))
      | inr later ↦ ap is_some (cond-false (e.0 == n) (Some e.1) (value_at n es) fails) ∙ value_if es later
    ]
  ]

  if_value : (entries : List (ℕ × A)) → is_some (value_at n entries) ≡ true → Contains (keys_of entries) n
  if_value [] h = absurd (true≢false (sym h))
  if_value (e ∷ es) h = elim (cases_Bool (e.0 == n)) [
    | inl holds ↦ subst (λ m. Contains (e.0 ∷ keys_of es) m) (eqb-true e.0 n holds) (contains_here e.0 (keys_of es))
    | inr fails ↦ contains_later e.0 (keys_of es) n
        (if_value es (sym (ap is_some (cond-false (e.0 == n) (Some e.1) (value_at n es) fails)) ∙ h))
  ]

-- ---- where there is something

abbrev address_of_extent : Element → ℕ
address_of_extent extent = extent.address

module _ (layout : Layout) (n : ℕ) where
  node_there : (placed : Placed) → value_at n layout.nodes ≡ Some placed → is_nothing (what_at layout n) ≡ false
  node_there placed is = rw is refl

  extent_there : (extent : Element) → value_at n layout.nodes ≡ None
      → find (λ extent. extent.address == n) (layout_extents layout) ≡ Some extent
      → is_nothing (what_at layout n) ≡ false
  extent_there extent none is = rw none (rw is refl)

  nothing_there : value_at n layout.nodes ≡ None → find (λ extent. extent.address == n) (layout_extents layout) ≡ None
      → is_nothing (what_at layout n) ≡ true
  nothing_there none none' = rw none (rw none' refl)

  pub something_if : Contains (keys_of layout.nodes) n ⊎ Contains (map address_of_extent (layout_extents layout)) n
      → is_nothing (what_at layout n) ≡ false
  something_if has = elim (some_or_none (value_at n layout.nodes)) [
    | inr found ↦ node_there found.0 found.1
    | inl none ↦ elim has [
      | inl node ↦ absurd (true≢false (sym (value_if n layout.nodes node) ∙ ap is_some none))
      | inr extent ↦ elim (some_or_none (find (λ extent. extent.address == n) (layout_extents layout))) [
        | inr found ↦ extent_there found.0 none found.1
        | inl none' ↦ absurd (true≢false (sym (found_if address_of_extent n (layout_extents layout) extent)
            ∙ ap is_some none'))
      ]
    ]
  ]

  pub if_something : is_nothing (what_at layout n) ≡ false → Contains (keys_of layout.nodes) n
      ⊎ Contains (map address_of_extent (layout_extents layout)) n
  if_something some = elim (some_or_none (value_at n layout.nodes)) [
    | inr found ↦ inl (if_value n layout.nodes (ap is_some found.1))
    | inl none ↦ elim (some_or_none (find (λ extent. extent.address == n) (layout_extents layout))) [
      | inr found ↦ inr (if_found address_of_extent n (layout_extents layout) (ap is_some found.1))
      | inl none' ↦ absurd (true≢false (sym (nothing_there none none') ∙ some))
    ]
  ]

kind_some : (what : What) → is_some (kind_of what) ≡ not (is_nothing what)
kind_some Nothing = refl
kind_some (Data bytes) = refl
kind_some (Block header full) = refl

not_some : (b : Bool) → not b ≡ true → b ≡ false
not_some true h = absurd (true≢false (sym h))
not_some false h = refl

-- ---- the rule

module _ (layout : Layout) (owings : List Owing) (things : List Thing) (parts : List ExtentPart)
    (lists : IsTold layout owings things) where
  thing_if : (n : ℕ) → is_nothing (what_at layout n) ≡ false → Contains (map address_of_thing things) n
  thing_if n some =
      if_found address_of_thing n things (sym (some_mapped (λ (t : Thing). t.kind) (find (λ t. t.address == n) things))
      ∙ ap is_some (lists.there n) ∙ kind_some (what_at layout n) ∙ ap not some)

  if_thing : (n : ℕ) → Contains (map address_of_thing things) n → is_nothing (what_at layout n) ≡ false
  if_thing n has =
      not_some (is_nothing (what_at layout n)) (sym (kind_some (what_at layout n)) ∙ sym (ap is_some (lists.there n))
      ∙ some_mapped (λ (t : Thing). t.kind) (find (λ t. t.address == n) things)
      ∙ found_if address_of_thing n things has)

  same_addresses : HaveSame (map part_address parts ++ keys_of layout.nodes
      ++ map address_of_extent (layout_extents layout)) (map part_address parts ++ map address_of_thing things)
  same_addresses = record {
    into = λ n has. elim (Contains-append_cases (map part_address parts ++ keys_of layout.nodes)
        (map address_of_extent (layout_extents layout)) n has) [
          | inl front ↦ elim (Contains-append_cases (map part_address parts) (keys_of layout.nodes) n front) [
            | inl part ↦ Contains-append_left (map part_address parts) (map address_of_thing things) n part
            | inr node ↦ Contains-append_right (map part_address parts) (map address_of_thing things) n
                (thing_if n (something_if layout n (inl node)))
          ]
          | inr extent ↦ Contains-append_right (map part_address parts) (map address_of_thing things) n
              (thing_if n (something_if layout n (inr extent)))
        ];
    back = λ n has. elim (Contains-append_cases (map part_address parts) (map address_of_thing things) n has) [
      | inl part ↦
          Contains-append_left (map part_address parts ++ keys_of layout.nodes)
          (map address_of_extent (layout_extents layout)) n
          (Contains-append_left (map part_address parts) (keys_of layout.nodes) n part)
      | inr thing ↦ elim (if_something layout n (if_thing n thing)) [
        | inl node ↦
            Contains-append_left (map part_address parts ++ keys_of layout.nodes)
            (map address_of_extent (layout_extents layout)) n
            (Contains-append_right (map part_address parts) (keys_of layout.nodes) n node)
        | inr extent ↦ Contains-append_right (map part_address parts ++ keys_of layout.nodes)
            (map address_of_extent (layout_extents layout)) n extent
      ]
    ];
  }

  times_alike : (n : ℕ) (reference : Reference)
      → times_owed reference (owed_to layout n) ≡ times_owed reference (owed_at owings n)
  times_alike n reference =
      times_of_layout n reference (owed layout)
      ∙ sym (sum_by-IsPermutation (adds n reference) (owed layout) (owings_told owings) lists.owed)
      ∙ sym (times_of_list n reference owings)

  agrees_alike : (n : ℕ) → agrees_at layout parts n ≡ agree_at owings things parts n
  unfolding agrees_at agree_at
  agrees_alike n =
      let here : List ExtentPart = parts_at parts n in
      let told : List (Reference × ℕ) = filter_map reference_told here in
      let refs : ℕ = sum_by (λ (entry : Reference × ℕ). entry.1) told in
      ap (λ b. b && are_references told (owed_to layout n))
      (recorded_alike (what_at layout n) refs (filter is_record here)
      ∙ ap (λ kind. is_recorded_once (what_of kind) refs (filter is_record here)) (sym (lists.there n)))
      ∙ ap (λ b. is_recorded_once (what_of (kind_at things n)) refs (filter is_record here) && b)
      (are_references_moved told told (owed_to layout n) (owed_at owings n) (IsPermutation-refl told) (times_alike n))

  -- it is the same over the lists
  pub disagreement_told : disagreement layout parts ≡ first_disagreement owings things parts
  unfolding disagreement recorded_addresses first_disagreement told_addresses
  disagreement_told =
      ap (find (λ n. not (agrees_at layout parts n)))
      (number_set_of_same (map part_address parts ++ keys_of layout.nodes
      ++ map address_of_extent (layout_extents layout)) (map part_address parts ++ map address_of_thing things)
      same_addresses)
      ∙ find_same (λ n. not (agrees_at layout parts n)) (λ n. not (agree_at owings things parts n)) _
      (λ n has. ap not (agrees_alike n))

-- what is owed told in another order
pub told_moved : (layout : Layout) (owings owings' : List Owing) (things : List Thing) → IsPermutation owings owings'
    → IsTold layout owings things → IsTold layout owings' things
told_moved layout owings owings' things moved lists = record {
  owed = IsPermutation-trans (owed layout) (owings_told owings) (owings_told owings') lists.owed
      (IsPermutation-map owing_told owings owings' moved);
  there = lists.there;
}
