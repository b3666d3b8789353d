-- A node that a state holds has a reference, so its slot is taken: a slot that is free is free of the state.
use Rattle.std.proofs.Common.{◌≡◌, ℕ, zero, suc, ◌<◌, ◌≤◌, Bool, true, false, List, [], ◌∷◌, map, Option, Some, None}
use Rattle.std.proofs.Common.{arith, refl, sym, ap, subst, ◌∙◌, inl, inr}
use Rattle.std.specs.Prelude.{◌⊎◌, ◌||◌, ◌&&◌, ◌==◌, not, is_some, nat_lt}
use Rattle.std.specs.List.{Contains, flat_map, list_any}
use Rattle.std.specs.Option.{option_map}
use Rattle.std.proofs.lemmas.Bool.{and_from, cases_Bool, eqb-true, lt-ltb, ltb-false, ltb-true, true≢false}
use Rattle.std.proofs.lemmas.List.Elements.{Contains-append_cases, Contains-append_left, Contains-append_right}
use Rattle.qg_device.specs.History.{History}
use Rattle.qg_node.specs.declared.pointer.Pointer.{Pointer}
use Rattle.qg_items.specs.declared.extent.Reference.{Reference}
use Rattle.qg_super.specs.declared.sizes.Sizes.{Sizes}
use Rattle.qg_super.specs.Places.{is_slot}
use Rattle.qg_image.specs.Table.{keys_of, value_at}
use Rattle.qg_image.specs.declared.element.Element.{Element}
use Rattle.qg_image.specs.Owed.{Owing, owed, owed_by_node}
use Rattle.qg_image.specs.Reach.{extent_of, is_among, is_reached, level_of, own_elements, pieces_of, pointers_at, reach}
use Rattle.qg_image.specs.Reach.{reach_of, reach_of_root, reach_under, reaches}
use Rattle.qg_image.specs.Space.{is_free_slot}
use Rattle.qg_image.specs.State.{Layout, Placed, State, layout_of, node_at}
use Rattle.qg_image.proofs.Contained.{contains_cases, contains_here, contains_later, none_contained}
use Rattle.qg_machine.specs.Layout.{IsReached}
use Rattle.qg_cow_refs.specs.Children.{way_to}
use Rattle.qg_space.specs.Holding.{has_slot}
use Rattle.qg_space.specs.Holding.{is_free_slot as is_free}
use Rattle.qg_space.proofs.Members.{Contains-has_slot}
use Rattle.qg_node_alloc.specs.declared.ground.Ground.{Ground}
use Rattle.qg_node_alloc.proofs.Slots.{free-absent, free-apart, free-parts}
use Rattle.qg_refs.specs.Book.{count_at}
use Rattle.qg_extents.specs.Table.{book_of}
use Rattle.qg_owner_rule.proofs.Reaching.{entry_of_value}
use Rattle.qg_reach.proofs.Members.{contains_flat_map, contains_map, one_flat_mapped}
use Rattle.qg_tree_backrefs.specs.declared.tree_refs.TreeRefs.{TreeRefs}
use Rattle.qg_tree_backrefs.specs.Following.{references_to}
use Rattle.qg_shared_trees.specs.ForestStanding.{HoldsState}
use Rattle.qg_shared_trees.proofs.Meeting.{each-there, some-passes}
use Rattle.qg_shared_trees.proofs.Referring.{counted-referred, counted-times, element_owes, pointer_owes, times-has}

-- ---- lists

none_of : {A : Type 0} (test : A → Bool) (xs : List A) → ((x : A) → Contains xs x → test x ≡ true → ⊥)
    → list_any test xs ≡ false
none_of {A} test [] none = refl
none_of {A} test (x ∷ xs) none = elim (cases_Bool (test x)) [
  | inl passes ↦ absurd (none x (contains_here x xs) passes)
  | inr fails ↦
      ap (λ (b : Bool). b || list_any test xs) fails
      ∙ none_of test xs (λ y has passes. none y (contains_later x xs y has) passes)
]

-- ---- what a node owes

-- a node of a table owes a reference to what begins at an address
pub record IsOwed (nodes : List (ℕ × Placed)) (at : ℕ) : Type 0 where
  pub from : ℕ
  pub placed : Placed
  pub there : value_at from nodes ≡ Some placed
  pub owing : Owing
  pub has : Contains (owed_by_node placed) owing
  pub leads : owing.address ≡ at

-- ---- what is met

own_owed : (nodes : List (ℕ × Placed)) (nodesize from : ℕ) (o : Option Placed) → value_at from nodes ≡ o
    → (element : Element)
    → Contains (own_elements nodesize from (option_map (λ (placed : Placed). placed.node) o)) element
    → (element.address ≡ from) ⊎ IsOwed nodes element.address
own_owed nodes nodesize from None is element has = absurd (none_contained element has)
own_owed nodes nodesize from (Some placed) is element has =
    let own : Element = record { address = from; bytes = nodesize } in
    elim (contains_cases own (map extent_of (pieces_of placed.node)) element has) [
      | inl same ↦ inl (sym (ap (λ (e : Element). e.address) same))
      | inr later ↦
          let owes = element_owes placed element later in
          inr (record { from = from; placed = placed; there = is; owing = owes.0; has = owes.1; leads = owes.2 })
    ]

pointer_owed : (nodes : List (ℕ × Placed)) (from : ℕ) (o : Option Placed) → value_at from nodes ≡ o
    → (pointer : Pointer)
    → Contains (pointers_at (option_map (λ (placed : Placed). placed.node) o)) pointer → IsOwed nodes pointer.child
pointer_owed nodes from None is pointer has = absurd (none_contained pointer has)
pointer_owed nodes from (Some placed) is pointer has =
    let owes = pointer_owes placed pointer has in
    record { from = from; placed = placed; there = is; owing = owes.0; has = owes.1; leads = owes.2 }

-- what is met from a node down is that node, or a node owes it a reference
pub met-owed : (nodes : List (ℕ × Placed)) (nodesize level from : ℕ) (element : Element)
    → Contains (reach_under (node_at nodes) nodesize level from) element
    → (element.address ≡ from) ⊎ IsOwed nodes element.address
met-owed nodes nodesize zero from element has = own_owed nodes nodesize from (value_at from nodes) refl element has
met-owed nodes nodesize (suc level) from element has =
    let below = λ (pointer : Pointer). reach_under (node_at nodes) nodesize level pointer.child in
    elim (Contains-append_cases (own_elements nodesize from (node_at nodes from))
    (flat_map below (pointers_at (node_at nodes from))) element has) [
      | inl own ↦ own_owed nodes nodesize from (value_at from nodes) refl element own
      | inr later ↦
          let pointer = one_flat_mapped below (pointers_at (node_at nodes from)) element later in
          let led = pointer_owed nodes from (value_at from nodes) refl pointer.0 pointer.1 in
          elim (met-owed nodes nodesize level pointer.0.child element pointer.2) [
            | inl same ↦ inr (subst (λ (at : ℕ). IsOwed nodes at) (sym same) led)
            | inr owed ↦ inr owed
          ]
    ]

-- ---- a layout

-- a reference is owed to what begins at an address
pub record IsOwing (layout : Layout) (at : ℕ) : Type 0 where
  pub owing : Owing
  pub has : Contains (owed layout) owing
  pub leads : owing.address ≡ at

module _ (layout : Layout) (at : ℕ) where
  abbrev way_of : ℕ × ℕ → Owing
  way_of entry = way_to entry.1 entry.0

  abbrev owes : ℕ × Placed → List Owing
  owes entry = owed_by_node entry.1

  root_owing : (sub root : ℕ) → value_at sub layout.roots ≡ Some root → root ≡ at → IsOwing layout at
  unfolding owed
  root_owing sub root there same = record {
    owing = way_to root sub;
    has = Contains-append_left (map way_of layout.roots) (flat_map owes layout.nodes) (way_to root sub)
        (contains_map way_of layout.roots (sub, root) (entry_of_value sub root layout.roots there));
    leads = same;
  }

  node_owing : IsOwed layout.nodes at → IsOwing layout at
  unfolding owed
  node_owing is = record {
    owing = is.owing;
    has = Contains-append_right (map way_of layout.roots) (flat_map owes layout.nodes) is.owing
        (contains_flat_map owes layout.nodes (is.from, is.placed) is.owing
        (entry_of_value is.from is.placed layout.nodes is.there) is.has);
    leads = is.leads;
  }

  by_reach : (sub : ℕ) (o : Option ℕ) → value_at sub layout.roots ≡ o → is_among at (reach_of layout o) ≡ true
      → IsOwing layout at
  unfolding reach_of_root
  by_reach sub None none is = absurd (true≢false (sym is))
  by_reach sub (Some root) there is =
      let element = some-passes (λ (e : Element). e.address == at) (reach_of_root layout root) is in
      let same = eqb-true element.0.address at element.2 in
      elim (met-owed layout.nodes layout.nodesize (level_of (node_at layout.nodes root)) root element.0 element.1) [
        | inl top ↦ root_owing sub root there (sym top ∙ same)
        | inr owed ↦ node_owing (subst (λ (q : ℕ). IsOwed layout.nodes q) same owed)
      ]

  -- what some subvolume reaches is owed a reference
  pub reached-owing : is_reached layout at ≡ true → IsOwing layout at
  unfolding reach
  reached-owing is =
      let sub = some-passes (λ (sub : ℕ). reaches layout sub at) (keys_of layout.roots) is in
      by_reach sub.0 (value_at sub.0 layout.roots) refl sub.2

-- ---- a state that is held

module _ (land : Ground) (history : History) (book : TreeRefs) (state : State)
    (holds : HoldsState land history book state) where
  -- a node has a reference
  pub node-counted : (at : ℕ) (placed : Placed) → value_at at state.layout ≡ Some placed
      → (reference : Reference) × (0 < count_at (book_of book.refs) at reference)
  node-counted at placed there =
      let is = each-there (IsReached state) at placed state.layout holds.whole.reached there in
      let owing = reached-owing (layout_of state) at is.reached in
      let o = owing.owing in
      let owed_times = times-has (owed (layout_of state)) o owing.has in
      let count = holds.agrees o.address o.reference in
      let same = counted-times (layout_of state) o.address o.reference in
      let some : 0 < count_at (book_of book.refs) o.address o.reference = omega (arith, owed_times, count, same) in
      (o.reference, subst (λ (q : ℕ). 0 < count_at (book_of book.refs) q o.reference) owing.leads some)

  -- so the present state has its slot
  pub slot-taken : (at : ℕ) (placed : Placed) → value_at at state.layout ≡ Some placed → has_slot land.space at ≡ true
  slot-taken at placed there =
      let known = node-counted at placed there in
      holds.settled.slots at (holds.nodes at placed there).slot
      ∙ lt-ltb 0 (references_to (book_of book.refs) at)
      (counted-referred (book_of book.refs) at known.0 known.1)

  module _ (at : ℕ) (free : is_free land.space at ≡ true) where
    none_at : (o : Option Placed) → value_at at state.layout ≡ o → value_at at state.layout ≡ None
    none_at None is = is
    none_at (Some placed) is =
        absurd (free-absent land.space at free ((Contains-has_slot land.space at).0 (slot-taken at placed is)))

    -- where a slot is free no node lies
    pub free-none : value_at at state.layout ≡ None
    free-none = none_at (value_at at state.layout) refl

    pub free-slot : is_slot state.sizes at ≡ true
    free-slot = ap (λ (s : Sizes). is_slot s at) holds.sizes ∙ (free-parts land.space at free).0

    not_held : list_any (λ (node : ℕ). node == at) state.held.nodes ≡ false
    not_held =
        none_of (λ (node : ℕ). node == at) state.held.nodes (λ node has same.
        free-apart land.space at free ((holds.held_slots at).1
        (subst (λ (q : ℕ). Contains state.held.nodes q) (eqb-true node at same) has)))

    -- and it is free of the state
    pub free-state : is_free_slot state at ≡ true
    unfolding is_free_slot
    free-state =
        and_from (is_slot state.sizes at && not (is_some (value_at at state.layout)))
        (not (list_any (λ (node : ℕ). node == at) state.held.nodes))
        (and_from (is_slot state.sizes at) (not (is_some (value_at at state.layout))) free-slot
        (ap (λ (o : Option Placed). not (is_some o)) free-none)) (ap not not_held)

    none_has : has_slot land.space at ≡ false
    none_has = elim (cases_Bool (has_slot land.space at)) [
      | inl has ↦ absurd (free-absent land.space at free ((Contains-has_slot land.space at).0 has))
      | inr none ↦ none
    ]

    -- no reference leads there
    pub free-count : (reference : Reference) → count_at (book_of book.refs) at reference ≡ 0
    free-count reference =
        let count = count_at (book_of book.refs) at reference in
        let short : references_to (book_of book.refs) at ≤ 0 =
        ltb-false 0 (references_to (book_of book.refs) at)
        (sym (holds.settled.slots at (free-parts land.space at free).0) ∙ none_has) in
        elim (cases_Bool (nat_lt 0 count)) [
          | inl some ↦
              let many = counted-referred (book_of book.refs) at reference (ltb-true 0 count some) in
              absurd (omega (arith, short, many))
          | inr none ↦ let few = ltb-false 0 count none in omega (arith, few)
        ]
