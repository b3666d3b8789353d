-- What is open once a node and its children were dropped is what was open without all that lies below, and how many
-- nodes do.
use Rattle.std.proofs.Common.{◌≡◌, ℕ, suc, ◌+◌, Bool, true, false, List, [], ◌∷◌, ◌++◌, map, Option, Some, arith, refl}
use Rattle.std.proofs.Common.{sym, ap, subst, ◌∙◌, inl, inr}
use Rattle.std.specs.Prelude.{◌==◌, ◌||◌, ◌&&◌, not, slice_get}
use Rattle.std.specs.List.{flat_map, list_any, sum_by}
use Rattle.std.proofs.lemmas.Bool.{cases_eq, eq-eqb, ne_eqb, or_cases, true≢false}
use Rattle.std.proofs.lemmas.List.Folds.{list_any-append}
use Rattle.std.proofs.lemmas.List.Sums.{sum_by-cons}
use Rattle.qg_num.specs.declared.key.Key.{Key}
use Rattle.qg_node.specs.declared.node.Header.{Header}
use Rattle.qg_node.specs.declared.node.Node.{Node}
use Rattle.qg_node.specs.declared.node.Node.TheVariants.{Inner}
use Rattle.qg_node.specs.declared.pointer.Pointer.{Pointer}
use Rattle.qg_image.specs.Table.{has_key}
use Rattle.qg_image.specs.declared.element.Element.{Element}
use Rattle.qg_image.specs.Reach.{extent_of, is_among, own_elements, pieces_of, pointers_at, reach_under}
use Rattle.qg_image.specs.State.{State, node_at}
use Rattle.qg_refs.specs.Book.{Book, full_in}
use Rattle.qg_walk.specs.Standing.{expected_below}
use Rattle.qg_subvolumes.specs.declared.child.Child.{Child}
use Rattle.qg_subvolumes.specs.Dropping.{children_told, is_below, parts_reached, without_part, without_parts}
use Rattle.qg_subvolumes.proofs.Among.{among-append, among-first, nodes_among}
use Rattle.qg_subvolumes.proofs.Stepping.{reached-first}

abbrev places : List Child → List ℕ
places children = map (λ part. part.way.address) children

pub told-places : (book : Book) (to : Option Key) (level : ℕ) (pointers : List Pointer)
    → places (children_told book to level pointers) ≡ map (λ pointer. pointer.child) pointers
told-places book to level [] = refl
told-places book to level (pointer ∷ pointers) =
    ap (λ (rest : List ℕ). pointer.child ∷ rest) (told-places book to level pointers)

equal_other : (a b : ℕ) → (a == b) ≡ (b == a)
equal_other a b = elim (cases_eq a b) [
  | inl same ↦ eq-eqb a b same ∙ sym (eq-eqb b a (sym same))
  | inr differ ↦ ne_eqb a b differ ∙ sym (ne_eqb b a (λ same. differ (sym same)))
]

and_more : (w b rest : Bool) → ((w && not b) && not rest) ≡ (w && not (b || rest))
and_more true true rest = refl
and_more true false rest = refl
and_more false b rest = refl

and_none : (w : Bool) → w ≡ (w && not false)
and_none true = refl
and_none false = refl

module _ (state : State) where
  pub parts-without : (level : ℕ) (froms : List ℕ) (waiting : ℕ → Bool) (q : ℕ)
      → without_parts state level froms waiting q
      ≡ (waiting q && not (list_any (λ from. is_below state level from q) froms))
  parts-without level [] waiting q = and_none (waiting q)
  parts-without level (from ∷ froms) waiting q =
      parts-without level froms (without_part state level from waiting) q
      ∙ and_more (waiting q) (is_below state level from q) (list_any (λ other. is_below state level other q) froms)

  any_below : (level q : ℕ) (pointers : List Pointer)
      → is_among q (flat_map (λ pointer. reach_under (node_at state.layout) state.sizes.nodesize level pointer.child)
      pointers)
      ≡ list_any (λ from. is_below state level from q) (map (λ pointer. pointer.child) pointers)
  any_below level q [] = refl
  any_below level q (pointer ∷ pointers) =
      let under = λ (p : Pointer). reach_under (node_at state.layout) state.sizes.nodesize level p.child in
      list_any-append (λ (element : Element). element.address == q) (under pointer) (flat_map under pointers)
      ∙ ap (λ (b : Bool). is_below state level pointer.child q || b) (any_below level q pointers)

  -- an inner node's own: it names no extent
  inner_own : (header : Header) (pointers : List Pointer) (at : ℕ)
      → own_elements state.sizes.nodesize at (Some (Inner header pointers))
      ≡ record { address = at; bytes = state.sizes.nodesize } ∷ []
  unfolding pieces_of
  inner_own header pointers at = refl

  module _ (lower at : ℕ) (header : Header) (pointers : List Pointer)
      (there : node_at state.layout at ≡ Some (Inner header pointers)) where
    abbrev under : Pointer → List Element
    under pointer = reach_under (node_at state.layout) state.sizes.nodesize lower pointer.child

    abbrev top : Element
    top = record { address = at; bytes = state.sizes.nodesize }

    pub reach-inner : reach_under (node_at state.layout) state.sizes.nodesize (suc lower) at
        ≡ (top ∷ []) ++ flat_map under pointers
    reach-inner =
        ap (λ (o : Option Node). own_elements state.sizes.nodesize at o ++ flat_map under (pointers_at o)) there
        ∙ ap (λ (own : List Element). own ++ flat_map under pointers) (inner_own header pointers at)

    below_inner : (q : ℕ) → is_below state (suc lower) at q
        ≡ ((at == q) || list_any (λ from. is_below state lower from q) (map (λ pointer. pointer.child) pointers))
    below_inner q =
        ap (λ (elements : List Element). is_among q elements) reach-inner
        ∙ ap (λ (b : Bool). (at == q) || b) (any_below lower q pointers)

    -- what is open without all below the node
    pub without-inner : (waiting : ℕ → Bool) (q : ℕ)
        → without_part state (suc lower) at waiting q
        ≡ without_parts state lower (map (λ pointer. pointer.child) pointers) (λ r. waiting r && not (r == at)) q
    without-inner waiting q =
        let rest = list_any (λ from. is_below state lower from q) (map (λ (p : Pointer). p.child) pointers) in
        ap (λ (b : Bool). waiting q && not b) (below_inner q)
        ∙ ap (λ (b : Bool). waiting q && not (b || rest)) (equal_other at q)
        ∙ sym (and_more (waiting q) (q == at) rest)
        ∙ sym (parts-without lower (map (λ (p : Pointer). p.child) pointers) (λ r. waiting r && not (r == at)) q)

    -- the node's own, and those below its pointers
    pub count-inner : (part : Child) → part.way.address ≡ at → has_key at state.layout ≡ true
        → ((place : ℕ) (pointer : Pointer) → slice_get pointers place ≡ Some pointer
        → is_below state lower pointer.child at ≡ true → ⊥)
        → parts_reached state (suc lower) (part ∷ []) ≡ nodes_among state.layout (flat_map under pointers) + 1
    count-inner part here key apart =
        let own = sum_by-cons (λ (part : Child). nodes_among state.layout (reach_under (node_at state.layout)
        state.sizes.nodesize (suc lower) part.way.address)) part [] in
        let moved = ap (λ (n : ℕ). nodes_among state.layout (reach_under (node_at state.layout) state.sizes.nodesize
        (suc lower) n)) here in
        let whole = ap (nodes_among state.layout) reach-inner in
        let one = among-first state.layout top (flat_map under pointers) key (λ q has among same.
        not_below pointers apart (subst (λ (n : ℕ). is_among n (flat_map under pointers) ≡ true) same among)) in
        omega (arith, own, moved, whole, one)
      where
        not_below : (some : List Pointer)
            → ((place : ℕ) (pointer : Pointer) → slice_get some place ≡ Some pointer
            → is_below state lower pointer.child at ≡ true → ⊥)
            → is_among at (flat_map under some) ≡ true → ⊥
        not_below [] apart among = true≢false (sym among)
        not_below (first ∷ some) apart among =
            elim (or_cases (is_below state lower first.child at) (is_among at (flat_map under some))
            (sym (list_any-append (λ (element : Element). element.address == at) (under first) (flat_map under some))
            ∙ among)) [
              | inl here ↦ apart 0 first refl here
              | inr later ↦ not_below some (λ place pointer is. apart (suc place) pointer is) later
            ]

  module _ (lower : ℕ) where
    abbrev below_of : Pointer → List Element
    below_of pointer = reach_under (node_at state.layout) state.sizes.nodesize lower pointer.child

    -- the nodes below several pointers
    abbrev own_below : Pointer → ℕ
    own_below pointer = nodes_among state.layout (below_of pointer)

    pub count-pointers : (some : List Pointer)
        → ((i j : ℕ) (p r : Pointer) → slice_get some i ≡ Some p → slice_get some j ≡ Some r → (i ≡ j → ⊥)
        → (q : ℕ) → has_key q state.layout ≡ true → is_below state lower p.child q ≡ true
        → is_below state lower r.child q ≡ true → ⊥)
        → nodes_among state.layout (flat_map below_of some) ≡ sum_by own_below some
    count-pointers [] apart = omega arith
    count-pointers (pointer ∷ some) apart =
        let first = among-append state.layout (below_of pointer) (flat_map below_of some) (λ q key mine theirs.
        let one = below_one some q theirs in
        apart 0 (suc one.0) pointer one.1 refl one.2 (λ same. omega (arith, same)) q key mine one.3) in
        let rest = count-pointers some (λ i j p r is is' differ.
        apart (suc i) (suc j) p r is is' (λ same. differ (omega (arith, same)))) in
        let all = sum_by-cons own_below pointer some in
        omega (arith, first, rest, all)
      where
        below_one : (some : List Pointer) (q : ℕ) → is_among q (flat_map below_of some) ≡ true
            → (place : ℕ) × (pointer : Pointer) × (slice_get some place ≡ Some pointer)
            × (is_below state lower pointer.child q ≡ true)
        below_one [] q among = absurd (true≢false (sym among))
        below_one (first ∷ some) q among =
            elim (or_cases (is_below state lower first.child q) (is_among q (flat_map below_of some))
            (sym (list_any-append (λ (element : Element). element.address == q) (below_of first)
            (flat_map below_of some)) ∙ among)) [
              | inl here ↦ (0, first, refl, here)
              | inr later ↦
                  let found = below_one some q later in
                  (suc found.0, found.1, found.2, found.3)
            ]

    pub parts-sum : (book : Book) (to : Option Key) (some : List Pointer)
        → parts_reached state lower (children_told book to lower some) ≡ sum_by own_below some
    parts-sum book to [] = refl
    parts-sum book to (pointer ∷ some) =
        let child : Child = record {
          way = record { address = pointer.child; expected = expected_below lower to pointer some };
          full = full_in (book pointer.child);
        } in
        let all = reached-first state lower child (children_told book to lower some) in
        let own = sum_by-cons (λ (part : Child). nodes_among state.layout (reach_under (node_at state.layout)
        state.sizes.nodesize lower part.way.address)) child [] in
        let rest = parts-sum book to some in
        let sum = sum_by-cons own_below pointer some in
        omega (arith, all, own, rest, sum)

  -- a leaf alone
  pub count-alone : (part : Child) (node : Node) → node_at state.layout part.way.address ≡ Some node
      → has_key part.way.address state.layout ≡ true
      → parts_reached state 0 (part ∷ []) ≡ nodes_among state.layout (record {
        address = part.way.address;
        bytes = state.sizes.nodesize;
      } ∷ map extent_of (pieces_of node))
  count-alone part node there key =
      let own = sum_by-cons (λ (part : Child). nodes_among state.layout (reach_under (node_at state.layout)
      state.sizes.nodesize 0 part.way.address)) part [] in
      let whole = ap (λ (o : Option Node). nodes_among state.layout
      (own_elements state.sizes.nodesize part.way.address o)) there in
      omega (arith, own, whole)
