-- Portions of all that was surveyed tell a layout, so their counters are the direct counts.
use Rattle.std.proofs.Common.{◌≡◌, ℕ, zero, suc, ◌<◌, Bool, true, false, List, [], ◌∷◌, ◌++◌, map, length, Some, refl}
use Rattle.std.proofs.Common.{sym, ap, subst, ◌∙◌, arith, ◌⊎◌, inl, inr}
use Rattle.std.specs.Prelude.{◌==◌, slice_get, slice_index}
use Rattle.std.specs.List.{Contains}
use Rattle.std.specs.List.Sorted.{IsStrictlyIncreasing, IsStrictlySortedBy}
use Rattle.std.specs.Ordering.{nat_cmp}
use Rattle.std.specs.declared.cmp.Ordering.TheVariants.{Less}
use Rattle.std.proofs.lemmas.Bool.Decides.{nat_tests}
use Rattle.std.proofs.lemmas.Bool.{eq-eqb, eqb-true, or_cases, or_left, or_right, both_ways}
use Rattle.std.proofs.lemmas.List.{length-map}
use Rattle.std.proofs.lemmas.List.Elements.{All-contains, All-from_recursion, Contains-append_cases}
use Rattle.std.proofs.lemmas.List.Elements.{Contains-append_left, Contains-append_right}
use Rattle.std.proofs.lemmas.Map.Keys.{IsDistinct-tail, sorted_from_strictly_increasing, sorted_head, sorted_tail}
use Rattle.std.proofs.lemmas.Option.{same_Some, none-some, slice_get_within}
use Rattle.qg_num.specs.declared.counters.Counters.{Counters}
use Rattle.qg_num.specs.declared.piece.Piece.{Piece}
use Rattle.qg_image.specs.Table.{keys_of, value_at}
use Rattle.qg_image.specs.declared.element.Element.{Element}
use Rattle.qg_image.specs.State.{Layout, Placed, node_at}
use Rattle.qg_image.specs.Reach.{extent_of, is_among, own_elements, pieces_of, reach, reaches}
use Rattle.qg_image.specs.Members.{Hierarchy, is_member}
use Rattle.qg_image.specs.Owed.{layout_extents}
use Rattle.qg_image.proofs.Contained.{contains_cases, contains_here, contains_later, none_contained}
use Rattle.qg_reach.proofs.Distinct.{AreApart, apart_first, apart_none, apart_with, begin_alike}
use Rattle.qg_reach.proofs.Members.{contains_flat_map, contains_map, one_mapped}
use Rattle.qg_owner_rule.specs.declared.linked.Linked.{Linked}
use Rattle.qg_owner_rule.specs.Leading.{Leads}
use Rattle.qg_owner_rule.proofs.Listed.{at_one, contains_at, index_of}
use Rattle.qg_owner_rule.proofs.Ascending.{one_of_number}
use Rattle.qg_owner_rule.proofs.Reaching.{entry_of_value, keys_told, value_of_entry}
use Rattle.qg_qgroup_counts.specs.declared.reached.Reached.{Reached}
use Rattle.qg_qgroup_counts.specs.Above.{list_at}
use Rattle.qg_qgroup_counts.specs.Reached.{TellsReach}
use Rattle.qg_qgroup_counts.specs.Roots.{IsReachedFrom}
use Rattle.qg_qgroup_counts.specs.Sets.{HasMember, row_of}
use Rattle.qg_qgroup_counts.specs.declared.counting.Portion.{Portion}
use Rattle.qg_qgroup_counts.specs.AllReached.{AreAllReached}
use Rattle.qg_qgroup_counts.specs.Portions.{is_in}
use Rattle.qg_qgroup_counts.specs.Telling.{ArePortionsOf, IsPortionOf}
use Rattle.qg_qgroup_counts.specs.Groups.{counted_for, is_above}
use Rattle.qg_qgroup_counts.specs.Laws.{number_at}
use Rattle.qg_qgroup_counts.proofs.DirectCounts.{counted-same, groups-direct, number-is}
use Rattle.qg_qgroup_counts.proofs.PortionBytes.{there-at}
use Rattle.qg_qgroup_counts.specs.declared.surveyed.Surveyed.{Surveyed}
use Rattle.qg_qgroup_counts.specs.Surveyed.{AreSurveyed, links_in, surveyed_of}
use Rattle.qg_qgroup_counts.specs.GroupsOf.{AreMemberships}
use Rattle.qg_qgroup_counts.specs.Direct.{AreGroupCounts}
use Rattle.qg_qgroup_counts.specs.Namers.{AreNamers}
use Rattle.qg_qgroup_counts.specs.ExtentBytes.{AreOfNamers, IsOfNodes, node_portions}
use Rattle.qg_qgroup_counts.proofs.Reaching.{led_reached, own_is, reached_led, reached_own}

-- a node of so many bytes as an element
abbrev node_element : ℕ → ℕ → Element
node_element bytes address = record { address = address; bytes = bytes }

-- ---- what begins at an address

there_among : (xs : List Element) (y : Element) (address : ℕ) → Contains xs y → y.address ≡ address
    → is_among address xs ≡ true
there_among [] y address has is = absurd (none_contained y has)
there_among (x ∷ xs) y address has is = elim (contains_cases x xs y has) [
  | inl same ↦
      or_left (x.address == address) (is_among address xs)
      (eq-eqb x.address address (ap (λ (e : Element). e.address) same ∙ is))
  | inr later ↦ or_right (x.address == address) (is_among address xs) (there_among xs y address later is)
]

one_among : (xs : List Element) (address : ℕ) → is_among address xs ≡ true
    → (y : Element) × Contains xs y × (y.address ≡ address)
one_among [] address is = cc
one_among (x ∷ xs) address is = elim (or_cases (x.address == address) (is_among address xs) is) [
  | inl here ↦ (x, contains_here x xs, eqb-true x.address address here)
  | inr later ↦ let found = one_among xs address later in (found.0, contains_later x xs found.0 found.1, found.2)
]

-- ---- lists that lie apart

-- of numbers that ascend the first is less than each later one
less-later : (x : ℕ) (xs : List ℕ) (y : ℕ) → IsStrictlySortedBy nat_cmp (x ∷ xs) → Contains xs y → x < y
less-later x xs y sorted has =
    is_less x y
    (All-contains (λ z. nat_cmp x z ≡ Less) xs y
    (All-from_recursion (λ z. nat_cmp x z ≡ Less) xs (sorted_head nat_cmp x xs sorted)) has)
  where
    is_less : (a b : ℕ) → nat_cmp a b ≡ Less → a < b
    is_less a b less = grind (arith, nat_tests)

apart_sorted : (xs : List Element) → IsStrictlySortedBy nat_cmp (map (λ (e : Element). e.address) xs) → AreApart xs
apart_sorted [] up = apart_none
apart_sorted (x ∷ xs) up =
    apart_with x xs
    (λ y has same.
    let less = less-later x.address (map (λ (e : Element). e.address) xs) y.address up
    (contains_map (λ (e : Element). e.address) xs y has) in
    omega (arith, less, same))
    (apart_sorted xs (sorted_tail nat_cmp x.address (map (λ (e : Element). e.address) xs) up))

apart_both : (xs ys : List Element) → AreApart xs → AreApart ys
    → ((x y : Element) → Contains xs x → Contains ys y → x.address ≡ y.address → ⊥) → AreApart (xs ++ ys)
apart_both [] ys apart apart' other = apart'
apart_both (x ∷ xs) ys apart apart' other =
    apart_with x (xs ++ ys) differ
    (apart_both xs ys (IsDistinct-tail begin_alike x xs apart) apart'
    (λ z y has has'. other z y (contains_later x xs z has) has'))
  where
    differ : (y : Element) → Contains (xs ++ ys) y → x.address ≡ y.address → ⊥
    differ y has same = elim (Contains-append_cases xs ys y has) [
      | inl first ↦ apart_first x xs y apart first same
      | inr second ↦ other x y (contains_here x xs) second same
    ]

-- ---- portions, one by one

each_portion : (layout : Layout) (rows : List (List ℕ)) (elements : List Element) (portions : List Portion)
    → length portions ≡ length elements
    → ((place : ℕ) (element : Element) (portion : Portion) → slice_get elements place ≡ Some element
    → slice_get portions place ≡ Some portion → IsPortionOf layout rows element portion)
    → ArePortionsOf layout rows elements portions
each_portion layout rows [] [] same each = tt
each_portion layout rows [] (portion ∷ portions) same each = absurd (omega (arith, same))
each_portion layout rows (element ∷ elements) [] same each = absurd (omega (arith, same))
each_portion layout rows (element ∷ elements) (portion ∷ portions) same each = (
  each 0 element portion refl refl,
  each_portion layout rows elements portions (omega (arith, same))
      (λ place e p at there. each (suc place) e p at there),
)

both_portions : (layout : Layout) (rows : List (List ℕ)) (elements others : List Element) (portions more : List Portion)
    → ArePortionsOf layout rows elements portions → ArePortionsOf layout rows others more
    → ArePortionsOf layout rows (elements ++ others) (portions ++ more)
both_portions layout rows [] others [] more first second = second
both_portions layout rows [] others (portion ∷ portions) more first second = absurd first
both_portions layout rows (element ∷ elements) others [] more first second = absurd first
both_portions layout rows (element ∷ elements) others (portion ∷ portions) more first second =
    (first.0, both_portions layout rows elements others portions more first.1 second)

at_mapped : {A B : Type 0} (f : A → B) (xs : List A) (i : ℕ) (y : B) → slice_get (map f xs) i ≡ Some y
    → (x : A) × (slice_get xs i ≡ Some x) × (f x ≡ y)
at_mapped f [] i y at = absurd (none-some y at)
at_mapped f (x ∷ xs) zero y at = (x, refl, same_Some (f x) y at)
at_mapped f (x ∷ xs) (suc i) y at = at_mapped f xs i y at

mapped_at : {A B : Type 0} (f : A → B) (xs : List A) (i : ℕ) (x : A) → slice_get xs i ≡ Some x
    → slice_get (map f xs) i ≡ Some (f x)
mapped_at f [] i x at = absurd (none-some x at)
mapped_at f (y ∷ ys) zero x at = ap Some (ap f (same_Some y x at))
mapped_at f (y ∷ ys) (suc i) x at = mapped_at f ys i x at

index_read : (ns : List ℕ) (i n : ℕ) → slice_get ns i ≡ Some n → slice_index ns i ≡ n
index_read [] i n at = absurd (none-some n at)
index_read (m ∷ ms) zero n at = same_Some m n at
index_read (m ∷ ms) (suc i) n at = index_read ms i n at

same_truth : (a b : Bool) → (a ≡ true → b ≡ true) → (b ≡ true → a ≡ true) → a ≡ b
same_truth true true into back = refl
same_truth false false into back = refl
same_truth true false into back = sym (into refl)
same_truth false true into back = back refl

-- ---- what was surveyed

module _ (layout : Layout) (roots : List (ℕ × ℕ)) (nodes : List Surveyed) (nodesize : ℕ) (extents : List Element)
    (are : AreSurveyed layout roots nodes nodesize extents)
    (up : IsStrictlyIncreasing (map (λ link. link.address) (links_in nodes))) where
  abbrev links : List Linked
  links = map (λ (node : Surveyed). node.linked) nodes

  abbrev own : ℕ → List Element
  own address = own_elements layout.nodesize address (node_at layout.nodes address)

  abbrev element_of : Surveyed → Element
  element_of node = node_element nodesize node.linked.address

  abbrev elements : List Element
  elements = extents ++ map (λ (node : Surveyed). node_element nodesize node.linked.address) nodes

  table_up : IsStrictlyIncreasing (keys_of layout.nodes)
  table_up =
      subst IsStrictlyIncreasing
      (ap (map (λ (link : Linked). link.address)) are.links.told ∙ keys_told layout.nodes) up

  -- what is placed where a node lies, and what the node names
  placed_in : (node : Surveyed) → Contains nodes node
      → (placed : Placed) × (value_at node.linked.address layout.nodes ≡ Some placed)
      × (node.extents ≡ map (λ (piece : Piece). piece.extent) (pieces_of placed.node))
  placed_in node has =
      let entry =
      one_mapped (λ (e : ℕ × Placed). surveyed_of e.0 e.1) layout.nodes node
      (subst (λ (list : List Surveyed). Contains list node) are.told has) in
      let at : entry.0.0 ≡ node.linked.address = ap (λ (s : Surveyed). s.linked.address) entry.2 in (
        entry.0.1,
        subst (λ a. value_at a layout.nodes ≡ Some entry.0.1) at (value_of_entry layout.nodes entry.0 table_up entry.1),
        sym (ap (λ (s : Surveyed). s.extents) entry.2),
      )

  -- the surveyed node that is linked so
  node_with : (x : Linked) → Contains links x → (node : Surveyed) × Contains nodes node × (node.linked ≡ x)
  node_with x has = one_mapped (λ (node : Surveyed). node.linked) nodes x has

  one_link : (x y : Linked) → Contains links x → Contains links y → x.address ≡ y.address → x ≡ y
  one_link x y has has' same = one_of_number (λ (link : Linked). link.address) links up x y has has' same

  -- what a node has is itself or an extent that it names
  own_cases : (node : Surveyed) → Contains nodes node → (y : Element) → Contains (own node.linked.address) y
      → (element_of node ≡ y) ⊎ (Contains (layout_extents layout) y × Contains node.extents y.address)
  unfolding layout_extents
  own_cases node has y in' =
      let p = placed_in node has in
      let list =
      subst (λ (list : List Element). Contains list y)
      (own_is layout roots links are.links up node.linked.address p.0 p.1) in'
      in
      by p list
    where
      by : (p : (placed : Placed) × (value_at node.linked.address layout.nodes ≡ Some placed)
          × (node.extents ≡ map (λ (piece : Piece). piece.extent) (pieces_of placed.node)))
          → Contains (node_element layout.nodesize node.linked.address ∷ map extent_of (pieces_of p.0.node)) y
          → (element_of node ≡ y) ⊎ (Contains (layout_extents layout) y × Contains node.extents y.address)
      by p list = elim (contains_cases (node_element layout.nodesize node.linked.address)
          (map extent_of (pieces_of p.0.node)) y list) [
            | inl is ↦ inl (ap (λ n. node_element n node.linked.address) are.bytes ∙ is)
            | inr later ↦
                let piece = one_mapped extent_of (pieces_of p.0.node) y later in
                inr (
                  contains_flat_map (λ (entry : ℕ × Placed). map extent_of (pieces_of entry.1.node)) layout.nodes
                      (node.linked.address, p.0) y (entry_of_value node.linked.address p.0 layout.nodes p.1) later,
                  subst (λ (list : List ℕ). Contains list y.address) (sym p.2)
                      (subst (Contains (map (λ (q : Piece). q.extent) (pieces_of p.0.node)))
                      (ap (λ (e : Element). e.address) piece.2)
                      (contains_map (λ (q : Piece). q.extent) (pieces_of p.0.node) piece.0 piece.1)),
                )
          ]

  own_self : (node : Surveyed) → Contains nodes node
      → Contains (own node.linked.address) (node_element layout.nodesize node.linked.address)
  own_self node has =
      let p = placed_in node has in
      subst (λ (list : List Element). Contains list (node_element layout.nodesize node.linked.address))
      (sym (own_is layout roots links are.links up node.linked.address p.0 p.1))
      (contains_here (node_element layout.nodesize node.linked.address) (map extent_of (pieces_of p.0.node)))

  own_named : (node : Surveyed) → Contains nodes node → (address : ℕ) → Contains node.extents address
      → (y : Element) × Contains (own node.linked.address) y × (y.address ≡ address)
  own_named node has address names =
      let p = placed_in node has in
      let piece =
      one_mapped (λ (q : Piece). q.extent) (pieces_of p.0.node) address
      (subst (λ (list : List ℕ). Contains list address) p.2 names) in (
        extent_of piece.0,
        subst (λ (list : List Element). Contains list (extent_of piece.0))
            (sym (own_is layout roots links are.links up node.linked.address p.0 p.1))
            (contains_later (node_element layout.nodesize node.linked.address)
            (map extent_of (pieces_of p.0.node)) (extent_of piece.0)
            (contains_map extent_of (pieces_of p.0.node) piece.0 piece.1)),
        piece.2,
      )

  -- where a node lies no extent begins
  elsewhere : (x : Linked) → Contains links x → (y : Element) → Contains (layout_extents layout) y
      → y.address ≡ x.address → ⊥
  elsewhere x has y named same =
      both_ways (is_among x.address (layout_extents layout)) (are.links.apart x has)
      (there_among (layout_extents layout) y x.address named same)

  -- ---- all that is reached

  linked_in : (node : Surveyed) → Contains nodes node → Contains links node.linked
  linked_in node has = contains_map (λ (s : Surveyed). s.linked) nodes node has

  all_apart : AreApart elements
  all_apart =
      apart_both extents (map element_of nodes)
      (apart_sorted extents (sorted_from_strictly_increasing (map (λ (e : Element). e.address) extents) are.ascending))
      (apart_sorted (map element_of nodes)
      (subst (IsStrictlySortedBy nat_cmp) (sym (addresses nodes))
      (sorted_from_strictly_increasing (map (λ (link : Linked). link.address) links) up)))
      (λ x y extent node same.
      let one = one_mapped element_of nodes y node in
      elsewhere one.0.linked (linked_in one.0 one.1) x (are.named.into x extent)
      (same ∙ sym (ap (λ (e : Element). e.address) one.2)))
    where
      addresses : (list : List Surveyed)
          → map (λ (e : Element). e.address) (map (λ (s : Surveyed). node_element nodesize s.linked.address) list)
          ≡ map (λ (link : Linked). link.address) (map (λ (s : Surveyed). s.linked) list)
      addresses [] = refl
      addresses (s ∷ list) = ap (λ rest. s.linked.address ∷ rest) (addresses list)

  all_reached : AreAllReached layout elements
  all_reached = record { apart = all_apart; all = all } where
    all : (sub : ℕ) (element : Element) → Contains (reach layout sub) element → Contains elements element
    all sub element has =
        let x = reached_own layout roots links are.links up are.numbers sub element has in
        let node = node_with x.0 x.1 in
        let mine = subst (λ (link : Linked). Contains (own link.address) element) (sym node.2) x.2 in
        elim (own_cases node.0 node.1 element mine) [
          | inl is ↦
              Contains-append_right extents (map element_of nodes) element
              (subst (Contains (map element_of nodes)) is (contains_map element_of nodes node.0 node.1))
          | inr named ↦
              Contains-append_left extents (map element_of nodes) element (are.named.back element named.0)
        ]

  -- ---- portions

  module _ (reached : Reached) (told : TellsReach (links_in nodes) roots reached) where
    abbrev rows : List (List ℕ)
    rows = reached.sets.rows.items

    root_in : (index : ℕ) (root : ℕ × ℕ) → slice_get layout.roots index ≡ Some root → Contains layout.roots root
    root_in index root at = contains_at layout.roots index root at

    root_at : (index : ℕ) (root : ℕ × ℕ) → slice_get layout.roots index ≡ Some root → slice_get roots index ≡ Some root
    root_at index root at = ap (λ (list : List (ℕ × ℕ)). slice_get list index) are.links.roots ∙ at

    -- from the root at an index pointers lead to a node
    leads_from : (index : ℕ) (root : ℕ × ℕ) (x : Linked) → slice_get layout.roots index ≡ Some root
        → IsReachedFrom links roots index x → Leads links root.1 x
    leads_from index root x at reached' =
        subst (λ (r : ℕ × ℕ). Leads links r.1 x)
        (at_one roots index reached'.0 root reached'.1 (root_at index root at)) reached'.2

    -- what the subvolume at an index reaches at an address is what a node has that it reaches
    reaches_own : (index : ℕ) (root : ℕ × ℕ) (x : Linked) (y : Element) → slice_get layout.roots index ≡ Some root
        → IsReachedFrom links roots index x → Contains (own x.address) y → reaches layout root.0 y.address ≡ true
    reaches_own index root x y at reached' has =
        there_among (reach layout root.0) y y.address
        (led_reached layout roots links are.links up are.numbers root (root_in index root at) x y
        (leads_from index root x at reached') has) refl

    own_reaches : (index : ℕ) (root : ℕ × ℕ) (address : ℕ) → slice_get layout.roots index ≡ Some root
        → reaches layout root.0 address ≡ true
        → (node : Surveyed) × (y : Element) × Contains nodes node × IsReachedFrom links roots index node.linked
        × Contains (own node.linked.address) y × (y.address ≡ address)
    own_reaches index root address at is =
        let y = one_among (reach layout root.0) address is in
        let x = reached_led layout roots links are.links up are.numbers root (root_in index root at) y.0 y.1 in
        let node = node_with x.0 x.1 in (
          node.0,
          y.0,
          node.1,
          (root, root_at index root at, subst (Leads links root.1) (sym node.2) x.2),
          subst (λ (link : Linked). Contains (own link.address) y.0) (sym node.2) x.3,
          y.2,
        )

    node_portion : (place : ℕ) (node : Surveyed) (set : ℕ) → slice_get nodes place ≡ Some node
        → slice_get reached.numbers.items place ≡ Some set
        → IsPortionOf layout rows (element_of node) (record { bytes = nodesize; set = set })
    node_portion place node set at number = record { bytes = refl; reached = tells } where
      has : Contains nodes node
      has = contains_at nodes place node at

      link_at : slice_get links place ≡ Some node.linked
      link_at = mapped_at (λ (s : Surveyed). s.linked) nodes place node at

      row_is : row_of rows (slice_index reached.numbers.items place) ≡ row_of rows set
      row_is = ap (row_of rows) (index_read reached.numbers.items place set number)

      tells : (index : ℕ) (root : ℕ × ℕ) → slice_get layout.roots index ≡ Some root
          → is_in rows index set ≡ reaches layout root.0 node.linked.address
      tells index root there = same_truth (is_in rows index set) (reaches layout root.0 node.linked.address) into
          back where
            into : is_in rows index set ≡ true → reaches layout root.0 node.linked.address ≡ true
            into is =
                let member : HasMember (row_of rows set) index = eqb-true _ _ is in
                reaches_own index root node.linked (node_element layout.nodesize node.linked.address) there
                ((told.tells place index node.linked link_at).0
                (subst (λ (row : List ℕ). HasMember row index) (sym row_is) member)) (own_self node has)

            is_reached : (other : Surveyed) → Contains nodes other → IsReachedFrom links roots index other.linked
                → other.linked.address ≡ node.linked.address → is_in rows index set ≡ true
            is_reached other has' reached' same =
                let one = one_link other.linked node.linked (linked_in other has') (linked_in node has) same in
                let member =
                subst (λ (row : List ℕ). HasMember row index) row_is
                ((told.tells place index node.linked link_at).1
                (subst (IsReachedFrom links roots index) one reached')) in
                eq-eqb _ _ member

            back : reaches layout root.0 node.linked.address ≡ true → is_in rows index set ≡ true
            back is =
                let one = own_reaches index root node.linked.address there is in
                elim (own_cases one.0 one.2 one.1 one.4) [
                  | inl same ↦ is_reached one.0 one.2 one.3 (ap (λ (e : Element). e.address) same ∙ one.5)
                  | inr named ↦ absurd (elsewhere node.linked (linked_in node has) one.1 named.0 one.5)
                ]

    module _ (namers : List (List ℕ)) (are_namers : AreNamers nodes extents namers) where
      extent_portion : (place : ℕ) (extent : Element) (portion : Portion) → slice_get extents place ≡ Some extent
          → IsOfNodes (links_in nodes) roots rows (list_at namers place) extent portion
          → IsPortionOf layout rows extent portion
      extent_portion place extent portion at is = record { bytes = is.bytes; reached = tells } where
        named : Contains (layout_extents layout) extent
        named = are.named.into extent (contains_at extents place extent at)

        tells : (index : ℕ) (root : ℕ × ℕ) → slice_get layout.roots index ≡ Some root
            → is_in rows index portion.set ≡ reaches layout root.0 extent.address
        tells index root there = same_truth (is_in rows index portion.set) (reaches layout root.0 extent.address) into
            back
          where
            into : is_in rows index portion.set ≡ true → reaches layout root.0 extent.address ≡ true
            into has =
                let member : HasMember (row_of rows portion.set) index = eqb-true _ _ has in
                let one = (is.members index).0 member in
                let node = (are_namers place one.0 extent at).0 one.2 in
                let link =
                at_one links one.0 one.1 node.0.linked one.3
                (mapped_at (λ (s : Surveyed). s.linked) nodes one.0 node.0 node.1) in
                let y = own_named node.0 (contains_at nodes one.0 node.0 node.1) extent.address node.2 in
                let there' =
                reaches_own index root node.0.linked y.0 there (subst (IsReachedFrom links roots index) link one.4)
                y.1 in
                subst (λ a. reaches layout root.0 a ≡ true) y.2 there'

            back : reaches layout root.0 extent.address ≡ true → is_in rows index portion.set ≡ true
            back reached' =
                let one = own_reaches index root extent.address there reached' in
                elim (own_cases one.0 one.2 one.1 one.4) [
                  | inl same ↦
                      absurd (elsewhere one.0.linked (linked_in one.0 one.2) extent named
                      (sym (ap (λ (e : Element). e.address) same ∙ one.5)))
                  | inr names ↦
                      let i = index_of nodes one.0 one.2 in
                      let noted =
                      (are_namers place i.0 extent at).1 (one.0, i.1, subst (Contains one.0.extents) one.5 names.1) in
                      let member =
                      (is.members index).1
                      (i.0, one.0.linked, noted, mapped_at (λ (s : Surveyed). s.linked) nodes i.0 one.0 i.1, one.3) in
                      eq-eqb _ _ member
                ]

      module _ (portions : List Portion)
          (theirs : AreOfNamers (links_in nodes) roots rows namers extents portions) where
        abbrev all : List Portion
        all = portions ++ node_portions nodesize reached.numbers.items

        are_portions : ArePortionsOf layout rows elements (portions ++ node_portions nodesize reached.numbers.items)
        are_portions =
            both_portions layout rows extents (map element_of nodes) portions
            (node_portions nodesize reached.numbers.items)
            (each_portion layout rows extents portions theirs.same
            (λ place extent portion at there. extent_portion place extent portion at
            (theirs.each place extent portion at there)))
            (each_portion layout rows (map element_of nodes) (node_portions nodesize reached.numbers.items) long
            (λ place element portion at there.
            let node = at_mapped element_of nodes place element at in
            let set =
            at_mapped (λ (n : ℕ). made n) reached.numbers.items place portion there in
            subst (λ (e : Element). IsPortionOf layout rows e portion) node.2
            (subst (IsPortionOf layout rows (element_of node.0)) set.2 (node_portion place node.0 set.0 node.1 set.1))))
          where
            made : ℕ → Portion
            made n = record { bytes = nodesize; set = n }

            long : length (node_portions nodesize reached.numbers.items) ≡ length (map element_of nodes)
            long =
                length-map reached.numbers.items made ∙ told.same ∙ length-map nodes (λ (s : Surveyed). s.linked)
                ∙ sym (length-map nodes element_of)

        -- whether a subvolume is a member of a group, by its index
        module _ (hierarchy : Hierarchy) (above : List (List ℕ))
            (memberships : AreMemberships roots hierarchy above) where
          is_above-is : (place group : ℕ) → slice_get hierarchy.groups place ≡ Some group → (i : ℕ)
              → i < length layout.roots
              → is_above above place i ≡ is_member hierarchy group (number_at layout.roots i)
          is_above-is place group at i short =
              let root = there-at layout.roots i short in
              (memberships.each i root.0 (root_at i root.0 root.1)).has place group at
              ∙ ap (λ (n : ℕ). is_member hierarchy group n) (sym (number-is layout.roots i root.0 root.1))

          pub groups_direct : (counters : List Counters)
              → ((place : ℕ) → place < length hierarchy.groups → slice_get counters place
              ≡ Some (counted_for rows (length above) (portions ++ node_portions nodesize reached.numbers.items)
              (is_above above place)))
              → AreGroupCounts layout hierarchy counters
          groups_direct counters each place group at =
              let same = memberships.same ∙ ap (λ (list : List (ℕ × ℕ)). length list) are.links.roots in
              each place (slice_get_within hierarchy.groups place group at)
              ∙ ap Some (ap (λ n. counted_for rows n all (is_above above place)) same
              ∙ counted-same rows (length layout.roots) all (is_above above place)
              (λ i. is_member hierarchy group (number_at layout.roots i)) (is_above-is place group at)
              ∙ groups-direct layout hierarchy rows elements all group are.numbers all_reached are_portions)
