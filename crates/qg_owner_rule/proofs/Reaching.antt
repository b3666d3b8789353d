-- What a subvolume of a layout reaches is what pointers lead to from its root.
use Rattle.std.proofs.Common.{◌≡◌, ℕ, zero, suc, ◌<◌, ◌≢◌, Bool, true, List, [], ◌∷◌, map, Option, Some, None, refl}
use Rattle.std.proofs.Common.{sym, ap, subst, ◌∙◌, arith, ◌⊎◌, inl, inr, ◌↔◌}
use Rattle.std.specs.Prelude.{◌||◌, ◌==◌, slice_get}
use Rattle.std.specs.List.{Contains, list_any, flat_map}
use Rattle.std.specs.List.Sorted.{IsStrictlyIncreasing}
use Rattle.std.specs.Option.{option_map}
use Rattle.std.proofs.lemmas.Bool.{cases_Bool, or_cases, or_left, or_right, both_ways, false≢true, eqb-true, eq-eqb}
use Rattle.std.proofs.lemmas.Bool.{ne_eqb, cond-true, cond-false}
use Rattle.std.proofs.lemmas.List.Folds.{list_any-append}
use Rattle.std.proofs.lemmas.Option.{same_Some, none-some}
use Rattle.qg_node.specs.declared.pointer.Pointer.{Pointer}
use Rattle.qg_node.specs.Nodes.{own_pointers}
use Rattle.qg_image.specs.Table.{value_at, keys_of}
use Rattle.qg_image.specs.declared.element.Element.{Element}
use Rattle.qg_image.specs.State.{Layout, Placed, node_at}
use Rattle.qg_image.specs.Reach.{extent_of, pieces_of, own_elements, pointers_at, reach_under, level_of, reach_of_root}
use Rattle.qg_image.specs.Reach.{reach_of, reach, is_among, reaches}
use Rattle.qg_image.specs.Owed.{layout_extents}
use Rattle.qg_image.proofs.Contained.{none_contained, contains_here, contains_later, contains_cases}
use Rattle.qg_owner_rule.specs.declared.linked.Linked.{Linked}
use Rattle.qg_owner_rule.specs.Linked.{linked_of, AreLinksOf}
use Rattle.qg_owner_rule.specs.Leading.{PointsTo, Leads, Here, Down, IsReached}
use Rattle.qg_owner_rule.proofs.Listed.{index_of}
use Rattle.qg_owner_rule.proofs.Ascending.{one_place, one_of_number}
use Rattle.qg_owner_rule.proofs.Spreading.{leads_in}

-- ---- lists and tables

any_in_one : {A B : Type 0} (test : B → Bool) (f : A → List B) (xs : List A) (x : A) → Contains xs x
    → list_any test (f x) ≡ true → list_any test (flat_map f xs) ≡ true
any_in_one test f [] x has passes = absurd (none_contained x has)
any_in_one test f (z ∷ zs) x has passes =
    list_any-append test (f z) (flat_map f zs) ∙ elim (contains_cases z zs x has) [
      | inl is ↦
          or_left (list_any test (f z)) (list_any test (flat_map f zs)) (ap (λ w. list_any test (f w)) is ∙ passes)
      | inr later ↦ or_right (list_any test (f z)) (list_any test (flat_map f zs)) (any_in_one test f zs x later passes)
    ]

one_has_any : {A B : Type 0} (test : B → Bool) (f : A → List B) (xs : List A) → list_any test (flat_map f xs) ≡ true
    → (x : A) × Contains xs x × (list_any test (f x) ≡ true)
one_has_any test f [] passes = absurd (false≢true passes)
one_has_any test f (z ∷ zs) passes =
    elim (or_cases (list_any test (f z)) (list_any test (flat_map f zs))
    (sym (list_any-append test (f z) (flat_map f zs)) ∙ passes)) [
      | inl here ↦ (z, contains_here z zs, here)
      | inr later ↦ let found = one_has_any test f zs later in (found.0, contains_later z zs found.0 found.1, found.2)
    ]

mapped : {A B : Type 0} (f : A → B) (xs : List A) (x : A) → Contains xs x → Contains (map f xs) (f x)
mapped f [] x has = absurd (none_contained x has)
mapped f (z ∷ zs) x has = elim (contains_cases z zs x has) [
  | inl is ↦ subst (λ w. Contains (f z ∷ map f zs) (f w)) is (contains_here (f z) (map f zs))
  | inr later ↦ contains_later (f z) (map f zs) (f x) (mapped f zs x later)
]

one_mapped : {A B : Type 0} (f : A → B) (xs : List A) (y : B) → Contains (map f xs) y
    → (x : A) × Contains xs x × (f x ≡ y)
one_mapped f [] y has = absurd (none_contained y has)
one_mapped f (z ∷ zs) y has = elim (contains_cases (f z) (map f zs) y has) [
  | inl is ↦ (z, contains_here z zs, is)
  | inr later ↦ let found = one_mapped f zs y later in (found.0, contains_later z zs found.0 found.1, found.2)
]

same_entry : {A : Type 0} (n : ℕ) (value : A) (entry : ℕ × A) → entry.0 ≡ n → entry.1 ≡ value → entry ≡ (n, value)
same_entry n value entry number own = ap (λ k. (k, entry.1)) number ∙ ap (λ v. (n, v)) own

pub entry_of_value : {A : Type 0} (n : ℕ) (value : A) (table : List (ℕ × A)) → value_at n table ≡ Some value
    → Contains table (n, value)
entry_of_value n value [] is = absurd (none-some value is)
entry_of_value {A} n value (entry ∷ table) is = elim (cases_Bool (entry.0 == n)) [
  | inl same ↦
      let own = same_Some entry.1 value (sym (cond-true (entry.0 == n) (Some entry.1) (value_at n table) same) ∙ is) in
      subst (λ e. Contains (entry ∷ table) e) (same_entry n value entry (eqb-true entry.0 n same) own)
      (contains_here entry table)
  | inr other ↦
      contains_later entry table (n, value)
      (entry_of_value n value table (sym (cond-false (entry.0 == n) (Some entry.1) (value_at n table) other) ∙ is))
]

value_in_front : {A : Type 0} (table : List (ℕ × A)) (i : ℕ) (entry : ℕ × A) → slice_get table i ≡ Some entry
    → ((k : ℕ) (other : ℕ × A) → k < i → slice_get table k ≡ Some other → other.0 ≢ entry.0)
    → value_at entry.0 table ≡ Some entry.1
value_in_front [] i entry at before = absurd (none-some entry at)
value_in_front (first ∷ table) zero entry at before =
    let is = same_Some first entry at in
    cond-true (first.0 == entry.0) (Some first.1) (value_at entry.0 table)
    (eq-eqb first.0 entry.0 (ap (λ (e : ℕ × _). e.0) is)) ∙ ap (λ (e : ℕ × _). Some e.1) is
value_in_front (first ∷ table) (suc i) entry at before =
    cond-false (first.0 == entry.0) (Some first.1) (value_at entry.0 table)
    (ne_eqb first.0 entry.0 (before 0 first (omega arith) refl))
    ∙ value_in_front table i entry at (λ k other less at'. before (suc k) other (omega (arith, less)) at')

-- in a table whose numbers ascend an entry's value is found at its number
pub value_of_entry : {A : Type 0} (table : List (ℕ × A)) (entry : ℕ × A) → IsStrictlyIncreasing (keys_of table)
    → Contains table entry → value_at entry.0 table ≡ Some entry.1
value_of_entry {A} table entry up has =
    let at = index_of table entry has in
    value_in_front table at.0 entry at.1 (λ k other less at' same.
    let is = one_place (λ (e : ℕ × A). e.0) table up k at.0 other entry at' at.1 same in
    omega (arith, less, is))

pub keys_told : (table : List (ℕ × Placed))
    → map (λ node. node.address) (map (λ entry. linked_of entry.0 entry.1) table) ≡ keys_of table
keys_told [] = refl
keys_told (entry ∷ table) = ap (λ keys. entry.0 ∷ keys) (keys_told table)

-- ---- nodes of a layout

module _ (layout : Layout) (subvolumes : List (ℕ × ℕ)) (nodes : List Linked)
    (links : AreLinksOf layout subvolumes nodes) (up : IsStrictlyIncreasing (map (λ node. node.address) nodes)) where
  abbrev under : ℕ → ℕ → List Element
  under level address = reach_under (node_at layout.nodes) layout.nodesize level address

  keys_are : map (λ node. node.address) nodes ≡ keys_of layout.nodes
  keys_are = ap (map (λ (node : Linked). node.address)) links.told ∙ keys_told layout.nodes

  -- what is placed where a node lies
  pub placed_of : (x : Linked) → Contains nodes x
      → (placed : Placed) × Contains layout.nodes (x.address, placed) × (value_at x.address layout.nodes ≡ Some placed)
      × (linked_of x.address placed ≡ x)
  placed_of x has =
      let entry =
      one_mapped (λ (e : ℕ × Placed). linked_of e.0 e.1) layout.nodes x
      (subst (λ list. Contains list x) links.told has) in
      let own : entry.0.0 ≡ x.address = ap (λ (n : Linked). n.address) entry.2 in
      let there = value_of_entry layout.nodes entry.0 (subst IsStrictlyIncreasing keys_are up) entry.1 in (
        entry.0.1,
        subst (λ a. Contains layout.nodes (a, entry.0.1)) own entry.1,
        subst (λ a. value_at a layout.nodes ≡ Some entry.0.1) own there,
        subst (λ a. linked_of a entry.0.1 ≡ x) own entry.2,
      )

  node_of : (x : Linked) (placed : Placed) → value_at x.address layout.nodes ≡ Some placed
      → node_at layout.nodes x.address ≡ Some placed.node
  node_of x placed is = ap (option_map (λ (p : Placed). p.node)) is

  -- one of that address
  one : (x y : Linked) → Contains nodes x → Contains nodes y → x.address ≡ y.address → x ≡ y
  one x y has has' same = one_of_number (λ (n : Linked). n.address) nodes up x y has has' same

  -- ---- what is met at a node itself

  extents_apart : (placed : Placed) (address : ℕ) (x : Linked) → Contains layout.nodes (address, placed)
      → Contains nodes x → is_among x.address (map extent_of (pieces_of placed.node)) ≡ true → ⊥
  unfolding layout_extents
  extents_apart placed address x has has' among =
      both_ways (is_among x.address (layout_extents layout)) (links.apart x has')
      (any_in_one (λ (e : Element). e.address == x.address)
      (λ (entry : ℕ × Placed). map extent_of (pieces_of entry.1.node)) layout.nodes (address, placed) has among)

  own_met : (from : Linked) → Contains nodes from
      → is_among from.address (own_elements layout.nodesize from.address (node_at layout.nodes from.address)) ≡ true
  own_met from has =
      let p = placed_of from has in
      subst (λ found. is_among from.address (own_elements layout.nodesize from.address found) ≡ true)
      (sym (node_of from p.0 p.2))
      (or_left (from.address == from.address) (is_among from.address (map extent_of (pieces_of p.0.node)))
      (eq-eqb from.address from.address refl))

  own_only : (from x : Linked) → Contains nodes from → Contains nodes x
      → is_among x.address (own_elements layout.nodesize from.address (node_at layout.nodes from.address)) ≡ true
      → from ≡ x
  own_only from x has has' among =
      cases (or_cases (from.address == x.address) (is_among x.address (map extent_of (pieces_of p.0.node))) here) where
        p : (placed : Placed) × Contains layout.nodes (from.address, placed)
            × (value_at from.address layout.nodes ≡ Some placed) × (linked_of from.address placed ≡ from)
        p = placed_of from has

        here : ((from.address == x.address) || is_among x.address (map extent_of (pieces_of p.0.node))) ≡ true
        here = subst (λ found. is_among x.address (own_elements layout.nodesize from.address found) ≡ true)
            (node_of from p.0 p.2) among

        cases : ((from.address == x.address) ≡ true) ⊎ (is_among x.address (map extent_of (pieces_of p.0.node)) ≡ true)
            → from ≡ x
        cases (inl same) = one from x has has' (eqb-true from.address x.address same)
        cases (inr extent) = absurd (extents_apart p.0 from.address x p.1 has' extent)

  -- ---- what is met below a node

  -- a pointer of a node leads to a node
  pointed : (from : Linked) → Contains nodes from → (pointer : Pointer)
      → Contains (pointers_at (node_at layout.nodes from.address)) pointer
      → (c : Linked) × Contains nodes c × (c.address ≡ pointer.child) × PointsTo from c
  pointed from has pointer in' =
      let p = placed_of from has in
      let mine = subst (λ found. Contains (pointers_at found) pointer) (node_of from p.0 p.2) in' in
      let child =
      subst (λ (n : Linked). Contains n.children pointer.child) p.3
      (mapped (λ (q : Pointer). q.child) (own_pointers p.0.node) pointer mine) in
      let c = links.below from pointer.child has child in
      (c.0, c.1, c.2, record { named = subst (λ a. Contains from.children a) (sym c.2) child; lower = c.3 })

  -- and by a pointer it leads to each that it points to
  pointer_to : (from c : Linked) → Contains nodes from → PointsTo from c
      → (pointer : Pointer) × Contains (pointers_at (node_at layout.nodes from.address)) pointer
      × (pointer.child ≡ c.address)
  pointer_to from c has points =
      let p = placed_of from has in
      let found =
      one_mapped (λ (q : Pointer). q.child) (own_pointers p.0.node) c.address
      (subst (λ (n : Linked). Contains n.children c.address) (sym p.3) points.named) in
      (found.0, subst (λ at. Contains (pointers_at at) found.0) (sym (node_of from p.0 p.2)) found.1, found.2)

  met_own : (level : ℕ) (from : Linked) → Contains nodes from → is_among from.address (under level from.address) ≡ true
  met_own zero from has = own_met from has
  met_own (suc level) from has =
      let own = own_elements layout.nodesize from.address (node_at layout.nodes from.address) in
      let rest =
      flat_map (λ (pointer : Pointer). under level pointer.child) (pointers_at (node_at layout.nodes from.address))
      in
      let test = λ (e : Element). e.address == from.address in
      list_any-append test own rest ∙ or_left (list_any test own) (list_any test rest) (own_met from has)

  met_below : (level : ℕ) (from c : Linked) (address : ℕ) → Contains nodes from → PointsTo from c
      → is_among address (under level c.address) ≡ true → is_among address (under (suc level) from.address) ≡ true
  met_below level from c address has points among =
      let own = own_elements layout.nodesize from.address (node_at layout.nodes from.address) in
      let rest =
      flat_map (λ (pointer : Pointer). under level pointer.child) (pointers_at (node_at layout.nodes from.address))
      in
      let test = λ (e : Element). e.address == address in
      let p = pointer_to from c has points in
      list_any-append test own rest
      ∙ or_right (list_any test own) (list_any test rest)
      (any_in_one test (λ (pointer : Pointer). under level pointer.child)
      (pointers_at (node_at layout.nodes from.address)) p.0 p.1
      (subst (λ a. is_among address (under level a) ≡ true) (sym p.2) among))

  met_cases : (level : ℕ) (from x : Linked) → Contains nodes from → Contains nodes x
      → is_among x.address (under (suc level) from.address) ≡ true
      → (from ≡ x)
      ⊎ ((c : Linked) × Contains nodes c × PointsTo from c × (is_among x.address (under level c.address) ≡ true))
  met_cases level from x has has' among =
      cases (or_cases (list_any test own) (list_any test rest) (sym (list_any-append test own rest) ∙ among)) where
        test : Element → Bool
        test e = e.address == x.address

        own : List Element
        own = own_elements layout.nodesize from.address (node_at layout.nodes from.address)

        rest : List Element
        rest =
            flat_map (λ (child : Pointer). under level child.child) (pointers_at (node_at layout.nodes from.address))

        cases : (list_any test own ≡ true) ⊎ (list_any test rest ≡ true)
            → (from ≡ x)
            ⊎ ((c : Linked) × Contains nodes c × PointsTo from c × (is_among x.address (under level c.address) ≡ true))
        cases (inl here) = inl (own_only from x has has' here)
        cases (inr below) =
            let p = one_has_any test (λ (pointer : Pointer). under level pointer.child)
            (pointers_at (node_at layout.nodes from.address)) below in
            let c = pointed from has p.0 p.1 in
            inr (c.0, c.1, c.3, subst (λ a. is_among x.address (under level a) ≡ true) (sym c.2) p.2)

  -- ---- pointers lead to what is met

  leads_over : (from c x : Linked) → Contains nodes from → Contains nodes c → PointsTo from c → Leads nodes c.address x
      → Leads nodes from.address x
  leads_over from c x has has' points (Here node in' is) =
      subst (λ n. Leads nodes from.address n) (one c node has' in' (sym is))
      (Down from c (Here from has refl) has' points)
  leads_over from c x has has' points (Down parent child leads in' points') =
      Down parent child (leads_over from c parent has has' points leads) in' points'

  pub met_leads : (level : ℕ) (from x : Linked) → Contains nodes from → Contains nodes x
      → is_among x.address (under level from.address) ≡ true → Leads nodes from.address x
  met_leads zero from x has has' among =
      subst (λ n. Leads nodes from.address n) (own_only from x has has' among) (Here from has refl)
  met_leads (suc level) from x has has' among = elim (met_cases level from x has has' among) [
    | inl same ↦ subst (λ n. Leads nodes from.address n) same (Here from has refl)
    | inr c ↦ leads_over from c.0 x has c.1 c.2 (met_leads level c.0 x c.1 has' c.3)
  ]

  -- ---- and what pointers lead to is met

  met_more : (level : ℕ) (from m x : Linked) → from.level ≡ level → Contains nodes from → Contains nodes m
      → Contains nodes x → PointsTo m x
      → is_among m.address (under level from.address) ≡ true → is_among x.address (under level from.address) ≡ true
  met_more zero from m x is has in' in'' points among =
      let same = ap (λ (n : Linked). n.level) (own_only from m has in' among) in
      absurd (omega (arith, is, same, points.lower))
  met_more (suc level) from m x is has in' in'' points among = elim (met_cases level from m has in' among) [
    | inl same ↦
        met_below level from x x.address has (subst (λ n. PointsTo n x) (sym same) points) (met_own level x in'')
    | inr c ↦
        let lower : c.0.level ≡ level = omega (arith, is, c.2.lower) in
        met_below level from c.0 x.address has c.2 (met_more level c.0 m x lower c.1 in' in'' points c.3)
  ]

  pub leads_met : (from x : Linked) → Contains nodes from → Leads nodes from.address x
      → is_among x.address (under from.level from.address) ≡ true
  leads_met from x has (Here node in' is) =
      subst (λ n. is_among n.address (under from.level from.address) ≡ true) (one from node has in' (sym is))
      (met_own from.level from has)
  leads_met from x has (Down parent child leads in' points) =
      met_more from.level from parent child refl has (leads_in nodes from.address parent leads) in' points
      (leads_met from parent has leads)

  -- ---- a subvolume reaches what pointers lead to from its root

  root_reach : (sub : ℕ) (from : Linked) → Contains nodes from → value_at sub layout.roots ≡ Some from.address
      → reach layout sub ≡ under from.level from.address
  unfolding reach reach_of_root
  root_reach sub from has is =
      let p = placed_of from has in
      ap (reach_of layout) is
      ∙ ap (λ level. under level from.address) (ap level_of (node_of from p.0 p.2) ∙ ap (λ (n : Linked). n.level) p.3)

  no_reach : (sub : ℕ) → value_at sub layout.roots ≡ None → reach layout sub ≡ []
  unfolding reach
  no_reach sub is = ap (reach_of layout) is

  pub reaches_is : (x : Linked) → IsStrictlyIncreasing (keys_of subvolumes) → Contains nodes x
      → (reaches layout x.owner x.address ≡ true) ↔ IsReached nodes subvolumes x
  reaches_is x numbers has = (λ reached. into reached (value_at x.owner layout.roots) refl, back) where
    into : reaches layout x.owner x.address ≡ true → (found : Option ℕ) → value_at x.owner layout.roots ≡ found
        → IsReached nodes subvolumes x
    into reached None is = absurd (false≢true (sym (ap (is_among x.address) (no_reach x.owner is)) ∙ reached))
    into reached (Some root) is =
        let entry = entry_of_value x.owner root subvolumes (ap (value_at x.owner) links.roots ∙ is) in
        let from = links.begin (x.owner, root) entry in
        let met =
        subst (λ met. is_among x.address met ≡ true) (root_reach x.owner from.0 from.1 (is ∙ ap Some (sym from.2)))
        reached in (
          (x.owner, root),
          entry,
          refl,
          subst (λ a. Leads nodes a x) from.2
              (met_leads from.0.level from.0 x from.1 has met),
        )

    back : IsReached nodes subvolumes x → reaches layout x.owner x.address ≡ true
    back reached =
        let root = reached.0 in
        let from = links.begin root reached.1 in
        let at =
        ap (value_at x.owner) (sym links.roots)
        ∙ subst (λ n. value_at n subvolumes ≡ Some root.1) reached.2
        (value_of_entry subvolumes root numbers reached.1) in
        ap (is_among x.address) (root_reach x.owner from.0 from.1 (at ∙ ap Some (sym from.2)))
        ∙ leads_met from.0 x from.1 (subst (λ a. Leads nodes a x) (sym from.2) reached.3)
