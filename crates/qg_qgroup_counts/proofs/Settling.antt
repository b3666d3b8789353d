-- Sets of nodes that are settled, from the highest level down.
use Rattle.std.proofs.Common.{◌≡◌, ℕ, ◌+◌, ◌<◌, ◌≤◌, List, [], length, map, get_or, set, Some, sym, ap, subst, ◌∙◌}
use Rattle.std.proofs.Common.{arith, ◌⊎◌, inl, inr, ◌↔◌, get_or-set_same, get_or-set_other}
use Rattle.std.specs.Prelude.{slice_get}
use Rattle.std.specs.List.{All, Contains}
use Rattle.std.specs.List.Sorted.{IsStrictlyIncreasing}
use Rattle.std.proofs.lemmas.Bool.{cases_eq, cases_lt}
use Rattle.std.proofs.lemmas.List.{length-set, get_or-map, length-map}
use Rattle.std.proofs.lemmas.List.Elements.{All-contains, Contains-get_or}
use Rattle.std.proofs.lemmas.Option.{slice_get_within}
use Rattle.qg_owner_rule.specs.declared.linked.Linked.{Linked}
use Rattle.qg_owner_rule.specs.Leading.{PointsTo, Leads, Here, Down}
use Rattle.qg_owner_rule.specs.Places.{StandsAt, AreOthers}
use Rattle.qg_owner_rule.proofs.Listed.{at_one, at_along, index_of, contains_at, All-at}
use Rattle.qg_owner_rule.proofs.Ascending.{one_place}
use Rattle.qg_owner_rule.proofs.Spreading.{leads_in}
use Rattle.qg_qgroup_counts.specs.Sets.{HasMember, row_of, Stand, IsInOne, IsUnionOf}
use Rattle.qg_qgroup_counts.specs.Above.{AreAbove, AreEmpty, list_at}
use Rattle.qg_qgroup_counts.specs.Roots.{IsReachedFrom, IsRootAt, AreRoots}
use Rattle.qg_qgroup_counts.proofs.Words.{none_has}

-- ---- lists

mapped_has : (f : ℕ → ℕ) (xs : List ℕ) (x : ℕ) → Contains xs x → Contains (map f xs) (f x)
mapped_has f xs x has = (
  has.0,
  omega (arith, has.1, length-map xs f),
  get_or-map f xs has.0 x (f x) has.1 ∙ ap f has.2,
)

mapped_cases : (f : ℕ → ℕ) (xs : List ℕ) (y : ℕ) → Contains (map f xs) y → (x : ℕ) × Contains xs x × (f x ≡ y)
mapped_cases f xs y has =
    let short : has.0 < length xs = omega (arith, has.1, length-map xs f) in
    (get_or xs has.0 0, Contains-get_or xs has.0 0 short, sym (get_or-map f xs has.0 0 y short) ∙ has.2)

-- ---- roots so far

-- for each node the words of those of the first subvolumes whose root it is
abbrev pub RootsFirst : List Linked → List (ℕ × ℕ) → ℕ → List (List ℕ) → Type 0
RootsFirst nodes roots n rows =
    (place subvolume : ℕ) (node : Linked) → slice_get nodes place ≡ Some node
    → HasMember (list_at rows place) subvolume ↔ ((subvolume < n) × IsRootAt roots subvolume node)

pub roots_none : (nodes : List Linked) (roots : List (ℕ × ℕ)) (rows : List (List ℕ)) → AreEmpty rows
    → RootsFirst nodes roots 0 rows
roots_none nodes roots rows empty place subvolume node at = (
  λ has. absurd (none_has subvolume (subst (λ row. HasMember row subvolume) (empty place) has)),
  λ wrong. absurd (omega (arith, wrong.0)),
)

pub roots_all : (nodes : List Linked) (roots : List (ℕ × ℕ)) (n : ℕ) (rows : List (List ℕ)) → length roots ≤ n
    → RootsFirst nodes roots n rows → AreRoots nodes roots rows
roots_all nodes roots n rows all first place subvolume node at = (
  λ has. ((first place subvolume node at).0 has).1,
  λ root. let inside = slice_get_within roots subvolume root.0 root.1 in
      (first place subvolume node at).1 (omega (arith, inside, all), root),
)

module _ (nodes : List Linked) (roots : List (ℕ × ℕ)) (n : ℕ) (root : ℕ × ℕ) (here : slice_get roots n ≡ Some root)
    (rows : List (List ℕ)) (first : RootsFirst nodes roots n rows) where
  pub roots_other : AreOthers (λ node. node.address) nodes root.1 → RootsFirst nodes roots (n + 1) rows
  roots_other others place subvolume node at = (
    λ has. let was = (first place subvolume node at).0 has in (omega (arith, was.0), was.1),
    λ is. by (cases_eq subvolume n) is.0 is.1,
  ) where
    by : (subvolume ≡ n) ⊎ (subvolume ≡ n → ⊥) → subvolume < n + 1 → IsRootAt roots subvolume node
        → HasMember (list_at rows place) subvolume
    by (inl same) _ found =
        let one = at_one roots n found.0 root (at_along roots subvolume n found.0 same found.1) here in
        absurd (All-at (λ (x : Linked). x.address ≡ root.1 → ⊥) nodes place node others at
        (sym found.2 ∙ ap (λ (r : ℕ × ℕ). r.1) one))
    by (inr other) less found = (first place subvolume node at).1 (omega (arith, less, other), found)

  pub roots_more : (p : ℕ) (row : List ℕ) → IsStrictlyIncreasing (map (λ node. node.address) nodes)
      → StandsAt (λ node. node.address) nodes root.1 p → p < length rows
      → ((other : ℕ) → HasMember row other ↔ (HasMember (list_at rows p) other ⊎ (n ≡ other)))
      → RootsFirst nodes roots (n + 1) (set rows p row)
  roots_more p row up stands inside put place subvolume node at = cases (cases_eq place p) where
    whole : Type 0
    whole = HasMember (list_at (set rows p row) place) subvolume ↔ ((subvolume < n + 1) × IsRootAt roots subvolume node)

    at_p : place ≡ p → slice_get nodes p ≡ Some node
    at_p same = at_along nodes place p node same at

    into-here : place ≡ p → HasMember (list_at rows p) subvolume ⊎ (n ≡ subvolume)
        → (subvolume < n + 1) × IsRootAt roots subvolume node
    into-here same (inl has) = let was = (first p subvolume node (at_p same)).0 has in (omega (arith, was.0), was.1)
    into-here same (inr is) =
        let one = at_one nodes p stands.0 node stands.1 (at_p same) in (
          omega (arith, is),
          (root, at_along roots n subvolume root is here, sym stands.2 ∙ ap (λ (x : Linked). x.address) one),
        )

    back-here : place ≡ p → (subvolume ≡ n) ⊎ (subvolume ≡ n → ⊥) → subvolume < n + 1 → IsRootAt roots subvolume node
        → HasMember (list_at rows p) subvolume ⊎ (n ≡ subvolume)
    back-here same (inl is) _ found = inr (sym is)
    back-here same (inr other) less found =
        inl ((first p subvolume node (at_p same)).1 (omega (arith, less, other), found))

    back-other : (place ≡ p → ⊥) → (subvolume ≡ n) ⊎ (subvolume ≡ n → ⊥) → subvolume < n + 1
        → IsRootAt roots subvolume node → HasMember (list_at rows place) subvolume
    back-other differs (inl is) _ found =
        let one = at_one roots n found.0 root (at_along roots subvolume n found.0 is found.1) here in
        let address = sym found.2 ∙ ap (λ (r : ℕ × ℕ). r.1) one ∙ sym stands.2 in
        absurd (differs (one_place (λ (x : Linked). x.address) nodes up place p node stands.0 at stands.1 address))
    back-other differs (inr other) less found =
        (first place subvolume node at).1 (omega (arith, less, other), found)

    new : place ≡ p → get_or (set rows p row) place [] ≡ row
    new same = ap (λ k. get_or (set rows p row) k []) same ∙ get_or-set_same rows p row [] inside

    old : (place ≡ p → ⊥) → get_or (set rows p row) place [] ≡ get_or rows place []
    old differs = get_or-set_other rows p place row [] differs

    cases : (place ≡ p) ⊎ (place ≡ p → ⊥)
        → HasMember (list_at (set rows p row) place) subvolume ↔ ((subvolume < n + 1) × IsRootAt roots subvolume node)
    cases (inl same) = (
      λ has. into-here same ((put subvolume).0 (subst (λ r. HasMember r subvolume) (new same) has)),
      λ is. subst (λ r. HasMember r subvolume) (sym (new same))
          ((put subvolume).1 (back-here same (cases_eq subvolume n) is.0 is.1)),
    )
    cases (inr differs) = (
      λ has. let was =
          (first place subvolume node at).0 (subst (λ r. HasMember r subvolume) (old differs) has) in
          (omega (arith, was.0), was.1),
      λ is. subst (λ r. HasMember r subvolume) (sym (old differs))
          (back-other differs (cases_eq subvolume n) is.0 is.1),
    )

-- ---- sets of nodes

-- the set of the node at an index has exactly the subvolumes that reach it
abbrev pub Tells : List Linked → List (ℕ × ℕ) → List ℕ → List (List ℕ) → ℕ → ℕ → Linked → Type 0
Tells nodes roots numbers rows place subvolume node =
    HasMember (row_of rows (get_or numbers place 0)) subvolume ↔ IsReachedFrom nodes roots subvolume node

abbrev pub SettledFrom : List Linked → List (ℕ × ℕ) → ℕ → List ℕ → List (List ℕ) → Type 0
SettledFrom nodes roots level numbers rows =
    (place subvolume : ℕ) (node : Linked) → slice_get nodes place ≡ Some node → level ≤ node.level
    → Tells nodes roots numbers rows place subvolume node

-- the nodes above a level are settled, and the first nodes of it
abbrev pub SettledFirst : List Linked → List (ℕ × ℕ) → ℕ → ℕ → List ℕ → List (List ℕ) → Type 0
SettledFirst nodes roots level n numbers rows =
    (place subvolume : ℕ) (node : Linked) → slice_get nodes place ≡ Some node
    → (level < node.level) ⊎ ((node.level ≡ level) × (place < n))
    → Tells nodes roots numbers rows place subvolume node

pub settled_none : (nodes : List Linked) (roots : List (ℕ × ℕ)) (level : ℕ) (numbers : List ℕ) (rows : List (List ℕ))
    → SettledFrom nodes roots (level + 1) numbers rows → SettledFirst nodes roots level 0 numbers rows
settled_none nodes roots level numbers rows settled place subvolume node at which = by which where
  by : (level < node.level) ⊎ ((node.level ≡ level) × (place < 0)) → Tells nodes roots numbers rows place subvolume node
  by (inl above) = settled place subvolume node at (omega (arith, above))
  by (inr wrong) = absurd (omega (arith, wrong.1))

pub settled_all : (nodes : List Linked) (roots : List (ℕ × ℕ)) (level n : ℕ) (numbers : List ℕ) (rows : List (List ℕ))
    → length nodes ≤ n → SettledFirst nodes roots level n numbers rows → SettledFrom nodes roots level numbers rows
settled_all nodes roots level n numbers rows all first place subvolume node at high =
    first place subvolume node at (by (cases_lt level node.level)) where
      by : (level < node.level) ⊎ (node.level ≤ level) → (level < node.level) ⊎ ((node.level ≡ level) × (place < n))
      by (inl above) = inl above
      by (inr low) =
          let inside = slice_get_within nodes place node at in
          inr (omega (arith, low, high), omega (arith, inside, all))

-- a node of another level
pub settled_same : (nodes : List Linked) (roots : List (ℕ × ℕ)) (level i : ℕ) (numbers : List ℕ) (rows : List (List ℕ))
    (here : Linked) → slice_get nodes i ≡ Some here → (here.level ≡ level → ⊥)
    → SettledFirst nodes roots level i numbers rows → SettledFirst nodes roots level (i + 1) numbers rows
settled_same nodes roots level i numbers rows here at differs first place subvolume node at' which =
    first place subvolume node at' (by which) where
      by : (level < node.level) ⊎ ((node.level ≡ level) × (place < i + 1))
          → (level < node.level) ⊎ ((node.level ≡ level) × (place < i))
      by (inl above) = inl above
      by (inr now) = cases (cases_eq place i) where
        cases : (place ≡ i) ⊎ (place ≡ i → ⊥) → (level < node.level) ⊎ ((node.level ≡ level) × (place < i))
        cases (inl same) =
            let one = at_one nodes i node here (at_along nodes place i node same at') at in
            absurd (differs (sym (ap (λ (n : Linked). n.level) one) ∙ now.0))
        cases (inr other) = inr (now.0, omega (arith, now.1, other))

-- those that point to a node are among the nodes
pub places_within : (nodes : List Linked) (above : List (List ℕ)) (i : ℕ) (here : Linked) (n : ℕ) → AreAbove nodes above
    → slice_get nodes i ≡ Some here → n ≡ length nodes → All (λ place. place < n) (list_at above i)
places_within nodes above i here n are at same = λ k d less.
    let parent = are.into i here (get_or (list_at above i) k d) at (Contains-get_or (list_at above i) k d less) in
    let within = slice_get_within nodes (get_or (list_at above i) k d) parent.0 parent.1 in
    omega (arith, within, same)

-- a node whose set is made
module _ (nodes : List Linked) (i : ℕ) (numbers : List ℕ) (old new : List (List ℕ)) (here : Linked)
    (at : slice_get nodes i ≡ Some here) (above own : List (List ℕ)) (are : AreAbove nodes above)
    (same : length numbers ≡ length nodes) (inside : All (λ set. set < length old) numbers)
    (made : ℕ) (union : IsUnionOf old (list_at own i) (map (λ place. get_or numbers place 0) (list_at above i)) new
    made)
  where
    short : i < length numbers
    short = let within = slice_get_within nodes i here at in omega (arith, within, same)

    pub made_inside : made < length new
    made_inside = union.inside (λ k d less.
        let place = mapped_cases (λ p. get_or numbers p 0) (list_at above i)
        (get_or (map (λ p. get_or numbers p 0) (list_at above i)) k d)
        (Contains-get_or (map (λ p. get_or numbers p 0) (list_at above i)) k d less) in
        let places = places_within nodes above i here (length numbers) are at same in
        let within = All-contains (λ p. p < length numbers) (list_at above i) place.0 places place.1 in
        subst (λ set. set < length old) place.2 (inside place.0 0 within))

    pub all_inside : All (λ one. one < length new) (set numbers i made)
    all_inside = λ k d less. by k d (omega (arith, less, length-set numbers i made)) (cases_eq k i) where
      by : (k d : ℕ) → k < length numbers → (k ≡ i) ⊎ (k ≡ i → ⊥) → get_or (set numbers i made) k d < length new
      by k d _ (inl now) =
          let value = ap (λ j. get_or (set numbers i made) j d) now ∙ get_or-set_same numbers i made d short in
          omega (arith, value, made_inside)
      by k d less (inr other) =
          let value = get_or-set_other numbers i k made d other in
          omega (arith, value, inside k d less, union.stand.more)

    module _ (roots : List (ℕ × ℕ)) (level : ℕ) (is : here.level ≡ level) (begin : AreRoots nodes roots own)
        (first : SettledFirst nodes roots level i numbers old) where
      -- what a node that points here has
      parent_tells : (place subvolume : ℕ) (parent : Linked) → slice_get nodes place ≡ Some parent
          → PointsTo parent here
          → Tells nodes roots numbers old place subvolume parent
      parent_tells place subvolume parent at' points =
          first place subvolume parent at' (inl (omega (arith, points.lower, is)))

      into : (subvolume : ℕ) → HasMember (list_at own i) subvolume
          ⊎ IsInOne old (map (λ place. get_or numbers place 0) (list_at above i)) subvolume
          → IsReachedFrom nodes roots subvolume here
      into subvolume (inl root) =
          let found = (begin i subvolume here at).0 root in
          (found.0, found.1, Here here (contains_at nodes i here at) (sym found.2))
      into subvolume (inr one) =
          let place = mapped_cases (λ p. get_or numbers p 0) (list_at above i) one.0 one.1 in
          let parent = are.into i here place.0 at place.1 in
          let has = subst (λ set. HasMember (row_of old set) subvolume) (sym place.2) one.2 in
          let found = (parent_tells place.0 subvolume parent.0 parent.1 parent.2).0 has in
          (found.0, found.1, Down parent.0 here found.2 (contains_at nodes i here at) parent.2)

      from : (subvolume : ℕ) (root : ℕ × ℕ) → slice_get roots subvolume ≡ Some root → (x : Linked)
          → Leads nodes root.1 x
          → x ≡ here
          → HasMember (list_at own i) subvolume
          ⊎ IsInOne old (map (λ place. get_or numbers place 0) (list_at above i)) subvolume
      from subvolume root found x (Here node in' begins) one =
          inl ((begin i subvolume here at).1 (root, found, sym begins ∙ ap (λ (n : Linked). n.address) one))
      from subvolume root found x (Down parent child leads in' points) one =
          let place = index_of nodes parent (leads_in nodes root.1 parent leads) in
          let points' = subst (PointsTo parent) one points in
          let listed = are.all i here place.0 parent at place.1 points' in
          inr (
            get_or numbers place.0 0,
            mapped_has (λ p. get_or numbers p 0) (list_at above i) place.0 listed,
            (parent_tells place.0 subvolume parent place.1 points').1 (root, found, leads),
          )

      pub settled_more : SettledFirst nodes roots level (i + 1) (set numbers i made) new
      settled_more place subvolume node at' which = cases (cases_eq place i) where
        cases : (place ≡ i) ⊎ (place ≡ i → ⊥) → Tells nodes roots (set numbers i made) new place subvolume node
        cases (inl now) = (
          λ has. subst (IsReachedFrom nodes roots subvolume) (sym one)
              (into subvolume ((union.members subvolume).0
              (subst (λ s. HasMember (row_of new s) subvolume) value has))),
          λ reached. subst (λ s. HasMember (row_of new s) subvolume) (sym value)
              ((union.members subvolume).1 (from subvolume reached.0 reached.1 node reached.2 one)),
        ) where
          one : node ≡ here
          one = at_one nodes i node here (at_along nodes place i node now at') at

          value : get_or (set numbers i made) place 0 ≡ made
          value = ap (λ j. get_or (set numbers i made) j 0) now ∙ get_or-set_same numbers i made 0 short
        cases (inr other) = (
          λ has. (first place subvolume node at' (by which)).0 (subst (λ row. HasMember row subvolume) row has),
          λ reached. subst (λ row. HasMember row subvolume) (sym row)
              ((first place subvolume node at' (by which)).1 reached),
        ) where
          by : (level < node.level) ⊎ ((node.level ≡ level) × (place < i + 1))
              → (level < node.level) ⊎ ((node.level ≡ level) × (place < i))
          by (inl high) = inl high
          by (inr now) = inr (now.0, omega (arith, now.1, other))

          within : get_or numbers place 0 < length old
          within = let less = slice_get_within nodes place node at' in inside place 0 (omega (arith, less, same))

          row : row_of new (get_or (set numbers i made) place 0) ≡ row_of old (get_or numbers place 0)
          row = ap (row_of new) (get_or-set_other numbers i place made 0 other)
              ∙ union.stand.same (get_or numbers place 0) within

-- more sets change none that stands
pub tells_still : (nodes : List Linked) (roots : List (ℕ × ℕ)) (numbers : List ℕ) (old new : List (List ℕ))
    (place subvolume : ℕ) (node : Linked) → place < length numbers → All (λ set. set < length old) numbers
    → Stand old new
    → Tells nodes roots numbers old place subvolume node → Tells nodes roots numbers new place subvolume node
tells_still nodes roots numbers old new place subvolume node short inside stand tells =
    let row = stand.same (get_or numbers place 0) (inside place 0 short) in (
      λ has. tells.0 (subst (λ r. HasMember r subvolume) row has),
      λ reached. subst (λ r. HasMember r subvolume) (sym row) (tells.1 reached),
    )
