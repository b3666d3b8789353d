-- The subvolumes that reach what begins at an address, by the sets of those who reach each node.
use Rattle.std.proofs.Common.{◌≡◌, ℕ, ◌+◌, ◌<◌, Bool, true, false, List, [], ◌∷◌, ◌++◌, map, length, get_or, Some}
use Rattle.std.proofs.Common.{refl, sym, ap, subst, ◌∙◌, arith, ◌⊎◌, inl, inr}
use Rattle.std.specs.Prelude.{◌==◌, ◌||◌, All, slice_get, slice_index}
use Rattle.std.specs.List.{Contains, filter, list_any}
use Rattle.std.specs.List.Sorted.{IsStrictlyIncreasing}
use Rattle.std.specs.Option.{option_map}
use Rattle.std.proofs.lemmas.Bool.{cases_lt, eq-eqb, eqb-true, true≢false}
use Rattle.std.proofs.lemmas.List.{get_or-map, length-map}
use Rattle.std.proofs.lemmas.List.Elements.{Contains-append_cases, Contains-append_left, Contains-append_right}
use Rattle.std.proofs.lemmas.List.Elements.{Contains-get_or}
use Rattle.std.proofs.lemmas.List.Kept.{AllPairs-from_increasing, IsStrictlyIncreasing-filter}
use Rattle.std.proofs.lemmas.Option.{get_or_from_slice_get, same_Some, slice_get-map, slice_get_within}
use Rattle.qg_num.specs.declared.piece.Piece.{Piece}
use Rattle.qg_image.specs.Table.{keys_of}
use Rattle.qg_image.specs.declared.element.Element.{Element}
use Rattle.qg_image.specs.Reach.{extent_of, is_among, own_elements, owners, pieces_of, reach, reaches}
use Rattle.qg_image.specs.State.{Layout, Placed, node_at}
use Rattle.qg_image.proofs.Contained.{contains_cases, contains_here, none_contained}
use Rattle.qg_reach.proofs.Members.{contains_map, one_mapped}
use Rattle.qg_backref_rule.proofs.NumberSets.{same_ascending}
use Rattle.qg_open_image.proofs.Sorted.{ascends_of}
use Rattle.qg_space.proofs.Members.{contains_filter, filter_contains, one_passes, passes_one}
use Rattle.qg_owner_rule.specs.declared.linked.Linked.{Linked}
use Rattle.qg_owner_rule.specs.Leading.{Leads}
use Rattle.qg_owner_rule.specs.Linked.{AreLinksOf}
use Rattle.qg_owner_rule.proofs.Listed.{contains_at, index_of}
use Rattle.qg_owner_rule.proofs.Reaching.{value_of_entry}
use Rattle.qg_qgroup_counts.specs.declared.reached.Reached.{Reached}
use Rattle.qg_qgroup_counts.specs.Reached.{TellsReach}
use Rattle.qg_qgroup_counts.specs.Sets.{AreMembers, HasMember, IsInOne, IsUnionOf, row_of}
use Rattle.qg_qgroup_counts.proofs.Words.{none_has}
use Rattle.qg_qgroup_counts.specs.declared.surveyed.Surveyed.{Surveyed}
use Rattle.qg_qgroup_counts.specs.Surveyed.{links_in, surveyed_of}
use Rattle.qg_qgroup_counts.proofs.Reaching.{led_reached, own_is, reached_led}
use Rattle.qg_image_commits.specs.Owning.{AreOwners, AreSetsAt, LeadsTo, has_at, number_at}

-- ---- the sets of nodes, one after the other

-- so it is of the nodes up to an index
pub record AreSetsFirst (reached : Reached) (nodes : List Surveyed) (address count : ℕ) (sets : List ℕ) : Type 0 where
  pub into : (set : ℕ) → Contains sets set
      → (place : ℕ) × (node : Surveyed) × (place < count) × (slice_get nodes place ≡ Some node)
      × (has_at address node ≡ true) × (slice_index reached.numbers.items place ≡ set)
  pub all : (place : ℕ) (node : Surveyed) → place < count → slice_get nodes place ≡ Some node
      → has_at address node ≡ true → Contains sets (slice_index reached.numbers.items place)

pub no-sets : (reached : Reached) (nodes : List Surveyed) (address : ℕ) → AreSetsFirst reached nodes address 0 []
no-sets reached nodes address = record {
  into = λ set has. absurd (none_contained set has);
  all = λ place node less there has. absurd (omega (arith, less));
}

module _ (reached : Reached) (nodes : List Surveyed) (address i : ℕ) (node : Surveyed) (sets : List ℕ)
    (there : slice_get nodes i ≡ Some node) (first : AreSetsFirst reached nodes address i sets) where
  apart_or_same : (place : ℕ) → place < i + 1 → (place < i) ⊎ (place ≡ i)
  apart_or_same place less = elim (cases_lt place i) [
    | inl before ↦ inl before
    | inr past ↦ inr (omega (arith, less, past))
  ]

  pub sets-more : has_at address node ≡ true
      → AreSetsFirst reached nodes address (i + 1) (sets ++ slice_index reached.numbers.items i ∷ [])
  sets-more has = record { into = into; all = all } where
    into : (set : ℕ) → Contains (sets ++ slice_index reached.numbers.items i ∷ []) set
        → (place : ℕ) × (other : Surveyed) × (place < i + 1) × (slice_get nodes place ≡ Some other)
        × (has_at address other ≡ true) × (slice_index reached.numbers.items place ≡ set)
    into set among = elim (Contains-append_cases sets (slice_index reached.numbers.items i ∷ []) set among) [
      | inl before ↦
          let old = first.into set before in
          let less = old.2 in
          (old.0, old.1, omega (arith, less), old.3, old.4, old.5)
      | inr last ↦ elim (contains_cases (slice_index reached.numbers.items i) [] set last) [
        | inl same ↦ (i, node, omega arith, there, has, same)
        | inr none ↦ absurd (none_contained set none)
      ]
    ]

    all : (place : ℕ) (other : Surveyed) → place < i + 1 → slice_get nodes place ≡ Some other
        → has_at address other ≡ true
        → Contains (sets ++ slice_index reached.numbers.items i ∷ []) (slice_index reached.numbers.items place)
    all place other less at own = elim (apart_or_same place less) [
      | inl before ↦
          Contains-append_left sets (slice_index reached.numbers.items i ∷ []) (slice_index reached.numbers.items place)
          (first.all place other before at own)
      | inr same ↦
          subst (λ (k : ℕ). Contains (sets ++ slice_index reached.numbers.items i ∷ [])
          (slice_index reached.numbers.items k)) (sym same)
          (Contains-append_right sets (slice_index reached.numbers.items i ∷ []) (slice_index reached.numbers.items i)
          (contains_here (slice_index reached.numbers.items i) []))
    ]

  pub sets-same : has_at address node ≡ false → AreSetsFirst reached nodes address (i + 1) sets
  sets-same lacks = record {
    into = λ set among. let old = first.into set among in
        let less = old.2 in
        (old.0, old.1, omega (arith, less), old.3, old.4, old.5);
    all = λ place other less at own. elim (apart_or_same place less) [
      | inl before ↦ first.all place other before at own
      | inr same ↦
          let here = same_Some node other (sym there ∙ ap (slice_get nodes) (sym same) ∙ at) in
          absurd (true≢false (sym own ∙ ap (has_at address) (sym here) ∙ lacks))
    ];
  }

pub sets-all : (reached : Reached) (nodes : List Surveyed) (address count : ℕ) (sets : List ℕ)
    → (count < length nodes → ⊥) → AreSetsFirst reached nodes address count sets → AreSetsAt reached nodes address sets
sets-all reached nodes address count sets past first set = (
  λ has. let one = first.into set has in (one.0, one.1, one.3, one.4, one.5),
  λ one.
      let inside = slice_get_within nodes one.0 one.1 one.2 in
      let less : one.0 < count = elim (cases_lt one.0 count) [
        | inl before ↦ before
        | inr behind ↦ absurd (past (omega (arith, inside, behind)))
      ] in
      subst (λ (n : ℕ). Contains sets n) one.4 (first.all one.0 one.1 less one.2 one.3),
)

-- ---- the owners

module _ (roots : List (ℕ × ℕ)) (nodes : List Surveyed) (address : ℕ) (reached : Reached)
    (tells : TellsReach (links_in nodes) roots reached) (sets : List ℕ) (at : AreSetsAt reached nodes address sets)
    (rows : List (List ℕ)) (set : ℕ) (union : IsUnionOf reached.sets.rows.items [] sets rows set)
    (members : List ℕ) (are : AreMembers (row_of rows set) (length roots) members) where
  link_at : (place : ℕ) (node : Surveyed) → slice_get nodes place ≡ Some node
      → slice_get (links_in nodes) place ≡ Some node.linked
  link_at place node there =
      slice_get-map (λ (n : Surveyed). n.linked) nodes place ∙ ap (option_map (λ (n : Surveyed). n.linked)) there

  number_is : (place : ℕ) (root : ℕ × ℕ) → slice_get roots place ≡ Some root → number_at roots place ≡ root.0
  number_is place root there =
      get_or_from_slice_get (keys_of roots) place root.0 0
      (slice_get-map (λ (r : ℕ × ℕ). r.0) roots place ∙ ap (option_map (λ (r : ℕ × ℕ). r.0)) there)

  by_member : (number member : ℕ) → number_at roots member ≡ number
      → HasMember [] member ⊎ IsInOne reached.sets.rows.items sets member
      → (root : ℕ × ℕ) × Contains roots root × (root.0 ≡ number) × LeadsTo nodes root address
  by_member number member is (inl wrong) = absurd (none_has member wrong)
  by_member number member is (inr one) =
      let place = (at one.0).0 one.1 in
      let reaches = (tells.tells place.0 member place.1.linked (link_at place.0 place.1 place.2)).0
      (subst (λ (n : ℕ). HasMember (row_of reached.sets.rows.items n) member) (sym place.4) one.2) in (
        reaches.0,
        contains_at roots member reaches.0 reaches.1,
        sym (number_is member reaches.0 reaches.1) ∙ is,
        record {
          node = place.1;
          among = contains_at nodes place.0 place.1 place.2;
          has = place.3;
          leads = reaches.2;
        },
      )

  into : (number : ℕ) → Contains (map (number_at roots) members) number
      → (root : ℕ × ℕ) × Contains roots root × (root.0 ≡ number) × LeadsTo nodes root address
  into number has =
      let member = one_mapped (number_at roots) members number has in
      let own = (are.told member.0).0 member.1 in
      by_member number member.0 member.2 ((union.members member.0).0 own.1)

  back : (number : ℕ)
      → (root : ℕ × ℕ) × Contains roots root × (root.0 ≡ number) × LeadsTo nodes root address
      → Contains (map (number_at roots) members) number
  back number one =
      let index = index_of roots one.0 one.1 in
      let place = index_of nodes one.3.node one.3.among in
      let own = (tells.tells place.0 index.0 one.3.node.linked (link_at place.0 one.3.node place.1)).1
      (one.0, index.1, one.3.leads) in
      let among = (at (slice_index reached.numbers.items place.0)).1
      (place.0, one.3.node, place.1, one.3.has, refl) in
      let member = (union.members index.0).1 (inr (slice_index reached.numbers.items place.0, among, own)) in
      let has = (are.told index.0).1 (slice_get_within roots index.0 one.0 index.1, member) in
      subst (λ (n : ℕ). Contains (map (number_at roots) members) n) (number_is index.0 one.0 index.1 ∙ one.2)
      (contains_map (number_at roots) members index.0 has)

  rises : IsStrictlyIncreasing (keys_of roots) → IsStrictlyIncreasing (map (number_at roots) members)
  rises up = λ k short.
      let long = length-map members (number_at roots) in
      let inside : k + 1 < length members = omega (arith, long, short) in
      let here = get_or-map (number_at roots) members k 0 0 (omega (arith, inside)) in
      let there = get_or-map (number_at roots) members (k + 1) 0 0 inside in
      let less = are.ascending k inside in
      let low = ((are.told (get_or members (k + 1) 0)).0 (Contains-get_or members (k + 1) 0 inside)).0 in
      let many = length-map roots (λ (r : ℕ × ℕ). r.0) in
      let rise = AllPairs-from_increasing (keys_of roots) up (get_or members k 0) (get_or members (k + 1) 0) 0 less
      (omega (arith, low, many)) in
      omega (arith, here, there, rise)

  pub owners-are : AreOwners roots nodes address (map (number_at roots) members)
  owners-are = record { ascending = rises; told = λ number. (into number, back number) }

-- indices of members are indices of roots
pub members-within : (row : List ℕ) (bound : ℕ) (members : List ℕ) → AreMembers row bound members
    → All (λ place. place < bound) members
members-within row bound members are = λ k d inside. ((are.told (get_or members k d)).0
    (Contains-get_or members k d inside)).0

-- ---- a layout

extents_have : (pieces : List Piece) (address : ℕ)
    → list_any (λ extent. extent == address) (map (λ (piece : Piece). piece.extent) pieces)
    ≡ is_among address (map extent_of pieces)
extents_have [] address = refl
extents_have (piece ∷ pieces) address =
    ap (λ (b : Bool). (piece.extent == address) || b) (extents_have pieces address)

-- a node has what begins at an address where its elements do
has-elements : (nodesize q address : ℕ) (placed : Placed)
    → has_at address (surveyed_of q placed)
    ≡ is_among address (record { address = q; bytes = nodesize } ∷ map extent_of (pieces_of placed.node))
has-elements nodesize q address placed =
    ap (λ (b : Bool). (q == address) || b) (extents_have (pieces_of placed.node) address)

among_one : (address : ℕ) (elements : List Element) → is_among address elements ≡ true
    → (y : Element) × Contains elements y × (y.address ≡ address)
among_one address elements is =
    let one = one_passes (λ (e : Element). e.address == address) elements is in
    (one.0, one.1, eqb-true one.0.address address one.2)

one_among : (address : ℕ) (elements : List Element) (y : Element) → Contains elements y → y.address ≡ address
    → is_among address elements ≡ true
one_among address elements y has is =
    passes_one (λ (e : Element). e.address == address) elements y has (eq-eqb y.address address is)

module _ (layout : Layout) (nodes : List Surveyed)
    (told : nodes ≡ map (λ entry. surveyed_of entry.0 entry.1) layout.nodes)
    (links : AreLinksOf layout layout.roots (links_in nodes))
    (up : IsStrictlyIncreasing (map (λ (link : Linked). link.address) (links_in nodes)))
    (numbers : IsStrictlyIncreasing (keys_of layout.roots)) (ascending : IsStrictlyIncreasing (keys_of layout.nodes))
    (address : ℕ) where
  -- what is surveyed at the address of a link
  node_for : (link : Linked) → Contains (links_in nodes) link
      → (node : Surveyed) × Contains nodes node × (node.linked ≡ link)
  node_for link has = one_mapped (λ (n : Surveyed). n.linked) nodes link has

  entry_for : (node : Surveyed) → Contains nodes node
      → (entry : ℕ × Placed) × Contains layout.nodes entry × (surveyed_of entry.0 entry.1 ≡ node)
  entry_for node has =
      one_mapped (λ (e : ℕ × Placed). surveyed_of e.0 e.1) layout.nodes node
      (subst (λ (list : List Surveyed). Contains list node) told has)

  -- it has what begins at the address where the layout's node has it
  elements_of_node : (node : Surveyed) → Contains nodes node
      → has_at address node
      ≡ is_among address (own_elements layout.nodesize node.linked.address (node_at layout.nodes node.linked.address))
  elements_of_node node has =
      let entry = entry_for node has in
      let at : entry.0.0 ≡ node.linked.address = ap (λ (n : Surveyed). n.linked.address) entry.2 in
      let value = value_of_entry layout.nodes entry.0 ascending entry.1 in
      let own = own_is layout layout.roots (links_in nodes) links up entry.0.0 entry.0.1 value in
      ap (has_at address) (sym entry.2) ∙ has-elements layout.nodesize entry.0.0 address entry.0.1
      ∙ ap (is_among address) (sym own)
      ∙ ap (λ (q : ℕ). is_among address (own_elements layout.nodesize q (node_at layout.nodes q))) at

  reaches_led : (root : ℕ × ℕ) → Contains layout.roots root → reaches layout root.0 address ≡ true
      → LeadsTo nodes root address
  reaches_led root there is =
      let one = among_one address (reach layout root.0) is in
      let led = reached_led layout layout.roots (links_in nodes) links up numbers root there one.0 one.1 in
      let node = node_for led.0 led.1 in
      let own = subst (λ (l : Linked). Contains (own_elements layout.nodesize l.address
      (node_at layout.nodes l.address)) one.0) (sym node.2) led.3 in
      record {
        node = node.0;
        among = node.1;
        has = elements_of_node node.0 node.1 ∙ one_among address (own_elements layout.nodesize
            node.0.linked.address (node_at layout.nodes node.0.linked.address)) one.0 own one.2;
        leads = subst (λ (l : Linked). Leads (links_in nodes) root.1 l) (sym node.2) led.2;
      }

  led_reaches : (root : ℕ × ℕ) → Contains layout.roots root → LeadsTo nodes root address
      → reaches layout root.0 address ≡ true
  led_reaches root there leads =
      let one = among_one address (own_elements layout.nodesize leads.node.linked.address
      (node_at layout.nodes leads.node.linked.address))
      (sym (elements_of_node leads.node leads.among) ∙ leads.has) in
      one_among address (reach layout root.0) one.0
      (led_reached layout layout.roots (links_in nodes) links up numbers root there leads.node.linked one.0 leads.leads
      one.1) one.2

  -- so the owners are those that the state has
  pub owners-told : (roots : List (ℕ × ℕ)) (found : List ℕ) → roots ≡ layout.roots
      → AreOwners roots nodes address found → found ≡ owners layout address
  unfolding owners
  owners-told roots found same are =
      same_ascending found (filter (λ sub. reaches layout sub address) (keys_of layout.roots))
      (ascends_of found (are.ascending (subst (λ (list : List (ℕ × ℕ)). IsStrictlyIncreasing (keys_of list)) (sym same)
      numbers)))
      (ascends_of (filter (λ sub. reaches layout sub address) (keys_of layout.roots))
      (IsStrictlyIncreasing-filter (λ sub. reaches layout sub address) (keys_of layout.roots) numbers))
      (record { into = into; back = back })
    where
      into : (number : ℕ) → Contains found number
          → Contains (filter (λ sub. reaches layout sub address) (keys_of layout.roots)) number
      into number has =
          let one = (are.told number).0 has in
          let there = subst (λ (list : List (ℕ × ℕ)). Contains list one.0) same one.1 in
          subst (λ (n : ℕ). Contains (filter (λ sub. reaches layout sub address) (keys_of layout.roots)) n) one.2
          (contains_filter (λ sub. reaches layout sub address) (keys_of layout.roots) one.0.0
          (contains_map (λ (r : ℕ × ℕ). r.0) layout.roots one.0 there) (led_reaches one.0 there one.3))

      back : (number : ℕ) → Contains (filter (λ sub. reaches layout sub address) (keys_of layout.roots)) number
          → Contains found number
      back number has =
          let both = filter_contains (λ sub. reaches layout sub address) (keys_of layout.roots) number has in
          let root = one_mapped (λ (r : ℕ × ℕ). r.0) layout.roots number both.0 in
          (are.told number).1 (
            root.0,
            subst (λ (list : List (ℕ × ℕ)). Contains list root.0) (sym same) root.1,
            root.2,
            reaches_led root.0 root.1 (ap (λ (n : ℕ). reaches layout n address) root.2 ∙ both.1),
          )
