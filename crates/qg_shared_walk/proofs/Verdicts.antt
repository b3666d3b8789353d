-- The layout of an image, by what was gathered of its nodes.
use Rattle.std.proofs.Common.{◌≡◌, ℕ, zero, suc, ◌+◌, ◌<◌, false, List, [], ◌∷◌, ◌++◌, map, length, get_or, None, refl}
use Rattle.std.proofs.Common.{sym, ap}
use Rattle.std.proofs.Common.{subst, ◌∙◌, arith}
use Rattle.std.specs.List.{AllAdjacentBelow, Contains, flat_map}
use Rattle.std.specs.List.Sorted.{IsNonDecreasingBy, IsPermutation, IsStrictlyIncreasing}
use Rattle.std.proofs.lemmas.Bool.{ne_eqb}
use Rattle.std.proofs.lemmas.List.Elements.{Contains-get_or}
use Rattle.std.proofs.lemmas.List.Sorted.{IsPermutation-append_comm}
use Rattle.qg_node.specs.declared.pointer.Pointer.{Pointer}
use Rattle.qg_node.specs.declared.node.Node.{Node}
use Rattle.qg_node.specs.Nodes.{own_pointers}
use Rattle.qg_items.specs.declared.extent.Reference.TheVariants.{KeyedBlock}
use Rattle.qg_items.specs.declared.root.RootItem.{RootItem}
use Rattle.qg_super.specs.declared.sizes.Sizes.{Sizes}
use Rattle.qg_super.specs.declared.superblock.Super.{Super}
use Rattle.qg_super.specs.SuperText.{sizes_of}
use Rattle.qg_image.specs.Table.{keys_of, value_at}
use Rattle.qg_image.specs.declared.part.ExtentPart.{ExtentPart}
use Rattle.qg_image.specs.declared.element.Element.{Element}
use Rattle.qg_image.specs.State.{Layout, Placed, Subvolume, layout_of}
use Rattle.qg_image.specs.Reach.{extent_of, is_among, pieces_of}
use Rattle.qg_image.specs.Owed.{layout_extents, owed, owed_by_node}
use Rattle.qg_image.proofs.Contained.{contains_here, contains_later}
use Rattle.qg_image.specs.declared.tree.TreeKind.TheVariants.{Files}
use Rattle.qg_image.specs.Walk.{node_found, root_told}
use Rattle.qg_image.specs.ImageState.{extent_parts, level_in, nodes_of_root, placed, roots_in, state_in, subvolume_in}
use Rattle.qg_image.specs.ImageState.{subvolume_roots, subvolumes_in}
use Rattle.qg_image.specs.Verdict.{space_failure}
use Rattle.qg_reach.specs.Sets.{HaveSame}
use Rattle.qg_reach.proofs.Distinct.{AreApart}
use Rattle.qg_reach.proofs.Layouts.{AgreeByAddress, layout_by, layout_in-nodes}
use Rattle.qg_reach.proofs.Members.{contains_flat_map, contains_map, one_flat_mapped, one_mapped, same_back, same_on}
use Rattle.qg_reach.proofs.Reached.{address_of}
use Rattle.qg_reach.proofs.SlotRule.{slot_below}
use Rattle.qg_reach.proofs.SpaceRule.{AreApart-space, Keeps-space, ends_by_later, first_run_fits, member_fits}
use Rattle.qg_owner_rule.specs.Linked.{AreLinksOf, HasChildAt, HasNodeAt, linked_of}
use Rattle.qg_owner_rule.specs.declared.linked.Linked.{Linked}
use Rattle.qg_qgroup_counts.specs.declared.surveyed.Surveyed.{Surveyed}
use Rattle.qg_qgroup_counts.specs.Surveyed.{AreSurveyed, links_in, surveyed_of}
use Rattle.qg_backref_rule.specs.declared.owing.Owing.{Owing}
use Rattle.qg_backref_rule.specs.declared.thing.Thing.{Thing}
use Rattle.qg_backref_rule.specs.OwedLists.{IsTold, kind_at, owings_told}
use Rattle.qg_backref_rule.proofs.NumberSets.{Ascends}
use Rattle.qg_backref_rule.proofs.Things.{kind_of_node, told_there}
use Rattle.qg_shared_walk.specs.declared.nodes.NodeRead.{NodeRead}
use Rattle.qg_shared_walk.specs.declared.nodes.NodesRead.{NodesRead}
use Rattle.qg_shared_walk.specs.NodeFacts.{NodeTold, told_by, told_of}
use Rattle.qg_shared_walk.specs.Marked.{extent_thing, link_where, owed_where, root_owing, surveyed_where, thing_where}
use Rattle.qg_shared_walk.specs.Gathered.{AreGathered, root_at}
use Rattle.qg_shared_walk.proofs.Apart.{IsBranch, tree_branch, tree_under}
use Rattle.qg_shared_walk.proofs.Runs.{extents_there}
use Rattle.qg_shared_walk.proofs.Found.{found_is}
use Rattle.qg_shared_walk.proofs.Laid.{IsLaid, entry_of, laid}
use Rattle.qg_shared_walk.proofs.Marking.{AreMarks, all_linked, all_owed, all_surveyed, all_there}
use Rattle.qg_shared_walk.proofs.Sorted.{ascends_of, number_read, numbers_rise, numbers_told, sorted_rise, sorted_same}
use Rattle.qg_shared_walk.proofs.Sorted.{told_sorted}

-- ---- lists

same_flat : {A B : Type 0} (f : A → List B) (xs ys : List A) → HaveSame xs ys → HaveSame (flat_map f xs) (flat_map f ys)
same_flat f xs ys same = record {
  into = λ y has. let x = one_flat_mapped f xs y has in contains_flat_map f ys x.0 y (same.into x.0 x.1) x.2;
  back = λ y has. let x = one_flat_mapped f ys y has in contains_flat_map f xs x.0 y (same.back x.0 x.1) x.2;
}

none_among : (elements : List Element) (a : ℕ) → ((element : Element) → Contains elements element → element.address ≡ a
    → ⊥) → is_among a elements ≡ false
none_among [] a other = refl
none_among (element ∷ elements) a other =
    let here = ne_eqb element.address a (other element (contains_here element elements)) in
    let later = none_among elements a (λ e has. other e (contains_later element elements e has)) in
    rw (here, later) refl

-- the extents that a node names
abbrev named_by : Node → List Element
named_by node = map extent_of (pieces_of node)

-- those that the nodes of a layout name
named_in : (parts : List ExtentPart) (nodes : List Node) → flat_map (λ entry. named_by entry.1.node)
    (map (entry_of parts) nodes) ≡ flat_map named_by nodes
named_in parts [] = refl
named_in parts (node ∷ nodes) = ap (λ rest. named_by node ++ rest) (named_in parts nodes)

pub extents_of_layout : (layout : Layout)
    → layout_extents layout ≡ flat_map (λ entry. named_by entry.1.node) layout.nodes
unfolding layout_extents
extents_of_layout layout = refl

pub owed_of_layout : (layout : Layout) → owed layout ≡ map (λ entry. record
    { address = entry.1; reference = KeyedBlock entry.0 }) layout.roots ++ flat_map (λ entry. owed_by_node entry.1)
    layout.nodes
unfolding owed
owed_of_layout layout = refl

-- where roots lie, by ROOT_ITEMs
pub roots_of : (super : Super) (image : List ℕ) (roots : List (ℕ × RootItem))
    → map (λ (entry : ℕ × Subvolume). (entry.0, entry.1.root))
    (map (λ (entry : ℕ × RootItem). (entry.0, subvolume_in super image entry.1)) roots)
    ≡ map root_at roots
roots_of super image [] = refl
roots_of super image (entry ∷ roots) = ap (λ rest. root_at entry ∷ rest) (roots_of super image roots)

-- ---- the image

nodesize_in : (super : Super) (image : List ℕ) → super.nodesize ≡ (layout_of (state_in super image)).nodesize
unfolding state_in
nodesize_in super image = refl

-- each extent lies before the next one
abbrev Rising : List Element → Type 0
Rising extents = AllAdjacentBelow (λ (x y : Element). x.address < y.address) extents (length extents)

rising_more : (sizes : Sizes) (extent : Element) (later : List Element) → space_failure sizes (extent ∷ later) ≡ None
    → Rising later → Rising (extent ∷ later)
rising_more sizes extent later none rest = λ k d short. each k d short where
  each : (k : ℕ) (d : Element) → k + 1 < length (extent ∷ later)
      → (get_or (extent ∷ later) k d).address < (get_or (extent ∷ later) (k + 1) d).address
  each zero d short =
      let keeps = Keeps-space sizes extent later none in
      let run = first_run_fits sizes extent later keeps.fits in
      let inside : 0 < length later = omega (arith, short) in
      let has = Contains-get_or later 0 d inside in
      let ends = ends_by_later sizes extent later (get_or later 0 d) none has in
      omega (arith, run.some, ends)
  each (suc k) d short =
      let next : suc k + 1 ≡ suc (k + 1) = omega arith in
      subst (λ j. (get_or later k d).address < (get_or (extent ∷ later) j d).address) (sym next)
      (rest k d (omega (arith, short)))

rising : (sizes : Sizes) (extents : List Element) → space_failure sizes extents ≡ None → Rising extents
rising sizes [] none = λ k d short. absurd (omega (arith, short))
rising sizes (extent ∷ later) none =
    rising_more sizes extent later none (rising sizes later (Keeps-space sizes extent later none).rest)

-- extents that keep the rule `space` ascend
extents_rise : (sizes : Sizes) (extents : List Element) → space_failure sizes extents ≡ None
    → IsStrictlyIncreasing (map (λ extent. extent.address) extents)
extents_rise sizes extents none =
    numbers_rise (λ (extent : Element). extent.address) extents (rising sizes extents none)

-- the nodes of some trees, one tree after the other
abbrev pub nodes_of_all : Super → List ℕ → List (ℕ × RootItem) → List Node
nodes_of_all super image roots = flat_map (λ entry. nodes_of_root Files super image entry.1) roots

module _ (super : Super) (image : List ℕ) (roots : List (ℕ × RootItem)) (read : NodesRead) (extents : List Element)
    (parts : List ExtentPart)
    (are : AreGathered super image roots read extents parts) where
  -- the nodes that were read, each once
  abbrev pub nodes : List Node
  nodes = are.gathered.nodes

  abbrev layout : Layout
  layout = layout_of (state_in super image)

  pub branch : (entry : ℕ × RootItem) → Contains roots entry
      → IsBranch Files super image None None (level_in super image entry.1.bytenr) entry.1.bytenr
      (nodes_of_root Files super image entry.1)
  branch entry has =
      let sound = are.sound entry has in
      tree_branch Files super image (root_told entry.1) entry.1.bytenr (nodes_of_root Files super image entry.1) sound
      (tree_under Files super image (root_told entry.1) entry.1.bytenr sound)

  pub nodes_same : HaveSame are.gathered.nodes (nodes_of_all super image roots)
  nodes_same = record {
    into = λ node has.
        let one = are.gathered.only node has in
        contains_flat_map (λ (entry : ℕ × RootItem). nodes_of_root Files super image entry.1) roots one.0 node one.1
        one.2;
    back = λ node has.
        let one = one_flat_mapped (λ (entry : ℕ × RootItem). nodes_of_root Files super image entry.1) roots node has in
        are.gathered.all one.0 node one.1 one.2;
  }

  alike : AgreeByAddress are.gathered.nodes
  alike = record {
    agree = λ a b has has' same.
        let here = are.gathered.found a has in
        let there = are.gathered.found b has' in
        let both = sym here ∙ ap (node_found super image) same ∙ there in
        cc;
  }

  all_alike : AgreeByAddress (nodes_of_all super image roots)
  all_alike = record { agree = λ a b has has'. alike.agree a b (nodes_same.back a has) (nodes_same.back b has') }

  layout_is : (layout_of (state_in super image)).nodes
      ≡ layout_by (extent_parts super image) (nodes_of_all super image roots)
  unfolding state_in
  layout_is =
      layout_in-nodes super image
      ∙ ap (λ roots. layout_by (extent_parts super image) (nodes_of_all super image roots)) are.subvolumes

  pub roots_are : (layout_of (state_in super image)).roots ≡ map root_at roots
  unfolding state_in subvolumes_in
  roots_are =
      roots_of super image (subvolume_roots (roots_in super image))
      ∙ ap (λ (roots : List (ℕ × RootItem)). map root_at roots) are.subvolumes

  all_by_address : IsLaid (extent_parts super image) (nodes_of_all super image roots)
      (layout_by (extent_parts super image) (nodes_of_all super image roots))
  all_by_address = laid (extent_parts super image) (nodes_of_all super image roots) all_alike

  -- those that were read, by address, are the layout's
  pub by_address : IsLaid (extent_parts super image) are.gathered.nodes (layout_of (state_in super image)).nodes
  by_address = record {
    sorted = all_by_address.sorted;
    are = layout_is ∙ all_by_address.are;
    ascends = all_by_address.ascends;
    same =
        same_on all_by_address.sorted (nodes_of_all super image roots) are.gathered.nodes all_by_address.same
        (same_back are.gathered.nodes (nodes_of_all super image roots) nodes_same);
  }

  pub listed : (layout_of (state_in super image)).nodes ≡ map (entry_of (extent_parts super image)) by_address.sorted
  listed = by_address.are

  -- ---- extents

  pub named_there : HaveSame extents (layout_extents (layout_of (state_in super image)))
  named_there =
      let sorted = by_address.sorted in
      let all : layout_extents (layout_of (state_in super image)) ≡ flat_map named_by sorted
      = extents_of_layout (layout_of (state_in super image))
      ∙ ap (flat_map (λ (entry : ℕ × Placed). named_by entry.1.node)) listed
      ∙ named_in (extent_parts super image) sorted in
      let same = same_on extents (flat_map named_by are.gathered.nodes) (flat_map named_by sorted) are.named
      (same_back (flat_map named_by sorted) (flat_map named_by are.gathered.nodes)
      (same_flat named_by sorted are.gathered.nodes by_address.same)) in
      subst (HaveSame extents) (sym all) same

  pub extents_apart : AreApart extents
  extents_apart = AreApart-space (sizes_of super) extents are.space

  pub no_extent : (node : Node) → Contains are.gathered.nodes node
      → is_among (address_of node) (layout_extents (layout_of (state_in super image))) ≡ false
  no_extent node has =
      let lies = are.gathered.found node has in
      let low = slot_below (sizes_of super) (address_of node) are.served
      (found_is super image (address_of node) node lies).slot in
      none_among (layout_extents (layout_of (state_in super image))) (address_of node) (λ extent has' same.
      let run = member_fits (sizes_of super) extents extent are.space (named_there.back extent has') in
      omega (arith, run.begin, low, same))

  -- ---- in the order of addresses

  module _ (sorted : List NodeRead) (moved : IsPermutation read.nodes.items sorted) where
    -- no two of them lie at one address
    pub rises : IsNonDecreasingBy (λ node. node.linked.address) sorted
        → IsStrictlyIncreasing (map (λ node. node.linked.address) sorted)
    rises up = sorted_rise read.nodes.items sorted are.gathered.nodes are.gathered.kept moved are.gathered.distinct up

    module _ (up : IsStrictlyIncreasing (map (λ node. node.linked.address) sorted)) (full : List ℕ)
        (marks : AreMarks full parts) where
      told_is : map told_by sorted ≡ map told_of by_address.sorted
      told_is =
          let ascends = subst Ascends (sym (numbers_told sorted)) (ascends_of (map number_read sorted) up) in
          told_sorted (map told_by sorted) are.gathered.nodes by_address.sorted alike
          (sorted_same read.nodes.items sorted are.gathered.nodes are.gathered.kept moved) by_address.same ascends
          by_address.ascends

      marks_are : AreMarks full (extent_parts super image)
      marks_are = subst (AreMarks full) are.told marks

      owed_is : flat_map (owed_where full) (map told_by sorted) ≡ flat_map (λ entry. owed_by_node entry.1)
          (layout_of (state_in super image)).nodes
      owed_is =
          ap (flat_map (owed_where full)) told_is ∙ all_owed full (extent_parts super image) marks_are by_address.sorted
          ∙ ap (flat_map (λ (entry : ℕ × Placed). owed_by_node entry.1)) (sym listed)

      there_is : (a : ℕ) → kind_at (map (thing_where full) (map told_by sorted)) a ≡ kind_of_node
          (value_at a (layout_of (state_in super image)).nodes)
      there_is a =
          ap (λ told. kind_at (map (thing_where full) told) a) told_is
          ∙ all_there full (extent_parts super image) marks_are by_address.sorted a
          ∙ ap (λ table. kind_of_node (value_at a table)) (sym listed)

      links_are : map (link_where full) (map told_by sorted) ≡ map (λ entry. linked_of entry.0 entry.1)
          (layout_of (state_in super image)).nodes
      links_are =
          ap (map (link_where full)) told_is ∙ all_linked full (extent_parts super image) marks_are by_address.sorted
          ∙ ap (map (λ (entry : ℕ × Placed). linked_of entry.0 entry.1)) (sym listed)

      -- ---- the rule `refs`

      all_owed_is : owed (layout_of (state_in super image)) ≡ map root_owing (map root_at roots)
          ++ flat_map (owed_where full) (map told_by sorted)
      all_owed_is =
          owed_of_layout (layout_of (state_in super image))
          ∙ ap (λ roots. map root_owing roots ++
          flat_map (λ (entry : ℕ × Placed). owed_by_node entry.1) (layout_of (state_in super image)).nodes)
          roots_are
          ∙ ap (λ rest. map root_owing (map root_at roots) ++ rest) (sym owed_is)

      pub lists_tell : (owings : List Owing) (things before : List Thing)
          → owings_told owings ≡ flat_map (owed_where full) (map told_by sorted) ++ map root_owing (map root_at roots)
          → before ≡ map (thing_where full) (map told_by sorted) ++ map extent_thing extents
          → ((a : ℕ) → kind_at things a ≡ kind_at before a) → IsTold (layout_of (state_in super image)) owings things
      lists_tell owings things before owe list same =
          let own = flat_map (owed_where full) (map told_by sorted) in
          let ones = map root_owing (map root_at roots) in
          record {
            owed =
                subst (λ first. IsPermutation first (owings_told owings)) (sym all_owed_is)
                (subst (IsPermutation (ones ++ own)) (sym owe) (IsPermutation-append_comm ones own));
            there = λ a.
                same a ∙ ap (λ all. kind_at all a) list
                ∙ told_there (layout_of (state_in super image)) (map (thing_where full) (map told_by sorted))
                (map extent_thing extents) there_is
                (extents_there extents (layout_extents (layout_of (state_in super image))) extents_apart named_there) a;
          }

      surveyed_are : map (surveyed_where full) (map told_by sorted) ≡ map (λ entry. surveyed_of entry.0 entry.1)
          (layout_of (state_in super image)).nodes
      surveyed_are =
          ap (map (surveyed_where full)) told_is
          ∙ all_surveyed full (extent_parts super image) marks_are by_address.sorted
          ∙ ap (map (λ (entry : ℕ × Placed). surveyed_of entry.0 entry.1)) (sym listed)

      -- ---- the rule `home`

      module _ (links : List Linked) (list : links ≡ map (link_where full) (map told_by sorted)) where
        told_links : links ≡ map (λ entry. linked_of entry.0 entry.1) (layout_of (state_in super image)).nodes
        told_links = list ∙ links_are

        as_links : links ≡ map (λ entry. linked_of entry.0 entry.1)
            (map (entry_of (extent_parts super image)) by_address.sorted)
        as_links = told_links ∙ ap (map (λ (entry : ℕ × Placed). linked_of entry.0 entry.1)) listed

        has_link : (node : Node) → Contains are.gathered.nodes node → Contains links
            (linked_of (address_of node) (placed (extent_parts super image) node))
        has_link node has =
            let entry = contains_map (entry_of (extent_parts super image)) by_address.sorted node
            (by_address.same.back node has) in
            subst (λ all. Contains all (linked_of (address_of node) (placed (extent_parts super image) node)))
            (sym as_links)
            (contains_map (λ (entry : ℕ × Placed). linked_of entry.0 entry.1)
            (map (entry_of (extent_parts super image)) by_address.sorted) (entry_of (extent_parts super image) node)
            entry)

        of_link : (link : Linked) → Contains links link → (node : Node) × Contains are.gathered.nodes node ×
            (linked_of (address_of node) (placed (extent_parts super image) node) ≡ link)
        of_link link has =
            let told = subst (λ all. Contains all link) as_links has in
            let entry = one_mapped (λ (entry : ℕ × Placed). linked_of entry.0 entry.1)
            (map (entry_of (extent_parts super image)) by_address.sorted) link told in
            let node = one_mapped (entry_of (extent_parts super image)) by_address.sorted entry.0 entry.1 in
            (node.0, by_address.same.into node.0 node.1, ap (λ (e : ℕ × Placed). linked_of e.0 e.1) node.2 ∙ entry.2)

        begins : (first : ℕ × ℕ) → Contains (map root_at roots) first → HasNodeAt links first.1
        begins first has =
            let entry = one_mapped root_at roots first has in
            let start = (branch entry.0 entry.1).start in
            let own = are.gathered.all entry.0 start.node entry.1 start.has in
            let there : address_of start.node ≡ first.1 = start.lies ∙ ap (λ (root : ℕ × ℕ). root.1) entry.2 in (
              linked_of (address_of start.node) (placed (extent_parts super image) start.node),
              has_link start.node own,
              there,
            )

        child_of : (node : Node) (child : ℕ) → Contains are.gathered.nodes node
            → Contains (map (λ pointer. pointer.child) (own_pointers node)) child
            → HasChildAt links (linked_of (address_of node) (placed (extent_parts super image) node)) child
        child_of node child has has' =
            let pointer = one_mapped (λ (pointer : Pointer). pointer.child) (own_pointers node) child has' in
            let entry = are.gathered.only node has in
            let link = (branch entry.0 entry.1).reached.linked node pointer.0 entry.2 pointer.1 in
            let below = link.2 in (
              linked_of (address_of below.node) (placed (extent_parts super image) below.node),
              has_link below.node (are.gathered.all entry.0 below.node entry.1 below.has),
              below.lies ∙ pointer.2,
              link.1 ∙ ap (λ (n : ℕ). n + 1) (sym below.level_is),
            )

        pub links_tell : AreLinksOf (layout_of (state_in super image)) (map root_at roots) links
        links_tell = record {
          roots = sym roots_are;
          told = told_links;
          begin = begins;
          below = λ parent child has has'.
              let node = of_link parent has in
              subst (λ (link : Linked). HasChildAt links link child) node.2
              (child_of node.0 child node.1 (subst (λ (link : Linked). Contains link.children child) (sym node.2)
              has'));
          apart = λ link has.
              let node = of_link link has in
              subst (λ (l : Linked). is_among l.address (layout_extents (layout_of (state_in super image))) ≡ false)
              node.2 (no_extent node.0 node.1);
        }

      -- ---- what is counted

      links_where : (told : List NodeTold) → links_in (map (surveyed_where full) told) ≡ map (link_where full) told
      links_where [] = refl
      links_where (node ∷ told) = ap (λ rest. link_where full node ∷ rest) (links_where told)

      -- the links of what is surveyed are those that were judged
      pub links_surveyed : (those : List Surveyed) → those ≡ map (surveyed_where full) (map told_by sorted)
          → links_in those ≡ map (link_where full) (map told_by sorted)
      links_surveyed those list = ap links_in list ∙ links_where (map told_by sorted)

      pub surveyed_tell : (numbers : List (ℕ × ℕ)) (those : List Surveyed)
          → those ≡ map (surveyed_where full) (map told_by sorted) → numbers ≡ map root_at roots
          → IsStrictlyIncreasing (keys_of numbers)
          → AreSurveyed (layout_of (state_in super image)) numbers those super.nodesize extents
      surveyed_tell numbers those list same up = record {
        numbers = subst (λ (roots : List (ℕ × ℕ)). IsStrictlyIncreasing (keys_of roots)) (same ∙ sym roots_are) up;
        links =
            subst (λ (roots : List (ℕ × ℕ)). AreLinksOf (layout_of (state_in super image)) roots (links_in those))
            (sym same) (links_tell (links_in those) (links_surveyed those list));
        told = list ∙ surveyed_are;
        bytes = nodesize_in super image;
        ascending = extents_rise (sizes_of super) extents are.space;
        named = named_there;
      }

      -- the lists that are judged tell the layout
      pub lists_are : (numbers : List (ℕ × ℕ)) (owings : List Owing) (things before : List Thing) (links : List Linked)
          (those : List Surveyed) → numbers ≡ map root_at roots
          → owings_told owings ≡ flat_map (owed_where full) (map told_by sorted) ++ map root_owing numbers
          → before ≡ map (thing_where full) (map told_by sorted) ++ map extent_thing extents
          → ((a : ℕ) → kind_at things a ≡ kind_at before a)
          → those ≡ map (surveyed_where full) (map told_by sorted) → links ≡ links_in those
          → IsTold (layout_of (state_in super image)) owings things
          × AreLinksOf (layout_of (state_in super image)) numbers links
      lists_are numbers owings things before links those same owe list there surveyed are_links =
          let owed = owe ∙ ap (λ (roots : List (ℕ × ℕ)). flat_map (owed_where full) (map told_by sorted) ++ map
          root_owing roots) same in
          let linked = links_tell links (are_links ∙ links_surveyed those surveyed) in (
            lists_tell owings things before owed list there,
            subst (λ (roots : List (ℕ × ℕ)). AreLinksOf (layout_of (state_in super image)) roots links)
                (sym same) linked,
          )
