-- One node that a way leads to, as it is read.
use Rattle.std.proofs.Common.{◌≡◌, ℕ, suc, ◌+◌, ◌-◌, ◌≤◌, Bool, cond, List, [], ◌∷◌, length, Option, Some, None, arith}
use Rattle.std.proofs.Common.{refl, sym, ap, subst, ◌∙◌, inl, inr}
use Rattle.std.specs.Prelude.{IsSome}
use Rattle.std.specs.BTreeMap.{is_at}
use Rattle.std.specs.List.{All, Contains}
use Rattle.std.specs.Ordering.{nat_cmp}
use Rattle.std.proofs.lemmas.List.Elements.{All-contains}
use Rattle.std.proofs.lemmas.Option.{same_Some}
use Rattle.qg_device.specs.History.{History}
use Rattle.qg_num.specs.declared.key.Key.{Key}
use Rattle.qg_node.specs.declared.pointer.Pointer.{Pointer}
use Rattle.qg_node.specs.declared.node.Node.{Node}
use Rattle.qg_node.specs.NodeText.{IsLevelled}
use Rattle.qg_node.specs.Nodes.{header_of, own_pointers}
use Rattle.qg_super.specs.declared.superblock.Super.{Super}
use Rattle.qg_image.specs.Table.{value_at}
use Rattle.qg_image.specs.State.{Placed, State, node_at}
use Rattle.qg_image.proofs.Contained.{none_contained, contains_cases, contains_here, contains_later}
use Rattle.qg_reach.proofs.Members.{one_mapped}
use Rattle.qg_image.specs.declared.tree.TreeKind.TheVariants.{Files}
use Rattle.qg_machine.specs.Layout.{super_to_come}
use Rattle.qg_walk.proofs.Failures.{IsFormed-form}
use Rattle.qg_blocks.specs.NodesInMemory.{Draft, Held}
use Rattle.qg_blocks.specs.NodesFound.{held_at}
use Rattle.qg_refs.specs.Book.{Book, full_in}
use Rattle.qg_qgroup_counts.specs.Surveyed.{surveyed_of}
use Rattle.qg_qgroup_counts.specs.declared.surveyed.Surveyed.{Surveyed}
use Rattle.qg_tree_read.specs.Tree.{Reaches}
use Rattle.qg_tree_read.specs.Way.{IsVisited}
use Rattle.qg_tree_read.specs.declared.way.Way.{Way}
use Rattle.qg_tree_read.proofs.BranchWalk.{top-under}
use Rattle.qg_tree_read.proofs.Under.{IsUnder, level-told}
use Rattle.qg_subvolumes.proofs.Meeting.{placed-there}
use Rattle.qg_subvolumes.specs.Counting.{LeadsToBranch, TellsNodes, ways_told}
use Rattle.qg_survey.specs.Surveying.{Adds, AreRead, EndBelow, EndsBelow, GoesOn, HasBelow, MarksNodes, link_at}
use Rattle.qg_survey.proofs.Reading.{adds-higher, adds-none, adds-on, below-read, no-children, put-adds, put-below}
use Rattle.qg_survey.proofs.Reading.{put-read, reached-itself}

-- among the ways that pointers lead is one to each child
pub way-among : (to : Option Key) (level : ℕ) (pointers : List Pointer) (pointer : Pointer) → Contains pointers pointer
    → (way : Way) × Contains (ways_told to level pointers) way × (way.address ≡ pointer.child)
way-among to level [] pointer has = absurd (none_contained pointer has)
way-among to level (first ∷ pointers) pointer has = elim (contains_cases first pointers pointer has) [
  | inl is ↦ (_, contains_here _ (ways_told to level pointers), ap (λ (p : Pointer). p.child) is)
  | inr later ↦
      let found = way-among to level pointers pointer later in
      (found.0, contains_later _ (ways_told to level pointers) found.0 found.1, found.2)
]

-- nothing came, and one node at most was read
pub goes-none : (state : State) (level : ℕ) (links : List (ℕ × Surveyed)) (before after : ℕ) → AreRead state links
    → after ≤ before + 1 → GoesOn state level links links before after
goes-none state level links before after read few = record {
  read = read;
  adds = adds-none level links;
  once = omega (arith, few);
}

-- nodes below one were read on
pub goes-higher : (state : State) (lower level : ℕ) (old new : List (ℕ × Surveyed)) (before then after : ℕ)
    → level ≡ suc lower → then ≡ before + 1 → GoesOn state lower old new then after
    → GoesOn state level old new before after
goes-higher state lower level old new before then after high one goes = record {
  read = goes.read;
  adds = adds-higher lower level old new (omega (arith, high)) goes.adds;
  once = omega (arith, goes.once, one, high);
}

module _ (draft : Draft) (history : History) (book : Book) (state : State)
    (tells : TellsNodes draft history state)
    (marks : MarksNodes book state) (level : ℕ) (way : Way) (levelled : way.expected.level ≡ Some level)
    (leads : LeadsToBranch state level way) where
  abbrev at : ℕ
  at = way.address

  -- where it was read before, all below it was
  pub ends-there : (links : List (ℕ × Surveyed)) (reads : ℕ) → AreRead state links → IsSome (link_at links at)
      → EndsBelow state level at links links reads reads
  ends-there links reads read some = record { below = below-read state links read level at some; once = omega arith }

  under : IsUnder Files (super_to_come state) (node_at state.layout) level way.expected at leads.items
  under = record { levelled = levelled; walked = leads.walked; items_are = leads.items_are }

  placed : (placed : Placed) × (value_at at state.layout ≡ Some placed)
  placed =
      let top = top-under Files (super_to_come state) (node_at state.layout) level way.expected at leads.items under in
      let found = placed-there state.layout at (value_at at state.layout) refl top.0 top.1 in
      (found.0, found.1)

  module _ (judge : Super) (held : Held) (visited : IsVisited Files judge way.expected draft history held at)
      (seen : Node)
      (has : held_at held at ≡ Some seen) (link : Surveyed)
      (is : link ≡ surveyed_of (header_of seen).address (record { node = seen; full = full_in (book at) })) where
    seen_is : seen ≡ placed.0.node
    seen_is =
        sym (same_Some visited.node seen (sym visited.is ∙ has))
        ∙ sym (visited.alone placed.0.node (tells.tells at placed.0 placed.1))

    visited_is : visited.node ≡ placed.0.node
    visited_is = same_Some visited.node seen (sym visited.is ∙ has) ∙ seen_is

    level_is : (header_of placed.0.node).level ≡ level
    level_is =
        let formed = IsFormed-form Files judge way.expected at visited.node visited.formed in
        ap (λ (n : Node). (header_of n).level) (sym visited_is)
        ∙ level-told way.expected.level level (header_of visited.node).level levelled formed.level

    address_is : (header_of seen).address ≡ at
    address_is =
        ap (λ (n : Node). (header_of n).address) (seen_is ∙ sym visited_is) ∙ visited.kept.placed

    link_is : link ≡ surveyed_of at placed.0
    link_is =
        is ∙ ap (λ (a : ℕ). surveyed_of a (record { node = seen; full = full_in (book at) })) address_is
        ∙ ap (λ (n : Node). surveyed_of at (record { node = n; full = full_in (book at) })) seen_is
        ∙ ap (λ (b : Bool). surveyed_of at (record { node = placed.0.node; full = b })) (marks at placed.0 placed.1)

    link_low : link.linked.level ≡ level
    link_low = ap (λ (l : Surveyed). l.linked.level) link_is ∙ level_is

    -- its children, where all below them was read
    children : (ways : List Way) (to : Option Key) (lower : ℕ) (mid : List (ℕ × Surveyed))
        → ways ≡ ways_told to lower (own_pointers seen)
        → All (λ (w : Way). HasBelow state lower w.address mid) ways
        → (child : ℕ) → Contains link.linked.children child → IsSome (link_at mid child)
    children ways to lower mid told all child among =
        let found = one_mapped (λ (p : Pointer). p.child) (own_pointers placed.0.node) child
        (subst (λ (l : Surveyed). Contains l.linked.children child) link_is among) in
        let here = subst (λ (n : Node). Contains (own_pointers n) found.0) (sym seen_is) found.1 in
        let one = way-among to lower (own_pointers seen) found.0 here in
        let below = All-contains (λ (w : Way). HasBelow state lower w.address mid) ways one.0 all
        (subst (λ (list : List Way). Contains list one.0) (sym told) one.1) in
        below child (subst (λ (a : ℕ). Reaches (node_at state.layout) lower a child) (sym (one.2 ∙ found.2))
        (reached-itself state lower child))

    -- it was not read before, and lies above what came
    absent : (old mid : List (ℕ × Surveyed)) (lower : ℕ) → level ≡ suc lower → AreRead state mid → link_at old at ≡ None
        → Adds lower old mid → link_at mid at ≡ None
    absent old mid lower high read none adds = by (link_at mid at) refl where
      by : (o : Option Surveyed) → link_at mid at ≡ o → o ≡ None
      by None there = refl
      by (Some other) there = elim (adds.low at other there) [
        | inl before ↦ absurd (let both : Some other ≡ None = sym before ∙ none in cc)
        | inr low ↦
            let its = read.each at other there in
            let same : its.0 ≡ placed.0 = same_Some its.0 placed.0 (sym its.1 ∙ placed.1) in
            let levels : other.linked.level ≡ level =
            ap (λ (l : Surveyed). l.linked.level) its.2 ∙ ap (λ (p : Placed). (header_of p.node).level) same
            ∙ level_is in
            absurd (omega (arith, low, levels, high))
      ]

    module _ (old mid new : List (ℕ × Surveyed)) (before then after : ℕ) (one : then ≡ before + 1)
        (none : link_at old at ≡ None) (read : AreRead state mid)
        (put : (q : ℕ) → link_at new q ≡ cond (is_at (nat_cmp at) q) (Some link) (link_at mid q))
        (grown : link_at mid at ≡ None → length new ≡ length mid + 1) where
      -- an inner node, once all below its children was read
      pub inner-goes : (lower : ℕ) → level ≡ suc lower → (ways : List Way) (to : Option Key)
          → ways ≡ ways_told to lower (own_pointers seen)
          → GoesOn state lower old mid then after → EndBelow state lower ways old mid then after
          → GoesOn state level old new before after × EndsBelow state level at old new before after
      inner-goes lower high ways to told goes ends =
          let gone = absent old mid lower high read none goes.adds in
          let more = grown gone in
          let low : link.linked.level ≤ level = omega (arith, link_low) in
          let least : lower ≤ level = omega (arith, high) in
          let kids = children ways to lower mid told ends.below in
          let adds = adds-on level old mid new (adds-higher lower level old mid least goes.adds)
          (put-adds state mid new at link put gone level low) in
          let once : after + length old ≤ before + length new = omega (arith, ends.once, more, one) in (
            record {
              read = put-read state mid new at link put read placed.0 placed.1 link_is kids;
              adds = adds;
              once = omega (arith, once);
            },
            record {
              below = put-below state mid new at link put read placed.0 placed.1 link_is kids level;
              once = once;
            },
          )

      -- a leaf
      pub leaf-goes : level ≡ 0 → mid ≡ old → after ≡ then
          → GoesOn state level old new before after × EndsBelow state level at old new before after
      leaf-goes low same last =
          let gone : link_at mid at ≡ None = ap (λ (l : List (ℕ × Surveyed)). link_at l at) same ∙ none in
          let more = grown gone in
          let sizes = ap (λ (l : List (ℕ × Surveyed)). length l) same in
          let least : link.linked.level ≤ level = omega (arith, link_low) in
          let flat : IsLevelled placed.0.node = subst (λ (n : Node). IsLevelled n) visited_is
          visited.kept.sound.levelled in
          let kids : (child : ℕ) → Contains link.linked.children child → IsSome (link_at mid child) =
          λ child among. absurd (no-children state at placed.0 link flat (level_is ∙ low) link_is child among) in
          let adds = subst (λ (l : List (ℕ × Surveyed)). Adds level l new) same
          (put-adds state mid new at link put gone level least) in
          let once : after + length old ≤ before + length new = omega (arith, more, sizes, one, last) in (
            record {
              read = put-read state mid new at link put read placed.0 placed.1 link_is kids;
              adds = adds;
              once = omega (arith, once);
            },
            record {
              below = put-below state mid new at link put read placed.0 placed.1 link_is kids level;
              once = once;
            },
          )
