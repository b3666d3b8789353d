-- Where a drop begins: a state is held, with the nodes of the subvolume's tree open.
use Rattle.std.proofs.Common.{◌≡◌, ◌≢◌, ℕ, ◌+◌, ◌<◌, Bool, true, false, List, [], ◌∷◌, length, map, Option, Some, None}
use Rattle.std.proofs.Common.{arith, refl, sym, ap, subst, ◌∙◌, inl, inr}
use Rattle.std.specs.Prelude.{◌==◌, ◌||◌, not, is_some, if◌then◌else◌}
use Rattle.std.specs.List.{AllByRecursion, Contains, filter, flat_map}
use Rattle.std.specs.Option.{option_map}
use Rattle.std.proofs.lemmas.Bool.{cases_Bool, cond-false, cond-true, eq-eqb, eqb-true, or_cases, or_left, or_right}
use Rattle.std.proofs.lemmas.Bool.{true≢false}
use Rattle.std.proofs.lemmas.Bool.Decides.{eqb_tells}
use Rattle.std.proofs.lemmas.Option.{same_Some}
use Rattle.qg_device.specs.History.{History}
use Rattle.qg_items.specs.declared.extent.Reference.{Reference}
use Rattle.qg_items.specs.declared.extent.Reference.TheVariants.{KeyedBlock}
use Rattle.qg_node.specs.declared.node.Node.{Node}
use Rattle.qg_node.specs.Nodes.{header_of}
use Rattle.qg_super.specs.declared.sizes.Sizes.{Sizes}
use Rattle.qg_super.specs.Places.{is_run, is_slot}
use Rattle.qg_image.specs.Table.{has_key, value_at, without_key}
use Rattle.qg_image.specs.declared.element.Element.{Element}
use Rattle.qg_image.specs.Owed.{Owing, layout_extents}
use Rattle.qg_image.specs.Reach.{extent_of, is_among, is_reached, level_of, own_elements, pieces_of, reach, reach_of}
use Rattle.qg_image.specs.Reach.{reach_of_root, reach_under, reaches}
use Rattle.qg_image.specs.Space.{present_extents}
use Rattle.qg_image.specs.State.{Placed, State, Subvolume, layout_of, next_generation, node_at}
use Rattle.qg_image.proofs.Contained.{contains_here, contains_later}
use Rattle.qg_machine.specs.Layout.{IsTreeOf, is_full_after}
use Rattle.qg_machine.specs.Step.{without_subvolume}
use Rattle.qg_blocks.specs.NodesFound.{fresh_at, told, told_or}
use Rattle.qg_cow_refs.specs.Children.{way_to}
use Rattle.qg_files.proofs.Ascending.{Ascends-increasing}
use Rattle.qg_space.specs.Holding.{has_slot}
use Rattle.qg_node_alloc.specs.declared.ground.Ground.{Ground}
use Rattle.qg_node_alloc.specs.Land.{IsDrafted}
use Rattle.qg_owner_rule.proofs.Reaching.{entry_of_value, value_of_entry}
use Rattle.qg_tree_read.specs.Tree.{Reaches}
use Rattle.qg_tree_read.proofs.BranchFrames.{reach-top}
use Rattle.qg_refs.specs.declared.kept.Kept.{Kept}
use Rattle.qg_refs.specs.declared.kept.What.{What}
use Rattle.qg_refs.specs.Book.{AgreesWithOwed, Book, Drops, IsBook, full_in, references_in, what_in}
use Rattle.qg_extents.specs.Table.{book_of}
use Rattle.qg_tree_backrefs.specs.declared.tree_refs.TreeRefs.{TreeRefs}
use Rattle.qg_tree_backrefs.specs.Exchange.{Takes, times}
use Rattle.qg_tree_backrefs.specs.Following.{references_to}
use Rattle.qg_tree_backrefs.specs.Settled.{what_of}
use Rattle.qg_tree_backrefs.proofs.Losses.{Takes-one}
use Rattle.qg_tree_backrefs.proofs.Times.{times-nil}
use Rattle.qg_shared_trees.specs.ForestStanding.{HoldsState, IsKnownRun}
use Rattle.qg_shared_trees.proofs.Below.{met-reached, reached-met}
use Rattle.qg_shared_trees.proofs.Changed.{times-changed, times-kept, value-kept}
use Rattle.qg_shared_trees.proofs.ForestExtents.{among-one, apart-held, extents-whole}
use Rattle.qg_shared_trees.proofs.Homes.{owner-reaches}
use Rattle.qg_shared_trees.proofs.Meeting.{IsMet, each-there, met-child, met-reached-itself, met-there, placed-there}
use Rattle.qg_shared_trees.proofs.Meeting.{root-valued}
use Rattle.qg_shared_trees.proofs.Owing.{node_owes, owed-parts, root_owes, times-mapped}
use Rattle.qg_shared_trees.proofs.Referring.{extents-named}
use Rattle.qg_shared_trees.proofs.Snapshotted.{root_entry}
use Rattle.qg_subvolumes.specs.Dropping.{HoldsPart, HoldsPartly, IsClosed, is_below, layout_partly, nodes_partly}
use Rattle.qg_subvolumes.specs.Dropping.{placed_partly}
use Rattle.qg_subvolumes.proofs.Opened.{key_of, node_of}
use Rattle.qg_subvolumes.proofs.Parted.{same_reached}
use Rattle.qg_subvolumes.proofs.Partly.{all_kept}
use Rattle.qg_subvolumes.proofs.Taken.{met-node, run-apart, taken, there-referred}

-- ---- lists and books

each_stays : {A : Type 0} (f : A → A) (keeps : A → Bool) (xs : List A) → ((x : A) → Contains xs x → keeps x ≡ true)
    → ((x : A) → Contains xs x → f x ≡ x) → map f (filter keeps xs) ≡ xs
each_stays f keeps [] stays same = refl
each_stays {A} f keeps (x ∷ xs) stays same =
    let rest = each_stays f keeps xs (λ y has. stays y (contains_later x xs y has))
    (λ y has. same y (contains_later x xs y has)) in
    ap (λ (ys : List A). map f ys) (cond-true (keeps x) (x ∷ filter keeps xs) (filter keeps xs)
    (stays x (contains_here x xs)))
    ∙ ap (λ (y : A). y ∷ map f (filter keeps xs)) (same x (contains_here x xs))
    ∙ ap (λ (ys : List A). x ∷ ys) rest

kept_some : (o : Option Kept) → 0 < length (references_in o) → (kept : Kept) × (o ≡ Some kept)
kept_some None some = absurd (omega (arith, some))
kept_some (Some kept) some = (kept, refl)

what_some : (o : Option Kept) (what : What) → what_in o ≡ Some what → (kept : Kept) × (o ≡ Some kept)
    × (kept.what ≡ what)
what_some None what is = let wrong : ◌≡◌ {A = Option What} None (Some what) = is in absurd cc
what_some (Some kept) what is = (kept, refl, same_Some kept.what what is)

-- what is fresh is told
pub fresh-told : (land : Ground) (history : History) (at : ℕ) (node : Node)
    → fresh_at land.blocks.draft at ≡ Some node → told land.blocks.draft history at ≡ Some node
unfolding told
fresh-told land history at node is =
    ap (λ (o : Option Node). told_or o land.blocks.draft.sizes history at) is

-- ---- a state that is held

module _ (land : Ground) (history : History) (book : TreeRefs) (state : State)
    (holds : HoldsState land history book state) (drafted : IsDrafted land (next_generation state))
    (is : IsBook (book_of book.refs)) where
  abbrev old : Book
  old = book_of book.refs

  slots : (at : ℕ) (placed : Placed) → value_at at state.layout ≡ Some placed → is_slot land.space.sizes at ≡ true
  slots at placed there = (holds.nodes at placed there).slot

  present : (run : Element) → Contains (layout_extents (layout_of state)) run → Contains (present_extents state) run
  present run has =
      (extents-whole state holds.whole (apart-held land history book state holds drafted.sizes.served) run).0 has

  known_run : (run : Element) → Contains (layout_extents (layout_of state)) run → IsKnownRun state.sizes old run
  known_run run has = holds.extents run (present run has)

  runs : (run : Element) → Contains (layout_extents (layout_of state)) run
      → is_run land.space.sizes run.address run.bytes ≡ true
  runs run has =
      subst (λ (sizes : Sizes). is_run sizes run.address run.bytes ≡ true) holds.sizes (known_run run has).lies

  referred : (at : ℕ) (placed : Placed) → value_at at state.layout ≡ Some placed → 0 < references_to old at
  referred at placed there =
      there-referred state holds.whole holds.numbers land.space.sizes drafted.sizes.served slots runs old holds.agrees
      is at placed there

  -- the book knows each node of the layout
  pub node-known : (at : ℕ) (placed : Placed) → value_at at state.layout ≡ Some placed
      → what_in (old at) ≡ Some (what_of book.nodesize (header_of placed.node).generation placed.node)
  node-known at placed there = by (fresh_at land.blocks.draft at) refl where
    by : (o : Option Node) → fresh_at land.blocks.draft at ≡ o
        → what_in (old at) ≡ Some (what_of book.nodesize (header_of placed.node).generation placed.node)
    by None none = holds.settled.clean at placed.node none (holds.nodes at placed there).told (referred at placed there)
    by (Some node) is =
        let same : node ≡ placed.node =
        same_Some node placed.node (sym (fresh-told land history at node is) ∙ (holds.nodes at placed there).told) in
        let dated : book.next ≡ (header_of placed.node).generation =
        holds.next ∙ sym (drafted.each at node is).dated ∙ ap (λ (n : Node). (header_of n).generation) same in
        holds.settled.fresh at node is
        ∙ ap (λ (n : Node). Some (what_of book.nodesize book.next n)) same
        ∙ ap (λ (generation : ℕ). Some (what_of book.nodesize generation placed.node)) dated

  -- a node of the generation to come lies where the last commit has none
  pub newer-apart : (at : ℕ) (placed : Placed) → value_at at state.layout ≡ Some placed
      → (header_of placed.node).generation ≡ next_generation state → Contains state.held.nodes at → ⊥
  newer-apart at placed there dated held =
      let known = node-known at placed there
      ∙ ap (λ (generation : ℕ). Some (what_of book.nodesize generation placed.node)) (dated ∙ sym holds.next) in
      let some = holds.settled.newer at (header_of placed.node).level known in
      let fresh = fresh_some (fresh_at land.blocks.draft at) some in
      (drafted.each at fresh.0 fresh.1).apart ((holds.held_slots at).1 held)
    where
      fresh_some : (o : Option Node) → is_some o ≡ true → (node : Node) × (o ≡ Some node)
      fresh_some None is = absurd (true≢false (sym is))
      fresh_some (Some node) is = (node, refl)

  module _ (sub : ℕ) (subvolume : Subvolume) (there : value_at sub state.subvolumes ≡ Some subvolume) where
    abbrev root : ℕ
    root = subvolume.root

    abbrev nodes : ℕ → Option Node
    nodes = node_at state.layout

    abbrev level : ℕ
    level = level_of (node_at state.layout subvolume.root)

    abbrev waiting : ℕ → Bool
    waiting = is_below state level root

    abbrev only : List (ℕ × Subvolume)
    only = (sub, subvolume) ∷ []

    abbrev rest : List (ℕ × Subvolume)
    rest = without_key sub state.subvolumes

    abbrev after_state : State
    after_state = without_subvolume state sub

    pub tree : IsTreeOf state subvolume
    tree = each-there (λ (entry : ℕ × Subvolume). IsTreeOf state entry.1) sub subvolume state.subvolumes
        holds.whole.trees there

    trees_only : AllByRecursion (λ entry. IsTreeOf state entry.1) only
    trees_only = (tree, tt)

    trees_rest : AllByRecursion (λ entry. IsTreeOf state entry.1) rest
    trees_rest = all_kept (λ (entry : ℕ × Subvolume). IsTreeOf state entry.1)
        (λ (entry : ℕ × Subvolume). not (entry.0 == sub)) state.subvolumes holds.whole.trees

    only_there : value_at sub only ≡ Some subvolume
    only_there = cond-true (sub == sub) (Some subvolume) None (eq-eqb sub sub refl)

    only_reaches : (at : ℕ) → IsMet state only at → Reaches nodes level root at
    only_reaches at met = elim (cases_Bool (sub == met.number)) [
      | inl same ↦
          let own = same_Some subvolume met.subvolume
          (sym (cond-true (sub == met.number) (Some subvolume) None same) ∙ met.there) in
          subst (λ (s : Subvolume). Reaches nodes (level_of (nodes s.root)) s.root at) (sym own) met.reaches
      | inr other ↦
          let wrong : ◌≡◌ {A = Option Subvolume} None (Some met.subvolume) =
          sym (cond-false (sub == met.number) (Some subvolume) None other) ∙ met.there in absurd cc
    ]

    -- what the subvolume reaches is open
    pub reached-open : (at : ℕ) (node : Node) → nodes at ≡ Some node → Reaches nodes level root at → waiting at ≡ true
    reached-open at node its reaches =
        reached-met nodes state.sizes.nodesize level root at at reaches
        (ap (λ (o : Option Node). is_among at (own_elements state.sizes.nodesize at o)) its
        ∙ or_left (at == at) (is_among at (map extent_of (pieces_of node))) (eq-eqb at at refl))

    -- and what is open, and a node, is reached
    pub open-reached : (at : ℕ) (placed : Placed) → value_at at state.layout ≡ Some placed → waiting at ≡ true
        → Reaches nodes level root at
    open-reached at placed there waits =
        let met = met-reached nodes state.sizes.nodesize level root at waits in
        elim (or_cases (met.0 == at) (is_among at (map extent_of (pieces_of met.1))) met.4) [
          | inl same ↦ subst (λ (q : ℕ). Reaches nodes level root q) (eqb-true met.0 at same) met.2
          | inr named ↦
              let from = placed-there state.layout met.0 (value_at met.0 state.layout) refl met.1 met.3 in
              let run = among-one at (map extent_of (pieces_of met.1)) named in
              let has = extents-named (layout_of state) (met.0, from.0) run.0
              (entry_of_value met.0 from.0 state.layout from.1)
              (subst (λ (n : Node). Contains (map extent_of (pieces_of n)) run.0) (sym from.2) run.1) in
              absurd (run-apart state holds.whole holds.numbers land.space.sizes drafted.sizes.served slots runs run.0
              has (subst (λ (q : ℕ). is_slot land.space.sizes q ≡ true) (sym run.2) (slots at placed there)))
        ]

    pub closed : IsClosed state waiting
    closed q node its waits at leads =
        let placed = placed-there state.layout q (value_at q state.layout) refl node its in
        let child = met-child state holds.whole only trees_only q node at (record {
          number = sub;
          subvolume = subvolume;
          there = only_there;
          reaches = open-reached q placed.0 placed.1 waits;
        }) its leads in
        let found = met-there state holds.whole only trees_only at child in
        let place = placed-there state.layout at (value_at at state.layout) refl found.0 found.1 in
        (key_of state.layout at place.0 place.1, reached-open at found.0 found.1 (only_reaches at child))

    -- ---- nothing is dropped yet

    rest_there : (n : ℕ) → n ≢ sub → value_at n rest ≡ value_at n state.subvolumes
    rest_there n differ = elim (eqb_tells n sub) [
      | inl (equal, same) ↦ absurd (differ same)
      | inr (unequal, other) ↦
          value-kept (λ (m : ℕ). not (m == sub)) n state.subvolumes
          ∙ cond-true (not (n == sub)) (value_at n state.subvolumes) None (ap not unequal)
    ]

    all_stay : (at : ℕ) (placed : Placed) → value_at at state.layout ≡ Some placed
        → (waiting at || is_reached (layout_of after_state) at) ≡ true
    all_stay at placed its =
        let met = met-node state holds.whole holds.numbers land.space.sizes drafted.sizes.served slots runs at placed
        its in
        elim (eqb_tells met.number sub) [
          | inl (equal, same) ↦
              let own = same_Some met.subvolume subvolume
              (sym met.there ∙ ap (λ (n : ℕ). value_at n state.subvolumes) same ∙ there) in
              or_left (waiting at) (is_reached (layout_of after_state) at)
              (reached-open at placed.node (node_of state.layout at placed its)
              (subst (λ (s : Subvolume). Reaches nodes (level_of (nodes s.root)) s.root at) own met.reaches))
          | inr (unequal, differ) ↦
              or_right (waiting at) (is_reached (layout_of after_state) at)
              (met-reached-itself state holds.whole rest trees_rest at (record {
                number = met.number;
                subvolume = met.subvolume;
                there = rest_there met.number differ ∙ met.there;
                reaches = met.reaches;
              }))
        ]

    root_reaches : (at : ℕ) → reaches (layout_of state) sub at ≡ waiting at
    unfolding reach reach_of_root
    root_reaches at =
        ap (λ (o : Option ℕ). is_among at (reach_of (layout_of state) o))
        (root-valued sub state.subvolumes
        ∙ ap (λ (o : Option Subvolume). option_map (λ (s : Subvolume). s.root) o) there)

    -- all that the subvolume meets
    pub reach-is : reach (layout_of state) sub ≡ reach_under (node_at state.layout) state.sizes.nodesize level root
    unfolding reach reach_of_root
    reach-is =
        ap (λ (o : Option ℕ). reach_of (layout_of state) o)
        (root-valued sub state.subvolumes
        ∙ ap (λ (o : Option Subvolume). option_map (λ (s : Subvolume). s.root) o) there)

    mark_same : (at : ℕ) (placed : Placed) → value_at at state.layout ≡ Some placed → waiting at ≡ false
        → is_full_after after_state placed at ≡ placed.full
    mark_same at placed its closed_now = elim (cases_Bool placed.full) [
      | inl full ↦
          or_left placed.full (not (reaches (layout_of after_state) (header_of placed.node).owner at)) full ∙ sym full
      | inr bare ↦
          let owner = (header_of placed.node).owner in
          let by = owner-reaches (layout_of state) holds.home at placed its bare in
          elim (eqb_tells owner sub) [
            | inl (equal, same) ↦
                let waits = sym (root_reaches at)
                ∙ ap (λ (n : ℕ). reaches (layout_of state) n at) (sym same) ∙ by in
                absurd (true≢false (sym waits ∙ closed_now))
            | inr (unequal, differ) ↦
                let now = same_reached state sub holds.home owner at unequal ∙ by in
                ap (λ (b : Bool). b || not (reaches (layout_of after_state) owner at)) bare
                ∙ ap not now ∙ sym bare
          ]
    ]

    abbrev with_mark : ℕ × Placed → Bool → ℕ × Placed
    with_mark entry full = (entry.0, record entry.1 { full = full })

    entry_same : (entry : ℕ × Placed) → Contains state.layout entry → placed_partly after_state waiting entry ≡ entry
    entry_same entry has =
        let its = value_of_entry state.layout entry holds.whole.ascending has in
        elim (cases_Bool (waiting entry.0)) [
          | inl waits ↦
              cond-true (waiting entry.0) entry
              (entry.0, record entry.1 { full = is_full_after after_state entry.1 entry.0 }) waits
          | inr closed_now ↦
              cond-false (waiting entry.0) entry
              (entry.0, record entry.1 { full = is_full_after after_state entry.1 entry.0 }) closed_now
              ∙ ap (λ (full : Bool). with_mark entry full)
              (mark_same entry.0 entry.1 its closed_now)
        ]

    -- the layout meanwhile is the layout
    pub partly-whole : nodes_partly state sub waiting ≡ state.layout
    partly-whole =
        each_stays (placed_partly after_state waiting)
        (λ (entry : ℕ × Placed). waiting entry.0 || is_reached (layout_of after_state) entry.0) state.layout
        (λ entry has. all_stay entry.0 entry.1 (value_of_entry state.layout entry holds.whole.ascending has))
        entry_same

    -- ---- without the reference to the root

    abbrev owes : ℕ × Subvolume → List Owing
    owes entry = root_owes (root_entry entry)

    abbrev owes_other : ℕ × Subvolume → List Owing
    owes_other entry = if not (entry.0 == sub) then root_owes (root_entry entry) else []

    -- what is owed by the roots of all is owed by those of the others and by this one
    pub roots-owe : (at : ℕ) (reference : Reference)
        → times (flat_map root_owes (map root_entry rest)) at reference + times (way_to root sub ∷ []) at reference
        ≡ times (flat_map root_owes (map root_entry state.subvolumes)) at reference
    roots-owe at reference =
        let all = times-mapped root_entry root_owes state.subvolumes at reference in
        let kept = times-kept (λ (entry : ℕ × Subvolume). not (entry.0 == sub)) root_entry root_owes state.subvolumes
        at reference in
        let change = times-changed owes owes_other sub at reference
        (λ entry differ. elim (eqb_tells entry.0 sub) [
          | inl (equal, same) ↦ absurd (differ same)
          | inr (unequal, other) ↦ sym (cond-true (not (entry.0 == sub)) (owes entry) [] (ap not unequal))
        ]) subvolume 0 state.subvolumes (Ascends-increasing state.subvolumes holds.numbers) there in
        let none = ap (λ (owings : List Owing). times owings at reference)
        (cond-false (not (sub == sub)) (owes (sub, subvolume)) [] (ap not (eq-eqb sub sub refl))) in
        let nil = times-nil at reference in
        omega (arith, all, kept, change, none, nil)

    module _ (after : TreeRefs) (others : after ≡ record book { refs = after.refs })
        (drops : Drops (book_of book.refs) (book_of after.refs) root (KeyedBlock sub)) (own : book.tree ≡ sub) where
      abbrev new : Book
      new = book_of after.refs

      takes : Takes old new (way_to root sub ∷ [])
      takes = Takes-one old new (way_to root sub) drops

      mark_still : (at : ℕ) → 0 < references_to new at → full_in (new at) ≡ full_in (old at)
      mark_still at some =
          let kept = kept_some (new at) some in
          ap full_in kept.1 ∙ sym (takes.full at kept.0 kept.1)

      known_still : (at : ℕ) → 0 < references_to new at → what_in (new at) ≡ what_in (old at)
      known_still at some =
          let kept = kept_some (new at) some in
          ap what_in kept.1 ∙ sym (takes.known at kept.0 kept.1)

      part_there : (at : ℕ) (placed : Placed) → value_at at state.layout ≡ Some placed
          → HoldsPart land history after at placed
      part_there at placed its =
          let node = holds.nodes at placed its in
          let size = ap (λ (b : TreeRefs). b.nodesize) others in
          record {
            slot = node.slot;
            told = node.told;
            mark = λ some. mark_still at some ∙ node.mark;
            known = λ some. known_still at some ∙ node-known at placed its
                ∙ ap (λ (n : ℕ). Some (what_of n (header_of placed.node).generation placed.node)) (sym size);
          }

      agrees_then : AgreesWithOwed (layout_partly state sub waiting) new
      agrees_then at reference =
          let was = holds.agrees at reference in
          let count = takes.counts at reference in
          let parts = owed-parts (layout_of state) at reference in
          let partly = owed-parts (layout_partly state sub waiting) at reference in
          let nodes_same = ap (λ (table : List (ℕ × Placed)). times (flat_map node_owes table) at reference)
          partly-whole in
          let roots = roots-owe at reference in
          omega (arith, was, count, parts, partly, nodes_same, roots)

      layout_same : (run : Element) → Contains (layout_extents (layout_partly state sub waiting)) run
          → Contains (layout_extents (layout_of state)) run
      unfolding layout_extents
      layout_same run has =
          subst (λ (table : List (ℕ × Placed)).
          Contains (flat_map (λ (entry : ℕ × Placed). map extent_of (pieces_of entry.1.node)) table) run) partly-whole
          has

      same_layout : (run : Element) → Contains (layout_extents (layout_of state)) run
          → Contains (layout_extents (layout_partly state sub waiting)) run
      unfolding layout_extents
      same_layout run has =
          subst (λ (table : List (ℕ × Placed)).
          Contains (flat_map (λ (entry : ℕ × Placed). map extent_of (pieces_of entry.1.node)) table) run)
          (sym partly-whole) has

      root_slot : is_slot land.space.sizes root ≡ true
      root_slot =
          let met = met-there state holds.whole only trees_only root (record {
            number = sub;
            subvolume = subvolume;
            there = only_there;
            reaches = top;
          }) in
          let placed = placed-there state.layout root (value_at root state.layout) refl met.0 met.1 in
          slots root placed.0 placed.1
        where
          top : Reaches nodes level root root
          top = reach-top nodes level root

      run_still : (run : Element) → Contains (layout_extents (layout_partly state sub waiting)) run
          → IsKnownRun state.sizes new run
      run_still run has =
          let here = layout_same run has in
          let known = known_run run here in
          let differ : run.address ≢ root = λ same.
          run-apart state holds.whole holds.numbers land.space.sizes drafted.sizes.served slots runs run here
          (subst (λ (q : ℕ). is_slot land.space.sizes q ≡ true) (sym same) root_slot) in
          record {
            lies = known.lies;
            generation = known.generation;
            known = ap what_in (drops.elsewhere run.address differ) ∙ known.known;
          }

      slot_taken : (at : ℕ) → is_slot land.space.sizes at ≡ true
          → has_slot land.space at ≡ has_key at (nodes_partly state sub waiting)
      slot_taken at slot =
          holds.settled.slots at slot
          ∙ sym (taken state holds.whole holds.numbers land.space.sizes drafted.sizes.served slots runs old holds.agrees
          is at slot)
          ∙ ap (λ (table : List (ℕ × Placed)). has_key at table) (sym partly-whole)

      fresh_taken : (at : ℕ) → is_some (fresh_at land.blocks.draft at) ≡ true → has_slot land.space at ≡ true
      fresh_taken at some = by (fresh_at land.blocks.draft at) refl some where
        by : (o : Option Node) → fresh_at land.blocks.draft at ≡ o → is_some o ≡ true → has_slot land.space at ≡ true
        by None none is = absurd (true≢false (sym is))
        by (Some node) its is = (drafted.each at node its).taken

      -- the drop begins
      pub entered : HoldsPartly land history after state sub waiting
      entered = record {
        sizes = holds.sizes;
        nodesize = ap (λ (b : TreeRefs). b.nodesize) others ∙ holds.nodesize;
        next = ap (λ (b : TreeRefs). b.next) others ∙ holds.next;
        tree = ap (λ (b : TreeRefs). b.tree) others ∙ own;
        fits = ap (λ (b : TreeRefs). b.misfit) others ∙ holds.fits;
        numbers = holds.numbers;
        whole = holds.whole;
        home = holds.home;
        closed = closed;
        nodes = λ at placed its. part_there at placed
            (subst (λ (table : List (ℕ × Placed)). value_at at table ≡ Some placed) partly-whole its);
        agrees = agrees_then;
        slots = slot_taken;
        written = holds.settled.written;
        fresh = fresh_taken;
        extents = run_still;
        runs = λ run. (
          λ has. same_layout run
              ((extents-whole state holds.whole (apart-held land history book state holds drafted.sizes.served) run).1
              ((holds.runs run).0 has)),
          λ has. (holds.runs run).1 (present run (layout_same run has)),
        );
        held_slots = holds.held_slots;
        held_runs = holds.held_runs;
      }
