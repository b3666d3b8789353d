-- What nodes, a disk and a book hold after one node's step of a drop.
use Rattle.std.proofs.Common.{◌≡◌, ◌≢◌, ℕ, ◌<◌, Bool, true, false, List, map, Option, Some, None, arith, refl, sym, ap}
use Rattle.std.proofs.Common.{subst, ◌∙◌, ◌⊎◌, inl, inr}
use Rattle.std.specs.Prelude.{◌&&◌, ◌||◌, ◌==◌, ◌↔◌, not, is_some, IsSome, IsTrue, if◌then◌else◌}
use Rattle.std.specs.List.{Contains}
use Rattle.std.specs.Option.{option_and_then, option_map}
use Rattle.std.proofs.lemmas.Bool.{and_parts, cases_Bool, cond-false, cond-true, eq-eqb, eqb-false, eqb-true, ne_eqb}
use Rattle.std.proofs.lemmas.Bool.{or_cases, or_left, or_right, true≢false}
use Rattle.std.proofs.lemmas.Bool.Decides.{eqb_tells}
use Rattle.std.proofs.lemmas.Option.{same_Some}
use Rattle.qg_device.specs.History.{History}
use Rattle.qg_node.specs.declared.node.Node.{Node}
use Rattle.qg_node.specs.Nodes.{header_of, own_pointers}
use Rattle.qg_super.specs.declared.sizes.Sizes.{Sizes}
use Rattle.qg_super.specs.Places.{is_slot}
use Rattle.qg_image.specs.Table.{has_key, value_at, without_key}
use Rattle.qg_image.specs.declared.element.Element.{Element}
use Rattle.qg_image.specs.Owed.{Owing, layout_extents, owed_by_node}
use Rattle.qg_image.specs.Reach.{is_reached}
use Rattle.qg_image.specs.State.{Placed, State, layout_of}
use Rattle.qg_machine.specs.Layout.{is_full_after}
use Rattle.qg_machine.specs.Step.{without_subvolume}
use Rattle.qg_cow_refs.specs.declared.cases.Leaving.{Leaving}
use Rattle.qg_cow_refs.specs.declared.cases.Leaving.TheVariants.{Goes, TurnsFull, Stays}
use Rattle.qg_cow_refs.specs.Children.{owner_of}
use Rattle.qg_cow_refs.specs.Left.{case_of, leaving_gains, leaving_losses}
use Rattle.qg_blocks.specs.NodesFound.{fresh_at, told}
use Rattle.qg_space.specs.Holding.{Holding, has_slot, without_runs, without_slot}
use Rattle.qg_space.proofs.Members.{Contains-has_slot, Contains-without_runs, Contains-without_slot}
use Rattle.qg_node_alloc.specs.declared.ground.Ground.{Ground}
use Rattle.qg_backref_rule.proofs.Filters.{contains_kept, kept_contains}
use Rattle.qg_refs.specs.declared.kept.Kept.{Kept}
use Rattle.qg_refs.specs.declared.kept.What.{What}
use Rattle.qg_refs.specs.Book.{AgreesWithOwed, Book, IsBook, full_in, what_in}
use Rattle.qg_extents.specs.Table.{book_of}
use Rattle.qg_tree_backrefs.specs.declared.tree_refs.TreeRefs.{TreeRefs}
use Rattle.qg_tree_backrefs.specs.Exchange.{Exchanges, turns_full}
use Rattle.qg_tree_backrefs.specs.Following.{full_by_leaving, references_to}
use Rattle.qg_tree_backrefs.specs.Settled.{what_of}
use Rattle.qg_shared_trees.specs.ForestStanding.{IsKnownRun}
use Rattle.qg_shared_trees.proofs.Meeting.{IsMet, met-child}
use Rattle.qg_shared_trees.proofs.Referring.{OwesChild, OwesRun, children_of, element_owes, extents-named, filtered_one}
use Rattle.qg_shared_trees.proofs.Referring.{named-extents, named_by, owed-referred, referred-owed, run-counted}
use Rattle.qg_subvolumes.specs.Dropping.{HoldsPart, HoldsPartly, IsClosed, IsUnder, extent_of_what, extents_known}
use Rattle.qg_subvolumes.specs.Dropping.{layout_partly, nodes_partly, without_references}
use Rattle.qg_subvolumes.proofs.Partly.{bytes_in, entry-kept, keeps, kept-entry, kept-value, known-referred, met-stays}
use Rattle.qg_subvolumes.proofs.Partly.{met-value, node-apart, now, now-node, now-waiting, reached-node, root-stays}
use Rattle.qg_subvolumes.proofs.Partly.{trees}
use Rattle.qg_subvolumes.proofs.Partly.{value-partly}
use Rattle.qg_subvolumes.proofs.Parted.{agrees-then, but, but_here, but_past, full-before, full-then, kept-then}
use Rattle.qg_subvolumes.proofs.Parted.{known-before}
use Rattle.qg_subvolumes.proofs.Parted.{reached-some, some-reached}

-- a node has gone from memory with its slot, and runs are given back
pub record LandGoes (land new : Ground) (history : History) (at : ℕ) (gone : List Element) : Type 0 where
  pub others : (q : ℕ) → q ≢ at → told new.blocks.draft history q ≡ told land.blocks.draft history q
  pub fresh : (q : ℕ) → q ≢ at → fresh_at new.blocks.draft q ≡ fresh_at land.blocks.draft q
  pub none : fresh_at new.blocks.draft at ≡ None
  pub space : new.space
      ≡ record land.space { runs = without_runs gone land.space.runs; slots = without_slot at land.space.slots }

but_parts : (waiting : ℕ → Bool) (at q : ℕ) → but waiting at q ≡ true → (waiting q ≡ true) × (q ≢ at)
but_parts waiting at q is =
    let parts = and_parts (waiting q) (not (q == at)) is in
    (parts.0, λ same. true≢false (sym parts.1 ∙ ap not (eq-eqb q at same)))

same_bools : (a b : Bool) → (a ≡ true → b ≡ true) → (b ≡ true → a ≡ true) → a ≡ b
same_bools true true into back = refl
same_bools false false into back = refl
same_bools true false into back = sym (into refl)
same_bools false true into back = back refl

-- an extent that a node names which stays while some are open
pub record IsNamed (state : State) (sub : ℕ) (waiting : ℕ → Bool) (run : Element) : Type 0 where
  pub from : ℕ
  pub placed : Placed
  pub there : value_at from state.layout ≡ Some placed
  pub stays : keeps state sub waiting from ≡ true
  pub names : Contains (named_by placed.node) run

module _ (land : Ground) (history : History) (book : TreeRefs) (state : State) (sub : ℕ)
    (waiting : ℕ → Bool) (holds : HoldsPartly land history book state sub waiting) where
  pub named-from : (w : ℕ → Bool) (run : Element) → Contains (layout_extents (layout_partly state sub w)) run
      → IsNamed state sub w run
  named-from w run has =
      let one = named-extents (layout_partly state sub w) run has in
      let kept = entry-kept state sub w holds.whole.ascending one.0 one.1 in
      record {
        from = one.0.0;
        placed = kept.placed;
        there = kept.there;
        stays = kept.stays;
        names = subst (λ (n : Node). Contains (named_by n) run) kept.same one.2;
      }

  pub named-run : (w : ℕ → Bool) (run : Element) → IsNamed state sub w run
      → OwesRun (layout_partly state sub w) run.address
  named-run w run named = record {
    entry = (named.from, now state sub w (named.from, named.placed));
    has = kept-entry state sub w named.from named.placed named.there named.stays;
    run = run;
    names = subst (λ (n : Node). Contains (named_by n) run) (sym (now-node state sub w (named.from, named.placed)))
        named.names;
    here = refl;
  }

  pub named-has : (w : ℕ → Bool) (run : Element) → IsNamed state sub w run
      → Contains (layout_extents (layout_partly state sub w)) run
  unfolding named-run
  named-has w run named =
      let owes = named-run w run named in
      extents-named (layout_partly state sub w) owes.entry run owes.has owes.names

module _ (land : Ground) (history : History) (book : TreeRefs) (state : State) (sub : ℕ)
    (waiting : ℕ → Bool) (holds : HoldsPartly land history book state sub waiting) (is : IsBook (book_of book.refs))
    (at : ℕ) (placed : Placed) (there : value_at at state.layout ≡ Some placed) (waits : waiting at ≡ true)
    (under : IsUnder state waiting at) (after : TreeRefs) (firm : IsBook (book_of after.refs))
    (done : Exchanges (book_of book.refs) (book_of after.refs) (record {
      full = full_by_leaving (case_of (references_to (book_of book.refs) at) placed sub) at;
      gains = leaving_gains (case_of (references_to (book_of book.refs) at) placed sub) placed;
      losses = leaving_losses (case_of (references_to (book_of book.refs) at) placed sub) placed;
    }) None) (nodesize_is : after.nodesize ≡ book.nodesize) (next_is : after.next ≡ book.next)
    (tree_is : after.tree ≡ book.tree) (fits_is : after.misfit ≡ None) where
  abbrev old : Book
  old = book_of book.refs

  abbrev new : Book
  new = book_of after.refs

  abbrev fewer : ℕ → Bool
  fewer = but waiting at

  abbrev reached_at : ℕ → Bool
  reached_at q = is_reached (layout_of (without_subvolume state sub)) q

  agrees : AgreesWithOwed (layout_partly state sub fewer) new
  agrees = agrees-then land history book state sub waiting holds is at placed there waits under new done

  before_known : (q : ℕ) (kept : Kept) → new q ≡ Some kept → what_in (old q) ≡ Some kept.what
  before_known = known-before land history book state sub waiting holds is at placed there waits under new done

  -- ---- what stays

  fewer-kept : (q : ℕ) → keeps state sub fewer q ≡ true → keeps state sub waiting q ≡ true
  fewer-kept q stays = elim (or_cases (fewer q) (reached_at q) stays) [
    | inl opens ↦ or_left (waiting q) (reached_at q) (but_parts waiting at q opens).0
    | inr reached ↦ or_right (waiting q) (reached_at q) reached
  ]

  kept-fewer : (q : ℕ) → q ≢ at → keeps state sub waiting q ≡ true → keeps state sub fewer q ≡ true
  kept-fewer q differ stays = ap (λ (b : Bool). b || reached_at q) (but_past waiting at q differ) ∙ stays

  kept-here : reached_at at ≡ true → keeps state sub fewer at ≡ true
  kept-here reached = or_right (fewer at) (reached_at at) reached

  named-more : (run : Element) → IsNamed state sub fewer run → IsNamed state sub waiting run
  named-more run named = record {
    from = named.from;
    placed = named.placed;
    there = named.there;
    stays = fewer-kept named.from named.stays;
    names = named.names;
  }

  known_named : (run : Element) → IsNamed state sub waiting run → IsKnownRun state.sizes old run
  known_named run named = holds.extents run (named-has land history book state sub waiting holds waiting run named)

  -- what is still named has a reference, and is known as before
  named-referred : (run : Element) → IsNamed state sub fewer run → 0 < references_to new run.address
  named-referred run named =
      let counted = run-counted (layout_partly state sub fewer) run.address
      (named-run land history book state sub waiting holds fewer run named) in
      owed-referred (layout_partly state sub fewer) new agrees run.address counted.0 counted.1

  pub extents-then : (run : Element) → Contains (layout_extents (layout_partly state sub fewer)) run
      → IsKnownRun state.sizes new run
  extents-then run has =
      let named = named-from land history book state sub waiting holds fewer run has in
      let known = known_named run (named-more run named) in
      let kept = kept-then land history book state sub waiting holds is at placed there waits under new done run.address
      (named-referred run named) in
      record {
        lies = known.lies;
        generation = known.generation;
        known = ap what_in kept.1 ∙ sym (before_known run.address kept.0 kept.1) ∙ known.known;
      }

  -- ---- nodes

  full_past : (q : ℕ) → q ≢ at → (full : Option ℕ) → ((a : ℕ) → full ≡ Some a → a ≡ at) → turns_full full q ≡ false
  full_past q differ None only = refl
  full_past q differ (Some a) only =
      let here = only a refl in
      elim (eqb_tells q a) [
        | inl (equal, same) ↦ absurd (differ (same ∙ here))
        | inr (unequal, other) ↦ unequal
      ]

  pub closed-then : IsClosed state fewer
  closed-then q node here opens child leads =
      let parts = but_parts waiting at q opens in
      let was = holds.closed q node here parts.0 child leads in
      let differ : child ≢ at = λ same.
      under q node here parts.0
      (subst (λ (a : ℕ). Contains (map (λ pointer. pointer.child) (own_pointers node)) a) same leads) in
      (was.0, but_past waiting at child differ ∙ was.1)

  -- ---- the layout at an address

  -- what is there, by whether it is open
  shown : Bool → ℕ → Placed → ℕ × Placed
  shown some_open q p =
      if some_open then (q, p) else (q, record p { full = is_full_after (without_subvolume state sub) p q })

  value_by : Bool → ℕ → Option Placed
  value_by some_open q =
      option_map (λ (p : Placed). (shown some_open q p).1)
      (if some_open || reached_at q then value_at q state.layout else None)

  value_is : (w : ℕ → Bool) (q : ℕ) → value_at q (nodes_partly state sub w) ≡ value_by (w q) q
  unfolding shown value_by
  value_is w q = value-partly state sub w q

  value-past : (q : ℕ) → q ≢ at → value_at q (nodes_partly state sub fewer)
      ≡ value_at q (nodes_partly state sub waiting)
  value-past q differ =
      value_is fewer q ∙ ap (λ (b : Bool). value_by b q) (but_past waiting at q differ) ∙ sym (value_is waiting q)

  full_there : Placed
  full_there = record placed { full = is_full_after (without_subvolume state sub) placed at }

  value-here : reached_at at ≡ true → value_at at (nodes_partly state sub fewer)
      ≡ Some (record placed { full = is_full_after (without_subvolume state sub) placed at })
  unfolding shown value_by
  value-here reached =
      value_is fewer at
      ∙ ap (λ (b : Bool). value_by b at) (but_here waiting at)
      ∙ ap (λ (o : Option Placed). option_map (λ (p : Placed). (shown false at p).1) o)
      (cond-true (reached_at at) (value_at at state.layout) None reached ∙ there)

  value-gone : reached_at at ≡ false → value_at at (nodes_partly state sub fewer) ≡ None
  unfolding shown value_by
  value-gone unreached =
      value_is fewer at
      ∙ ap (λ (b : Bool). value_by b at) (but_here waiting at)
      ∙ ap (λ (o : Option Placed). option_map (λ (p : Placed). (shown false at p).1) o)
      (cond-false (reached_at at) (value_at at state.layout) None unreached)

  stays_now : keeps state sub waiting at ≡ true
  stays_now = or_left (waiting at) (reached_at at) waits

  value-was : value_at at (nodes_partly state sub waiting) ≡ Some (now state sub waiting (at, placed))
  value-was = kept-value state sub waiting at placed there stays_now

  -- ---- nodes that stay elsewhere

  only_at : (leaving : Leaving) (a : ℕ) → full_by_leaving leaving at ≡ Some a → a ≡ at
  only_at Goes a same = let wrong : ◌≡◌ {A = Option ℕ} None (Some a) = same in absurd cc
  only_at TurnsFull a same = sym (same_Some at a same)
  only_at Stays a same = let wrong : ◌≡◌ {A = Option ℕ} None (Some a) = same in absurd cc

  or_false : (b : Bool) → (b || false) ≡ b
  or_false true = refl
  or_false false = refl

  abbrev which : Leaving
  which = case_of (references_to old at) placed sub

  mark_past : (q : ℕ) → q ≢ at → (kept : Kept) → new q ≡ Some kept → full_in (new q) ≡ full_in (old q)
  mark_past q differ kept here =
      ap full_in here
      ∙ full-before land history book state sub waiting holds is at placed there waits under new done q kept here
      ∙ ap (λ (b : Bool). full_in (old q) || b) (full_past q differ (full_by_leaving which at) (only_at which))
      ∙ or_false (full_in (old q))

  some_before : (q : ℕ) (kept : Kept) → new q ≡ Some kept → 0 < references_to old q
  some_before q kept here = known-referred old is q kept.what (before_known q kept here)

  same_bytes : (q : ℕ) (node : Node)
      → what_in (old q) ≡ Some (what_of book.nodesize (header_of node).generation node)
      → (kept : Kept) → new q ≡ Some kept
      → what_in (new q) ≡ Some (what_of after.nodesize (header_of node).generation node)
  same_bytes q node known kept here =
      ap what_in here ∙ sym (before_known q kept here) ∙ known
      ∙ ap (λ (bytes : ℕ). Some (what_of bytes (header_of node).generation node)) (sym nodesize_is)

  module _ (ground : Ground) (sizes : ground.space.sizes ≡ land.space.sizes)
      (others : (q : ℕ) → q ≢ at → told ground.blocks.draft history q ≡ told land.blocks.draft history q) where
    part-past : (q : ℕ) → q ≢ at → (p : Placed) → value_at q (nodes_partly state sub fewer) ≡ Some p
        → HoldsPart ground history after q p
    part-past q differ p has =
        let was = holds.nodes q p (sym (value-past q differ) ∙ has) in
        record {
          slot = subst (λ (s : Sizes). IsTrue (is_slot s q)) (sym sizes) was.slot;
          told = others q differ ∙ was.told;
          mark = λ some.
              let kept = kept-then land history book state sub waiting holds is at placed there waits under new done q
              some in
              mark_past q differ kept.0 kept.1 ∙ was.mark (some_before q kept.0 kept.1);
          known = λ some.
              let kept = kept-then land history book state sub waiting holds is at placed there waits under new done q
              some in
              same_bytes q p.node (was.known (some_before q kept.0 kept.1)) kept.0 kept.1;
        }

  -- ---- the node itself, where it stays

  turned_here : (none own full : Bool) → none ≡ false
      → (full || turns_full (full_by_leaving
      (if none then Goes else (if own && not full then TurnsFull else Stays)) at) at) ≡ (full || own)
  turned_here true own full is = absurd (true≢false is)
  turned_here false true false is = eq-eqb at at refl
  turned_here false true true is = refl
  turned_here false false full is = refl

  some_not_none : (n : ℕ) → 0 < n → (n == 0) ≡ false
  some_not_none n some = ne_eqb n 0 (λ same. omega (arith, some, same))

  part_here : reached_at at ≡ true → HoldsPart land history after at full_there
  unfolding full_there
  part_here reached =
      let some = reached-some land history book state sub waiting holds is at placed there waits under reached in
      let was = holds.nodes at (now state sub waiting (at, placed)) value-was in
      let same = now-waiting state sub waiting (at, placed) waits in
      let marked : full_in (old at) ≡ placed.full = was.mark some ∙ ap (λ (p : Placed). p.full) same in
      record {
        slot = was.slot;
        told = was.told ∙ ap (λ (p : Placed). Some p.node) same;
        mark = λ left.
            let kept = kept-then land history book state sub waiting holds is at placed there waits under new done at
            left in
            ap full_in kept.1
            ∙ full-before land history book state sub waiting holds is at placed there waits under new done at kept.0
            kept.1
            ∙ ap (λ (b : Bool). b || turns_full (full_by_leaving which at) at) marked
            ∙ turned_here (references_to old at == 0) (owner_of placed == sub) placed.full
            (some_not_none (references_to old at) some)
            ∙ sym (full-then state sub holds.home at placed there);
        known = λ left.
            let kept = kept-then land history book state sub waiting holds is at placed there waits under new done at
            left in
            same_bytes at placed.node (was.known some
            ∙ ap (λ (p : Placed). Some (what_of book.nodesize (header_of p.node).generation p.node)) same) kept.0
            kept.1;
      }

  -- ---- where the node stays

  nodes_stay : reached_at at ≡ true → (q : ℕ) (p : Placed) → value_at q (nodes_partly state sub fewer) ≡ Some p
      → HoldsPart land history after q p
  unfolding full_there
  nodes_stay reached q p has = elim (eqb_tells q at) [
    | inl (equal, same) ↦
        let value = same_Some (record placed { full = is_full_after (without_subvolume state sub) placed at }) p
        (sym (value-here reached) ∙ ap (λ (a : ℕ). value_at a (nodes_partly state sub fewer)) (sym same) ∙ has) in
        subst (λ (a : ℕ). HoldsPart land history after a p) (sym same)
        (subst (λ (v : Placed). HoldsPart land history after at v) value (part_here reached))
    | inr (unequal, differ) ↦ part-past land refl (λ a other. refl) q differ p has
  ]

  key_stays : reached_at at ≡ true → (q : ℕ) → has_key q (nodes_partly state sub waiting)
      ≡ has_key q (nodes_partly state sub fewer)
  key_stays reached q = elim (eqb_tells q at) [
    | inl (equal, same) ↦
        let is_there = ap (λ (o : Option Placed). is_some o) value-was in
        let is_still = ap (λ (o : Option Placed). is_some o) (value-here reached) in
        ap (λ (a : ℕ). has_key a (nodes_partly state sub waiting)) same ∙ is_there ∙ sym is_still
        ∙ ap (λ (a : ℕ). has_key a (nodes_partly state sub fewer)) (sym same)
    | inr (unequal, differ) ↦ ap (λ (o : Option Placed). is_some o) (sym (value-past q differ))
  ]

  named-stays : reached_at at ≡ true → (run : Element) → IsNamed state sub waiting run → IsNamed state sub fewer run
  named-stays reached run named = record {
    from = named.from;
    placed = named.placed;
    there = named.there;
    stays = elim (eqb_tells named.from at) [
      | inl (equal, same) ↦ subst (λ (a : ℕ). keeps state sub fewer a ≡ true) (sym same) (kept-here reached)
      | inr (unequal, differ) ↦ kept-fewer named.from differ named.stays
    ];
    names = named.names;
  }

  runs_stay : reached_at at ≡ true → (run : Element) → Contains land.space.runs run
      ↔ Contains (layout_extents (layout_partly state sub fewer)) run
  runs_stay reached run = (
    λ has. named-has land history book state sub waiting holds fewer run
        (named-stays reached run
        (named-from land history book state sub waiting holds waiting run ((holds.runs run).0 has))),
    λ has. (holds.runs run).1
        (named-has land history book state sub waiting holds waiting run
        (named-more run (named-from land history book state sub waiting holds fewer run has))),
  )

  pub holds-stays : 0 < references_to old at → HoldsPartly land history after state sub fewer
  holds-stays some =
      let reached = some-reached land history book state sub waiting holds is at placed there waits under some in
      record {
        sizes = holds.sizes;
        nodesize = nodesize_is ∙ holds.nodesize;
        next = next_is ∙ holds.next;
        tree = tree_is ∙ holds.tree;
        fits = fits_is;
        numbers = holds.numbers;
        whole = holds.whole;
        home = holds.home;
        closed = closed-then;
        nodes = nodes_stay reached;
        agrees = agrees;
        slots = λ q slot. holds.slots q slot ∙ key_stays reached q;
        written = holds.written;
        fresh = holds.fresh;
        extents = extents-then;
        runs = runs_stay reached;
        held_slots = holds.held_slots;
        held_runs = holds.held_runs;
      }

  -- ---- where the node goes

  module _ (ground : Ground) (gone : List Element) (goes : LandGoes land ground history at gone)
      (none_left : references_to old at ≡ 0)
      (gone_is : gone
      ≡ without_references new (extents_known old (owed_by_node (record { node = placed.node; full = false })))) where
    unreached : reached_at at ≡ false
    unreached = elim (cases_Bool (reached_at at)) [
      | inl reached ↦
          let some = reached-some land history book state sub waiting holds is at placed there waits under reached in
          absurd (omega (arith, some, none_left))
      | inr is_not ↦ is_not
    ]

    sizes_are : ground.space.sizes ≡ land.space.sizes
    sizes_are = ap (λ (h : Holding). h.sizes) goes.space

    nodes_go : (q : ℕ) (p : Placed) → value_at q (nodes_partly state sub fewer) ≡ Some p
        → HoldsPart ground history after q p
    nodes_go q p has = elim (eqb_tells q at) [
      | inl (equal, same) ↦
          let wrong : ◌≡◌ {A = Option Placed} None (Some p) =
          sym (value-gone unreached) ∙ ap (λ (a : ℕ). value_at a (nodes_partly state sub fewer)) (sym same) ∙ has in
          absurd cc
      | inr (unequal, differ) ↦ part-past ground sizes_are goes.others q differ p has
    ]

    -- slots

    slot_past : (q : ℕ) → q ≢ at → has_slot ground.space q ≡ has_slot land.space q
    slot_past q differ = same_bools (has_slot ground.space q) (has_slot land.space q)
        (λ has.
        (Contains-has_slot land.space q).1
        ((Contains-without_slot at land.space.slots q).0
        (subst (λ (h : Holding). Contains h.slots q) goes.space ((Contains-has_slot ground.space q).0 has))).0)
        (λ has.
        (Contains-has_slot ground.space q).1
        (subst (λ (h : Holding). Contains h.slots q) (sym goes.space)
        ((Contains-without_slot at land.space.slots q).1 ((Contains-has_slot land.space q).0 has, differ))))

    slot_here : has_slot ground.space at ≡ true → ⊥
    slot_here has =
        ((Contains-without_slot at land.space.slots at).0
        (subst (λ (h : Holding). Contains h.slots at) goes.space ((Contains-has_slot ground.space at).0 has))).1 refl

    not_true : (b : Bool) → (b ≡ true → ⊥) → b ≡ false
    not_true true never = absurd (never refl)
    not_true false never = refl

    slots_go : (q : ℕ) → IsTrue (is_slot ground.space.sizes q)
        → has_slot ground.space q ≡ has_key q (nodes_partly state sub fewer)
    slots_go q slot = elim (eqb_tells q at) [
      | inl (equal, same) ↦
          let absent = ap (λ (o : Option Placed). is_some o) (value-gone unreached) in
          ap (λ (a : ℕ). has_slot ground.space a) same
          ∙ not_true (has_slot ground.space at) slot_here
          ∙ sym absent ∙ ap (λ (a : ℕ). has_key a (nodes_partly state sub fewer)) (sym same)
      | inr (unequal, differ) ↦
          slot_past q differ
          ∙ holds.slots q (subst (λ (s : Sizes). IsTrue (is_slot s q)) sizes_are slot)
          ∙ ap (λ (o : Option Placed). is_some o) (sym (value-past q differ))
    ]

    written_go : (q : ℕ) → IsTrue (has_slot ground.space q)
        → IsSome (fresh_at ground.blocks.draft q) ⊎ Contains ground.space.held_slots q
    written_go q has = elim (eqb_tells q at) [
      | inl (equal, same) ↦ absurd (slot_here (ap (λ (a : ℕ). has_slot ground.space a) (sym same) ∙ has))
      | inr (unequal, differ) ↦ elim (holds.written q (sym (slot_past q differ) ∙ has)) [
        | inl fresh ↦ inl (ap (λ (o : Option Node). is_some o) (goes.fresh q differ) ∙ fresh)
        | inr held ↦ inr (subst (λ (h : Holding). Contains h.held_slots q) (sym goes.space) held)
      ]
    ]

    fresh_go : (q : ℕ) → IsSome (fresh_at ground.blocks.draft q) → IsTrue (has_slot ground.space q)
    fresh_go q some = elim (eqb_tells q at) [
      | inl (equal, same) ↦
          let absent = ap (λ (o : Option Node). is_some o) (ap (λ (a : ℕ). fresh_at ground.blocks.draft a) same
          ∙ goes.none) in
          absurd (true≢false (sym some ∙ absent))
      | inr (unequal, differ) ↦
          slot_past q differ
          ∙ holds.fresh q (sym (ap (λ (o : Option Node). is_some o) (goes.fresh q differ)) ∙ some)
    ]

    -- runs

    abbrev owings : List Owing
    owings = owed_by_node (record { node = placed.node; full = false })

    -- an extent that the node names is known while it has it
    known_run : (run : Element) → Contains (named_by placed.node) run → Contains (extents_known old owings) run
    known_run run names =
        let owing = element_owes (record { node = placed.node; full = false }) run names in
        let known = known_named run (record {
          from = at;
          placed = placed;
          there = there;
          stays = stays_now;
          names = names;
        }) in
        let what = ap (λ (o : Option What). option_and_then (extent_of_what run.address) o) known.known in
        filtered_one (λ (o : Owing). option_and_then (extent_of_what o.address) (what_in (old o.address))) owings
        owing.0 run owing.1
        (ap (λ (a : ℕ). option_and_then (extent_of_what a) (what_in (old a))) owing.2 ∙ what)

    -- what another has a reference to, and the node names, another node names still
    still_named : (run : Element) → Contains (named_by placed.node) run → 0 < references_to new run.address
        → IsNamed state sub fewer run
    still_named run names some = elim (referred-owed (layout_partly state sub fewer) new agrees run.address firm some) [
      | inl root ↦ absurd (not_node (root-stays land history book state sub waiting holds is run.address (record {
        entry = root.entry;
        has = root.has;
        here = root.here;
      })))
      | inr (inl child) ↦ absurd (not_child child)
      | inr (inr other) ↦
          let kept = entry-kept state sub fewer holds.whole.ascending other.entry other.has in
          let named : IsNamed state sub fewer other.run = record {
            from = other.entry.0;
            placed = kept.placed;
            there = kept.there;
            stays = kept.stays;
            names = subst (λ (n : Node). Contains (named_by n) other.run) kept.same other.names;
          } in
          let known = known_named other.run (named-more other.run named) in
          let mine = known_named run own in
          let both = sym known.known ∙ ap (λ (a : ℕ). what_in (old a)) other.here ∙ mine.known in
          let bytes : other.run.bytes ≡ run.bytes = ap bytes_in both in
          let same : ◌≡◌ {A = Element} other.run run = λ i. record { address = other.here i; bytes = bytes i } in
          subst (λ (e : Element). IsNamed state sub fewer e) same named
    ]
      where
        own : IsNamed state sub waiting run
        own = record { from = at; placed = placed; there = there; stays = stays_now; names = names }

        not_there : (p : Placed) → value_at run.address state.layout ≡ Some p
            → keeps state sub waiting run.address ≡ true → ⊥
        not_there p here stays =
            node-apart land history book state sub waiting holds is run.address p here stays
            (named-run land history book state sub waiting holds waiting run own)

        not_node : IsMet state (without_key sub state.subvolumes) run.address → ⊥
        not_node met =
            let value = met-value land history book state sub waiting holds is run.address met in
            not_there value.0 value.1 (met-stays land history book state sub waiting holds is run.address met)

        value_of_key : (o : Option Placed) → value_at run.address state.layout ≡ o → is_some o ≡ true
            → (p : Placed) × (value_at run.address state.layout ≡ Some p)
        value_of_key None here some = absurd (true≢false (sym some))
        value_of_key (Some p) here some = (p, here)

        not_child : OwesChild (layout_partly state sub fewer) run.address → ⊥
        not_child child =
            let kept = entry-kept state sub fewer holds.whole.ascending child.entry child.has in
            let leads = subst (λ (n : Node). Contains (children_of n) run.address) kept.same child.leads in
            let node = ap (λ (o : Option Placed). option_map (λ (p : Placed). p.node) o) kept.there in
            elim (or_cases (fewer child.entry.0) (reached_at child.entry.0) kept.stays) [
              | inl opens ↦
                  let on = holds.closed child.entry.0 kept.placed.node node (but_parts waiting at child.entry.0 opens).0
                  run.address leads in
                  let value = value_of_key (value_at run.address state.layout) refl on.0 in
                  not_there value.0 value.1 (or_left (waiting run.address) (reached_at run.address) on.1)
              | inr reached ↦
                  let met = reached-node land history book state sub waiting holds is child.entry.0 kept.placed
                  kept.there reached in
                  not_node (met-child state holds.whole (without_key sub state.subvolumes)
                  (trees land history book state sub waiting holds is) child.entry.0 kept.placed.node run.address met
                  node leads)
            ]

    none_referred : (run : Element) → Contains gone run → 0 < references_to new run.address → ⊥
    none_referred run has some =
        let list = subst (λ (es : List Element). Contains es run) gone_is has in
        let kept = kept_contains (λ (e : Element). references_to new e.address == 0) (extents_known old owings) run
        list in
        let zero = eqb-true (references_to new run.address) 0 kept.1 in
        omega (arith, some, zero)

    run_left : (run : Element) → IsNamed state sub waiting run → (Contains gone run → ⊥) → IsNamed state sub fewer run
    run_left run named stays = elim (eqb_tells named.from at) [
      | inl (equal, same) ↦
          let value = same_Some named.placed placed
          (sym named.there ∙ ap (λ (a : ℕ). value_at a state.layout) same ∙ there) in
          let names = subst (λ (p : Placed). Contains (named_by p.node) run) value named.names in
          elim (cases_Bool (references_to new run.address == 0)) [
            | inl zero ↦ absurd (stays (subst (λ (es : List Element). Contains es run) (sym gone_is)
                (contains_kept (λ (e : Element). references_to new e.address == 0) (extents_known old owings) run
                (known_run run names) zero)))
            | inr some ↦ still_named run names (more (references_to new run.address) (eqb-false (references_to new
                run.address) 0 some))
          ]
      | inr (unequal, differ) ↦ record {
        from = named.from;
        placed = named.placed;
        there = named.there;
        stays = kept-fewer named.from differ named.stays;
        names = named.names;
      }
    ]
      where
        more : (n : ℕ) → n ≢ 0 → 0 < n
        more n differ = omega (arith, differ)

    runs_go : (run : Element) → Contains ground.space.runs run
        ↔ Contains (layout_extents (layout_partly state sub fewer)) run
    runs_go run = (into, back) where
      into : Contains ground.space.runs run → Contains (layout_extents (layout_partly state sub fewer)) run
      into has =
          let left = (Contains-without_runs gone land.space.runs run).0
          (subst (λ (h : Holding). Contains h.runs run) goes.space has) in
          named-has land history book state sub waiting holds fewer run
          (run_left run (named-from land history book state sub waiting holds waiting run ((holds.runs run).0 left.0))
          left.1)

      back : Contains (layout_extents (layout_partly state sub fewer)) run → Contains ground.space.runs run
      back has =
          let named = named-from land history book state sub waiting holds fewer run has in
          let was = (holds.runs run).1
          (named-has land history book state sub waiting holds waiting run (named-more run named)) in
          subst (λ (h : Holding). Contains h.runs run) (sym goes.space)
          ((Contains-without_runs gone land.space.runs run).1
          (was, λ lost. none_referred run lost (named-referred run named)))

    pub holds-goes : HoldsPartly ground history after state sub fewer
    holds-goes = record {
      sizes = holds.sizes ∙ sym sizes_are;
      nodesize = nodesize_is ∙ holds.nodesize;
      next = next_is ∙ holds.next;
      tree = tree_is ∙ holds.tree;
      fits = fits_is;
      numbers = holds.numbers;
      whole = holds.whole;
      home = holds.home;
      closed = closed-then;
      nodes = nodes_go;
      agrees = agrees;
      slots = slots_go;
      written = written_go;
      fresh = fresh_go;
      extents = extents-then;
      runs = runs_go;
      held_slots = λ slot. subst (λ (h : Holding). Contains h.held_slots slot ↔ Contains state.held.nodes slot)
          (sym goes.space) (holds.held_slots slot);
      held_runs = λ run. subst (λ (h : Holding). Contains h.held_runs run ↔ Contains state.held.extents run)
          (sym goes.space) (holds.held_runs run);
    }
