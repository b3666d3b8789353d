-- What is held is held again where only clean nodes were read, and whatever is said to be open where no node lies.
use Rattle.std.proofs.Common.{◌≡◌, ℕ, Bool, true, false, List, [], ◌∷◌, map, Option, Some, refl, sym, ap, subst, ◌∙◌}
use Rattle.std.proofs.Common.{inl, inr, ◌⊎◌, ◌↔◌}
use Rattle.std.specs.Prelude.{◌==◌, ◌||◌, IsSome, IsTrue, if◌then◌else◌, is_some}
use Rattle.std.specs.List.{Contains, filter}
use Rattle.std.proofs.lemmas.Bool.{cases_Bool, cond-false, cond-true, eq-eqb}
use Rattle.qg_device.specs.History.{History}
use Rattle.qg_super.specs.Places.{is_slot}
use Rattle.qg_image.specs.Table.{has_key, value_at}
use Rattle.qg_image.specs.Owed.{layout_extents}
use Rattle.qg_image.specs.Reach.{is_reached}
use Rattle.qg_image.specs.State.{Layout, Placed, State, layout_of}
use Rattle.qg_machine.specs.Layout.{is_full_after}
use Rattle.qg_machine.specs.Step.{without_subvolume}
use Rattle.qg_blocks.specs.NodesInMemory.{Draft}
use Rattle.qg_blocks.specs.NodesFound.{fresh_at, told}
use Rattle.qg_space.specs.Holding.{Holding, has_slot}
use Rattle.qg_node_alloc.specs.declared.ground.Ground.{Ground}
use Rattle.qg_refs.specs.Book.{AgreesWithOwed}
use Rattle.qg_extents.specs.Table.{book_of}
use Rattle.qg_tree_backrefs.specs.declared.tree_refs.TreeRefs.{TreeRefs}
use Rattle.qg_shared_trees.proofs.Meeting.{placed-there}
use Rattle.qg_subvolumes.specs.Dropping.{HoldsPart, HoldsPartly, IsClosed, layout_partly, nodes_partly, placed_partly}
use Rattle.qg_subvolumes.proofs.Opened.{key_of}

-- ---- the nodes meanwhile

module _ (after : State) (reached : ℕ → Bool) (waiting less : ℕ → Bool) where
  abbrev by : (ℕ → Bool) → List (ℕ × Placed) → List (ℕ × Placed)
  by opened table =
      map (placed_partly after opened) (filter (λ (entry : ℕ × Placed). opened entry.0 || reached entry.0) table)

  key_here : (entry : ℕ × Placed) (table : List (ℕ × Placed)) → has_key entry.0 (entry ∷ table) ≡ true
  key_here entry table =
      ap (λ (o : Option Placed). is_some o)
      (cond-true (entry.0 == entry.0) (Some entry.1) (value_at entry.0 table) (eq-eqb entry.0 entry.0 refl))

  key_later : (q : ℕ) (entry : ℕ × Placed) (table : List (ℕ × Placed)) → has_key q table ≡ true
      → has_key q (entry ∷ table) ≡ true
  key_later q entry table key = elim (cases_Bool (entry.0 == q)) [
    | inl here ↦
        ap (λ (o : Option Placed). is_some o) (cond-true (entry.0 == q) (Some entry.1) (value_at q table) here)
    | inr other ↦
        ap (λ (o : Option Placed). is_some o) (cond-false (entry.0 == q) (Some entry.1) (value_at q table) other) ∙ key
  ]

  stays_by : (opened : ℕ → Bool) (entry : ℕ × Placed) (table : List (ℕ × Placed))
      → (opened entry.0 || reached entry.0) ≡ true
      → by opened (entry ∷ table) ≡ placed_partly after opened entry ∷ by opened table
  stays_by opened entry table stays =
      let rest = filter (λ (entry : ℕ × Placed). opened entry.0 || reached entry.0) table in
      ap (λ (xs : List (ℕ × Placed)). map (placed_partly after opened) xs)
      (cond-true (opened entry.0 || reached entry.0) (entry ∷ rest) rest stays)

  goes_by : (opened : ℕ → Bool) (entry : ℕ × Placed) (table : List (ℕ × Placed))
      → (opened entry.0 || reached entry.0) ≡ false → by opened (entry ∷ table) ≡ by opened table
  goes_by opened entry table goes =
      let rest = filter (λ (entry : ℕ × Placed). opened entry.0 || reached entry.0) table in
      ap (λ (xs : List (ℕ × Placed)). map (placed_partly after opened) xs)
      (cond-false (opened entry.0 || reached entry.0) (entry ∷ rest) rest goes)

  place_by : (entry : ℕ × Placed) → less entry.0 ≡ waiting entry.0
      → placed_partly after less entry ≡ placed_partly after waiting entry
  place_by entry here =
      ap (λ (b : Bool). if b then entry else (entry.0, record entry.1 { full = is_full_after after entry.1 entry.0 }))
      here

  pub partly-same : (table : List (ℕ × Placed)) → ((q : ℕ) → has_key q table ≡ true → less q ≡ waiting q)
      → by less table ≡ by waiting table
  partly-same [] same = refl
  partly-same (entry ∷ table) same =
      let here = same entry.0 (key_here entry table) in
      let rest = partly-same table (λ q key. same q (key_later q entry table key)) in
      let test : (less entry.0 || reached entry.0) ≡ (waiting entry.0 || reached entry.0)
      = ap (λ (b : Bool). b || reached entry.0) here in
      elim (cases_Bool (waiting entry.0 || reached entry.0)) [
        | inl stays ↦
            stays_by less entry table (test ∙ stays)
            ∙ ap (λ (e : ℕ × Placed). e ∷ by less table) (place_by entry here)
            ∙ ap (λ (xs : List (ℕ × Placed)). placed_partly after waiting entry ∷ xs) rest
            ∙ sym (stays_by waiting entry table stays)
        | inr goes ↦ goes_by less entry table (test ∙ goes) ∙ rest ∙ sym (goes_by waiting entry table goes)
      ]

module _ (state : State) (sub : ℕ) (waiting less : ℕ → Bool)
    (same : (q : ℕ) → has_key q state.layout ≡ true → less q ≡ waiting q) where
  pub nodes-same : nodes_partly state sub less ≡ nodes_partly state sub waiting
  nodes-same =
      partly-same (without_subvolume state sub) (λ q. is_reached (layout_of (without_subvolume state sub)) q) waiting
      less state.layout same

  closed_same : IsClosed state waiting → IsClosed state less
  closed_same closed q node there is at leads =
      let placed = placed-there state.layout q (value_at q state.layout) refl node there in
      let was = sym (same q (key_of state.layout q placed.0 placed.1)) ∙ is in
      let both = closed q node there was at leads in
      (both.0, same at both.0 ∙ both.1)

  module _ (land new : Ground) (history : History) (book : TreeRefs) (space : new.space ≡ land.space)
      (draft : new.blocks.draft ≡ land.blocks.draft) (holds : HoldsPartly land history book state sub waiting) where
    part_again : (at : ℕ) (placed : Placed) → HoldsPart land history book at placed
        → HoldsPart new history book at placed
    part_again at placed part = record {
      slot = subst (λ (s : Holding). IsTrue (is_slot s.sizes at)) (sym space) part.slot;
      told = ap (λ (d : Draft). told d history at) draft ∙ part.told;
      mark = part.mark;
      known = part.known;
    }

    slots_again : (at : ℕ) → IsTrue (is_slot new.space.sizes at)
        → has_slot new.space at ≡ has_key at (nodes_partly state sub less)
    slots_again at slot =
        ap (λ (s : Holding). has_slot s at) space
        ∙ holds.slots at (subst (λ (s : Holding). IsTrue (is_slot s.sizes at)) space slot)
        ∙ ap (λ (table : List (ℕ × Placed)). has_key at table) (sym nodes-same)

    written_again : (at : ℕ) → IsTrue (has_slot new.space at)
        → IsSome (fresh_at new.blocks.draft at) ⊎ Contains new.space.held_slots at
    written_again at =
        subst (λ (d : Draft). IsTrue (has_slot new.space at)
        → IsSome (fresh_at d at) ⊎ Contains new.space.held_slots at) (sym draft)
        (subst (λ (s : Holding). IsTrue (has_slot s at)
        → IsSome (fresh_at land.blocks.draft at) ⊎ Contains s.held_slots at) (sym space) (holds.written at))

    fresh_again : (at : ℕ) → IsSome (fresh_at new.blocks.draft at) → IsTrue (has_slot new.space at)
    fresh_again at =
        subst (λ (d : Draft). IsSome (fresh_at d at) → IsTrue (has_slot new.space at)) (sym draft)
        (subst (λ (s : Holding). IsSome (fresh_at land.blocks.draft at) → IsTrue (has_slot s at)) (sym space)
        (holds.fresh at))

    abbrev with_nodes : List (ℕ × Placed) → Layout
    with_nodes table = record (layout_of (without_subvolume state sub)) { nodes = table }

    pub holds-again : HoldsPartly new history book state sub less
    holds-again = record {
      sizes = holds.sizes ∙ ap (λ (s : Holding). s.sizes) (sym space);
      nodesize = holds.nodesize;
      next = holds.next;
      tree = holds.tree;
      fits = holds.fits;
      numbers = holds.numbers;
      whole = holds.whole;
      home = holds.home;
      closed = closed_same holds.closed;
      nodes = λ at placed there. part_again at placed (holds.nodes at placed
          (ap (λ (table : List (ℕ × Placed)). value_at at table) (sym nodes-same) ∙ there));
      agrees = subst (λ (table : List (ℕ × Placed)). AgreesWithOwed (with_nodes table) (book_of book.refs))
          (sym nodes-same) holds.agrees;
      slots = slots_again;
      written = written_again;
      fresh = fresh_again;
      extents = λ run has. holds.extents run
          (subst (λ (table : List (ℕ × Placed)). Contains (layout_extents (with_nodes table)) run) nodes-same has);
      runs = λ run.
          subst (λ (s : Holding). Contains s.runs run ↔ Contains (layout_extents (layout_partly state sub less)) run)
          (sym space)
          (subst (λ (table : List (ℕ × Placed)). Contains land.space.runs run
          ↔ Contains (layout_extents (with_nodes table)) run) (sym nodes-same) (holds.runs run));
      held_slots = λ slot.
          subst (λ (s : Holding). Contains s.held_slots slot ↔ Contains state.held.nodes slot) (sym space)
          (holds.held_slots slot);
      held_runs = λ run.
          subst (λ (s : Holding). Contains s.held_runs run ↔ Contains state.held.extents run) (sym space)
          (holds.held_runs run);
    }
