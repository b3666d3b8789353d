-- What a node that is parted with owes is there, and its children may get shared references in place of keyed ones.
use Rattle.std.proofs.Common.{◌≡◌, ◌≢◌, ℕ, ◌+◌, ◌<◌, ◌≤◌, Bool, true, false, List, get_or, map, Option, Some, None}
use Rattle.std.proofs.Common.{arith, refl, sym, ap, subst, ◌∙◌, inl, inr}
use Rattle.std.specs.Prelude.{◌&&◌, ◌==◌, not, is_some, nat_lt, IsTrue, if◌then◌else◌}
use Rattle.std.specs.List.{All, Contains, filter, flat_map}
use Rattle.std.specs.Option.{option_and_then, option_map}
use Rattle.std.proofs.lemmas.Bool.{cases_Bool, ltb-false, ltb-true, or_left, true≢false}
use Rattle.std.proofs.lemmas.Bool.Decides.{eqb_tells}
use Rattle.std.proofs.lemmas.List.Elements.{All-nil, Contains-append_cases, Contains-get_or}
use Rattle.std.proofs.lemmas.Option.{same_Some}
use Rattle.qg_device.specs.History.{History}
use Rattle.qg_items.specs.declared.extent.Reference.{Reference}
use Rattle.qg_items.specs.declared.extent.Reference.TheVariants.{KeyedBlock, SharedBlock, KeyedData, SharedData}
use Rattle.qg_node.specs.declared.node.Node.{Node}
use Rattle.qg_node.specs.Nodes.{header_of}
use Rattle.qg_super.specs.declared.sizes.Sizes.{Sizes}
use Rattle.qg_super.specs.Places.{is_run}
use Rattle.qg_image.specs.Table.{value_at}
use Rattle.qg_image.specs.declared.element.Element.{Element}
use Rattle.qg_image.specs.Owed.{Owing, owed, owed_by_node, owed_count}
use Rattle.qg_image.specs.Reach.{is_reached}
use Rattle.qg_image.specs.State.{Placed, State, layout_of}
use Rattle.qg_machine.specs.Layout.{IsReached}
use Rattle.qg_machine.specs.Step.{without_subvolume}
use Rattle.qg_cow_refs.specs.declared.cases.Leaving.{Leaving}
use Rattle.qg_cow_refs.specs.declared.cases.Leaving.TheVariants.{Goes, TurnsFull, Stays}
use Rattle.qg_cow_refs.specs.Children.{owner_of, shared_children, way_to}
use Rattle.qg_cow_refs.specs.Left.{case_of, leaving_gains, leaving_losses}
use Rattle.qg_cow_refs.proofs.CopyLaws.{owed-keyed}
use Rattle.qg_node_alloc.specs.declared.ground.Ground.{Ground}
use Rattle.qg_refs.specs.declared.kept.What.{What}
use Rattle.qg_refs.specs.Book.{Book, IsBook, count_at, what_in}
use Rattle.qg_space.proofs.Members.{filter_contains}
use Rattle.qg_refs.specs.Counts.{greatest_count}
use Rattle.qg_reach.proofs.Members.{one_flat_mapped, one_mapped}
use Rattle.qg_extents.specs.Table.{book_of}
use Rattle.qg_tree_backrefs.specs.declared.tree_refs.TreeRefs.{TreeRefs}
use Rattle.qg_tree_backrefs.specs.Exchange.{CanExchange, CanGive, CanTake, IsKnown, times}
use Rattle.qg_tree_backrefs.specs.Following.{full_by_leaving, references_to}
use Rattle.qg_tree_backrefs.proofs.Owings.{addresses, children-alike, known-alike, shared-no_block, shared-no_data}
use Rattle.qg_tree_backrefs.proofs.Times.{times-nil}
use Rattle.qg_shared_trees.proofs.Owing.{node_owes, owed-parts}
use Rattle.qg_shared_trees.proofs.Meeting.{each-there}
use Rattle.qg_shared_trees.proofs.Referring.{children_of, counted-times, one_filtered, owed-leads}
use Rattle.qg_shared_trees.proofs.Tables.{times-member}
use Rattle.qg_subvolumes.specs.Dropping.{HoldsPartly, extent_of_what, extents_known, layout_partly, nodes_partly}
use Rattle.qg_subvolumes.proofs.Partly.{entry-now, its-address, kept-entry, kept-value, known-referred, now, now-node}
use Rattle.qg_subvolumes.proofs.Partly.{now-waiting}
use Rattle.qg_subvolumes.proofs.SharedNodes.{owed-parent, owing-found, parent_of, shared-blocks, shared-few}
use Rattle.qg_subvolumes.proofs.Stepped.{named-has}

turns_bare : (count : ℕ) (placed : Placed) (tree : ℕ) → case_of count placed tree ≡ TurnsFull → placed.full ≡ false
turns_bare count placed tree turns = by (count == 0) (owner_of placed == tree) placed.full turns where
  by : (none own full : Bool) → (if none then Goes else (if own && not full then TurnsFull else Stays)) ≡ TurnsFull
      → full ≡ false
  by true own full is = absurd cc
  by false true true is = absurd cc
  by false true false is = refl
  by false false full is = absurd cc

module _ (land : Ground) (history : History) (book : TreeRefs) (state : State) (sub : ℕ)
    (waiting : ℕ → Bool) (holds : HoldsPartly land history book state sub waiting)
    (at : ℕ) (placed : Placed) (there : value_at at state.layout ≡ Some placed) (waits : waiting at ≡ true) where
  -- what an open node owes is there
  pub owed-there : (q : ℕ) (reference : Reference) → times (owed_by_node placed) q reference
      ≤ count_at (book_of book.refs) q reference
  owed-there q reference =
      let stays = or_left (waiting at) (is_reached (layout_of (without_subvolume state sub)) at) waits in
      let entry = kept-entry state sub waiting at placed there stays in
      let member = times-member node_owes (nodes_partly state sub waiting) (at, now state sub waiting (at, placed))
      entry q reference in
      let own = ap (λ (p : Placed). times (owed_by_node p) q reference)
      (now-waiting state sub waiting (at, placed) waits) in
      let parts = owed-parts (layout_partly state sub waiting) q reference in
      let count = holds.agrees q reference in
      omega (arith, member, own, parts, count)

  losses_there : (leaving : Leaving) → (leaving ≡ TurnsFull → placed.full ≡ false) → (q : ℕ) (reference : Reference)
      → times (leaving_losses leaving placed) q reference ≤ count_at (book_of book.refs) q reference
  losses_there Goes bare q reference = owed-there q reference
  losses_there TurnsFull bare q reference =
      let same = ap (λ (owings : List Owing). times owings q reference) (owed-keyed placed (bare refl)) in
      let all = owed-there q reference in
      omega (arith, same, all)
  losses_there Stays bare q reference = let none = times-nil q reference in omega (arith, none)

  -- what is lost is there
  pub can-take : CanTake (book_of book.refs)
      (leaving_losses (case_of (references_to (book_of book.refs) at) placed sub) placed)
  can-take = record {
    there = λ q reference. losses_there (case_of (references_to (book_of book.refs) at) placed sub)
        (turns_bare (references_to (book_of book.refs) at) placed sub) q reference;
  }

-- ---- runs

some_what : (a : ℕ) (o : Option What) (run : Element) → option_and_then (extent_of_what a) o ≡ Some run
    → (what : What) × (o ≡ Some what)
some_what a None run is = let wrong : ◌≡◌ {A = Option Element} None (Some run) = is in absurd cc
some_what a (Some what) run is = (what, refl)

value_of_key : (state : State) (q : ℕ) (o : Option Placed) → value_at q state.layout ≡ o → is_some o ≡ true
    → (p : Placed) × (value_at q state.layout ≡ Some p)
value_of_key state q None here some = absurd (true≢false (sym some))
value_of_key state q (Some p) here some = (p, here)

module _ (land : Ground) (history : History) (book : TreeRefs) (state : State) (sub : ℕ)
    (waiting : ℕ → Bool) (holds : HoldsPartly land history book state sub waiting) (is : IsBook (book_of book.refs))
    (at : ℕ) (placed : Placed) (there : value_at at state.layout ≡ Some placed) (waits : waiting at ≡ true) where
  abbrev named : Placed
  named = record { node = placed.node; full = false }

  abbrev old : Book
  old = book_of book.refs

  abbrev IsTaken : Element → Type 0
  IsTaken run = Contains land.space.runs run × IsTrue (is_run land.space.sizes run.address run.bytes)

  -- what a pointer leads to is no extent
  child_apart : (child : ℕ) → Contains (children_of placed.node) child → (run : Element)
      → option_and_then (extent_of_what child) (what_in (old child)) ≡ Some run → ⊥
  child_apart child leads run is_run_there =
      let node = ap (λ (o : Option Placed). option_map (λ (p : Placed). p.node) o) there in
      let closed = holds.closed at placed.node node waits child leads in
      let value = value_of_key state child (value_at child state.layout) refl closed.0 in
      let stays = or_left (waiting child) (is_reached (layout_of (without_subvolume state sub)) child) closed.1 in
      let part = holds.nodes child (now state sub waiting (child, value.0))
      (kept-value state sub waiting child value.0 value.1 stays) in
      let what = some_what child (what_in (old child)) run is_run_there in
      let known = part.known (known-referred old is child what.0 what.1) in
      let wrong : ◌≡◌ {A = Option Element} None (Some run) =
      sym (ap (λ (o : Option What). option_and_then (extent_of_what child) o) known) ∙ is_run_there in
      cc

  taken_one : (run : Element) → Contains (extents_known old (owed_by_node named)) run → IsTaken run
  taken_one run has =
      let one = one_filtered (λ (o : Owing). option_and_then (extent_of_what o.address) (what_in (old o.address)))
      (owed_by_node named) run has in
      elim (owed-leads named one.0 one.1) [
        | inl child ↦ absurd (child_apart one.0.address child run one.2)
        | inr (other, names, same) ↦
            let stays = or_left (waiting at) (is_reached (layout_of (without_subvolume state sub)) at) waits in
            let extents = named-has land history book state sub waiting holds waiting other (record {
              from = at;
              placed = placed;
              there = there;
              stays = stays;
              names = names;
            }) in
            let known = holds.extents other extents in
            let here = ap (λ (a : ℕ). what_in (old a)) (sym same) ∙ known.known in
            let told = sym (ap (λ (o : Option What). option_and_then (extent_of_what one.0.address) o) here) ∙ one.2 in
            let value = same_Some (record { address = one.0.address; bytes = other.bytes }) run told in
            let first : ◌≡◌ {A = Element} other (record { address = one.0.address; bytes = other.bytes }) =
            λ i. record { address = same i; bytes = other.bytes } in
            let alike = first ∙ value in
            let lies = subst (λ (s : Sizes). IsTrue (is_run s other.address other.bytes)) holds.sizes known.lies in
            subst IsTaken alike ((holds.runs other).1 extents, lies)
      ]

  -- the extents that the node names and that are known are runs that are taken
  pub taken-all : (test : Element → Bool) → All IsTaken (filter test (extents_known old (owed_by_node named)))
  taken-all test = λ k d inside.
      let list = filter test (extents_known old (owed_by_node named)) in
      taken_one (get_or list k d)
      (filter_contains test (extents_known old (owed_by_node named)) (get_or list k d)
      (Contains-get_or list k d inside)).0

-- ---- shared references in place of keyed ones

module _ (land : Ground) (history : History) (book : TreeRefs) (state : State) (sub : ℕ)
    (waiting : ℕ → Bool) (holds : HoldsPartly land history book state sub waiting) (is : IsBook (book_of book.refs))
    (fitting : (q : ℕ) (reference : Reference) → count_at (book_of book.refs) q reference ≤ greatest_count reference)
    (small : state.sizes.nodesize ≤ 16384)
    (at : ℕ) (placed : Placed) (there : value_at at state.layout ≡ Some placed) (waits : waiting at ≡ true) where
  its_owed : (q : ℕ) (reference : Reference) → times (owed_by_node placed) q reference
      ≤ count_at (book_of book.refs) q reference
  its_owed = owed-there land history book state sub waiting holds at placed there waits

  address_is : (header_of placed.node).address ≡ at
  address_is = its-address land history book state sub waiting holds is at placed there

  marked : (b : Bool) (address parent : ℕ) → Some parent ≡ (if b then Some address else None)
      → (b ≡ true) × (address ≡ parent)
  marked true address parent same = (refl, sym (same_Some parent address same))
  marked false address parent same = let wrong : ◌≡◌ {A = Option ℕ} (Some parent) None = same in absurd cc

  module _ (bare : placed.full ≡ false) (q : ℕ) where
    -- no node owes a reference with this one as parent
    none_owed : (reference : Reference) → parent_of reference ≡ Some at
        → 0 < owed_count (layout_partly state sub waiting) q reference → ⊥
    unfolding owed
    none_owed reference parent some =
        let layout = layout_partly state sub waiting in
        let same = counted-times layout q reference in
        let one = owing-found (owed layout) q reference (omega (arith, some, same)) in
        let names = ap parent_of one.2 ∙ parent in
        elim (Contains-append_cases (map (λ (entry : ℕ × ℕ). way_to entry.1 entry.0) layout.roots)
        (flat_map node_owes layout.nodes) one.0 one.1) [
          | inl way ↦
              let root = one_mapped (λ (entry : ℕ × ℕ). way_to entry.1 entry.0) layout.roots one.0 way in
              let wrong : ◌≡◌ {A = Option ℕ} None (Some at) = ap (λ (o : Owing). parent_of o.reference) root.2
              ∙ names in
              cc
          | inr node ↦
              let entry = one_flat_mapped node_owes layout.nodes one.0 node in
              let by = owed-parent entry.0.1 one.0 entry.2 in
              let parts = marked entry.0.1.full (header_of entry.0.1.node).address at (sym names ∙ by) in
              let value = entry-now state sub waiting holds.whole.ascending entry.0 entry.1 in
              let shown = now-node state sub waiting (entry.0.0, value.0) in
              let number = sym (its-address land history book state sub waiting holds is entry.0.0 value.0 value.1)
              ∙ sym (ap (λ (n : Node). (header_of n).address) (ap (λ (p : Placed). p.node) value.2 ∙ shown))
              ∙ parts.1 in
              let its = same_Some value.0 placed
              (sym value.1 ∙ ap (λ (a : ℕ). value_at a state.layout) number ∙ there) in
              let whole : entry.0.1 ≡ placed = value.2
              ∙ (λ i. now state sub waiting (number i, its i))
              ∙ now-waiting state sub waiting (at, placed) waits in
              true≢false (sym parts.0 ∙ ap (λ (p : Placed). p.full) whole ∙ bare)
        ]

    none_counted : (reference : Reference) → parent_of reference ≡ Some at
        → count_at (book_of book.refs) q reference ≤ 0
    none_counted reference parent =
        let count = holds.agrees q reference in
        let none = nothing (owed_count (layout_partly state sub waiting) q reference) (none_owed reference parent) in
        omega (arith, count, none)
      where
        nothing : (n : ℕ) → (0 < n → ⊥) → n ≤ 0
        nothing n never = elim (cases_Bool (nat_lt 0 n)) [
          | inl less ↦ absurd (never (ltb-true 0 n less))
          | inr is_not ↦ let most = ltb-false 0 n is_not in omega (arith, most)
        ]

    abbrev gained : List Owing
    gained = shared_children placed.node

    -- and this one gives its children none with another as parent
    none_gained : (reference : Reference) (parent : ℕ) → parent_of reference ≡ Some parent → parent ≢ at
        → times gained q reference ≤ 0
    none_gained reference parent names differ = elim (cases_Bool (nat_lt 0 (times gained q reference))) [
      | inl less ↦
          let one = owing-found gained q reference (ltb-true 0 (times gained q reference) less) in
          let by = owed-parent (record { node = placed.node; full = true }) one.0 one.1 in
          let told = sym names ∙ sym (ap parent_of one.2) ∙ by in
          absurd (differ (same_Some parent (header_of placed.node).address told ∙ address_is))
      | inr is_not ↦ let most = ltb-false 0 (times gained q reference) is_not in omega (arith, most)
    ]

    blocks_few : times gained q (SharedBlock at) ≤ 1
    blocks_few =
        let blocks = subst (λ (a : ℕ). times gained q (SharedBlock a)
        ≤ times (owed_by_node (record { node = placed.node; full = false })) q
        (KeyedBlock (header_of placed.node).owner)) address_is (shared-blocks placed.node q) in
        let own : ◌≡◌ {A = Placed} (record { node = placed.node; full = false }) placed =
        λ i. record { node = placed.node; full = sym bare i } in
        let same = ap (λ (p : Placed). times (owed_by_node p) q (KeyedBlock (header_of placed.node).owner)) own in
        let most = its_owed q (KeyedBlock (header_of placed.node).owner) in
        let fits = fitting q (KeyedBlock (header_of placed.node).owner) in
        omega (arith, blocks, same, most, fits)

    room_for : (reference : Reference) → count_at (book_of book.refs) q reference + times gained q reference
        ≤ greatest_count reference
    room_for (KeyedBlock tree) =
        let none = shared-no_block placed.node tree q in
        let fits = fitting q (KeyedBlock tree) in
        omega (arith, none, fits)
    room_for (KeyedData tree ino offset) =
        let none = shared-no_data placed.node tree ino offset q in
        let fits = fitting q (KeyedData tree ino offset) in
        omega (arith, none, fits)
    room_for (SharedBlock parent) = elim (eqb_tells parent at) [
      | inl (equal, same) ↦
          let none = none_counted (SharedBlock parent) (ap (λ (a : ℕ). Some a) same) in
          let few = subst (λ (a : ℕ). times gained q (SharedBlock a) ≤ 1) (sym same) blocks_few in
          omega (arith, none, few)
      | inr (unequal, differ) ↦
          let none = none_gained (SharedBlock parent) parent refl differ in
          let fits = fitting q (SharedBlock parent) in
          omega (arith, none, fits)
    ]
    room_for (SharedData parent) = elim (eqb_tells parent at) [
      | inl (equal, same) ↦
          let none = none_counted (SharedData parent) (ap (λ (a : ℕ). Some a) same) in
          let node = (each-there (IsReached state) at placed state.layout holds.whole.reached there).node_of_format in
          let few = shared-few placed.node state.sizes.nodesize q (SharedData parent) node small in
          omega (arith, none, few)
      | inr (unequal, differ) ↦
          let none = none_gained (SharedData parent) parent refl differ in
          let fits = fitting q (SharedData parent) in
          omega (arith, none, fits)
    ]

  gains_there : (leaving : Leaving) → (leaving ≡ TurnsFull → placed.full ≡ false)
      → CanGive (book_of book.refs) (leaving_gains leaving placed)
  gains_there Goes bare = record {
    room = λ q reference.
        let none = times-nil q reference in
        let fits = fitting q reference in
        omega (arith, none, fits);
    known = All-nil (λ (owing : Owing). IsKnown (book_of book.refs) owing.address);
  }
  gains_there TurnsFull bare = record {
    room = λ q reference. room_for (bare refl) q reference;
    known = known-alike (book_of book.refs) (shared_children placed.node) (owed_by_node placed)
        (sym (ap addresses (owed-keyed placed (bare refl)) ∙ children-alike placed.node (owner_of placed))) its_owed;
  }
  gains_there Stays bare = record {
    room = λ q reference.
        let none = times-nil q reference in
        let fits = fitting q reference in
        omega (arith, none, fits);
    known = All-nil (λ (owing : Owing). IsKnown (book_of book.refs) owing.address);
  }

  -- what a node that is parted with asks of the book is there
  pub can-part : CanExchange (book_of book.refs) (record {
    full = full_by_leaving (case_of (references_to (book_of book.refs) at) placed sub) at;
    gains = leaving_gains (case_of (references_to (book_of book.refs) at) placed sub) placed;
    losses = leaving_losses (case_of (references_to (book_of book.refs) at) placed sub) placed;
  }) None
  can-part = record {
    there = can-take land history book state sub waiting holds at placed there waits;
    room = gains_there (case_of (references_to (book_of book.refs) at) placed sub)
        (turns_bare (references_to (book_of book.refs) at) placed sub);
    first = tt;
  }
