-- One node's step of a drop: what is owed, what the book knows, and what nodes and space hold, once one address is no
-- more open.
use Rattle.std.proofs.Common.{◌≡◌, ◌≢◌, ℕ, ◌+◌, ◌<◌, Bool, true, false, List, [], ◌∷◌, ◌++◌, length, Option, Some, None}
use Rattle.std.proofs.Common.{arith, refl, sym, ap, ◌∙◌, inl, inr}
use Rattle.std.specs.Prelude.{◌&&◌, ◌||◌, ◌==◌, not, is_some, nat_lt, if◌then◌else◌}
use Rattle.std.specs.List.{flat_map, sum_by}
use Rattle.std.specs.List.Sorted.{IsPermutation}
use Rattle.std.specs.Option.{option_map, option_or}
use Rattle.std.proofs.lemmas.Bool.{cases_Bool, cond-false, cond-true, eq-eqb, eqb-true, lt-ltb, ltb-true, ne_eqb}
use Rattle.std.proofs.lemmas.Bool.{true≢false}
use Rattle.std.proofs.lemmas.List.Sorted.{sum_by-IsPermutation}
use Rattle.std.proofs.lemmas.List.Sums.{sum_by-cons}
use Rattle.qg_device.specs.History.{History}
use Rattle.qg_items.specs.declared.extent.Reference.{Reference}
use Rattle.qg_image.specs.Table.{value_at, without_key}
use Rattle.qg_image.specs.Owed.{Owing, homeless, owed_by_node, owed_count}
use Rattle.qg_image.specs.Reach.{is_among, is_reached, reach, reach_of, reach_of_root, reaches}
use Rattle.qg_image.specs.State.{Placed, State, Subvolume, layout_of}
use Rattle.qg_machine.specs.Layout.{is_full_after}
use Rattle.qg_machine.specs.Step.{without_subvolume}
use Rattle.qg_cow_refs.specs.Children.{owed_if_there, owner_of}
use Rattle.qg_cow_refs.specs.Left.{case_of, left_after, leaving_gains, leaving_losses}
use Rattle.qg_cow_refs.proofs.LeavingLaws.{leaving-leaves, leaving-turns}
use Rattle.qg_files.proofs.Ascending.{Ascends-increasing}
use Rattle.qg_node_alloc.specs.declared.ground.Ground.{Ground}
use Rattle.qg_refs.specs.declared.kept.Kept.{Kept}
use Rattle.qg_refs.specs.declared.kept.What.{What}
use Rattle.qg_refs.specs.Book.{AgreesWithOwed, Book, IsBook, full_in, references_in, what_in}
use Rattle.qg_extents.specs.Table.{book_of}
use Rattle.qg_tree_backrefs.specs.declared.tree_refs.TreeRefs.{TreeRefs}
use Rattle.qg_tree_backrefs.specs.Exchange.{Exchanges, times, turns_full}
use Rattle.qg_tree_backrefs.specs.Following.{full_by_leaving, references_to}
use Rattle.qg_tree_backrefs.proofs.Owings.{times-cons}
use Rattle.qg_tree_backrefs.proofs.Times.{times-append, times-nil}
use Rattle.qg_shared_trees.proofs.Changed.{times-changed, times-kept, value-kept}
use Rattle.qg_shared_trees.proofs.Homes.{owner-reaches}
use Rattle.qg_shared_trees.proofs.Meeting.{root-valued}
use Rattle.qg_shared_trees.proofs.Owing.{node_owes, owed-parts}
use Rattle.qg_subvolumes.specs.Dropping.{HoldsPartly, IsUnder, layout_partly, nodes_partly, placed_partly}
use Rattle.qg_subvolumes.proofs.Partly.{keeps, reached-referred, referred-reached}

-- ---- lists

times_sum : (xs : List Owing) (at : ℕ) (reference : Reference)
    → times xs at reference ≡ sum_by (λ (x : Owing). times (x ∷ []) at reference) xs
times_sum [] at reference = times-nil at reference
times_sum (x ∷ xs) at reference =
    let first = times-cons x xs at reference in
    let rest = times_sum xs at reference in
    let sum = sum_by-cons (λ (y : Owing). times (y ∷ []) at reference) x xs in
    omega (arith, first, rest, sum)

times_permuted : (xs ys : List Owing) → IsPermutation xs ys → (at : ℕ) (reference : Reference)
    → times xs at reference ≡ times ys at reference
times_permuted xs ys moved at reference =
    let a = times_sum xs at reference in
    let b = times_sum ys at reference in
    let same = sum_by-IsPermutation (λ (x : Owing). times (x ∷ []) at reference) xs ys moved in
    omega (arith, a, b, same)

-- what is no more open
abbrev pub but : (ℕ → Bool) → ℕ → ℕ → Bool
but waiting at q = waiting q && not (q == at)

pub but_here : (waiting : ℕ → Bool) (at : ℕ) → but waiting at at ≡ false
but_here waiting at = none (waiting at) (at == at) (eq-eqb at at refl) where
  none : (b c : Bool) → c ≡ true → (b && not c) ≡ false
  none true true is = refl
  none false true is = refl
  none true false is = absurd (true≢false (sym is))
  none false false is = refl

pub but_past : (waiting : ℕ → Bool) (at q : ℕ) → q ≢ at → but waiting at q ≡ waiting q
but_past waiting at q differ = same (waiting q) (q == at) (ne_eqb q at differ) where
  same : (b c : Bool) → c ≡ false → (b && not c) ≡ b
  same true false is = refl
  same false false is = refl
  same true true is = absurd (true≢false is)
  same false true is = refl

-- ---- the node after the step

module _ (state : State) (sub : ℕ) (home : homeless (layout_of state) ≡ None) where
  abbrev left : State
  left = without_subvolume state sub

  pub rest_value : (owner : ℕ) → value_at owner (layout_of left).roots
      ≡ option_map (λ (s : Subvolume). s.root) (if not (owner == sub) then value_at owner state.subvolumes else None)
  rest_value owner =
      root-valued owner (without_key sub state.subvolumes)
      ∙ ap (λ (o : Option Subvolume). option_map (λ (s : Subvolume). s.root) o)
      (value-kept (λ (n : ℕ). not (n == sub)) owner state.subvolumes)

  -- who has gone reaches nothing
  pub none_reached : (at : ℕ) → reaches (layout_of left) sub at ≡ false
  unfolding reach
  none_reached at =
      ap (λ (o : Option ℕ). is_among at (reach_of (layout_of left) o))
      (rest_value sub
      ∙ ap (λ (o : Option Subvolume). option_map (λ (s : Subvolume). s.root) o)
      (cond-false (not (sub == sub)) (value_at sub state.subvolumes) None (ap not (eq-eqb sub sub refl))))

  -- another reaches what it reached
  pub same_reached : (owner at : ℕ) → (owner == sub) ≡ false
      → reaches (layout_of left) owner at ≡ reaches (layout_of state) owner at
  unfolding reach reach_of_root
  same_reached owner at differ =
      ap (λ (o : Option ℕ). is_among at (reach_of (layout_of left) o))
      (rest_value owner
      ∙ ap (λ (o : Option Subvolume). option_map (λ (s : Subvolume). s.root) o)
      (cond-true (not (owner == sub)) (value_at owner state.subvolumes) None (ap not differ))
      ∙ sym (root-valued owner state.subvolumes))
      ∙ each (value_at owner (layout_of state).roots)
    where
      each : (o : Option ℕ) → is_among at (reach_of (layout_of left) o) ≡ is_among at (reach_of (layout_of state) o)
      each None = refl
      each (Some root) = refl

  -- a node that stays is full where it was or where the subvolume had made it
  pub full-then : (at : ℕ) (placed : Placed) → value_at at state.layout ≡ Some placed
      → is_full_after left placed at ≡ (placed.full || (owner_of placed == sub))
  full-then at placed there = by placed.full refl (owner_of placed == sub) refl where
    by : (full : Bool) → placed.full ≡ full → (own : Bool) → (owner_of placed == sub) ≡ own
        → is_full_after left placed at ≡ (placed.full || (owner_of placed == sub))
    by true marked own same =
        ap (λ (b : Bool). b || not (reaches (layout_of left) (owner_of placed) at)) marked
        ∙ sym (ap (λ (b : Bool). b || (owner_of placed == sub)) marked)
    by false bare true same =
        let reached = ap (λ (n : ℕ). reaches (layout_of left) n at) (eqb-true (owner_of placed) sub same)
        ∙ none_reached at in
        ap (λ (b : Bool). placed.full || not b) reached ∙ sym (ap (λ (b : Bool). placed.full || b) same)
    by false bare false same =
        let reached = same_reached (owner_of placed) at same
        ∙ owner-reaches (layout_of state) home at placed there bare in
        ap (λ (b : Bool). placed.full || not b) reached ∙ sym (ap (λ (b : Bool). placed.full || b) same)

-- ---- the case

some_is : (after : Option Placed) (value : Placed) → is_some after ≡ true
    → ((p : Placed) → after ≡ Some p → p ≡ value) → after ≡ Some value
some_is None value some each = absurd (true≢false (sym some))
some_is (Some p) value some each = ap Some (each p refl)

none_is : (after : Option Placed) → is_some after ≡ false → after ≡ None
none_is None none = refl
none_is (Some p) none = absurd (true≢false none)

not_less : (n : ℕ) → (0 < n → ⊥) → nat_lt 0 n ≡ false
not_less n none = elim (cases_Bool (nat_lt 0 n)) [
  | inl less ↦ absurd (none (ltb-true 0 n less))
  | inr is ↦ is
]

module _ (land : Ground) (history : History) (book : TreeRefs) (state : State) (sub : ℕ)
    (waiting : ℕ → Bool) (holds : HoldsPartly land history book state sub waiting) (is : IsBook (book_of book.refs))
    (at : ℕ) (placed : Placed) (there : value_at at state.layout ≡ Some placed) (waits : waiting at ≡ true)
    (under : IsUnder state waiting at) where
  abbrev later : State
  later = without_subvolume state sub

  abbrev count : ℕ
  count = references_to (book_of book.refs) at

  abbrev reached : Bool
  reached = is_reached (layout_of later) at

  stays_here : keeps state sub waiting at ≡ true
  stays_here = ap (λ (b : Bool). b || reached) waits

  pub reached-some : reached ≡ true → 0 < count
  reached-some holds_so =
      reached-referred land history book state sub waiting holds is at placed there stays_here under holds_so

  pub some-reached : 0 < count → reached ≡ true
  some-reached some =
      referred-reached land history book state sub waiting holds is at placed there stays_here under some

  -- what is left of the node is what stays where another reaches it
  pub after-is : left_after (case_of count placed sub) placed
      ≡ (if reached then Some (record placed { full = is_full_after later placed at }) else None)
  after-is = elim (cases_Bool reached) [
    | inl holds_so ↦
        let laws = leaving-leaves count placed sub in
        some_is (left_after (case_of count placed sub) placed) (record placed { full = is_full_after later placed at })
        (laws.stays ∙ lt-ltb 0 count (reached-some holds_so))
        (λ p here. laws.same p here
        ∙ sym (ap (λ (b : Bool). record placed { full = b }) (full-then state sub holds.home at placed there)))
        ∙ sym (cond-true reached (Some (record placed { full = is_full_after later placed at })) None holds_so)
    | inr fails_so ↦
        let laws = leaving-leaves count placed sub in
        none_is (left_after (case_of count placed sub) placed)
        (laws.stays ∙ not_less count (λ some. true≢false (sym (some-reached some) ∙ fails_so)))
        ∙ sym (cond-false reached (Some (record placed { full = is_full_after later placed at })) None fails_so)
  ]

  -- ---- what is owed

  -- what an entry owes meanwhile
  owes : (ℕ → Bool) → ℕ × Placed → List Owing
  owes some_open entry =
      if some_open entry.0 || is_reached (layout_of later) entry.0 then node_owes (placed_partly later some_open entry)
      else []

  -- by whether it is open
  owes_by : Bool → ℕ × Placed → List Owing
  owes_by some_open entry =
      if some_open || is_reached (layout_of later) entry.0
      then node_owes (if some_open then entry
      else (entry.0, record entry.1 { full = is_full_after later entry.1 entry.0 }))
      else []

  owes_is : (some_open : ℕ → Bool) (entry : ℕ × Placed) → owes some_open entry ≡ owes_by (some_open entry.0) entry
  unfolding owes owes_by
  owes_is some_open entry = refl

  owes_past : (entry : ℕ × Placed) → entry.0 ≢ at → owes waiting entry ≡ owes (but waiting at) entry
  owes_past entry differ =
      owes_is waiting entry
      ∙ ap (λ (b : Bool). owes_by b entry) (sym (but_past waiting at entry.0 differ))
      ∙ sym (owes_is (but waiting at) entry)

  owes_open : owes waiting (at, placed) ≡ owed_by_node placed
  unfolding owes_by
  owes_open = owes_is waiting (at, placed) ∙ ap (λ (b : Bool). owes_by b (at, placed)) waits

  owes_then : owes (but waiting at) (at, placed) ≡ owed_if_there (left_after (case_of count placed sub) placed)
  unfolding owes_by
  owes_then =
      owes_is (but waiting at) (at, placed)
      ∙ ap (λ (b : Bool). owes_by b (at, placed)) (but_here waiting at)
      ∙ each reached
      ∙ sym (ap owed_if_there after-is)
    where
      each : (b : Bool)
          → (if b then node_owes (at, record placed { full = is_full_after later placed at }) else [])
          ≡ owed_if_there (if b then Some (record placed { full = is_full_after later placed at }) else None)
      each true = refl
      each false = refl

  nodes_owe : (some_open : ℕ → Bool) (q : ℕ) (reference : Reference)
      → times (flat_map node_owes (nodes_partly state sub some_open)) q reference
      ≡ times (flat_map (λ entry. owes some_open entry) state.layout) q reference
  unfolding owes
  nodes_owe some_open q reference =
      times-kept (λ (entry : ℕ × Placed). some_open entry.0 || is_reached (layout_of later) entry.0)
      (placed_partly later some_open) node_owes state.layout q reference

  pub owed-then : (q : ℕ) (reference : Reference)
      → owed_count (layout_partly state sub (but waiting at)) q reference + times (owed_by_node placed) q reference
      ≡ owed_count (layout_partly state sub waiting) q reference
      + times (owed_if_there (left_after (case_of count placed sub) placed)) q reference
  owed-then q reference =
      let old = owed-parts (layout_partly state sub waiting) q reference in
      let new = owed-parts (layout_partly state sub (but waiting at)) q reference in
      let were = nodes_owe waiting q reference in
      let are = nodes_owe (but waiting at) q reference in
      let changed = times-changed (λ (entry : ℕ × Placed). owes waiting entry)
      (λ (entry : ℕ × Placed). owes (but waiting at) entry) at q reference owes_past placed 0 state.layout
      (Ascends-increasing state.layout holds.whole.ascending) there in
      let first = ap (λ (owings : List Owing). times owings q reference) owes_open in
      let last = ap (λ (owings : List Owing). times owings q reference) owes_then in
      omega (arith, old, new, were, are, changed, first, last)

  -- ---- the book

  module _ (after : Book) (done : Exchanges (book_of book.refs) after (record {
    full = full_by_leaving (case_of count placed sub) at;
    gains = leaving_gains (case_of count placed sub) placed;
    losses = leaving_losses (case_of count placed sub) placed;
  }) None) where
    pub agrees-then : AgreesWithOwed (layout_partly state sub (but waiting at)) after
    agrees-then q reference =
        let which = case_of count placed sub in
        let turned = times_permuted (owed_by_node placed ++ leaving_gains which placed)
        (owed_if_there (left_after which placed) ++ leaving_losses which placed) (leaving-turns count placed sub) q
        reference in
        let before = times-append (owed_by_node placed) (leaving_gains which placed) q reference in
        let behind = times-append (owed_if_there (left_after which placed)) (leaving_losses which placed) q reference in
        let counts = done.counts q reference in
        let was = holds.agrees q reference in
        let owed = owed-then q reference in
        omega (arith, turned, before, behind, counts, was, owed)

    or_none : (known : Option What) → option_or known None ≡ known
    or_none None = refl
    or_none (Some what) = refl

    -- what is still kept was known, with its mark or with that of the node that turns full
    pub known-before : (q : ℕ) (kept : Kept) → after q ≡ Some kept → what_in (book_of book.refs q) ≡ Some kept.what
    known-before q kept here = sym (or_none (what_in (book_of book.refs q))) ∙ done.known q kept here

    pub full-before : (q : ℕ) (kept : Kept) → after q ≡ Some kept → kept.full
        ≡ (full_in (book_of book.refs q) || turns_full (full_by_leaving (case_of count placed sub) at) q)
    full-before q kept here = done.full q kept here

    kept_referred : (o : Option Kept) → after at ≡ after at → 0 < length (references_in o)
        → (kept : Kept) × (o ≡ Some kept)
    kept_referred None same some = absurd (omega (arith, some))
    kept_referred (Some kept) same some = (kept, refl)

    pub kept-then : (q : ℕ) → 0 < references_to after q → (kept : Kept) × (after q ≡ Some kept)
    kept-then q some = kept_referred (after q) refl some
