-- What the call that drops a subvolume gives on, and what it is given back.
use Rattle.std.proofs.Common.{◌≡◌, ℕ, ◌+◌, ◌<◌, Bool, true, false, List, [], ◌∷◌, length, Some, None, arith}
use Rattle.std.proofs.Common.{refl, sym, ap, subst, ◌∙◌, add-zero}
use Rattle.std.specs.Prelude.{◌&&◌, not}
use Rattle.std.specs.List.{filter}
use Rattle.std.proofs.lemmas.List.Sums.{sum_by-cons}
use Rattle.qg_device.specs.History.{History}
use Rattle.qg_items.specs.declared.extent.Reference.TheVariants.{KeyedBlock}
use Rattle.qg_image.specs.Table.{has_key, value_at}
use Rattle.qg_image.specs.declared.element.Element.{Element}
use Rattle.qg_image.specs.Reach.{distinct, level_of, reach_under}
use Rattle.qg_image.specs.State.{State, Subvolume, has_subvolume, layout_of, next_generation, node_at}
use Rattle.qg_image.specs.Walk.{root_expected}
use Rattle.qg_machine.specs.Refusals.{nodes_reached}
use Rattle.qg_machine.specs.Step.{deleted}
use Rattle.qg_cow_refs.specs.Children.{way_to}
use Rattle.qg_node_alloc.specs.declared.ground.Ground.{Ground}
use Rattle.qg_node_alloc.specs.Land.{IsDrafted}
use Rattle.qg_refs.specs.Book.{Drops, IsBook, count_at, full_in}
use Rattle.qg_extents.specs.Table.{IsTable, book_of}
use Rattle.qg_tree_backrefs.specs.Heavier.{BookGetsHeavier}
use Rattle.qg_tree_backrefs.proofs.Weighs.{GetsHeavier-dropped}
use Rattle.qg_tree_read.specs.Tree.{Root}
use Rattle.qg_tree_backrefs.specs.declared.tree_refs.TreeRefs.{TreeRefs}
use Rattle.qg_tree_backrefs.specs.Exchange.{times}
use Rattle.qg_tree_backrefs.proofs.Times.{times-own}
use Rattle.qg_shared_trees.specs.ForestStanding.{HoldsState, tree_of}
use Rattle.qg_shared_trees.proofs.Owing.{owed-parts}
use Rattle.qg_shared_trees.proofs.ForestExtents.{some-of}
use Rattle.qg_shared_trees.proofs.ForestRoots.{root_level-value, root_of-value}
use Rattle.qg_subvolumes.specs.declared.child.Child.{Child}
use Rattle.qg_subvolumes.specs.Dropping.{HoldsPartly, IsPart, is_below, parts_reached, without_part}
use Rattle.qg_subvolumes.proofs.Begun.{begun}
use Rattle.qg_subvolumes.proofs.Ended.{ended, none_open}
use Rattle.qg_subvolumes.proofs.Entered.{entered, newer-apart, reach-is, roots-owe, tree}
use Rattle.qg_subvolumes.proofs.Stepping.{weighs-most, weighs-on}

none_left : (b : Bool) → (b && not b) ≡ false
none_left true = refl
none_left false = refl

module _ (land : Ground) (history : History) (book : TreeRefs) (state : State)
    (holds : HoldsState land history book state) (root : Root) (has : has_subvolume state root.owner ≡ true)
    (is : root ≡ tree_of state root.owner) (drafted : IsDrafted land root.next)
    (sound : IsBook (book_of book.refs)) where
  abbrev sub : ℕ
  sub = root.owner

  pub same-next : root.next ≡ next_generation state
  same-next = ap (λ (r : Root). r.next) is

  drafted_now : IsDrafted land (next_generation state)
  drafted_now = subst (λ (generation : ℕ). IsDrafted land generation) same-next drafted

  pub found : (subvolume : Subvolume) × (value_at root.owner state.subvolumes ≡ Some subvolume)
  found = some-of (value_at sub state.subvolumes) has

  root_is : root.address ≡ found.0.root
  root_is = ap (λ (r : Root). r.address) is ∙ root_of-value state sub found.0 found.1

  height_is : root.height ≡ level_of (node_at state.layout found.0.root)
  height_is = ap (λ (r : Root). r.height) is ∙ root_level-value state sub found.0 found.1

  -- what is open at first
  abbrev pub first-open : ℕ → Bool
  first-open = is_below state root.height root.address

  -- the subvolume's reference to its root is there
  pub reference-there : 0 < count_at (book_of book.refs) root.address (KeyedBlock root.owner)
  reference-there =
      let at = root.address in
      let reference = KeyedBlock sub in
      let counted = holds.agrees at reference in
      let parts = owed-parts (layout_of state) at reference in
      let roots = roots-owe land history book state holds drafted_now sound sub found.0 found.1 at reference in
      let one = ap (λ (q : ℕ). times (way_to q sub ∷ []) at reference) (sym root_is) ∙ times-own (way_to at sub) in
      omega (arith, counted, parts, roots, one)

  module _ (after : TreeRefs) (others : after ≡ record book { refs = after.refs }) (at owner : ℕ)
      (at_is : at ≡ root.address) (owner_is : owner ≡ root.owner)
      (drops : Drops (book_of book.refs) (book_of after.refs) at (KeyedBlock owner))
      (own : book.tree ≡ root.owner) where
    drops_root : Drops (book_of book.refs) (book_of after.refs) found.0.root (KeyedBlock root.owner)
    drops_root =
        subst (λ (n : ℕ). Drops (book_of book.refs) (book_of after.refs) found.0.root (KeyedBlock n)) owner_is
        (subst (λ (q : ℕ). Drops (book_of book.refs) (book_of after.refs) q (KeyedBlock owner)) (at_is ∙ root_is) drops)

    -- what is held once it is taken
    pub started : HoldsPartly land history after state root.owner first-open
    started =
        subst (λ (n : ℕ). HoldsPartly land history after state sub (is_below state n root.address)) (sym height_is)
        (subst (λ (q : ℕ). HoldsPartly land history after state sub
        (is_below state (level_of (node_at state.layout found.0.root)) q)) (sym root_is)
        (entered land history book state holds drafted_now sound sub found.0 found.1 after others drops_root own))

    -- what the reference weighed
    pub weighs : (new : TreeRefs) (most : ℕ) → IsTable book.refs → IsTable after.refs → BookGetsHeavier after new most
        → BookGetsHeavier book new most
    weighs new most first last rest =
        weighs-most book new (0 + most) most (omega arith) (weighs-on book after new 0 most (record {
          held = ap (λ (b : TreeRefs). b.held) others;
          heavier = GetsHeavier-dropped book.refs after.refs at (KeyedBlock owner) first last drops;
        }) rest)

  -- the root is a part
  pub root-part : (height : ℕ) → height ≡ root.height → (part : Child) → part.way.address ≡ root.address
      → part.way.expected ≡ root_expected (Some root.height) None
      → part.full ≡ full_in (book_of book.refs root.address) → IsPart state first-open height part
  root-part height high part address expected full =
      let level = level_of (node_at state.layout found.0.root) in
      let its = tree land history book state holds drafted_now sound sub found.0 found.1 in
      let here = begun land history book state holds drafted_now sound sub found.0 found.1 its part (address ∙ root_is)
      (expected ∙ ap (λ (n : ℕ). root_expected (Some n) None) height_is)
      (λ placed there. sym (holds.nodes found.0.root placed there).mark
      ∙ ap (λ (q : ℕ). full_in (book_of book.refs q)) (sym root_is) ∙ sym full) in
      subst (λ (n : ℕ). IsPart state first-open n part) (sym high)
      (subst (λ (n : ℕ). IsPart state (is_below state n root.address) n part) (sym height_is)
      (subst (λ (q : ℕ). IsPart state (is_below state level q) level part) (sym root_is) here))

  abbrev reach_from : ℕ → ℕ → List Element
  reach_from level from = reach_under (node_at state.layout) state.sizes.nodesize level from

  abbrev counted : List Element → ℕ
  counted elements = length (filter (λ (element : Element). has_key element.address state.layout) (distinct elements))

  -- it has the nodes that the subvolume reaches
  pub root-count : (height : ℕ) → height ≡ root.height → (part : Child) → part.way.address ≡ root.address
      → parts_reached state height (part ∷ []) ≡ nodes_reached state root.owner
  root-count height high part address =
      let reach_here = reach-is land history book state holds drafted_now sound sub found.0 found.1 in
      sum_by-cons (λ (p : Child). counted (reach_from height p.way.address)) part []
      ∙ add-zero (counted (reach_from height part.way.address))
      ∙ ap (λ (q : ℕ). counted (reach_from height q)) (address ∙ root_is)
      ∙ ap (λ (n : ℕ). counted (reach_from n found.0.root)) (high ∙ height_is)
      ∙ ap counted (sym reach_here)

  -- with nothing open the subvolume is deleted
  pub finished : (height : ℕ) → height ≡ root.height → (from : ℕ) → from ≡ root.address → (new : Ground)
      (later : History) (left : TreeRefs) → IsDrafted new root.next → IsBook (book_of left.refs)
      → HoldsPartly new later left state root.owner (without_part state height from first-open)
      → HoldsState new later left (deleted state root.owner)
  finished height high from address new later left still table partly =
      let nothing : (q : ℕ) → without_part state height from first-open q ≡ false =
      λ q. ap (λ (n : ℕ). first-open q && not (is_below state n from q)) high
      ∙ ap (λ (a : ℕ). first-open q && not (is_below state root.height a q)) address
      ∙ none_left (first-open q) in
      let alike : without_part state height from first-open ≡ none_open =
      λ i. λ (q : ℕ). nothing q i in
      ended new later left state sub
      (subst (λ (waiting : ℕ → Bool). HoldsPartly new later left state sub waiting) alike partly)
      (subst (λ (generation : ℕ). IsDrafted new generation) same-next still) table
      (newer-apart land history book state holds drafted_now sound)
