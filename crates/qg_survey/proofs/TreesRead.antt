-- Where a state is held its subvolumes' trees are read, and so all nodes of its layout.
use Rattle.std.proofs.Common.{◌≡◌, ℕ, ◌+◌, ◌≤◌, arith, List, [], ◌∷◌, map, length, Some, refl, sym, subst}
use Rattle.std.specs.Prelude.{IsSome}
use Rattle.std.specs.List.{All, Contains}
use Rattle.std.proofs.lemmas.List.Elements.{All-cons, All-nil, All-contains}
use Rattle.std.specs.List.Sorted.{IsStrictlySortedBy}
use Rattle.std.specs.Ordering.{nat_cmp}
use Rattle.qg_device.specs.History.{History}
use Rattle.qg_image.specs.Table.{keys_of, value_at}
use Rattle.qg_image.specs.State.{Placed, State, Subvolume, next_generation, node_at}
use Rattle.qg_image.specs.Reach.{level_of}
use Rattle.qg_image.proofs.Contained.{contains_here, contains_later}
use Rattle.qg_reach.proofs.Members.{contains_map}
use Rattle.qg_machine.specs.Layout.{IsTreeOf}
use Rattle.qg_machine.specs.Refusals.{root_level}
use Rattle.qg_node_alloc.specs.declared.ground.Ground.{Ground}
use Rattle.qg_node_alloc.specs.Land.{IsGround}
use Rattle.qg_qgroup_counts.specs.declared.surveyed.Surveyed.{Surveyed}
use Rattle.qg_refs.specs.declared.kept.Kept.{Kept}
use Rattle.qg_extents.specs.Table.{book_of}
use Rattle.qg_tree_read.specs.Tree.{Reaches, Root}
use Rattle.qg_tree_backrefs.specs.declared.tree_refs.TreeRefs.{TreeRefs}
use Rattle.qg_subvolumes.specs.ForestStanding.{HoldsState, root_of, tree_of}
use Rattle.qg_subvolumes.proofs.ForestExtents.{apart-held, node-met}
use Rattle.qg_subvolumes.proofs.Meeting.{each-there, root-low}
use Rattle.qg_subvolumes.proofs.ForestRoots.{root_of-value, root_level-value}
use Rattle.qg_subvolumes.proofs.WayToRoot.{root-leads}
use Rattle.qg_survey.specs.Surveying.{AreRead, EndTrees, GoesOn, HasBelow, LeadsOn, MarksNodes, link_at, trees_of}
use Rattle.qg_survey.proofs.Ordered.{few-read, key-has, key-of}
use Rattle.qg_survey.proofs.Reading.{there-is}

-- what holds of each of some numbers holds of what they give
all-given : {A : Type 0} (P : A → Type 0) (f : ℕ → A) (ns : List ℕ) → ((n : ℕ) → Contains ns n → P (f n))
    → All P (map f ns)
all-given P f [] each = All-nil P
all-given P f (n ∷ ns) each =
    All-cons P (f n) (map f ns) (each n (contains_here n ns))
    (all-given P f ns (λ m has. each m (contains_later n ns m has)))

-- nothing was read yet
pub read-none : (state : State) → AreRead state []
read-none state = record { each = λ q link there. absurd cc; closed = λ q link there child among. absurd cc }

module _ (land : Ground) (history : History) (book : TreeRefs) (state : State)
    (holds : HoldsState land history book state) (ground : IsGround land) where
  -- the book has the nodes' marks
  pub marks-held : MarksNodes (book_of book.refs) state
  marks-held q placed there = (holds.nodes q placed there).mark

  lead : (sub : ℕ) → Contains (keys_of state.subvolumes) sub → LeadsOn state (tree_of state sub)
  lead sub has =
      let some = key-has state.subvolumes sub has in
      let mine = there-is (value_at sub state.subvolumes) some in
      let tree = each-there (λ (entry : ℕ × Subvolume). IsTreeOf state entry.1) sub mine.0 state.subvolumes
      holds.whole.trees mine.1 in
      record {
        low = subst (λ (n : ℕ). n ≤ 7) (sym (root_level-value state sub mine.0 mine.1))
            (root-low state holds.whole state.subvolumes holds.whole.trees mine.0 tree);
        leads = λ way address expected.
            root-leads land history book state holds ground sub some (root_level state sub) way refl address expected;
      }

  -- the ways to the subvolumes' roots lead to branches
  pub trees-lead : (trees : List Root) → trees ≡ trees_of state → All (LeadsOn state) trees
  trees-lead trees same =
      subst (λ (list : List Root). All (LeadsOn state) list) (sym same)
      (all-given (LeadsOn state) (tree_of state) (keys_of state.subvolumes) lead)

  pub trees-next : (trees : List Root) → trees ≡ trees_of state
      → All (λ (tree : Root). tree.next ≡ next_generation state) trees
  trees-next trees same =
      subst (λ (list : List Root). All (λ (tree : Root). tree.next ≡ next_generation state) list) (sym same)
      (all-given (λ (tree : Root). tree.next ≡ next_generation state) (tree_of state) (keys_of state.subvolumes)
      (λ sub has. refl))

  -- once all trees were read each node of the layout was
  pub all-read : (trees : List Root) → trees ≡ trees_of state → (old new : List (ℕ × Surveyed)) (before after : ℕ)
      → EndTrees state trees old new before after
      → (q : ℕ) (placed : Placed) → value_at q state.layout ≡ Some placed → IsSome (link_at new q)
  all-read trees same old new before after ends q placed there =
      let met = node-met state holds.whole (apart-held land history book state holds ground.served) q placed there in
      let key = key-of state.subvolumes met.number met.subvolume met.there in
      let among : Contains trees (tree_of state met.number)
      = subst (λ (list : List Root). Contains list (tree_of state met.number)) (sym same)
      (contains_map (tree_of state) (keys_of state.subvolumes) met.number key) in
      let below = All-contains (λ (tree : Root). HasBelow state tree.height tree.address new) trees
      (tree_of state met.number) ends.below among in
      below q (subst (λ (n : ℕ). Reaches (node_at state.layout) n (root_of state met.number) q)
      (sym (root_level-value state met.number met.subvolume met.there))
      (subst (λ (a : ℕ). Reaches (node_at state.layout) (level_of (node_at state.layout met.subvolume.root)) a q)
      (sym (root_of-value state met.number met.subvolume met.there)) met.reaches))

  -- so has one that is the book's
  pub marks-told : (table : List (ℕ × Kept)) → table ≡ book.refs → MarksNodes (book_of table) state
  marks-told table same = subst (λ (t : List (ℕ × Kept)). MarksNodes (book_of t) state) (sym same) marks-held

  -- each node of the layout was read once at most, but for those on the way
  pub once-read : (old new : List (ℕ × Surveyed)) (before after : ℕ) → GoesOn state 7 old new before after
      → IsStrictlySortedBy nat_cmp (map (λ (e : ℕ × Surveyed). e.0) new) → after ≤ before + length state.layout + 8
  once-read old new before after goes sorted =
      let few = few-read state new goes.read sorted holds.whole.ascending in
      omega (arith, few, goes.once)
