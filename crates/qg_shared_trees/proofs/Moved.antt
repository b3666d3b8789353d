-- Trees moved by several edits of the one at hand.
use Rattle.std.proofs.Common.{◌≡◌, ◌≢◌, ℕ, ◌≤◌, Bool, true, false, List, ◌++◌, Option, Some, None, arith, refl, sym, ap}
use Rattle.std.proofs.Common.{subst, ◌∙◌, inl, inr}
use Rattle.std.specs.Prelude.{◌⊎◌, IsTrue, ◌==◌, ◌&&◌, ◌||◌, nat_lt, not}
use Rattle.std.specs.List.{Contains, list_any}
use Rattle.std.specs.Result.{result_ok}
use Rattle.std.proofs.lemmas.Bool.{and_parts, eq-eqb, eqb-true as number_is, lt-ltb, ltb-true}
use Rattle.std.proofs.lemmas.List.Elements.{Contains-append_right}
use Rattle.qg_device.specs.History.{History, Recorded, Unrecorded, content}
use Rattle.qg_num.specs.declared.piece.Piece.{Piece}
use Rattle.qg_node.specs.declared.item.Item.{Item}
use Rattle.qg_node.specs.declared.node.Node.{Node}
use Rattle.qg_node.specs.Nodes.{header_of}
use Rattle.qg_super.specs.declared.sizes.Sizes.{Sizes}
use Rattle.qg_super.specs.Places.{data_begin, is_slot}
use Rattle.qg_image.specs.declared.element.Element.{Element}
use Rattle.qg_image.proofs.Contained.{contains_here, contains_later}
use Rattle.qg_reach.proofs.SlotRule.{slot_below}
use Rattle.qg_space.specs.Holding.{Holding, is_free_slot}
use Rattle.qg_space.proofs.Members.{passes_one}
use Rattle.qg_blocks.specs.NodesInMemory.{Held}
use Rattle.qg_blocks.specs.Standing.{has_slot, standing}
use Rattle.qg_blocks.specs.NodesFound.{fresh_at, told, told_or}
use Rattle.qg_node_alloc.specs.declared.ground.Ground.{Ground}
use Rattle.qg_node_alloc.specs.Land.{IsDrafted}
use Rattle.qg_refs.specs.Book.{full_in}
use Rattle.qg_extents.specs.Table.{book_of}
use Rattle.qg_shared_trees.specs.Tree.{Reaches, Root}
use Rattle.qg_fs_tree.specs.declared.fs_tree.FsTree.{FsTree}
use Rattle.qg_fs_tree.specs.Standing.{IsBeside, IsElsewhere, IsReached, IsReachedBy, IsSubvolume, KeepsTree, Stands}
use Rattle.qg_fs_tree.specs.Standing.{is_full_then, nodes_of, trees_of, ways_in}
use Rattle.qg_fs_tree.proofs.Before.{among_of}
use Rattle.qg_fs_tree.proofs.Own.{elsewhere-moved}
use Rattle.qg_shared_trees.specs.Laying.{IsMoved}
use Rattle.qg_shared_trees.proofs.Nodes.{tree-way, way-tree}
use Rattle.qg_shared_trees.proofs.Reach.{reach-on}
use Rattle.qg_shared_trees.proofs.Roots.{tree-at_hand}

-- ---- free slots

pub none_true : (b : Bool) → (b ≡ true → ⊥) → b ≡ false
none_true true wrong = absurd (wrong refl)
none_true false wrong = refl

-- a free slot is none that the last commit holds
pub free-apart : (holding : Holding) (q : ℕ) → is_free_slot holding q ≡ true → Contains holding.held_slots q → ⊥
unfolding is_free_slot
free-apart holding q free has =
    let taken = list_any (λ (slot : ℕ). slot == q) (holding.slots ++ holding.held_slots) in
    let parts = and_parts (is_slot holding.sizes q) (not taken) free in
    let some = passes_one (λ (slot : ℕ). slot == q) (holding.slots ++ holding.held_slots) q
    (Contains-append_right holding.slots holding.held_slots q has) (eq-eqb q q refl) in
    let wrong : not true ≡ true = ap not (sym some) ∙ parts.1 in
    absurd cc

-- ---- marks

-- a mark stays where the owner reaches the node still
mark_stays : (full own way : Bool) → (full ≡ false → own ≡ true → way ≡ true) → full ≡ (full || (own && not way))
mark_stays true own way still = refl
mark_stays false true way still = sym (ap not (still refl refl))
mark_stays false false way still = refl

-- two changes of a mark are one
both_marks : (full own middle way : Bool) → (way ≡ true → middle ≡ true)
    → ((full || (own && not middle)) || (own && not way)) ≡ (full || (own && not way))
both_marks true own middle way back = refl
both_marks false true true way back = refl
both_marks false true false true back = absurd (let wrong : false ≡ true = back refl in cc)
both_marks false true false false back = refl
both_marks false false middle way back = refl

-- ---- no change

module _ (fs : FsTree) (history : History) (items : List Item) (names : List (ℕ × Piece))
    (stands : Stands fs history items names) where
  beside_of : (other : Root) → Contains fs.others.items other → IsBeside fs history other
  beside_of other has = among_of (IsBeside fs history) fs.others.items stands.beside other has

  -- what another tree reaches is not free
  not_free : (q : ℕ) → IsElsewhere fs history q → IsTrue (is_free_slot fs.land.space q) → ⊥
  not_free q there free = (beside_of there.tree there.among).rooted.apart q free there.reached

  -- a node that is not full, and is the subvolume's at hand, its tree reaches
  own_way : (tree : Root) (q : ℕ) (node : Node) → Contains (trees_of fs) tree → IsReachedBy fs history tree q
      → nodes_of fs history q ≡ Some node → full_in (book_of fs.refs.refs q) ≡ false
      → ((header_of node).owner == fs.tree.owner) ≡ true → nat_lt 0 (ways_in fs history fs.tree q) ≡ true
  own_way tree q node among reached there bare own =
      let home = stands.home tree q node among reached there bare in
      let same = tree-at_hand fs stands.ascending (λ other has. (beside_of other has).number) home.tree home.among
      (home.number ∙ number_is (header_of node).owner fs.tree.owner own) in
      lt-ltb 0 (ways_in fs history fs.tree q)
      (tree-way fs history fs.tree q (subst (λ (t : Root). IsReachedBy fs history t q) same home.reached))

  pub moves-itself : IsMoved fs fs history
  moves-itself = record {
    moves = record {
      trees = refl;
      reach = λ q reached. inl reached;
      others = λ q taken apart. refl;
      beside = λ q there. (refl, not_free q there);
      freed = λ q free. inl free;
      marks = λ tree q node among reached after has there.
          mark_stays (full_in (book_of fs.refs.refs q)) ((header_of node).owner == fs.tree.owner)
          (nat_lt 0 (ways_in fs history fs.tree q)) (own_way tree q node among reached there);
    };
    owner = refl;
    next = refl;
    sizes = refl;
    held_slots = refl;
    kept = λ q has. refl;
  }

runs_free : (space : Holding) (runs : List Element) (q : ℕ)
    → is_free_slot (record space { runs = runs }) q ≡ is_free_slot space q
unfolding is_free_slot
runs_free space runs q = refl

module _ (old new : FsTree) (history : History) (items : List Item) (names : List (ℕ × Piece))
    (stands : Stands old history items names) (keeps : KeepsTree old new)
    (marks : (tree : Root) (q : ℕ) → Contains (trees_of old) tree → IsReachedBy old history tree q
    → full_in (book_of new.refs.refs q) ≡ full_in (book_of old.refs.refs q)) where
  blocks_same : new.land.blocks ≡ old.land.blocks
  blocks_same = ap (λ (land : Ground). land.blocks) keeps.land

  nodes_same : (q : ℕ) → nodes_of new history q ≡ nodes_of old history q
  nodes_same q = ap (λ (held : Held). told held.draft history q) blocks_same

  named_reach : (q : ℕ) → IsReached new history q → IsReached old history q
  named_reach q reached =
      subst (λ (held : Held). Reaches (told held.draft history) old.tree.height old.tree.address q) blocks_same
      (subst (λ (root : Root). Reaches (nodes_of new history) root.height root.address q) keeps.tree reached)

  reach_named : (q : ℕ) → IsReached old history q → IsReached new history q
  reach_named q reached =
      subst (λ (root : Root). Reaches (nodes_of new history) root.height root.address q) (sym keeps.tree)
      (subst (λ (held : Held). Reaches (told held.draft history) old.tree.height old.tree.address q)
      (sym blocks_same) reached)

  named_free : (q : ℕ) → is_free_slot new.land.space q ≡ true → is_free_slot old.land.space q ≡ true
  named_free q free =
      sym (ap (λ (land : Ground). is_free_slot land.space q) keeps.land
      ∙ runs_free old.land.space new.land.space.runs q)
      ∙ free

  named_way : (tree : Root) (q : ℕ) (node : Node) → Contains (trees_of old) tree → IsReachedBy old history tree q
      → nodes_of old history q ≡ Some node → full_in (book_of old.refs.refs q) ≡ false
      → ((header_of node).owner == old.tree.owner) ≡ true → nat_lt 0 (ways_in new history new.tree q) ≡ true
  named_way tree q node among reached there bare own =
      let way = own_way old history items names stands tree q node among reached there bare own in
      lt-ltb 0 (ways_in new history new.tree q)
      (tree-way new history new.tree q
      (reach_named q (way-tree old history old.tree q (ltb-true 0 (ways_in old history old.tree q) way))))

  moves_named : IsMoved old new history
  moves_named = record {
    moves = record {
      trees = keeps.others;
      reach = λ q reached. inl (named_reach q reached);
      others = λ q taken apart. nodes_same q;
      beside = λ q there.
          (nodes_same q, λ free. not_free old history items names stands q there (named_free q free));
      freed = λ q free. inl (named_free q free);
      marks = λ tree q node among reached after has there.
          marks tree q among reached
          ∙ mark_stays (full_in (book_of old.refs.refs q)) ((header_of node).owner == old.tree.owner)
          (nat_lt 0 (ways_in new history new.tree q)) (named_way tree q node among reached there);
    };
    owner = ap (λ (root : Root). root.owner) keeps.tree;
    next = ap (λ (root : Root). root.next) keeps.tree;
    sizes = ap (λ (land : Ground). land.space.sizes) keeps.land;
    held_slots = ap (λ (land : Ground). land.space.held_slots) keeps.land;
    kept = λ q has. nodes_same q;
  }

-- a slot lies in front of the data area
pub names-move : (old new : FsTree) (history : History) (bytes at : ℕ) (items : List Item)
    (names : List (ℕ × Piece)) → IsSubvolume old history bytes → Stands old history items names → KeepsTree old new
    → data_begin ≤ at → ((q : ℕ) → q ≢ at → full_in (book_of new.refs.refs q) ≡ full_in (book_of old.refs.refs q))
    → IsMoved old new history
names-move old new history bytes at items names subvolume stands keeps high marks =
    moves_named old new history items names stands keeps (λ tree q among reached. marks q (λ same.
    let low = slot_below old.land.space.sizes q subvolume.editable.drafted.sizes.served
    (stands.placed tree q among reached) in
    absurd (omega (arith, low, high, same))))

-- ---- two changes

-- what another tree reaches it reaches after an edit
pub other-on : (old new : FsTree) (history : History) → IsMoved old new history → (tree : Root)
    → Contains old.others.items tree → (q : ℕ) → IsReachedBy old history tree q
    → Contains new.others.items tree × IsReachedBy new history tree q
other-on old new history moved tree among q reached = (
  others_there moved.moves.trees,
  reach-on (nodes_of old history) (nodes_of new history) tree.height tree.address
      (λ s reaches. (moved.moves.beside s (record { tree = tree; among = among; reached = reaches })).0) q reached,
) where
  others_there : new.others ≡ old.others → Contains new.others.items tree
  others_there same = rw same among

elsewhere_on : (old new : FsTree) (history : History) → IsMoved old new history → (q : ℕ)
    → IsElsewhere old history q → IsElsewhere new history q
elsewhere_on old new history moved q there =
    let on = other-on old new history moved there.tree there.among q there.reached in
    record { tree = there.tree; among = on.0; reached = on.1 }

module _ (a b c : FsTree) (history : History) (first : IsMoved a b history) (later : IsMoved b c history)
  where
    reach_then : (q : ℕ) → IsReached c history q → IsReached a history q ⊎ IsTrue (is_free_slot a.land.space q)
    reach_then q reached = elim (later.moves.reach q reached) [
      | inl middle ↦ first.moves.reach q middle
      | inr free ↦ back (first.moves.freed q free)
    ] where
      back : IsTrue (is_free_slot a.land.space q) ⊎ IsReached a history q
          → IsReached a history q ⊎ IsTrue (is_free_slot a.land.space q)
      back (inl free) = inr free
      back (inr before) = inl before

    freed_then : (q : ℕ) → IsTrue (is_free_slot c.land.space q)
        → IsTrue (is_free_slot a.land.space q) ⊎ IsReached a history q
    freed_then q free = elim (later.moves.freed q free) [
      | inl middle ↦ first.moves.freed q middle
      | inr reached ↦ back (first.moves.reach q reached)
    ] where
      back : IsReached a history q ⊎ IsTrue (is_free_slot a.land.space q)
          → IsTrue (is_free_slot a.land.space q) ⊎ IsReached a history q
      back (inl before) = inr before
      back (inr free) = inl free

    others_then : (q : ℕ) → (IsTrue (is_free_slot a.land.space q) → ⊥) → (IsReached a history q → ⊥)
        → nodes_of c history q ≡ nodes_of a history q
    others_then q taken apart =
        later.moves.others q
        (λ free. neither_free (first.moves.freed q free))
        (λ reached. neither_reached (first.moves.reach q reached))
        ∙ first.moves.others q taken apart where
          neither_free : IsTrue (is_free_slot a.land.space q) ⊎ IsReached a history q → ⊥
          neither_free (inl free) = taken free
          neither_free (inr reached) = apart reached

          neither_reached : IsReached a history q ⊎ IsTrue (is_free_slot a.land.space q) → ⊥
          neither_reached (inl reached) = apart reached
          neither_reached (inr free) = taken free

    beside_then : (q : ℕ) → IsElsewhere a history q
        → (nodes_of c history q ≡ nodes_of a history q) × (IsTrue (is_free_slot c.land.space q) → ⊥)
    beside_then q there =
        let one = first.moves.beside q there in
        let two = later.moves.beside q (elsewhere_on a b history first q there) in
        (two.0 ∙ one.0, two.1)

    -- what the last commit holds is reached after the second change only where it was between the two
    middle_reached : (q : ℕ) → Contains b.land.space.held_slots q → IsReached c history q → IsReached b history q
    middle_reached q has reached = elim (later.moves.reach q reached) [
      | inl middle ↦ middle
      | inr free ↦ absurd (free-apart b.land.space q free has)
    ]

    middle : (q : ℕ) → Contains b.land.space.held_slots q → IsReached c history q ⊎ IsElsewhere c history q
        → IsReached b history q ⊎ IsElsewhere b history q
    middle q has (inl reached) = inl (middle_reached q has reached)
    middle q has (inr there) = inr (elsewhere-moved b c history later.moves q there)

    middle_way : (q : ℕ) → Contains b.land.space.held_slots q → nat_lt 0 (ways_in c history c.tree q) ≡ true
        → nat_lt 0 (ways_in b history b.tree q) ≡ true
    middle_way q has way =
        lt-ltb 0 (ways_in b history b.tree q) (tree-way b history b.tree q
        (middle_reached q has (way-tree c history c.tree q (ltb-true 0 (ways_in c history c.tree q) way))))

    later_mark : (q : ℕ) (node : Node) → IsReached b history q ⊎ IsElsewhere b history q
        → IsReached c history q ⊎ IsElsewhere c history q → Contains c.land.space.held_slots q
        → nodes_of b history q ≡ Some node
        → full_in (book_of c.refs.refs q) ≡ is_full_then b c history q node
    later_mark q node (inl reached) after has told =
        later.moves.marks b.tree q node (contains_here b.tree b.others.items) reached after has told
    later_mark q node (inr there) after has told =
        later.moves.marks there.tree q node (contains_later b.tree b.others.items there.tree there.among)
        there.reached after has told

    marks_then : (tree : Root) (q : ℕ) (node : Node) → Contains (trees_of a) tree → IsReachedBy a history tree q
        → IsReached c history q ⊎ IsElsewhere c history q → Contains c.land.space.held_slots q
        → nodes_of a history q ≡ Some node
        → full_in (book_of c.refs.refs q) ≡ is_full_then a c history q node
    marks_then tree q node among reached after has told =
        let held_b = subst (λ (slots : List ℕ). Contains slots q) later.held_slots has in
        let held_a = subst (λ (slots : List ℕ). Contains slots q) first.held_slots held_b in
        let between = middle q held_b after in
        let own = (header_of node).owner == a.tree.owner in
        let way = nat_lt 0 (ways_in c history c.tree q) in
        later_mark q node between after has (first.kept q held_a ∙ told)
        ∙ ap (λ (n : ℕ). full_in (book_of b.refs.refs q) || (((header_of node).owner == n) && not way)) first.owner
        ∙ ap (λ (full : Bool). full || (own && not way))
        (first.moves.marks tree q node among reached between held_b told)
        ∙ both_marks (full_in (book_of a.refs.refs q)) own (nat_lt 0 (ways_in b history b.tree q)) way
        (middle_way q held_b)

    kept_then : (q : ℕ) → Contains a.land.space.held_slots q → nodes_of c history q ≡ nodes_of a history q
    kept_then q has =
        later.kept q (subst (λ (slots : List ℕ). Contains slots q) (sym first.held_slots) has) ∙ first.kept q has

    pub moves-then : IsMoved a c history
    moves-then = record {
      moves = record {
        trees = later.moves.trees ∙ first.moves.trees;
        reach = reach_then;
        others = others_then;
        beside = beside_then;
        freed = freed_then;
        marks = marks_then;
      };
      owner = later.owner ∙ first.owner;
      next = later.next ∙ first.next;
      sizes = later.sizes ∙ first.sizes;
      held_slots = later.held_slots ∙ first.held_slots;
      kept = kept_then;
    }

-- ---- what is told

pub fresh-told : (land : Ground) (history : History) (q : ℕ) (node : Node)
    → fresh_at land.blocks.draft q ≡ Some node → told land.blocks.draft history q ≡ Some node
unfolding told
fresh-told land history q node is =
    ap (λ (o : Option Node). told_or o land.blocks.draft.sizes history q) is

sectors_free : (nodesize slots a b : ℕ) (image : List ℕ) (at : ℕ)
    → standing (record { nodesize = nodesize; slots = slots; sectors = a }) image at
    ≡ standing (record { nodesize = nodesize; slots = slots; sectors = b }) image at
unfolding standing has_slot is_slot
sectors_free nodesize slots a b image at = refl

-- what stands at an address depends on the bytes of a node and on the slots alone
standing_alike : (a b : Sizes) (image : List ℕ) (at : ℕ) → a.nodesize ≡ b.nodesize → a.slots ≡ b.slots
    → standing a image at ≡ standing b image at
standing_alike a b image at size slots =
    ap (λ (n : ℕ). standing (record { nodesize = n; slots = a.slots; sectors = a.sectors }) image at) size
    ∙ ap (λ (n : ℕ). standing (record { nodesize = b.nodesize; slots = n; sectors = a.sectors }) image at) slots
    ∙ sectors_free b.nodesize b.slots a.sectors b.sectors image at

told_alike : (a b : Sizes) (history : History) (at : ℕ) → a.nodesize ≡ b.nodesize → a.slots ≡ b.slots
    → told_or None a history at ≡ told_or None b history at
told_alike a b (Unrecorded changes) at size slots = refl
told_alike a b (Recorded events) at size slots = ap result_ok (standing_alike a b (content events) at size slots)

-- what is clean in two lands is told the same, where they have the same sizes
pub clean-told : (old new : Ground) (history : History) (generation later : ℕ) → IsDrafted old generation
    → IsDrafted new later → new.space.sizes ≡ old.space.sizes → (q : ℕ) → fresh_at old.blocks.draft q ≡ None
    → fresh_at new.blocks.draft q ≡ None
    → told new.blocks.draft history q ≡ told old.blocks.draft history q
unfolding told
clean-told old new history generation later before after same q none none_new =
    ap (λ (o : Option Node). told_or o new.blocks.draft.sizes history q) none_new
    ∙ told_alike new.blocks.draft.sizes old.blocks.draft.sizes history q
    (after.sizes.nodesize ∙ ap (λ (s : Sizes). s.nodesize) same ∙ sym before.sizes.nodesize)
    (after.sizes.slots ∙ ap (λ (s : Sizes). s.slots) same ∙ sym before.sizes.slots)
    ∙ ap (λ (o : Option Node). told_or o old.blocks.draft.sizes history q) (sym none)

-- what the last commit holds is not fresh
pub held-clean : (land : Ground) (generation q : ℕ) → IsDrafted land generation → Contains land.space.held_slots q
    → fresh_at land.blocks.draft q ≡ None
held-clean land generation q drafted has = from (fresh_at land.blocks.draft q) refl where
  from : (o : Option Node) → fresh_at land.blocks.draft q ≡ o → fresh_at land.blocks.draft q ≡ None
  from None none = none
  from (Some node) is = absurd ((drafted.each q node is).apart has)

-- so it is told the same in both, where both hold the same
pub held-kept : (old new : Ground) (history : History) (generation later : ℕ) → IsDrafted old generation
    → IsDrafted new later → new.space.sizes ≡ old.space.sizes → new.space.held_slots ≡ old.space.held_slots → (q : ℕ)
    → Contains old.space.held_slots q → told new.blocks.draft history q ≡ told old.blocks.draft history q
held-kept old new history generation later before after sizes slots q has =
    clean-told old new history generation later before after sizes q (held-clean old generation q before has)
    (held-clean new later q after (subst (λ (held : List ℕ). Contains held q) (sym slots) has))
