-- A tree that stands, once one address of its book and the runs that are taken have changed: it stands with other
-- names.
use Rattle.std.proofs.Common.{◌≡◌, ◌≢◌, ℕ, ◌+◌, ◌<◌, ◌≤◌, Bool, true, false, List, [], ◌∷◌, ◌++◌, length, get_or, map}
use Rattle.std.proofs.Common.{Option, Some, None, arith, refl, sym, ap, subst, ◌∙◌, inl, inr}
use Rattle.std.specs.Prelude.{◌⊎◌, ◌↔◌, ◌||◌, IsSome, IsTrue, Contains, if◌then◌else◌, nat_lt}
use Rattle.std.specs.List.{All, filter_map, flat_map, list_any}
use Rattle.std.specs.List.Sorted.{IsStrictlyIncreasing}
use Rattle.std.specs.Result.{result_ok}
use Rattle.std.proofs.lemmas.Bool.{cases_Bool}
use Rattle.std.proofs.lemmas.Bool.Decides.{eqb_tells}
use Rattle.qg_device.specs.History.{History, Recorded, Unrecorded, content}
use Rattle.qg_num.specs.declared.piece.Piece.{Piece}
use Rattle.qg_node.specs.declared.item.Item.{Item}
use Rattle.qg_node.specs.declared.node.Node.{Node}
use Rattle.qg_node.specs.Nodes.{header_of}
use Rattle.qg_items.specs.declared.extent.Reference.{Reference}
use Rattle.qg_super.specs.declared.sizes.Sizes.{Sizes}
use Rattle.qg_super.specs.Places.{is_slot}
use Rattle.qg_image.specs.declared.element.Element.{Element}
use Rattle.qg_image.specs.Owed.{owed_count}
use Rattle.qg_image.specs.Reach.{extent_of}
use Rattle.qg_image.specs.declared.tree.TreeKind.TheVariants.{Files}
use Rattle.qg_blocks.specs.Standing.{has_slot, standing}
use Rattle.qg_blocks.specs.NodesFound.{fresh_at, told, told_or}
use Rattle.qg_space.specs.Holding.{Holding, is_free_slot}
use Rattle.qg_space.specs.Holding.{has_slot as has_taken}
use Rattle.qg_tree_edits.specs.Types.{Ground}
use Rattle.qg_tree_edits.specs.Land.{IsDrafted}
use Rattle.qg_refs.specs.declared.kept.What.{What}
use Rattle.qg_refs.specs.declared.kept.Kept.{Kept}
use Rattle.qg_refs.specs.Book.{count_at, full_in, references_in, what_in}
use Rattle.qg_extents.specs.Table.{book_of}
use Rattle.qg_tree_edits.specs.Tree.{Reaches, Root}
use Rattle.qg_tree_edits.specs.Counting.{one, ways}
use Rattle.qg_tree_edits.specs.Rooting.{IsRooted}
use Rattle.qg_tree_backrefs.specs.declared.tree_refs.TreeRefs.{TreeRefs}
use Rattle.qg_tree_backrefs.specs.Following.{references_to}
use Rattle.qg_tree_backrefs.specs.Settled.{IsSettled}
use Rattle.qg_fs_tree.specs.declared.fs_tree.FsTree.{FsTree}
use Rattle.qg_fs_tree.specs.Standing.{IsBeside, IsKnownExtent, IsReachedBy, Stands, every_slot, items_in, layout_in}
use Rattle.qg_fs_tree.specs.Standing.{name_told, names_elsewhere, names_times, nodes_of, trees_of, ways_in}
use Rattle.qg_fs_tree.proofs.Before.{elsewhere-parts, later_tree, numbers, placed, single}
use Rattle.qg_fs_tree.proofs.Beside.{elsewhere, mark_of, own_ways, roots_owed, slots_of}
use Rattle.qg_fs_tree.proofs.Layouts.{owed-is, owed_marked, owed_there}
use Rattle.qg_fs_tree.proofs.Keyed.{keyed_ways}
use Rattle.qg_fs_tree.proofs.SlotSums.{over, over-alike, over-same}
use Rattle.qg_fs_tree.proofs.After.{flat-same}
use Rattle.qg_fs_tree.proofs.Turned.{no_way}
use Rattle.qg_tree_backrefs.specs.Exchange.{times}

-- ---- nothing is told but at slots

slot_alike : (a b : Sizes) (at : ℕ) → a.nodesize ≡ b.nodesize → a.slots ≡ b.slots → is_slot a at ≡ is_slot b at
unfolding is_slot
slot_alike a b at size slots = rw (size, slots) refl

no_slot : (sizes : Sizes) (bytes at : ℕ) → is_slot sizes at ≡ false → has_slot sizes bytes at ≡ false
unfolding has_slot
no_slot sizes bytes at none = rw none refl

nothing_stands : (sizes : Sizes) (image : List ℕ) (at : ℕ) → is_slot sizes at ≡ false
    → result_ok (standing sizes image at) ≡ None
unfolding standing
nothing_stands sizes image at none = rw (no_slot sizes (length image) at none) refl

nothing_told : (fresh : Option Node) (sizes : Sizes) (history : History) (at : ℕ) → fresh ≡ None
    → is_slot sizes at ≡ false
    → told_or fresh sizes history at ≡ None
nothing_told None sizes (Unrecorded changes) at none outside = refl
nothing_told None sizes (Recorded events) at none outside = nothing_stands sizes (content events) at outside
nothing_told (Some node) sizes history at none outside = cc

pub told-slot : (land : Ground) (history : History) (generation : ℕ) → IsDrafted land generation
    → (at : ℕ) (node : Node)
    → told land.blocks.draft history at ≡ Some node → IsTrue (is_slot land.space.sizes at)
unfolding told
told-slot land history generation drafted at node is = elim (cases_Bool (is_slot land.space.sizes at)) [
  | inl slot ↦ slot
  | inr none ↦
      let outside : is_slot land.blocks.draft.sizes at ≡ false =
      slot_alike land.blocks.draft.sizes land.space.sizes at drafted.sizes.nodesize drafted.sizes.slots ∙ none in
      from (fresh_at land.blocks.draft at) refl outside none
] where
  from : (o : Option Node) → fresh_at land.blocks.draft at ≡ o → is_slot land.blocks.draft.sizes at ≡ false
      → is_slot land.space.sizes at ≡ false
      → IsTrue (is_slot land.space.sizes at)
  from None clean outside none =
      let nothing = nothing_told (fresh_at land.blocks.draft at) land.blocks.draft.sizes history at clean outside in
      let wrong : Some node ≡ None = sym is ∙ nothing in
      absurd cc
  from (Some mine) there outside none = (drafted.each at mine there).slot

-- which runs are taken changes no slot
pub free-runs : (holding : Holding) (runs : List Element) (q : ℕ) → is_free_slot (record holding { runs = runs }) q
    ≡ is_free_slot holding q
unfolding is_free_slot
free-runs holding runs q = refl

-- ---- one address of a book

-- nothing is known of a node there
abbrev pub IsNoNode : Option What → Type 0
IsNoNode what = (bytes level generation : ℕ) → what
    ≡ Some (record { bytes = bytes; level = Some level; generation = generation }) → ⊥

module _ (old new : FsTree) (history : History) (items : List Item) (names names_new : List (ℕ × Piece))
    (at : ℕ)
    (stands : Stands old history items names) (drafted : IsDrafted old.land old.tree.next)
    (tree : new.tree ≡ old.tree) (trees : new.others ≡ old.others)
    (land : new.land ≡ record old.land { space = record old.land.space { runs = new.land.space.runs } })
    (refs : new.refs ≡ record old.refs { refs = new.refs.refs })
    (unlike : (other : ℕ) → other ≢ at → book_of new.refs.refs other ≡ book_of old.refs.refs other)
    (outside : IsTrue (is_slot old.land.space.sizes at) → ⊥) (no_node : IsNoNode (what_in (book_of new.refs.refs at)))
  where
    sizes : new.land.space.sizes ≡ old.land.space.sizes
    sizes = ap (λ (l : Ground). l.space.sizes) land

    nodes : (q : ℕ) → nodes_of new history q ≡ nodes_of old history q
    nodes q = ap (λ (l : Ground). told l.blocks.draft history q) land

    slot_there : (q : ℕ) → IsTrue (is_slot old.land.space.sizes q) → q ≢ at
    slot_there q slot same = outside (subst (λ (a : ℕ). IsTrue (is_slot old.land.space.sizes a)) same slot)

    same_there : (q : ℕ) → IsTrue (is_slot old.land.space.sizes q) → book_of new.refs.refs q ≡ book_of old.refs.refs q
    same_there q slot = unlike q (slot_there q slot)

    others_same : new.others.items ≡ old.others.items
    others_same = rw trees refl

    trees_same : trees_of new ≡ trees_of old
    trees_same =
        ap (λ (r : Root). r ∷ new.others.items) tree ∙ ap (λ (ts : List Root). old.tree ∷ ts) others_same

    reach_same : (root : Root) (q : ℕ) → IsReachedBy new history root q → IsReachedBy old history root q
    reach_same root q reaches =
        subst (λ (l : Ground). Reaches (told l.blocks.draft history) root.height root.address q) land reaches

    reach_new : (root : Root) (q : ℕ) → IsReachedBy old history root q → IsReachedBy new history root q
    reach_new root q reaches =
        subst (λ (l : Ground). Reaches (told l.blocks.draft history) root.height root.address q) (sym land) reaches

    among_old : (root : Root) → Contains (trees_of new) root → Contains (trees_of old) root
    among_old root has = subst (λ (ts : List Root). Contains ts root) trees_same has

    slot_old : (root : Root) (q : ℕ) → Contains (trees_of new) root → IsReachedBy new history root q
        → IsTrue (is_slot old.land.space.sizes q)
    slot_old root q among reaches = stands.placed root q (among_old root among) (reach_same root q reaches)

    ways_tree : (root : Root) (q : ℕ) → ways_in new history root q ≡ ways_in old history root q
    ways_tree root q = ap (λ (l : Ground). ways (told l.blocks.draft history) root.height root.address q) land

    ways_same : (q : ℕ) → own_ways new history q ≡ own_ways old history q
    ways_same q = ways_tree new.tree q ∙ ap (λ (r : Root). ways_in old history r q) tree

    any_same : (p r : Root → Bool) (ts : List Root) → ((t : Root) → p t ≡ r t) → list_any p ts ≡ list_any r ts
    any_same p r [] same = refl
    any_same p r (t ∷ ts) same =
        ap (λ (b : Bool). b || list_any p ts) (same t) ∙ ap (λ (b : Bool). r t || b) (any_same p r ts same)

    elsewhere_same : (q : ℕ) → elsewhere new history q ≡ elsewhere old history q
    elsewhere_same q =
        ap (λ (ts : List Root). list_any (λ (t : Root). nat_lt 0 (ways_in new history t q)) ts) others_same
        ∙ any_same (λ (t : Root). nat_lt 0 (ways_in new history t q)) (λ (t : Root). nat_lt 0 (ways_in old history t q))
        old.others.items (λ t. ap (λ (n : ℕ). nat_lt 0 n) (ways_tree t q))

    settled_new : IsSettled new.refs new.land history
    settled_new = record {
      slots = λ q slot.
          let before = subst (λ (s : Sizes). IsTrue (is_slot s q)) sizes slot in
          ap (λ (l : Ground). has_taken l.space q) land ∙ stands.settled.slots q before
          ∙ ap (λ (kept : Option Kept). nat_lt 0 (length (references_in kept))) (sym (same_there q before));
      written = λ q has.
          subst (λ (l : Ground). IsSome (fresh_at l.blocks.draft q) ⊎ Contains l.space.held_slots q) (sym land)
          (stands.settled.written q (subst (λ (l : Ground). IsTrue (has_taken l.space q)) land has));
      fresh = λ q node there.
          let was : fresh_at old.land.blocks.draft q ≡ Some node =
          sym (ap (λ (l : Ground). fresh_at l.blocks.draft q) land) ∙ there in
          ap what_in (same_there q (drafted.each q node was).slot) ∙ stands.settled.fresh q node was
          ∙ ap (λ (b : TreeRefs). Some
          (record { bytes = b.nodesize; level = Some (header_of node).level; generation = b.next })) (sym refs);
      newer = λ q level known. newer_new q level known;
      clean = λ q node none there some. clean_new q node none there some;
    } where
      newer_new : (q level : ℕ) → what_in (book_of new.refs.refs q)
          ≡ Some (record { bytes = new.refs.nodesize; level = Some level; generation = new.refs.next })
          → IsSome (fresh_at new.land.blocks.draft q)
      newer_new q level known = elim (eqb_tells q at) [
        | inl (equal, same) ↦ absurd
            (no_node new.refs.nodesize level new.refs.next (ap (λ (a : ℕ). what_in (book_of new.refs.refs a)) (sym same)
            ∙ known))
        | inr (unequal, differ) ↦
            subst (λ (l : Ground). IsSome (fresh_at l.blocks.draft q)) (sym land)
            (stands.settled.newer q level (ap what_in (sym (unlike q differ)) ∙ known
            ∙ ap (λ (b : TreeRefs). Some (record { bytes = b.nodesize; level = Some level; generation = b.next }))
            refs))
      ]

      clean_new : (q : ℕ) (node : Node) → fresh_at new.land.blocks.draft q ≡ None → told new.land.blocks.draft history q
          ≡ Some node
          → 0 < references_to (book_of new.refs.refs) q
          → what_in (book_of new.refs.refs q)
          ≡ Some (record {
            bytes = new.refs.nodesize;
            level = Some (header_of node).level;
            generation =
                (header_of node).generation;
          })
      clean_new q node none there some =
          let was : fresh_at old.land.blocks.draft q ≡ None = sym (ap (λ (l : Ground). fresh_at l.blocks.draft q) land)
          ∙ none in
          let told_was : nodes_of old history q ≡ Some node = sym (nodes q) ∙ there in
          let slot = told-slot old.land history old.tree.next drafted q node told_was in
          let same = same_there q slot in
          ap what_in same
          ∙ stands.settled.clean q node was told_was (subst (λ (kept : Option Kept). 0 < length (references_in kept))
          same some)
          ∙ ap (λ (b : TreeRefs). Some
          (record {
            bytes = b.nodesize;
            level = Some (header_of node).level;
            generation = (header_of node).generation;
          })) (sym refs)

    -- what a node owes that lies in a slot
    owed_node : (k q : ℕ) (reference : Reference) → IsTrue (is_slot old.land.space.sizes k)
        → times (owed_marked (nodes_of new history k) (mark_of new k)) q reference
        ≡ times (owed_marked (nodes_of old history k) (mark_of old k)) q reference
    owed_node k q reference slot =
        ap (λ (o : Option Node). times (owed_marked o (mark_of new k)) q reference) (nodes k)
        ∙ ap (λ (kept : Option Kept). times (owed_marked (nodes_of old history k) (full_in kept)) q reference)
        (same_there k slot)

    there_same : (k q : ℕ) (reference : Reference)
        → owed_there new history q reference k ≡ owed_there old history q reference k
    there_same k q reference =
        ap (λ (b : Bool). if b then times (owed_marked (nodes_of new history k) (mark_of new k)) q reference else 0)
        (elsewhere_same k)
        ∙ from (elsewhere old history k) refl where
          from : (b : Bool) → elsewhere old history k ≡ b
              → (if b then times (owed_marked (nodes_of new history k) (mark_of new k)) q reference else 0)
              ≡ (if b then times (owed_marked (nodes_of old history k) (mark_of old k)) q reference else 0)
          from false none = refl
          from true led =
              let there = elsewhere-parts old history items names stands drafted k led in
              owed_node k q reference
              (stands.placed there.tree k (later_tree old history items names stands drafted there.tree there.among)
              there.reached)

    apart_new : (i : ℕ) (d : Root) → i < length new.others.items
        → (get_or new.others.items i d).owner ≢ new.tree.owner
    apart_new i d inside =
        subst (λ (ts : List Root). i < length ts → (get_or ts i d).owner ≢ new.tree.owner) (sym others_same)
        (λ within same. (stands.beside i d within).number (same ∙ ap (λ (r : Root). r.owner) tree)) inside

    -- the layout owes the same
    owed_same : (q : ℕ) (reference : Reference) → owed_count (layout_in new history) q reference
        ≡ owed_count (layout_in old history) q reference
    owed_same q reference =
        let now = owed-is new history q reference
        (λ s. subst (λ (n : ℕ). n ≤ 1) (sym (ways_same s)) (single old history items names stands drafted s))
        apart_new in
        let was = owed-is old history q reference (single old history items names stands drafted)
        (numbers old history items names stands drafted) in
        let root = ap (λ (r : Root). keyed_ways r.owner (one r.address) q reference) tree in
        let roots = ap (λ (ts : List Root). times (roots_owed ts) q reference) others_same in
        let sum =
        ap (λ (s : Sizes). over (every_slot s) (own_ways new history)
        (λ (k : ℕ). times (owed_marked (nodes_of new history k) (mark_of new k)) q reference)) sizes
        ∙ over-alike (slots_of old) (own_ways new history) (own_ways old history)
        (λ (k : ℕ). times (owed_marked (nodes_of new history k) (mark_of new k)) q reference) ways_same
        ∙ over-same (slots_of old) (own_ways old history)
        (λ (k : ℕ). times (owed_marked (nodes_of new history k) (mark_of new k)) q reference)
        (λ (k : ℕ). times (owed_marked (nodes_of old history k) (mark_of old k)) q reference)
        (λ k some. owed_node k q reference (placed old history items names stands drafted k some)) in
        let beside =
        ap (λ (s : Sizes). over (every_slot s) (no_way (own_ways new history)) (owed_there new history q reference))
        sizes
        ∙ over-alike (slots_of old) (no_way (own_ways new history)) (no_way (own_ways old history))
        (owed_there new history q reference)
        (λ k. let same = ways_same k in omega (arith, same))
        ∙ over-same (slots_of old) (no_way (own_ways old history)) (owed_there new history q reference)
        (owed_there old history q reference) (λ k some. there_same k q reference) in
        omega (arith, now, was, root, roots, sum, beside)

    -- ---- the other trees

    rooted_kept : (root : Root) (own : List Item) → IsRooted Files root old.land history own
        → IsRooted Files root new.land history own
    rooted_kept root own rooted =
        subst (λ (l : Ground). IsRooted Files root l history own) (sym land) (record {
          tells = rooted.tells;
          apart = λ q free. rooted.apart q (sym (free-runs old.land.space new.land.space.runs q) ∙ free);
          short = rooted.short;
        })

    beside_kept : (root : Root) → IsBeside old history root → IsBeside new history root
    beside_kept root is = record {
      items = is.items;
      rooted = rooted_kept root is.items is.rooted;
      next = is.next ∙ ap (λ (r : Root). r.next) (sym tree);
      number = λ same. is.number (same ∙ ap (λ (r : Root). r.owner) tree);
    }

    items_kept : (root : Root) → items_in new history root ≡ items_in old history root
    items_kept root = ap (λ (l : Ground). items_in (record new { land = l }) history root) land

    pub names-kept : names_elsewhere new history ≡ names_elsewhere old history
    unfolding names_elsewhere
    names-kept =
        ap (λ (ts : List Root). flat_map (λ (t : Root). filter_map name_told (items_in new history t)) ts) others_same
        ∙ flat-same (λ (t : Root). filter_map name_told (items_in new history t))
        (λ (t : Root). filter_map name_told (items_in old history t)) old.others.items
        (λ t among. ap (λ (xs : List Item). filter_map name_told xs) (items_kept t))

    pub Stands-renamed :
        ((q : ℕ) (reference : Reference) → count_at (book_of new.refs.refs) q reference + names_times old.tree.owner
        names q reference
        ≡ count_at (book_of old.refs.refs) q reference + names_times old.tree.owner names_new q reference)
        → ((q : ℕ) (reference : Reference) → names_times old.tree.owner (filter_map name_told items) q reference
        ≤ names_times old.tree.owner names_new q reference)
        → ((q : ℕ) (reference : Reference) → names_times old.tree.owner names_new q reference ≤ 4294967295)
        → All (λ name. IsKnownExtent old.land.space.sizes old.tree.next (book_of new.refs.refs) name.1)
        (names_new ++ names_elsewhere old history)
        → ((run : Element) → Contains new.land.space.runs run
        ↔ Contains (map (λ name. extent_of name.1) (names_new ++ names_elsewhere old history)) run)
        → Stands new history items names_new
    Stands-renamed counts within few known runs = record {
      book = record {
        owner = ap (λ (b : TreeRefs). b.tree) refs ∙ stands.book.owner ∙ ap (λ (r : Root). r.owner) (sym tree);
        next = ap (λ (b : TreeRefs). b.next) refs ∙ stands.book.next ∙ ap (λ (r : Root). r.next) (sym tree);
        nodesize = ap (λ (b : TreeRefs). b.nodesize) refs ∙ stands.book.nodesize ∙ ap (λ (s : Sizes). s.nodesize)
            (sym sizes);
      };
      rooted = subst (λ (r : Root). IsRooted Files r new.land history items) (sym tree)
          (rooted_kept old.tree items stands.rooted);
      ascending = subst (λ (ts : List Root). IsStrictlyIncreasing (map (λ (other : Root). other.owner) ts))
          (sym others_same) stands.ascending;
      beside = subst (λ (ts : List Root). All (IsBeside new history) ts) (sym others_same)
          (λ i d inside. beside_kept (get_or old.others.items i d) (stands.beside i d inside));
      placed = λ root q among reaches.
          subst (λ (s : Sizes). IsTrue (is_slot s q)) (sym sizes) (slot_old root q among reaches);
      home = λ root q node among reaches there bare.
          let was = stands.home root q node (among_old root among) (reach_same root q reaches) (sym (nodes q) ∙ there)
          (sym (ap full_in (same_there q (slot_old root q among reaches))) ∙ bare) in
          record {
            tree = was.tree;
            among = subst (λ (ts : List Root). Contains ts was.tree) (sym trees_same) was.among;
            number = was.number;
            reached = reach_new was.tree q was.reached;
          };
      young = λ root q node among reaches fresh.
          let was = stands.young root q node (among_old root among) (reach_same root q reaches)
          (sym (ap (λ (l : Ground). fresh_at l.blocks.draft q) land) ∙ fresh) in
          (ap full_in (same_there q (slot_old root q among reaches)) ∙ was.0, was.1);
      fits = ap (λ (b : TreeRefs). b.misfit) refs ∙ stands.fits;
      counts = λ q reference.
          let owner = ap (λ (r : Root). r.owner) tree in
          let now = counts q reference in
          let was = stands.counts q reference in
          let owed = owed_same q reference in
          let told_names = ap (λ (o : ℕ). names_times o (filter_map name_told items) q reference) owner in
          let new_names = ap (λ (o : ℕ). names_times o names_new q reference) owner in
          omega (arith, now, was, owed, told_names, new_names);
      within = λ q reference. subst (λ (o : ℕ). names_times o (filter_map name_told items) q reference
          ≤ names_times o names_new q reference) (ap (λ (r : Root). r.owner) (sym tree)) (within q reference);
      few = λ q reference. subst (λ (o : ℕ). names_times o names_new q reference ≤ 4294967295)
          (ap (λ (r : Root). r.owner) (sym tree)) (few q reference);
      settled = settled_new;
      known = subst (λ (others : List (ℕ × Piece)). All
          (λ (name : ℕ × Piece). IsKnownExtent new.land.space.sizes new.tree.next (book_of new.refs.refs) name.1)
          (names_new ++ others)) (sym names-kept)
          (subst (λ (s : Sizes). All
          (λ (name : ℕ × Piece). IsKnownExtent s new.tree.next (book_of new.refs.refs) name.1)
          (names_new ++ names_elsewhere old history)) (sym sizes)
          (subst (λ (r : Root). All
          (λ (name : ℕ × Piece). IsKnownExtent old.land.space.sizes r.next (book_of new.refs.refs) name.1)
          (names_new ++ names_elsewhere old history)) (sym tree) known));
      runs = λ run. subst (λ (others : List (ℕ × Piece)). Contains new.land.space.runs run
          ↔ Contains (map (λ (name : ℕ × Piece). extent_of name.1) (names_new ++ others)) run) (sym names-kept)
          (runs run);
    }
