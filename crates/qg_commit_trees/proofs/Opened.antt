-- The trees of a sound image that was just opened: each has the items of its subvolume, and reaches the nodes that the
-- walk listed.
use Rattle.std.proofs.Common.{◌≡◌, ◌≢◌, ℕ, ◌+◌, ◌≤◌, Bool, true, false, List, [], ◌∷◌, map, Option, Some, None, arith}
use Rattle.std.proofs.Common.{refl, sym, ap, subst, ◌∙◌, inl, inr}
use Rattle.std.specs.Prelude.{IsTrue, Ok, Result, ◌==◌, if◌then◌else◌, is_some, not}
use Rattle.std.specs.List.{Contains, filter}
use Rattle.std.specs.List.Sorted.{IsStrictlyIncreasing}
use Rattle.std.proofs.lemmas.Bool.{cases_Bool, eq-eqb, eqb-true}
use Rattle.std.proofs.lemmas.List.Elements.{All-from_recursion}
use Rattle.std.proofs.lemmas.List.Kept.{IsStrictlyIncreasing-filter}
use Rattle.qg_device.specs.History.{Event, History, Recorded, content}
use Rattle.qg_node.specs.declared.item.Item.{Item}
use Rattle.qg_node.specs.declared.node.Node.{Node}
use Rattle.qg_node.specs.Nodes.{header_of}
use Rattle.qg_items.specs.declared.root.RootItem.{RootItem}
use Rattle.qg_items.specs.declared.tree.TheConstants.{TOP_LEVEL}
use Rattle.qg_super.specs.declared.sizes.Sizes.{Sizes}
use Rattle.qg_super.specs.declared.superblock.Super.{Super}
use Rattle.qg_super.specs.Places.{is_served, is_slot, second_place}
use Rattle.qg_super.specs.SuperText.{sizes_of}
use Rattle.qg_image.specs.Below.{items_below, nodes_below}
use Rattle.qg_image.specs.ItemMeaning.{is_subvolume_number, when}
use Rattle.qg_image.specs.Table.{keys_of, value_at}
use Rattle.qg_image.proofs.Contained.{contains_cases, contains_here, contains_later}
use Rattle.qg_owner_rule.proofs.Reaching.{entry_of_value, value_of_entry}
use Rattle.qg_backref_rule.proofs.Filters.{contains_kept, kept_contains}
use Rattle.qg_image.specs.declared.failure.Failure.{Failure}
use Rattle.qg_image.specs.declared.tree.TreeKind.TheVariants.{Files}
use Rattle.qg_image.specs.ImageState.{addresses_of, items_of_root, level_in, nodes_of_root, roots_in, subvolume_roots}
use Rattle.qg_image.specs.ItemsUnder.{is_way, items_under, nodes_of as found_nodes}
use Rattle.qg_image.specs.Walk.{deepest, is_owner, node_found, root_expected, root_told, tree_failure}
use Rattle.qg_walk.proofs.Failures.{IsPassed, walk-passed}
use Rattle.qg_blocks.specs.NodesInMemory.{Draft}
use Rattle.qg_blocks.specs.NodesFound.{IsBacked, fresh_at}
use Rattle.qg_blocks.proofs.Walked.{IsImageOf, told-walked}
use Rattle.qg_node_alloc.specs.Land.{IsDrafted}
use Rattle.qg_tree_read.specs.Branch.{IsBranch}
use Rattle.qg_tree_read.specs.Tree.{IsTree, Reaches, Root, TellsTree}
use Rattle.qg_tree_read.proofs.BranchWalk.{branch-under}
use Rattle.qg_tree_read.proofs.Branches.{branch-level}
use Rattle.qg_tree_read.proofs.Walked.{IsTree-walked, TellsTree-walked}
use Rattle.qg_shared_trees.specs.Rooting.{IsRooted}
use Rattle.qg_shared_trees.specs.Types.{FsTree}
use Rattle.qg_shared_trees.specs.Standing.{CanTurn, IsReachedBy, IsSubvolume, items_in, nodes_of, trees_of}
use Rattle.qg_shared_trees.proofs.Before.{among_of}
use Rattle.qg_shared_trees.proofs.Lists.{from-flat, from-mapped, has-flat, has-mapped}
use Rattle.qg_shared_trees.proofs.Lying.{told-at}
use Rattle.qg_shared_trees.proofs.Renamed.{told-slot}
use Rattle.qg_shared_trees.specs.Laying.{IsMet}
use Rattle.qg_shared_trees.proofs.Moved.{free-apart}
use Rattle.qg_shared_trees.proofs.Reach.{reach-on}
use Rattle.qg_commit_trees.specs.Opening.{IsOpened, IsSoundImage, IsSoundSubvolume, opened_nodes, opened_tree}
use Rattle.qg_commit_trees.specs.Opening.{opened_trees}
use Rattle.qg_commit_trees.proofs.Listed.{listed-met, met-listed}
use Rattle.qg_commit_trees.proofs.Short.{items-short}

given : {A : Type 0} (b : Bool) (o : Option A) (x : A) → when b o ≡ Some x → o ≡ Some x
given true o x is = is
given false o x is = absurd cc

none_some : {A : Type 0} (o : Option A) (x : A) → o ≡ None → o ≡ Some x → ⊥
none_some o x none some = let wrong : None ≡ Some x = sym none ∙ some in cc

level_found : (super : Super) (image : List ℕ) (address : ℕ) (node : Node) → node_found super image address ≡ Ok node
    → level_in super image address ≡ (header_of node).level
level_found super image address node is = rw is refl

-- an equality's test that fails
differs_from : (a b : ℕ) → not (a == b) ≡ true → a ≢ b
differs_from a b differs same =
    let wrong : not true ≡ true = ap not (sym (eq-eqb a b same)) ∙ differs in
    cc

-- the items that a tree has where these are told
pub items-told : (fs : FsTree) (history : History) (tree : Root) (items : List Item)
    → items_below (nodes_of fs history) tree.height tree.address ≡ Some items → items_in fs history tree ≡ items
items-told fs history tree items is = rw is refl

-- the numbers of trees that are made of ROOT_ITEMs, of which some are left
numbers_kept : (super : Super) (keep : ℕ → Bool) (roots : List (ℕ × RootItem))
    → map (λ (tree : Root). tree.owner) (filter (λ (tree : Root). keep tree.owner) (map (opened_tree super) roots))
    ≡ filter keep (keys_of roots)
numbers_kept super keep [] = refl
numbers_kept super keep (entry ∷ roots) = from (keep entry.0) (numbers_kept super keep roots) where
  from : (b : Bool)
      → map (λ (tree : Root). tree.owner) (filter (λ (tree : Root). keep tree.owner) (map (opened_tree super) roots))
      ≡ filter keep (keys_of roots)
      → map (λ (tree : Root). tree.owner) (if b then opened_tree super entry
      ∷ filter (λ (tree : Root). keep tree.owner) (map (opened_tree super) roots)
      else filter (λ (tree : Root). keep tree.owner) (map (opened_tree super) roots))
      ≡ (if b then entry.0 ∷ filter keep (keys_of roots) else filter keep (keys_of roots))
  from true rest = ap (λ (numbers : List ℕ). entry.0 ∷ numbers) rest
  from false rest = rest

-- a table has one value at a number
same_value : {A : Type 0} (table : List (ℕ × A)) (a b : ℕ × A) → value_at a.0 table ≡ Some a.1
    → value_at b.0 table ≡ Some b.1 → a.0 ≡ b.0 → a ≡ b
same_value {A} table a b first other same =
    let there : value_at b.0 table ≡ Some a.1 = subst (λ (n : ℕ). value_at n table ≡ Some a.1) same first in
    let e : Some a.1 ≡ Some b.1 = sym there ∙ other in
    let value : a.1 ≡ b.1 = cc in
    ap (λ (n : ℕ). (n, a.1)) same ∙ ap (λ (v : A). (b.0, v)) value

-- the value at a number that is there
keyed : {A : Type 0} (n : ℕ) (o : Option A) → is_some o ≡ true → (x : A) × (o ≡ Some x)
keyed n None some = absurd cc
keyed n (Some x) some = (x, refl)

-- ---- over any disk

module _ (fs : FsTree) (super : Super) (image : List ℕ) (opened : IsOpened fs super image) where
  pub no-fresh-opened : (q : ℕ) → fresh_at fs.land.blocks.draft q ≡ None
  no-fresh-opened q = ap (λ (draft : Draft). fresh_at draft q) opened.draft

  pub drafted-opened : IsTrue (is_served (sizes_of super)) → (generation : ℕ) → IsDrafted fs.land generation
  drafted-opened served generation = record {
    sizes = record {
      served = subst (λ (sizes : Sizes). IsTrue (is_served sizes)) (sym opened.sizes) served;
      nodesize = ap (λ (draft : Draft). draft.sizes.nodesize) opened.draft
          ∙ ap (λ (sizes : Sizes). sizes.nodesize) (sym opened.sizes);
      slots = ap (λ (draft : Draft). draft.sizes.slots) opened.draft
          ∙ ap (λ (sizes : Sizes). sizes.slots) (sym opened.sizes);
    };
    each = λ at node there. absurd (none_some (fresh_at fs.land.blocks.draft at) node (no-fresh-opened at) there);
  }

  pub next-opened : fs.tree.next ≡ super.generation + 1
  next-opened =
      let made = from-mapped (opened_tree super) (subvolume_roots (roots_in super image)) fs.tree opened.tree in
      ap (λ (tree : Root). tree.next) (sym made.2)

top_level : is_owner Files TOP_LEVEL ≡ true
unfolding is_subvolume_number
top_level = refl

pub subvolume-opened : (fs : FsTree) (super : Super) (image : List ℕ) (history : History) (bytes : ℕ)
    → IsOpened fs super image → IsTrue (is_served (sizes_of super))
    → IsBacked fs.land.blocks history → second_place ≤ bytes → IsSubvolume fs history bytes
subvolume-opened fs super image history bytes opened served backed long = record {
  editable = record {
    backed = backed;
    drafted = drafted-opened fs super image opened served fs.tree.next;
    room = long;
  };
  makes = record {
    owner = subst (λ (owner : ℕ). IsTrue (is_owner Files owner)) (sym opened.number) top_level;
    next = let next = next-opened fs super image opened in omega (arith, next);
  };
}

-- a ROOT_ITEM of a subvolume is of a subvolume's number
owned : (number : ℕ) → is_subvolume_number number ≡ true → is_owner Files number ≡ true
owned number is = is

pub turns-opened : (fs : FsTree) (super : Super) (image : List ℕ) → IsOpened fs super image → CanTurn fs
turns-opened fs super image opened = record {
  next = λ other has.
      let made = made_of other has in
      ap (λ (tree : Root). tree.next) (sym made.2) ∙ sym (next-opened fs super image opened);
  owner = λ other has.
      let made = made_of other has in
      subst (λ (tree : Root). IsTrue (is_owner Files tree.owner)) made.2
      (owned made.0.0 (kept_contains (λ (entry : ℕ × RootItem). is_subvolume_number entry.0) (roots_in super image)
      made.0 made.1).1);
} where
  made_of : (other : Root) → Contains fs.others.items other
      → (entry : ℕ × RootItem) × Contains (subvolume_roots (roots_in super image)) entry
      × (opened_tree super entry ≡ other)
  made_of other has = from-mapped (opened_tree super) (subvolume_roots (roots_in super image)) other
      (kept_contains (λ (t : Root). not (t.owner == TOP_LEVEL)) (opened_trees super image) other
      (subst (λ (trees : List Root). Contains trees other) opened.others has)).0

-- ---- where the disk tells

module _ (fs : FsTree) (super : Super) (events : List Event) (sound : IsSoundImage super (content events))
    (opened : IsOpened fs super (content events)) where
  abbrev pub found : ℕ → Result Node Failure
  found = node_found super (content events)

  abbrev pub there : ℕ → Option Node
  there = found_nodes (node_found super (content events))

  abbrev pub roots : List (ℕ × RootItem)
  roots = subvolume_roots (roots_in super (content events))

  pub drafted-there : IsDrafted fs.land fs.tree.next
  drafted-there = drafted-opened fs super (content events) opened sound.served fs.tree.next

  is_image : IsImageOf super fs.land.blocks.draft.sizes (content events)
  is_image = record {
    served = sound.served;
    slots = ap (λ (draft : Draft). draft.sizes) opened.draft;
    long = sound.long;
  }

  -- what is told is what the walk found
  pub told-found : (q : ℕ) → nodes_of fs (Recorded events) q ≡ there q
  told-found q = told-walked super fs.land.blocks.draft events q is_image
      (no-fresh-opened fs super (content events) opened q)

  pub slot-opened : (q : ℕ) (node : Node) → nodes_of fs (Recorded events) q ≡ Some node
      → IsTrue (is_slot fs.land.space.sizes q)
  slot-opened q node is = told-slot fs.land (Recorded events) fs.tree.next drafted-there q node is

  pub lies-opened : (q : ℕ) (node : Node) → nodes_of fs (Recorded events) q ≡ Some node → (header_of node).address ≡ q
  lies-opened q node is = (told-at fs.land (Recorded events) fs.tree.next drafted-there q node is).placed

  -- ---- one subvolume

  module _ (entry : ℕ × RootItem)
      (has : Contains (subvolume_roots (roots_in super (content events))) entry) where
    abbrev root : RootItem
    root = entry.1

    abbrev items : List Item
    items = items_of_root Files super (content events) entry.1

    abbrev listed : List Node
    listed = nodes_of_root Files super (content events) entry.1

    pub own-opened : IsSoundSubvolume super (content events) entry.1
    own-opened = among_of (λ (e : ℕ × RootItem). IsSoundSubvolume super (content events) e.1)
        (subvolume_roots (roots_in super (content events)))
        (All-from_recursion (λ (e : ℕ × RootItem). IsSoundSubvolume super (content events) e.1)
        (subvolume_roots (roots_in super (content events))) sound.each) entry has

    passed : IsPassed (root_told root) (node_found super (content events) root.bytenr)
    unfolding tree_failure
    passed = walk-passed Files super (node_found super (content events)) deepest (root_told root) root.bytenr
        own-opened.walked

    root_level : (header_of passed.node).level ≡ root.level
    root_level = sym (eqb-true root.level (header_of passed.node).level passed.level)

    level_is : level_in super (content events) root.bytenr ≡ root.level
    level_is = level_found super (content events) root.bytenr passed.node passed.is ∙ root_level

    root_told_there : nodes_of fs (Recorded events) root.bytenr ≡ Some passed.node
    root_told_there = told-found root.bytenr ∙ found_ok (node_found super (content events) root.bytenr) passed.is where
      found_ok : (o : Result Node Failure) → o ≡ Ok passed.node → found_nodes (λ at. o) 0 ≡ Some passed.node
      found_ok o is = rw is refl

    -- its root is told
    pub root-opened : (node : Node) × (nodes_of fs (Recorded events) root.bytenr ≡ Some node)
        × ((header_of node).level ≡ root.level)
    root-opened = (passed.node, root_told_there, root_level)

    height_low : root.level ≤ deepest
    height_low =
        let at = told-at fs.land (Recorded events) fs.tree.next drafted-there root.bytenr passed.node root_told_there in
        let low = at.level in
        let same = root_level in
        omega (arith, low, same)

    high_found : (node : Node) → node_found super (content events) root.bytenr ≡ Ok node
        → (header_of node).level ≡ root.level
    high_found node is = sym (level_found super (content events) root.bytenr node is) ∙ level_is

    items_are : items_under Files super (node_found super (content events)) root.level (root_told root) root.bytenr
        ≡ Some items
    items_are = subst (λ (level : ℕ). items_under Files super (node_found super (content events)) level
        (root_told root) root.bytenr ≡ Some (items_of_root Files super (content events) root)) level_is
        own-opened.items

    nodes_are : nodes_below there root.level root.bytenr ≡ Some listed
    nodes_are = given (is_way Files super (node_found super (content events)) (root_told root) root.bytenr)
        (nodes_below there root.level root.bytenr) listed
        (subst (λ (level : ℕ). when
        (is_way Files super (node_found super (content events)) (root_told root) root.bytenr)
        (nodes_below (found_nodes (node_found super (content events))) level root.bytenr)
        ≡ Some (nodes_of_root Files super (content events) root)) level_is own-opened.nodes)

    -- ---- the tree

    tells : TellsTree Files (opened_tree super entry) fs.land.blocks.draft (Recorded events) items
    tells = TellsTree-walked Files (opened_tree super entry) super
        fs.land.blocks.draft events (root_told root) items is_image
        (no-fresh-opened fs super (content events) opened) (omega arith) refl refl height_low high_found
        own-opened.walked items_are

    -- it is one of the image's own generation
    tree_before : IsTree Files super (nodes_of fs (Recorded events)) root.level root.bytenr items
    unfolding tree_failure
    tree_before = IsTree-walked Files super super (node_found super (content events)) (nodes_of fs (Recorded events))
        (root_told root) root.level root.bytenr items told-found refl (omega arith) refl refl height_low high_found
        own-opened.walked items_are

    pub branch-opened : IsBranch Files super (nodes_of fs (Recorded events)) root.level root.bytenr items
    branch-opened = branch-under Files super (nodes_of fs (Recorded events)) root.level
        (root_expected (Some root.level) None) root.bytenr items
        (record { levelled = refl; walked = tree_before.walked; items_are = tree_before.items_are })

    pub items-opened : items_in fs (Recorded events) (opened_tree super entry)
        ≡ items_of_root Files super (content events) entry.1
    items-opened = items-told fs (Recorded events) (opened_tree super entry) items tree_before.items_are

    -- each address that is reached has a node
    pub node-opened : (q : ℕ) → IsReachedBy fs (Recorded events) (opened_tree super entry) q
        → (node : Node) × (nodes_of fs (Recorded events) q ≡ Some node)
    node-opened q reached =
        let at = branch-level Files super (nodes_of fs (Recorded events)) root.level root.bytenr items branch-opened q
        reached in
        (at.0, at.1)

    -- ---- what is listed is reached

    to_found : (q : ℕ) → IsReachedBy fs (Recorded events) (opened_tree super entry) q
        → Reaches there root.level root.bytenr q
    to_found q reached =
        reach-on (nodes_of fs (Recorded events)) there root.level root.bytenr (λ r below. sym (told-found r)) q reached

    from_found : (q : ℕ) → Reaches there root.level root.bytenr q
        → IsReachedBy fs (Recorded events) (opened_tree super entry) q
    from_found q reached =
        reach-on there (nodes_of fs (Recorded events)) root.level root.bytenr (λ r below. told-found r) q reached

    reached_listed : (q : ℕ) → IsReachedBy fs (Recorded events) (opened_tree super entry) q → (node : Node)
        → nodes_of fs (Recorded events) q ≡ Some node → Contains listed node
    reached_listed q reached node is =
        met-listed there root.level root.bytenr listed nodes_are q (to_found q reached) node (sym (told-found q) ∙ is)

    listed_there : (node : Node) → Contains listed node
        → IsReachedBy fs (Recorded events) (opened_tree super entry) (header_of node).address
        × (nodes_of fs (Recorded events) (header_of node).address ≡ Some node)
    listed_there node among =
        let met = listed-met there root.level root.bytenr listed nodes_are node among in
        let is : nodes_of fs (Recorded events) met.q ≡ Some node = told-found met.q ∙ met.told in
        let lies = lies-opened met.q node is in (
          subst (λ (q : ℕ). IsReachedBy fs (Recorded events) (opened_tree super entry) q) (sym lies)
              (from_found met.q met.reached),
          ap (λ (q : ℕ). nodes_of fs (Recorded events) q) lies ∙ is,
        )

  -- ---- the trees and the subvolumes

  -- a ROOT_ITEM of a number is the only one
  pub same-entry : (a b : ℕ × RootItem) → Contains (subvolume_roots (roots_in super (content events))) a
      → Contains (subvolume_roots (roots_in super (content events))) b → a.0 ≡ b.0 → a ≡ b
  same-entry a b has also same =
      same_value (subvolume_roots (roots_in super (content events))) a b
      (value_of_entry (subvolume_roots (roots_in super (content events))) a sound.ascending has)
      (value_of_entry (subvolume_roots (roots_in super (content events))) b sound.ascending also) same

  -- each tree is that of a subvolume
  pub tree-entry : (tree : Root) → Contains (trees_of fs) tree
      → (entry : ℕ × RootItem) × Contains (subvolume_roots (roots_in super (content events))) entry
      × (opened_tree super entry ≡ tree)
  tree-entry tree has = from-mapped (opened_tree super) (subvolume_roots (roots_in super (content events))) tree
      (elim (contains_cases fs.tree fs.others.items tree has) [
        | inl same ↦
            subst (λ (t : Root). Contains (opened_trees super (content events)) t) same opened.tree
        | inr later ↦
            (kept_contains (λ (t : Root). not (t.owner == TOP_LEVEL)) (opened_trees super (content events)) tree
            (subst (λ (trees : List Root). Contains trees tree) opened.others later)).0
      ])

  -- the others are not the top-level one
  pub other-number : (tree : Root) → Contains fs.others.items tree → tree.owner ≢ fs.tree.owner
  other-number tree has same =
      differs_from tree.owner TOP_LEVEL
      (kept_contains (λ (t : Root). not (t.owner == TOP_LEVEL)) (opened_trees super (content events)) tree
      (subst (λ (trees : List Root). Contains trees tree) opened.others has)).1 (same ∙ opened.number)

  pub others-ascend : IsStrictlyIncreasing (map (λ (other : Root). other.owner) fs.others.items)
  others-ascend = subst (λ (numbers : List ℕ). IsStrictlyIncreasing numbers)
      (sym (ap (λ (trees : List Root). map (λ (other : Root). other.owner) trees) opened.others
      ∙ numbers_kept super (λ (n : ℕ). not (n == TOP_LEVEL)) (subvolume_roots (roots_in super (content events)))))
      (IsStrictlyIncreasing-filter (λ (n : ℕ). not (n == TOP_LEVEL))
      (keys_of (subvolume_roots (roots_in super (content events)))) sound.ascending)

  -- the top-level subvolume's tree is at hand
  pub hand-opened : (entry : ℕ × RootItem) → Contains (subvolume_roots (roots_in super (content events))) entry
      → entry.0 ≡ TOP_LEVEL → opened_tree super entry ≡ fs.tree
  hand-opened entry has top =
      let hand = tree-entry fs.tree (contains_here fs.tree fs.others.items) in
      let number : entry.0 ≡ hand.0.0 = top ∙ sym opened.number ∙ ap (λ (t : Root). t.owner) (sym hand.2) in
      ap (opened_tree super) (same-entry entry hand.0 has hand.1 number) ∙ hand.2

  -- and each subvolume has its tree
  pub entry-tree : (entry : ℕ × RootItem) → Contains (subvolume_roots (roots_in super (content events))) entry
      → Contains (trees_of fs) (opened_tree super entry)
  entry-tree entry has = elim (cases_Bool (entry.0 == TOP_LEVEL)) [
    | inl top ↦
        subst (λ (t : Root). Contains (trees_of fs) t)
        (sym (hand-opened entry has (eqb-true entry.0 TOP_LEVEL top))) (contains_here fs.tree fs.others.items)
    | inr other ↦
        contains_later fs.tree fs.others.items (opened_tree super entry)
        (subst (λ (trees : List Root). Contains trees (opened_tree super entry)) (sym opened.others)
        (contains_kept (λ (t : Root). not (t.owner == TOP_LEVEL)) (opened_trees super (content events))
        (opened_tree super entry)
        (has-mapped (opened_tree super) (subvolume_roots (roots_in super (content events))) entry has)
        (ap not other)))
  ]

  -- the top-level one is there
  pub top-opened : (root : RootItem)
      × Contains (subvolume_roots (roots_in super (content events))) (TOP_LEVEL, root)
  top-opened =
      let value = keyed TOP_LEVEL (value_at TOP_LEVEL (subvolume_roots (roots_in super (content events)))) sound.top in
      (value.0, entry_of_value TOP_LEVEL value.0 (subvolume_roots (roots_in super (content events))) value.1)

  -- ---- what is met

  -- a subvolume's tree reaches an address
  pub record IsMetBy (q : ℕ) : Type 0 where
    pub entry : ℕ × RootItem
    pub has : Contains (subvolume_roots (roots_in super (content events))) entry
    pub reached : IsReachedBy fs (Recorded events) (opened_tree super entry) q

  pub met-by : (q : ℕ) → IsMet fs (Recorded events) q → IsMetBy q
  met-by q met =
      let own = tree-entry met.tree met.among in
      record {
        entry = own.0;
        has = own.1;
        reached = subst (λ (t : Root). IsReachedBy fs (Recorded events) t q) (sym own.2) met.reached;
      }

  pub by-met : (q : ℕ) → IsMetBy q → IsMet fs (Recorded events) q
  by-met q by = record {
    tree = opened_tree super by.entry;
    among = entry-tree by.entry by.has;
    reached = by.reached;
  }

  pub node-met : (q : ℕ) → IsMet fs (Recorded events) q → (node : Node) × (nodes_of fs (Recorded events) q ≡ Some node)
  node-met q met =
      let by = met-by q met in
      node-opened by.entry by.has q by.reached

  pub placed-opened : (q : ℕ) → IsMet fs (Recorded events) q → IsTrue (is_slot fs.land.space.sizes q)
  placed-opened q met =
      let node = node-met q met in
      slot-opened q node.0 node.1

  pub reached-listed : (q : ℕ) → IsMet fs (Recorded events) q → (node : Node)
      → nodes_of fs (Recorded events) q ≡ Some node → Contains (opened_nodes super (content events)) node
  reached-listed q met node is =
      let by = met-by q met in
      has-flat (λ (e : ℕ × RootItem). nodes_of_root Files super (content events) e.1)
      (subvolume_roots (roots_in super (content events))) by.entry node by.has
      (reached_listed by.entry by.has q by.reached node is)

  -- a node that is listed is reached, and told where it lies
  pub record IsThere (node : Node) : Type 0 where
    pub met : IsMet fs (Recorded events) (header_of node).address
    pub is : nodes_of fs (Recorded events) (header_of node).address ≡ Some node

  pub listed-there : (node : Node) → Contains (opened_nodes super (content events)) node → IsThere node
  listed-there node has =
      let found = from-flat (λ (e : ℕ × RootItem). nodes_of_root Files super (content events) e.1)
      (subvolume_roots (roots_in super (content events))) node has in
      let there = listed_there found.0 found.1 node found.2 in
      record {
        met = by-met (header_of node).address
            (record { entry = found.0; has = found.1; reached = there.0 });
        is = there.1;
      }

  pub met-slot : (q : ℕ) → IsMet fs (Recorded events) q → Contains fs.land.space.slots q
  met-slot q met =
      let node = node-met q met in
      let has = has-mapped (λ (n : Node). (header_of n).address) (opened_nodes super (content events)) node.0
      (reached-listed q met node.0 node.1) in
      (opened.slots q).1 (subst (λ (a : ℕ). Contains (addresses_of (opened_nodes super (content events))) a)
      (lies-opened q node.0 node.1) has)

  pub slot-met : (q : ℕ) → Contains fs.land.space.slots q → IsMet fs (Recorded events) q
  slot-met q has =
      let node = from-mapped (λ (n : Node). (header_of n).address) (opened_nodes super (content events)) q
      ((opened.slots q).0 has) in
      subst (λ (a : ℕ). IsMet fs (Recorded events) a) node.2 (listed-there node.0 node.1).met

  -- ---- each tree stands

  pub rooted-opened : (entry : ℕ × RootItem)
      → Contains (subvolume_roots (roots_in super (content events))) entry
      → IsRooted Files (opened_tree super entry) fs.land (Recorded events)
      (items_of_root Files super (content events) entry.1)
  rooted-opened entry has = record {
    tells = tells entry has;
    apart = λ q free reached. free-apart fs.land.space q free
        (opened.held_slots q (met-slot q
        (record { tree = opened_tree super entry; among = entry-tree entry has; reached = reached })));
    short = items-short super.generation (items_of_root Files super (content events) entry.1)
        (own-opened entry has).held;
  }
