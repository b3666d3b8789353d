-- A disk to which the calls were made that write a fresh image holds it: it is sound, and its state is fresh.
use Rattle.std.proofs.Common.{◌≡◌, ℕ, ◌-◌, ◌≤◌, ◌<◌, ◌^◌, inl, inr, true, List, [], ◌∷◌, ◌++◌, length, drop, take, Some}
use Rattle.std.proofs.Common.{Ok, refl, sym, ap, subst, ◌∙◌, arith, lit<}
use Rattle.std.specs.Prelude.{IsTrue, All}
use Rattle.std.specs.List.{AllByRecursion}
use Rattle.std.specs.List.Sorted.{IsPermutation}
use Rattle.std.proofs.lemmas.List.{length-replicate}
use Rattle.std.proofs.lemmas.List.Elements.{All-from_recursion, recursion_from_All}
use Rattle.std.proofs.lemmas.List.Sorted.{Contains-permutation, length_permutation}
use Rattle.qg_num.specs.Fields.{zeros}
use Rattle.qg_device.specs.History.{Event, Recorded, Wrote, Cut, content}
use Rattle.qg_disk.proofs.Sizes.{length-overlay}
use Rattle.qg_node.specs.declared.node.Node.{Node}
use Rattle.qg_node.specs.Nodes.{header_of}
use Rattle.qg_node.specs.NodeText.{IsNode, IsNodeSize}
use Rattle.qg_node.specs.Fits.{NodeFits}
use Rattle.qg_node.proofs.Again.{text_again}
use Rattle.qg_super.specs.declared.sizes.Sizes.{Sizes}
use Rattle.qg_super.specs.declared.superblock.Super.{Super}
use Rattle.qg_super.specs.Places.{is_served, is_slot, slot_at, sector, total_bytes}
use Rattle.qg_super.specs.SuperText.{is_super}
use Rattle.qg_super.proofs.Served.{SizesFit-is_served}
use Rattle.qg_image.specs.State.{State}
use Rattle.qg_image.proofs.Contained.{contains_cases, contains_here, none_contained}
use Rattle.qg_image.specs.Walk.{node_found}
use Rattle.qg_image.specs.IsFresh.{fresh_leaf, fresh_state}
use Rattle.qg_tree_layout.specs.Build.{IsMadeFor}
use Rattle.qg_extents.specs.Fresh.{fresh_table}
use Rattle.qg_extents.specs.Table.{IsTable}
use Rattle.qg_other_trees.specs.declared.laying.OtherTrees.{OtherTrees}
use Rattle.qg_other_trees.specs.Holds.{HasCommit, HoldsLayout}
use Rattle.qg_other_trees.specs.Sound.{IsCommitted}
use Rattle.qg_other_trees.specs.Trees.{nodes_laid, quota_nodes_laid}
use Rattle.qg_other_trees.proofs.QuotaTree.{quota_made, quota_same, quota_walked}
use Rattle.qg_other_trees.proofs.Sound.{committed_others, is_committed}
use Rattle.qg_commit.specs.Calls.{IsReadBack, IsWritable, with_image}
use Rattle.qg_commit.specs.Fresh.{AreFreshTrees, extent_items, fresh_nodes, fresh_quota, fresh_roots, fresh_slots}
use Rattle.qg_commit.specs.Fresh.{fresh_super, own_leaf, quota_items, root_items}
use Rattle.qg_commit.specs.Mkfs.{HoldsFreshImage, IsFreshImage}
use Rattle.qg_commit.proofs.CommitCalls.{OfEach}
use Rattle.qg_commit.proofs.FreshState.{before, counts, home, leaf_fits, leaf_format, runs, space, told, whole}
use Rattle.qg_commit.proofs.FreshTrees.{extents_leaf, first_slots-IsDistinct, fresh_slots-IsDistinct, low_slot-is_slot}
use Rattle.qg_commit.proofs.FreshTrees.{quotas_laid, roots_leaf, superblock_is}
use Rattle.qg_commit.proofs.Placed.{placed-AreCommittable}
use Rattle.qg_commit.proofs.Written.{AreCommittable, with_commit-HasCommit}

-- ---- lists

-- what is moved by itself stays
alone_moved : (nodes : List Node) (node : Node) → IsPermutation nodes (node ∷ []) → nodes ≡ node ∷ []
alone_moved [] node moved = absurd (omega (arith, length_permutation [] (node ∷ []) moved))
alone_moved (first ∷ []) node moved =
    let has = Contains-permutation (first ∷ []) (node ∷ []) first moved (contains_here first []) in
    elim (contains_cases node [] first has) [
      | inl same ↦ ap (λ (n : Node). n ∷ []) (sym same)
      | inr none ↦ absurd (none_contained first none)
    ]
alone_moved (first ∷ second ∷ nodes) node moved =
    absurd (omega (arith, length_permutation (first ∷ second ∷ nodes) (node ∷ []) moved))

three_joined : (a b c : List Node) (x y z : Node) → a ≡ x ∷ [] → b ≡ y ∷ [] → c ≡ z ∷ [] → a ++ b ++ c ≡ x ∷ y ∷ z ∷ []
three_joined a b c x y z first second third = rw (first, second, third) refl

-- ---- the other trees of a state

-- ---- the leaves

-- a node of the format whose numbers fit their fields
record IsSayable (nodesize : ℕ) (node : Node) : Type 0 where
  format : IsNode nodesize node
  fits : NodeFits node

made_sayable : (nodesize owner : ℕ) (nodes : List Node) (node : Node) → nodes ≡ node ∷ []
    → AllByRecursion (IsMadeFor nodesize owner 1) nodes → IsSayable nodesize node
made_sayable nodesize owner nodes node are made =
    let one = subst (AllByRecursion (IsMadeFor nodesize owner 1)) are made in
    record { format = one.0.node_of_format; fits = one.0.fits }

-- the slots of the four leaves
abbrev own_slots : Sizes → List ℕ
own_slots sizes = slot_at sizes 0 ∷ slot_at sizes 1 ∷ slot_at sizes 2 ∷ slot_at sizes 3 ∷ []

slots_are : (sizes : Sizes) → is_served sizes ≡ true
    → AllByRecursion (λ slot. IsTrue (is_slot sizes slot)) (own_slots sizes)
slots_are sizes served =
    let is = λ (k : ℕ) (below : k < 64). low_slot-is_slot sizes k served below in
    (is 0 (lit< tt), (is 1 (lit< tt), (is 2 (lit< tt), (is 3 (lit< tt), tt))))

module _ (sizes : Sizes) (trees : OtherTrees) (served : is_served sizes ≡ true) (is : is_super trees.superblock ≡ true)
    (are : AreFreshTrees sizes trees) where
  abbrev super : Super
  super = fresh_super sizes (slot_at sizes 0)

  abbrev nodes : List Node
  nodes = fresh_nodes sizes

  abbrev root_leaf : Node
  root_leaf = fresh_leaf 1 (slot_at sizes 0) (root_items (slot_at sizes 1) (slot_at sizes 2) (slot_at sizes 3))

  abbrev extent_leaf : Node
  extent_leaf = fresh_leaf 2 (slot_at sizes 1) (extent_items (slot_at sizes 2))

  abbrev quota_leaf : Node
  quota_leaf = fresh_leaf 8 (slot_at sizes 3) (quota_items sizes.nodesize)

  pub size : IsNodeSize sizes.nodesize
  size = (SizesFit-is_served sizes served).node_size

  pub super_is : trees.superblock ≡ super
  super_is = superblock_is sizes trees served are

  super_fits : is_super super ≡ true
  super_fits = subst (λ (s : Super). is_super s ≡ true) super_is is

  roots_are : trees.roots.nodes ≡ root_leaf ∷ []
  roots_are = (roots_leaf sizes trees served are).nodes_are

  extents_are : trees.extents.nodes ≡ extent_leaf ∷ []
  extents_are = (extents_leaf sizes trees served are).nodes_are

  quotas_are : quota_nodes_laid trees.quotas ≡ quota_leaf ∷ []
  quotas_are = quotas_laid sizes trees served are

  -- the quota tree lies behind the extent tree
  abbrev behind : List ℕ
  behind = drop (length trees.extents.nodes) (fresh_slots sizes)

  quotas_made : AllByRecursion (IsMadeFor sizes.nodesize 8 1) (quota_nodes_laid trees.quotas)
  quotas_made = quota_made sizes.nodesize 1 (Some (fresh_quota sizes.nodesize)) behind trees.quotas are.quota_tree

  abbrev quotas_walked : List Node
  quotas_walked = quota_walked sizes.nodesize 1 (Some (fresh_quota sizes.nodesize)) behind trees.quotas are.quota_tree

  quotas_same : IsPermutation quotas_walked (quota_nodes_laid trees.quotas)
  quotas_same = quota_same sizes.nodesize 1 (Some (fresh_quota sizes.nodesize)) behind trees.quotas are.quota_tree

  abbrev Sayable : Node → Type 0
  Sayable = IsSayable sizes.nodesize

  sayable : AllByRecursion Sayable nodes
  sayable =
      let roots = made_sayable sizes.nodesize 1 _ _ roots_are are.root_tree.stands.made in
      let extents = made_sayable sizes.nodesize 2 _ _ extents_are are.extent_tree.stands.made in
      let own : Sayable (own_leaf sizes) =
      record { format = leaf_format sizes served; fits = leaf_fits sizes served } in
      let quotas = made_sayable sizes.nodesize 8 _ _ quotas_are quotas_made in
      (roots, (extents, (own, (quotas, tt))))

  formats : All (IsNode sizes.nodesize) nodes
  formats =
      All-from_recursion (IsNode sizes.nodesize) nodes
      (sayable.0.format, (sayable.1.0.format, (sayable.1.1.0.format, (sayable.1.1.1.0.format, tt))))

  low : sizes.nodesize < 2 ^ 32
  low = omega (arith, (SizesFit-is_served sizes served).nodesize)

  back : (node : Node) → Sayable node → IsReadBack sizes.nodesize node
  back node can = text_again sizes.nodesize node low can.fits can.format

  reads : All (IsReadBack sizes.nodesize) nodes
  reads =
      All-from_recursion (IsReadBack sizes.nodesize) nodes
      (back _ sayable.0, (back _ sayable.1.0, (back _ sayable.1.1.0, (back _ sayable.1.1.1.0, tt))))

  committable : AreCommittable super nodes
  committable =
      placed-AreCommittable super (own_slots sizes) nodes super_fits
      (All-from_recursion (λ slot. IsTrue (is_slot sizes slot)) (own_slots sizes) (slots_are sizes served))
      (first_slots-IsDistinct sizes served) refl formats

  -- each can be written
  pub leaves-writable : OfEach (IsWritable sizes.nodesize) trees.roots.nodes trees.extents.nodes
      (own_leaf sizes ∷ []) (quota_nodes_laid trees.quotas)
  leaves-writable =
      let can = committable.writable in
      record {
        first = rw roots_are (can.0, tt);
        second = rw extents_are (can.1.0, tt);
        third = (can.1.1.0, tt);
        fourth = rw quotas_are (can.1.1.1.0, tt);
      }

  -- ---- what the calls leave

  -- what was done before the commit makes the disk as long as the image
  abbrev emptied : List Event → List Event
  emptied events = Wrote (total_bytes sizes - sector) (zeros sector) ∷ Cut 0 ∷ events

  long : (events : List Event) → total_bytes sizes ≤ length (content (emptied events))
  long events =
      let whole = length-overlay (total_bytes sizes - sector) (zeros sector) (take 0 (content events)) in
      omega (arith, whole, length-replicate {A = ℕ} 4096 0)

  has : (events : List Event) → HasCommit super nodes (content (with_image super nodes events))
  has events = with_commit-HasCommit super nodes (emptied events) super_fits (long events) committable reads

  module _ (table : IsTable (fresh_table sizes.nodesize (slot_at sizes 2))) (events : List Event) where
    abbrev image : List ℕ
    image = content (with_image super nodes events)

    abbrev IsThere : Super → Node → Type 0
    IsThere s node = node_found s image (header_of node).address ≡ Ok node

    there : AllByRecursion (IsThere super) nodes
    there = recursion_from_All (IsThere super) nodes (has events).found

    -- the other trees
    laid_are : nodes_laid trees ≡ root_leaf ∷ extent_leaf ∷ quota_leaf ∷ []
    laid_are = three_joined _ _ _ root_leaf extent_leaf quota_leaf roots_are extents_are quotas_are

    has_three : HasCommit super (root_leaf ∷ extent_leaf ∷ quota_leaf ∷ []) image
    has_three = record {
      first = (has events).first;
      second = (has events).second;
      long = (has events).long;
      found = All-from_recursion (IsThere super) (root_leaf ∷ extent_leaf ∷ quota_leaf ∷ [])
          (there.0, (there.1.0, (there.1.1.1.0, tt)));
    }

    has_laid : HasCommit trees.superblock (nodes_laid trees) image
    has_laid =
        subst (λ (s : Super). HasCommit s (nodes_laid trees) image) (sym super_is)
        (subst (λ (list : List Node). HasCommit super list image) (sym laid_are) has_three)

    -- the subvolume's leaf
    has_own : HoldsLayout trees.superblock image (before sizes served).layout
    has_own = (subst (λ (s : Super). IsThere s (own_leaf sizes)) (sym super_is) there.1.1.0, tt)

    commits : IsCommitted trees (before sizes served) (Some (fresh_quota sizes.nodesize)) (fresh_slots sizes) image
    commits =
        is_committed sizes (fresh_roots (slot_at sizes 2)) (fresh_table sizes.nodesize (slot_at sizes 2))
        (Some (fresh_quota sizes.nodesize)) (fresh_slots sizes) trees (before sizes served) image (whole sizes served)
        (fresh_slots-IsDistinct sizes served) are (told sizes served table) has_laid has_own (runs sizes served)
        (space sizes served) (counts sizes served) (home sizes served)

    others_are : commits.others ≡ root_leaf ∷ extent_leaf ∷ quota_leaf ∷ []
    unfolding commits
    others_are =
        let roots = are.root_tree.stands.reached in
        let extents = are.extent_tree.stands.reached in
        committed_others sizes (fresh_roots (slot_at sizes 2)) (fresh_table sizes.nodesize (slot_at sizes 2))
        (Some (fresh_quota sizes.nodesize)) (fresh_slots sizes) trees (before sizes served) image (whole sizes served)
        (fresh_slots-IsDistinct sizes served) are (told sizes served table) has_laid has_own (runs sizes served)
        (space sizes served) (counts sizes served) (home sizes served)
        ∙ three_joined roots.those extents.those quotas_walked root_leaf extent_leaf quota_leaf
        (alone_moved roots.those root_leaf (subst (IsPermutation roots.those) roots_are roots.same))
        (alone_moved extents.those extent_leaf (subst (IsPermutation extents.those) extents_are extents.same))
        (alone_moved quotas_walked quota_leaf (subst (IsPermutation quotas_walked) quotas_are quotas_same))

    abbrev state : State
    state = fresh_state sizes commits.others (slot_at sizes 2)

    is_fresh : IsFreshImage sizes image
    is_fresh = record {
      state = state;
      stands = commits.stands;
      fresh = record {
        root = slot_at sizes 2;
        roots = slot_at sizes 0;
        root_items = root_items (slot_at sizes 1) (slot_at sizes 2) (slot_at sizes 3);
        extents = slot_at sizes 1;
        extent_items = extent_items (slot_at sizes 2);
        quotas = slot_at sizes 3;
        quota_items = quota_items sizes.nodesize;
        others = commits.others;
        leaves = others_are;
        fresh = refl;
        trees = commits.told.tell;
        apart = first_slots-IsDistinct sizes served;
        in_slots = rw (
          low_slot-is_slot sizes 0 served (lit< tt),
          low_slot-is_slot sizes 1 served (lit< tt),
          low_slot-is_slot sizes 2 served (lit< tt),
          low_slot-is_slot sizes 3 served (lit< tt),
        ) refl;
      };
    }

    -- what a disk holds after the calls that make an image
    pub made-HoldsFreshImage : HoldsFreshImage sizes (Recorded (with_image super nodes events))
    made-HoldsFreshImage = record { events = with_image super nodes events; told = refl; image = is_fresh }
