-- The trees of a plan can be laid out. Weights are in bytes.
use Rattle.std.proofs.Common.{◌≡◌, ℕ, ◌+◌, ◌-◌, ◌*◌, ◌/◌, ◌<◌, ◌≤◌, Bool, true, false, List, [], ◌∷◌, length, map}
use Rattle.std.proofs.Common.{Option, Some, None, inl, inr, refl, sym, ap, subst, ◌∙◌, arith}
use Rattle.std.specs.Prelude.{◌==◌, ◌&&◌, All, IsTrue, if◌then◌else◌}
use Rattle.std.specs.BTreeMap.{is_at}
use Rattle.std.specs.List.{Contains, list_any}
use Rattle.std.specs.List.Sorted.{IsStrictlyIncreasing}
use Rattle.std.specs.Ordering.{nat_cmp}
use Rattle.std.proofs.Math.Nat.{div-mul-le_self}
use Rattle.std.proofs.lemmas.List.{length-map}
use Rattle.std.proofs.lemmas.List.Elements.{All-contains, recursion_from_All}
use Rattle.std.proofs.lemmas.List.Sorted.{Contains-permutation, IsPermutation-sym}
use Rattle.std.proofs.lemmas.Nat.{le-div}
use Rattle.qg_num.specs.declared.counters.Counters.{Counters}
use Rattle.qg_node.specs.NodeText.{IsNodeSize}
use Rattle.qg_node.specs.Nodes.{items_bytes}
use Rattle.qg_items.specs.declared.root.RootItem.{RootItem}
use Rattle.qg_items.specs.declared.tree.TheConstants.{TOP_LEVEL}
use Rattle.qg_super.specs.Places.{capacity}
use Rattle.qg_image.specs.ItemMeaning.{is_subvolume_number}
use Rattle.qg_image.specs.Table.{has_key, keys_of, value_at}
use Rattle.qg_image.specs.declared.quota.Group.{Group}
use Rattle.qg_image.specs.declared.quota.Quota.{Quota}
use Rattle.qg_image.specs.Need.{nodes_filled}
use Rattle.qg_image.specs.Members.{hierarchy_of}
use Rattle.qg_image.specs.Verdict.{is_group_number}
use Rattle.qg_qgroups.specs.Groups.{IsSound}
use Rattle.qg_reach.proofs.Members.{contains_map, one_mapped}
use Rattle.qg_owner_rule.proofs.Reaching.{value_of_entry}
use Rattle.qg_root_items.specs.Writable.{IsRootBy}
use Rattle.qg_extents.specs.Written.{items_of_book}
use Rattle.qg_tree_read.specs.Tree.{Root}
use Rattle.qg_open_image.specs.Standing.{trees_of}
use Rattle.qg_qgroups.specs.Tracked.{SameButCounts, quota_of}
use Rattle.qg_open_image.specs.Editable.{AreGroups, AreGroupsOf, AreSubvolumes}
use Rattle.qg_open_image.specs.Trees.{AreEnough, nodes_of_trees, quota_tree_bytes, root_tree_bytes}
use Rattle.qg_open_image.specs.FsLawsKeeping.{group_after, quota_after, quota_laid}
use Rattle.qg_open_image.specs.FsLawsCommitting.{IsRootNow}
use Rattle.qg_open_image.specs.declared.open_image.OpenImage.{OpenImage}
use Rattle.qg_open_image.specs.declared.open_image.KeptSubvolume.{KeptSubvolume}
use Rattle.qg_image_commits.specs.declared.planning.Plan.{Plan}
use Rattle.qg_image_commits.specs.Committing.{AreRootsOf, IsPlanOf}
use Rattle.qg_open_image.specs.Keeping.{IsFitted, book_weight, quota_weight, root_weight}
use Rattle.qg_image_commits.specs.Planning.{IsPlanSo}
use Rattle.qg_open_image.proofs.Looked.{node-size}
use Rattle.qg_image_commits.proofs.OnOff.{bytes-recounted, laid-recounted, roots-recounted}
use Rattle.qg_open_image.proofs.Early.{All-from-contains, IsEarly, early-known, key_by}

div-more : (a b k : ℕ) → 0 < k → a ≤ b → a / k ≤ b / k
div-more a b k some more = le-div (a / k) b k some (omega (arith, div-mul-le_self a k, more))

some-capacity : (nodesize : ℕ) → IsNodeSize nodesize → 0 < capacity nodesize
some-capacity nodesize (inl is) = omega (arith, is)
some-capacity nodesize (inr is) = omega (arith, is)

fewer-filled : (nodesize light heavy : ℕ) → IsNodeSize nodesize → light ≤ heavy
    → nodes_filled nodesize light ≤ nodes_filled nodesize heavy
fewer-filled nodesize light heavy size less =
    div-more (light + (capacity nodesize - 1)) (heavy + (capacity nodesize - 1)) (capacity nodesize)
    (some-capacity nodesize size) (omega (arith, less))

-- a stamp is the one before, or the generation's
stamp-by : (same : Bool) (before generation : ℕ) → before ≤ generation
    → (if same then before else generation) ≤ generation
stamp-by true before generation early = early
stamp-by false before generation early = omega arith

three-trees : (book root quota given more most need : ℕ) → book ≤ given → root ≡ more → quota ≡ most
    → 5 * (given + more + most) + 3 ≤ need → 5 * (book + root + quota) + 3 ≤ need
three-trees book root quota given more most need less same other enough = omega (arith, less, same, other, enough)

-- ---- the ROOT_ITEMs

module _ (kept : OpenImage) (fits : IsFitted kept) (roots : List (ℕ × RootItem)) (are : AreRootsOf kept roots)
    (known : All (λ entry. entry.1.what.generation ≤ kept.fs.tree.next) kept.fs.refs.refs) where
  -- a root's generation is one that is known, and its snapshot one that is told
  root_by : (tree : Root) (snapshot : ℕ) (root : RootItem) → IsRootNow kept.fs tree snapshot root
      → snapshot ≤ kept.fs.tree.next → IsRootBy kept.fs.tree.next root
  root_by tree snapshot root now early = record {
    made = subst (λ (r : RootItem). r.generation ≤ kept.fs.tree.next) (sym now.root_is)
        (early-known kept.fs.tree.next now.what (is_at (nat_cmp tree.address)) kept.fs.refs.refs
        (recursion_from_All (IsEarly kept.fs.tree.next) kept.fs.refs.refs known) now.known);
    copied = subst (λ (r : RootItem). r.last_snapshot ≤ kept.fs.tree.next) (sym now.root_is) early;
  }

  ascending : IsStrictlyIncreasing (keys_of roots)
  ascending = subst (λ (ns : List ℕ). IsStrictlyIncreasing ns) (sym are.numbers) fits.subvolumes.ascending

  -- the snapshot of a ROOT_ITEM's number
  snapshot_at : (entry : ℕ × RootItem) → Contains roots entry
      → (snapshot : ℕ × KeptSubvolume) × Contains kept.snapshots snapshot × (snapshot.0 ≡ entry.0)
  snapshot_at entry has =
      one_mapped (λ (e : ℕ × KeptSubvolume). e.0) kept.snapshots entry.0
      (subst (λ (ns : List ℕ). Contains ns entry.0) are.numbers
      (contains_map (λ (e : ℕ × RootItem). e.0) roots entry has))

  -- the tree of a ROOT_ITEM's number
  tree_at : (entry : ℕ × RootItem) → Contains roots entry
      → (tree : Root) × Contains (trees_of kept.fs) tree × (tree.owner ≡ entry.0)
  tree_at entry has =
      let among = subst (λ (ns : List ℕ). Contains ns entry.0) are.numbers
      (contains_map (λ (e : ℕ × RootItem). e.0) roots entry has) in
      one_mapped (λ (t : Root). t.owner) (trees_of kept.fs) entry.0
      (Contains-permutation (keys_of kept.snapshots) (map (λ (t : Root). t.owner) (trees_of kept.fs)) entry.0
      (IsPermutation-sym (map (λ (t : Root). t.owner) (trees_of kept.fs)) (keys_of kept.snapshots) fits.trees) among)

  pub root-now : (entry : ℕ × RootItem) → Contains roots entry
      → (tree : Root) × (snapshot : ℕ × KeptSubvolume) × Contains kept.snapshots snapshot × (snapshot.0 ≡ entry.0)
      × IsRootNow kept.fs tree snapshot.1.last_snapshot entry.1
  root-now entry has =
      let tree = tree_at entry has in
      let snapshot = snapshot_at entry has in
      let value = value_of_entry kept.snapshots snapshot.0 fits.subvolumes.ascending snapshot.1 in
      let there = ap (λ (n : ℕ). value_at n kept.snapshots) (tree.2 ∙ sym snapshot.2) ∙ value in
      let named = ap (λ (n : ℕ). value_at n roots) tree.2 ∙ value_of_entry roots entry ascending has in
      (tree.0, snapshot.0, snapshot.1, snapshot.2, are.each tree.0 snapshot.0.1 entry.1 tree.1 there named)

  -- each is of no later generation, and its tree has one reference
  pub each-by : (entry : ℕ × RootItem) → Contains roots entry
      → (entry.1.refs ≡ 1) × IsRootBy kept.fs.tree.next entry.1
  each-by entry has =
      let now = root-now entry has in
      let early = All-contains (λ (e : ℕ × KeptSubvolume). e.1.last_snapshot ≤ kept.fs.tree.next) kept.snapshots now.1
      fits.subvolumes.copied now.2 in
      (ap (λ (r : RootItem). r.refs) now.4.root_is, root_by now.0 now.1.1.last_snapshot entry.1 now.4 early)

  same_key : (n : ℕ) → has_key n roots ≡ has_key n kept.snapshots
  same_key n = key_by n roots ∙ ap (λ (ns : List ℕ). list_any (λ m. m == n) ns) are.numbers
      ∙ sym (key_by n kept.snapshots)

  -- the root tree can name them
  pub named-subvolumes : AreSubvolumes kept.fs.tree.next roots
  named-subvolumes = record {
    few = let many = ap (λ (ns : List ℕ). length ns) are.numbers in
        let mine = length-map roots (λ (e : ℕ × RootItem). e.0) in
        let theirs = length-map kept.snapshots (λ (e : ℕ × KeptSubvolume). e.0) in
        let few = fits.subvolumes.few in
        omega (arith, many, mine, theirs, few);
    ascending = ascending;
    numbers = All-from-contains (λ (e : ℕ × RootItem). IsTrue (is_subvolume_number e.0)) roots
        (λ entry has. let snapshot = snapshot_at entry has in
        subst (λ (n : ℕ). IsTrue (is_subvolume_number n)) snapshot.2
        (All-contains (λ (e : ℕ × KeptSubvolume). IsTrue (is_subvolume_number e.0)) kept.snapshots snapshot.0
        fits.subvolumes.numbers snapshot.1));
    top_level = same_key TOP_LEVEL ∙ fits.subvolumes.top_level;
    counted = All-from-contains (λ (e : ℕ × RootItem). e.1.refs ≡ 1) roots (λ entry has. (each-by entry has).0);
    by = All-from-contains (λ (e : ℕ × RootItem). IsRootBy kept.fs.tree.next e.1) roots
        (λ entry has. (each-by entry has).1);
  }

-- ---- the groups

module _ (generation : ℕ) (counters : ℕ → Counters) (subvolumes : List ℕ) (quota : Quota)
    (groups : AreGroups generation subvolumes quota) where
  keys_after : (table : List (ℕ × Group)) → keys_of (map (group_after generation counters) table) ≡ keys_of table
  keys_after [] = refl
  keys_after (entry ∷ table) = ap (λ (ns : List ℕ). entry.0 ∷ ns) (keys_after table)

  pub keys-then : keys_of (quota_after generation counters quota).groups ≡ keys_of quota.groups
  keys-then = keys_after quota.groups

  before : (entry : ℕ × Group) → Contains (quota_after generation counters quota).groups entry
      → (old : ℕ × Group) × Contains quota.groups old × (group_after generation counters old ≡ entry)
  before entry has = one_mapped (group_after generation counters) quota.groups entry has

  -- the quota tree can tell them with other counters
  pub told-groups : AreGroups generation subvolumes (quota_after generation counters quota)
  told-groups = record {
    few = let many = length-map quota.groups (group_after generation counters) in
        let few = groups.few in
        omega (arith, many, few);
    ascending = subst (λ (ns : List ℕ). IsStrictlyIncreasing ns) (sym keys-then) groups.ascending;
    numbers = All-from-contains (λ (e : ℕ × Group). IsTrue (is_group_number e.0))
        (quota_after generation counters quota).groups
        (λ entry has. let old = before entry has in
        subst (λ (n : ℕ). IsTrue (is_group_number n)) (ap (λ (e : ℕ × Group). e.0) old.2)
        (All-contains (λ (e : ℕ × Group). IsTrue (is_group_number e.0)) quota.groups old.0 groups.numbers old.1));
    own = All-from-contains (λ (sub : ℕ). IsTrue (has_key sub (quota_after generation counters quota).groups))
        subvolumes
        (λ sub has.
        key_by sub (quota_after generation counters quota).groups
        ∙ ap (λ (ns : List ℕ). list_any (λ m. m == sub) ns) keys-then ∙ sym (key_by sub quota.groups)
        ∙ All-contains (λ (s : ℕ). IsTrue (has_key s quota.groups)) subvolumes sub groups.own has);
    stamped = All-from-contains (λ (e : ℕ × Group). e.1.stamp ≤ generation)
        (quota_after generation counters quota).groups
        (λ entry has. let old = before entry has in
        subst (λ (e : ℕ × Group). e.1.stamp ≤ generation) old.2
        (stamp-by ((old.0.1.counters.rfer == (counters old.0.0).rfer)
        && (old.0.1.counters.excl == (counters old.0.0).excl))
        old.0.1.stamp generation
        (All-contains (λ (e : ℕ × Group). e.1.stamp ≤ generation) quota.groups old.0 groups.stamped old.1)));
    few_pairs = groups.few_pairs;
    sound = subst (λ (ns : List ℕ). IsSound (record (hierarchy_of quota) { groups = ns })) (sym keys-then) groups.sound;
  }

-- so it is of quota that may be off
pub told-of : (generation : ℕ) (counters : ℕ → Counters) (subvolumes : List ℕ) (quota : Option Quota)
    → AreGroupsOf generation subvolumes quota
    → AreGroupsOf generation subvolumes (quota_laid generation counters quota)
told-of generation counters subvolumes None groups = tt
told-of generation counters subvolumes (Some quota) groups =
    told-groups generation counters subvolumes quota groups

-- ---- the plan

module _ (kept : OpenImage) (plan : Plan) (fits : IsFitted kept) (so : IsPlanSo kept plan) where
  is : IsPlanOf kept so.counters plan
  is = so.is

  pub plan-named : AreSubvolumes kept.fs.tree.next plan.roots
  plan-named = named-subvolumes kept fits plan.roots is.roots is.earlier

  pub plan-told : AreGroupsOf kept.fs.tree.next (keys_of plan.roots) plan.quota
  plan-told =
      subst (λ (numbers : List ℕ). AreGroupsOf kept.fs.tree.next numbers plan.quota) (sym is.roots.numbers)
      (subst (λ (quota : Option Quota). AreGroupsOf kept.fs.tree.next (keys_of kept.snapshots) quota) (sym is.quota)
      (told-of kept.fs.tree.next so.counters (keys_of kept.snapshots) (quota_of kept.quota) fits.groups))

  -- its groups and relations are those that are kept
  pub plan-recounted : SameButCounts (quota_of kept.quota) plan.quota
  plan-recounted =
      subst (λ (quota : Option Quota). SameButCounts (quota_of kept.quota) quota) (sym is.quota)
      (laid-recounted kept.fs.tree.next so.counters (quota_of kept.quota))

  root_count : length plan.roots ≡ length kept.snapshots
  root_count =
      let many = ap (λ (ns : List ℕ). length ns) is.roots.numbers in
      let mine = length-map plan.roots (λ (e : ℕ × RootItem). e.0) in
      let theirs = length-map kept.snapshots (λ (e : ℕ × KeptSubvolume). e.0) in
      omega (arith, many, mine, theirs)

  root_bytes : root_tree_bytes (length plan.roots) plan.quota ≡ root_weight kept
  root_bytes =
      roots-recounted (quota_of kept.quota) plan.quota (length kept.snapshots) (length plan.roots) root_count
      plan-recounted

  quota_bytes : quota_tree_bytes plan.quota ≡ quota_weight kept
  quota_bytes = bytes-recounted (quota_of kept.quota) plan.quota plan-recounted

  pub room : items_bytes (items_of_book kept.fs.refs.refs) ≤ book_weight kept
      → AreEnough (5 * nodes_of_trees kept.superblock.nodesize kept.fs.refs.refs plan.roots plan.quota + 3) plan.slots
  room light =
      let nodesize = kept.superblock.nodesize in
      let fewer = fewer-filled nodesize (items_bytes (items_of_book kept.fs.refs.refs)) (book_weight kept)
      (node-size kept fits) light in
      let roots = ap (λ (n : ℕ). nodes_filled nodesize n) root_bytes in
      let groups = ap (λ (n : ℕ). nodes_filled nodesize n) quota_bytes in
      let enough = is.enough in
      record {
        apart = is.free.apart;
        few = is.few;
        enough = three-trees (nodes_filled nodesize (items_bytes (items_of_book kept.fs.refs.refs)))
            (nodes_filled nodesize (root_tree_bytes (length plan.roots) plan.quota))
            (nodes_filled nodesize (quota_tree_bytes plan.quota))
            (nodes_filled nodesize (book_weight kept)) (nodes_filled nodesize (root_weight kept))
            (nodes_filled nodesize (quota_weight kept)) (length plan.slots) fewer roots groups enough;
      }
