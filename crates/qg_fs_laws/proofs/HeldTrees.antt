-- The trees of a state that is held: each is a subvolume's, and reaches the nodes of the state's layout.
use Rattle.std.proofs.Common.{◌≡◌, ◌≢◌, ◌<◌, ℕ, Bool, true, false, List, [], ◌∷◌, map, Option, Some, None, refl}
use Rattle.std.proofs.Common.{sym, ap, subst, ◌∙◌, inl, inr}
use Rattle.std.specs.Prelude.{◌==◌, not, if◌then◌else◌}
use Rattle.std.specs.List.{Contains, filter}
use Rattle.std.specs.List.Sorted.{IsStrictlyIncreasing}
use Rattle.std.specs.Option.{option_map}
use Rattle.std.proofs.lemmas.Bool.{cases_Bool, eq-eqb, eqb-true}
use Rattle.std.proofs.lemmas.List.Kept.{IsStrictlyIncreasing-filter}
use Rattle.std.proofs.lemmas.Option.{same_Some}
use Rattle.qg_device.specs.History.{History}
use Rattle.qg_node.specs.declared.node.Node.{Node}
use Rattle.qg_super.specs.declared.sizes.Sizes.{Sizes}
use Rattle.qg_super.specs.Places.{is_served, is_slot}
use Rattle.qg_image.specs.Table.{keys_of, value_at, without_key}
use Rattle.qg_image.specs.Reach.{level_of}
use Rattle.qg_image.specs.State.{Layout, Placed, State, Subvolume, layout_of, next_generation, node_at}
use Rattle.qg_image.proofs.Contained.{contains_cases, contains_here, contains_later}
use Rattle.qg_owner_rule.proofs.Reaching.{entry_of_value, value_of_entry}
use Rattle.qg_space.proofs.Marks.{SlotsFit-is_served}
use Rattle.qg_space.proofs.Members.{contains_filter, filter_contains}
use Rattle.qg_node_alloc.specs.Land.{IsDrafted}
use Rattle.qg_tree_read.specs.Tree.{Reaches, Root}
use Rattle.qg_tree_read.proofs.BranchFrames.{reach-same}
use Rattle.qg_file_edits.specs.ForestStanding.{HoldsState, tree_of}
use Rattle.qg_file_edits.proofs.ForestExtents.{AreApart, apart-held, node-met}
use Rattle.qg_file_edits.proofs.Meeting.{IsMet as IsMetIn, met-there, placed-there, root-valued}
use Rattle.qg_file_edits.proofs.ForestRoots.{root_level-value, root_of-value}
use Rattle.qg_file_edits.proofs.Snapshotted.{root_entry}
use Rattle.qg_file_edits.specs.Types.{FsTree}
use Rattle.qg_file_edits.specs.Standing.{IsReachedBy, layout_in, nodes_of, roots_of, trees_of}
use Rattle.qg_file_edits.proofs.Lists.{from-mapped, has-mapped}
use Rattle.qg_file_edits.specs.Laying.{IsLaidOut, IsMet, IsMetAs, nodes_in}
use Rattle.qg_file_edits.proofs.Nodes.{nodes-ascend, reached-by, value-reached}
use Rattle.qg_file_edits.proofs.Reach.{reach-on}
use Rattle.qg_file_edits.proofs.Roots.{root-tree, roots-ascend, tree-root}
use Rattle.qg_reach.proofs.Ascending.{tables_same}
use Rattle.qg_fs_laws.specs.Keeping.{AreTreesOf, IsKept}

-- ---- lists and tables

differs_from : (a b : ℕ) → not (a == b) ≡ true → a ≢ b
differs_from a b differs same =
    let wrong : not true ≡ true = ap not (sym (eq-eqb a b same)) ∙ differs in
    cc

owners_are : (state : State) (numbers : List ℕ)
    → map (λ (tree : Root). tree.owner) (map (tree_of state) numbers) ≡ numbers
owners_are state [] = refl
owners_are state (number ∷ numbers) = ap (λ (ns : List ℕ). number ∷ ns) (owners_are state numbers)

keys_kept : {A : Type 0} (keep : ℕ → Bool) (table : List (ℕ × A))
    → keys_of (filter (λ (entry : ℕ × A). keep entry.0) table) ≡ filter keep (keys_of table)
keys_kept keep [] = refl
keys_kept {A} keep (entry ∷ table) = from (keep entry.0) (keys_kept keep table) where
  from : (b : Bool) → keys_of (filter (λ (e : ℕ × A). keep e.0) table) ≡ filter keep (keys_of table)
      → keys_of (if b then entry ∷ filter (λ (e : ℕ × A). keep e.0) table
      else filter (λ (e : ℕ × A). keep e.0) table)
      ≡ (if b then entry.0 ∷ filter keep (keys_of table) else filter keep (keys_of table))
  from true rest = ap (λ (ns : List ℕ). entry.0 ∷ ns) rest
  from false rest = rest

entries_keys : (table : List (ℕ × Subvolume)) → keys_of (map root_entry table) ≡ keys_of table
entries_keys [] = refl
entries_keys (entry ∷ table) = ap (λ (ns : List ℕ). entry.0 ∷ ns) (entries_keys table)

options_same : {A : Type 0} (o p : Option A) → ((x : A) → o ≡ Some x → p ≡ Some x)
    → ((x : A) → p ≡ Some x → o ≡ Some x) → o ≡ p
options_same None None into back = refl
options_same None (Some x) into back = back x refl
options_same (Some x) p into back = sym (into x refl)

pub rooted_by : (o : Option Subvolume) (root : ℕ) → option_map (λ (s : Subvolume). s.root) o ≡ Some root
    → (subvolume : Subvolume) × (o ≡ Some subvolume) × (subvolume.root ≡ root)
rooted_by None root is = let wrong : ◌≡◌ {A = Option ℕ} None (Some root) = is in absurd cc
rooted_by (Some subvolume) root is = (subvolume, refl, same_Some subvolume.root root is)

layout_alike : (a b : Layout) → a.nodesize ≡ b.nodesize → a.roots ≡ b.roots → a.nodes ≡ b.nodes → a ≡ b
layout_alike a b size roots nodes = λ i. let layout : Layout = record {
  nodesize = size i;
  roots = roots i;
  nodes = nodes i;
} in layout

-- ---- trees

-- a tree is that of a subvolume
pub record IsTreeIn (state : State) (tree : Root) : Type 0 where
  pub subvolume : Subvolume
  pub value : value_at tree.owner state.subvolumes ≡ Some subvolume
  pub root : tree.address ≡ subvolume.root
  pub level : tree.height ≡ level_of (node_at state.layout subvolume.root)
  pub next : tree.next ≡ next_generation state

tree-in : (state : State) (number : ℕ) (subvolume : Subvolume) → value_at number state.subvolumes ≡ Some subvolume
    → IsTreeIn state (tree_of state number)
tree-in state number subvolume there = record {
  subvolume = subvolume;
  value = there;
  root = root_of-value state number subvolume there;
  level = root_level-value state number subvolume there;
  next = refl;
}

module _ (fs : FsTree) (history : History) (bytes : ℕ) (state : State) (mine : Subvolume)
    (kept : IsKept fs history bytes) (held : HoldsState fs.land history fs.refs state) (trees : AreTreesOf fs state)
    (there : value_at fs.tree.owner state.subvolumes ≡ Some mine) where
  pub drafted-held : IsDrafted fs.land fs.tree.next
  drafted-held = kept.subvolume.editable.drafted

  pub served-held : is_served fs.land.space.sizes ≡ true
  served-held = drafted-held.sizes.served

  pub some_bytes : 0 < fs.land.space.sizes.nodesize
  some_bytes = (SlotsFit-is_served fs.land.space.sizes served-held).some

  pub next-held : next_generation state ≡ fs.tree.next
  next-held = sym (ap (λ (t : Root). t.next) trees.hand)

  pub value-held : (entry : ℕ × Subvolume) → Contains state.subvolumes entry
      → value_at entry.0 state.subvolumes ≡ Some entry.1
  value-held entry has = value_of_entry state.subvolumes entry held.numbers has

  -- ---- each tree is a subvolume's

  other_entry : (tree : Root) → Contains fs.others.items tree
      → (entry : ℕ × Subvolume) × Contains state.subvolumes entry × (tree_of state entry.0 ≡ tree)
      × (not (entry.0 == fs.tree.owner) ≡ true)
  other_entry tree has =
      let number = from-mapped (tree_of state) (keys_of (without_key fs.tree.owner state.subvolumes)) tree
      (subst (λ (ts : List Root). Contains ts tree) trees.others has) in
      let entry = from-mapped (λ (e : ℕ × Subvolume). e.0) (without_key fs.tree.owner state.subvolumes) number.0
      number.1 in
      let both = filter_contains (λ (e : ℕ × Subvolume). not (e.0 == fs.tree.owner)) state.subvolumes entry.0 entry.1
      in
      (entry.0, both.0, ap (tree_of state) entry.2 ∙ number.2, both.1)

  pub tree-held : (tree : Root) → Contains (trees_of fs) tree → IsTreeIn state tree
  tree-held tree has = elim (contains_cases fs.tree fs.others.items tree has) [
    | inl same ↦
        subst (λ (t : Root). IsTreeIn state t) (sym trees.hand ∙ same) (tree-in state fs.tree.owner mine there)
    | inr later ↦
        let other = other_entry tree later in
        subst (λ (t : Root). IsTreeIn state t) other.2
        (tree-in state other.0.0 other.0.1 (value-held other.0 other.1))
  ]

  -- and each subvolume has its tree
  pub held-tree : (entry : ℕ × Subvolume) → Contains state.subvolumes entry
      → Contains (trees_of fs) (tree_of state entry.0)
  held-tree entry has = elim (cases_Bool (entry.0 == fs.tree.owner)) [
    | inl own ↦
        subst (λ (t : Root). Contains (trees_of fs) t)
        (trees.hand ∙ ap (tree_of state) (sym (eqb-true entry.0 fs.tree.owner own)))
        (contains_here fs.tree fs.others.items)
    | inr other ↦
        let kept_so = contains_filter (λ (e : ℕ × Subvolume). not (e.0 == fs.tree.owner)) state.subvolumes entry has
        (ap not other) in
        contains_later fs.tree fs.others.items (tree_of state entry.0)
        (subst (λ (ts : List Root). Contains ts (tree_of state entry.0)) (sym trees.others)
        (has-mapped (tree_of state) (keys_of (without_key fs.tree.owner state.subvolumes)) entry.0
        (has-mapped (λ (e : ℕ × Subvolume). e.0) (without_key fs.tree.owner state.subvolumes) entry kept_so)))
  ]

  pub others-apart : (tree : Root) → Contains fs.others.items tree → tree.owner ≢ fs.tree.owner
  others-apart tree has same =
      let other = other_entry tree has in
      differs_from other.0.0 fs.tree.owner other.3 (ap (λ (t : Root). t.owner) other.2 ∙ same)

  pub others-ascend : IsStrictlyIncreasing (map (λ (other : Root). other.owner) fs.others.items)
  others-ascend = subst (λ (ns : List ℕ). IsStrictlyIncreasing ns)
      (sym (ap (λ (ts : List Root). map (λ (other : Root). other.owner) ts) trees.others
      ∙ owners_are state (keys_of (without_key fs.tree.owner state.subvolumes))
      ∙ keys_kept (λ (n : ℕ). not (n == fs.tree.owner)) state.subvolumes))
      (IsStrictlyIncreasing-filter (λ (n : ℕ). not (n == fs.tree.owner)) (keys_of state.subvolumes) held.numbers)

  -- ---- what they reach

  abbrev laid : ℕ → Option Node
  laid = node_at state.layout

  laid_told : (q : ℕ) (node : Node) → node_at state.layout q ≡ Some node → nodes_of fs history q ≡ Some node
  laid_told q node is =
      let placed = placed-there state.layout q (value_at q state.layout) refl node is in
      (held.nodes q placed.0 placed.1).told ∙ ap (λ (n : Node). Some n) placed.2

  met_in : (tree : Root) → Contains (trees_of fs) tree → (q : ℕ)
      → Reaches (node_at state.layout) tree.height tree.address q → IsMetIn state state.subvolumes q
  met_in tree has q reaches =
      let own = tree-held tree has in
      record {
        number = tree.owner;
        subvolume = own.subvolume;
        there = own.value;
        reaches = subst (λ (a : ℕ). Reaches laid (level_of (laid own.subvolume.root)) a q) own.root
            (subst (λ (h : ℕ). Reaches laid h tree.address q) own.level reaches);
      }

  -- what a tree reaches in the layout is told as it is there
  pub told-held : (tree : Root) → Contains (trees_of fs) tree → (q : ℕ)
      → Reaches (node_at state.layout) tree.height tree.address q → nodes_of fs history q ≡ node_at state.layout q
  told-held tree has q reaches =
      let found = met-there state held.whole state.subvolumes held.whole.trees q (met_in tree has q reaches) in
      laid_told q found.0 found.1 ∙ sym found.1

  pub reach-into : (tree : Root) → Contains (trees_of fs) tree → (q : ℕ) → IsReachedBy fs history tree q
      → Reaches (node_at state.layout) tree.height tree.address q
  reach-into tree has q reached =
      reach-same laid (nodes_of fs history) tree.height tree.address (told-held tree has) q reached

  pub reach-back : (tree : Root) → Contains (trees_of fs) tree → (q : ℕ)
      → Reaches (node_at state.layout) tree.height tree.address q → IsReachedBy fs history tree q
  reach-back tree has q reaches =
      reach-on laid (nodes_of fs history) tree.height tree.address (told-held tree has) q reaches

  pub met-held : (q : ℕ) → IsMet fs history q → IsMetIn state state.subvolumes q
  met-held q met = met_in met.tree met.among q (reach-into met.tree met.among q met.reached)

  pub held-met : (q : ℕ) → IsMetIn state state.subvolumes q → IsMet fs history q
  held-met q met =
      let tree = tree_of state met.number in
      let among = held-tree (met.number, met.subvolume)
      (entry_of_value met.number met.subvolume state.subvolumes met.there) in
      let root = root_of-value state met.number met.subvolume met.there in
      let level = root_level-value state met.number met.subvolume met.there in
      record {
        tree = tree;
        among = among;
        reached = reach-back tree among q
            (subst (λ (h : ℕ). Reaches laid h tree.address q) (sym level)
            (subst (λ (a : ℕ). Reaches laid (level_of (laid met.subvolume.root)) a q) (sym root) met.reaches));
      }

  -- ---- the nodes of the layout

  pub placed-held : (q : ℕ) → IsMet fs history q → (placed : Placed) × (value_at q state.layout ≡ Some placed)
  placed-held q met =
      let found = met-there state held.whole state.subvolumes held.whole.trees q (met-held q met) in
      let placed = placed-there state.layout q (value_at q state.layout) refl found.0 found.1 in
      (placed.0, placed.1)

  pub slot-held : (q : ℕ) → IsMet fs history q → is_slot fs.land.space.sizes q ≡ true
  slot-held q met = let placed = placed-held q met in (held.nodes q placed.0 placed.1).slot

  apart : AreApart state
  apart = apart-held fs.land history fs.refs state held served-held

  pub entry-held : (q : ℕ) (placed : Placed) → value_at q state.layout ≡ Some placed → IsMetAs fs history q placed
  entry-held q placed is = record {
    met = held-met q (node-met state held.whole apart q placed is);
    told = (held.nodes q placed is).told;
    full = sym (held.nodes q placed is).mark;
  }

  pub held-entry : (q : ℕ) (placed : Placed) → IsMetAs fs history q placed → value_at q state.layout ≡ Some placed
  held-entry q placed met_as =
      let own = placed-held q met_as.met in
      let node : own.0.node ≡ placed.node = same_Some own.0.node placed.node
      (sym (held.nodes q own.0 own.1).told ∙ met_as.told) in
      let full : own.0.full ≡ placed.full = sym (held.nodes q own.0 own.1).mark ∙ sym met_as.full in
      own.1 ∙ (λ i. let both : Placed = record { node = node i; full = full i } in Some both)

  nodes_are : nodes_in fs history ≡ state.layout
  nodes_are = tables_same (nodes_in fs history) state.layout
      (nodes-ascend fs history some_bytes slot-held) held.whole.ascending
      (λ q. options_same (value_at q (nodes_in fs history)) (value_at q state.layout)
      (λ placed is. held-entry q placed (reached-by fs history q placed is))
      (λ placed is. value-reached fs history some_bytes slot-held q placed (entry-held q placed is)))

  -- ---- the roots

  root_into : (number root : ℕ) → value_at number (roots_of fs) ≡ Some root
      → value_at number (map root_entry state.subvolumes) ≡ Some root
  root_into number root is =
      let found = root-tree fs others-ascend others-apart number root is in
      let own = tree-held found.tree found.among in
      root-valued number state.subvolumes
      ∙ ap (λ (o : Option Subvolume). option_map (λ (s : Subvolume). s.root) o)
      (ap (λ (n : ℕ). value_at n state.subvolumes) (sym found.number_is) ∙ own.value)
      ∙ ap (λ (r : ℕ). Some r) (sym own.root ∙ found.root_is)

  root_back : (number root : ℕ) → value_at number (map root_entry state.subvolumes) ≡ Some root
      → value_at number (roots_of fs) ≡ Some root
  root_back number root is =
      let own = rooted_by (value_at number state.subvolumes) root (sym (root-valued number state.subvolumes) ∙ is) in
      let among = held-tree (number, own.0) (entry_of_value number own.0 state.subvolumes own.1) in
      tree-root fs others-ascend others-apart (tree_of state number) among
      ∙ ap (λ (r : ℕ). Some r) (root_of-value state number own.0 own.1 ∙ own.2)

  roots_are : map root_entry state.subvolumes ≡ roots_of fs
  roots_are = tables_same (map root_entry state.subvolumes) (roots_of fs)
      (subst (λ (ns : List ℕ). IsStrictlyIncreasing ns) (sym (entries_keys state.subvolumes)) held.numbers)
      (roots-ascend fs others-ascend others-apart)
      (λ number. options_same (value_at number (map root_entry state.subvolumes)) (value_at number (roots_of fs))
      (λ root is. root_back number root is) (λ root is. root_into number root is))

  -- the trees are the state's layout
  pub laid-held : IsLaidOut state fs history
  unfolding layout_in
  laid-held = record {
    sizes = held.sizes;
    generation = next-held;
    layout = layout_alike (layout_of state) (layout_in fs history)
        (ap (λ (sizes : Sizes). sizes.nodesize) held.sizes) roots_are (sym nodes_are);
  }
