-- All nodes that a commit writes: it may write them, and a disk holds each once the calls were made.
use Rattle.std.proofs.Common.{◌≡◌, ℕ, ◌≤◌, true, false, List, [], ◌∷◌, ◌++◌, map, length, get_or, Ok, arith, sym, subst}
use Rattle.std.proofs.Common.{◌∙◌, inl, inr}
use Rattle.std.specs.Prelude.{◌==◌, Contains, IsTrue, Option, Some, All}
use Rattle.std.specs.List.{AllByRecursion, IsDistinct}
use Rattle.std.proofs.lemmas.Bool.Decides.{eqb_tells}
use Rattle.std.proofs.lemmas.List.{map-append}
use Rattle.std.proofs.lemmas.List.Elements.{All-contains, Contains-append_cases, Contains-append_right, Contains-get_or}
use Rattle.std.proofs.lemmas.Map.Keys.{IsDistinct-cons, IsDistinct-head, IsDistinct-tail}
use Rattle.qg_device.specs.History.{Event, content}
use Rattle.qg_node.specs.declared.node.Node.{Node}
use Rattle.qg_node.specs.Nodes.{header_of}
use Rattle.qg_items.specs.declared.root.RootItem.{RootItem}
use Rattle.qg_super.specs.declared.sizes.Sizes.{Sizes}
use Rattle.qg_super.specs.Places.{is_served, is_slot, total_bytes}
use Rattle.qg_super.specs.SuperText.{sizes_of}
use Rattle.qg_super.proofs.Served.{SizesFit-is_served, SuperFits-is_super}
use Rattle.qg_image.proofs.Contained.{contains_here, contains_later}
use Rattle.qg_image.specs.Walk.{node_found}
use Rattle.qg_image.specs.declared.quota.Quota.{Quota}
use Rattle.qg_refs.specs.declared.kept.Kept.{Kept}
use Rattle.qg_blocks.specs.NodesInMemory.{Draft}
use Rattle.qg_blocks.specs.NodesFound.{fresh_at}
use Rattle.qg_tree_layout.specs.Row.{address_of}
use Rattle.qg_tree_layout.proofs.Frame.{AllByRecursion-append}
use Rattle.qg_commit.specs.Calls.{IsReadBack, IsWritable, with_commit}
use Rattle.qg_crashes.proofs.Between.{is_slot-IsBetween}
use Rattle.qg_commit.proofs.Written.{AreCommittable, with_commit-HasCommit}
use Rattle.qg_commit.specs.Types.{OtherTrees}
use Rattle.qg_commit.specs.OtherTreesHolds.{HasCommit}
use Rattle.qg_commit.specs.Trees.{nodes_laid}
use Rattle.qg_reach.proofs.Members.{one_mapped}
use Rattle.qg_commit.proofs.Slots.{all_contained}
use Rattle.qg_commit.specs.Writing.{AreWritable, IsLaying, fresh_nodes, nodes_written}
use Rattle.qg_commit.proofs.Ascending.{sorted-distinct}
use Rattle.qg_commit.proofs.FreshNodes.{fresh-addresses, fresh-there, fresh-writable}
use Rattle.qg_commit.proofs.LaidNodes.{laid-apart, laid-sizes, laid-textual, laid-within, textual-IsReadBack}
use Rattle.qg_commit.proofs.Stays.{LiesInSlot}

-- ---- lists

all_differ : (n : ℕ) (ms : List ℕ) → (Contains ms n → ⊥) → AllByRecursion (λ m. (n == m) ≡ false) ms
all_differ n [] none = tt
all_differ n (m ∷ ms) none = (
  elim (eqb_tells n m) [
    | inl (equal, same) ↦ absurd (none (subst (λ (k : ℕ). Contains (m ∷ ms) k) (sym same) (contains_here m ms)))
    | inr (unequal, differ) ↦ unequal
  ],
  all_differ n ms (λ has. none (contains_later m ms n has)),
)

-- numbers of two lists are different where those of each are, and none is in both
both_distinct : (front back : List ℕ) → IsDistinct (λ a b. a == b) front → IsDistinct (λ a b. a == b) back
    → ((n : ℕ) → Contains front n → Contains back n → ⊥) → IsDistinct (λ a b. a == b) (front ++ back)
both_distinct [] back first second none = second
both_distinct (n ∷ front) back first second none =
    IsDistinct-cons (λ a b. a == b) n (front ++ back)
    (AllByRecursion-append (λ m. (n == m) ≡ false) front back (IsDistinct-head (λ a b. a == b) n front first)
    (all_differ n back (none n (contains_here n front))))
    (both_distinct front back (IsDistinct-tail (λ a b. a == b) n front first) second
    (λ m has. none m (contains_later n front m has)))

-- ---- the nodes of a commit

module _ (sizes : Sizes) (generation : ℕ) (roots : List (ℕ × RootItem)) (book : List (ℕ × Kept)) (quota : Option Quota)
    (slots : List ℕ) (draft : Draft) (trees : OtherTrees)
    (laying : IsLaying sizes generation roots book quota slots draft trees) (writable : AreWritable sizes draft)
    (are_slots : (slot : ℕ) → Contains slots slot → IsTrue (is_slot sizes slot)) where
  abbrev nodes : List Node
  nodes = nodes_written draft trees

  pub written-sizes : sizes_of trees.superblock ≡ sizes
  written-sizes = laid-sizes sizes generation roots book quota slots trees laying.laid

  pub written-served : is_served sizes ≡ true
  written-served =
      subst (λ (s : Sizes). is_served s ≡ true) written-sizes
      (SuperFits-is_super trees.superblock laying.superblock).served

  -- each lies in a slot and has a text
  pub written-lies : (node : Node) → Contains nodes node → LiesInSlot sizes node
  written-lies node has = elim (Contains-append_cases (fresh_nodes draft) (nodes_laid trees) node has) [
    | inl fresh ↦
        let is = fresh-writable draft laying.ascending sizes writable node fresh in
        record { formed = is.kept.sound; slot = is.slot }
    | inr other ↦ record {
      formed = (laid-textual sizes generation roots book quota slots trees laying.laid node other).formed;
      slot = are_slots (address_of node)
          (laid-within sizes generation roots book quota slots trees laying.laid node other);
    }
  ]

  pub written-lie : AllByRecursion (LiesInSlot sizes) nodes
  written-lie = all_contained (LiesInSlot sizes) nodes written-lies

  one_writable : (node : Node) → Contains nodes node → IsWritable sizes.nodesize node
  one_writable node has =
      let lies = written-lies node has in
      let between = is_slot-IsBetween sizes (address_of node) (SizesFit-is_served sizes written-served) lies.slot in
      record { node_of_format = lies.formed; ends = omega (arith, between.end) }

  pub written-writable : AllByRecursion (IsWritable sizes.nodesize) nodes
  written-writable = all_contained (IsWritable sizes.nodesize) nodes one_writable

  -- each is read from its text
  pub written-read : All (IsReadBack sizes.nodesize) (fresh_nodes draft) → (node : Node) → Contains nodes node
      → IsReadBack sizes.nodesize node
  written-read read node has = elim (Contains-append_cases (fresh_nodes draft) (nodes_laid trees) node has) [
    | inl fresh ↦ All-contains (IsReadBack sizes.nodesize) (fresh_nodes draft) node read fresh
    | inr other ↦
        textual-IsReadBack sizes.nodesize node (SizesFit-is_served sizes written-served).node_size
        (laid-textual sizes generation roots book quota slots trees laying.laid node other)
  ]

  module _ (differ : IsDistinct (λ a b. a == b) slots)
      (clear : (at : ℕ) (node : Node) → fresh_at draft at ≡ Some node → Contains slots at → ⊥) where
    -- no fresh node lies where a node of the three trees does
    none_both : (at : ℕ) → Contains (map address_of (fresh_nodes draft)) at
        → Contains (map address_of (nodes_laid trees)) at → ⊥
    none_both at fresh other =
        let mine = one_mapped address_of (fresh_nodes draft) at fresh in
        let its = one_mapped address_of (nodes_laid trees) at other in
        let there = fresh-there draft laying.ascending sizes writable mine.0 mine.1 in
        let within = laid-within sizes generation roots book quota slots trees laying.laid its.0 its.1 in
        clear (address_of mine.0) mine.0 there
        (subst (λ (n : ℕ). Contains slots n) (its.2 ∙ sym mine.2) within)

    fresh_apart : IsDistinct (λ a b. a == b) (map address_of (fresh_nodes draft))
    fresh_apart =
        subst (IsDistinct (λ a b. a == b)) (sym (fresh-addresses draft laying.ascending sizes writable))
        (sorted-distinct _ laying.ascending)

    written_apart : IsDistinct (λ a b. a == b) (map address_of nodes)
    written_apart =
        subst (IsDistinct (λ a b. a == b)) (sym (map-append address_of (fresh_nodes draft) (nodes_laid trees)))
        (both_distinct (map address_of (fresh_nodes draft)) (map address_of (nodes_laid trees)) fresh_apart
        (laid-apart sizes generation roots book quota slots trees laying.laid differ) none_both)

    in_slots : (node : Node) → Contains nodes node → IsTrue (is_slot (sizes_of trees.superblock) (address_of node))
    in_slots node has =
        subst (λ (s : Sizes). IsTrue (is_slot s (address_of node))) (sym written-sizes) (written-lies node has).slot

    written_committable : AreCommittable trees.superblock nodes
    written_committable = record {
      writable = subst (λ (s : Sizes). AllByRecursion (IsWritable s.nodesize) nodes) (sym written-sizes)
          written-writable;
      in_slots = λ k d below. in_slots (get_or nodes k d) (Contains-get_or nodes k d below);
      apart = written_apart;
    }

    -- once the calls were made a disk that is long enough holds the superblocks and all nodes
    module _ (read : All (IsReadBack sizes.nodesize) (fresh_nodes draft)) (events : List Event)
        (long : total_bytes sizes ≤ length (content events)) where
      read_all : All (IsReadBack trees.superblock.nodesize) nodes
      read_all = λ k d below.
          subst (λ (s : Sizes). IsReadBack s.nodesize (get_or nodes k d)) (sym written-sizes)
          (written-read read (get_or nodes k d) (Contains-get_or nodes k d below))

      pub written-commit : HasCommit trees.superblock nodes (content (with_commit trees.superblock nodes events))
      written-commit =
          with_commit-HasCommit trees.superblock nodes events laying.superblock
          (subst (λ (s : Sizes). total_bytes s ≤ length (content events)) (sym written-sizes) long)
          written_committable read_all

      -- each is found where it lies
      pub written-found : (node : Node) → Contains nodes node
          → node_found trees.superblock (content (with_commit trees.superblock nodes events)) (address_of node)
          ≡ Ok node
      written-found node has =
          All-contains
          (λ node. node_found trees.superblock (content (with_commit trees.superblock nodes events))
          (header_of node).address ≡ Ok node)
          nodes node written-commit.found has

      -- the three trees too
      pub trees-held : HasCommit trees.superblock (nodes_laid trees)
          (content (with_commit trees.superblock nodes events))
      trees-held = record {
        first = written-commit.first;
        second = written-commit.second;
        long = written-commit.long;
        found = λ k d below.
            let has = Contains-get_or (nodes_laid trees) k d below in
            written-found (get_or (nodes_laid trees) k d)
            (Contains-append_right (fresh_nodes draft) (nodes_laid trees) (get_or (nodes_laid trees) k d) has);
      }
