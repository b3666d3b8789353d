-- A state from which a subvolume's tree is dropped part by part (this project's own). Addresses are in bytes.
--
-- A node is *open* that the subvolume reached, until it is dropped. What was dropped has gone where no other subvolume
-- reaches it, and is full where its owner reaches it no more.
use Rattle.std.specs.Prelude.{◌≡◌, ◌⊎◌, ◌↔◌, ⊤, ℕ, ◌<◌, ◌≤◌, Bool, ◌&&◌, ◌||◌, not, List, [], ◌∷◌, length, map, Option}
use Rattle.std.specs.Prelude.{Some, None, IsSome, IsTrue, Result, OnOk, Contains, ◌==◌, if◌then◌else◌}
use Rattle.std.specs.List.{filter, filter_map, sum_by}
use Rattle.std.specs.List.Sorted.{IsStrictlyIncreasing}
use Rattle.std.specs.Option.{option_and_then}
use Rattle.qg_device.specs.History.{History}
use Rattle.qg_num.specs.declared.key.Key.{Key}
use Rattle.qg_node.specs.declared.item.Item.{Item}
use Rattle.qg_node.specs.declared.node.Node.{Node}
use Rattle.qg_node.specs.declared.pointer.Pointer.{Pointer}
use Rattle.qg_node.specs.Nodes.{header_of, is_ascending, own_pointers}
use Rattle.qg_super.specs.Places.{is_slot}
use Rattle.qg_image.specs.Table.{has_key, keys_of, value_at}
use Rattle.qg_image.specs.declared.element.Element.{Element}
use Rattle.qg_image.specs.Owed.{Owing, homeless, layout_extents}
use Rattle.qg_image.specs.Reach.{distinct, is_among, is_reached, reach_under}
use Rattle.qg_image.specs.State.{Layout, Placed, State, layout_of, next_generation, node_at}
use Rattle.qg_image.specs.declared.tree.TreeKind.TheVariants.{Files}
use Rattle.qg_image.specs.Walk.{node_failure, walk_failure}
use Rattle.qg_machine.specs.Layout.{IsWhole, found_in, is_full_after, super_to_come}
use Rattle.qg_machine.specs.Step.{without_subvolume}
use Rattle.qg_blocks.specs.NodesFound.{IsBacked, fresh_at, told}
use Rattle.qg_space.specs.Holding.{free_slots, has_slot}
use Rattle.qg_node_alloc.specs.declared.ground.Ground.{Ground}
use Rattle.qg_node_alloc.specs.Land.{IsDrafted}
use Rattle.qg_refs.specs.declared.kept.What.{What}
use Rattle.qg_refs.specs.Book.{AgreesWithOwed, Book, full_in, what_in}
use Rattle.qg_extents.specs.Table.{book_of}
use Rattle.qg_walk.specs.Standing.{expected_below}
use Rattle.qg_tree_read.specs.Branch.{IsBranch}
use Rattle.qg_tree_backrefs.specs.declared.tree_refs.TreeRefs.{TreeRefs}
use Rattle.qg_tree_backrefs.specs.Following.{references_to}
use Rattle.qg_tree_backrefs.specs.Settled.{what_of}
use Rattle.qg_shared_trees.specs.ForestStanding.{IsKnownRun}
use Rattle.qg_subvolumes.specs.declared.child.Child.{Child}

-- ---- parts of a tree

-- a node lies below the node of a level at an address, or is that node
abbrev pub is_below : State → ℕ → ℕ → ℕ → Bool
is_below state level from at = is_among at (reach_under (node_at state.layout) state.sizes.nodesize level from)

-- what is open once a part was dropped
abbrev pub without_part : State → ℕ → ℕ → (ℕ → Bool) → ℕ → Bool
without_part state level from waiting at = waiting at && not (is_below state level from at)

-- what is open once the parts were dropped that pointers lead to
abbrev pub without_parts : State → ℕ → List ℕ → (ℕ → Bool) → ℕ → Bool
without_parts state level [] waiting = waiting
without_parts state level (from ∷ others) waiting = without_parts state level others
    (without_part state level from waiting)

-- ---- the layout meanwhile

-- a node, full where it was or where its owner no longer reaches it; as it was while it is open
abbrev pub placed_partly : State → (ℕ → Bool) → ℕ × Placed → ℕ × Placed
placed_partly after waiting entry =
    if waiting entry.0 then entry else (entry.0, record entry.1 { full = is_full_after after entry.1 entry.0 })

-- the nodes that are open, or that another subvolume reaches
abbrev pub nodes_partly : State → ℕ → (ℕ → Bool) → List (ℕ × Placed)
nodes_partly state sub waiting = map (placed_partly (without_subvolume state sub) waiting)
    (filter (λ entry. waiting entry.0 || is_reached (layout_of (without_subvolume state sub)) entry.0) state.layout)

-- they are the layout, and the roots are those of the others
abbrev pub layout_partly : State → ℕ → (ℕ → Bool) → Layout
layout_partly state sub waiting =
    record (layout_of (without_subvolume state sub)) { nodes = nodes_partly state sub waiting }

-- no open node leads to an address
abbrev pub IsUnder : State → (ℕ → Bool) → ℕ → Type 0
IsUnder state waiting at = (q : ℕ) (node : Node) → node_at state.layout q ≡ Some node → IsTrue (waiting q)
    → Contains (map (λ pointer. pointer.child) (own_pointers node)) at → ⊥

-- what open nodes lead to is there, and open
abbrev pub IsClosed : State → (ℕ → Bool) → Type 0
IsClosed state waiting = (q : ℕ) (node : Node) → node_at state.layout q ≡ Some node → IsTrue (waiting q) → (at : ℕ)
    → Contains (map (λ pointer. pointer.child) (own_pointers node)) at
    → IsTrue (has_key at state.layout) × IsTrue (waiting at)

-- a node of the layout is told meanwhile. Where references lead to it the book knows what it is, and its mark
pub record HoldsPart (land : Ground) (history : History) (book : TreeRefs) (at : ℕ)
    (placed : Placed) : Type 0 where
  pub slot : IsTrue (is_slot land.space.sizes at)
  pub told : told land.blocks.draft history at ≡ Some placed.node
  pub mark : 0 < references_to (book_of book.refs) at → full_in (book_of book.refs at) ≡ placed.full
  pub known : 0 < references_to (book_of book.refs) at → what_in (book_of book.refs at)
      ≡ Some (what_of book.nodesize (header_of placed.node).generation placed.node)

-- Nodes in memory, a disk and a book hold what is left of a state while a subvolume's tree is dropped, and the book
-- counts exactly what that owes. The state is whole, each node that is not full is reached by its owner, and what open
-- nodes lead to is open. Slots and runs are taken that this takes; what lies in a slot is fresh, or the last commit
-- holds it
pub record HoldsPartly (land : Ground) (history : History) (book : TreeRefs) (state : State) (sub : ℕ)
    (waiting : ℕ → Bool) : Type 0 where
  pub sizes : state.sizes ≡ land.space.sizes
  pub nodesize : book.nodesize ≡ state.sizes.nodesize
  pub next : book.next ≡ next_generation state
  pub tree : book.tree ≡ sub
  pub fits : book.misfit ≡ None
  pub numbers : IsStrictlyIncreasing (keys_of state.subvolumes)
  pub whole : IsWhole state
  pub home : homeless (layout_of state) ≡ None
  pub closed : IsClosed state waiting
  pub nodes : (at : ℕ) (placed : Placed) → value_at at (nodes_partly state sub waiting) ≡ Some placed
      → HoldsPart land history book at placed
  pub agrees : AgreesWithOwed (layout_partly state sub waiting) (book_of book.refs)
  pub slots : (at : ℕ) → IsTrue (is_slot land.space.sizes at)
      → has_slot land.space at ≡ has_key at (nodes_partly state sub waiting)
  pub written : (at : ℕ) → IsTrue (has_slot land.space at)
      → IsSome (fresh_at land.blocks.draft at) ⊎ Contains land.space.held_slots at
  pub fresh : (at : ℕ) → IsSome (fresh_at land.blocks.draft at) → IsTrue (has_slot land.space at)
  pub extents : (run : Element) → Contains (layout_extents (layout_partly state sub waiting)) run
      → IsKnownRun state.sizes (book_of book.refs) run
  pub runs : (run : Element) → Contains land.space.runs run
      ↔ Contains (layout_extents (layout_partly state sub waiting)) run
  pub held_slots : (slot : ℕ) → Contains land.space.held_slots slot ↔ Contains state.held.nodes slot
  pub held_runs : (run : Element) → Contains land.space.held_runs run ↔ Contains state.held.extents run

-- ---- over any disk

-- what a call leaves so, whatever it answers: clean nodes are those of the disk, fresh ones may be written, sizes and
-- the bound on clean nodes are as they were, and so is what the last commit holds; no slot fewer is free
pub record RestsButRuns (old new : Ground) (history : History) (generation : ℕ) : Type 0 where
  pub backed : IsBacked new.blocks history
  pub drafted : IsDrafted new generation
  pub node_sizes : new.blocks.draft.sizes ≡ old.blocks.draft.sizes
  pub bound : new.blocks.bound ≡ old.blocks.bound
  pub sizes : new.space.sizes ≡ old.space.sizes
  pub held_slots : new.space.held_slots ≡ old.space.held_slots
  pub held_runs : new.space.held_runs ≡ old.space.held_runs
  pub slots : free_slots old.space ≤ free_slots new.space

-- a book knows nothing of an address that another does not know of it
pub record KnowsNoMore (old new : TreeRefs) : Type 0 where
  pub known : (at : ℕ) (what : What) → what_in (book_of new.refs at) ≡ Some what
      → what_in (book_of old.refs at) ≡ Some what

-- a book stays that of its subvolume, node size and generation to come, whatever a call answers; where it ends well,
-- the book knows nothing that it did not know
pub record StaysBook {T E : Type 0} (old new : TreeRefs) (result : Result T E) : Type 0 where
  pub tree : new.tree ≡ old.tree
  pub nodesize : new.nodesize ≡ old.nodesize
  pub next : new.next ≡ old.next
  pub known : OnOk result (KnowsNoMore old new)

-- ---- extents

-- a data extent of so many bytes, where one is known at an address
abbrev pub extent_of_what : ℕ → What → Option Element
extent_of_what at what = of_level what.level where
  of_level : Option ℕ → Option Element
  of_level None = Some (record { address = at; bytes = what.bytes })
  of_level (Some level) = None

-- the data extents that references lead to, as often as they do
abbrev pub extents_known : Book → List Owing → List Element
extents_known book owings =
    filter_map (λ owing. option_and_then (extent_of_what owing.address) (what_in (book owing.address))) owings

-- those of them that have no reference
abbrev pub without_references : Book → List Element → List Element
without_references book extents = filter (λ extent. references_to book extent.address == 0) extents

-- ---- children

-- the children that pointers lead to, each with what is expected of it and with its mark
abbrev pub children_told : Book → Option Key → ℕ → List Pointer → List Child
children_told book to level [] = []
children_told book to level (pointer ∷ others) = record {
  way = record { address = pointer.child; expected = expected_below level to pointer others };
  full = full_in (book pointer.child);
} ∷ children_told book to level others

-- ---- parts that are to be dropped

-- no two open nodes lead to one address
abbrev pub AreSingle : State → (ℕ → Bool) → Type 0
AreSingle state waiting = (p q at : ℕ) (a b : Node) → IsTrue (waiting p) → IsTrue (waiting q)
    → node_at state.layout p ≡ Some a → node_at state.layout q ≡ Some b
    → Contains (map (λ pointer. pointer.child) (own_pointers a)) at
    → Contains (map (λ pointer. pointer.child) (own_pointers b)) at → p ≡ q

-- A part of the subvolume's tree is open, from a node of a level down: the walk meets no failure there, the nodes below
-- are open, and no open node leads to its top. These are the items under it, whose keys ascend. The top's mark is that
-- of the state
pub record IsPart (state : State) (waiting : ℕ → Bool) (level : ℕ) (part : Child) : Type 0 where
  pub walked :
      walk_failure (node_failure Files (super_to_come state)) (found_in state.layout) level part.way.expected
      part.way.address ≡ None
  pub items : List Item
  pub branch : IsBranch Files (super_to_come state) (node_at state.layout) level part.way.address items
  pub ascending : IsTrue (is_ascending (map (λ item. item.key) items))
  pub opened : (at : ℕ) → IsTrue (is_below state level part.way.address at) → IsTrue (has_key at state.layout)
      → IsTrue (waiting at)
  pub under : IsUnder state waiting part.way.address
  pub single : AreSingle state waiting
  pub placed : Placed
  pub there : value_at part.way.address state.layout ≡ Some placed
  pub mark : placed.full ≡ part.full

-- so are parts that are dropped one after the other
abbrev pub AreParts : State → (ℕ → Bool) → ℕ → List Child → Type 0
AreParts state waiting level [] = ⊤
AreParts state waiting level (part ∷ parts) =
    IsPart state waiting level part × AreParts state (without_part state level part.way.address waiting) level parts

-- how many nodes they have
abbrev pub parts_reached : State → ℕ → List Child → ℕ
parts_reached state level parts = sum_by (λ (part : Child). length
    (filter (λ element. has_key element.address state.layout)
    (distinct (reach_under (node_at state.layout) state.sizes.nodesize level part.way.address)))) parts
