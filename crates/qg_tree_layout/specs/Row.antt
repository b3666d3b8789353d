-- One level of a tree that is built: its nodes, from left to right (on-disk format, "B-tree"; how full they are is this
-- project's own).
use Rattle.std.specs.Prelude.{◌≡◌, ℕ, ◌+◌, ◌*◌, ◌≤◌, List, [], ◌∷◌, ◌++◌, length, map, take, drop}
use Rattle.std.specs.List.{flat_map, sum_by, AllByRecursion}
use Rattle.qg_num.specs.declared.key.Key.{Key}
use Rattle.qg_node.specs.declared.pointer.Pointer.{Pointer}
use Rattle.qg_node.specs.declared.node.Node.{Node}
use Rattle.qg_node.specs.Nodes.{header_of, own_keys, used_bytes}
use Rattle.qg_node.specs.NodeText.{IsLevelled}
use Rattle.qg_node.specs.Fits.{NodeFits}
use Rattle.qg_super.specs.Places.{capacity}

-- the first of some keys; all zero where there is none
abbrev pub first_key : List Key → Key
first_key [] = record { objectid = 0; kind = 0; offset = 0 }
first_key (key ∷ keys) = key

-- the pointer that leads to a node
abbrev pub pointer_to : Node → Pointer
pointer_to node = record {
  key = first_key (own_keys node);
  child = (header_of node).address;
  generation = (header_of node).generation;
}

-- where a node lies, in bytes
abbrev pub address_of : Node → ℕ
address_of node = (header_of node).address

-- the node is one of this level, with this owner and generation, and fits in so many bytes, and its numbers fit their
-- fields
pub record IsRowNode (nodesize owner generation level : ℕ) (node : Node) : Type 0 where
  pub levelled : IsLevelled node
  pub stands : (header_of node).level ≡ level
  pub owned : (header_of node).owner ≡ owner
  pub made : (header_of node).generation ≡ generation
  pub fits : 101 + used_bytes node ≤ nodesize
  pub numbers : NodeFits node

-- the node is a quarter full at least
abbrev pub IsFull : ℕ → Node → Type 0
IsFull nodesize node = capacity nodesize ≤ 4 * used_bytes node

-- nodes of a level, one at least, that hold these items or pointers and lie in the first of the slots; each is a
-- quarter full but a single one
pub record IsRow {A : Type 0} (own : Node → List A) (nodesize owner generation level : ℕ) (slots : List ℕ)
    (parts : List A) (row : List Node) : Type 0 where
  pub whole : flat_map own row ≡ parts
  pub each : AllByRecursion (IsRowNode nodesize owner generation level) row
  pub full : 2 ≤ length row → AllByRecursion (IsFull nodesize) row
  pub placed : map address_of row ≡ take (length row) slots
  pub some : 1 ≤ length row

-- a level was put behind the nodes that were there, with these pointers to it, and the second of two nodes or more is
-- only there where the weight asks for it
pub record PutsRow {A : Type 0} (own : Node → List A) (weight : A → ℕ) (nodesize owner generation level : ℕ)
    (slots : List ℕ) (parts : List A) (old new : List Node) (pointers : List Pointer) : Type 0 where
  pub row : List Node
  pub is : IsRow own nodesize owner generation level (drop (length old) slots) parts row
  pub grown : new ≡ old ++ row
  pub pointed : pointers ≡ map pointer_to row
  pub few : 2 ≤ length row → capacity nodesize * length row ≤ 4 * sum_by weight parts
  -- what fits in one node is not cut
  pub single : sum_by weight parts ≤ capacity nodesize → length row ≡ 1
