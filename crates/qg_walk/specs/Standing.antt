-- What stands at an address, and how it is judged (this project's own).
use Rattle.std.specs.Prelude.{◌≡◌, ℕ, min, List, [], ◌∷◌, Option, Some, None, Result, Ok, Err, IsTrue}
use Rattle.qg_num.specs.declared.key.Key.{Key}
use Rattle.qg_node.specs.declared.pointer.Pointer.{Pointer}
use Rattle.qg_node.specs.declared.node.Node.{Node}
use Rattle.qg_node.specs.Nodes.{header_of}
use Rattle.qg_node.specs.NodeText.{IsNode}
use Rattle.qg_super.specs.declared.superblock.Super.{Super}
use Rattle.qg_super.specs.Places.{is_slot}
use Rattle.qg_super.specs.SuperText.{sizes_of}
use Rattle.qg_image.specs.declared.failure.Failure.{Failure}
use Rattle.qg_image.specs.declared.tree.TreeKind.{TreeKind}
use Rattle.qg_image.specs.declared.expected.Expected.{Expected}
use Rattle.qg_image.specs.Failure.{first_failure}
use Rattle.qg_image.specs.Walk.{next_key, way_failure, shape_failure, deepest}

-- what is expected of the node of a level that a pointer leads to: the pointer's generation and key, and the next key
-- on the way, that of the pointer behind it, if there is one
abbrev pub expected_below : ℕ → Option Key → Pointer → List Pointer → Expected
expected_below level to pointer pointers = record {
  level = Some level;
  generation = Some pointer.generation;
  from = Some pointer.key;
  to = next_key to pointers;
}

-- the node was read in the slot at an address
pub record StandsAt (super : Super) (address : ℕ) (node : Node) : Type 0 where
  pub slot : IsTrue (is_slot (sizes_of super) address)
  pub placed : (header_of node).address ≡ address
  pub sound : IsNode super.nodesize node

-- the rules from `depth` to `shape`, in their order; `node_failure` has rule `item` behind them (lemmas
-- `node_failure-form` and `node_failure-formed`)
abbrev pub form_failure : TreeKind → Super → Expected → ℕ → Node → Option Failure
form_failure tree super expected address node =
    first_failure (way_failure tree super expected address node ∷ shape_failure super.nodesize expected address node
    ∷ [])

-- the rules from `slot` to `shape`, in their order, where this was found at an address: a walk from there fails so
-- first (lemma `walk-standing`)
abbrev pub standing_failure : TreeKind → Super → Expected → ℕ → Result Node Failure → Option Failure
standing_failure tree super expected address (Err failure) = Some failure
standing_failure tree super expected address (Ok node) = form_failure tree super expected address node

-- a node was read at an address, and is none that the way to it rules out
pub record IsJudged (tree : TreeKind) (super : Super) (expected : Expected) (address : ℕ) (node : Node) : Type 0 where
  pub stands : StandsAt super address node
  pub formed : form_failure tree super expected address node ≡ None

-- how many levels there are at most below a node of which this level is expected
abbrev pub levels_below : Option ℕ → ℕ
levels_below None = deepest
levels_below (Some level) = min level deepest
