-- How much more the extent tree's items take after a change of references (this project's own). Weights are in bytes.
use Rattle.std.specs.Prelude.{◌≡◌, ℕ, ◌+◌, ◌*◌, ◌≤◌, List}
use Rattle.std.specs.List.{sum_by}
use Rattle.qg_node.specs.Nodes.{used_bytes}
use Rattle.qg_super.specs.Places.{capacity}
use Rattle.qg_image.specs.Owed.{Owing}
use Rattle.qg_node_alloc.specs.Tellings.{Telling}
use Rattle.qg_node_alloc.specs.Tellings.Telling.{Copied, Made, Left}
use Rattle.qg_refs.specs.declared.kept.Kept.{Kept}
use Rattle.qg_weighed.specs.Weight.{extent_record_bytes, reference_bytes, weight_of}
use Rattle.qg_tree_backrefs.specs.declared.tree_refs.TreeRefs.{TreeRefs}

-- whatever the last commit recorded, a table takes with it at most so many bytes more than another does
pub record GetsHeavier (old new : List (ℕ × Kept)) (most : ℕ) : Type 0 where
  pub weighs : (held : List (ℕ × Kept)) → weight_of held new ≤ weight_of held old + most

-- so it is of a subvolume's book, and what the last commit recorded is as it was
pub record BookGetsHeavier (old new : TreeRefs) (most : ℕ) : Type 0 where
  pub held : new.held ≡ old.held
  pub heavier : GetsHeavier old.refs new.refs most

-- ---- what comes

-- what the items take that stand for references, where none is there
abbrev pub owings_bytes : List Owing → ℕ
owings_bytes owings = sum_by (λ owing. reference_bytes owing.reference) owings

-- what those of a node take that comes: its record, and the first reference, which has no body
abbrev pub node_bytes : ℕ
node_bytes = extent_record_bytes + 25

-- what one takes that stands for a piece's name of an extent, whose body has 28 bytes
abbrev pub name_bytes : ℕ
name_bytes = 25 + 28

-- what the first one of a new extent takes, with the extent's record
abbrev pub name_new_bytes : ℕ
name_new_bytes = extent_record_bytes + name_bytes

-- ---- what a tree tells

-- What comes at most by a telling: a node, and what children may gain. A node that is copied or left gives each child
-- at most one reference, and a reference takes less than the pointer, or the item, that leads to the child
abbrev pub telling_bytes : Telling → ℕ
telling_bytes (Copied node copy) = node_bytes + used_bytes node
telling_bytes (Made address) = node_bytes
telling_bytes (Left node) = used_bytes node

-- What comes at most by an edit of a tree of this height: 2·height + 3 nodes come, by a copy or anew, and what is left
-- has nothing under it
abbrev pub edit_bytes : ℕ → ℕ → ℕ
edit_bytes nodesize height = (2 * height + 3) * (node_bytes + capacity nodesize)
