-- How full the nodes of a tree are, and where they begin (this project's own, after on-disk format, "B-tree").
use Rattle.std.specs.Prelude.{ℕ, ◌*◌, Bool, true, false, ◌&&◌, List, [], ◌∷◌, length, Option, Some, None, ◌==◌, nat_le}
use Rattle.qg_num.specs.declared.key.Key.{Key}
use Rattle.qg_node.specs.declared.node.Node.{Node}
use Rattle.qg_node.specs.declared.node.Node.TheVariants.{Leaf, Inner}
use Rattle.qg_node.specs.Nodes.{own_keys, used_bytes}
use Rattle.qg_super.specs.Places.{capacity}

-- two keys are the same
abbrev pub same_key : Key → Key → Bool
same_key a b = (a.objectid == b.objectid) && (a.kind == b.kind) && (a.offset == b.offset)

-- the first of some keys is this one
abbrev pub is_first : Key → List Key → Bool
is_first key [] = false
is_first key (first ∷ keys) = same_key first key

-- the node of a root, or one that a pointer of this key leads to. Below a pointer it is a quarter full at least, and
-- its first key is the pointer's; an inner root has two pointers at least; only a root leaf is empty
unfoldable pub is_shaped : ℕ → Option Key → Node → Bool
is_shaped nodesize None (Leaf header items) = true
is_shaped nodesize None (Inner header pointers) = nat_le 2 (length pointers)
is_shaped nodesize (Some key) node = nat_le (capacity nodesize) (4 * used_bytes node) && is_first key (own_keys node)
