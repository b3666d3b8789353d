-- The pointer to a node (on-disk format, "internal node").
use Rattle.std.specs.Prelude.{List, [], ◌∷◌}
use Rattle.qg_num.specs.declared.key.Key.{Key}
use Rattle.qg_node.specs.declared.pointer.Pointer.{Pointer}
use Rattle.qg_node.specs.declared.node.Node.{Node}
use Rattle.qg_node.specs.Nodes.{header_of, own_keys}

-- the first of some keys; all zero where there is none
abbrev pub first_key : List Key → Key
first_key [] = record { objectid = 0; kind = 0; offset = 0 }
first_key (key ∷ keys) = key

-- the pointer that leads to a node
abbrev pub pointer_to : Node → Pointer
pointer_to node = record {
  key = first_key (own_keys node);
  child = (header_of node).address;
  generation = (header_of node).generation;
}
