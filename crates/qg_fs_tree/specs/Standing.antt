-- The trees of subvolumes, one of them at hand, and the references that they owe (on-disk format, "B-tree" and
-- "backreferences"; how they stand together is this project's own). Addresses are in bytes.
use Rattle.std.specs.Prelude.{◌≡◌, ◌≢◌, ◌⊎◌, ◌↔◌, ⊤, ℕ, ◌+◌, ◌*◌, ◌≤◌, Bool, false, ◌==◌, ◌&&◌, ◌||◌, not, List, []}
use Rattle.std.specs.Prelude.{◌∷◌, ◌++◌, map, Option, Some, None, IsTrue, Contains, nat_lt, if◌then◌else◌}
use Rattle.std.specs.List.{All, count_by, filter_map, flat_map, list_any, range_with_len}
use Rattle.std.specs.List.Sorted.{IsPermutation, IsStrictlyIncreasing}
use Rattle.std.specs.Option.{option_map}
use Rattle.qg_device.specs.History.{History}
use Rattle.qg_num.specs.declared.piece.Piece.{Piece}
use Rattle.qg_num.specs.declared.fault.BlockFault.{BlockFault}
use Rattle.qg_num.specs.declared.fault.BlockFault.TheVariants.{NoMemory, Disk, Image}
use Rattle.qg_num.specs.declared.rule.Rule.TheVariants.{Refs}
use Rattle.qg_node.specs.declared.item.Item.{Item}
use Rattle.qg_node.specs.declared.node.Node.{Node}
use Rattle.qg_node.specs.Nodes.{header_of}
use Rattle.qg_items.specs.declared.extent.Reference.{Reference}
use Rattle.qg_items.specs.declared.extent.Reference.TheVariants.{KeyedData}
use Rattle.qg_super.specs.declared.sizes.Sizes.{Sizes}
use Rattle.qg_super.specs.Places.{is_run, is_slot, slot_at}
use Rattle.qg_image.specs.declared.part.FilePart.{FilePart}
use Rattle.qg_image.specs.declared.part.FilePart.TheVariants.{Inode, PieceOf}
use Rattle.qg_image.specs.Below.{items_below}
use Rattle.qg_image.specs.ItemMeaning.{file_part}
use Rattle.qg_image.specs.Table.{with_value}
use Rattle.qg_image.specs.declared.element.Element.{Element}
use Rattle.qg_image.specs.State.{Layout, Placed}
use Rattle.qg_image.specs.Owed.{Owing, owed_count, reference_offset}
use Rattle.qg_image.specs.Reach.{extent_of}
use Rattle.qg_image.specs.declared.tree.TreeKind.TheVariants.{Files}
use Rattle.qg_image.specs.Walk.{is_owner}
use Rattle.qg_blocks.specs.NodesFound.{fresh_at, told}
use Rattle.qg_space.specs.Holding.{Holding, has_slot, is_free_slot}
use Rattle.qg_refs.specs.Book.{Book, count_at, full_in, what_in}
use Rattle.qg_extents.specs.Table.{book_of}
pub use Rattle.qg_tree_edits.specs.OwnSlots.{every_slot}
use Rattle.qg_tree_edits.specs.Tree.{Reaches, Root}
use Rattle.qg_tree_edits.specs.Counting.{ways}
use Rattle.qg_tree_edits.specs.Editing.{CanMake, IsEditable}
use Rattle.qg_tree_edits.specs.Rooting.{IsRooted}
use Rattle.qg_tree_backrefs.specs.Exchange.{times}
use Rattle.qg_tree_backrefs.specs.Settled.{IsSettled}
use Rattle.qg_tree_backrefs.specs.Heavier.{BookGetsHeavier, edit_bytes}
use Rattle.qg_fs_tree.specs.declared.fs_tree.FsTree.{FsTree}

-- ---- over any disk

-- nodes and space in which a subvolume's tree is edited by the generation to come
pub record IsSubvolume (fs : FsTree) (history : History) (bytes : ℕ) : Type 0 where
  pub editable : IsEditable fs.land history bytes fs.tree.next
  pub makes : CanMake Files fs.tree

-- ---- where the tree is told

-- what is told at an address
abbrev pub nodes_of : FsTree → History → ℕ → Option Node
nodes_of fs history = told fs.land.blocks.draft history

-- a tree reaches an address
abbrev pub IsReachedBy : FsTree → History → Root → ℕ → Type 0
IsReachedBy fs history tree q = Reaches (nodes_of fs history) tree.height tree.address q

-- so does the tree at hand
abbrev pub IsReached : FsTree → History → ℕ → Type 0
IsReached fs history = IsReachedBy fs history fs.tree

-- how many ways lead to an address in a tree
abbrev pub ways_in : FsTree → History → Root → ℕ → ℕ
ways_in fs history tree q = ways (nodes_of fs history) tree.height tree.address q

-- the trees of all subvolumes
abbrev pub trees_of : FsTree → List Root
trees_of fs = fs.tree ∷ fs.others.items

-- a tree other than the one at hand reaches an address
pub record IsElsewhere (fs : FsTree) (history : History) (q : ℕ) : Type 0 where
  pub tree : Root
  pub among : Contains fs.others.items tree
  pub reached : IsReachedBy fs history tree q

-- a slot's node, if some tree reaches it, with the mark that is kept of it
abbrev pub placed_at : FsTree → History → ℕ → Option (ℕ × Placed)
placed_at fs history at =
    if list_any (λ tree. nat_lt 0 (ways_in fs history tree at)) (trees_of fs)
    then option_map (λ node. (at, record { node = node; full = full_in (book_of fs.refs.refs at) }))
    (nodes_of fs history at) else None

-- the roots of all trees, by the numbers of their subvolumes
abbrev pub roots_of : FsTree → List (ℕ × ℕ)
roots_of fs = with_value fs.tree.owner fs.tree.address (map (λ tree. (tree.owner, tree.address)) fs.others.items)

-- the trees as a layout: their roots, and the nodes that they reach, slot by slot
unfoldable pub layout_in : FsTree → History → Layout
layout_in fs history = record {
  nodesize = fs.land.space.sizes.nodesize;
  roots = roots_of fs;
  nodes = filter_map (placed_at fs history) (every_slot fs.land.space.sizes);
}

-- a keyed reference by a piece of a file of a number, to the extent that the piece names
abbrev pub name_of : ℕ → ℕ × Piece → Owing
name_of owner name = record {
  address = name.1.extent;
  reference = KeyedData owner name.0 (reference_offset name.1.position name.1.offset);
}

-- the piece that an item tells, with the number of its file
abbrev pub piece_in : Option FilePart → Option (ℕ × Piece)
piece_in None = None
piece_in (Some (Inode ino inode)) = None
piece_in (Some (PieceOf ino piece)) = Some (ino, piece)

-- the same, of an item as it stands
abbrev pub name_told : Item → Option (ℕ × Piece)
name_told item = piece_in (file_part item)

-- the items of a tree, from left to right
abbrev pub items_in : FsTree → History → Root → List Item
items_in fs history tree = items_or_none (items_below (nodes_of fs history) tree.height tree.address) where
  items_or_none : Option (List Item) → List Item
  items_or_none None = []
  items_or_none (Some items) = items

-- the pieces that the other trees tell, each with the number of its file
unfoldable pub names_elsewhere : FsTree → History → List (ℕ × Piece)
names_elsewhere fs history = flat_map (λ tree. filter_map name_told (items_in fs history tree)) fs.others.items

-- the extents of these pieces, and of those that the other trees tell
abbrev pub extents_named : FsTree → History → List (ℕ × Piece) → List Element
extents_named fs history names = map (λ name. extent_of name.1) (names ++ names_elsewhere fs history)

-- how often a keyed reference is there by some pieces
abbrev pub names_times : ℕ → List (ℕ × Piece) → ℕ → Reference → ℕ
names_times owner names at reference = times (map (name_of owner) names) at reference

-- each piece that items tell is named
abbrev pub AreNamed : ℕ → List Item → List (ℕ × Piece) → Type 0
AreNamed owner items names = (at : ℕ) (reference : Reference)
    → names_times owner (filter_map name_told items) at reference ≤ names_times owner names at reference

-- the extent that a piece names is a run of whole sectors in the data area, its length is known, and that it is of no
-- generation past the one to come
pub record IsKnownExtent (sizes : Sizes) (next : ℕ) (book : Book) (piece : Piece) : Type 0 where
  pub lies : IsTrue (is_run sizes piece.extent piece.extent_bytes)
  pub generation : ℕ
  pub known : what_in (book piece.extent)
      ≡ Some (record { bytes = piece.extent_bytes; level = None; generation = generation })
  pub dated : generation ≤ next

-- a book of references is one of a tree that lies in an image
pub record IsBookOf (fs : FsTree) : Type 0 where
  pub owner : fs.refs.tree ≡ fs.tree.owner
  pub next : fs.refs.next ≡ fs.tree.next
  pub nodesize : fs.refs.nodesize ≡ fs.land.space.sizes.nodesize

-- a tree other than the one at hand stands beside it, in the same nodes and space
pub record IsBeside (fs : FsTree) (history : History) (other : Root) : Type 0 where
  pub items : List Item
  pub rooted : IsRooted Files other fs.land history items
  pub next : other.next ≡ fs.tree.next
  pub number : other.owner ≢ fs.tree.owner

-- a node's owner reaches it
pub record IsAtHome (fs : FsTree) (history : History) (q owner : ℕ) : Type 0 where
  pub tree : Root
  pub among : Contains (trees_of fs) tree
  pub number : tree.owner ≡ owner
  pub reached : IsReachedBy fs history tree q

-- The tree at hand has these items, and the others stand beside it, ascending by number. Each node that is not full is
-- reached by its owner; a fresh one is not full, and its owner alone reaches it. What is kept is what the trees owe,
-- but that these pieces stand for those of the items: in the midst of a command some are named that no item tells. None
-- is named more often than a reference is counted. Each node lies in a slot, and the runs that are taken are the
-- extents of these pieces and of those that the other trees tell
pub record Stands (fs : FsTree) (history : History) (items : List Item) (names : List (ℕ × Piece)) : Type 0
  where
    pub book : IsBookOf fs
    pub rooted : IsRooted Files fs.tree fs.land history items
    pub ascending : IsStrictlyIncreasing (map (λ other. other.owner) fs.others.items)
    pub beside : All (IsBeside fs history) fs.others.items
    pub placed : (tree : Root) (q : ℕ) → Contains (trees_of fs) tree → IsReachedBy fs history tree q
        → IsTrue (is_slot fs.land.space.sizes q)
    pub home : (tree : Root) (q : ℕ) (node : Node) → Contains (trees_of fs) tree → IsReachedBy fs history tree q
        → nodes_of fs history q ≡ Some node → full_in (book_of fs.refs.refs q) ≡ false
        → IsAtHome fs history q (header_of node).owner
    pub young : (tree : Root) (q : ℕ) (node : Node) → Contains (trees_of fs) tree → IsReachedBy fs history tree q
        → fresh_at fs.land.blocks.draft q ≡ Some node
        → (full_in (book_of fs.refs.refs q) ≡ false) × ((header_of node).owner ≡ tree.owner)
    pub fits : fs.refs.misfit ≡ None
    pub counts : (at : ℕ) (reference : Reference)
        → count_at (book_of fs.refs.refs) at reference + names_times fs.tree.owner (filter_map name_told items) at
        reference
        ≡ owed_count (layout_in fs history) at reference + names_times fs.tree.owner names at reference
    pub within : AreNamed fs.tree.owner items names
    pub few : (at : ℕ) (reference : Reference) → names_times fs.tree.owner names at reference ≤ 4294967295
    pub settled : IsSettled fs.refs fs.land history
    pub known : All (λ name. IsKnownExtent fs.land.space.sizes fs.tree.next (book_of fs.refs.refs) name.1)
        (names ++ names_elsewhere fs history)
    pub runs : (run : Element) → Contains fs.land.space.runs run ↔ Contains (extents_named fs history names) run

-- a node of the last commit is full once its owner reaches it no more
abbrev pub is_full_then : FsTree → FsTree → History → ℕ → Node → Bool
is_full_then old new history q node =
    full_in (book_of old.refs.refs q)
    || (((header_of node).owner == old.tree.owner) && not (nat_lt 0 (ways_in new history new.tree q)))

-- What an edit makes of the tree at hand and of the nodes: what it reaches it reached before, or lies in a slot that
-- was free; only these are told otherwise, and only slots that were free or reached are free. What the other trees
-- reach is told as it was, and these trees are the same. A node that some tree reaches, and that the last commit holds,
-- gets the mark where the subvolume at hand is its owner and reaches it no more
pub record Moves (old new : FsTree) (history : History) : Type 0 where
  pub trees : new.others ≡ old.others
  pub reach : (q : ℕ) → IsReached new history q → IsReached old history q ⊎ IsTrue (is_free_slot old.land.space q)
  pub others : (q : ℕ) → (IsTrue (is_free_slot old.land.space q) → ⊥) → (IsReached old history q → ⊥)
      → nodes_of new history q ≡ nodes_of old history q
  pub beside : (q : ℕ) → IsElsewhere old history q
      → (nodes_of new history q ≡ nodes_of old history q) × (IsTrue (is_free_slot new.land.space q) → ⊥)
  pub freed : (q : ℕ) → IsTrue (is_free_slot new.land.space q)
      → IsTrue (is_free_slot old.land.space q) ⊎ IsReached old history q
  pub marks : (tree : Root) (q : ℕ) (node : Node) → Contains (trees_of old) tree → IsReachedBy old history tree q
      → IsReached new history q ⊎ IsElsewhere new history q → Contains new.land.space.held_slots q
      → nodes_of old history q ≡ Some node
      → full_in (book_of new.refs.refs q) ≡ is_full_then old new history q node

-- What is named changes references, and which runs are taken, alone
pub record KeepsTree (old new : FsTree) : Type 0 where
  pub tree : new.tree ≡ old.tree
  pub others : new.others ≡ old.others
  pub land : new.land ≡ record old.land { space = record old.land.space { runs = new.land.space.runs } }

-- ---- another tree comes to hand

-- numbers of the other trees ascend, and the one of the tree at hand is none of them
pub record AreNumbered (fs : FsTree) : Type 0 where
  pub ascending : IsStrictlyIncreasing (map (λ other. other.owner) fs.others.items)
  pub apart_at : (other : Root) → Contains fs.others.items other → other.owner ≢ fs.tree.owner

-- another tree came to hand, the one of a number, and the book stands for it; all else is as it was
pub record IsTurned (old new : FsTree) (number : ℕ) : Type 0 where
  pub owner : new.tree.owner ≡ number
  pub trees : IsPermutation (trees_of old) (trees_of new)
  pub land : new.land ≡ old.land
  pub refs : new.refs ≡ record old.refs { tree = number }

-- each other tree may be the one at hand: over any disk, it is of the generation to come and of a subvolume
pub record CanTurn (fs : FsTree) : Type 0 where
  pub next : (other : Root) → Contains fs.others.items other → other.next ≡ fs.tree.next
  pub owner : (other : Root) → Contains fs.others.items other → IsTrue (is_owner Files other.owner)

-- memory was refused, or references or runs are not what they should be at an address
abbrev pub IsMisfitAt : ℕ → BlockFault → Type 0
IsMisfitAt at NoMemory = ⊤
IsMisfitAt at Disk = ⊥
IsMisfitAt at (Image rule address) = (rule ≡ Refs) × (address ≡ at)

-- how many slots the present state has
unfoldable pub taken_slots : Holding → ℕ
taken_slots holding = count_by (has_slot holding) (every_slot holding.sizes)

-- how many slots a present state has that another, of the same sizes, has not
unfoldable pub made_slots : Holding → Holding → ℕ
made_slots old new = count_by (λ slot. has_slot new slot && not (has_slot old slot)) (every_slot new.sizes)

-- how many slots the tree at hand reaches
unfoldable pub own_slots : FsTree → History → ℕ
own_slots fs history = count_by (λ slot. nat_lt 0 (ways_in fs history fs.tree slot)) (every_slot fs.land.space.sizes)

-- an edit left the tree at hand with these items, and the same names; it took fewer than twice so many slots that were
-- not taken before, and the tree reaches at most so many more. What the items take that stand for the references is no
-- more than before and what such an edit may bring
pub record IsEditedTo (old new : FsTree) (history : History) (items : List Item) (names : List (ℕ × Piece))
    (most : ℕ) : Type 0 where
  pub stands : Stands new history items names
  pub moves : Moves old new history
  pub made : made_slots old.land.space new.land.space + 1 ≤ 2 * most
  pub few : own_slots new history ≤ own_slots old history + most
  pub heavier : BookGetsHeavier old.refs new.refs (edit_bytes old.land.space.sizes.nodesize old.tree.height)
