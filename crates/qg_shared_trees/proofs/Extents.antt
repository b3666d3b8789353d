-- The extents that leaves name are those of the pieces of files.
use Rattle.std.proofs.Common.{◌≡◌, ℕ, List, map, Option, Some, None, refl, ap}
use Rattle.std.specs.List.{Contains, flat_map}
use Rattle.qg_num.specs.declared.piece.Piece.{Piece}
use Rattle.qg_node.specs.declared.item.Item.{Item}
use Rattle.qg_node.specs.declared.node.Node.{Node}
use Rattle.qg_node.specs.Nodes.{own_items}
use Rattle.qg_image.specs.declared.file.File.{File}
use Rattle.qg_image.specs.declared.part.FilePart.{FilePart}
use Rattle.qg_image.specs.declared.part.FilePart.TheVariants.{Inode, PieceOf}
use Rattle.qg_image.specs.FilesOf.{AreItemsOfFiles}
use Rattle.qg_image.specs.ItemMeaning.{file_part}
use Rattle.qg_image.specs.declared.element.Element.{Element}
use Rattle.qg_image.specs.Owed.{layout_extents}
use Rattle.qg_image.specs.Reach.{extent_of, pieces_of}
use Rattle.qg_image.specs.Space.{present_extents}
use Rattle.qg_image.specs.State.{Layout, Placed, State, Subvolume}
use Rattle.qg_fs_tree.specs.Standing.{name_told, piece_in}
use Rattle.qg_shared_trees.specs.Laying.{names_in}
use Rattle.qg_shared_trees.proofs.PiecesTold.{TellsExtent as TellsPiece, extents_of_files, file-item, item-file}
use Rattle.qg_shared_trees.proofs.PiecesTold.{item-named, named-item}
use Rattle.qg_shared_trees.proofs.Referring.{named_by}
use Rattle.qg_fs_tree.proofs.Lists.{from-flat, from-mapped, from-some, has-flat, made-some}

-- ---- the piece of an item

-- an item tells a piece of an extent
pub record TellsExtent (item : Item) (run : Element) : Type 0 where
  pub name : ℕ × Piece
  pub told : name_told item ≡ Some name
  pub is : extent_of name.1 ≡ run

name_part : (part : Option FilePart) (name : ℕ × Piece) → piece_in part ≡ Some name
    → part ≡ Some (PieceOf name.0 name.1)
name_part None name is = absurd cc
name_part (Some (Inode ino inode)) name is = absurd cc
name_part (Some (PieceOf ino own)) name is =
    let same : (ino, own) ≡ name = let e : Some (ino, own) ≡ Some name = is in cc in
    ap (λ (n : ℕ × Piece). Some (PieceOf n.0 n.1)) same

part_name : (part : Option FilePart) (ino : ℕ) (piece : Piece) → part ≡ Some (PieceOf ino piece)
    → piece_in part ≡ Some (ino, piece)
part_name part ino piece is = rw is refl

-- it does so where it is a piece of that extent, and back
as_piece : (item : Item) (run : Element) → TellsExtent item run → TellsPiece item run
as_piece item run tells = record {
  number = tells.name.0;
  piece = tells.name.1;
  told = name_part (file_part item) tells.name tells.told;
  is = tells.is;
}

as_name : (item : Item) (run : Element) → TellsPiece item run → TellsExtent item run
as_name item run tells = record {
  name = (tells.number, tells.piece);
  told = part_name (file_part item) tells.number tells.piece tells.told;
  is = tells.is;
}

-- ---- one node

pub own-extent : (node : Node) (run : Element) → Contains (named_by node) run
    → (item : Item) × Contains (own_items node) item × TellsExtent item run
own-extent node run has =
    let told = named-item node run has in (told.0, told.1, as_name told.0 run told.2)

-- ---- a layout

pub from-layout : (layout : Layout) (run : Element) → Contains (layout_extents layout) run
    → (entry : ℕ × Placed) × Contains layout.nodes entry × (item : Item) × Contains (own_items entry.1.node) item
    × TellsExtent item run
unfolding layout_extents
from-layout layout run has =
    let entry = from-flat (λ (entry : ℕ × Placed). map extent_of (pieces_of entry.1.node)) layout.nodes run has in
    let item = own-extent entry.0.1.node run entry.2 in
    (entry.0, entry.1, item.0, item.1, item.2)

pub in-layout : (layout : Layout) (run : Element) (entry : ℕ × Placed) → Contains layout.nodes entry → (item : Item)
    → Contains (own_items entry.1.node) item → TellsExtent item run → Contains (layout_extents layout) run
unfolding layout_extents
in-layout layout run entry there item has tells =
    has-flat (λ (entry : ℕ × Placed). map extent_of (pieces_of entry.1.node)) layout.nodes entry run there
    (item-named entry.1.node run item has (as_piece item run tells))

-- ---- names

pub from-names : (items : List Item) (run : Element)
    → Contains (map (λ (name : ℕ × Piece). extent_of name.1) (names_in items)) run
    → (item : Item) × Contains items item × TellsExtent item run
from-names items run has =
    let name = from-mapped (λ (name : ℕ × Piece). extent_of name.1) (names_in items) run has in
    let item = from-some name_told items name.0 name.1 in
    (item.0, item.1, record { name = name.0; told = item.2; is = name.2 })

pub in-names : (items : List Item) (item : Item) (run : Element) → Contains items item → (tells : TellsExtent item run)
    → Contains (names_in items) tells.name
in-names items item run has tells = made-some name_told items item tells.name has tells.told

-- ---- files

module _ (generation : ℕ) (items : List Item) (read : List (ℕ × File))
    (is : AreItemsOfFiles generation items read) (run : Element) where
  pub from-files : Contains (extents_of_files read) run → (item : Item) × Contains items item × TellsExtent item run
  from-files has =
      let told = file-item generation items read is run has in (told.0, told.1, as_name told.0 run told.2)

  pub in-files : (item : Item) → Contains items item → TellsExtent item run → Contains (extents_of_files read) run
  in-files item has tells = item-file generation items read is run item has (as_piece item run tells)

-- the present extents of a state are those of its subvolumes' files
pub from-present : (state : State) (run : Element) → Contains (present_extents state) run
    → (entry : ℕ × Subvolume) × Contains state.subvolumes entry
    × Contains (flat_map (λ (file : ℕ × File). map extent_of file.1.pieces) entry.1.files) run
unfolding present_extents
from-present state run has = from-flat (λ (entry : ℕ × Subvolume).
    flat_map (λ (file : ℕ × File). map extent_of file.1.pieces) entry.1.files) state.subvolumes run has

pub in-present : (state : State) (run : Element) (entry : ℕ × Subvolume) → Contains state.subvolumes entry
    → Contains (flat_map (λ (file : ℕ × File). map extent_of file.1.pieces) entry.1.files) run
    → Contains (present_extents state) run
unfolding present_extents
in-present state run entry there has = has-flat (λ (entry : ℕ × Subvolume).
    flat_map (λ (file : ℕ × File). map extent_of file.1.pieces) entry.1.files) state.subvolumes entry run there has
