-- The INODE_ITEM of a file, while its pieces are exchanged.
use Rattle.std.proofs.Common.{◌≡◌, ℕ, false, List, [], ◌∷◌, map, Option, Some, None, refl, ap, ◌∙◌}
use Rattle.std.specs.Prelude.{Bool, ◌==◌, ◌&&◌, is_some, if◌then◌else◌}
use Rattle.std.specs.List.{flat_map}
use Rattle.std.specs.Option.{option_and_then}
use Rattle.qg_num.specs.declared.piece.Piece.{Piece}
use Rattle.qg_node.specs.declared.item.Item.{Item}
use Rattle.qg_image.specs.declared.file.File.{File}
use Rattle.qg_image.specs.IsShaped.{same_key}
use Rattle.qg_image.specs.Table.{value_at}
use Rattle.qg_tree_items.proofs.Parts.{and-false}
use Rattle.qg_tree_items.specs.Writable.{AreWritableFiles}
use Rattle.qg_root_items.specs.Written.{item_of_piece, items_of_file}
use Rattle.qg_edit.specs.Edits.{has_key, with_item, without_key}
use Rattle.qg_tree_read.specs.Reading.{body_at}
use Rattle.qg_file_edits.specs.Bodies.{body_in_file}
use Rattle.qg_file_edits.specs.FileEdits.{with_items, without_items}
use Rattle.qg_file_edits.proofs.EditedItems.{body-with_item, body-without_key}
use Rattle.qg_file_edits.proofs.FileBodies.{body-files}
use Rattle.qg_file_edits.proofs.BodiesByKey.{has-body}
use Rattle.qg_file_edits.specs.Applying.{key_at}
use Rattle.qg_file_edits.specs.Editing.{inode_key}
use Rattle.qg_file_edits.specs.Exchanging.{exchanged}

-- no piece stands under its key
piece_apart : (ino n position : ℕ) → same_key (key_at n position) (inode_key ino) ≡ false
piece_apart ino n position = ap (λ (b : Bool). b && (position == 0)) (and-false (n == ino))

put_beside : (ino : ℕ) (put : List Piece) (items : List Item)
    → body_at (inode_key ino) (with_items (map (item_of_piece ino) put) items) ≡ body_at (inode_key ino) items
put_beside ino [] items = refl
put_beside ino (piece ∷ put) items =
    let new = item_of_piece ino piece in
    put_beside ino put (with_item new items)
    ∙ body-with_item new items (inode_key ino)
    ∙ ap (λ (b : Bool). if b then Some new.body else body_at (inode_key ino) items) (piece_apart ino ino piece.position)

gone_beside : (ino : ℕ) (gone : List Piece) (items : List Item)
    → body_at (inode_key ino) (without_items (map (item_of_piece ino) gone) items) ≡ body_at (inode_key ino) items
gone_beside ino [] items = refl
gone_beside ino (piece ∷ gone) items =
    let key = (item_of_piece ino piece).key in
    gone_beside ino gone (without_key key items)
    ∙ body-without_key key items (inode_key ino)
    ∙ ap (λ (b : Bool). if b then None else body_at (inode_key ino) items) (piece_apart ino ino piece.position)

is_there : (ino : ℕ) (found : Option File) → is_some (option_and_then (body_in_file 1 0) found) ≡ is_some found
is_there ino None = refl
is_there ino (Some file) = refl

-- it is there exactly where the file is
pub inode-has : (ino : ℕ) (gone put : List Piece) (files : List (ℕ × File)) → AreWritableFiles files
    → has_key (inode_key ino) (exchanged ino gone put (flat_map items_of_file files)) ≡ is_some (value_at ino files)
inode-has ino gone put files are =
    let items = flat_map items_of_file files in
    let left = without_items (map (item_of_piece ino) gone) items in
    has-body (inode_key ino) (exchanged ino gone put items)
    ∙ ap is_some (put_beside ino put left ∙ gone_beside ino gone items ∙ body-files files are.ascending (inode_key ino))
    ∙ is_there ino (value_at ino files)
