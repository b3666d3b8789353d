-- What the items of a subvolume hold.
use Rattle.std.proofs.Common.{◌≡◌, ℕ, true, List, refl, sym}
use Rattle.std.specs.List.{list_all}
use Rattle.qg_node.specs.declared.item.Item.{Item}
use Rattle.qg_image.specs.declared.file.File.{File}
use Rattle.qg_image.specs.declared.part.FilePart.{FilePart}
use Rattle.qg_image.specs.FilesOf.{file_parts, are_files, files_in, files_of, AreItemsOfFiles}
use Rattle.qg_image.specs.declared.tree.TreeKind.TheVariants.{Files}
use Rattle.qg_image.specs.Walk.{is_item_of}

-- the items fit each other, and these are their files
pub record FilesRead (parts : List FilePart) (files : List (ℕ × File)) : Type 0 where
  pub are : are_files parts ≡ true
  pub is : files ≡ files_in parts

-- the files of items that the tree may hold
pub files_of_held : (generation : ℕ) (items : List Item) (parts : List FilePart) (files : List (ℕ × File))
    → list_all (is_item_of Files generation) items ≡ true → file_parts items ≡ parts → FilesRead parts files
    → AreItemsOfFiles generation items files
unfolding files_of is_item_of
files_of_held generation items parts files held are read =
    rw (held, are, read.are, sym read.is) refl
