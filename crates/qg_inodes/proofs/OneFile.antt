-- What stands under each key once one file is changed, made or taken out.
use Rattle.std.proofs.Common.{◌≡◌, ℕ, List, refl, sym, ap, ◌∙◌, inl, inr}
use Rattle.std.specs.Prelude.{Option, ◌==◌}
use Rattle.std.specs.List.{flat_map}
use Rattle.std.specs.List.Sorted.{IsStrictlyIncreasing}
use Rattle.std.specs.Option.{option_and_then}
use Rattle.std.proofs.lemmas.Bool.{cases_Bool}
use Rattle.qg_num.specs.declared.key.Key.{Key}
use Rattle.qg_node.specs.declared.item.Item.{Item}
use Rattle.qg_image.specs.declared.file.File.{File}
use Rattle.qg_image.specs.Table.{keys_of, with_value, without_key}
use Rattle.qg_tree_items.specs.Writable.{AreWritableFiles, IsWritableFile}
use Rattle.qg_root_items.specs.Written.{items_of_file}
use Rattle.qg_tree_read.specs.Reading.{body_at}
use Rattle.qg_inodes.specs.Bodies.{Ascend, body_in_file, body_with_file, body_without_file}
use Rattle.qg_inodes.proofs.FileBodies.{body-files}
use Rattle.qg_inodes.proofs.Numbers.{files-ascend}
use Rattle.qg_inodes.proofs.Tables.{increasing-with, increasing-without, value-with, value-without, writable-with}
use Rattle.qg_inodes.proofs.Tables.{writable-without}
use Rattle.qg_inodes.proofs.BodiesByKey.{same-bodies}

module _ (ino : ℕ) (files : List (ℕ × File)) (up : IsStrictlyIncreasing (keys_of files)) (key : Key) where
  abbrev old : List Item
  old = flat_map items_of_file files

  -- what the file of the key's number has there
  abbrev there : Option File → Option (List ℕ)
  there found = option_and_then (body_in_file key.kind key.offset) found

  pub body-with_file : (file : File)
      → body_at key (flat_map items_of_file (with_value ino file files)) ≡ body_with_file ino file old key
  body-with_file file =
      body-files (with_value ino file files) (increasing-with ino files up file) key
      ∙ ap there (value-with key.objectid ino file files)
      ∙ elim (cases_Bool (ino == key.objectid)) [
        | inl own ↦ rw own refl
        | inr other ↦ rw other (sym (body-files files up key))
      ]

  pub body-without_file : body_at key (flat_map items_of_file (without_key ino files)) ≡ body_without_file ino old key
  body-without_file =
      body-files (without_key ino files) (increasing-without ino files up) key
      ∙ ap there (value-without key.objectid ino files)
      ∙ elim (cases_Bool (ino == key.objectid)) [
        | inl own ↦ rw own refl
        | inr other ↦ rw other (sym (body-files files up key))
      ]

-- ---- no other items have these bodies

pub puts-file : (ino : ℕ) (file : File) (files : List (ℕ × File)) (items : List Item) → AreWritableFiles files
    → IsWritableFile (ino, file)
    → Ascend items → ((key : Key) → body_at key items ≡ body_with_file ino file (flat_map items_of_file files) key)
    → items ≡ flat_map items_of_file (with_value ino file files)
puts-file ino file files items are new ascending bodies =
    let files' = with_value ino file files in
    same-bodies items (flat_map items_of_file files') ascending
    (files-ascend files' (writable-with ino file files are new))
    (λ key. bodies key ∙ sym (body-with_file ino files are.ascending key file))

pub takes-file : (ino : ℕ) (files : List (ℕ × File)) (items : List Item) → AreWritableFiles files → Ascend items
    → ((key : Key) → body_at key items ≡ body_without_file ino (flat_map items_of_file files) key)
    → items ≡ flat_map items_of_file (without_key ino files)
takes-file ino files items are ascending bodies =
    let files' = without_key ino files in
    same-bodies items (flat_map items_of_file files') ascending (files-ascend files' (writable-without ino files are))
    (λ key. bodies key ∙ sym (body-without_file ino files are.ascending key))
