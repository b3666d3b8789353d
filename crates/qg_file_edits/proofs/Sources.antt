-- Files that are read of any tree: the extents that their pieces name are named.
use Rattle.std.proofs.Common.{◌≡◌, ℕ, ◌^◌, ◌<◌, List, ◌++◌, refl, sym, ap, subst, ◌∙◌, inl, inr}
use Rattle.std.specs.List.{All, Contains, filter_map, flat_map}
use Rattle.std.proofs.lemmas.List.Elements.{All-weaker, Contains-append_left, Contains-append_right}
use Rattle.qg_device.specs.History.{History}
use Rattle.qg_num.specs.declared.piece.Piece.{Piece}
use Rattle.qg_node.specs.declared.item.Item.{Item}
use Rattle.qg_image.specs.declared.file.File.{File}
use Rattle.qg_image.proofs.Contained.{contains_cases}
use Rattle.qg_image.specs.declared.tree.TreeKind.TheVariants.{Files}
use Rattle.qg_root_items.specs.Written.{items_of_file}
use Rattle.qg_tree_read.specs.Tree.{Root, TellsTree}
use Rattle.qg_shared_trees.specs.Types.{FsTree}
use Rattle.qg_shared_trees.specs.Standing.{items_in, name_told, names_elsewhere, trees_of}
use Rattle.qg_shared_trees.proofs.Lists.{has-flat}
use Rattle.qg_file_edits.specs.Named.{named, names_by}
use Rattle.qg_file_edits.proofs.Names.{names-spelled}
use Rattle.qg_file_edits.specs.Files.{HasFiles, HoldsFiles, pieces_of}
use Rattle.qg_file_edits.proofs.Extents.{IsOfNamed, named-among, pieces-named}

-- the tree at hand has the items of the files that it holds
own_items : (fs : FsTree) (history : History) (items : List Item)
    → TellsTree Files fs.tree fs.land.blocks.draft history items → items_in fs history fs.tree ≡ items
own_items fs history items tells = rw tells.items_are refl

pub own_files : (fs : FsTree) (history : History) (files : List (ℕ × File)) → HoldsFiles fs history files
    → HasFiles fs history fs.tree files
own_files fs history files holds = record {
  items = own_items fs history (flat_map items_of_file files) holds.stands.rooted.tells;
  writable = holds.writable;
  by = holds.by;
}

-- a file of any tree names extents that the files at hand name, or another tree does
module _ (fs : FsTree) (history : History) (files source_files : List (ℕ × File)) (tree : Root)
    (source : ℕ) (fits : fs.tree.next < 2 ^ 64) (holds : HoldsFiles fs history files)
    (among : Contains (trees_of fs) tree) (has : HasFiles fs history tree source_files) where
  told_there : filter_map name_told (items_in fs history tree) ≡ names_by source_files
  told_there =
      ap (λ (items : List Item). filter_map name_told items) has.items
      ∙ names-spelled fs.tree.next source_files fits has.writable has.by

  told_here : filter_map name_told (items_in fs history fs.tree) ≡ named files
  told_here =
      let own = own_files fs history files holds in
      ap (λ (items : List Item). filter_map name_told items) own.items

  name_there : (name : ℕ × Piece) → Contains (names_by source_files) name
      → Contains (named files ++ names_elsewhere fs history) name
  unfolding names_elsewhere
  name_there name own =
      let told = subst (λ (names : List (ℕ × Piece)). Contains names name) (sym told_there) own in
      elim (contains_cases fs.tree fs.others.items tree among) [
        | inl same ↦
            let here = subst (λ (t : Root). Contains (filter_map name_told (items_in fs history t)) name) (sym same)
            told in
            Contains-append_left (named files) (names_elsewhere fs history) name
            (subst (λ (names : List (ℕ × Piece)). Contains names name) told_here here)
        | inr later ↦
            Contains-append_right (named files) (names_elsewhere fs history) name
            (has-flat (λ (t : Root). filter_map name_told (items_in fs history t)) fs.others.items tree name later told)
      ]

  pub source-named : All (IsOfNamed (named files ++ names_elsewhere fs history)) (pieces_of source source_files)
  source-named =
      All-weaker (IsOfNamed (names_by source_files)) (IsOfNamed (named files ++ names_elsewhere fs history))
      (named-among (names_by source_files) (named files ++ names_elsewhere fs history) name_there)
      (pieces_of source source_files) (pieces-named source source_files)
