-- What a file command makes of files that takes one of them out, by the edits that it does.
use Rattle.std.proofs.Common.{◌≡◌, ℕ, ◌+◌, ◌^◌, ◌<◌, ◌≤◌, List, [], ◌∷◌, ◌++◌, length, map, Option, Some, arith, refl}
use Rattle.std.proofs.Common.{sym, ap, subst, true, false, ◌∙◌}
use Rattle.std.specs.Prelude.{Bool, filter, is_some, not, if◌then◌else◌}
use Rattle.std.specs.List.{All, flat_map}
use Rattle.std.specs.List.Sorted.{IsPermutation}
use Rattle.std.specs.Option.{option_to_list}
use Rattle.std.proofs.lemmas.List.Elements.{All-nil}
use Rattle.std.proofs.lemmas.List.Sorted.{IsPermutation-refl}
use Rattle.qg_num.specs.declared.key.Key.{Key}
use Rattle.qg_num.specs.declared.piece.Piece.{Piece}
use Rattle.qg_node.specs.declared.item.Item.{Item}
use Rattle.qg_image.specs.declared.file.File.{File}
use Rattle.qg_image.specs.IsShaped.{same_key}
use Rattle.qg_image.specs.Table.{value_at, without_key as without_value}
use Rattle.qg_tree_items.specs.Writable.{AreWritableFiles, IsFileBy}
use Rattle.qg_root_items.specs.Written.{item_of_piece, items_of_file}
use Rattle.qg_edit.specs.Edits.{without_key}
use Rattle.qg_shared_trees.specs.Standing.{name_told, names_times}
use Rattle.qg_file_edits.specs.FileEdits.{without_items}
use Rattle.qg_file_edits.proofs.Exchanged.{removes-file}
use Rattle.qg_file_edits.proofs.InodesTables.{writable-without}
use Rattle.qg_file_edits.specs.declared.step.Step.{Step}
use Rattle.qg_file_edits.specs.Applying.{CanExchange}
use Rattle.qg_file_edits.specs.Named.{AreNamesExchanged, named, names_by, names_of}
use Rattle.qg_file_edits.specs.Steps.{AreSteps}
use Rattle.qg_file_edits.proofs.NameCounts.{names-few}
use Rattle.qg_file_edits.proofs.FewSteps.{steps-few}
use Rattle.qg_file_edits.proofs.Names.{names-removed, names-spelled}
use Rattle.qg_file_edits.proofs.Possible.{removed-can}
use Rattle.qg_file_edits.specs.declared.exchange.Exchange.{Exchange}
use Rattle.qg_file_edits.specs.declared.inode.InodeEdit.{InodeEdit}
use Rattle.qg_file_edits.specs.Changes.{IsUnlinked}
use Rattle.qg_file_edits.specs.Editing.{CanEditInode, after_inode, inode_key}
use Rattle.qg_file_edits.specs.Exchanging.{MakesFiles, TellPieces, after_exchange, exchanged}
use Rattle.qg_file_edits.specs.Naming.{AreFewNames, AreOfNamed}
use Rattle.qg_file_edits.proofs.Extents.{IsOfNamed}
use Rattle.qg_file_edits.proofs.Files.{by-without}
use Rattle.qg_file_edits.proofs.Inodes.{inode-has}
use Rattle.qg_file_edits.proofs.Ranges.{both-lists}

-- ---- the order in which items are taken out

module _ {A : Type 0} (p q : A → Bool) where
  swap_one : (x : A) (xs : List A) (a b : Bool) → p x ≡ a → q x ≡ b → filter p (filter q xs) ≡ filter q (filter p xs)
      → filter p (if b then x ∷ filter q xs else filter q xs) ≡ filter q (if a then x ∷ filter p xs else filter p xs)
  swap_one x xs true true first second same =
      ap (λ (c : Bool). if c then x ∷ filter p (filter q xs) else filter p (filter q xs)) first
      ∙ ap (λ (zs : List A). x ∷ zs) same
      ∙ sym (ap (λ (c : Bool). if c then x ∷ filter q (filter p xs) else filter q (filter p xs)) second)
  swap_one x xs true false first second same =
      same ∙ sym (ap (λ (c : Bool). if c then x ∷ filter q (filter p xs) else filter q (filter p xs)) second)
  swap_one x xs false true first second same =
      ap (λ (c : Bool). if c then x ∷ filter p (filter q xs) else filter p (filter q xs)) first ∙ same
  swap_one x xs false false first second same = same

  filter_swap : (xs : List A) → filter p (filter q xs) ≡ filter q (filter p xs)
  filter_swap [] = refl
  filter_swap (x ∷ xs) = swap_one x xs (p x) (q x) refl refl (filter_swap xs)

last_taken : (key : Key) (gone items : List Item)
    → without_key key (without_items gone items) ≡ without_items gone (without_key key items)
last_taken key [] items = refl
last_taken key (one ∷ gone) items =
    last_taken key gone (without_key one.key items) ∙ ap (without_items gone)
    (filter_swap (λ (item : Item). not (same_key item.key key)) (λ (item : Item). not (same_key item.key one.key))
    items)

-- ---- a file

module _ (generation ino : ℕ) (file : File) (files : List (ℕ × File)) (there : value_at ino files ≡ Some file)
    (are : AreWritableFiles files) (by : All (IsFileBy generation) files) (fits : generation < 2 ^ 64) where
  pub left-files : AreWritableFiles (without_value ino files)
  left-files = writable-without ino files are

  pub left-files_by : All (IsFileBy generation) (without_value ino files)
  left-files_by = by-without generation ino files by

  spelled : named files ≡ names_by files
  spelled = names-spelled generation files fits are by

  spelled_new : named (without_value ino files) ≡ names_by (without_value ino files)
  spelled_new = names-spelled generation (without_value ino files) fits left-files left-files_by

  names : AreNamesExchanged (named files) (named (without_value ino files)) (names_of ino file.pieces) []
  names =
      both-lists (λ (xs ys : List (ℕ × Piece)). AreNamesExchanged xs ys (names_of ino file.pieces) [])
      (names_by files) (names_by (without_value ino files)) (named files) (named (without_value ino files)) spelled
      spelled_new (names-removed ino file files are.ascending there)

  few : (owner : ℕ) → AreFewNames owner (named files)
  few owner at reference =
      let most = subst (λ (xs : List (ℕ × Piece)). names_times owner xs at reference ≤ 268435456) (sym spelled)
      (names-few owner at reference files are) in
      omega (arith, most)

  module _ (owner : ℕ) (met : List Piece) (change : Exchange) (met_read : met ≡ file.pieces)
      (is : IsUnlinked met change) where
    gone_is : change.gone ≡ file.pieces
    gone_is = is.gone ∙ met_read

    exchanged_is : exchanged ino change.gone change.put (flat_map items_of_file files)
        ≡ exchanged ino file.pieces [] (flat_map items_of_file files)
    exchanged_is =
        ap (λ (xs : List Piece). exchanged ino xs change.put (flat_map items_of_file files)) gone_is
        ∙ ap (λ (xs : List Piece). exchanged ino file.pieces xs (flat_map items_of_file files)) is.put

    made : after_exchange ino change (flat_map items_of_file files) ≡ flat_map items_of_file (without_value ino files)
    made =
        let items = flat_map items_of_file files in
        ap (λ (left : List Item). after_inode ino change.inode left) exchanged_is
        ∙ ap (λ (edit : InodeEdit). after_inode ino edit (exchanged ino file.pieces [] items)) is.inode
        ∙ last_taken (inode_key ino) (map (item_of_piece ino) file.pieces) items
        ∙ removes-file ino file files are there

    inode_fits : CanEditInode ino change.inode (exchanged ino change.gone change.put (flat_map items_of_file files))
    inode_fits =
        subst (λ (edit : InodeEdit). CanEditInode ino edit
        (exchanged ino change.gone change.put (flat_map items_of_file files))) (sym is.inode)
        (inode-has ino change.gone change.put files are ∙ ap (λ (o : Option File). is_some o) there)

    short : (steps : List Step) → AreSteps change.gone change.put steps → length steps + 1 ≤ length file.pieces + 1
    short steps steps_are =
        let most = steps-few change.gone change.put steps steps_are in
        let gone = ap (λ (xs : List Piece). length xs) gone_is in
        let put : length change.put ≡ 0 = ap (λ (xs : List Piece). length xs) is.put in
        omega (arith, most, gone, put)

    pub removal-makes : (elsewhere : List (ℕ × Piece))
        → MakesFiles (length file.pieces + 1) owner ino change elsewhere files (without_value ino files)
    removal-makes elsewhere = record {
      can = record {
        can = both-lists (λ (xs ys : List Piece). CanExchange ino xs ys (flat_map items_of_file files)) file.pieces []
            change.gone change.put gone_is is.put (removed-can ino file files are there);
        inode = inode_fits;
        short = short;
      };
      made = made;
      names = both-lists
          (λ (xs ys : List Piece). AreNamesExchanged (named files) (named (without_value ino files)) (names_of ino xs)
          (names_of ino ys)) file.pieces [] change.gone change.put gone_is is.put names;
      put = both-lists
          (λ (xs ys : List Piece). IsPermutation (names_of ino (xs ++ option_to_list change.new)) (names_of ino ys)) []
          []
          change.named change.put is.named is.put
          (subst (λ (o : Option Piece). IsPermutation (names_of ino ([] ++ option_to_list o)) []) (sym is.new)
          (IsPermutation-refl []));
      tell = subst (λ (xs : List Piece). TellPieces ino xs) (sym is.put)
          (All-nil (λ (piece : Piece). name_told (item_of_piece ino piece) ≡ Some (ino, piece)));
      known = subst (λ (xs : List Piece). AreOfNamed (named files ++ elsewhere) xs) (sym is.named)
          (All-nil (IsOfNamed (named files ++ elsewhere)));
      few = subst (λ (xs : List Piece). AreFewNames owner (names_of ino xs ++ named files)) (sym is.put) (few owner);
    }
