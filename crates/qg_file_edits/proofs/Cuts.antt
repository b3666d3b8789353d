-- What a file command makes of files that cuts one of them, by the edits that it does.
--
-- Positions, lengths and sizes are in bytes.
use Rattle.std.proofs.Common.{◌≡◌, ℕ, ◌+◌, ◌^◌, ◌<◌, ◌≤◌, true, List, [], ◌++◌, length, Option, Some, arith, sym, ap}
use Rattle.std.proofs.Common.{subst, ◌∙◌}
use Rattle.std.specs.Prelude.{is_some}
use Rattle.std.specs.List.{All, flat_map}
use Rattle.std.specs.List.Sorted.{IsPermutation}
use Rattle.std.specs.Option.{option_to_list}
use Rattle.std.proofs.lemmas.List.Elements.{All-filter}
use Rattle.qg_num.specs.declared.piece.Piece.{Piece}
use Rattle.qg_node.specs.declared.item.Item.{Item}
use Rattle.qg_items.specs.declared.file.InodeItem.{InodeItem}
use Rattle.qg_image.specs.declared.file.File.{File}
use Rattle.qg_image.specs.FilesOf.{is_aligned, largest_size, pieces_bytes}
use Rattle.qg_image.specs.Table.{value_at, with_value}
use Rattle.qg_image.proofs.Pieces.{WholeFile-is_file}
use Rattle.qg_machine.specs.FileChange.{before, pieces_or_none, pieces_past, with_size}
use Rattle.qg_tree_items.specs.Writable.{AreWritableFiles, IsFileBy, IsWritableFile}
use Rattle.qg_root_items.specs.Written.{inode_of, items_of_file}
use Rattle.qg_file_edits.specs.PiecesWritten.{pieces_cut}
use Rattle.qg_file_edits.proofs.RangeEdits.{edits-size}
use Rattle.qg_file_edits.proofs.InodesTables.{writable-with}
use Rattle.qg_file_edits.specs.declared.step.Step.{Step}
use Rattle.qg_file_edits.specs.Applying.{CanExchange}
use Rattle.qg_file_edits.specs.Exchange.{IsExchange}
use Rattle.qg_file_edits.specs.Named.{AreNamesExchanged, named, names_by, names_of}
use Rattle.qg_file_edits.specs.Steps.{AreSteps}
use Rattle.qg_file_edits.proofs.FewSteps.{cut-few}
use Rattle.qg_file_edits.proofs.Names.{names-exchanged, names-spelled}
use Rattle.qg_file_edits.proofs.Possible.{size-can}
use Rattle.qg_file_edits.proofs.Stretches.{cut-exchanged}
use Rattle.qg_file_edits.proofs.ExchangedSums.{sums-exchanged}
use Rattle.qg_file_edits.specs.declared.exchange.Exchange.{Exchange}
use Rattle.qg_file_edits.specs.declared.inode.InodeEdit.{InodeEdit}
use Rattle.qg_file_edits.specs.Changes.{IsCut, inode_cut}
use Rattle.qg_file_edits.specs.Editing.{CanEditInode, after_inode}
use Rattle.qg_file_edits.specs.Exchanging.{MakesFiles, TellPieces, after_exchange, exchanged}
use Rattle.qg_file_edits.specs.Files.{pieces_of}
use Rattle.qg_file_edits.specs.Naming.{AreFewNames, AreOfNamed}
use Rattle.qg_file_edits.proofs.PieceCounts.{file-bytes, gone-part, put-few, put-tell}
use Rattle.qg_file_edits.proofs.Extents.{IsOfNamed, named-besides, pieces-named}
use Rattle.qg_file_edits.proofs.Files.{all-with, cut-by, cut-writable, file-found}
use Rattle.qg_file_edits.proofs.Inodes.{inode-has}
use Rattle.qg_file_edits.proofs.Parts.{all-before}
use Rattle.qg_file_edits.proofs.Ranges.{both-lists, none-besides}

-- ---- a size

module _ (generation ino size : ℕ) (file : File) (files : List (ℕ × File)) (there : value_at ino files ≡ Some file)
    (are : AreWritableFiles files) (by : All (IsFileBy generation) files) (fits : generation < 2 ^ 64)
    (aligned : is_aligned size ≡ true) (near : size ≤ largest_size) where
  abbrev new : File
  new = with_size generation size file

  abbrev cut : List Piece
  cut = pieces_cut size file.pieces

  abbrev put : List Piece
  put = before size (pieces_cut size file.pieces)

  new_sound : IsWritableFile (ino, with_size generation size file)
  new_sound = cut-writable generation ino size file files there are aligned near

  pub cut-files : AreWritableFiles (with_value ino (with_size generation size file) files)
  cut-files = writable-with ino new files are new_sound

  pub cut-files_by : All (IsFileBy generation) (with_value ino (with_size generation size file) files)
  cut-files_by = all-with (IsFileBy generation) ino new files by (cut-by generation ino size file files there by)

  exchange : IsExchange file.pieces (with_size generation size file).pieces cut put
  exchange =
      let old = file-found IsWritableFile ino file files there are.each in
      let whole = WholeFile-is_file file old.sound in
      cut-exchanged size file.size file.pieces whole.pieces

  exchange_of : IsExchange (pieces_of ino files) (with_size generation size file).pieces cut put
  exchange_of =
      subst (λ (found : Option File). IsExchange (pieces_or_none found) (with_size generation size file).pieces cut put)
      (sym there) exchange

  spelled : named files ≡ names_by files
  spelled = names-spelled generation files fits are by

  spelled_new : named (with_value ino (with_size generation size file) files)
      ≡ names_by (with_value ino (with_size generation size file) files)
  spelled_new = names-spelled generation (with_value ino new files) fits cut-files cut-files_by

  names : AreNamesExchanged (named files) (named (with_value ino (with_size generation size file) files))
      (names_of ino cut) (names_of ino put)
  names =
      both-lists (λ (xs ys : List (ℕ × Piece)). AreNamesExchanged xs ys (names_of ino cut) (names_of ino put))
      (names_by files) (names_by (with_value ino new files)) (named files) (named (with_value ino new files)) spelled
      spelled_new (names-exchanged ino new cut put files are.ascending exchange_of)

  tell : TellPieces ino (before size (pieces_cut size file.pieces))
  tell = put-tell generation ino new file.pieces cut put fits new_sound
      (cut-by generation ino size file files there by) exchange

  known : AreOfNamed (named files) put
  known =
      let of_files = IsOfNamed (names_by files) in
      let all : All of_files file.pieces =
      subst (λ (found : Option File). All of_files (pieces_or_none found)) there (pieces-named ino files) in
      subst (λ (xs : List (ℕ × Piece)). AreOfNamed xs put) (sym spelled)
      (all-before of_files (λ piece position len offset is. is) size cut (All-filter _ of_files file.pieces all))

  module _ (owner : ℕ) (inode : InodeItem) (met : List Piece) (change : Exchange) (inode_read : inode ≡ inode_of file)
      (met_read : met ≡ pieces_cut size file.pieces) (is : IsCut generation size inode met change) where
    gone_is : change.gone ≡ cut
    gone_is = is.gone ∙ met_read

    put_is : change.put ≡ put
    put_is = is.put ∙ ap (before size) met_read

    named_is : change.named ≡ put
    named_is = is.named ∙ ap (before size) met_read

    sums : pieces_bytes (with_size generation size file).pieces + pieces_bytes met
        ≡ inode.nbytes + pieces_bytes (before size met)
    sums =
        let all = sums-exchanged file.pieces (with_size generation size file).pieces cut put exchange in
        let told : inode.nbytes ≡ pieces_bytes file.pieces = ap (λ (i : InodeItem). i.nbytes) inode_read in
        let gone : pieces_bytes met ≡ pieces_bytes cut = ap pieces_bytes met_read in
        let rests : pieces_bytes (before size met) ≡ pieces_bytes put =
        ap (λ (xs : List Piece). pieces_bytes (before size xs)) met_read in
        omega (arith, all, told, gone, rests)

    inode_is : change.inode
        ≡ inode_cut generation size (inode_of file) (pieces_bytes (with_size generation size file).pieces)
    inode_is =
        let gone : pieces_bytes met ≡ pieces_bytes cut = ap pieces_bytes met_read in
        let told : inode.nbytes ≡ pieces_bytes file.pieces = ap (λ (i : InodeItem). i.nbytes) inode_read in
        let part = gone-part file.pieces (with_size generation size file).pieces cut put exchange in
        is.inode (pieces_bytes (with_size generation size file).pieces) (file-bytes ino new new_sound)
        (omega (arith, gone, told, part)) sums
        ∙ ap (λ (i : InodeItem). inode_cut generation size i (pieces_bytes (with_size generation size file).pieces))
        inode_read

    exchanged_is : exchanged ino change.gone change.put (flat_map items_of_file files)
        ≡ exchanged ino cut put (flat_map items_of_file files)
    exchanged_is =
        ap (λ (xs : List Piece). exchanged ino xs change.put (flat_map items_of_file files)) gone_is
        ∙ ap (λ (xs : List Piece). exchanged ino cut xs (flat_map items_of_file files)) put_is

    made : after_exchange ino change (flat_map items_of_file files)
        ≡ flat_map items_of_file (with_value ino (with_size generation size file) files)
    made =
        let before_inode = exchanged ino cut put (flat_map items_of_file files) in
        ap (λ (items : List Item). after_inode ino change.inode items) exchanged_is
        ∙ ap (λ (edit : InodeEdit). after_inode ino edit before_inode) inode_is
        ∙ edits-size generation ino size file files are there aligned new_sound

    inode_fits : CanEditInode ino change.inode (exchanged ino change.gone change.put (flat_map items_of_file files))
    inode_fits =
        subst (λ (edit : InodeEdit). CanEditInode ino edit
        (exchanged ino change.gone change.put (flat_map items_of_file files))) (sym inode_is)
        (inode-has ino change.gone change.put files are ∙ ap (λ (o : Option File). is_some o) there)

    short : (steps : List Step) → AreSteps change.gone change.put steps
        → length steps + 1 ≤ pieces_past size file.pieces + 1
    short steps steps_are =
        let here = subst (λ (xs : List Piece). AreSteps cut xs steps) put_is
        (subst (λ (xs : List Piece). AreSteps xs change.put steps) gone_is steps_are) in
        let most = cut-few size file.pieces steps here in
        omega (arith, most)

    pub cut-makes : (elsewhere : List (ℕ × Piece))
        → MakesFiles (pieces_past size file.pieces + 1) owner ino change elsewhere files
        (with_value ino (with_size generation size file) files)
    cut-makes elsewhere = record {
      can = record {
        can = both-lists (λ (xs ys : List Piece). CanExchange ino xs ys (flat_map items_of_file files)) cut put
            change.gone change.put gone_is put_is (size-can generation ino size file files are there new_sound);
        inode = inode_fits;
        short = short;
      };
      made = made;
      names = both-lists
          (λ (xs ys : List Piece). AreNamesExchanged (named files) (named (with_value ino new files))
          (names_of ino xs) (names_of ino ys)) cut put change.gone change.put gone_is put_is names;
      put = subst (λ (xs : List Piece). IsPermutation (names_of ino (change.named ++ option_to_list change.new))
          (names_of ino xs)) (sym put_is)
          (subst (λ (o : Option Piece). IsPermutation (names_of ino (change.named ++ option_to_list o)) (names_of ino
          put))
          (sym is.new)
          (subst (λ (xs : List Piece). IsPermutation (names_of ino (xs ++ [])) (names_of ino put)) (sym named_is)
          (none-besides ino put)));
      tell = subst (λ (xs : List Piece). TellPieces ino xs) (sym put_is) tell;
      known = subst (λ (xs : List Piece). AreOfNamed (named files ++ elsewhere) xs) (sym named_is)
          (named-besides (named files) elsewhere put known);
      few = subst (λ (xs : List Piece). AreFewNames owner (names_of ino xs ++ named files)) (sym put_is)
          (put-few owner ino new file.pieces cut put files are new_sound exchange spelled);
    }
