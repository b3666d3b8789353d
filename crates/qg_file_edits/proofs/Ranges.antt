-- What a file command makes of files that edits one range of a file, by the edits that it does.
--
-- Positions, lengths and sizes are in bytes.
use Rattle.std.proofs.Common.{◌≡◌, ℕ, ◌+◌, ◌^◌, ◌<◌, ◌≤◌, max, true, List, [], ◌∷◌, ◌++◌, length, Option, Some, None}
use Rattle.std.proofs.Common.{arith, refl, sym, ap, subst, ◌∙◌}
use Rattle.std.specs.Prelude.{is_some, not}
use Rattle.std.specs.List.{All, flat_map}
use Rattle.std.specs.List.Sorted.{IsPermutation}
use Rattle.std.specs.Option.{option_map, option_to_list}
use Rattle.std.proofs.lemmas.List.{append-nil, append_assoc}
use Rattle.std.proofs.lemmas.List.Elements.{All-filter, All-nil}
use Rattle.std.proofs.lemmas.List.Sorted.{IsPermutation-map, IsPermutation-middle, IsPermutation-refl}
use Rattle.std.proofs.lemmas.List.Sorted.{IsPermutation-sym, IsPermutation-to_front, IsPermutation-trans}
use Rattle.qg_num.specs.declared.piece.Piece.{Piece}
use Rattle.qg_node.specs.declared.item.Item.{Item}
use Rattle.qg_items.specs.declared.file.InodeItem.{InodeItem}
use Rattle.qg_image.specs.declared.file.File.{File}
use Rattle.qg_image.specs.FilesOf.{are_pieces, inodes_end, is_aligned, largest_size, least_inode, pieces_bytes}
use Rattle.qg_image.specs.Table.{value_at, with_value}
use Rattle.qg_image.proofs.Pieces.{WholeFile-is_file}
use Rattle.qg_machine.specs.FileChange.{file_or_new, pieces_meeting, pieces_or_none, with_pieces, with_range}
use Rattle.qg_tree_items.specs.Writable.{AreWritableFiles, IsFileBy, IsPlaced, IsWritableFile}
use Rattle.qg_root_items.specs.Written.{inode_of, item_of_inode, items_of_file}
use Rattle.qg_edit.specs.Edits.{has_key, with_item}
use Rattle.qg_file_edits.specs.FileEdits.{file_edited}
use Rattle.qg_file_edits.specs.PiecesWritten.{pieces_met}
use Rattle.qg_file_edits.proofs.Exchanged.{makes-file}
use Rattle.qg_file_edits.proofs.RangeEdits.{edits-range}
use Rattle.qg_file_edits.proofs.InodesTables.{writable-with}
use Rattle.qg_file_edits.specs.declared.step.Step.{Step}
use Rattle.qg_file_edits.specs.Applying.{CanExchange}
use Rattle.qg_file_edits.specs.Exchange.{IsExchange}
use Rattle.qg_file_edits.specs.Named.{AreNamesExchanged, named, names_by, names_of}
use Rattle.qg_file_edits.specs.Steps.{AreSteps}
use Rattle.qg_file_edits.proofs.FewSteps.{range-few}
use Rattle.qg_file_edits.proofs.Names.{names-exchanged, names-spelled}
use Rattle.qg_file_edits.proofs.Possible.{made-can, range-can}
use Rattle.qg_file_edits.proofs.Stretches.{range-exchanged}
use Rattle.qg_file_edits.proofs.ExchangedSums.{sums-exchanged}
use Rattle.qg_file_edits.specs.declared.exchange.Exchange.{Exchange}
use Rattle.qg_file_edits.specs.declared.found.Found.{Found}
use Rattle.qg_file_edits.specs.declared.inode.InodeEdit.{InodeEdit}
use Rattle.qg_file_edits.specs.Changes.{IsRangeChange, inode_put, nbytes_of}
use Rattle.qg_file_edits.specs.Editing.{CanEditInode, after_inode, inode_key}
use Rattle.qg_file_edits.specs.Exchanging.{MakesFiles, TellPieces, after_exchange, exchanged}
use Rattle.qg_file_edits.specs.Files.{Finds, pieces_of}
use Rattle.qg_file_edits.specs.Naming.{AreFewNames, AreOfNamed}
use Rattle.qg_file_edits.proofs.PieceCounts.{file-bytes, gone-part, put-few, put-tell}
use Rattle.qg_file_edits.proofs.Extents.{IsOfNamed, named-besides, pieces-named}
use Rattle.qg_file_edits.proofs.Files.{all-with, old-sound, range-by, range-writable}
use Rattle.qg_file_edits.proofs.Inodes.{inode-has}
use Rattle.qg_file_edits.proofs.Parts.{all-with_range}

-- what is said of two lists is said of others that are the same
pub both-lists : {A : Type 0} (P : List A → List A → Type 0) (a b some others : List A) → some ≡ a → others ≡ b → P a b
    → P some others
both-lists {A} P a b some others first second is =
    subst (λ (xs : List A). P xs others) (sym first) (subst (λ (ys : List A). P a ys) (sym second) is)

new_pieces : (generation : ℕ) (found : Option File) → (file_or_new generation found).pieces ≡ pieces_or_none found
new_pieces generation None = refl
new_pieces generation (Some file) = refl

-- ---- the INODE_ITEM

-- it becomes the new file's
inode_written : (generation ino from to : ℕ) (given : List Piece) (found : Option File) (items : List Item)
    → let new = with_pieces generation from to given (file_or_new generation found) in
    after_inode ino (inode_put generation to (option_map inode_of found) (pieces_bytes new.pieces)) items
    ≡ with_item (item_of_inode ino new) items
inode_written generation ino from to given None items =
    let new = with_pieces generation from to given (file_or_new generation None) in
    let size : to ≡ max 0 to = omega arith in
    ap (λ (n : ℕ). with_item (item_of_inode ino (record new { size = n })) items) size
inode_written generation ino from to given (Some file) items = refl

-- it is there or not, as the file is
inode_can : (generation ino to sum : ℕ) (found : Option File) (items : List Item)
    → has_key (inode_key ino) items ≡ is_some found
    → CanEditInode ino (inode_put generation to (option_map inode_of found) sum) items
inode_can generation ino to sum None items has = ap not has
inode_can generation ino to sum (Some file) items has = has

told_bytes : (found : Option File) → nbytes_of (option_map inode_of found) ≡ pieces_bytes (pieces_or_none found)
told_bytes None = refl
told_bytes (Some file) = refl

-- ---- a range

module _ (generation ino from to : ℕ) (given : List Piece) (files : List (ℕ × File)) (are : AreWritableFiles files)
    (by : All (IsFileBy generation) files) (fits : generation < 2 ^ 64) (least : least_inode ≤ ino)
    (below : ino < inodes_end) (from_aligned : is_aligned from ≡ true) (to_aligned : is_aligned to ≡ true)
    (near : to ≤ largest_size) (sound : are_pieces from to given ≡ true) (placed : All IsPlaced given)
    (stamped : All (λ piece. piece.stamp ≤ generation) given) where
  abbrev was : File
  was = file_or_new generation (value_at ino files)

  abbrev pub range-file : File
  range-file = with_pieces generation from to given (file_or_new generation (value_at ino files))

  abbrev met : List Piece
  met = pieces_met from to (pieces_of ino files)

  abbrev put : List Piece
  put = with_range from to given (pieces_met from to (pieces_of ino files))

  new_sound : IsWritableFile (ino, range-file)
  new_sound =
      range-writable generation ino from to given files are least below from_aligned to_aligned near sound placed

  pub range-files : AreWritableFiles (with_value ino range-file files)
  range-files = writable-with ino range-file files are new_sound

  pub range-files_by : All (IsFileBy generation) (with_value ino range-file files)
  range-files_by =
      all-with (IsFileBy generation) ino range-file files by (range-by generation ino from to given files stamped by)

  exchange : IsExchange (pieces_of ino files) range-file.pieces met put
  exchange =
      let old = old-sound generation ino from to given files are least below in
      let whole = (WholeFile-is_file was old.sound).pieces in
      subst (λ (xs : List Piece). IsExchange xs (with_range from to given was.pieces) (pieces_met from to xs)
      (with_range from to given (pieces_met from to xs)))
      (new_pieces generation (value_at ino files)) (range-exchanged from to was.size given was.pieces sound whole)

  range_can : CanExchange ino met put (flat_map items_of_file files)
  range_can = cases (value_at ino files) refl new_sound where
    cases : (found : Option File) → value_at ino files ≡ found
        → IsWritableFile (ino, with_pieces generation from to given (file_or_new generation found))
        → let gone = pieces_met from to (pieces_or_none found) in
        CanExchange ino gone (with_range from to given gone) (flat_map items_of_file files)
    cases None none is =
        made-can ino (with_pieces generation from to given (file_or_new generation None)) files are is none
    cases (Some file) there is = range-can generation ino from to given file files are there sound is

  edited : file_edited ino range-file met put (flat_map items_of_file files)
      ≡ flat_map items_of_file (with_value ino range-file files)
  edited = cases (value_at ino files) refl new_sound where
    cases : (found : Option File) → value_at ino files ≡ found
        → IsWritableFile (ino, with_pieces generation from to given (file_or_new generation found))
        → let gone = pieces_met from to (pieces_or_none found) in
        let new = with_pieces generation from to given (file_or_new generation found) in
        file_edited ino new gone (with_range from to given gone) (flat_map items_of_file files)
        ≡ flat_map items_of_file (with_value ino new files)
    cases None none is =
        makes-file ino (with_pieces generation from to given (file_or_new generation None)) files are is none
    cases (Some file) there is =
        edits-range generation ino from to given file files are there from_aligned to_aligned sound is

  spelled : named files ≡ names_by files
  spelled = names-spelled generation files fits are by

  spelled_new : named (with_value ino range-file files) ≡ names_by (with_value ino range-file files)
  spelled_new = names-spelled generation (with_value ino range-file files) fits range-files range-files_by

  names : AreNamesExchanged (named files) (named (with_value ino range-file files)) (names_of ino met)
      (names_of ino put)
  names =
      both-lists (λ (xs ys : List (ℕ × Piece)). AreNamesExchanged xs ys (names_of ino met) (names_of ino put))
      (names_by files) (names_by (with_value ino range-file files)) (named files)
      (named (with_value ino range-file files)) spelled spelled_new
      (names-exchanged ino range-file met put files are.ascending exchange)

  few : (owner : ℕ) → AreFewNames owner (names_of ino put ++ named files)
  few owner = put-few owner ino range-file (pieces_of ino files) met put files are new_sound exchange spelled

  tell : TellPieces ino (with_range from to given (pieces_met from to (pieces_of ino files)))
  tell =
      put-tell generation ino range-file (pieces_of ino files) met put fits new_sound
      (range-by generation ino from to given files stamped by) exchange

  module _ (elsewhere : List (ℕ × Piece)) where
    -- the pieces that the range meets name extents that are named
    met_named : All (IsOfNamed (named files ++ elsewhere)) met
    met_named =
        let known = IsOfNamed (names_by files ++ elsewhere) in
        let own = named-besides (names_by files) elsewhere (pieces_of ino files) (pieces-named ino files) in
        let all : All known met = All-filter _ known (pieces_of ino files) own in
        subst (λ (xs : List (ℕ × Piece)). All (IsOfNamed (xs ++ elsewhere)) met) (sym spelled) all

    -- and so does what rests beside the range
    pub range-rests_named : AreOfNamed (named files ++ elsewhere) (with_range from to [] met)
    range-rests_named =
        let known = IsOfNamed (named files ++ elsewhere) in
        all-with_range known (λ piece position len offset is. is) from to [] met (All-nil known) met_named

    -- and what is given, where it does
    pub range-put_named : All (IsOfNamed (named files ++ elsewhere)) given → AreOfNamed (named files ++ elsewhere) put
    range-put_named given_known =
        let known = IsOfNamed (named files ++ elsewhere) in
        all-with_range known (λ piece position len offset is. is) from to given met given_known met_named

  module _ (owner : ℕ) (first : List Piece) (new : Option Piece) (found : Found) (change : Exchange)
      (finds : Finds files ino from to found) (is : IsRangeChange generation from to given first new found change) where
    gone_is : change.gone ≡ met
    gone_is = is.gone ∙ finds.met

    put_is : change.put ≡ put
    put_is = is.put ∙ ap (λ (xs : List Piece). with_range from to given xs) finds.met

    sums : pieces_bytes range-file.pieces + pieces_bytes found.met
        ≡ nbytes_of found.inode + pieces_bytes (with_range from to given found.met)
    sums =
        let all = sums-exchanged (pieces_of ino files) range-file.pieces met put exchange in
        let told = ap nbytes_of finds.inode ∙ told_bytes (value_at ino files) in
        let gone : pieces_bytes found.met ≡ pieces_bytes met = ap pieces_bytes finds.met in
        let given_bytes : pieces_bytes (with_range from to given found.met) ≡ pieces_bytes put =
        ap (λ (xs : List Piece). pieces_bytes (with_range from to given xs)) finds.met in
        omega (arith, all, told, gone, given_bytes)

    inode_is : change.inode
        ≡ inode_put generation to (option_map inode_of (value_at ino files)) (pieces_bytes range-file.pieces)
    inode_is =
        let gone : pieces_bytes found.met ≡ pieces_bytes met = ap pieces_bytes finds.met in
        let told = ap nbytes_of finds.inode ∙ told_bytes (value_at ino files) in
        let part = gone-part (pieces_of ino files) range-file.pieces met put exchange in
        is.inode (pieces_bytes range-file.pieces) (file-bytes ino range-file new_sound)
        (omega (arith, gone, told, part)) sums
        ∙ ap (λ (o : Option InodeItem). inode_put generation to o (pieces_bytes range-file.pieces)) finds.inode

    exchanged_is : exchanged ino change.gone change.put (flat_map items_of_file files)
        ≡ exchanged ino met put (flat_map items_of_file files)
    exchanged_is =
        ap (λ (xs : List Piece). exchanged ino xs change.put (flat_map items_of_file files)) gone_is
        ∙ ap (λ (xs : List Piece). exchanged ino met xs (flat_map items_of_file files)) put_is

    made : after_exchange ino change (flat_map items_of_file files)
        ≡ flat_map items_of_file (with_value ino range-file files)
    made =
        let before_inode = exchanged ino met put (flat_map items_of_file files) in
        ap (λ (items : List Item). after_inode ino change.inode items) exchanged_is
        ∙ ap (λ (edit : InodeEdit). after_inode ino edit before_inode) inode_is
        ∙ inode_written generation ino from to given (value_at ino files) before_inode
        ∙ edited

    inode_fits : CanEditInode ino change.inode (exchanged ino change.gone change.put (flat_map items_of_file files))
    inode_fits =
        let has = inode-has ino change.gone change.put files are in
        subst (λ (edit : InodeEdit). CanEditInode ino edit
        (exchanged ino change.gone change.put (flat_map items_of_file files))) (sym inode_is)
        (inode_can generation ino to (pieces_bytes range-file.pieces) (value_at ino files)
        (exchanged ino change.gone change.put (flat_map items_of_file files)) has)

    short : (steps : List Step) → AreSteps change.gone change.put steps
        → length steps + 1 ≤ pieces_meeting from to (pieces_of ino files) + length given + 2
    short steps steps_are =
        let here = subst (λ (xs : List Piece). AreSteps met xs steps) put_is
        (subst (λ (xs : List Piece). AreSteps xs change.put steps) gone_is steps_are) in
        let most = range-few from to given (pieces_of ino files) steps here in
        omega (arith, most)

    pub range-makes : (elsewhere : List (ℕ × Piece))
        → AreOfNamed (named files ++ elsewhere) first
        → IsPermutation (names_of ino (first ++ option_to_list new)) (names_of ino put)
        → MakesFiles (pieces_meeting from to (pieces_of ino files) + length given + 2) owner ino change elsewhere files
        (with_value ino range-file files)
    range-makes elsewhere known order = record {
      can = record {
        can = both-lists (λ (xs ys : List Piece). CanExchange ino xs ys (flat_map items_of_file files)) met put
            change.gone change.put gone_is put_is range_can;
        inode = inode_fits;
        short = short;
      };
      made = made;
      names = both-lists
          (λ (xs ys : List Piece). AreNamesExchanged (named files) (named (with_value ino range-file files))
          (names_of ino xs) (names_of ino ys)) met put change.gone change.put gone_is put_is names;
      put = subst (λ (xs : List Piece). IsPermutation (names_of ino (change.named ++ option_to_list change.new))
          (names_of ino xs)) (sym put_is)
          (subst (λ (o : Option Piece). IsPermutation (names_of ino (change.named ++ option_to_list o)) (names_of ino
          put))
          (sym is.new)
          (subst (λ (xs : List Piece). IsPermutation (names_of ino (xs ++ option_to_list new)) (names_of ino put))
          (sym is.named) order));
      tell = subst (λ (xs : List Piece). TellPieces ino xs) (sym put_is) tell;
      known = subst (λ (xs : List Piece). AreOfNamed (named files ++ elsewhere) xs) (sym is.named) known;
      few = subst (λ (xs : List Piece). AreFewNames owner (names_of ino xs ++ named files)) (sym put_is) (few owner);
    }

-- ---- the order of names

-- one piece is put between two parts, and named after both
pub one-between : (ino : ℕ) (front back : List Piece) (piece : Piece)
    → IsPermutation (names_of ino ((front ++ [] ++ back) ++ piece ∷ [])) (names_of ino (front ++ (piece ∷ []) ++ back))
one-between ino front back piece =
    let name : Piece → ℕ × Piece = λ p. (ino, p) in
    let left : (front ++ [] ++ back) ++ piece ∷ [] ≡ (front ++ back) ++ piece ∷ [] =
    ap (λ (xs : List Piece). (xs ++ back) ++ piece ∷ []) (append-nil front) in
    let right : front ++ (piece ∷ []) ++ back ≡ front ++ piece ∷ back = append_assoc front (piece ∷ []) back in
    let order : IsPermutation ((front ++ back) ++ piece ∷ []) (front ++ piece ∷ back) =
    IsPermutation-trans ((front ++ back) ++ piece ∷ []) (piece ∷ (front ++ back)) (front ++ piece ∷ back)
    (IsPermutation-to_front (front ++ back) piece)
    (IsPermutation-sym (front ++ piece ∷ back) (piece ∷ (front ++ back)) (IsPermutation-middle front piece back)) in
    IsPermutation-map name ((front ++ [] ++ back) ++ piece ∷ []) (front ++ (piece ∷ []) ++ back)
    (both-lists (λ (xs ys : List Piece). IsPermutation xs ys) ((front ++ back) ++ piece ∷ []) (front ++ piece ∷ back)
    ((front ++ [] ++ back) ++ piece ∷ []) (front ++ (piece ∷ []) ++ back) left right order)

-- nothing is named besides
pub none-besides : (ino : ℕ) (pieces : List Piece) → IsPermutation (names_of ino (pieces ++ [])) (names_of ino pieces)
none-besides ino pieces =
    subst (λ (xs : List Piece). IsPermutation (names_of ino xs) (names_of ino pieces)) (sym (append-nil pieces))
    (IsPermutation-refl (names_of ino pieces))
