-- What each command makes of files, where the tree has their items.
--
-- Positions, lengths and sizes are in bytes.
use Rattle.std.proofs.Common.{◌≡◌, ℕ, ◌+◌, ◌*◌, ◌^◌, ◌<◌, ◌≤◌, List, [], ◌∷◌, ◌++◌, length, map, Option, Some, None}
use Rattle.std.proofs.Common.{arith, refl, sym, ap, subst, true, ◌∙◌}
use Rattle.std.specs.Prelude.{Contains, MatchOption, IsTrue, ⊤}
use Rattle.std.specs.List.{All}
use Rattle.std.specs.List.Sorted.{IsPermutation}
use Rattle.std.specs.Option.{option_map, option_to_list}
use Rattle.std.proofs.lemmas.List.{length-map}
use Rattle.std.proofs.lemmas.List.Elements.{All-cons, All-nil}
use Rattle.qg_device.specs.History.{History}
use Rattle.qg_num.specs.declared.piece.Piece.{Piece}
use Rattle.qg_items.specs.declared.file.InodeItem.{InodeItem}
use Rattle.qg_image.specs.declared.file.File.{File}
use Rattle.qg_image.specs.FilesOf.{is_aligned, largest_size}
use Rattle.qg_image.specs.Table.{value_at, without_key as without_value}
use Rattle.qg_machine.specs.FileChange.{after, before, moved, new_piece, pieces_meeting, pieces_or_none, pieces_past}
use Rattle.qg_machine.specs.FileChange.{with_range, within}
use Rattle.qg_tree_items.specs.Writable.{AreWritableFiles, IsFileBy, IsPlaced, IsWritableFile}
use Rattle.qg_root_items.specs.Written.{inode_of}
use Rattle.qg_space.specs.Holding.{Holding, is_free_run}
use Rattle.qg_tree_read.specs.Tree.{Root}
use Rattle.qg_files.specs.Apart.{AreApart, AreApartFrom}
use Rattle.qg_files.proofs.Kept.{are_pieces-new_piece}
use Rattle.qg_file_edits.specs.PiecesWritten.{pieces_cut, pieces_met}
use Rattle.qg_file_edits.proofs.PiecesMet.{met-all, met-past}
use Rattle.qg_files.proofs.Sectors.{aligned-add}
use Rattle.qg_file_edits.specs.Named.{named, names_of}
use Rattle.qg_shared_trees.specs.Types.{FsTree}
use Rattle.qg_shared_trees.specs.Standing.{names_elsewhere, trees_of}
use Rattle.qg_file_edits.specs.declared.exchange.Exchange.{Exchange}
use Rattle.qg_file_edits.specs.declared.found.Found.{Found}
use Rattle.qg_file_edits.specs.Changes.{IsCut, IsRangeChange, IsUnlinked, files_cloned_from, files_cut, files_written}
use Rattle.qg_file_edits.specs.Exchanging.{IsReadyFor, MakesFiles}
use Rattle.qg_file_edits.specs.Files.{Finds, HasFiles, HoldsFiles, IsFileRange, pieces_of}
use Rattle.qg_file_edits.specs.Naming.{AreOfNamed}
use Rattle.qg_file_edits.proofs.Few.{cut-names, no-names, range-names}
use Rattle.qg_file_edits.proofs.Cuts.{cut-files, cut-files_by, cut-makes}
use Rattle.qg_file_edits.proofs.Files.{file-found}
use Rattle.qg_file_edits.proofs.Ranges.{none-besides, one-between, range-files, range-files_by, range-makes}
use Rattle.qg_file_edits.proofs.Ranges.{range-put_named, range-rests_named}
use Rattle.qg_file_edits.proofs.Removals.{left-files, left-files_by, removal-makes}
use Rattle.qg_file_edits.proofs.Sources.{source-named}
use Rattle.qg_file_edits.proofs.Taken.{IsGiven, given-named, given-sound, taken-few, within-met}

-- an exchange makes these files of others, by so few edits that no more than some pieces are touched
pub record IsToldFor (pieces : ℕ) (fs : FsTree) (history : History) (ino : ℕ) (change : Exchange)
    (files files_new : List (ℕ × File)) : Type 0 where
  pub edits : ℕ
  pub most : edits ≤ pieces + 3
  pub few : length (change.named ++ option_to_list change.new) ≤ 2 * (pieces + 3)
  pub makes : MakesFiles edits fs.tree.owner ino change (names_elsewhere fs history) files files_new
  pub writable : AreWritableFiles files_new
  pub by : All (IsFileBy fs.tree.next) files_new

-- ---- a write

-- one piece for the whole of a new extent may be given
new_given : (generation off len run : ℕ) → is_aligned off ≡ true → is_aligned len ≡ true → 0 < len → run < 2 ^ 64
    → off + len ≤ largest_size → IsGiven generation off (off + len) (new_piece generation off len run ∷ [])
new_given generation off len run off_aligned len_aligned some fits near =
    let piece = new_piece generation off len run in
    let placed : IsPlaced piece = record { address = fits; bytes = omega arith } in
    let Stamped : Piece → Type 0 = λ p. p.stamp ≤ generation in
    record {
      sound = are_pieces-new_piece generation off len run off_aligned len_aligned some;
      placed = All-cons IsPlaced piece [] placed (All-nil IsPlaced);
      stamped = All-cons Stamped piece [] (omega arith) (All-nil Stamped);
    }

module _ (fs : FsTree) (history : History) (ino off len run : ℕ) (found : Found) (change : Exchange)
    (files : List (ℕ × File)) (fits : fs.tree.next < 2 ^ 64) (run_fits : run < 2 ^ 64) (range : IsFileRange ino off len)
    (holds : HoldsFiles fs history files) (finds : Finds files ino off (off + len) found)
    (is : IsRangeChange fs.tree.next off (off + len) (new_piece fs.tree.next off len run ∷ [])
    (with_range off (off + len) [] found.met) (Some (new_piece fs.tree.next off len run)) found change) where
  abbrev next : ℕ
  next = fs.tree.next

  abbrev given : List Piece
  given = new_piece fs.tree.next off len run ∷ []

  end_aligned : is_aligned (off + len) ≡ true
  end_aligned = aligned-add off len range.off_aligned range.len_aligned

  may : IsGiven fs.tree.next off (off + len) (new_piece fs.tree.next off len run ∷ [])
  may = new_given next off len run range.off_aligned range.len_aligned range.some run_fits range.near

  known : AreOfNamed (named files ++ names_elsewhere fs history) (with_range off (off + len) [] found.met)
  known =
      subst (λ (xs : List Piece). AreOfNamed (named files ++ names_elsewhere fs history)
      (with_range off (off + len) [] xs)) (sym finds.met)
      (range-rests_named next ino off (off + len) given files holds.writable holds.by fits range.least range.below
      range.off_aligned end_aligned range.near may.sound may.placed may.stamped (names_elsewhere fs history))

  order : IsPermutation
      (names_of ino (with_range off (off + len) [] found.met ++ option_to_list (Some (new_piece fs.tree.next off len
      run))))
      (names_of ino (with_range off (off + len) (new_piece fs.tree.next off len run ∷ [])
      (pieces_met off (off + len) (pieces_of ino files))))
  order =
      subst (λ (xs : List Piece). IsPermutation
      (names_of ino (with_range off (off + len) [] found.met ++ new_piece next off len run ∷ []))
      (names_of ino (with_range off (off + len) given xs))) finds.met
      (one-between ino (before off found.met) (after (off + len) found.met) (new_piece next off len run))

  pub told-write : IsToldFor (pieces_meeting off (off + len) (pieces_of ino files)) fs history ino change files
      (files_written fs.tree.next ino off len run files)
  told-write = record {
    edits = pieces_meeting off (off + len) (pieces_of ino files) + length given + 2;
    most = let one : length given ≡ 1 = refl in omega (arith, one);
    few =
        let names = range-names off (off + len) [] found.met (pieces_of ino files) change.named
        (Some (new_piece next off len run)) change.new is.named is.new finds.met in
        omega (arith, names);
    makes = range-makes next ino off (off + len) given files holds.writable holds.by fits range.least range.below
        range.off_aligned end_aligned range.near may.sound may.placed may.stamped fs.tree.owner
        (with_range off (off + len) [] found.met) (Some (new_piece next off len run)) found change finds is
        (names_elsewhere fs history) known order;
    writable = range-files next ino off (off + len) given files holds.writable holds.by fits range.least range.below
        range.off_aligned end_aligned range.near may.sound may.placed may.stamped;
    by = range-files_by next ino off (off + len) given files holds.writable holds.by fits range.least range.below
        range.off_aligned end_aligned range.near may.sound may.placed may.stamped;
  }

-- ---- a clone

module _ (fs : FsTree) (history : History) (other from len ino off : ℕ) (source : List Piece)
    (found : Found)
    (change : Exchange) (files source_files : List (ℕ × File)) (tree : Root) (fits : fs.tree.next < 2 ^ 64)
    (from_aligned : is_aligned from ≡ true) (range : IsFileRange ino off len) (holds : HoldsFiles fs history files)
    (among : Contains (trees_of fs) tree) (has : HasFiles fs history tree source_files)
    (source_read : source ≡ pieces_met from (from + len) (pieces_of other source_files))
    (finds : Finds files ino off (off + len) found)
    (is : IsRangeChange fs.tree.next off (off + len) (map (moved from off) (within from (from + len) source))
    (with_range off (off + len) (map (moved from off) (within from (from + len) source)) found.met) None found change)
  where
    abbrev cloned_next : ℕ
    cloned_next = fs.tree.next

    abbrev cloned : List Piece
    cloned = map (moved from off) (within from (from + len) (pieces_of other source_files))

    taken_same : within from (from + len) source ≡ within from (from + len) (pieces_of other source_files)
    taken_same =
        ap (λ (xs : List Piece). within from (from + len) xs) source_read
        ∙ within-met from (from + len) (pieces_of other source_files)

    is_cloned : IsRangeChange fs.tree.next off (off + len)
        (map (moved from off) (within from (from + len) (pieces_of other source_files)))
        (with_range off (off + len) (map (moved from off) (within from (from + len) (pieces_of other source_files)))
        found.met) None found change
    is_cloned =
        subst (λ (xs : List Piece). IsRangeChange cloned_next off (off + len) (map (moved from off) xs)
        (with_range off (off + len) (map (moved from off) xs) found.met) None found change) taken_same is

    clone_end : is_aligned (off + len) ≡ true
    clone_end = aligned-add off len range.off_aligned range.len_aligned

    clone_may : IsGiven fs.tree.next off (off + len)
        (map (moved from off) (within from (from + len) (pieces_of other source_files)))
    clone_may =
        given-sound cloned_next other from len off source_files has.writable has.by from_aligned range.len_aligned
        range.off_aligned

    clone_known : AreOfNamed (named files ++ names_elsewhere fs history) (with_range off (off + len)
        (map (moved from off) (within from (from + len) (pieces_of other source_files))) found.met)
    clone_known =
        subst (λ (xs : List Piece). AreOfNamed (named files ++ names_elsewhere fs history)
        (with_range off (off + len) cloned xs)) (sym finds.met)
        (range-put_named cloned_next ino off (off + len) cloned files holds.writable holds.by fits range.least
        range.below range.off_aligned clone_end range.near clone_may.sound clone_may.placed clone_may.stamped
        (names_elsewhere fs history)
        (given-named cloned_next other from len off source_files has.writable has.by from_aligned range.len_aligned
        range.off_aligned (named files ++ names_elsewhere fs history)
        (source-named fs history files source_files tree other fits holds among has)))

    clone_order : IsPermutation
        (names_of ino (with_range off (off + len)
        (map (moved from off) (within from (from + len) (pieces_of other source_files))) found.met
        ++ option_to_list None))
        (names_of ino (with_range off (off + len)
        (map (moved from off) (within from (from + len) (pieces_of other source_files)))
        (pieces_met off (off + len) (pieces_of ino files))))
    clone_order =
        subst (λ (xs : List Piece). IsPermutation
        (names_of ino (with_range off (off + len) cloned found.met ++ []))
        (names_of ino (with_range off (off + len) cloned xs))) finds.met
        (none-besides ino (with_range off (off + len) cloned found.met))

    pub told-clone : IsToldFor (pieces_meeting off (off + len) (pieces_of ino files)
        + pieces_meeting from (from + len) (pieces_of other source_files)) fs history ino change files
        (files_cloned_from fs.tree.next (pieces_of other source_files) from len ino off files)
    told-clone = record {
      edits = pieces_meeting off (off + len) (pieces_of ino files) + length cloned + 2;
      most =
          let long : length cloned ≡ length (within from (from + len) (pieces_of other source_files)) =
          length-map (within from (from + len) (pieces_of other source_files)) (moved from off) in
          let few = taken-few from (from + len) (pieces_of other source_files) in
          omega (arith, long, few);
      few =
          let long : length cloned ≡ length (within from (from + len) (pieces_of other source_files)) =
          length-map (within from (from + len) (pieces_of other source_files)) (moved from off) in
          let taken = taken-few from (from + len) (pieces_of other source_files) in
          let names = range-names off (off + len) cloned found.met (pieces_of ino files) change.named None change.new
          is_cloned.named is_cloned.new finds.met in
          omega (arith, long, taken, names);
      makes = range-makes cloned_next ino off (off + len) cloned files holds.writable holds.by fits range.least
          range.below range.off_aligned clone_end range.near clone_may.sound clone_may.placed clone_may.stamped
          fs.tree.owner (with_range off (off + len) cloned found.met) None found change finds is_cloned
          (names_elsewhere fs history) clone_known clone_order;
      writable = range-files cloned_next ino off (off + len) cloned files holds.writable holds.by fits range.least
          range.below range.off_aligned clone_end range.near clone_may.sound clone_may.placed clone_may.stamped;
      by = range-files_by cloned_next ino off (off + len) cloned files holds.writable holds.by fits range.least
          range.below range.off_aligned clone_end range.near clone_may.sound clone_may.placed clone_may.stamped;
    }

-- ---- a cut and a removal

module _ (fs : FsTree) (history : History) (ino : ℕ) (file : File) (change : Exchange)
    (files : List (ℕ × File)) (fits : fs.tree.next < 2 ^ 64) (there : value_at ino files ≡ Some file)
    (holds : HoldsFiles fs history files) where
  pub told-cut : (size : ℕ) (inode : InodeItem) (met : List Piece) → is_aligned size ≡ true → size ≤ largest_size
      → Some inode ≡ option_map inode_of (value_at ino files)
      → met ≡ pieces_met size largest_size (pieces_of ino files) → IsCut fs.tree.next size inode met change
      → IsToldFor (pieces_past size file.pieces) fs history ino change files
      (files_cut fs.tree.next ino size file files)
  told-cut size inode met aligned near inode_found met_found is =
      let found : Some inode ≡ Some (inode_of file) =
      inode_found ∙ ap (λ (o : Option File). option_map inode_of o) there in
      let inode_is : inode ≡ inode_of file = cc in
      let sound = file-found IsWritableFile ino file files there holds.writable.each in
      let met_is : met ≡ pieces_cut size file.pieces =
      met_found ∙ ap (λ (o : Option File). pieces_met size largest_size (pieces_or_none o)) there
      ∙ met-past ino size file sound in
      record {
        edits = pieces_past size file.pieces + 1;
        most = omega arith;
        few = let names = cut-names size met file.pieces change.named change.new is.named is.new met_is in
            omega (arith, names);
        makes = cut-makes fs.tree.next ino size file files there holds.writable holds.by fits aligned near fs.tree.owner
            inode met change inode_is met_is is (names_elsewhere fs history);
        writable = cut-files fs.tree.next ino size file files there holds.writable holds.by fits aligned near;
        by = cut-files_by fs.tree.next ino size file files there holds.writable holds.by fits aligned near;
      }

  pub told-unlink : (met : List Piece) → met ≡ pieces_met 0 largest_size file.pieces → IsUnlinked met change
      → IsToldFor (length file.pieces) fs history ino change files (without_value ino files)
  told-unlink met met_found is =
      let sound = file-found IsWritableFile ino file files there holds.writable.each in
      record {
        edits = length file.pieces + 1;
        most = omega arith;
        few = let names = no-names change.named change.new is.named is.new in omega (arith, names);
        makes = removal-makes fs.tree.next ino file files there holds.writable holds.by fits fs.tree.owner met change
            (met_found ∙ met-all ino file sound) is (names_elsewhere fs history);
        writable = left-files fs.tree.next ino file files there holds.writable holds.by fits;
        by = left-files_by fs.tree.next ino file files there holds.writable holds.by fits;
      }

-- ---- over any disk

pub ready-range : (space : Holding) (generation from to : ℕ) (given first : List Piece) (new : Option Piece)
    (found : Found)
    (change : Exchange) → IsRangeChange generation from to given first new found change → AreApart found.met
    → MatchOption new ⊤ (λ piece. IsTrue (is_free_run space piece.extent piece.extent_bytes)) → IsReadyFor space change
ready-range space generation from to put first new found change is apart free = record {
  gone = subst (λ (xs : List Piece). AreApart xs) (sym is.gone) apart;
  put = is.apart;
  free = subst (λ (o : Option Piece). MatchOption o ⊤
      (λ piece. IsTrue (is_free_run space piece.extent piece.extent_bytes))) (sym is.new) free;
}

pub ready-cut : (space : Holding) (generation size : ℕ) (inode : InodeItem) (met : List Piece) (change : Exchange)
    → IsCut generation size inode met change → AreApart met → IsReadyFor space change
ready-cut space generation size inode met change is apart = record {
  gone = subst (λ (xs : List Piece). AreApart xs) (sym is.gone) apart;
  put = is.apart;
  free = subst (λ (o : Option Piece). MatchOption o ⊤
      (λ piece. IsTrue (is_free_run space piece.extent piece.extent_bytes))) (sym is.new) tt;
}

pub ready-unlink : (space : Holding) (met : List Piece) (change : Exchange) → IsUnlinked met change → AreApart met
    → IsReadyFor space change
unfolding AreApartFrom
ready-unlink space met change is apart = record {
  gone = subst (λ (xs : List Piece). AreApart xs) (sym is.gone) apart;
  put = subst (λ (xs : List Piece). AreApart xs) (sym is.put) tt;
  free = subst (λ (o : Option Piece). MatchOption o ⊤
      (λ piece. IsTrue (is_free_run space piece.extent piece.extent_bytes))) (sym is.new) tt;
}
