-- Which pieces files name, and which once pieces of one are exchanged.
use Rattle.std.proofs.Common.{◌≡◌, ℕ, ◌+◌, ◌<◌, ◌≤◌, ◌^◌, true, false, List, [], ◌∷◌, ◌++◌, map, Some, None, refl, sym}
use Rattle.std.proofs.Common.{ap, subst, ◌∙◌, arith, inl, inr, append_assoc}
use Rattle.std.specs.Prelude.{All, Option, ◌==◌, nat_lt}
use Rattle.std.specs.List.{AllByRecursion, filter_map, flat_map}
use Rattle.std.specs.List.Sorted.{IsPermutation, IsStrictlyIncreasing}
use Rattle.std.specs.Option.{option_map}
use Rattle.std.proofs.lemmas.Bool.{cases_Bool, eq-eqb, eqb-true, eqb-false, le-ltb, ltb-false, ltb-true, ne_eqb}
use Rattle.std.proofs.lemmas.List.{map-append}
use Rattle.std.proofs.lemmas.List.Elements.{filter_map-append, recursion_from_All}
use Rattle.std.proofs.lemmas.List.Sorted.{IsPermutation-append_comm, IsPermutation-append_left, IsPermutation-refl}
use Rattle.qg_num.specs.declared.piece.Piece.{Piece}
use Rattle.qg_items.specs.declared.file.InodeItem.{InodeItem}
use Rattle.qg_items.specs.ItemReading.{inode_read}
use Rattle.qg_items.specs.ItemText.{inode_text}
use Rattle.qg_items.specs.Laws.{ExtentDataFits}
use Rattle.qg_items.proofs.FileBodies.{extent_data_read-extent_data_text}
use Rattle.qg_image.specs.declared.file.File.{File}
use Rattle.qg_image.specs.declared.part.FilePart.TheVariants.{Inode, PieceOf}
use Rattle.qg_image.specs.ItemMeaning.{◌orelse◌, file_part}
use Rattle.qg_image.specs.FilesOf.{are_pieces, piece_end}
use Rattle.qg_image.proofs.Pieces.{FirstPiece-are_pieces, WholeFile-is_file, WholePiece-is_piece}
use Rattle.qg_image.specs.Table.{keys_of, value_at, with_value, without_key as without_value}
use Rattle.qg_machine.specs.FileChange.{pieces_or_none}
use Rattle.qg_tree_items.specs.Writable.{AreWritableFiles, IsFileBy, IsPlaced, IsWritableFile}
use Rattle.qg_root_items.specs.Written.{extent_data_of, inode_of, item_of_inode, item_of_piece, items_of_file}
use Rattle.qg_inodes.proofs.PiecesByPosition.{range-order}
use Rattle.qg_files.proofs.Ascending.{Ascends, Ascends-increasing, all_past}
use Rattle.qg_fs_tree.specs.Standing.{name_told, piece_in}
use Rattle.qg_file_edits.specs.Exchange.{IsExchange}
use Rattle.qg_file_edits.specs.Named.{AreNamesExchanged, named, names_by, names_of}

-- ---- what items tell

no_piece : (ino : ℕ) (inode : Option InodeItem) → piece_in (option_map (Inode ino) inode orelse None) ≡ None
no_piece ino None = refl
no_piece ino (Some inode) = refl

inode_names : (ino : ℕ) (file : File) → name_told (item_of_inode ino file) ≡ None
unfolding file_part
inode_names ino file = rw (eq-eqb ino ino refl) (no_piece ino (inode_read (inode_text (inode_of file))))

piece_told : (ino : ℕ) (piece : Piece) → ExtentDataFits (extent_data_of piece)
    → file_part (item_of_piece ino piece) ≡ Some (PieceOf ino piece)
unfolding file_part
piece_told ino piece fits = rw (
  eq-eqb ino ino refl,
  extent_data_read-extent_data_text (extent_data_of piece) fits,
  eq-eqb piece.extent_bytes piece.extent_bytes refl,
) refl

piece_names : (ino : ℕ) (piece : Piece) → ExtentDataFits (extent_data_of piece)
    → name_told (item_of_piece ino piece) ≡ Some (ino, piece)
piece_names ino piece fits = ap piece_in (piece_told ino piece fits)

pieces_name : (ino : ℕ) (pieces : List Piece) → AllByRecursion (λ piece. ExtentDataFits (extent_data_of piece)) pieces
    → filter_map name_told (map (item_of_piece ino) pieces) ≡ names_of ino pieces
pieces_name ino [] fit = refl
pieces_name ino (piece ∷ pieces) fit = rw (piece_names ino piece fit.0, pieces_name ino pieces fit.1) refl

-- where no generation is past one that fits, the numbers of pieces fit their fields
pieces_fit : (generation from size : ℕ) (pieces : List Piece) → generation < 2 ^ 64 → size ≤ 2 ^ 40
    → are_pieces from size pieces ≡ true
    → AllByRecursion IsPlaced pieces → AllByRecursion (λ piece. piece.stamp ≤ generation) pieces
    → AllByRecursion (λ piece. ExtentDataFits (extent_data_of piece)) pieces
pieces_fit generation from size [] small least are placed stamped = tt
pieces_fit generation from size (piece ∷ pieces) small least are placed stamped =
    let first = FirstPiece-are_pieces from size piece pieces are in
    let ends : piece.position + piece.len ≤ size = range-order (piece_end piece) size pieces first.rest in
    let inside : piece.offset + piece.len ≤ piece.extent_bytes = (WholePiece-is_piece piece first.is).in_extent in
    let address : piece.extent < 2 ^ 64 = placed.0.address in
    let bytes : piece.extent_bytes < 2 ^ 64 = placed.0.bytes in
    let stamp : piece.stamp ≤ generation = stamped.0 in
    let fits : ExtentDataFits (extent_data_of piece) = record {
      generation = omega arith;
      ram_bytes = bytes;
      disk_bytenr = address;
      disk_num_bytes = bytes;
      offset = omega arith;
      num_bytes = omega arith;
    } in
    (fits, pieces_fit generation (piece_end piece) size pieces small least first.rest placed.1 stamped.1)

file_fits : (generation : ℕ) (file : ℕ × File) → generation < 2 ^ 64 → IsWritableFile file → IsFileBy generation file
    → AllByRecursion (λ piece. ExtentDataFits (extent_data_of piece)) file.1.pieces
file_fits generation file small is by =
    let whole = WholeFile-is_file file.1 is.sound in
    let placed = recursion_from_All IsPlaced file.1.pieces is.placed in
    let stamped = recursion_from_All (λ (piece : Piece). piece.stamp ≤ generation) file.1.pieces by.stamped in
    pieces_fit generation 0 file.1.size file.1.pieces small whole.least whole.pieces placed stamped

file_names : (generation : ℕ) (file : ℕ × File) → generation < 2 ^ 64 → IsWritableFile file → IsFileBy generation file
    → filter_map name_told (items_of_file file) ≡ names_of file.0 file.1.pieces
file_names generation file small is by =
    rw (inode_names file.0 file.1) (pieces_name file.0 file.1.pieces (file_fits generation file small is by))

each_tells : (ino : ℕ) (pieces : List Piece) → AllByRecursion (λ piece. ExtentDataFits (extent_data_of piece)) pieces
    → AllByRecursion (λ piece. name_told (item_of_piece ino piece) ≡ Some (ino, piece)) pieces
each_tells ino [] fit = tt
each_tells ino (piece ∷ pieces) fit = (piece_names ino piece fit.0, each_tells ino pieces fit.1)

-- the item of each piece of a file that can be written tells this piece
pub tell-pieces : (generation : ℕ) (file : ℕ × File) → generation < 2 ^ 64 → IsWritableFile file
    → IsFileBy generation file
    → AllByRecursion (λ piece. name_told (item_of_piece file.0 piece) ≡ Some (file.0, piece)) file.1.pieces
tell-pieces generation file small is by = each_tells file.0 file.1.pieces (file_fits generation file small is by)

files_name : (generation : ℕ) (files : List (ℕ × File)) → generation < 2 ^ 64 → AllByRecursion IsWritableFile files
    → AllByRecursion (IsFileBy generation) files → named files ≡ names_by files
files_name generation [] small are by = refl
files_name generation (file ∷ files) small are by =
    filter_map-append name_told (items_of_file file) (flat_map items_of_file files)
    ∙ ap (λ (names : List (ℕ × Piece)). names ++ named files) (file_names generation file small are.0 by.0)
    ∙ ap (λ (names : List (ℕ × Piece)). names_of file.0 file.1.pieces ++ names)
    (files_name generation files small are.1 by.1)

pub names-spelled : (generation : ℕ) (files : List (ℕ × File)) → generation < 2 ^ 64 → AreWritableFiles files
    → All (IsFileBy generation) files → named files ≡ names_by files
names-spelled generation files small are by =
    files_name generation files small (recursion_from_All IsWritableFile files are.each)
    (recursion_from_All (IsFileBy generation) files by)

-- ---- one file among others

none_past : (n : ℕ) (table : List (ℕ × File)) → AllByRecursion (λ entry. n < entry.0) table → value_at n table ≡ None
none_past n [] past = refl
none_past n (entry ∷ table) past =
    rw (ne_eqb entry.0 n (λ same. omega (arith, same, past.0))) (none_past n table past.1)

kept_past : (n : ℕ) (table : List (ℕ × File)) → AllByRecursion (λ entry. n < entry.0) table
    → without_value n table ≡ table
kept_past n [] past = refl
kept_past n (entry ∷ table) past =
    rw (ne_eqb entry.0 n (λ same. omega (arith, same, past.0)))
    (ap (λ (rest : List (ℕ × File)). entry ∷ rest) (kept_past n table past.1))

past_lower : (n m : ℕ) (table : List (ℕ × File)) → n < m → AllByRecursion (λ entry. m < entry.0) table
    → AllByRecursion (λ entry. n < entry.0) table
past_lower n m [] less past = tt
past_lower n m (entry ∷ table) less past = (omega (arith, less, past.0), past_lower n m table less past.1)

less_of : (a b : ℕ) → a ≤ b → (a ≡ b → ⊥) → a < b
less_of a b by differ = omega (arith, by, differ)

-- the names of other files, in front of those of one file and behind
record AreNamesAround (ino : ℕ) (files : List (ℕ × File)) : Type 0 where
  front : List (ℕ × Piece)
  back : List (ℕ × Piece)
  was : names_by files ≡ (front ++ names_of ino (pieces_or_none (value_at ino files))) ++ back
  changed : (new : File) → names_by (with_value ino new files) ≡ (front ++ names_of ino new.pieces) ++ back
  removed : names_by (without_value ino files) ≡ front ++ back

module _ (ino : ℕ) where
  -- no file has the number, and all stand behind it
  around_none : (files : List (ℕ × File)) → value_at ino files ≡ None → without_value ino files ≡ files
      → ((new : File) → with_value ino new files ≡ (ino, new) ∷ files) → AreNamesAround ino files
  around_none files none kept made = record {
    front = [];
    back = names_by files;
    was = sym (ap (λ (found : Option File). names_of ino (pieces_or_none found) ++ names_by files) none);
    changed = λ new. ap names_by (made new);
    removed = ap names_by kept;
  }

  -- the first file has it
  around_here : (entry : ℕ × File) (files : List (ℕ × File)) → entry.0 ≡ ino
      → AllByRecursion (λ other. entry.0 < other.0) files
      → AreNamesAround ino (entry ∷ files)
  around_here entry files same past =
      let here : (entry.0 == ino) ≡ true = eq-eqb entry.0 ino same in
      let behind : nat_lt ino entry.0 ≡ false = le-ltb ino entry.0 (omega (arith, same)) in
      let kept : without_value entry.0 files ≡ files = kept_past entry.0 files past in
      let kept_too : without_value ino files ≡ files = subst (λ (n : ℕ). without_value n files ≡ files) same kept in
      let first : names_of entry.0 entry.1.pieces ≡ names_of ino entry.1.pieces =
      ap (λ (n : ℕ). names_of n entry.1.pieces) same
      in
      record {
        front = [];
        back = names_by files;
        was =
            ap (λ (names : List (ℕ × Piece)). names ++ names_by files) first
            ∙ sym (rw here refl);
        changed = λ new. rw (behind, here) refl;
        removed = rw here (ap names_by kept_too);
      }

  -- a later file may have it
  around_later : (entry : ℕ × File) (files : List (ℕ × File)) → entry.0 < ino → AreNamesAround ino files
      → AreNamesAround ino (entry ∷ files)
  around_later entry files less later =
      let differ : (entry.0 == ino) ≡ false = ne_eqb entry.0 ino (λ same. omega (arith, same)) in
      let behind : nat_lt ino entry.0 ≡ false = le-ltb ino entry.0 (omega arith) in
      let first = names_of entry.0 entry.1.pieces in
      let in_front : (names : List (ℕ × Piece))
      → first ++ ((later.front ++ names) ++ later.back) ≡ ((first ++ later.front) ++ names) ++ later.back =
      λ names. simp append_assoc
      in
      record {
        front = first ++ later.front;
        back = later.back;
        was =
            ap (λ (names : List (ℕ × Piece)). first ++ names) later.was
            ∙ in_front (names_of ino (pieces_or_none (value_at ino files)))
            ∙ sym (rw differ refl);
        changed = λ new.
            rw (behind, differ) (ap (λ (names : List (ℕ × Piece)). first ++ names) (later.changed new)
            ∙ in_front (names_of ino new.pieces));
        removed =
            rw differ (ap (λ (names : List (ℕ × Piece)). first ++ names) later.removed
            ∙ sym (append_assoc first later.front later.back));
      }

  around_from : (from : ℕ) (files : List (ℕ × File)) → Ascends from files → AreNamesAround ino files
  unfolding Ascends
  around_from from [] ascends = around_none [] refl refl (λ new. refl)
  around_from from (entry ∷ files) ascends = elim (cases_Bool (nat_lt ino entry.0)) [
    | inl front ↦
        let less = ltb-true ino entry.0 front in
        let past = all_past entry.0 files ascends.1 in
        let all : AllByRecursion (λ (other : ℕ × File). ino < other.0) (entry ∷ files) =
        (less, past_lower ino entry.0 files less past)
        in
        around_none (entry ∷ files) (none_past ino (entry ∷ files) all) (kept_past ino (entry ∷ files) all)
        (λ new. rw front refl)
    | inr behind ↦ elim (cases_Bool (entry.0 == ino)) [
      | inl here ↦ around_here entry files (eqb-true entry.0 ino here) (all_past entry.0 files ascends.1)
      | inr differ ↦
          let by = ltb-false ino entry.0 behind in
          let apart = eqb-false entry.0 ino differ in
          around_later entry files (less_of entry.0 ino by apart) (around_from (entry.0 + 1) files ascends.1)
    ]
  ]

  around : (files : List (ℕ × File)) → IsStrictlyIncreasing (keys_of files) → AreNamesAround ino files
  around files up = around_from 0 files (Ascends-increasing files up)

-- ---- in another order

-- what stands in the midst may stand in front
to_front : {A : Type 0} (front middle back : List A) → IsPermutation ((front ++ middle) ++ back)
    (middle ++ (front ++ back))
to_front front middle back =
    subst (IsPermutation ((front ++ middle) ++ back)) (append_assoc middle front back)
    (IsPermutation-append_left back (front ++ middle) (middle ++ front) (IsPermutation-append_comm front middle))

abbrev named_by : ℕ → Piece → ℕ × Piece
named_by ino piece = (ino, piece)

-- the names of three parts of a file's pieces, in the midst of others
names_parted : (ino : ℕ) (before after : List (ℕ × Piece)) (front middle back : List Piece)
    → (before ++ names_of ino ((front ++ middle) ++ back)) ++ after
    ≡ ((before ++ names_of ino front) ++ names_of ino middle) ++ (names_of ino back ++ after)
names_parted ino before after front middle back =
    let two : names_of ino ((front ++ middle) ++ back) ≡ names_of ino (front ++ middle) ++ names_of ino back =
    map-append (named_by ino) (front ++ middle) back
    in
    let one : names_of ino (front ++ middle) ≡ names_of ino front ++ names_of ino middle =
    map-append (named_by ino) front middle
    in
    ap (λ (names : List (ℕ × Piece)). (before ++ names) ++ after) two
    ∙ ap (λ (names : List (ℕ × Piece)). (before ++ (names ++ names_of ino back)) ++ after) one
    ∙ simp append_assoc

pub names-exchanged : (ino : ℕ) (new : File) (gone put : List Piece) (files : List (ℕ × File))
    → IsStrictlyIncreasing (keys_of files)
    → IsExchange (pieces_or_none (value_at ino files)) new.pieces gone put
    → AreNamesExchanged (names_by files) (names_by (with_value ino new files)) (names_of ino gone) (names_of ino put)
names-exchanged ino new gone put files up exchange =
    let names = around ino files up in
    let first = names.front ++ names_of ino exchange.front in
    let last = names_of ino exchange.back ++ names.back in
    let old : names_by files ≡ (first ++ names_of ino gone) ++ last =
    names.was
    ∙ ap (λ (pieces : List Piece). (names.front ++ names_of ino pieces) ++ names.back) exchange.was
    ∙ names_parted ino names.front names.back exchange.front gone exchange.back
    in
    let now : names_by (with_value ino new files) ≡ (first ++ names_of ino put) ++ last =
    names.changed new
    ∙ ap (λ (pieces : List Piece). (names.front ++ names_of ino pieces) ++ names.back) exchange.is
    ∙ names_parted ino names.front names.back exchange.front put exchange.back
    in
    record {
      rest = first ++ last;
      was =
          subst (λ (all : List (ℕ × Piece)). IsPermutation all (names_of ino gone ++ (first ++ last))) (sym old)
          (to_front first (names_of ino gone) last);
      is =
          subst (λ (all : List (ℕ × Piece)). IsPermutation all (names_of ino put ++ (first ++ last))) (sym now)
          (to_front first (names_of ino put) last);
    }

pub names-removed : (ino : ℕ) (old : File) (files : List (ℕ × File)) → IsStrictlyIncreasing (keys_of files)
    → value_at ino files ≡ Some old
    → AreNamesExchanged (names_by files) (names_by (without_value ino files)) (names_of ino old.pieces) []
names-removed ino old files up there =
    let names = around ino files up in
    let was : names_by files ≡ (names.front ++ names_of ino old.pieces) ++ names.back =
    names.was
    ∙ ap (λ (found : Option File). (names.front ++ names_of ino (pieces_or_none found)) ++ names.back) there
    in
    record {
      rest = names.front ++ names.back;
      was =
          subst
          (λ (all : List (ℕ × Piece)). IsPermutation all (names_of ino old.pieces ++ (names.front ++ names.back)))
          (sym was) (to_front names.front (names_of ino old.pieces) names.back);
      is =
          subst (λ (all : List (ℕ × Piece)). IsPermutation all (names.front ++ names.back)) (sym names.removed)
          (IsPermutation-refl (names.front ++ names.back));
    }
