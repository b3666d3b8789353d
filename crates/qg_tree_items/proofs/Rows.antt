-- Rows of items, one behind the other.
use Rattle.std.proofs.Common.{◌≡◌, ℕ, ◌+◌, ◌≤◌, Bool, true, false, List, [], ◌∷◌, ◌++◌, map, refl, ap, sym, ◌∙◌, subst}
use Rattle.std.proofs.Common.{arith, append_assoc}
use Rattle.std.specs.Prelude.{◌&&◌, Option, Some, None, ◌==◌, nat_le, nat_lt}
use Rattle.std.specs.List.{list_all}
use Rattle.std.proofs.lemmas.Bool.{and_parts, both_ways, eq-eqb}
use Rattle.std.proofs.lemmas.List.{append-nil, map-append}
use Rattle.std.proofs.lemmas.List.Sums.{sum_by-append}
use Rattle.qg_num.specs.declared.piece.Piece.{Piece}
use Rattle.qg_items.specs.declared.file.InodeItem.{InodeItem}
use Rattle.qg_image.specs.Table.{has_key}
use Rattle.qg_image.specs.declared.part.FilePart.{FilePart}
use Rattle.qg_image.specs.declared.part.FilePart.TheVariants.{Inode, PieceOf}
use Rattle.qg_image.specs.FilesOf.{are_files, are_pieces, inodes_end, inodes_in, is_aligned, is_file, is_inode}
use Rattle.qg_image.specs.FilesOf.{is_owned, is_piece, largest_size, least_inode, piece_end, pieces_bytes}
use Rattle.qg_tree_items.specs.Files.{is_between}
use Rattle.qg_tree_items.proofs.Reading.{pieces_in-own}
use Rattle.qg_tree_items.proofs.Standing.{ascending-behind}
use Rattle.qg_tree_items.specs.Rows.{AreFilesTo, AreOfNoFiles, ArePieces, EndIn, HasEnds, IsLast, IsRun, IsToldOf}
use Rattle.qg_tree_items.specs.declared.last.LastFile.{LastFile}
use Rattle.qg_tree_items.specs.declared.row.Ends.{Ends}
use Rattle.qg_tree_items.specs.declared.run.PieceRun.{PieceRun}
use Rattle.qg_tree_items.proofs.KeysAscend.{Ascend, ascending_within}
use Rattle.qg_tree_items.proofs.Neighbours.{AreApart, last_none, no_files_wider, runs_none}
use Rattle.qg_tree_items.proofs.Owners.{orphan}
use Rattle.qg_tree_items.proofs.PiecesInTurn.{FitAs, fit_some, joined_fit, joined_to, one_fits}
use Rattle.qg_tree_items.proofs.Split.{StartsFile, and-true, none_sound, split}

-- ---- runs

IsRun-one : (run : PieceRun) (piece : Piece) → is_piece piece ≡ true → run.begin ≡ piece.position
    → run.end ≡ piece_end piece → run.bytes ≡ piece.len → IsRun run (PieceOf run.ino piece ∷ [])
IsRun-one run piece is begin end bytes = record {
  pieces = piece ∷ [];
  stand = refl;
  fit = rw (begin, end) (one_fits piece is);
  bytes = let zero : 0 + piece.len ≡ piece.len = omega arith in zero ∙ sym bytes;
}

pub IsRun-between : (run : PieceRun) (piece : Piece) → is_between 0 largest_size piece ≡ true
    → run.begin ≡ piece.position
    → run.end ≡ piece_end piece → run.bytes ≡ piece.len
    → IsRun run (PieceOf run.ino piece ∷ [])
IsRun-between run piece inside begin end bytes =
    let both = and_parts (nat_le 0 piece.position && is_piece piece) (nat_le (piece_end piece) largest_size) inside in
    IsRun-one run piece (and_parts (nat_le 0 piece.position) (is_piece piece) both.0).1 begin end bytes

both_stand : (ino : ℕ) (pieces more : List Piece) (xs ys : List FilePart) → xs ≡ map (PieceOf ino) pieces
    → ys ≡ map (PieceOf ino) more → xs ++ ys ≡ map (PieceOf ino) (pieces ++ more)
both_stand ino pieces more xs ys is are = rw (is, are) (sym (map-append (PieceOf ino) pieces more))

both_bytes : (pieces more : List Piece) (n m : ℕ) → pieces_bytes pieces ≡ n → pieces_bytes more ≡ m
    → pieces_bytes (pieces ++ more) ≡ n + m
both_bytes pieces more n m is are = sum_by-append (λ (piece : Piece). piece.len) pieces more ∙ rw (is, are) refl

pub IsRun-joined : (a b run : PieceRun) (xs ys : List FilePart) → IsRun a xs → IsRun b ys → a.ino ≡ b.ino
    → a.end ≤ b.begin
    → run.ino ≡ a.ino → run.begin ≡ a.begin → run.end ≡ b.end → run.bytes ≡ a.bytes + b.bytes → IsRun run (xs ++ ys)
IsRun-joined a b run xs ys first second same less ino begin end bytes =
    let those : ys ≡ map (PieceOf a.ino) second.pieces =
    second.stand ∙ ap (λ (n : ℕ). map (PieceOf n) second.pieces) (sym same) in
    record {
      pieces = first.pieces ++ second.pieces;
      stand = rw ino (both_stand a.ino first.pieces second.pieces xs ys first.stand those);
      fit =
          rw (begin, end) (joined_fit a.begin a.end b.begin b.end first.pieces second.pieces first.fit second.fit less);
      bytes = both_bytes first.pieces second.pieces a.bytes b.bytes first.bytes second.bytes ∙ sym bytes;
    }

pub runs_apart : (a b : PieceRun) (xs ys : List FilePart) → IsRun a xs → IsRun b ys → AreApart a.ino a.end b.ino b.begin
    → AreOfNoFiles (xs ++ ys)
runs_apart a b xs ys first second apart =
    rw (first.stand, second.stand)
    (runs_none a.ino a.begin a.end b.ino b.begin b.end first.pieces second.pieces first.fit second.fit apart)

-- ---- last files

to_none : (whole : ℕ) → are_pieces 0 whole [] ≡ nat_le 0 whole
unfolding are_pieces
to_none whole = refl

pub IsLast-one : (file : LastFile) (inode : InodeItem) → file.size ≡ inode.size → file.nbytes ≡ inode.nbytes
    → file.end ≡ 0 → file.bytes ≡ 0 → IsLast file (Inode file.ino inode ∷ [])
IsLast-one file inode size nbytes end bytes = record {
  inode = inode;
  pieces = [];
  stand = refl;
  size = sym size;
  nbytes = sym nbytes;
  fit = rw end to_none;
  bytes = sym bytes;
}

pub IsLast-joined : (file new : LastFile) (run : PieceRun) (xs ys : List FilePart) → IsLast file xs → IsRun run ys
    → file.ino ≡ run.ino → file.end ≤ run.begin
    → new.ino ≡ file.ino → new.size ≡ file.size → new.nbytes ≡ file.nbytes → new.end ≡ run.end
    → new.bytes ≡ file.bytes + run.bytes → IsLast new (xs ++ ys)
IsLast-joined file new run xs ys last behind same less ino size nbytes end bytes =
    let first : FilePart = Inode file.ino last.inode in
    let those : ys ≡ map (PieceOf file.ino) behind.pieces =
    behind.stand ∙ ap (λ (n : ℕ). map (PieceOf n) behind.pieces) (sym same) in
    let all : xs ++ ys ≡ first ∷ map (PieceOf file.ino) (last.pieces ++ behind.pieces) =
    ap (λ (parts : List FilePart). parts ++ ys) last.stand
    ∙ ap (λ (parts : List FilePart). first ∷ parts)
    (both_stand file.ino last.pieces behind.pieces (map (PieceOf file.ino) last.pieces) ys refl those) in
    record {
      inode = last.inode;
      pieces = last.pieces ++ behind.pieces;
      stand = rw ino all;
      size = last.size ∙ sym size;
      nbytes = last.nbytes ∙ sym nbytes;
      fit = rw end (joined_to file.end run.begin run.end last.pieces behind.pieces last.fit behind.fit less);
      bytes = both_bytes last.pieces behind.pieces file.bytes run.bytes last.bytes behind.bytes ∙ sym bytes;
    }

pub last_apart : (file : LastFile) (run : PieceRun) (xs ys : List FilePart) → IsLast file xs → IsRun run ys
    → AreApart file.ino file.end run.ino run.begin → AreOfNoFiles (xs ++ ys)
last_apart file run xs ys last behind apart =
    rw (last.stand, behind.stand)
    (last_none file.ino file.end run.ino run.begin run.end last.inode last.pieces behind.pieces last.fit behind.fit
    apart)

-- ---- whether the last file is sound

and-false : (b : Bool) → (b && false) ≡ false
and-false true = refl
and-false false = refl

regroup : (low high aligned least fit sum : Bool)
    → (low && high && (aligned && least && fit) && sum) ≡ (low && high && aligned && least && fit && sum)
regroup true true aligned least fit sum = refl
regroup true false aligned least fit sum = refl
regroup false high aligned least fit sum = refl

abbrev pub is_whole : LastFile → Bool
is_whole file =
    nat_le least_inode file.ino && nat_lt file.ino inodes_end && is_aligned file.size && nat_le file.size largest_size
    && nat_le file.end file.size
    && (file.nbytes == file.bytes)

own_owned : (ino : ℕ) (whole : List FilePart) (pieces : List Piece) → has_key ino (inodes_in whole) ≡ true
    → list_all (is_owned whole) (map (PieceOf ino) pieces) ≡ true
own_owned ino whole [] has = refl
own_owned ino whole (piece ∷ pieces) has = rw has (own_owned ino whole pieces has)

no_inodes : (ino : ℕ) (pieces : List Piece) → inodes_in (map (PieceOf ino) pieces) ≡ []
no_inodes ino [] = refl
no_inodes ino (piece ∷ pieces) = no_inodes ino pieces

sound_as : (ino : ℕ) (inode : InodeItem) (pieces : List Piece)
    → are_files (Inode ino inode ∷ map (PieceOf ino) pieces)
    ≡ is_inode (Inode ino inode ∷ map (PieceOf ino) pieces) (ino, inode)
unfolding are_files
sound_as ino inode pieces =
    let whole : List FilePart = Inode ino inode ∷ map (PieceOf ino) pieces in
    let has : has_key ino (inodes_in whole) ≡ true = rw (eq-eqb ino ino refl) refl in
    rw (own_owned ino whole pieces has, no_inodes ino pieces) (and-true (is_inode whole (ino, inode)))

pub whole_is : (file : LastFile) (parts : List FilePart) → IsLast file parts → are_files parts ≡ is_whole file
unfolding is_file
whole_is file parts last =
    ap are_files last.stand
    ∙ sound_as file.ino last.inode last.pieces
    ∙ rw (pieces_in-own file.ino last.pieces, last.size, last.nbytes, last.fit, last.bytes)
    (regroup (nat_le least_inode file.ino) (nat_lt file.ino inodes_end) (is_aligned file.size)
    (nat_le file.size largest_size) (nat_le file.end file.size) (file.nbytes == file.bytes))

-- ---- sound files in a row

last_starts : (file : LastFile) (parts rest : List FilePart) → IsLast file parts → StartsFile (parts ++ rest)
last_starts file parts rest last = subst (λ (xs : List FilePart). StartsFile (xs ++ rest)) (sym last.stand) tt

sound_starts : (within rest : List FilePart) → Ascend within → are_files within ≡ true → StartsFile rest
    → StartsFile (within ++ rest)
sound_starts [] rest ascends sound starts = starts
sound_starts (Inode ino inode ∷ within) rest ascends sound starts = tt
sound_starts (PieceOf ino piece ∷ within) rest ascends sound starts =
    absurd (both_ways (are_files (PieceOf ino piece ∷ within)) (orphan [] ino piece within ascends tt) sound)

three : (front mid behind : List FilePart) → Ascend (front ++ (mid ++ behind)) → StartsFile (mid ++ behind)
    → StartsFile behind
    → are_files (front ++ (mid ++ behind)) ≡ (are_files front && (are_files mid && are_files behind))
three front mid behind ascends starts later =
    split front (mid ++ behind) ascends starts
    ∙ ap (λ (b : Bool). are_files front && b) (split mid behind (ascending-behind front (mid ++ behind) ascends) later)

-- ---- pieces, and then a row

pub HasEnds-none : (ends : Ends) (xs ys : List FilePart) → xs ≡ [] → HasEnds ends ys → HasEnds ends (xs ++ ys)
HasEnds-none ends xs ys none has = rw none has

pub HasEnds-before : (ends new : Ends) (run : PieceRun) (xs ys : List FilePart) → IsRun run xs → HasEnds ends ys
    → ends.before ≡ None → new.before ≡ Some run → new.last ≡ ends.last
    → HasEnds new (xs ++ ys)
HasEnds-before ends new run xs ys is has none before last =
    let empty : has.before ≡ [] = subst (λ (pieces : Option PieceRun). ArePieces pieces has.before) none has.begin in
    record {
      before = xs;
      files = has.files;
      stand =
          ap (λ (parts : List FilePart). xs ++ parts)
          (has.stand ∙ ap (λ (parts : List FilePart). parts ++ has.files) empty);
      begin = subst (λ (pieces : Option PieceRun). ArePieces pieces xs) (sym before) is;
      end = subst (λ (file : Option LastFile). AreFilesTo file has.files) (sym last) has.end;
    }

pub HasEnds-joined : (ends new : Ends) (rest run : PieceRun) (xs ys : List FilePart) → HasEnds ends ys
    → ends.before ≡ Some rest → ((parts : List FilePart) → IsRun rest parts → IsRun run (xs ++ parts))
    → new.before ≡ Some run → new.last ≡ ends.last → HasEnds new (xs ++ ys)
HasEnds-joined ends new rest run xs ys has some both before last =
    let begin : IsRun rest has.before =
    subst (λ (pieces : Option PieceRun). ArePieces pieces has.before) some has.begin in
    record {
      before = xs ++ has.before;
      files = has.files;
      stand = ap (λ (parts : List FilePart). xs ++ parts) has.stand ∙ sym (append_assoc xs has.before has.files);
      begin = subst (λ (pieces : Option PieceRun). ArePieces pieces (xs ++ has.before)) (sym before)
          (both has.before begin);
      end = subst (λ (file : Option LastFile). AreFilesTo file has.files) (sym last) has.end;
    }

pub HasEnds-apart : (ends : Ends) (rest : PieceRun) (xs ys : List FilePart) → HasEnds ends ys → ends.before ≡ Some rest
    → ((parts : List FilePart) → IsRun rest parts → AreOfNoFiles (xs ++ parts))
    → AreOfNoFiles (xs ++ ys)
HasEnds-apart ends rest xs ys has some apart =
    let begin : IsRun rest has.before =
    subst (λ (pieces : Option PieceRun). ArePieces pieces has.before) some has.begin in
    let all : (xs ++ has.before) ++ has.files ≡ xs ++ ys =
    append_assoc xs has.before has.files ∙ ap (λ (parts : List FilePart). xs ++ parts) (sym has.stand) in
    subst AreOfNoFiles all (no_files_wider [] (xs ++ has.before) has.files (apart has.before begin))

-- ---- one INODE_ITEM

pub HasEnds-file : (ends : Ends) (file : LastFile) (parts : List FilePart) → IsLast file parts → ends.before ≡ None
    → ends.last ≡ Some file → HasEnds ends parts
HasEnds-file ends file parts is before last =
    let files : EndIn file parts = record { within = []; last = parts; stand = refl; sound = none_sound; is = is } in
    record {
      before = [];
      files = parts;
      stand = refl;
      begin = subst (λ (pieces : Option PieceRun). ArePieces pieces []) (sym before) refl;
      end = subst (λ (file : Option LastFile). AreFilesTo file parts) (sym last) files;
    }

-- ---- a row that ends in a file, and then a row

module _ (front behind : Ends) (last : LastFile) (xs ys : List FilePart) (ahead : HasEnds front xs)
    (after : HasEnds behind ys) (is : front.last ≡ Some last) where
  pub ends_in : EndIn last ahead.files
  ends_in = subst (λ (file : Option LastFile). AreFilesTo file ahead.files) is ahead.end

  -- the items of the last file of the first row, and the pieces before the first file of the second
  abbrev pub middle : List FilePart
  middle = ends_in.last ++ after.before

  pub middle_told : (told : Option LastFile)
      → ((parts pieces : List FilePart) → IsLast last parts → ArePieces behind.before pieces
      → IsToldOf IsLast told (parts ++ pieces)) → IsToldOf IsLast told middle
  middle_told told both = both ends_in.last after.before ends_in.is after.begin

  stands : xs ++ ys ≡ (ahead.before ++ (ends_in.within ++ ends_in.last)) ++ (after.before ++ after.files)
  stands =
      ap (λ (parts : List FilePart). parts ++ ys) ahead.stand
      ∙ ap (λ (parts : List FilePart). (ahead.before ++ ahead.files) ++ parts) after.stand
      ∙ ap (λ (parts : List FilePart). (ahead.before ++ parts) ++ (after.before ++ after.files)) ends_in.stand

  pub join_apart : AreOfNoFiles middle → AreOfNoFiles (xs ++ ys)
  join_apart none =
      let all : xs ++ ys ≡ (ahead.before ++ ends_in.within) ++ (middle ++ after.files) = stands ∙ simp append_assoc in
      subst AreOfNoFiles (sym all) (no_files_wider (ahead.before ++ ends_in.within) middle after.files none)

  -- the second row has no INODE_ITEM
  pub join_pieces : (new : Ends) (file : LastFile) → behind.last ≡ None → IsLast file middle
      → new.before ≡ front.before → new.last ≡ Some file → HasEnds new (xs ++ ys)
  join_pieces new file none still before ends =
      let empty : after.files ≡ [] = subst (λ (file : Option LastFile). AreFilesTo file after.files) none after.end in
      let all : xs ++ ys ≡ ahead.before ++ (ends_in.within ++ middle) =
      stands
      ∙ ap (λ (parts : List FilePart). (ahead.before ++ (ends_in.within ++ ends_in.last)) ++ (after.before ++ parts))
      empty ∙ simp (append-nil, append_assoc) in
      let files : EndIn file (ends_in.within ++ middle) =
      record { within = ends_in.within; last = middle; stand = refl; sound = ends_in.sound; is = still } in
      record {
        before = ahead.before;
        files = ends_in.within ++ middle;
        stand = all;
        begin = subst (λ (pieces : Option PieceRun). ArePieces pieces ahead.before) (sym before) ahead.begin;
        end = subst (λ (file : Option LastFile). AreFilesTo file (ends_in.within ++ middle)) (sym ends) files;
      }

  -- the second row ends in a file, so the last one of the first has no more pieces
  module _ (file next : LastFile) (some : behind.last ≡ Some next) (still : IsLast file middle)
      (ascends : Ascend (xs ++ ys)) where
    next_in : EndIn next after.files
    next_in = subst (λ (file : Option LastFile). AreFilesTo file after.files) some after.end

    all_stand : xs ++ ys ≡ (ahead.before ++ ends_in.within) ++ (middle ++ (next_in.within ++ next_in.last))
    all_stand =
        stands
        ∙ ap (λ (parts : List FilePart). (ahead.before ++ (ends_in.within ++ ends_in.last)) ++ (after.before ++ parts))
        next_in.stand
        ∙ simp append_assoc

    all_ascend : Ascend ((ahead.before ++ ends_in.within) ++ (middle ++ (next_in.within ++ next_in.last)))
    all_ascend = subst Ascend all_stand ascends

    within_ascends : Ascend next_in.within
    within_ascends =
        ascending_within ((ahead.before ++ ends_in.within) ++ middle) next_in.within next_in.last
        (subst Ascend (sym (append_assoc (ahead.before ++ ends_in.within) middle (next_in.within ++ next_in.last)))
        all_ascend)

    abbrev files_within : List FilePart
    files_within = ends_in.within ++ (middle ++ next_in.within)

    files_ascend : Ascend files_within
    files_ascend =
        let all : (ahead.before ++ ends_in.within) ++ (middle ++ (next_in.within ++ next_in.last))
        ≡ ahead.before ++ (files_within ++ next_in.last) = simp append_assoc in
        ascending_within ahead.before files_within next_in.last (subst Ascend all all_ascend)

    starts_bare : StartsFile next_in.within
    starts_bare =
        subst StartsFile (append-nil next_in.within) (sound_starts next_in.within [] within_ascends next_in.sound tt)

    files_sound : are_files middle ≡ true → are_files files_within ≡ true
    files_sound mid =
        three ends_in.within middle next_in.within files_ascend
        (last_starts file middle next_in.within still) starts_bare
        ∙ rw (ends_in.sound, mid, next_in.sound) refl

    pub join_files : (new : Ends) → are_files middle ≡ true → new.before ≡ front.before → new.last ≡ Some next
        → HasEnds new (xs ++ ys)
    join_files new whole before ends =
        let files : EndIn next (files_within ++ next_in.last) =
        record { within = files_within; last = next_in.last; stand = refl; sound = files_sound whole; is = next_in.is }
        in
        record {
          before = ahead.before;
          files = files_within ++ next_in.last;
          stand = all_stand ∙ simp append_assoc;
          begin = subst (λ (pieces : Option PieceRun). ArePieces pieces ahead.before) (sym before) ahead.begin;
          end = subst (λ (file : Option LastFile). AreFilesTo file (files_within ++ next_in.last)) (sym ends) files;
        }

    pub join_broken : are_files middle ≡ false → AreOfNoFiles (xs ++ ys)
    join_broken mid low high ascends' =
        let later : List FilePart = next_in.within ++ (next_in.last ++ high) in
        let all : low ++ ((xs ++ ys) ++ high) ≡ (low ++ (ahead.before ++ ends_in.within)) ++ (middle ++ later) =
        ap (λ (parts : List FilePart). low ++ (parts ++ high)) all_stand ∙ simp append_assoc in
        let up : Ascend ((low ++ (ahead.before ++ ends_in.within)) ++ (middle ++ later)) =
        subst Ascend all ascends' in
        let begins : StartsFile later =
        sound_starts next_in.within (next_in.last ++ high) within_ascends next_in.sound
        (last_starts next next_in.last high next_in.is) in
        ap are_files all
        ∙ three (low ++ (ahead.before ++ ends_in.within)) middle later up (last_starts file middle later still) begins
        ∙ rw mid (and-false (are_files (low ++ (ahead.before ++ ends_in.within))))

-- ---- whether a row is files

run_orphan : (ino begin end : ℕ) (pieces : List Piece) (rest : List FilePart) → FitAs begin end pieces
    → Ascend (map (PieceOf ino) pieces ++ rest)
    → are_files (map (PieceOf ino) pieces ++ rest) ≡ false
run_orphan ino begin end [] rest fit ascends = absurd (fit_some begin end fit)
run_orphan ino begin end (piece ∷ pieces) rest fit ascends =
    orphan [] ino piece (map (PieceOf ino) pieces ++ rest) ascends tt

pub begins_orphan : (ends : Ends) (run : PieceRun) (parts : List FilePart) → HasEnds ends parts → ends.before ≡ Some run
    → Ascend parts → are_files parts ≡ false
begins_orphan ends run parts has some ascends =
    let begin : IsRun run has.before =
    subst (λ (pieces : Option PieceRun). ArePieces pieces has.before) some has.begin in
    let all : parts ≡ map (PieceOf run.ino) begin.pieces ++ has.files =
    has.stand ∙ ap (λ (front : List FilePart). front ++ has.files) begin.stand in
    ap are_files all
    ∙ run_orphan run.ino run.begin run.end begin.pieces has.files begin.fit (subst Ascend all ascends)

bare : (ends : Ends) (parts : List FilePart) (has : HasEnds ends parts) → ends.before ≡ None → parts ≡ has.files
bare ends parts has none =
    let empty : has.before ≡ [] = subst (λ (pieces : Option PieceRun). ArePieces pieces has.before) none has.begin in
    has.stand ∙ ap (λ (front : List FilePart). front ++ has.files) empty

pub empty_is : (ends : Ends) (parts : List FilePart) → HasEnds ends parts → ends.before ≡ None → ends.last ≡ None
    → are_files parts ≡ true
empty_is ends parts has none neither =
    let empty : has.files ≡ [] = subst (λ (file : Option LastFile). AreFilesTo file has.files) neither has.end in
    ap are_files (bare ends parts has none ∙ empty) ∙ none_sound

pub files_are : (ends : Ends) (file : LastFile) (parts : List FilePart) → HasEnds ends parts → ends.before ≡ None
    → ends.last ≡ Some file → Ascend parts
    → (answer : Bool) → ((those : List FilePart) → IsLast file those → answer ≡ are_files those)
    → answer ≡ are_files parts
files_are ends file parts has none some ascends answer is =
    let end : EndIn file has.files = subst (λ (file : Option LastFile). AreFilesTo file has.files) some has.end in
    let all : parts ≡ end.within ++ end.last = bare ends parts has none ∙ end.stand in
    let up : Ascend (end.within ++ end.last) = subst Ascend all ascends in
    let starts : StartsFile end.last = subst StartsFile (append-nil end.last) (last_starts file end.last [] end.is) in
    let same : are_files parts ≡ are_files end.last =
    ap are_files all ∙ split end.within end.last up starts ∙ rw end.sound refl in
    is end.last end.is ∙ sym same
