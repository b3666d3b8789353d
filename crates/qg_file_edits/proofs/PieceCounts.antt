-- How often a reference is there while pieces of a file are exchanged.
use Rattle.std.proofs.Common.{◌≡◌, ℕ, ◌^◌, ◌<◌, ◌≤◌, List, [], ◌∷◌, ◌++◌, length, Some, length-append, arith, sym, ap}
use Rattle.std.proofs.Common.{subst}
use Rattle.std.specs.List.{AllByRecursion}
use Rattle.std.proofs.lemmas.List.{length-map}
use Rattle.std.proofs.lemmas.List.Elements.{All-from_recursion}
use Rattle.std.proofs.lemmas.List.Sums.{sum_by-append}
use Rattle.qg_num.specs.declared.piece.Piece.{Piece}
use Rattle.qg_image.specs.declared.file.File.{File}
use Rattle.qg_image.specs.FilesOf.{pieces_bytes}
use Rattle.qg_root_items.specs.Written.{item_of_piece}
use Rattle.qg_shared_trees.specs.Standing.{name_told, names_times}
use Rattle.qg_tree_items.specs.Writable.{AreWritableFiles, IsFileBy, IsWritableFile}
use Rattle.qg_tree_items.proofs.PiecesOfFile.{file_small}
use Rattle.qg_file_edits.specs.Exchange.{IsExchange}
use Rattle.qg_file_edits.specs.Named.{named, names_by, names_of}
use Rattle.qg_file_edits.proofs.NameCounts.{names-few, names-once, pieces-few}
use Rattle.qg_file_edits.proofs.Names.{tell-pieces}
use Rattle.qg_file_edits.specs.Exchanging.{TellPieces}
use Rattle.qg_file_edits.specs.Naming.{AreFewNames}
use Rattle.qg_file_edits.proofs.Named.{times-both}

-- the bytes of a file's pieces fit their type
pub file-bytes : (ino : ℕ) (file : File) → IsWritableFile (ino, file) → pieces_bytes file.pieces < 2 ^ 64
file-bytes ino file is = omega (arith, file_small file is.sound)

-- what is taken out is a part of the old file
pub gone-part : (old new gone put : List Piece) → IsExchange old new gone put → pieces_bytes gone ≤ pieces_bytes old
gone-part old new gone put exchange =
    let len = λ (piece : Piece). piece.len in
    let whole = ap pieces_bytes exchange.was in
    let both = sum_by-append len (exchange.front ++ gone) exchange.back in
    let front = sum_by-append len exchange.front gone in
    omega (arith, whole, both, front)

-- what is put in is a part of the new file
put_few : (old new gone put : List Piece) → IsExchange old new gone put → length put ≤ length new
put_few old new gone put exchange =
    let whole = ap (λ (xs : List Piece). length xs) exchange.is in
    let both = length-append (exchange.front ++ put) exchange.back in
    let front = length-append exchange.front put in
    omega (arith, whole, both, front)

pub put-few : (owner ino : ℕ) (file : File) (old gone put : List Piece) (files : List (ℕ × File))
    → AreWritableFiles files → IsWritableFile (ino, file) → IsExchange old file.pieces gone put
    → named files ≡ names_by files → AreFewNames owner (names_of ino put ++ named files)
put-few owner ino file old gone put files are is exchange spelled at reference =
    let both = times-both owner (names_of ino put) (named files) at reference in
    let once = names-once owner at reference (names_of ino put) in
    let long : length (names_of ino put) ≡ length put = length-map put (λ (piece : Piece). (ino, piece)) in
    let part = put_few old file.pieces gone put exchange in
    let most = pieces-few (ino, file) is in
    let few : names_times owner (named files) at reference ≤ 268435456 =
    subst (λ (names : List (ℕ × Piece)). names_times owner names at reference ≤ 268435456) (sym spelled)
    (names-few owner at reference files are) in
    omega (arith, both, once, long, part, most, few)

-- ---- what the items of pieces that are put in tell

all_behind : (P : Piece → Type 0) (front pieces : List Piece) → AllByRecursion P (front ++ pieces)
    → AllByRecursion P pieces
all_behind P [] pieces all = all
all_behind P (piece ∷ front) pieces all = all_behind P front pieces all.1

all_in_front : (P : Piece → Type 0) (pieces back : List Piece) → AllByRecursion P (pieces ++ back)
    → AllByRecursion P pieces
all_in_front P [] back all = tt
all_in_front P (piece ∷ pieces) back all = (all.0, all_in_front P pieces back all.1)

pub put-tell : (generation ino : ℕ) (file : File) (old gone put : List Piece) → generation < 2 ^ 64
    → IsWritableFile (ino, file) → IsFileBy generation (ino, file) → IsExchange old file.pieces gone put
    → TellPieces ino put
put-tell generation ino file old gone put small is by exchange =
    let Tells : Piece → Type 0 = λ piece. name_told (item_of_piece ino piece) ≡ Some (ino, piece) in
    let all = subst (λ (xs : List Piece). AllByRecursion (λ piece. name_told (item_of_piece ino piece)
    ≡ Some (ino, piece))
    xs) exchange.is (tell-pieces generation (ino, file) small is by) in
    let front = all_in_front Tells (exchange.front ++ put) exchange.back all in
    All-from_recursion Tells put (all_behind Tells exchange.front put front)
