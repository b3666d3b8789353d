-- Pieces that no sound files have in a row.
use Rattle.std.proofs.Common.{◌≡◌, ℕ, ◌<◌, ◌≤◌, true, false, List, [], ◌∷◌, ◌++◌, map, refl, ap, sym, ◌∙◌, subst, arith}
use Rattle.std.proofs.Common.{append_assoc, inl, inr}
use Rattle.std.specs.Prelude.{◌&&◌, nat_le}
use Rattle.std.specs.List.{AllByRecursion}
use Rattle.std.proofs.lemmas.Bool.{and_from, both_ways, cases_eq, false_from_ne_true, le-leb}
use Rattle.std.proofs.lemmas.List.{append-nil}
use Rattle.std.proofs.lemmas.List.Elements.{filter_map-append}
use Rattle.qg_num.specs.declared.piece.Piece.{Piece}
use Rattle.qg_items.specs.declared.file.InodeItem.{InodeItem}
use Rattle.qg_image.specs.declared.part.FilePart.{FilePart}
use Rattle.qg_image.specs.declared.part.FilePart.TheVariants.{Inode, PieceOf}
use Rattle.qg_image.specs.FilesOf.{are_files, are_pieces, is_piece, largest_size, piece_end, piece_in, pieces_in}
use Rattle.qg_tree_items.specs.Files.{is_between}
use Rattle.qg_tree_items.proofs.Reading.{pieces_in-own}
use Rattle.qg_tree_items.proofs.Standing.{IsBehind, all_later, ino_of}
use Rattle.qg_tree_items.specs.Rows.{AreOfNoFiles}
use Rattle.qg_tree_items.proofs.KeysAscend.{Ascend, all_before, all_both, all_weaker}
use Rattle.qg_tree_items.proofs.Owners.{file_of_piece, orphan}
use Rattle.qg_tree_items.proofs.PiecesInTurn.{FitAs, FitTo, cut_middle, fit_some, in_order, in_order_to, one_within}
use Rattle.qg_tree_items.proofs.Split.{from_inode}

-- ---- among more items

pub no_files_wider : (front parts behind : List FilePart) → AreOfNoFiles parts
    → AreOfNoFiles (front ++ (parts ++ behind))
no_files_wider front parts behind none before after ascends =
    let same : before ++ ((front ++ (parts ++ behind)) ++ after) ≡ (before ++ front) ++ (parts ++ (behind ++ after)) =
    simp append_assoc in
    ap are_files same ∙ none (before ++ front) (behind ++ after) (subst Ascend same ascends)

pub no_files_alone : (parts : List FilePart) → AreOfNoFiles parts → Ascend parts → are_files parts ≡ false
no_files_alone parts none ascends =
    let same : parts ++ [] ≡ parts = append-nil parts in
    ap are_files (sym same) ∙ none [] [] (subst Ascend (sym same) ascends)

-- ---- pieces among those of their file

pieces_among : (ino : ℕ) (front parts behind : List FilePart)
    → pieces_in ino (front ++ (parts ++ behind)) ≡ pieces_in ino front ++ (pieces_in ino parts ++ pieces_in ino behind)
pieces_among ino front parts behind =
    filter_map-append (piece_in ino) front (parts ++ behind)
    ∙ ap (λ (pieces : List Piece). pieces_in ino front ++ pieces) (filter_map-append (piece_in ino) parts behind)

-- items of which one is a piece: where sound files have them, those of its file fit some positions of it
pub record AreFitting (ino : ℕ) (parts : List FilePart) : Type 0 where
  pub low : ℕ
  pub high : ℕ
  pub fit : are_pieces low high (pieces_in ino parts) ≡ true
  pub least : high ≤ largest_size

fitting : (ino : ℕ) (front left : List FilePart) (piece : Piece) (right behind : List FilePart)
    → are_files (front ++ ((left ++ (PieceOf ino piece ∷ right)) ++ behind)) ≡ true
    → AreFitting ino (left ++ (PieceOf ino piece ∷ right))
fitting ino front left piece right behind sound =
    let parts : List FilePart = left ++ (PieceOf ino piece ∷ right) in
    let same : front ++ (parts ++ behind) ≡ (front ++ left) ++ (PieceOf ino piece ∷ (right ++ behind)) =
    simp append_assoc in
    let file = file_of_piece (front ++ left) ino piece (right ++ behind) (sym (ap are_files same) ∙ sound) in
    let all : pieces_in ino ((front ++ left) ++ (PieceOf ino piece ∷ (right ++ behind))) ≡ pieces_in ino front
    ++ (pieces_in ino parts ++ pieces_in ino behind) =
    ap (pieces_in ino) (sym same) ∙ pieces_among ino front parts behind in
    let fit = subst (λ (pieces : List Piece). are_pieces 0 file.size pieces ≡ true) all file.fit in
    let middle = cut_middle 0 file.size (pieces_in ino front) (pieces_in ino parts) (pieces_in ino behind) fit in
    record { low = middle.0; high = middle.1; fit = middle.2; least = omega (arith, middle.3, file.least) }

-- ---- a piece that is not sound, or ends past the largest size

pub one_none : (ino : ℕ) (piece : Piece) → is_between 0 largest_size piece ≡ false
    → AreOfNoFiles (PieceOf ino piece ∷ [])
one_none ino piece outside front behind ascends =
    false_from_ne_true (are_files (front ++ ((PieceOf ino piece ∷ []) ++ behind)))
    (λ sound. both_ways (is_between 0 largest_size piece) outside
    (inside (fitting ino front [] piece [] behind sound))) where
      inside : AreFitting ino (PieceOf ino piece ∷ []) → is_between 0 largest_size piece ≡ true
      inside fits =
          let within =
          one_within fits.low fits.high piece
          (subst (λ (pieces : List Piece). are_pieces fits.low fits.high pieces ≡ true)
          (pieces_in-own ino (piece ∷ [])) fits.fit) in
          and_from (nat_le 0 piece.position && is_piece piece) (nat_le (piece_end piece) largest_size)
          (and_from (nat_le 0 piece.position) (is_piece piece) (le-leb 0 piece.position (omega arith)) within.is)
          (le-leb (piece_end piece) largest_size (omega (arith, within.ends, fits.least)))

-- ---- a piece behind items of another file

other_none : (ino other : ℕ) (first : FilePart) (mid : List FilePart) (piece : Piece) (more : List FilePart)
    → ino_of first ≡ ino → AllByRecursion (λ one. ino_of one ≡ ino) mid → (ino ≡ other → ⊥)
    → AreOfNoFiles ((first ∷ mid) ++ (PieceOf other piece ∷ more))
other_none ino other first mid piece more is are differ front behind ascends =
    let same : front ++ (((first ∷ mid) ++ (PieceOf other piece ∷ more)) ++ behind)
    ≡ (front ++ (first ∷ mid)) ++ (PieceOf other piece ∷ (more ++ behind)) = simp append_assoc in
    let whole : Ascend ((front ++ (first ∷ mid)) ++ (PieceOf other piece ∷ (more ++ behind))) =
    subst Ascend same ascends in
    let before = all_before (front ++ (first ∷ mid)) (PieceOf other piece) (more ++ behind) whole in
    let least = (all_later (λ one. IsBehind (ino_of one) (PieceOf other piece)) front (first ∷ mid) before).0 in
    let less : ino < other = lower least in
    let ahead = all_before front first (mid ++ ((PieceOf other piece ∷ more) ++ behind)) (from_first ascends) in
    let low =
    all_weaker (λ one. IsBehind (ino_of one) first) (λ one. ino_of one < other)
    (λ one not_after. omega (arith, less, is, from_inode (ino_of one) first not_after)) front ahead in
    let own =
    all_weaker (λ one. ino_of one ≡ ino) (λ one. ino_of one < other)
    (λ one of_file. omega (arith, less, of_file)) mid are in
    ap are_files same
    ∙ orphan (front ++ (first ∷ mid)) other piece (more ++ behind) whole
    (all_both (λ one. ino_of one < other) front (first ∷ mid) low (omega (arith, less, is), own)) where
      lower : ino_of first ≤ other → ino < other
      lower least =
          elim (cases_eq ino other) [ inl equal ↦ absurd (differ equal) | inr apart ↦ omega (arith, least, is, apart) ]

      from_first : Ascend (front ++ (((first ∷ mid) ++ (PieceOf other piece ∷ more)) ++ behind))
          → Ascend (front ++ (first ∷ (mid ++ ((PieceOf other piece ∷ more) ++ behind))))
      from_first h =
          subst (λ (all : List FilePart). Ascend (front ++ (first ∷ all)))
          (append_assoc mid (PieceOf other piece ∷ more) behind) h

-- ---- pieces that begin before those in front of them end

-- where the files are the same, the second begins before the first ends
abbrev pub AreApart : ℕ → ℕ → ℕ → ℕ → Type 0
AreApart ino mid other next = ino ≡ other → next < mid

of_one_file : (ino : ℕ) (pieces : List Piece) → AllByRecursion (λ one. ino_of one ≡ ino) (map (PieceOf ino) pieces)
of_one_file ino [] = tt
of_one_file ino (piece ∷ pieces) = (refl, of_one_file ino pieces)

own_both : (ino : ℕ) (pieces more : List Piece)
    → pieces_in ino (map (PieceOf ino) pieces ++ map (PieceOf ino) more) ≡ pieces ++ more
own_both ino pieces more =
    filter_map-append (piece_in ino) (map (PieceOf ino) pieces) (map (PieceOf ino) more)
    ∙ rw (pieces_in-own ino pieces, pieces_in-own ino more) refl

own_too : (ino other : ℕ) (pieces more : List Piece) → ino ≡ other
    → pieces_in other (map (PieceOf ino) pieces ++ map (PieceOf other) more) ≡ pieces ++ more
own_too ino other pieces more equal =
    subst (λ (n : ℕ). pieces_in other (map (PieceOf n) pieces ++ map (PieceOf other) more) ≡ pieces ++ more)
    (sym equal) (own_both other pieces more)

some_runs_none : (ino begin mid other next end : ℕ) (piece : Piece) (pieces : List Piece) (first : Piece)
    (more : List Piece)
    → FitAs begin mid (piece ∷ pieces) → FitAs next end (first ∷ more)
    → AreApart ino mid other next
    → AreOfNoFiles (map (PieceOf ino) (piece ∷ pieces) ++ map (PieceOf other) (first ∷ more))
some_runs_none ino begin mid other next end piece pieces first more fit fit' apart front behind ascends =
    elim (cases_eq ino other) [
      | inr differ ↦ other_none ino other (PieceOf ino piece) (map (PieceOf ino) pieces) first
          (map (PieceOf other) more) refl (of_one_file ino pieces) differ front behind ascends
      | inl equal ↦ false_from_ne_true
          (are_files (front ++ ((map (PieceOf ino) (piece ∷ pieces) ++ map (PieceOf other) (first ∷ more)) ++ behind)))
          (λ sound. broken equal sound)
    ] where
      broken : ino ≡ other
          → are_files (front ++ ((map (PieceOf ino) (piece ∷ pieces) ++ map (PieceOf other) (first ∷ more)) ++ behind))
          ≡ true → ⊥
      broken equal sound =
          let fits =
          fitting other front (map (PieceOf ino) (piece ∷ pieces)) first (map (PieceOf other) more) behind sound in
          let own : pieces_in other (map (PieceOf ino) (piece ∷ pieces) ++ map (PieceOf other) (first ∷ more))
          ≡ (piece ∷ pieces) ++ (first ∷ more) =
          own_too ino other (piece ∷ pieces) (first ∷ more) equal in
          let order =
          in_order begin mid next end fits.low fits.high (piece ∷ pieces) (first ∷ more) fit fit'
          (subst (λ (all : List Piece). are_pieces fits.low fits.high all ≡ true) own fits.fit) in
          omega (arith, order, apart equal)

pub runs_none : (ino begin mid other next end : ℕ) (pieces more : List Piece) → FitAs begin mid pieces
    → FitAs next end more → AreApart ino mid other next
    → AreOfNoFiles (map (PieceOf ino) pieces ++ map (PieceOf other) more)
runs_none ino begin mid other next end [] more fit fit' apart = absurd (fit_some begin mid fit)
runs_none ino begin mid other next end (piece ∷ pieces) [] fit fit' apart = absurd (fit_some next end fit')
runs_none ino begin mid other next end (piece ∷ pieces) (first ∷ more) fit fit' apart =
    some_runs_none ino begin mid other next end piece pieces first more fit fit' apart

some_last_none : (ino mid other next end : ℕ) (inode : InodeItem) (pieces : List Piece) (first : Piece)
    (more : List Piece)
    → FitTo mid pieces → FitAs next end (first ∷ more)
    → AreApart ino mid other next
    → AreOfNoFiles ((Inode ino inode ∷ map (PieceOf ino) pieces) ++ map (PieceOf other) (first ∷ more))
some_last_none ino mid other next end inode pieces first more fit fit' apart front behind ascends =
    elim (cases_eq ino other) [
      | inr differ ↦ other_none ino other (Inode ino inode) (map (PieceOf ino) pieces) first
          (map (PieceOf other) more) refl (of_one_file ino pieces) differ front behind ascends
      | inl equal ↦ false_from_ne_true
          (are_files (front
          ++ (((Inode ino inode ∷ map (PieceOf ino) pieces) ++ map (PieceOf other)
          (first ∷ more)) ++ behind))) (λ sound. broken equal sound)
    ] where
      broken : ino ≡ other
          → are_files (front ++ (((Inode ino inode ∷ map (PieceOf ino) pieces) ++ map (PieceOf other) (first ∷ more))
          ++ behind))
          ≡ true → ⊥
      broken equal sound =
          let fits =
          fitting other front (Inode ino inode ∷ map (PieceOf ino) pieces) first (map (PieceOf other) more) behind
          sound in
          let own : pieces_in other
          ((Inode ino inode ∷ map (PieceOf ino) pieces) ++ map (PieceOf other) (first ∷ more)) ≡ pieces
          ++ (first ∷ more) =
          own_too ino other pieces (first ∷ more) equal in
          let order =
          in_order_to mid next end fits.low fits.high pieces (first ∷ more) fit fit'
          (subst (λ (all : List Piece). are_pieces fits.low fits.high all ≡ true) own fits.fit) in
          omega (arith, order, apart equal)

pub last_none : (ino mid other next end : ℕ) (inode : InodeItem) (pieces more : List Piece) → FitTo mid pieces
    → FitAs next end more → AreApart ino mid other next
    → AreOfNoFiles ((Inode ino inode ∷ map (PieceOf ino) pieces) ++ map (PieceOf other) more)
last_none ino mid other next end inode pieces [] fit fit' apart = absurd (fit_some next end fit')
last_none ino mid other next end inode pieces (first ∷ more) fit fit' apart =
    some_last_none ino mid other next end inode pieces first more fit fit' apart
