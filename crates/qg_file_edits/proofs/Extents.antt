-- Which extents the pieces of files name.
use Rattle.std.proofs.Common.{◌≡◌, ℕ, List, ◌++◌, map, Option, Some, None, refl, sym, subst}
use Rattle.std.specs.Prelude.{Contains}
use Rattle.std.specs.List.{All}
use Rattle.std.proofs.lemmas.List.{append_assoc}
use Rattle.std.proofs.lemmas.List.Elements.{All-contains_itself, All-nil, All-weaker, Contains-append_left}
use Rattle.std.proofs.lemmas.List.Elements.{Contains-append_right}
use Rattle.qg_num.specs.declared.piece.Piece.{Piece}
use Rattle.qg_image.specs.declared.file.File.{File}
use Rattle.qg_image.specs.Table.{value_at}
use Rattle.qg_machine.specs.FileChange.{pieces_or_none}
use Rattle.qg_reach.proofs.Members.{contains_flat_map, contains_map}
use Rattle.qg_image.specs.declared.element.Element.{Element}
use Rattle.qg_image.specs.Reach.{extent_of}
use Rattle.qg_shared_trees.proofs.Lists.{from-mapped, has-mapped}
use Rattle.qg_file_edits.specs.Named.{names_by, names_of}
use Rattle.qg_file_edits.specs.Files.{pieces_of}
use Rattle.qg_file_edits.proofs.Files.{file-found}

-- a piece names an extent that some names lead to
abbrev pub IsOfNamed : List (ℕ × Piece) → Piece → Type 0
IsOfNamed names piece = Contains (map (λ name. extent_of name.1) names) (extent_of piece)

-- names lead to what those lead to that are among them
pub named-among : (some others : List (ℕ × Piece)) → ((name : ℕ × Piece) → Contains some name → Contains others name)
    → (piece : Piece) → IsOfNamed some piece → IsOfNamed others piece
named-among some others among piece known =
    let extent : ℕ × Piece → Element = λ name. extent_of name.1 in
    let found = from-mapped extent some (extent_of piece) known in
    subst (λ (e : Element). Contains (map extent others) e) found.2
    (has-mapped extent others found.0 (among found.0 found.1))

-- some besides, behind them
pub named-besides : (names elsewhere : List (ℕ × Piece)) (pieces : List Piece) → All (IsOfNamed names) pieces
    → All (IsOfNamed (names ++ elsewhere)) pieces
named-besides names elsewhere pieces known =
    All-weaker (IsOfNamed names) (IsOfNamed (names ++ elsewhere))
    (named-among names (names ++ elsewhere) (Contains-append_left names elsewhere)) pieces known

-- or before them
pub named-more : (some names elsewhere : List (ℕ × Piece)) (piece : Piece) → IsOfNamed (names ++ elsewhere) piece
    → IsOfNamed ((some ++ names) ++ elsewhere) piece
named-more some names elsewhere =
    named-among (names ++ elsewhere) ((some ++ names) ++ elsewhere)
    (λ name has. subst (λ (xs : List (ℕ × Piece)). Contains xs name) (sym (append_assoc some names elsewhere))
    (Contains-append_right some (names ++ elsewhere) name has))

-- the pieces of one file do so by the names of all files
pub pieces-named : (ino : ℕ) (files : List (ℕ × File)) → All (IsOfNamed (names_by files)) (pieces_of ino files)
pieces-named ino files = cases (value_at ino files) refl where
  cases : (found : Option File) → value_at ino files ≡ found → All (IsOfNamed (names_by files)) (pieces_or_none found)
  cases None none = All-nil (IsOfNamed (names_by files))
  cases (Some file) there =
      let names = λ (entry : ℕ × File). names_of entry.0 entry.1.pieces in
      let name : Piece → ℕ × Piece = λ piece. (ino, piece) in
      let has = file-found (Contains files) ino file files there (All-contains_itself files) in
      All-weaker (Contains file.pieces) (IsOfNamed (names_by files))
      (λ piece own.
      contains_map (λ (n : ℕ × Piece). extent_of n.1) (names_by files) (ino, piece)
      (contains_flat_map names files (ino, file) (ino, piece) has (contains_map name file.pieces piece own)))
      file.pieces (All-contains_itself file.pieces)
