-- How often a reference is there by the pieces of files.
use Rattle.std.proofs.Common.{◌≡◌, ℕ, ◌+◌, ◌*◌, ◌%◌, ◌<◌, ◌≤◌, true, false, List, [], ◌∷◌, ◌++◌, map, length, refl, sym}
use Rattle.std.proofs.Common.{ap, ◌∙◌, arith, inl, inr}
use Rattle.std.specs.Prelude.{◌⊎◌, ⊤, Bool, ◌==◌, ◌&&◌}
use Rattle.std.specs.List.{AllByRecursion, sum_by}
use Rattle.std.specs.List.Sorted.{IsPermutation}
use Rattle.std.proofs.lemmas.Bool.{cases_Bool, cases_eq, leb-true, ne_eqb}
use Rattle.std.proofs.lemmas.List.{map-append, length-map}
use Rattle.std.proofs.lemmas.List.Elements.{recursion_from_All}
use Rattle.std.proofs.lemmas.List.Sorted.{IsPermutation-map, sum_by-IsPermutation}
use Rattle.std.proofs.lemmas.List.Sums.{sum_by-cons}
use Rattle.qg_num.specs.declared.piece.Piece.{Piece}
use Rattle.qg_items.specs.declared.extent.Reference.{Reference}
use Rattle.qg_items.specs.declared.extent.Reference.TheVariants.{KeyedBlock, SharedBlock, KeyedData, SharedData}
use Rattle.qg_image.specs.declared.file.File.{File}
use Rattle.qg_image.specs.FilesOf.{are_pieces, piece_end}
use Rattle.qg_image.proofs.Pieces.{FirstPiece-are_pieces, WholeFile-is_file, WholePiece-is_piece}
use Rattle.qg_image.specs.Owed.{Owing}
use Rattle.qg_image.specs.Record.{same_reference}
use Rattle.qg_tree_items.proofs.Parts.{and-false}
use Rattle.qg_tree_items.specs.Writable.{AreWritableFiles, IsWritableFile}
use Rattle.qg_files.proofs.Ascending.{Ascends, Ascends-increasing, all_past}
use Rattle.qg_fs_tree.specs.Exchange.{times}
use Rattle.qg_fs_tree.proofs.TreeBackrefsOwings.{times-cons, times-few}
use Rattle.qg_fs_tree.proofs.Times.{one_of, times-append, times-nil}
use Rattle.qg_fs_tree.specs.Standing.{name_of, names_times}
use Rattle.qg_file_edits.specs.Named.{names_by, names_of}

-- ---- the pieces of a file

-- whole sectors, of which there are some
whole_sector : (len : ℕ) → len % 4096 ≡ 0 → 0 < len → 4096 ≤ len
whole_sector len whole some = omega (arith, whole, some)

-- each has a sector at least
pieces_long : (from size : ℕ) (pieces : List Piece) → are_pieces from size pieces ≡ true
    → from + 4096 * length pieces ≤ size
unfolding are_pieces
pieces_long from size [] are = let ends = leb-true from size are in omega (arith, ends)
pieces_long from size (piece ∷ pieces) are =
    let first = FirstPiece-are_pieces from size piece pieces are in
    let whole = WholePiece-is_piece piece first.is in
    let some = whole.some in
    let begins = first.begins in
    let sectors : 4096 ≤ piece.len = whole_sector piece.len whole.len some in
    let later : piece.position + piece.len + 4096 * length pieces ≤ size =
    pieces_long (piece_end piece) size pieces first.rest
    in
    omega (arith, sectors, later, begins)

pub pieces-few : (file : ℕ × File) → IsWritableFile file → length file.1.pieces ≤ 268435456
pieces-few file is =
    let whole = WholeFile-is_file file.1 is.sound in
    let long = pieces_long 0 file.1.size file.1.pieces whole.pieces in
    let least : file.1.size ≤ 1099511627776 = whole.least in
    omega (arith, long, least)

-- ---- one reference

one_most : (reference other : Reference) → one_of reference other ≤ 1
one_most reference other = elim (cases_Bool (same_reference reference other)) [
  | inl same ↦ rw same (omega arith)
  | inr differ ↦ rw differ (omega arith)
]

-- a reference is none by a piece of a file of a number
abbrev IsOther : ℕ → Reference → Type 0
IsOther ino (KeyedBlock root) = ⊤
IsOther ino (SharedBlock parent) = ⊤
IsOther ino (KeyedData root n offset) = n ≡ ino → ⊥
IsOther ino (SharedData parent) = ⊤

-- or it may be one
abbrev IsOwn : ℕ → Reference → Type 0
IsOwn ino (KeyedBlock root) = ⊥
IsOwn ino (SharedBlock parent) = ⊥
IsOwn ino (KeyedData root n offset) = n ≡ ino
IsOwn ino (SharedData parent) = ⊥

is_own_or_other : (ino : ℕ) (reference : Reference) → IsOwn ino reference ⊎ IsOther ino reference
is_own_or_other ino (KeyedBlock root) = inr tt
is_own_or_other ino (SharedBlock parent) = inr tt
is_own_or_other ino (KeyedData root n offset) = cases_eq n ino
is_own_or_other ino (SharedData parent) = inr tt

-- then it is none of a greater number
other_of : (n ino : ℕ) (reference : Reference) → IsOwn n reference → n < ino → IsOther ino reference
other_of n ino (KeyedBlock root) own more = absurd own
other_of n ino (SharedBlock parent) own more = absurd own
other_of n ino (KeyedData root m offset) own more = λ same. omega (arith, own, more, same)
other_of n ino (SharedData parent) own more = absurd own

none_of : (owner ino : ℕ) (piece : Piece) (reference : Reference) → IsOther ino reference
    → one_of reference (name_of owner (ino, piece)).reference ≡ 0
none_of owner ino piece (KeyedBlock root) other = refl
none_of owner ino piece (SharedBlock parent) other = refl
none_of owner ino piece (KeyedData root n offset) other =
    let differ : (n == ino) ≡ false = ne_eqb n ino other in
    let none : ((root == owner) && (n == ino)) ≡ false =
    ap (λ (b : Bool). (root == owner) && b) differ ∙ and-false (root == owner)
    in
    rw none refl
none_of owner ino piece (SharedData parent) other = refl

abbrev named_by : ℕ → Piece → ℕ × Piece
named_by ino piece = (ino, piece)

-- ---- names

module _ (owner at : ℕ) (reference : Reference) where
  abbrev count : List (ℕ × Piece) → ℕ
  count names = names_times owner names at reference

  pub names-add : (some others : List (ℕ × Piece)) → count (some ++ others) ≡ count some + count others
  names-add some others =
      ap (λ (owings : List Owing). times owings at reference) (map-append (name_of owner) some others)
      ∙ times-append (map (name_of owner) some) (map (name_of owner) others) at reference

  count_nil : count [] ≡ 0
  count_nil = times-nil at reference

  count_cons : (name : ℕ × Piece) (names : List (ℕ × Piece))
      → count (name ∷ names) ≡ times (name_of owner name ∷ []) at reference + count names
  count_cons name names = times-cons (name_of owner name) (map (name_of owner) names) at reference

  one_few : (owing : Owing) → times (owing ∷ []) at reference ≤ 1
  one_few owing =
      let few = times-few owing at reference in
      let most = one_most reference owing.reference in
      omega (arith, few, most)

  pub names-once : (names : List (ℕ × Piece)) → count names ≤ length names
  names-once [] = let none = count_nil in omega (arith, none)
  names-once (name ∷ names) =
      let later = names-once names in
      let both = count_cons name names in
      let one = one_few (name_of owner name) in
      omega (arith, later, both, one)

  -- in another order
  times_each : (owings : List Owing) → times owings at reference
      ≡ sum_by (λ owing. times (owing ∷ []) at reference) owings
  times_each [] = times-nil at reference
  times_each (owing ∷ owings) =
      times-cons owing owings at reference
      ∙ ap (λ (n : ℕ). times (owing ∷ []) at reference + n) (times_each owings)
      ∙ sym (sum_by-cons (λ (o : Owing). times (o ∷ []) at reference) owing owings)

  pub names-ordered : (some others : List (ℕ × Piece)) → IsPermutation some others → count others ≡ count some
  names-ordered some others same =
      times_each (map (name_of owner) others)
      ∙ sum_by-IsPermutation (λ (o : Owing). times (o ∷ []) at reference) (map (name_of owner) some)
      (map (name_of owner) others)
      (IsPermutation-map (name_of owner) some others same)
      ∙ sym (times_each (map (name_of owner) some))

  -- ---- of one file

  -- the names of other files do not count
  others_none : (ino : ℕ) (pieces : List Piece) → IsOther ino reference → count (names_of ino pieces) ≡ 0
  others_none ino [] other = count_nil
  others_none ino (piece ∷ pieces) other =
      let both = count_cons (ino, piece) (names_of ino pieces) in
      let later = others_none ino pieces other in
      let few = times-few (name_of owner (ino, piece)) at reference in
      let none = none_of owner ino piece reference other in
      omega (arith, both, later, few, none)

  all_none : (n : ℕ) (files : List (ℕ × File)) → ((ino : ℕ) → n < ino → IsOther ino reference)
      → AllByRecursion (λ file. n < file.0) files
      → count (names_by files) ≡ 0
  all_none n [] other past = count_nil
  all_none n (file ∷ files) other past =
      let both = names-add (names_of file.0 file.1.pieces) (names_by files) in
      let first = others_none file.0 file.1.pieces (other file.0 past.0) in
      let later = all_none n files other past.1 in
      omega (arith, both, first, later)

  few_from : (from : ℕ) (files : List (ℕ × File)) → Ascends from files → AllByRecursion IsWritableFile files
      → count (names_by files) ≤ 268435456
  unfolding Ascends
  few_from from [] ascends are = let none = count_nil in omega (arith, none)
  few_from from (file ∷ files) ascends are =
      let both = names-add (names_of file.0 file.1.pieces) (names_by files) in
      elim (is_own_or_other file.0 reference) [
        | inl own ↦
            let none =
            all_none file.0 files (λ ino more. other_of file.0 ino reference own more) (all_past file.0 files ascends.1)
            in
            let once = names-once (names_of file.0 file.1.pieces) in
            let long : length (names_of file.0 file.1.pieces) ≡ length file.1.pieces =
            length-map file.1.pieces (named_by file.0)
            in
            let few = pieces-few file are.0 in
            omega (arith, both, none, once, long, few)
        | inr other ↦
            let none = others_none file.0 file.1.pieces other in
            let later = few_from (file.0 + 1) files ascends.1 are.1 in
            omega (arith, both, none, later)
      ]

  pub names-few : (files : List (ℕ × File)) → AreWritableFiles files → count (names_by files) ≤ 268435456
  names-few files are =
      few_from 0 files (Ascends-increasing files are.ascending) (recursion_from_All IsWritableFile files are.each)
