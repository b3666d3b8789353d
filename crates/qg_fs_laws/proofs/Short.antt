-- Extents that files name are no longer than the longest: by the rule `space`, and after each file command.
use Rattle.std.proofs.Common.{◌≡◌, ℕ, ◌+◌, ◌-◌, ◌≤◌, Bool, true, false, List, [], ◌∷◌, ◌++◌, map, get_or}
use Rattle.std.proofs.Common.{Option, Some, None, refl, sym, subst, ◌⊎◌, inl, inr}
use Rattle.std.specs.Prelude.{◌==◌, not, min, max, nat_le, nat_lt}
use Rattle.std.specs.Bool.{then_some}
use Rattle.std.specs.List.{All, Contains}
use Rattle.std.proofs.lemmas.Bool.{and_parts, cases_Bool, cond-false, cond-true, leb-true}
use Rattle.std.proofs.lemmas.List.Elements.{All-contains, Contains-append_cases, Contains-get_or}
use Rattle.qg_num.specs.declared.piece.Piece.{Piece}
use Rattle.qg_super.specs.declared.sizes.Sizes.{Sizes}
use Rattle.qg_super.specs.Places.{is_run}
use Rattle.qg_image.specs.declared.file.File.{File}
use Rattle.qg_image.specs.FilesOf.{piece_end}
use Rattle.qg_image.specs.Table.{value_at, with_value, without_key}
use Rattle.qg_image.specs.declared.element.Element.{Element}
use Rattle.qg_image.specs.Reach.{extent_of}
use Rattle.qg_image.specs.Space.{present_extents}
use Rattle.qg_image.specs.State.{State, Subvolume}
use Rattle.qg_image.proofs.Contained.{contains_cases, contains_here, contains_later, none_contained}
use Rattle.qg_image.specs.Verdict.{extent_set, is_extent, longest_extent, space_failure}
use Rattle.qg_machine.specs.FileChange.{after, before, file_or_new, moved, new_piece, part_after, part_before}
use Rattle.qg_machine.specs.FileChange.{pieces_or_none, with_pieces, with_range, with_size, within}
use Rattle.qg_owner_rule.proofs.Reaching.{entry_of_value}
use Rattle.qg_reach.specs.Fits.{first_fits}
use Rattle.qg_reach.proofs.ExtentSets.{extent_set_same}
use Rattle.qg_reach.proofs.SpaceRule.{Keeps-space}
use Rattle.qg_space.proofs.Members.{filter_contains}
use Rattle.qg_file_edits.proofs.Lists.{from-mapped, from-some, has-flat, has-mapped}
use Rattle.qg_file_edits.proofs.SharedTreesExtents.{in-present}
use Rattle.qg_file_edits.specs.Changes.{files_cut, files_with}
use Rattle.qg_fs_laws.specs.Committing.{AreShort, AreShortPieces, IsShort, LeavesShort}

-- ---- pieces

abbrev IsShortPiece : Piece → Type 0
IsShortPiece piece = piece.extent_bytes ≤ longest_extent

abbrev Short : List Piece → Type 0
Short pieces = (piece : Piece) → Contains pieces piece → IsShortPiece piece

all_of : {A : Type 0} (P : A → Type 0) (xs : List A) → ((x : A) → Contains xs x → P x) → All P xs
all_of P xs each = λ k d below. each (get_or xs k d) (Contains-get_or xs k d below)

-- a part of a piece names the same extent
part_short : (test : Bool) (part piece : Piece) → then_some test part ≡ Some piece → IsShortPiece part
    → IsShortPiece piece
part_short true part piece is short =
    let same : part ≡ piece = let e : Some part ≡ Some piece = is in cc in
    subst (λ (p : Piece). IsShortPiece p) same short
part_short false part piece is short = let wrong : None ≡ Some piece = is in absurd cc

before_short : (to : ℕ) (pieces : List Piece) → Short pieces → Short (before to pieces)
unfolding before
before_short to pieces short piece has =
    let found = from-some (part_before to) pieces piece has in
    part_short (nat_lt found.0.position to) (record found.0 { len = min found.0.len (to - found.0.position) }) piece
    found.2 (short found.0 found.1)

after_short : (from : ℕ) (pieces : List Piece) → Short pieces → Short (after from pieces)
unfolding after
after_short from pieces short piece has =
    let found = from-some (part_after from) pieces piece has in
    part_short (nat_lt from (piece_end found.0)) (record found.0 {
      position = max from found.0.position;
      len = piece_end found.0 - max from found.0.position;
      offset = found.0.offset + (max from found.0.position - found.0.position);
    }) piece found.2 (short found.0 found.1)

range_short : (from to : ℕ) (given pieces : List Piece) → Short given → Short pieces
    → Short (with_range from to given pieces)
range_short from to given pieces short_given short piece has =
    elim (Contains-append_cases (before from pieces ++ given) (after to pieces) piece has) [
      | inl front ↦ elim (Contains-append_cases (before from pieces) given piece front) [
        | inl first ↦ before_short from pieces short piece first
        | inr middle ↦ short_given piece middle
      ]
      | inr last ↦ after_short to pieces short piece last
    ]

moved_short : (from to : ℕ) (pieces : List Piece) → Short pieces → Short (map (moved from to) pieces)
moved_short from to pieces short piece has =
    let found = from-mapped (moved from to) pieces piece has in
    subst (λ (p : Piece). IsShortPiece p) found.2 (short found.0 found.1)

one_short : (piece : Piece) → IsShortPiece piece → Short (piece ∷ [])
one_short piece short other has = elim (contains_cases piece [] other has) [
  | inl same ↦ subst (λ (p : Piece). IsShortPiece p) same short
  | inr none ↦ absurd (none_contained other none)
]

pieces_short : (pieces : List Piece) → AreShortPieces pieces → Short pieces
pieces_short pieces short piece has = All-contains (λ (p : Piece). IsShortPiece p) pieces piece short has

-- ---- files

-- of each file
abbrev Each : List (ℕ × File) → Type 0
Each files = (file : ℕ × File) → Contains files file → Short file.1.pieces

each_of : (files : List (ℕ × File)) → AreShort files → Each files
each_of files short file has piece there =
    All-contains (λ (p : Piece). IsShortPiece p) file.1.pieces piece
    (All-contains (λ (f : ℕ × File). All (λ p. IsShortPiece p) f.1.pieces) files file short has) there

short_of : (files : List (ℕ × File)) → Each files → AreShort files
short_of files each = all_of (λ (f : ℕ × File). All (λ p. IsShortPiece p) f.1.pieces) files
    (λ file has. all_of (λ (p : Piece). IsShortPiece p) file.1.pieces (each file has))

found_short : (files : List (ℕ × File)) → Each files → (ino : ℕ) (o : Option File) → value_at ino files ≡ o
    → Short (pieces_or_none o)
found_short files each ino None is piece has = absurd (none_contained piece has)
found_short files each ino (Some file) is piece has = each (ino, file) (entry_of_value ino file files is) piece has

put_into : (ino : ℕ) (file : File) (files : List (ℕ × File)) (one : ℕ × File) → Contains (with_value ino file files) one
    → ((ino, file) ≡ one) ⊎ Contains files one
put_into ino file [] one has = contains_cases (ino, file) [] one has
put_into ino file (first ∷ later) one has = elim (cases_Bool (nat_lt ino first.0)) [
  | inl less ↦ contains_cases (ino, file) (first ∷ later) one
      (subst (λ (table : List (ℕ × File)). Contains table one) (cond-true _ _ _ less) has)
  | inr more ↦
      let rest = subst (λ (table : List (ℕ × File)). Contains table one) (cond-false _ _ _ more) has in
      elim (cases_Bool (first.0 == ino)) [
        | inl same ↦
            elim (contains_cases (ino, file) later one
            (subst (λ (table : List (ℕ × File)). Contains table one) (cond-true _ _ _ same) rest)) [
              | inl own ↦ inl own
              | inr other ↦ inr (contains_later first later one other)
            ]
        | inr differ ↦
            elim (contains_cases first (with_value ino file later) one
            (subst (λ (table : List (ℕ × File)). Contains table one) (cond-false _ _ _ differ) rest)) [
              | inl here ↦ inr (subst (λ (e : ℕ × File). Contains (first ∷ later) e) here (contains_here first later))
              | inr behind ↦ elim (put_into ino file later one behind) [
                | inl own ↦ inl own
                | inr other ↦ inr (contains_later first later one other)
              ]
            ]
      ]
]

put_short : (ino : ℕ) (file : File) (files : List (ℕ × File)) → Short file.pieces → Each files
    → Each (with_value ino file files)
put_short ino file files short each one has = elim (put_into ino file files one has) [
  | inl own ↦ subst (λ (e : ℕ × File). Short e.1.pieces) own short
  | inr other ↦ each one other
]

-- the pieces of a file, or of one that is made
pieces_same : (generation : ℕ) (o : Option File) → (file_or_new generation o).pieces ≡ pieces_or_none o
pieces_same generation None = refl
pieces_same generation (Some file) = refl

with_short : (generation ino from to : ℕ) (given : List Piece) (files : List (ℕ × File)) → Short given → Each files
    → AreShort (files_with generation ino from to given files)
with_short generation ino from to given files short_given each =
    let file = file_or_new generation (value_at ino files) in
    let short : Short file.pieces = subst (λ (pieces : List Piece). Short pieces)
    (sym (pieces_same generation (value_at ino files))) (found_short files each ino (value_at ino files) refl) in
    short_of (files_with generation ino from to given files)
    (put_short ino (with_pieces generation from to given file) files
    (range_short from to given file.pieces short_given short) each)

pub short-left : (generation : ℕ) (files : List (ℕ × File)) → AreShort files → LeavesShort generation files
short-left generation files short =
    let each = each_of files short in
    record {
      written = λ ino off len extent few.
          with_short generation ino off (off + len) (new_piece generation off len extent ∷ []) files
          (one_short (new_piece generation off len extent) few) each;
      cloned = λ pieces from len ino off given.
          with_short generation ino off (off + len) (map (moved from off) (within from (from + len) pieces)) files
          (moved_short from off (within from (from + len) pieces)
          (before_short (from + len) (after from pieces) (after_short from pieces (pieces_short pieces given)))) each;
      cut = λ ino size file is.
          short_of (files_cut generation ino size file files)
          (put_short ino (with_size generation size file) files
          (before_short size file.pieces (each (ino, file) (entry_of_value ino file files is))) each);
      unlinked = λ ino.
          short_of (without_key ino files)
          (λ file has. each file (filter_contains (λ (entry : ℕ × File). not (entry.0 == ino)) files file has).0);
    }

-- ---- by the rule

first_is : (sizes : Sizes) (x : Element) (later : List Element) → first_fits sizes (x ∷ later) ≡ true
    → is_extent sizes x ≡ true
first_is sizes x [] fits = fits
first_is sizes x (next ∷ later) fits =
    (and_parts (is_extent sizes x) (nat_le (x.address + x.bytes) next.address) fits).0

each_fits : (sizes : Sizes) (extents : List Element) → space_failure sizes extents ≡ None → (x : Element)
    → Contains extents x → is_extent sizes x ≡ true
each_fits sizes [] none x has = absurd (none_contained x has)
each_fits sizes (first ∷ later) none x has =
    let keeps = Keeps-space sizes first later none in
    elim (contains_cases first later x has) [
      | inl same ↦ subst (λ (e : Element). is_extent sizes e ≡ true) same (first_is sizes first later keeps.fits)
      | inr behind ↦ each_fits sizes later keeps.rest x behind
    ]

pub spaced-short : (sizes : Sizes) (state : State) → space_failure sizes (extent_set (present_extents state)) ≡ None
    → IsShort state
spaced-short sizes state none =
    all_of (λ (entry : ℕ × Subvolume). AreShort entry.1.files) state.subvolumes
    (λ entry among. short_of entry.1.files (own entry among)) where
      own : (entry : ℕ × Subvolume) → Contains state.subvolumes entry → Each entry.1.files
      own entry among file has piece there =
          let extent = has-mapped extent_of file.1.pieces piece there in
          let listed = has-flat (λ (f : ℕ × File). map extent_of f.1.pieces) entry.1.files file (extent_of piece) has
          extent in
          let present = in-present state (extent_of piece) entry among listed in
          let fits = each_fits sizes (extent_set (present_extents state)) none (extent_of piece)
          ((extent_set_same (present_extents state)).back (extent_of piece) present) in
          leb-true piece.extent_bytes longest_extent
          (and_parts (is_run sizes piece.extent piece.extent_bytes) (nat_le piece.extent_bytes longest_extent) fits).1
