-- The extents that files name are those that the nodes of their tree name.
use Rattle.std.proofs.Common.{◌≡◌, ℕ, Bool, true, false, List, [], ◌∷◌, ◌++◌, map, refl, sym, ap, subst, ◌∙◌, inl, inr}
use Rattle.std.specs.Prelude.{Option, Some, None, ◌==◌, is_some}
use Rattle.std.specs.Bool.{then_some}
use Rattle.std.specs.List.{Contains, cons_option, filter_map, flat_map, list_all}
use Rattle.std.specs.Option.{option_and_then}
use Rattle.std.proofs.lemmas.Bool.{and_parts, cases_eq, cond-false, eq-eqb, ne_eqb}
use Rattle.std.proofs.lemmas.List.{map-append}
use Rattle.std.proofs.lemmas.List.Elements.{All-contains, filter_map-append}
use Rattle.std.proofs.lemmas.List.Sums.{AllPass-from_list_all}
use Rattle.qg_num.specs.declared.piece.Piece.{Piece}
use Rattle.qg_node.specs.declared.item.Item.{Item}
use Rattle.qg_node.specs.declared.node.Node.{Node}
use Rattle.qg_node.specs.Nodes.{own_items}
use Rattle.qg_items.specs.declared.file.InodeItem.{InodeItem}
use Rattle.qg_image.specs.declared.file.File.{File}
use Rattle.qg_image.specs.declared.part.FilePart.{FilePart}
use Rattle.qg_image.specs.declared.part.FilePart.TheVariants.{Inode, PieceOf}
use Rattle.qg_image.specs.FilesOf.{are_files, file_in, files_in, inodes_in, is_inode, is_owned, piece_in}
use Rattle.qg_image.specs.ItemMeaning.{file_part}
use Rattle.qg_image.specs.Table.{has_key, value_at}
use Rattle.qg_image.specs.declared.element.Element.{Element}
use Rattle.qg_image.specs.Reach.{extent_of, piece_of_part, pieces_of}
use Rattle.qg_image.proofs.Contained.{none_contained, contains_here, contains_later, contains_cases}
use Rattle.qg_image.specs.Verdict.{extent_set}
use Rattle.qg_reach.specs.Sets.{HaveSame}
use Rattle.qg_reach.proofs.Members.{contains_map, one_mapped, contains_flat_map, one_flat_mapped, same_on}
use Rattle.qg_reach.proofs.ExtentSets.{extent_set_same}
use Rattle.qg_reach.proofs.Reached.{extents_named}

-- ---- what is given for elements, where something is

-- an element for which this is given
abbrev IsGiven : {X Y : Type 0} → (X → Option Y) → List X → Y → Type 0
IsGiven {X} h xs y = (x : X) × Contains xs x × (h x ≡ Some y)

given_later : {Y : Type 0} (first : Option Y) (ys : List Y) (y : Y) → Contains ys y → Contains (cons_option first ys) y
given_later None ys y has = has
given_later (Some z) ys y has = contains_later z ys y has

pub contains_given : {X Y : Type 0} (h : X → Option Y) (xs : List X) (x : X) (y : Y) → Contains xs x → h x ≡ Some y
    → Contains (filter_map h xs) y
contains_given h [] x y has is = absurd (none_contained x has)
contains_given h (z ∷ zs) x y has is = elim (contains_cases z zs x has) [
  | inl same ↦ subst (λ first. Contains (cons_option first (filter_map h zs)) y) (sym (ap h same ∙ is))
      (contains_here y (filter_map h zs))
  | inr later ↦ given_later (h z) (filter_map h zs) y (contains_given h zs x y later is)
]

given_cases : {X Y : Type 0} (h : X → Option Y) (z : X) (zs : List X) (first : Option Y) (ys : List Y) (y : Y)
    → h z ≡ first → (Contains ys y → IsGiven h zs y)
    → Contains (cons_option first ys) y → IsGiven h (z ∷ zs) y
given_cases h z zs None ys y is behind has = let given = behind has in
    (given.0, contains_later z zs given.0 given.1, given.2)
given_cases h z zs (Some first) ys y is behind has = elim (contains_cases first ys y has) [
  | inl same ↦ (z, contains_here z zs, is ∙ ap Some same)
  | inr later ↦ let given = behind later in (given.0, contains_later z zs given.0 given.1, given.2)
]

pub one_given : {X Y : Type 0} (h : X → Option Y) (xs : List X) (y : Y) → Contains (filter_map h xs) y → IsGiven h xs y
one_given h [] y has = absurd (none_contained y has)
one_given h (z ∷ zs) y has = given_cases h z zs (h z) (filter_map h zs) y refl (one_given h zs y) has

one_keyed : {A : Type 0} (n : ℕ) (entries : List (ℕ × A)) → has_key n entries ≡ true
    → (entry : ℕ × A) × Contains entries entry × (entry.0 ≡ n)
one_keyed n [] has = absurd cc
one_keyed n (entry ∷ entries) has = elim (cases_eq entry.0 n) [
  | inl is ↦ (entry, contains_here entry entries, is)
  | inr differ ↦
      let past = cond-false (entry.0 == n) (Some entry.1) (value_at n entries) (ne_eqb entry.0 n differ) in
      let found = one_keyed n entries (sym (ap is_some past) ∙ has) in
      (found.0, contains_later entry entries found.0 found.1, found.2)
]

-- ---- pieces by items and by parts

abbrev item_piece : Item → Option Piece
item_piece item = option_and_then piece_of_part (file_part item)

named_by_items : (nodes : List Node)
    → flat_map extents_named nodes ≡ map extent_of (filter_map item_piece (flat_map own_items nodes))
unfolding pieces_of
named_by_items [] = refl
named_by_items (node ∷ nodes) =
    let front = filter_map item_piece (own_items node) in
    let back = filter_map item_piece (flat_map own_items nodes) in
    ap (λ rest. map extent_of front ++ rest) (named_by_items nodes)
    ∙ sym (map-append extent_of front back)
    ∙ ap (map extent_of) (sym (filter_map-append item_piece (own_items node) (flat_map own_items nodes)))

pieces_by_parts : (items : List Item) (parts : List FilePart) → map file_part items ≡ map (λ part. Some part) parts
    → filter_map item_piece items ≡ filter_map piece_of_part parts
pieces_by_parts [] [] said = refl
pieces_by_parts [] (part ∷ parts) said = absurd cc
pieces_by_parts (item ∷ items) [] said = absurd cc
pieces_by_parts (item ∷ items) (part ∷ parts) said =
    let first : file_part item ≡ Some part = cc in
    let rest : map file_part items ≡ map (λ part. Some part) parts = cc in
    ap (λ told. cons_option (option_and_then piece_of_part told) (filter_map item_piece items)) first
    ∙ ap (cons_option (piece_of_part part)) (pieces_by_parts items parts rest)

-- ---- pieces by files

told_of_file : (ino : ℕ) (part : FilePart) (piece : Piece) → piece_in ino part ≡ Some piece
    → piece_of_part part ≡ Some piece
told_of_file ino (Inode other inode) piece is = absurd cc
told_of_file ino (PieceOf other own) piece is = passed (other == ino) is where
  passed : (test : Bool) → then_some test own ≡ Some piece → Some own ≡ Some piece
  passed true is' = is'
  passed false none = absurd cc

-- a file that has the piece
abbrev HasFile : List FilePart → Piece → Type 0
HasFile parts piece = (file : ℕ × File) × Contains (files_in parts) file × Contains file.1.pieces piece

has_file : (parts : List FilePart) (part : FilePart) (piece : Piece) → list_all (is_owned parts) parts ≡ true
    → Contains parts part → piece_of_part part ≡ Some piece → HasFile parts piece
has_file parts (Inode ino inode) piece owned has is = absurd cc
has_file parts (PieceOf ino own) piece owned has is =
    let its = All-contains (λ part. is_owned parts part ≡ true) parts (PieceOf ino own)
    (AllPass-from_list_all (is_owned parts) parts owned) has in
    let owner = one_keyed ino (inodes_in parts) its in
    let entry = owner.0 in
    let given : piece_in entry.0 (PieceOf ino own) ≡ Some piece =
    ap (λ test. then_some test own) (eq-eqb ino entry.0 (sym owner.2)) ∙ is in (
      (entry.0, file_in parts entry),
      contains_map (λ entry. (entry.0, file_in parts entry))
          (inodes_in parts) entry owner.1,
      contains_given (piece_in entry.0) parts (PieceOf ino own) piece has given,
    )

-- the extents that files name
abbrev extents_of_files : List (ℕ × File) → List Element
extents_of_files files = flat_map (λ file. map extent_of file.1.pieces) files

named_by_files : (parts : List FilePart) → are_files parts ≡ true
    → HaveSame (extents_of_files (files_in parts)) (map extent_of (filter_map piece_of_part parts))
unfolding are_files
named_by_files parts are = record { into = into; back = back } where
  into : (extent : Element) → Contains (extents_of_files (files_in parts)) extent
      → Contains (map extent_of (filter_map piece_of_part parts)) extent
  into extent has =
      let file = one_flat_mapped (λ (file : ℕ × File). map extent_of file.1.pieces) (files_in parts) extent has in
      let entry = one_mapped (λ (entry : ℕ × InodeItem). (entry.0, file_in parts entry))
      (inodes_in parts) file.0 file.1 in
      let piece = one_mapped extent_of file.0.1.pieces extent file.2 in
      let own = subst (λ (f : ℕ × File). Contains f.1.pieces piece.0) (sym entry.2) piece.1 in
      let part = one_given (piece_in entry.0.0) parts piece.0 own in
      subst (λ e. Contains (map extent_of (filter_map piece_of_part parts)) e) piece.2
      (contains_map extent_of (filter_map piece_of_part parts) piece.0
      (contains_given piece_of_part parts part.0 piece.0 part.1 (told_of_file entry.0.0 part.0 piece.0 part.2)))

  back : (extent : Element) → Contains (map extent_of (filter_map piece_of_part parts)) extent
      → Contains (extents_of_files (files_in parts)) extent
  back extent has =
      let piece = one_mapped extent_of (filter_map piece_of_part parts) extent has in
      let part = one_given piece_of_part parts piece.0 piece.1 in
      let owned = (and_parts (list_all (is_owned parts) parts) (list_all (is_inode parts) (inodes_in parts)) are).0 in
      let file = has_file parts part.0 piece.0 owned part.1 part.2 in
      contains_flat_map (λ (file : ℕ × File). map extent_of file.1.pieces) (files_in parts) file.0 extent file.1
      (subst (λ e. Contains (map extent_of file.0.1.pieces) e) piece.2
      (contains_map extent_of file.0.1.pieces piece.0 file.2))

-- the pieces of the files name the extents that the nodes name
pub pieces_same : (nodes : List Node) (items : List Item) (parts : List FilePart) (files : List (ℕ × File))
    → items ≡ flat_map own_items nodes
    → map file_part items ≡ map (λ part. Some part) parts → are_files parts ≡ true → files ≡ files_in parts
    → HaveSame (flat_map (λ file. map extent_of file.1.pieces) files) (flat_map extents_named nodes)
pieces_same nodes items parts files own said are told =
    let named : flat_map extents_named nodes ≡ map extent_of (filter_map piece_of_part parts) =
    named_by_items nodes ∙ ap (λ list. map extent_of (filter_map item_piece list)) (sym own)
    ∙ ap (map extent_of) (pieces_by_parts items parts said) in
    subst (λ list. HaveSame (extents_of_files list) (flat_map extents_named nodes)) (sym told)
    (subst (HaveSame (extents_of_files (files_in parts))) (sym named) (named_by_files parts are))

-- so does the set of them
pub extents_told : (nodes : List Node) (items : List Item) (parts : List FilePart) (files : List (ℕ × File))
    (extents : List Element) → items ≡ flat_map own_items nodes
    → map file_part items ≡ map (λ part. Some part) parts → are_files parts ≡ true → files ≡ files_in parts
    → extents ≡ extent_set (flat_map (λ file. map extent_of file.1.pieces) files)
    → HaveSame extents (flat_map extents_named nodes)
extents_told nodes items parts files extents own said are told set =
    let named = extents_of_files files in
    same_on extents named (flat_map extents_named nodes)
    (subst (λ list. HaveSame list named) (sym set) (extent_set_same named))
    (pieces_same nodes items parts files own said are told)
