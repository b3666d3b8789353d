-- Why a command may be refused before the free slots are counted, told by what is kept. Positions and sizes are in
-- bytes.
use Rattle.std.proofs.Common.{◌≡◌, ℕ, ◌+◌, ◌<◌, ◌≤◌, Bool, true, false, List, [], ◌∷◌, None, Some, Option, refl, sym}
use Rattle.std.proofs.Common.{ap, ◌∙◌}
use Rattle.std.specs.Prelude.{◌==◌, ◌&&◌, is_none, is_some, nat_le, nat_lt, not}
use Rattle.std.specs.Option.{option_map}
use Rattle.std.proofs.lemmas.Bool.{le-leb, lt-leb, true≢false}
use Rattle.qg_device.specs.History.{History}
use Rattle.qg_num.specs.declared.refusal.Refusal.{Refusal}
use Rattle.qg_num.specs.declared.refusal.Refusal.TheVariants as why
use Rattle.qg_items.specs.declared.file.InodeItem.{InodeItem}
use Rattle.qg_image.specs.declared.file.File.{File}
use Rattle.qg_image.specs.FilesOf.{is_aligned}
use Rattle.qg_image.specs.ItemMeaning.{first_some, some_passes}
use Rattle.qg_image.specs.Table.{has_key, value_at}
use Rattle.qg_image.specs.State.{State, has_subvolume}
use Rattle.qg_image.specs.Verdict.{longest_extent}
use Rattle.qg_root_items.specs.Written.{inode_of}
use Rattle.qg_machine.specs.Refusals.{most_pending, no_align, no_far, no_file, no_source, no_sub, refuse, share_a_byte}
use Rattle.qg_machine.specs.Refusals.{too_many_pending}
use Rattle.qg_open_image.specs.declared.open_image.OpenImage.{OpenImage}
use Rattle.qg_open_image.specs.Editing.{clone_refusal, range_refusal, size_refusal, unlink_refusal}
use Rattle.qg_open_image.specs.Keeping.{IsKeptOf}
use Rattle.qg_open_image.proofs.Known.{file-missing, hand-there, many-pending, no-other, source-short, sub-there}

-- ---- the INODE_ITEM that is told of a file

pub none-there : (told : Option File) → None ≡ option_map inode_of told → told ≡ None
none-there None is = refl
none-there (Some file) is = absurd cc

-- a file with this INODE_ITEM is there
pub record IsThere (told : Option File) (inode : InodeItem) : Type 0 where
  pub file : File
  pub is : told ≡ Some file
  pub size : inode.size ≡ file.size

pub some-there : (told : Option File) (inode : InodeItem) → Some inode ≡ option_map inode_of told → IsThere told inode
some-there None inode is = absurd cc
some-there (Some file) inode is = record {
  file = file;
  is = refl;
  size = let same : inode ≡ inode_of file = cc in ap (λ (i : InodeItem). i.size) same;
}

-- of a file that is there
pub record HasFile (told : Option File) : Type 0 where
  pub file : File
  pub is : told ≡ Some file

pub none-told : (told : Option File) (inode : Option InodeItem) → inode ≡ option_map inode_of told
    → is_some inode ≡ false → told ≡ None
none-told None inode is none = refl
none-told (Some file) inode is none =
    absurd (true≢false (sym (ap (λ (o : Option InodeItem). is_some o) is) ∙ none))

pub file-told : (told : Option File) (inode : Option InodeItem) → inode ≡ option_map inode_of told
    → is_some inode ≡ true → HasFile told
file-told None inode is some = absurd (true≢false (sym some ∙ ap (λ (o : Option InodeItem). is_some o) is))
file-told (Some file) inode is some = record { file = file; is = refl }

-- the first refusal is the same, whether the subvolume is there or not
first-same : (there : Bool) (later : List (Option Refusal)) → first_some later ≡ Some why.NoSub
    → first_some (refuse (not there) why.NoSub ∷ later) ≡ Some why.NoSub
first-same true later is = is
first-same false later is = refl

module _ (kept : OpenImage) (state : State) (history : History) (keeps : IsKeptOf kept state history) where
  abbrev pub many : Option Refusal
  many = refuse (nat_le most_pending kept.pending) why.TooMany

  -- ---- a subvolume that isn't there

  pub other-range : (sub off len : ℕ) → has_key sub kept.snapshots ≡ false
      → range_refusal state sub off len ≡ Some why.NoSub
  other-range sub off len other =
      ap (λ (first : Option Refusal). first_some (first ∷ no_align (off ∷ []) len ∷ no_far ((off + len) ∷ [])
      ∷ refuse (nat_lt longest_extent len) why.Far ∷ too_many_pending state ∷ []))
      (no-other kept state history keeps sub other)

  pub other-size : (sub ino size : ℕ) → has_key sub kept.snapshots ≡ false
      → size_refusal state sub ino size ≡ Some why.NoSub
  other-size sub ino size other =
      ap (λ (first : Option Refusal).
      first_some (first ∷ no_file state sub ino ∷ refuse (not (is_aligned size)) why.Align
      ∷ no_far (size ∷ []) ∷ too_many_pending state ∷ [])) (no-other kept state history keeps sub other)

  pub other-unlink : (sub ino : ℕ) → has_key sub kept.snapshots ≡ false → unlink_refusal state sub ino ≡ Some why.NoSub
  other-unlink sub ino other =
      ap (λ (first : Option Refusal). first_some (first ∷ no_file state sub ino ∷ too_many_pending state ∷ []))
      (no-other kept state history keeps sub other)

  module _ (ino off len to_sub to_ino to_off : ℕ) where
    abbrev late_clone : ℕ → List (Option Refusal)
    late_clone sub =
        no_file state sub ino ∷ no_align (off ∷ to_off ∷ []) len ∷ no_far ((off + len) ∷ (to_off + len) ∷ [])
        ∷ no_source state sub ino (off + len)
        ∷ refuse ((sub == to_sub) && (ino == to_ino) && share_a_byte off to_off len) why.Overlap
        ∷ too_many_pending state ∷ []

    pub other-clone : (sub : ℕ) → has_key sub kept.snapshots ≡ false
        → clone_refusal state sub ino off len to_sub to_ino to_off ≡ Some why.NoSub
    other-clone sub other =
        ap (λ (first : Option Refusal). first_some (first ∷ no_sub state to_sub ∷ late_clone sub))
        (no-other kept state history keeps sub other)

    pub other-target : (sub : ℕ) → has_key to_sub kept.snapshots ≡ false
        → clone_refusal state sub ino off len to_sub to_ino to_off ≡ Some why.NoSub
    other-target sub other =
        first-same (has_subvolume state sub) (no_sub state to_sub ∷ late_clone sub)
        (ap (λ (second : Option Refusal). first_some (second ∷ late_clone sub))
        (no-other kept state history keeps to_sub other))

  -- ---- the subvolume at hand

  pub hand-range : (off len : ℕ) → range_refusal state kept.fs.tree.owner off len
      ≡ first_some (no_align (off ∷ []) len ∷ no_far ((off + len) ∷ []) ∷ refuse (nat_lt longest_extent len) why.Far
      ∷ many ∷ [])
  hand-range off len = λ i. first_some (hand-there kept state history keeps i ∷ no_align (off ∷ []) len
      ∷ no_far ((off + len) ∷ []) ∷ refuse (nat_lt longest_extent len) why.Far ∷ many-pending kept state history keeps i
      ∷ [])

  -- of the subvolume of this number
  pub range-told : (sub off len : ℕ) → kept.fs.tree.owner ≡ sub → range_refusal state sub off len
      ≡ first_some (no_align (off ∷ []) len ∷ no_far ((off + len) ∷ []) ∷ refuse (nat_lt longest_extent len) why.Far
      ∷ many ∷ [])
  range-told sub off len hand =
      ap (λ (n : ℕ). range_refusal state n off len) (sym hand) ∙ hand-range off len

  pub hand-size : (ino size : ℕ) → size_refusal state kept.fs.tree.owner ino size
      ≡ first_some (refuse (is_none (value_at ino keeps.files)) why.NoFile ∷ refuse (not (is_aligned size)) why.Align
      ∷ no_far (size ∷ []) ∷ many ∷ [])
  hand-size ino size = λ i. first_some (hand-there kept state history keeps i
      ∷ file-missing kept state history keeps ino i ∷ refuse (not (is_aligned size)) why.Align ∷ no_far (size ∷ [])
      ∷ many-pending kept state history keeps i ∷ [])

  pub hand-unlink : (ino : ℕ) → unlink_refusal state kept.fs.tree.owner ino
      ≡ first_some (refuse (is_none (value_at ino keeps.files)) why.NoFile ∷ many ∷ [])
  hand-unlink ino = λ i. first_some (hand-there kept state history keeps i ∷ file-missing kept state history keeps ino i
      ∷ many-pending kept state history keeps i ∷ [])

  pub hand-clone : (ino off len to_sub to_ino to_off : ℕ) → has_key to_sub kept.snapshots ≡ true
      → clone_refusal state kept.fs.tree.owner ino off len to_sub to_ino to_off
      ≡ first_some (refuse (is_none (value_at ino keeps.files)) why.NoFile ∷ no_align (off ∷ to_off ∷ []) len
      ∷ no_far ((off + len) ∷ (to_off + len) ∷ [])
      ∷ refuse (some_passes (λ file. nat_lt file.size (off + len)) (value_at ino keeps.files)) why.Source
      ∷ refuse ((kept.fs.tree.owner == to_sub) && (ino == to_ino) && share_a_byte off to_off len) why.Overlap ∷ many
      ∷ [])
  hand-clone ino off len to_sub to_ino to_off there = λ i. first_some (hand-there kept state history keeps i
      ∷ sub-there kept state history keeps to_sub there i ∷ file-missing kept state history keeps ino i
      ∷ no_align (off ∷ to_off ∷ []) len ∷ no_far ((off + len) ∷ (to_off + len) ∷ [])
      ∷ source-short kept state history keeps ino (off + len) i
      ∷ refuse ((kept.fs.tree.owner == to_sub) && (ino == to_ino) && share_a_byte off to_off len) why.Overlap
      ∷ many-pending kept state history keeps i ∷ [])

  -- ---- a file that is there, or not

  pub missing-size : (ino size : ℕ) → value_at ino keeps.files ≡ None
      → size_refusal state kept.fs.tree.owner ino size ≡ Some why.NoFile
  missing-size ino size none =
      hand-size ino size
      ∙ ap (λ (o : Option File). first_some (refuse (is_none o) why.NoFile ∷ refuse (not (is_aligned size)) why.Align
      ∷ no_far (size ∷ []) ∷ many ∷ [])) none

  pub there-size : (ino size : ℕ) (file : File) → value_at ino keeps.files ≡ Some file
      → size_refusal state kept.fs.tree.owner ino size
      ≡ first_some (refuse (not (is_aligned size)) why.Align ∷ no_far (size ∷ []) ∷ many ∷ [])
  there-size ino size file some =
      hand-size ino size
      ∙ ap (λ (o : Option File). first_some (refuse (is_none o) why.NoFile ∷ refuse (not (is_aligned size)) why.Align
      ∷ no_far (size ∷ []) ∷ many ∷ [])) some

  pub missing-unlink : (ino : ℕ) → value_at ino keeps.files ≡ None
      → unlink_refusal state kept.fs.tree.owner ino ≡ Some why.NoFile
  missing-unlink ino none =
      hand-unlink ino ∙ ap (λ (o : Option File). first_some (refuse (is_none o) why.NoFile ∷ many ∷ [])) none

  pub there-unlink : (ino : ℕ) (file : File) → value_at ino keeps.files ≡ Some file
      → unlink_refusal state kept.fs.tree.owner ino ≡ first_some (many ∷ [])
  there-unlink ino file some =
      hand-unlink ino ∙ ap (λ (o : Option File). first_some (refuse (is_none o) why.NoFile ∷ many ∷ [])) some

  module _ (ino off len to_sub to_ino to_off : ℕ) (there : has_key to_sub kept.snapshots ≡ true) where
    abbrev by_file : Option File → Option Refusal
    by_file o = first_some (refuse (is_none o) why.NoFile ∷ no_align (off ∷ to_off ∷ []) len
        ∷ no_far ((off + len) ∷ (to_off + len) ∷ [])
        ∷ refuse (some_passes (λ file. nat_lt file.size (off + len)) o) why.Source
        ∷ refuse ((kept.fs.tree.owner == to_sub) && (ino == to_ino) && share_a_byte off to_off len) why.Overlap ∷ many
        ∷ [])

    pub missing-clone : value_at ino keeps.files ≡ None
        → clone_refusal state kept.fs.tree.owner ino off len to_sub to_ino to_off ≡ Some why.NoFile
    missing-clone none = hand-clone ino off len to_sub to_ino to_off there ∙ ap by_file none

    -- the file is there, of this size
    pub overlap-clone : (size : ℕ) (file : File) → value_at ino keeps.files ≡ Some file → size ≡ file.size
        → (overlap : Bool)
        → overlap ≡ ((kept.fs.tree.owner == to_sub) && (ino == to_ino) && share_a_byte off to_off len)
        → clone_refusal state kept.fs.tree.owner ino off len to_sub to_ino to_off
        ≡ first_some (no_align (off ∷ to_off ∷ []) len ∷ no_far ((off + len) ∷ (to_off + len) ∷ [])
        ∷ refuse (nat_lt size (off + len)) why.Source ∷ refuse overlap why.Overlap ∷ many ∷ [])
    overlap-clone size file some same overlap is =
        hand-clone ino off len to_sub to_ino to_off there ∙ ap by_file some
        ∙ (λ i. first_some (no_align (off ∷ to_off ∷ []) len ∷ no_far ((off + len) ∷ (to_off + len) ∷ [])
        ∷ refuse (nat_lt (sym same i) (off + len)) why.Source ∷ refuse (sym is i) why.Overlap ∷ many ∷ []))

  -- ---- how much is pending

  pub too-many : most_pending ≤ kept.pending → many ≡ Some why.TooMany
  too-many late = ap (λ (b : Bool). refuse b why.TooMany) (le-leb most_pending kept.pending late)

  pub not-many : kept.pending < most_pending → many ≡ None
  not-many early = ap (λ (b : Bool). refuse b why.TooMany) (lt-leb most_pending kept.pending early)

  -- ---- nothing stands against a command but want of slots

  pub passes-unlink : (ino : ℕ) (file : File) → value_at ino keeps.files ≡ Some file → kept.pending < most_pending
      → unlink_refusal state kept.fs.tree.owner ino ≡ None
  passes-unlink ino file some early =
      there-unlink ino file some ∙ ap (λ (last : Option Refusal). first_some (last ∷ [])) (not-many early)
