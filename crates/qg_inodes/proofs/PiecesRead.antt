-- What the reading of pieces answers. Positions and lengths are in bytes.
use Rattle.std.proofs.Common.{◌≡◌, ℕ, ◌+◌, ◌*◌, ◌-◌, ◌<◌, ◌≤◌, true, List, [], ◌∷◌, ◌++◌, length, Some, None, refl, sym}
use Rattle.std.proofs.Common.{ap, subst, ◌∙◌, arith, append-nil, length-append, inl, inr}
use Rattle.std.specs.Prelude.{◌&&◌, ⊤, Err, IfOk, IsTrue, Ok, Option, Result, is_none, nat_lt}
use Rattle.std.specs.List.{filter_map, list_any}
use Rattle.std.proofs.Math.Nat.{mul-add, mul-le-mul_left}
use Rattle.qg_device.specs.History.{Event, History, Recorded}
use Rattle.qg_num.specs.declared.fault.BlockFault.{BlockFault}
use Rattle.qg_num.specs.declared.fault.BlockFault.TheVariants.{Disk, Image, NoMemory}
use Rattle.qg_num.specs.declared.key.Key.{Key}
use Rattle.qg_num.specs.declared.piece.Piece.{Piece}
use Rattle.qg_num.specs.declared.rule.Rule.{Rule}
use Rattle.qg_num.specs.declared.rule.Rule.TheVariants as rule
use Rattle.qg_node.specs.declared.item.Item.{Item}
use Rattle.qg_image.specs.declared.file.File.{File}
use Rattle.qg_image.specs.FilesOf.{are_pieces, file_parts, files_of, largest_size, piece_end, pieces_in}
use Rattle.qg_image.specs.declared.tree.TreeKind.TheVariants.{Files}
use Rattle.qg_tree_items.specs.Keys.{key_with}
pub use Rattle.qg_blocks.proofs.Broken.{handed}
use Rattle.qg_blocks.specs.NodesInMemory.{Draft, Held}
use Rattle.qg_blocks.specs.NodesFound.{BreaksNone}
use Rattle.qg_blocks.specs.Writing.{ArePlaced}
use Rattle.qg_tree_read.specs.Reading.{items_within, last_upto}
use Rattle.qg_tree_read.specs.Tree.{Root, TellsTree}
use Rattle.qg_tree_read.specs.Way.{HasRead}
use Rattle.qg_tree_read.proofs.Reached.{tells-read}
use Rattle.qg_inodes.specs.PiecesWritten.{pieces_met}
use Rattle.qg_inodes.specs.Items.{has_unread, piece_of}
use Rattle.qg_inodes.specs.Judged.{AreAdded, IsJudged, IsUnreadPiece}
use Rattle.qg_inodes.specs.Pieces.{BeginsBy, last_begun, own_piece, piece_met, pieces_at, pieces_begun}
use Rattle.qg_inodes.specs.TreeFiles.{FailsOnPieces, IsUnfit, TellsFiles}
use Rattle.qg_inodes.proofs.Ascending.{tree-ascends}
use Rattle.qg_inodes.proofs.Ending.{last-alone, last-more}
use Rattle.qg_inodes.proofs.Files.{AreTold, HasPieces, are-told, has-pieces, none-unread}
use Rattle.qg_inodes.proofs.Last.{last-own, unread-last}
use Rattle.qg_inodes.proofs.Meeting.{met-parted, none-begun, some-pieces}
use Rattle.qg_inodes.proofs.Within.{are-begun, unread-within}

-- ---- where files are told

module _ (root : Root) (draft : Draft) (history : History) (files : List (ℕ × File))
    (tells : TellsFiles root draft history files) (ino : ℕ) where
  pub are : AreTold tells.generation tells.items files
  are = are-told tells.generation tells.items files tells.are

  pub has : HasPieces (file_parts tells.items) files ino
  has = has-pieces tells.generation tells.items files are ino

  -- each item says something
  pub each-said : IsTrue (has_unread ino tells.items) → ⊥
  each-said unread = none-unread tells.generation ino tells.items are.each unread

  module _ (from to : ℕ) where
    -- the piece that may reach into the range
    pub piece-before : (bytes : ℕ) → ArePlaced draft bytes → (last : Option Item)
        → last ≡ last_upto (key_with ino 108 from) tells.items
        → own_piece ino last ≡ last_begun None from (pieces_at ino files)
    piece-before bytes placed last is =
        ap (own_piece ino) is
        ∙ last-own tells.generation ino from tells.items are.each
        (tree-ascends Files root draft history bytes tells.items placed tells.tells)
        ∙ ap (last_begun None from) has.are

    parted : piece_met from to (last_begun None from (pieces_at ino files))
        ++ pieces_begun (from + 1) to (pieces_at ino files)
        ≡ pieces_met from to (pieces_at ino files)
    parted = met-parted from to has.size (pieces_at ino files) has.sound

    -- it is all that the range meets, where no other may begin in it
    pub met-short : to ≤ from + 1
        → piece_met from to (last_begun None from (pieces_at ino files)) ≡ pieces_met from to (pieces_at ino files)
    met-short short =
        sym (append-nil (piece_met from to (last_begun None from (pieces_at ino files))))
        ∙ ap (λ (ps : List Piece). piece_met from to (last_begun None from (pieces_at ino files)) ++ ps)
        (sym (none-begun (from + 1) to (pieces_at ino files) short))
        ∙ parted

    module _ (some : 0 < to) (items : List Item)
        (is : items ≡ items_within (key_with ino 108 (from + 1)) (key_with ino 108 (to - 1)) tells.items) where
      -- or else those that begin in it
      pub met-long : piece_met from to (last_begun None from (pieces_at ino files)) ++ filter_map piece_of items
          ≡ pieces_met from to (pieces_at ino files)
      met-long =
          let begun = are-begun tells.generation ino (from + 1) to tells.items are.each some in
          ap (λ (ps : List Piece). piece_met from to (last_begun None from (pieces_at ino files)) ++ ps)
          (ap (filter_map piece_of) is ∙ begun.read ∙ ap (pieces_begun (from + 1) to) has.are)
          ∙ parted

      -- there are no more of those
      pub items-few : length items ≤ length (pieces_met from to (pieces_at ino files))
      items-few =
          let begun = are-begun tells.generation ino (from + 1) to tells.items are.each some in
          let count : length items ≡ length (pieces_begun (from + 1) to (pieces_at ino files)) =
          ap (λ (xs : List Item). length xs) is ∙ begun.count
          ∙ ap (λ (ps : List Piece). length (pieces_begun (from + 1) to ps)) has.are
          in
          let both =
          sym
          (length-append (piece_met from to (last_begun None from (pieces_at ino files)))
          (pieces_begun (from + 1) to (pieces_at ino files)))
          ∙ ap (λ (ps : List Piece). length ps) parted
          in
          omega (arith, count, both)

-- ---- steps

pub spent : (steps before between after items pieces : ℕ) → between ≤ before + steps
    → after ≤ between + steps * (1 + items) → items ≤ pieces
    → after ≤ before + steps * (2 + pieces)
spent steps before between after items pieces first second few =
    let more : steps * (1 + items) ≤ steps * (1 + pieces) = mul-le-mul_left steps (omega arith) in
    let parts : steps * (1 + (1 + pieces)) ≡ steps * 1 + steps * (1 + pieces) = mul-add steps 1 (1 + pieces) in
    let same : steps * (2 + pieces) ≡ steps * (1 + (1 + pieces)) = ap (λ (n : ℕ). steps * n) (omega arith) in
    omega (arith, first, second, more, parts, same)

-- ---- what is answered of pieces that were read

-- where files are told, these are theirs
abbrev pub AreMet : Root → Draft → History → ℕ → ℕ → ℕ → List Piece → Type 0
AreMet root draft history ino from to pieces = (files : List (ℕ × File)) → TellsFiles root draft history files
    → pieces ≡ pieces_met from to (pieces_at ino files)

module _ (root : Root) (draft : Draft) (ino from to : ℕ) (pieces : List Piece) where
  -- pieces that are judged to be of no file are not theirs
  some_file : (history : History) → AreMet root draft history ino from to pieces
      → ((size : ℕ) → size ≤ largest_size → IsTrue (are_pieces 0 size pieces) → ⊥)
      → (files : List (ℕ × File)) → TellsFiles root draft history files
      → ⊥
  some_file history met none files tells =
      let told = has root draft history files tells ino in
      none told.size told.small
      (subst (λ (ps : List Piece). are_pieces 0 told.size ps ≡ true) (sym (met files tells))
      (some-pieces (λ (piece : Piece). nat_lt piece.position to && nat_lt from (piece_end piece)) 0 told.size
      (pieces_at ino files) told.sound))

  pub judged-found : (history : History) (result : Result (List Piece) BlockFault)
      → IsJudged root pieces result → AreMet root draft history ino from to pieces → (files : List (ℕ × File))
      → TellsFiles root draft history files
      → IfOk result (λ answered. answered ≡ pieces_met from to (pieces_at ino files))
  judged-found history (Ok answered) judged met files tells = judged.0 ∙ met files tells
  judged-found history (Err fault) judged met files tells = tt

  pub judged-sound : (history : History) (result : Result (List Piece) BlockFault)
      → IsJudged root pieces result → AreMet root draft history ino from to pieces → (files : List (ℕ × File))
      → TellsFiles root draft history files
      → BreaksNone result
  judged-sound history (Ok answered) judged met files tells = tt
  judged-sound history (Err fault) judged met files tells =
      absurd (some_file history met judged.1 files tells)

  pub judged-broken : (history : History) (events : List Event) (result : Result (List Piece) BlockFault)
      → history ≡ Recorded events
      → IsJudged root pieces result → AreMet root draft history ino from to pieces
      → FailsOnPieces root draft events ino result
  judged-broken history events (Ok answered) is judged met = inl (inl tt)
  judged-broken history events (Err fault) is judged met = inr (record {
    answer = ap (λ (f : BlockFault). Err f) judged.0;
    none = λ items tells generation. none_told items tells generation (files_of generation items) refl;
  }) where
    none_told : (items : List Item) → TellsTree Files root draft (Recorded events) items → (generation : ℕ)
        → (told : Option (List (ℕ × File))) → files_of generation items ≡ told
        → told ≡ None
    none_told items tells generation None told = refl
    none_told items tells generation (Some files) told =
        let there : TellsFiles root draft (Recorded events) files =
        record { items = items; tells = tells; generation = generation; are = told }
        in
        absurd
        (some_file history met judged.1 files
        (subst (λ (h : History). TellsFiles root draft h files) (sym is) there))

-- ---- once all is read

module _ (root : Root) (draft : Draft) (history : History) (ino from to bytes : ℕ)
    (placed : ArePlaced draft bytes) (last : Option Item) (reaching : Option Piece) (pieces : List Piece)
    (found : (items : List Item) → TellsTree Files root draft history items
    → last ≡ last_upto (key_with ino 108 from) items)
    (own : reaching ≡ own_piece ino last) (met : pieces ≡ piece_met from to reaching) where
  before_met : (files : List (ℕ × File)) → TellsFiles root draft history files
      → pieces ≡ piece_met from to (last_begun None from (pieces_at ino files))
  before_met files tells =
      met
      ∙ ap (piece_met from to)
      (own ∙ piece-before root draft history files tells ino from to bytes placed last (found tells.items tells.tells))

  pub are-met-short : to ≤ from + 1 → AreMet root draft history ino from to pieces
  are-met-short short files tells =
      before_met files tells ∙ met-short root draft history files tells ino from to short

  pub are-met-long : 0 < to → (items : List Item) (all : List Piece)
      → ((whole : List Item) → TellsTree Files root draft history whole
      → items ≡ items_within (key_with ino 108 (from + 1)) (key_with ino 108 (to - 1)) whole)
      → all ≡ pieces ++ filter_map piece_of items → AreMet root draft history ino from to all
  are-met-long some items all begun are files tells =
      are
      ∙ ap (λ (ps : List Piece). ps ++ filter_map piece_of items) (before_met files tells)
      ∙ met-long root draft history files tells ino from to some items (begun tells.items tells.tells)

-- the last that begins in front of the range's end is all, or the last
module _ (root : Root) (draft : Draft) (history : History) (ino from to bytes : ℕ) (some : from < to)
    (placed : ArePlaced draft bytes) (last : Option Item) (reaching : Option Piece)
    (found : (items : List Item) → TellsTree Files root draft history items
    → last ≡ last_upto (key_with ino 108 (to - 1)) items)
    (own : reaching ≡ own_piece ino last) where
  last_told : (files : List (ℕ × File)) → TellsFiles root draft history files
      → reaching ≡ last_begun None (to - 1) (pieces_at ino files)
  last_told files tells =
      own ∙ piece-before root draft history files tells ino (to - 1) to bytes placed last
      (found tells.items tells.tells)

  pub are-met-alone : (pieces : List Piece) → pieces ≡ piece_met from to reaching → BeginsBy from reaching
      → AreMet root draft history ino from to pieces
  are-met-alone pieces met begins files tells =
      let told = last_told files tells in
      let sound = has root draft history files tells ino in
      met ∙ ap (piece_met from to) told
      ∙ last-alone from (to - 1) to (omega arith) (omega arith) sound.size (pieces_at ino files) sound.sound
      (subst (λ (o : Option Piece). BeginsBy from o) told begins)

  more_met : (piece : Piece) → reaching ≡ Some piece → from < piece.position → (files : List (ℕ × File))
      → TellsFiles root draft history files
      → pieces_met from piece.position (pieces_at ino files) ++ piece ∷ [] ≡ pieces_met from to (pieces_at ino files)
  more_met piece is behind files tells =
      let sound = has root draft history files tells ino in
      last-more from (to - 1) to (omega arith) (omega arith) sound.size (pieces_at ino files) sound.sound piece
      (sym (last_told files tells) ∙ is) behind

  pub are-met-more : (piece : Piece) → reaching ≡ Some piece → from < piece.position → (others pieces : List Piece)
      → AreMet root draft history ino from piece.position others → pieces ≡ others ++ piece ∷ []
      → AreMet root draft history ino from to pieces
  are-met-more piece is behind others pieces met more files tells =
      more ∙ ap (λ (ps : List Piece). ps ++ piece ∷ []) (met files tells) ∙ more_met piece is behind files tells

  -- the steps of both
  pub steps-more : (steps first second third : ℕ) (piece : Piece) → reaching ≡ Some piece → from < piece.position
      → (files : List (ℕ × File)) → TellsFiles root draft history files → second ≤ first + steps
      → third ≤ second + steps * (2 + length (pieces_met from piece.position (pieces_at ino files)))
      → third ≤ first + steps * (2 + length (pieces_met from to (pieces_at ino files)))
  steps-more steps first second third piece is behind files tells one more =
      let fewer = pieces_met from piece.position (pieces_at ino files) in
      let count : length (pieces_met from to (pieces_at ino files)) ≡ length fewer + 1 =
      ap (λ (ps : List Piece). length ps) (sym (more_met piece is behind files tells))
      ∙ length-append fewer (piece ∷ [])
      in
      let parts : steps * (1 + (2 + length fewer)) ≡ steps * 1 + steps * (2 + length fewer) =
      mul-add steps 1 (2 + length fewer)
      in
      let same : steps * (2 + length (pieces_met from to (pieces_at ino files))) ≡ steps * (1 + (2 + length fewer)) =
      ap (λ (n : ℕ). steps * n) (omega (arith, count))
      in
      omega (arith, one, more, parts, same)

-- files are told as before, where nodes were read
pub files-read : (root : Root) (old new : Held) (before after : History) (bytes left : ℕ)
    → HasRead old new before after bytes left → (files : List (ℕ × File)) → TellsFiles root old.draft before files
    → TellsFiles root new.draft after files
files-read root old new before after bytes left read files tells = record {
  items = tells.items;
  tells = tells-read Files root old new before after bytes left tells.items read tells.tells;
  generation = tells.generation;
  are = tells.are;
}

-- what a reading found after another one
pub found-after : (root : Root) (old new : Held) (before after : History) (bytes left : ℕ)
    → HasRead old new before after bytes left → (items : List Item) (low high first end : Key) → low ≡ first
    → high ≡ end
    → ((whole : List Item) → TellsTree Files root new.draft after whole → items ≡ items_within low high whole)
    → (whole : List Item) → TellsTree Files root old.draft before whole
    → items ≡ items_within first end whole
found-after root old new before after bytes left read items low high first end is_low is_high found whole tells =
    found whole (tells-read Files root old new before after bytes left whole read tells)
    ∙ ap (λ (k : Key). items_within k high whole) is_low
    ∙ ap (λ (k : Key). items_within first k whole) is_high

-- the steps of both
pub steps-met : (root : Root) (old new : Held) (before after : History) (bytes left : ℕ)
    → HasRead old new before after bytes left → (ino from to first second third : ℕ) (low high : Key)
    → low ≡ key_with ino 108 (from + 1) → high ≡ key_with ino 108 (to - 1) → 0 < to
    → second ≤ first + (root.height + 1)
    → ((whole : List Item) → TellsTree Files root new.draft after whole
    → third ≤ second + (root.height + 1) * (1 + length (items_within low high whole)))
    → (files : List (ℕ × File)) → TellsFiles root old.draft before files
    → third ≤ first + (root.height + 1) * (2 + length (pieces_met from to (pieces_at ino files)))
steps-met root old new before after bytes left read ino from to first second third low high is_low is_high some one more
    files
    tells =
    let there = tells-read Files root old new before after bytes left tells.items read tells.tells in
    let items = items_within low high tells.items in
    let same : items ≡ items_within (key_with ino 108 (from + 1)) (key_with ino 108 (to - 1)) tells.items =
    ap (λ (k : Key). items_within k high tells.items) is_low
    ∙ ap (λ (k : Key). items_within (key_with ino 108 (from + 1)) k tells.items) is_high
    in
    spent (root.height + 1) first second third (length items) (length (pieces_met from to (pieces_at ino files))) one
    (more tells.items there) (items-few root old.draft before files tells ino from to some items same)

-- ---- where an item says nothing

abbrev pub SaysUnread : Root → Draft → History → ℕ → Type 0
SaysUnread root draft history ino =
    (items : List Item) → TellsTree Files root draft history items → IsTrue (has_unread ino items)

pub misread-sound : (A : Type 0) (root : Root) (draft : Draft) (history : History) (ino : ℕ)
    (result : Result A BlockFault) → SaysUnread root draft history ino → (files : List (ℕ × File))
    → TellsFiles root draft history files
    → BreaksNone result
misread-sound A root draft history ino result unread files tells =
    absurd (each-said root draft history files tells ino (unread tells.items tells.tells))

pub misread-broken : (A : Type 0) (root : Root) (draft : Draft) (history : History) (events : List Event)
    (ino : ℕ) (result : Result A BlockFault) → history ≡ Recorded events → result ≡ Err (Image rule.Item root.address)
    → SaysUnread root draft history ino
    → FailsOnPieces root draft events ino result
misread-broken A root draft history events ino result is answer unread =
    inl (inr (record {
      answer = answer;
      there = λ items tells. unread items (subst (λ (h : History). TellsTree Files root draft h items)
          (sym is) tells);
    }))

-- the last item does
pub unread-before : (root : Root) (draft : Draft) (history : History) (ino : ℕ) (key : Key)
    (last : Option Item) → IsUnreadPiece ino last
    → ((items : List Item) → TellsTree Files root draft history items → last ≡ last_upto key items)
    → SaysUnread root draft history ino
unread-before root draft history ino key None none found items tells = absurd none
unread-before root draft history ino key (Some item) none found items tells =
    unread-last ino key items item (sym (found items tells)) none.0 none.1

-- or one of those in the range
pub unread-begun : (root : Root) (draft : Draft) (history : History) (ino from to : ℕ) (items : List Item)
    → IsTrue (list_any (λ item. is_none (piece_of item)) items)
    → ((whole : List Item) → TellsTree Files root draft history whole
    → items ≡ items_within (key_with ino 108 from) (key_with ino 108 to) whole)
    → SaysUnread root draft history ino
unread-begun root draft history ino from to items none found whole tells =
    unread-within ino from to whole
    (subst (λ (xs : List Item). IsTrue (list_any (λ item. is_none (piece_of item)) xs)) (found whole tells) none)

-- what is answered then
added_sound : (B : Type 0) (root : Root) (draft : Draft) (history : History) (ino : ℕ) (items : List Item)
    (old new : List Piece) (fault : BlockFault) → AreAdded {A = ⊤} root items old new (Err fault)
    → (IsTrue (list_any (λ item. is_none (piece_of item)) items) → SaysUnread root draft history ino)
    → (files : List (ℕ × File)) → TellsFiles root draft history files
    → BreaksNone {A = B} (Err fault)
added_sound B root draft history ino items old new NoMemory added unread files tells = tt
added_sound B root draft history ino items old new Disk added unread files tells = tt
added_sound B root draft history ino items old new (Image broken at) added unread files tells =
    misread-sound B root draft history ino (Err (Image broken at)) (unread added.2) files tells

added_broken : (B : Type 0) (root : Root) (draft : Draft) (history : History) (events : List Event)
    (ino : ℕ) (items : List Item) (old new : List Piece) (fault : BlockFault) → history ≡ Recorded events
    → AreAdded {A = ⊤} root items old new (Err fault)
    → (IsTrue (list_any (λ item. is_none (piece_of item)) items) → SaysUnread root draft history ino)
    → FailsOnPieces {A = B} root draft events ino (Err fault)
added_broken B root draft history events ino items old new NoMemory is added unread = inl (inl tt)
added_broken B root draft history events ino items old new Disk is added unread = absurd added
added_broken B root draft history events ino items old new (Image broken at) is added unread =
    misread-broken B root draft history events ino (Err (Image broken at)) is
    (λ i. Err (Image (added.0 i) (added.1 i))) (unread added.2)

module _ {B : Type 0} (root : Root) (draft : Draft) (history : History) (ino : ℕ) (items : List Item)
    (old new : List Piece) (result : Result B BlockFault) (fault : BlockFault) (is : result ≡ Err fault)
    (added : AreAdded {A = ⊤} root items old new (Err fault))
    (unread : IsTrue (list_any (λ item. is_none (piece_of item)) items) → SaysUnread root draft history ino) where
  pub added-sound : (files : List (ℕ × File)) → TellsFiles root draft history files → BreaksNone result
  added-sound files tells =
      subst (λ (r : Result B BlockFault). BreaksNone r) (sym is)
      (added_sound B root draft history ino items old new fault added unread files tells)

  pub added-broken : (events : List Event) → history ≡ Recorded events → FailsOnPieces root draft events ino result
  added-broken events told =
      subst (λ (r : Result B BlockFault). FailsOnPieces root draft events ino r) (sym is)
      (added_broken B root draft history events ino items old new fault told added unread)
