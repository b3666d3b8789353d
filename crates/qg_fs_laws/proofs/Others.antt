-- What the items of a commit's other trees weigh, and what file commands change, by the tree.
use Rattle.std.proofs.Common.{◌≡◌, ℕ, ◌+◌, Bool, true, false, List, [], ◌∷◌, ◌++◌, map, length, Some}
use Rattle.std.proofs.Common.{sym, ap, ◌∙◌, inl, inr}
use Rattle.std.specs.Prelude.{◌||◌}
use Rattle.std.specs.Option.{option_map}
use Rattle.std.proofs.lemmas.Bool.{cases_Bool, true≢false}
use Rattle.std.proofs.lemmas.List.Folds.{list_any-append}
use Rattle.qg_device.specs.History.{History}
use Rattle.qg_image.specs.declared.file.File.{File}
use Rattle.qg_image.specs.Table.{value_at, with_value, without_key}
use Rattle.qg_image.specs.Need.{held_records, weight}
use Rattle.qg_image.specs.Record.{Record, records_bytes, same_record}
use Rattle.qg_image.specs.State.{State, Subvolume, file_at, files_in_sub, next_generation}
use Rattle.qg_super.specs.declared.sizes.Sizes.{Sizes}
use Rattle.qg_machine.specs.FileChange.{FileChange, file_change, file_or_new, moved, new_piece, pieces_meeting}
use Rattle.qg_machine.specs.FileChange.{pieces_or_none, pieces_past, truncate_change, unlink_change, with_pieces}
use Rattle.qg_machine.specs.FileChange.{with_size}
use Rattle.qg_machine.specs.FileChange.{within, write_change}
use Rattle.qg_weighed.specs.Laws.{IsRecorded, is_among, is_of_extents, other_records}
use Rattle.qg_weighed.specs.Weight.{weight_of}
use Rattle.qg_weighed.proofs.Distinct.{bytes-alike}
use Rattle.qg_weighed.proofs.Law.{weighs}
use Rattle.qg_weighed.proofs.Trees.{none-named, others, others-are, others-named}
use Rattle.qg_file_edits.specs.Types.{FsTree}
use Rattle.qg_fs_laws.specs.Keeping.{IsKept, KeepsState, NamesOthers, TellsChanges, other_names, other_weight}
use Rattle.qg_fs_laws.proofs.Kept.{counts}

-- which records the root and the quota tree have now, and had in the last commit
names_alike : (records names now : List Record)
    → ((one : Record) → is_among names one ≡ true → is_of_extents one ≡ false)
    → ((one : Record) → is_of_extents one ≡ false → is_among records one ≡ is_among names one)
    → (one : Record) → is_among (others records ++ now) one ≡ is_among (names ++ now) one
names_alike records names now apart same one =
    list_any-append (same_record one) (others records) now
    ∙ ap (λ (b : Bool). b || is_among now one) alike
    ∙ sym (list_any-append (same_record one) names now) where
      none_there : is_of_extents one ≡ true → is_among names one ≡ false
      none_there extents = elim (cases_Bool (is_among names one)) [
        | inl among ↦ absurd (true≢false (sym extents ∙ apart one among))
        | inr none ↦ none
      ]

      alike : is_among (others records) one ≡ is_among names one
      alike = elim (cases_Bool (is_of_extents one)) [
        | inl extents ↦
            none-named false (others records) one (others-are records) extents ∙ sym (none_there extents)
        | inr other ↦ others-named records one other ∙ same one other
      ]

module _ (fs : FsTree) (history : History) (bytes : ℕ) (state : State) (mine : Subvolume)
    (files : List (ℕ × File)) (kept : IsKept fs history bytes) (keeps : KeepsState fs history state mine files) where
  module _ (names : List Record) (recorded : IsRecorded state fs.refs.held) (others_are : NamesOthers state.held names)
    where
      others_weigh : records_bytes (other_records state) ≡ other_weight names state
      others_weigh = bytes-alike (others (held_records state.held) ++ other_names state) (names ++ other_names state)
          (names_alike (held_records state.held) names (other_names state) others_are.others others_are.same)

      pub weight-told : weight state ≡ weight_of fs.refs.held fs.refs.refs + other_weight names state
      weight-told =
          (weighs state fs.refs.held fs.refs.refs (counts fs history bytes state mine files kept keeps) recorded).whole
          ∙ ap (λ (n : ℕ). weight_of fs.refs.held fs.refs.refs + n) others_weigh

  -- ---- file commands

  files_here : files_in_sub state fs.tree.owner ≡ files
  files_here = rw keeps.there keeps.are

  file_here : (ino : ℕ) → file_at state fs.tree.owner ino ≡ value_at ino files
  file_here ino = ap (λ (table : List (ℕ × File)). value_at ino table) files_here

  next_here : next_generation state ≡ fs.tree.next
  next_here = keeps.laid.generation

  size_here : state.sizes.nodesize ≡ fs.land.space.sizes.nodesize
  size_here = ap (λ (sizes : Sizes). sizes.nodesize) keeps.laid.sizes

  pub changes-told : TellsChanges state fs.tree.owner fs.tree.next fs.land.space.sizes.nodesize files
  unfolding file_change
  changes-told = record {
    all = files_here;
    file = file_here;
    write = λ ino off len extent is.
        ap (option_map (write_change state fs.tree.owner ino off len)) is
        ∙ (λ i. let change : FileChange = record {
          sub = fs.tree.owner;
          files = with_value ino (with_pieces (next_here i) off (off + len)
              (new_piece (next_here i) off len extent ∷ [])
              (file_or_new (next_here i) (file_here ino i))) (files_here i);
          amount = len + size_here i;
          pieces = pieces_meeting off (off + len) (pieces_or_none (file_here ino i));
        } in Some change);
    clone = λ from_sub source from len ino off.
        λ i. let change : FileChange = record {
          sub = fs.tree.owner;
          files = with_value ino (with_pieces (next_here i) off (off + len)
              (map (moved from off) (within from (from + len) (pieces_or_none (file_at state from_sub source))))
              (file_or_new (next_here i) (file_here ino i))) (files_here i);
          amount = size_here i;
          pieces = pieces_meeting off (off + len) (pieces_or_none (file_here ino i))
              + pieces_meeting from (from + len) (pieces_or_none (file_at state from_sub source));
        } in Some change;
    cut = λ ino size file is.
        ap (option_map (truncate_change state fs.tree.owner ino size)) (file_here ino ∙ is)
        ∙ (λ i. let change : FileChange = record {
          sub = fs.tree.owner;
          files = with_value ino (with_size (next_here i) size file) (files_here i);
          amount = 0;
          pieces = pieces_past size file.pieces;
        } in Some change);
    unlink = λ ino file is.
        ap (option_map (unlink_change state fs.tree.owner ino)) (file_here ino ∙ is)
        ∙ (λ i. let change : FileChange = record {
          sub = fs.tree.owner;
          files = without_key ino (files_here i);
          amount = 0;
          pieces = length file.pieces;
        } in Some change);
  }
