-- What comes of a file that is cut or grows, told by what is kept. Sizes are in bytes.
use Rattle.std.proofs.Common.{◌≡◌, ℕ, ◌≤◌, List, [], Some, None, refl, sym, ap, subst, ◌∙◌}
use Rattle.qg_device.specs.History.{History}
use Rattle.qg_num.specs.declared.answer.Answer.TheVariants.{Done, Refused}
use Rattle.qg_num.specs.declared.command.Command.TheVariants.{Truncate}
use Rattle.qg_num.specs.declared.refusal.Refusal.{Refusal}
use Rattle.qg_image.specs.declared.file.File.{File}
use Rattle.qg_image.specs.Table.{value_at}
use Rattle.qg_image.specs.State.{State}
use Rattle.qg_machine.specs.FileChange.{pieces_past}
use Rattle.qg_space.specs.Holding.{free_slots}
use Rattle.qg_extents.specs.Table.{IsTable}
use Rattle.qg_open_image.specs.Types.{FsTree}
use Rattle.qg_open_image.specs.Changes.{files_cut}
use Rattle.qg_open_image.specs.Files.{LeavesFiles, LeavesHeld}
use Rattle.qg_open_image.specs.declared.open_image.OpenImage.{OpenImage}
use Rattle.qg_open_image.specs.Answering.{Answered}
use Rattle.qg_open_image.specs.Editing.{size_refusal, slots_refusal}
use Rattle.qg_open_image.specs.Keeping.{IsKept, IsKeptOf, need_of}
use Rattle.qg_file_commands.proofs.Refused.{early-size, late-size}
use Rattle.qg_open_image.proofs.Changed.{changes-here, hand-short}
use Rattle.qg_file_commands.proofs.Leaves.{follows-edit}
use Rattle.qg_open_image.proofs.Short.{short-left}
use Rattle.qg_open_image.proofs.Stepped.{Follows, IsLate, change_to, does_edit, does_nothing, edited}
use Rattle.qg_open_image.proofs.Stepped.{late-refusal, reserves-nothing}

-- it is refused
pub refuses-size : (kept : OpenImage) (state : State) (history : History) (sub ino size : ℕ)
    (reason : Refusal) → IsKeptOf kept state history → size_refusal state sub ino size ≡ Some reason
    → Answered state (Truncate sub ino size) (Refused reason) [] kept history
refuses-size kept state history sub ino size reason keeps is =
    does_nothing kept state history (Truncate sub ino size) reason keeps
    (early-size state sub ino size reason is)

-- it may go on, and so many pieces are touched
module _ (kept : OpenImage) (state : State) (history : History) (bytes sub ino size pieces : ℕ) (file : File)
    (fits : IsKept kept history bytes) (keeps : IsKeptOf kept state history) (table : IsTable kept.fs.refs.refs)
    (top : sub ≡ kept.fs.tree.owner) (passes : size_refusal state kept.fs.tree.owner ino size ≡ None)
    (there : value_at ino keeps.files ≡ Some file) (touched : pieces ≡ pieces_past size file.pieces) where
  abbrev pub files_now : List (ℕ × File)
  files_now = files_cut kept.fs.tree.next ino size file keeps.files

  pub is-late : IsLate state (Truncate kept.fs.tree.owner ino size) kept.fs.tree.owner files_now 0 pieces
  is-late = record {
    late = late-size state kept.fs.tree.owner ino size passes;
    change = (changes-here kept state history bytes fits keeps table).cut ino size file there
        ∙ ap (λ (n : ℕ). Some (change_to kept.fs.tree.owner files_now 0 n)) (sym touched);
  }

  pub lacks-slots : (reason : Refusal) → Some reason ≡ slots_refusal kept pieces
      → Answered state (Truncate sub ino size) (Refused reason) [] kept history
  lacks-slots reason is =
      subst (λ (sub : ℕ). Answered state (Truncate sub ino size) (Refused reason) [] kept history) (sym top)
      (does_nothing kept state history (Truncate kept.fs.tree.owner ino size) reason keeps
      (late-refusal kept state history bytes fits keeps table (Truncate kept.fs.tree.owner ino size) files_now 0 pieces
      is-late
      ∙ sym is))

  pub sizes : (fs : FsTree) (after : History) → None ≡ slots_refusal kept pieces
      → Follows kept fs state keeps.mine history files_now pieces → after ≡ history
      → Answered state (Truncate sub ino size) Done [] (edited kept fs kept.quota) after
  sizes fs after enough follows same =
      subst (λ (sub : ℕ). Answered state (Truncate sub ino size) Done [] (edited kept fs kept.quota) after) (sym top)
      (does_edit kept fs history after bytes state (Truncate kept.fs.tree.owner ino size) Done files_now 0 pieces fits
      keeps
      table is-late enough refl follows same kept.quota (reserves-nothing kept) (λ done. done))

  -- the file was cut, or grew
  pub sized : (fs : FsTree) (new : OpenImage) (after : History) (left : ℕ) → new ≡ edited kept fs kept.quota
      → IsTable new.fs.refs.refs → None ≡ slots_refusal kept pieces
      → need_of kept pieces ≤ free_slots kept.fs.land.space
      → LeavesHeld kept.fs fs history after bytes left
      → LeavesFiles kept.fs fs history files_now (pieces_past size file.pieces)
      → Answered state (Truncate sub ino size) Done [] new after
  sized fs new after left is table_new none enough held leaves =
      subst (λ (k : OpenImage). Answered state (Truncate sub ino size) Done [] k after) (sym is)
      (sizes fs after none
      (follows-edit kept fs history after bytes left state files_now pieces fits keeps table
      (subst (λ (k : OpenImage). IsTable k.fs.refs.refs) is table_new) held
      (subst (λ (n : ℕ). LeavesFiles kept.fs fs history files_now n) (sym touched) leaves)
      ((short-left kept.fs.tree.next keeps.files (hand-short kept state history keeps)).cut ino size file there) enough)
      held.history)
