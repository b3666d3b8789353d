-- What comes of a file that is taken away, told by what is kept.
use Rattle.std.proofs.Common.{◌≡◌, ℕ, ◌≤◌, List, [], length, Some, None, refl, sym, ap, subst, ◌∙◌}
use Rattle.qg_device.specs.History.{History}
use Rattle.qg_num.specs.declared.answer.Answer.TheVariants.{Done, Refused}
use Rattle.qg_num.specs.declared.command.Command.TheVariants.{Unlink}
use Rattle.qg_num.specs.declared.refusal.Refusal.{Refusal}
use Rattle.qg_image.specs.declared.file.File.{File}
use Rattle.qg_image.specs.Table.{value_at, without_key}
use Rattle.qg_image.specs.State.{State}
use Rattle.qg_space.specs.Holding.{free_slots}
use Rattle.qg_extents.specs.Table.{IsTable}
use Rattle.qg_open_image.specs.Types.{FsTree}
use Rattle.qg_open_image.specs.Files.{LeavesFiles, LeavesHeld}
use Rattle.qg_open_image.specs.declared.open_image.OpenImage.{OpenImage}
use Rattle.qg_open_image.specs.Answering.{Answered}
use Rattle.qg_open_image.specs.Editing.{slots_refusal, unlink_refusal}
use Rattle.qg_open_image.specs.Keeping.{IsKept, IsKeptOf, need_of}
use Rattle.qg_file_commands.proofs.Refused.{early-unlink, late-unlink}
use Rattle.qg_open_image.proofs.Changed.{changes-here, hand-short}
use Rattle.qg_file_commands.proofs.Leaves.{follows-edit}
use Rattle.qg_open_image.proofs.Short.{short-left}
use Rattle.qg_open_image.proofs.Stepped.{Follows, IsLate, change_to, does_edit, does_nothing, edited}
use Rattle.qg_open_image.proofs.Stepped.{late-refusal, reserves-nothing}

-- it is refused
pub refuses-unlink : (kept : OpenImage) (state : State) (history : History) (sub ino : ℕ)
    (reason : Refusal) → IsKeptOf kept state history → unlink_refusal state sub ino ≡ Some reason
    → Answered state (Unlink sub ino) (Refused reason) [] kept history
refuses-unlink kept state history sub ino reason keeps is =
    does_nothing kept state history (Unlink sub ino) reason keeps (early-unlink state sub ino reason is)

-- it may go on, and so many pieces are touched
module _ (kept : OpenImage) (state : State) (history : History) (bytes sub ino pieces : ℕ) (file : File)
    (fits : IsKept kept history bytes) (keeps : IsKeptOf kept state history) (table : IsTable kept.fs.refs.refs)
    (top : sub ≡ kept.fs.tree.owner) (passes : unlink_refusal state kept.fs.tree.owner ino ≡ None)
    (there : value_at ino keeps.files ≡ Some file) (touched : pieces ≡ length file.pieces) where
  abbrev pub files_now : List (ℕ × File)
  files_now = without_key ino keeps.files

  pub is-late : IsLate state (Unlink kept.fs.tree.owner ino) kept.fs.tree.owner files_now 0 pieces
  is-late = record {
    late = late-unlink state kept.fs.tree.owner ino passes;
    change = (changes-here kept state history bytes fits keeps table).unlink ino file there
        ∙ ap (λ (n : ℕ). Some (change_to kept.fs.tree.owner files_now 0 n)) (sym touched);
  }

  pub lacks-slots : (reason : Refusal) → Some reason ≡ slots_refusal kept pieces
      → Answered state (Unlink sub ino) (Refused reason) [] kept history
  lacks-slots reason is =
      subst (λ (sub : ℕ). Answered state (Unlink sub ino) (Refused reason) [] kept history) (sym top)
      (does_nothing kept state history (Unlink kept.fs.tree.owner ino) reason keeps
      (late-refusal kept state history bytes fits keeps table (Unlink kept.fs.tree.owner ino) files_now 0 pieces is-late
      ∙ sym is))

  pub unlinks : (fs : FsTree) (after : History) → None ≡ slots_refusal kept pieces
      → Follows kept fs state keeps.mine history files_now pieces → after ≡ history
      → Answered state (Unlink sub ino) Done [] (edited kept fs kept.quota) after
  unlinks fs after enough follows same =
      subst (λ (sub : ℕ). Answered state (Unlink sub ino) Done [] (edited kept fs kept.quota) after) (sym top)
      (does_edit kept fs history after bytes state (Unlink kept.fs.tree.owner ino) Done files_now 0 pieces fits keeps
      table
      is-late enough refl follows same kept.quota (reserves-nothing kept) (λ done. done))

  -- the file went
  pub unlinked : (fs : FsTree) (new : OpenImage) (after : History) (left : ℕ) → new ≡ edited kept fs kept.quota
      → IsTable new.fs.refs.refs → None ≡ slots_refusal kept pieces
      → need_of kept pieces ≤ free_slots kept.fs.land.space
      → LeavesHeld kept.fs fs history after bytes left
      → LeavesFiles kept.fs fs history files_now (length file.pieces)
      → Answered state (Unlink sub ino) Done [] new after
  unlinked fs new after left is table_new none enough held leaves =
      subst (λ (k : OpenImage). Answered state (Unlink sub ino) Done [] k after) (sym is)
      (unlinks fs after none
      (follows-edit kept fs history after bytes left state files_now pieces fits keeps table
      (subst (λ (k : OpenImage). IsTable k.fs.refs.refs) is table_new) held
      (subst (λ (n : ℕ). LeavesFiles kept.fs fs history files_now n) (sym touched) leaves)
      ((short-left kept.fs.tree.next keeps.files (hand-short kept state history keeps)).unlinked ino) enough)
      held.history)
