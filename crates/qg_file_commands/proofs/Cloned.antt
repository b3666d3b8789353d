-- What comes of a clone, told by what is kept. Positions and lengths are in bytes.
use Rattle.std.proofs.Common.{◌≡◌, ℕ, ◌+◌, ◌≤◌, true, List, [], Some, None, Option, refl, sym, ap, subst, ◌∙◌}
use Rattle.qg_device.specs.History.{History}
use Rattle.qg_num.specs.declared.answer.Answer.TheVariants.{Done, Refused}
use Rattle.qg_num.specs.declared.command.Command.TheVariants.{Clone}
use Rattle.qg_num.specs.declared.refusal.Refusal.{Refusal}
use Rattle.qg_super.specs.declared.sizes.Sizes.{Sizes}
use Rattle.qg_image.specs.declared.file.File.{File}
use Rattle.qg_image.specs.Table.{has_key, value_at}
use Rattle.qg_image.specs.State.{State, Subvolume}
use Rattle.qg_machine.specs.FileChange.{pieces_meeting}
use Rattle.qg_machine.specs.Refusals.{over_limit}
use Rattle.qg_space.specs.Holding.{free_slots}
use Rattle.qg_extents.specs.Table.{IsTable}
use Rattle.qg_qgroups.specs.declared.state.QuotaState.{QuotaState}
use Rattle.qg_open_image.specs.Types.{FsTree}
use Rattle.qg_open_image.specs.Changes.{files_cloned_from}
use Rattle.qg_open_image.specs.Files.{LeavesFiles, LeavesHeld, pieces_of}
use Rattle.qg_open_image.specs.declared.open_image.OpenImage.{OpenImage}
use Rattle.qg_open_image.specs.Answering.{Answered}
use Rattle.qg_open_image.specs.Editing.{clone_refusal, clone_reserves, slots_refusal}
use Rattle.qg_open_image.specs.Keeping.{IsKept, IsKeptOf, need_of}
use Rattle.qg_open_image.proofs.Known.{sub-known}
use Rattle.qg_file_commands.proofs.Refused.{early-clone, late-clone, limit-clone}
use Rattle.qg_open_image.proofs.Changed.{clone-here, hand-short, short-files, short-pieces}
use Rattle.qg_file_commands.proofs.Leaves.{follows-edit}
use Rattle.qg_open_image.proofs.Short.{short-left}
use Rattle.qg_open_image.proofs.Stepped.{Follows, IsLate, Reserves, change_to, does_edit, does_nothing, edited}
use Rattle.qg_open_image.proofs.Stepped.{late-refusal, reserves-so}

-- it is refused
pub refuses-clone : (kept : OpenImage) (state : State) (history : History)
    (sub ino off len to_sub to_ino to_off : ℕ) (reason : Refusal) → IsKeptOf kept state history
    → clone_refusal state sub ino off len to_sub to_ino to_off ≡ Some reason
    → Answered state (Clone sub ino off len to_sub to_ino to_off) (Refused reason) [] kept history
refuses-clone kept state history sub ino off len to_sub to_ino to_off reason keeps is =
    does_nothing kept state history (Clone sub ino off len to_sub to_ino to_off) reason keeps
    (early-clone state sub ino off len to_sub to_ino to_off reason is)

-- a limit is passed
pub refuses-limit : (kept : OpenImage) (state : State) (history : History)
    (sub ino off len to_sub to_ino to_off : ℕ) (reason : Refusal) → IsKeptOf kept state history
    → clone_refusal state sub ino off len to_sub to_ino to_off ≡ None
    → over_limit state to_sub state.sizes.nodesize ≡ Some reason
    → Answered state (Clone sub ino off len to_sub to_ino to_off) (Refused reason) [] kept history
refuses-limit kept state history sub ino off len to_sub to_ino to_off reason keeps passes passed =
    does_nothing kept state history (Clone sub ino off len to_sub to_ino to_off) reason keeps
    (limit-clone state sub ino off len to_sub to_ino to_off reason passes passed)

-- the subvolume at hand is the source
pub source-there : (kept : OpenImage) (state : State) (history : History) (keeps : IsKeptOf kept state history)
    (sub : ℕ) → kept.fs.tree.owner ≡ sub → value_at sub state.subvolumes ≡ Some keeps.mine
source-there kept state history keeps sub hand =
    ap (λ (n : ℕ). value_at n state.subvolumes) (sym hand) ∙ keeps.keeps.there

-- a subvolume that was there is there still, as the state is the same
pub target-listed : (old kept : OpenImage) (state : State) (before history : History)
    → IsKeptOf old state before → IsKeptOf kept state history → (sub : ℕ) → has_key sub old.snapshots ≡ true
    → has_key sub kept.snapshots ≡ true
target-listed old kept state before history first keeps sub is =
    sym (sub-known kept state history keeps sub) ∙ sub-known old state before first sub ∙ is

-- It may go on into a file of the subvolume at hand, from a file of a subvolume, and so many pieces are touched
module _ (kept : OpenImage) (state : State) (history : History)
    (bytes sub ino off len to_sub to_ino to_off pieces : ℕ) (source : Subvolume) (fits : IsKept kept history bytes)
    (keeps : IsKeptOf kept state history) (table : IsTable kept.fs.refs.refs)
    (there : value_at sub state.subvolumes ≡ Some source) (hand : to_sub ≡ kept.fs.tree.owner)
    (passes : clone_refusal state sub ino off len to_sub to_ino to_off ≡ None)
    (limits : over_limit state to_sub state.sizes.nodesize ≡ None)
    (touched : pieces ≡ pieces_meeting to_off (to_off + len) (pieces_of to_ino keeps.files)
    + pieces_meeting off (off + len) (pieces_of ino source.files)) where
  abbrev pub files_now : List (ℕ × File)
  files_now = files_cloned_from kept.fs.tree.next (pieces_of ino source.files) off len to_ino to_off keeps.files

  abbrev pub amount : ℕ
  amount = kept.fs.land.space.sizes.nodesize

  passes-here : clone_refusal state sub ino off len kept.fs.tree.owner to_ino to_off ≡ None
  passes-here = ap (λ (n : ℕ). clone_refusal state sub ino off len n to_ino to_off) (sym hand) ∙ passes

  pub is-late : IsLate state (Clone sub ino off len kept.fs.tree.owner to_ino to_off) kept.fs.tree.owner files_now
      amount
      pieces
  is-late = record {
    late = late-clone state sub ino off len kept.fs.tree.owner to_ino to_off passes-here
        (ap (λ (n : ℕ). over_limit state n state.sizes.nodesize) (sym hand) ∙ limits);
    change = clone-here kept state history bytes fits keeps table sub source there ino off len to_ino to_off
        ∙ ap (λ (n : ℕ). Some (change_to kept.fs.tree.owner files_now amount n)) (sym touched);
  }

  pub lacks-slots : (reason : Refusal) → Some reason ≡ slots_refusal kept pieces
      → Answered state (Clone sub ino off len to_sub to_ino to_off) (Refused reason) [] kept history
  lacks-slots reason is =
      subst (λ (n : ℕ). Answered state (Clone sub ino off len n to_ino to_off) (Refused reason) [] kept history)
      (sym hand)
      (does_nothing kept state history (Clone sub ino off len kept.fs.tree.owner to_ino to_off) reason keeps
      (late-refusal kept state history bytes fits keeps table (Clone sub ino off len kept.fs.tree.owner to_ino to_off)
      files_now amount pieces is-late ∙ sym is))

  -- what the machine reserves is what was reserved
  amount-told : (reserved : ℕ) → reserved ≡ clone_reserves kept → reserved ≡ amount
  amount-told reserved is = is ∙ sym (ap (λ (sizes : Sizes). sizes.nodesize) fits.fitted.sizes)

  pub clones : (fs : FsTree) (quota : Option QuotaState) (after : History)
      → None ≡ slots_refusal kept pieces
      → Follows kept fs state keeps.mine history files_now pieces → after ≡ history → Reserves kept quota amount
      → Answered state (Clone sub ino off len to_sub to_ino to_off) Done [] (edited kept fs quota) after
  clones fs quota after enough follows same reserves =
      subst (λ (n : ℕ). Answered state (Clone sub ino off len n to_ino to_off) Done [] (edited kept fs quota) after)
      (sym hand)
      (does_edit kept fs history after bytes state (Clone sub ino off len kept.fs.tree.owner to_ino to_off) Done
      files_now amount pieces fits keeps table is-late enough refl follows same quota reserves (λ done. done))

  -- the range was cloned, and so many bytes were reserved
  pub cloned : (fs : FsTree) (new : OpenImage) (after : History) (left reserved : ℕ)
      → new ≡ edited kept fs new.quota → reserved ≡ clone_reserves kept → Reserves kept new.quota reserved
      → IsTable new.fs.refs.refs → None ≡ slots_refusal kept pieces
      → need_of kept pieces ≤ free_slots kept.fs.land.space
      → LeavesHeld kept.fs fs history after bytes left
      → LeavesFiles kept.fs fs history files_now (pieces_meeting to_off (to_off + len) (pieces_of to_ino keeps.files)
      + pieces_meeting off (off + len) (pieces_of ino source.files))
      → Answered state (Clone sub ino off len to_sub to_ino to_off) Done [] new after
  cloned fs new after left reserved is told reserves table_new none enough held leaves =
      subst (λ (k : OpenImage). Answered state (Clone sub ino off len to_sub to_ino to_off) Done [] k after) (sym is)
      (clones fs new.quota after none
      (follows-edit kept fs history after bytes left state files_now pieces fits keeps table
      (subst (λ (k : OpenImage). IsTable k.fs.refs.refs) is table_new) held
      (subst (λ (n : ℕ). LeavesFiles kept.fs fs history files_now n) (sym touched) leaves)
      ((short-left kept.fs.tree.next keeps.files (hand-short kept state history keeps)).cloned
      (pieces_of ino source.files) off len to_ino to_off
      (short-pieces source.files ino (short-files state sub source keeps.short there))) enough) held.history
      (reserves-so kept new.quota reserved amount (amount-told reserved told) reserves))
