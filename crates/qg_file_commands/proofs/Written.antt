-- What comes of a write whose range may be written, told by what is kept. Positions and lengths are in bytes.
use Rattle.std.proofs.Common.{◌≡◌, ℕ, ◌+◌, ◌≤◌, List, [], Some, None, Option, sym, ap, subst, ◌∙◌}
use Rattle.std.specs.Option.{option_map}
use Rattle.qg_device.specs.History.{History}
use Rattle.qg_num.specs.declared.answer.Answer.TheVariants.{Extent, Refused}
use Rattle.qg_num.specs.declared.command.Command.TheVariants.{Write}
use Rattle.qg_num.specs.declared.refusal.Refusal.{Refusal}
use Rattle.qg_num.specs.declared.refusal.Refusal.TheVariants as why
use Rattle.qg_super.specs.declared.sizes.Sizes.{Sizes}
use Rattle.qg_image.specs.declared.file.File.{File}
use Rattle.qg_image.specs.State.{State}
use Rattle.qg_image.specs.Space.{first_run}
use Rattle.qg_image.specs.Verdict.{longest_extent}
use Rattle.qg_machine.specs.FileChange.{pieces_meeting}
use Rattle.qg_machine.specs.Refusals.{over_limit}
use Rattle.qg_space.specs.Holding.{free_slots}
use Rattle.qg_extents.specs.Table.{IsTable}
use Rattle.qg_qgroups.specs.declared.state.QuotaState.{QuotaState}
use Rattle.qg_open_image.specs.Types.{FsTree}
use Rattle.qg_open_image.specs.Changes.{files_written}
use Rattle.qg_open_image.specs.Files.{LeavesFiles, LeavesHeld, pieces_of}
use Rattle.qg_open_image.specs.declared.open_image.OpenImage.{OpenImage}
use Rattle.qg_open_image.specs.Answering.{Answered}
use Rattle.qg_open_image.specs.Editing.{range_refusal, slots_refusal, write_reserves}
use Rattle.qg_open_image.specs.Keeping.{IsKept, IsKeptOf, need_of}
use Rattle.qg_file_commands.proofs.Refused.{early-write, late-write, limit-write, runless-write}
use Rattle.qg_open_image.proofs.Changed.{changes-here, hand-short}
use Rattle.qg_file_commands.proofs.Leaves.{follows-edit}
use Rattle.qg_open_image.proofs.Short.{short-left}
use Rattle.qg_open_image.proofs.Stepped.{Follows, IsLate, Reserves, change_to, does_edit, does_nothing, edited}
use Rattle.qg_open_image.proofs.Stepped.{late-refusal, reserves-so}

-- the range may not be written
pub refuses-range : (kept : OpenImage) (state : State) (history : History) (sub ino off len : ℕ)
    (reason : Refusal) → IsKeptOf kept state history → Some reason ≡ range_refusal state sub off len
    → Answered state (Write sub ino off len) (Refused reason) [] kept history
refuses-range kept state history sub ino off len reason keeps is =
    does_nothing kept state history (Write sub ino off len) reason keeps
    (early-write state sub ino off len reason (sym is))

-- a limit is passed
pub refuses-limit : (kept : OpenImage) (state : State) (history : History) (sub ino off len : ℕ)
    (reason : Refusal) → IsKeptOf kept state history → None ≡ range_refusal state sub off len
    → over_limit state sub (len + state.sizes.nodesize) ≡ Some reason
    → Answered state (Write sub ino off len) (Refused reason) [] kept history
refuses-limit kept state history sub ino off len reason keeps range passed =
    does_nothing kept state history (Write sub ino off len) reason keeps
    (limit-write state sub ino off len reason (sym range) passed)

-- no run is free
pub lacks-run : (kept : OpenImage) (state : State) (history : History) (sub ino off len : ℕ)
    → IsKeptOf kept state history → None ≡ range_refusal state sub off len
    → over_limit state sub (len + state.sizes.nodesize) ≡ None
    → None ≡ first_run state len → Answered state (Write sub ino off len) (Refused why.NoRun) [] kept history
lacks-run kept state history sub ino off len keeps range limits none =
    does_nothing kept state history (Write sub ino off len) why.NoRun keeps
    (runless-write state sub ino off len (sym range) limits (sym none))

-- a run is free, and so many pieces are touched
module _ (kept : OpenImage) (state : State) (history : History) (bytes sub ino off len run pieces : ℕ)
    (fits : IsKept kept history bytes) (keeps : IsKeptOf kept state history) (table : IsTable kept.fs.refs.refs)
    (top : sub ≡ kept.fs.tree.owner) (range : None ≡ range_refusal state sub off len)
    (limits : over_limit state sub (len + state.sizes.nodesize) ≡ None) (found : Some run ≡ first_run state len)
    (touched : pieces ≡ pieces_meeting off (off + len) (pieces_of ino keeps.files)) where
  abbrev pub files_now : List (ℕ × File)
  files_now = files_written kept.fs.tree.next ino off len run keeps.files

  abbrev pub amount : ℕ
  amount = len + kept.fs.land.space.sizes.nodesize

  pub is-late : IsLate state (Write kept.fs.tree.owner ino off len) kept.fs.tree.owner files_now amount pieces
  is-late = record {
    late = late-write state kept.fs.tree.owner ino off len run
        (ap (λ (sub : ℕ). range_refusal state sub off len) (sym top) ∙ sym range)
        (ap (λ (sub : ℕ). over_limit state sub (len + state.sizes.nodesize)) (sym top) ∙ limits) (sym found);
    change = (changes-here kept state history bytes fits keeps table).write ino off len run (sym found)
        ∙ ap (λ (n : ℕ). Some (change_to kept.fs.tree.owner files_now amount n)) (sym touched);
  }

  pub lacks-slots : (reason : Refusal) → Some reason ≡ slots_refusal kept pieces
      → Answered state (Write sub ino off len) (Refused reason) [] kept history
  lacks-slots reason is =
      subst (λ (sub : ℕ). Answered state (Write sub ino off len) (Refused reason) [] kept history) (sym top)
      (does_nothing kept state history (Write kept.fs.tree.owner ino off len) reason keeps
      (late-refusal kept state history bytes fits keeps table (Write kept.fs.tree.owner ino off len) files_now amount
      pieces
      is-late ∙ sym is))

  -- what the machine reserves is what was reserved
  amount-told : (reserved : ℕ) → reserved ≡ write_reserves kept len → reserved ≡ amount
  amount-told reserved is =
      is ∙ ap (λ (nodesize : ℕ). len + nodesize) (sym (ap (λ (sizes : Sizes). sizes.nodesize) fits.fitted.sizes))

  pub writes : (fs : FsTree) (quota : Option QuotaState) (after : History)
      → None ≡ slots_refusal kept pieces
      → Follows kept fs state keeps.mine history files_now pieces → after ≡ history → Reserves kept quota amount
      → Answered state (Write sub ino off len) (Extent run) [] (edited kept fs quota) after
  writes fs quota after enough follows same reserves =
      subst (λ (sub : ℕ). Answered state (Write sub ino off len) (Extent run) [] (edited kept fs quota) after) (sym top)
      (does_edit kept fs history after bytes state (Write kept.fs.tree.owner ino off len) (Extent run) files_now amount
      pieces
      fits keeps table is-late enough (ap (option_map (λ (extent : ℕ). Extent extent)) (sym found)) follows same quota
      reserves (λ done. done))

  -- the run was written there, and so many bytes were reserved
  pub written : (fs : FsTree) (new : OpenImage) (after : History) (left reserved : ℕ)
      → new ≡ edited kept fs new.quota → reserved ≡ write_reserves kept len → Reserves kept new.quota reserved
      → IsTable new.fs.refs.refs → None ≡ slots_refusal kept pieces
      → need_of kept pieces ≤ free_slots kept.fs.land.space
      → LeavesHeld kept.fs fs history after bytes left
      → LeavesFiles kept.fs fs history files_now (pieces_meeting off (off + len) (pieces_of ino keeps.files))
      → len ≤ longest_extent → Answered state (Write sub ino off len) (Extent run) [] new after
  written fs new after left reserved is told reserves table_new none enough held leaves few =
      subst (λ (k : OpenImage). Answered state (Write sub ino off len) (Extent run) [] k after) (sym is)
      (writes fs new.quota after none
      (follows-edit kept fs history after bytes left state files_now pieces fits keeps table
      (subst (λ (k : OpenImage). IsTable k.fs.refs.refs) is table_new) held
      (subst (λ (n : ℕ). LeavesFiles kept.fs fs history files_now n) (sym touched) leaves)
      ((short-left kept.fs.tree.next keeps.files (hand-short kept state history keeps)).written ino off len run few)
      enough)
      held.history (reserves-so kept new.quota reserved amount (amount-told reserved told) reserves))
