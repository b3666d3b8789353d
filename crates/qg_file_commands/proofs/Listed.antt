-- What is told of a file, and why it is not, by what is kept. Sizes are in bytes.
use Rattle.std.proofs.Common.{◌≡◌, ℕ, false, List, [], ◌∷◌, None, Some, Option, refl, sym, ap, subst, ◌∙◌}
use Rattle.std.specs.Prelude.{MatchOption, is_none}
use Rattle.qg_device.specs.History.{History}
use Rattle.qg_num.specs.declared.answer.Answer.TheVariants as answer
use Rattle.qg_num.specs.declared.command.Command.TheVariants.{Ls}
use Rattle.qg_num.specs.declared.refusal.Refusal.{Refusal}
use Rattle.qg_num.specs.declared.refusal.Refusal.TheVariants as why
use Rattle.qg_image.specs.declared.file.File.{File}
use Rattle.qg_image.specs.ItemMeaning.{first_some}
use Rattle.qg_image.specs.Table.{has_key, value_at}
use Rattle.qg_image.specs.State.{State, file_at}
use Rattle.qg_machine.specs.Refusals.{no_file, refusal, refuse}
use Rattle.qg_machine.specs.Step.{Step, file_told}
use Rattle.qg_machine.specs.Step as machine
use Rattle.qg_open_image.specs.declared.open_image.OpenImage.{OpenImage}
use Rattle.qg_open_image.specs.Answering.{Answered}
use Rattle.qg_open_image.specs.Keeping.{IsKeptOf}
use Rattle.qg_open_image.proofs.Known.{file-known, file-missing, hand-there, no-other}
use Rattle.qg_open_image.proofs.Stepped.{does_nothing}

-- there is no such subvolume, which a tree was asked of before
pub lists-no-sub : (old kept : OpenImage) (state : State) (history : History) (sub ino : ℕ)
    → IsKeptOf old state history → IsKeptOf kept state history → has_key sub old.snapshots ≡ false
    → Answered state (Ls sub ino) (answer.Refused why.NoSub) [] kept history
unfolding refusal
lists-no-sub old kept state history sub ino before keeps other =
    does_nothing kept state history (Ls sub ino) why.NoSub keeps
    (ap (λ (first : Option Refusal). first_some (first ∷ no_file state sub ino ∷ []))
    (no-other old state history before sub other))

module _ (kept : OpenImage) (state : State) (history : History) (sub ino : ℕ)
    (keeps : IsKeptOf kept state history) where
  -- a file of the subvolume at hand is there, or not
  refused : (file : Option File) → value_at ino keeps.files ≡ file
      → refusal state (Ls kept.fs.tree.owner ino) ≡ first_some (refuse (is_none file) why.NoFile ∷ [])
  unfolding refusal
  refused file is =
      ap (λ (first : Option Refusal). first_some (first ∷ no_file state kept.fs.tree.owner ino ∷ []))
      (hand-there kept state history keeps)
      ∙ ap (λ (second : Option Refusal). first_some (second ∷ [])) (file-missing kept state history keeps ino)
      ∙ ap (λ (o : Option File). first_some (refuse (is_none o) why.NoFile ∷ [])) is

  pub lists-no-file : sub ≡ kept.fs.tree.owner → value_at ino keeps.files ≡ None
      → Answered state (Ls sub ino) (answer.Refused why.NoFile) [] kept history
  lists-no-file top none =
      subst (λ (sub : ℕ). Answered state (Ls sub ino) (answer.Refused why.NoFile) [] kept history) (sym top)
      (does_nothing kept state history (Ls kept.fs.tree.owner ino) why.NoFile keeps (refused None none))

  steps : (file : File) → value_at ino keeps.files ≡ Some file
      → Step state (Ls kept.fs.tree.owner ino) (answer.File file.size file.pieces) [] state
  steps file is =
      let reply = answer.File file.size file.pieces in
      let tells : file_told (file_at state kept.fs.tree.owner ino) ≡ Some reply =
      ap file_told (file-known kept state history keeps ino ∙ is) in
      let done : machine.Does state (Ls kept.fs.tree.owner ino) reply [] state = (tells, (refl, refl)) in
      subst (λ (o : Option Refusal). MatchOption o (machine.Does state (Ls kept.fs.tree.owner ino) reply [] state)
      (λ reason. (reply ≡ answer.Refused reason) × machine.Stays state [] state)) (sym (refused (Some file) is)) done

  pub lists : (file : File) → sub ≡ kept.fs.tree.owner → value_at ino keeps.files ≡ Some file
      → Answered state (Ls sub ino) (answer.File file.size file.pieces) [] kept history
  lists file top is = record {
    new = state;
    step = subst (λ (sub : ℕ). Step state (Ls sub ino) (answer.File file.size file.pieces) [] state) (sym top)
        (steps file is);
    keeps = keeps;
    reserved = keeps.reserve;
  }
