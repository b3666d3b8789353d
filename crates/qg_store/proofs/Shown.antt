-- What the machine does where the counters are shown, by what is kept.
use Rattle.std.proofs.Common.{◌≡◌, [], None, Some, Option, refl, sym, ap, subst, ◌∙◌}
use Rattle.std.specs.Prelude.{List, MatchOption, is_some, not}
use Rattle.qg_device.specs.History.{History}
use Rattle.qg_num.specs.declared.answer.Answer.{Answer}
use Rattle.qg_num.specs.declared.answer.Answer.TheVariants.{Refused, Shown}
use Rattle.qg_num.specs.declared.command.Command.TheVariants.{Show}
use Rattle.qg_num.specs.declared.refusal.Refusal.{Refusal}
use Rattle.qg_num.specs.declared.refusal.Refusal.TheVariants as why
use Rattle.qg_image.specs.declared.quota.Quota.{Quota}
use Rattle.qg_image.specs.State.{State}
use Rattle.qg_machine.specs.Refusals.{refusal, refuse}
use Rattle.qg_machine.specs.Step.{rows_of}
use Rattle.qg_machine.specs.Step as machine
use Rattle.qg_qgroups.specs.Tracked.{quota_of}
use Rattle.qg_image_commits.specs.Types.{OpenImage}
use Rattle.qg_image_commits.specs.Answering.{Answered, shown}
use Rattle.qg_image_commits.specs.Keeping.{IsKeptOf}

-- it is refused while quota is off
refused_so : (state : State) (quota : Option Quota) → state.quota ≡ quota
    → refusal state Show ≡ refuse (not (is_some quota)) why.NoQuota
unfolding refusal
refused_so state quota is = ap (λ (o : Option Quota). refuse (not (is_some o)) why.NoQuota) is

-- and told else
told_so : (state : State) (reply : Answer) (quota : Option Quota) → state.quota ≡ quota → reply ≡ shown quota
    → MatchOption (refuse (not (is_some quota)) why.NoQuota) (machine.Does state Show reply [] state)
    (λ reason. (reply ≡ Refused reason) × machine.Stays state [] state)
told_so state reply None off is = (is, (refl, refl))
told_so state reply (Some quota) on is =
    (is ∙ ap (λ (o : Option Quota). Shown (rows_of o)) (sym on), (refl, refl))

-- the state stays
pub does_show : (kept : OpenImage) (state : State) (reply : Answer) (history : History)
    → IsKeptOf kept state history → reply ≡ shown (quota_of kept.quota) → Answered state Show reply [] kept history
does_show kept state reply history keeps is = record {
  new = state;
  step = subst (λ (refused : Option Refusal). MatchOption refused (machine.Does state Show reply [] state)
      (λ reason. (reply ≡ Refused reason) × machine.Stays state [] state))
      (sym (refused_so state (quota_of kept.quota) keeps.quota))
      (told_so state reply (quota_of kept.quota) keeps.quota is);
  keeps = keeps;
  reserved = keeps.reserve;
}
