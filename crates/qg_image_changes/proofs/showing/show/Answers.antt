use Rattle.std.proofs.Common.{List, Option, map, sym, ap, ◌∙◌}
use Rattle.qg_num.specs.declared.answer.Answer.TheVariants.{Shown}
use Rattle.qg_num.specs.declared.answer.Row.{Row}
use Rattle.qg_machine.specs.Step.{row_of}
use Rattle.qg_qgroups.specs.declared.state.QuotaState.{QuotaState}
use Rattle.qg_qgroups.specs.Tracked.{quota_of}
use Rattle.qg_open_image.specs.Answering.{shown}
use Rattle.qg_image_changes.proofs.showing.show.Goals as goal

pub returns-in-None : goal.returns-in-None
returns-in-None c = ap (λ (quota : Option QuotaState). shown (quota_of quota)) (sym c.in-None.is)

pub returns-in_ok-rows-in-Some : goal.returns-in_ok-rows-in-Some
returns-in_ok-rows-in-Some c =
    ap (λ (rows : List Row). Shown rows) (c.in_ok-rows-in-Some.ensures ∙ ap (map row_of) c.as_slice.ensures)
    ∙ ap (λ (quota : Option QuotaState). shown (quota_of quota)) (sym c.in-Some.is)
