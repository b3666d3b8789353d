use Rattle.qg_script.proofs.Adding.{front_before, then_added, stopped}
use Rattle.qg_script.proofs.reply.write_refused.Goals as goal

pub returns-in_err-write_refusal : goal.returns-in_err-write_refusal
returns-in_err-write_refusal c =
    stopped _ c.from_residual.ensures.0 (front_before _ c.in_err-write_refusal.ensures.no_memory)

pub returns : goal.returns
returns c =
    then_added _ c.in_ok-write_refusal.ensures c.add.ensures
