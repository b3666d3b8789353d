use Rattle.std.proofs.Common.{Option, ap, sym, ◌∙◌}
use Rattle.qg_qgroups.specs.declared.state.QuotaState.{QuotaState}
use Rattle.qg_qgroups.specs.OnOrOff.{path_in}
use Rattle.qg_qgroups.specs.Tracked.{IsTracked, quota_of}
use Rattle.qg_file_commands.proofs.ReservedBy.{group-there, judged-all, judged-off, judged-path, said-on}
use Rattle.qg_open_image.proofs.Tables.{key-listed}
use Rattle.qg_file_commands.proofs.reserving.judge.Goals as goal

-- ---- quota is off

pub returns-in-None-clause-value : goal.returns-in-None-clause-value
returns-in-None-clause-value c = λ state names history keeps.
    sym (judged-off c.args.kept.now state history names keeps c.args.sub c.args.n c.in-None.is)

pub returns-in-None-clause-path : goal.returns-in-None-clause-path
returns-in-None-clause-path c =
    c.new.ensures ∙ sym (ap (λ (quota : Option QuotaState). path_in (quota_of quota) c.args.sub) c.in-None.is)

-- ---- quota is on

pub judge-requires : goal.judge-requires
judge-requires c = record {
  tracked = said-on c.args.kept.now.quota IsTracked c.in-Some.quota c.in-Some.is c.requires.fitted.tracked;
  group = group-there c.args.kept.now c.requires.fitted c.in-Some.quota c.in-Some.is c.args.sub
      (key-listed c.args.sub c.args.kept.now.snapshots c.requires.there);
}

pub returns-in-Some-clause-value : goal.returns-in-Some-clause-value
returns-in-Some-clause-value c =
    judged-all c.args.kept.now c.in-Some.quota c.judge.result c.args.sub c.args.n c.in-Some.is c.judge.ensures.value

pub returns-in-Some-clause-path : goal.returns-in-Some-clause-path
returns-in-Some-clause-path c =
    judged-path c.args.kept.now.quota c.in-Some.quota c.judge.result c.args.sub c.in-Some.is c.judge.ensures.path
