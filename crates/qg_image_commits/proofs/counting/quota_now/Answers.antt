use Rattle.std.proofs.Common.{length}
use Rattle.qg_image_commits.proofs.OnOff.{ascend-on, laid-off, laid-on, many-on}
use Rattle.qg_image_commits.proofs.counting.quota_now.Goals as goal

pub returns-in-None : goal.returns-in-None
returns-in-None c = laid-off c.args.next c.args.counts.now c.args.quota.now c.in-None.is

-- ---- it is on

pub quota_by-requires-clause-ascending : goal.quota_by-requires-clause-ascending
quota_by-requires-clause-ascending c =
    ascend-on c.args.quota.now c.in-Some.state c.in-Some.is c.requires.ascending

pub quota_by-requires-clause-all : goal.quota_by-requires-clause-all
quota_by-requires-clause-all c =
    many-on c.args.quota.now c.in-Some.state (length c.args.counts.now) c.in-Some.is c.requires.all

pub returns-in_ok-now-in-Some : goal.returns-in_ok-now-in-Some
returns-in_ok-now-in-Some c =
    laid-on c.args.next c.args.counts.now c.args.quota.now c.in-Some.state c.in_ok-now-in-Some.now c.in-Some.is
    c.in_ok-now-in-Some.ensures
