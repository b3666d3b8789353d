use Rattle.qg_crashes.proofs.Outcomes.{chain_survives, opening_survives, run_survives}
use Rattle.qg_crashes.proofs.images.a_crash_leaves_one_of_the_commits.Goals as goal

pub returns-clause-commits : goal.returns-clause-commits
returns-clause-commits c = chain_survives

pub returns-clause-opening : goal.returns-clause-opening
returns-clause-opening c = opening_survives

pub returns-clause-run : goal.returns-clause-run
returns-clause-run c = run_survives
