use Rattle.qg_super.proofs.SuperTexts.{one_place, one_super, super_reads_back, super_writes_back}
use Rattle.qg_super.proofs.laws.round_trips.Goals as goal

pub returns-clause-reads_back : goal.returns-clause-reads_back
returns-clause-reads_back c = super_reads_back

pub returns-clause-writes_back : goal.returns-clause-writes_back
returns-clause-writes_back c = super_writes_back

pub returns-clause-one_super : goal.returns-clause-one_super
returns-clause-one_super c = one_super

pub returns-clause-one_place : goal.returns-clause-one_place
returns-clause-one_place c = one_place
