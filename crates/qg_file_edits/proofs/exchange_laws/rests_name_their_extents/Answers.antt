use Rattle.std.proofs.Common.{refl}
use Rattle.qg_file_edits.proofs.Rests.{cut-rests, parts-named, range-rests}
use Rattle.qg_file_edits.proofs.exchange_laws.rests_name_their_extents.Goals as goal

pub returns-clause-range : goal.returns-clause-range
returns-clause-range c = range-rests

pub returns-clause-size : goal.returns-clause-size
returns-clause-size c = cut-rests

pub returns-clause-parts : goal.returns-clause-parts
returns-clause-parts c = parts-named

pub returns-clause-moved : goal.returns-clause-moved
returns-clause-moved c from to piece = refl
