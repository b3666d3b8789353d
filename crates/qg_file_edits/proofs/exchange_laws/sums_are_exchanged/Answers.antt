use Rattle.qg_file_edits.proofs.ExchangedSums.{sums-exchanged}
use Rattle.qg_file_edits.proofs.exchange_laws.sums_are_exchanged.Goals as goal

pub returns : goal.returns
returns c = sums-exchanged
