use Rattle.qg_file_edits.proofs.Applied.{makes-exchange}
use Rattle.qg_file_edits.proofs.exchange_laws.steps_make_the_exchange.Goals as goal

pub returns : goal.returns
returns c = makes-exchange
