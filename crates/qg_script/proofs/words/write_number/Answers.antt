use Rattle.qg_script.proofs.Adding.{then_added}
use Rattle.qg_script.proofs.words.write_number.Goals as goal

pub returns : goal.returns
returns c = then_added _ c.in_ok-add.ensures c.write_decimal.ensures
