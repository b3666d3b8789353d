use Rattle.qg_script.proofs.Rows.{reads_none, only_owners, owners_read}
use Rattle.qg_script.proofs.parse.read_owners.Goals as goal

pub returns-in_err-address : goal.returns-in_err-address
returns-in_err-address c =
    reads_none c.from_residual.result c.from_residual.ensures
    (only_owners (λ command. ⊥) c.args.rest.now (λ address are. c.in_err-address.ensures.none _ are))

pub returns : goal.returns
returns c = record { command = owners_read c.in_ok-address.ensures.found; none = tt }
