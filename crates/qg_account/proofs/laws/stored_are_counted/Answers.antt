use Rattle.qg_account.proofs.GroupsAddUp.{counted-in-order, stored-counted}
use Rattle.qg_account.proofs.laws.stored_are_counted.Goals as goal

pub returns : goal.returns
returns c = record { stored = stored-counted; order = counted-in-order }
