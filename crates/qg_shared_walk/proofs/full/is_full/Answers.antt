use Rattle.std.proofs.Common.{◌∙◌}
use Rattle.qg_shared_walk.proofs.Searching.{searched_is}
use Rattle.qg_shared_walk.proofs.full.is_full.Goals as goal

pub returns : goal.returns
returns c =
    c.is_ok.ensures.value
    ∙ searched_is c.args.full.now c.args.address c.binary_search.result c.binary_search.ensures.position c.requires
