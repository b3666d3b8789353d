use Rattle.std.proofs.Common.{◌∙◌}
use Rattle.qg_quota.proofs.Search.{searched-pair}
use Rattle.qg_quota.proofs.rules.has_relation.Goals as goal

pub returns : goal.returns
returns c =
    c.is_ok.ensures.value
    ∙ searched-pair c.args.relations.now c.args.of c.args.other c.binary_search.result c.requires
    c.binary_search.ensures.bound c.binary_search.ensures.position
