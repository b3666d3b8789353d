use Rattle.std.proofs.Common.{Some, ap}
use Rattle.qg_words.proofs.FormsOfMatches.{met-told, none-told}
use Rattle.qg_words.proofs.parse.form_of.Goals as goal

pub returns-in-Some : goal.returns-in-Some
returns-in-Some c = λ form told. ap Some (c.form_named.ensures form
    (met-told c.args.matches.now _ _ form c.in-Some.ensures.name c.in-Some.ensures.rows told))

pub returns-in-None : goal.returns-in-None
returns-in-None c = λ form told. absurd (none-told c.args.matches.now form c.in-None.ensures.name told)
