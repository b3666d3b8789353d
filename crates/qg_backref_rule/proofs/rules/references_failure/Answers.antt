use Rattle.std.proofs.Common.{sym, ◌∙◌}
use Rattle.qg_backref_rule.proofs.FirstFailure.{refs_told, home_told}
use Rattle.qg_backref_rule.proofs.rules.references_failure.Goals as goal

pub returns-then-is_some : goal.returns-then-is_some
returns-then-is_some c super image layout is told links =
    c.broken.ensures
    ∙ refs_told super image layout c.args.parts.now c.in_ok-refs.refs is (c.in_ok-refs.ensures layout told)
    (sym c.is_some.ensures ∙ c.if-is_some.true)

pub returns : goal.returns
returns c super image layout is told links =
    c.broken-2.ensures
    ∙ home_told super image layout c.args.parts.now c.in_ok-refs.refs c.in_ok-home.home is
    (c.in_ok-refs.ensures layout told) (c.in_ok-home.ensures layout links)
    (sym c.is_some.ensures ∙ c.if-is_some.false)
