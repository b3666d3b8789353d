use Rattle.std.proofs.Common.{◌≡◌, ◌<◌, List, length, get_or, ap, subst, ◌∙◌}
use Rattle.qg_delayed.specs.declared.change.Change.{Change}
use Rattle.qg_delayed.specs.Changes.{with_change}
use Rattle.qg_delayed.proofs.Listing.{set_with}
use Rattle.qg_delayed.proofs.changes.Changes.replace.Goals as goal

pub returns : goal.returns
returns c =
    let xs = c.self.inside.list.items in
    let i = c.in-Some.index in
    let change = c.args.change in
    set_with xs i change c.self.invariant
    (subst (λ (ws : List Change). i < length ws) c.deref.ensures.value c.in-Some.ensures.inside)
    (λ d. subst (λ (ws : List Change). (get_or ws i d).reference ≡ change.reference) c.deref.ensures.value
    (c.in-Some.ensures.at d))
    ∙ ap (λ (ws : List Change). with_change change ws) c.self.view_is
