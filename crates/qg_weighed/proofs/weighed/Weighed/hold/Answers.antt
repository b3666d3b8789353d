use Rattle.std.proofs.Common.{◌∙◌, ap, subst, sym}
use Rattle.qg_weighed.specs.Weight.{Books, IsWeighed}
use Rattle.qg_weighed.proofs.weighed.Weighed.hold.Goals as goal

pub invariant_of-self : goal.invariant_of-self
invariant_of-self c =
    subst (λ refs. IsWeighed refs c.copy.inside.refs c.copy.inside.bytes)
    (c.copy.view_is ∙ c.requires ∙ sym (ap (λ (books : Books). books.refs) c.self.view_is)) c.copy.invariant
