use Rattle.std.proofs.lemmas.Bool.{false≢true}
use Rattle.qg_owner_rule.proofs.Housing.{owners_mark_is, owners_mark_none}
use Rattle.qg_owner_rule.proofs.housed.has_owners_mark.Goals as goal

pub returns-in-Some : goal.returns-in-Some
returns-in-Some c =
    let mark =
    owners_mark_is c.args.group.now c.args.marks c.in-Some.bit c.args.node.now c.requires.numbers
    c.in-Some.ensures.there in
    (λ has. mark.1 (c.has_mark.ensures.0 has), λ has. c.has_mark.ensures.1 (mark.0 has))

pub returns-in-None : goal.returns-in-None
returns-in-None c = (
  λ has. absurd (false≢true has),
  λ has.
      absurd (owners_mark_none c.args.group.now c.args.marks c.args.node.now c.in-None.ensures.absent has),
)
