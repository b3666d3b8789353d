use Rattle.std.proofs.Common.{◌≡◌, None, refl, ap, sym, ◌∙◌, arith}
use Rattle.qg_refs.specs.Book.{count_at}
use Rattle.qg_delayed.specs.Changes.{change_of}
use Rattle.qg_delayed.specs.Merged.{change_in}
use Rattle.qg_delayed.proofs.Learning.{told_within}
use Rattle.qg_delayed.proofs.delayed.Delayed.count_below.Goals as goal

pub returns-then-entry-eq0-clause-exact : goal.returns-then-entry-eq0-clause-exact
returns-then-entry-eq0-clause-exact g c below holds fits =
    let entry = c.entry.result.now in
    let none : change_of c.args.reference entry.changes ≡ None =
    sym (ap (change_in c.args.reference) c.entry.ensures.found) ∙ c.requires.new in
    let within = told_within below c.args.self.now c.args.at c.args.reference
    (count_at below c.args.at c.args.reference) entry c.entry.ensures.sound c.entry.ensures.found none refl fits in
    omega (arith, within, c.if-entry-eq0.true)
