use Rattle.std.proofs.Common.{◌≡◌, Option, None, refl, ap, sym, subst, ◌∙◌, arith}
use Rattle.std.specs.Prelude.{IsSome}
use Rattle.qg_delayed.specs.declared.change.Change.{Change}
use Rattle.qg_delayed.specs.Changes.{change_of}
use Rattle.qg_delayed.specs.Entry.{with_listed}
use Rattle.qg_delayed.specs.Merged.{change_in, others_in}
use Rattle.qg_delayed.proofs.Books.{has_here}
use Rattle.qg_delayed.proofs.Listing.{with_own}
use Rattle.qg_delayed.proofs.Learning.{handed, learns_listed, memory_handed, none_is, told_listed, told_within}
use Rattle.qg_delayed.proofs.delayed.Delayed.look_up_reference.Goals as goal

pub returns-in_err-list-clause-no_image : goal.returns-in_err-list-clause-no_image
returns-in_err-list-clause-no_image g c below holds fits =
    let entry = c.entry.result.now in
    let none : change_of c.args.reference entry.changes ≡ None =
    sym c.get.ensures ∙ none_is c.get.result (sym c.is_some.ensures ∙ c.if-is_some.false) in
    let within = told_within below c.args.self.now c.args.at c.args.reference c.in_ok-count.count entry
    c.entry.ensures.sound c.entry.ensures.found none (c.in_ok-count.ensures.exact below holds fits) fits in
    memory_handed c.from_residual-in_err-list.result _
    (handed c.from_residual-in_err-list.result _ c.from_residual-in_err-list.ensures.1)
    (c.in_err-list.ensures.no_image (omega (arith, within, ap others_in c.entry.ensures.found)))

pub returns-clause-known : goal.returns-clause-known
returns-clause-known g c =
    let taken = c.in_ok-list.ensures.listed in
    let n = c.in_ok-count.count in
    let change : Change = record { reference = c.args.reference; below = n; now = n } in
    subst (λ (o : Option Change). IsSome o)
    (sym (ap (change_in c.args.reference) (has_here c.args.self.now c.list.new.self c.args.at
    (with_listed c.args.reference n taken.entry) taken.listed)
    ∙ with_own change taken.entry.changes)) refl

pub returns-clause-learns : goal.returns-clause-learns
returns-clause-learns g c =
    let taken = c.in_ok-list.ensures.listed in
    learns_listed c.args.self.now c.list.new.self c.args.at c.args.reference c.in_ok-count.count taken.entry taken.sound
    taken.there taken.new_there taken.within taken.listed

pub returns-clause-told : goal.returns-clause-told
returns-clause-told g c below holds fits =
    let taken = c.in_ok-list.ensures.listed in
    told_listed below c.args.self.now c.list.new.self c.args.at c.args.reference c.in_ok-count.count taken.entry
    taken.sound taken.there taken.new_there taken.within (c.in_ok-count.ensures.exact below holds fits) taken.listed fits
