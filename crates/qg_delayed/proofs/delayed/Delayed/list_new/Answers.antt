use Rattle.std.proofs.Common.{◌≡◌, None, ap, sym, ◌∙◌, arith}
use Rattle.qg_delayed.specs.Changes.{change_of}
use Rattle.qg_delayed.specs.Merged.{others_in}
use Rattle.qg_delayed.proofs.AllListed.{more_listed, no_memory}
use Rattle.qg_delayed.proofs.Learning.{handed, learns_listed, none_is, told_listed, told_within}
use Rattle.qg_delayed.proofs.delayed.Delayed.list_new.Goals as goal

pub returns-clause-known : goal.returns-clause-known
returns-clause-known c =
    let taken = c.in_ok-list.ensures.listed in
    more_listed c.args.self.now c.list.new.self c.args.at c.args.counted.now.reference c.args.counted.now.count
    taken.entry taken.there taken.listed

pub returns-clause-learns : goal.returns-clause-learns
returns-clause-learns c =
    let taken = c.in_ok-list.ensures.listed in
    learns_listed c.args.self.now c.list.new.self c.args.at c.args.counted.now.reference c.args.counted.now.count
    taken.entry taken.sound taken.there taken.new_there taken.within taken.listed

pub returns-clause-told : goal.returns-clause-told
returns-clause-told c below count fits =
    let taken = c.in_ok-list.ensures.listed in
    told_listed below c.args.self.now c.list.new.self c.args.at c.args.counted.now.reference c.args.counted.now.count
    taken.entry taken.sound taken.there taken.new_there taken.within (sym count) taken.listed fits

pub returns-in_err-list-clause-no_image : goal.returns-in_err-list-clause-no_image
returns-in_err-list-clause-no_image c below count fits =
    let entry = c.entry.result.now in
    let none : change_of c.args.counted.now.reference entry.changes ≡ None =
    sym c.get.ensures ∙ none_is c.get.result (sym c.is_some.ensures ∙ c.if-is_some.false) in
    let within = told_within below c.args.self.now c.args.at c.args.counted.now.reference c.args.counted.now.count
    entry c.entry.ensures.sound c.entry.ensures.found none (sym count) fits in
    no_memory c.from_residual.result _ (handed c.from_residual.result _ c.from_residual.ensures.1)
    (c.in_err-list.ensures.no_image (omega (arith, within, ap others_in c.entry.ensures.found)))
