use Rattle.std.proofs.Common.{ap, sym, ◌∙◌, Option}
use Rattle.std.specs.Option.{option_copied}
use Rattle.qg_extents.specs.Types.{Kept}
use Rattle.qg_extents.specs.Table.{book_of}
use Rattle.qg_weighed.specs.Weight.{lacking}
use Rattle.qg_weighed.proofs.Known.{lacks-none, lacks-some}
use Rattle.qg_weighed.proofs.lacking.lacking.Goals as goal

pub returns-then-has_reference : goal.returns-then-has_reference
returns-then-has_reference c =
    let held = book_of c.args.held.now c.args.at in
    let there = sym c.has_reference.ensures ∙ c.if-has_reference.true in
    let none = lacks-none held (option_copied c.kept-here.result) c.args.what.now c.args.reference.now there in
    none ∙ ap (λ (here : Option Kept). lacking held here c.args.what.now c.args.reference.now) c.kept-here.ensures

pub returns : goal.returns
returns c =
    let none = sym c.has_reference.ensures ∙ c.if-has_reference.false in
    let some = lacks-some (option_copied c.kept.result) (option_copied c.kept-here.result) c.args.what.now
    c.args.reference.now c.lacking_of.result none c.lacking_of.ensures in
    some
    ∙ ap (λ (held : Option Kept). lacking held (option_copied c.kept-here.result) c.args.what.now c.args.reference.now)
    c.kept.ensures
    ∙ ap (λ (here : Option Kept). lacking (book_of c.args.held.now c.args.at) here c.args.what.now
    c.args.reference.now) c.kept-here.ensures
