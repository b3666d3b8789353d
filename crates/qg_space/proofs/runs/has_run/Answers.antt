use Rattle.std.proofs.Common.{sym, ap, ◌∙◌, arith}
use Rattle.std.specs.Prelude.{◌&&◌}
use Rattle.qg_super.specs.Places.{data_begin}
use Rattle.qg_space.specs.Run.{Run}
use Rattle.qg_space.specs.Holding.{is_that_run}
use Rattle.qg_space.proofs.Apart.{addresses_rise, has_none, has_at}
use Rattle.qg_space.proofs.runs.has_run.Goals as goal

pub runs_before-place-requires : goal.runs_before-place-requires
runs_before-place-requires c = addresses_rise c.args.sizes.now data_begin c.args.runs.now c.requires

pub returns-in-None : goal.returns-in-None
returns-in-None c = sym (has_none c.args.runs.now c.runs_before-place.result c.args.at c.args.bytes
    c.in-None.ensures.lookup.3 c.runs_before-place.ensures.before)

pub returns-in-Some : goal.returns-in-Some
returns-in-Some c =
    let runs = c.args.runs.now in
    let place = c.runs_before-place.result in
    let run = c.in-Some.run'.now in
    let read = c.in-Some.ensures.lookup.1 in
    let short = c.in-Some.ensures.lookup.3.0 in
    c.is_present.ensures ∙ ap (λ (r : Run). is_that_run c.args.at c.args.bytes r.extent && r.present) read
    ∙ sym (has_at c.args.sizes.now data_begin runs place c.args.at c.args.bytes run c.requires short
    c.runs_before-place.ensures.before (c.runs_before-place.ensures.others place run (omega arith) short))
