use Rattle.std.proofs.Common.{ap, ◌∙◌, length, subst, sym, arith}
use Rattle.std.specs.List.{insert}
use Rattle.std.specs.List.Sorted.{IsNonDecreasingBy}
use Rattle.qg_super.specs.Places.{data_begin}
use Rattle.qg_space.specs.Run.{Run}
use Rattle.qg_space.proofs.Apart.{addresses_rise}
use Rattle.qg_space.proofs.Edits.{IsPut, clear_fits, put_kept}
use Rattle.qg_space.proofs.Fronts.{same_before_put}
use Rattle.qg_space.proofs.runs.put_run.Goals as goal
use Rattle.qg_space.proofs.runs.put_run.Goals.{In_ok-insert}

pub runs_before-place-requires : goal.runs_before-place-requires
runs_before-place-requires c =
    subst (IsNonDecreasingBy (λ (run : Run). run.extent.address)) (sym c.deref.ensures.value)
    (addresses_rise c.args.sizes.now data_begin c.args.runs.now.items c.requires.apart)

pub new-requires : goal.new-requires
new-requires c = clear_fits c.args.sizes.now c.args.runs.now.items c.args.extent c.requires.served c.requires.clear

put : (c : In_ok-insert) → IsPut c.args.sizes.now c.args.runs.now.items c.insert.new.self.items c.args.extent
put c =
    let put' = c.in_ok-insert.ensures.items
    ∙ ap (λ (run : Run). insert c.args.runs.now.items c.runs_before-place.result run) c.new.ensures in
    put_kept c.args.sizes.now c.args.runs.now.items c.deref.result.now c.insert.new.self.items
    c.runs_before-place.result c.args.extent c.requires.apart c.requires.clear c.deref.ensures.value
    c.runs_before-place.ensures.bound c.runs_before-place.ensures.before c.runs_before-place.ensures.others put'

pub returns-clause-apart : goal.returns-clause-apart
returns-clause-apart c = (put c).apart

pub returns-clause-present : goal.returns-clause-present
returns-clause-present c = (put c).present

pub returns-clause-held : goal.returns-clause-held
returns-clause-held c = (put c).held

pub returns-clause-before : goal.returns-clause-before
returns-clause-before c =
    same_before_put c.args.runs.now.items c.insert.new.self.items c.runs_before-place.result _
    (omega (arith, c.runs_before-place.ensures.bound, ap length c.deref.ensures.value)) c.in_ok-insert.ensures.items
