use Rattle.std.proofs.Common.{◌*◌, List, subst, sym, ap, ◌∙◌, arith}
use Rattle.qg_super.specs.Places.{data_begin, sector}
use Rattle.qg_super.proofs.Served.{SizesFit-is_served}
use Rattle.qg_space.specs.Holding.{Holding, is_free_run}
use Rattle.qg_space.specs.Run.{Run}
use Rattle.qg_space.specs.Lying.{IsPackedFront}
use Rattle.qg_space.proofs.Fronts.{front_kept}
use Rattle.qg_space.proofs.Used.{is_clear_used, clear_within}
use Rattle.qg_space.proofs.space.Space.take_run.Goals as goal

pub overflow_mul-extent : goal.overflow_mul-extent
overflow_mul-extent c =
    let served = SizesFit-is_served c.self.inside.sizes c.self.invariant.served in
    let free = ap (λ (h : Holding). is_free_run h c.args.at (c.args.sectors * sector)) c.self.view_is ∙ c.requires in
    let few = clear_within c.self.inside.sizes _ c.args.at c.args.sectors free in
    omega arith

pub put_run-requires-clause-clear : goal.put_run-requires-clause-clear
put_run-requires-clause-clear c =
    sym (is_clear_used c.self.inside.sizes data_begin c.self.inside.runs.items c.args.at
    (c.args.sectors * sector) c.self.invariant.apart)
    ∙ ap (λ (h : Holding). is_free_run h c.args.at (c.args.sectors * sector)) c.self.view_is ∙ c.requires

pub packed_runs-self-inside-requires-clause-known : goal.packed_runs-self-inside-requires-clause-known
packed_runs-self-inside-requires-clause-known c =
    let Front : List Run → Type 0 = λ runs. IsPackedFront runs c.min.result in
    subst Front (sym c.deref.ensures.value)
    (front_kept c.self.inside.runs.items c.put_run.new.runs.items c.self.inside.packed c.in_ok-place.place c.min.result
    (omega (arith, c.min.ensures)) (omega (arith, c.min.ensures))
    c.in_ok-place.ensures.before c.self.invariant.front)
