use Rattle.std.proofs.Common.{◌*◌, sym, ap, ◌∙◌, arith, List}
use Rattle.qg_super.specs.Places.{data_begin, sector}
use Rattle.qg_super.proofs.Served.{SizesFit-is_served}
use Rattle.qg_space.specs.Run.{Run}
use Rattle.qg_space.specs.Holding.{Holding, first_run, first_clear}
use Rattle.qg_space.specs.Lying.{extents_of}
use Rattle.qg_space.proofs.Gaps.{none_of_none, none_of_too_many}
use Rattle.qg_space.proofs.Used.{first_clear_used}
use Rattle.qg_space.proofs.space.Space.first_run.Goals as goal
use Rattle.qg_space.proofs.space.Space.first_run.Goals.{then-sectors-eq0-via-then-sectors-eq0}
use Rattle.qg_space.proofs.space.Space.first_run.Goals.{then-sectors-eq0-via-else-sectors-eq0+then-sectors-self}

pub returns-then-sectors-eq0 : goal.returns-then-sectors-eq0
returns-then-sectors-eq0 c =
    let seen = ap (λ (h : Holding). first_run h (c.args.sectors * sector)) c.self.view_is in
    elim c.then-sectors-eq0.branch [
      | then-sectors-eq0-via-then-sectors-eq0 w ↦ sym
          (none_of_none _ _ (c.args.sectors * sector) (omega (arith, w.if-sectors-eq0.true))) ∙ seen
      | then-sectors-eq0-via-else-sectors-eq0+then-sectors-self w ↦ sym
          (none_of_too_many _ _ c.args.sectors w.if-sectors-self.true) ∙ seen
    ]

pub overflow_mul-sectors : goal.overflow_mul-sectors
overflow_mul-sectors c =
    let served = SizesFit-is_served c.self.inside.sizes c.self.invariant.served in
    omega arith

pub returns : goal.returns
returns c =
    let sizes = c.self.inside.sizes in
    let runs = c.self.inside.runs.items in
    let bytes = c.args.sectors * sector in
    c.first_gap.ensures ∙ ap (λ (xs : List Run). first_clear sizes (extents_of xs) bytes) c.deref.ensures.value
    ∙ sym (first_clear_used sizes data_begin runs bytes c.self.invariant.apart)
    ∙ ap (λ (h : Holding). first_run h bytes) c.self.view_is
