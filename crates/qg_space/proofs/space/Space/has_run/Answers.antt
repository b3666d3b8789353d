use Rattle.std.proofs.Common.{◌*◌, sym, ap, ◌∙◌, arith}
use Rattle.std.proofs.lemmas.Bool.{lt-leb}
use Rattle.qg_super.specs.Places.{data_begin, sector}
use Rattle.qg_super.proofs.Served.{SizesFit-is_served}
use Rattle.qg_space.specs.Holding.{Holding, has_run}
use Rattle.qg_space.proofs.Used.{has_few}
use Rattle.qg_space.proofs.space.Space.has_run.Goals as goal

pub overflow_mul-sectors : goal.overflow_mul-sectors
overflow_mul-sectors c =
    let served = SizesFit-is_served c.self.inside.sizes c.self.invariant.served in
    omega arith

pub returns-else-sectors-self : goal.returns-else-sectors-self
returns-else-sectors-self c =
    lt-leb c.args.sectors c.self.inside.sizes.sectors c.if-sectors-self.false
    ∙ sym (has_few c.self.inside.sizes data_begin c.self.inside.runs.items c.args.at c.args.sectors
    c.self.invariant.apart c.if-sectors-self.false)
    ∙ ap (λ (h : Holding). has_run h c.args.at (c.args.sectors * sector)) c.self.view_is
