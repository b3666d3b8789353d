use Rattle.std.proofs.Common.{◌*◌, ap, ◌∙◌, arith}
use Rattle.qg_super.specs.Places.{data_begin, sector}
use Rattle.qg_super.proofs.Served.{SizesFit-is_served}
use Rattle.qg_space.specs.Holding.{Holding, has_run}
use Rattle.qg_space.proofs.Fronts.{front_kept}
use Rattle.qg_space.proofs.Used.{few_sectors}
use Rattle.qg_space.proofs.space.Space.give_run.Goals as goal

pub overflow_mul-sectors : goal.overflow_mul-sectors
overflow_mul-sectors c =
    let served = SizesFit-is_served c.self.inside.sizes c.self.invariant.served in
    let has = ap (λ (h : Holding). has_run h c.args.at (c.args.sectors * sector)) c.self.view_is ∙ c.requires in
    let few = few_sectors c.self.inside.sizes data_begin c.self.inside.runs.items c.args.at c.args.sectors
    c.self.invariant.apart has in
    omega arith

pub invariant_of-self : goal.invariant_of-self
invariant_of-self c =
    let sound = c.self.invariant in
    let place = c.take_out_run-place in
    record {
      served = sound.served;
      apart = place.ensures.apart;
      front = front_kept c.self.inside.runs.items place.new.runs.items c.self.inside.packed place.result
          c.min-self-inside.result (omega (arith, c.min-self-inside.ensures))
          (omega (arith, c.min-self-inside.ensures)) place.ensures.before sound.front;
      all = sound.all;
      counted = sound.counted;
      used = sound.used;
    }
