use Rattle.std.proofs.Common.{◌≡◌, ℕ, ◌+◌, ◌-◌, [], ◌∷◌, replicate, refl, ap, ◌∙◌, arith}
use Rattle.qg_delayed.proofs.Learning.{fault_handed, handed}
use Rattle.qg_delayed.proofs.OneByOne.{can_front, going_as, going_first, going_last, going_next}
use Rattle.qg_delayed.proofs.OneByOne.{left_both, left_none, left_one, times_next}
use Rattle.qg_delayed.proofs.making.make_times.Goals as goal

pub loop-made-init : goal.loop-made-init
loop-made-init g c =
    let b = g.B.RefBook in
    let all = replicate c.args.times c.args.edit.now in
    let none : c.args.times ≡ c.args.times - 0 = omega arith in
    record {
      going = going_as b.stands b.holds b.has_room b.edits all all (replicate (c.args.times - 0) c.args.edit.now)
          c.args.book.now c.args.land.now c.args.disk.now c.args.book.now c.args.land.now c.args.disk.now
          (ap (λ (n : ℕ). replicate n c.args.edit.now) none)
          (going_first b.stands b.holds b.has_room b.edits all c.args.book.now c.args.land.now c.args.disk.now
          c.requires);
      left = left_none b.edits c.args.land.now c.args.disk.now;
      unwritten = record { told = refl; long = refl };
      faults = refl;
      rise = omega arith;
    }

pub make-requires : goal.make-requires
make-requires g c =
    let b = g.B.RefBook in
    let at = c.loop-made in
    let e = c.args.edit.now in
    let n = c.args.times in
    let all = replicate n e in
    let rest = replicate (n - (at.made + 1)) e in
    can_front b.stands b.holds b.has_room b.edits (e ∷ []) rest at.book at.land at.disk
    (going_as b.stands b.holds b.has_room b.edits all (replicate (n - at.made) e) (e ∷ rest) c.args.book.now
    c.args.land.now c.args.disk.now at.book at.land at.disk (times_next n at.made e c.loop-made-test.true)
    at.invariant.going).can

pub loop-made-preserved : goal.loop-made-preserved
loop-made-preserved g c =
    let b = g.B.RefBook in
    let at = c.loop-made in
    let met = at.invariant in
    let made = c.in_ok-make.ensures in
    let e = c.args.edit.now in
    let n = c.args.times in
    let all = replicate n e in
    let rest = replicate (n - (at.made + 1)) e in
    record {
      going = going_next b.stands b.holds b.has_room b.edits all (e ∷ []) rest c.args.book.now c.args.land.now
          c.args.disk.now at.book at.land at.disk c.make.new.book c.make.new.land c.make.new.disk
          (going_as b.stands b.holds b.has_room b.edits all (replicate (n - at.made) e) (e ∷ rest) c.args.book.now
          c.args.land.now c.args.disk.now at.book at.land at.disk (times_next n at.made e c.loop-made-test.true)
          met.going) made.made;
      left = left_both b.edits c.args.land.now c.args.disk.now at.land at.disk c.make.new.land c.make.new.disk
          met.left (left_one b.edits at.land at.disk c.make.new.land c.make.new.disk made.leaves);
      unwritten = record {
        told = made.unwritten.told ∙ met.unwritten.told;
        long = made.unwritten.long ∙ met.unwritten.long;
      };
      faults = made.cause.fine ∙ met.faults;
      rise = omega (arith, met.rise, made.rise);
    }

pub returns-in_err-make-clause-leaves : goal.returns-in_err-make-clause-leaves
returns-in_err-make-clause-leaves g c =
    let b = g.B.RefBook in
    let at = c.loop-made in
    left_both b.edits c.args.land.now c.args.disk.now at.land at.disk c.make.new.land c.make.new.disk
    at.invariant.left
    (left_one b.edits at.land at.disk c.make.new.land c.make.new.disk c.in_err-make.ensures.leaves)

pub returns-in_err-make-clause-no_image : goal.returns-in_err-make-clause-no_image
returns-in_err-make-clause-no_image g c some =
    fault_handed c.from_residual.result _ (handed c.from_residual.result _ c.from_residual.ensures.1)
    (c.in_err-make.ensures.no_image (c.loop-made.invariant.going.tells some))

pub returns-clause-made : goal.returns-clause-made
returns-clause-made g c =
    let b = g.B.RefBook in
    let at = c.loop-made in
    let e = c.args.edit.now in
    let n = c.args.times in
    let all = replicate n e in
    let none : n - at.made ≡ 0 = omega arith in
    going_last b.stands b.holds b.has_room b.edits all c.args.book.now c.args.land.now c.args.disk.now at.book at.land
    at.disk
    (going_as b.stands b.holds b.has_room b.edits all (replicate (n - at.made) e) [] c.args.book.now c.args.land.now
    c.args.disk.now at.book at.land at.disk (ap (λ (k : ℕ). replicate k e) none) at.invariant.going)
