use Rattle.std.proofs.Common.{ℕ, arith}
use Rattle.qg_shared_walk.proofs.Sorted.{numbers_rise}
use Rattle.image_calls.proofs.image.do_roots_ascend.Goals as goal

pub returns : goal.returns
returns c = λ holds. numbers_rise (λ (root : ℕ × ℕ). root.0) c.args.roots.now
    (λ k d h. c.loop-i.invariant k d (omega (arith, h, c.loop-i-test.false)))
