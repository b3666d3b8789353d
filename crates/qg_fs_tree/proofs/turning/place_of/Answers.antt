use Rattle.std.proofs.Common.{ℕ, sym, ap, ◌∙◌, arith}
use Rattle.std.specs.Prelude.{◌==◌}
use Rattle.qg_fs_tree.proofs.Numbers.{not-there}
use Rattle.qg_fs_tree.proofs.turning.place_of.Goals as goal

pub loop-i-init : goal.loop-i-init
loop-i-init c k d less same = omega (arith, less)

pub loop-i-preserved : goal.loop-i-preserved
loop-i-preserved c =
    not-there c.args.trees.now c.args.number c.loop-i.i c.index-trees-i.result c.loop-i-test.true c.index-trees-i.is
    (ap (λ (n : ℕ). n == c.args.number) (sym c.owner.ensures) ∙ sym c.eq.ensures ∙ c.if-eq.false)
    c.loop-i.invariant

pub returns-clause-none : goal.returns-clause-none
returns-clause-none c k d inside = c.loop-i.invariant k d (omega (arith, inside, c.loop-i-test.false))
