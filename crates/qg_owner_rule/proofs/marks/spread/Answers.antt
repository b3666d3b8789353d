use Rattle.std.proofs.Common.{◌≡◌, ◌+◌, ◌-◌, subst, arith}
use Rattle.qg_owner_rule.proofs.Spreading.{Going, going_none, going_more, going_all}
use Rattle.qg_owner_rule.proofs.marks.spread.Goals as goal

pub loop-depth-init : goal.loop-depth-init
loop-depth-init c =
    let highest = c.highest_level-highest.result in
    let same : highest ≡ highest - 0 = omega arith in
    subst (Going c.args.nodes.now c.args.rows.now c.args.rows.now) same
    (going_none c.args.nodes.now c.args.rows.now highest c.highest_level-highest.ensures)

pub loop-depth-preserved : goal.loop-depth-preserved
loop-depth-preserved c =
    let level = c.highest_level-highest.result - c.loop-depth.depth in
    let next = c.highest_level-highest.result - (c.loop-depth.depth + 1) in
    let is : level ≡ next + 1 = omega (arith, c.loop-depth-test.true) in
    going_more c.args.nodes.now c.args.rows.now c.loop-depth.rows c.spread_level.new.rows level next is
    c.loop-depth.invariant c.spread_level.ensures

pub returns : goal.returns
returns c =
    let lowest : c.highest_level-highest.result - c.loop-depth.depth ≡ 0 = omega (arith, c.loop-depth-test.false) in
    going_all c.args.nodes.now c.args.rows.now c.loop-depth.rows c.requires.ascend
    (subst (Going c.args.nodes.now c.args.rows.now c.loop-depth.rows) lowest c.loop-depth.invariant)
