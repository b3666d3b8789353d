use Rattle.std.proofs.Common.{arith}
use Rattle.qg_open_image.proofs.Looked.{node-size}
use Rattle.qg_image_commits.proofs.Planned.{slots-few, slots-free}
use Rattle.qg_image_commits.proofs.planning.slots_for.Goals as goal

pub commit_need-requires : goal.commit_need-requires
commit_need-requires c = record { size = node-size c.args.kept.now c.requires.fitted }

pub returns-clause-free : goal.returns-clause-free
returns-clause-free c =
    slots-free c.args.kept.now.fs.land.space c.in_ok-slots.slots c.in_ok-slots.ensures.apart c.in_ok-slots.ensures.free

pub returns-clause-few : goal.returns-clause-few
returns-clause-few c =
    slots-few c.args.kept.now c.in_ok-need.need c.in_ok-slots.slots c.requires.fitted c.in_ok-slots.ensures.count

pub returns-clause-enough : goal.returns-clause-enough
returns-clause-enough c = omega (arith, c.len.ensures, c.in_ok-need.ensures, c.if-len-need.false)

pub returns-then-len-need-clause-sound : goal.returns-then-len-need-clause-sound
returns-then-len-need-clause-sound c = λ enough.
    absurd (omega (arith, c.in_ok-slots.ensures.count, c.len.ensures, c.in_ok-need.ensures, c.if-len-need.true, enough))

pub returns-clause-most : goal.returns-clause-most
returns-clause-most c = omega (arith, c.in_ok-slots.ensures.count, c.in_ok-need.ensures)
