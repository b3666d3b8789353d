use Rattle.std.proofs.Common.{arith}
use Rattle.qg_image_commits.proofs.Forgotten.{forgets-all, forgets-more, forgets-none}
use Rattle.qg_image_commits.proofs.committing.forget_slots.Goals as goal

pub loop-slot-init : goal.loop-slot-init
loop-slot-init c = forgets-none c.args.blocks.now c.args.slots.now

pub loop-slot-preserved : goal.loop-slot-preserved
loop-slot-preserved c =
    forgets-more c.args.blocks.now c.loop-slot.blocks c.forget.new.self c.args.slots.now c.loop-slot.slot-index
    c.slot-item.result c.loop-slot-test.true c.slot-item.is c.requires.clean c.loop-slot.invariant (record {
      draft = c.forget.ensures.draft;
      gone = c.forget.ensures.gone;
      others = c.forget.ensures.others;
      backed = c.forget.ensures.backed;
      bound = c.forget.ensures.bound;
    })

pub returns-clause-forgotten : goal.returns-clause-forgotten
returns-clause-forgotten c = λ slot has.
    forgets-all c.args.blocks.now c.loop-slot.blocks c.args.slots.now c.loop-slot.slot-index slot c.loop-slot.invariant
    (omega (arith, c.loop-slot-test.false)) has
