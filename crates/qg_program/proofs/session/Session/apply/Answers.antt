use Rattle.qg_program.proofs.Stopped.{tells-failure, tells-image, tells-why}
use Rattle.qg_program.proofs.session.Session.apply.Goals as goal

pub returns-in-Ok-clause-step : goal.returns-in-Ok-clause-step
returns-in-Ok-clause-step g c = λ state events stands known. (c.in-Ok.ensures.machine state events stands known).step

pub returns-in-Ok-clause-so_far : goal.returns-in-Ok-clause-so_far
returns-in-Ok-clause-so_far g c =
    λ state events stands known. (c.in-Ok.ensures.machine state events stands known).so_far

pub returns-in-Err-clause-so_far : goal.returns-in-Err-clause-so_far
returns-in-Err-clause-so_far g c =
    λ state events stands known. (c.in-Err.ensures.machine state events stands known).so_far

pub returns-in-Err-clause-sound : goal.returns-in-Err-clause-sound
returns-in-Err-clause-sound g c = λ state events stands known.
    c.end_of.ensures.sound (c.in-Err.ensures.machine state events stands known).sound

-- ---- a stop by what was read

pub returns-in-Err-clause-told : goal.returns-in-Err-clause-told
returns-in-Err-clause-told g c = λ is.
    tells-failure c.in-Err.stop c.end_of.new.text (c.end_of.ensures.told is)

pub returns-in-Err-clause-why : goal.returns-in-Err-clause-why
returns-in-Err-clause-why g c = λ is.
    tells-why c.in-Err.stop c.end_of.new.text c.args.command.now _ _ _ _ _ _ c.in-Err.ensures.stops
    c.in-Err.ensures.intact.cause (c.end_of.ensures.told is)

pub returns-in-Err-clause-intact : goal.returns-in-Err-clause-intact
returns-in-Err-clause-intact g c = λ is.
    c.in-Err.ensures.intact.intact (tells-image c.in-Err.stop c.end_of.new.text (c.end_of.ensures.told is))
