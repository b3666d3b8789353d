use Rattle.std.proofs.Common.{Err, ap}
use Rattle.std.proofs.lemmas.Result.{err_from_is_err_and}
use Rattle.qg_program.proofs.Replied.{replies-one}
use Rattle.qg_program.proofs.Turned.{fails-answer, fails-handed, fails-reply, turns-reply}
use Rattle.qg_program.proofs.turn.turn.Goals as goal

pub returns-in_err-put-in-Ok-clause-err : goal.returns-in_err-put-in-Ok-clause-err
returns-in_err-put-in-Ok-clause-err g c = λ state events stands known.
    let found = err_from_is_err_and c.from_residual-in_err-put-in-Ok.result
    c.from_residual-in_err-put-in-Ok.ensures.1 in
    let takes = rw c.in-Some.is at rw c.in_ok-line.was at c.next_line.follows.holds-at-none.line in
    let replies = rw c.as_slice.ensures at c.in-Ok.ensures.reply state events stands known in
    let later = rw c.as_slice.ensures at c.in-Ok.ensures.so_far state events stands known in
    let fails = rw c.as_slice-in-Ok.ensures at c.in_err-put-in-Ok.ensures.err in
    rw found.1 (rw found.2 (fails-reply c.in_err-put-in-Ok.field-0.0 state events _ _ _ c.in-Some.line.bytes.now _ _ _ _
    _ takes replies later fails))

pub returns-in-Err-clause-err : goal.returns-in-Err-clause-err
returns-in-Err-clause-err g c = λ state events stands known.
    let sound = c.in-Err.ensures.sound state events stands known in
    let other = c.end.ensures.other sound in
    let takes = rw c.in-Some.is at rw c.in_ok-line.was at c.next_line.follows.holds-at-none.line in
    let so_far = rw c.as_slice.ensures at c.in-Err.ensures.so_far state events stands known in
    fails-handed c.in-Err.status (Err c.end.result) state events _ _ _ _ _ _ (ap Err other.0) other.1
    (fails-answer c.in-Err.status state events _ _ _ c.in-Some.line.bytes.now _ _ _ takes so_far c.in-Err.ensures.ends
    sound)

pub returns-in-Err-clause-sound : goal.returns-in-Err-clause-sound
returns-in-Err-clause-sound g c = λ stands is.
    let sound = c.in-Err.ensures.sound stands.state stands.events stands.stands stands.told in
    let other = c.end.ensures.other sound in
    sound (cc (other.0, is))

pub returns-in_ok-put-in-Ok-clause-ok : goal.returns-in_ok-put-in-Ok-clause-ok
returns-in_ok-put-in-Ok-clause-ok g c = λ state events stands known.
    let takes = rw c.in-Some.is at rw c.in_ok-line.was at c.next_line.follows.holds-at-none.line in
    let replies = rw c.as_slice.ensures at c.in-Ok.ensures.reply state events stands known in
    turns-reply state events _ _ c.in-Some.line.bytes.now _ _ _ _ _ takes replies
    (rw c.as_slice-in-Ok.ensures at c.in_ok-put-in-Ok.ensures.ok)

pub returns-in_ok-put-in-Ok-clause-stands : goal.returns-in_ok-put-in-Ok-clause-stands
returns-in_ok-put-in-Ok-clause-stands g c = λ stands.
    let replied = c.in-Ok.ensures.reply stands.state stands.events stands.stands stands.told in
    record { state = replied.new; events = replied.made.after; told = replied.made.told; stands = replied.stands }

pub returns-in_ok-put-in-Ok-clause-puts : goal.returns-in_ok-put-in-Ok-clause-puts
returns-in_ok-put-in-Ok-clause-puts g c = record {
  replied = replies-one _ _ c.answer_line.new.text c.in-Ok.ensures.replied
      (rw c.as_slice-in-Ok.ensures at c.in_ok-put-in-Ok.ensures.ok);
  told = λ is. absurd cc;
}
