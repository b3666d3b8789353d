use Rattle.std.proofs.lemmas.Result.{err_from_is_err_and}
use Rattle.qg_program.proofs.Turned.{reply-command, reply-no_line, so_far-command}
use Rattle.qg_program.proofs.answer.answer_line.Goals as goal

pub returns-in_ok-write_reply-in-Some-clause-reply : goal.returns-in_ok-write_reply-in-Some-clause-reply
returns-in_ok-write_reply-in-Some-clause-reply g c = λ state events stands known.
    let asked = rw c.in-Some.is at c.in_ok-command.ensures.found in
    let done = c.in_ok-answer-in-Some.ensures in
    let told = rw done.blank at c.in_ok-write_reply-in-Some.ensures.ok in
    reply-command state events c.args.line.now _ _ _ c.in-Some.command c.in_ok-answer-in-Some.answer asked
    (done.step state events stands known)
    done.ready.running told

pub returns-in_ok-write_no_line-in-None-clause-reply : goal.returns-in_ok-write_no_line-in-None-clause-reply
returns-in_ok-write_no_line-in-None-clause-reply g c = λ state events stands known.
    let none = rw c.in-None.is at c.in_ok-command.ensures.none in
    let told = rw c.clear.ensures at c.in_ok-write_no_line-in-None.ensures.ok in
    reply-no_line state events c.args.line.now _ _ _ none stands known told

pub returns-in_ok-write_reply-in-Some-clause-so_far : goal.returns-in_ok-write_reply-in-Some-clause-so_far
returns-in_ok-write_reply-in-Some-clause-so_far g c = λ state events stands known.
    so_far-command state events c.args.line.now _ c.in-Some.command (rw c.in-Some.is at c.in_ok-command.ensures.found)
    (c.in_ok-answer-in-Some.ensures.so_far state events stands known)

pub returns-in_err-write_reply-in-Some-clause-so_far : goal.returns-in_err-write_reply-in-Some-clause-so_far
returns-in_err-write_reply-in-Some-clause-so_far g c = λ state events stands known.
    so_far-command state events c.args.line.now _ c.in-Some.command (rw c.in-Some.is at c.in_ok-command.ensures.found)
    (c.in_ok-answer-in-Some.ensures.so_far state events stands known)

pub returns-in_err-answer-in-Some-clause-so_far : goal.returns-in_err-answer-in-Some-clause-so_far
returns-in_err-answer-in-Some-clause-so_far g c = λ state events stands known.
    so_far-command state events c.args.line.now _ c.in-Some.command (rw c.in-Some.is at c.in_ok-command.ensures.found)
    (c.in_err-answer-in-Some.ensures.so_far state events stands known)

pub returns-in_err-answer-in-Some-clause-sound : goal.returns-in_err-answer-in-Some-clause-sound
returns-in_err-answer-in-Some-clause-sound g c = λ state events stands known.
    let found = err_from_is_err_and c.from_residual-in_err-answer-in-Some.result
    c.from_residual-in_err-answer-in-Some.ensures.1 in
    rw found.1 (rw found.2 (c.in_err-answer-in-Some.ensures.sound state events stands known))
