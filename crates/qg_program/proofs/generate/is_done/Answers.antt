use Rattle.std.proofs.Common.{refl}
use Rattle.std.proofs.lemmas.Result.{err_from_is_err_and}
use Rattle.qg_grammar.specs.ReplyText.{reply_text}
use Rattle.qg_grammar.specs.ScriptText.{command_text}
use Rattle.qg_program.proofs.Turned.{reply-command, so_far-command}
use Rattle.qg_program.proofs.generate.is_done.Goals as goal

pub returns-clause-answered : goal.returns-clause-answered
returns-clause-answered g c = λ state events stands known. record {
  answer = c.in_ok-answer.answer;
  answered = reply-command state events (command_text c.args.command.now) (reply_text c.in_ok-answer.answer)
      c.apply.new.self.store (g.D.Disk.history c.apply.new.disk)
      c.args.command.now c.in_ok-answer.answer c.requires.line
      (c.in_ok-answer.ensures.step state events stands known) c.in_ok-answer.ensures.ready.running refl;
  judged = c.tells_done.ensures;
}

pub returns-clause-so_far : goal.returns-clause-so_far
returns-clause-so_far g c = λ state events stands known.
    so_far-command state events (command_text c.args.command.now) _ c.args.command.now c.requires.line
    (c.in_ok-answer.ensures.so_far state events stands known)

pub returns-in_err-answer-clause-so_far : goal.returns-in_err-answer-clause-so_far
returns-in_err-answer-clause-so_far g c = λ state events stands known.
    so_far-command state events (command_text c.args.command.now) _ c.args.command.now c.requires.line
    (c.in_err-answer.ensures.so_far state events stands known)

pub returns-in_err-answer-clause-sound : goal.returns-in_err-answer-clause-sound
returns-in_err-answer-clause-sound g c = λ state events stands known.
    let found = err_from_is_err_and c.from_residual.result c.from_residual.ensures.1 in
    rw found.1 (rw found.2 (c.in_err-answer.ensures.sound state events stands known))
