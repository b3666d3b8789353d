use Rattle.std.proofs.Common.{[], ◌∷◌, ◌++◌, ◌∙◌, ℕ, List, ap, arith}
use Rattle.std.specs.Prelude.{codes}
use Rattle.std.proofs.lemmas.Result.{err_from_is_err_and}
use Rattle.qg_num.specs.declared.command.Command.TheVariants.{Commit}
use Rattle.qg_grammar.specs.ReplyText.{reply_text}
use Rattle.qg_generator.specs.GeneratedScript.{generated_script}
use Rattle.qg_script.specs.ReportText.{summary_text}
use Rattle.qg_program.specs.Generating.{lines_of}
use Rattle.qg_program.proofs.Generated.{commit-line, stopped-commit}
use Rattle.qg_program.proofs.Loaded.{script-length, stopped-early}
use Rattle.qg_program.proofs.Shown.{behind-commit, loaded, show-stopped, told-stopped}
use Rattle.qg_program.proofs.Turned.{so_far-command}
use Rattle.qg_program.proofs.generate.load.Goals as goal

pub answer_generated-requires-clause-few : goal.answer_generated-requires-clause-few
answer_generated-requires-clause-few g c =
    let all = script-length c.args.seed c.args.count in
    rw c.new.ensures (omega (arith, all, c.requires.few))

-- ---- all was done

pub returns-clause-loaded : goal.returns-clause-loaded
returns-clause-loaded g c = λ state events stands told.
    let so_far = rw c.new.ensures at c.in_ok-tally.ensures.run state events stands told in
    let shown = c.in_ok-shown.shown in
    let summary = summary_text c.args.count c.in_ok-tally.tally.done c.in_ok-tally.tally.refused in
    let text = c.in_ok-write_reply.ensures.ok
    ∙ ap (λ (bytes : List ℕ). bytes ++ reply_text shown) (c.in_ok-write_summary.ensures.ok
    ∙ ap (λ (bytes : List ℕ). bytes ++ summary) c.in_ok-shown.ensures.blank) in
    loaded state c.args.seed c.args.count events c.in_ok-tally.tally c.in_ok-committed.committed _
    c.apply.new.self.store _ (g.D.Disk.history c.apply.new.disk) so_far
    c.in_ok-committed.ensures.step c.in_ok-committed.ensures.ready.running shown c.apply-2.new.self.store
    (g.D.Disk.history c.apply-2.new.disk)
    c.in_ok-shown.ensures.step c.in_ok-shown.ensures.ready.running _ text

-- ---- it stops among the generator's lines

pub returns-in_err-tally-clause-stopped : goal.returns-in_err-tally-clause-stopped
returns-in_err-tally-clause-stopped g c = λ state events stands told.
    let found = err_from_is_err_and c.from_residual.result c.from_residual.ensures.1 in
    let stops = rw c.new.ensures at c.in_err-tally.ensures.stopped state events stands told in
    rw found.1 (stopped-early state (lines_of (generated_script c.args.seed c.args.count))
    (codes "commit" ∷ codes "show" ∷ []) events _ stops)

pub returns-in_err-tally-clause-sound : goal.returns-in_err-tally-clause-sound
returns-in_err-tally-clause-sound g c = λ state events stands told.
    let found = err_from_is_err_and c.from_residual.result c.from_residual.ensures.1 in
    rw found.1 (rw found.2 (c.in_err-tally.ensures.sound state events stands told))

-- ---- it stops in the commit

pub returns-in_err-committed-clause-stopped : goal.returns-in_err-committed-clause-stopped
returns-in_err-committed-clause-stopped g c = λ state events stands told.
    let found = err_from_is_err_and c.from_residual-in_err-committed.result
    c.from_residual-in_err-committed.ensures.1 in
    let so_far = rw c.new.ensures at c.in_ok-tally.ensures.run state events stands told in
    rw found.1 (stopped-commit state c.args.seed c.args.count c.in_ok-tally.tally _ so_far
    (so_far-command so_far.after so_far.made.after (codes "commit") _ Commit commit-line
    (c.in_err-committed.ensures.so_far so_far.after so_far.made.after so_far.stands so_far.made.told)))

pub returns-in_err-committed-clause-sound : goal.returns-in_err-committed-clause-sound
returns-in_err-committed-clause-sound g c = λ state events stands told.
    let found = err_from_is_err_and c.from_residual-in_err-committed.result
    c.from_residual-in_err-committed.ensures.1 in
    let so_far = c.in_ok-tally.ensures.run state events stands told in
    rw found.1 (rw found.2 (c.in_err-committed.ensures.sound so_far.after so_far.made.after so_far.stands
    so_far.made.told))

-- ---- it stops in what is asked behind it

pub returns-in_err-shown-clause-stopped : goal.returns-in_err-shown-clause-stopped
returns-in_err-shown-clause-stopped g c = λ state events stands told.
    let found = err_from_is_err_and c.from_residual-in_err-shown.result c.from_residual-in_err-shown.ensures.1 in
    let so_far = rw c.new.ensures at c.in_ok-tally.ensures.run state events stands told in
    rw found.1 (show-stopped state c.args.seed c.args.count events c.in_ok-tally.tally c.in_ok-committed.committed _
    c.apply.new.self.store _
    (g.D.Disk.history c.apply.new.disk) so_far c.in_ok-committed.ensures.step c.in_ok-committed.ensures.ready.running _
    c.in_err-shown.ensures.so_far)

pub returns-in_err-shown-clause-sound : goal.returns-in_err-shown-clause-sound
returns-in_err-shown-clause-sound g c = λ state events stands told.
    let found = err_from_is_err_and c.from_residual-in_err-shown.result c.from_residual-in_err-shown.ensures.1 in
    let so_far = rw c.new.ensures at c.in_ok-tally.ensures.run state events stands told in
    rw found.1 (rw found.2 (behind-commit state c.args.seed c.args.count events c.in_ok-tally.tally
    c.in_ok-committed.committed _ c.apply.new.self.store _
    (g.D.Disk.history c.apply.new.disk) so_far c.in_ok-committed.ensures.step c.in_ok-committed.ensures.ready.running _
    c.in_err-shown.ensures.sound))

-- ---- memory is refused for the text

pub returns-in_err-write_summary-clause-stopped : goal.returns-in_err-write_summary-clause-stopped
returns-in_err-write_summary-clause-stopped g c = λ state events stands told.
    let found = err_from_is_err_and c.from_residual-in_err-write_summary.result
    c.from_residual-in_err-write_summary.ensures.1 in
    let so_far = rw c.new.ensures at c.in_ok-tally.ensures.run state events stands told in
    rw found.1 (told-stopped state c.args.seed c.args.count events c.in_ok-tally.tally c.in_ok-committed.committed _
    c.apply.new.self.store _
    (g.D.Disk.history c.apply.new.disk) so_far c.in_ok-committed.ensures.step c.in_ok-committed.ensures.ready.running
    c.in_ok-shown.shown c.apply-2.new.self.store
    (g.D.Disk.history c.apply-2.new.disk) c.in_ok-shown.ensures.step c.in_ok-shown.ensures.ready.running)

pub returns-in_err-write_reply-clause-stopped : goal.returns-in_err-write_reply-clause-stopped
returns-in_err-write_reply-clause-stopped g c = λ state events stands told.
    let found = err_from_is_err_and c.from_residual-in_err-write_reply.result
    c.from_residual-in_err-write_reply.ensures.1 in
    let so_far = rw c.new.ensures at c.in_ok-tally.ensures.run state events stands told in
    rw found.1 (told-stopped state c.args.seed c.args.count events c.in_ok-tally.tally c.in_ok-committed.committed _
    c.apply.new.self.store _
    (g.D.Disk.history c.apply.new.disk) so_far c.in_ok-committed.ensures.step c.in_ok-committed.ensures.ready.running
    c.in_ok-shown.shown c.apply-2.new.self.store
    (g.D.Disk.history c.apply-2.new.disk) c.in_ok-shown.ensures.step c.in_ok-shown.ensures.ready.running)
