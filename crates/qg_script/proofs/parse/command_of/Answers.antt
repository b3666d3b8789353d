use Rattle.std.specs.Prelude.{codes}
use Rattle.qg_script.proofs.Commands.{is_snapshot, on_err, other_word, reads_list, same_word}
use Rattle.qg_script.proofs.parse.command_of.Goals as goal

pub returns-then-eq-clause-read : goal.returns-then-eq-clause-read
returns-then-eq-clause-read c =
    reads_list c.read_snap.result c.first_word.ensures (same_word c.first_word.result.0.now c.as_slice.result.now
    (codes "snap") c.if-eq.ensures c.as_slice.ensures) c.read_snap.ensures

pub returns-then-eq-clause-no_memory : goal.returns-then-eq-clause-no_memory
returns-then-eq-clause-no_memory c =
    on_err c.read_snap.result
    (is_snapshot c.first_word.ensures (same_word c.first_word.result.0.now c.as_slice.result.now
    (codes "snap") c.if-eq.ensures c.as_slice.ensures))

pub other_command-requires-clause-other : goal.other_command-requires-clause-other
other_command-requires-clause-other c = other_word c.first_word.result.0.now c.as_slice.result.now
    (codes "snap") c.if-eq.ensures c.as_slice.ensures

pub returns-else-eq-clause-read : goal.returns-else-eq-clause-read
returns-else-eq-clause-read c = c.other_command.ensures
