use Rattle.std.proofs.Common.{arith}
use Rattle.qg_script.proofs.Commands.{line_found, no_line_found}
use Rattle.qg_script.proofs.parse.parse_line.Goals as goal

pub returns-clause-found : goal.returns-clause-found
returns-clause-found c = line_found c.args.line.now c.command_of.result (omega arith) c.command_of.ensures.read

pub returns-clause-none : goal.returns-clause-none
returns-clause-none c = no_line_found c.args.line.now c.command_of.result c.command_of.ensures.read
