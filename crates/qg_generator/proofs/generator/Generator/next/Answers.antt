use Rattle.qg_generator.proofs.InGrammar.{drawn-line}
use Rattle.qg_generator.proofs.generator.Generator.next.Goals as goal

pub returns-clause-line : goal.returns-clause-line
returns-clause-line c =
    drawn-line c.self.inside.draws c.line-command.new.self c.line-command.result c.line-command.ensures
