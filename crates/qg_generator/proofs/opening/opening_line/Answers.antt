use Rattle.std.proofs.Common.{arith}
use Rattle.qg_generator.proofs.FirstLines.{assign-line, create-line}
use Rattle.qg_generator.proofs.opening.opening_line.Goals as goal

pub returns-in-0-clause-line : goal.returns-in-0-clause-line
returns-in-0-clause-line c = create-line c.group.result (omega (arith, c.group.ensures))

pub returns-in-1-clause-line : goal.returns-in-1-clause-line
returns-in-1-clause-line c = create-line c.group-in-1.result (omega (arith, c.group-in-1.ensures))

pub returns-in-2-clause-line : goal.returns-in-2-clause-line
returns-in-2-clause-line c = create-line c.group-in-2.result (omega (arith, c.group-in-2.ensures))

pub returns-in-3-clause-line : goal.returns-in-3-clause-line
returns-in-3-clause-line c =
    assign-line c.group-in-3.result c.group-in-3-2.result (omega (arith, c.group-in-3.ensures))
    (omega (arith, c.group-in-3-2.ensures))

pub returns-in_default-clause-line : goal.returns-in_default-clause-line
returns-in_default-clause-line c =
    assign-line c.group-in_default.result c.group-in_default-2.result (omega (arith, c.group-in_default.ensures))
    (omega (arith, c.group-in_default-2.ensures))
