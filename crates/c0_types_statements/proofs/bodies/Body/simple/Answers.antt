use Rattle.std.proofs.Common.{ap}
use Rattle.c0_syntax.specs.Views.{simple_of_kind}
use Rattle.c0_types_statements.proofs.bodies.Body.simple.Goals as goal

pub returns-in-Assign-clause-answers : goal.returns-in-Assign-clause-answers
returns-in-Assign-clause-answers c = let shape = ap simple_of_kind c.in-Assign.is in rw shape c.assignment.ensures.answers
