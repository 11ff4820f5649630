use Rattle.std.proofs.Common.{refl, rules, w32}
use Rattle.std.proofs.lemmas.Int.{to_z-of_z}
use Rattle.instruction_table.proofs.parts.parts_of_simple.Goals as goal

pub returns-in-Const-clause-arguments : goal.returns-in-Const-clause-arguments
returns-in-Const-clause-arguments c = rw (c.in-Const.is, c.two.ensures.arguments, c.register.ensures, to_z-of_z w32 c.in-Const.value (search rules)) refl

pub returns-in-TextOf-clause-arguments : goal.returns-in-TextOf-clause-arguments
returns-in-TextOf-clause-arguments c = rw c.in-TextOf.is cc

pub returns-in-BoolOf-clause-arguments : goal.returns-in-BoolOf-clause-arguments
returns-in-BoolOf-clause-arguments c = rw c.in-BoolOf.is cc

pub returns-in-CharOf-clause-arguments : goal.returns-in-CharOf-clause-arguments
returns-in-CharOf-clause-arguments c = rw c.in-CharOf.is cc

pub returns-in-Null-clause-arguments : goal.returns-in-Null-clause-arguments
returns-in-Null-clause-arguments c = rw c.in-Null.is cc

pub returns-in-Move-clause-arguments : goal.returns-in-Move-clause-arguments
returns-in-Move-clause-arguments c = rw c.in-Move.is cc

pub returns-in-Binary-clause-arguments : goal.returns-in-Binary-clause-arguments
returns-in-Binary-clause-arguments c = rw c.in-Binary.is cc

pub returns-in-Unary-clause-arguments : goal.returns-in-Unary-clause-arguments
returns-in-Unary-clause-arguments c = rw c.in-Unary.is cc

pub returns-in-Compare-clause-arguments : goal.returns-in-Compare-clause-arguments
returns-in-Compare-clause-arguments c = rw c.in-Compare.is cc
