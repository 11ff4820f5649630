use Rattle.code_operations.proofs.results.outcome_of.Goals as goal

pub returns-in-Binary : goal.returns-in-Binary
returns-in-Binary g c = rw c.in-Binary.is c.binary.ensures

pub returns-in-Unary : goal.returns-in-Unary
returns-in-Unary g c = rw c.in-Unary.is c.unary.ensures

pub returns-in-Compare : goal.returns-in-Compare
returns-in-Compare g c = rw c.in-Compare.is c.compare.ensures
