use Rattle.std.proofs.Common.{rules}
use Rattle.std.proofs.lemmas.Int.{wraps}
use Rattle.c0_values.proofs.operators.negated.Goals as goal

pub returns : goal.returns
returns c = search (rules, wraps)
