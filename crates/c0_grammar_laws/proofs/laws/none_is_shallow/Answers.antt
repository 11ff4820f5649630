use Rattle.c0_grammar_laws.proofs.Shallow.{none_shallow}
use Rattle.c0_grammar_laws.proofs.laws.none_is_shallow.Goals as goal

pub returns : goal.returns
returns c = none_shallow
