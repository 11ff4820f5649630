use Rattle.c0_grammar_laws.proofs.FirstFaults.{too_many}
use Rattle.c0_grammar_laws.proofs.laws.names_are_too_many.Goals as goal

pub returns : goal.returns
returns c = too_many
