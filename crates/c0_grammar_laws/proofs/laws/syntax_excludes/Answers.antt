use Rattle.c0_grammar_laws.proofs.Unlimited.{none_at_all}
use Rattle.c0_grammar_laws.proofs.laws.syntax_excludes.Goals as goal

pub returns : goal.returns
returns c = none_at_all
