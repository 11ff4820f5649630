use Rattle.c0_grammar_laws.proofs.ParsedTokens.{lexed}
use Rattle.c0_grammar_laws.proofs.laws.lexed_are_tokens.Goals as goal

pub returns : goal.returns
returns c = λ bytes ts s a r. lexed bytes 0 ts s a r
