use Rattle.std.proofs.Common.{List, ℕ, subst, sym}
use Rattle.c0_source.specs.Spelling.{Spells}
use Rattle.c0_lexer.specs.Lexed.{Answers}
use Rattle.c0_lexer.proofs.Reached.{only, result_parts, result_rise}
use Rattle.c0_lexer.proofs.lex.lex.Goals as goal

pub returns-clause-only : goal.returns-clause-only
returns-clause-only c = λ ts s.
    let text = c.bytes.ensures.bytes in
    let spelled = subst (λ (bytes : List ℕ). Spells bytes ts) (sym text) s in
    subst (λ (bytes : List ℕ). Answers bytes ts c.tokens_of.result) text (only c.bytes.result.now c.tokens_of.result ts c.tokens_of.ensures.spelled c.tokens_of.ensures.fault spelled)

pub returns-clause-parts : goal.returns-clause-parts
returns-clause-parts c = rw (← c.bytes.ensures.bytes) (result_parts c.bytes.result.now c.tokens_of.result c.tokens_of.ensures.spelled)

pub returns-clause-rise : goal.returns-clause-rise
returns-clause-rise c = rw (← c.bytes.ensures.bytes) (result_rise c.bytes.result.now c.tokens_of.result c.tokens_of.ensures.spelled)
