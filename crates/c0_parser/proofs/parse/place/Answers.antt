use Rattle.std.proofs.Common.{◌≡◌, ◌-◌, ap, sym, ◌∙◌, length, map, arith}
use Rattle.std.proofs.lemmas.List.{length-map}
use Rattle.c0_lexer.specs.declared.token.Token.{Token}
use Rattle.c0_lexer.specs.Lexed.{lexeme}
use Rattle.c0_grammar_laws.proofs.ParsedTokens.{start_is, start_small}
use Rattle.c0_parser.proofs.parse.place.Goals as goal

pub returns-in-Some-clause-value : goal.returns-in-Some-clause-value
returns-in-Some-clause-value c =
    let ts = c.args.tokens.now in
    let i = c.saturating_sub-before.result in
    let found = c.in-Some.ensures.lookup in
    let same : length (map lexeme ts) - 1 - c.args.left ≡ i = omega (arith, length-map ts lexeme, c.saturating_sub.ensures, c.saturating_sub-before.ensures) in
    rw same (sym (start_is ts i c.in-Some.token.now found.3.0 ∙ ap (λ (t : Token). t.start) (sym found.1)))

pub returns-in-Some-clause-small : goal.returns-in-Some-clause-small
returns-in-Some-clause-small c =
    let ts = c.args.tokens.now in
    let i = c.saturating_sub-before.result in
    let found = c.in-Some.ensures.lookup in
    let is = start_is ts i c.in-Some.token.now found.3.0 ∙ ap (λ (t : Token). t.start) (sym found.1) in
    omega (arith, is, start_small (map lexeme ts) i c.requires)
