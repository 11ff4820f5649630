use Rattle.std.proofs.Common.{List, ℕ, ap, map, sym, subst}
use Rattle.std.proofs.lemmas.Result.{err_from_is_err_and}
use Rattle.c0_source.specs.SourceTexts.{IsSourceText}
use Rattle.c0_lexer.specs.Lexed.{IsFault, IsLexed, lexeme}
use Rattle.c0_lexer.specs.declared.token.Token.{Token}
use Rattle.c0_grammar_laws.proofs.ParsedTokens.{lexed}
use Rattle.c0_grammar_laws.specs.Tokens.{AreTokens}
use Rattle.c0_syntax.specs.Levels.{has_loops}
use Rattle.c0_parser.specs.Ended.{IsEnded}
use Rattle.c0_front.specs.Texts.{HasTokens}
use Rattle.c0_front.proofs.TextSteps.{read_every, read_so, token_kind}
use Rattle.c0_front.proofs.texts.read_text.Goals as goal

pub returns-in_err-tokens-clause-every : goal.returns-in_err-tokens-clause-every
returns-in_err-tokens-clause-every c = λ p w.
    let q = err_from_is_err_and c.from_residual-in_err-tokens.result c.from_residual-in_err-tokens.ensures.1 in
    let fault = c.in_err-tokens.field-0.0 in
    let cause = subst (λ (bytes : List ℕ). IsFault fault.kind bytes fault) c.in_ok-source.ensures c.in_err-tokens.ensures.fault in
    rw (q.1, q.2) (token_kind fault.kind c.args.text.now w.tokens fault w.spelled.lexed cause)

pub parse-requires-clause-tokens : goal.parse-requires-clause-tokens
parse-requires-clause-tokens c =
    let e = c.in_ok-tokens.ensures in
    let source = subst IsSourceText c.source.view_is c.source.invariant in
    let tokens = lexed c.in_ok-source.source 0 (map lexeme c.in_ok-tokens.tokens.items) source e.parts e.rise in
    subst (λ (xs : List Token). AreTokens (map lexeme xs)) (sym c.deref.ensures.value) tokens

pub parse-requires-clause-ended : goal.parse-requires-clause-ended
parse-requires-clause-ended c =
    let lexed = c.in_ok-tokens.ensures.spelled in
    subst (λ (xs : List Token). IsEnded (map lexeme xs)) (sym c.deref.ensures.value) (record { before = lexed.all; at = _; whole = lexed.given })

pub returns-clause-read : goal.returns-clause-read
returns-clause-read c =
    let has : HasTokens c.args.text.now (map lexeme c.in_ok-tokens.tokens.items) = record {
      source = subst IsSourceText c.in_ok-source.ensures (subst IsSourceText c.source.view_is c.source.invariant);
      lexed = subst (λ (bytes : List ℕ). IsLexed bytes (map lexeme c.in_ok-tokens.tokens.items)) c.in_ok-source.ensures c.in_ok-tokens.ensures.spelled;
    } in
    read_so (has_loops c.args.level) c.args.text.now _ _ has (ap (map lexeme) c.deref.ensures.value) c.parse.result c.parse.ensures.found c.parse.ensures.placed c.parse.ensures.ending

pub returns-clause-every : goal.returns-clause-every
returns-clause-every c =
    let has : HasTokens c.args.text.now (map lexeme c.in_ok-tokens.tokens.items) = record {
      source = subst IsSourceText c.in_ok-source.ensures (subst IsSourceText c.source.view_is c.source.invariant);
      lexed = subst (λ (bytes : List ℕ). IsLexed bytes (map lexeme c.in_ok-tokens.tokens.items)) c.in_ok-source.ensures c.in_ok-tokens.ensures.spelled;
    } in
    read_every (has_loops c.args.level) c.args.text.now _ _ has (ap (map lexeme) c.deref.ensures.value) c.parse.result c.parse.ensures.found c.parse.ensures.fault
