use Rattle.std.proofs.Common.{◌≡◌, ◌-◌, ap, subst, ◌∙◌, length, map}
use Rattle.c0_lexer.specs.Lexed.{lexeme}
use Rattle.c0_source.specs.Terminals.{terminals}
use Rattle.c0_syntax.specs.Levels.{has_loops}
use Rattle.c0_syntax.specs.Views.{declaration_of}
use Rattle.c0_grammar_laws.specs.Parsing.{before_last, read_from}
use Rattle.c0_grammar_laws.specs.ReadPrograms.{read_program}
use Rattle.c0_parser_cursor.proofs.Turned.{gives_along}
use Rattle.c0_grammar_laws.proofs.ParsedTokens.{are_taken, last_left}
use Rattle.std.specs.Prelude.{IfOk}
use Rattle.c0_parser.specs.Stands.{first_position}
use Rattle.c0_grammar_laws.specs.PlacedPrograms.{PlacedDeclarations}
use Rattle.c0_parser.proofs.parse.declarations_of.Goals as goal

pub new-cursor-requires : goal.new-cursor-requires
new-cursor-requires c = rw (c.before_last.ensures, last_left c.args.tokens.now) (are_taken (length (map lexeme c.args.tokens.now) - 1) (map lexeme c.args.tokens.now) c.requires)

pub returns-clause-given : goal.returns-clause-given
returns-clause-given c =
    let inner : map lexeme c.before_last.result.now ≡ before_last (map lexeme c.args.tokens.now) = ap (map lexeme) c.before_last.ensures ∙ last_left c.args.tokens.now in
    let seen : c.new-cursor.result.seen ≡ read_from (map lexeme c.args.tokens.now) = ap (λ r. r.seen) c.new-cursor.ensures ∙ ap terminals inner in
    gives_along (λ v. map declaration_of v.items) c.program.result _ _ (ap (λ l. read_program l c.new-cursor.result.seen) c.with_loops.ensures ∙ ap (read_program (has_loops c.args.level)) seen) c.program.ensures.given

pub returns-clause-placed : goal.returns-clause-placed
returns-clause-placed c =
    let inner : map lexeme c.before_last.result.now ≡ before_last (map lexeme c.args.tokens.now) = ap (map lexeme) c.before_last.ensures ∙ last_left c.args.tokens.now in
    let begin : c.new-cursor.result.position ≡ first_position (before_last (map lexeme c.args.tokens.now)) = ap (λ r. r.position) c.new-cursor.ensures ∙ ap first_position inner in
    subst (λ o. IfOk c.program.result (λ v. PlacedDeclarations o v.items)) begin c.program.ensures.placed
