use Rattle.std.proofs.Common.{ap, ◌∙◌}
use Rattle.c0_grammar_laws.specs.Outcome.{plain_at}
use Rattle.c0_parser_cursor.proofs.Cursors.{peek_first}
use Rattle.c0_parser_cursor.proofs.cursor.Cursor.peek.Goals as goal

pub returns-in_default : goal.returns-in_default
returns-in_default c = peek_first c.self.inside.tokens.now _ c.in-len1-up.len_at_least c.in_default.not-TypeName ∙ ap (λ r. plain_at r.seen) c.self.view_is
