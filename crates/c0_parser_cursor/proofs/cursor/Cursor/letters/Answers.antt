use Rattle.std.proofs.Common.{ap}
use Rattle.c0_parser_cursor.proofs.Cursors.{text_first}
use Rattle.c0_parser_cursor.proofs.cursor.Cursor.letters.Goals as goal

pub returns-in-len1-up-clause-text : goal.returns-in-len1-up-clause-text
returns-in-len1-up-clause-text c = text_first c.self.inside.tokens.now _ c.args.self.now.seen c.in-len1-up.len_at_least (ap (λ r. r.seen) c.self.view_is)
