use Rattle.std.proofs.Common.{arith}
use Rattle.c0_syntax.specs.Views.{simple_of}
use Rattle.c0_parser_cursor.proofs.Turned.{gives_along}
use Rattle.c0_parser.proofs.StatementLoops.{simple_none, simple_some}
use Rattle.c0_parser.proofs.simple_statements.simple.Goals as goal

pub returns-then-depth-eq0-clause-given : goal.returns-then-depth-eq0-clause-given
returns-then-depth-eq0-clause-given c = rw c.too_deep.ensures (simple_none c.args.types.now c.args.depth c.args.room.now c.args.cursor.now.seen c.if-depth-eq0.true)

pub returns-clause-given : goal.returns-clause-given
returns-clause-given c = gives_along (λ s. record { value = simple_of s; room = c.any_simple.new.room; rest = c.any_simple.new.cursor.seen }) c.any_simple.result _ _ (simple_some c.args.types.now c.args.depth c.args.room.now c.args.cursor.now.seen (omega arith)) c.any_simple.ensures.given
