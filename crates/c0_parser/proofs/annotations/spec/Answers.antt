use Rattle.std.proofs.Common.{arith}
use Rattle.c0_syntax.specs.Views.{spec_of}
use Rattle.c0_parser_cursor.proofs.Turned.{gives_along}
use Rattle.c0_parser.proofs.ListLoops.{spec_none, spec_some}
use Rattle.c0_parser.proofs.annotations.spec.Goals as goal

pub returns-then-depth-eq0-clause-given : goal.returns-then-depth-eq0-clause-given
returns-then-depth-eq0-clause-given c = rw c.too_deep.ensures (spec_none c.args.types.now c.args.depth c.args.cursor.now.seen c.if-depth-eq0.true)

pub returns-clause-given : goal.returns-clause-given
returns-clause-given c = gives_along (λ s. record { value = spec_of s; rest = c.any_spec.new.cursor.seen }) c.any_spec.result _ _ (spec_some c.args.types.now c.args.depth c.args.cursor.now.seen (omega arith)) c.any_spec.ensures.given
