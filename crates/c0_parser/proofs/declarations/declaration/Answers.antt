use Rattle.std.proofs.Common.{◌≡◌, sym}
use Rattle.c0_source.specs.declared.kind.Kind.TheVariants as k
use Rattle.c0_grammar_laws.specs.Outcome.{plain_at}
use Rattle.c0_parser.proofs.declarations.declaration.Goals as goal

pub returns-in-Use-clause-given : goal.returns-in-Use-clause-given
returns-in-Use-clause-given c =
    let e : plain_at c.args.cursor.now.seen ≡ k.Use = sym c.in-Use.ensures in
    rw e (c.use_declaration.ensures.given c.args.types.now c.args.loops c.args.depth c.args.room.now)

pub returns-in-Typedef-clause-given : goal.returns-in-Typedef-clause-given
returns-in-Typedef-clause-given c =
    let e : plain_at c.args.cursor.now.seen ≡ k.Typedef = sym c.in-Typedef.ensures in
    rw e (c.typedef.ensures.given c.args.loops c.args.room.now)
