use Rattle.std.proofs.Common.{◌≡◌, ap, sym, ◌∙◌}
use Rattle.c0_source.specs.declared.kind.Kind.TheVariants as k
use Rattle.c0_grammar_laws.specs.Outcome.{next, plain_at}
use Rattle.c0_parser.proofs.declarations.named_struct.Goals as goal

pub returns-in-Semi-clause-given : goal.returns-in-Semi-clause-given
returns-in-Semi-clause-given c =
    let e : plain_at (next (next c.args.cursor.now.seen)) ≡ k.Semi = sym (ap plain_at (c.ahead-2.ensures ∙ ap next c.ahead.ensures)) ∙ sym c.in-Semi.ensures in
    rw e (c.declared_struct.ensures.given c.args.types.now c.args.loops c.args.depth c.args.room.now)

pub returns-in-LBrace-clause-given : goal.returns-in-LBrace-clause-given
returns-in-LBrace-clause-given c =
    let e : plain_at (next (next c.args.cursor.now.seen)) ≡ k.LBrace = sym (ap plain_at (c.ahead-2.ensures ∙ ap next c.ahead.ensures)) ∙ sym c.in-LBrace.ensures in
    rw e (c.defined_struct.ensures.given c.args.loops c.args.room.now)
