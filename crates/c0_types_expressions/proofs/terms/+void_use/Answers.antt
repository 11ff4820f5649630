use Rattle.std.proofs.Common.{ap, inr}
use Rattle.c0_types_terms.specs.Terms.{context_of, env_of}
use Rattle.c0_types_expressions.proofs.Operands.{is_call, void_cause}
use Rattle.c0_types_expressions.proofs.terms.+void_use.Goals as goal

pub returns-in-Call : goal.returns-in-Call
returns-in-Call t c =
    let terms = c.args.terms.now in
    λ e h. inr (void_cause (env_of terms) (context_of terms) c.fault_at.result c.args.kind.now c.args.span e (ap is_call c.in-Call.is) c.fault_at.ensures h)
