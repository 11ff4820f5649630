use Rattle.std.proofs.Common.{ap, ◌∙◌}
use Rattle.c0_typed.specs.Trees.{Call}
use Rattle.c0_typed.specs.Views.{exps_of}
use Rattle.c0_rules.specs.Expressions.{Has}
use Rattle.c0_rules.specs.Types.{VoidType}
use Rattle.c0_types_tables.specs.Views.{resolved_of}
use Rattle.c0_types_places.proofs.TypedCalls.{function_call, output_call}
use Rattle.c0_types_places.proofs.names.call_of.Goals as goal

pub returns-in-Output : goal.returns-in-Output
returns-in-Output c = rw c.in-Output.is (ap (Has VoidType) (output_call c.args.terms.now.texts.now c.in-Output.output c.args.arguments))

pub returns-in_ok-resolved-in-Function : goal.returns-in_ok-resolved-in-Function
returns-in_ok-resolved-in-Function c =
    let x = c.in-Function in
    let call = Call x.number (exps_of c.args.terms.now.texts.now c.args.arguments.items) in
    rw x.is (ap (Has (resolved_of c.in_ok-resolved-in-Function.resolved)) (function_call c.args.terms.now.texts.now x.number c.args.arguments) ∙ ap (λ r. Has r call) c.in_ok-resolved-in-Function.ensures)
