use Rattle.std.proofs.Common.{rules, ◌≡◌, inr, refl, ap, ◌∙◌, true, false}
use Rattle.std.specs.Prelude.{◌||◌, not}
use Rattle.c0_syntax.specs.Views.{name_of}
use Rattle.c0_rules.specs.Programs.{names_function}
use Rattle.c0_types_tables.specs.Views.{environment_of}
use Rattle.c0_types_declarations.proofs.ParameterNames.{are_free, parameter_here, parameter_more, parameter_told, parameters_done}
use Rattle.c0_types_declarations.proofs.headers.check_locals.Goals as goal

pub returns-then-names_function-clause-answers : goal.returns-then-names_function-clause-answers
returns-then-names_function-clause-answers c =
    let env = environment_of c.args.environment.now in
    let own = name_of c.args.own.now in
    let here : names_function env own (name_of c.parameter-item.result.name) ≡ true = search rules in
    let defined : c.args.defined ≡ true = search rules in
    inr (ap (λ b. not b || are_free env own c.args.parameters.now) defined ∙ parameter_here env own c.loop-parameter.parameter-index c.args.parameters.now c.loop-parameter.invariant c.parameter-item.result c.loop-parameter-test.true c.parameter-item.is here)

pub returns-then-names_function-clause-cause : goal.returns-then-names_function-clause-cause
returns-then-names_function-clause-cause c =
    let env = environment_of c.args.environment.now in
    let own = name_of c.args.own.now in
    let here : names_function env own (name_of c.parameter-item.result.name) ≡ true = search rules in
    let defined : c.args.defined ≡ true = search rules in
    (defined, parameter_told env own _ c.args.parameters.now c.loop-parameter.parameter-index c.parameter-item.result c.loop-parameter-test.true c.parameter-item.is here (refl, refl))

pub loop-parameter-preserved : goal.loop-parameter-preserved
loop-parameter-preserved c =
    let env = environment_of c.args.environment.now in
    let own = name_of c.args.own.now in
    let other : names_function env own (name_of c.parameter-item.result.name) ≡ false = search rules in
    parameter_more env own c.loop-parameter.parameter-index c.args.parameters.now c.loop-parameter.invariant c.parameter-item.result c.loop-parameter-test.true c.parameter-item.is other

pub returns-clause-answers : goal.returns-clause-answers
returns-clause-answers c =
    let env = environment_of c.args.environment.now in
    let own = name_of c.args.own.now in
    let defined : c.args.defined ≡ true = search rules in
    ap (λ b. not b || are_free env own c.args.parameters.now) defined ∙ parameters_done env own c.loop-parameter.parameter-index c.args.parameters.now c.loop-parameter.invariant c.loop-parameter-test.false
