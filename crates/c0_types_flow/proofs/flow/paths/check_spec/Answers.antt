use Rattle.std.proofs.Common.{◌≡◌, Bool, true, sym, ap, ◌∙◌, map, rules}
use Rattle.std.specs.Prelude.{◌&&◌, not}
use Rattle.std.specs.List.{list_any}
use Rattle.c0_syntax.specs.Views.{expression_of, spec_of, statements_of, typed_name_of}
use Rattle.c0_rules.specs.Mentions.{mentions, statements_assign, variables_in}
use Rattle.c0_rules.specs.Programs.{is_assigned_parameter, names_of}
use Rattle.c0_rules.specs.Statements.{Postcondition, role_of, same_role}
use Rattle.c0_rules.specs.Types.{Name}
use Rattle.c0_types_flow.proofs.Ensures.{any_assigned}
use Rattle.c0_types_flow.proofs.flow.paths.check_spec.Goals as goal

pub returns-clause-answers : goal.returns-clause-answers
returns-clause-answers c =
    let role : same_role Postcondition (role_of (spec_of c.args.spec.now)) ≡ true = search rules in
    let is : Name → Bool = is_assigned_parameter (names_of (map typed_name_of c.args.parameters.now)) (statements_assign (statements_of c.args.body.now)) in
    c.check_expression.ensures.answers
    ∙ ap not (any_assigned c.args.parameters.now c.args.body.now (mentions (expression_of c.args.spec.now.condition)))
    ∙ ap (λ z. not (z && list_any is (variables_in (expression_of c.args.spec.now.condition)))) (sym role)
