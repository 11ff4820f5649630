use Rattle.std.proofs.Common.{ap, subst, sym, ◌∙◌}
use Rattle.c0_syntax.specs.Views.{expression_of_kind, expressions_of}
use Rattle.c0_grammar_laws.specs.Places.{PlacedArguments, PlacedKind, after_arguments, after_expression, skip}
use Rattle.c0_grammar_laws.proofs.Placed.{placed_call}
use Rattle.c0_syntax.proofs.Rows.{call_is}
use Rattle.c0_parser_expressions.proofs.expressions.call_node.Goals as goal

pub returns-clause-tree : goal.returns-clause-tree
returns-clause-tree c = ap expression_of_kind c.expression_node.ensures.node ∙ call_is c.args.function c.args.found.arguments

pub returns-clause-placed : goal.returns-clause-placed
returns-clause-placed c first behind begins name stand =
    let node = c.expression_node.ensures in
    let es = c.args.found.arguments in
    let shape = ap expression_of_kind node.node ∙ call_is c.args.function es in
    let along = ap (λ x. after_expression x first) shape ∙ (ap (λ o. after_arguments (expressions_of es.items) (skip o)) name.1 ∙ stand.1) in
    (((node.start ∙ begins, node.end ∙ sym (ap (λ o. o.end) along)), subst (PlacedKind first) (sym node.node) (placed_call first c.args.function es name.0 (subst (λ o. PlacedArguments (skip o) es.items) (sym name.1) stand.0))), along)
