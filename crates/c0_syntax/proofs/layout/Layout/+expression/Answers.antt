use Rattle.std.proofs.Common.{ap, ◌∙◌}
use Rattle.c0_syntax.specs.Views.{expression_of_kind}
use Rattle.c0_syntax.proofs.Rows.{call_is, when_ok, two_parts}
use Rattle.c0_syntax.proofs.layout.Layout.+expression.Goals as goal

pub expression-returns-in_ok-name-in-Call : goal.expression-returns-in_ok-name-in-Call
expression-returns-in_ok-name-in-Call t c =
    let shape = ap expression_of_kind c.in-Call.is ∙ call_is c.in-Call.name c.in-Call.arguments in
    rw shape (when_ok c.arguments.result (λ x h. two_parts _ _ _ _ _ c.in_ok-name-in-Call.ensures h) c.arguments.ensures)
