use Rattle.std.proofs.Common.{◌∙◌, ap, refl}
use Rattle.c0_syntax.specs.Views.{expression_of, expression_of_kind, expressions_of}
use Rattle.c0_rules.specs.Mentions.{mentions, argument_mentions}
use Rattle.c0_types_flow.proofs.Collected.{two_or_refused, three_or_refused, texts_step}
use Rattle.c0_types_flow.proofs.Rows.{call_is}
use Rattle.c0_types_flow.proofs.mentioned.texts.Texts.+expression.Goals as goal

pub arguments-loop-argument-preserved : goal.arguments-loop-argument-preserved
arguments-loop-argument-preserved t c =
    texts_step (λ e. mentions (expression_of e)) (λ xs. argument_mentions (expressions_of xs)) (λ x xs. refl) c.deref-argument-items.result.now c.loop-argument.argument-index c.argument-item.result c.loop-argument-test.true c.argument-item.is _ _ c.in_ok-expression.ensures
    ∙ c.loop-argument.invariant

pub expression-returns-in-Call : goal.expression-returns-in-Call
expression-returns-in-Call t c =
    let shape = ap expression_of_kind c.in-Call.is ∙ call_is c.in-Call.field-0 c.in-Call.arguments in
    rw shape c.arguments.ensures

pub expression-returns-in_ok-expression-in-Index : goal.expression-returns-in_ok-expression-in-Index
expression-returns-in_ok-expression-in-Index t c =
    let whole = mentions (expression_of c.args.expression.now) in
    let shape = ap (λ k. mentions (expression_of_kind k)) c.in-Index.is in
    let first = rw c.deref-in-Index.ensures at c.in_ok-expression-in-Index.ensures in
    let second = rw c.deref-in-Index-2.ensures at c.expression-in-Index-2.ensures in
    two_or_refused c.expression-in-Index-2.result whole (mentions (expression_of c.in-Index.array.value)) (mentions (expression_of c.in-Index.index.value)) shape _ _ _ first second

pub expression-returns-in_ok-expression-in-Binary : goal.expression-returns-in_ok-expression-in-Binary
expression-returns-in_ok-expression-in-Binary t c =
    let whole = mentions (expression_of c.args.expression.now) in
    let shape = ap (λ k. mentions (expression_of_kind k)) c.in-Binary.is in
    let first = rw c.deref-in-Binary.ensures at c.in_ok-expression-in-Binary.ensures in
    let second = rw c.deref-in-Binary-2.ensures at c.expression-in-Binary-2.ensures in
    two_or_refused c.expression-in-Binary-2.result whole (mentions (expression_of c.in-Binary.left.value)) (mentions (expression_of c.in-Binary.right.value)) shape _ _ _ first second

pub expression-returns-in_ok-expression-in-Conditional-2 : goal.expression-returns-in_ok-expression-in-Conditional-2
expression-returns-in_ok-expression-in-Conditional-2 t c =
    let whole = mentions (expression_of c.args.expression.now) in
    let shape = ap (λ k. mentions (expression_of_kind k)) c.in-Conditional.is in
    let x = c.in-Conditional in
    let first = rw c.deref-in-Conditional.ensures at c.in_ok-expression-in-Conditional.ensures in
    let second = rw c.deref-in-Conditional-2.ensures at c.in_ok-expression-in-Conditional-2.ensures in
    let third = rw c.deref-in-Conditional-3.ensures at c.expression-in-Conditional-3.ensures in
    three_or_refused c.expression-in-Conditional-3.result whole (mentions (expression_of x.condition.value)) (mentions (expression_of x.first.value)) (mentions (expression_of x.second.value)) shape _ _ _ _ first second third
