use Rattle.std.proofs.Common.{map, ◌++◌, ◌∙◌, ap, refl, option_map}
use Rattle.c0_syntax.specs.Views.{annotation_of, expression_of, simple_of, statement_of, statement_of_kind, statements_of}
use Rattle.c0_rules.specs.Mentions.{mentions, part_mentions, spec_mentions, specs_in, statement_mentions, statements_mentions}
use Rattle.c0_types_flow.proofs.Collected.{two_or_refused, three_or_refused, texts_step}
use Rattle.c0_types_flow.proofs.Rows.{block_is}
use Rattle.c0_types_flow.proofs.mentioned.texts.Texts.+statement.Goals as goal

pub statements-loop-statement-preserved : goal.statements-loop-statement-preserved
statements-loop-statement-preserved t c =
    texts_step (λ x. statement_mentions (statement_of x)) (λ xs. statements_mentions (statements_of xs)) (λ x xs. refl) c.args.statements.now c.loop-statement.statement-index c.statement-item.result c.loop-statement-test.true c.statement-item.is _ _ c.in_ok-statement.ensures
    ∙ c.loop-statement.invariant

pub statement-returns-in-Block : goal.statement-returns-in-Block
statement-returns-in-Block t c =
    let shape = ap statement_of_kind c.in-Block.is ∙ block_is c.in-Block.statements in
    rw shape (rw c.deref.ensures.value at c.statements.ensures)

pub statement-returns-in_ok-expression-in-If : goal.statement-returns-in_ok-expression-in-If
statement-returns-in_ok-expression-in-If t c =
    let whole = statement_mentions (statement_of c.args.statement.now) in
    let shape = ap (λ k. statement_mentions (statement_of_kind k)) c.in-If.is in
    let first = c.in_ok-expression-in-If.ensures in
    let second = rw c.deref-in-If.ensures at c.statement.ensures in
    two_or_refused c.statement.result whole (mentions (expression_of c.in-If.condition)) (statement_mentions (statement_of c.in-If.body.value)) shape _ _ _ first second

pub statement-returns-in_ok-statement-in-IfElse : goal.statement-returns-in_ok-statement-in-IfElse
statement-returns-in_ok-statement-in-IfElse t c =
    let whole = statement_mentions (statement_of c.args.statement.now) in
    let shape = ap (λ k. statement_mentions (statement_of_kind k)) c.in-IfElse.is in
    let x = c.in-IfElse in
    let first = c.in_ok-expression-in-IfElse.ensures in
    let second = rw c.deref-in-IfElse.ensures at c.in_ok-statement-in-IfElse.ensures in
    let third = rw c.deref-in-IfElse-2.ensures at c.statement-in-IfElse-2.ensures in
    three_or_refused c.statement-in-IfElse-2.result whole (mentions (expression_of x.condition)) (statement_mentions (statement_of x.first.value)) (statement_mentions (statement_of x.second.value)) shape _ _ _ _ first second third

pub statement-returns-in_ok-annotations-in-While : goal.statement-returns-in_ok-annotations-in-While
statement-returns-in_ok-annotations-in-While t c =
    let whole = statement_mentions (statement_of c.args.statement.now) in
    let shape = ap (λ k. statement_mentions (statement_of_kind k)) c.in-While.is in
    let x = c.in-While in
    let first = c.in_ok-expression-in-While.ensures in
    let second = rw c.deref-in-While.ensures.value at c.in_ok-annotations-in-While.ensures in
    let third = rw c.deref-in-While-2.ensures at c.statement-in-While.ensures in
    three_or_refused c.statement-in-While.result whole (mentions (expression_of x.condition)) (spec_mentions (specs_in (map annotation_of x.annotations.items))) (statement_mentions (statement_of x.body.value)) shape _ _ _ _ first second third

pub statement-returns-in_ok-annotations-in-For : goal.statement-returns-in_ok-annotations-in-For
statement-returns-in_ok-annotations-in-For t c =
    let whole = statement_mentions (statement_of c.args.statement.now) in
    let shape = ap (λ k. statement_mentions (statement_of_kind k)) c.in-For.is in
    let x = c.in-For in
    let first = c.in_ok-for_parts-in-For.ensures in
    let second = rw c.deref-in-For.ensures.value at c.in_ok-annotations-in-For.ensures in
    let third = rw c.deref-in-For-2.ensures at c.statement-in-For.ensures in
    three_or_refused c.statement-in-For.result whole (part_mentions (option_map simple_of x.first) ++ mentions (expression_of x.condition) ++ part_mentions (option_map simple_of x.third)) (spec_mentions (specs_in (map annotation_of x.annotations.items))) (statement_mentions (statement_of x.body.value)) shape _ _ _ _ first second third
