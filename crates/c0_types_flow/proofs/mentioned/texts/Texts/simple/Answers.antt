use Rattle.std.proofs.Common.{ap}
use Rattle.c0_syntax.specs.Views.{expression_of, simple_of, simple_of_kind}
use Rattle.c0_rules.specs.Mentions.{mentions, simple_mentions}
use Rattle.c0_types_flow.proofs.Collected.{two_or_refused}
use Rattle.c0_types_flow.proofs.mentioned.texts.Texts.simple.Goals as goal

pub returns-in_ok-expression-in-Assign : goal.returns-in_ok-expression-in-Assign
returns-in_ok-expression-in-Assign c =
    let whole = simple_mentions (simple_of c.args.simple.now) in
    let shape = ap (λ k. simple_mentions (simple_of_kind k)) c.in-Assign.is in
    let first = c.in_ok-expression-in-Assign.ensures in
    let second = c.expression-in-Assign-2.ensures in
    two_or_refused c.expression-in-Assign-2.result whole (mentions (expression_of c.in-Assign.destination)) (mentions (expression_of c.in-Assign.value)) shape _ _ _ first second

pub returns-in_ok-expression-in-Update : goal.returns-in_ok-expression-in-Update
returns-in_ok-expression-in-Update c =
    let whole = simple_mentions (simple_of c.args.simple.now) in
    let shape = ap (λ k. simple_mentions (simple_of_kind k)) c.in-Update.is in
    let first = c.in_ok-expression-in-Update.ensures in
    let second = c.expression-in-Update-2.ensures in
    two_or_refused c.expression-in-Update-2.result whole (mentions (expression_of c.in-Update.destination)) (mentions (expression_of c.in-Update.value)) shape _ _ _ first second
