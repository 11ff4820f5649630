use Rattle.std.proofs.Common.{map, ap}
use Rattle.c0_syntax.specs.Views.{annotation_of, declaration_of, declaration_of_kind, statements_of}
use Rattle.c0_rules.specs.Mentions.{declaration_mentions, spec_mentions, specs_in, statements_mentions}
use Rattle.c0_types_flow.proofs.Collected.{two_or_refused}
use Rattle.c0_types_flow.proofs.mentioned.texts.Texts.declaration.Goals as goal

pub returns-in_ok-annotations-in-DefineFunction : goal.returns-in_ok-annotations-in-DefineFunction
returns-in_ok-annotations-in-DefineFunction c =
    let whole = declaration_mentions (declaration_of c.args.declaration.now) in
    let shape = ap (λ k. declaration_mentions (declaration_of_kind k)) c.in-DefineFunction.is in
    let first = rw c.deref.ensures.value at c.in_ok-annotations-in-DefineFunction.ensures in
    let second = rw c.deref-in-DefineFunction.ensures.value at c.statements.ensures in
    two_or_refused c.statements.result whole (spec_mentions (specs_in (map annotation_of c.in-DefineFunction.header.annotations.items))) (statements_mentions (statements_of c.in-DefineFunction.body.items)) shape _ _ _ first second
