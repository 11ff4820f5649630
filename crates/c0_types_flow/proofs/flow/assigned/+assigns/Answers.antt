use Rattle.std.proofs.Common.{ap, ◌∙◌}
use Rattle.c0_syntax.specs.Views.{statement_of_kind, statements_of}
use Rattle.c0_rules.specs.Mentions.{statements_assign}
use Rattle.c0_rules.specs.Types.{is_among}
use Rattle.c0_types_flow.proofs.Rows.{block_is}
use Rattle.c0_types_flow.proofs.flow.assigned.+assigns.Goals as goal

pub statement_assigns-returns-in-Block : goal.statement_assigns-returns-in-Block
statement_assigns-returns-in-Block t c =
    let shape = ap statement_of_kind c.in-Block.is ∙ block_is c.in-Block.statements in
    rw shape (c.assigns.ensures ∙ ap (λ z. is_among c.args.name.now (statements_assign (statements_of z))) c.deref.ensures.value)
