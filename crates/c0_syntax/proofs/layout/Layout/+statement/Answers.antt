use Rattle.std.proofs.Common.{ap, ◌∙◌}
use Rattle.c0_syntax.specs.Views.{statement_of_kind}
use Rattle.c0_syntax.proofs.Rows.{block_is, when_ok, two_parts}
use Rattle.c0_syntax.proofs.layout.Layout.+statement.Goals as goal

pub statement-returns-in_ok-sign-in-Block : goal.statement-returns-in_ok-sign-in-Block
statement-returns-in_ok-sign-in-Block t c =
    let shape = ap statement_of_kind c.in-Block.is ∙ block_is c.in-Block.statements in
    rw shape (when_ok c.statements.result (λ x h. two_parts _ _ _ _ _ c.in_ok-sign-in-Block.ensures h) c.statements.ensures)
