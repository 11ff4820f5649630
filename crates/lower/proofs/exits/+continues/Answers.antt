use Rattle.std.proofs.Common.{sym, ap, ◌∙◌}
use Rattle.lower.specs.Building.{any_continue}
use Rattle.lower.specs.Exits.{has_continue}
use Rattle.lower.proofs.StatementRows.{continue_in_block}
use Rattle.lower.proofs.exits.+continues.Goals as goal

pub statement_continues-returns-in-Block : goal.statement_continues-returns-in-Block
statement_continues-returns-in-Block t c = c.some_continues.ensures ∙ ap any_continue c.deref.ensures.value ∙ sym (continue_in_block c.in-Block.all) ∙ ap has_continue (sym c.in-Block.is)
