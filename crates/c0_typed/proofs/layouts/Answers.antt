use Rattle.c0_typed.proofs.Cells.{same_offset, cell_at_offset}
use Rattle.c0_typed.proofs.layouts.Goals as goal

pub returns-clause-offset : goal.returns-clause-offset
returns-clause-offset c = same_offset

pub returns-clause-cell : goal.returns-clause-cell
returns-clause-cell c = cell_at_offset
