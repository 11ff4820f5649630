use Rattle.pointer_word.proofs.RowsByTurns.{row_13, row_14, row_left, row_written}
use Rattle.pointer_word.proofs.laws.worked_rows.Goals as goal

pub returns : goal.returns
returns c = record { written_meanwhile = row_13; moved = row_14; left = row_left; written = row_written }
