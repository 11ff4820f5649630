use Rattle.c0_source.proofs.Scanned.{right}
use Rattle.c0_source.proofs.laws.each_text_is_told.Goals as goal

pub returns : goal.returns
returns c = right
