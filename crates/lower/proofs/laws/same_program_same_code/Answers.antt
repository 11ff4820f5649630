use Rattle.lower.proofs.ViewPrograms.{same_program_same_code}
use Rattle.lower.proofs.laws.same_program_same_code.Goals as goal

pub returns : goal.returns
returns c = same_program_same_code
