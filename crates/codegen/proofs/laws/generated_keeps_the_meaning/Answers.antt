use Rattle.codegen.proofs.Both.{keeps}
use Rattle.codegen.proofs.laws.generated_keeps_the_meaning.Goals as goal

pub returns : goal.returns
returns c = keeps c.run_laws.ensures.stopped c.run_laws.ensures.stuck c.run_laws.ensures.output
