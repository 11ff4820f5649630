use Rattle.std.proofs.Common.{◌<◌, refl, arith}
use Rattle.world_memory.proofs.memory.ObjectPlace.bits.Goals as goal

pub returns-in-Here-clause-value : goal.returns-in-Here-clause-value
returns-in-Here-clause-value c = rw c.in-Here.is (λ fits. let l : c.in-Here.frame < 16777216 = fits c.in-Here.frame refl in let e = c.clean_bits.ensures.value in omega arith)

pub returns-in-Leaving-clause-value : goal.returns-in-Leaving-clause-value
returns-in-Leaving-clause-value c = rw c.in-Leaving.is (λ fits. let l : c.in-Leaving.frame < 16777216 = fits c.in-Leaving.frame refl in let e = c.mark_bits.ensures.value in omega arith)
