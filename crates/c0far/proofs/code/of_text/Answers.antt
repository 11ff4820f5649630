use Rattle.c0far.proofs.Memory.{told_apart}
use Rattle.c0far.proofs.code.of_text.Goals as goal

-- a fault of memory was told before
pub say_refused-requires-clause-none : goal.say_refused-requires-clause-none
say_refused-requires-clause-none g c = λ p is. told_apart _ c.if-eq.ensures (c.in-Err.ensures.every p is)

pub say_refused-requires-clause-other : goal.say_refused-requires-clause-other
say_refused-requires-clause-other g c = told_apart _ c.if-eq.ensures
