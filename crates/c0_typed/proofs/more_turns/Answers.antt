use Rattle.c0_typed.proofs.Turns.{more_turns_extend}
use Rattle.c0_typed.proofs.more_turns.Goals as goal

pub returns : goal.returns
returns c = more_turns_extend
