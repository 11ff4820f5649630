use Rattle.std.proofs.Common.{◌≡◌, length, map}
use Rattle.command_line.specs.Mistakes.{mistake, start}
use Rattle.command_line.proofs.mistakes.mistake.Given as goal

-- none of the words so far is wrong, and one is at this place behind them
abbrev pub invariant-loop-rest : goal.invariant-loop-rest
invariant-loop-rest l = mistake l.name (map (λ w. w.now) l.words) (map (λ w. w.now) l.rest) l.place ≡ mistake l.name (map (λ w. w.now) l.words) (map (λ w. w.now) l.words) start

abbrev pub decreases-loop-rest : goal.decreases-loop-rest
decreases-loop-rest l = length l.rest
