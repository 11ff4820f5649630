use Rattle.std.proofs.Common.{◌≡◌, length, map}
use Rattle.command_line.specs.Mistakes.{is_among}
use Rattle.command_line.proofs.mistakes.has_option.Given as goal

-- none of the words so far is the option
abbrev pub invariant-loop-rest : goal.invariant-loop-rest
invariant-loop-rest l = is_among l.choice (map (λ w. w.now) l.rest) ≡ is_among l.choice (map (λ w. w.now) l.words)

abbrev pub decreases-loop-rest : goal.decreases-loop-rest
decreases-loop-rest l = length l.rest
