use Rattle.std.proofs.Common.{◌≡◌, length, map}
use Rattle.help_pages.specs.Topics.{ask_flag}
use Rattle.help_pages.proofs.topics.ask.Given as goal

-- none of the words so far asks for help
abbrev pub invariant-loop-rest : goal.invariant-loop-rest
invariant-loop-rest l = ask_flag (map (λ w. w.now) l.rest) ≡ ask_flag (map (λ w. w.now) l.words)

abbrev pub decreases-loop-rest : goal.decreases-loop-rest
decreases-loop-rest l = length l.rest
