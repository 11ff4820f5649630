use Rattle.std.proofs.Common.{◌≡◌, length, map}
use Rattle.help_pages.specs.Topics.{topic}
use Rattle.help_pages.proofs.topics.topic_of.Given as goal

-- none of the words so far names a command
abbrev pub invariant-loop-rest : goal.invariant-loop-rest
invariant-loop-rest l = topic (map (λ w. w.now) l.rest) ≡ topic (map (λ w. w.now) l.words)

abbrev pub decreases-loop-rest : goal.decreases-loop-rest
decreases-loop-rest l = length l.rest
