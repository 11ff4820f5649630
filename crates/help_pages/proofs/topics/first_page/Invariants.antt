use Rattle.std.proofs.Common.{◌≡◌, drop, map}
use Rattle.help_pages.specs.Topics.{first_fault}
use Rattle.help_pages.proofs.topics.first_page.Given as goal

-- none of the pages so far is on that fault
abbrev pub invariant-loop-fault : goal.invariant-loop-fault
invariant-loop-fault l = first_fault (map (λ t. (t.0.now, t.1.now, t.2.now)) (drop l.fault-index l.faults)) l.word ≡ first_fault (map (λ t. (t.0.now, t.1.now, t.2.now)) l.faults) l.word
