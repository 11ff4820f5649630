use Rattle.std.proofs.Common.{◌≡◌, length}
use Rattle.object_lock_tests.proofs.two_threads.read_words.Given as goal

abbrev pub invariant-loop : goal.invariant-loop
invariant-loop g l =
    (goal.iterator-loop g).can_next l.iterator' × (goal.iterator-loop g).is_finite l.iterator' × (l.owner ≡ record l.initial.owner { store = l.owner.store; refusals = l.owner.refusals }) × (length l.words ≡ length l.initial.words)
