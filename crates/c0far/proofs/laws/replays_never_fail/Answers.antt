use Rattle.c0far.proofs.Replayed.{replayed_less}
use Rattle.c0far.specs.Runs.{IsReliableIn}
use Rattle.c0far.proofs.laws.replays_never_fail.Goals as goal

-- the store is known to be honest and not to fail
pub returns : goal.returns
returns c = λ asked files held out err result memory no_fault did.
    let known = replayed_less (Unit {0}) (Unit {0}) (IsReliableIn asked.memory) (Unit {0}) (λ u. u) (λ u. (memory, no_fault)) _ _ did.lines did.ends did.replayed in
    c.never_fails.ensures _ _ did.lines did.ends known
