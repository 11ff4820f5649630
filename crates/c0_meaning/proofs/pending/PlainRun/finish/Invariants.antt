use Rattle.std.proofs.Common.{◌≡◌}
use Rattle.c0_meaning.specs.Pendings.{means, pending_of}
use Rattle.c0_meaning.proofs.pending.PlainRun.finish.Given as goal

-- what comes of it is as before
abbrev pub invariant-loop : goal.invariant-loop
invariant-loop l = means l.context (pending_of l.fn.self) ≡ means l.context (pending_of l.self)
