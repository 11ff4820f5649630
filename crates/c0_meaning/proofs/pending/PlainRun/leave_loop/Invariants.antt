use Rattle.std.proofs.Common.{◌≡◌, length}
use Rattle.c0_typed.specs.Meaning.{Broken}
use Rattle.c0_meaning.specs.Pendings.{left_by, pending_of}
use Rattle.c0_meaning.specs.declared.context.Context.{Context as ContextOf}
use Rattle.c0_meaning.proofs.pending.PlainRun.leave_loop.Given as goal

-- what comes of it is as before
abbrev pub invariant-loop-task : goal.invariant-loop-task
invariant-loop-task l = (c : ContextOf) → left_by Broken c (pending_of l.fn.self) ≡ left_by Broken c (pending_of l.self)

abbrev pub decreases-loop-task : goal.decreases-loop-task
decreases-loop-task l = length (pending_of l.self).tasks
