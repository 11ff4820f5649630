use Rattle.std.proofs.Common.{ap, Err}
use Rattle.c0_typed.specs.Trees as t
use Rattle.c0_typed.specs.Values as v
use Rattle.c0_typed.specs.Meaning as m
use Rattle.c0_meaning.specs.Run.{texts_in}
use Rattle.c0_meaning.specs.Pendings.{Pending, behind, completes, pending_of, places_in, state_in, values_in}
use Rattle.c0_meaning.proofs.Pendings.{halts_so, steps_as}
use Rattle.c0_meaning.proofs.pending.PlainRun.error.Goals as goal

pub returns : goal.returns
returns c a =
    let ctx = c.args.context.now in
    let p = pending_of c.take.new.self in
    let comes : Pending → m.Outcome v.Value = λ q. completes ctx (t.Error a) (behind ctx q.tasks) q.depth (values_in ctx q) (places_in ctx q) (state_in ctx q) in
    steps_as ctx (Err c.error_called.result) _ _ p (ap comes c.in_ok-text.ensures) (halts_so ctx (texts_in ctx) c.error_called.result _ p (c.error_called.ensures (state_in ctx p)))
