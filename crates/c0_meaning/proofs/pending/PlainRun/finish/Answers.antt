use Rattle.std.proofs.Common.{rules, ap, ◌∙◌}
use Rattle.c0_values.specs.PlainStates.{value_of}
use Rattle.c0_meaning.specs.Pendings.{means}
use Rattle.c0_meaning.specs.Run.{texts_in}
use Rattle.c0_meaning.proofs.Halts.{agrees_halt}
use Rattle.c0_meaning.proofs.Steps.{agrees_along}
use Rattle.c0_meaning.proofs.pending.PlainRun.finish.Goals as goal

pub returns-in_err-perform : goal.returns-in_err-perform
returns-in_err-perform c =
    agrees_along (value_of (texts_in c.args.context.now)) c.from_residual.result _ _ _ (c.loop.invariant ∙ ap (means c.args.context.now) c.in-Some.ensures) (search (rules, agrees_halt))
