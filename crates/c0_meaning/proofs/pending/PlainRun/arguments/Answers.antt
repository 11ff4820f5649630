use Rattle.std.proofs.Common.{ap, ◌∙◌, List}
use Rattle.c0_typed.specs.Values as v
use Rattle.c0_typed.specs.Meaning as m
use Rattle.c0_typed.specs.declared.tree.Expression.{Expression}
use Rattle.c0_meaning.specs.Run.{texts_in, values_of}
use Rattle.c0_meaning.specs.Pendings.{behind, calling, pending_of, places_in, state_in, values_in}
use Rattle.c0_meaning.proofs.Pendings.{calling_more, extends_steps}
use Rattle.c0_meaning.proofs.pending.PlainRun.arguments.Goals as goal

pub returns-in-Some : goal.returns-in-Some
returns-in-Some c =
    let ctx = c.args.context.now in
    let p = pending_of c.args.self.now in
    let given = values_of (texts_in ctx) c.args.given in
    let at : List Expression → m.Outcome v.Value = λ es. calling ctx (behind ctx p.tasks) p.depth (values_in ctx p) (places_in ctx p) es given c.args.callee (state_in ctx p) in
    extends_steps ctx c.then_two.result _ c.args.self.now c.then_two.new.self _ c.then_two.ensures
    (ap at c.in-Some.ensures.cases.0
    ∙ calling_more ctx (behind ctx p.tasks) p.depth (values_in ctx p) (places_in ctx p) c.in-Some.first.now c.in-Some.rest.now given c.args.callee (state_in ctx p))
