use Rattle.std.proofs.Common.{◌≡◌, ◌++◌, sym, ap, ◌∙◌, map, List, [], ◌∷◌}
use Rattle.c0_typed.specs.Values as v
use Rattle.c0_typed.specs.Meaning as m
use Rattle.c0_values.specs.PlainStates.{value_of}
use Rattle.c0_meaning.specs.Run.{texts_in}
use Rattle.c0_meaning.specs.Pendings.{Pending, behind, calling, does, pending_of, places_in, state_in, values_in}
use Rattle.c0_meaning.specs.declared.task.Task.TheVariants as task
use Rattle.c0_meaning.proofs.Pendings.{map_push, steps_as}
use Rattle.c0_meaning.proofs.pending.PlainRun.argument.Goals as goal

pub returns : goal.returns
returns c =
    let ctx = c.args.context.now in
    let p = pending_of c.take.new.self in
    let own = task.Argument c.args.rest c.args.given c.args.callee in
    let comes : Pending → m.Outcome v.Value = λ q. does ctx own (behind ctx q.tasks) q.depth (values_in ctx q) (places_in ctx q) (state_in ctx q) in
    let with : List v.Value → m.Outcome v.Value = λ given. calling ctx (behind ctx p.tasks) p.depth (values_in ctx p) (places_in ctx p) c.args.rest.now given c.args.callee (state_in ctx p) in
    let joined : map (value_of (texts_in ctx)) c.args.given.items ++ (value_of (texts_in ctx) c.in_ok-value.value ∷ []) ≡ map (value_of (texts_in ctx)) c.push.new.self.items =
    sym (ap (map (value_of (texts_in ctx))) c.in-Ok.ensures.items ∙ map_push (value_of (texts_in ctx)) c.args.given.items c.in_ok-value.value) in
    steps_as ctx c.arguments.result _ _ (pending_of c.arguments.new.self) (ap comes c.in_ok-value.ensures ∙ ap with joined) c.arguments.ensures
