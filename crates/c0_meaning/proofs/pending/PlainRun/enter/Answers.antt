use Rattle.std.proofs.Common.{◌≡◌, sym, ap, ◌∙◌, subst, map, ◌<◌, ◌≤◌, ◌-◌, List, ◌∷◌, length, get_or, arith}
use Rattle.std.proofs.lemmas.List.{get_or-map, get_or_past, length-map}
use Rattle.std.specs.declared.vec.Vec.{Vec}
use Rattle.std.specs.declared.alloc.Global.{Global}
use Rattle.c0_typed.specs.Values as v
use Rattle.c0_typed.specs.Meaning as m
use Rattle.c0_typed.specs.Meaning.{locals_at_entry, no_function}
use Rattle.c0_typed.specs.Views.{function_of, program_of}
use Rattle.c0_values.specs.declared.value.Value as run
use Rattle.c0_values.specs.declared.value.Value.TheVariants.{Void}
use Rattle.c0_meaning.specs.declared.task.Task.TheVariants as task
use Rattle.c0_values.specs.PlainStates.{state_of, value_of}
use Rattle.c0_meaning.specs.Run.{structs_in, texts_in, values_of}
use Rattle.c0_meaning.specs.Pendings.{Pending, behind, calls_at, giving, means, pending_of, places_in, state_in, values_in}
use Rattle.c0_meaning.proofs.Pendings.{entering, extends_steps, gives_steps}
use Rattle.c0_meaning.proofs.Steps.{call_enters, in_no_function}
use Rattle.c0_meaning.proofs.pending.PlainRun.enter.Goals as goal

pub returns : goal.returns
returns c =
    let found = c.in-Some.ensures.lookup.3 in
    let ctx = c.args.context.now in
    let texts = texts_in ctx in
    let p = pending_of c.args.self.now in
    let all = ctx.program.now.functions.items in
    let f = c.in-Some.function.now in
    let fn = function_of texts f in
    let here : c.args.function < length all = subst (λ fs. c.args.function < length fs) c.deref.ensures.value found.0 in
    let is : f ≡ get_or all c.args.function f = found.1 f ∙ ap (λ fs. get_or fs c.args.function f) c.deref.ensures.value in
    let looked : get_or (program_of ctx.program.now).functions c.args.function no_function ≡ fn = get_or-map (function_of texts) all c.args.function f no_function here ∙ ap (function_of texts) (sym is) in
    let turned = c.in_ok-take_turn.ensures texts in
    let u = state_of texts c.take_turn.new.self in
    let args = values_of texts c.args.given in
    let entered : map (value_of texts) c.replace-outer.new.dest.items ≡ locals_at_entry fn args = ap (λ (l : Vec run.Value Global). map (value_of texts) l.items) c.replace-outer.ensures.after ∙ c.in-Some-entry_locals.ensures texts in
    let kept : u.locals ≡ values_of texts c.replace-outer.result = ap (λ (l : Vec run.Value Global). map (value_of texts) l.items) (sym c.replace-outer.ensures.value) in
    let pending : List v.Value → m.Outcome v.Value = λ ls. behind ctx (task.Check c.deref-3.result ∷ task.ExecuteAll c.deref-4.result ∷ task.EndBody ∷ task.Check c.deref-2.result ∷ task.EndCall c.replace-outer.result p.depth ∷ p.tasks) m.Next (p.depth - 1) (values_in ctx p) (places_in ctx p) (record u { locals = ls }) in
    extends_steps ctx c.then_three.result _ c.then_two.new.self c.then_three.new.self _ c.then_three.ensures
    (ap (giving ctx (behind ctx p.tasks) p.depth (values_in ctx p) (places_in ctx p)) (call_enters (structs_in ctx) ctx.checks (program_of ctx.program.now) p.depth c.args.function args (state_in ctx p) u fn c.if-self-eq0.false turned.0 turned.1 looked)
    ∙ entering ctx p.tasks p.depth (p.depth - 1) (values_in ctx p) (places_in ctx p) c.replace-outer.result c.deref-3.result c.deref-2.result c.deref-4.result f args u c.deref-3.ensures.value c.deref-2.ensures.value c.deref-4.ensures.value kept
    ∙ ap pending (sym entered)
    ∙ ap (λ (q : Pending). means ctx (record q { tasks = task.Check c.deref-3.result ∷ task.ExecuteAll c.deref-4.result ∷ task.EndBody ∷ q.tasks })) (sym c.in_ok-then_two.ensures))

pub returns-in_default : goal.returns-in_default
returns-in_default c =
    let ctx = c.args.context.now in
    let texts = texts_in ctx in
    let p = pending_of c.args.self.now in
    let all = ctx.program.now.functions.items in
    let past : length all ≤ c.args.function = subst (λ fs. length fs ≤ c.args.function) c.deref.ensures.value c.in_default.ensures.lookup.3 in
    let looked : get_or (program_of ctx.program.now).functions c.args.function no_function ≡ no_function = get_or_past (map (function_of texts) all) c.args.function no_function (omega (arith, past, length-map all (function_of texts))) in
    let turned = c.in_ok-take_turn.ensures texts in
    let u = state_of texts c.take_turn.new.self in
    let args = values_of texts c.args.given in
    gives_steps ctx c.give.result Void (record c.args.self.now { room = c.allows_call.new.self; state = c.take_turn.new.self }) c.give.new.self _ c.give.ensures
    (ap (giving ctx (behind ctx p.tasks) p.depth (values_in ctx p) (places_in ctx p))
    (call_enters (structs_in ctx) ctx.checks (program_of ctx.program.now) p.depth c.args.function args (state_in ctx p) u no_function c.if-self-eq0.false turned.0 turned.1 looked ∙ in_no_function ctx.checks (structs_in ctx) (calls_at ctx (p.depth - 1)) args u))
