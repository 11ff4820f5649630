use Rattle.std.proofs.Common.{◌≡◌, sym, ap, ◌∙◌, map, List}
use Rattle.c0_typed.specs.Trees as t
use Rattle.c0_typed.specs.Values as v
use Rattle.c0_typed.specs.Meaning as m
use Rattle.c0_typed.specs.Views.{exp_of, exps_of, output_of}
use Rattle.c0_meaning.specs.declared.task.Callee.TheVariants as callee
use Rattle.c0_values.specs.PlainStates.{value_of}
use Rattle.c0_meaning.specs.Run.{texts_in}
use Rattle.c0_meaning.specs.Pendings.{behind, calling, evaluates, giving, pending_of, places_in, state_in, values_in}
use Rattle.c0_meaning.proofs.Pendings.{calling_all, steps_as}
use Rattle.c0_meaning.proofs.Rows.{exp_call, exp_print}
use Rattle.c0_meaning.proofs.pending.PlainRun.+evaluate.Goals as goal

pub returns-in-Call : goal.returns-in-Call
returns-in-Call turn c =
    let ctx = c.args.context.now in
    let texts = texts_in ctx in
    let p = pending_of c.args.self.now in
    let es = c.deref-in-Call.result.now in
    let f = callee.Function c.in-Call.function in
    let shape : exp_of texts c.args.expression.now ≡ t.Call c.in-Call.function (exps_of texts es) = ap (exp_of texts) c.in-Call.is ∙ exp_call texts c.in-Call.function c.in-Call.arguments ∙ ap (λ xs. t.Call c.in-Call.function (exps_of texts xs)) (sym c.deref-in-Call.ensures.value) in
    let comes : t.Exp → m.Outcome v.Value = λ e. giving ctx (behind ctx p.tasks) p.depth (values_in ctx p) (places_in ctx p) (evaluates ctx p.depth e (state_in ctx p)) in
    let with : List v.Value → m.Outcome v.Value = λ given. calling ctx (behind ctx p.tasks) p.depth (values_in ctx p) (places_in ctx p) es given f (state_in ctx p) in
    steps_as ctx c.arguments.result _ _ (pending_of c.arguments.new.self)
    (ap comes shape ∙ calling_all ctx (behind ctx p.tasks) p.depth (values_in ctx p) (places_in ctx p) es f (state_in ctx p) ∙ ap with (sym (ap (map (value_of texts)) c.new-given.ensures.items)))
    c.arguments.ensures

pub returns-in-Print : goal.returns-in-Print
returns-in-Print turn c =
    let ctx = c.args.context.now in
    let texts = texts_in ctx in
    let p = pending_of c.args.self.now in
    let es = c.deref-in-Print.result.now in
    let f = callee.Library c.in-Print.output in
    let shape : exp_of texts c.args.expression.now ≡ t.Out (output_of c.in-Print.output) (exps_of texts es) = ap (exp_of texts) c.in-Print.is ∙ exp_print texts c.in-Print.output c.in-Print.arguments ∙ ap (λ xs. t.Out (output_of c.in-Print.output) (exps_of texts xs)) (sym c.deref-in-Print.ensures.value) in
    let comes : t.Exp → m.Outcome v.Value = λ e. giving ctx (behind ctx p.tasks) p.depth (values_in ctx p) (places_in ctx p) (evaluates ctx p.depth e (state_in ctx p)) in
    let with : List v.Value → m.Outcome v.Value = λ given. calling ctx (behind ctx p.tasks) p.depth (values_in ctx p) (places_in ctx p) es given f (state_in ctx p) in
    steps_as ctx c.arguments-in-Print.result _ _ (pending_of c.arguments-in-Print.new.self)
    (ap comes shape ∙ calling_all ctx (behind ctx p.tasks) p.depth (values_in ctx p) (places_in ctx p) es f (state_in ctx p) ∙ ap with (sym (ap (map (value_of texts)) c.new-given-in-Print.ensures.items)))
    c.arguments-in-Print.ensures
