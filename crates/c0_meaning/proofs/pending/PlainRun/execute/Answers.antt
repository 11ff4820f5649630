use Rattle.std.proofs.Common.{◌≡◌, sym, ap, ◌∙◌, ◌∷◌}
use Rattle.cells.specs.Outcomes.{then_do}
use Rattle.c0_typed.specs.Trees as t
use Rattle.c0_typed.specs.Values as v
use Rattle.c0_typed.specs.Meaning as m
use Rattle.c0_typed.specs.Views.{block_of, exp_of, stmt_of}
use Rattle.c0_meaning.specs.Run.{texts_in}
use Rattle.c0_meaning.specs.Pendings.{behind, completes, evaluates, executes, leaving, loops, pending_of, places_in, state_in, values_in}
use Rattle.c0_values.specs.PlainStates.{value_of}
use Rattle.c0_meaning.proofs.Pendings.{extends_steps, update_given}
use Rattle.c0_meaning.proofs.Halts.{extends_behind}
use Rattle.c0_meaning.proofs.Rows.{stmt_block}
use Rattle.c0_meaning.proofs.pending.PlainRun.execute.Goals as goal

pub returns-in-Block : goal.returns-in-Block
returns-in-Block c ctx =
    let texts = texts_in ctx in
    let p = pending_of c.args.self.now in
    let comes : t.Stmt → m.Outcome v.Value = λ a. leaving ctx (behind ctx p.tasks) p.depth (values_in ctx p) (places_in ctx p) (executes ctx p.depth a (state_in ctx p)) in
    let shape : stmt_of texts c.args.statement.now ≡ block_of texts c.deref.result.now = ap (stmt_of texts) c.in-Block.is ∙ stmt_block texts c.in-Block.all ∙ ap (block_of texts) (sym c.deref.ensures.value) in
    extends_steps ctx c.then.result _ c.args.self.now c.then.new.self _ c.then.ensures (ap comes shape)

pub returns-in_ok-give_local-in-Update : goal.returns-in_ok-give_local-in-Update
returns-in_ok-give_local-in-Update c ctx =
    let texts = texts_in ctx in
    let p = pending_of c.args.self.now in
    let k = behind ctx p.tasks in
    let s = state_in ctx p in
    let x = c.in-Update.x in
    let e = exp_of texts c.in-Update.value in
    let update = t.Update x c.in-Update.field-1 e in
    let given = c.in_ok-give_local-in-Update.ensures in
    let shape : stmt_of texts c.args.statement.now ≡ update = ap (stmt_of texts) c.in-Update.is in
    let comes : t.Stmt → m.Outcome v.Value = λ a. leaving ctx k p.depth (values_in ctx p) (places_in ctx p) (executes ctx p.depth a s) in
    let after : t.Stmt → v.Value → m.Outcome v.Value = λ a held. then_do (evaluates ctx p.depth e s) (λ w u. completes ctx a k p.depth (w ∷ held ∷ values_in ctx p) (places_in ctx p) u) in
    extends_behind ctx c.evaluate_for.result _ c.give_local.new.self c.evaluate_for.new.self _ _ c.evaluate_for.ensures given.2
    (ap comes shape ∙ update_given ctx k p.depth (values_in ctx p) (places_in ctx p) x c.in-Update.field-1 e s
    ∙ ap (after update) (sym (given.1 texts)) ∙ ap (λ a. after a (value_of texts given.0)) (sym shape))

pub returns-in-Loop : goal.returns-in-Loop
returns-in-Loop c ctx =
    let texts = texts_in ctx in
    let p = pending_of c.args.self.now in
    let k = behind ctx p.tasks in
    let s = state_in ctx p in
    let comes : t.Stmt → m.Outcome v.Value = λ a. leaving ctx k p.depth (values_in ctx p) (places_in ctx p) (executes ctx p.depth a s) in
    let again : t.Stmt → m.Outcome v.Value = λ a. loops ctx a s.turns k p.depth (values_in ctx p) (places_in ctx p) s in
    let shape = ap (stmt_of texts) c.in-Loop.is in
    extends_steps ctx c.then-in-Loop.result _ c.args.self.now c.then-in-Loop.new.self _ c.then-in-Loop.ensures (ap comes shape ∙ ap again (sym shape))
