use Rattle.std.proofs.Common.{sym, ap, ◌∙◌}
use Rattle.c0_typed.specs.Trees as t
use Rattle.c0_typed.specs.Views.{exp_of, place_of, stmt_of}
use Rattle.c0_meaning.specs.Run.{texts_in}
use Rattle.c0_meaning.proofs.Pendings.{completes_as}
use Rattle.c0_meaning.proofs.pending.PlainRun.complete.Goals as goal

pub returns-in-Set : goal.returns-in-Set
returns-in-Set c =
    let texts = texts_in c.args.context.now in
    completes_as c.args.context.now _ _ c.args.self.now c.set_local.result c.set_local.new.self (ap (stmt_of texts) c.in-Set.is) (c.set_local.ensures c.args.context.now (exp_of texts c.in-Set.field-1))

pub returns-in-Update : goal.returns-in-Update
returns-in-Update c =
    let texts = texts_in c.args.context.now in
    completes_as c.args.context.now _ _ c.args.self.now c.update.result c.update.new.self (ap (stmt_of texts) c.in-Update.is) (c.update.ensures c.args.context.now (exp_of texts c.in-Update.field-2))

pub returns-in-Store : goal.returns-in-Store
returns-in-Store c =
    let texts = texts_in c.args.context.now in
    completes_as c.args.context.now _ _ c.args.self.now c.store.result c.store.new.self (ap (stmt_of texts) c.in-Store.is) (c.store.ensures c.args.context.now (place_of texts c.in-Store.field-0) (exp_of texts c.in-Store.field-1))

pub returns-in-StoreUpdate : goal.returns-in-StoreUpdate
returns-in-StoreUpdate c =
    let texts = texts_in c.args.context.now in
    completes_as c.args.context.now _ _ c.args.self.now c.store_update.result c.store_update.new.self (ap (stmt_of texts) c.in-StoreUpdate.is) (c.store_update.ensures c.args.context.now (place_of texts c.in-StoreUpdate.field-0) (exp_of texts c.in-StoreUpdate.field-2))

pub returns-in-Do : goal.returns-in-Do
returns-in-Do c =
    let texts = texts_in c.args.context.now in
    completes_as c.args.context.now _ _ c.args.self.now c.forget.result c.forget.new.self (ap (stmt_of texts) c.in-Do.is) (c.forget.ensures c.args.context.now (exp_of texts c.in-Do.field-0))

pub returns-in-If : goal.returns-in-If
returns-in-If c =
    let texts = texts_in c.args.context.now in
    completes_as c.args.context.now _ _ c.args.self.now c.branch-self.result c.branch-self.new.self (ap (stmt_of texts) c.in-If.is
    ∙ ap (λ x. t.If (exp_of texts c.in-If.field-0) (stmt_of texts x) (stmt_of texts c.in-If.second.value)) (sym c.deref.ensures)
    ∙ ap (λ x. t.If (exp_of texts c.in-If.field-0) (stmt_of texts c.deref.result.now) (stmt_of texts x)) (sym c.deref-in-If.ensures)) (c.branch-self.ensures c.args.context.now (exp_of texts c.in-If.field-0))

pub returns-in-ReturnValue : goal.returns-in-ReturnValue
returns-in-ReturnValue c =
    let texts = texts_in c.args.context.now in
    completes_as c.args.context.now _ _ c.args.self.now c.return_value.result c.return_value.new.self (ap (stmt_of texts) c.in-ReturnValue.is) (c.return_value.ensures c.args.context.now (exp_of texts c.in-ReturnValue.field-0))

pub returns-in-Error : goal.returns-in-Error
returns-in-Error c =
    let texts = texts_in c.args.context.now in
    completes_as c.args.context.now _ _ c.args.self.now c.error.result c.error.new.self (ap (stmt_of texts) c.in-Error.is) (c.error.ensures (exp_of texts c.in-Error.field-0))
