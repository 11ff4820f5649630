use Rattle.std.proofs.Common.{sym, ap, ◌∙◌}
use Rattle.c0_typed.specs.Trees as t
use Rattle.c0_typed.specs.Views.{exp_of, place_of, type_of}
use Rattle.c0_meaning.specs.Run.{texts_in}
use Rattle.c0_meaning.proofs.Pendings.{combines_as}
use Rattle.c0_meaning.proofs.pending.PlainRun.combine.Goals as goal

pub returns-in-Unary : goal.returns-in-Unary
returns-in-Unary c =
    let texts = texts_in c.args.context.now in
    let shape = ap (exp_of texts) c.in-Unary.is in
    combines_as c.args.context.now _ _ c.args.self.now c.unary.result c.unary.new.self shape (c.unary.ensures c.args.context.now (exp_of texts c.in-Unary.field-1.value))

pub returns-in-Binary : goal.returns-in-Binary
returns-in-Binary c =
    let texts = texts_in c.args.context.now in
    let shape = ap (exp_of texts) c.in-Binary.is in
    combines_as c.args.context.now _ _ c.args.self.now c.binary.result c.binary.new.self shape (c.binary.ensures c.args.context.now (exp_of texts c.in-Binary.field-1.value) (exp_of texts c.in-Binary.field-2.value))

pub returns-in-Compare : goal.returns-in-Compare
returns-in-Compare c =
    let texts = texts_in c.args.context.now in
    let shape = ap (exp_of texts) c.in-Compare.is in
    combines_as c.args.context.now _ _ c.args.self.now c.compare.result c.compare.new.self shape (c.compare.ensures c.args.context.now (type_of c.in-Compare.field-0) (exp_of texts c.in-Compare.field-2.value) (exp_of texts c.in-Compare.field-3.value))

pub returns-in-And : goal.returns-in-And
returns-in-And c =
    let texts = texts_in c.args.context.now in
    let shape = ap (exp_of texts) c.in-And.is ∙ ap (λ x. t.And (exp_of texts c.in-And.field-0.value) (exp_of texts x)) (sym c.deref.ensures) in
    combines_as c.args.context.now _ _ c.args.self.now c.and.result c.and.new.self shape (c.and.ensures c.args.context.now (exp_of texts c.in-And.field-0.value))

pub returns-in-Or : goal.returns-in-Or
returns-in-Or c =
    let texts = texts_in c.args.context.now in
    let shape = ap (exp_of texts) c.in-Or.is ∙ ap (λ x. t.Or (exp_of texts c.in-Or.field-0.value) (exp_of texts x)) (sym c.deref-in-Or.ensures) in
    combines_as c.args.context.now _ _ c.args.self.now c.or.result c.or.new.self shape (c.or.ensures c.args.context.now (exp_of texts c.in-Or.field-0.value))

pub returns-in-Choose : goal.returns-in-Choose
returns-in-Choose c =
    let texts = texts_in c.args.context.now in
    let shape = ap (exp_of texts) c.in-Choose.is
    ∙ ap (λ x. t.Choose (type_of c.in-Choose.field-0) (exp_of texts c.in-Choose.field-1.value) (exp_of texts x) (exp_of texts c.in-Choose.second.value)) (sym c.deref-in-Choose.ensures)
    ∙ ap (λ x. t.Choose (type_of c.in-Choose.field-0) (exp_of texts c.in-Choose.field-1.value) (exp_of texts c.deref-in-Choose.result.now) (exp_of texts x)) (sym c.deref-in-Choose-2.ensures) in
    combines_as c.args.context.now _ _ c.args.self.now c.choose.result c.choose.new.self shape (c.choose.ensures c.args.context.now (type_of c.in-Choose.field-0) (exp_of texts c.in-Choose.field-1.value))

pub returns-in-Load : goal.returns-in-Load
returns-in-Load c =
    let texts = texts_in c.args.context.now in
    let shape = ap (exp_of texts) c.in-Load.is in
    combines_as c.args.context.now _ _ c.args.self.now c.load.result c.load.new.self shape (c.load.ensures c.args.context.now (type_of c.in-Load.field-0) (place_of texts c.in-Load.field-1.value))

pub returns-in-AllocArray : goal.returns-in-AllocArray
returns-in-AllocArray c =
    let texts = texts_in c.args.context.now in
    let shape = ap (exp_of texts) c.in-AllocArray.is in
    combines_as c.args.context.now _ _ c.args.self.now c.allocate_array.result c.allocate_array.new.self shape (c.allocate_array.ensures (exp_of texts c.in-AllocArray.field-1.value))

pub returns-in-Length : goal.returns-in-Length
returns-in-Length c =
    let texts = texts_in c.args.context.now in
    let shape = ap (exp_of texts) c.in-Length.is in
    combines_as c.args.context.now _ _ c.args.self.now c.length.result c.length.new.self shape (c.length.ensures c.args.context.now (type_of c.in-Length.field-0) (exp_of texts c.in-Length.field-1.value))
