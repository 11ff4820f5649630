use Rattle.std.proofs.Common.{◌≡◌, ◌++◌, ◌∷◌, ◌+◌, [], suc, sym, ap, ◌∙◌, arith, length, length-append, map}
use Rattle.std.proofs.lemmas.List.{length-map, map-append}
use Rattle.c0_typed.specs.Views.{type_of}
use Rattle.middle_form.specs.Form as m
use Rattle.middle_form.specs.Views.{code_of}
use Rattle.middle_form.specs.declared.form.Code.TheViews.{Sequence}
use Rattle.lower.specs.Building.{block_code, body_kinds}
use Rattle.lower.specs.Exits.{whole}
use Rattle.lower_expressions.specs.Building.{codes, conditions_code, conditions_kinds, kind_at}
use Rattle.lower_tables.specs.Kinds.{kind_of}
use Rattle.lower_expressions.specs.Expressions.{sequence}
use Rattle.lower.proofs.CodeFunctions.{before_body, code_in_order, function_is, kinds_in_order, parts_are}
use Rattle.lower_expressions.proofs.CodeLists.{sequence_is}
use Rattle.lower.proofs.program.function_with.Goals as goal

pub returns : goal.returns
returns c =
    let x = c.args.context.now in
    let f = c.args.function.now in
    let d = suc x.locals in
    let p = map (kind_at x) f.parameters.items in
    let q = map (kind_at x) f.locals.items in
    let a = conditions_kinds x f.preconditions.items in
    let b = body_kinds x f.body.items in
    let e = conditions_kinds x f.postconditions.items in
    let k0 = c.new-kinds.result.items in
    let k1 = c.add_locals.new.kinds.items in
    let k2 = c.add_locals-2.new.kinds.items in
    let k3 = c.fresh.new.kinds.items in
    let k4 = c.conditions.new.kinds.items in
    let k5 = c.statements.new.kinds.items in
    let k6 = c.conditions-2.new.kinds.items in
    let e1 : k1 ≡ k0 ++ p = c.in_ok-add_locals.ensures ∙ ap (λ ts. k0 ++ map (kind_at x) ts) c.deref.ensures.value in
    let e2 : k2 ≡ k1 ++ q = c.in_ok-add_locals-2.ensures ∙ ap (λ ts. k1 ++ map (kind_at x) ts) c.deref-2.ensures.value in
    let e3 : k3 ≡ k2 ++ kind_at x f.result ∷ [] = c.in_ok-value.ensures.added ∙ ap (λ k. k2 ++ k ∷ []) (c.kind_of-of_result.ensures ∙ ap (λ n. kind_of n x.singles.now (type_of f.result)) x.all_structs) in
    let e4 : k4 ≡ k3 ++ a = c.in_ok-conditions.ensures.registers ∙ ap (λ es. k3 ++ conditions_kinds x es) c.deref-3.ensures.value in
    let e5 : k5 ≡ k4 ++ b = c.in_ok-statements.ensures.registers ∙ ap (λ ss. k4 ++ body_kinds x ss) c.deref-4.ensures.value in
    let e6 : k6 ≡ k5 ++ e = c.in_ok-conditions-2.ensures.registers ∙ ap (λ es. k5 ++ conditions_kinds x es) c.deref-5.ensures.value in
    let before = before_body k0 k1 k2 k3 p q (kind_at x f.result) c.new-kinds.ensures.items e1 e2 e3 in
    let lp : length p ≡ length f.parameters.items = length-map f.parameters.items (kind_at x) in
    let lq : length q ≡ length f.locals.items = length-map f.locals.items (kind_at x) in
    let n2 : length k2 ≡ x.locals = omega (arith, before.0, lp, lq, c.requires.locals) in
    let n3 : length k3 ≡ d = omega (arith, before.0, before.1, n2) in
    let n4 : length k4 ≡ d + length a = omega (arith, ap length e4, length-append k3 a, n3) in
    let n5 : length k5 ≡ d + length a + length b = omega (arith, ap length e5, length-append k4 b, n4) in
    let before_code = conditions_code x f.preconditions.items d in
    let behind_code = conditions_code x f.postconditions.items (d + length a + length b) in
    let out = c.whole.result in
    let inner = m.Block (sequence (block_code x f.body.items (d + length a) whole)) in
    let c1 : codes c.conditions.new.code.items ≡ codes c.new-code.result.items ++ before_code =
    c.in_ok-conditions.ensures.added ∙ ap (λ es. codes c.new-code.result.items ++ conditions_code x es (length k3)) c.deref-3.ensures.value ∙ ap (λ n. codes c.new-code.result.items ++ conditions_code x f.preconditions.items n) n3 in
    let body : codes c.statements.new.code.items ≡ block_code x f.body.items (d + length a) whole =
    c.in_ok-statements.ensures.added ∙ ap (λ l. codes l ++ block_code x c.deref-4.result.now (length k4) out) c.new-body.ensures.items ∙ ap (λ ss. block_code x ss (length k4) out) c.deref-4.ensures.value ∙ ap (λ n. block_code x f.body.items n out) n4 ∙ ap (λ e. block_code x f.body.items (d + length a) e) c.whole.ensures in
    let c2 : codes c.push.new.self.items ≡ codes c.conditions.new.code.items ++ inner ∷ [] =
    ap codes c.in_ok-push.ensures.items ∙ map-append code_of c.conditions.new.code.items _ ∙ ap (λ i. codes c.conditions.new.code.items ++ m.Block i ∷ []) (c.in_ok-sequence.ensures ∙ ap sequence body) in
    let c3 : codes c.conditions-2.new.code.items ≡ codes c.push.new.self.items ++ behind_code =
    c.in_ok-conditions-2.ensures.added ∙ ap (λ es. codes c.push.new.self.items ++ conditions_code x es (length k5)) c.deref-5.ensures.value ∙ ap (λ n. codes c.push.new.self.items ++ conditions_code x f.postconditions.items n) n5 in
    let whole : codes c.conditions-2.new.code.items ≡ before_code ++ (inner ∷ behind_code) = code_in_order _ _ _ _ before_code behind_code inner (ap codes c.new-code.ensures.items) c1 c2 c3 in
    let g : m.Function = record { result = c.result_kind.result; parameters = c.args.parameters; kinds = k6; body = code_of (Sequence c.conditions-2.new.code); value = c.in_ok-value.value } in
    parts_are x f g c.result_kind.ensures c.requires.parameters (kinds_in_order k0 k1 k2 k3 k4 k5 k6 p q a b e (kind_at x f.result) c.new-kinds.ensures.items e1 e2 e3 e4 e5 e6)
    (sequence_is c.conditions-2.new.code ∙ ap sequence whole) (c.in_ok-value.ensures.number ∙ n2)
    ∙ function_is x f c.requires.locals
