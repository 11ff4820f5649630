use Rattle.std.proofs.Common.{◌≡◌, ◌∷◌, ◌++◌, [], map, inl, inr, ap, sym, ◌∙◌, subst, true, Option, Some, None}
use Rattle.std.proofs.lemmas.List.{map-append}
use Rattle.std.proofs.lemmas.Result.{err_from_is_err_and}
use Rattle.c0_syntax.specs.Views.{header_of, name_of, statements_of}
use Rattle.c0_typed.specs.Views.{function_of, struct_of}
use Rattle.c0_types.specs.DeclareViews.{elaboration_of}
use Rattle.c0_rules.specs.FaultPrograms.{InFunction}
use Rattle.c0_rules.specs.Programs.{typed_function}
use Rattle.c0_rules.specs.Types as t
use Rattle.c0_types_tables.specs.Views.{environment_of, functions_of, signature_of}
use Rattle.c0_types.proofs.DeclarationSteps.{define_none, define_some, found_again}
use Rattle.c0_types.proofs.declare.Elaborated.define_function.Goals as goal

pub unreachable-requires : goal.unreachable-requires
unreachable-requires c =
    let f = signature_of c.in_ok-signature.signature in
    let found = ap (λ (e : t.Environment). e.functions (name_of c.args.header.now.name)) c.in_ok-add_function.ensures ∙ found_again (environment_of c.args.self.now.environment) (header_of c.args.header.now) f c.in_ok-signature.ensures.answers in
    let none : ◌≡◌ {A = Option t.Signature} None (Some f) = c.in_default.ensures ∙ ap (functions_of c.add_function.new.environment.functions) c.deref.ensures ∙ found in
    cc none

pub returns-in_err-function-clause-answers : goal.returns-in_err-function-clause-answers
returns-in_err-function-clause-answers c =
    let f = signature_of c.in_ok-signature.signature in
    let s = signature_of c.in-Some.signature.now in
    let h = header_of c.args.header.now in
    let b = statements_of c.args.body.now in
    let found = ap (λ (e : t.Environment). e.functions (name_of c.args.header.now.name)) c.in_ok-add_function.ensures ∙ found_again (environment_of c.args.self.now.environment) h f c.in_ok-signature.ensures.answers in
    let both : ◌≡◌ {A = Option t.Signature} (Some s) (Some f) = c.in-Some.ensures ∙ ap (functions_of c.add_function.new.environment.functions) c.deref.ensures ∙ found in
    let same : s ≡ f = cc both in
    let moved = ap (λ e. typed_function e f h b) (sym c.in_ok-add_function.ensures) ∙ ap (λ g. typed_function (environment_of c.add_function.new.environment) g h b) (sym same) in
    let p = err_from_is_err_and c.from_residual-in_err-function.result c.from_residual-in_err-function.ensures.1 in
    rw (p.1, p.2) (elim c.in_err-function.ensures.answers [
      | inl o ↦ inl o
      | inr o ↦ inr (define_none (elaboration_of c.args.texts.now c.args.self.now) h b f c.in_ok-signature.ensures.answers (moved ∙ o))
    ])

pub returns-in_err-function-clause-cause : goal.returns-in_err-function-clause-cause
returns-in_err-function-clause-cause c =
    let f = signature_of c.in_ok-signature.signature in
    let s = signature_of c.in-Some.signature.now in
    let h = header_of c.args.header.now in
    let found = ap (λ (e : t.Environment). e.functions (name_of c.args.header.now.name)) c.in_ok-add_function.ensures ∙ found_again (environment_of c.args.self.now.environment) h f c.in_ok-signature.ensures.answers in
    let both : ◌≡◌ {A = Option t.Signature} (Some s) (Some f) = c.in-Some.ensures ∙ ap (functions_of c.add_function.new.environment.functions) c.deref.ensures ∙ found in
    let same : s ≡ f = cc both in
    let p = err_from_is_err_and c.from_residual-in_err-function.result c.from_residual-in_err-function.ensures.1 in
    rw (p.1, p.2) (elim c.in_err-function.ensures.cause [
      | inl o ↦ inl o
      | inr o ↦ inr (inr (f, c.in_ok-signature.ensures.answers, subst (λ e. InFunction c.in_err-function.field-0.0 e f c.args.header.now c.args.body.now) c.in_ok-add_function.ensures (subst (λ g. InFunction c.in_err-function.field-0.0 (environment_of c.add_function.new.environment) g c.args.header.now c.args.body.now) same o)))
    ])

pub returns-clause-answers : goal.returns-clause-answers
returns-clause-answers c =
    let f = signature_of c.in_ok-signature.signature in
    let s = signature_of c.in-Some.signature.now in
    let h = header_of c.args.header.now in
    let b = statements_of c.args.body.now in
    let texts = c.args.texts.now in
    let found = ap (λ (e : t.Environment). e.functions (name_of c.args.header.now.name)) c.in_ok-add_function.ensures ∙ found_again (environment_of c.args.self.now.environment) h f c.in_ok-signature.ensures.answers in
    let both : ◌≡◌ {A = Option t.Signature} (Some s) (Some f) = c.in-Some.ensures ∙ ap (functions_of c.add_function.new.environment.functions) c.deref.ensures ∙ found in
    let same : s ≡ f = cc both in
    let moved = ap (λ e. typed_function e f h b) (sym c.in_ok-add_function.ensures) ∙ ap (λ g. typed_function (environment_of c.add_function.new.environment) g h b) (sym same) in
    let g = function_of texts c.in_ok-function.function in
    let functions : map (function_of texts) c.push.new.self.items ≡ map (function_of texts) c.args.self.now.functions.items ++ g ∷ [] = ap (map (function_of texts)) c.in_ok-push.ensures.items ∙ map-append (function_of texts) c.args.self.now.functions.items (c.in_ok-function.function ∷ []) in
    define_some (elaboration_of texts c.args.self.now) h b f c.in_ok-signature.ensures.answers g (moved ∙ c.in_ok-function.ensures.answers)
    ∙ ap Some (λ i. record { environment = sym c.in_ok-add_function.ensures i; begun = true; structs = map struct_of c.args.self.now.structs.items; functions = sym functions i })
