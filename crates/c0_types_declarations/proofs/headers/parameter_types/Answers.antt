use Rattle.std.proofs.Common.{◌≡◌, ◌+◌, inl, inr, [], ◌∷◌, ◌++◌, ap, sym, ◌∙◌, subst, map}
use Rattle.std.proofs.lemmas.List.{map-append}
use Rattle.std.proofs.lemmas.Result.{err_from_is_err_and}
use Rattle.c0_types_tables.specs.Views.{environment_of, resolved_of}
use Rattle.c0_types_declarations.proofs.HeaderLists.{Takes, take_first, take_more, take_none, take_told}
use Rattle.c0_types_declarations.proofs.headers.parameter_types.Goals as goal

pub returns-in_err-resolved-clause-answers : goal.returns-in_err-resolved-clause-answers
returns-in_err-resolved-clause-answers c =
    let p = err_from_is_err_and c.from_residual.result c.from_residual.ensures.1 in
    rw (p.1, p.2) (elim c.in_err-resolved.ensures.answers [
      | inl h ↦ inl h
      | inr h ↦ inr (take_none (environment_of c.args.environment.now) (map resolved_of c.loop-item.types.items) c.loop-item.item-index c.args.items.now c.loop-item.invariant c.item-item.result c.loop-item-test.true c.item-item.is h)
    ])

pub returns-in_err-resolved-clause-cause : goal.returns-in_err-resolved-clause-cause
returns-in_err-resolved-clause-cause c =
    let p = err_from_is_err_and c.from_residual.result c.from_residual.ensures.1 in
    rw (p.1, p.2) (elim c.in_err-resolved.ensures.cause [
      | inl h ↦ inl h
      | inr h ↦ inr (take_told (environment_of c.args.environment.now) (map resolved_of c.loop-item.types.items) c.loop-item.item-index c.args.items.now c.loop-item.invariant c.item-item.result c.loop-item-test.true c.item-item.is _ h)
    ])

pub loop-item-init : goal.loop-item-init
loop-item-init c = take_first (environment_of c.args.environment.now) (map resolved_of c.new-types.result.items) c.args.items.now (ap (map resolved_of) c.new-types.ensures.items)

pub loop-item-preserved : goal.loop-item-preserved
loop-item-preserved c =
    let more = take_more (environment_of c.args.environment.now) (map resolved_of c.loop-item.types.items) c.loop-item.item-index c.args.items.now c.loop-item.invariant c.item-item.result c.loop-item-test.true c.item-item.is (resolved_of c.in_ok-resolved.resolved) c.in_ok-resolved.ensures.answers in
    let types : map resolved_of c.push.new.self.items ≡ map resolved_of c.loop-item.types.items ++ resolved_of c.in_ok-resolved.resolved ∷ [] = ap (map resolved_of) c.in_ok-push.ensures.items ∙ map-append resolved_of c.loop-item.types.items (c.in_ok-resolved.resolved ∷ []) in
    subst (λ z. Takes (environment_of c.args.environment.now) z (c.loop-item.item-index + 1) c.args.items.now) (sym types) more
