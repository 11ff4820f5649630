use Rattle.std.proofs.Common.{rules, ◌≡◌, ◌+◌, inl, inr, [], ◌∷◌, ◌++◌, ap, sym, ◌∙◌, subst, map, string_bytes}
use Rattle.std.proofs.lemmas.List.{map-append}
use Rattle.std.proofs.lemmas.Result.{err_from_is_err_and}
use Rattle.c0_syntax.specs.Views.{name_of}
use Rattle.c0_types_declarations.specs.declared.definitions.Field.{Field}
use Rattle.c0_types_declarations.specs.DeclarationViews.{typed_field_of}
use Rattle.c0_types_tables.specs.Views.{environment_of}
use Rattle.c0_types_declarations.proofs.FieldLists.{Holds, hold_first, hold_more, hold_none, hold_told}
use Rattle.c0_types_declarations.proofs.definitions.fields.Goals as goal

pub returns-in_err-resolved-clause-answers : goal.returns-in_err-resolved-clause-answers
returns-in_err-resolved-clause-answers c =
    let p = err_from_is_err_and c.from_residual.result c.from_residual.ensures.1 in
    rw (p.1, p.2) (elim c.in_err-resolved.ensures.answers [
      | inl h ↦ inl h
      | inr h ↦ inr (hold_none (environment_of c.args.environment.now) (map typed_field_of c.loop-item.fields.items) c.loop-item.item-index c.args.items.now c.loop-item.invariant c.item-item.result c.loop-item-test.true c.item-item.is h)
    ])

pub returns-in_err-resolved-clause-cause : goal.returns-in_err-resolved-clause-cause
returns-in_err-resolved-clause-cause c =
    let p = err_from_is_err_and c.from_residual.result c.from_residual.ensures.1 in
    rw (p.1, p.2) (elim c.in_err-resolved.ensures.cause [
      | inl h ↦ inl h
      | inr h ↦ inr (hold_told (environment_of c.args.environment.now) (map typed_field_of c.loop-item.fields.items) c.loop-item.item-index c.args.items.now c.loop-item.invariant c.item-item.result c.loop-item-test.true c.item-item.is _ h)
    ])

pub loop-item-init : goal.loop-item-init
loop-item-init c = hold_first (environment_of c.args.environment.now) (map typed_field_of c.new-fields.result.items) c.args.items.now (ap (map typed_field_of) c.new-fields.ensures.items)

pub loop-item-preserved : goal.loop-item-preserved
loop-item-preserved c =
    let made : Field = record { name = c.in_ok-name.name; resolved = c.in_ok-resolved.resolved } in
    let name : string_bytes c.in_ok-name.name ≡ name_of c.item-item.result.name = search (rules) in
    let more = hold_more (environment_of c.args.environment.now) (map typed_field_of c.loop-item.fields.items) c.loop-item.item-index c.args.items.now c.loop-item.invariant c.item-item.result c.loop-item-test.true c.item-item.is (typed_field_of made) name c.in_ok-resolved.ensures.answers in
    let fields : map typed_field_of c.push.new.self.items ≡ map typed_field_of c.loop-item.fields.items ++ typed_field_of made ∷ [] = ap (map typed_field_of) c.in_ok-push.ensures.items ∙ map-append typed_field_of c.loop-item.fields.items (made ∷ []) in
    subst (λ z. Holds (environment_of c.args.environment.now) z (c.loop-item.item-index + 1) c.args.items.now) (sym fields) more
