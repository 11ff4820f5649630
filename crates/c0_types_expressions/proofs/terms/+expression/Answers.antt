use Rattle.std.proofs.Common.{◌≡◌, ◌<◌, arith, length, map, ap, sym, subst, refl, ◌∙◌, inl, inr, rules, true}
use denote.Param.Weighed.{at_most}
use Rattle.std.proofs.lemmas.Result.{err_from_is_err_and}
use Rattle.c0_syntax.proofs.expression.Expression.TheLaws.{the_size}
use Rattle.c0_syntax.proofs.expression.ExpressionKind.TheLaws.{the_size as kind_size}
use Rattle.c0_syntax.specs.declared.expression.Expression.{Expression, the_lemmas as struct_lemmas}
use Rattle.c0_syntax.specs.declared.expression.ExpressionKind.{the_lemmas as expression_lemmas}
use Rattle.c0_syntax.specs.Views.{expression_of, expression_of_kind, expressions_of, name_of, type_of}
use Rattle.c0_typed.specs.Views.{exp_of, exps_of}
use Rattle.c0_rules.specs.Expressions.{as_wanted, held_type, lengthed, operated, typed_arguments, typed_expression}
use Rattle.c0_rules.specs.Types.{BoolType, and_so}
use Rattle.c0_types_tables.specs.Views.{resolved_of}
use Rattle.c0_types_terms.specs.Terms.{HasTexts, context_of, env_of, place_of, typing_of}
use Rattle.c0_types_operators.specs.Operators.{rule_of}
use Rattle.c0_types_expressions.proofs.ArgumentLists.{argument_cause, argument_has, argument_more, argument_none, arguments_done, call_in, call_is, no_front, other_number}
use Rattle.c0_types_expressions.proofs.CallForms.{arguments_refused, call_refused, call_told}
use Rattle.c0_types_expressions.proofs.FormAnswers.{array_answers, binary_answers, conditional_answers, no_place, unary_answers}
use Rattle.c0_types_terms.proofs.Causes.{among, causes, first_three, none_causes}
use Rattle.c0_types_expressions.proofs.FormCauses.{arms_cause, array_cause, array_told, arrow_cause, binary_cause, index_cause, left_told, length_cause, pointer_cause, unary_cause, wanted_cause}
use Rattle.c0_types_expressions.specs.Forms.{BinaryCause}
use Rattle.c0_types_places.specs.Places.{callee_of}
use Rattle.c0_types_expressions.proofs.Operands.{void_told}
use Rattle.c0_types_expressions.proofs.PlaceForms.{is_part, not_there, only_star, part_read}
use Rattle.c0_types_expressions.proofs.Refusals.{array_not_taken, array_of_index_refused, array_refused, arrow_refused, condition_refused, first_arm_refused, index_refused, left_alone, left_not_taken, left_refused, length_refused, no_element, none_first, none_then, pointer_refused, right_refused, second_arm_refused, test_is, test_refused, unary_refused}
use Rattle.c0_types_expressions.proofs.terms.+expression.Goals as goal

pub value-returns-else-has_value-clause-cause : goal.value-returns-else-has_value-clause-cause
value-returns-else-has_value-clause-cause t c =
    let s = c.args.terms.now in
    void_told (typed_expression (env_of s) (context_of s) (expression_of_kind c.args.kind.now)) (typing_of s.texts.now c.in_ok-typing.typing) c.in_ok-typing.ensures.answers (sym c.has_value.ensures ∙ c.if-has_value.false) (λ e h. c.void_use.ensures e h)

pub composed-returns-in-Err-clause-answers : goal.composed-returns-in-Err-clause-answers
composed-returns-in-Err-clause-answers t c =
    let s = c.args.terms.now in
    let x = c.in-Binary in
    let shape = ap expression_of_kind x.is in
    let value = rw c.deref.ensures at c.in_ok-operand-in-Binary.ensures.answers in
    let first = rw (sym c.in_ok-first-in-Binary.ensures.taken) at value in
    let refused = rw c.deref-in-Binary-3.ensures at c.in-Err.ensures.answers in
    rw shape (right_refused (env_of s) (context_of s) x.operator (expression_of x.left.value) (expression_of x.right.value) (typing_of s.texts.now c.in_ok-first-in-Binary.first) first refused)

pub composed-returns-in-Ok-clause-answers : goal.composed-returns-in-Ok-clause-answers
composed-returns-in-Ok-clause-answers t c =
    let s = c.args.terms.now in
    let x = c.in-Binary in
    let shape = ap expression_of_kind x.is in
    let value = rw c.deref.ensures at c.in_ok-operand-in-Binary.ensures.answers in
    let first = rw (sym c.in_ok-first-in-Binary.ensures.taken) at value in
    let second = rw c.deref-in-Binary-3.ensures at c.in-Ok.ensures.answers in
    rw shape (binary_answers (env_of s) (context_of s) (typing_of s.texts.now) c.operated.result x.operator (rule_of c.operator_rule-rule.result) c.operator_rule-rule.ensures (expression_of x.left.value) (expression_of x.right.value) (typing_of s.texts.now c.in_ok-first-in-Binary.first) (typing_of s.texts.now c.in-Ok.second) first second c.operated.ensures.answers)

pub composed-returns-in-Ok-clause-cause : goal.composed-returns-in-Ok-clause-cause
composed-returns-in-Ok-clause-cause t c =
    let s = c.args.terms.now in
    let x = c.in-Binary in
    let a = x.left.value in
    let b = x.right.value in
    let rule = rule_of c.operator_rule-rule.result in
    let one = typing_of s.texts.now c.in_ok-first-in-Binary.first in
    let other = typing_of s.texts.now c.in-Ok.second in
    let value = rw c.deref.ensures at c.in_ok-operand-in-Binary.ensures.answers in
    let first = rw (sym c.in_ok-first-in-Binary.ensures.taken) at value in
    let second = rw c.deref-in-Binary-3.ensures at c.in-Ok.ensures.answers in
    let told = rw (c.deref-in-Ok.ensures, c.deref-in-Ok-2.ensures) at c.operated.ensures.cause in
    rw x.is (none_causes (typing_of s.texts.now) c.operated.result (operated (env_of s) rule one other) _ _ (λ f none h. first_three (subst (λ z. BinaryCause (env_of s) (context_of s) f z a.kind a.span b.kind b.span) c.operator_rule-rule.ensures (binary_cause (env_of s) (context_of s) f rule a.kind a.span b.kind b.span one other first second (c.in_ok-first-in-Binary.ensures.fits s.texts.now) none h))) c.operated.ensures.answers told)

pub typing-returns-in_err-element-in-AllocArray-clause-answers : goal.typing-returns-in_err-element-in-AllocArray-clause-answers
typing-returns-in_err-element-in-AllocArray-clause-answers t c =
    let s = c.args.terms.now in
    let x = c.in-AllocArray in
    let shape = ap expression_of_kind x.is in
    let p = err_from_is_err_and c.from_residual.result c.from_residual.ensures.1 in
    rw (p.1, p.2, shape) (none_first (held_type (env_of s) (type_of x.written)) _ c.in_err-element-in-AllocArray.ensures.answers)

pub typing-returns-in_err-element-in-AllocArray-clause-cause : goal.typing-returns-in_err-element-in-AllocArray-clause-cause
typing-returns-in_err-element-in-AllocArray-clause-cause t c =
    let x = c.in-AllocArray in
    let p = err_from_is_err_and c.from_residual.result c.from_residual.ensures.1 in
    rw (p.1, p.2, x.is) (among c.in_err-element-in-AllocArray.ensures.cause)

pub typing-returns-in-Err-clause-answers : goal.typing-returns-in-Err-clause-answers
typing-returns-in-Err-clause-answers t c =
    let s = c.args.terms.now in
    let x = c.in-AllocArray in
    let shape = ap expression_of_kind x.is in
    let refused = rw c.deref-in-AllocArray.ensures at c.in-Err.ensures.answers in
    rw shape (array_refused (env_of s) (context_of s) (type_of x.written) (expression_of x.length.value) refused)

pub typing-returns-in_err-sized-in-Length-clause-answers : goal.typing-returns-in_err-sized-in-Length-clause-answers
typing-returns-in_err-sized-in-Length-clause-answers t c =
    let s = c.args.terms.now in
    let x = c.in-Length in
    let shape = ap expression_of_kind x.is in
    let p = err_from_is_err_and c.from_residual-in_err-sized-in-Length.result c.from_residual-in_err-sized-in-Length.ensures.1 in
    let refused = rw c.deref-in-Length.ensures at c.in_err-sized-in-Length.ensures.answers in
    rw (p.1, p.2, shape) (length_refused (env_of s) (context_of s) (expression_of x.array.value) refused)

pub typing-returns-in_err-only-in-Unary-clause-answers : goal.typing-returns-in_err-only-in-Unary-clause-answers
typing-returns-in_err-only-in-Unary-clause-answers t c =
    let s = c.args.terms.now in
    let x = c.in-Unary in
    let shape = ap expression_of_kind x.is in
    let p = err_from_is_err_and c.from_residual-in_err-only-in-Unary.result c.from_residual-in_err-only-in-Unary.ensures.1 in
    let refused = rw c.deref-in-Unary.ensures at c.in_err-only-in-Unary.ensures.answers in
    rw (p.1, p.2, shape) (unary_refused (env_of s) (context_of s) x.operator (expression_of x.operand.value) refused)

pub composed-returns-in_err-operand-in-Binary-clause-answers : goal.composed-returns-in_err-operand-in-Binary-clause-answers
composed-returns-in_err-operand-in-Binary-clause-answers t c =
    let s = c.args.terms.now in
    let x = c.in-Binary in
    let shape = ap expression_of_kind x.is in
    let p = err_from_is_err_and c.from_residual.result c.from_residual.ensures.1 in
    let refused = rw c.deref.ensures at c.in_err-operand-in-Binary.ensures.answers in
    rw (p.1, p.2, shape) (left_refused (env_of s) (context_of s) x.operator (expression_of x.left.value) (expression_of x.right.value) refused)

pub composed-returns-in_err-first-in-Binary-clause-answers : goal.composed-returns-in_err-first-in-Binary-clause-answers
composed-returns-in_err-first-in-Binary-clause-answers t c =
    let s = c.args.terms.now in
    let x = c.in-Binary in
    let shape = ap expression_of_kind x.is in
    let p = err_from_is_err_and c.from_residual-in_err-first-in-Binary.result c.from_residual-in_err-first-in-Binary.ensures.1 in
    let rule = rule_of c.operator_rule-rule.result in
    let one = typing_of s.texts.now c.in_ok-operand-in-Binary.operand in
    let value = rw c.deref.ensures at c.in_ok-operand-in-Binary.ensures.answers in
    let alone = left_alone (env_of s) c.in_err-first-in-Binary.field-0.0 rule one _ (c.in_err-first-in-Binary.ensures.refused (env_of s) s.texts.now) in
    rw (p.1, p.2, shape) (left_not_taken (env_of s) (context_of s) x.operator rule c.operator_rule-rule.ensures (expression_of x.left.value) (expression_of x.right.value) one value alone)

pub composed-returns-in_err-first-in-Binary-clause-cause : goal.composed-returns-in_err-first-in-Binary-clause-cause
composed-returns-in_err-first-in-Binary-clause-cause t c =
    let s = c.args.terms.now in
    let x = c.in-Binary in
    let a = x.left.value in
    let b = x.right.value in
    let p = err_from_is_err_and c.from_residual-in_err-first-in-Binary.result c.from_residual-in_err-first-in-Binary.ensures.1 in
    let f = c.in_err-first-in-Binary.field-0.0 in
    let rule = rule_of c.operator_rule-rule.result in
    let one = typing_of s.texts.now c.in_ok-operand-in-Binary.operand in
    let value = rw c.deref.ensures at c.in_ok-operand-in-Binary.ensures.answers in
    let told = rw c.deref-in-Binary-2.ensures at (c.in_err-first-in-Binary.ensures.refused (env_of s) s.texts.now) in
    let cause = left_told (env_of s) (context_of s) f rule a.kind a.span b.kind b.span one value told in
    rw (p.1, p.2, x.is) (inr (first_three (subst (λ z. BinaryCause (env_of s) (context_of s) f z a.kind a.span b.kind b.span) c.operator_rule-rule.ensures cause)))

pub typing-returns-in-Ok-clause-answers : goal.typing-returns-in-Ok-clause-answers
typing-returns-in-Ok-clause-answers t c =
    let s = c.args.terms.now in
    let x = c.in-AllocArray in
    let value = rw c.deref-in-AllocArray.ensures at c.in-Ok.ensures.answers in
    let shape = ap expression_of_kind x.is in
    rw shape (array_answers (env_of s) (context_of s) (typing_of s.texts.now) c.allocated_array.result (type_of x.written) (expression_of x.length.value) (resolved_of c.in_ok-element-in-AllocArray.element) (typing_of s.texts.now c.in-Ok.number) c.in_ok-element-in-AllocArray.ensures.answers value c.allocated_array.ensures.answers)

pub typing-returns-in-Ok-clause-cause : goal.typing-returns-in-Ok-clause-cause
typing-returns-in-Ok-clause-cause t c =
    let s = c.args.terms.now in
    let x = c.in-AllocArray in
    let value = rw c.deref-in-AllocArray.ensures at c.in-Ok.ensures.answers in
    let told = rw c.deref-in-Ok.ensures at c.allocated_array.ensures.cause in
    rw x.is (causes c.allocated_array.result _ _ (λ f h. array_cause (env_of s) (context_of s) f x.length.value.kind x.length.value.span (typing_of s.texts.now c.in-Ok.number) value h) told)

pub typing-returns-in_ok-sized-in-Length-clause-cause : goal.typing-returns-in_ok-sized-in-Length-clause-cause
typing-returns-in_ok-sized-in-Length-clause-cause t c =
    let s = c.args.terms.now in
    let x = c.in-Length in
    let value = rw c.deref-in-Length.ensures at c.in_ok-sized-in-Length.ensures.answers in
    let told = rw c.deref-in-Length-3.ensures at c.lengthed.ensures.cause in
    let operand = typing_of s.texts.now c.in_ok-sized-in-Length.sized in
    rw x.is (none_causes (typing_of s.texts.now) c.lengthed.result (lengthed (env_of s) operand) _ _ (λ f none h. inl (length_cause (env_of s) (context_of s) f x.array.value.kind x.array.value.span operand value none h)) c.lengthed.ensures.answers told)

pub typing-returns-in_ok-only-in-Unary-clause-answers : goal.typing-returns-in_ok-only-in-Unary-clause-answers
typing-returns-in_ok-only-in-Unary-clause-answers t c =
    let s = c.args.terms.now in
    let x = c.in-Unary in
    let value = rw c.deref-in-Unary.ensures at c.in_ok-only-in-Unary.ensures.answers in
    let shape = ap expression_of_kind x.is in
    rw shape (unary_answers (env_of s) (context_of s) (typing_of s.texts.now) c.unary.result x.operator (expression_of x.operand.value) (typing_of s.texts.now c.in_ok-only-in-Unary.only) value c.unary.ensures.answers)

pub typing-returns-in_ok-only-in-Unary-clause-cause : goal.typing-returns-in_ok-only-in-Unary-clause-cause
typing-returns-in_ok-only-in-Unary-clause-cause t c =
    let s = c.args.terms.now in
    let x = c.in-Unary in
    let value = rw c.deref-in-Unary.ensures at c.in_ok-only-in-Unary.ensures.answers in
    let told = rw c.deref-in-Unary-3.ensures at c.unary.ensures.cause in
    rw x.is (causes c.unary.result _ _ (λ f h. inl (unary_cause (env_of s) (context_of s) f x.operator x.operand.value.kind x.operand.value.span _ c.args.span (typing_of s.texts.now c.in_ok-only-in-Unary.only) refl value h)) told)

pub conditional-returns-in_err-test-in-Conditional-clause-answers : goal.conditional-returns-in_err-test-in-Conditional-clause-answers
conditional-returns-in_err-test-in-Conditional-clause-answers t c =
    let s = c.args.terms.now in
    let x = c.in-Conditional in
    let shape = ap expression_of_kind x.is in
    let p = err_from_is_err_and c.from_residual.result c.from_residual.ensures.1 in
    let refused = rw c.deref.ensures at c.in_err-test-in-Conditional.ensures.answers in
    rw (p.1, p.2, shape) (condition_refused (env_of s) (context_of s) (expression_of x.condition.value) (expression_of x.first.value) (expression_of x.second.value) refused)

pub conditional-returns-in_err-truth-in-Conditional-clause-answers : goal.conditional-returns-in_err-truth-in-Conditional-clause-answers
conditional-returns-in_err-truth-in-Conditional-clause-answers t c =
    let s = c.args.terms.now in
    let x = c.in-Conditional in
    let shape = ap expression_of_kind x.is in
    let p = err_from_is_err_and c.from_residual-in_err-truth-in-Conditional.result c.from_residual-in_err-truth-in-Conditional.ensures.1 in
    let tested = rw c.deref.ensures at c.in_ok-test-in-Conditional.ensures.answers in
    let w = typing_of s.texts.now c.in_ok-test-in-Conditional.test in
    rw (p.1, p.2, shape) (test_refused (env_of s) (context_of s) (expression_of x.condition.value) (expression_of x.first.value) (expression_of x.second.value) w tested c.in_err-truth-in-Conditional.ensures.answers)

pub conditional-returns-in_err-truth-in-Conditional-clause-cause : goal.conditional-returns-in_err-truth-in-Conditional-clause-cause
conditional-returns-in_err-truth-in-Conditional-clause-cause t c =
    let s = c.args.terms.now in
    let x = c.in-Conditional in
    let p = err_from_is_err_and c.from_residual-in_err-truth-in-Conditional.result c.from_residual-in_err-truth-in-Conditional.ensures.1 in
    let tested = rw c.deref.ensures at c.in_ok-test-in-Conditional.ensures.answers in
    let w = typing_of s.texts.now c.in_ok-test-in-Conditional.test in
    let told = rw c.deref-in-Conditional-2.ensures at c.in_err-truth-in-Conditional.ensures.cause in
    rw (p.1, p.2, x.is) (among (wanted_cause (env_of s) (context_of s) c.in_err-truth-in-Conditional.field-0.0 BoolType x.condition.value.kind x.condition.value.span w tested c.in_err-truth-in-Conditional.ensures.answers told))

pub conditional-returns-in-Err-clause-answers : goal.conditional-returns-in-Err-clause-answers
conditional-returns-in-Err-clause-answers t c =
    let s = c.args.terms.now in
    let x = c.in-Conditional in
    let shape = ap expression_of_kind x.is in
    let tested = rw c.deref.ensures at c.in_ok-test-in-Conditional.ensures.answers in
    let w = typing_of s.texts.now c.in_ok-test-in-Conditional.test in
    let z = exp_of s.texts.now c.in_ok-truth-in-Conditional.truth in
    let is = test_is (env_of s) (context_of s) (expression_of x.condition.value) w z tested c.in_ok-truth-in-Conditional.ensures.answers in
    let refused = rw c.deref-in-Conditional-3.ensures at c.in-Err.ensures.answers in
    rw shape (first_arm_refused (env_of s) (context_of s) (expression_of x.condition.value) (expression_of x.first.value) (expression_of x.second.value) z is refused)

pub conditional-returns-in-Err-value-clause-answers : goal.conditional-returns-in-Err-value-clause-answers
conditional-returns-in-Err-value-clause-answers t c =
    let s = c.args.terms.now in
    let x = c.in-Conditional in
    let shape = ap expression_of_kind x.is in
    let tested = rw c.deref.ensures at c.in_ok-test-in-Conditional.ensures.answers in
    let w = typing_of s.texts.now c.in_ok-test-in-Conditional.test in
    let z = exp_of s.texts.now c.in_ok-truth-in-Conditional.truth in
    let is = test_is (env_of s) (context_of s) (expression_of x.condition.value) w z tested c.in_ok-truth-in-Conditional.ensures.answers in
    let first = rw c.deref-in-Conditional-3.ensures at c.in-Ok.ensures.answers in
    let one = typing_of s.texts.now c.in-Ok.one in
    let refused = rw c.deref-in-Conditional-5.ensures at c.in-Err-value.ensures.answers in
    rw shape (second_arm_refused (env_of s) (context_of s) (expression_of x.condition.value) (expression_of x.first.value) (expression_of x.second.value) z one is first refused)

pub conditional-returns-in-Ok-value-clause-answers : goal.conditional-returns-in-Ok-value-clause-answers
conditional-returns-in-Ok-value-clause-answers t c =
    let s = c.args.terms.now in
    let x = c.in-Conditional in
    let shape = ap expression_of_kind x.is in
    let tested = rw c.deref.ensures at c.in_ok-test-in-Conditional.ensures.answers in
    let w = typing_of s.texts.now c.in_ok-test-in-Conditional.test in
    let z = exp_of s.texts.now c.in_ok-truth-in-Conditional.truth in
    let is = test_is (env_of s) (context_of s) (expression_of x.condition.value) w z tested c.in_ok-truth-in-Conditional.ensures.answers in
    let first = rw c.deref-in-Conditional-3.ensures at c.in-Ok.ensures.answers in
    let one = typing_of s.texts.now c.in-Ok.one in
    let second = rw c.deref-in-Conditional-5.ensures at c.in-Ok-value.ensures.answers in
    let other = typing_of s.texts.now c.in-Ok-value.other in
    rw shape (conditional_answers (env_of s) (context_of s) (typing_of s.texts.now) c.chosen.result (expression_of x.condition.value) (expression_of x.first.value) (expression_of x.second.value) z one other is first second c.chosen.ensures.answers)

pub conditional-returns-in-Ok-value-clause-cause : goal.conditional-returns-in-Ok-value-clause-cause
conditional-returns-in-Ok-value-clause-cause t c =
    let s = c.args.terms.now in
    let x = c.in-Conditional in
    let first = rw c.deref-in-Conditional-3.ensures at c.in-Ok.ensures.answers in
    let one = typing_of s.texts.now c.in-Ok.one in
    let second = rw c.deref-in-Conditional-5.ensures at c.in-Ok-value.ensures.answers in
    let other = typing_of s.texts.now c.in-Ok-value.other in
    let told = rw c.deref-in-Ok-value.ensures at c.chosen.ensures.cause in
    rw x.is (causes c.chosen.result _ _ (λ f h. inr (inl (arms_cause (env_of s) (context_of s) f x.first.value.kind x.second.value.kind x.second.value.span one other first second h))) told)

pub composed-returns-in_ok-place-in-Index-clause-cause : goal.composed-returns-in_ok-place-in-Index-clause-cause
composed-returns-in_ok-place-in-Index-clause-cause t c =
    let s = c.args.terms.now in
    let there = c.in_ok-place-in-Index in
    let part : is_part c.args.kind.now ≡ true = search rules in
    part_read (env_of s) (context_of s) c.read_of.result c.args.kind.now c.args.span part (place_of s.texts.now there.place) there.ensures.answers c.read_of.ensures.cause

pub place-returns-else-has_form-clause-answers : goal.place-returns-else-has_form-clause-answers
place-returns-else-has_form-clause-answers t c =
    let s = c.args.terms.now in
    inr (no_place (env_of s) (context_of s) c.args.kind.now (sym c.has_form.ensures ∙ c.if-has_form.false))

pub place-returns-else-has_form-clause-cause : goal.place-returns-else-has_form-clause-cause
place-returns-else-has_form-clause-cause t c =
    let s = c.args.terms.now in
    let form = sym c.has_form.ensures ∙ c.if-has_form.false in
    not_there (env_of s) (context_of s) (typing_of s.texts.now) c.value.result c.no_place.result c.args.kind.now c.args.span c.args.whole form c.value.ensures.answers c.value.ensures.cause c.no_place.ensures.fault c.no_place.ensures.value

pub place_at-returns-in_err-sized-in-Index-clause-answers : goal.place_at-returns-in_err-sized-in-Index-clause-answers
place_at-returns-in_err-sized-in-Index-clause-answers t c =
    let s = c.args.terms.now in
    let x = c.in-Index in
    let shape = ap expression_of_kind x.is in
    let p = err_from_is_err_and c.from_residual-in_err-sized-in-Index.result c.from_residual-in_err-sized-in-Index.ensures.1 in
    let one = typing_of s.texts.now c.in_ok-operand-in-Index.operand in
    let value = rw c.deref-in-Index.ensures at c.in_ok-operand-in-Index.ensures.answers in
    let none = no_element (env_of s) c.in_err-sized-in-Index.field-0.0 one _ _ c.in_err-sized-in-Index.ensures.refused in
    rw (p.1, p.2, shape) (array_not_taken (env_of s) (context_of s) (expression_of x.array.value) (expression_of x.index.value) one value none)

pub place_at-returns-in_err-sized-in-Index-clause-cause : goal.place_at-returns-in_err-sized-in-Index-clause-cause
place_at-returns-in_err-sized-in-Index-clause-cause t c =
    let s = c.args.terms.now in
    let x = c.in-Index in
    let a = x.array.value in
    let i = x.index.value in
    let p = err_from_is_err_and c.from_residual-in_err-sized-in-Index.result c.from_residual-in_err-sized-in-Index.ensures.1 in
    let one = typing_of s.texts.now c.in_ok-operand-in-Index.operand in
    let value = rw c.deref-in-Index.ensures at c.in_ok-operand-in-Index.ensures.answers in
    let told = rw c.deref-in-Index-3.ensures at c.in_err-sized-in-Index.ensures.refused in
    rw (p.1, p.2, x.is) (inr (inl (array_told (env_of s) (context_of s) c.in_err-sized-in-Index.field-0.0 a.kind a.span i.kind i.span c.args.span one value told)))

pub place_at-returns-in_err-operand-in-Index-clause-answers : goal.place_at-returns-in_err-operand-in-Index-clause-answers
place_at-returns-in_err-operand-in-Index-clause-answers t c =
    let s = c.args.terms.now in
    let x = c.in-Index in
    let shape = ap expression_of_kind x.is in
    let p = err_from_is_err_and c.from_residual.result c.from_residual.ensures.1 in
    let refused = rw c.deref-in-Index.ensures at c.in_err-operand-in-Index.ensures.answers in
    rw (p.1, p.2, shape) (array_of_index_refused (env_of s) (context_of s) (expression_of x.array.value) (expression_of x.index.value) refused)

pub place_at-returns-in-Err-clause-answers : goal.place_at-returns-in-Err-clause-answers
place_at-returns-in-Err-clause-answers t c =
    let s = c.args.terms.now in
    let x = c.in-Index in
    let shape = ap expression_of_kind x.is in
    let value = rw c.deref-in-Index.ensures at c.in_ok-operand-in-Index.ensures.answers in
    let first = rw (sym c.in_ok-sized-in-Index.ensures.taken) at value in
    let refused = rw c.deref-in-Index-4.ensures at c.in-Err.ensures.answers in
    rw shape (index_refused (env_of s) (context_of s) (expression_of x.array.value) (expression_of x.index.value) (typing_of s.texts.now c.in_ok-sized-in-Index.sized) first refused)

pub place_at-returns-in_err-pointer-in-PointerField-clause-answers : goal.place_at-returns-in_err-pointer-in-PointerField-clause-answers
place_at-returns-in_err-pointer-in-PointerField-clause-answers t c =
    let s = c.args.terms.now in
    let x = c.in-PointerField in
    let shape = ap expression_of_kind x.is in
    let p = err_from_is_err_and c.from_residual-in_err-pointer-in-PointerField.result c.from_residual-in_err-pointer-in-PointerField.ensures.1 in
    let refused = rw c.deref-in-PointerField.ensures at c.in_err-pointer-in-PointerField.ensures.answers in
    rw (p.1, p.2, shape) (arrow_refused (env_of s) (context_of s) (expression_of x.of.value) (name_of x.name) refused)

pub place_at-returns-in_err-pointer-in-Unary-clause-answers : goal.place_at-returns-in_err-pointer-in-Unary-clause-answers
place_at-returns-in_err-pointer-in-Unary-clause-answers t c =
    let s = c.args.terms.now in
    let x = c.in-Unary in
    let shape = ap expression_of_kind x.is in
    let star = only_star x.field-0 x.operand (rw x.is at c.requires.form) in
    let p = err_from_is_err_and c.from_residual-in_err-pointer-in-Unary.result c.from_residual-in_err-pointer-in-Unary.ensures.1 in
    let refused = rw c.deref-in-Unary.ensures at c.in_err-pointer-in-Unary.ensures.answers in
    rw (p.1, p.2, shape, star) (pointer_refused (env_of s) (context_of s) (expression_of x.operand.value) refused)

pub place_at-returns-in-Ok-clause-cause : goal.place_at-returns-in-Ok-clause-cause
place_at-returns-in-Ok-clause-cause t c =
    let s = c.args.terms.now in
    let x = c.in-Index in
    let value = rw c.deref-in-Index.ensures at c.in_ok-operand-in-Index.ensures.answers in
    let first = rw (sym c.in_ok-sized-in-Index.ensures.taken) at value in
    let second = rw c.deref-in-Index-4.ensures at c.in-Ok.ensures.answers in
    let one = typing_of s.texts.now c.in_ok-sized-in-Index.sized in
    let other = typing_of s.texts.now c.in-Ok.number in
    let told = rw (c.deref-in-Ok.ensures, c.deref-in-Ok-2.ensures) at c.element.ensures.cause in
    rw x.is (causes c.element.result _ _ (λ f h. inl (index_cause (env_of s) (context_of s) f x.array.value.kind x.array.value.span x.index.value.kind x.index.value.span c.args.span one other first second h)) told)

pub place_at-returns-in_ok-outer-in-Field-clause-cause : goal.place_at-returns-in_ok-outer-in-Field-clause-cause
place_at-returns-in_ok-outer-in-Field-clause-cause t c =
    let s = c.args.terms.now in
    let x = c.in-Field in
    let value = rw c.deref-in-Field.ensures at c.in_ok-outer-in-Field.ensures.answers in
    let outer = place_of s.texts.now c.in_ok-outer-in-Field.outer in
    let told = rw c.deref-in-Field-4.ensures at c.fielded.ensures.cause in
    rw x.is (causes c.fielded.result _ _ (λ f h. inl (outer, value, h)) told)

pub place_at-returns-in_ok-pointer-in-PointerField-clause-cause : goal.place_at-returns-in_ok-pointer-in-PointerField-clause-cause
place_at-returns-in_ok-pointer-in-PointerField-clause-cause t c =
    let s = c.args.terms.now in
    let x = c.in-PointerField in
    let value = rw c.deref-in-PointerField.ensures at c.in_ok-pointer-in-PointerField.ensures.answers in
    let pointer = typing_of s.texts.now c.in_ok-pointer-in-PointerField.pointer in
    let told = rw c.deref-in-PointerField-3.ensures at c.pointer_field.ensures.cause in
    rw x.is (causes c.pointer_field.result _ _ (λ f h. inl (arrow_cause (env_of s) (context_of s) f x.of.value.kind x.of.value.span x.name c.args.span pointer value h)) told)

pub place_at-returns-in_ok-pointer-in-Unary-clause-cause : goal.place_at-returns-in_ok-pointer-in-Unary-clause-cause
place_at-returns-in_ok-pointer-in-Unary-clause-cause t c =
    let s = c.args.terms.now in
    let x = c.in-Unary in
    let star = only_star x.field-0 x.operand (rw x.is at c.requires.form) in
    let value = rw c.deref-in-Unary.ensures at c.in_ok-pointer-in-Unary.ensures.answers in
    let pointer = typing_of s.texts.now c.in_ok-pointer-in-Unary.pointer in
    let told = rw c.deref-in-Unary-3.ensures at c.pointed.ensures.cause in
    rw (x.is, star) (causes c.pointed.result _ _ (λ f h. inl (inl (pointer_cause (env_of s) (context_of s) f x.operand.value.kind x.operand.value.span c.args.span pointer value h))) told)

pub composed-called-requires : goal.composed-called-requires
composed-called-requires t c =
    let x = c.in-Call in
    let shape = ap expression_of_kind x.is ∙ call_is x.name x.arguments in
    (search (rules, expression_lemmas), subst (HasTexts c.args.terms.now.texts.now) shape c.requires.texts)

pub composed-returns-in-Call-clause-answers : goal.composed-returns-in-Call-clause-answers
composed-returns-in-Call-clause-answers t c =
    let x = c.in-Call in
    let shape = ap expression_of_kind x.is ∙ call_is x.name x.arguments in
    rw shape c.called.ensures.answers

pub composed-returns-in-Call-clause-cause : goal.composed-returns-in-Call-clause-cause
composed-returns-in-Call-clause-cause t c =
    let s = c.args.terms.now in
    let x = c.in-Call in
    let told = c.called.ensures.cause in
    rw x.is (causes c.called.result _ _ (λ f h. call_in (env_of s) (context_of s) f x.name x.arguments c.args.span h) told)

pub called-returns-in_err-callee-clause-answers : goal.called-returns-in_err-callee-clause-answers
called-returns-in_err-callee-clause-answers t c =
    let s = c.args.terms.now in
    let p = err_from_is_err_and c.from_residual.result c.from_residual.ensures.1 in
    rw (p.1, p.2) (call_refused (env_of s) (context_of s) (name_of c.args.name.now) (expressions_of c.args.arguments.now.items) c.in_err-callee.ensures.answers)

pub called-returns-in_err-callee-clause-cause : goal.called-returns-in_err-callee-clause-cause
called-returns-in_err-callee-clause-cause t c =
    let p = err_from_is_err_and c.from_residual.result c.from_residual.ensures.1 in
    rw (p.1, p.2) (inr (inl (inl c.in_err-callee.ensures.cause)))

pub called-returns-in_err-typed-clause-answers : goal.called-returns-in_err-typed-clause-answers
called-returns-in_err-typed-clause-answers t c =
    let s = c.args.terms.now in
    let p = err_from_is_err_and c.from_residual-in_err-typed.result c.from_residual-in_err-typed.ensures.1 in
    rw (p.1, p.2) (arguments_refused (env_of s) (context_of s) (name_of c.args.name.now) (expressions_of c.args.arguments.now.items) (callee_of c.in_ok-callee.callee) c.in_ok-callee.ensures.answers c.in_err-typed.ensures.answers)

pub called-returns-in_err-typed-clause-cause : goal.called-returns-in_err-typed-clause-cause
called-returns-in_err-typed-clause-cause t c =
    let s = c.args.terms.now in
    let p = err_from_is_err_and c.from_residual-in_err-typed.result c.from_residual-in_err-typed.ensures.1 in
    rw (p.1, p.2) (call_told (env_of s) (context_of s) c.in_err-typed.field-0.0 c.args.name.now c.args.arguments.now.items c.args.span (callee_of c.in_ok-callee.callee) c.in_ok-callee.ensures.answers c.in_err-typed.ensures.cause)

-- an expression is deeper than its kind
deeper : (e : Expression) → kind_size e.kind < the_size e
deeper e = search (rules, expression_lemmas, struct_lemmas)

pub arguments_wanted-typing-requires : goal.arguments_wanted-typing-requires
arguments_wanted-typing-requires t c =
    let l = c.loop-i in
    let x = c.index-arguments-i in
    let deep = at_most the_size c.args.arguments.now l.i x.result c.loop-i-test.true in
    let same = ap the_size x.is in
    (omega (arith, deep, same, deeper x.result, c.decreases), argument_has c.args.terms.now.texts.now c.args.arguments.now l.i x.result c.loop-i-test.true x.is c.requires.texts)

pub arguments_wanted-returns-then-arguments-wants-clause-answers : goal.arguments_wanted-returns-then-arguments-wants-clause-answers
arguments_wanted-returns-then-arguments-wants-clause-answers t c =
    let s = c.args.terms.now in
    inr (other_number (env_of s) (context_of s) c.args.arguments.now c.args.wants.now c.if-arguments-wants.true)

pub arguments_wanted-returns-in_err-typing-clause-answers : goal.arguments_wanted-returns-in_err-typing-clause-answers
arguments_wanted-returns-in_err-typing-clause-answers t c =
    let s = c.args.terms.now in
    let l = c.loop-i in
    let x = c.index-arguments-i in
    let w = c.index-wants-i in
    let p = err_from_is_err_and c.from_residual.result c.from_residual.ensures.1 in
    let within : l.i < length c.args.wants.now = omega arith in
    let refused = none_first (typed_expression (env_of s) (context_of s) (expression_of x.result)) (as_wanted (env_of s) (resolved_of w.result)) c.in_err-typing.ensures.answers in
    rw (p.1, p.2) (argument_none (env_of s) (context_of s) (exps_of s.texts.now l.typed.items) c.args.arguments.now c.args.wants.now l.i x.result w.result c.loop-i-test.true within x.is w.is _ refused l.invariant)

pub arguments_wanted-returns-in_err-typing-clause-cause : goal.arguments_wanted-returns-in_err-typing-clause-cause
arguments_wanted-returns-in_err-typing-clause-cause t c =
    let s = c.args.terms.now in
    let l = c.loop-i in
    let x = c.index-arguments-i in
    let w = c.index-wants-i in
    let p = err_from_is_err_and c.from_residual.result c.from_residual.ensures.1 in
    let within : l.i < length c.args.wants.now = omega arith in
    rw (p.1, p.2) (argument_cause (env_of s) (context_of s) c.in_err-typing.field-0.0 c.args.arguments.now c.args.wants.now c.args.span l.i x.result w.result c.loop-i-test.true within x.is w.is (among c.in_err-typing.ensures.cause))

pub arguments_wanted-returns-in_err-found-clause-answers : goal.arguments_wanted-returns-in_err-found-clause-answers
arguments_wanted-returns-in_err-found-clause-answers t c =
    let s = c.args.terms.now in
    let l = c.loop-i in
    let x = c.index-arguments-i in
    let w = c.index-wants-i in
    let p = err_from_is_err_and c.from_residual-in_err-found.result c.from_residual-in_err-found.ensures.1 in
    let within : l.i < length c.args.wants.now = omega arith in
    let refused = none_then (typed_expression (env_of s) (context_of s) (expression_of x.result)) (as_wanted (env_of s) (resolved_of w.result)) (typing_of s.texts.now c.in_ok-typing.typing) c.in_ok-typing.ensures.answers c.in_err-found.ensures.answers in
    rw (p.1, p.2) (argument_none (env_of s) (context_of s) (exps_of s.texts.now l.typed.items) c.args.arguments.now c.args.wants.now l.i x.result w.result c.loop-i-test.true within x.is w.is _ refused l.invariant)

pub arguments_wanted-returns-in_err-found-clause-cause : goal.arguments_wanted-returns-in_err-found-clause-cause
arguments_wanted-returns-in_err-found-clause-cause t c =
    let s = c.args.terms.now in
    let l = c.loop-i in
    let x = c.index-arguments-i in
    let w = c.index-wants-i in
    let p = err_from_is_err_and c.from_residual-in_err-found.result c.from_residual-in_err-found.ensures.1 in
    let within : l.i < length c.args.wants.now = omega arith in
    rw (p.1, p.2) (argument_cause (env_of s) (context_of s) c.in_err-found.field-0.0 c.args.arguments.now c.args.wants.now c.args.span l.i x.result w.result c.loop-i-test.true within x.is w.is c.in_err-found.ensures.cause)

pub arguments_wanted-loop-i-init : goal.arguments_wanted-loop-i-init
arguments_wanted-loop-i-init t c =
    let s = c.args.terms.now in
    rw c.new-typed.ensures.items (no_front (typed_arguments (env_of s) (context_of s) (expressions_of c.args.arguments.now) (map resolved_of c.args.wants.now)))

pub arguments_wanted-loop-i-preserved : goal.arguments_wanted-loop-i-preserved
arguments_wanted-loop-i-preserved t c =
    let s = c.args.terms.now in
    let l = c.loop-i in
    let x = c.index-arguments-i in
    let w = c.index-wants-i in
    let within : l.i < length c.args.wants.now = omega arith in
    let given = ap (λ o. and_so o (as_wanted (env_of s) (resolved_of w.result))) c.in_ok-typing.ensures.answers ∙ c.in_ok-found.ensures.answers in
    rw c.in_ok-push.ensures.items (argument_more (env_of s) (context_of s) s.texts.now l.typed.items c.in_ok-found.found c.args.arguments.now c.args.wants.now l.i x.result w.result c.loop-i-test.true within x.is w.is _ given l.invariant)

pub arguments_wanted-returns-clause-answers : goal.arguments_wanted-returns-clause-answers
arguments_wanted-returns-clause-answers t c =
    let s = c.args.terms.now in
    let l = c.loop-i in
    let same : length c.args.arguments.now ≡ length c.args.wants.now = search rules in
    arguments_done (env_of s) (context_of s) (exps_of s.texts.now l.typed.items) c.args.arguments.now c.args.wants.now l.i c.loop-i-test.false same _ l.invariant
