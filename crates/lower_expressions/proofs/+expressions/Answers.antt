use Rattle.std.proofs.Common.{◌≡◌, ◌++◌, ◌∷◌, [], sym, ap, ◌∙◌, arith, rules, length, suc}
use Rattle.std.proofs.lemmas.Grind.{common_steps}
use Rattle.code_form.specs.declared.form.Kind.TheVariants as kind
use Rattle.middle_form.specs.Form as m
use Rattle.lower_expressions.specs.Building.{codes, list_at, list_code, list_kinds, structs_in, type_given}
use Rattle.lower_tables.specs.Kinds.{kind_of}
use Rattle.lower_expressions.specs.Expressions.{print_code, result_register, swapped}
use Rattle.lower_tables.proofs.SizeRows.{size_call, size_in, size_print}
use Rattle.lower_expressions.proofs.CodeRows.{call_code, call_kinds, print_is, print_kinds}
use Rattle.lower_tables.proofs.CodeSizes.{size}
use Rattle.lower_expressions.proofs.+expressions.Goals as goal

pub expression_code::arguments-expression-requires : goal.expression_code::arguments-expression-requires
expression_code::arguments-expression-requires t c = (omega (arith, size_in c.args.given.now c.loop-argument.argument-index c.argument-item.result c.loop-argument-test.true c.argument-item.is, c.decreases), tt)

pub expression_code::expression-call-requires : goal.expression_code::expression-call-requires
expression_code::expression-call-requires t c = (omega (arith, ap size c.in-Call.is, size_call c.in-Call.function c.in-Call.given, c.decreases), tt)

pub expression_code::expression-print-requires : goal.expression_code::expression-print-requires
expression_code::expression-print-requires t c = (omega (arith, ap size c.in-Print.is, size_print c.in-Print.output c.in-Print.given, c.decreases), tt)

pub expression_code::call-returns-clause-registers : goal.expression_code::call-returns-clause-registers
expression_code::call-returns-clause-registers t c =
    let x = c.args.context.now in
    let added : c.arguments.new.kinds.items ≡ c.args.kinds.now.items ++ (kind_of (length (structs_in x)) x.singles.now (type_given x c.args.function) ∷ list_kinds x c.args.given.now.items) = grind (arith, common_steps) in
    added ∙ ap (λ ks. c.args.kinds.now.items ++ ks) (sym (call_kinds x c.args.function c.args.given.now))

pub expression_code::call-returns-clause-added : goal.expression_code::call-returns-clause-added
expression_code::call-returns-clause-added t c =
    let x = c.args.context.now in
    let d = length c.args.kinds.now.items in
    let added : codes c.push.new.self.items ≡ codes c.args.code.now.items ++ (list_code x c.args.given.now.items (suc d) ++ (m.Call (result_register (type_given x c.args.function) d) (swapped x.typed.now.main c.args.function) (list_at x c.args.given.now.items (suc d)) ∷ [])) = grind (arith, common_steps) in
    added ∙ ap (λ cs. codes c.args.code.now.items ++ cs) (sym (call_code x c.args.function c.args.given.now d))

pub expression_code::print-returns-clause-registers : goal.expression_code::print-returns-clause-registers
expression_code::print-returns-clause-registers t c =
    let x = c.args.context.now in
    let added : c.arguments.new.kinds.items ≡ c.args.kinds.now.items ++ (kind.Int ∷ list_kinds x c.args.given.now.items) = grind (arith, common_steps) in
    added ∙ ap (λ ks. c.args.kinds.now.items ++ ks) (sym (print_kinds x c.args.output c.args.given.now))

pub expression_code::print-returns-clause-added : goal.expression_code::print-returns-clause-added
expression_code::print-returns-clause-added t c =
    let x = c.args.context.now in
    let d = length c.args.kinds.now.items in
    let added : codes c.put.new.code.items ≡ codes c.args.code.now.items ++ (list_code x c.args.given.now.items (suc d) ++ (m.Do (print_code c.args.output (list_at x c.args.given.now.items (suc d))) ∷ [])) = grind (arith, common_steps) in
    added ∙ ap (λ cs. codes c.args.code.now.items ++ cs) (sym (print_is x c.args.output c.args.given.now d))
