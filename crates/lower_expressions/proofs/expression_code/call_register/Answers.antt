use Rattle.std.proofs.Common.{◌≡◌, ◌<◌, ◌≤◌, sym, ap, ◌∙◌, subst, length, get_or}
use Rattle.c0_typed.specs.Views.{texts_of}
use Rattle.lower_expressions.specs.Expressions.{result_register}
use Rattle.lower_expressions.specs.Building.{structs_in}
use Rattle.lower_expressions.proofs.CodeRows.{given_at, given_past}
use Rattle.lower_expressions.proofs.expression_code.call_register.Goals as goal

pub returns-in-Some : goal.returns-in-Some
returns-in-Some c =
    let found = c.in-Some.ensures.lookup.3 in
    let x = c.args.context.now in
    let all = x.typed.now.functions.items in
    let here : c.args.function < length all = subst (λ fs. c.args.function < length fs) c.deref.ensures.value found.0 in
    let is : c.in-Some.found.now ≡ get_or all c.args.function c.in-Some.found.now = found.1 c.in-Some.found.now ∙ ap (λ fs. get_or fs c.args.function c.in-Some.found.now) c.deref.ensures.value in
    c.result_register.ensures ∙ ap (λ ty. result_register ty c.args.to) (sym (given_at (structs_in x) x.singles.now (texts_of x.typed.now) all x.typed.now.main all c.args.function c.in-Some.found.now here is))

pub returns-in-None : goal.returns-in-None
returns-in-None c =
    let x = c.args.context.now in
    let all = x.typed.now.functions.items in
    let past : length all ≤ c.args.function = subst (λ fs. length fs ≤ c.args.function) c.deref.ensures.value c.in-None.ensures.lookup.3 in
    ap (λ ty. result_register ty c.args.to) (sym (given_past (structs_in x) x.singles.now (texts_of x.typed.now) all x.typed.now.main all c.args.function past))
