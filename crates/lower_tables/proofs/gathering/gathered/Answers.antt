use Rattle.std.proofs.Common.{◌≡◌, ◌<◌, ◌≤◌, List, [], sym, ap, ◌∙◌, arith, rules, subst, length, get_or, vec_len}
use Rattle.std.proofs.lemmas.List.{length-map}
use Rattle.c0_typed.specs.Views.{struct_of}
use Rattle.code_form.specs.declared.form.Kind.{Kind}
use Rattle.lower_tables.specs.Gathered.{all_learned, types_of_functions}
use Rattle.lower_tables.specs.Known.{KnowsFunctions}
use Rattle.lower_tables.specs.Tables.{structs_of}
use Rattle.lower_tables.proofs.CodeGathered.{all_of, function_step}
use Rattle.lower_tables.proofs.CodeKnown.{all_known, knows_functions}
use Rattle.lower_tables.proofs.gathering.gathered.Goals as goal

pub loop-function-preserved : goal.loop-function-preserved
loop-function-preserved c =
    let all = c.args.typed.now.functions.items in
    let here : c.loop-function.function-index < length all = subst (λ fs. c.loop-function.function-index < length fs) c.deref-function-items.ensures.value c.loop-function-test.true in
    let is : c.function-item.result ≡ get_or all c.loop-function.function-index c.function-item.result = c.function-item.is ∙ ap (λ fs. get_or fs c.loop-function.function-index c.function-item.result) c.deref-function-items.ensures.value in
    (c.from_function.ensures.numbered, function_step c.in-Ok.structs [] _ _ all c.loop-function.function-index c.function-item.result here is c.in_ok-from_function.ensures.learned c.loop-function.invariant.1)

pub returns-clause-exact : goal.returns-clause-exact
returns-clause-exact c =
    let all = c.args.typed.now.functions.items in
    let end : length all ≤ c.loop-function.function-index = subst (λ fs. length fs ≤ c.loop-function.function-index) c.deref-function-items.ensures.value c.loop-function-test.false in
    let structs = c.args.typed.now.structs in
    let long : vec_len structs ≡ length structs.items = search rules in
    let many : c.in-Ok.structs ≡ length structs.items = omega arith in
    sym (ap (λ k. all_learned k [] (types_of_functions all)) (sym many) ∙ c.loop-function.invariant.1 ∙ all_of c.in-Ok.structs c.loop-function.singles all c.loop-function.function-index end)

pub returns-clause-known : goal.returns-clause-known
returns-clause-known c =
    let p = c.args.typed.now in
    let all = p.functions.items in
    let n = length (structs_of p) in
    let same : length p.structs.items ≡ n = sym (length-map p.structs.items struct_of) in
    subst (λ (s : List Kind). KnowsFunctions n s all) (sym (returns-clause-exact c ∙ ap (λ k. all_learned k [] (types_of_functions all)) same)) (knows_functions n (all_learned n [] (types_of_functions all)) all (all_known n [] (types_of_functions all)))
