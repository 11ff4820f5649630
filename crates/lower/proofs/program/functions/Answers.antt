use Rattle.std.proofs.Common.{◌≡◌, ◌<◌, ◌≤◌, sym, ap, ◌∙◌, arith, rules, subst, length, map, vec_len}
use Rattle.std.proofs.lemmas.List.{length-map}
use Rattle.middle_form.specs.Views.{function_of}
use Rattle.lower.specs.Building.{function_code}
use Rattle.lower.proofs.CodeFunctions.{made_all, main_stays, main_swapped, map_swap}
use Rattle.lower.proofs.program.functions.Goals as goal

pub returns-then-context-len : goal.returns-then-context-len
returns-then-context-len c =
    let x = c.args.context.now in
    let all = x.typed.now.functions.items in
    let made = c.loop-source.made in
    let end : length all ≤ c.loop-source.source-index = subst (λ fs. length fs ≤ c.loop-source.source-index) c.deref-source-items.ensures.value c.loop-source-test.false in
    let told : map (function_code x) all ≡ map function_of made.items = made_all (function_code x) all (map function_of made.items) c.loop-source.source-index end c.loop-source.invariant in
    let long : vec_len made ≡ length made.items = search rules in
    let same : length all ≡ length made.items = sym (length-map all (function_code x)) ∙ ap length told ∙ length-map made.items function_of in
    let past : length all ≤ x.typed.now.main = omega arith in
    main_stays (function_code x) x.typed.now.main all (map function_of made.items) told past

pub returns : goal.returns
returns c =
    let x = c.args.context.now in
    let all = x.typed.now.functions.items in
    let made = c.loop-source.made in
    let end : length all ≤ c.loop-source.source-index = subst (λ fs. length fs ≤ c.loop-source.source-index) c.deref-source-items.ensures.value c.loop-source-test.false in
    let told : map (function_code x) all ≡ map function_of made.items = made_all (function_code x) all (map function_of made.items) c.loop-source.source-index end c.loop-source.invariant in
    let long : vec_len made ≡ length made.items = search rules in
    let same : length all ≡ length made.items = sym (length-map all (function_code x)) ∙ ap length told ∙ length-map made.items function_of in
    let within : x.typed.now.main < length made.items = omega arith in
    let here : x.typed.now.main < length all = omega arith in
    main_swapped (function_code x) x.typed.now.main all (map function_of made.items) _ told (ap (map function_of) c.swap.ensures.items ∙ map_swap function_of made.items x.typed.now.main within) here
