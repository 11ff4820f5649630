use Rattle.std.proofs.Common.{◌≡◌, ℕ, suc, ◌+◌, ◌∙◌, List, ap, arith, map, sym}
use Rattle.code_form.specs.Known.{Knows}
use Rattle.middle_form.specs.ScopedViews.{scoped_function_of}
use Rattle.codegen.specs.declared.known.Knows.{Knows as RustKnows}
use Rattle.codegen.specs.Building.{in_front, knows_of, lists, of_scope}
use Rattle.codegen.specs.Generated.{asked_of, entry_facts, known_of}
use Rattle.codegen.proofs.ScopeFacts.{first_told, one_scope_more}
use Rattle.codegen.proofs.known.function_facts.Goals as goal

pub loop-scope-init : goal.loop-scope-init
loop-scope-init c = c.in_ok-facts.ensures ∙ sym (first_told (scoped_function_of c.args.function.now))

pub loop-scope-preserved : goal.loop-scope-preserved
loop-scope-preserved c =
    let s = c.loop-scope.scope in
    let g = scoped_function_of c.args.function.now in
    let next : suc s ≡ s + 1 = omega arith in
    c.in_ok-facts-2.ensures ∙ ap (λ (ks : List RustKnows). in_front s (map knows_of ks) (lists c.loop-scope.facts.items)) c.deref.ensures.value
    ∙ ap (λ (xs : List Knows). in_front s xs (lists c.loop-scope.facts.items)) c.in_ok-known.ensures
    ∙ ap (in_front s (map (of_scope s) (known_of g))) c.loop-scope.invariant ∙ one_scope_more s (known_of g) (asked_of g) ∙ ap (λ (n : ℕ). entry_facts n (known_of g) (asked_of g)) next
