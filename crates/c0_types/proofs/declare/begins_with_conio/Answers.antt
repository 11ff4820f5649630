use Rattle.std.proofs.Common.{◌+◌, ap, sym, ◌∙◌, drop, map}
use Rattle.std.specs.Prelude.{◌||◌}
use Rattle.c0_syntax.specs.Views.{declaration_of}
use Rattle.c0_rules.specs.Programs.{begins_with_conio}
use Rattle.c0_types.specs.DeclareViews.{in_use_by}
use Rattle.c0_types.proofs.DeclarationSteps.{use_at}
use Rattle.c0_types.proofs.declare.begins_with_conio.Goals as goal

pub returns-in_default : goal.returns-in_default
returns-in_default c =
    let others = begins_with_conio (map declaration_of (drop (c.loop-declaration.declaration-index + 1) c.args.declarations.now)) in
    let first = use_at c.loop-declaration.declaration-index c.args.declarations.now c.declaration-item.result c.loop-declaration-test.true c.declaration-item.is in
    ap (λ o. in_use_by o others) c.in_default.ensures ∙ sym first ∙ c.loop-declaration.invariant

pub returns-then-is_conio : goal.returns-then-is_conio
returns-then-is_conio c =
    let others = begins_with_conio (map declaration_of (drop (c.loop-declaration.declaration-index + 1) c.args.declarations.now)) in
    let first = use_at c.loop-declaration.declaration-index c.args.declarations.now c.declaration-item.result c.loop-declaration-test.true c.declaration-item.is in
    sym (ap (λ b. b || others) c.if-is_conio.true) ∙ ap (λ o. in_use_by o others) c.in-Some.ensures ∙ sym first ∙ c.loop-declaration.invariant

pub loop-declaration-preserved : goal.loop-declaration-preserved
loop-declaration-preserved c =
    let others = begins_with_conio (map declaration_of (drop (c.loop-declaration.declaration-index + 1) c.args.declarations.now)) in
    let first = use_at c.loop-declaration.declaration-index c.args.declarations.now c.declaration-item.result c.loop-declaration-test.true c.declaration-item.is in
    sym (ap (λ b. b || others) c.if-is_conio.false) ∙ ap (λ o. in_use_by o others) c.in-Some.ensures ∙ sym first ∙ c.loop-declaration.invariant
