use Rattle.std.proofs.Common.{◌≡◌, ◌∙◌, [], max, ap}
use Rattle.middle_form.specs.ScopedViews.{scoped_code_of}
use Rattle.middle_form.specs.declared.scoped.ScopedCode.TheViews.{Sequence}
use Rattle.scoped_building.proofs.Rows.{scoped_sequence_is}
use Rattle.scoped_building.specs.Building.{in_order}
use Rattle.guard_hoisting.specs.Hoisted.{hoisted, most_served}
use Rattle.guard_hoisting.proofs.Parts.{put_together}
use Rattle.guard_hoisting.proofs.hoisting.hoist_function.Goals as goal

pub returns : goal.returns
returns c =
    let f = c.args.function in
    let a = scoped_code_of f.body in
    let ks = f.kinds.items in
    let kinds = c.deref.ensures.value in
    let none = c.new.ensures.items in
    let count : c.hoist_code.new.scopes.most ≡ max f.scopes (most_served ks a []) =
    c.in_ok-hoist_code.ensures.most ∙ (ap (λ k. max f.scopes (most_served k a c.new.result.items)) kinds ∙ ap (λ o. max f.scopes (most_served ks a o)) none) in
    let body : scoped_code_of (Sequence c.hoist_code.new.parts) ≡ in_order (hoisted ks a []) =
    scoped_sequence_is c.hoist_code.new.parts
    ∙ (put_together c.new-parts.result.items c.hoist_code.new.parts.items (hoisted c.deref.result.now a c.new.result.items) c.new-parts.ensures.items c.in_ok-hoist_code.ensures.parts
    ∙ (ap (λ k. in_order (hoisted k a c.new.result.items)) kinds ∙ ap (λ o. in_order (hoisted ks a o)) none)) in
    λ i. record { result = f.result; parameters = f.parameters; kinds = ks; scopes = count i; body = body i; value = f.value }
