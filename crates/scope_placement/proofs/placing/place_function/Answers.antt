use Rattle.std.proofs.Common.{◌≡◌, ◌≤◌, ◌∙◌, [], max, ap, arith, length, refl}
use Rattle.middle_form.specs.ScopedViews.{scoped_code_of}
use Rattle.middle_form.specs.declared.scoped.ScopedCode.TheViews.{Sequence}
use Rattle.middle_form.specs.Views.{code_of}
use Rattle.scope_placement.specs.Placed.{most_open, open_behind, whole}
use Rattle.scope_placement.proofs.Disciplined.{few_behind}
use Rattle.scoped_building.proofs.Rows.{scoped_sequence_is}
use Rattle.scope_placement.proofs.Rows.{whole_is}
use Rattle.scope_placement.proofs.placing.place_function.Goals as goal

pub end-requires : goal.end-requires
end-requires c =
    let a = code_of c.args.function.body in
    let rs = c.new.result.items in
    let none : length rs ≡ 0 = ap length c.new.ensures.items in
    let few : length rs ≤ 4 = omega (arith, none) in
    let now : length c.place_code.new.run.registers.items ≡ length (open_behind a rs) = ap length c.in_ok-place_code.ensures.registers in
    omega (arith, now, few_behind a rs few)

pub returns : goal.returns
returns c =
    let f = c.args.function in
    let a = code_of f.body in
    let rs = c.new.result.items in
    let first : c.place_code.new.run.most ≡ max 0 (most_open a rs) = c.in_ok-place_code.ensures.most in
    let last : c.end.new.run.most ≡ c.place_code.new.run.most = c.in_ok-end.ensures.most in
    let same : most_open a rs ≡ most_open a [] = ap (most_open a) c.new.ensures.items in
    let count : c.end.new.run.most ≡ most_open a [] = omega (arith, first, last, same) in
    let body : scoped_code_of (Sequence c.end.new.parts) ≡ whole a = scoped_sequence_is c.end.new.parts
    ∙ whole_is c.new-parts.result.items c.place_code.new.parts.items c.end.new.parts.items rs c.place_code.new.run.registers.items a a
    c.new-parts.ensures.items c.new.ensures.items refl c.in_ok-place_code.ensures.parts c.in_ok-place_code.ensures.registers c.in_ok-end.ensures.parts in
    λ i. record { result = f.result; parameters = f.parameters; kinds = f.kinds.items; scopes = count i; body = body i; value = f.value }
