use Rattle.std.proofs.Common.{◌∙◌, sym}
use Rattle.std.proofs.lemmas.Simd.{map-map}
use Rattle.middle_form.specs.ScopedViews.{scoped_function_of, scoped_program_of}
use Rattle.guard_hoisting.specs.Hoisted.{hoisted_function}
use Rattle.guard_hoisting.proofs.hoisting.hoist.Goals as goal

pub returns : goal.returns
returns c =
    let made = c.in_ok-functions.ensures (λ f. hoisted_function (scoped_function_of f)) (λ f g h. h) in
    let whole = made ∙ sym (map-map hoisted_function scoped_function_of c.args.scoped.functions.items) in
    λ i. record { head = (scoped_program_of c.args.scoped).head; functions = whole i }
