use Rattle.std.proofs.Common.{◌∙◌, sym}
use Rattle.std.proofs.lemmas.Simd.{map-map}
use Rattle.middle_form.specs.Views.{function_of, program_of}
use Rattle.scope_placement.specs.Placed.{placed_function}
use Rattle.scope_placement.proofs.placing.place.Goals as goal

pub returns : goal.returns
returns c =
    let made = c.in_ok-functions.ensures (λ f. placed_function (function_of f)) (λ f g h. h) in
    let whole = made ∙ sym (map-map placed_function function_of c.args.middle.functions.items) in
    λ i. record { head = (program_of c.args.middle).head; functions = whole i }
