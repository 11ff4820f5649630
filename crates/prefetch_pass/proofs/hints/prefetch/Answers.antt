use Rattle.std.proofs.Common.{◌∙◌, ap, map, sym}
use Rattle.std.proofs.lemmas.Simd.{map-map}
use Rattle.middle_form.specs.ScopedViews.{scoped_function_of, scoped_program_of}
use Rattle.prefetch_pass.specs.Prefetched.{prefetched_function}
use Rattle.prefetch_pass.proofs.hints.prefetch.Goals as goal

pub returns : goal.returns
returns c =
    let ahead = c.cells-ahead.result in
    let made = c.in_ok-functions.ensures (λ f. prefetched_function ahead (scoped_function_of f)) (λ f g h. h) in
    let before = map scoped_function_of c.args.scoped.functions.items in
    let whole = made ∙ (sym (map-map (prefetched_function ahead) scoped_function_of c.args.scoped.functions.items) ∙ ap (λ n. map (prefetched_function n) before) c.cells-ahead.ensures.cells) in
    λ i. record { head = (scoped_program_of c.args.scoped).head; functions = whole i }
