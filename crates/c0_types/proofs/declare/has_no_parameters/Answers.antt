use Rattle.std.proofs.Common.{rules, ◌≡◌, ap, ◌∙◌, length, vec_len}
use Rattle.std.specs.Prelude.{◌==◌}
use Rattle.c0_types.proofs.DeclarationSteps.{none_taken}
use Rattle.c0_types.proofs.declare.has_no_parameters.Goals as goal

pub returns : goal.returns
returns c =
    let long : vec_len c.args.function.now.parameters ≡ length c.args.function.now.parameters.items = search (rules) in
    c.is_empty.ensures ∙ ap (λ n. n == 0) long ∙ none_taken c.args.function.now.parameters.items
