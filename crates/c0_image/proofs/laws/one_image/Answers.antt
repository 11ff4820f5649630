use Rattle.std.proofs.Common.{◌≡◌, sym, ap, ◌∙◌}
use Rattle.c0_typed.specs.Views.{program_of}
use Rattle.middle_form.specs.Form.{Program}
use Rattle.scope_placement.specs.Placed.{placed_program}
use Rattle.guard_hoisting.specs.Hoisted.{hoisted_program}
use Rattle.prefetch_pass.specs.Prefetched.{prefetched_program}
use Rattle.codegen.specs.Generated.{generated}
use Rattle.c0_image.proofs.laws.one_image.Goals as goal

pub returns : goal.returns
returns c = λ loops text checks cells C D a b.
    let same : program_of a.tree ≡ program_of b.tree = a.read_as ∙ b.only a.program a.typed ∙ sym b.read_as in
    a.made ∙ ap (λ (code : Program). generated cells (prefetched_program cells (hoisted_program (placed_program code)))) (c.same_program_same_code.ensures checks a.tree b.tree same) ∙ sym b.made
