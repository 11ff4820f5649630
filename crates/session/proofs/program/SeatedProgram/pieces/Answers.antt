use Rattle.std.proofs.Common.{ap, ◌∙◌}
use Rattle.code_form.specs.Placed.{pieces as pieces_of}
use Rattle.session.proofs.program.SeatedProgram.pieces.Goals as goal

pub returns : goal.returns
returns g c = c.pieces.ensures ∙ ap (λ n. pieces_of n c.args.cells) c.scale.ensures
