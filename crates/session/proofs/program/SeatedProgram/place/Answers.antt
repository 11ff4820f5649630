use Rattle.std.proofs.Common.{◌%◌, ap, ◌∙◌}
use Rattle.session.proofs.program.SeatedProgram.place.Goals as goal

pub returns : goal.returns
returns g c = c.place.ensures ∙ ap (λ n. c.args.cell.index % n) c.scale.ensures
