use Rattle.std.proofs.Common.{arith, sym, ◌∙◌}
use Rattle.std.proofs.lemmas.List.{length-reverse}
use Rattle.session.proofs.Places.{first_at}
use Rattle.session.proofs.program.SeatedProgram.first.Goals as goal

pub returns : goal.returns
returns g c =
    let firsts = c.self.inside.firsts.items in
    let size = length-reverse firsts in
    let asked = rw (← c.self.view_is) at c.requires in
    rw (← c.self.view_is) (c.index.ensures ∙ sym (first_at firsts c.args.reference c.index.result.now (omega arith) (omega arith)))
