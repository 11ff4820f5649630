use Rattle.session.specs.State.{Logged}
use Rattle.std.proofs.Common.{ap, arith}
use Rattle.session.proofs.Laws.{Laws}
use Rattle.session.proofs.Ways.{extended_so}
use Rattle.session.proofs.program.SeatedProgram.allocs.Goals as goal

pub returns-in-Ok-clause-told : goal.returns-in-Ok-clause-told
returns-in-Ok-clause-told g c =
    let laws : Laws = record { tidy = c.effect_laws.ensures.tidy; tracked = c.effect_laws.ensures.tracked; waits = c.effect_laws.ensures.waits; ends = c.effect_laws.ensures.ends } in
    extended_so g.S.RawStore.honest laws c.args.self.now.state c.extend.new.self.state c.args.cells c.requires.safe c.requires.next (let a = c.requires.safe.holding.room in omega arith) (ap (λ (x : Logged). x.state) c.in-Ok.ensures)
