use Rattle.std.proofs.Common.{ap}
use Rattle.session.specs.State.{Logged}
use Rattle.session.proofs.Laws.{Laws}
use Rattle.session.proofs.Ways.{moves_ended, safe_ended}
use Rattle.session.proofs.program.SeatedProgram.ends.Goals as goal

pub returns-clause-safe : goal.returns-clause-safe
returns-clause-safe g c =
    let laws : Laws = record { tidy = c.effect_laws.ensures.tidy; tracked = c.effect_laws.ensures.tracked; waits = c.effect_laws.ensures.waits; ends = c.effect_laws.ensures.ends } in
    safe_ended laws c.args.self.now.state c.close_all.new.self.state c.finish_end.new.self.state c.requires.safe c.requires.next c.close_all.ensures.holding c.close_all.ensures.closes c.close_all.ensures.shut (ap (λ (x : Logged). x.state) c.finish_end.ensures)

pub returns-clause-moves : goal.returns-clause-moves
returns-clause-moves g c =
    moves_ended g.S.RawStore.honest c.args.self.now.state c.close_all.new.self.state c.finish_end.new.self.state c.close_all.ensures.closes (ap (λ (x : Logged). x.state) c.finish_end.ensures)
