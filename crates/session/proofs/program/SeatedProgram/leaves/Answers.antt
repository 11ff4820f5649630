use Rattle.std.proofs.Common.{ap}
use Rattle.session.specs.State.{Logged}
use Rattle.session.proofs.Laws.{Laws}
use Rattle.session.proofs.Ways.{moves_left, plan_stays, safe_left, scope_low}
use Rattle.session.proofs.program.SeatedProgram.leaves.Goals as goal

pub returns-clause-safe : goal.returns-clause-safe
returns-clause-safe g c =
    let laws : Laws = record { tidy = c.effect_laws.ensures.tidy; tracked = c.effect_laws.ensures.tracked; waits = c.effect_laws.ensures.waits; ends = c.effect_laws.ensures.ends } in
    safe_left laws c.args.self.now.state c.shut.new.self.state c.carry_out.new.self.state c.args.scope c.requires.safe c.requires.next c.shut.ensures.holding c.shut.ensures.changes (scope_low c.args.self.now.state c.args.scope c.requires.safe.holding c.requires.next.within) c.shut.ensures.after (ap (λ (x : Logged). x.state) c.carry_out.ensures)

pub returns-clause-moves : goal.returns-clause-moves
returns-clause-moves g c =
    moves_left g.S.RawStore.honest c.args.self.now.state c.shut.new.self.state c.carry_out.new.self.state c.args.scope c.shut.ensures.changes (ap (λ (x : Logged). x.state) c.carry_out.ensures)

pub carry_out-requires-clause-plan : goal.carry_out-requires-clause-plan
carry_out-requires-clause-plan g c κs within =
    let t = c.shut.ensures.changes in plan_stays c.args.plan c.args.self.now.state c.shut.new.self.state t.image t.core c.requires.plan
