use Rattle.std.proofs.Common.{ap}
use Rattle.session.specs.State.{Logged}
use Rattle.session.proofs.Laws.{Laws}
use Rattle.session.proofs.Ways.{moves_aimed, plan_stays, safe_aimed}
use Rattle.session.proofs.program.SeatedProgram.aims.Goals as goal

pub returns-then-hold_wanted-clause-told : goal.returns-then-hold_wanted-clause-told
returns-then-hold_wanted-clause-told g c =
    let laws : Laws = record { tidy = c.effect_laws.ensures.tidy; tracked = c.effect_laws.ensures.tracked; waits = c.effect_laws.ensures.waits; ends = c.effect_laws.ensures.ends } in
    let t = c.if-hold_wanted.ensures.told in (
      safe_aimed laws c.args.self.now.state c.hold_wanted.new.self.state c.carry_out.new.self.state c.args.scope c.args.wanted c.requires.safe c.requires.next c.hold_wanted.ensures.holding t.0 t.1 (ap (λ (x : Logged). x.state) c.carry_out.ensures),
      moves_aimed g.S.RawStore.honest c.args.self.now.state c.hold_wanted.new.self.state c.carry_out.new.self.state c.args.scope t.0 (ap (λ (x : Logged). x.state) c.carry_out.ensures) c.args.wanted,
    )

pub carry_out-requires-clause-plan : goal.carry_out-requires-clause-plan
carry_out-requires-clause-plan g c κs within =
    let t = c.if-hold_wanted.ensures.told.0 in plan_stays c.args.plan c.args.self.now.state c.hold_wanted.new.self.state t.image t.core c.requires.plan
