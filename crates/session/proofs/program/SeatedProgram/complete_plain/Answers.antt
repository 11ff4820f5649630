use Rattle.std.proofs.Common.{ap}
use Rattle.session.specs.State.{Logged}
use Rattle.session.proofs.Laws.{Laws}
use Rattle.session.proofs.Ways.{moves_plain, safe_plain}
use Rattle.session.proofs.program.SeatedProgram.complete_plain.Goals as goal

pub returns-in-Ok-clause-told : goal.returns-in-Ok-clause-told
returns-in-Ok-clause-told g c =
    let laws : Laws = record { tidy = c.effect_laws.ensures.tidy; tracked = c.effect_laws.ensures.tracked; waits = c.effect_laws.ensures.waits; ends = c.effect_laws.ensures.ends } in
    (safe_plain laws c.args.self.now.state c.proceed.new.self.state c.requires.safe c.requires.next (ap (λ (x : Logged). x.state) c.in-Ok.ensures), moves_plain g.S.RawStore.honest c.args.self.now.state c.proceed.new.self.state (ap (λ (x : Logged). x.state) c.in-Ok.ensures))
