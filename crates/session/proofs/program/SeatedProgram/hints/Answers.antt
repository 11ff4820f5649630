use Rattle.std.proofs.Common.{◌∙◌, ap}
use Rattle.session.proofs.Laws.{Laws}
use Rattle.session.proofs.Ways.{moves_hinted, safe_hinted}
use Rattle.session.specs.Keeping.{finished}
use Rattle.session.specs.State.{Logged, State}
use Rattle.session.proofs.program.SeatedProgram.hints.Goals as goal

pub returns-clause-safe : goal.returns-clause-safe
returns-clause-safe g c =
    let laws : Laws = record { tidy = c.effect_laws.ensures.tidy; tracked = c.effect_laws.ensures.tracked; waits = c.effect_laws.ensures.waits; ends = c.effect_laws.ensures.ends } in
    safe_hinted laws c.args.self.now.state c.finish.new.self.state c.args.wanted c.requires.safe c.requires.next ((ap (λ (x : Logged). x.state) c.finish.ensures) ∙ ap (λ (s : State). finished s 0) (ap (λ (x : Logged). x.state) c.hint_wanted.ensures))

pub returns-clause-moves : goal.returns-clause-moves
returns-clause-moves g c = moves_hinted g.S.RawStore.honest c.args.self.now.state c.finish.new.self.state c.args.wanted ((ap (λ (x : Logged). x.state) c.finish.ensures) ∙ ap (λ (s : State). finished s 0) (ap (λ (x : Logged). x.state) c.hint_wanted.ensures))
