use Rattle.std.proofs.Common.{[], sym, subst}
use Rattle.evacuator.proofs.Visits.{visits_served}
use Rattle.mover_events.specs.Making.{EvacuatorMakes}
use Rattle.mover_events.proofs.Making.{visits_made}
use Rattle.mover_events.proofs.rounds_are_made.Goals as goal

pub returns : goal.returns
returns g c z m narrow low =
    let rel = g.S.RawStore.reliable in let honest = g.S.RawStore.honest in (
      (λ before after r v none. visits_made rel honest z m narrow low v.visits before.log after.log (λ sure. visits_served z m before after r v (none sure)) v.logged),
      (λ did made. let all = visits_made rel honest z m narrow low made.1.visits [] did.log (λ sure. visits_served z m _ did made.0 made.1 (made.2 sure)) made.1.logged in subst (EvacuatorMakes rel honest z m) (sym all.1) all.2),
    )
