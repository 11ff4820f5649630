use Rattle.session_events.proofs.Wanting.{runs}
use Rattle.session_events.proofs.runs_are_events.Goals as goal

pub returns : goal.returns
returns g c = λ s t r d other text. runs g.S.RawStore.honest g.S.RawStore.reliable s t r d other text
