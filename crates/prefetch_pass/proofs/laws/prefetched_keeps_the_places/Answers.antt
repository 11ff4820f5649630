use Rattle.prefetch_pass.proofs.Scopes.{keeps_the_places}
use Rattle.prefetch_pass.proofs.laws.prefetched_keeps_the_places.Goals as goal

pub returns : goal.returns
returns c = λ Q cells ds a. keeps_the_places cells Q ds a
