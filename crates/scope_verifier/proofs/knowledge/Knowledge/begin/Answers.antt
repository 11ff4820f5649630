use Rattle.scope_verifier.proofs.Showing.{began}
use Rattle.scope_verifier.proofs.knowledge.Knowledge.begin.Goals as goal

pub returns : goal.returns
returns c = λ R S h. began R S c.args.self.now c.in_ok-self.field-0 c.in_ok-self.ensures h
