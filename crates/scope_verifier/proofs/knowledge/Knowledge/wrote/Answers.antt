use Rattle.scope_verifier.proofs.Showing.{written_shows}
use Rattle.scope_verifier.proofs.knowledge.Knowledge.wrote.Goals as goal

pub returns : goal.returns
returns c = λ R S k h l. written_shows R S c.args.self.now c.in_ok-self.field-0 c.stamp.new.times c.args.register k c.in_ok-self.ensures c.stamp.ensures l h
