use Rattle.scope_verifier.proofs.Showing.{found_shows}
use Rattle.scope_verifier.proofs.knowledge.Knowledge.found.Goals as goal

pub returns : goal.returns
returns c = λ R S k h l. found_shows R S c.args.self.now c.stamp.new.times c.args.register k c.stamp.ensures l h
