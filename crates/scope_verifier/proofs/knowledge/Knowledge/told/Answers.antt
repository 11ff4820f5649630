use Rattle.scope_verifier.proofs.Showing.{aimed_shows}
use Rattle.scope_verifier.proofs.knowledge.Knowledge.told.Goals as goal

pub returns : goal.returns
returns c = λ R S k h l. aimed_shows R S c.args.self.now c.note.new.scopes c.args.scope c.args.state k c.note.ensures l h
