use Rattle.std.proofs.Common.{◌<◌, rules, refl, sym, ◌∙◌, subst}
use Rattle.object_moves.proofs.arrival.read.Goals as goal

pub returns-then-not-stored-clause-told : goal.returns-then-not-stored-clause-told
returns-then-not-stored-clause-told g c = (refl, λ t i l. c.requires.zeros i ∙ sym (c.stored.ensures.zeros (search rules) i (subst (λ n. i < n) c.requires.words.0 l)))
