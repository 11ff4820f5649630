use Rattle.std.proofs.Common.{◌<◌, rules, sym, ◌∙◌, subst}
use Rattle.object_lock_tests.proofs.two_threads.read_words.Goals as goal

pub returns-then-not-stored-clause-got : goal.returns-then-not-stored-clause-got
returns-then-not-stored-clause-got g c = λ t i l. c.requires.zeros i ∙ sym (c.stored.ensures.zeros (search rules) i (subst (λ n. i < n) c.requires.words.0 l))
