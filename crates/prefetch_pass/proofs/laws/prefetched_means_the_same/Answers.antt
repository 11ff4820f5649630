use Rattle.std.proofs.Common.{◌∙◌, sym}
use Rattle.prefetch_pass.specs.Prefetched.{prefetched_program}
use Rattle.prefetch_pass.proofs.Same.{keeps_meaning}
use Rattle.prefetch_pass.proofs.Scopes.{stays_scoped}
use Rattle.prefetch_pass.proofs.laws.prefetched_means_the_same.Goals as goal

pub returns : goal.returns
returns c = λ cells P p n. c.scoped_means_the_same.ensures (prefetched_program cells P) (stays_scoped cells P p) n ∙ (keeps_meaning cells P n ∙ sym (c.scoped_means_the_same.ensures P p n))
