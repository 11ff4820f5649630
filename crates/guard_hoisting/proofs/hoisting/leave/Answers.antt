use Rattle.std.proofs.Common.{ℕ, rules}
use Rattle.std.specs.Prelude.{◌==◌, not}
use Rattle.std.proofs.lemmas.Fn.{filter_same}
use Rattle.guard_hoisting.proofs.hoisting.leave.Goals as goal

pub returns : goal.returns
returns c = filter_same _ (λ (u : ℕ). not (u == c.args.scope)) _ (λ x b f' k. search rules) _ _ c.retain.ensures.filtered
