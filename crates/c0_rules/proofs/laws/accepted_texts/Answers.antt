use Rattle.std.proofs.Common.{refl}
use Rattle.c0_rules.proofs.laws.accepted_texts.Goals as goal

pub returns : goal.returns
returns c = refl
