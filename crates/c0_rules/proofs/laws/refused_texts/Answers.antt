use Rattle.std.proofs.Common.{refl}
use Rattle.c0_rules.proofs.laws.refused_texts.Goals as goal

pub returns-clause-refused : goal.returns-clause-refused
returns-clause-refused c = refl

pub returns-clause-told : goal.returns-clause-told
returns-clause-told c = refl
