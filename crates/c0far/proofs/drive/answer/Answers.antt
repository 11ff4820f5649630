use Rattle.std.proofs.Common.{map, refl}
use Rattle.c0far.proofs.Answered.{by_help, by_version}
use Rattle.c0far.proofs.drive.answer.Goals as goal

pub returns-then-asks_version : goal.returns-then-asks_version
returns-then-asks_version g c = by_version (map (λ w. w.now) c.args.words.now) _ _ _ c.if-asks_version.ensures c.say_version.ensures refl

pub returns-else-asks_version : goal.returns-else-asks_version
returns-else-asks_version g c = by_help (map (λ w. w.now) c.args.words.now) _ _ _ c.if-asks_version.ensures c.say_help.ensures refl
