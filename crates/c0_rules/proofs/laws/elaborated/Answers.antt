use Rattle.c0_rules.proofs.Programs.{elaborated_fits}
use Rattle.c0_rules.proofs.Rules.{some_has}
use Rattle.c0_rules.specs.Programs.{typed_program}
use Rattle.c0_typed.specs.Typing.{FitsProgram}
use Rattle.c0_rules.proofs.laws.elaborated.Goals as goal

pub returns : goal.returns
returns c = λ program p e. some_has FitsProgram (typed_program program) p (elaborated_fits program) e
