-- What holds of every program.
use Rattle.std.specs.Prelude.{◌≡◌, Some}
use Rattle.c0_syntax.specs.Trees.{Program}
use Rattle.c0_typed.specs.Trees as t
use Rattle.c0_typed.specs.Typing.{FitsProgram}
use Rattle.c0_rules.specs.Programs.{typed_program}

-- the typed tree of a program is well typed
abbrev pub ElaboratedFits : Type 0
ElaboratedFits = (program : Program) (p : t.Program) → typed_program program ≡ Some p → FitsProgram p
