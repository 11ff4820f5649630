-- What a level of the language has.
use Rattle.std.specs.Prelude.{Bool, true, false}
use Rattle.c0_syntax.specs.declared.level.Level.{Level}
use Rattle.c0_syntax.specs.declared.level.Level.TheVariants as l

-- whether `break` and `continue` are in the language
abbrev pub has_loops : Level → Bool
has_loops l.C0 = false
has_loops l.Loops = true
