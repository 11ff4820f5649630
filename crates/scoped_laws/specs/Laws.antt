-- The law of scoped code.
use Rattle.std.specs.Prelude.{◌≡◌, ℕ}
use Rattle.middle_form.specs.Discipline.{IsScoped}
use Rattle.middle_form.specs.Meaning.{means}
use Rattle.middle_form.specs.Scoped.{Program, plain_program}
use Rattle.middle_form.specs.ScopedMeaning.{scoped_means}

-- a program that keeps the discipline means what it means without its scopes within every number of turns, also where it is stuck
abbrev pub MeansTheSame : Type 0
MeansTheSame = (P : Program) → IsScoped P → (n : ℕ) → scoped_means P n ≡ means (plain_program P) n
