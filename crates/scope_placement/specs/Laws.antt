-- What is promised of code in which scopes are placed. Each holds of every program of the middle form, well formed or not.
use Rattle.std.specs.Prelude.{◌≡◌, ℕ, List}
use Rattle.code_form.specs.declared.form.Fact.{Fact}
use Rattle.middle_form.specs.Discipline.{IsScoped}
use Rattle.middle_form.specs.Form as m
use Rattle.middle_form.specs.Guarded.{asks, is_guarded_program}
use Rattle.middle_form.specs.Meaning.{means}
use Rattle.middle_form.specs.Scoped.{plain, plain_program}
use Rattle.middle_form.specs.ScopedMeaning.{scoped_means}
use Rattle.middle_form.specs.WellFormed.{is_well_formed}
use Rattle.scope_placement.specs.Placed.{placed_program, whole}

-- without its scopes it means what it did, within every number of turns
abbrev pub KeepsTheMeaning : Type 0
KeepsTheMeaning = (P : m.Program) (n : ℕ) → means (plain_program (placed_program P)) n ≡ means P n

-- it keeps the discipline of scopes
abbrev pub IsAlwaysScoped : Type 0
IsAlwaysScoped = (P : m.Program) → IsScoped (placed_program P)

-- with its scopes it means what it did without any
abbrev pub MeansTheSame : Type 0
MeansTheSame = (P : m.Program) (n : ℕ) → scoped_means (placed_program P) n ≡ means P n

-- without its scopes it is well formed exactly where it was
abbrev pub StaysWellFormed : Type 0
StaysWellFormed = (P : m.Program) → is_well_formed (plain_program (placed_program P)) ≡ is_well_formed P

-- without its scopes it checks each place before it is used exactly where it did
abbrev pub StaysGuarded : Type 0
StaysGuarded = (P : m.Program) → is_guarded_program (plain_program (placed_program P)) ≡ is_guarded_program P

-- it asks for the same checks before it
abbrev pub AsksTheSame : Type 0
AsksTheSame = (a : m.Code) (w : List Fact) → asks (plain (whole a)) w ≡ asks a w
