-- What lowering promises.
use Rattle.std.specs.Prelude.{◌≡◌, ℕ, Bool, List, Some}
use Rattle.c0_typed.specs.Meaning.{mean}
use Rattle.c0_typed.specs.Typing.{FitsProgram}
use Rattle.c0_typed.specs.Views.{program_of}
use Rattle.c0_typed.specs.declared.tree.Typed.{Typed}
use Rattle.code_form.specs.declared.form.Kind.{Kind}
use Rattle.middle_form.specs.Form.{Program}
use Rattle.middle_form.specs.Meaning.{means}
use Rattle.lower_tables.specs.Gathered.{singles_of}
use Rattle.lower_tables.specs.Known.{KnowsProgram}
use Rattle.lower.specs.Lowered.{lowered}

-- for every number of turns the code means what the program does: the same output, and the same stop or cut; so it is never stuck
abbrev pub MeansTheSame : Typed → Bool → Program → Type 0
MeansTheSame typed checks code = (n : ℕ) → means code n ≡ Some (mean (program_of typed) checks n)

-- so does the code of each well-typed program, where the list of kinds has all that it needs
abbrev pub LoweredMeansTheSame : Type 0
LoweredMeansTheSame = (singles : List Kind) (checks : Bool) (typed : Typed) → FitsProgram (program_of typed) → KnowsProgram singles typed → MeansTheSame typed checks (lowered singles checks typed)

-- typed trees of one program have one code, however each of them numbers its texts
abbrev pub SameProgramSameCode : Type 0
SameProgramSameCode = (checks : Bool) (a b : Typed) → program_of a ≡ program_of b → lowered (singles_of a) checks a ≡ lowered (singles_of b) checks b
