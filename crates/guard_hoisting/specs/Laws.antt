-- What is promised of programs out of whose loops guards were taken.
use Rattle.std.specs.Prelude.{◌≡◌, ◌≤◌, ℕ, Bool, List, [], Option, All}
use Rattle.code_form.specs.declared.form.Fact.{Fact}
use Rattle.code_form.specs.declared.form.Kind.{Kind}
use Rattle.middle_form.specs.Discipline.{IsScoped}
use Rattle.middle_form.specs.Guarded.{asks, is_guarded_program}
use Rattle.middle_form.specs.Meaning.{means}
use Rattle.middle_form.specs.Scoped.{Code, Function, Program, plain, plain_program}
use Rattle.middle_form.specs.ScopedMeaning.{scoped_means}
use Rattle.middle_form.specs.WellFormed.{is_well_formed}
use Rattle.scoped_building.specs.Building.{in_order}
use Rattle.scoped_building.specs.Places.{AllPlaces}
use Rattle.guard_hoisting.specs.Hoisted.{hoisted, hoisted_program}

-- without its scopes it means what it did, within every number of turns
abbrev pub KeepsTheMeaning : Type 0
KeepsTheMeaning = (P : Program) (n : ℕ) → means (plain_program (hoisted_program P)) n ≡ means (plain_program P) n

-- it keeps the discipline of scopes where it did
abbrev pub StaysScoped : Type 0
StaysScoped = (P : Program) → IsScoped P → IsScoped (hoisted_program P)

-- with its scopes it means what it did, where it kept the discipline
abbrev pub MeansTheSame : Type 0
MeansTheSame = (P : Program) → IsScoped P → (n : ℕ) → scoped_means (hoisted_program P) n ≡ scoped_means P n

-- without its scopes it is well formed exactly where it was
abbrev pub StaysWellFormed : Type 0
StaysWellFormed = (P : Program) → is_well_formed (plain_program (hoisted_program P)) ≡ is_well_formed (plain_program P)

-- without its scopes it checks each place before it is used exactly where it did
abbrev pub StaysGuarded : Type 0
StaysGuarded = (P : Program) → is_guarded_program (plain_program (hoisted_program P)) ≡ is_guarded_program (plain_program P)

-- it asks for the same checks before it
abbrev pub AsksTheSame : Type 0
AsksTheSame = (ks : List Kind) (a : Code) (w : List Fact) → asks (plain (in_order (hoisted ks a []))) w ≡ asks (plain a) w

-- what holds of each place that code loads, stores or aims at holds of what comes in place of the code: nothing is aimed at that was not
abbrev pub KeepsThePlaces : Type 0
KeepsThePlaces = (Q : ℕ → Option ℕ → ℕ → Bool) (ks : List Kind) (a : Code) → AllPlaces Q a → AllPlaces Q (in_order (hoisted ks a []))

-- each function has at most four scopes, where it had no more
abbrev pub HasFewScopes : Type 0
HasFewScopes = (P : Program) → All (λ (g : Function). g.scopes ≤ 4) P.functions → All (λ (g : Function). g.scopes ≤ 4) (hoisted_program P).functions
