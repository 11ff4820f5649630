-- What is promised of programs in whose loops hints were set, for pieces of any number of cells.
use Rattle.std.specs.Prelude.{◌≡◌, ℕ, Bool, List, Option, map}
use Rattle.code_form.specs.declared.form.Fact.{Fact}
use Rattle.middle_form.specs.Discipline.{IsScoped}
use Rattle.middle_form.specs.Guarded.{asks, is_guarded_program}
use Rattle.middle_form.specs.Meaning.{means}
use Rattle.middle_form.specs.Scoped.{Code, Function, Program, plain, plain_program}
use Rattle.middle_form.specs.ScopedMeaning.{scoped_means}
use Rattle.middle_form.specs.WellFormed.{is_well_formed}
use Rattle.scoped_building.specs.Places.{AllPlaces}
use Rattle.prefetch_pass.specs.Prefetched.{hinted, prefetched_program}

-- without its scopes it means what it did, within every number of turns
abbrev pub KeepsTheMeaning : Type 0
KeepsTheMeaning = (cells : ℕ) (P : Program) (n : ℕ) → means (plain_program (prefetched_program cells P)) n ≡ means (plain_program P) n

-- it keeps the discipline of scopes where it did
abbrev pub StaysScoped : Type 0
StaysScoped = (cells : ℕ) (P : Program) → IsScoped P → IsScoped (prefetched_program cells P)

-- with its scopes it means what it did, where it kept the discipline
abbrev pub MeansTheSame : Type 0
MeansTheSame = (cells : ℕ) (P : Program) → IsScoped P → (n : ℕ) → scoped_means (prefetched_program cells P) n ≡ scoped_means P n

-- without its scopes it is well formed exactly where it was
abbrev pub StaysWellFormed : Type 0
StaysWellFormed = (cells : ℕ) (P : Program) → is_well_formed (plain_program (prefetched_program cells P)) ≡ is_well_formed (plain_program P)

-- without its scopes it checks each place before it is used exactly where it did
abbrev pub StaysGuarded : Type 0
StaysGuarded = (cells : ℕ) (P : Program) → is_guarded_program (plain_program (prefetched_program cells P)) ≡ is_guarded_program (plain_program P)

-- whatever the offsets, it asks for the same checks before it
abbrev pub AsksTheSame : Type 0
AsksTheSame = (cells : ℕ) (ds : List ℕ) (a : Code) (w : List Fact) → asks (plain (hinted cells ds a)) w ≡ asks (plain a) w

-- what holds of each place that code loads, stores or aims at holds of each that it does with hints
abbrev pub KeepsThePlaces : Type 0
KeepsThePlaces = (Q : ℕ → Option ℕ → ℕ → Bool) (cells : ℕ) (ds : List ℕ) (a : Code) → AllPlaces Q a → AllPlaces Q (hinted cells ds a)

-- each function has as many scopes as it had
abbrev pub HasTheSameScopes : Type 0
HasTheSameScopes = (cells : ℕ) (P : Program) → map (λ (g : Function). g.scopes) (prefetched_program cells P).functions ≡ map (λ (g : Function). g.scopes) P.functions
