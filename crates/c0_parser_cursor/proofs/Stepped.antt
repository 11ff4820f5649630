-- What a turn of a loop over signs behind a type returned.
use Rattle.std.proofs.Common.{◌≡◌, ℕ, ◌≤◌, List, Ok, subst}
use Rattle.c0_source.specs.Terminals.{Terminal}
use Rattle.c0_parser_cursor.specs.declared.found.FoundType.{FoundType}
use Rattle.c0_parser_cursor.specs.declared.found.TypeStep.{TypeStep}
use Rattle.c0_parser_cursor.specs.declared.found.TypeStep.TheVariants as t
use Rattle.c0_grammar_laws.specs.Outcome.{Outcome}
use Rattle.c0_grammar_laws.specs.ReadExpressions.{ReadType}
use Rattle.c0_grammar_laws.specs.Places.{Position, TypeStands}
use Rattle.c0_parser_cursor.specs.Found.{GivesType, found_type, height_of_step, type_of_step}

pub type_done : (go_on : ReadType → Outcome ReadType) (rest : List Terminal) (step : TypeStep) (f : FoundType) (read : Outcome ReadType) → step ≡ t.Done f → GivesType go_on rest (Ok step) read → read ≡ Ok (found_type rest f)
type_done go_on rest step f read e h = subst (λ s. GivesType go_on rest (Ok s) read) e h

pub type_more : (go_on : ReadType → Outcome ReadType) (rest : List Terminal) (step : TypeStep) (f : FoundType) (read : Outcome ReadType) → step ≡ t.More f → GivesType go_on rest (Ok step) read → read ≡ go_on (found_type rest f)
type_more go_on rest step f read e h = subst (λ s. GivesType go_on rest (Ok s) read) e h

pub type_low : (d : ℕ) (step : TypeStep) (f : FoundType) → step ≡ t.More f → height_of_step step ≤ d → f.height ≤ d
type_low d step f e h = subst (λ s. height_of_step s ≤ d) e h

pub done_stands : (first last : Position) (step : TypeStep) (f : FoundType) → step ≡ t.Done f → TypeStands first (type_of_step step) last → TypeStands first f.value_type last
done_stands first last step f e h = subst (λ s. TypeStands first (type_of_step s) last) e h

pub more_stands : (first last : Position) (step : TypeStep) (f : FoundType) → step ≡ t.More f → TypeStands first (type_of_step step) last → TypeStands first f.value_type last
more_stands first last step f e h = subst (λ s. TypeStands first (type_of_step s) last) e h
