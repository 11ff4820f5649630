-- The types that the code has read, as the reading functions give them.
use Rattle.std.specs.Prelude.{◌≡◌, ℕ, List, Result, Ok, Err}
use Rattle.c0_source.specs.Terminals.{Terminal}
use Rattle.c0_syntax.specs.Views.{type_of}
use Rattle.c0_syntax.specs.declared.value_type.ValueType.{ValueType}
use Rattle.c0_grammar_laws.specs.declared.read_error.ReadError.{ReadError}
use Rattle.c0_parser_cursor.specs.declared.found.FoundType.{FoundType}
use Rattle.c0_parser_cursor.specs.declared.found.TypeStep.{TypeStep}
use Rattle.c0_parser_cursor.specs.declared.found.TypeStep.TheVariants as t
use Rattle.c0_grammar_laws.specs.Outcome.{Outcome, Fails}
use Rattle.c0_grammar_laws.specs.ReadExpressions.{ReadType}

-- a type, with these tokens behind it
abbrev pub found_type : List Terminal → FoundType → ReadType
found_type rest f = record { value_type = type_of f.value_type; height = f.height; rest = rest }

-- what a turn of the loop over the signs behind a type returned is what this gives, where `go_on` reads the others
abbrev pub GivesType : (ReadType → Outcome ReadType) → List Terminal → Result TypeStep ReadError → Outcome ReadType → Type 0
GivesType go_on rest (Ok (t.More f)) read = read ≡ go_on (found_type rest f)
GivesType go_on rest (Ok (t.Done f)) read = read ≡ Ok (found_type rest f)
GivesType go_on rest (Err e) read = Fails e read

-- how many nodes are on the longest path of the type so far
abbrev pub height_of_step : TypeStep → ℕ
height_of_step (t.More f) = f.height
height_of_step (t.Done f) = f.height

-- the type so far
abbrev pub type_of_step : TypeStep → ValueType
type_of_step (t.More f) = f.value_type
type_of_step (t.Done f) = f.value_type
