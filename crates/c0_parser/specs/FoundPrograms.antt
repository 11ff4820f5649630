-- What the parser's code has read of declarations, as the reading functions give it.
use Rattle.std.specs.Prelude.{ℕ, List, length, map, Option, Some, None, Ok}
use Rattle.c0_source.specs.Terminals.{Terminal}
use Rattle.c0_syntax.specs.declared.program.Declaration.{Declaration as Node}
use Rattle.c0_syntax.specs.Trees.{TypedName}
use Rattle.c0_syntax.specs.Views.{declaration_of, header_of, typed_name_of}
use Rattle.c0_parser.specs.declared.found.FoundParameter.{FoundParameter}
use Rattle.c0_parser.specs.declared.found.FoundParameters.{FoundParameters}
use Rattle.c0_parser.specs.declared.found.FoundHeader.{FoundHeader}
use Rattle.c0_grammar_laws.specs.Outcome.{Outcome, ◌>>=◌, Read, any_name, new_name, semi}
use Rattle.c0_grammar_laws.specs.ReadExpressions.{read_type}
use Rattle.c0_grammar_laws.specs.ReadPrograms.{ReadDeclaration, ReadHeader, ReadParameters}

-- a field and its semicolon
abbrev pub one_field : List (List ℕ) → ℕ → List Terminal → Outcome (Read TypedName)
one_field types d ts = read_type types d ts >>= λ t. any_name t.rest >>= λ x. semi x.rest >>= λ us. Ok (record { value = record { value_type = t.value_type; name = x.value }; rest = us })

-- a parameter, how many tokens stand from its name on, and the tokens behind it
pub record ReadParameter : Type 0 where
  pub parameter : TypedName
  pub at : ℕ
  pub rest : List Terminal

-- a parameter up to what stands behind it
abbrev pub one_parameter : List (List ℕ) → ℕ → List Terminal → Outcome ReadParameter
one_parameter types d ts = read_type types d ts >>= λ t. new_name types t.rest >>= λ x. Ok (record { parameter = record { value_type = t.value_type; name = x.value }; at = length t.rest; rest = x.rest })

-- the first of two places that is known
abbrev pub first_known : Option ℕ → Option ℕ → Option ℕ
first_known None later = later
first_known (Some at) later = Some at

-- a parameter, with these tokens behind it
abbrev pub found_parameter : List Terminal → FoundParameter → ReadParameter
found_parameter rest f = record { parameter = typed_name_of f.parameter; at = f.at; rest = rest }

-- parameters, with these tokens behind the closing parenthesis
abbrev pub found_parameters : List Terminal → FoundParameters → ReadParameters
found_parameters rest f = record { parameters = map typed_name_of f.parameters.items; over = f.over; rest = rest }

-- a header, with these tokens behind it
abbrev pub found_header : List Terminal → FoundHeader → ReadHeader
found_header rest f = record { header = header_of f.header; at = f.at; over = f.over; rest = rest }

-- a declaration, with so much room for functions and these tokens behind it
abbrev pub found_declaration : ℕ → List Terminal → Node → ReadDeclaration
found_declaration room rest x = record { declaration = declaration_of x; room = room; rest = rest }
