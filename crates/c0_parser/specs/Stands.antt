-- What the parser's code has read, as all that stands between two positions.
use Rattle.std.specs.Prelude.{◌≡◌, List, map, option_map, box_value}
use Rattle.c0_source.specs.Spelling.{Lexeme}
use Rattle.c0_syntax.specs.Views.{annotation_of, expression_of, simple_of, statement_of, typed_name_of}
use Rattle.c0_syntax.specs.declared.expression.Expression.{Expression}
use Rattle.c0_syntax.specs.declared.program.TypedName.{TypedName}
use Rattle.c0_grammar_laws.specs.Places.{PlacedExpression, Position, after_expression, skip}
use Rattle.c0_grammar_laws.specs.PlacedStatements.{PlacedAnnotations, PlacedOption, PlacedStatement, after_annotations, after_condition, after_option, after_statement}
use Rattle.c0_grammar_laws.specs.PlacedPrograms.{PlacedTypedName, PlacedTypedNames, after_parameters, after_typed_name, after_typed_names}
use Rattle.c0_parser.specs.declared.found.FoundBody.{FoundBody}
use Rattle.c0_parser.specs.declared.found.FoundForEnd.{FoundForEnd}
use Rattle.c0_parser.specs.declared.found.FoundForTest.{FoundForTest}

-- the position before these tokens, with which a text begins
abbrev pub first_position : List Lexeme → Position
first_position ts = record { tokens = ts; end = 0 }

-- a condition in parentheses and a semicolon
abbrev pub CheckedStands : Position → Expression → Position → Type 0
CheckedStands p e q = PlacedExpression (skip p) e × (skip (after_condition (expression_of e) p) ≡ q)

-- the annotations and the body of a loop
abbrev pub BodyStands : Position → FoundBody → Position → Type 0
BodyStands p f q =
    PlacedAnnotations p f.annotations.items × PlacedStatement (after_annotations (map annotation_of f.annotations.items) p) (box_value f.body)
    × (after_statement (statement_of (box_value f.body)) (after_annotations (map annotation_of f.annotations.items) p) ≡ q)

-- a `for` from its third part on
abbrev pub ForEndStands : Position → FoundForEnd → Position → Type 0
ForEndStands p f q = PlacedOption p f.step × BodyStands (skip (after_option (option_map simple_of f.step) p)) f.body q

-- a `for` from its condition on
abbrev pub ForTestStands : Position → FoundForTest → Position → Type 0
ForTestStands p f q = PlacedExpression p f.condition × ForEndStands (skip (after_expression (expression_of f.condition) p)) f.end q

-- a field and its semicolon
abbrev pub FieldStands : Position → TypedName → Position → Type 0
FieldStands p x q = PlacedTypedName p x × (skip (after_typed_name (typed_name_of x) p) ≡ q)

-- fields and the closing brace
abbrev pub FieldsStand : Position → List TypedName → Position → Type 0
FieldsStand p xs q = PlacedTypedNames p xs × (skip (after_typed_names (map typed_name_of xs) p) ≡ q)

-- parameters and the closing parenthesis
abbrev pub ParametersStand : Position → List TypedName → Position → Type 0
ParametersStand p xs q = PlacedTypedNames p xs × (after_parameters (map typed_name_of xs) p ≡ q)
