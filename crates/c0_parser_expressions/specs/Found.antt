-- The expressions that the code has read, as the reading functions give them.
use Rattle.std.specs.Prelude.{◌≡◌, ℕ, suc, List, Result, Ok, Err}
use Rattle.c0_source.specs.Terminals.{Terminal}
use Rattle.c0_syntax.specs.Trees.{Field, PointerField}
use Rattle.c0_syntax.specs.Views.{expression_of, expressions_of}
use Rattle.c0_syntax.specs.declared.expression.Expression.{Expression}
use Rattle.c0_grammar_laws.specs.declared.read_error.ReadError.{ReadError}
use Rattle.c0_parser_expressions.specs.declared.found.FoundExpression.{FoundExpression}
use Rattle.c0_parser_expressions.specs.declared.found.FoundArguments.{FoundArguments}
use Rattle.c0_parser_expressions.specs.declared.found.ExpressionStep.{ExpressionStep}
use Rattle.c0_parser_expressions.specs.declared.found.ExpressionStep.TheVariants as e
use Rattle.c0_grammar_laws.specs.Outcome.{Outcome, ◌>>=◌, Fails, any_name, next}
use Rattle.c0_grammar_laws.specs.ReadExpressions.{ReadExpression, ReadArguments}

-- an expression, with these tokens behind it
abbrev pub found_expression : List Terminal → FoundExpression → ReadExpression
found_expression rest f = record { tree = expression_of f.expression; height = f.height; rest = rest }

-- arguments, with these tokens behind them
abbrev pub found_arguments : List Terminal → FoundArguments → ReadArguments
found_arguments rest f = record { trees = expressions_of f.arguments.items; height = f.height; rest = rest }

-- what a turn of the loop over the signs behind an expression returned is what this gives, where `go_on` reads the others
abbrev pub GivesExpression : (ReadExpression → Outcome ReadExpression) → List Terminal → Result ExpressionStep ReadError → Outcome ReadExpression → Type 0
GivesExpression go_on rest (Ok (e.More f)) read = read ≡ go_on (found_expression rest f)
GivesExpression go_on rest (Ok (e.Done f)) read = read ≡ Ok (found_expression rest f)
GivesExpression go_on rest (Err fault) read = Fails fault read

-- how many nodes are on the longest path of the expression so far
abbrev pub height_of_expression_step : ExpressionStep → ℕ
height_of_expression_step (e.More f) = f.height
height_of_expression_step (e.Done f) = f.height

-- an expression with the field whose `.` stands behind it
abbrev pub field_behind : ReadExpression → Outcome ReadExpression
field_behind a = any_name (next a.rest) >>= λ x. Ok (record { tree = Field a.tree x.value; height = suc a.height; rest = x.rest })

-- ... whose `->` stands behind it
abbrev pub pointer_field_behind : ReadExpression → Outcome ReadExpression
pointer_field_behind a = any_name (next a.rest) >>= λ x. Ok (record { tree = PointerField a.tree x.value; height = suc a.height; rest = x.rest })

-- the expression so far
abbrev pub expression_of_step : ExpressionStep → Expression
expression_of_step (e.More f) = f.expression
expression_of_step (e.Done f) = f.expression
