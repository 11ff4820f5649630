-- What the parser's code has read of statements, as the reading functions give it.
use Rattle.std.specs.Prelude.{ℕ, suc, List, map, Option, option_map, Ok, box_value}
use Rattle.c0_source.specs.Terminals.{Terminal}
use Rattle.c0_syntax.specs.Trees.{Spec, SimpleStatement, Statement, Simple, For}
use Rattle.c0_syntax.specs.Views.{annotation_of, expression_of, simple_of, spec_by, statement_of}
use Rattle.c0_syntax.specs.declared.statement.SpecKind.{SpecKind}
use Rattle.c0_parser.specs.declared.found.FoundBody.{FoundBody}
use Rattle.c0_parser.specs.declared.found.FoundForEnd.{FoundForEnd}
use Rattle.c0_parser.specs.declared.found.FoundForTest.{FoundForTest}
use Rattle.c0_grammar_laws.specs.Outcome.{Outcome, ◌>>=◌, Read, next, semi}
use Rattle.c0_grammar_laws.specs.ReadExpressions.{read_expression}
use Rattle.c0_grammar_laws.specs.ReadStatements.{Counted, Body, ForEnd, ForTest, read_simple, with_semi}

-- a spec of this kind, whose word stands next
abbrev pub spec_behind : List (List ℕ) → ℕ → SpecKind → List Terminal → Outcome (Read Spec)
spec_behind types d kind ts = read_expression types d 1 (next ts) >>= λ e. semi e.rest >>= λ rest. Ok (record { value = spec_by kind e.tree; rest = rest })

-- the annotations and the body of a loop, with so much room for locals and these tokens behind them
abbrev pub found_body : ℕ → List Terminal → FoundBody → Body
found_body room rest f = record { annotations = map annotation_of f.annotations.items; body = statement_of (box_value f.body); room = room; rest = rest }

-- a `for` from its third part on
abbrev pub found_for_end : ℕ → List Terminal → FoundForEnd → ForEnd
found_for_end room rest f = record { step = option_map simple_of f.step; body = found_body room rest f.body }

-- a `for` from its condition on
abbrev pub found_for_test : ℕ → List Terminal → FoundForTest → ForTest
found_for_test room rest f = record { test = expression_of f.condition; end = found_for_end room rest f.end }

-- a `for` with this first part
abbrev pub for_tree : Option SimpleStatement → FoundForTest → Statement
for_tree first f = For first (expression_of f.condition) (option_map simple_of f.end.step) (map annotation_of f.end.body.annotations.items) (statement_of (box_value f.end.body.body))

-- a simple statement whose parts have at most `d` nodes on a path, and its semicolon
abbrev pub simple_line : List (List ℕ) → ℕ → ℕ → List Terminal → Outcome (Counted Statement)
simple_line types d room ts = read_simple types (suc d) room ts >>= λ s. with_semi (Simple s.value) s.room s.rest
