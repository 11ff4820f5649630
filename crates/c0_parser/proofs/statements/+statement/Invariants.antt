use Rattle.std.proofs.Common.{◌≡◌, ◌*◌, ◌+◌, ◌-◌}
use Rattle.c0_syntax.specs.Views.{statements_of}
use Rattle.c0_grammar_laws.specs.ReadStatements.{read_statement, read_statements}
use Rattle.c0_parser.proofs.StatementLoops.{with_statements}
use Rattle.c0_grammar_laws.specs.PlacedStatements.{PlacedStatements, after_each_statement}
use Rattle.c0_parser.proofs.statements.+statement.Given as goal

abbrev pub decreases-statement : goal.decreases-statement
decreases-statement l = 8 * l.depth

abbrev pub decreases-boxed : goal.decreases-boxed
decreases-boxed l = 8 * l.depth + 1

abbrev pub decreases-any_statement : goal.decreases-any_statement
decreases-any_statement l = 8 * l.depth + 6

abbrev pub decreases-block : goal.decreases-block
decreases-block l = 8 * l.depth + 4

abbrev pub decreases-statements : goal.decreases-statements
decreases-statements l = 8 * l.depth + 3

abbrev pub decreases-if_statement : goal.decreases-if_statement
decreases-if_statement l = 8 * l.depth + 4

abbrev pub decreases-behind_first : goal.decreases-behind_first
decreases-behind_first l = 8 * l.depth + 2

abbrev pub decreases-loop_body : goal.decreases-loop_body
decreases-loop_body l = 8 * l.depth + 2

abbrev pub decreases-while_statement : goal.decreases-while_statement
decreases-while_statement l = 8 * l.depth + 4

abbrev pub decreases-for_end : goal.decreases-for_end
decreases-for_end l = 8 * l.depth + 3

abbrev pub decreases-for_test : goal.decreases-for_test
decreases-for_test l = 8 * l.depth + 4

abbrev pub decreases-for_statement : goal.decreases-for_statement
decreases-for_statement l = 8 * l.depth + 5

-- the statements so far, with those that are read from here on
abbrev pub invariant-statements-loop-turn : goal.invariant-statements-loop-turn
invariant-statements-loop-turn l =
    (with_statements (statements_of l.statements.items) (read_statements l.types l.loops (read_statement l.types l.loops l.depth) l.depth (l.most - l._turn) l.room l.cursor.seen) ≡ read_statements l.types l.loops (read_statement l.types l.loops l.depth) l.depth l.most l.fn.room l.fn.cursor.seen)
    × (PlacedStatements l.fn.cursor.position l.statements.items × (after_each_statement (statements_of l.statements.items) l.fn.cursor.position ≡ l.cursor.position))
