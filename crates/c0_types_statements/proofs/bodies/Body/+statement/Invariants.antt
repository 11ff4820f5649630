use Rattle.std.proofs.Common.{◌≡◌, ◌+◌, ◌*◌, drop}
use Rattle.c0_source.specs.declared.fault.Fault.{Fault}
use Rattle.c0_syntax.specs.Views.{statement_of, statement_of_kind, statements_of}
use Rattle.c0_types_bodies.specs.Bodies.{scope_of}
use Rattle.c0_rules.specs.FaultStatements.{InBody}
use Rattle.c0_rules.specs.Statements.{typed_statements}
use Rattle.c0_types_tables.specs.Views.{environment_of}
use Rattle.c0_types_bodies.proofs.InnerStatements.{after_all}
use Rattle.c0_types_bodies.proofs.Sizes.{size_statement, size_statements}
use Rattle.c0_types_statements.proofs.bodies.Body.+statement.Given as goal

abbrev pub decreases-statement : goal.decreases-statement
decreases-statement l = 4 * size_statement (statement_of_kind l.kind.now)

abbrev pub decreases-statements : goal.decreases-statements
decreases-statements l = 4 * size_statements (statements_of l.statements.now)

abbrev pub decreases-block : goal.decreases-block
decreases-block l = 4 * size_statements (statements_of l.statements.now) + 1

abbrev pub decreases-turn : goal.decreases-turn
decreases-turn l = 4 * size_statement (statement_of l.body.now) + 1

abbrev pub decreases-inner : goal.decreases-inner
decreases-inner l = 4 * size_statement (statement_of l.body.now) + 1

abbrev pub decreases-choice_of : goal.decreases-choice_of
decreases-choice_of l = 4 * size_statement (statement_of l.body.now) + 2

abbrev pub decreases-choice_of_two : goal.decreases-choice_of_two
decreases-choice_of_two l = 4 * (size_statement (statement_of l.body.now) + size_statement (statement_of l.other.now)) + 2

abbrev pub decreases-while_loop : goal.decreases-while_loop
decreases-while_loop l = 4 * size_statement (statement_of l.body.now) + 2

abbrev pub decreases-loop_behind : goal.decreases-loop_behind
decreases-loop_behind l = 4 * size_statement (statement_of l.body.now) + 2

abbrev pub decreases-for_loop : goal.decreases-for_loop
decreases-for_loop l = 4 * size_statement (statement_of l.body.now) + 3

-- what is left decides, behind the statements so far
abbrev pub invariant-statements-loop-statement : goal.invariant-statements-loop-statement
invariant-statements-loop-statement l = record {
  environment : l.self.environment ≡ l.initial.self.environment;
  texts : l.self.texts ≡ l.initial.self.texts;
  answer : after_all l.initial.self.texts.now l.all.items (typed_statements (environment_of l.initial.self.environment.now) (statements_of (drop l.statement-index l.statements)) (scope_of l.self.scope)) ≡ typed_statements (environment_of l.initial.self.environment.now) (statements_of l.statements) (scope_of l.initial.self.scope);
  cause : (f : Fault) → InBody (environment_of l.initial.self.environment.now) f (scope_of l.self.scope) (drop l.statement-index l.statements) → InBody (environment_of l.initial.self.environment.now) f (scope_of l.initial.self.scope) l.statements;
}
