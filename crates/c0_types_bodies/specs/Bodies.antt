-- What is in scope as code holds it, and what the rules give of statements.
use Rattle.std.specs.Prelude.{◌≡◌, ◌⊎◌, ℕ, not, true, false, List, [], ◌∷◌, Option, Some, None, Result, Ok, Err, map, option_map}
use Rattle.c0_source.specs.declared.fault.Fault.{Fault}
use Rattle.c0_source.specs.declared.fault.FaultKind.TheVariants as k
use Rattle.c0_source.specs.declared.fault.Span.{Span}
use Rattle.c0_syntax.specs.declared.expression.Expression as e
use Rattle.c0_syntax.specs.declared.expression.ExpressionKind.{ExpressionKind}
use Rattle.c0_syntax.specs.Views.{expression_of_kind, simple_of, statement_of}
use Rattle.c0_syntax.specs.declared.statement.Annotation.{Annotation}
use Rattle.c0_syntax.specs.declared.statement.SimpleStatement.{SimpleStatement}
use Rattle.c0_syntax.specs.declared.statement.Statement as a
use Rattle.c0_syntax.specs.declared.statement.SpecKind.{SpecKind}
use Rattle.c0_syntax.specs.declared.statement.SpecKind.TheVariants as p
use Rattle.c0_syntax.specs.Trees as t
use Rattle.c0_typed.specs.Trees as y
use Rattle.c0_typed.specs.Views as v
use Rattle.c0_typed.specs.declared.tree.Expression.{Expression}
use Rattle.c0_typed.specs.declared.tree.Statement.{Statement}
use Rattle.c0_rules.specs.Expressions.{Context, typed_expression, wanted}
use Rattle.c0_rules.specs.Mentions.{as_variable, condition_of, specs_in}
use Rattle.c0_rules.specs.Statements as s
use Rattle.c0_rules.specs.FaultExpressions.{Told, AsValue, AsPlace, InExpression}
use Rattle.c0_rules.specs.FaultStatements.{destination_type, has_place, InAnnotations, InPart, InStatement, InWanted, ThirdCause}
use Rattle.c0_types_terms.specs.Terms.{HasTexts, local_of, place_of}
use Rattle.c0_rules.specs.Types.{and_so, provided, Name, ResolvedType, Environment, same_type, is_small, IntType, BoolType}
use Rattle.c0_types_tables.specs.Views.{resolved_of}
use Rattle.c0_types_bodies.specs.declared.loops.LoopHead.{LoopHead}
use Rattle.c0_types_bodies.specs.declared.scope.Scope.{Scope}
use Rattle.c0_types_bodies.specs.declared.scope.Destination.{Destination}
use Rattle.c0_types_bodies.specs.declared.scope.Destination.TheVariants as d

-- what is in scope
abbrev pub scope_of : Scope → s.Scope
scope_of x = record { locals = map local_of x.locals.items; parameters = x.parameters; declared = map resolved_of x.declared.items; result = resolved_of x.result; in_loop = x.in_loop }

-- the rules give this statement, and this scope behind it; or, want of memory aside, they give none
abbrev pub Gives : List Name → Scope → Result Statement Fault → Option s.Checked → Type 0
Gives texts behind (Ok b) o = o ≡ Some (record { statement = v.stmt_of texts b; scope = scope_of behind })
Gives texts behind (Err f) o = (f.kind ≡ k.OutOfMemory) ⊎ (o ≡ None)

-- what is assigned to
abbrev pub destination_of : List Name → Destination → s.Destination
destination_of texts (d.Local l) = s.ToLocal (local_of l.now)
destination_of texts (d.Place q) = s.ToPlace (place_of texts q)

-- the rules let a local be declared, of this number, and this is in scope behind it; or, want of memory aside, they do not
abbrev pub Declares : s.Scope → Scope → Result ℕ Fault → Option s.Scope → Type 0
Declares before behind (Ok n) o = (o ≡ Some (scope_of behind)) × (n ≡ s.next_number before)
Declares before behind (Err f) o = (f.kind ≡ k.OutOfMemory) ⊎ (o ≡ None)

-- the same of what this view shows
abbrev pub GivesBy : {T : Type 0} → (T → y.Stmt) → Scope → Result T Fault → Option s.Checked → Type 0
GivesBy view behind (Ok b) o = o ≡ Some (record { statement = view b; scope = scope_of behind })
GivesBy view behind (Err f) o = (f.kind ≡ k.OutOfMemory) ⊎ (o ≡ None)

-- ---- parts of statements

-- a statement in a scope of its own
abbrev pub in_scope : Environment → t.Statement → s.Scope → Option s.Checked
in_scope env b at = and_so (s.typed_statement env b at) (λ x. s.next x.statement (s.leave at x.scope))

-- the body of a loop, which is a scope
abbrev pub turn_in_scope : Environment → t.Statement → s.Scope → Option s.Checked
turn_in_scope env b at = and_so (s.typed_statement env b (s.in_body at)) (λ x. s.next x.statement (s.leave at x.scope))

-- statements in a scope of their own
abbrev pub block_in_scope : Environment → t.Statements → s.Scope → Option s.Checked
block_in_scope env rest at = and_so (s.typed_statements env rest at) (λ x. s.next x.statement (s.leave at x.scope))

-- the parts of a loop beside its body
pub record Head : Type 0 where
  pub condition : y.Exp
  pub third : y.Stmt
  pub invariants : y.Exps

-- the same as code holds them
abbrev pub head_of : List Name → LoopHead → Head
head_of texts h = record { condition = v.exp_of texts h.condition; third = v.stmt_of texts h.third; invariants = v.exps_of texts h.invariants.items }

-- the third part of a `for`, which declares no local
abbrev pub step_of : Environment → Option t.SimpleStatement → s.Scope → Option y.Stmt
step_of env third at = provided (not (s.declares third)) (and_so (s.typed_part env third at) (λ w. Some w.statement))

-- the parts of a loop beside its body, in the order of the text
abbrev pub loop_head : Environment → t.Expression → Option t.SimpleStatement → List (List t.Spec) → s.Scope → Option Head
loop_head env c third notes at =
    and_so (s.expression_as env BoolType at c) (λ z. and_so (step_of env third at) (λ w.
    and_so (s.conditions_of_all env s.Invariant (s.within at) (specs_in notes)) (λ xs. Some (record { condition = z; third = w; invariants = xs }))))

-- the loop of a `for`, behind its first part
abbrev pub loop_behind : Environment → t.Expression → Option t.SimpleStatement → List (List t.Spec) → t.Statement → s.Scope → Option s.Checked
loop_behind env c third notes a at =
    and_so (loop_head env c third notes at) (λ h. and_so (turn_in_scope env a at) (λ x. s.next (y.Loop h.invariants h.condition x.statement h.third) x.scope))

-- ---- specs

-- the role of a spec, by what it says of its condition
abbrev pub role_by : SpecKind → s.Role
role_by (p.Contract clause) = s.clause_role clause
role_by p.Assert = s.Assertion

-- the condition of a spec of this role
abbrev pub rule_of : Environment → s.Role → Context → t.Spec → Option y.Exp
rule_of env role at x = provided (s.same_role role (s.role_of x)) (wanted env BoolType (typed_expression env at (condition_of x)))

-- expressions, and others behind them
abbrev pub joined : y.Exps → y.Exps → y.Exps
joined y.NoExp others = others
joined (y.More e rest) others = y.More e (joined rest others)

-- what the rules give, behind these expressions
abbrev pub with_front : y.Exps → Option y.Exps → Option y.Exps
with_front front o = and_so o (λ xs. Some (joined front xs))

-- the rules give these expressions; or, want of memory aside, they give none
abbrev pub GivesMore : {T : Type 0} → List Name → List Expression → Result T Fault → Option y.Exps → Type 0
GivesMore texts items (Ok x) o = o ≡ Some (v.exps_of texts items)
GivesMore texts items (Err f) o = (f.kind ≡ k.OutOfMemory) ⊎ (o ≡ None)

-- ---- causes

-- what is assigned to, by its kind and its place: it is no destination, or has a fault in it; `whole` is its place with all parentheses
abbrev pub InDestinationOf : Environment → Fault → s.Scope → Span → ExpressionKind → Span → Type 0
InDestinationOf env fault at whole e span =
    elim (as_variable (expression_of_kind e)) as (λ o. Type 0) [
      | Some v ↦ InExpression env (s.within at) fault AsValue e span
      | None ↦ elim (has_place (expression_of_kind e)) as (λ b. Type 0) [ true ↦ InExpression env (s.within at) fault (AsPlace whole) e span | false ↦ Told k.NotDestination whole fault ]
    ]

-- an assignment to this destination, at this place
abbrev pub InAssigned : Environment → Fault → s.Scope → s.Destination → Span → e.Expression → Type 0
InAssigned env fault at q span value = ((is_small (destination_type q) ≡ false) × Told k.NotSmall span fault) ⊎ InWanted env fault at (destination_type q) value

-- a struct at this place, or another small value than a number, where a number is changed
abbrev pub NoNumber : Fault → ResolvedType → Span → Type 0
NoNumber fault r span =
    ((is_small r ≡ false) × Told k.NotSmall span fault) ⊎ ((is_small r ≡ true) × (same_type r IntType ≡ false) × Told k.TypeMismatch span fault)

-- an assignment by an operator to this destination, at this place
abbrev pub InUpdated : Fault → s.Destination → Span → Type 0
InUpdated fault q span = NoNumber fault (destination_type q) span

-- an `if` with `else`
abbrev pub InIfElse : Environment → Fault → s.Scope → e.Expression → a.Statement → a.Statement → Type 0
InIfElse env fault at c x b =
    InWanted env fault at BoolType c ⊎ InStatement env fault at x.kind x.span
    ⊎ ((z : s.Checked) × (s.typed_statement env (statement_of x) at ≡ Some z) × InStatement env fault (s.leave at z.scope) b.kind b.span)

-- the parts of a loop beside its body
abbrev pub InHead : Environment → Fault → s.Scope → e.Expression → Option SimpleStatement → List Annotation → Type 0
InHead env fault at c third notes = InWanted env fault at BoolType c ⊎ InPart env fault at third ⊎ InAnnotations env fault s.Invariant (s.within at) notes

-- the loop of a `for`
abbrev pub InLoop : Environment → Fault → s.Scope → e.Expression → Option SimpleStatement → List Annotation → a.Statement → Type 0
InLoop env fault at c third notes x =
    InWanted env fault at BoolType c ⊎ InPart env fault at third ⊎ InAnnotations env fault s.Invariant (s.within at) notes ⊎ InStatement env fault (s.in_body at) x.kind x.span

-- a `for`
abbrev pub InFor : Environment → Fault → s.Scope → Option SimpleStatement → e.Expression → Option SimpleStatement → List Annotation → a.Statement → Type 0
InFor env fault at first c third notes x =
    InPart env fault at first ⊎ ThirdCause env fault third
    ⊎ ((z : s.Checked) × (s.typed_part env (option_map simple_of first) at ≡ Some z) × InLoop env fault z.scope c third notes x)

-- ---- texts

-- each text in these specs is one of these texts
abbrev pub SpecsHaveTexts : List Name → List t.Spec → Type 0
SpecsHaveTexts texts [] = Unit {0}
SpecsHaveTexts texts (x ∷ rest) = HasTexts texts (condition_of x) × SpecsHaveTexts texts rest

-- the same of a simple statement
abbrev pub SimpleHasTexts : List Name → t.SimpleStatement → Type 0
SimpleHasTexts texts (t.Declare a n) = Unit {0}
SimpleHasTexts texts (t.Initialize a n e) = HasTexts texts e
SimpleHasTexts texts (t.Assign d e) = HasTexts texts d × HasTexts texts e
SimpleHasTexts texts (t.Update d o e) = HasTexts texts d × HasTexts texts e
SimpleHasTexts texts (t.Step d way) = HasTexts texts d
SimpleHasTexts texts (t.Evaluate e) = HasTexts texts e

-- the same of a part of a `for`
abbrev pub PartHasTexts : List Name → Option t.SimpleStatement → Type 0
PartHasTexts texts None = Unit {0}
PartHasTexts texts (Some a) = SimpleHasTexts texts a

abbrev mutual
  -- the same of a statement
  pub StatementHasTexts : List Name → t.Statement → Type 0
  StatementHasTexts texts (t.Simple a) = SimpleHasTexts texts a
  StatementHasTexts texts (t.Block rest) = StatementsHaveTexts texts rest
  StatementHasTexts texts (t.Annotation specs) = SpecsHaveTexts texts specs
  StatementHasTexts texts (t.ReturnValue e) = HasTexts texts e
  StatementHasTexts texts (t.If c a) = HasTexts texts c × StatementHasTexts texts a
  StatementHasTexts texts (t.IfElse c a b) = HasTexts texts c × StatementHasTexts texts a × StatementHasTexts texts b
  StatementHasTexts texts (t.While c notes a) = HasTexts texts c × SpecsHaveTexts texts (specs_in notes) × StatementHasTexts texts a
  StatementHasTexts texts (t.For first c third notes a) =
      PartHasTexts texts first × HasTexts texts c × PartHasTexts texts third × SpecsHaveTexts texts (specs_in notes) × StatementHasTexts texts a
  StatementHasTexts texts (t.Assert e) = HasTexts texts e
  StatementHasTexts texts (t.Error e) = HasTexts texts e
  StatementHasTexts texts _ = Unit {0}

  -- the same of statements in order
  pub StatementsHaveTexts : List Name → t.Statements → Type 0
  StatementsHaveTexts texts t.nothing = Unit {0}
  StatementsHaveTexts texts (t.also a rest) = StatementHasTexts texts a × StatementsHaveTexts texts rest
