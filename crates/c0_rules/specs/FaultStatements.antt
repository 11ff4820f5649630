-- What is wrong with a statement, and at which place. A statement stands behind others: what is in scope there is what
-- the rules give of those.
use Rattle.std.specs.Prelude.{◌≡◌, ◌⊎◌, Bool, true, false, List, [], ◌∷◌, Option, Some, None, option_map}
use Rattle.c0_source.specs.declared.fault.Fault.{Fault}
use Rattle.c0_source.specs.declared.fault.FaultKind.TheVariants as k
use Rattle.c0_source.specs.declared.fault.Span.{Span}
use Rattle.c0_syntax.specs.declared.operator.PrefixOperator.TheVariants as o
use Rattle.c0_syntax.specs.declared.name.Name as n
use Rattle.c0_syntax.specs.declared.expression.Expression as e
use Rattle.c0_syntax.specs.declared.expression.ExpressionKind.{ExpressionKind, Call'}
use Rattle.c0_syntax.specs.declared.statement.Spec as p
use Rattle.c0_syntax.specs.declared.statement.Annotation.{Annotation}
use Rattle.c0_syntax.specs.declared.statement.SimpleStatement.{SimpleStatement}
use Rattle.c0_syntax.specs.declared.statement.SimpleKind.{SimpleKind}
use Rattle.c0_syntax.specs.declared.statement.SimpleKind.TheVariants as d
use Rattle.c0_syntax.specs.declared.statement.Statement as a
use Rattle.c0_syntax.specs.declared.statement.StatementKind.{StatementKind, Row_of-Statement, end_of-Statement, more_of-Statement, Simple, Block', Annotated, Return, ReturnValue, If', IfElse', While', For', Assert, Error, Break, Continue}
use Rattle.c0_syntax.specs.Trees as s
use Rattle.c0_syntax.specs.Views.{name_of, type_of, expression_of, spec_of, simple_of, statement_of, statement_of_kind}
use Rattle.c0_rules.specs.Types.{ResolvedType, VoidType, IntType, BoolType, StringType, same_type, small_type, is_small, Environment}
use Rattle.c0_rules.specs.Mentions.{as_variable}
use Rattle.c0_rules.specs.Expressions.{operator_rule, Context}
use Rattle.c0_rules.specs.Statements.{Role, Invariant, Assertion, role_of, same_role, Scope, Checked, in_body, leave, within, Destination, ToLocal, ToPlace, change_of, declares, is_taken, destination, typed_part, typed_statement}
use Rattle.c0_rules.specs.FaultExpressions.{Told, SmallTypeCause, AsValue, AsPlace, Mistyped, CallCause, InExpression, InArguments}

-- the type of what a destination holds
abbrev pub destination_type : Destination → ResolvedType
destination_type (ToLocal l) = l.resolved
destination_type (ToPlace q) = q.resolved

-- whether an expression has the form of a place of the heap
abbrev pub has_place : s.Expression → Bool
has_place (s.Parenthesized e) = has_place e
has_place (s.Index a i) = true
has_place (s.Field a x) = true
has_place (s.PointerField a x) = true
has_place (s.Unary o.Dereference a) = true
has_place _ = false

module _ (env : Environment) (fault : Fault) where
  -- ---- specs

  -- a fault in a condition, or one of another type
  abbrev pub InCondition : Context → e.Expression → Type 0
  InCondition at c = InExpression env at fault AsValue c.kind c.span ⊎ Mistyped env at fault BoolType c.kind c.span

  -- a fault in a spec, or one that has another role
  abbrev pub InSpecs : Role → Context → List p.Spec → Type 0
  InSpecs role at [] = ⊥
  InSpecs role at (x ∷ rest) = ((same_role role (role_of (spec_of x)) ≡ false) × Told k.BadContract x.word fault) ⊎ InCondition at x.condition ⊎ InSpecs role at rest

  -- the same in annotations
  abbrev pub InAnnotations : Role → Context → List Annotation → Type 0
  InAnnotations role at [] = ⊥
  InAnnotations role at (x ∷ rest) = InSpecs role at x.specs.items ⊎ InAnnotations role at rest

  module _ (s : Scope) where
    -- ---- simple statements

    -- a fault in an expression of the body
    abbrev pub InValue : e.Expression → Type 0
    InValue x = InExpression env (within s) fault AsValue x.kind x.span

    -- a fault in an expression, or one of another type
    abbrev pub InWanted : ResolvedType → e.Expression → Type 0
    InWanted want x = InValue x ⊎ Mistyped env (within s) fault want x.kind x.span

    -- a local whose name is taken
    abbrev pub TakenCause : n.Name → Type 0
    TakenCause x = (is_taken env s (name_of x) ≡ true) × Told k.DuplicateName x.span fault

    -- what is assigned to is no destination, or has a fault in it
    abbrev pub InDestination : e.Expression → Type 0
    InDestination x =
        elim (as_variable (expression_of x)) as (λ o. Type 0) [
          | Some v ↦ InValue x
          | None ↦ elim (has_place (expression_of x)) as (λ b. Type 0) [ true ↦ InExpression env (within s) fault (AsPlace x.span) x.kind x.span | false ↦ Told k.NotDestination x.span fault ]
        ]

    -- a destination that holds a struct, or a value of another type than it holds
    abbrev pub AssignedCause : e.Expression → e.Expression → Type 0
    AssignedCause x value =
        (q : Destination) × (destination env s (expression_of x) ≡ Some q)
        × (((is_small (destination_type q) ≡ false) × Told k.NotSmall x.span fault) ⊎ Mistyped env (within s) fault (destination_type q) value.kind value.span)

    -- a destination that holds a struct, or another small value than a number, where a number is changed
    abbrev pub ChangedCause : e.Expression → Type 0
    ChangedCause x =
        (q : Destination) × (destination env s (expression_of x) ≡ Some q)
        × (((is_small (destination_type q) ≡ false) × Told k.NotSmall x.span fault)
        ⊎ ((is_small (destination_type q) ≡ true) × (same_type (destination_type q) IntType ≡ false) × Told k.TypeMismatch x.span fault))

    -- an expression as a statement: itself it may be a void call
    abbrev pub InEvaluated : ExpressionKind → Span → Type 0
    InEvaluated (Call' x shape es) span = CallCause env (within s) fault x es span ⊎ InArguments env (within s) fault es
    InEvaluated e span = InExpression env (within s) fault AsValue e span

    -- a simple statement
    abbrev pub InSimple : SimpleKind → Span → Type 0
    InSimple (d.Declare ty x) span = SmallTypeCause env.typedefs fault ty ⊎ TakenCause x
    InSimple (d.Initialize ty x value) span =
        SmallTypeCause env.typedefs fault ty ⊎ InValue value
        ⊎ ((r : ResolvedType) × (small_type env.typedefs (type_of ty) ≡ Some r) × Mistyped env (within s) fault r value.kind value.span) ⊎ TakenCause x
    InSimple (d.Assign x value) span = InDestination x ⊎ InValue value ⊎ AssignedCause x value
    InSimple (d.Update x op value) span =
        InDestination x ⊎ InWanted IntType value ⊎ ChangedCause x ⊎ ((change_of (operator_rule op) ≡ None) × Told k.Syntax span fault)
    InSimple (d.Step x way) span = InDestination x ⊎ ChangedCause x
    InSimple (d.Evaluate x) span = InEvaluated x.kind x.span

    -- a part of a `for`
    abbrev pub InPart : Option SimpleStatement → Type 0
    InPart None = ⊥
    InPart (Some x) = InSimple x.kind x.span

    -- a value is returned where there is none, whatever it is; or one with a fault in it or of another type
    abbrev pub ReturnCause : e.Expression → Type 0
    ReturnCause x =
        ((same_type s.result VoidType ≡ true) × Told k.TypeMismatch x.span fault)
        ⊎ ((same_type s.result VoidType ≡ false) × InWanted s.result x)

  -- a third part that declares
  abbrev pub ThirdCause : Option SimpleStatement → Type 0
  ThirdCause None = ⊥
  ThirdCause (Some x) = (declares (Some (simple_of x)) ≡ true) × Told k.StepDeclares x.span fault

  -- ---- statements

  abbrev mutual
    -- the fault has its cause somewhere in this statement
    pub InStatement : Scope → StatementKind → Span → Type 0
    InStatement s (Simple x) span = InSimple s x.kind x.span
    InStatement s (Block' shape rest) span = InRow s rest
    InStatement s (Annotated x) span = InSpecs Assertion (within s) x.specs.items
    InStatement s Return span = (same_type s.result VoidType ≡ false) × Told k.TypeMismatch span fault
    InStatement s (ReturnValue x) span = ReturnCause s x
    InStatement s (If' c p x here) span = InWanted s BoolType c ⊎ InStatement s x here
    InStatement s (IfElse' c p x here q y there) span =
        InWanted s BoolType c ⊎ InStatement s x here ⊎ ((z : Checked) × (typed_statement env (statement_of_kind x) s ≡ Some z) × InStatement (leave s z.scope) y there)
    InStatement s (While' c notes p x here) span = InWanted s BoolType c ⊎ InAnnotations Invariant (within s) notes.items ⊎ InStatement (in_body s) x here
    InStatement s (For' first c third notes p x here) span =
        InPart s first ⊎ ThirdCause third
        ⊎ ((z : Checked) × (typed_part env (option_map simple_of first) s ≡ Some z)
        × (InWanted z.scope BoolType c ⊎ InPart z.scope third ⊎ InAnnotations Invariant (within z.scope) notes.items ⊎ InStatement (in_body z.scope) x here))
    InStatement s (Assert x) span = InWanted s BoolType x
    InStatement s (Error x) span = InWanted s StringType x
    InStatement s Break span = (s.in_loop ≡ false) × Told k.NotInLoop span fault
    InStatement s Continue span = (s.in_loop ≡ false) × Told k.NotInLoop span fault

    -- ... in one of the statements of a block
    pub InRow : {m : _} → Scope → Row_of-Statement m → Type 0
    InRow s end_of-Statement = ⊥
    InRow s (more_of-Statement x here rest) = InStatement s x here ⊎ ((z : Checked) × (typed_statement env (statement_of_kind x) s ≡ Some z) × InRow z.scope rest)

  -- ... in one of the statements of a body
  abbrev pub InBody : Scope → List a.Statement → Type 0
  InBody s [] = ⊥
  InBody s (x ∷ rest) = InStatement s x.kind x.span ⊎ ((z : Checked) × (typed_statement env (statement_of x) s ≡ Some z) × InBody z.scope rest)
