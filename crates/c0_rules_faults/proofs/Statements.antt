-- A statement in which a fault has its cause is refused.
use Rattle.std.proofs.Common.{◌≡◌, inl, inr, List, [], ◌∷◌, ◌++◌, refl, sym, ap, ◌∙◌, subst, Bool, true, false, Option, Some, None}
use Rattle.std.specs.Prelude.{not, cond, map, option_map, bytes_eq}
use Rattle.cells.specs.declared.int32.Int32Op.{Int32Op}
use Rattle.c0_source.specs.declared.fault.Fault.{Fault}
use Rattle.c0_source.specs.declared.fault.FaultKind.TheVariants as k
use Rattle.c0_source.specs.declared.fault.Span.{Span}
use Rattle.c0_syntax.specs.declared.operator.PrefixOperator.TheVariants as o
use Rattle.c0_syntax.specs.declared.name.Name as n
use Rattle.c0_syntax.specs.declared.value_type.ValueType as u
use Rattle.c0_syntax.specs.declared.expression.Expression as e
use Rattle.c0_syntax.specs.declared.expression.ExpressionKind.{ExpressionKind, Variable, Parenthesized', Call'}
use Rattle.c0_syntax.specs.declared.statement.SimpleStatement.{SimpleStatement}
use Rattle.c0_syntax.specs.declared.statement.SimpleKind.{SimpleKind}
use Rattle.c0_syntax.specs.declared.statement.SimpleKind.TheVariants as d
use Rattle.c0_syntax.specs.declared.statement.Statement as a
use Rattle.c0_syntax.specs.declared.statement.StatementKind.{StatementKind, Row_of-Statement, end_of-Statement, more_of-Statement, Simple, Block', Annotated, Return, ReturnValue, If', IfElse', While', For', Assert, Error, Break, Continue}
use Rattle.c0_syntax.specs.Trees as tree
use Rattle.c0_syntax.specs.Views.{name_of, type_of, expression_of, expression_of_kind, annotation_of, simple_of, simple_of_kind, statement_of, statement_of_kind, statement_row, statements_of}
use Rattle.c0_typed.specs.Trees as t
use Rattle.c0_rules.specs.Types.{and_so, Name, ResolvedType, VoidType, IntType, BoolType, StringType, same_type, is_small, small_type, resolved_type, Environment}
use Rattle.c0_rules.specs.Mentions.{as_variable, specs_in}
use Rattle.c0_rules.specs.Expressions.{operator_rule, Local, local_of, typed_expression, typed_place}
use Rattle.c0_rules.specs.Statements.{Invariant, Assertion, Scope, Checked, in_body, leave, within, Destination, ToLocal, ToPlace, change_of, step_of, declares, one, expression_as, conditions_of_all, is_taken, declared, destination_by, destination, assigned, updated, evaluated, next, typed_simple, typed_part, typed_statement, typed_statements}
use Rattle.c0_rules.specs.FaultExpressions.{Told, AsValue, AsPlace, SmallTypeCause, Mistyped, InExpression}
use Rattle.c0_rules.specs.FaultStatements.{destination_type, has_place, InValue, InWanted, TakenCause, InDestination, ChangedCause, InEvaluated, InSimple, InPart, ReturnCause, ThirdCause, InStatement, InRow, InBody}
use Rattle.c0_rules.proofs.Rules.{AllSome, all_so, all_go, all_if, some_has}
use Rattle.c0_rules.proofs.Statements.{small_of}
use Rattle.c0_rules_faults.proofs.Refused.{and_none, and_each, and_at, provided_none, provided_false, provided_each, and_void, wanted_none, small_none}
use Rattle.c0_rules_faults.proofs.Expressions.{TakeSmall, type_none, mistyped, call_none, value, place, called_none}
use Rattle.c0_rules_faults.proofs.Specs.{specs_none, annotations_none}

-- ---- locals

-- locals of small types
abbrev pub SmallLocals : List Local → Type 0
SmallLocals [] = Unit {0}
SmallLocals (l ∷ ls) = (is_small l.resolved ≡ true) × SmallLocals ls

pub found_small : (ls : List Local) (x : Name) → SmallLocals ls → AllSome (λ l. is_small l.resolved ≡ true) (local_of ls x)
found_small [] x h = tt
found_small (l ∷ ls) x h = by_name (bytes_eq x l.name) (local_of ls x) h.0 (found_small ls x h.1)
  where
    by_name : (b : Bool) (o : Option Local) → is_small l.resolved ≡ true → AllSome (λ m. is_small m.resolved ≡ true) o → AllSome (λ m. is_small m.resolved ≡ true) (cond b (Some l) o)
    by_name true o h k = h
    by_name false o h k = k

one_more : (ls : List Local) (l : Local) → SmallLocals ls → is_small l.resolved ≡ true → SmallLocals (ls ++ l ∷ [])
one_more [] l h k = (k, tt)
one_more (m ∷ ls) l h k = (h.0, one_more ls l h.1 k)

-- behind a statement, the locals are small still
abbrev Keeps : Option Checked → Type 0
Keeps o = AllSome (λ z. SmallLocals z.scope.locals) o

module _ (env : Environment) where
  declared_small : (x : Name) (r : ResolvedType) (s : Scope) (b : t.Stmt) → is_small r ≡ true → SmallLocals s.locals → Keeps (and_so (declared env x r s) (next b))
  declared_small x r s b h k =
      all_so (λ (z : Scope). SmallLocals z.locals) (λ z. SmallLocals z.scope.locals) (declared env x r s) (next b) (all_if (λ (z : Scope). SmallLocals z.locals) (not (is_taken env s x)) _ (λ q. one_more s.locals _ k h)) (λ z m. m)

  assigned_keeps : (s : Scope) (e : tree.Expression) (q : Destination) → SmallLocals s.locals → Keeps (assigned env s e q)
  assigned_keeps s e (ToLocal l) k = all_go (λ z. SmallLocals z.scope.locals) (expression_as env l.resolved s e) _ (λ x q. k)
  assigned_keeps s e (ToPlace p) k = all_if (λ z. SmallLocals z.scope.locals) (is_small p.resolved) _ (λ b. all_go (λ z. SmallLocals z.scope.locals) (expression_as env p.resolved s e) _ (λ x q. k))

  updated_keeps : (s : Scope) (op : Int32Op) (x : t.Exp) (q : Destination) → SmallLocals s.locals → Keeps (updated env s op x q)
  updated_keeps s op x (ToLocal l) k = all_if (λ z. SmallLocals z.scope.locals) (same_type l.resolved IntType) _ (λ b. k)
  updated_keeps s op x (ToPlace p) k = all_if (λ z. SmallLocals z.scope.locals) (same_type p.resolved IntType) _ (λ b. k)

  simple_keeps : (x : tree.SimpleStatement) (s : Scope) → SmallLocals s.locals → Keeps (typed_simple env x s)
  simple_keeps (tree.Declare ty x) s k = all_go (λ z. SmallLocals z.scope.locals) (small_type env.typedefs ty) _ (λ r q. declared_small x r s t.Skip (small_of env.typedefs ty r q) k)
  simple_keeps (tree.Initialize ty x e) s k =
      all_go (λ z. SmallLocals z.scope.locals) (small_type env.typedefs ty) _ (λ r q. all_go (λ z. SmallLocals z.scope.locals) (expression_as env r s e) _ (λ y w. declared_small x r s _ (small_of env.typedefs ty r q) k))
  simple_keeps (tree.Assign d e) s k = all_go (λ z. SmallLocals z.scope.locals) (destination env s d) _ (λ q w. assigned_keeps s e q k)
  simple_keeps (tree.Update d op e) s k =
      all_go (λ z. SmallLocals z.scope.locals) (destination env s d) _ (λ q w.
      all_go (λ z. SmallLocals z.scope.locals) (change_of (operator_rule op)) _ (λ c v. all_go (λ z. SmallLocals z.scope.locals) (expression_as env IntType s e) _ (λ x y. updated_keeps s c x q k)))
  simple_keeps (tree.Step d way) s k = all_go (λ z. SmallLocals z.scope.locals) (destination env s d) _ (λ q w. updated_keeps s (step_of way) one q k)
  simple_keeps (tree.Evaluate e) s k = all_go (λ z. SmallLocals z.scope.locals) (and_so (typed_expression env (within s) e) (evaluated env e)) _ (λ x q. k)

  pub part_keeps : (x : Option tree.SimpleStatement) (s : Scope) → SmallLocals s.locals → Keeps (typed_part env x s)
  part_keeps None s k = k
  part_keeps (Some x) s k = simple_keeps x s k

  pub statement_keeps : (x : tree.Statement) (s : Scope) → SmallLocals s.locals → Keeps (typed_statement env x s)
  statement_keeps (tree.Simple x) s k = simple_keeps x s k
  statement_keeps (tree.Block rest) s k = all_go (λ z. SmallLocals z.scope.locals) (typed_statements env rest s) _ (λ x q. k)
  statement_keeps (tree.Annotation specs) s k = all_go (λ z. SmallLocals z.scope.locals) (conditions_of_all env Assertion (within s) specs) _ (λ x q. k)
  statement_keeps tree.Return s k = all_if (λ z. SmallLocals z.scope.locals) (same_type s.result VoidType) _ (λ b. k)
  statement_keeps (tree.ReturnValue e) s k =
      all_if (λ z. SmallLocals z.scope.locals) (not (same_type s.result VoidType)) _ (λ b. all_go (λ z. SmallLocals z.scope.locals) (expression_as env s.result s e) _ (λ x q. k))
  statement_keeps (tree.If c x) s k =
      all_go (λ z. SmallLocals z.scope.locals) (expression_as env BoolType s c) _ (λ y q. all_go (λ z. SmallLocals z.scope.locals) (typed_statement env x s) _ (λ w r. k))
  statement_keeps (tree.IfElse c x y) s k =
      all_go (λ z. SmallLocals z.scope.locals) (expression_as env BoolType s c) _ (λ v q. all_go (λ z. SmallLocals z.scope.locals) (typed_statement env x s) _ (λ w r.
      all_go (λ z. SmallLocals z.scope.locals) (typed_statement env y (leave s w.scope)) _ (λ j i. k)))
  statement_keeps (tree.While c notes x) s k =
      all_go (λ z. SmallLocals z.scope.locals) (expression_as env BoolType s c) _ (λ y q.
      all_go (λ z. SmallLocals z.scope.locals) (conditions_of_all env Invariant (within s) (specs_in notes)) _ (λ xs r. all_go (λ z. SmallLocals z.scope.locals) (typed_statement env x (in_body s)) _ (λ w i. k)))
  statement_keeps (tree.For first c third notes x) s k =
      all_go (λ z. SmallLocals z.scope.locals) (typed_part env first s) _ (λ f a.
      all_go (λ z. SmallLocals z.scope.locals) (expression_as env BoolType f.scope c) _ (λ y q.
      all_go (λ z. SmallLocals z.scope.locals) (conditions_of_all env Invariant (within f.scope) (specs_in notes)) _ (λ xs r.
      all_go (λ z. SmallLocals z.scope.locals) (typed_statement env x (in_body f.scope)) _ (λ w i.
      all_if (λ z. SmallLocals z.scope.locals) (not (declares third)) _ (λ b.
      all_go (λ z. SmallLocals z.scope.locals) (typed_part env third (leave f.scope w.scope)) _ (λ v j. k))))))
  statement_keeps (tree.Assert e) s k = all_go (λ z. SmallLocals z.scope.locals) (expression_as env BoolType s e) _ (λ x q. k)
  statement_keeps (tree.Error e) s k = all_go (λ z. SmallLocals z.scope.locals) (expression_as env StringType s e) _ (λ x q. k)
  statement_keeps tree.Break s k = all_if (λ z. SmallLocals z.scope.locals) s.in_loop _ (λ b. k)
  statement_keeps tree.Continue s k = all_if (λ z. SmallLocals z.scope.locals) s.in_loop _ (λ b. k)

-- ---- types

void_apart : (r : ResolvedType) → same_type r VoidType ≡ false → same_type VoidType r ≡ false
void_apart VoidType h = absurd (cc h)
void_apart _ h = refl

not_true : (b : Bool) → not b ≡ true → b ≡ false
not_true true h = absurd (cc h)
not_true false h = refl

-- an expression that is no place of the heap by its form
no_form : (env : Environment) (s : Scope) (x : tree.Expression) → has_place x ≡ false → typed_place env (within s) x ≡ None
no_form env s (tree.Parenthesized x) h = no_form env s x h
no_form env s (tree.Index a i) h = absurd (cc h)
no_form env s (tree.Field a x) h = absurd (cc h)
no_form env s (tree.PointerField a x) h = absurd (cc h)
no_form env s (tree.Unary o.Dereference a) h = absurd (cc h)
no_form env s (tree.Unary o.Not a) h = and_each (typed_expression env (within s) a) _ (λ x q. refl)
no_form env s (tree.Unary o.Complement a) h = and_each (typed_expression env (within s) a) _ (λ x q. refl)
no_form env s (tree.Unary o.Negate a) h = and_each (typed_expression env (within s) a) _ (λ x q. refl)
no_form env s _ h = refl

module _ (env : Environment) (fault : Fault) (small : TakeSmall env) where
  pub small_type_none : (ty : u.ValueType) → SmallTypeCause env.typedefs fault ty → small_type env.typedefs (type_of ty) ≡ None
  small_type_none ty (inl h) = and_none _ _ (type_none env.typedefs fault ty.kind ty.span h)
  small_type_none ty (inr h) = and_at (resolved_type env.typedefs (type_of ty)) h.0 _ h.1 (provided_false _ _ h.2)

  module _ (s : Scope) where
    value_none : (want : ResolvedType) (x : e.Expression) → is_small want ≡ true → InValue env fault s x → expression_as env want s (expression_of x) ≡ None
    value_none want x w h = small_none env want _ w (value env (within s) fault small x.kind x.span h)

    in_wanted : (want : ResolvedType) (x : e.Expression) → is_small want ≡ true → InWanted env fault s want x → expression_as env want s (expression_of x) ≡ None
    in_wanted want x w (inl h) = value_none want x w h
    in_wanted want x w (inr h) = mistyped env (within s) fault small want x.kind x.span h

    taken_none : (x : n.Name) (r : ResolvedType) → TakenCause env fault s x → declared env (name_of x) r s ≡ None
    taken_none x r h = provided_false (not (is_taken env s (name_of x))) _ (ap not h.0)

    variable_none : (x : ExpressionKind) (span : Span) (v : Name) → as_variable (expression_of_kind x) ≡ Some v → InExpression env (within s) fault AsValue x span → local_of s.locals v ≡ None
    variable_none (Variable x) span v q (inl h) = let same : name_of x ≡ v = cc q in subst (λ z. local_of s.locals z ≡ None) same h.0
    variable_none (Variable x) span v q (inr h) = absurd h
    variable_none (Parenthesized' p x here) span v q h = variable_none x here v q h
    variable_none _ span v q h = absurd (cc q)

    by_form : (x : e.Expression) (b : Bool) → has_place (expression_of x) ≡ b
        → (elim b as (λ b. Type 0) [ true ↦ InExpression env (within s) fault (AsPlace x.span) x.kind x.span | false ↦ Told k.NotDestination x.span fault ]) → typed_place env (within s) (expression_of x) ≡ None
    by_form x true q h = place env (within s) fault small x.kind x.span x.span h
    by_form x false q h = no_form env s (expression_of x) q

    by_variable : (x : e.Expression) (v : Option Name) → as_variable (expression_of x) ≡ v
        → (elim v as (λ o. Type 0) [
          | Some w ↦ InValue env fault s x
          | None ↦ elim (has_place (expression_of x)) as (λ b. Type 0) [ true ↦ InExpression env (within s) fault (AsPlace x.span) x.kind x.span | false ↦ Told k.NotDestination x.span fault ]
        ])
        → destination_by env v s (expression_of x) ≡ None
    by_variable x (Some w) q h = and_none _ _ (variable_none x.kind x.span w q h)
    by_variable x None q h = and_none _ _ (by_form x (has_place (expression_of x)) refl h)

    in_destination : (x : e.Expression) → InDestination env fault s x → destination env s (expression_of x) ≡ None
    in_destination x h = by_variable x (as_variable (expression_of x)) refl h

    -- a local that is assigned to is small
    abbrev HoldsSmall : Destination → Type 0
    HoldsSmall (ToLocal l) = is_small l.resolved ≡ true
    HoldsSmall (ToPlace q) = Unit {0}

    holds_small : SmallLocals s.locals → (x : tree.Expression) (q : Destination) → destination env s x ≡ Some q → HoldsSmall q
    holds_small few x q h = some_has HoldsSmall (destination env s x) q (by_name (as_variable x)) h
      where
        by_name : (v : Option Name) → AllSome HoldsSmall (destination_by env v s x)
        by_name (Some v) = all_so (λ l. is_small l.resolved ≡ true) HoldsSmall (local_of s.locals v) _ (found_small s.locals v few) (λ l z. z)
        by_name None = all_go HoldsSmall (typed_place env (within s) x) _ (λ p z. tt)

    assigned_value : (x : e.Expression) (q : Destination) → HoldsSmall q → InValue env fault s x → assigned env s (expression_of x) q ≡ None
    assigned_value x (ToLocal l) w h = and_none _ _ (value_none l.resolved x w h)
    assigned_value x (ToPlace p) w h = provided_each (is_small p.resolved) _ (λ b. and_none _ _ (value_none p.resolved x b h))

    assigned_mistyped : (x : e.Expression) (q : Destination) → Mistyped env (within s) fault (destination_type q) x.kind x.span → assigned env s (expression_of x) q ≡ None
    assigned_mistyped x (ToLocal l) h = and_none _ _ (mistyped env (within s) fault small l.resolved x.kind x.span h)
    assigned_mistyped x (ToPlace p) h = provided_none (is_small p.resolved) _ (and_none _ _ (mistyped env (within s) fault small p.resolved x.kind x.span h))

    assigned_large : (x : e.Expression) (q : Destination) → HoldsSmall q → is_small (destination_type q) ≡ false → assigned env s (expression_of x) q ≡ None
    assigned_large x (ToLocal l) w h = let z : true ≡ false = sym w ∙ h in absurd (cc z)
    assigned_large x (ToPlace p) w h = provided_false (is_small p.resolved) _ h

    updated_none : (op : Int32Op) (x : t.Exp) (q : Destination) → same_type (destination_type q) IntType ≡ false → updated env s op x q ≡ None
    updated_none op x (ToLocal l) h = provided_false _ _ h
    updated_none op x (ToPlace p) h = provided_false _ _ h

    large_apart : (r : ResolvedType) → is_small r ≡ false → same_type r IntType ≡ false
    large_apart IntType h = absurd (cc h)
    large_apart _ h = refl

    changed_none : (op : Int32Op) (v : t.Exp) (x : e.Expression) (h : ChangedCause env fault s x) → updated env s op v h.0 ≡ None
    changed_none op v x h = elim h.2 [ inl k ↦ updated_none op v h.0 (large_apart (destination_type h.0) k.0) | inr k ↦ updated_none op v h.0 k.1 ]

    evaluated_none : (x : ExpressionKind) (span : Span) → InEvaluated env fault s x span → and_so (typed_expression env (within s) (expression_of_kind x)) (evaluated env (expression_of_kind x)) ≡ None
    evaluated_none (Call' x shape es) span (inl h) = and_none _ _ (call_none env (within s) fault small x es span h)
    evaluated_none (Call' x shape es) span (inr h) = and_none _ _ (called_none env (within s) fault small x es h)
    evaluated_none x span h = and_void (typed_expression env (within s) (expression_of_kind x)) (evaluated env (expression_of_kind x)) (value env (within s) fault small x span h) (λ z. refl)

    simple_none : SmallLocals s.locals → (x : SimpleKind) (span : Span) → InSimple env fault s x span → typed_simple env (simple_of_kind x) s ≡ None
    simple_none few (d.Declare ty x) span (inl h) = and_none _ _ (small_type_none ty h)
    simple_none few (d.Declare ty x) span (inr h) = and_each (small_type env.typedefs (type_of ty)) _ (λ r q. and_none _ _ (taken_none x r h))
    simple_none few (d.Initialize ty x v) span (inl h) = and_none _ _ (small_type_none ty h)
    simple_none few (d.Initialize ty x v) span (inr (inl h)) =
        and_each (small_type env.typedefs (type_of ty)) _ (λ r q. and_none _ _ (value_none r v (small_of env.typedefs (type_of ty) r q) h))
    simple_none few (d.Initialize ty x v) span (inr (inr (inl h))) =
        and_at (small_type env.typedefs (type_of ty)) h.0 _ h.1 (and_none _ _ (mistyped env (within s) fault small h.0 v.kind v.span h.2))
    simple_none few (d.Initialize ty x v) span (inr (inr (inr h))) =
        and_each (small_type env.typedefs (type_of ty)) _ (λ r q. and_each (expression_as env r s (expression_of v)) _ (λ y w. and_none _ _ (taken_none x r h)))
    simple_none few (d.Assign x v) span (inl h) = and_none _ _ (in_destination x h)
    simple_none few (d.Assign x v) span (inr (inl h)) =
        and_each (destination env s (expression_of x)) _ (λ q w. assigned_value v q (holds_small few (expression_of x) q w) h)
    simple_none few (d.Assign x v) span (inr (inr h)) =
        and_at (destination env s (expression_of x)) h.0 _ h.1 (elim h.2 [ inl k ↦ assigned_large v h.0 (holds_small few (expression_of x) h.0 h.1) k.0 | inr k ↦ assigned_mistyped v h.0 k ])
    simple_none few (d.Update x op v) span (inl h) = and_none _ _ (in_destination x h)
    simple_none few (d.Update x op v) span (inr (inl h)) =
        and_each (destination env s (expression_of x)) _ (λ q w. and_each (change_of (operator_rule op)) _ (λ c y. and_none _ _ (in_wanted IntType v refl h)))
    simple_none few (d.Update x op v) span (inr (inr (inl h))) =
        and_at (destination env s (expression_of x)) h.0 _ h.1 (and_each (change_of (operator_rule op)) _ (λ c y. and_each (expression_as env IntType s (expression_of v)) _ (λ z w. changed_none c z x h)))
    simple_none few (d.Update x op v) span (inr (inr (inr h))) = and_each (destination env s (expression_of x)) _ (λ q w. and_none _ _ h.0)
    simple_none few (d.Step x way) span (inl h) = and_none _ _ (in_destination x h)
    simple_none few (d.Step x way) span (inr h) = and_at (destination env s (expression_of x)) h.0 _ h.1 (changed_none (step_of way) one x h)
    simple_none few (d.Evaluate x) span h = and_none _ _ (evaluated_none x.kind x.span h)

    part_none : SmallLocals s.locals → (x : Option SimpleStatement) → InPart env fault s x → typed_part env (option_map simple_of x) s ≡ None
    part_none few None h = absurd h
    part_none few (Some x) h = simple_none few x.kind x.span h

    return_none : (x : e.Expression) → ReturnCause env fault s x → typed_statement env (tree.ReturnValue (expression_of x)) s ≡ None
    return_none x (inl h) = provided_false (not (same_type s.result VoidType)) _ (ap not h.0)
    return_none x (inr (q, inl h)) = provided_none (not (same_type s.result VoidType)) _ (and_none _ _ (wanted_none env s.result _ (void_apart s.result q) (value env (within s) fault small x.kind x.span h)))
    return_none x (inr (q, inr h)) = provided_none (not (same_type s.result VoidType)) _ (and_none _ _ (mistyped env (within s) fault small s.result x.kind x.span h))

  -- a third part stands behind the body, where the same locals are in scope
  third_at : (s inner : Scope) (x : Option SimpleStatement) → InPart env fault s x → InPart env fault (leave s inner) x
  third_at s inner None h = h
  third_at s inner (Some x) h = by_kind x.kind x.span h
    where
      same : (v : Option Name) (x : tree.Expression) → destination_by env v (leave s inner) x ≡ destination_by env v s x
      same (Some v) x = refl
      same None x = refl

      by_kind : (k : SimpleKind) (span : Span) → InSimple env fault s k span → InSimple env fault (leave s inner) k span
      by_kind (d.Declare ty x) span h = h
      by_kind (d.Initialize ty x v) span h = h
      by_kind (d.Assign x v) span (inl h) = inl h
      by_kind (d.Assign x v) span (inr (inl h)) = inr (inl h)
      by_kind (d.Assign x v) span (inr (inr h)) = inr (inr (h.0, same (as_variable (expression_of x)) (expression_of x) ∙ h.1, h.2))
      by_kind (d.Update x op v) span (inl h) = inl h
      by_kind (d.Update x op v) span (inr (inl h)) = inr (inl h)
      by_kind (d.Update x op v) span (inr (inr (inl h))) = inr (inr (inl (h.0, same (as_variable (expression_of x)) (expression_of x) ∙ h.1, h.2)))
      by_kind (d.Update x op v) span (inr (inr (inr h))) = inr (inr (inr h))
      by_kind (d.Step x way) span (inl h) = inl h
      by_kind (d.Step x way) span (inr h) = inr (h.0, same (as_variable (expression_of x)) (expression_of x) ∙ h.1, h.2)
      by_kind (d.Evaluate x) span h = evaluate x.kind x.span h
        where
          evaluate : (e : ExpressionKind) (span : Span) → InEvaluated env fault s e span → InEvaluated env fault (leave s inner) e span
          evaluate (Call' f shape es) span h = h
          evaluate e span h = h

  third_declares : (x : Option SimpleStatement) → ThirdCause env fault x → not (declares (option_map simple_of x)) ≡ false
  third_declares None h = absurd h
  third_declares (Some x) h = ap not h.0

  mutual
    pub statement_none : (s : Scope) → SmallLocals s.locals → (x : StatementKind) (span : Span) → InStatement env fault s x span → typed_statement env (statement_of_kind x) s ≡ None
    statement_none s few (Simple x) span h = simple_none s few x.kind x.span h
    statement_none s few (Block' shape rest) span h = and_none _ _ (row_none s few rest h)
    statement_none s few (Annotated x) span h = and_none _ _ (specs_none env fault small Assertion (within s) x.specs.items h)
    statement_none s few Return span h = provided_false _ _ h.0
    statement_none s few (ReturnValue x) span h = return_none s x h
    statement_none s few (If' c p x here) span (inl h) = and_none _ _ (in_wanted s BoolType c refl h)
    statement_none s few (If' c p x here) span (inr h) = and_each (expression_as env BoolType s (expression_of c)) _ (λ z q. and_none _ _ (statement_none s few x here h))
    statement_none s few (IfElse' c p x here q y there) span (inl h) = and_none _ _ (in_wanted s BoolType c refl h)
    statement_none s few (IfElse' c p x here q y there) span (inr (inl h)) = and_each (expression_as env BoolType s (expression_of c)) _ (λ z w. and_none _ _ (statement_none s few x here h))
    statement_none s few (IfElse' c p x here q y there) span (inr (inr h)) =
        and_each (expression_as env BoolType s (expression_of c)) _ (λ z w. and_at (typed_statement env (statement_of_kind x) s) h.0 _ h.1 (and_none _ _ (statement_none (leave s h.0.scope) few y there h.2)))
    statement_none s few (While' c notes p x here) span (inl h) = and_none _ _ (in_wanted s BoolType c refl h)
    statement_none s few (While' c notes p x here) span (inr (inl h)) =
        and_each (expression_as env BoolType s (expression_of c)) _ (λ z w. and_none _ _ (annotations_none env fault small Invariant (within s) notes.items h))
    statement_none s few (While' c notes p x here) span (inr (inr h)) =
        and_each (expression_as env BoolType s (expression_of c)) _ (λ z w.
        and_each (conditions_of_all env Invariant (within s) (specs_in (map annotation_of notes.items))) _ (λ xs q. and_none _ _ (statement_none (in_body s) few x here h)))
    statement_none s few (For' first c third notes p x here) span (inl h) = and_none _ _ (part_none s few first h)
    statement_none s few (For' first c third notes p x here) span (inr (inl h)) =
        and_each (typed_part env (option_map simple_of first) s) _ (λ f a.
        and_each (expression_as env BoolType f.scope (expression_of c)) _ (λ z w.
        and_each (conditions_of_all env Invariant (within f.scope) (specs_in (map annotation_of notes.items))) _ (λ xs q.
        and_each (typed_statement env (statement_of_kind x) (in_body f.scope)) _ (λ y r. provided_false (not (declares (option_map simple_of third))) _ (third_declares third h)))))
    statement_none s few (For' first c third notes p x here) span (inr (inr h)) =
        let f = h.0 in
        let inside : SmallLocals f.scope.locals = some_has (λ z. SmallLocals z.scope.locals) (typed_part env (option_map simple_of first) s) f (part_keeps env (option_map simple_of first) s few) h.1 in
        and_at (typed_part env (option_map simple_of first) s) f _ h.1 (elim h.2 [
          | inl k ↦ and_none _ _ (in_wanted f.scope BoolType c refl k)
          | inr (inl k) ↦
              and_each (expression_as env BoolType f.scope (expression_of c)) _ (λ z w.
              and_each (conditions_of_all env Invariant (within f.scope) (specs_in (map annotation_of notes.items))) _ (λ xs q.
              and_each (typed_statement env (statement_of_kind x) (in_body f.scope)) _ (λ y r.
              provided_none (not (declares (option_map simple_of third))) _ (and_none _ _ (part_none (leave f.scope y.scope) inside third (third_at f.scope y.scope third k))))))
          | inr (inr (inl k)) ↦
              and_each (expression_as env BoolType f.scope (expression_of c)) _ (λ z w. and_none _ _ (annotations_none env fault small Invariant (within f.scope) notes.items k))
          | inr (inr (inr k)) ↦
              and_each (expression_as env BoolType f.scope (expression_of c)) _ (λ z w.
              and_each (conditions_of_all env Invariant (within f.scope) (specs_in (map annotation_of notes.items))) _ (λ xs q. and_none _ _ (statement_none (in_body f.scope) inside x here k)))
        ])
    statement_none s few (Assert x) span h = and_none _ _ (in_wanted s BoolType x refl h)
    statement_none s few (Error x) span h = and_none _ _ (in_wanted s StringType x refl h)
    statement_none s few Break span h = provided_false _ _ h.0
    statement_none s few Continue span h = provided_false _ _ h.0

    row_none : {m : _} (s : Scope) → SmallLocals s.locals → (xs : Row_of-Statement m) → InRow env fault s xs → typed_statements env (statement_row xs) s ≡ None
    row_none s few end_of-Statement h = absurd h
    row_none s few (more_of-Statement x here rest) (inl h) = and_none _ _ (statement_none s few x here h)
    row_none s few (more_of-Statement x here rest) (inr h) =
        let inside = some_has (λ z. SmallLocals z.scope.locals) (typed_statement env (statement_of_kind x) s) h.0 (statement_keeps env (statement_of_kind x) s few) h.1 in
        and_at (typed_statement env (statement_of_kind x) s) h.0 _ h.1 (and_none _ _ (row_none h.0.scope inside rest h.2))

  pub body_none : (s : Scope) → SmallLocals s.locals → (xs : List a.Statement) → InBody env fault s xs → typed_statements env (statements_of xs) s ≡ None
  body_none s few [] h = absurd h
  body_none s few (x ∷ rest) (inl h) = and_none _ _ (statement_none s few x.kind x.span h)
  body_none s few (x ∷ rest) (inr h) =
      let inside = some_has (λ z. SmallLocals z.scope.locals) (typed_statement env (statement_of x) s) h.0 (statement_keeps env (statement_of x) s few) h.1 in
      and_at (typed_statement env (statement_of x) s) h.0 _ h.1 (and_none _ _ (body_none h.0.scope inside rest h.2))
