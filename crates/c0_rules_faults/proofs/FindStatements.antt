-- The kind of a fault in a statement, and its cause.
use Rattle.std.proofs.Common.{◌≡◌, inl, inr, List, [], ◌∷◌, map, refl, subst, Bool, true, false, Option, Some, None}
use Rattle.std.specs.Prelude.{◌&&◌, not, option_map}
use Rattle.c0_source.specs.declared.fault.FaultKind.{FaultKind}
use Rattle.c0_source.specs.declared.fault.FaultKind.TheVariants as k
use Rattle.c0_source.specs.declared.fault.Span.{Span}
use Rattle.c0_syntax.specs.declared.name.Name as n
use Rattle.c0_syntax.specs.declared.expression.Expression as e
use Rattle.c0_syntax.specs.declared.expression.ExpressionKind.{ExpressionKind, Call'}
use Rattle.c0_syntax.specs.declared.statement.Spec as p
use Rattle.c0_syntax.specs.declared.statement.SpecKind.{SpecKind}
use Rattle.c0_syntax.specs.declared.statement.SpecKind.TheVariants as y
use Rattle.c0_syntax.specs.declared.statement.Annotation.{Annotation}
use Rattle.c0_syntax.specs.declared.statement.SimpleStatement.{SimpleStatement}
use Rattle.c0_syntax.specs.declared.statement.SimpleKind.{SimpleKind}
use Rattle.c0_syntax.specs.declared.statement.SimpleKind.TheVariants as d
use Rattle.c0_syntax.specs.declared.statement.Statement as a
use Rattle.c0_syntax.specs.declared.statement.StatementKind.{StatementKind, Row_of-Statement, end_of-Statement, more_of-Statement, Simple, Block', Annotated, Return, ReturnValue, If', IfElse', While', For', Assert, Error, Break, Continue}
use Rattle.c0_syntax.specs.Trees as s
use Rattle.c0_syntax.specs.Views.{name_of, type_of, expression_of, expression_of_kind, row_of, spec_by, spec_of, annotation_of, simple_of, simple_of_kind, statement_of, statement_of_kind, statement_row, statements_of}
use Rattle.c0_rules.specs.Types.{and_so, provided, Name, ResolvedType, VoidType, IntType, BoolType, StringType, same_type, small_type, is_small, Environment}
use Rattle.c0_rules.specs.Mentions.{as_variable, condition_of}
use Rattle.c0_rules.specs.Expressions.{operator_rule, Context}
use Rattle.c0_rules.specs.Statements.{Role, Invariant, Assertion, role_of, same_role, Scope, Checked, in_body, leave, within, Destination, change_of, declares, is_taken, destination, typed_part, typed_statement}
use Rattle.c0_rules.specs.FaultExpressions.{Told, AsValue, AsPlace, Mistyped, InExpression}
use Rattle.c0_rules.specs.FaultStatements.{destination_type, has_place, InCondition, InSpecs, InAnnotations, InValue, InWanted, TakenCause, InDestination, AssignedCause, ChangedCause, InEvaluated, InSimple, InPart, ReturnCause, ThirdCause, InStatement, InRow, InBody}
use Rattle.c0_rules_faults.proofs.Find.{At, here, when, or_else, either, found_kind, when_is, with_some, where_so, both, not_is, is_none, none_is}
use Rattle.c0_rules_faults.proofs.FindExpressions.{not_small, small_type_fault, small_type_found, mistyped, mistyped_found, call_fault, call_found, expression_fault, expression_found, arguments_fault, arguments_found}

pub condition_is : (kind : SpecKind) (e : s.Expression) → condition_of (spec_by kind e) ≡ e
condition_is (y.Contract c) e = refl
condition_is y.Assert e = refl

module _ (env : Environment) where
  -- ---- specs

  abbrev pub condition_fault : Context → s.Expression → Option FaultKind
  condition_fault at c = or_else (expression_fault env at false c) (mistyped env at BoolType c)

  abbrev specs_fault : Role → Context → List s.Spec → Option FaultKind
  specs_fault role at [] = None
  specs_fault role at (x ∷ rest) = or_else (when (not (same_role role (role_of x))) k.BadContract) (or_else (condition_fault at (condition_of x)) (specs_fault role at rest))

  abbrev notes_fault : Role → Context → List (List s.Spec) → Option FaultKind
  notes_fault role at [] = None
  notes_fault role at (x ∷ rest) = or_else (specs_fault role at x) (notes_fault role at rest)

  pub condition_found : (at : Context) (c : e.Expression) (kind : FaultKind) → condition_fault at (expression_of c) ≡ Some kind → At kind (λ f. InCondition env f at c)
  condition_found at c kind h = elim (either (expression_fault env at false (expression_of c)) (mistyped env at BoolType (expression_of c)) kind h) [
    | inl q ↦ (let w = expression_found env at AsValue c.kind c.span kind q in (w.0, inl w.1))
    | inr q ↦ (let w = mistyped_found env at BoolType c.kind c.span kind q in (w.0, inr w.1))
  ]

  specs_found : (role : Role) (at : Context) (specs : List p.Spec) (kind : FaultKind) → specs_fault role at (map spec_of specs) ≡ Some kind → At kind (λ f. InSpecs env f role at specs)
  specs_found role at [] kind h = absurd (cc h)
  specs_found role at (x ∷ rest) kind h = elim (either (when (not (same_role role (role_of (spec_of x)))) k.BadContract) _ kind h) [
    | inl q ↦ (let v = when_is (not (same_role role (role_of (spec_of x)))) k.BadContract kind q in (x.word, inl (not_is (same_role role (role_of (spec_of x))) v.0, here k.BadContract kind x.word v.1)))
    | inr q ↦ elim (either (condition_fault at (condition_of (spec_of x))) (specs_fault role at (map spec_of rest)) kind q) [
      | inl z ↦ (let w = condition_found at x.condition kind (subst (λ (c : s.Expression). condition_fault at c ≡ Some kind) (condition_is x.kind (expression_of x.condition)) z) in (w.0, inr (inl w.1)))
      | inr z ↦ (let w = specs_found role at rest kind z in (w.0, inr (inr w.1)))
    ]
  ]

  notes_found : (role : Role) (at : Context) (notes : List Annotation) (kind : FaultKind) → notes_fault role at (map annotation_of notes) ≡ Some kind → At kind (λ f. InAnnotations env f role at notes)
  notes_found role at [] kind h = absurd (cc h)
  notes_found role at (x ∷ rest) kind h = elim (either (specs_fault role at (annotation_of x)) (notes_fault role at (map annotation_of rest)) kind h) [
    | inl q ↦ (let w = specs_found role at x.specs.items kind q in (w.0, inl w.1))
    | inr q ↦ (let w = notes_found role at rest kind q in (w.0, inr w.1))
  ]

  module _ (scope : Scope) where
    -- ---- simple statements

    abbrev value_fault : s.Expression → Option FaultKind
    value_fault x = expression_fault env (within scope) false x

    abbrev wrong : ResolvedType → s.Expression → Option FaultKind
    wrong want x = mistyped env (within scope) want x

    abbrev wanted_fault : ResolvedType → s.Expression → Option FaultKind
    wanted_fault want x = or_else (value_fault x) (wrong want x)

    abbrev taken_fault : Name → Option FaultKind
    taken_fault x = when (is_taken env scope x) k.DuplicateName

    abbrev place_by : Bool → s.Expression → Option FaultKind
    place_by true x = expression_fault env (within scope) true x
    place_by false x = Some k.NotDestination

    abbrev destination_by : Option Name → s.Expression → Option FaultKind
    destination_by (Some v) x = value_fault x
    destination_by None x = place_by (has_place x) x

    abbrev destination_fault : s.Expression → Option FaultKind
    destination_fault x = destination_by (as_variable x) x

    abbrev assigned_by : s.Expression → Destination → Option FaultKind
    assigned_by value q = or_else (not_small (destination_type q)) (wrong (destination_type q) value)

    abbrev assigned_fault : s.Expression → s.Expression → Option FaultKind
    assigned_fault x value = and_so (destination env scope x) (assigned_by value)

    abbrev changed_by : Destination → Option FaultKind
    changed_by q = or_else (not_small (destination_type q)) (when (is_small (destination_type q) && not (same_type (destination_type q) IntType)) k.TypeMismatch)

    abbrev changed_fault : s.Expression → Option FaultKind
    changed_fault x = and_so (destination env scope x) changed_by

    abbrev evaluated_fault : s.Expression → Option FaultKind
    evaluated_fault (s.Call x es) = or_else (call_fault env (within scope) x es) (arguments_fault env (within scope) es)
    evaluated_fault x = value_fault x

    abbrev initial_by : s.Expression → ResolvedType → Option FaultKind
    initial_by value r = wrong r value

    abbrev simple_fault : s.SimpleStatement → Option FaultKind
    simple_fault (s.Declare ty x) = or_else (small_type_fault env.typedefs ty) (taken_fault x)
    simple_fault (s.Initialize ty x value) = or_else (small_type_fault env.typedefs ty) (or_else (value_fault value) (or_else (and_so (small_type env.typedefs ty) (initial_by value)) (taken_fault x)))
    simple_fault (s.Assign x value) = or_else (destination_fault x) (or_else (value_fault value) (assigned_fault x value))
    simple_fault (s.Update x op value) = or_else (destination_fault x) (or_else (wanted_fault IntType value) (or_else (changed_fault x) (when (is_none (change_of (operator_rule op))) k.Syntax)))
    simple_fault (s.Step x way) = or_else (destination_fault x) (changed_fault x)
    simple_fault (s.Evaluate x) = evaluated_fault x

    abbrev part_fault : Option s.SimpleStatement → Option FaultKind
    part_fault None = None
    part_fault (Some x) = simple_fault x

    abbrev return_fault : s.Expression → Option FaultKind
    return_fault x = or_else (when (same_type scope.result VoidType) k.TypeMismatch) (provided (not (same_type scope.result VoidType)) (wanted_fault scope.result x))

    -- ---- their causes

    value_found : (x : e.Expression) (kind : FaultKind) → value_fault (expression_of x) ≡ Some kind → At kind (λ f. InValue env f scope x)
    value_found x kind h = expression_found env (within scope) AsValue x.kind x.span kind h

    wrong_found : (want : ResolvedType) (x : e.Expression) (kind : FaultKind) → wrong want (expression_of x) ≡ Some kind → At kind (λ f. Mistyped env (within scope) f want x.kind x.span)
    wrong_found want x kind h = mistyped_found env (within scope) want x.kind x.span kind h

    wanted_found : (want : ResolvedType) (x : e.Expression) (kind : FaultKind) → wanted_fault want (expression_of x) ≡ Some kind → At kind (λ f. InWanted env f scope want x)
    wanted_found want x kind h = elim (either (value_fault (expression_of x)) (wrong want (expression_of x)) kind h) [
      | inl q ↦ (let w = value_found x kind q in (w.0, inl w.1))
      | inr q ↦ (let w = wrong_found want x kind q in (w.0, inr w.1))
    ]

    taken_found : (x : n.Name) (kind : FaultKind) → taken_fault (name_of x) ≡ Some kind → At kind (λ f. TakenCause env f scope x)
    taken_found x kind h = let v = when_is (is_taken env scope (name_of x)) k.DuplicateName kind h in (x.span, (v.0, here k.DuplicateName kind x.span v.1))

    -- ... by whether it is a place, and by whether it is a variable
    place_found_by : (b : Bool) (x : e.Expression) (kind : FaultKind) → place_by b (expression_of x) ≡ Some kind
        → At kind (λ f. elim b as (λ b. Type 0) [ true ↦ InExpression env (within scope) f (AsPlace x.span) x.kind x.span | false ↦ Told k.NotDestination x.span f ])
    place_found_by true x kind h = expression_found env (within scope) (AsPlace x.span) x.kind x.span kind h
    place_found_by false x kind h = (x.span, here k.NotDestination kind x.span (found_kind k.NotDestination kind h))

    destination_found_by : (o : Option Name) (x : e.Expression) (kind : FaultKind) → destination_by o (expression_of x) ≡ Some kind
        → At kind (λ f. elim o as (λ o. Type 0) [
          | Some v ↦ InValue env f scope x
          | None ↦ elim (has_place (expression_of x)) as (λ b. Type 0) [ true ↦ InExpression env (within scope) f (AsPlace x.span) x.kind x.span | false ↦ Told k.NotDestination x.span f ]
        ])
    destination_found_by (Some v) x kind h = value_found x kind h
    destination_found_by None x kind h = place_found_by (has_place (expression_of x)) x kind h

    destination_found : (x : e.Expression) (kind : FaultKind) → destination_fault (expression_of x) ≡ Some kind → At kind (λ f. InDestination env f scope x)
    destination_found x kind h = destination_found_by (as_variable (expression_of x)) x kind h

    assigned_found : (x value : e.Expression) (kind : FaultKind) → assigned_fault (expression_of x) (expression_of value) ≡ Some kind → At kind (λ f. AssignedCause env f scope x value)
    assigned_found x value kind h =
        let w = with_some (destination env scope (expression_of x)) (assigned_by (expression_of value)) kind h in
        elim (either (not_small (destination_type w.0)) (wrong (destination_type w.0) (expression_of value)) kind w.2) [
          | inl q ↦ (let v = when_is (not (is_small (destination_type w.0))) k.NotSmall kind q in (x.span, (w.0, w.1, inl (not_is (is_small (destination_type w.0)) v.0, here k.NotSmall kind x.span v.1))))
          | inr q ↦ (let v = wrong_found (destination_type w.0) value kind q in (v.0, (w.0, w.1, inr v.1)))
        ]

    changed_found : (x : e.Expression) (kind : FaultKind) → changed_fault (expression_of x) ≡ Some kind → At kind (λ f. ChangedCause env f scope x)
    changed_found x kind h =
        let w = with_some (destination env scope (expression_of x)) changed_by kind h in
        elim (either (not_small (destination_type w.0)) _ kind w.2) [
          | inl q ↦ (let v = when_is (not (is_small (destination_type w.0))) k.NotSmall kind q in (x.span, (w.0, w.1, inl (not_is (is_small (destination_type w.0)) v.0, here k.NotSmall kind x.span v.1))))
          | inr q ↦
              (let v = when_is (is_small (destination_type w.0) && not (same_type (destination_type w.0) IntType)) k.TypeMismatch kind q in
              let z = both (is_small (destination_type w.0)) (not (same_type (destination_type w.0) IntType)) v.0 in
              (x.span, (w.0, w.1, inr (z.0, not_is (same_type (destination_type w.0) IntType) z.1, here k.TypeMismatch kind x.span v.1))))
        ]

    evaluated_found : (x : ExpressionKind) (span : Span) (kind : FaultKind) → evaluated_fault (expression_of_kind x) ≡ Some kind → At kind (λ f. InEvaluated env f scope x span)
    evaluated_found (Call' x shape es) span kind h = elim (either (call_fault env (within scope) (name_of x) (row_of es)) (arguments_fault env (within scope) (row_of es)) kind h) [
      | inl q ↦ (let w = call_found env (within scope) x es span kind q in (w.0, inl w.1))
      | inr q ↦ (let w = arguments_found env (within scope) es kind q in (w.0, inr w.1))
    ]
    evaluated_found x span kind h = expression_found env (within scope) AsValue x span kind h

    simple_found : (x : SimpleKind) (span : Span) (kind : FaultKind) → simple_fault (simple_of_kind x) ≡ Some kind → At kind (λ f. InSimple env f scope x span)
    simple_found (d.Declare ty x) span kind h = elim (either (small_type_fault env.typedefs (type_of ty)) (taken_fault (name_of x)) kind h) [
      | inl q ↦ (let w = small_type_found env.typedefs ty kind q in (w.0, inl w.1))
      | inr q ↦ (let w = taken_found x kind q in (w.0, inr w.1))
    ]
    simple_found (d.Initialize ty x value) span kind h = elim (either (small_type_fault env.typedefs (type_of ty)) _ kind h) [
      | inl q ↦ (let w = small_type_found env.typedefs ty kind q in (w.0, inl w.1))
      | inr q ↦ elim (either (value_fault (expression_of value)) _ kind q) [
        | inl z ↦ (let w = value_found value kind z in (w.0, inr (inl w.1)))
        | inr z ↦ elim (either (and_so (small_type env.typedefs (type_of ty)) (initial_by (expression_of value))) (taken_fault (name_of x)) kind z) [
          | inl m ↦
              (let r = with_some (small_type env.typedefs (type_of ty)) (initial_by (expression_of value)) kind m in
              let w = wrong_found r.0 value kind r.2 in
              (w.0, inr (inr (inl (r.0, r.1, w.1)))))
          | inr m ↦ (let w = taken_found x kind m in (w.0, inr (inr (inr w.1))))
        ]
      ]
    ]
    simple_found (d.Assign x value) span kind h = elim (either (destination_fault (expression_of x)) _ kind h) [
      | inl q ↦ (let w = destination_found x kind q in (w.0, inl w.1))
      | inr q ↦ elim (either (value_fault (expression_of value)) (assigned_fault (expression_of x) (expression_of value)) kind q) [
        | inl z ↦ (let w = value_found value kind z in (w.0, inr (inl w.1)))
        | inr z ↦ (let w = assigned_found x value kind z in (w.0, inr (inr w.1)))
      ]
    ]
    simple_found (d.Update x op value) span kind h = elim (either (destination_fault (expression_of x)) _ kind h) [
      | inl q ↦ (let w = destination_found x kind q in (w.0, inl w.1))
      | inr q ↦ elim (either (wanted_fault IntType (expression_of value)) _ kind q) [
        | inl z ↦ (let w = wanted_found IntType value kind z in (w.0, inr (inl w.1)))
        | inr z ↦ elim (either (changed_fault (expression_of x)) (when (is_none (change_of (operator_rule op))) k.Syntax) kind z) [
          | inl m ↦ (let w = changed_found x kind m in (w.0, inr (inr (inl w.1))))
          | inr m ↦ (let v = when_is (is_none (change_of (operator_rule op))) k.Syntax kind m in (span, inr (inr (inr (none_is (change_of (operator_rule op)) v.0, here k.Syntax kind span v.1)))))
        ]
      ]
    ]
    simple_found (d.Step x way) span kind h = elim (either (destination_fault (expression_of x)) (changed_fault (expression_of x)) kind h) [
      | inl q ↦ (let w = destination_found x kind q in (w.0, inl w.1))
      | inr q ↦ (let w = changed_found x kind q in (w.0, inr w.1))
    ]
    simple_found (d.Evaluate x) span kind h = evaluated_found x.kind x.span kind h

    part_found : (o : Option SimpleStatement) (kind : FaultKind) → part_fault (option_map simple_of o) ≡ Some kind → At kind (λ f. InPart env f scope o)
    part_found None kind h = absurd (cc h)
    part_found (Some x) kind h = simple_found x.kind x.span kind h

    return_found : (x : e.Expression) (kind : FaultKind) → return_fault (expression_of x) ≡ Some kind → At kind (λ f. ReturnCause env f scope x)
    return_found x kind h = elim (either (when (same_type scope.result VoidType) k.TypeMismatch) (provided (not (same_type scope.result VoidType)) (wanted_fault scope.result (expression_of x))) kind h) [
      | inl q ↦ (let v = when_is (same_type scope.result VoidType) k.TypeMismatch kind q in (x.span, inl (v.0, here k.TypeMismatch kind x.span v.1)))
      | inr q ↦
          (let w = where_so (not (same_type scope.result VoidType)) (wanted_fault scope.result (expression_of x)) kind q in
          let v = wanted_found scope.result x kind w.1 in
          (v.0, inr (not_is (same_type scope.result VoidType) w.0, v.1)))
    ]

  abbrev third_fault : Option s.SimpleStatement → Option FaultKind
  third_fault None = None
  third_fault (Some x) = when (declares (Some x)) k.StepDeclares

  third_found : (o : Option SimpleStatement) (kind : FaultKind) → third_fault (option_map simple_of o) ≡ Some kind → At kind (λ f. ThirdCause env f o)
  third_found None kind h = absurd (cc h)
  third_found (Some x) kind h = let v = when_is (declares (Some (simple_of x))) k.StepDeclares kind h in (x.span, (v.0, here k.StepDeclares kind x.span v.1))

  -- ---- statements

  abbrev mutual
    statement_fault : Scope → s.Statement → Option FaultKind
    statement_fault scope (s.Simple x) = simple_fault scope x
    statement_fault scope (s.Block rest) = statements_fault scope rest
    statement_fault scope (s.Annotation x) = specs_fault Assertion (within scope) x
    statement_fault scope s.Return = when (not (same_type scope.result VoidType)) k.TypeMismatch
    statement_fault scope (s.ReturnValue x) = return_fault scope x
    statement_fault scope (s.If c x) = or_else (wanted_fault scope BoolType c) (statement_fault scope x)
    statement_fault scope (s.IfElse c x z) = or_else (wanted_fault scope BoolType c) (or_else (statement_fault scope x) (and_so (typed_statement env x scope) (λ w. statement_fault (leave scope w.scope) z)))
    statement_fault scope (s.While c notes x) = or_else (wanted_fault scope BoolType c) (or_else (notes_fault Invariant (within scope) notes) (statement_fault (in_body scope) x))
    statement_fault scope (s.For first c third notes x) =
        or_else (part_fault scope first) (or_else (third_fault third) (and_so (typed_part env first scope) (λ w.
        or_else (wanted_fault w.scope BoolType c) (or_else (part_fault w.scope third) (or_else (notes_fault Invariant (within w.scope) notes) (statement_fault (in_body w.scope) x))))))
    statement_fault scope (s.Assert x) = wanted_fault scope BoolType x
    statement_fault scope (s.Error x) = wanted_fault scope StringType x
    statement_fault scope s.Break = when (not scope.in_loop) k.NotInLoop
    statement_fault scope s.Continue = when (not scope.in_loop) k.NotInLoop

    pub statements_fault : Scope → s.Statements → Option FaultKind
    statements_fault scope s.nothing = None
    statements_fault scope (s.also x rest) = or_else (statement_fault scope x) (and_so (typed_statement env x scope) (λ w. statements_fault w.scope rest))

  mutual
    statement_found : (scope : Scope) (x : StatementKind) (span : Span) (kind : FaultKind) → statement_fault scope (statement_of_kind x) ≡ Some kind → At kind (λ f. InStatement env f scope x span)
    statement_found scope (Simple x) span kind h = simple_found scope x.kind x.span kind h
    statement_found scope (Block' shape rest) span kind h = row_found scope rest kind h
    statement_found scope (Annotated x) span kind h = specs_found Assertion (within scope) x.specs.items kind h
    statement_found scope Return span kind h = let v = when_is (not (same_type scope.result VoidType)) k.TypeMismatch kind h in (span, (not_is (same_type scope.result VoidType) v.0, here k.TypeMismatch kind span v.1))
    statement_found scope (ReturnValue x) span kind h = return_found scope x kind h
    statement_found scope (If' c p x this) span kind h = elim (either (wanted_fault scope BoolType (expression_of c)) (statement_fault scope (statement_of_kind x)) kind h) [
      | inl q ↦ (let w = wanted_found scope BoolType c kind q in (w.0, inl w.1))
      | inr q ↦ (let w = statement_found scope x this kind q in (w.0, inr w.1))
    ]
    statement_found scope (IfElse' c p x this q z there) span kind h = elim (either (wanted_fault scope BoolType (expression_of c)) _ kind h) [
      | inl m ↦ (let w = wanted_found scope BoolType c kind m in (w.0, inl w.1))
      | inr m ↦ elim (either (statement_fault scope (statement_of_kind x)) _ kind m) [
        | inl r ↦ (let w = statement_found scope x this kind r in (w.0, inr (inl w.1)))
        | inr r ↦
            (let v = with_some (typed_statement env (statement_of_kind x) scope) (λ w. statement_fault (leave scope w.scope) (statement_of_kind z)) kind r in
            let w = statement_found (leave scope v.0.scope) z there kind v.2 in
            (w.0, inr (inr (v.0, v.1, w.1))))
      ]
    ]
    statement_found scope (While' c notes p x this) span kind h = elim (either (wanted_fault scope BoolType (expression_of c)) _ kind h) [
      | inl m ↦ (let w = wanted_found scope BoolType c kind m in (w.0, inl w.1))
      | inr m ↦ elim (either (notes_fault Invariant (within scope) (map annotation_of notes.items)) (statement_fault (in_body scope) (statement_of_kind x)) kind m) [
        | inl r ↦ (let w = notes_found Invariant (within scope) notes.items kind r in (w.0, inr (inl w.1)))
        | inr r ↦ (let w = statement_found (in_body scope) x this kind r in (w.0, inr (inr w.1)))
      ]
    ]
    statement_found scope (For' first c third notes p x this) span kind h = elim (either (part_fault scope (option_map simple_of first)) _ kind h) [
      | inl m ↦ (let w = part_found scope first kind m in (w.0, inl w.1))
      | inr m ↦ elim (either (third_fault (option_map simple_of third)) _ kind m) [
        | inl r ↦ (let w = third_found third kind r in (w.0, inr (inl w.1)))
        | inr r ↦
            (let inside : Checked → Option FaultKind = λ w. or_else (wanted_fault w.scope BoolType (expression_of c)) (or_else (part_fault w.scope (option_map simple_of third)) (or_else (notes_fault Invariant (within w.scope) (map annotation_of notes.items)) (statement_fault (in_body w.scope) (statement_of_kind x)))) in
            let v = with_some (typed_part env (option_map simple_of first) scope) inside kind r in
            elim (either (wanted_fault v.0.scope BoolType (expression_of c)) _ kind v.2) [
              | inl z ↦ (let w = wanted_found v.0.scope BoolType c kind z in (w.0, inr (inr (v.0, v.1, inl w.1))))
              | inr z ↦ elim (either (part_fault v.0.scope (option_map simple_of third)) _ kind z) [
                | inl g ↦ (let w = part_found v.0.scope third kind g in (w.0, inr (inr (v.0, v.1, inr (inl w.1)))))
                | inr g ↦ elim (either (notes_fault Invariant (within v.0.scope) (map annotation_of notes.items)) (statement_fault (in_body v.0.scope) (statement_of_kind x)) kind g) [
                  | inl b ↦ (let w = notes_found Invariant (within v.0.scope) notes.items kind b in (w.0, inr (inr (v.0, v.1, inr (inr (inl w.1))))))
                  | inr b ↦ (let w = statement_found (in_body v.0.scope) x this kind b in (w.0, inr (inr (v.0, v.1, inr (inr (inr w.1))))))
                ]
              ]
            ])
      ]
    ]
    statement_found scope (Assert x) span kind h = wanted_found scope BoolType x kind h
    statement_found scope (Error x) span kind h = wanted_found scope StringType x kind h
    statement_found scope Break span kind h = let v = when_is (not scope.in_loop) k.NotInLoop kind h in (span, (not_is scope.in_loop v.0, here k.NotInLoop kind span v.1))
    statement_found scope Continue span kind h = let v = when_is (not scope.in_loop) k.NotInLoop kind h in (span, (not_is scope.in_loop v.0, here k.NotInLoop kind span v.1))

    row_found : {m : _} (scope : Scope) (rest : Row_of-Statement m) (kind : FaultKind) → statements_fault scope (statement_row rest) ≡ Some kind → At kind (λ f. InRow env f scope rest)
    row_found scope end_of-Statement kind h = absurd (cc h)
    row_found scope (more_of-Statement x this rest) kind h = elim (either (statement_fault scope (statement_of_kind x)) _ kind h) [
      | inl q ↦ (let w = statement_found scope x this kind q in (w.0, inl w.1))
      | inr q ↦
          (let v = with_some (typed_statement env (statement_of_kind x) scope) (λ w. statements_fault w.scope (statement_row rest)) kind q in
          let w = row_found v.0.scope rest kind v.2 in
          (w.0, inr (v.0, v.1, w.1)))
    ]

  pub body_found : (scope : Scope) (body : List a.Statement) (kind : FaultKind) → statements_fault scope (statements_of body) ≡ Some kind → At kind (λ f. InBody env f scope body)
  body_found scope [] kind h = absurd (cc h)
  body_found scope (x ∷ rest) kind h = elim (either (statement_fault scope (statement_of x)) _ kind h) [
    | inl q ↦ (let w = statement_found scope x.kind x.span kind q in (w.0, inl w.1))
    | inr q ↦
        (let v = with_some (typed_statement env (statement_of x) scope) (λ w. statements_fault w.scope (statements_of rest)) kind q in
        let w = body_found v.0.scope rest kind v.2 in
        (w.0, inr (v.0, v.1, w.1)))
  ]
