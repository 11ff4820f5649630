-- A statement that is refused has a cause in it.
use Rattle.std.proofs.Common.{◌≡◌, ◌⊎◌, inl, inr, List, [], ◌∷◌, refl, sym, ap, ◌∙◌, subst, Bool, true, false, Option, Some, None}
use Rattle.std.specs.Prelude.{◌&&◌, ◌||◌, nat_lt, not, map, option_map}
use Rattle.cells.specs.declared.int32.Int32Op.{Int32Op}
use Rattle.c0_source.specs.declared.fault.Fault.{Fault}
use Rattle.c0_source.specs.declared.fault.FaultKind.TheVariants as k
use Rattle.c0_source.specs.declared.fault.Span.{Span}
use Rattle.c0_syntax.specs.declared.operator.PrefixOperator.TheVariants as o
use Rattle.c0_syntax.specs.declared.name.Name as n
use Rattle.c0_syntax.specs.declared.value_type.ValueType as u
use Rattle.c0_syntax.specs.declared.expression.Expression as e
use Rattle.c0_syntax.specs.declared.expression.ExpressionKind.{ExpressionKind, Number, Character, Truth, Null, Text, Variable, Parenthesized', Call', Alloc, AllocArray', Result, Length', Index', Field', PointerField', Unary', Binary', Conditional'}
use Rattle.c0_syntax.specs.declared.statement.SimpleStatement.{SimpleStatement}
use Rattle.c0_syntax.specs.declared.statement.SimpleKind.{SimpleKind}
use Rattle.c0_syntax.specs.declared.statement.SimpleKind.TheVariants as d
use Rattle.c0_syntax.specs.declared.statement.Statement as a
use Rattle.c0_syntax.specs.declared.statement.StatementKind.{StatementKind, Row_of-Statement, end_of-Statement, more_of-Statement, Simple, Block', Annotated, Return, ReturnValue, If', IfElse', While', For', Assert, Error, Break, Continue}
use Rattle.c0_syntax.specs.Trees as tree
use Rattle.c0_syntax.specs.Views.{name_of, type_of, expression_of, expression_of_kind, row_of, annotation_of, simple_of, simple_of_kind, statement_of, statement_of_kind, statement_row, statements_of}
use Rattle.c0_typed.specs.Trees as t
use Rattle.c0_rules.specs.Types.{and_so, Name, ResolvedType, VoidType, IntType, BoolType, StringType, StructNamed, PointerTo, ArrayOf, same_type, is_small, small_type, resolved_type, Signature, Environment, output_named}
use Rattle.c0_rules.specs.Mentions.{as_variable, specs_in}
use Rattle.c0_rules.specs.Expressions.{OperatorRule, OnNumbers, Compares, Conjunction, Disjunction, operator_rule, is_compared, is_equality, Typing, Has, IsNull, Place, local_of, gives, takes, null_as, as_wanted, wanted, pointed, read_of, prefixed, operated, chosen, lengthed, held_type, callee_or, callee, typed_expression, typed_place, typed_arguments}
use Rattle.c0_rules.specs.Statements.{Invariant, Assertion, Scope, in_body, leave, within, Destination, ToLocal, ToPlace, change_of, step_of, is_call, declares, one, expression_as, conditions_of_all, is_taken, declared, destination_by, destination, assigned, updated, evaluated, typed_simple, typed_part, typed_statement, typed_statements}
use Rattle.c0_rules.specs.FaultExpressions.{Told, AsPlace, SmallTypeCause, InExpression}
use Rattle.c0_rules.specs.FaultStatements.{destination_type, has_place, InValue, InWanted, TakenCause, InDestination, AssignedCause, ChangedCause, InEvaluated, InSimple, InPart, ReturnCause, ThirdCause, InStatement, InRow, InBody}
use Rattle.c0_rules.proofs.Rules.{AllSome, all_so, all_go, all_if, some_has}
use Rattle.c0_rules_faults.proofs.Refused.{NoValue, no_value, and_none}
use Rattle.c0_rules_faults.proofs.Causes.{Caused, told, split, split_if, not_false_is}
use Rattle.c0_rules_faults.proofs.ExpressionCauses.{arguments_cause, both, call_cause, type_cause, wanted_cause}
use Rattle.c0_rules_faults.proofs.SpecCauses.{annotations_cause, specs_cause}
use Rattle.c0_rules_faults.proofs.Statements.{SmallLocals, found_small, part_keeps, statement_keeps}

-- ---- types of values

-- a type that a value or a call may have
abbrev pub is_fine : ResolvedType → Bool
is_fine r = is_small r || same_type r VoidType

-- each function gives a value of such a type
abbrev pub GiveFine : Environment → Type 0
GiveFine env = (x : Name) (f : Signature) → env.functions x ≡ Some f → is_fine f.result ≡ true

-- what an expression is has such a type
abbrev Fine : Typing → Type 0
Fine (Has r e) = is_fine r ≡ true
Fine (IsNull e) = Unit {0}

small_fine : (r : ResolvedType) → is_small r ≡ true → is_fine r ≡ true
small_fine r h = ap (λ b. b || same_type r VoidType) h

pub small_type_cause : (env : Environment) (ty : u.ValueType) → small_type env.typedefs (type_of ty) ≡ None → Caused (λ f. SmallTypeCause env.typedefs f ty)
small_type_cause env ty h = elim (split (resolved_type env.typedefs (type_of ty)) _ h) [
  | inl q ↦ (let f = type_cause env.typedefs ty.kind ty.span q in (f.0, inl f.1))
  | inr q ↦ elim (split_if (is_small q.0) _ q.2) [ inl w ↦ (let f = told k.NotSmall ty.span in (f.0, inr (q.0, q.1, w, f.1))) | inr w ↦ absurd (cc w.1) ]
]

not_true : (b : Bool) → not b ≡ true → b ≡ false
not_true true h = absurd (cc h)
not_true false h = refl

module _ (env : Environment) (results : GiveFine env) where
  call_fine : (x : Name) → AllSome (λ c. is_fine (gives c) ≡ true) (callee env x)
  call_fine x = by (output_named env.conio x)
    where
      by : (k : Option t.Output) → AllSome (λ c. is_fine (gives c) ≡ true) (callee_or env x k)
      by (Some k) = refl
      by None = all_go (λ c. is_fine (gives c) ≡ true) (env.functions x) _ (λ f q. results x f q)

  read_fine : (q : Place) → AllSome Fine (read_of env q)
  read_fine q = all_if Fine (is_small q.resolved) _ (λ h. small_fine q.resolved h)

  operated_fine : (rule : OperatorRule) (x y : Typing) → AllSome Fine (operated env rule x y)
  operated_fine (OnNumbers i) x y = all_go Fine (as_wanted env IntType x) _ (λ a h. all_go Fine (as_wanted env IntType y) _ (λ b q. refl))
  operated_fine (Compares r) (Has a x) (Has b y) = all_if Fine (same_type a b && is_compared r a) _ (λ h. refl)
  operated_fine (Compares r) (Has a x) (IsNull y) = all_if Fine (is_equality r) _ (λ h. all_go Fine (null_as env a y) _ (λ z q. refl))
  operated_fine (Compares r) (IsNull x) (Has b y) = all_if Fine (is_equality r) _ (λ h. all_go Fine (null_as env b x) _ (λ z q. refl))
  operated_fine (Compares r) (IsNull x) (IsNull y) = all_if Fine (is_equality r) _ (λ h. refl)
  operated_fine Conjunction x y = all_go Fine (as_wanted env BoolType x) _ (λ a h. all_go Fine (as_wanted env BoolType y) _ (λ b q. refl))
  operated_fine Disjunction x y = all_go Fine (as_wanted env BoolType x) _ (λ a h. all_go Fine (as_wanted env BoolType y) _ (λ b q. refl))

  both_small : (a b : ResolvedType) → (same_type a b && is_small a) ≡ true → is_small a ≡ true
  both_small a b h = by (same_type a b) h
    where
      by : (c : Bool) → (c && is_small a) ≡ true → is_small a ≡ true
      by true q = q
      by false q = absurd (cc q)

  null_fine : (a : ResolvedType) (e : t.Exp) (go : t.Exp → t.Exp) → AllSome Fine (and_so (null_as env a e) (λ z. Some (Has a (go z))))
  null_fine (PointerTo a) e go = refl
  null_fine _ e go = tt

  chosen_fine : (z : t.Exp) (x y : Typing) → AllSome Fine (chosen env z x y)
  chosen_fine z (Has a x) (Has b y) = all_if Fine (same_type a b && is_small a) _ (λ h. small_fine a (both_small a b h))
  chosen_fine z (Has a x) (IsNull y) = null_fine a y _
  chosen_fine z (IsNull x) (Has b y) = null_fine b x _
  chosen_fine z (IsNull x) (IsNull y) = tt

  prefixed_fine : (op : _) (x : Typing) → AllSome Fine (prefixed env op x)
  prefixed_fine o.Not x = all_go Fine (as_wanted env BoolType x) _ (λ a h. refl)
  prefixed_fine o.Complement x = all_go Fine (as_wanted env IntType x) _ (λ a h. refl)
  prefixed_fine o.Negate x = all_go Fine (as_wanted env IntType x) _ (λ a h. refl)
  prefixed_fine o.Dereference x = all_go Fine (pointed env x) _ (λ q h. read_fine q)

  lengthed_fine : (x : Typing) → AllSome Fine (lengthed env x)
  lengthed_fine (Has (ArrayOf a) e) = refl
  lengthed_fine _ = tt

  module _ (s : Scope) (few : SmallLocals s.locals) where
    abbrev typed : ExpressionKind → Option Typing
    typed x = typed_expression env (within s) (expression_of_kind x)

    small : (x : Name) → AllSome (λ l. is_small l.resolved ≡ true) (local_of s.locals x)
    small x = found_small s.locals x few

    typed_fine : (x : ExpressionKind) → AllSome Fine (typed x)
    typed_fine (Number m) = refl
    typed_fine (Character c) = all_if Fine (nat_lt c 128) _ (λ h. refl)
    typed_fine (Truth b) = refl
    typed_fine Null = tt
    typed_fine (Text text) = refl
    typed_fine (Variable x) = all_so (λ l. is_small l.resolved ≡ true) Fine (local_of s.locals (name_of x)) _ (small (name_of x)) (λ l h. small_fine l.resolved h)
    typed_fine (Parenthesized' p x here) = typed_fine x
    typed_fine (Call' x shape es) = all_so (λ c. is_fine (gives c) ≡ true) Fine (callee env (name_of x)) _ (call_fine (name_of x)) (λ c h. all_go Fine (typed_arguments env (within s) (row_of es) (takes c)) _ (λ xs q. h))
    typed_fine (Alloc ty) = all_go Fine (held_type env (type_of ty)) _ (λ r h. refl)
    typed_fine (AllocArray' ty p x here) = all_go Fine (held_type env (type_of ty)) _ (λ r h. all_go Fine (wanted env IntType (typed x)) _ (λ y q. refl))
    typed_fine Result = tt
    typed_fine (Length' p x here) = all_go Fine (typed x) _ (λ y h. lengthed_fine y)
    typed_fine (Index' p x here q i there) = all_go Fine (typed_place env (within s) (expression_of_kind (Index' p x here q i there))) _ (λ z h. read_fine z)
    typed_fine (Field' p x here y) = all_go Fine (typed_place env (within s) (expression_of_kind (Field' p x here y))) _ (λ z h. read_fine z)
    typed_fine (PointerField' p x here y) = all_go Fine (typed_place env (within s) (expression_of_kind (PointerField' p x here y))) _ (λ z h. read_fine z)
    typed_fine (Unary' op p x here) = all_go Fine (typed x) _ (λ y h. prefixed_fine op y)
    typed_fine (Binary' op p x here q y there) = all_go Fine (typed x) _ (λ v h. all_go Fine (typed y) _ (λ w g. operated_fine (operator_rule op) v w))
    typed_fine (Conditional' p c here q x there r y beyond) = all_go Fine (wanted env BoolType (typed c)) _ (λ z h. all_go Fine (typed x) _ (λ v g. all_go Fine (typed y) _ (λ w i. chosen_fine z v w)))

    -- ---- expressions of a body

    value_cause : (x : e.Expression) → NoValue (typed x.kind) → Caused (λ f. InValue env f s x)
    value_cause x h = (both env (within s) small tt x.kind x.span).0 h

    pub want_cause : (want : ResolvedType) (x : e.Expression) → expression_as env want s (expression_of x) ≡ None → Caused (λ f. InWanted env f s want x)
    want_cause want x h = elim (wanted_cause env (within s) want x.kind x.span h) [ inl z ↦ (let f = value_cause x z in (f.0, inl f.1)) | inr m ↦ (m.0, inr m.1) ]

    taken_cause : (x : n.Name) (r : ResolvedType) → declared env (name_of x) r s ≡ None → Caused (λ f. TakenCause env f s x)
    taken_cause x r h = elim (split_if (not (is_taken env s (name_of x))) _ h) [
      | inl q ↦ (let f = told k.DuplicateName x.span in (f.0, (not_false_is (is_taken env s (name_of x)) q, f.1)))
      | inr q ↦ absurd (cc q.1)
    ]

    variable_typed : (x : ExpressionKind) (v : Name) → as_variable (expression_of_kind x) ≡ Some v → local_of s.locals v ≡ None → typed x ≡ None
    variable_typed (Variable x) v q h = let same : name_of x ≡ v = cc q in and_none _ _ (subst (λ z. local_of s.locals z ≡ None) (sym same) h)
    variable_typed (Parenthesized' p x here) v q h = variable_typed x v q h
    variable_typed _ v q h = absurd (cc q)

    by_form : (x : e.Expression) (b : Bool) → typed_place env (within s) (expression_of x) ≡ None
        → Caused (λ f. elim b as (λ b. Type 0) [ true ↦ InExpression env (within s) f (AsPlace x.span) x.kind x.span | false ↦ Told k.NotDestination x.span f ])
    by_form x true h = (both env (within s) small tt x.kind x.span).1 x.span h
    by_form x false h = told k.NotDestination x.span

    by_variable : (x : e.Expression) (v : Option Name) → as_variable (expression_of x) ≡ v → destination_by env v s (expression_of x) ≡ None
        → Caused (λ f. elim v as (λ o. Type 0) [
          | Some w ↦ InValue env f s x
          | None ↦ elim (has_place (expression_of x)) as (λ b. Type 0) [ true ↦ InExpression env (within s) f (AsPlace x.span) x.kind x.span | false ↦ Told k.NotDestination x.span f ]
        ])
    by_variable x (Some w) q h = elim (split (local_of s.locals w) _ h) [ inl z ↦ value_cause x (no_value _ (variable_typed x.kind w q z)) | inr z ↦ absurd (cc z.2) ]
    by_variable x None q h = elim (split (typed_place env (within s) (expression_of x)) _ h) [ inl z ↦ by_form x (has_place (expression_of x)) z | inr z ↦ absurd (cc z.2) ]

    destination_cause : (x : e.Expression) → destination env s (expression_of x) ≡ None → Caused (λ f. InDestination env f s x)
    destination_cause x h = by_variable x (as_variable (expression_of x)) refl h

    assigned_cause : (x v : e.Expression) (q : Destination) → destination env s (expression_of x) ≡ Some q → assigned env s (expression_of v) q ≡ None → Caused (λ f. InValue env f s v) ⊎ Caused (λ f. AssignedCause env f s x v)
    assigned_cause x v (ToLocal l) q h = elim (split (expression_as env l.resolved s (expression_of v)) _ h) [
      | inl z ↦ elim (wanted_cause env (within s) l.resolved v.kind v.span z) [ inl w ↦ inl (value_cause v w) | inr m ↦ inr (m.0, (ToLocal l, q, inr m.1)) ]
      | inr z ↦ absurd (cc z.2)
    ]
    assigned_cause x v (ToPlace p) q h = elim (split_if (is_small p.resolved) _ h) [
      | inl z ↦ (let f = told k.NotSmall x.span in inr (f.0, (ToPlace p, q, inl (z, f.1))))
      | inr z ↦ elim (split (expression_as env p.resolved s (expression_of v)) _ z.1) [
        | inl y ↦ elim (wanted_cause env (within s) p.resolved v.kind v.span y) [ inl w ↦ inl (value_cause v w) | inr m ↦ inr (m.0, (ToPlace p, q, inr m.1)) ]
        | inr y ↦ absurd (cc y.2)
      ]
    ]

    no_number : (x : e.Expression) (q : Destination) → destination env s (expression_of x) ≡ Some q → same_type (destination_type q) IntType ≡ false → (b : Bool) → is_small (destination_type q) ≡ b
        → Caused (λ f. ChangedCause env f s x)
    no_number x q d h true e = let f = told k.TypeMismatch x.span in (f.0, (q, d, inr (e, h, f.1)))
    no_number x q d h false e = let f = told k.NotSmall x.span in (f.0, (q, d, inl (e, f.1)))

    changed_cause : (x : e.Expression) (op : Int32Op) (v : t.Exp) (q : Destination) → destination env s (expression_of x) ≡ Some q → updated env s op v q ≡ None → Caused (λ f. ChangedCause env f s x)
    changed_cause x op v (ToLocal l) q h = elim (split_if (same_type l.resolved IntType) _ h) [ inl z ↦ no_number x (ToLocal l) q z (is_small l.resolved) refl | inr z ↦ absurd (cc z.1) ]
    changed_cause x op v (ToPlace p) q h = elim (split_if (same_type p.resolved IntType) _ h) [ inl z ↦ no_number x (ToPlace p) q z (is_small p.resolved) refl | inr z ↦ absurd (cc z.1) ]

    -- what is refused as a statement is no call, and void
    evaluated_void : (e : tree.Expression) (x : Typing) → Fine x → evaluated env e x ≡ None → (is_call e ≡ false) × NoValue (Some x)
    evaluated_void e (IsNull y) f h = absurd (cc h)
    evaluated_void e (Has r y) f h = elim (split_if (is_small r || (is_call e && same_type r VoidType)) (Some y) h) [ inl q ↦ by r f (is_call e) q | inr q ↦ absurd (cc q.1) ]
      where
        by : (r : ResolvedType) → is_fine r ≡ true → (b : Bool) → (is_small r || (b && same_type r VoidType)) ≡ false → (b ≡ false) × NoValue (Some (Has r y))
        by VoidType f true q = absurd (cc q)
        by VoidType f false q = (refl, refl)
        by (StructNamed m) f b q = absurd (cc f)
        by _ f b q = absurd (cc q)

    evaluated_cause : (x : ExpressionKind) (span : Span) → and_so (typed x) (evaluated env (expression_of_kind x)) ≡ None → Caused (λ f. InEvaluated env f s x span)
    evaluated_cause (Call' x shape es) span h = elim (split (typed (Call' x shape es)) (evaluated env (expression_of_kind (Call' x shape es))) h) [
      | inl q ↦ elim (call_cause env (within s) x es span (λ us z. arguments_cause env (within s) small tt es us z) q) [ inl c ↦ (c.0, inl c.1) | inr c ↦ (c.0, inr c.1) ]
      | inr q ↦ (let v = evaluated_void (expression_of_kind (Call' x shape es)) q.0 (some_has Fine (typed (Call' x shape es)) q.0 (typed_fine (Call' x shape es)) q.1) q.2 in absurd (cc v.0))
    ]
    evaluated_cause x span h = (both env (within s) small tt x span).0 (refused (typed x) refl h)
      where
        refused : (r : Option Typing) → typed x ≡ r → and_so r (evaluated env (expression_of_kind x)) ≡ None → NoValue (typed x)
        refused None e h = no_value (typed x) e
        refused (Some y) e h = subst NoValue (sym e) (evaluated_void (expression_of_kind x) y (some_has Fine (typed x) y (typed_fine x) e) h).1

    pub simple_cause : (x : SimpleKind) (span : Span) → typed_simple env (simple_of_kind x) s ≡ None → Caused (λ f. InSimple env f s x span)
    simple_cause (d.Declare ty x) span h = elim (split (small_type env.typedefs (type_of ty)) _ h) [
      | inl q ↦ (let f = small_type_cause env ty q in (f.0, inl f.1))
      | inr q ↦ elim (split (declared env (name_of x) q.0 s) _ q.2) [ inl z ↦ (let f = taken_cause x q.0 z in (f.0, inr f.1)) | inr z ↦ absurd (cc z.2) ]
    ]
    simple_cause (d.Initialize ty x v) span h = elim (split (small_type env.typedefs (type_of ty)) _ h) [
      | inl q ↦ (let f = small_type_cause env ty q in (f.0, inl f.1))
      | inr q ↦ elim (split (expression_as env q.0 s (expression_of v)) _ q.2) [
        | inl z ↦ elim (wanted_cause env (within s) q.0 v.kind v.span z) [ inl w ↦ (let f = value_cause v w in (f.0, inr (inl f.1))) | inr m ↦ (m.0, inr (inr (inl (q.0, q.1, m.1)))) ]
        | inr z ↦ elim (split (declared env (name_of x) q.0 s) _ z.2) [ inl w ↦ (let f = taken_cause x q.0 w in (f.0, inr (inr (inr f.1)))) | inr w ↦ absurd (cc w.2) ]
      ]
    ]
    simple_cause (d.Assign x v) span h = elim (split (destination env s (expression_of x)) _ h) [
      | inl q ↦ (let f = destination_cause x q in (f.0, inl f.1))
      | inr q ↦ elim (assigned_cause x v q.0 q.1 q.2) [ inl f ↦ (f.0, inr (inl f.1)) | inr f ↦ (f.0, inr (inr f.1)) ]
    ]
    simple_cause (d.Update x op v) span h = elim (split (destination env s (expression_of x)) _ h) [
      | inl q ↦ (let f = destination_cause x q in (f.0, inl f.1))
      | inr q ↦ elim (split (change_of (operator_rule op)) _ q.2) [
        | inl z ↦ (let f = told k.Syntax span in (f.0, inr (inr (inr (z, f.1)))))
        | inr z ↦ elim (split (expression_as env IntType s (expression_of v)) _ z.2) [
          | inl w ↦ (let f = want_cause IntType v w in (f.0, inr (inl f.1)))
          | inr w ↦ (let f = changed_cause x z.0 w.0 q.0 q.1 w.2 in (f.0, inr (inr (inl f.1))))
        ]
      ]
    ]
    simple_cause (d.Step x way) span h = elim (split (destination env s (expression_of x)) _ h) [
      | inl q ↦ (let f = destination_cause x q in (f.0, inl f.1))
      | inr q ↦ (let f = changed_cause x (step_of way) one q.0 q.1 q.2 in (f.0, inr f.1))
    ]
    simple_cause (d.Evaluate x) span h = elim (split (and_so (typed x.kind) (evaluated env (expression_of x))) _ h) [ inl q ↦ evaluated_cause x.kind x.span q | inr q ↦ absurd (cc q.2) ]

    part_cause : (x : Option SimpleStatement) → typed_part env (option_map simple_of x) s ≡ None → Caused (λ f. InPart env f s x)
    part_cause None h = absurd (cc h)
    part_cause (Some x) h = simple_cause x.kind x.span h

    return_cause : (x : e.Expression) → typed_statement env (tree.ReturnValue (expression_of x)) s ≡ None → Caused (λ f. ReturnCause env f s x)
    return_cause x h = elim (split_if (not (same_type s.result VoidType)) _ h) [
      | inl q ↦ (let f = told k.TypeMismatch x.span in (f.0, inl (not_false_is (same_type s.result VoidType) q, f.1)))
      | inr q ↦ elim (split (expression_as env s.result s (expression_of x)) _ q.1) [
        | inl z ↦ elim (wanted_cause env (within s) s.result x.kind x.span z) [
          | inl w ↦ (let f = value_cause x w in (f.0, inr (not_true (same_type s.result VoidType) q.0, inl f.1)))
          | inr m ↦ (m.0, inr (not_true (same_type s.result VoidType) q.0, inr m.1))
        ]
        | inr z ↦ absurd (cc z.2)
      ]
    ]

  -- a third part stands behind the body, where the same locals are in scope
  third_back : (fault : Fault) (s inner : Scope) (x : Option SimpleStatement) → InPart env fault (leave s inner) x → InPart env fault s x
  third_back fault s inner None h = h
  third_back fault s inner (Some x) h = by_kind x.kind x.span h
    where
      same : (v : Option Name) (x : tree.Expression) → destination_by env v s x ≡ destination_by env v (leave s inner) x
      same (Some v) x = refl
      same None x = refl

      by_kind : (k : SimpleKind) (span : Span) → InSimple env fault (leave s inner) k span → InSimple env fault s k span
      by_kind (d.Declare ty x) span h = h
      by_kind (d.Initialize ty x v) span h = h
      by_kind (d.Assign x v) span (inl h) = inl h
      by_kind (d.Assign x v) span (inr (inl h)) = inr (inl h)
      by_kind (d.Assign x v) span (inr (inr h)) = inr (inr (h.0, same (as_variable (expression_of x)) (expression_of x) ∙ h.1, h.2))
      by_kind (d.Update x op v) span (inl h) = inl h
      by_kind (d.Update x op v) span (inr (inl h)) = inr (inl h)
      by_kind (d.Update x op v) span (inr (inr (inl h))) = inr (inr (inl (h.0, same (as_variable (expression_of x)) (expression_of x) ∙ h.1, h.2)))
      by_kind (d.Update x op v) span (inr (inr (inr h))) = inr (inr (inr h))
      by_kind (d.Step x way) span (inl h) = inl h
      by_kind (d.Step x way) span (inr h) = inr (h.0, same (as_variable (expression_of x)) (expression_of x) ∙ h.1, h.2)
      by_kind (d.Evaluate x) span h = evaluate x.kind x.span h
        where
          evaluate : (e : ExpressionKind) (span : Span) → InEvaluated env fault (leave s inner) e span → InEvaluated env fault s e span
          evaluate (Call' f shape es) span h = h
          evaluate e span h = h

  third_cause : (x : Option SimpleStatement) → not (declares (option_map simple_of x)) ≡ false → Caused (λ f. ThirdCause env f x)
  third_cause None h = absurd (cc h)
  third_cause (Some x) h = let f = told k.StepDeclares x.span in (f.0, (not_false_is (declares (Some (simple_of x))) h, f.1))

  mutual
    pub statement_cause : (s : Scope) → SmallLocals s.locals → (x : StatementKind) (span : Span) → typed_statement env (statement_of_kind x) s ≡ None → Caused (λ f. InStatement env f s x span)
    statement_cause s few (Simple x) span h = simple_cause s few x.kind x.span h
    statement_cause s few (Block' shape rest) span h = elim (split (typed_statements env (statement_row rest) s) _ h) [ inl q ↦ row_cause s few rest q | inr q ↦ absurd (cc q.2) ]
    statement_cause s few (Annotated x) span h = elim (split (conditions_of_all env Assertion (within s) (annotation_of x)) _ h) [ inl q ↦ specs_cause env (within s) (small s few) tt Assertion x.specs.items q | inr q ↦ absurd (cc q.2) ]
    statement_cause s few Return span h = elim (split_if (same_type s.result VoidType) _ h) [ inl q ↦ (let f = told k.TypeMismatch span in (f.0, (q, f.1))) | inr q ↦ absurd (cc q.1) ]
    statement_cause s few (ReturnValue x) span h = return_cause s few x h
    statement_cause s few (If' c p x here) span h = elim (split (expression_as env BoolType s (expression_of c)) _ h) [
      | inl q ↦ (let f = want_cause s few BoolType c q in (f.0, inl f.1))
      | inr q ↦ elim (split (typed_statement env (statement_of_kind x) s) _ q.2) [ inl z ↦ (let f = statement_cause s few x here z in (f.0, inr f.1)) | inr z ↦ absurd (cc z.2) ]
    ]
    statement_cause s few (IfElse' c p x here q y there) span h = elim (split (expression_as env BoolType s (expression_of c)) _ h) [
      | inl w ↦ (let f = want_cause s few BoolType c w in (f.0, inl f.1))
      | inr w ↦ elim (split (typed_statement env (statement_of_kind x) s) _ w.2) [
        | inl z ↦ (let f = statement_cause s few x here z in (f.0, inr (inl f.1)))
        | inr z ↦ elim (split (typed_statement env (statement_of_kind y) (leave s z.0.scope)) _ z.2) [
          | inl v ↦ (let f = statement_cause (leave s z.0.scope) few y there v in (f.0, inr (inr (z.0, z.1, f.1))))
          | inr v ↦ absurd (cc v.2)
        ]
      ]
    ]
    statement_cause s few (While' c notes p x here) span h = elim (split (expression_as env BoolType s (expression_of c)) _ h) [
      | inl q ↦ (let f = want_cause s few BoolType c q in (f.0, inl f.1))
      | inr q ↦ elim (split (conditions_of_all env Invariant (within s) (specs_in (map annotation_of notes.items))) _ q.2) [
        | inl z ↦ (let f = annotations_cause env (within s) (small s few) tt Invariant notes.items z in (f.0, inr (inl f.1)))
        | inr z ↦ elim (split (typed_statement env (statement_of_kind x) (in_body s)) _ z.2) [ inl w ↦ (let f = statement_cause (in_body s) few x here w in (f.0, inr (inr f.1))) | inr w ↦ absurd (cc w.2) ]
      ]
    ]
    statement_cause s few (For' first c third notes p x here) span h = elim (split (typed_part env (option_map simple_of first) s) _ h) [
      | inl q ↦ (let f = part_cause s few first q in (f.0, inl f.1))
      | inr q ↦
          (let inside : SmallLocals q.0.scope.locals = some_has (λ z. SmallLocals z.scope.locals) (typed_part env (option_map simple_of first) s) q.0 (part_keeps env (option_map simple_of first) s few) q.1 in
          elim (split (expression_as env BoolType q.0.scope (expression_of c)) _ q.2) [
            | inl z ↦ (let f = want_cause q.0.scope inside BoolType c z in (f.0, inr (inr (q.0, q.1, inl f.1))))
            | inr z ↦ elim (split (conditions_of_all env Invariant (within q.0.scope) (specs_in (map annotation_of notes.items))) _ z.2) [
              | inl w ↦ (let f = annotations_cause env (within q.0.scope) (small q.0.scope inside) tt Invariant notes.items w in (f.0, inr (inr (q.0, q.1, inr (inr (inl f.1))))))
              | inr w ↦ elim (split (typed_statement env (statement_of_kind x) (in_body q.0.scope)) _ w.2) [
                | inl y ↦ (let f = statement_cause (in_body q.0.scope) inside x here y in (f.0, inr (inr (q.0, q.1, inr (inr (inr f.1))))))
                | inr y ↦ elim (split_if (not (declares (option_map simple_of third))) _ y.2) [
                  | inl v ↦ (let f = third_cause third v in (f.0, inr (inl f.1)))
                  | inr v ↦ elim (split (typed_part env (option_map simple_of third) (leave q.0.scope y.0.scope)) _ v.1) [
                    | inl i ↦ (let f = part_cause (leave q.0.scope y.0.scope) inside third i in (f.0, inr (inr (q.0, q.1, inr (inl (third_back f.0 q.0.scope y.0.scope third f.1))))))
                    | inr i ↦ absurd (cc i.2)
                  ]
                ]
              ]
            ]
          ])
    ]
    statement_cause s few (Assert x) span h = elim (split (expression_as env BoolType s (expression_of x)) _ h) [ inl q ↦ want_cause s few BoolType x q | inr q ↦ absurd (cc q.2) ]
    statement_cause s few (Error x) span h = elim (split (expression_as env StringType s (expression_of x)) _ h) [ inl q ↦ want_cause s few StringType x q | inr q ↦ absurd (cc q.2) ]
    statement_cause s few Break span h = elim (split_if s.in_loop _ h) [ inl q ↦ (let f = told k.NotInLoop span in (f.0, (q, f.1))) | inr q ↦ absurd (cc q.1) ]
    statement_cause s few Continue span h = elim (split_if s.in_loop _ h) [ inl q ↦ (let f = told k.NotInLoop span in (f.0, (q, f.1))) | inr q ↦ absurd (cc q.1) ]

    row_cause : {m : _} (s : Scope) → SmallLocals s.locals → (xs : Row_of-Statement m) → typed_statements env (statement_row xs) s ≡ None → Caused (λ f. InRow env f s xs)
    row_cause s few end_of-Statement h = absurd (cc h)
    row_cause s few (more_of-Statement x here rest) h = elim (split (typed_statement env (statement_of_kind x) s) _ h) [
      | inl q ↦ (let f = statement_cause s few x here q in (f.0, inl f.1))
      | inr q ↦
          (let inside = some_has (λ z. SmallLocals z.scope.locals) (typed_statement env (statement_of_kind x) s) q.0 (statement_keeps env (statement_of_kind x) s few) q.1 in
          elim (split (typed_statements env (statement_row rest) q.0.scope) _ q.2) [ inl z ↦ (let f = row_cause q.0.scope inside rest z in (f.0, inr (q.0, q.1, f.1))) | inr z ↦ absurd (cc z.2) ])
    ]

  pub body_cause : (s : Scope) → SmallLocals s.locals → (xs : List a.Statement) → typed_statements env (statements_of xs) s ≡ None → Caused (λ f. InBody env f s xs)
  body_cause s few [] h = absurd (cc h)
  body_cause s few (x ∷ rest) h = elim (split (typed_statement env (statement_of x) s) _ h) [
    | inl q ↦ (let f = statement_cause s few x.kind x.span q in (f.0, inl f.1))
    | inr q ↦
        (let inside = some_has (λ z. SmallLocals z.scope.locals) (typed_statement env (statement_of x) s) q.0 (statement_keeps env (statement_of x) s few) q.1 in
        elim (split (typed_statements env (statements_of rest) q.0.scope) _ q.2) [ inl z ↦ (let f = body_cause q.0.scope inside rest z in (f.0, inr (q.0, q.1, f.1))) | inr z ↦ absurd (cc z.2) ])
  ]
