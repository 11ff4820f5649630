-- An expression without a value, or that is no place, has a cause in it.
use Rattle.std.proofs.Common.{◌≡◌, ◌≢◌, ◌⊎◌, inl, inr, ℕ, List, [], ◌∷◌, length, refl, sym, ap, ◌∙◌, subst, Bool, true, false, Option, Some, None}
use Rattle.std.specs.Prelude.{◌&&◌, nat_lt, option_map}
use Rattle.c0_source.specs.declared.fault.FaultKind.TheVariants as k
use Rattle.c0_source.specs.declared.fault.Span.{Span}
use Rattle.c0_syntax.specs.declared.operator.PrefixOperator.{PrefixOperator}
use Rattle.c0_syntax.specs.declared.operator.PrefixOperator.TheVariants as o
use Rattle.c0_syntax.specs.declared.name.Name as n
use Rattle.c0_syntax.specs.declared.value_type.ValueType as u
use Rattle.c0_syntax.specs.declared.value_type.TypeKind.{TypeKind, Basic, Struct, Named, Pointer', Array'}
use Rattle.c0_syntax.specs.declared.expression.ExpressionKind.{ExpressionKind, Row_of-Expression, end_of-Expression, more_of-Expression, Number, Character, Truth, Null, Text, Variable, Parenthesized', Call', Alloc, AllocArray', Result, Length', Index', Field', PointerField', Unary', Binary', Conditional'}
use Rattle.c0_syntax.specs.Views.{name_of, type_of, type_of_kind, expression_of_kind, row_of}
use Rattle.c0_typed.specs.Trees as t
use Rattle.c0_typed.specs.Values as v
use Rattle.c0_rules.specs.Types.{and_so, provided, Name, Table, ResolvedType, VoidType, IntType, BoolType, CharType, StructNamed, PointerTo, ArrayOf, same_type, is_small, resolved_type, Environment, cells_of}
use Rattle.c0_rules.specs.Expressions.{OperatorRule, OnNumbers, Compares, Conjunction, Disjunction, operator_rule, is_equality, is_compared, Typing, Has, IsNull, Place, Local, Context, local_of, Callee, takes, gives, call_of, num, null_as, as_wanted, wanted, operated, chosen, pointed, indexed, field_at, fielded, read_of, prefixed, lengthed, held_type, callee, typed_expression, typed_place, typed_arguments}
use Rattle.c0_rules.specs.FaultExpressions.{Position, AsValue, AsPlace, TypeCause, HeldTypeCause, is_value, is_null, is_pointer, is_comparable, has_common, element_of, argument_count, Mistyped, MistypedArgument, CallCause, VoidCall, ComparedCause, OperandCause, PointerCause, IndexCause, FieldCause, DotCause, ArrowCause, StructValue, NoPlace, PrefixCause, InExpression, InArguments}
use Rattle.c0_rules.proofs.Rules.{AllSome, all_go, all_if}
use Rattle.c0_rules_faults.proofs.Refused.{NoValue}
use Rattle.c0_rules_faults.proofs.Causes.{Caused, told, split, split_if, split_typing, joined, seen, none_of}

-- ---- types

option_none : {A B : Type 0} (f : A → B) (o : Option A) → option_map f o ≡ None → o ≡ None
option_none f None e = refl
option_none f (Some a) e = absurd (cc e)

pub type_cause : (typedefs : Table ResolvedType) (kind : TypeKind) (span : Span) → resolved_type typedefs (type_of_kind kind) ≡ None → Caused (λ f. TypeCause typedefs f kind span)
type_cause typedefs (Basic base) span e = let f = told k.VoidUse span in (f.0, (e, f.1))
type_cause typedefs (Struct x) span e = absurd (cc e)
type_cause typedefs (Named x) span e = let f = told k.Syntax x.span in (f.0, (e, f.1))
type_cause typedefs (Pointer' p kind at) span e = type_cause typedefs kind at (option_none PointerTo _ e)
type_cause typedefs (Array' p kind at) span e = type_cause typedefs kind at (option_none ArrayOf _ e)

pub held_cause : (env : Environment) (ty : u.ValueType) → held_type env (type_of ty) ≡ None → Caused (λ f. HeldTypeCause env f ty)
held_cause env ty e = elim (split (resolved_type env.typedefs (type_of ty)) _ e) [
  | inl h ↦ (let f = type_cause env.typedefs ty.kind ty.span h in (f.0, inl f.1))
  | inr h ↦ elim (split (cells_of env.structs h.0) _ h.2) [
    | inl q ↦ (let f = told k.StructNotComplete ty.span in (f.0, inr (h.0, h.1, q, f.1)))
    | inr q ↦ absurd (cc q.2)
  ]
]

-- ---- operators

operated_value : (env : Environment) (rule : OperatorRule) (x y : Typing) → AllSome (λ z. is_value z ≡ true) (operated env rule x y)
operated_value env (OnNumbers i) x y = all_go (λ z. is_value z ≡ true) (as_wanted env IntType x) _ (λ a e. all_go (λ z. is_value z ≡ true) (as_wanted env IntType y) _ (λ b q. refl))
operated_value env (Compares r) (Has a x) (Has b y) = all_if (λ z. is_value z ≡ true) (same_type a b && is_compared r a) _ (λ e. refl)
operated_value env (Compares r) (Has a x) (IsNull y) = all_if (λ z. is_value z ≡ true) (is_equality r) _ (λ e. all_go (λ z. is_value z ≡ true) (null_as env a y) _ (λ z q. refl))
operated_value env (Compares r) (IsNull x) (Has b y) = all_if (λ z. is_value z ≡ true) (is_equality r) _ (λ e. all_go (λ z. is_value z ≡ true) (null_as env b x) _ (λ z q. refl))
operated_value env (Compares r) (IsNull x) (IsNull y) = all_if (λ z. is_value z ≡ true) (is_equality r) _ (λ e. refl)
operated_value env Conjunction x y = all_go (λ z. is_value z ≡ true) (as_wanted env BoolType x) _ (λ a e. all_go (λ z. is_value z ≡ true) (as_wanted env BoolType y) _ (λ b q. refl))
operated_value env Disjunction x y = all_go (λ z. is_value z ≡ true) (as_wanted env BoolType x) _ (λ a e. all_go (λ z. is_value z ≡ true) (as_wanted env BoolType y) _ (λ b q. refl))

prefixed_value : (env : Environment) (op : PrefixOperator) (x : Typing) → (op ≡ o.Dereference → ⊥) → AllSome (λ z. is_value z ≡ true) (prefixed env op x)
prefixed_value env o.Not x d = all_go (λ z. is_value z ≡ true) (as_wanted env BoolType x) _ (λ a e. refl)
prefixed_value env o.Complement x d = all_go (λ z. is_value z ≡ true) (as_wanted env IntType x) _ (λ a e. refl)
prefixed_value env o.Negate x d = all_go (λ z. is_value z ≡ true) (as_wanted env IntType x) _ (λ a e. refl)
prefixed_value env o.Dereference x d = absurd (d refl)

lengthed_value : (env : Environment) (x : Typing) → AllSome (λ z. is_value z ≡ true) (lengthed env x)
lengthed_value env (Has (ArrayOf a) e) = refl
lengthed_value env _ = tt

small_value : (r : ResolvedType) (e : t.Exp) → is_small r ≡ true → is_value (Has r e) ≡ true
small_value VoidType e h = absurd (cc h)
small_value _ e h = refl

both_small : (a b : ResolvedType) → (same_type a b && is_small a) ≡ true → is_small a ≡ true
both_small a b h = by (same_type a b) h
  where
    by : (c : Bool) → (c && is_small a) ≡ true → is_small a ≡ true
    by true q = q
    by false q = absurd (cc q)

chosen_value : (env : Environment) (z : t.Exp) (x y : Typing) → AllSome (λ w. is_value w ≡ true) (chosen env z x y)
chosen_value env z (Has a x) (Has b y) = all_if (λ w. is_value w ≡ true) (same_type a b && is_small a) _ (λ e. small_value a _ (both_small a b e))
chosen_value env z (Has a x) (IsNull y) = by a
  where
    by : (a : ResolvedType) → AllSome (λ w. is_value w ≡ true) (and_so (null_as env a y) (λ v. Some (Has a (t.Choose (num env a) z x v))))
    by (PointerTo b) = refl
    by _ = tt
chosen_value env z (IsNull x) (Has b y) = by b
  where
    by : (b : ResolvedType) → AllSome (λ w. is_value w ≡ true) (and_so (null_as env b x) (λ v. Some (Has b (t.Choose (num env b) z v y))))
    by (PointerTo a) = refl
    by _ = tt
chosen_value env z (IsNull x) (IsNull y) = refl

null_refused : (env : Environment) (r : ResolvedType) (e : t.Exp) → null_as env r e ≡ None → is_pointer r ≡ false
null_refused env (PointerTo r) e h = absurd (cc h)
null_refused env _ e h = refl

none_common : (env : Environment) (z : t.Exp) (x y : Typing) → chosen env z x y ≡ None → has_common x y ≡ false
none_common env z (Has a x) (Has b y) h = elim (split_if (same_type a b && is_small a) _ h) [ inl q ↦ q | inr q ↦ absurd (cc q.1) ]
none_common env z (Has a x) (IsNull y) h = elim (split (null_as env a y) _ h) [ inl q ↦ null_refused env a y q | inr q ↦ absurd (cc q.2) ]
none_common env z (IsNull x) (Has b y) h = elim (split (null_as env b x) _ h) [ inl q ↦ null_refused env b x q | inr q ↦ absurd (cc q.2) ]
none_common env z (IsNull x) (IsNull y) h = absurd (cc h)

no_element : (env : Environment) (x : Typing) (i : t.Exp) → indexed env x i ≡ None → (element_of x ≡ None) ⊎ ((r : ResolvedType) × (element_of x ≡ Some r) × (cells_of env.structs r ≡ None))
no_element env (Has (ArrayOf a) e) i h = elim (split (cells_of env.structs a) _ h) [ inl q ↦ inr (a, refl, q) | inr q ↦ absurd (cc q.2) ]
no_element env _ i h = inl refl

no_field : (env : Environment) (at : Context) (r : ResolvedType) (here : Span) (x : n.Name) (span : Span) (q : t.Place) → field_at env r q (name_of x) ≡ None → Caused (λ f. FieldCause env at f r here x span)
no_field env at (StructNamed s) here x span q h = elim (split (env.structs s) _ h) [
  | inl e ↦ (let f = told k.StructNotComplete span in (f.0, inr (inl (s, refl, e, f.1))))
  | inr e ↦ elim (split (e.0.fields (name_of x)) _ e.2) [
    | inl w ↦ (let f = told k.UnknownField x.span in (f.0, inr (inr (s, e.0, refl, e.1, w, f.1))))
    | inr w ↦ absurd (cc w.2)
  ]
]
no_field env at _ here x span q h = let f = told k.TypeMismatch here in (f.0, inl (refl, f.1))

module _ (env : Environment) (at : Context) where
  -- what the rules give of an expression
  abbrev typed : ExpressionKind → Option Typing
  typed e = typed_expression env at (expression_of_kind e)

  -- some fault has its cause in this expression
  abbrev pub In : Position → ExpressionKind → Span → Type 0
  In position e span = Caused (λ f. InExpression env at f position e span)

  mistyped : (want : ResolvedType) (e : ExpressionKind) (span : Span) (x : Typing) → typed e ≡ Some x → is_value x ≡ true → as_wanted env want x ≡ None → Caused (λ f. Mistyped env at f want e span)
  mistyped want e span x q v w = let f = told k.TypeMismatch span in (f.0, (x, q, v, w, f.1))

  -- where an expression of a type is wanted and there is none, it has no value or one of another type
  pub wanted_cause : (want : ResolvedType) (e : ExpressionKind) (span : Span) → wanted env want (typed e) ≡ None → NoValue (typed e) ⊎ Caused (λ f. Mistyped env at f want e span)
  wanted_cause want e span h = elim (seen (typed e)) [ inl q ↦ inl q | inr q ↦ inr (mistyped want e span q.0 q.1 q.2 (subst (λ o. wanted env want o ≡ None) q.1 h)) ]

  no_place : (e : ExpressionKind) (span whole : Span) (x : Typing) → typed e ≡ Some x → is_value x ≡ true → Caused (λ f. NoPlace env at f (AsPlace whole) e span)
  no_place e span whole x q v = let f = told k.TypeMismatch whole in (f.0, (x, q, v, f.1))

  struct_value : (e : ExpressionKind) (span : Span) (q : Place) → typed_place env at (expression_of_kind e) ≡ Some q → NoValue (read_of env q) → Caused (λ f. StructValue env at f AsValue e span)
  struct_value e span q h v = by (is_small q.resolved) refl v
    where
      by : (b : Bool) → is_small q.resolved ≡ b → NoValue (provided b (Some (Has q.resolved (t.Load (num env q.resolved) q.place)))) → Caused (λ f. StructValue env at f AsValue e span)
      by true w z = let y : true ≡ false = sym (small_value q.resolved _ w) ∙ z in absurd (cc y)
      by false w z = let f = told k.NotSmall span in (f.0, (q, h, w, f.1))

  -- ---- calls

  abbrev called : {m : _} → n.Name → Row_of-Expression m → Option Typing
  called x es = and_so (callee env (name_of x)) (λ c. and_so (typed_arguments env at (row_of es) (takes c)) (λ xs. Some (Has (gives c) (call_of c xs))))

  void_of : (r : ResolvedType) (e : t.Exp) → is_value (Has r e) ≡ false → r ≡ VoidType
  void_of VoidType e h = refl
  void_of _ e h = absurd (cc h)

  -- why a call with arguments that are refused is none
  abbrev Arguments : {m : _} → Row_of-Expression m → List ResolvedType → Type 0
  Arguments es us = (argument_count es ≢ length us) ⊎ Caused (λ f. MistypedArgument env at f es us) ⊎ Caused (λ f. InArguments env at f es)

  pub call_cause : {m : _} (x : n.Name) (es : Row_of-Expression m) (span : Span) → ((us : List ResolvedType) → typed_arguments env at (row_of es) us ≡ None → Arguments es us) → called x es ≡ None
      → Caused (λ f. CallCause env at f x es span) ⊎ Caused (λ f. InArguments env at f es)
  call_cause x es span go h = elim (split (callee env (name_of x)) _ h) [
    | inl q ↦ inl (let f = told k.UnknownName x.span in (f.0, inl (q, f.1)))
    | inr q ↦ elim (split (typed_arguments env at (row_of es) (takes q.0)) _ q.2) [
      | inl w ↦ elim (go (takes q.0) w) [
        | inl d ↦ inl (let f = told k.ArgumentCount span in (f.0, inr (q.0, q.1, inl (d, f.1))))
        | inr (inl m) ↦ inl (m.0, inr (q.0, q.1, inr m.1))
        | inr (inr a) ↦ inr a
      ]
      | inr w ↦ absurd (cc w.2)
    ]
  ]

  called_cause : {m : _} (x : n.Name) (es : Row_of-Expression m) (span : Span) → ((us : List ResolvedType) → typed_arguments env at (row_of es) us ≡ None → Arguments es us) → NoValue (called x es)
      → Caused (λ f. CallCause env at f x es span) ⊎ Caused (λ f. VoidCall env at f x span) ⊎ Caused (λ f. InArguments env at f es)
  called_cause x es span go h = by (called x es) refl h
    where
      by : (o : Option Typing) → called x es ≡ o → NoValue o → Caused (λ f. CallCause env at f x es span) ⊎ Caused (λ f. VoidCall env at f x span) ⊎ Caused (λ f. InArguments env at f es)
      by None e v = elim (call_cause x es span go e) [ inl q ↦ inl q | inr q ↦ inr (inr q) ]
      by (Some y) e v = elim (seen_callee (callee env (name_of x)) refl) [
        | inl q ↦ inl (let f = told k.UnknownName x.span in (f.0, inl (q, f.1)))
        | inr q ↦ (let f = told k.VoidUse span in inr (inl (f.0, (q.0, q.1, is_void y v q.0 q.1 e, f.1))))
      ]
        where
          seen_callee : (o : Option Callee) → callee env (name_of x) ≡ o → (callee env (name_of x) ≡ None) ⊎ ((c : Callee) × (callee env (name_of x) ≡ Some c))
          seen_callee None e = inl e
          seen_callee (Some c) e = inr (c, e)

          is_void : (y : Typing) → is_value y ≡ false → (c : Callee) → callee env (name_of x) ≡ Some c → called x es ≡ Some y → gives c ≡ VoidType
          is_void y v c q e =
              let at_callee : and_so (typed_arguments env at (row_of es) (takes c)) (λ xs. Some (Has (gives c) (call_of c xs))) ≡ Some y =
              sym (ap (λ o. and_so o (λ d. and_so (typed_arguments env at (row_of es) (takes d)) (λ xs. Some (Has (gives d) (call_of d xs))))) q) ∙ e in
              at_arguments (typed_arguments env at (row_of es) (takes c)) at_callee
            where
              at_arguments : (o : Option t.Exps) → and_so o (λ xs. Some (Has (gives c) (call_of c xs))) ≡ Some y → gives c ≡ VoidType
              at_arguments None z = absurd (cc z)
              at_arguments (Some xs) z = let same : Has (gives c) (call_of c xs) ≡ y = cc z in void_of (gives c) (call_of c xs) (ap is_value same ∙ v)

  -- ---- parts

  element_cause : (a : ExpressionKind) (here : Span) (i : ExpressionKind) (there span : Span) → (NoValue (typed a) → In AsValue a here) → (NoValue (typed i) → In AsValue i there)
      → and_so (typed a) (λ x. and_so (wanted env IntType (typed i)) (indexed env x)) ≡ None
      → Caused (λ f. IndexCause env at f a here i there span) ⊎ In AsValue a here ⊎ In AsValue i there
  element_cause a here i there span first second h = elim (seen (typed a)) [
    | inl n ↦ inr (inl (first n))
    | inr v ↦ elim (split (wanted env IntType (typed i)) _ (subst (λ o. and_so o (λ x. and_so (wanted env IntType (typed i)) (indexed env x)) ≡ None) v.1 h)) [
      | inl q ↦ elim (wanted_cause IntType i there q) [ inl n ↦ inr (inr (second n)) | inr m ↦ inl (m.0, inr (inl m.1)) ]
      | inr q ↦ elim (no_element env v.0 q.0 q.2) [
        | inl w ↦ (let f = told k.TypeMismatch here in inl (f.0, inl (v.0, v.1, v.2, w, f.1)))
        | inr w ↦ (let f = told k.StructNotComplete span in inl (f.0, inr (inr (v.0, w.0, v.1, w.1, w.2, f.1))))
      ]
    ]
  ]

  pointer_cause : (e : ExpressionKind) (span sign : Span) → (NoValue (typed e) → In AsValue e span) → and_so (typed e) (pointed env) ≡ None → Caused (λ f. PointerCause env at f e span sign) ⊎ In AsValue e span
  pointer_cause e span sign go h = elim (seen (typed e)) [
    | inl n ↦ inr (go n)
    | inr v ↦ inl (by v.0 (is_null v.0) refl v.1 v.2 (subst (λ o. and_so o (pointed env) ≡ None) v.1 h))
  ]
    where
      by : (x : Typing) (b : Bool) → is_null x ≡ b → typed e ≡ Some x → is_value x ≡ true → pointed env x ≡ None → Caused (λ f. PointerCause env at f e span sign)
      by x true w q v z = let f = told k.NullDereference sign in (f.0, (x, q, inl (w, f.1)))
      by x false w q v z = let f = told k.TypeMismatch span in (f.0, (x, q, inr (w, v, z, f.1)))

  dot_cause : (e : ExpressionKind) (here : Span) (x : n.Name) (span : Span) → (typed_place env at (expression_of_kind e) ≡ None → In (AsPlace here) e here)
      → and_so (typed_place env at (expression_of_kind e)) (fielded env (name_of x)) ≡ None → Caused (λ f. DotCause env at f e here x span) ⊎ In (AsPlace here) e here
  dot_cause e here x span go h = elim (split (typed_place env at (expression_of_kind e)) _ h) [
    | inl q ↦ inr (go q)
    | inr q ↦ (let c = no_field env at q.0.resolved here x span q.0.place q.2 in inl (c.0, (q.0, q.1, c.1)))
  ]

  arrow_cause : (e : ExpressionKind) (here : Span) (x : n.Name) (span : Span) → (NoValue (typed e) → In AsValue e here)
      → and_so (and_so (typed e) (pointed env)) (fielded env (name_of x)) ≡ None → Caused (λ f. ArrowCause env at f e here x span) ⊎ In AsValue e here
  arrow_cause e here x span go h = elim (split (and_so (typed e) (pointed env)) _ h) [
    | inl q ↦ elim (pointer_cause e here here go q) [ inl c ↦ inl (c.0, inl c.1) | inr c ↦ inr c ]
    | inr q ↦ elim (two (typed e) refl q.0 q.1) [
      | inl w ↦ absurd w
      | inr w ↦ (let c = no_field env at q.0.resolved here x span q.0.place q.2 in inl (c.0, inr (w.0, q.0, w.1, w.2, c.1)))
    ]
  ]
    where
      two : (o : Option Typing) → typed e ≡ o → (q : Place) → and_so (typed e) (pointed env) ≡ Some q → ⊥ ⊎ ((y : Typing) × (typed e ≡ Some y) × (pointed env y ≡ Some q))
      two None w q h = let z : None ≡ Some q = sym (ap (λ o. and_so o (pointed env)) w) ∙ h in absurd (cc z)
      two (Some y) w q h = inr (y, w, sym (ap (λ o. and_so o (pointed env)) w) ∙ h)

  -- an operand of another type than the operator's, or two that are not compared
  operands_cause : (rule : OperatorRule) (a : ExpressionKind) (here : Span) (b : ExpressionKind) (there : Span) (x y : Typing) → typed a ≡ Some x → is_value x ≡ true → typed b ≡ Some y → is_value y ≡ true
      → operated env rule x y ≡ None
      → Caused (λ f. OperandCause env at f rule a here) ⊎ Caused (λ f. OperandCause env at f rule b there) ⊎ Caused (λ f. ComparedCause env at f rule a here b there)
  operands_cause (OnNumbers i) a here b there x y e v g w h = elim (split (as_wanted env IntType x) _ h) [
    | inl q ↦ inl (mistyped IntType a here x e v q)
    | inr q ↦ elim (split (as_wanted env IntType y) _ q.2) [ inl z ↦ inr (inl (mistyped IntType b there y g w z)) | inr z ↦ absurd (cc z.2) ]
  ]
  operands_cause (Compares r) a here b there x y e v g w h = inr (inr (by (is_comparable r x) refl))
    where
      by : (c : Bool) → is_comparable r x ≡ c → Caused (λ f. ComparedCause env at f (Compares r) a here b there)
      by true q = let f = told k.TypeMismatch there in (f.0, inr (x, y, e, g, v, w, q, h, f.1))
      by false q = let f = told k.TypeMismatch here in (f.0, inl (x, e, v, q, f.1))
  operands_cause Conjunction a here b there x y e v g w h = elim (split (as_wanted env BoolType x) _ h) [
    | inl q ↦ inl (mistyped BoolType a here x e v q)
    | inr q ↦ elim (split (as_wanted env BoolType y) _ q.2) [ inl z ↦ inr (inl (mistyped BoolType b there y g w z)) | inr z ↦ absurd (cc z.2) ]
  ]
  operands_cause Disjunction a here b there x y e v g w h = elim (split (as_wanted env BoolType x) _ h) [
    | inl q ↦ inl (mistyped BoolType a here x e v q)
    | inr q ↦ elim (split (as_wanted env BoolType y) _ q.2) [ inl z ↦ inr (inl (mistyped BoolType b there y g w z)) | inr z ↦ absurd (cc z.2) ]
  ]

  prefix_mistyped : (position : Position) (op : PrefixOperator) (e : ExpressionKind) (here : Span) (whole : ExpressionKind) (span : Span) (x : Typing) → (op ≡ o.Dereference → ⊥) → typed e ≡ Some x → is_value x ≡ true
      → prefixed env op x ≡ None → Caused (λ f. PrefixCause env at f position op e here whole span)
  prefix_mistyped position o.Not e here whole span x d q v h = elim (split (as_wanted env BoolType x) _ h) [ inl w ↦ (let m = mistyped BoolType e here x q v w in (m.0, inl m.1)) | inr w ↦ absurd (cc w.2) ]
  prefix_mistyped position o.Complement e here whole span x d q v h = elim (split (as_wanted env IntType x) _ h) [ inl w ↦ (let m = mistyped IntType e here x q v w in (m.0, inl m.1)) | inr w ↦ absurd (cc w.2) ]
  prefix_mistyped position o.Negate e here whole span x d q v h = elim (split (as_wanted env IntType x) _ h) [ inl w ↦ (let m = mistyped IntType e here x q v w in (m.0, inl m.1)) | inr w ↦ absurd (cc w.2) ]
  prefix_mistyped position o.Dereference e here whole span x d q v h = absurd (d refl)

  -- ---- by form

  -- an expression that is no place by its form
  abbrev NonPlace : ExpressionKind → Type 0
  NonPlace (Parenthesized' p e here) = ⊥
  NonPlace (Index' p a here q i there) = ⊥
  NonPlace (Field' p e here x) = ⊥
  NonPlace (PointerField' p e here x) = ⊥
  NonPlace (Unary' o.Dereference p e here) = ⊥
  NonPlace _ = Unit {0}

  with_place : (e : ExpressionKind) (span whole : Span) → NonPlace e → Caused (λ f. NoPlace env at f (AsPlace whole) e span) → In (AsPlace whole) e span
  with_place (Number m) span whole form c = c
  with_place (Character i) span whole form c = (c.0, inr c.1)
  with_place (Truth b) span whole form c = c
  with_place Null span whole form c = c
  with_place (Text text) span whole form c = c
  with_place (Variable x) span whole form c = (c.0, inr c.1)
  with_place (Parenthesized' p e here) span whole form c = absurd form
  with_place (Call' x shape es) span whole form c = (c.0, inr (inr (inl c.1)))
  with_place (Alloc ty) span whole form c = (c.0, inr c.1)
  with_place (AllocArray' ty p e here) span whole form c = (c.0, inr (inr (inl c.1)))
  with_place Result span whole form c = (c.0, inr c.1)
  with_place (Length' p e here) span whole form c = (c.0, inr (inl c.1))
  with_place (Index' p a here q i there) span whole form c = absurd form
  with_place (Field' p e here x) span whole form c = absurd form
  with_place (PointerField' p e here x) span whole form c = absurd form
  with_place (Unary' o.Not p e here) span whole form c = (c.0, inl (inr c.1))
  with_place (Unary' o.Complement p e here) span whole form c = (c.0, inl (inr c.1))
  with_place (Unary' o.Negate p e here) span whole form c = (c.0, inl (inr c.1))
  with_place (Unary' o.Dereference p e here) span whole form c = absurd form
  with_place (Binary' op p a here q b there) span whole form c = (c.0, inr (inr (inr (inl c.1))))
  with_place (Conditional' p i here q a there r b beyond) span whole form c = (c.0, inr (inr (inl c.1)))

  -- what is left where a first part has a value
  after : {A : Type 0} (o : Option A) (a : A) (go : A → Option Typing) → o ≡ Some a → NoValue (and_so o go) → NoValue (go a)
  after o a go e h = subst (λ z. NoValue (and_so z go)) e h

  unary_cause : (position : Position) (op : PrefixOperator) (e : ExpressionKind) (here : Span) (whole : ExpressionKind) (span : Span) → (op ≡ o.Dereference → ⊥) → (NoValue (typed e) → In AsValue e here) → NoValue (and_so (typed e) (prefixed env op))
      → Caused (λ f. PrefixCause env at f position op e here whole span ⊎ InExpression env at f AsValue e here)
  unary_cause position op e here whole span d go h = elim (seen (typed e)) [
    | inl n ↦ (let c = go n in (c.0, inr c.1))
    | inr v ↦ (let c = prefix_mistyped position op e here whole span v.0 d v.1 v.2 (none_of (prefixed env op v.0) (prefixed_value env op v.0 d) (after (typed e) v.0 (prefixed env op) v.1 h)) in (c.0, inl c.1))
  ]

  module _ (few : (x : Name) → AllSome (λ l. is_small l.resolved ≡ true) (local_of at.locals x)) (fine : AllSome (λ r. is_small r ≡ true) at.result) where
    variable_cause : (x : n.Name) → NoValue (and_so (local_of at.locals (name_of x)) (λ l. Some (Has l.resolved (t.Local l.number)))) → local_of at.locals (name_of x) ≡ None
    variable_cause x h = by (local_of at.locals (name_of x)) (few (name_of x)) h
      where
        by : (l : Option Local) → AllSome (λ l. is_small l.resolved ≡ true) l → NoValue (and_so l (λ l. Some (Has l.resolved (t.Local l.number)))) → l ≡ None
        by None f h = refl
        by (Some l) f h = let z : true ≡ false = sym (small_value l.resolved (t.Local l.number) f) ∙ h in absurd (cc z)

    result_cause : (r : Option ResolvedType) → AllSome (λ r. is_small r ≡ true) r → NoValue (and_so r (λ r. Some (Has r (t.Local 0)))) → r ≡ None
    result_cause None f h = refl
    result_cause (Some r) f h = let z : true ≡ false = sym (small_value r (t.Local 0) f) ∙ h in absurd (cc z)

    -- an expression without a value has a cause in it, and so has one that is no place
    abbrev pub Both : ExpressionKind → Span → Type 0
    Both e span = (NoValue (typed e) → In AsValue e span) × ((whole : Span) → typed_place env at (expression_of_kind e) ≡ None → In (AsPlace whole) e span)

    -- of a form that is no place
    no_place_form : (e : ExpressionKind) (span : Span) → NonPlace e → ((position : Position) → NoValue (typed e) → In position e span) → Both e span
    no_place_form e span form go = (go AsValue, λ whole h. elim (seen (typed e)) [ inl z ↦ go (AsPlace whole) z | inr v ↦ with_place e span whole form (no_place e span whole v.0 v.1 v.2) ])

    character_cause : (position : Position) (c : ℕ) (span : Span) → NoValue (typed (Character c)) → In position (Character c) span
    character_cause position c span h = by (nat_lt c 128) refl h
      where
        by : (b : Bool) → nat_lt c 128 ≡ b → NoValue (provided b (Some (Has CharType (t.Constant (v.Letter c))))) → In position (Character c) span
        by true e h = absurd (cc h)
        by false e h = let f = told k.BadToken span in (f.0, inl (e, f.1))

    variable_in : (position : Position) (x : n.Name) (span : Span) → NoValue (typed (Variable x)) → In position (Variable x) span
    variable_in position x span h = let f = told k.UnknownName x.span in (f.0, inl (variable_cause x h, f.1))

    alloc_in : (position : Position) (ty : u.ValueType) (span : Span) → NoValue (typed (Alloc ty)) → In position (Alloc ty) span
    alloc_in position ty span h = elim (split_typing (held_type env (type_of ty)) _ h) [
      | inl q ↦ (let c = held_cause env ty q in (c.0, inl c.1))
      | inr q ↦ absurd (cc q.2)
    ]

    result_in : (position : Position) (span : Span) → NoValue (typed Result) → In position Result span
    result_in position span h = let f = told k.BadContract span in (f.0, inl (result_cause at.result fine h, f.1))

    -- the length of an array e, or so many cells
    array_in : (position : Position) (ty : u.ValueType) (p : _) (e : ExpressionKind) (here span : Span) → (NoValue (typed e) → In AsValue e here) → NoValue (typed (AllocArray' ty p e here)) → In position (AllocArray' ty p e here) span
    array_in position ty p e here span go h = elim (split_typing (held_type env (type_of ty)) _ h) [
      | inl q ↦ (let c = held_cause env ty q in (c.0, inl c.1))
      | inr q ↦ elim (split_typing (wanted env IntType (typed e)) _ q.2) [
        | inl w ↦ elim (wanted_cause IntType e here w) [ inl z ↦ (let c = go z in (c.0, inr (inr (inr c.1)))) | inr c ↦ (c.0, inr (inl c.1)) ]
        | inr w ↦ absurd (cc w.2)
      ]
    ]

    length_in : (position : Position) (p : _) (e : ExpressionKind) (here span : Span) → (NoValue (typed e) → In AsValue e here) → NoValue (typed (Length' p e here)) → In position (Length' p e here) span
    length_in position p e here span go h = elim (seen (typed e)) [
      | inl z ↦ (let c = go z in (c.0, inr (inr c.1)))
      | inr v ↦ (let f = told k.TypeMismatch here in (f.0, inl (v.0, v.1, v.2, none_of (lengthed env v.0) (lengthed_value env v.0) (after (typed e) v.0 (lengthed env) v.1 h), f.1)))
    ]

    binary_in : (position : Position) (op : _) (p : _) (a : ExpressionKind) (here : Span) (q : _) (b : ExpressionKind) (there span : Span) → (NoValue (typed a) → In AsValue a here) → (NoValue (typed b) → In AsValue b there)
        → NoValue (typed (Binary' op p a here q b there)) → In position (Binary' op p a here q b there) span
    binary_in position op p a here q b there span first second h = elim (seen (typed a)) [
      | inl z ↦ (let c = first z in (c.0, inr (inr (inr (inr (inl c.1))))))
      | inr v ↦ elim (seen (typed b)) [
        | inl z ↦ (let c = second z in (c.0, inr (inr (inr (inr (inr c.1))))))
        | inr w ↦ elim (operands_cause (operator_rule op) a here b there v.0 w.0 v.1 v.2 w.1 w.2
            (none_of (operated env (operator_rule op) v.0 w.0) (operated_value env (operator_rule op) v.0 w.0)
            (after (typed b) w.0 (operated env (operator_rule op) v.0) w.1 (after (typed a) v.0 (λ x. and_so (typed b) (operated env (operator_rule op) x)) v.1 h)))) [
              | inl c ↦ (c.0, inl c.1)
              | inr (inl c) ↦ (c.0, inr (inl c.1))
              | inr (inr c) ↦ (c.0, inr (inr (inl c.1)))
            ]
      ]
    ]

    conditional_in : (position : Position) (p : _) (i : ExpressionKind) (here : Span) (q : _) (a : ExpressionKind) (there : Span) (r : _) (b : ExpressionKind) (beyond span : Span)
        → (NoValue (typed i) → In AsValue i here) → (NoValue (typed a) → In AsValue a there) → (NoValue (typed b) → In AsValue b beyond)
        → NoValue (typed (Conditional' p i here q a there r b beyond)) → In position (Conditional' p i here q a there r b beyond) span
    conditional_in position p i here q a there r b beyond span first second third h = elim (split_typing (wanted env BoolType (typed i)) _ h) [
      | inl w ↦ elim (wanted_cause BoolType i here w) [ inl z ↦ (let c = first z in (c.0, inr (inr (inr (inl c.1))))) | inr c ↦ (c.0, inl c.1) ]
      | inr y ↦ elim (seen (typed a)) [
        | inl z ↦ (let c = second z in (c.0, inr (inr (inr (inr (inl c.1))))))
        | inr v ↦ elim (seen (typed b)) [
          | inl z ↦ (let c = third z in (c.0, inr (inr (inr (inr (inr c.1))))))
          | inr w ↦ (let f = told k.TypeMismatch beyond in (
            f.0,
            inr (inl (
              v.0,
              w.0,
              v.1,
              w.1,
              v.2,
              w.2,
              none_common env y.0 v.0 w.0
                  (none_of (chosen env y.0 v.0 w.0) (chosen_value env y.0 v.0 w.0)
                  (after (typed b) w.0 (chosen env y.0 v.0) w.1 (after (typed a) v.0 (λ x. and_so (typed b) (chosen env y.0 x)) v.1 y.2))),
              f.1,
            )),
          ))
        ]
      ]
    ]

    -- a form that is a place has a value where the place is small
    index_in : (position : Position) (p : _) (a : ExpressionKind) (here : Span) (q : _) (i : ExpressionKind) (there span : Span) → (NoValue (typed a) → In AsValue a here) → (NoValue (typed i) → In AsValue i there)
        → typed_place env at (expression_of_kind (Index' p a here q i there)) ≡ None → In position (Index' p a here q i there) span
    index_in position p a here q i there span first second h = elim (element_cause a here i there span first second h) [
      | inl c ↦ (c.0, inl c.1)
      | inr (inl c) ↦ (c.0, inr (inr (inl c.1)))
      | inr (inr c) ↦ (c.0, inr (inr (inr c.1)))
    ]

    field_in : (position : Position) (p : _) (e : ExpressionKind) (here : Span) (x : n.Name) (span : Span) → (typed_place env at (expression_of_kind e) ≡ None → In (AsPlace here) e here)
        → typed_place env at (expression_of_kind (Field' p e here x)) ≡ None → In position (Field' p e here x) span
    field_in position p e here x span go h = elim (dot_cause e here x span go h) [ inl c ↦ (c.0, inl c.1) | inr c ↦ (c.0, inr (inr c.1)) ]

    pointer_field_in : (position : Position) (p : _) (e : ExpressionKind) (here : Span) (x : n.Name) (span : Span) → (NoValue (typed e) → In AsValue e here)
        → typed_place env at (expression_of_kind (PointerField' p e here x)) ≡ None → In position (PointerField' p e here x) span
    pointer_field_in position p e here x span go h = elim (arrow_cause e here x span go h) [ inl c ↦ (c.0, inl c.1) | inr c ↦ (c.0, inr (inr c.1)) ]

    dereference_in : (position : Position) (p : _) (e : ExpressionKind) (here span : Span) → (NoValue (typed e) → In AsValue e here)
        → typed_place env at (expression_of_kind (Unary' o.Dereference p e here)) ≡ None → In position (Unary' o.Dereference p e here) span
    dereference_in position p e here span go h = elim (pointer_cause e here span go h) [ inl c ↦ (c.0, inl (inl c.1)) | inr c ↦ (c.0, inr c.1) ]

    index_value : (p : _) (a : ExpressionKind) (here : Span) (q : _) (i : ExpressionKind) (there span : Span) → (typed_place env at (expression_of_kind (Index' p a here q i there)) ≡ None → In AsValue (Index' p a here q i there) span)
        → NoValue (typed (Index' p a here q i there)) → In AsValue (Index' p a here q i there) span
    index_value p a here q i there span go h = elim (split_typing (typed_place env at (expression_of_kind (Index' p a here q i there))) (read_of env) h) [
      | inl w ↦ go w
      | inr w ↦ (let c = struct_value (Index' p a here q i there) span w.0 w.1 w.2 in (c.0, inr (inl c.1)))
    ]

    field_value : (p : _) (e : ExpressionKind) (here : Span) (x : n.Name) (span : Span) → (typed_place env at (expression_of_kind (Field' p e here x)) ≡ None → In AsValue (Field' p e here x) span)
        → NoValue (typed (Field' p e here x)) → In AsValue (Field' p e here x) span
    field_value p e here x span go h = elim (split_typing (typed_place env at (expression_of_kind (Field' p e here x))) (read_of env) h) [
      | inl w ↦ go w
      | inr w ↦ (let c = struct_value (Field' p e here x) span w.0 w.1 w.2 in (c.0, inr (inl c.1)))
    ]

    pointer_field_value : (p : _) (e : ExpressionKind) (here : Span) (x : n.Name) (span : Span) → (typed_place env at (expression_of_kind (PointerField' p e here x)) ≡ None → In AsValue (PointerField' p e here x) span)
        → NoValue (typed (PointerField' p e here x)) → In AsValue (PointerField' p e here x) span
    pointer_field_value p e here x span go h = elim (split_typing (typed_place env at (expression_of_kind (PointerField' p e here x))) (read_of env) h) [
      | inl w ↦ go w
      | inr w ↦ (let c = struct_value (PointerField' p e here x) span w.0 w.1 w.2 in (c.0, inr (inl c.1)))
    ]

    dereference_value : (p : _) (e : ExpressionKind) (here span : Span) → (typed_place env at (expression_of_kind (Unary' o.Dereference p e here)) ≡ None → In AsValue (Unary' o.Dereference p e here) span)
        → NoValue (typed (Unary' o.Dereference p e here)) → In AsValue (Unary' o.Dereference p e here) span
    dereference_value p e here span go h = elim (split_typing (and_so (typed e) (pointed env)) (read_of env) (joined (typed e) (pointed env) (read_of env) h)) [
      | inl w ↦ go w
      | inr w ↦ (let c = struct_value (Unary' o.Dereference p e here) span w.0 w.1 w.2 in (c.0, inl (inr c.1)))
    ]

    mutual
      pub both : (e : ExpressionKind) (span : Span) → Both e span
      both (Number m) span = no_place_form (Number m) span tt (λ position h. absurd (cc h))
      both (Character c) span = no_place_form (Character c) span tt (λ position h. character_cause position c span h)
      both (Truth b) span = no_place_form (Truth b) span tt (λ position h. absurd (cc h))
      both Null span = no_place_form Null span tt (λ position h. absurd (cc h))
      both (Text text) span = no_place_form (Text text) span tt (λ position h. absurd (cc h))
      both (Variable x) span = no_place_form (Variable x) span tt (λ position h. variable_in position x span h)
      both (Parenthesized' p e here) span = both e here
      both (Call' x shape es) span = no_place_form (Call' x shape es) span tt (λ position h. elim (called_cause x es span (λ us q. arguments_cause es us q) h) [ inl c ↦ (c.0, inl c.1) | inr (inl c) ↦ (c.0, inr (inl c.1)) | inr (inr c) ↦ (c.0, inr (inr (inr c.1))) ])
      both (Alloc ty) span = no_place_form (Alloc ty) span tt (λ position h. alloc_in position ty span h)
      both (AllocArray' ty p e here) span = no_place_form (AllocArray' ty p e here) span tt (λ position h. array_in position ty p e here span (both e here).0 h)
      both Result span = no_place_form Result span tt (λ position h. result_in position span h)
      both (Length' p e here) span = no_place_form (Length' p e here) span tt (λ position h. length_in position p e here span (both e here).0 h)
      both (Index' p a here q i there) span = (
        λ h. index_value p a here q i there span (λ z. index_in AsValue p a here q i there span (both a here).0 (both i there).0 z) h,
        λ whole h. index_in (AsPlace whole) p a here q i there span (both a here).0 (both i there).0 h,
      )
      both (Field' p e here x) span = (
        λ h. field_value p e here x span (λ z. field_in AsValue p e here x span ((both e here).1 here) z) h,
        λ whole h. field_in (AsPlace whole) p e here x span ((both e here).1 here) h,
      )
      both (PointerField' p e here x) span = (
        λ h. pointer_field_value p e here x span (λ z. pointer_field_in AsValue p e here x span (both e here).0 z) h,
        λ whole h. pointer_field_in (AsPlace whole) p e here x span (both e here).0 h,
      )
      both (Unary' o.Not p e here) span =
          no_place_form (Unary' o.Not p e here) span tt (λ position h. unary_cause position o.Not e here (Unary' o.Not p e here) span (λ q. absurd (cc q)) (both e here).0 h)
      both (Unary' o.Complement p e here) span =
          no_place_form (Unary' o.Complement p e here) span tt (λ position h. unary_cause position o.Complement e here (Unary' o.Complement p e here) span (λ q. absurd (cc q)) (both e here).0 h)
      both (Unary' o.Negate p e here) span =
          no_place_form (Unary' o.Negate p e here) span tt (λ position h. unary_cause position o.Negate e here (Unary' o.Negate p e here) span (λ q. absurd (cc q)) (both e here).0 h)
      both (Unary' o.Dereference p e here) span = (
        λ h. dereference_value p e here span (λ z. dereference_in AsValue p e here span (both e here).0 z) h,
        λ whole h. dereference_in (AsPlace whole) p e here span (both e here).0 h,
      )
      both (Binary' op p a here q b there) span = no_place_form (Binary' op p a here q b there) span tt (λ position h. binary_in position op p a here q b there span (both a here).0 (both b there).0 h)
      both (Conditional' p i here q a there r b beyond) span =
          no_place_form (Conditional' p i here q a there r b beyond) span tt (λ position h. conditional_in position p i here q a there r b beyond span (both i here).0 (both a there).0 (both b beyond).0 h)

      pub arguments_cause : {m : _} (es : Row_of-Expression m) (us : List ResolvedType) → typed_arguments env at (row_of es) us ≡ None → Arguments es us
      arguments_cause end_of-Expression [] h = absurd (cc h)
      arguments_cause end_of-Expression (w ∷ us) h = inl (λ q. absurd (cc q))
      arguments_cause (more_of-Expression e span rest) [] h = inl (λ q. absurd (cc q))
      arguments_cause (more_of-Expression e span rest) (w ∷ us) h = elim (split (wanted env w (typed e)) _ h) [
        | inl q ↦ elim (wanted_cause w e span q) [ inl z ↦ (let c = (both e span).0 z in inr (inr (c.0, inl c.1))) | inr c ↦ inr (inl (c.0, inl c.1)) ]
        | inr q ↦ elim (split (typed_arguments env at (row_of rest) us) _ q.2) [
          | inl w ↦ elim (arguments_cause rest us w) [ inl d ↦ inl (λ z. d (cc z)) | inr (inl c) ↦ inr (inl (c.0, inr c.1)) | inr (inr c) ↦ inr (inr (c.0, inr c.1)) ]
          | inr w ↦ absurd (cc w.2)
        ]
      ]
