-- An expression in which a fault has its cause has no value, and is no place.
use Rattle.std.proofs.Common.{◌≡◌, ◌≢◌, inl, inr, suc, List, [], ◌∷◌, length, refl, sym, ap, ◌∙◌, subst, true, false, Option, Some, None}
use Rattle.std.specs.Prelude.{◌&&◌, nat_lt, option_map}
use Rattle.c0_source.specs.declared.fault.Fault.{Fault}
use Rattle.c0_source.specs.declared.fault.Span.{Span}
use Rattle.c0_syntax.specs.declared.operator.PrefixOperator.{PrefixOperator}
use Rattle.c0_syntax.specs.declared.operator.PrefixOperator.TheVariants as o
use Rattle.c0_syntax.specs.declared.name.Name as n
use Rattle.c0_syntax.specs.declared.value_type.ValueType as u
use Rattle.c0_syntax.specs.declared.value_type.TypeKind.{TypeKind, Basic, Struct, Named, Pointer', Array'}
use Rattle.c0_syntax.specs.declared.expression.ExpressionKind.{ExpressionKind, Row_of-Expression, end_of-Expression, more_of-Expression, Number, Character, Truth, Null, Text, Variable, Parenthesized', Call', Alloc, AllocArray', Result, Length', Index', Field', PointerField', Unary', Binary', Conditional'}
use Rattle.c0_syntax.specs.Views.{name_of, type_of, type_of_kind, expression_of_kind, row_of}
use Rattle.c0_typed.specs.Trees as t
use Rattle.c0_rules.specs.Types.{and_so, Name, Table, ResolvedType, VoidType, IntType, BoolType, StructNamed, PointerTo, ArrayOf, same_type, is_small, resolved_type, Signature, Environment, cells_of, output_takes, output_named}
use Rattle.c0_rules.specs.Expressions.{OperatorRule, OnNumbers, Compares, Conjunction, Disjunction, operator_rule, is_compared, is_equality, Typing, Has, IsNull, Context, Callee, takes, gives, call_of, null_as, as_wanted, wanted, compared, operated, chosen, pointed, indexed, field_at, fielded, read_of, dereferenced, prefixed, lengthed, held_type, callee_or, callee, typed_expression, typed_place, typed_arguments}
use Rattle.c0_rules.specs.FaultExpressions.{AsValue, AsPlace, TypeCause, HeldTypeCause, is_value, is_null, is_pointer, has_common, element_of, argument_count, Mistyped, MistypedArgument, CallCause, VoidCall, ComparedCause, OperandCause, PointerCause, IndexCause, FieldCause, DotCause, ArrowCause, StructValue, PrefixCause, InExpression, InArguments}
use Rattle.c0_rules.proofs.Comparisons.{not_compared}
use Rattle.c0_rules.proofs.Rules.{AllSome, all_go, some_has}
use Rattle.c0_rules.proofs.Statements.{AllSmall}
use Rattle.c0_rules_faults.proofs.Refused.{and_none, and_each, and_at, and_and, provided_none, provided_false, and_false, NoValue, no_value, and_void, wanted_none, small_none}

-- the parameters of all functions are small
abbrev pub TakeSmall : Environment → Type 0
TakeSmall env = (n : Name) (f : Signature) → env.functions n ≡ Some f → AllSmall f.parameters

-- ---- types

pub type_none : (typedefs : Table ResolvedType) (fault : Fault) (kind : TypeKind) (span : Span) → TypeCause typedefs fault kind span → resolved_type typedefs (type_of_kind kind) ≡ None
type_none typedefs fault (Basic base) span h = h.0
type_none typedefs fault (Struct x) span h = absurd h
type_none typedefs fault (Named x) span h = h.0
type_none typedefs fault (Pointer' p kind at) span h = ap (option_map PointerTo) (type_none typedefs fault kind at h)
type_none typedefs fault (Array' p kind at) span h = ap (option_map ArrayOf) (type_none typedefs fault kind at h)

pub held_none : (env : Environment) (fault : Fault) (ty : u.ValueType) → HeldTypeCause env fault ty → held_type env (type_of ty) ≡ None
held_none env fault ty (inl h) = and_none _ _ (type_none env.typedefs fault ty.kind ty.span h)
held_none env fault ty (inr h) = and_at (resolved_type env.typedefs (type_of ty)) h.0 _ h.1 (and_none _ _ h.2)

-- ---- operators

null_none : (env : Environment) (r : ResolvedType) (e : t.Exp) → is_pointer r ≡ false → null_as env r e ≡ None
null_none env (PointerTo r) e h = absurd (cc h)
null_none env _ e h = refl

void_compared : (r : t.Relation) → is_compared r VoidType ≡ false
void_compared t.Equal = refl
void_compared t.Unequal = refl
void_compared t.Below = refl
void_compared t.AtMost = refl
void_compared t.Above = refl
void_compared t.AtLeast = refl

with_void : (r : t.Relation) (a : ResolvedType) → (same_type a VoidType && is_compared r a) ≡ false
with_void r VoidType = void_compared r
with_void r _ = refl

compared_left : (env : Environment) (r : t.Relation) (e : t.Exp) (y : Typing) → compared env r (Has VoidType e) y ≡ None
compared_left env r e (Has b z) = provided_false _ _ (and_false (same_type VoidType b) (is_compared r VoidType) (void_compared r))
compared_left env r e (IsNull z) = provided_none (is_equality r) _ refl

compared_right : (env : Environment) (r : t.Relation) (x : Typing) (e : t.Exp) → compared env r x (Has VoidType e) ≡ None
compared_right env r (Has a z) e = provided_false _ _ (with_void r a)
compared_right env r (IsNull z) e = provided_none (is_equality r) _ refl

operated_left : (env : Environment) (rule : OperatorRule) (e : t.Exp) (y : Typing) → operated env rule (Has VoidType e) y ≡ None
operated_left env (OnNumbers k) e y = refl
operated_left env (Compares r) e y = compared_left env r e y
operated_left env Conjunction e y = refl
operated_left env Disjunction e y = refl

operated_right : (env : Environment) (rule : OperatorRule) (x : Typing) (e : t.Exp) → operated env rule x (Has VoidType e) ≡ None
operated_right env (OnNumbers k) x e = and_each (as_wanted env IntType x) _ (λ a q. refl)
operated_right env (Compares r) x e = compared_right env r x e
operated_right env Conjunction x e = and_each (as_wanted env BoolType x) _ (λ a q. refl)
operated_right env Disjunction x e = and_each (as_wanted env BoolType x) _ (λ a q. refl)

chosen_none : (env : Environment) (z : t.Exp) (x y : Typing) → has_common x y ≡ false → chosen env z x y ≡ None
chosen_none env z (Has a x) (Has b y) h = provided_false (same_type a b && is_small a) _ h
chosen_none env z (Has a x) (IsNull y) h = and_none _ _ (null_none env a y h)
chosen_none env z (IsNull x) (Has b y) h = and_none _ _ (null_none env b x h)
chosen_none env z (IsNull x) (IsNull y) h = absurd (cc h)

small_void : (a : ResolvedType) → (same_type a VoidType && is_small a) ≡ false
small_void VoidType = refl
small_void _ = refl

chosen_left : (env : Environment) (z e : t.Exp) (y : Typing) → chosen env z (Has VoidType e) y ≡ None
chosen_left env z e (Has b y) = provided_false _ _ (and_false (same_type VoidType b) false refl)
chosen_left env z e (IsNull y) = refl

chosen_right : (env : Environment) (z : t.Exp) (x : Typing) (e : t.Exp) → chosen env z x (Has VoidType e) ≡ None
chosen_right env z (Has a x) e = provided_false _ _ (small_void a)
chosen_right env z (IsNull x) e = refl

prefixed_void : (env : Environment) (op : PrefixOperator) (e : t.Exp) → prefixed env op (Has VoidType e) ≡ None
prefixed_void env o.Not e = refl
prefixed_void env o.Complement e = refl
prefixed_void env o.Negate e = refl
prefixed_void env o.Dereference e = refl

null_pointed : (env : Environment) (x : Typing) → is_null x ≡ true → pointed env x ≡ None
null_pointed env (IsNull e) h = refl
null_pointed env (Has r e) h = absurd (cc h)

indexed_none : (env : Environment) (x : Typing) (k : t.Exp) → element_of x ≡ None → indexed env x k ≡ None
indexed_none env (Has (ArrayOf r) e) k h = absurd (cc h)
indexed_none env _ k h = refl

indexed_part : (env : Environment) (x : Typing) (k : t.Exp) (r : ResolvedType) → element_of x ≡ Some r → cells_of env.structs r ≡ None → indexed env x k ≡ None
indexed_part env (Has (ArrayOf a) e) k r h n = let q : a ≡ r = cc h in and_none _ _ (subst (λ z. cells_of env.structs z ≡ None) (sym q) n)
indexed_part env _ k r h n = refl

outputs_small : (k : t.Output) → AllSmall (output_takes k)
outputs_small t.Print = (refl, tt)
outputs_small t.Println = (refl, tt)
outputs_small t.Printint = (refl, tt)
outputs_small t.Printbool = (refl, tt)
outputs_small t.Printchar = (refl, tt)
outputs_small t.Flush = tt

module _ (env : Environment) (at : Context) (fault : Fault) (small : TakeSmall env) where
  -- what the rules give of an expression
  abbrev typed : ExpressionKind → Option Typing
  typed e = typed_expression env at (expression_of_kind e)

  pub mistyped : (want : ResolvedType) (e : ExpressionKind) (span : Span) → Mistyped env at fault want e span → wanted env want (typed e) ≡ None
  mistyped want e span h = and_at (typed e) h.0 (as_wanted env want) h.1 h.3

  mistyped_argument : {m : _} (es : Row_of-Expression m) (us : List ResolvedType) → MistypedArgument env at fault es us → typed_arguments env at (row_of es) us ≡ None
  mistyped_argument end_of-Expression us h = absurd h
  mistyped_argument (more_of-Expression e span rest) [] h = absurd h
  mistyped_argument (more_of-Expression e span rest) (v ∷ us) (inl h) = and_none _ _ (mistyped v e span h)
  mistyped_argument (more_of-Expression e span rest) (v ∷ us) (inr h) = and_each (wanted env v (typed e)) _ (λ x q. and_none _ _ (mistyped_argument rest us h))

  wrong_count : {m : _} (es : Row_of-Expression m) (us : List ResolvedType) → argument_count es ≢ length us → typed_arguments env at (row_of es) us ≡ None
  wrong_count end_of-Expression [] d = absurd (d refl)
  wrong_count end_of-Expression (v ∷ us) d = refl
  wrong_count (more_of-Expression e span rest) [] d = refl
  wrong_count (more_of-Expression e span rest) (v ∷ us) d = and_each (wanted env v (typed e)) _ (λ x q. and_none _ _ (wrong_count rest us (λ h. d (ap suc h))))

  takes_small : (name : Name) (c : Callee) → callee env name ≡ Some c → AllSmall (takes c)
  takes_small name c e = some_has (λ z. AllSmall (takes z)) (callee env name) c (by_output (output_named env.conio name)) e
    where
      by_output : (k : Option t.Output) → AllSome (λ z. AllSmall (takes z)) (callee_or env name k)
      by_output (Some k) = outputs_small k
      by_output None = all_go (λ z. AllSmall (takes z)) (env.functions name) _ (λ f q. small name f q)

  abbrev called : {m : _} → n.Name → Row_of-Expression m → Option Typing
  called x es = and_so (callee env (name_of x)) (λ c. and_so (typed_arguments env at (row_of es) (takes c)) (λ xs. Some (Has (gives c) (call_of c xs))))

  pub call_none : {m : _} (x : n.Name) (es : Row_of-Expression m) (span : Span) → CallCause env at fault x es span → called x es ≡ None
  call_none x es span (inl h) = and_none _ _ h.0
  call_none x es span (inr h) =
      and_at (callee env (name_of x)) h.0 _ h.1 (and_none _ _ (elim h.2 [ inl k ↦ wrong_count es (takes h.0) k.0 | inr k ↦ mistyped_argument es (takes h.0) k ]))

  void_call : {m : _} (x : n.Name) (es : Row_of-Expression m) (span : Span) → VoidCall env at fault x span → NoValue (called x es)
  void_call x es span h =
      all_go (λ z. is_value z ≡ false) (callee env (name_of x)) _ (λ c q.
      let same : h.0 ≡ c = (let z : Some h.0 ≡ Some c = sym h.1 ∙ q in cc z) in
      all_go (λ z. is_value z ≡ false) (typed_arguments env at (row_of es) (takes c)) _ (λ xs r.
      subst (λ (g : ResolvedType). is_value (Has g (call_of c xs)) ≡ false) (sym (ap gives (sym same) ∙ h.2)) refl))

  operand_left : (rule : OperatorRule) (e : ExpressionKind) (span : Span) (b : Option Typing) → OperandCause env at fault rule e span → and_so (typed e) (λ x. and_so b (operated env rule x)) ≡ None
  operand_left (OnNumbers k) e span b h = and_at (typed e) h.0 _ h.1 (and_each b _ (λ y q. and_none _ _ h.3))
  operand_left (Compares r) e span b h = absurd h
  operand_left Conjunction e span b h = and_at (typed e) h.0 _ h.1 (and_each b _ (λ y q. and_none _ _ h.3))
  operand_left Disjunction e span b h = and_at (typed e) h.0 _ h.1 (and_each b _ (λ y q. and_none _ _ h.3))

  operand_right : (rule : OperatorRule) (e : ExpressionKind) (span : Span) (x : Typing) → OperandCause env at fault rule e span → and_so (typed e) (operated env rule x) ≡ None
  operand_right (OnNumbers k) e span x h = and_at (typed e) h.0 _ h.1 (and_each (as_wanted env IntType x) _ (λ a q. and_none _ _ h.3))
  operand_right (Compares r) e span x h = absurd h
  operand_right Conjunction e span x h = and_at (typed e) h.0 _ h.1 (and_each (as_wanted env BoolType x) _ (λ a q. and_none _ _ h.3))
  operand_right Disjunction e span x h = and_at (typed e) h.0 _ h.1 (and_each (as_wanted env BoolType x) _ (λ a q. and_none _ _ h.3))

  none_compared : (rule : OperatorRule) (a : ExpressionKind) (here : Span) (b : ExpressionKind) (there : Span) → ComparedCause env at fault rule a here b there
      → and_so (typed a) (λ x. and_so (typed b) (operated env rule x)) ≡ None
  none_compared (Compares r) a here b there (inl h) = and_at (typed a) h.0 _ h.1 (and_each (typed b) _ (λ y q. not_compared env r h.0 y h.3))
  none_compared (Compares r) a here b there (inr h) = and_at (typed a) h.0 _ h.2 (and_at (typed b) h.1 _ h.3 h.7)
  none_compared (OnNumbers k) a here b there h = absurd h
  none_compared Conjunction a here b there h = absurd h
  none_compared Disjunction a here b there h = absurd h

  no_pointer : (e : ExpressionKind) (span sign : Span) → PointerCause env at fault e span sign → and_so (typed e) (pointed env) ≡ None
  no_pointer e span sign h = and_at (typed e) h.0 _ h.1 (elim h.2 [ inl k ↦ null_pointed env h.0 k.0 | inr k ↦ k.2 ])

  no_element : (a : ExpressionKind) (here : Span) (i : ExpressionKind) (there span : Span) → IndexCause env at fault a here i there span
      → and_so (typed a) (λ x. and_so (wanted env IntType (typed i)) (indexed env x)) ≡ None
  no_element a here i there span (inl h) = and_at (typed a) h.0 _ h.1 (and_each _ _ (λ k q. indexed_none env h.0 k h.3))
  no_element a here i there span (inr (inl h)) = and_each (typed a) _ (λ x q. and_none _ _ (mistyped IntType i there h))
  no_element a here i there span (inr (inr h)) = and_at (typed a) h.0 _ h.2 (and_each _ _ (λ k q. indexed_part env h.0 k h.1 h.3 h.4))

  no_field : (r : ResolvedType) (here : Span) (x : n.Name) (span : Span) (q : t.Place) → FieldCause env at fault r here x span → field_at env r q (name_of x) ≡ None
  no_field (StructNamed s) here x span q (inl h) = absurd (cc h.0)
  no_field (StructNamed s) here x span q (inr (inl h)) = let e : s ≡ h.0 = cc h.1 in and_none _ _ (subst (λ z. env.structs z ≡ None) (sym e) h.2)
  no_field (StructNamed s) here x span q (inr (inr h)) =
      let e : s ≡ h.0 = cc h.2 in and_at (env.structs s) h.1 _ (subst (λ z. env.structs z ≡ Some h.1) (sym e) h.3) (and_none _ _ h.4)
  no_field _ here x span q h = refl

  no_dot : (e : ExpressionKind) (here : Span) (x : n.Name) (span : Span) → DotCause env at fault e here x span → and_so (typed_place env at (expression_of_kind e)) (fielded env (name_of x)) ≡ None
  no_dot e here x span h = and_at (typed_place env at (expression_of_kind e)) h.0 _ h.1 (no_field h.0.resolved here x span h.0.place h.2)

  no_arrow : (e : ExpressionKind) (here : Span) (x : n.Name) (span : Span) → ArrowCause env at fault e here x span → and_so (and_so (typed e) (pointed env)) (fielded env (name_of x)) ≡ None
  no_arrow e here x span (inl h) = and_none _ _ (no_pointer e here here h)
  no_arrow e here x span (inr h) = and_at (and_so (typed e) (pointed env)) h.1 _ (ap (λ z. and_so z (pointed env)) h.2 ∙ h.3) (no_field h.1.resolved here x span h.1.place h.4)

  struct_value : (e : ExpressionKind) (span : Span) → StructValue env at fault AsValue e span → and_so (typed_place env at (expression_of_kind e)) (read_of env) ≡ None
  struct_value e span h = and_at (typed_place env at (expression_of_kind e)) h.0 _ h.1 (provided_false _ _ h.2)

  mistyped_prefix : (want : ResolvedType) (e : ExpressionKind) (span : Span) (go : t.Exp → Option Typing) → Mistyped env at fault want e span → and_so (typed e) (λ x. and_so (as_wanted env want x) go) ≡ None
  mistyped_prefix want e span go h = and_at (typed e) h.0 _ h.1 (and_none _ _ h.3)

  prefix_none : (op : PrefixOperator) (e : ExpressionKind) (here : Span) (whole : ExpressionKind) (span : Span) → whole ≡ whole → PrefixCause env at fault AsValue op e here whole span
      → (typed_place env at (expression_of_kind whole) ≡ and_so (typed e) (dereferenced env op)) → and_so (typed e) (prefixed env op) ≡ None
  prefix_none o.Not e here whole span w (inl h) g = mistyped_prefix BoolType e here _ h
  prefix_none o.Not e here whole span w (inr h) g = absurd h
  prefix_none o.Complement e here whole span w (inl h) g = mistyped_prefix IntType e here _ h
  prefix_none o.Complement e here whole span w (inr h) g = absurd h
  prefix_none o.Negate e here whole span w (inl h) g = mistyped_prefix IntType e here _ h
  prefix_none o.Negate e here whole span w (inr h) g = absurd h
  prefix_none o.Dereference e here whole span w (inl h) g = and_and (typed e) (pointed env) (read_of env) (and_none _ _ (no_pointer e here span h))
  prefix_none o.Dereference e here whole span w (inr h) g = and_and (typed e) (pointed env) (read_of env) (subst (λ z. and_so z (read_of env) ≡ None) g (struct_value whole span h))

  mutual
    pub value : (e : ExpressionKind) (span : Span) → InExpression env at fault AsValue e span → NoValue (typed e)
    value (Number k) span h = absurd h
    value (Character c) span (inl h) = no_value _ (provided_false (nat_lt c 128) _ h.0)
    value (Character c) span (inr h) = absurd h
    value (Truth b) span h = absurd h
    value Null span h = absurd h
    value (Text text) span h = absurd h
    value (Variable x) span (inl h) = no_value _ (and_none _ _ h.0)
    value (Variable x) span (inr h) = absurd h
    value (Parenthesized' p e here) span h = value e here h
    value (Call' x shape es) span (inl h) = no_value _ (call_none x es span h)
    value (Call' x shape es) span (inr (inl h)) = void_call x es span h
    value (Call' x shape es) span (inr (inr (inl h))) = absurd h
    value (Call' x shape es) span (inr (inr (inr h))) = no_value _ (and_each (callee env (name_of x)) _ (λ c q. and_none _ _ (arguments es (takes c) (takes_small (name_of x) c q) h)))
    value (Alloc ty) span (inl h) = no_value _ (and_none _ _ (held_none env fault ty h))
    value (Alloc ty) span (inr h) = absurd h
    value (AllocArray' ty p e here) span (inl h) = no_value _ (and_none _ _ (held_none env fault ty h))
    value (AllocArray' ty p e here) span (inr (inl h)) = no_value _ (and_each (held_type env (type_of ty)) _ (λ r q. and_none _ _ (mistyped IntType e here h)))
    value (AllocArray' ty p e here) span (inr (inr (inl h))) = absurd h
    value (AllocArray' ty p e here) span (inr (inr (inr h))) = no_value _ (and_each (held_type env (type_of ty)) _ (λ r q. and_none _ _ (wanted_none env IntType (typed e) refl (value e here h))))
    value Result span (inl h) = no_value _ (and_none _ _ h.0)
    value Result span (inr h) = absurd h
    value (Length' p e here) span (inl h) = no_value _ (and_at (typed e) h.0 (lengthed env) h.1 h.3)
    value (Length' p e here) span (inr (inl h)) = absurd h
    value (Length' p e here) span (inr (inr h)) = no_value _ (and_void (typed e) (lengthed env) (value e here h) (λ z. refl))
    value (Index' p a here q i there) span (inl h) = no_value _ (and_none _ _ (no_element a here i there span h))
    value (Index' p a here q i there) span (inr (inl h)) = no_value _ (struct_value (Index' p a here q i there) span h)
    value (Index' p a here q i there) span (inr (inr (inl h))) = no_value _ (and_none _ _ (and_void (typed a) _ (value a here h) (λ z. and_each _ _ (λ k e. refl))))
    value (Index' p a here q i there) span (inr (inr (inr h))) = no_value _ (and_none _ _ (and_each (typed a) _ (λ x e. and_none _ _ (wanted_none env IntType (typed i) refl (value i there h)))))
    value (Field' p e here x) span (inl h) = no_value _ (and_none _ _ (no_dot e here x span h))
    value (Field' p e here x) span (inr (inl h)) = no_value _ (struct_value (Field' p e here x) span h)
    value (Field' p e here x) span (inr (inr h)) = no_value _ (and_none _ _ (and_none _ _ (place e here here h)))
    value (PointerField' p e here x) span (inl h) = no_value _ (and_none _ _ (no_arrow e here x span h))
    value (PointerField' p e here x) span (inr (inl h)) = no_value _ (struct_value (PointerField' p e here x) span h)
    value (PointerField' p e here x) span (inr (inr h)) = no_value _ (and_none _ _ (and_none _ _ (and_void (typed e) (pointed env) (value e here h) (λ z. refl))))
    value (Unary' op p e here) span (inl h) = no_value _ (prefix_none op e here (Unary' op p e here) span refl h refl)
    value (Unary' op p e here) span (inr h) = no_value _ (and_void (typed e) (prefixed env op) (value e here h) (prefixed_void env op))
    value (Binary' op p a here q b there) span (inl h) = no_value _ (operand_left (operator_rule op) a here (typed b) h)
    value (Binary' op p a here q b there) span (inr (inl h)) = no_value _ (and_each (typed a) _ (λ x e. operand_right (operator_rule op) b there x h))
    value (Binary' op p a here q b there) span (inr (inr (inl h))) = no_value _ (none_compared (operator_rule op) a here b there h)
    value (Binary' op p a here q b there) span (inr (inr (inr (inl h)))) = absurd h
    value (Binary' op p a here q b there) span (inr (inr (inr (inr (inl h))))) =
        no_value _ (and_void (typed a) _ (value a here h) (λ z. and_each (typed b) _ (λ y e. operated_left env (operator_rule op) z y)))
    value (Binary' op p a here q b there) span (inr (inr (inr (inr (inr h))))) =
        no_value _ (and_each (typed a) _ (λ x e. and_void (typed b) _ (value b there h) (λ z. operated_right env (operator_rule op) x z)))
    value (Conditional' p c here q a there r b beyond) span (inl h) = no_value _ (and_none _ _ (mistyped BoolType c here h))
    value (Conditional' p c here q a there r b beyond) span (inr (inl h)) =
        no_value _ (and_each (wanted env BoolType (typed c)) _ (λ z e. and_at (typed a) h.0 _ h.2 (and_at (typed b) h.1 _ h.3 (chosen_none env z h.0 h.1 h.6))))
    value (Conditional' p c here q a there r b beyond) span (inr (inr (inl h))) = absurd h
    value (Conditional' p c here q a there r b beyond) span (inr (inr (inr (inl h)))) = no_value _ (and_none _ _ (wanted_none env BoolType (typed c) refl (value c here h)))
    value (Conditional' p c here q a there r b beyond) span (inr (inr (inr (inr (inl h))))) =
        no_value _ (and_each (wanted env BoolType (typed c)) _ (λ z e. and_void (typed a) _ (value a there h) (λ w. and_each (typed b) _ (λ y k. chosen_left env z w y))))
    value (Conditional' p c here q a there r b beyond) span (inr (inr (inr (inr (inr h))))) =
        no_value _ (and_each (wanted env BoolType (typed c)) _ (λ z e. and_each (typed a) _ (λ x k. and_void (typed b) _ (value b beyond h) (λ w. chosen_right env z x w))))

    pub place : (e : ExpressionKind) (span whole : Span) → InExpression env at fault (AsPlace whole) e span → typed_place env at (expression_of_kind e) ≡ None
    place (Parenthesized' p e here) span whole h = place e here whole h
    place (Index' p a here q i there) span whole (inl h) = no_element a here i there span h
    place (Index' p a here q i there) span whole (inr (inl h)) = absurd h
    place (Index' p a here q i there) span whole (inr (inr (inl h))) = and_void (typed a) _ (value a here h) (λ z. and_each _ _ (λ k e. refl))
    place (Index' p a here q i there) span whole (inr (inr (inr h))) = and_each (typed a) _ (λ x e. and_none _ _ (wanted_none env IntType (typed i) refl (value i there h)))
    place (Field' p e here x) span whole (inl h) = no_dot e here x span h
    place (Field' p e here x) span whole (inr (inl h)) = absurd h
    place (Field' p e here x) span whole (inr (inr h)) = and_none _ _ (place e here here h)
    place (PointerField' p e here x) span whole (inl h) = no_arrow e here x span h
    place (PointerField' p e here x) span whole (inr (inl h)) = absurd h
    place (PointerField' p e here x) span whole (inr (inr h)) = and_none _ _ (and_void (typed e) (pointed env) (value e here h) (λ z. refl))
    place (Unary' o.Dereference p e here) span whole (inl (inl h)) = no_pointer e here span h
    place (Unary' o.Dereference p e here) span whole (inl (inr h)) = absurd h
    place (Unary' o.Dereference p e here) span whole (inr h) = and_void (typed e) (dereferenced env o.Dereference) (value e here h) (λ z. refl)
    place (Unary' o.Not p e here) span whole h = and_each (typed e) _ (λ x k. refl)
    place (Unary' o.Complement p e here) span whole h = and_each (typed e) _ (λ x k. refl)
    place (Unary' o.Negate p e here) span whole h = and_each (typed e) _ (λ x k. refl)
    place _ span whole h = refl

    arguments : {m : _} (es : Row_of-Expression m) (us : List ResolvedType) → AllSmall us → InArguments env at fault es → typed_arguments env at (row_of es) us ≡ None
    arguments end_of-Expression us s h = absurd h
    arguments (more_of-Expression e span rest) [] s h = refl
    arguments (more_of-Expression e span rest) (v ∷ us) s (inl h) = and_none _ _ (small_none env v (typed e) s.0 (value e span h))
    arguments (more_of-Expression e span rest) (v ∷ us) s (inr h) = and_each (wanted env v (typed e)) _ (λ x q. and_none _ _ (arguments rest us s.1 h))

  pub called_none : {m : _} (x : n.Name) (es : Row_of-Expression m) → InArguments env at fault es → called x es ≡ None
  called_none x es h = and_each (callee env (name_of x)) _ (λ c q. and_none _ _ (arguments es (takes c) (takes_small (name_of x) c q) h))
