-- Where an operand gives nothing, the form around it gives nothing.
use Rattle.std.proofs.Common.{◌≡◌, refl, ap, sym, subst, ◌∙◌, Bool, true, false, Option, Some, None, inl, inr}
use Rattle.std.specs.Prelude.{◌&&◌, ◌⊎◌}
use Rattle.c0_source.specs.declared.fault.Fault.{Fault}
use Rattle.c0_source.specs.declared.fault.FaultKind.TheVariants as k
use Rattle.c0_source.specs.declared.fault.Span.{Span}
use Rattle.c0_source.specs.declared.kind.Operator.{Operator}
use Rattle.c0_syntax.specs.declared.operator.PrefixOperator.{PrefixOperator}
use Rattle.c0_syntax.specs.declared.operator.PrefixOperator.TheVariants as p
use Rattle.c0_syntax.specs.Trees as s
use Rattle.c0_typed.specs.Trees as t
use Rattle.c0_rules.specs.Types.{Environment, Name, VoidType, IntType, BoolType, ArrayOf, and_so, cells_of, provided, same_type}
use Rattle.c0_rules.specs.Expressions.{Typing, Has, IsNull, Context, OperatorRule, OnNumbers, Compares, Conjunction, Disjunction, as_wanted, chosen, fielded, held_type, indexed, is_compared, is_equality, lengthed, num, operated, operator_rule, pointed, prefixed, typed_expression, typed_place, wanted}
use Rattle.c0_rules.specs.FaultExpressions.{Told}
use Rattle.c0_rules.proofs.Comparisons.{not_compared}
use Rattle.c0_types_operators.specs.Operators.{takes_left}
use Rattle.c0_types_terms.specs.Terms.{valued}
use Rattle.c0_types_operators.specs.Operators.{LeftCause}
use Rattle.c0_types_places.specs.Places.{ArrayCause}
use Rattle.c0_types_expressions.proofs.Operands.{skipped, valued_is}

-- ---- steps in a row

pub none_so : {A B : Type 0} (o : Option A) (go : A → Option B) → ((a : A) → go a ≡ None) → and_so o go ≡ None
none_so None go k = refl
none_so (Some a) go k = k a

pub none_first : {K A B : Type 0} (o : Option A) (go : A → Option B) → K ⊎ (o ≡ None) → K ⊎ (and_so o go ≡ None)
none_first o go (inl k) = inl k
none_first o go (inr h) = inr (ap (λ z. and_so z go) h)

pub none_then : {K A B : Type 0} (o : Option A) (go : A → Option B) (x : A) → o ≡ Some x → K ⊎ (go x ≡ None) → K ⊎ (and_so o go ≡ None)
none_then o go x e (inl k) = inl k
none_then o go x e (inr h) = inr (ap (λ z. and_so z go) e ∙ h)

not_provided : {A : Type 0} (b : Bool) (o : Option A) → o ≡ None → provided b o ≡ None
not_provided true o h = h
not_provided false o h = refl

not_both : {A : Type 0} (a b : Bool) (o : Option A) → b ≡ false → provided (a && b) o ≡ None
not_both true b o h = ap (λ z. provided z o) h
not_both false b o h = refl

-- ---- a void call as an operand

void_incomparable : (r : t.Relation) → is_compared r VoidType ≡ false
void_incomparable t.Equal = refl
void_incomparable t.Unequal = refl
void_incomparable t.Below = refl
void_incomparable t.AtMost = refl
void_incomparable t.Above = refl
void_incomparable t.AtLeast = refl

void_left : (env : Environment) (rule : OperatorRule) (e : t.Exp) (y : Typing) → operated env rule (Has VoidType e) y ≡ None
void_left env (OnNumbers o) e y = refl
void_left env (Compares r) e (Has b y) = not_both (same_type VoidType b) (is_compared r VoidType) _ (void_incomparable r)
void_left env (Compares r) e (IsNull y) = not_provided (is_equality r) _ refl
void_left env Conjunction e y = refl
void_left env Disjunction e y = refl

void_right : (env : Environment) (rule : OperatorRule) (x : Typing) (e : t.Exp) → operated env rule x (Has VoidType e) ≡ None
void_right env (OnNumbers o) x e = none_so (as_wanted env IntType x) _ (λ a. refl)
void_right env (Compares r) (Has VoidType x) e = not_both true (is_compared r VoidType) _ (void_incomparable r)
void_right env (Compares r) (Has _ x) e = refl
void_right env (Compares r) (IsNull x) e = not_provided (is_equality r) _ refl
void_right env Conjunction x e = none_so (as_wanted env BoolType x) _ (λ a. refl)
void_right env Disjunction x e = none_so (as_wanted env BoolType x) _ (λ a. refl)

-- what is refused on the left is refused with each operand on the right
pub left_alone : (env : Environment) (f : Fault) (rule : OperatorRule) (x : Typing) (here : Span) → LeftCause env f rule x here → (y : Typing) → operated env rule x y ≡ None
left_alone env f (OnNumbers o) x here h y = ap (λ z. and_so z (λ a. and_so (as_wanted env IntType y) (λ b. Some (Has IntType (t.Binary o a b))))) h.0
left_alone env f (Compares r) x here h y = not_compared env r x y h.0
left_alone env f Conjunction x here h y = ap (λ z. and_so z (λ a. and_so (as_wanted env BoolType y) (λ b. Some (Has BoolType (t.And a b))))) h.0
left_alone env f Disjunction x here h y = ap (λ z. and_so z (λ a. and_so (as_wanted env BoolType y) (λ b. Some (Has BoolType (t.Or a b))))) h.0

-- what has no element has none at any index
pub no_element : (env : Environment) (f : Fault) (x : Typing) (here span : Span) → ArrayCause env f x here span → (z : t.Exp) → indexed env x z ≡ None
no_element env f (Has (ArrayOf a) e) here span (inl h) z = absurd (cc h.0)
no_element env f (Has (ArrayOf a) e) here span (inr h) z = let same : a ≡ h.0 = cc h.1 in ap (λ o. and_so o (λ c. Some (record { resolved = a; place = t.Index (num env a) e z }))) (subst (λ r. cells_of env.structs r ≡ None) (sym same) h.2)
no_element env f _ here span h z = refl

void_first_arm : (env : Environment) (z e : t.Exp) (y : Typing) → chosen env z (Has VoidType e) y ≡ None
void_first_arm env z e (Has b y) = not_both (same_type VoidType b) false _ refl
void_first_arm env z e (IsNull y) = refl

void_second_arm : (env : Environment) (z : t.Exp) (x : Typing) (e : t.Exp) → chosen env z x (Has VoidType e) ≡ None
void_second_arm env z (Has VoidType x) e = refl
void_second_arm env z (Has _ x) e = refl
void_second_arm env z (IsNull x) e = refl

void_operand : (env : Environment) (op : PrefixOperator) (e : t.Exp) → prefixed env op (Has VoidType e) ≡ None
void_operand env p.Not e = refl
void_operand env p.Complement e = refl
void_operand env p.Negate e = refl
void_operand env p.Dereference e = refl

-- ---- form by form

-- what has no value leads on to nothing
pub refused : {K B : Type 0} (o : Option Typing) (go : Typing → Option B) → ((e : t.Exp) → go (Has VoidType e) ≡ None) → K ⊎ (valued o ≡ None) → K ⊎ (and_so o go ≡ None)
refused o go k (inl h) = inl h
refused o go k (inr h) = inr (skipped o go h k)

module _ (env : Environment) (at : Context) where
  abbrev typed : s.Expression → Option Typing
  typed e = typed_expression env at e

  pub length_refused : {K : Type 0} (a : s.Expression) → K ⊎ (valued (typed a) ≡ None) → K ⊎ (typed (s.Length a) ≡ None)
  length_refused a h = refused (typed a) (lengthed env) (λ e. refl) h

  pub unary_refused : {K : Type 0} (op : PrefixOperator) (a : s.Expression) → K ⊎ (valued (typed a) ≡ None) → K ⊎ (typed (s.Unary op a) ≡ None)
  unary_refused op a h = refused (typed a) (prefixed env op) (void_operand env op) h

  pub pointer_refused : {K : Type 0} (a : s.Expression) → K ⊎ (valued (typed a) ≡ None) → K ⊎ (typed_place env at (s.Unary p.Dereference a) ≡ None)
  pointer_refused a h = refused (typed a) (pointed env) (λ e. refl) h

  pub array_refused : {K : Type 0} (u : s.ValueType) (a : s.Expression) → K ⊎ (valued (typed a) ≡ None) → K ⊎ (typed (s.AllocArray u a) ≡ None)
  array_refused u a (inl h) = inl h
  array_refused u a (inr h) =
      inr (none_so (held_type env u) (λ r. and_so (wanted env IntType (typed a)) (λ x. Some (Has (ArrayOf r) (t.AllocArray (num env r) x))))
      (λ r. ap (λ z. and_so z (λ x. Some (Has (ArrayOf r) (t.AllocArray (num env r) x)))) (skipped (typed a) (as_wanted env IntType) h (λ e. refl))))

  pub arrow_refused : {K : Type 0} (a : s.Expression) (n : Name) → K ⊎ (valued (typed a) ≡ None) → K ⊎ (typed_place env at (s.PointerField a n) ≡ None)
  arrow_refused a n h = none_first (and_so (typed a) (pointed env)) (fielded env n) (refused (typed a) (pointed env) (λ e. refl) h)

  pub array_of_index_refused : {K : Type 0} (a i : s.Expression) → K ⊎ (valued (typed a) ≡ None) → K ⊎ (typed_place env at (s.Index a i) ≡ None)
  array_of_index_refused a i h = refused (typed a) (λ x. and_so (wanted env IntType (typed i)) (indexed env x)) (λ e. none_so (wanted env IntType (typed i)) _ (λ z. refl)) h

  pub index_refused : {K : Type 0} (a i : s.Expression) (x : Typing) → valued (typed a) ≡ Some x → K ⊎ (valued (typed i) ≡ None) → K ⊎ (typed_place env at (s.Index a i) ≡ None)
  index_refused a i x e h =
      none_then (typed a) (λ x. and_so (wanted env IntType (typed i)) (indexed env x)) x (valued_is (typed a) x e).0
      (none_first (wanted env IntType (typed i)) (indexed env x) (refused (typed i) (as_wanted env IntType) (λ e. refl) h))

  pub left_refused : {K : Type 0} (op : Operator) (a b : s.Expression) → K ⊎ (valued (typed a) ≡ None) → K ⊎ (typed (s.Binary op a b) ≡ None)
  left_refused op a b h =
      refused (typed a) (λ x. and_so (typed b) (operated env (operator_rule op) x)) (λ e. none_so (typed b) (operated env (operator_rule op) (Has VoidType e)) (void_left env (operator_rule op) e)) h

  pub right_refused : {K : Type 0} (op : Operator) (a b : s.Expression) (x : Typing) → valued (typed a) ≡ Some x → K ⊎ (valued (typed b) ≡ None) → K ⊎ (typed (s.Binary op a b) ≡ None)
  right_refused op a b x e h =
      none_then (typed a) (λ x. and_so (typed b) (operated env (operator_rule op) x)) x (valued_is (typed a) x e).0
      (refused (typed b) (operated env (operator_rule op) x) (void_right env (operator_rule op) x) h)

  pub left_not_taken : {K : Type 0} (op : Operator) (rule : OperatorRule) → rule ≡ operator_rule op → (a b : s.Expression) (x : Typing) → valued (typed a) ≡ Some x
      → ((y : Typing) → operated env rule x y ≡ None) → K ⊎ (typed (s.Binary op a b) ≡ None)
  left_not_taken op rule e a b x v none =
      none_then (typed a) (λ x. and_so (typed b) (operated env (operator_rule op) x)) x (valued_is (typed a) x v).0
      (inr (none_so (typed b) (operated env (operator_rule op) x) (λ y. subst (λ z. operated env z x y ≡ None) e (none y))))

  pub array_not_taken : {K : Type 0} (a i : s.Expression) (x : Typing) → valued (typed a) ≡ Some x → ((z : t.Exp) → indexed env x z ≡ None) → K ⊎ (typed_place env at (s.Index a i) ≡ None)
  array_not_taken a i x v none =
      none_then (typed a) (λ x. and_so (wanted env IntType (typed i)) (indexed env x)) x (valued_is (typed a) x v).0
      (inr (none_so (wanted env IntType (typed i)) (indexed env x) none))

  -- the parts of a conditional
  abbrev arms : s.Expression → s.Expression → t.Exp → Option Typing
  arms a b = λ z. and_so (typed a) (λ x. and_so (typed b) (chosen env z x))

  pub condition_refused : {K : Type 0} (c a b : s.Expression) → K ⊎ (valued (typed c) ≡ None) → K ⊎ (typed (s.Conditional c a b) ≡ None)
  condition_refused c a b h = none_first (wanted env BoolType (typed c)) (arms a b) (refused (typed c) (as_wanted env BoolType) (λ e. refl) h)

  pub test_refused : {K : Type 0} (c a b : s.Expression) (w : Typing) → valued (typed c) ≡ Some w → K ⊎ (as_wanted env BoolType w ≡ None) → K ⊎ (typed (s.Conditional c a b) ≡ None)
  test_refused c a b w e h = none_first (wanted env BoolType (typed c)) (arms a b) (none_then (typed c) (as_wanted env BoolType) w (valued_is (typed c) w e).0 h)

  pub test_is : (c : s.Expression) (w : Typing) (z : t.Exp) → valued (typed c) ≡ Some w → as_wanted env BoolType w ≡ Some z → wanted env BoolType (typed c) ≡ Some z
  test_is c w z e h = ap (λ o. and_so o (as_wanted env BoolType)) (valued_is (typed c) w e).0 ∙ h

  pub first_arm_refused : {K : Type 0} (c a b : s.Expression) (z : t.Exp) → wanted env BoolType (typed c) ≡ Some z → K ⊎ (valued (typed a) ≡ None) → K ⊎ (typed (s.Conditional c a b) ≡ None)
  first_arm_refused c a b z e h =
      none_then (wanted env BoolType (typed c)) (arms a b) z e
      (refused (typed a) (λ x. and_so (typed b) (chosen env z x)) (λ e. none_so (typed b) (chosen env z (Has VoidType e)) (void_first_arm env z e)) h)

  pub second_arm_refused : {K : Type 0} (c a b : s.Expression) (z : t.Exp) (x : Typing) → wanted env BoolType (typed c) ≡ Some z → valued (typed a) ≡ Some x → K ⊎ (valued (typed b) ≡ None)
      → K ⊎ (typed (s.Conditional c a b) ≡ None)
  second_arm_refused c a b z x e f h =
      none_then (wanted env BoolType (typed c)) (arms a b) z e
      (none_then (typed a) (λ x. and_so (typed b) (chosen env z x)) x (valued_is (typed a) x f).0
      (refused (typed b) (chosen env z x) (void_second_arm env z x) h))
