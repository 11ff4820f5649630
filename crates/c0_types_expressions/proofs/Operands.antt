-- Steps behind operands that have values.
use Rattle.std.proofs.Common.{◌≡◌, refl, ap, ◌∙◌, subst, Bool, true, false, Option, Some, None, inl, inr, Result, Ok, Err}
use Rattle.std.specs.Prelude.{◌⊎◌, IfOk, IfErr}
use Rattle.c0_source.specs.declared.fault.Fault.{Fault}
use Rattle.c0_source.specs.declared.fault.FaultKind.TheVariants as k
use Rattle.c0_source.specs.declared.fault.Span.{Span}
use Rattle.c0_syntax.specs.declared.expression.ExpressionKind.{ExpressionKind, Call'}
use Rattle.c0_syntax.specs.Views.{expression_of_kind, name_of}
use Rattle.c0_typed.specs.Trees as t
use Rattle.c0_rules.specs.Types.{Environment, ResolvedType, VoidType, and_so, provided, same_type}
use Rattle.c0_rules.specs.Expressions.{Typing, Has, IsNull, Context, Callee, as_wanted, call_of, callee, gives, typed_expression, wanted}
use Rattle.c0_rules.specs.FaultExpressions.{AsValue, InExpression, Mistyped, Told, is_value}
use Rattle.c0_types_expressions.specs.Forms.{NoValue}
use Rattle.c0_types_terms.specs.Terms.{valued}
use Rattle.c0_rules.specs.Answers.{Answers}

pub valued_is : (o : Option Typing) (x : Typing) → valued o ≡ Some x → (o ≡ Some x) × (is_value x ≡ true)
valued_is None x e = absurd (cc e)
valued_is (Some y) x e = at (is_value y) refl e
  where
    at : (b : Bool) → is_value y ≡ b → provided b (Some y) ≡ Some x → (Some y ≡ Some x) × (is_value x ≡ true)
    at true h e = let same : y ≡ x = cc e in (e, subst (λ z. is_value z ≡ true) same h)
    at false h e = absurd (cc e)

-- no value, and a void call, lead on to nothing
pub skipped : {B : Type 0} (o : Option Typing) (go : Typing → Option B) → valued o ≡ None → ((e : t.Exp) → go (Has VoidType e) ≡ None) → and_so o go ≡ None
skipped None go h k = refl
skipped (Some (Has VoidType e)) go h k = k e
skipped (Some _) go h k = absurd (cc h)

-- the same, of an answer that is an error
pub skipped_err : {B : Type 0} (o : Option Typing) (go : Typing → Option B) (f : Fault) → (f.kind ≡ k.OutOfMemory) ⊎ (valued o ≡ None) → ((e : t.Exp) → go (Has VoidType e) ≡ None)
    → (f.kind ≡ k.OutOfMemory) ⊎ (and_so o go ≡ None)
skipped_err o go f (inl h) k = inl h
skipped_err o go f (inr h) k = inr (skipped o go h k)

no_value : (o : Option Typing) → valued o ≡ None → NoValue o
no_value None h = inl refl
no_value (Some (Has VoidType e)) h = inr (e, refl)
no_value (Some _) h = absurd (cc h)

-- what a value gives, and what it leaves
pub given_by : {T : Type 0} (view : T → Typing) (r : Result T Fault) (o : Option Typing) → Answers view r (valued o) → IfOk r (λ x. (o ≡ Some (view x)) × (is_value (view x) ≡ true))
given_by view (Ok x) o h = valued_is o (view x) h
given_by view (Err f) o h = tt

pub none_by : {T : Type 0} (view : T → Typing) (r : Result T Fault) (o : Option Typing) → Answers view r (valued o) → IfErr r (λ f. (f.kind ≡ k.OutOfMemory) ⊎ NoValue o)
none_by view (Ok x) o h = tt
none_by view (Err f) o (inl h) = inl h
none_by view (Err f) o (inr h) = inr (no_value o h)

-- what has no value is a void call
pub void_is : (x : Typing) → is_value x ≡ false → (e : t.Exp) × (x ≡ Has VoidType e)
void_is (Has VoidType e) h = (e, refl)
void_is _ h = absurd (cc h)

-- where `void` is wanted, what is refused has a value
pub refused_has : (env : Environment) (x : Typing) → as_wanted env VoidType x ≡ None → is_value x ≡ true
refused_has env (Has VoidType e) h = absurd (cc h)
refused_has env (IsNull e) h = refl
refused_has env (Has _ e) h = refl

-- a call of type `void` calls what gives none
void_call : (o : Option Callee) (go : Callee → Option t.Exps) (e : t.Exp) → and_so o (λ c. and_so (go c) (λ xs. Some (Has (gives c) (call_of c xs)))) ≡ Some (Has VoidType e)
    → (c : Callee) × (o ≡ Some c) × (gives c ≡ VoidType)
void_call None go e h = absurd (cc h)
void_call (Some c) go e h = (c, refl, at (go c) h)
  where
    at : (xs : Option t.Exps) → and_so xs (λ xs. Some (Has (gives c) (call_of c xs))) ≡ Some (Has VoidType e) → gives c ≡ VoidType
    at None h = absurd (cc h)
    at (Some xs) h = cc h

abbrev pub is_call : ExpressionKind → Bool
is_call (Call' x shape es) = true
is_call _ = false

pub void_cause : (env : Environment) (at : Context) (f : Fault) (kind : ExpressionKind) (span : Span) (e : t.Exp) → is_call kind ≡ true → Told k.VoidUse span f
    → typed_expression env at (expression_of_kind kind) ≡ Some (Has VoidType e) → InExpression env at f AsValue kind span
void_cause env at f (Call' x shape es) span e q told h = let c = void_call (callee env (name_of x)) _ e h in inr (inl (c.0, c.1, c.2, told))
void_cause env at f _ span e q told h = absurd (cc q)

pub ok_value : (o : Option Typing) (x : Typing) → o ≡ Some x → is_value x ≡ true → valued o ≡ Some x
ok_value o x e h = ap valued e ∙ ap (λ b. provided b (Some x)) h

pub void_value : (o : Option Typing) (x : Typing) → o ≡ Some x → is_value x ≡ false → valued o ≡ None
void_value o x e h = ap valued e ∙ ap (λ b. provided b (Some x)) h

pub void_wanted : (env : Environment) (want : ResolvedType) (o : Option Typing) (x : Typing) → o ≡ Some x → is_value x ≡ false → same_type VoidType want ≡ false → wanted env want o ≡ None
void_wanted env want o x e h n = let v = void_is x h in ap (wanted env want) e ∙ ap (as_wanted env want) v.1 ∙ ap (λ b. provided b (Some v.0)) n

-- what follows of a void call follows of what has no value
pub void_told : {C : Type 0} (o : Option Typing) (x : Typing) → o ≡ Some x → is_value x ≡ false → ((e : t.Exp) → o ≡ Some (Has VoidType e) → C) → C
void_told o x e h go = let v = void_is x h in go v.0 (e ∙ ap Some v.1)

-- a value of another type than the wanted one
pub mistyped : {T : Type 0} (view : T → t.Exp) (env : Environment) (at : Context) (want : ResolvedType) (kind : ExpressionKind) (span : Span) (x : Typing) (r : Result T Fault)
    → typed_expression env at (expression_of_kind kind) ≡ Some x → (as_wanted env want x ≡ None → is_value x ≡ true)
    → Answers view r (as_wanted env want x) → IfErr r (λ f. (f.kind ≡ k.OutOfMemory) ⊎ Told k.TypeMismatch span f)
    → IfErr r (λ f. (f.kind ≡ k.OutOfMemory) ⊎ InExpression env at f AsValue kind span ⊎ Mistyped env at f want kind span)
mistyped view env at want kind span x (Ok e) typed has a b = tt
mistyped view env at want kind span x (Err f) typed has (inl a) b = inl a
mistyped view env at want kind span x (Err f) typed has a (inl b) = inl b
mistyped view env at want kind span x (Err f) typed has (inr a) (inr b) = inr (inr (x, typed, has a, a, b))
