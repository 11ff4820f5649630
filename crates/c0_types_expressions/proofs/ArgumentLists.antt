-- The arguments of a call, one behind the other.
use Rattle.std.proofs.Common.{◌≡◌, ℕ, zero, suc, ◌+◌, ◌<◌, ◌≤◌, List, [], ◌∷◌, ◌++◌, map, length, get_or, drop, refl, sym, ap, subst, ◌∙◌, Option, Some, None, arith, inl, inr, rules}
use Rattle.std.specs.Prelude.{◌≢◌, ◌⊎◌}
use Rattle.std.proofs.lemmas.List.{at_drop_all, drop_more}
use Rattle.std.specs.declared.vec.Vec.{Vec}
use Rattle.std.specs.declared.alloc.Global.{Global}
use Rattle.c0_source.specs.declared.fault.Fault.{Fault}
use Rattle.c0_source.specs.declared.fault.Span.{Span}
use Rattle.c0_syntax.specs.declared.expression.Expression.{Expression}
use Rattle.c0_syntax.specs.declared.expression.ExpressionKind.{ExpressionKind, Call', Row_of-Expression, end_of-Expression, more_of-Expression, items-the_row-Expression, the_lemmas as expression_lemmas}
use Rattle.c0_syntax.specs.declared.expression.ExpressionKind.TheViews.{Call}
use Rattle.c0_syntax.specs.declared.name.Name as n
use Rattle.c0_syntax.specs.Trees as s
use Rattle.c0_syntax.specs.Views.{expression_of, expression_of_kind, expressions_of, name_of, row_of}
use Rattle.c0_typed.specs.Trees as t
use Rattle.c0_typed.specs.Views.{exp_of, exps_of}
use Rattle.c0_typed.specs.declared.tree.Expression as e
use Rattle.c0_types_tables.specs.declared.resolved.ResolvedType as d
use Rattle.c0_types_tables.specs.Views.{resolved_of}
use Rattle.c0_rules.specs.Types.{Environment, Name, ResolvedType, and_so}
use Rattle.c0_rules.specs.Expressions.{Context, takes, typed_arguments, typed_expression, wanted}
use Rattle.c0_rules.specs.FaultExpressions.{AsValue, CallCause, InArguments, InExpression, Mistyped, MistypedArgument, argument_count}
use Rattle.c0_rules.specs.FaultStatements.{InEvaluated}
use Rattle.c0_rules.specs.Statements.{Scope, within}
use Rattle.c0_types_expressions.specs.Forms.{ArgumentsCause, CalledCause, InAmong, MistypedAmong}
use Rattle.c0_types_terms.specs.Terms.{HasTexts, HaveTexts}

-- ---- expressions behind others

abbrev pub joined : t.Exps → t.Exps → t.Exps
joined t.NoExp b = b
joined (t.More x a) b = t.More x (joined a b)

abbrev pub with_front : t.Exps → Option t.Exps → Option t.Exps
with_front front o = and_so o (λ xs. Some (joined front xs))

joined_assoc : (a b c : t.Exps) → joined a (joined b c) ≡ joined (joined a b) c
joined_assoc t.NoExp b c = refl
joined_assoc (t.More x a) b c = ap (t.More x) (joined_assoc a b c)

joined_none : (a : t.Exps) → joined a t.NoExp ≡ a
joined_none t.NoExp = refl
joined_none (t.More x a) = ap (t.More x) (joined_none a)

exps_push : (texts : List Name) (xs : List e.Expression) (x : e.Expression) → exps_of texts (xs ++ x ∷ []) ≡ joined (exps_of texts xs) (t.More (exp_of texts x) t.NoExp)
exps_push texts [] x = refl
exps_push texts (y ∷ xs) x = ap (t.More (exp_of texts y)) (exps_push texts xs x)

pub no_front : (o : Option t.Exps) → with_front t.NoExp o ≡ o
no_front None = refl
no_front (Some xs) = refl

front_moved : (front : t.Exps) (x : t.Exp) (o : Option t.Exps) → with_front front (and_so o (λ xs. Some (t.More x xs))) ≡ with_front (joined front (t.More x t.NoExp)) o
front_moved front x None = refl
front_moved front x (Some xs) = ap Some (joined_assoc front (t.More x t.NoExp) xs)

-- ---- arguments in their order

pub argument_has : (texts : List Name) (xs : List Expression) (i : ℕ) (x : Expression) → i < length xs → x ≡ get_or xs i x → HaveTexts texts (expressions_of xs) → HasTexts texts (expression_of x)
argument_has texts [] i x l e h = absurd (omega arith)
argument_has texts (y ∷ xs) zero x l e h = subst (λ z. HasTexts texts (expression_of z)) (sym e) h.0
argument_has texts (y ∷ xs) (suc i) x l e h = argument_has texts xs i x (omega arith) e h.1

module _ (env : Environment) (at : Context) where
  -- what the arguments from a place on give
  abbrev pub rest_of : List Expression → List d.ResolvedType → Option t.Exps
  rest_of xs us = typed_arguments env at (expressions_of xs) (map resolved_of us)

  from_here : (xs : List Expression) (us : List d.ResolvedType) (i : ℕ) (x : Expression) (w : d.ResolvedType) → i < length xs → i < length us → x ≡ get_or xs i x → w ≡ get_or us i w
      → rest_of (drop i xs) (drop i us) ≡ and_so (wanted env (resolved_of w) (typed_expression env at (expression_of x))) (λ y. and_so (rest_of (drop (i + 1) xs) (drop (i + 1) us)) (λ ys. Some (t.More y ys)))
  from_here xs us i x w l m e f =
      ap (λ z. rest_of z (drop i us)) (drop_more xs i x l)
      ∙ ap (λ z. rest_of (get_or xs i x ∷ drop (i + 1) xs) z) (drop_more us i w m)
      ∙ ap (λ z. and_so (wanted env (resolved_of (get_or us i w)) (typed_expression env at (expression_of z))) (λ y. and_so (rest_of (drop (i + 1) xs) (drop (i + 1) us)) (λ ys. Some (t.More y ys)))) (sym e)
      ∙ ap (λ z. and_so (wanted env (resolved_of z) (typed_expression env at (expression_of x))) (λ y. and_so (rest_of (drop (i + 1) xs) (drop (i + 1) us)) (λ ys. Some (t.More y ys)))) (sym f)

  pub argument_none : {K : Type 0} (front : t.Exps) (xs : List Expression) (us : List d.ResolvedType) (i : ℕ) (x : Expression) (w : d.ResolvedType) → i < length xs → i < length us → x ≡ get_or xs i x → w ≡ get_or us i w → (total : Option t.Exps)
      → K ⊎ (wanted env (resolved_of w) (typed_expression env at (expression_of x)) ≡ None) → with_front front (rest_of (drop i xs) (drop i us)) ≡ total → K ⊎ (total ≡ None)
  argument_none front xs us i x w l m e f total (inl h) so_far = inl h
  argument_none front xs us i x w l m e f total (inr h) so_far =
      inr (sym so_far ∙ ap (with_front front) (from_here xs us i x w l m e f) ∙ ap (λ o. with_front front (and_so o (λ y. and_so (rest_of (drop (i + 1) xs) (drop (i + 1) us)) (λ ys. Some (t.More y ys))))) h)

  pub argument_more : (texts : List Name) (front : List e.Expression) (found : e.Expression) (xs : List Expression) (us : List d.ResolvedType) (i : ℕ) (x : Expression) (w : d.ResolvedType) → i < length xs → i < length us
      → x ≡ get_or xs i x → w ≡ get_or us i w → (total : Option t.Exps)
      → wanted env (resolved_of w) (typed_expression env at (expression_of x)) ≡ Some (exp_of texts found) → with_front (exps_of texts front) (rest_of (drop i xs) (drop i us)) ≡ total
      → with_front (exps_of texts (front ++ found ∷ [])) (rest_of (drop (i + 1) xs) (drop (i + 1) us)) ≡ total
  argument_more texts front found xs us i x w l m e f total h so_far =
      let rest = rest_of (drop (i + 1) xs) (drop (i + 1) us) in
      ap (λ z. with_front z rest) (exps_push texts front found)
      ∙ sym (front_moved (exps_of texts front) (exp_of texts found) rest)
      ∙ ap (λ o. with_front (exps_of texts front) (and_so o (λ y. and_so rest (λ ys. Some (t.More y ys))))) (sym h)
      ∙ ap (with_front (exps_of texts front)) (sym (from_here xs us i x w l m e f))
      ∙ so_far

  pub arguments_done : (front : t.Exps) (xs : List Expression) (us : List d.ResolvedType) (i : ℕ) → length xs ≤ i → length xs ≡ length us → (total : Option t.Exps) → with_front front (rest_of (drop i xs) (drop i us)) ≡ total → total ≡ Some front
  arguments_done front xs us i l same total so_far =
      sym so_far
      ∙ at_drop_all (λ z. with_front front (rest_of z (drop i us))) xs i l
      ∙ at_drop_all (λ z. with_front front (rest_of [] z)) us i (omega (arith, l, same))
      ∙ ap Some (joined_none front)

  pub other_number : (xs : List Expression) (us : List d.ResolvedType) → length xs ≢ length us → rest_of xs us ≡ None
  other_number [] [] h = absurd (h refl)
  other_number [] (u ∷ us) h = refl
  other_number (x ∷ xs) [] h = refl
  other_number (x ∷ xs) (u ∷ us) h =
      none (wanted env (resolved_of u) (typed_expression env at (expression_of x))) (other_number xs us (λ e. h (omega (arith, e))))
    where
      none : (o : Option t.Exp) → rest_of xs us ≡ None → and_so o (λ y. and_so (rest_of xs us) (λ ys. Some (t.More y ys))) ≡ None
      none None e = refl
      none (Some y) e = ap (λ z. and_so z (λ ys. Some (t.More y ys))) e

  module _ (f : Fault) where
    pub argument_in : (xs : List Expression) (i : ℕ) (x : Expression) → i < length xs → x ≡ get_or xs i x → InExpression env at f AsValue x.kind x.span → InAmong env at f xs
    argument_in [] i x l e h = absurd (omega arith)
    argument_in (y ∷ xs) zero x l e h = inl (subst (λ z. InExpression env at f AsValue z.kind z.span) e h)
    argument_in (y ∷ xs) (suc i) x l e h = inr (argument_in xs i x (omega arith) e h)

    pub argument_mistyped : (xs : List Expression) (us : List d.ResolvedType) (i : ℕ) (x : Expression) (w : d.ResolvedType) → i < length xs → i < length us → x ≡ get_or xs i x → w ≡ get_or us i w
        → Mistyped env at f (resolved_of w) x.kind x.span → MistypedAmong env at f xs (map resolved_of us)
    argument_mistyped [] us i x w l m e q h = absurd (omega arith)
    argument_mistyped (y ∷ xs) [] i x w l m e q h = absurd (omega arith)
    argument_mistyped (y ∷ xs) (u ∷ us) zero x w l m e q h =
        inl (subst (λ z. Mistyped env at f (resolved_of z) y.kind y.span) q (subst (λ z. Mistyped env at f (resolved_of w) z.kind z.span) e h))
    argument_mistyped (y ∷ xs) (u ∷ us) (suc i) x w l m e q h = inr (argument_mistyped xs us i x w (omega arith) (omega arith) e q h)

    pub argument_cause : {K : Type 0} (xs : List Expression) (us : List d.ResolvedType) (span : Span) (i : ℕ) (x : Expression) (w : d.ResolvedType) → i < length xs → i < length us → x ≡ get_or xs i x → w ≡ get_or us i w
        → K ⊎ InExpression env at f AsValue x.kind x.span ⊎ Mistyped env at f (resolved_of w) x.kind x.span → K ⊎ ArgumentsCause env at f xs (map resolved_of us) span ⊎ InAmong env at f xs
    argument_cause xs us span i x w l m e q (inl h) = inl h
    argument_cause xs us span i x w l m e q (inr (inl h)) = inr (inr (argument_in xs i x l e h))
    argument_cause xs us span i x w l m e q (inr (inr h)) = inr (inl (inr (argument_mistyped xs us i x w l m e q h)))

    -- ---- the same of a row

    row_in : {m : _} (r : Row_of-Expression m) → InAmong env at f (items-the_row-Expression m r) → InArguments env at f r
    row_in end_of-Expression h = h
    row_in (more_of-Expression a span rest) (inl h) = inl h
    row_in (more_of-Expression a span rest) (inr h) = inr (row_in rest h)

    row_mistyped : {m : _} (r : Row_of-Expression m) (us : List ResolvedType) → MistypedAmong env at f (items-the_row-Expression m r) us → MistypedArgument env at f r us
    row_mistyped end_of-Expression us h = h
    row_mistyped (more_of-Expression a span rest) [] h = h
    row_mistyped (more_of-Expression a span rest) (u ∷ us) (inl h) = inl h
    row_mistyped (more_of-Expression a span rest) (u ∷ us) (inr h) = inr (row_mistyped rest us h)

    row_count : {m : _} (r : Row_of-Expression m) → length (items-the_row-Expression m r) ≡ argument_count r
    row_count end_of-Expression = refl
    row_count (more_of-Expression a span rest) = ap suc (row_count rest)

    row_called : {m : _} (x : n.Name) (r : Row_of-Expression m) (span : Span) → CalledCause env at f x (items-the_row-Expression m r) span → CallCause env at f x r span
    row_called x r span (inl h) = inl h
    row_called x r span (inr (c, e, inl h)) = inr (c, e, inl ((λ q. h.0 (row_count r ∙ q)), h.1))
    row_called x r span (inr (c, e, inr h)) = inr (c, e, inr (row_mistyped r (takes c) h))

-- ---- a call by its vector

call_parts : ExpressionKind → Option (n.Name × List Expression)
call_parts (Call' x shape es) = Some (x, items-the_row-Expression _ es)
call_parts _ = None

call_parts_are : (x : n.Name) (all : Vec Expression Global) → call_parts (Call x all) ≡ Some (x, all.items)
unfolding call_parts
call_parts_are x all = search (rules, expression_lemmas)

expressions_row : {m : _} (r : Row_of-Expression m) → row_of r ≡ expressions_of (items-the_row-Expression m r)
expressions_row end_of-Expression = refl
expressions_row (more_of-Expression e at rest) = ap (s.more (expression_of_kind e)) (expressions_row rest)

pub call_is : (x : n.Name) (all : Vec Expression Global) → expression_of_kind (Call x all) ≡ s.Call (name_of x) (expressions_of all.items)
call_is x all = search (rules, expression_lemmas, expressions_row)

-- a fault of a call, or in one of its arguments
abbrev pub InCall : Environment → Context → Fault → n.Name → List Expression → Span → Type 0
InCall env at f x es span = CalledCause env at f x es span ⊎ InAmong env at f es

same_call : (env : Environment) (at : Context) (f : Fault) (span : Span) (x y : n.Name) (xs ys : List Expression) → ◌≡◌ {A = Option (n.Name × List Expression)} (Some (x, xs)) (Some (y, ys)) → InCall env at f y ys span → InCall env at f x xs span
same_call env at f span x y xs ys e h =
    let pair : ◌≡◌ {A = n.Name × List Expression} (x, xs) (y, ys) = cc e in
    let name : x ≡ y = ap (λ (z : n.Name × List Expression). z.0) pair in
    let rest : xs ≡ ys = ap (λ (z : n.Name × List Expression). z.1) pair in
    subst (λ z. InCall env at f z xs span) (sym name) (subst (λ z. InCall env at f y z span) (sym rest) h)

kind_in : (env : Environment) (at : Context) (f : Fault) (kind : ExpressionKind) (x : n.Name) (es : List Expression) (span : Span) → call_parts kind ≡ Some (x, es) → InCall env at f x es span → InExpression env at f AsValue kind span
unfolding call_parts
kind_in env at f (Call' y shape r) x es span e h = cases (same_call env at f span y x (items-the_row-Expression _ r) es e h)
  where
    cases : InCall env at f y (items-the_row-Expression _ r) span → InExpression env at f AsValue (Call' y shape r) span
    cases (inl a) = inl (row_called env at f y r span a)
    cases (inr a) = inr (inr (inr (row_in env at f r a)))
kind_in env at f _ x es span e h = absurd (cc e)

kind_evaluated : (env : Environment) (scope : Scope) (f : Fault) (kind : ExpressionKind) (x : n.Name) (es : List Expression) (span : Span) → call_parts kind ≡ Some (x, es) → InCall env (within scope) f x es span → InEvaluated env f scope kind span
unfolding call_parts
kind_evaluated env scope f (Call' y shape r) x es span e h = cases (same_call env (within scope) f span y x (items-the_row-Expression _ r) es e h)
  where
    cases : InCall env (within scope) f y (items-the_row-Expression _ r) span → InEvaluated env f scope (Call' y shape r) span
    cases (inl a) = inl (row_called env (within scope) f y r span a)
    cases (inr a) = inr (row_in env (within scope) f r a)
kind_evaluated env scope f _ x es span e h = absurd (cc e)

pub call_in : (env : Environment) (at : Context) (f : Fault) (x : n.Name) (all : Vec Expression Global) (span : Span) → InCall env at f x all.items span → InExpression env at f AsValue (Call x all) span
call_in env at f x all span h = kind_in env at f (Call x all) x all.items span (call_parts_are x all) h

pub call_evaluated : (env : Environment) (scope : Scope) (f : Fault) (x : n.Name) (all : Vec Expression Global) (span : Span) → InCall env (within scope) f x all.items span → InEvaluated env f scope (Call x all) span
call_evaluated env scope f x all span h = kind_evaluated env scope f (Call x all) x all.items span (call_parts_are x all) h
