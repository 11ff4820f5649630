-- Arguments one by one, and as the tree of a call holds them.
use Rattle.std.proofs.Common.{◌≡◌, Option, Some, None, List, [], ◌∷◌, ◌++◌, refl, ap, subst, sym, rules}
use Rattle.std.specs.declared.vec.Vec.{Vec}
use Rattle.std.specs.declared.alloc.Global.{Global}
use Rattle.c0_syntax.specs.declared.name.Name.{Name}
use Rattle.c0_syntax.specs.declared.expression.Expression.{Expression}
use Rattle.c0_syntax.specs.declared.expression.ExpressionKind.{ExpressionKind, Call', Row_of-Expression, end_of-Expression, more_of-Expression, items-the_row-Expression, the_lemmas as expression_lemmas}
use Rattle.c0_syntax.specs.declared.expression.ExpressionKind.TheViews.{Call}
use Rattle.c0_syntax.specs.Views.{expression_of, expressions_of}
use Rattle.c0_grammar_laws.specs.Places.{PlacedArguments, PlacedExpression, PlacedKind, PlacedName, PlacedRow, Position, after_arguments, after_each, after_expression, skip}

from_some : {A : Type 0} → A → Option A → A
from_some d None = d
from_some d (Some z) = z

pub some_same : {A : Type 0} (x y : A) → Some x ≡ Some y → x ≡ y
unfolding from_some
some_same x y e = ap (from_some x) e

pub placed_row : {n : _} (p : Position) (r : Row_of-Expression n) → PlacedRow p r ≡ PlacedArguments p (items-the_row-Expression n r)
placed_row p end_of-Expression = refl
placed_row p (more_of-Expression e at rest) = rw (placed_row (skip (after_expression (expression_of (record { kind = e; span = at })) p)) rest) refl

-- the name and the arguments of a call
call_in : ExpressionKind → Option (Name × List Expression)
call_in (Call' x shape es) = Some (x, items-the_row-Expression _ es)
call_in _ = None

call_parts : (f : Name) (all : Vec Expression Global) → call_in (Call f all) ≡ Some (f, all.items)
unfolding call_in
call_parts f all = search (rules, expression_lemmas)

placed_by : (p : Position) (x : ExpressionKind) (f : Name) (es : List Expression) → call_in x ≡ Some (f, es) → PlacedName p f → PlacedArguments (skip (skip p)) es → PlacedKind p x
unfolding call_in
placed_by p (Call' g shape row) f es is name placed =
    let e : (g, items-the_row-Expression _ row) ≡ (f, es) = some_same (g, items-the_row-Expression _ row) (f, es) is in
    (subst (λ y. PlacedName p y) (sym (ap (λ y. y.0) e)) name, rw (placed_row (skip (skip p)) row) (subst (PlacedArguments (skip (skip p))) (sym (ap (λ y. y.1) e)) placed))
placed_by p _ f es is name placed = absurd (cc is)

pub placed_call : (p : Position) (f : Name) (all : Vec Expression Global) → PlacedName p f → PlacedArguments (skip (skip p)) all.items → PlacedKind p (Call f all)
placed_call p f all name placed = placed_by p (Call f all) f all.items (call_parts f all) name placed

pub arguments_push : (p q : Position) (es : List Expression) (e : Expression) → PlacedArguments p es → after_each (expressions_of es) p ≡ q → PlacedExpression q e → PlacedArguments p (es ++ e ∷ [])
arguments_push p q [] e placed along stands = (subst (λ o. PlacedExpression o e) (sym along) stands, tt)
arguments_push p q (x ∷ es) e placed along stands = (placed.0, arguments_push (skip (after_expression (expression_of x) p)) q es e placed.1 along stands)

pub after_push : (p : Position) (es : List Expression) (e : Expression) → after_each (expressions_of (es ++ e ∷ [])) p ≡ skip (after_expression (expression_of e) (after_each (expressions_of es) p))
after_push p [] e = refl
after_push p (x ∷ es) e = after_push (skip (after_expression (expression_of x) p)) es e

-- one argument or more
pub after_some : (p : Position) (es : List Expression) (e : Expression) → after_arguments (expressions_of (es ++ e ∷ [])) p ≡ after_each (expressions_of (es ++ e ∷ [])) p
after_some p [] e = refl
after_some p (x ∷ es) e = refl
