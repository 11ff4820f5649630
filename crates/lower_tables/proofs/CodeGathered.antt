-- What is learned of kinds, and that it is all that a program needs.
use Rattle.std.proofs.Common.{◌≡◌, refl, ap, ◌∙◌, sym, arith, rules, List, [], ◌∷◌, ◌++◌, ℕ, zero, suc, ◌+◌, ◌<◌, ◌≤◌, length, drop, get_or}
use Rattle.std.proofs.lemmas.List.{drop_more}
use Rattle.std.specs.declared.vec.Vec.{Vec}
use Rattle.std.specs.declared.alloc.Global.{Global}
use Rattle.c0_typed.specs.Trees as t
use Rattle.c0_typed.specs.declared.tree.Output.{Output}
use Rattle.c0_typed.specs.declared.tree.Expression.{Expression, Row_of-Expression, end_of-Expression, more_of-Expression, items-the_row-Expression, the_lemmas as expression_lemmas}
use Rattle.c0_typed.specs.declared.tree.Expression.TheViews.{Call, Print}
use Rattle.c0_typed.specs.declared.tree.Statement.{Statement, Row_of-Statement, end_of-Statement, more_of-Statement, items-the_row-Statement, the_lemmas as statement_lemmas}
use Rattle.c0_typed.specs.declared.tree.Statement.TheViews.{Block}
use Rattle.c0_typed.specs.declared.tree.Function.{Function}
use Rattle.code_form.specs.declared.form.Kind.{Kind}
use Rattle.lower_tables.specs.Gathered.{all_learned, learned, types_in, types_in_all, types_in_row, types_of, types_of_all, types_of_block, types_of_function, types_of_functions}

pub all_learned_append : (n : ℕ) (singles : List Kind) (ts us : List t.Ty) → all_learned n singles (ts ++ us) ≡ all_learned n (all_learned n singles ts) us
all_learned_append n singles [] us = refl
all_learned_append n singles (ty ∷ ts) us = all_learned_append n (learned n singles ty) ts us

row_is : {k : _} (r : Row_of-Expression k) → types_in_row r ≡ types_in_all (items-the_row-Expression k r)
row_is end_of-Expression = refl
row_is (more_of-Expression a rest) = ap (λ ts. types_in a ++ ts) (row_is rest)

pub types_in_call : (f : ℕ) (all : Vec Expression Global) → types_in (Call f all) ≡ types_in_all all.items
types_in_call f all = search (rules, expression_lemmas, row_is)

pub types_in_print : (o : Output) (all : Vec Expression Global) → types_in (Print o all) ≡ types_in_all all.items
types_in_print o all = search (rules, expression_lemmas, row_is)

block_is : {k : _} (r : Row_of-Statement k) → types_of_block r ≡ types_of_all (items-the_row-Statement k r)
block_is end_of-Statement = refl
block_is (more_of-Statement a rest) = ap (λ ts. types_of a ++ ts) (block_is rest)

pub types_of_the_block : (all : Vec Statement Global) → types_of (Block all) ≡ types_of_all all.items
types_of_the_block all = search (rules, statement_lemmas, block_is)

-- a part, and those behind it
pub expression_step : (n : ℕ) (s0 s s1 : List Kind) (all : List Expression) (i : ℕ) (e : Expression) → i < length all → e ≡ get_or all i e → s1 ≡ all_learned n s (types_in e)
    → all_learned n s0 (types_in_all all) ≡ all_learned n s (types_in_all (drop i all)) → all_learned n s0 (types_in_all all) ≡ all_learned n s1 (types_in_all (drop (i + 1) all))
expression_step n s0 s s1 all i e h is made so =
    so ∙ ap (λ es. all_learned n s (types_in_all es)) (drop_more all i e h ∙ ap (λ x. x ∷ drop (i + 1) all) (sym is)) ∙ all_learned_append n s (types_in e) (types_in_all (drop (i + 1) all))
    ∙ ap (λ x. all_learned n x (types_in_all (drop (i + 1) all))) (sym made)

pub statement_step : (n : ℕ) (s0 s s1 : List Kind) (all : List Statement) (i : ℕ) (e : Statement) → i < length all → e ≡ get_or all i e → s1 ≡ all_learned n s (types_of e)
    → all_learned n s0 (types_of_all all) ≡ all_learned n s (types_of_all (drop i all)) → all_learned n s0 (types_of_all all) ≡ all_learned n s1 (types_of_all (drop (i + 1) all))
statement_step n s0 s s1 all i e h is made so =
    so ∙ ap (λ es. all_learned n s (types_of_all es)) (drop_more all i e h ∙ ap (λ x. x ∷ drop (i + 1) all) (sym is)) ∙ all_learned_append n s (types_of e) (types_of_all (drop (i + 1) all))
    ∙ ap (λ x. all_learned n x (types_of_all (drop (i + 1) all))) (sym made)

pub function_step : (n : ℕ) (s0 s s1 : List Kind) (all : List Function) (i : ℕ) (e : Function) → i < length all → e ≡ get_or all i e → s1 ≡ all_learned n s (types_of_function e)
    → all_learned n s0 (types_of_functions all) ≡ all_learned n s (types_of_functions (drop i all)) → all_learned n s0 (types_of_functions all) ≡ all_learned n s1 (types_of_functions (drop (i + 1) all))
function_step n s0 s s1 all i e h is made so =
    so ∙ ap (λ es. all_learned n s (types_of_functions es)) (drop_more all i e h ∙ ap (λ x. x ∷ drop (i + 1) all) (sym is)) ∙ all_learned_append n s (types_of_function e) (types_of_functions (drop (i + 1) all))
    ∙ ap (λ x. all_learned n x (types_of_functions (drop (i + 1) all))) (sym made)

-- behind the last function nothing is left
pub all_of : (n : ℕ) (s : List Kind) (all : List Function) (i : ℕ) → length all ≤ i → all_learned n s (types_of_functions (drop i all)) ≡ s
all_of n s [] zero h = refl
all_of n s [] (suc i) h = refl
all_of n s (f ∷ all) zero h = absurd (let q : ⊥ = omega arith in q)
all_of n s (f ∷ all) (suc i) h = all_of n s all i (omega arith)
