-- Arguments that stand in vectors, as lists.
use Rattle.std.proofs.Common.{◌≡◌, refl, ap, ◌∙◌, sym, arith, rules, List, [], ◌∷◌, ◌++◌, ℕ, zero, suc, ◌+◌, ◌*◌, ◌<◌, ◌≤◌, length, get_or}
use Rattle.std.specs.declared.vec.Vec.{Vec}
use Rattle.std.specs.declared.alloc.Global.{Global}
use Rattle.c0_typed.specs.Trees as t
use Rattle.c0_typed.specs.Views.{texts_of, type_of}
use Rattle.c0_typed.specs.declared.tree.Output.{Output}
use Rattle.c0_typed.specs.declared.tree.Function.{Function}
use Rattle.c0_typed.specs.declared.tree.Expression.{Expression, Row_of-Expression, end_of-Expression, more_of-Expression, items-the_row-Expression, the_lemmas as expression_lemmas}
use Rattle.c0_typed.specs.declared.tree.Expression.TheViews.{Call, Print}
use Rattle.code_form.specs.declared.form.Kind.{Kind}
use Rattle.code_form.specs.declared.form.Kind.TheVariants as kind
use Rattle.middle_form.specs.Form as m
use Rattle.lower_tables.specs.Kinds.{kind_of}
use Rattle.lower_expressions.specs.Expressions as l
use Rattle.lower_expressions.specs.Building as b
use Rattle.lower_expressions.specs.declared.context.Context.{Context}

module _ (c : Context) where
  row_kinds_is : {n : _} (k : Row_of-Expression n) → l.row_kinds (b.structs_in c) c.singles.now (texts_of c.typed.now) c.typed.now.functions.items c.typed.now.main k ≡ b.list_kinds c (items-the_row-Expression n k)
  row_kinds_is end_of-Expression = refl
  row_kinds_is (more_of-Expression e rest) = ap (λ ks. b.exp_kinds c e ++ ks) (row_kinds_is rest)

  row_code_is : {n : _} (k : Row_of-Expression n) (d : ℕ) → l.row_code (b.structs_in c) c.singles.now (texts_of c.typed.now) c.typed.now.functions.items c.typed.now.main c.locals k d ≡ b.list_code c (items-the_row-Expression n k) d
  row_code_is end_of-Expression d = refl
  row_code_is (more_of-Expression e rest) d = ap (λ cs. b.exp_code c e d ++ cs) (row_code_is rest (d + length (b.exp_kinds c e)))

  row_at_is : {n : _} (k : Row_of-Expression n) (d : ℕ) → l.row_at (b.structs_in c) c.singles.now (texts_of c.typed.now) c.typed.now.functions.items c.typed.now.main c.locals k d ≡ b.list_at c (items-the_row-Expression n k) d
  row_at_is end_of-Expression d = refl
  row_at_is (more_of-Expression e rest) d = ap (λ rs. l.value_at c.locals e d ∷ rs) (row_at_is rest (d + length (b.exp_kinds c e)))

  pub call_kinds : (f : ℕ) (all : Vec Expression Global) → b.exp_kinds c (Call f all) ≡ kind_of (length (b.structs_in c)) c.singles.now (b.type_given c f) ∷ b.list_kinds c all.items
  call_kinds f all = search (rules, expression_lemmas, row_kinds_is)

  pub print_kinds : (o : Output) (all : Vec Expression Global) → b.exp_kinds c (Print o all) ≡ kind.Int ∷ b.list_kinds c all.items
  print_kinds o all = search (rules, expression_lemmas, row_kinds_is)

  pub call_code : (f : ℕ) (all : Vec Expression Global) (d : ℕ) → b.exp_code c (Call f all) d ≡ b.list_code c all.items (suc d) ++ (m.Call (l.result_register (b.type_given c f) d) (l.swapped c.typed.now.main f) (b.list_at c all.items (suc d)) ∷ [])
  call_code f all d = search (rules, expression_lemmas, row_code_is, row_at_is)

  pub print_is : (o : Output) (all : Vec Expression Global) (d : ℕ) → b.exp_code c (Print o all) d ≡ b.list_code c all.items (suc d) ++ (m.Do (l.print_code o (b.list_at c all.items (suc d))) ∷ [])
  print_is o all d = search (rules, expression_lemmas, row_code_is, row_at_is)

-- the type that a function gives
module _ (structs : List (List t.Ty)) (singles : List Kind) (texts : List (List ℕ)) (functions : List Function) (main : ℕ) where
  pub given_at : (gs : List Function) (k : ℕ) (g : Function) → k < length gs → g ≡ get_or gs k g → l.type_given structs singles texts functions main gs k ≡ type_of g.result
  given_at [] k g h is = absurd (let q : ⊥ = omega arith in q)
  given_at (f ∷ gs) zero g h is = ap (λ (x : Function). type_of x.result) (sym is)
  given_at (f ∷ gs) (suc k) g h is = given_at gs k g (omega arith) is

  pub given_past : (gs : List Function) (k : ℕ) → length gs ≤ k → l.type_given structs singles texts functions main gs k ≡ t.VoidTy
  given_past [] k h = refl
  given_past (f ∷ gs) zero h = absurd (let q : ⊥ = omega arith in q)
  given_past (f ∷ gs) (suc k) h = given_past gs k (omega arith)
