-- Typed calls by their arguments, which stand in a vector.
use Rattle.std.proofs.Common.{◌≡◌, ℕ, List, refl, ap, rules}
use Rattle.std.specs.declared.vec.Vec.{Vec}
use Rattle.std.specs.declared.alloc.Global.{Global}
use Rattle.c0_typed.specs.Trees as t
use Rattle.c0_typed.specs.Views.{exp_of, exps_of, output_of, row_of}
use Rattle.c0_typed.specs.declared.tree.Expression.{Expression, Row_of-Expression, end_of-Expression, more_of-Expression, items-the_row-Expression, the_lemmas as expression_lemmas}
use Rattle.c0_typed.specs.declared.tree.Expression.TheViews.{Call, Print}
use Rattle.c0_typed.specs.declared.tree.Output.{Output}
use Rattle.c0_rules.specs.Types.{Name}

module _ (texts : List Name) where
  typed_row : {m : _} (r : Row_of-Expression m) → row_of texts r ≡ exps_of texts (items-the_row-Expression m r)
  typed_row end_of-Expression = refl
  typed_row (more_of-Expression e rest) = ap (t.More (exp_of texts e)) (typed_row rest)

  pub function_call : (k : ℕ) (all : Vec Expression Global) → exp_of texts (Call k all) ≡ t.Call k (exps_of texts all.items)
  function_call k all = search (rules, expression_lemmas, typed_row)

  pub output_call : (o : Output) (all : Vec Expression Global) → exp_of texts (Print o all) ≡ t.Out (output_of o) (exps_of texts all.items)
  output_call o all = search (rules, expression_lemmas, typed_row)
