-- The parts of typed trees that stand in vectors, as lists, and their sizes.
use Rattle.std.proofs.Common.{◌≡◌, refl, ap, rules, ℕ}
use Rattle.std.specs.declared.vec.Vec.{Vec}
use Rattle.std.specs.declared.alloc.Global.{Global}
use Rattle.c0_typed.specs.Trees as t
use Rattle.c0_typed.specs.declared.tree.Output.{Output}
use Rattle.c0_typed.specs.declared.tree.Expression.{Expression, Row_of-Expression, end_of-Expression, more_of-Expression, items-the_row-Expression, the_lemmas as expression_lemmas}
use Rattle.c0_typed.specs.declared.tree.Expression.TheViews.{Call, Print}
use Rattle.c0_typed.specs.declared.tree.Statement.{Statement, Row_of-Statement, end_of-Statement, more_of-Statement, items-the_row-Statement, the_lemmas as statement_lemmas}
use Rattle.c0_typed.specs.declared.tree.Statement.TheViews.{Block}
use Rattle.c0_typed.specs.Views.{exp_of, row_of, exps_of, stmt_of, block_row, block_of, output_of}
use Rattle.c0_values.specs.PlainStates.{Texts}

module _ (texts : Texts) where
  exps_row : {n : _} (k : Row_of-Expression n) → row_of texts k ≡ exps_of texts (items-the_row-Expression n k)
  exps_row end_of-Expression = refl
  exps_row (more_of-Expression e rest) = ap (t.More (exp_of texts e)) (exps_row rest)

  pub exp_call : (f : ℕ) (all : Vec Expression Global) → exp_of texts (Call f all) ≡ t.Call f (exps_of texts all.items)
  exp_call f all = search (rules, expression_lemmas, exps_row)

  pub exp_print : (o : Output) (all : Vec Expression Global) → exp_of texts (Print o all) ≡ t.Out (output_of o) (exps_of texts all.items)
  exp_print o all = search (rules, expression_lemmas, exps_row)

  statements_row : {n : _} (k : Row_of-Statement n) → block_row texts k ≡ block_of texts (items-the_row-Statement n k)
  statements_row end_of-Statement = refl
  statements_row (more_of-Statement e rest) = ap (t.Seq (stmt_of texts e)) (statements_row rest)

  pub stmt_block : (all : Vec Statement Global) → stmt_of texts (Block all) ≡ block_of texts all.items
  stmt_block all = search (rules, statement_lemmas, statements_row)
