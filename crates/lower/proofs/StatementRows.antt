-- Statements that stand in vectors, as lists.
use Rattle.std.proofs.Common.{◌≡◌, refl, ap, ◌∙◌, sym, arith, rules, List, [], ◌∷◌, ◌++◌, ℕ, ◌+◌, length}
use Rattle.std.specs.Prelude.{◌||◌}
use Rattle.std.specs.declared.vec.Vec.{Vec}
use Rattle.std.specs.declared.alloc.Global.{Global}
use Rattle.c0_typed.specs.Views.{texts_of}
use Rattle.c0_typed.specs.declared.tree.Statement.{Statement, Row_of-Statement, end_of-Statement, more_of-Statement, items-the_row-Statement, the_lemmas as statement_lemmas}
use Rattle.c0_typed.specs.declared.tree.Statement.TheViews.{Block}
use Rattle.lower_expressions.specs.Building.{structs_in}
use Rattle.lower_expressions.specs.declared.context.Context.{Context}
use Rattle.lower.specs.Exits as x
use Rattle.lower.specs.Exits.{whole}
use Rattle.lower.specs.declared.exits.Exits.{Exits}
use Rattle.lower.specs.Lowered as l
use Rattle.lower.specs.Building as b

module _ (c : Context) where
  block_kinds_is : {n : _} (k : Row_of-Statement n) → l.block_kinds (structs_in c) c.singles.now (texts_of c.typed.now) c.typed.now.functions.items c.typed.now.main c.checks k ≡ b.body_kinds c (items-the_row-Statement n k)
  block_kinds_is end_of-Statement = refl
  block_kinds_is (more_of-Statement e rest) = ap (λ ks. b.stmt_kinds c e ++ ks) (block_kinds_is rest)

  block_code_is : {n : _} (k : Row_of-Statement n) (d : ℕ) (out : Exits) → l.block_code (structs_in c) c.singles.now (texts_of c.typed.now) c.typed.now.functions.items c.typed.now.main c.locals c.checks k d out ≡ b.block_code c (items-the_row-Statement n k) d out
  block_code_is end_of-Statement d out = refl
  block_code_is (more_of-Statement e rest) d out = ap (λ cs. b.stmt_code c e d out ++ cs) (block_code_is rest (d + length (b.stmt_kinds c e)) out)

  pub kinds_of_block : (all : Vec Statement Global) → b.stmt_kinds c (Block all) ≡ b.body_kinds c all.items
  kinds_of_block all = search (rules, statement_lemmas, block_kinds_is)

  pub code_of_block : (all : Vec Statement Global) (d : ℕ) (out : Exits) → b.stmt_code c (Block all) d out ≡ b.block_code c all.items d out
  code_of_block all d out = search (rules, statement_lemmas, block_code_is)

  -- a body is left by leaving the block round it
  pub body_code_is : (all : List Statement) (d : ℕ) → l.body_code (structs_in c) c.singles.now (texts_of c.typed.now) c.typed.now.functions.items c.typed.now.main c.locals c.checks all d ≡ b.block_code c all d whole
  body_code_is [] d = refl
  body_code_is (e ∷ rest) d = ap (λ cs. b.stmt_code c e d whole ++ cs) (body_code_is rest (d + length (b.stmt_kinds c e)))

-- whether a block has a `continue` of its own
some_continue_is : {n : _} (k : Row_of-Statement n) → x.some_continue k ≡ b.any_continue (items-the_row-Statement n k)
some_continue_is end_of-Statement = refl
some_continue_is (more_of-Statement e rest) = ap (λ z. x.has_continue e || z) (some_continue_is rest)

pub continue_in_block : (all : Vec Statement Global) → x.has_continue (Block all) ≡ b.any_continue all.items
continue_in_block all = search (rules, statement_lemmas, some_continue_is)
