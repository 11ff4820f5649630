-- Arguments and statements that stand in vectors have as many parts as in lists.
use Rattle.std.proofs.Common.{◌≡◌, refl, ap, arith, rules, List, [], ◌∷◌, ℕ, zero, suc, ◌+◌, ◌<◌, length, get_or}
use Rattle.std.specs.declared.vec.Vec.{Vec}
use Rattle.std.specs.declared.alloc.Global.{Global}
use Rattle.c0_typed.specs.declared.tree.Output.{Output}
use Rattle.c0_typed.specs.declared.tree.Expression.{Expression, Row_of-Expression, end_of-Expression, more_of-Expression, items-the_row-Expression, the_lemmas as expression_lemmas}
use Rattle.c0_typed.specs.declared.tree.Expression.TheViews.{Call, Print}
use Rattle.c0_typed.specs.declared.tree.Statement.{Statement, Row_of-Statement, end_of-Statement, more_of-Statement, items-the_row-Statement, the_lemmas as statement_lemmas}
use Rattle.c0_typed.specs.declared.tree.Statement.TheViews.{Block}
use Rattle.lower_tables.proofs.CodeSizes.{size, size_row, size_list, size_statement, size_block, size_body}

size_row_is : {n : _} (k : Row_of-Expression n) → size_row k ≡ size_list (items-the_row-Expression n k)
size_row_is end_of-Expression = refl
size_row_is (more_of-Expression e rest) = ap (λ n. suc (size e + n)) (size_row_is rest)

pub size_call : (f : ℕ) (all : Vec Expression Global) → size (Call f all) ≡ suc (size_list all.items)
size_call f all = search (rules, expression_lemmas, size_row_is)

pub size_print : (o : Output) (all : Vec Expression Global) → size (Print o all) ≡ suc (size_list all.items)
size_print o all = search (rules, expression_lemmas, size_row_is)

-- an argument is smaller than the list in which it stands
pub size_in : (all : List Expression) (i : ℕ) (e : Expression) → i < length all → e ≡ get_or all i e → size e < size_list all
size_in [] i e h is = absurd (let q : ⊥ = omega arith in q)
size_in (a ∷ rest) zero e h is = omega (arith, ap size is)
size_in (a ∷ rest) (suc i) e h is = let p : i < length rest = omega arith in omega (arith, size_in rest i e p is)

size_block_is : {n : _} (k : Row_of-Statement n) → size_block k ≡ size_body (items-the_row-Statement n k)
size_block_is end_of-Statement = refl
size_block_is (more_of-Statement e rest) = ap (λ n. suc (size_statement e + n)) (size_block_is rest)

pub size_of_block : (all : Vec Statement Global) → size_statement (Block all) ≡ suc (size_body all.items)
size_of_block all = search (rules, statement_lemmas, size_block_is)

-- a statement is smaller than the list in which it stands
pub size_in_body : (all : List Statement) (i : ℕ) (e : Statement) → i < length all → e ≡ get_or all i e → size_statement e < size_body all
size_in_body [] i e h is = absurd (let q : ⊥ = omega arith in q)
size_in_body (a ∷ rest) zero e h is = omega (arith, ap size_statement is)
size_in_body (a ∷ rest) (suc i) e h is = let p : i < length rest = omega arith in omega (arith, size_in_body rest i e p is)
