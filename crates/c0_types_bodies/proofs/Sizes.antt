-- How many parts a statement has, which falls where code goes down it.
use Rattle.std.proofs.Common.{◌≡◌, ℕ, zero, suc, ◌+◌, ◌<◌, List, [], ◌∷◌, length, get_or, ap, arith}
use Rattle.c0_syntax.specs.declared.statement.Statement as n
use Rattle.c0_syntax.specs.Trees.{Statement, Block, If, IfElse, While, For, Statements, nothing, also}
use Rattle.c0_syntax.specs.Views.{statement_of, statements_of}

abbrev mutual
  pub size_statement : Statement → ℕ
  size_statement (Block rest) = suc (size_statements rest)
  size_statement (If c a) = suc (size_statement a)
  size_statement (IfElse c a b) = suc (size_statement a + size_statement b)
  size_statement (While c notes a) = suc (size_statement a)
  size_statement (For first c third notes a) = suc (size_statement a)
  size_statement _ = 1

  pub size_statements : Statements → ℕ
  size_statements nothing = 0
  size_statements (also a rest) = suc (size_statement a + size_statements rest)

pub size_in : (xs : List n.Statement) (i : ℕ) (x : n.Statement) → i < length xs → x ≡ get_or xs i x → size_statement (statement_of x) < size_statements (statements_of xs)
size_in [] i x l e = absurd (omega arith)
size_in (y ∷ xs) zero x l e = let same : size_statement (statement_of x) ≡ size_statement (statement_of y) = ap (λ z. size_statement (statement_of z)) e in omega arith
size_in (y ∷ xs) (suc i) x l e = let below = size_in xs i x (omega arith) e in omega arith
