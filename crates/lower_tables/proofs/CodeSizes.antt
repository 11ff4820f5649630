-- How many parts a tree of the program has, which falls where the code of its parts is made.
use Rattle.std.specs.Prelude.{ℕ, suc, ◌+◌, List, [], ◌∷◌}
use Rattle.c0_typed.specs.declared.tree.Expression.{Expression, Row_of-Expression, end_of-Expression, more_of-Expression, At', Constant, Null, Local, Unary', Binary', Compare', And', Or', Choose', Call', Print', Load', Alloc, AllocArray', Length'}
use Rattle.c0_typed.specs.declared.tree.Place.{Place, Deref', Index', Field'}
use Rattle.c0_typed.specs.declared.tree.Statement.{Statement, Row_of-Statement, end_of-Statement, more_of-Statement, Block', If', Loop'}

abbrev mutual
  pub size : Expression → ℕ
  size (At' here p e) = suc (size e)
  size (Constant x) = 1
  size (Null ty) = 1
  size (Local x) = 1
  size (Unary' p q a) = suc (size a)
  size (Binary' p q a s b) = suc (size a + size b)
  size (Compare' ty p q a s b) = suc (size a + size b)
  size (And' p a q b) = suc (size a + size b)
  size (Or' p a q b) = suc (size a + size b)
  size (Choose' ty p a q b s e) = suc (size a + size b + size e)
  size (Call' f shape es) = suc (size_row es)
  size (Print' out shape es) = suc (size_row es)
  size (Load' ty p q) = suc (size_place q)
  size (Alloc ty) = 1
  size (AllocArray' ty p a) = suc (size a)
  size (Length' ty p a) = suc (size a)

  pub size_row : {n : _} → Row_of-Expression n → ℕ
  size_row end_of-Expression = 1
  size_row (more_of-Expression a rest) = suc (size a + size_row rest)

  pub size_place : Place → ℕ
  size_place (Deref' ty p a) = suc (size a)
  size_place (Index' ty p a q i) = suc (size a + size i)
  size_place (Field' j p q k) = suc (size_place q)

-- of expressions in order
abbrev pub size_list : List Expression → ℕ
size_list [] = 1
size_list (a ∷ rest) = suc (size a + size_list rest)

abbrev mutual
  pub size_statement : Statement → ℕ
  size_statement (Block' shape all) = suc (size_block all)
  size_statement (If' a p b q s) = suc (size_statement b + size_statement s)
  size_statement (Loop' invariants a p body q step) = suc (size_statement body + size_statement step)
  size_statement _ = 1

  pub size_block : {n : _} → Row_of-Statement n → ℕ
  size_block end_of-Statement = 1
  size_block (more_of-Statement a rest) = suc (size_statement a + size_block rest)

-- of statements in order
abbrev pub size_body : List Statement → ℕ
size_body [] = 1
size_body (a ∷ rest) = suc (size_statement a + size_body rest)
