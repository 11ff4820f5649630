-- How many parts code has, which falls where its parts are looked at.
use Rattle.std.proofs.Common.{◌≡◌, ℕ, suc, ◌+◌, List, [], ◌∷◌, refl, ap, rules}
use Rattle.std.specs.declared.vec.Vec.{Vec}
use Rattle.std.specs.declared.alloc.Global.{Global}
use Rattle.middle_form.specs.declared.scoped.ScopedCode.{ScopedCode, Row_of-ScopedCode, end_of-ScopedCode, more_of-ScopedCode, items-the_row-ScopedCode, Sequence', Choose', Loop', Block', the_lemmas as code_lemmas}
use Rattle.middle_form.specs.declared.scoped.ScopedCode.TheViews.{Sequence}

abbrev mutual
  pub size_code : ScopedCode → ℕ
  size_code (Sequence' shape all) = suc (size_row all)
  size_code (Choose' a p b q c) = suc (size_code b + size_code c)
  size_code (Loop' p test a q body) = suc (size_code test + size_code body)
  size_code (Block' p a) = suc (size_code a)
  size_code _ = 1

  pub size_row : {n : _} → Row_of-ScopedCode n → ℕ
  size_row end_of-ScopedCode = 1
  size_row (more_of-ScopedCode a rest) = suc (size_code a + size_row rest)

-- of code in order
abbrev pub size_all : List ScopedCode → ℕ
size_all [] = 1
size_all (a ∷ rest) = suc (size_code a + size_all rest)

size_row_is : {n : _} (k : Row_of-ScopedCode n) → size_row k ≡ size_all (items-the_row-ScopedCode n k)
size_row_is end_of-ScopedCode = refl
size_row_is (more_of-ScopedCode a rest) = ap (λ n. suc (size_code a + n)) (size_row_is rest)

pub size_of_sequence : (all : Vec ScopedCode Global) → size_code (Sequence all) ≡ suc (size_all all.items)
size_of_sequence all = search (rules, code_lemmas, size_row_is)
