-- How many parts code has, which falls where its parts are placed.
use Rattle.std.proofs.Common.{◌≡◌, ℕ, suc, ◌+◌, List, [], ◌∷◌, refl, ap, rules}
use Rattle.std.specs.declared.vec.Vec.{Vec}
use Rattle.std.specs.declared.alloc.Global.{Global}
use Rattle.middle_form.specs.declared.form.Code.{Code, Row_of-Code, end_of-Code, more_of-Code, items-the_row-Code, Sequence', Choose', Loop', Block', the_lemmas as code_lemmas}
use Rattle.middle_form.specs.declared.form.Code.TheViews.{Sequence}

abbrev mutual
  pub size_code : Code → ℕ
  size_code (Sequence' shape all) = suc (size_row all)
  size_code (Choose' a p b q c) = suc (size_code b + size_code c)
  size_code (Loop' p test a q body) = suc (size_code test + size_code body)
  size_code (Block' p a) = suc (size_code a)
  size_code _ = 1

  pub size_row : {n : _} → Row_of-Code n → ℕ
  size_row end_of-Code = 1
  size_row (more_of-Code a rest) = suc (size_code a + size_row rest)

-- of code in order
abbrev pub size_all : List Code → ℕ
size_all [] = 1
size_all (a ∷ rest) = suc (size_code a + size_all rest)

size_row_is : {n : _} (k : Row_of-Code n) → size_row k ≡ size_all (items-the_row-Code n k)
size_row_is end_of-Code = refl
size_row_is (more_of-Code a rest) = ap (λ n. suc (size_code a + n)) (size_row_is rest)

pub size_of_sequence : (all : Vec Code Global) → size_code (Sequence all) ≡ suc (size_all all.items)
size_of_sequence all = search (rules, code_lemmas, size_row_is)
