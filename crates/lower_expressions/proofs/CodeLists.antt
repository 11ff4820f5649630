-- Lists that grow, and what stands in them.
use Rattle.std.proofs.Common.{◌≡◌, ℕ, zero, suc, ◌+◌, ◌<◌, ◌≤◌, List, [], ◌∷◌, ◌++◌, length, refl, sym, ap, ◌∙◌, arith, rules, length-append, append_assoc, drop, get_or, map}
use Rattle.std.specs.declared.vec.Vec.{Vec}
use Rattle.std.specs.declared.alloc.Global.{Global}
use Rattle.middle_form.specs.Form as m
use Rattle.middle_form.specs.Views.{code_of, row_of}
use Rattle.middle_form.specs.declared.form.Code.{Code, Row_of-Code, end_of-Code, more_of-Code, items-the_row-Code, the_lemmas as code_lemmas}
use Rattle.middle_form.specs.declared.form.Code.TheViews.{Sequence}
use Rattle.lower_expressions.specs.Expressions.{sequence}
use Rattle.lower_expressions.specs.Building.{codes}

pub length_push : {A : Type 0} (xs : List A) (x : A) → length (xs ++ x ∷ []) ≡ suc (length xs)
length_push xs x = omega (arith, length-append xs (x ∷ []))

parts_row : {n : _} (k : Row_of-Code n) → row_of k ≡ sequence (codes (items-the_row-Code n k))
parts_row end_of-Code = refl
parts_row (more_of-Code a rest) = ap (m.Then (code_of a)) (parts_row rest)

pub sequence_is : (all : Vec Code Global) → code_of (Sequence all) ≡ sequence (codes all.items)
sequence_is all = search (rules, code_lemmas, parts_row)
