-- The parts of a sequence as a list, and code that has no other code in it.
use Rattle.std.proofs.Common.{◌≡◌, true, List, [], ◌∷◌, ◌++◌, refl, ap, ◌∙◌, rules}
use Rattle.std.proofs.lemmas.List.{map-append}
use Rattle.std.specs.declared.vec.Vec.{Vec}
use Rattle.std.specs.declared.alloc.Global.{Global}
use Rattle.middle_form.specs.Scoped as s
use Rattle.middle_form.specs.ScopedViews.{scoped_code_of, scoped_row_of, scoped_sequence_of}
use Rattle.middle_form.specs.declared.scoped.ScopedCode.{ScopedCode, Row_of-ScopedCode, end_of-ScopedCode, more_of-ScopedCode, items-the_row-ScopedCode, the_lemmas as code_lemmas}
use Rattle.middle_form.specs.declared.scoped.ScopedCode.TheViews.{Sequence}
use Rattle.scoped_building.specs.Building.{codes, in_order, is_straight}

parts_row : {n : _} (k : Row_of-ScopedCode n) → scoped_row_of k ≡ scoped_sequence_of (items-the_row-ScopedCode n k)
parts_row end_of-ScopedCode = refl
parts_row (more_of-ScopedCode a rest) = ap (s.Then (scoped_code_of a)) (parts_row rest)

pub sequence_is : (all : Vec ScopedCode Global) → scoped_code_of (Sequence all) ≡ scoped_sequence_of all.items
sequence_is all = search (rules, code_lemmas, parts_row)

pub sequence_in_order : (all : List ScopedCode) → scoped_sequence_of all ≡ in_order (codes all)
sequence_in_order [] = refl
sequence_in_order (a ∷ rest) = ap (s.Then (scoped_code_of a)) (sequence_in_order rest)

pub scoped_sequence_is : (all : Vec ScopedCode Global) → scoped_code_of (Sequence all) ≡ in_order (codes all.items)
scoped_sequence_is all = sequence_is all ∙ sequence_in_order all.items

pub codes_push : (parts : List ScopedCode) (part : ScopedCode) → codes (parts ++ part ∷ []) ≡ codes parts ++ scoped_code_of part ∷ []
codes_push parts part = map-append scoped_code_of parts (part ∷ [])

pub row_is_not_straight : {n : _} (k : Row_of-ScopedCode n) → is_straight (scoped_row_of k) ≡ true → ⊥
row_is_not_straight end_of-ScopedCode e = cc e
row_is_not_straight (more_of-ScopedCode a rest) e = cc e
