-- Tables of a program's layouts, in the words of the definitions.
use Rattle.std.specs.Prelude.{◌≡◌, ℕ, ◌+◌, String, List, [], ◌∷◌, length, map}
use Rattle.std.specs.BTreeMap.{BTreeMap, get_by_text}
use Rattle.std.specs.declared.vec.Vec.{Vec}
use Rattle.std.specs.declared.alloc.Global.{Global}
use Rattle.c0_typed.specs.Trees as t
use Rattle.c0_typed.specs.Views.{struct_of}
use Rattle.c0_typed.specs.declared.tree.Typed.{Typed}
use Rattle.code_form.specs.declared.form.Kind.{Kind}
use Rattle.lower_tables.specs.Kinds.{cell_kinds}
use Rattle.lower_tables.specs.Texts.{number_from}

-- layouts in order
abbrev pub layouts_read : List (Vec Kind Global) → List (List Kind)
layouts_read ls = map (λ (l : Vec Kind Global). l.items) ls

-- numbers of cells in order
abbrev pub offsets_read : List (Vec ℕ Global) → List (List ℕ)
offsets_read ls = map (λ (l : Vec ℕ Global). l.items) ls

-- the structs of a program
abbrev pub structs_of : Typed → List (List t.Ty)
structs_of p = map struct_of p.structs.items

-- where each of these fields begins behind others, and where the last one ends, over n structs of these layouts
abbrev pub starts : ℕ → List Kind → List (List Kind) → ℕ → List t.Ty → List ℕ
starts n singles layouts at [] = at ∷ []
starts n singles layouts at (ty ∷ rest) = at ∷ starts n singles layouts (at + length (cell_kinds n singles layouts ty)) rest

-- the map has the number of each of these texts by its bytes, and no other bytes
abbrev pub AreNumbered : List (List ℕ) → BTreeMap (String Global) ℕ → Type 0
AreNumbered texts numbers = (bytes : List ℕ) → get_by_text numbers bytes ≡ number_from 1 texts bytes
