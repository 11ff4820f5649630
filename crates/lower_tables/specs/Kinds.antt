-- Kinds of registers, and layouts of what is allocated, by the types of a program.
use Rattle.std.specs.Prelude.{ℕ, suc, ◌+◌, nat_lt, cond, List, [], ◌∷◌, ◌++◌, length, map, get_or, take}
use Rattle.c0_typed.specs.Trees.{Ty, VoidTy, IntTy, BoolTy, CharTy, TextTy, StructTy, PointerTy, ArrayTy}
use Rattle.code_form.specs.declared.form.Kind.{Kind}
use Rattle.code_form.specs.declared.form.Kind.TheVariants as kind
use Rattle.code_form.specs.Code.{same_kind}

-- the place of the first kind of a list that is this one; the length of the list where none is
abbrev pub position : Kind → List Kind → ℕ
position k [] = 0
position k (j ∷ js) = cond (same_kind k j) 0 (suc (position k js))

-- The layouts: one for each of n structs, one without cells for all structs that are never defined and for all that is never allocated or
-- looked at, and one of a single cell for each kind of a list, which has those of all that is allocated and is no struct.
module _ (n : ℕ) (singles : List Kind) where
  -- the layout of a single cell of this kind; the one without cells where the list has no such kind
  abbrev pub single_layout : Kind → ℕ
  single_layout k = cond (nat_lt (position k singles) (length singles)) (suc (n + position k singles)) n

  abbrev mutual
    -- the layout of what a pointer or an array of this type refers to, by its number
    pub layout_number : Ty → ℕ
    layout_number VoidTy = n
    layout_number (StructTy j) = cond (nat_lt j n) j n
    layout_number IntTy = single_layout kind.Int
    layout_number BoolTy = single_layout kind.Bool
    layout_number CharTy = single_layout kind.Char
    layout_number TextTy = single_layout kind.Text
    layout_number (PointerTy t) = single_layout (kind.Ptr (layout_number t))
    layout_number (ArrayTy t) = single_layout (kind.Arr (layout_number t))

  -- the kind of a register or a cell that holds a value of this type
  abbrev pub kind_of : Ty → Kind
  kind_of BoolTy = kind.Bool
  kind_of CharTy = kind.Char
  kind_of TextTy = kind.Text
  kind_of (PointerTy t) = kind.Ptr (layout_number t)
  kind_of (ArrayTy t) = kind.Arr (layout_number t)
  kind_of _ = kind.Int

  -- the kinds of the cells of this type, from those of the structs before
  abbrev pub cell_kinds : List (List Kind) → Ty → List Kind
  cell_kinds before VoidTy = []
  cell_kinds before (StructTy j) = get_or before j []
  cell_kinds before IntTy = kind.Int ∷ []
  cell_kinds before BoolTy = kind.Bool ∷ []
  cell_kinds before CharTy = kind.Char ∷ []
  cell_kinds before TextTy = kind.Text ∷ []
  cell_kinds before (PointerTy t) = kind.Ptr (layout_number t) ∷ []
  cell_kinds before (ArrayTy t) = kind.Arr (layout_number t) ∷ []

  -- the kinds of the cells of these fields
  abbrev pub field_kinds : List (List Kind) → List Ty → List Kind
  field_kinds before [] = []
  field_kinds before (t ∷ ts) = cell_kinds before t ++ field_kinds before ts

  -- the layouts of structs, from those of the structs before
  abbrev pub struct_layouts : List (List Kind) → List (List Ty) → List (List Kind)
  struct_layouts before [] = before
  struct_layouts before (ts ∷ rest) = struct_layouts (before ++ field_kinds before ts ∷ []) rest

-- the layouts of a program of these structs
abbrev pub layouts_of : List (List Ty) → List Kind → List (List Kind)
layouts_of structs singles = struct_layouts (length structs) singles [] structs ++ [] ∷ map (λ k. k ∷ []) singles

-- the kinds of the cells of a type, in such a program
abbrev pub cells_of : List (List Ty) → List Kind → Ty → List Kind
cells_of structs singles t = cell_kinds (length structs) singles (struct_layouts (length structs) singles [] structs) t

-- the cells of struct j in front of its field k
abbrev pub field_offset : List (List Ty) → List Kind → ℕ → ℕ → ℕ
field_offset structs singles j k =
    length (field_kinds (length structs) singles (struct_layouts (length structs) singles [] structs) (take k (get_or structs j [])))
