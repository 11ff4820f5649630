-- How values stand in cells, and a heap of value trees in the allocations of the code.
use Rattle.std.specs.Prelude.{◌≡◌, ℕ, zero, suc, ◌+◌, ◌*◌, ◌<◌, List, [], ◌∷◌, length, get_or, slice_get, Some}
use Rattle.c0_typed.specs.Values.{Value, Number, Truth, Letter, Text, Ref, Void, Tree}
use Rattle.c0_typed.specs.Layouts.{flat}
use Rattle.c0_typed.specs.Trees.{Ty, VoidTy, StructTy}
use Rattle.c0_typed.specs.Typing.{Kept, One, Many}
use Rattle.code_form.specs.declared.form.Kind.{Kind}
use Rattle.code_form.specs.declared.allocation.Allocation.{Allocation}
use Rattle.code_form.specs.Code.{cells_of, length_of, of_bool, of_int, sizes, text_at}
use Rattle.code_form.specs.Effects.{Heap}
use Rattle.code_form.specs.Form.{Head}
use Rattle.lower_tables.specs.Kinds as k

-- a cell that stands for a value, where texts are those of an image
abbrev pub Coded : Head → Value → ℕ → Type 0
Coded H (Number z) n = n ≡ of_int z
Coded H (Truth b) n = n ≡ of_bool b
Coded H (Letter c) n = n ≡ c
Coded H (Text w) n = text_at H n ≡ Some w
Coded H (Ref r) n = n ≡ r
Coded H Void n = Unit {0}

-- A heap of trees, and one of cells: as many allocations, each of the cells of its tree, in their order. What was made for an array has its length. What is not
-- allocated yet holds 0.
pub record Heaps (H : Head) (made : List Kept) (trees : List Tree) (al : List Allocation) (h : Heap) : Type 0 where
  pub count : length al ≡ length trees
  pub cells : (r : ℕ) (a : Tree) → slice_get trees r ≡ Some a → cells_of (sizes al) (suc r) ≡ length (flat a)
  pub lengths : (r n : ℕ) (t : Ty) → slice_get made r ≡ Some (Many n t) → length_of al (suc r) ≡ n
  pub coded : (r x : ℕ) (a : Tree) (v : Value) → slice_get trees r ≡ Some a → slice_get (flat a) x ≡ Some v → Coded H v (h (suc r) x)
  pub fresh : (r x : ℕ) → length trees < r → h r x ≡ 0

-- Where the part at the end of a way begins, as the types on the way tell it
module _ (structs : List (List Ty)) (singles : List Kind) where
  -- in something of this type
  abbrev pub type_offset : Ty → List ℕ → ℕ
  type_offset t [] = 0
  type_offset (StructTy j) (i ∷ path) = k.field_offset structs singles j i + type_offset (get_or (get_or structs j []) i VoidTy) path
  type_offset t (i ∷ path) = 0

  -- in an allocation
  abbrev pub kept_offset : Kept → List ℕ → ℕ
  kept_offset (One t) path = type_offset t path
  kept_offset (Many n t) [] = 0
  kept_offset (Many n t) (i ∷ path) = i * length (k.cells_of structs singles t) + type_offset t path

-- what a pointer or an array refers to: its type
abbrev pub kept_type : Kept → Ty
kept_type (One t) = t
kept_type (Many n t) = t

-- the way from there
abbrev pub inner_path : Kept → List ℕ → List ℕ
inner_path (One t) path = path
inner_path (Many n t) [] = []
inner_path (Many n t) (i ∷ path) = path
