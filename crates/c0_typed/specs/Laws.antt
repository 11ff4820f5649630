-- What the crates above use.
use Rattle.std.specs.Prelude.{◌≡◌, ℕ, ◌+◌, List, Some, slice_get}
use Rattle.c0_typed.specs.Values.{Value, Tree, part_at}
use Rattle.c0_typed.specs.Layouts.{flat, offset}
use Rattle.c0_typed.specs.Trees.{Ty, Program}
use Rattle.c0_typed.specs.Typing.{Kept, Grown, IsWay}

-- a place has the same offset in every tree of its type
abbrev pub OffsetTold : Type 0
OffsetTold = (p : Program) (m n : List Kept) (path : List ℕ) (t u : Ty) (a b : Tree) → IsWay p t path u → Grown p m t a → Grown p n t b → offset path a ≡ offset path b

-- the cells of the place stand there
abbrev pub CellThere : Type 0
CellThere = (p : Program) (made : List Kept) (path : List ℕ) (t u : Ty) (a : Tree) (j : ℕ) (v : Value) → IsWay p t path u → Grown p made t a
    → slice_get (flat (part_at path a)) j ≡ Some v → slice_get (flat a) (offset path a + j) ≡ Some v
