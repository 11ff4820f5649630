-- Code of a few loops, and what comes in place of it, written out; over pieces of 64 cells where nothing else is said.
use Rattle.std.specs.Prelude.{ℕ, ℤ, pos, negsuc, List, [], ◌∷◌, Some}
use Rattle.cells.specs.declared.int32.Int32Op.TheVariants.{Add, Sub}
use Rattle.code_form.specs.declared.form.Operation.TheVariants.{Binary, CheckIndex, Compare, Const, Move, Prefetch}
use Rattle.code_form.specs.declared.form.Relation.TheVariants as relation
use Rattle.middle_form.specs.Scoped.{Code, Do, Load, Loop, Store}
use Rattle.scoped_building.specs.Building.{in_order}
use Rattle.prefetch_pass.specs.Prefetched.{hinted}
use Rattle.prefetch_pass.specs.Raised.{offsets_with}

-- what comes in place of code, over pieces of so many cells. In what follows: 0 a sum, 1 an index, 2 how many, 3 the condition, 4 an array, 5 an offset, 6 an element, 7 and 8 numbers
abbrev pub with_hints : ℕ → Code → Code
with_hints n a = hinted n (offsets_with a [] []) a

-- a loop while the index is less, with these parts
abbrev pub over : List Code → Code
over parts = Loop (in_order (Do (Compare relation.Less 3 1 2) ∷ [])) 3 (in_order parts)

-- the index is checked
abbrev pub checks : Code
checks = Do (CheckIndex 5 4 1 1)

-- an element is read, from this cell of it
abbrev pub reads : Code
reads = Load 6 0 4 (Some 5) 0

-- ... and the hint for the cell so many further on
abbrev pub hint : ℕ → Code
hint n = in_order (reads ∷ Do (Prefetch 4 (Some 5) n) ∷ [])

-- a number is added to the index
abbrev pub adds : ℤ → List Code
adds z = Do (Const 7 z) ∷ Do (Binary Add 1 1 7) ∷ []

-- an array is read, and the index raised by 1
abbrev pub scan : Code
scan = over (checks ∷ reads ∷ adds (pos 1))

-- behind the load stands a hint
abbrev pub scan_hinted : ℕ → Code
scan_hinted n = over (checks ∷ hint n ∷ adds (pos 1))

-- the fourth cell of an element is written, and the index raised by 3, as the value of a sum
abbrev pub setting : Code
setting = over (checks ∷ Store 0 4 (Some 5) 3 1 ∷ Do (Const 8 (pos 3)) ∷ Do (Binary Add 7 1 8) ∷ Do (Move 1 7) ∷ [])

-- behind the store stands a hint
abbrev pub setting_hinted : Code
setting_hinted =
    over (checks ∷ in_order (Store 0 4 (Some 5) 3 1 ∷ Do (Prefetch 4 (Some 5) 67) ∷ []) ∷ Do (Const 8 (pos 3)) ∷ Do (Binary Add 7 1 8) ∷ Do (Move 1 7) ∷ [])

-- the last displacement to which 64 can be added has a hint, and the next has none
abbrev pub far : Code
far = over (checks ∷ Load 6 0 4 (Some 5) 4294967231 ∷ Load 6 0 4 (Some 5) 4294967232 ∷ adds (pos 1))

-- ...
abbrev pub far_hinted : Code
far_hinted = over (checks ∷ in_order (Load 6 0 4 (Some 5) 4294967231 ∷ Do (Prefetch 4 (Some 5) 4294967295) ∷ []) ∷ Load 6 0 4 (Some 5) 4294967232 ∷ adds (pos 1))

-- the index is lowered
abbrev pub lowered : Code
lowered = over (checks ∷ reads ∷ Do (Const 7 (pos 1)) ∷ Do (Binary Sub 1 1 7) ∷ [])

-- by a number below 0
abbrev pub lowered_by_sum : Code
lowered_by_sum = over (checks ∷ reads ∷ adds (negsuc 0))

-- raised, and set to what stands elsewhere
abbrev pub set_too : Code
set_too = over (checks ∷ reads ∷ Do (Move 1 2) ∷ adds (pos 1))

-- raised by what a register holds
abbrev pub by_register : Code
by_register = over (checks ∷ reads ∷ Do (Binary Add 1 1 2) ∷ [])

-- a loop in that loop which doesn't assign the index
abbrev pub inner : List Code → Code
inner parts = Loop (in_order []) 3 (in_order parts)

-- the outer loop raises the index
abbrev pub outer : Code
outer = over (inner (checks ∷ reads ∷ []) ∷ adds (pos 1))

-- behind the load in the inner loop stands a hint
abbrev pub outer_hinted : Code
outer_hinted = over (inner (checks ∷ hint 64 ∷ []) ∷ adds (pos 1))

-- the outer loop raises the index, and the inner one sets it
abbrev pub set_inside : Code
set_inside = over (inner (checks ∷ reads ∷ Do (Move 1 2) ∷ []) ∷ adds (pos 1))

-- the outer loop sets it, and the inner one raises it
abbrev pub raised_inside : Code
raised_inside = over (Do (Move 1 2) ∷ inner (checks ∷ reads ∷ adds (pos 1)) ∷ [])

-- behind the load in the inner loop stands a hint
abbrev pub raised_inside_hinted : Code
raised_inside_hinted = over (Do (Move 1 2) ∷ inner (checks ∷ hint 64 ∷ adds (pos 1)) ∷ [])
