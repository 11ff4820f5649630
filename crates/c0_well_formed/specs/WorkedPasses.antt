-- Code of a few loops in which scopes are placed, and what `hoist` puts in its place, written out.
use Rattle.std.specs.Prelude.{List, [], ◌∷◌, Some, None}
use Rattle.cells.specs.declared.int32.Int32Op.TheVariants.{Add}
use Rattle.code_form.specs.declared.form.Kind.{Kind}
use Rattle.code_form.specs.declared.form.Kind.TheVariants as kind
use Rattle.code_form.specs.declared.form.Operation.{Operation}
use Rattle.code_form.specs.declared.form.Operation.TheVariants.{Binary, CheckIndex, CheckNull, Compare}
use Rattle.code_form.specs.declared.form.Relation.TheVariants as relation
use Rattle.middle_form.specs.Form as m
use Rattle.middle_form.specs.Samples as sample
use Rattle.middle_form.specs.Scoped.{Code, Aim, Choose, Call, Do, Exit, Fail, Leave, Load, LoadBy, Loop, Loose, Store, StoreBy}
use Rattle.scoped_building.specs.Building.{in_order}
use Rattle.scope_placement.specs.Placed.{whole}
use Rattle.guard_hoisting.specs.Hoisted.{hoisted}

-- 0 a sum, 1 an index, 2 how many, 3 the condition, 4 an array, 5 an offset, 6 an element, 7 one, 8 a pointer, and arrays from 9 on
abbrev pub registers : List Kind
registers =
    kind.Int ∷ kind.Int ∷ kind.Int ∷ kind.Bool ∷ kind.Arr 0 ∷ kind.Off 0 ∷ kind.Int ∷ kind.Int ∷ kind.Ptr 0 ∷ kind.Arr 0 ∷ kind.Arr 0 ∷ kind.Arr 0 ∷ kind.Arr 0 ∷ []

-- what comes in place of code, behind `place`
abbrev pub behind_place : m.Code → List Code
behind_place a = hoisted registers (whole a) []

-- the index is compared
abbrev pub compares : Operation
compares = Compare relation.Less 3 1 2

-- it is raised
abbrev pub counts : Operation
counts = Binary Add 1 1 7

-- an element is added
abbrev pub sums : Operation
sums = Binary Add 0 0 6

-- a loop of the middle form over these parts
abbrev pub over : List m.Code → m.Code
over parts = m.Loop (sample.in_order (m.Do compares ∷ [])) 3 (sample.in_order parts)

-- a scoped one
abbrev pub over_scoped : List Code → Code
over_scoped parts = Loop (in_order (Do compares ∷ [])) 3 (in_order parts)

-- a scan: the sum of an array's elements
abbrev pub scan : m.Code
scan = over (m.Do (CheckIndex 5 4 1 1) ∷ m.Load 6 4 (Some 5) 0 ∷ m.Do sums ∷ m.Do counts ∷ [])

-- no scope is left in the body, and one behind the loop
abbrev pub scan_hoisted : List Code
scan_hoisted = Loose 0 ∷ over_scoped (Do (CheckIndex 5 4 1 1) ∷ Load 6 0 4 (Some 5) 0 ∷ Do sums ∷ Do counts ∷ []) ∷ Leave 0 ∷ []

-- a cell that a pointer refers to is set at each turn
abbrev pub setting : m.Code
setting = over (m.Do (CheckNull 8) ∷ m.Store 8 None 0 1 ∷ m.Do counts ∷ [])

-- its aim stands before the loop, and its check in the body
abbrev pub setting_hoisted : List Code
setting_hoisted = Aim 0 8 None 0 ∷ over_scoped (Do (CheckNull 8) ∷ StoreBy 0 8 None 0 1 ∷ Do counts ∷ []) ∷ Leave 0 ∷ []

-- ... in a loop within another
abbrev pub nested : m.Code
nested = over (setting ∷ m.Do counts ∷ [])

-- its aim stands before the outer loop
abbrev pub nested_hoisted : List Code
nested_hoisted = Aim 0 8 None 0 ∷ over_scoped (over_scoped (Do (CheckNull 8) ∷ StoreBy 0 8 None 0 1 ∷ Do counts ∷ []) ∷ Do counts ∷ []) ∷ Leave 0 ∷ []

-- the pointer goes on to the next of a list: it is assigned in the loop
abbrev pub walking : m.Code
walking = over (m.Do (CheckNull 8) ∷ m.Load 6 8 None 0 ∷ m.Do sums ∷ m.Load 8 8 None 1 ∷ [])

-- it is aimed at each load
abbrev pub walking_hoisted : List Code
walking_hoisted = Loose 0 ∷ over_scoped (Do (CheckNull 8) ∷ Load 6 0 8 None 0 ∷ Do sums ∷ Load 8 0 8 None 1 ∷ []) ∷ Leave 0 ∷ []

-- a call in the loop
abbrev pub calling : m.Code
calling = over (m.Call None 1 [] ∷ m.Do (CheckNull 8) ∷ m.Store 8 None 0 1 ∷ m.Do counts ∷ [])

-- it stays as it is
abbrev pub calling_hoisted : List Code
calling_hoisted = over_scoped (Call None 1 [] ∷ Do (CheckNull 8) ∷ Store 0 8 None 0 1 ∷ Do counts ∷ Leave 0 ∷ []) ∷ []

-- a return in the loop, which leaves a block round it
abbrev pub returning : m.Code
returning = m.Block (sample.in_order (over (m.Do (CheckNull 8) ∷ m.Load 0 8 None 0 ∷ m.Exit 1 ∷ []) ∷ []))

-- it stays as it is: the scope is left before the exit
abbrev pub returning_hoisted : Code
returning_hoisted = over_scoped (Do (CheckNull 8) ∷ Load 0 0 8 None 0 ∷ Leave 0 ∷ Exit 1 ∷ [])

-- a text stops the program in the loop, and the loop is left in its middle
abbrev pub failing : m.Code
failing = over (m.Do (CheckNull 8) ∷ m.Load 0 8 None 0 ∷ m.Choose 3 (m.Exit 0) (m.Fail 6) ∷ [])

-- the scope is left behind the loop
abbrev pub failing_hoisted : List Code
failing_hoisted = Aim 0 8 None 0 ∷ over_scoped (Do (CheckNull 8) ∷ LoadBy 0 0 8 None 0 ∷ Choose 3 (in_order (Exit 0 ∷ [])) (in_order (Fail 6 ∷ [])) ∷ []) ∷ Leave 0 ∷ []

-- five arrays, of which the last is used three times
abbrev pub many : m.Code
many = over (m.Load 6 4 (Some 5) 0 ∷ m.Load 6 9 (Some 5) 0 ∷ m.Load 6 10 (Some 5) 0 ∷ m.Load 6 11 (Some 5) 0 ∷ m.Load 6 12 (Some 5) 0 ∷ m.Load 6 12 (Some 5) 0 ∷ m.Load 6 12 (Some 5) 0 ∷ [])

-- it has scope 0, the first two have scopes 1 and 2, and scope 3 serves the others
abbrev pub many_hoisted : List Code
many_hoisted =
    Loose 0 ∷ Loose 1 ∷ Loose 2 ∷ Loose 3
    ∷ over_scoped (Load 6 1 4 (Some 5) 0 ∷ Load 6 2 9 (Some 5) 0 ∷ Load 6 3 10 (Some 5) 0 ∷ Load 6 3 11 (Some 5) 0 ∷ Load 6 0 12 (Some 5) 0 ∷ Load 6 0 12 (Some 5) 0 ∷ Load 6 0 12 (Some 5) 0 ∷ [])
    ∷ Leave 0 ∷ Leave 1 ∷ Leave 2 ∷ Leave 3 ∷ []
