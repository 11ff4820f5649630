-- Code of a few loads, and what comes in place of it, written out.
use Rattle.std.specs.Prelude.{[], ◌∷◌, None}
use Rattle.middle_form.specs.Form as m
use Rattle.middle_form.specs.Samples as sample
use Rattle.middle_form.specs.Scoped.{Code, Call, Leave, Load}
use Rattle.scoped_building.specs.Building.{in_order}

-- two loads through register 3: one scope, and one leave
abbrev pub shared : m.Code
shared = sample.in_order (m.Load 0 3 None 0 ∷ m.Load 1 3 None 1 ∷ [])

-- both aim scope 0, which is left behind them
abbrev pub shared_placed : Code
shared_placed = in_order (Load 0 0 3 None 0 ∷ Load 1 0 3 None 1 ∷ Leave 0 ∷ [])

-- loads through registers 3, 7 and 3: by scopes 0, 1 and 0
abbrev pub returning : m.Code
returning = sample.in_order (m.Load 0 3 None 0 ∷ m.Load 0 7 None 0 ∷ m.Load 0 3 None 0 ∷ [])

-- register 3 has its scope still where it comes again; both scopes are left at the end
abbrev pub returning_placed : Code
returning_placed = in_order (Load 0 0 3 None 0 ∷ Load 0 1 7 None 0 ∷ Load 0 0 3 None 0 ∷ Leave 0 ∷ Leave 1 ∷ [])

-- loads through five registers, and through the first again: the fourth scope serves the fifth register too
abbrev pub many : m.Code
many = sample.in_order (m.Load 0 10 None 0 ∷ m.Load 0 11 None 0 ∷ m.Load 0 12 None 0 ∷ m.Load 0 13 None 0 ∷ m.Load 0 14 None 0 ∷ m.Load 0 10 None 0 ∷ [])

-- scope 3 is aimed for the fourth register, and then for the fifth
abbrev pub many_placed : Code
many_placed = in_order (
    Load 0 0 10 None 0 ∷ Load 0 1 11 None 0 ∷ Load 0 2 12 None 0 ∷ Load 0 3 13 None 0 ∷ Load 0 3 14 None 0 ∷ Load 0 0 10 None 0
    ∷ Leave 0 ∷ Leave 1 ∷ Leave 2 ∷ Leave 3 ∷ [])

-- a call between two loads through one register: the scope is left before it
abbrev pub calling : m.Code
calling = sample.in_order (m.Load 0 3 None 0 ∷ m.Call None 1 [] ∷ m.Load 0 3 None 0 ∷ [])

-- scope 0 is left before the call and behind the second load
abbrev pub calling_placed : Code
calling_placed = in_order (Load 0 0 3 None 0 ∷ Leave 0 ∷ Call None 1 [] ∷ Load 0 0 3 None 0 ∷ Leave 0 ∷ [])
