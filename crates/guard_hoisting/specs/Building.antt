-- Tables over the registers of a loop, in the words of the definitions.
use Rattle.std.specs.Prelude.{◌≡◌, ℕ, suc, nat_eq, nat_lt, cond, List, [], ◌∷◌, length, Option, Some, None}
use Rattle.std.specs.HashMap.{HashMap, get}
use Rattle.std.specs.HashSet.{HashSet, contains}
use Rattle.std.specs.declared.hash.FoldHasher.{FoldHasher}
use Rattle.std.specs.declared.hash.BuildHasherDefault.{BuildHasherDefault}
use Rattle.std.specs.declared.vec.Vec.{Vec}
use Rattle.std.specs.declared.alloc.Global.{Global}
use Rattle.middle_form.specs.Scoped.{Code}
use Rattle.guard_hoisting.specs.declared.ways.Use.{Use}
use Rattle.guard_hoisting.specs.declared.ways.Way.{Way}
use Rattle.guard_hoisting.specs.Ways.{assigns, is_through}

-- the ways of a vector, where there is one
abbrev pub listed : Option (Vec Way Global) → Option (List Way)
listed None = None
listed (Some v) = Some v.items

-- the place of the first of these uses that is of register r, or that behind them
abbrev pub place_through : ℕ → List Use → ℕ
place_through r [] = 0
place_through r (u ∷ us) = cond (is_through u.way r) 0 (suc (place_through r us))

-- a place among so many, if it is one of them
abbrev pub known_place : ℕ → ℕ → Option ℕ
known_place p n = cond (nat_lt p n) (Some p) None

-- a table has the place of each register that is used
abbrev pub ArePlaces : HashMap ℕ ℕ (BuildHasherDefault FoldHasher) → List Use → Type 0
ArePlaces m us = (r : ℕ) → get nat_eq m r ≡ known_place (place_through r us) (length us)

-- a set has the registers that a loop of this test and body assigns
abbrev pub AreAssigned : HashSet ℕ (BuildHasherDefault FoldHasher) → (test body : Code) → Type 0
AreAssigned s test body = (r : ℕ) → contains nat_eq s r ≡ assigns test body r

-- the place of the first that counts less, or that behind them
abbrev pub place_below : ℕ → List Use → ℕ
place_below n [] = 0
place_below n (u ∷ us) = cond (nat_lt u.times n) 0 (suc (place_below n us))
