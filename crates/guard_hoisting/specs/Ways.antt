-- Which scope serves which loads and stores of a loop. A loop has at most four scopes, and each serves in a way of its own. A pointer that the loop does
-- not assign, and of which it reaches one cell alone, has a scope that is aimed at that cell before the loop. Any other register has a scope that is
-- aimed at each load and store through it, and keeps its piece until another is wanted. Where a loop reaches cells through more than four registers, and
-- has no loop in it, the three that it uses most have such scopes, those that it assigns come last, and the fourth scope serves all others; one that has
-- loops in it leaves the scopes to them.
use Rattle.std.specs.Prelude.{ℕ, suc, ◌+◌, ◌-◌, ◌==◌, ◌&&◌, ◌||◌, min, max, nat_le, nat_lt, not, Bool, true, false, cond, Option, Some, None, List, [], ◌∷◌, ◌++◌, length, map, slice_index_or, take}
use Rattle.code_form.specs.declared.form.Kind.{Kind}
use Rattle.code_form.specs.Form.{Simple}
use Rattle.code_form.specs.Code.{needs_shut, place_fits}
use Rattle.middle_form.specs.Discipline.{writes}
use Rattle.middle_form.specs.Scoped.{Code, Nothing, Do, Load, Store, LoadBy, StoreBy, Aim, Leave, Loose, Call, Fail, Then, Choose, Loop, Block, Exit}
use Rattle.guard_hoisting.specs.declared.ways.Way.{Way}
use Rattle.guard_hoisting.specs.declared.ways.Way.TheVariants.{Fixed, Own, Shared}
use Rattle.guard_hoisting.specs.declared.ways.Use.{Use}

-- ---- what a scope serves

-- the loads and stores of a cell: that disp behind the offset in `off`, in what register r refers to
abbrev pub serves : Way → (r : ℕ) → Option ℕ → ℕ → Bool
serves (Fixed q e) r None disp = (r == q) && (disp == e)
serves (Fixed q e) r (Some d) disp = false
serves (Own q) r off disp = r == q
serves Shared r off disp = true

-- the first scope that serves a cell
abbrev pub scope_in : List Way → (r : ℕ) → Option ℕ → ℕ → ℕ
scope_in [] r off disp = 0
scope_in (w ∷ ws) r off disp = cond (serves w r off disp) 0 (suc (scope_in ws r off disp))

-- what a scope serves
abbrev pub way_at : List Way → ℕ → Way
way_at ws s = slice_index_or ws s Shared

-- ---- which registers code uses, and how often

-- a way is that of register r
abbrev pub is_through : Way → ℕ → Bool
is_through (Fixed q e) r = r == q
is_through (Own q) r = r == q
is_through Shared r = false

-- the way of a cell that is used for the first time
abbrev pub first_way : ℕ → Option ℕ → ℕ → Way
first_way r None disp = Fixed r disp
first_way r (Some d) disp = Own r

-- the first use of a register
abbrev pub first_use : ℕ → Option ℕ → ℕ → Use
first_use r off disp = record { way = first_way r off disp; times = 1 }

-- A further use of it: the way stays where it serves this cell too. No more than 4294967295 uses are counted
abbrev pub used_again : Use → ℕ → Option ℕ → ℕ → Use
used_again u r off disp = record { way = cond (serves u.way r off disp) u.way (Own r); times = min (u.times + 1) 4294967295 }

-- one more load or store
abbrev pub with_use : ℕ → Option ℕ → ℕ → List Use → List Use
with_use r off disp [] = first_use r off disp ∷ []
with_use r off disp (u ∷ us) = cond (is_through u.way r) (used_again u r off disp ∷ us) (u ∷ with_use r off disp us)

-- those of code too
abbrev pub uses_with : Code → List Use → List Use
uses_with (Load to s r off disp) us = with_use r off disp us
uses_with (Store s r off disp from) us = with_use r off disp us
uses_with (Then a b) us = uses_with b (uses_with a us)
uses_with (Choose c a b) us = uses_with b (uses_with a us)
uses_with (Loop test c body) us = uses_with body (uses_with test us)
uses_with (Block a) us = uses_with a us
uses_with _ us = us

-- ---- which loops are served

-- code makes no call and no allocation, and has its scopes as `place` sets them: aimed at each load and store
abbrev pub is_quiet : Code → Bool
is_quiet Nothing = true
is_quiet (Do o) = not (needs_shut (Simple o))
is_quiet (Load to s r off disp) = true
is_quiet (Store s r off disp from) = true
is_quiet (LoadBy to s r off disp) = false
is_quiet (StoreBy s r off disp from) = false
is_quiet (Aim s r off disp) = false
is_quiet (Leave s) = true
is_quiet (Loose s) = false
is_quiet (Call to f args) = false
is_quiet (Fail a) = true
is_quiet (Then a b) = is_quiet a && is_quiet b
is_quiet (Choose c a b) = is_quiet a && is_quiet b
is_quiet (Loop test c body) = is_quiet test && is_quiet body
is_quiet (Block a) = is_quiet a
is_quiet (Exit k) = true

-- how many of the loops and blocks round it code leaves, at most
abbrev pub most_left : Code → ℕ
most_left (Then a b) = max (most_left a) (most_left b)
most_left (Choose c a b) = max (most_left a) (most_left b)
most_left (Loop test c body) = max (most_left test) (most_left body) - 1
most_left (Block a) = most_left a - 1
most_left (Exit k) = k + 1
most_left _ = 0

-- a loop is in it
abbrev pub has_loop : Code → Bool
has_loop (Then a b) = has_loop a || has_loop b
has_loop (Choose c a b) = has_loop a || has_loop b
has_loop (Loop test c body) = true
has_loop (Block a) = has_loop a
has_loop _ = false

-- a loop of this test and body is left to what stands behind it alone, and its test and its body are quiet
abbrev pub is_closed : (test body : Code) → Bool
is_closed test body = (is_quiet test && is_quiet body) && (nat_le (most_left test) 1 && nat_le (most_left body) 1)

-- ---- which scopes a loop has

-- the loop assigns register r
abbrev pub assigns : (test body : Code) → ℕ → Bool
assigns test body r = writes test r || writes body r

-- Over a loop of this test and body, in a function with registers of these kinds
module _ (ks : List Kind) (test body : Code) where
  -- a way, of so many uses: a register that the loop assigns has its scope aimed at each use, and comes behind all others; so has one that refers to nothing
  abbrev pub settled_way : Way → ℕ → Use
  settled_way (Fixed r disp) n =
      cond (assigns test body r) (record { way = Own r; times = 0 }) (cond (place_fits ks r None) (record { way = Fixed r disp; times = n }) (record { way = Own r; times = n }))
  settled_way (Own r) n = cond (assigns test body r) (record { way = Own r; times = 0 }) (record { way = Own r; times = n })
  settled_way Shared n = record { way = Shared; times = n }

  -- a register's uses
  abbrev pub settled : Use → Use
  settled u = settled_way u.way u.times

-- a use in its place among others: before the first that counts less
abbrev pub ranked_in : Use → List Use → List Use
ranked_in u [] = u ∷ []
ranked_in u (v ∷ vs) = cond (nat_lt v.times u.times) (u ∷ v ∷ vs) (v ∷ ranked_in u vs)

-- so each of these, in their order
abbrev pub ranked_with : List Use → List Use → List Use
ranked_with vs [] = vs
ranked_with vs (u ∷ us) = ranked_with (ranked_in u vs) us

-- the ways of uses
abbrev pub ways_of : List Use → List Way
ways_of us = map (λ (u : Use). u.way) us

-- four registers have a scope each; of more the first three by their rank, and the fourth scope serves all others
abbrev pub chosen : List Use → List Way
chosen us = cond (nat_lt 4 (length us)) (ways_of (take 3 (ranked_with [] us)) ++ Shared ∷ []) (ways_of us)

-- what serves these uses of a loop; nothing where they are too many, and a loop inside is to have the scopes
abbrev pub fitting : List Kind → (test body : Code) → List Use → Option (List Way)
fitting ks test body us = cond (nat_lt 4 (length us) && (has_loop test || has_loop body)) None (Some (chosen (map (settled ks test body) us)))

-- the ways of a loop's scopes; nothing where it stays as it is
abbrev pub ways_for : List Kind → (test body : Code) → Option (List Way)
ways_for ks test body = cond (is_closed test body) (fitting ks test body (uses_with body (uses_with test []))) None
