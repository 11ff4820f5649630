-- Guards out of loops. A loop that makes no call, no return and no allocation has its scopes opened before it and left behind it, which is where each of
-- its ways out leads; in its test and its body no scope is left. The checks stay where they stand. It is so with each such loop that begins with all
-- scopes shut and is in no other one; all other code stays as it is.
use Rattle.std.specs.Prelude.{ℕ, suc, ◌==◌, max, not, Option, Some, None, List, [], ◌∷◌, ◌++◌, length, map}
use Rattle.std.specs.List.{filter}
use Rattle.code_form.specs.declared.form.Kind.{Kind}
use Rattle.middle_form.specs.Scoped.{Code, Nothing, Do, Load, Store, LoadBy, StoreBy, Aim, Leave, Loose, Call, Fail, Then, Choose, Loop, Block, Exit, Function, Program}
use Rattle.scoped_building.specs.Building.{in_order}
use Rattle.guard_hoisting.specs.declared.ways.Way.{Way}
use Rattle.guard_hoisting.specs.declared.ways.Way.TheVariants.{Fixed, Own, Shared}
use Rattle.guard_hoisting.specs.Ways.{scope_in, way_at, ways_for}

-- ---- a loop with its scopes

-- a load by scope s, which serves in this way
abbrev pub load_as : Way → (to s r : ℕ) → Option ℕ → ℕ → Code
load_as (Fixed q e) to s r off disp = LoadBy to s r off disp
load_as (Own q) to s r off disp = Load to s r off disp
load_as Shared to s r off disp = Load to s r off disp

-- a store
abbrev pub store_as : Way → (s r : ℕ) → Option ℕ → (disp from : ℕ) → Code
store_as (Fixed q e) s r off disp from = StoreBy s r off disp from
store_as (Own q) s r off disp from = Store s r off disp from
store_as Shared s r off disp from = Store s r off disp from

-- the parts that come in place of code in the loop
abbrev pub moved : List Way → Code → List Code
moved ws Nothing = []
moved ws (Do o) = Do o ∷ []
moved ws (Load to s r off disp) = load_as (way_at ws (scope_in ws r off disp)) to (scope_in ws r off disp) r off disp ∷ []
moved ws (Store s r off disp from) = store_as (way_at ws (scope_in ws r off disp)) (scope_in ws r off disp) r off disp from ∷ []
moved ws (LoadBy to s r off disp) = LoadBy to s r off disp ∷ []
moved ws (StoreBy s r off disp from) = StoreBy s r off disp from ∷ []
moved ws (Aim s r off disp) = Aim s r off disp ∷ []
moved ws (Leave s) = []
moved ws (Loose s) = Loose s ∷ []
moved ws (Call to f args) = Call to f args ∷ []
moved ws (Fail a) = Fail a ∷ []
moved ws (Then a b) = moved ws a ++ moved ws b
moved ws (Choose c a b) = Choose c (in_order (moved ws a)) (in_order (moved ws b)) ∷ []
moved ws (Loop test c body) = Loop (in_order (moved ws test)) c (in_order (moved ws body)) ∷ []
moved ws (Block a) = Block (in_order (moved ws a)) ∷ []
moved ws (Exit k) = Exit k ∷ []

-- opens scope s, which serves in this way
abbrev pub opening : ℕ → Way → Code
opening s (Fixed r disp) = Aim s r None disp
opening s (Own r) = Loose s
opening s Shared = Loose s

-- ... and those from s on
abbrev pub openings : ℕ → List Way → List Code
openings s [] = []
openings s (w ∷ ws) = opening s w ∷ openings (suc s) ws

-- leaves them
abbrev pub closings : ℕ → List Way → List Code
closings s [] = []
closings s (w ∷ ws) = Leave s ∷ closings (suc s) ws

-- the loop
abbrev pub lifted : List Way → (test : Code) → ℕ → (body : Code) → List Code
lifted ws test c body = openings 0 ws ++ (Loop (in_order (moved ws test)) c (in_order (moved ws body)) ∷ closings 0 ws)

-- the loop, where it has ways, and else this
abbrev pub lifted_or : Option (List Way) → (test : Code) → ℕ → (body : Code) → List Code → List Code
lifted_or None test c body other = other
lifted_or (Some ws) test c body other = lifted ws test c body

-- ---- code

-- the scopes that may be open behind code, where these may be open before it
abbrev pub open_behind : Code → List ℕ → List ℕ
open_behind (Load to s r off disp) o = o ++ s ∷ []
open_behind (Store s r off disp from) o = o ++ s ∷ []
open_behind (Aim s r off disp) o = o ++ s ∷ []
open_behind (Loose s) o = o ++ s ∷ []
open_behind (Leave s) o = filter (λ (u : ℕ). not (u == s)) o
open_behind (Then a b) o = open_behind b (open_behind a o)
open_behind _ o = o

-- what comes in place of code in a choice, a loop or a block before which these scopes may be open: it stays as it is where there is one
abbrev pub inside : List ℕ → Code → List Code → Code
inside [] a parts = in_order parts
inside (s ∷ o) a parts = a

-- the ways of the scopes of a loop before which these may be open
abbrev pub ways_behind : List ℕ → List Kind → (test body : Code) → Option (List Way)
ways_behind [] ks test body = ways_for ks test body
ways_behind (s ∷ o) ks test body = None

-- how many scopes serve a loop, where it has ways, and else this
abbrev pub served_or : Option (List Way) → ℕ → ℕ
served_or None n = n
served_or (Some ws) n = length ws

-- how many scopes the loops in code have that stands in a choice, a loop or a block before which these may be open
abbrev pub served_inside : List ℕ → ℕ → ℕ
served_inside [] n = n
served_inside (s ∷ o) n = 0

-- Over the registers of a function, by their kinds
module _ (ks : List Kind) where
  -- the parts that come in place of code before which these scopes may be open
  abbrev pub hoisted : Code → List ℕ → List Code
  hoisted Nothing o = []
  hoisted (Then a b) o = hoisted a o ++ hoisted b (open_behind a o)
  hoisted (Choose c a b) o = Choose c (inside o a (hoisted a [])) (inside o b (hoisted b [])) ∷ []
  hoisted (Loop test c body) o =
      lifted_or (ways_behind o ks test body) test c body (Loop (inside o test (hoisted test [])) c (inside o body (hoisted body [])) ∷ [])
  hoisted (Block a) o = Block (inside o a (hoisted a [])) ∷ []
  hoisted a o = a ∷ []

  -- how many scopes the loops in code have, at most
  abbrev pub most_served : Code → List ℕ → ℕ
  most_served (Then a b) o = max (most_served a o) (most_served b (open_behind a o))
  most_served (Choose c a b) o = max (served_inside o (most_served a [])) (served_inside o (most_served b []))
  most_served (Loop test c body) o =
      served_or (ways_behind o ks test body) (max (served_inside o (most_served test [])) (served_inside o (most_served body [])))
  most_served (Block a) o = served_inside o (most_served a [])
  most_served a o = 0

-- a function
abbrev pub hoisted_function : Function → Function
hoisted_function g = record {
  result = g.result;
  parameters = g.parameters;
  kinds = g.kinds;
  scopes = max g.scopes (most_served g.kinds g.body []);
  body = in_order (hoisted g.kinds g.body []);
  value = g.value;
}

-- a program
abbrev pub hoisted_program : Program → Program
hoisted_program P = record { head = P.head; functions = map hoisted_function P.functions }
