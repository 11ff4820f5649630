-- Where scopes are placed. In a straight run of instructions one scope serves all accesses through one register: it is aimed at each of them, so that a
-- piece that it holds already stays, and it is left where the run ends. A run ends before a call or an allocation, before a choice, a loop or a block,
-- before an exit, and where the code of a side, a test, a body, a block or a function ends. The first three registers of a run have a scope each; the
-- fourth scope serves all others, and keeps what it holds until another of them is reached.
use Rattle.std.specs.Prelude.{ℕ, zero, suc, ◌==◌, max, cond, List, [], ◌∷◌, ◌++◌, length, map}
use Rattle.code_form.specs.Form.{Simple}
use Rattle.code_form.specs.Code.{needs_shut}
use Rattle.middle_form.specs.Form as m
use Rattle.middle_form.specs.Scoped.{Code, Do, Load, Store, Leave, Call, Fail, Choose, Loop, Block, Exit, Function, Program}
use Rattle.scoped_building.specs.Building.{in_order}

-- the registers for which scopes are open in a run: scope 0 for the first, and so on
abbrev pub Open : Type 0
Open = List ℕ

-- ---- which scope is whose. In what follows so many scopes, and one more, are for registers of a run

-- the scope of register r, behind those that are looked at already
abbrev pub scope_among : ℕ → ℕ → Open → ℕ
scope_among zero r rs = 0
scope_among (suc k) r [] = 0
scope_among (suc k) r (q ∷ rs) = cond (r == q) 0 (suc (scope_among k r rs))

-- the registers for which scopes are open behind an access through r
abbrev pub open_among : ℕ → ℕ → Open → Open
open_among zero r rs = r ∷ []
open_among (suc k) r [] = r ∷ []
open_among (suc k) r (q ∷ rs) = cond (r == q) (q ∷ rs) (q ∷ open_among k r rs)

-- a function has at most four scopes
abbrev pub scope_for : ℕ → Open → ℕ
scope_for r rs = scope_among 3 r rs

-- ... also behind an access
abbrev pub open_with : ℕ → Open → Open
open_with r rs = open_among 3 r rs

-- ---- the end of a run

-- leaves the scopes from s on that are open
abbrev pub leaves_from : ℕ → Open → List Code
leaves_from s [] = []
leaves_from s (q ∷ rs) = Leave s ∷ leaves_from (suc s) rs

-- leaves all
abbrev pub leaves : Open → List Code
leaves rs = leaves_from 0 rs

-- ---- code

-- for which registers scopes are open behind code
abbrev pub open_behind : m.Code → Open → Open
open_behind m.Nothing rs = rs
open_behind (m.Do o) rs = cond (needs_shut (Simple o)) [] rs
open_behind (m.Load to r off disp) rs = open_with r rs
open_behind (m.Store r off disp from) rs = open_with r rs
open_behind (m.Call to f args) rs = []
open_behind (m.Fail a) rs = rs
open_behind (m.Then a b) rs = open_behind b (open_behind a rs)
open_behind (m.Choose c a b) rs = []
open_behind (m.Loop test c body) rs = []
open_behind (m.Block a) rs = []
open_behind (m.Exit k) rs = []

-- the parts that come in place of code, where so many scopes are open before it
abbrev pub placed : m.Code → Open → List Code
placed m.Nothing rs = []
placed (m.Do o) rs = cond (needs_shut (Simple o)) (leaves rs) [] ++ Do o ∷ []
placed (m.Load to r off disp) rs = Load to (scope_for r rs) r off disp ∷ []
placed (m.Store r off disp from) rs = Store (scope_for r rs) r off disp from ∷ []
placed (m.Call to f args) rs = leaves rs ++ Call to f args ∷ []
placed (m.Fail a) rs = Fail a ∷ []
placed (m.Then a b) rs = placed a rs ++ placed b (open_behind a rs)
placed (m.Choose c a b) rs =
    leaves rs ++ Choose c (in_order (placed a [] ++ leaves (open_behind a []))) (in_order (placed b [] ++ leaves (open_behind b []))) ∷ []
placed (m.Loop test c body) rs =
    leaves rs ++ Loop (in_order (placed test [] ++ leaves (open_behind test []))) c (in_order (placed body [] ++ leaves (open_behind body []))) ∷ []
placed (m.Block a) rs = leaves rs ++ Block (in_order (placed a [] ++ leaves (open_behind a []))) ∷ []
placed (m.Exit k) rs = leaves rs ++ Exit k ∷ []

-- code that begins and ends with all scopes shut
abbrev pub whole : m.Code → Code
whole a = in_order (placed a [] ++ leaves (open_behind a []))

-- how many scopes are open at once in code, at most
abbrev pub most_open : m.Code → Open → ℕ
most_open m.Nothing rs = 0
most_open (m.Do o) rs = 0
most_open (m.Load to r off disp) rs = length (open_with r rs)
most_open (m.Store r off disp from) rs = length (open_with r rs)
most_open (m.Call to f args) rs = 0
most_open (m.Fail a) rs = 0
most_open (m.Then a b) rs = max (most_open a rs) (most_open b (open_behind a rs))
most_open (m.Choose c a b) rs = max (most_open a []) (most_open b [])
most_open (m.Loop test c body) rs = max (most_open test []) (most_open body [])
most_open (m.Block a) rs = most_open a []
most_open (m.Exit k) rs = 0

-- a function
abbrev pub placed_function : m.Function → Function
placed_function g = record {
  result = g.result;
  parameters = g.parameters;
  kinds = g.kinds;
  scopes = most_open g.body [];
  body = whole g.body;
  value = g.value;
}

-- a program
abbrev pub placed_program : m.Program → Program
placed_program P = record { head = P.head; functions = map placed_function P.functions }
