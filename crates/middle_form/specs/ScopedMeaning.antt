-- The bounded meaning of the scoped form: that of the middle form, in which each access goes by its scope, as the instructions of an image do. A load or
-- a store by a scope that is not freshly aimed is stuck.
use Rattle.std.specs.Prelude.{ℕ, zero, suc, ◌+◌, ◌-◌, ◌&&◌, nat_lt, List, [], ◌∷◌, ◌++◌, length, map, replicate, slice_get, slice_index, slice_set, Option, Some, None}
use Rattle.cells.specs.Outcomes.{Meant}
use Rattle.cells.specs.Stops.{ErrorCalled}
use Rattle.code_form.specs.declared.form.Kind.{Kind}
use Rattle.code_form.specs.declared.form.Kind.TheVariants as kind
use Rattle.code_form.specs.Code.{Did, Goes, Tells, Sets, Makes, Prints, Stops, Fails, Scope, Shut, Aimed, call_fits, can_use, has, if_zero, offset, op_did, place_fits, text_at, written}
use Rattle.code_form.specs.Effects.{with_cell}
use Rattle.code_form.specs.Form.{Head}
use Rattle.middle_form.specs.Meaning.{Outcome, Done, Stopped, Cut, Stuck, Registers, State, opening, then_do, told, turn, where_so}
use Rattle.middle_form.specs.Scoped.{Code, Nothing, Do, Load, Store, LoadBy, StoreBy, Aim, Leave, Loose, Call, Fail, Then, Choose, Loop, Block, Exit, Function, Program}

-- what a call has of its own: its registers, and what each of its scopes is aimed at
pub record Local : Type 0 where
  pub registers : Registers
  pub scopes : List Scope

-- how code is left: with how many of the loops and blocks round it are left too
abbrev pub Left : Type 0
Left = ℕ × Local

-- to what stands behind
abbrev pub on : Local → State → Outcome Left
on l s = Done (0, l) s

-- goes on where code was left to what stands behind it
abbrev pub falls : (Local → State → Outcome Left) → Left → State → Outcome Left
falls go (zero, l) s = go l s
falls go (suc k, l) s = Done (suc k, l) s

-- one loop or block less is left
abbrev pub behind : Left → State → Outcome Left
behind (zero, l) s = on l s
behind (suc k, l) s = Done (k, l) s

-- ---- registers and scopes

-- a register is written; a scope that was aimed by it is stale
abbrev pub set_to : ℕ → ℕ → Local → Local
set_to d v l = record { registers = slice_set l.registers d v; scopes = map (written d) l.scopes }

-- this of a scope
abbrev pub with_scope : ℕ → Scope → Local → Local
with_scope s z l = record { registers = l.registers; scopes = slice_set l.scopes s z }

-- what a scope is that is aimed at a cell now
abbrev pub aimed : ℕ → Option ℕ → ℕ → Registers → Scope
aimed r off disp rs = Aimed r off disp (slice_index rs r) (offset rs off + disp)

-- a call that has this scope, behind an aim of it
abbrev pub aims : List Kind → (s r : ℕ) → Option ℕ → ℕ → Local → State → Outcome Left
aims ks s r off disp l t = where_so (place_fits ks r off && nat_lt s (length l.scopes)) (on (with_scope s (aimed r off disp l.registers) l) t)

-- ... and behind a leave
abbrev pub leaves : ℕ → Local → State → Outcome Left
leaves s l t = where_so (nat_lt s (length l.scopes)) (on (with_scope s Shut l) t)

-- ---- simple instructions, loads and stores

-- what a simple instruction comes to
abbrev pub operated : Did → Local → State → Outcome Left
operated Goes l s = on l s
operated (Tells w) l s = on l s
operated (Sets d v) l s = on (set_to d v l) s
operated (Makes d a) l s = on (set_to d (suc (length s.allocations)) l) (record s { allocations = a ∷ s.allocations })
operated (Prints bytes) l s = on l (record s { output = s.output ++ bytes })
operated (Stops x) l s = Stopped x s.output
operated Fails l s = Stuck

-- a load by a scope: of a cell that is there and of the register's kind
abbrev pub loads : Head → List Kind → (to : ℕ) → Option Scope → Local → State → Outcome Left
loads H ks to (Some (Aimed r off disp q x)) l s = where_so (can_use H ks s.allocations to r disp q x) (on (set_to to (s.heap q x) l) s)
loads H ks to _ l s = Stuck

-- a store by a scope
abbrev pub stores : Head → List Kind → Option Scope → (from : ℕ) → Local → State → Outcome Left
stores H ks (Some (Aimed r off disp q x)) from l s =
    where_so (can_use H ks s.allocations from r disp q x) (on l (record s { heap = with_cell s.heap q x (slice_index l.registers from) }))
stores H ks _ from l s = Stuck

-- the program stops by `error`
abbrev pub failed : Option (List ℕ) → State → Outcome Left
failed None s = Stuck
failed (Some text) s = Stopped (ErrorCalled text) s.output

-- ---- loops

-- a loop, as that of the middle form: its test, the register that is looked at behind it, and its body; each entry of the body uses a turn
abbrev pub loop : (Local → State → Outcome Left) → ℕ → (Local → State → Outcome Left) → ℕ → Local → State → Outcome Left
loop test a body zero l s = then_do (test l s) (falls (λ m t. if_zero (slice_index m.registers a) (on m t) (Cut t.output)))
loop test a body (suc k) l s =
    then_do (test l s) (falls (λ m t. if_zero (slice_index m.registers a) (on m t) (turn t (λ u. then_do (body m u) (falls (loop test a body k))))))

-- ---- code

-- a result goes to the register that wants it
abbrev pub gives : Option ℕ → ℕ → Local → Local
gives None v l = l
gives (Some d) v l = set_to d v l

-- A call is made by `call`: which function, its arguments, and the state. `ks` are the kinds of the registers of the function that runs.
module _ (P : Program) (call : ℕ → List ℕ → State → Outcome ℕ) (ks : List Kind) where
  -- a call of this function
  abbrev pub called : Option Function → Option ℕ → ℕ → List ℕ → Local → State → Outcome Left
  called None to f args l s = Stuck
  called (Some g) to f args l s =
      where_so (call_fits ks g.result g.parameters g.kinds to args) (then_do (call f (map (slice_index l.registers) args) s) (λ v t. on (gives to v l) t))

  -- what code does
  abbrev pub run : Code → Local → State → Outcome Left
  run Nothing l s = on l s
  run (Do o) l s = operated (op_did P.head ks s.allocations l.registers o) l s
  run (Load to z r off disp) l s = then_do (aims ks z r off disp l s) (falls (λ m t. loads P.head ks to (slice_get m.scopes z) m t))
  run (Store z r off disp from) l s = then_do (aims ks z r off disp l s) (falls (λ m t. stores P.head ks (slice_get m.scopes z) from m t))
  run (LoadBy to z r off disp) l s = loads P.head ks to (slice_get l.scopes z) l s
  run (StoreBy z r off disp from) l s = stores P.head ks (slice_get l.scopes z) from l s
  run (Aim z r off disp) l s = aims ks z r off disp l s
  run (Leave z) l s = leaves z l s
  run (Loose z) l s = on l s
  run (Call to f args) l s = called (slice_get P.functions f) to f args l s
  run (Fail a) l s = where_so (has ks a kind.Text) (failed (text_at P.head (slice_index l.registers a)) s)
  run (Then a b) l s = then_do (run a l s) (falls (run b))
  run (Choose a b c) l s = where_so (has ks a kind.Bool) (if_zero (slice_index l.registers a) (run c l s) (run b l s))
  run (Loop test a body) l s = where_so (has ks a kind.Bool) (then_do (loop (run test) a (run body) s.turns l s) behind)
  run (Block a) l s = then_do (run a l s) behind
  run (Exit k) l s = Done (suc k, l) s

-- ---- functions and programs

-- what a call has at its function's entry: the arguments, 0 in all other registers, and all scopes shut
abbrev pub entry : Function → List ℕ → Local
entry g args = record { registers = args ++ replicate (length g.kinds - length args) 0; scopes = replicate g.scopes Shut }

-- the result of a function whose code was left: it stands in its register, and is of its kind
abbrev pub result_of : Function → Left → State → Outcome ℕ
result_of g (zero, l) s = elim g.result as (λ k. Outcome ℕ) [ None ↦ Done 0 s | Some k ↦ where_so (has g.kinds g.value k) (Done (slice_index l.registers g.value) s) ]
result_of g (suc k, l) s = Stuck

-- a function, behind its entry
abbrev pub entered : Program → (ℕ → List ℕ → State → Outcome ℕ) → Option Function → List ℕ → State → Outcome ℕ
entered P call None args s = Stuck
entered P call (Some g) args s = then_do (run P call g.kinds g.body (entry g args) s) (result_of g)

-- a call of function f; each uses a turn
abbrev pub call : Program → ℕ → ℕ → List ℕ → State → Outcome ℕ
call P zero f args s = Cut s.output
call P (suc d) f args s = turn s (entered P (call P d) (slice_get P.functions f) args)

-- the meaning within n turns, with scopes; none where the code is stuck
abbrev pub scoped_means : Program → ℕ → Option Meant
scoped_means P n = told (call P n 0 [] (opening n))
