-- The bounded meaning of the middle form, over the heap of cells, in big steps: how a program ends within n turns, and what it has printed.
use Rattle.std.specs.Prelude.{ℕ, zero, suc, ◌+◌, ◌-◌, ◌&&◌, Bool, cond, List, [], ◌∷◌, ◌++◌, length, map, replicate, slice_get, slice_index, slice_set, Option, Some, None}
use Rattle.cells.specs.Outcomes.{Meant}
use Rattle.cells.specs.Stops.{Stop, Ended, ErrorCalled}
use Rattle.code_form.specs.declared.allocation.Allocation.{Allocation}
use Rattle.code_form.specs.declared.form.Kind.{Kind}
use Rattle.code_form.specs.declared.form.Kind.TheVariants as kind
use Rattle.code_form.specs.Code.{Did, Goes, Tells, Sets, Makes, Prints, Stops, Fails, call_fits, can_use, has, if_zero, int_of, offset, op_did, place_fits, text_at}
use Rattle.code_form.specs.Effects.{Heap, with_cell}
use Rattle.code_form.specs.Form.{Head}
use Rattle.middle_form.specs.Form.{Code, Nothing, Do, Load, Store, Call, Fail, Then, Choose, Loop, Block, Exit, Function, Program}

-- ---- states and outcomes

-- the turns that are left, the allocations, the newest first, their cells, and what was printed
pub record State : Type 0 where
  pub turns : ℕ
  pub allocations : List Allocation
  pub heap : Heap
  pub output : List ℕ

-- A run is done with a value and a state; or the program has stopped, or it wanted a turn where none was left, each with what it printed; or
-- the code is stuck: something that it names is not there, or of the wrong kind
pub data Outcome (A : Type 0) : Type 0 where
  Done : A → State → Outcome A
  Stopped : Stop → List ℕ → Outcome A
  Cut : List ℕ → Outcome A
  Stuck : Outcome A

-- one run, and another behind it where it is done
abbrev pub then_do : {A B : Type 0} → Outcome A → (A → State → Outcome B) → Outcome B
then_do (Done a s) go = go a s
then_do (Stopped x out) go = Stopped x out
then_do (Cut out) go = Cut out
then_do Stuck go = Stuck

-- uses a turn
abbrev pub turn : {A : Type 0} → State → (State → Outcome A) → Outcome A
turn {A} s go = elim s.turns as (λ n. Outcome A) [ zero ↦ Cut s.output | suc n ↦ go (record s { turns = n }) ]

-- where it is so, and else the code is stuck
abbrev pub where_so : {A : Type 0} → Bool → Outcome A → Outcome A
where_so b o = cond b o Stuck

-- the registers of a call
abbrev pub Registers : Type 0
Registers = List ℕ

-- how code is left: with how many of the loops and blocks round it are left too, and with the registers
abbrev pub Left : Type 0
Left = ℕ × Registers

-- to what stands behind
abbrev pub on : Registers → State → Outcome Left
on rs s = Done (0, rs) s

-- goes on where code was left to what stands behind it
abbrev pub falls : (Registers → State → Outcome Left) → Left → State → Outcome Left
falls go (zero, rs) s = go rs s
falls go (suc k, rs) s = Done (suc k, rs) s

-- one loop or block less is left
abbrev pub behind : Left → State → Outcome Left
behind (zero, rs) s = on rs s
behind (suc k, rs) s = Done (k, rs) s

-- ---- simple instructions, loads and stores

-- what a simple instruction comes to
abbrev pub operated : Did → Registers → State → Outcome Left
operated Goes rs s = on rs s
operated (Tells w) rs s = on rs s
operated (Sets d v) rs s = on (slice_set rs d v) s
operated (Makes d a) rs s = on (slice_set rs d (suc (length s.allocations))) (record s { allocations = a ∷ s.allocations })
operated (Prints bytes) rs s = on rs (record s { output = s.output ++ bytes })
operated (Stops x) rs s = Stopped x s.output
operated Fails rs s = Stuck

-- the cell that an access names, by its index
abbrev pub cell_at : Registers → Option ℕ → ℕ → ℕ
cell_at rs off disp = offset rs off + disp

-- a register of the right kind and a cell that is there
abbrev pub can_access : Head → List Kind → State → Registers → (a r : ℕ) → Option ℕ → ℕ → Bool
can_access H ks s rs a r off disp = place_fits ks r off && can_use H ks s.allocations a r disp (slice_index rs r) (cell_at rs off disp)

-- a load
abbrev pub loaded : Head → List Kind → (to r : ℕ) → Option ℕ → ℕ → Registers → State → Outcome Left
loaded H ks to r off disp rs s = where_so (can_access H ks s rs to r off disp) (on (slice_set rs to (s.heap (slice_index rs r) (cell_at rs off disp))) s)

-- a store
abbrev pub stored : Head → List Kind → (r : ℕ) → Option ℕ → (disp from : ℕ) → Registers → State → Outcome Left
stored H ks r off disp from rs s =
    where_so (can_access H ks s rs from r off disp) (on rs (record s { heap = with_cell s.heap (slice_index rs r) (cell_at rs off disp) (slice_index rs from) }))

-- the program stops by `error`
abbrev pub failed : Option (List ℕ) → State → Outcome Left
failed None s = Stuck
failed (Some text) s = Stopped (ErrorCalled text) s.output

-- ---- loops

-- A loop: its test, the register that is looked at behind it, and its body. Each entry of the body uses a turn, so k is at least the turns that are left.
abbrev pub loop : (Registers → State → Outcome Left) → ℕ → (Registers → State → Outcome Left) → ℕ → Registers → State → Outcome Left
loop test a body zero rs s = then_do (test rs s) (falls (λ qs t. if_zero (slice_index qs a) (on qs t) (Cut t.output)))
loop test a body (suc k) rs s =
    then_do (test rs s) (falls (λ qs t. if_zero (slice_index qs a) (on qs t) (turn t (λ u. then_do (body qs u) (falls (loop test a body k))))))

-- ---- code

-- a result goes to the register that wants it
abbrev pub gives : Option ℕ → ℕ → Registers → Registers
gives None v rs = rs
gives (Some d) v rs = slice_set rs d v

-- A call is made by `call`: which function, its arguments, and the state. `ks` are the kinds of the registers of the function that runs.
module _ (P : Program) (call : ℕ → List ℕ → State → Outcome ℕ) (ks : List Kind) where
  -- a call of this function
  abbrev pub called : Option Function → Option ℕ → ℕ → List ℕ → Registers → State → Outcome Left
  called None to f args rs s = Stuck
  called (Some g) to f args rs s =
      where_so (call_fits ks g.result g.parameters g.kinds to args) (then_do (call f (map (slice_index rs) args) s) (λ v t. on (gives to v rs) t))

  -- what code does
  abbrev pub run : Code → Registers → State → Outcome Left
  run Nothing rs s = on rs s
  run (Do o) rs s = operated (op_did P.head ks s.allocations rs o) rs s
  run (Load to r off disp) rs s = loaded P.head ks to r off disp rs s
  run (Store r off disp from) rs s = stored P.head ks r off disp from rs s
  run (Call to f args) rs s = called (slice_get P.functions f) to f args rs s
  run (Fail a) rs s = where_so (has ks a kind.Text) (failed (text_at P.head (slice_index rs a)) s)
  run (Then a b) rs s = then_do (run a rs s) (falls (run b))
  run (Choose a b c) rs s = where_so (has ks a kind.Bool) (if_zero (slice_index rs a) (run c rs s) (run b rs s))
  run (Loop test a body) rs s = where_so (has ks a kind.Bool) (then_do (loop (run test) a (run body) s.turns rs s) behind)
  run (Block a) rs s = then_do (run a rs s) behind
  run (Exit k) rs s = Done (suc k, rs) s

-- ---- functions and programs

-- what the registers hold at a function's entry: the arguments, and 0 in all others
abbrev pub first_registers : Function → List ℕ → Registers
first_registers g args = args ++ replicate (length g.kinds - length args) 0

-- the result of a function whose code was left: it stands in its register, and is of its kind
abbrev pub result_of : Function → Left → State → Outcome ℕ
result_of g (zero, rs) s = elim g.result as (λ k. Outcome ℕ) [ None ↦ Done 0 s | Some k ↦ where_so (has g.kinds g.value k) (Done (slice_index rs g.value) s) ]
result_of g (suc k, rs) s = Stuck

-- a function, behind its entry
abbrev pub entered : Program → (ℕ → List ℕ → State → Outcome ℕ) → Option Function → List ℕ → State → Outcome ℕ
entered P call None args s = Stuck
entered P call (Some g) args s = then_do (run P call g.kinds g.body (first_registers g args) s) (result_of g)

-- A call of function f. Each uses a turn, so no more than d are under way at once, where d is the turns of the whole program.
abbrev pub call : Program → ℕ → ℕ → List ℕ → State → Outcome ℕ
call P zero f args s = Cut s.output
call P (suc d) f args s = turn s (entered P (call P d) (slice_get P.functions f) args)

-- what is told of the outcome of `main`; nothing where the code was stuck
abbrev pub told : Outcome ℕ → Option Meant
told (Done v s) = Some (record { stop = Some (Ended (int_of v)); output = s.output })
told (Stopped x out) = Some (record { stop = Some x; output = out })
told (Cut out) = Some (record { stop = None; output = out })
told Stuck = None

-- where a program begins, with so many turns; each cell is 0
abbrev pub opening : ℕ → State
opening n = record { turns = n; allocations = []; heap = λ r x. 0; output = [] }

-- the meaning within n turns; none where the code is stuck
abbrev pub means : Program → ℕ → Option Meant
means P n = told (call P n 0 [] (opening n))
