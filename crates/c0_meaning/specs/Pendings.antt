-- A plain run under way: what comes of it, in the words of the meaning.
use Rattle.std.specs.Prelude.{◌≡◌, ℕ, zero, suc, List, [], ◌∷◌, ◌++◌, map, pos, reverse, Option, Some, None, Result, Ok, Err}
use Rattle.cells.specs.Stops.{ArithFault, ErrorCalled, stop_of}
use Rattle.cells.specs.Outcomes as o
use Rattle.cells.specs.Outcomes.{Done, Cut, then_do}
use Rattle.c0_typed.specs.Values as v
use Rattle.c0_typed.specs.Trees as t
use Rattle.c0_typed.specs.Meaning as m
use Rattle.c0_typed.specs.Views.{block_of, exp_of, exps_of, output_of, place_of, program_of, stmt_of, type_of}
use Rattle.c0_typed.specs.declared.tree.Expression.{Expression}
use Rattle.c0_typed.specs.declared.tree.ValueType.{ValueType}
use Rattle.c0_values.specs.declared.value.Value.{Value}
use Rattle.c0_values.specs.declared.heap.Spot.{Spot}
use Rattle.c0_meaning.specs.declared.context.Context.{Context}
use Rattle.c0_values.specs.declared.plain_state.Halt.{Halt}
use Rattle.c0_values.specs.declared.plain_state.Halt.TheVariants as halt
use Rattle.c0_values.specs.declared.plain_state.PlainState.{PlainState}
use Rattle.c0_meaning.specs.declared.task.Progress.TheVariants as progress
use Rattle.c0_meaning.specs.declared.pending.PlainRun.{PlainRun}
use Rattle.c0_meaning.specs.declared.task.Callee.{Callee}
use Rattle.c0_meaning.specs.declared.task.Callee.TheVariants as callee
use Rattle.c0_meaning.specs.declared.task.Task.{Task}
use Rattle.c0_meaning.specs.declared.task.Task.TheVariants as task
use Rattle.c0_values.specs.PlainStates.{Agrees, Texts, field_of, prints, spot_of, state_of, value_of}
use Rattle.c0_meaning.specs.Run.{Calls, calls_over, structs_in, texts_in, values_of}

-- What is to be done, the next task first; the values and the places that tasks gave and none has taken, the newest first; how many calls
-- may still be under way, and the state
pub record Pending : Type 0 where
  pub tasks : List Task
  pub values : List Value
  pub places : List Spot
  pub depth : ℕ
  pub state : PlainState

-- a run under way, of which the code keeps the newest last
abbrev pub pending_of : PlainRun → Pending
pending_of r = record { tasks = reverse r.tasks.items; values = reverse r.values.items; places = reverse r.places.items; depth = r.depth; state = r.state }

-- What comes of a run from a point on: from how a statement was left there, how many calls may still be under way, the values and the
-- places that were given, and the state
abbrev pub Rest : Type 0
Rest = m.Way → ℕ → List v.Value → List v.Spot → m.State → m.Outcome v.Value

-- the condition of a loop, with at most n turns, is found
abbrev pub tested : (m.State → m.Outcome m.Way) → (m.State → m.Outcome v.Value) → (m.State → m.Outcome m.Way) → (m.State → m.Outcome m.Way) → ℕ → v.Value → m.State → m.Outcome m.Way
tested invariants condition body step zero v s = m.if_true v (Cut s.output) (Done m.Next s)
tested invariants condition body step (suc n) v s =
    m.if_true v (m.turn s (λ t. m.after_body (body t) (λ u. m.and_then (step u) (m.loop invariants condition body step n)))) (Done m.Next s)

-- Over a context
module _ (c : Context) where
  -- the calls of the program, of which no more than d are under way at once
  abbrev pub calls_at : ℕ → Calls
  calls_at d = calls_over (structs_in c) c.checks (program_of c.program.now) d

  -- what a call comes to
  abbrev pub called : ℕ → Callee → List v.Value → m.State → m.Outcome v.Value
  called d (callee.Function f) args s = calls_at d f args s
  called d (callee.Library out) args s = prints (output_of out) args s

  -- the value of an expression
  abbrev pub evaluates : ℕ → t.Exp → m.State → m.Outcome v.Value
  evaluates d e s = m.eval (structs_in c) (calls_at d) e s

  -- what a statement does
  abbrev pub executes : ℕ → t.Stmt → m.State → m.Outcome m.Way
  executes d a s = m.exec c.checks (structs_in c) (calls_at d) a s

  -- conditions of a contract
  abbrev pub checked : ℕ → t.Exps → m.State → m.Outcome m.Way
  checked d es s = m.checked c.checks (structs_in c) (calls_at d) es s

  -- what comes where nothing is pending: the value that was given last
  abbrev pub ending : Rest
  ending way d [] ps s = Done v.Void s
  ending way d (a ∷ vs) ps s = Done a s

  -- a value is given to the rest
  abbrev pub giving : Rest → ℕ → List v.Value → List v.Spot → m.Outcome v.Value → m.Outcome v.Value
  giving k d vs ps e = then_do e (λ a s. k m.Next d (a ∷ vs) ps s)

  -- a place is given to the rest
  abbrev pub placing : Rest → ℕ → List v.Value → List v.Spot → m.Outcome v.Spot → m.Outcome v.Value
  placing k d vs ps e = then_do e (λ at s. k m.Next d vs (at ∷ ps) s)

  -- the rest goes on as a statement was left
  abbrev pub leaving : Rest → ℕ → List v.Value → List v.Spot → m.Outcome m.Way → m.Outcome v.Value
  leaving k d vs ps e = then_do e (λ way s. k way d vs ps s)

  -- a call with these arguments, behind those that are evaluated first
  abbrev pub calling : Rest → ℕ → List v.Value → List v.Spot → List Expression → List v.Value → Callee → m.State → m.Outcome v.Value
  calling k d vs ps es given f s =
      then_do (m.evals (structs_in c) (calls_at d) (exps_of (texts_in c) es) s) (λ others u. giving k d vs ps (called d f (given ++ others) u))

  -- what comes of the rest of an expression, where what it evaluates first is given
  abbrev pub combines : t.Exp → Rest → ℕ → List v.Value → List v.Spot → m.State → m.Outcome v.Value
  combines (t.Unary op e) k d (a ∷ vs) ps s = k m.Next d (m.unary_value op a ∷ vs) ps s
  combines (t.Binary op e f) k d (b ∷ a ∷ vs) ps s = giving k d vs ps (m.value_or ArithFault (m.binary_value op a b) s)
  combines (t.Compare ty relation e f) k d (b ∷ a ∷ vs) ps s = k m.Next d (v.Truth (m.relation_value relation a b) ∷ vs) ps s
  combines (t.And e f) k d (a ∷ vs) ps s = giving k d vs ps (m.if_true a (evaluates d f s) (Done a s))
  combines (t.Or e f) k d (a ∷ vs) ps s = giving k d vs ps (m.if_true a (Done a s) (evaluates d f s))
  combines (t.Choose ty e f g) k d (a ∷ vs) ps s = giving k d vs ps (m.if_true a (evaluates d f s) (evaluates d g s))
  combines (t.Load ty p) k d vs (at ∷ ps) s = k m.Next d (v.load s.heap at ∷ vs) ps s
  combines (t.AllocArray ty e) k d (a ∷ vs) ps s = giving k d vs ps (m.allocate_array (m.default (structs_in c) ty) (v.as_number a) s)
  combines (t.Length ty e) k d (a ∷ vs) ps s = k m.Next d (v.Number (pos (v.array_length s.heap (v.as_ref a))) ∷ vs) ps s
  combines _ k d vs ps s = Cut []

  -- of a place, where what it stands on is given
  abbrev pub reaches : t.Place → Rest → ℕ → List v.Value → List v.Spot → m.State → m.Outcome v.Value
  reaches (t.Deref ty e) k d (a ∷ vs) ps s = placing k d vs ps (m.pointed a s)
  reaches (t.Index ty e f) k d (b ∷ a ∷ vs) ps s = placing k d vs ps (m.element a (v.as_number b) s)
  reaches (t.Field j p i) k d vs (at ∷ ps) s = k m.Next d vs (field_of at i ∷ ps) s
  reaches _ k d vs ps s = Cut []

  -- of a condition, of which the value is given
  abbrev pub asserts : Rest → ℕ → List v.Value → List v.Spot → m.State → m.Outcome v.Value
  asserts k d (a ∷ vs) ps s = leaving k d vs ps (m.holds a s)
  asserts k d [] ps s = Cut []

  -- of a statement, where what it evaluates first is given
  abbrev pub completes : t.Stmt → Rest → ℕ → List v.Value → List v.Spot → m.State → m.Outcome v.Value
  completes (t.Set x e) k d (a ∷ vs) ps s = k m.Next d vs ps (m.set_local x a s)
  completes (t.Update x op e) k d (b ∷ a ∷ vs) ps s = then_do (m.value_or ArithFault (m.binary_value op a b) s) (λ w u. k m.Next d vs ps (m.set_local x w u))
  completes (t.Store p e) k d (a ∷ vs) (at ∷ ps) s = k m.Next d vs ps (record s { heap = v.store s.heap at a })
  completes (t.StoreUpdate p op e) k d (b ∷ a ∷ vs) (at ∷ ps) s =
      then_do (m.value_or ArithFault (m.binary_value op a b) s) (λ w u. k m.Next d vs ps (record u { heap = v.store u.heap at w }))
  completes (t.Do e) k d (a ∷ vs) ps s = k m.Next d vs ps s
  completes (t.If e x y) k d (a ∷ vs) ps s = leaving k d vs ps (m.if_true a (executes d x s) (executes d y s))
  completes (t.ReturnValue e) k d (a ∷ vs) ps s = k m.Returned d vs ps (m.set_local 0 a s)
  completes (t.Assert e) k d vs ps s = asserts k d vs ps s
  completes (t.Error e) k d (a ∷ vs) ps s = m.stop (ErrorCalled (v.as_text a)) s
  completes _ k d vs ps s = Cut []

  -- of a loop before its invariants, with at most n turns
  abbrev pub loops : t.Stmt → ℕ → Rest → ℕ → List v.Value → List v.Spot → m.State → m.Outcome v.Value
  loops (t.Loop es e x y) n k d vs ps s = leaving k d vs ps (m.loop (checked d es) (evaluates d e) (executes d x) (executes d y) n s)
  loops _ n k d vs ps s = Cut []

  -- of a loop whose condition is given
  abbrev pub tests : t.Stmt → ℕ → Rest → ℕ → List v.Value → List v.Spot → m.State → m.Outcome v.Value
  tests (t.Loop es e x y) n k d (a ∷ vs) ps s = leaving k d vs ps (tested (checked d es) (evaluates d e) (executes d x) (executes d y) n a s)
  tests _ n k d vs ps s = Cut []

  -- of a loop behind its body, with at most n turns more
  abbrev pub rounds : t.Stmt → ℕ → Rest → ℕ → List v.Value → List v.Spot → m.State → m.Outcome v.Value
  rounds (t.Loop es e x y) n k d vs ps s = leaving k d vs ps (m.and_then (executes d y s) (m.loop (checked d es) (evaluates d e) (executes d x) (executes d y) n))
  rounds _ n k d vs ps s = Cut []

  -- what comes of a run with this task next, and then the rest
  abbrev pub does : Task → Rest → ℕ → List v.Value → List v.Spot → m.State → m.Outcome v.Value
  does (task.Evaluate e) k d vs ps s = giving k d vs ps (evaluates d (exp_of (texts_in c) e.now) s)
  does (task.Combine e) k d vs ps s = combines (exp_of (texts_in c) e.now) k d vs ps s
  does (task.Locate p) k d vs ps s = placing k d vs ps (m.locate (structs_in c) (calls_at d) (place_of (texts_in c) p.now) s)
  does (task.Reach p) k d vs ps s = reaches (place_of (texts_in c) p.now) k d vs ps s
  does (task.Execute a progress.Begun) k d vs ps s = leaving k d vs ps (executes d (stmt_of (texts_in c) a.now) s)
  does (task.Execute a progress.Given) k d vs ps s = completes (stmt_of (texts_in c) a.now) k d vs ps s
  does (task.Execute a (progress.Again n)) k d vs ps s = loops (stmt_of (texts_in c) a.now) n k d vs ps s
  does (task.Execute a (progress.Tested n)) k d vs ps s = tests (stmt_of (texts_in c) a.now) n k d vs ps s
  does (task.Execute a (progress.Turned n)) k d vs ps s = rounds (stmt_of (texts_in c) a.now) n k d vs ps s
  does (task.ExecuteAll all) k d vs ps s = leaving k d vs ps (executes d (block_of (texts_in c) all.now) s)
  does (task.Check es) k d vs ps s = leaving k d vs ps (checked d (exps_of (texts_in c) es.now) s)
  does (task.Assert e) k d vs ps s = asserts k d vs ps s
  does (task.Argument es given f) k d (a ∷ vs) ps s = calling k d vs ps es.now (values_of (texts_in c) given ++ a ∷ []) f s
  does task.Peek k d vs (at ∷ ps) s = k m.Next d (v.load s.heap at ∷ vs) (at ∷ ps) s
  does task.EndBody k d vs ps s = k m.Next d vs ps s
  does (task.EndCall locals n) k d vs ps s = k m.Next n (m.local 0 s ∷ vs) ps (record s { locals = values_of (texts_in c) locals })
  does _ k d vs ps s = Cut []

  -- The same where a statement was left otherwise: what stands before the end of the function's body is not done, or before the end of the
  -- body of a loop, which `break` ends
  abbrev pub skips : m.Way → Task → Rest → ℕ → List v.Value → List v.Spot → m.State → m.Outcome v.Value
  skips way task.EndBody k d vs ps s = k m.Next d vs ps s
  skips m.Broken (task.Execute a (progress.Turned n)) k d vs ps s = k m.Next d vs ps s
  skips m.Continued (task.Execute a (progress.Turned n)) k d vs ps s = rounds (stmt_of (texts_in c) a.now) n k d vs ps s
  skips way _ k d vs ps s = k way d vs ps s

  -- what comes of tasks
  abbrev pub behind : List Task → Rest
  behind [] way d vs ps s = ending way d vs ps s
  behind (a ∷ rest) m.Next d vs ps s = does a (behind rest) d vs ps s
  behind (a ∷ rest) way d vs ps s = skips way a (behind rest) d vs ps s

  -- the state
  abbrev pub state_in : Pending → m.State
  state_in r = state_of (texts_in c) r.state

  -- the values that were given
  abbrev pub values_in : Pending → List v.Value
  values_in r = map (value_of (texts_in c)) r.values

  -- the places that were given
  abbrev pub places_in : Pending → List v.Spot
  places_in r = map spot_of r.places

-- what comes of a run where a statement was left so
abbrev pub left_by : m.Way → Context → Pending → m.Outcome v.Value
left_by way c r = behind c r.tasks way r.depth (values_in c r) (places_in c r) (state_in c r)

-- what comes of a run
abbrev pub means : Context → Pending → m.Outcome v.Value
means c r = left_by m.Next c r

-- A step of a run that comes to this: what comes of it is the same behind the step, or the program has stopped, or wanted a turn. Where
-- memory ran out, nothing is said
abbrev pub Steps : Context → Result (Unit {0}) Halt → m.Outcome v.Value → Pending → Type 0
Steps c (Ok x) outcome r = outcome ≡ means c r
Steps c (Err (halt.Stopped x)) outcome r = outcome ≡ o.Stopped (stop_of x) (state_in c r).output
Steps c (Err halt.Cut) outcome r = outcome ≡ Cut (state_in c r).output
Steps c (Err halt.Memory) outcome r = Unit {0}

-- the run that had this task next has done it
abbrev pub Performs : Context → Task → PlainRun → Result (Unit {0}) Halt → PlainRun → Type 0
Performs c a r result s = let p = pending_of r in Steps c result (does c a (behind c p.tasks) p.depth (values_in c p) (places_in c p) (state_in c p)) (pending_of s)

-- the rest of an expression was done, whose first parts were given
abbrev pub Combines : Context → t.Exp → PlainRun → Result (Unit {0}) Halt → PlainRun → Type 0
Combines c e r result s = let p = pending_of r in Steps c result (combines c e (behind c p.tasks) p.depth (values_in c p) (places_in c p) (state_in c p)) (pending_of s)

-- the same of a place
abbrev pub Reaches : Context → t.Place → PlainRun → Result (Unit {0}) Halt → PlainRun → Type 0
Reaches c place r result s = let p = pending_of r in Steps c result (reaches c place (behind c p.tasks) p.depth (values_in c p) (places_in c p) (state_in c p)) (pending_of s)

-- the same of a statement
abbrev pub Completes : Context → t.Stmt → PlainRun → Result (Unit {0}) Halt → PlainRun → Type 0
Completes c a r result s = let p = pending_of r in Steps c result (completes c a (behind c p.tasks) p.depth (values_in c p) (places_in c p) (state_in c p)) (pending_of s)

-- the condition whose value was given held, or the program has stopped
abbrev pub Asserts : Context → PlainRun → Result (Unit {0}) Halt → PlainRun → Type 0
Asserts c r result s = let p = pending_of r in Steps c result (asserts c (behind c p.tasks) p.depth (values_in c p) (places_in c p) (state_in c p)) (pending_of s)

-- a call with arguments that are still to be evaluated, behind those that are given
abbrev pub PerformsCalls : Context → List Expression → List v.Value → Callee → PlainRun → Result (Unit {0}) Halt → PlainRun → Type 0
PerformsCalls c es given f r result s = let p = pending_of r in Steps c result (calling c (behind c p.tasks) p.depth (values_in c p) (places_in c p) es given f (state_in c p)) (pending_of s)

-- a call over its arguments
abbrev pub PerformsCall : Context → Callee → List v.Value → PlainRun → Result (Unit {0}) Halt → PlainRun → Type 0
PerformsCall c f given r result s = let p = pending_of r in Steps c result (giving c (behind c p.tasks) p.depth (values_in c p) (places_in c p) (called c p.depth f given (state_in c p))) (pending_of s)

-- a fresh pointer to what has a type
abbrev pub AllocatesOne : Context → ValueType → PlainRun → Result (Unit {0}) Halt → PlainRun → Type 0
AllocatesOne c ty r result s = let p = pending_of r in Steps c result (giving c (behind c p.tasks) p.depth (values_in c p) (places_in c p) (m.allocate (m.default (structs_in c) (type_of ty)) (state_in c p))) (pending_of s)

-- these tasks are next, or memory ran out
abbrev pub Extends : Result (Unit {0}) Halt → List Task → PlainRun → PlainRun → Type 0
Extends (Ok x) more r s = pending_of s ≡ record (pending_of r) { tasks = more ++ (pending_of r).tasks }
Extends (Err h) more r s = h ≡ halt.Memory

-- this value is the newest, or memory ran out
abbrev pub Gives : Result (Unit {0}) Halt → Value → PlainRun → PlainRun → Type 0
Gives (Ok x) a r s = pending_of s ≡ record (pending_of r) { values = a ∷ (pending_of r).values }
Gives (Err h) a r s = h ≡ halt.Memory

-- this place is the newest, or memory ran out
abbrev pub GivesPlace : Result (Unit {0}) Halt → Spot → PlainRun → PlainRun → Type 0
GivesPlace (Ok x) at r s = pending_of s ≡ record (pending_of r) { places = at ∷ (pending_of r).places }
GivesPlace (Err h) at r s = h ≡ halt.Memory

-- the newest value was taken; where there is none, the answer is that of want of memory, which says nothing
abbrev pub Takes : Result Value Halt → PlainRun → PlainRun → Type 0
Takes (Ok a) r s = pending_of r ≡ record (pending_of s) { values = a ∷ (pending_of s).values }
Takes (Err h) r s = h ≡ halt.Memory

-- the same of the newest place
abbrev pub TakesPlace : Result Spot Halt → PlainRun → PlainRun → Type 0
TakesPlace (Ok at) r s = pending_of r ≡ record (pending_of s) { places = at ∷ (pending_of s).places }
TakesPlace (Err h) r s = h ≡ halt.Memory

-- the next task was taken, or nothing is pending
abbrev pub TakesTask : Option Task → PlainRun → PlainRun → Type 0
TakesTask (Some a) r s = pending_of r ≡ record (pending_of s) { tasks = a ∷ (pending_of s).tasks }
TakesTask None r s = ((pending_of r).tasks ≡ []) × (pending_of s ≡ pending_of r)

-- the value of a local is the newest, or memory ran out
abbrev pub GivesLocal : ℕ → PlainRun → Result (Unit {0}) Halt → PlainRun → Type 0
GivesLocal x r (Ok u) s =
    (a : Value) × ((texts : Texts) → value_of texts a ≡ m.local x (state_of texts r.state)) × (pending_of s ≡ record (pending_of r) { values = a ∷ (pending_of r).values })
GivesLocal x r (Err h) s = h ≡ halt.Memory

-- the call of `main` in a run of which nothing is pending
abbrev pub RunsMain : Context → PlainRun → Result Value Halt → PlainRun → Type 0
RunsMain c r result s = let p = pending_of r in p.tasks ≡ [] → p.values ≡ [] → Agrees (value_of (texts_in c)) result (calls_at c p.depth c.program.now.main [] (state_in c p)) (state_in c (pending_of s))
