-- The bounded meaning of a program, in big steps: how it ends within n turns, and what it has printed.
use Rattle.std.specs.Prelude.{ℕ, zero, suc, nat_lt, Bool, true, false, not, ℤ, pos, negsuc, neg_ℤ, List, [], ◌∷◌, ◌++◌, length, get_or, set, map, Option, Some, None, codes}
use Rattle.std.specs.Int.{w32, int_bit_not}
use Rattle.std.specs.Fmt.{signed_decimal}
use Rattle.cells.specs.declared.int32.Int32Op.{Int32Op}
use Rattle.cells.specs.Numbers.{op_value, wrap32}
use Rattle.cells.specs.Stops.{Stop, Ended, AssertFailed, ErrorCalled, NullFault, BoundsFault, LengthFault, ArithFault}
use Rattle.cells.specs.Outcomes as b
use Rattle.cells.specs.Outcomes.{Done, Stopped, Cut, then_do, Meant}
use Rattle.c0_typed.specs.Values.{Value, Number, Truth, Letter, Text, Ref, Void, Tree, Leaf, Node, Trees, Nil, Cons, as_number, as_truth, as_letter, as_text, as_ref, same_value, value_below, copies, Spot, load, store, array_length, leaf}
use Rattle.c0_typed.specs.Trees.{Ty, VoidTy, IntTy, BoolTy, CharTy, TextTy, StructTy, PointerTy, ArrayTy, UnaryOp, Negate, Complement, Not, Relation, Equal, Unequal, Below, AtMost, Above, AtLeast, Output, Print, Println, Printint, Printbool, Printchar, Exp, Constant, Null, Local, Unary, Binary, Compare, And, Or, Choose, Call, Out, Load, Alloc, AllocArray, Length, Exps, NoExp, More, Place, Deref, Index, Field, Stmt, Skip, Seq, Set, Update, Store, StoreUpdate, Do, If, Loop, Return, ReturnValue, Break, Continue, Assert, Error, Check, Function, Program}

-- ---- states and outcomes

-- the turns that are left, the heap, the locals of the running call, and what was printed
pub record State : Type 0 where
  pub turns : ℕ
  pub heap : List Tree
  pub locals : List Value
  pub output : List ℕ

-- what an evaluation comes to
abbrev pub Outcome : Type 0 → Type 0
Outcome A = b.Outcome State A

-- the program stops so
abbrev pub stop : {A : Type 0} → Stop → State → Outcome A
stop x s = Stopped x s.output

-- a value, or the fault where there is none
abbrev pub value_or : Stop → Option Value → State → Outcome Value
value_or x None s = stop x s
value_or x (Some v) s = Done v s

-- one of two evaluations, by a truth value
abbrev pub if_true : {A : Type 0} → Value → Outcome A → Outcome A → Outcome A
if_true v a b = elim (as_truth v) [ true ↦ a | false ↦ b ]

-- uses a turn
abbrev pub turn : {A : Type 0} → State → (State → Outcome A) → Outcome A
turn {A} s go = elim s.turns as (λ n. Outcome A) [ zero ↦ Cut s.output | suc n ↦ go (record s { turns = n }) ]

-- a local is given a value
abbrev pub set_local : ℕ → Value → State → State
set_local x v s = record s { locals = set s.locals x v }

-- the value of a local
abbrev pub local : ℕ → State → Value
local x s = get_or s.locals x Void

-- ---- operators

-- the value of an operator on one value
abbrev pub unary_value : UnaryOp → Value → Value
unary_value Negate v = Number (wrap32 (neg_ℤ (as_number v)))
unary_value Complement v = Number (int_bit_not w32 (as_number v))
unary_value Not v = Truth (not (as_truth v))

-- the value of an operator on two numbers, or none where it is an arithmetic fault
abbrev pub binary_value : Int32Op → Value → Value → Option Value
binary_value o v w = elim (op_value o (as_number v) (as_number w)) [ None ↦ None | Some z ↦ Some (Number z) ]

-- the value of a comparison
abbrev pub relation_value : Relation → Value → Value → Bool
relation_value Equal v w = same_value v w
relation_value Unequal v w = not (same_value v w)
relation_value Below v w = value_below v w
relation_value AtMost v w = not (value_below w v)
relation_value Above v w = value_below w v
relation_value AtLeast v w = not (value_below v w)

-- what a call of conio prints
abbrev pub printed : Output → List Value → List ℕ
printed Print (v ∷ vs) = as_text v
printed Println (v ∷ vs) = as_text v ++ 10 ∷ []
printed Printint (v ∷ vs) = signed_decimal (as_number v)
printed Printbool (v ∷ vs) = elim (as_truth v) [ true ↦ codes "true" | false ↦ codes "false" ]
printed Printchar (v ∷ vs) = as_letter v ∷ []
printed _ _ = []

-- ---- allocation

-- what fresh memory of a type holds, from what it holds at the structs that are defined before
abbrev pub default : List Tree → Ty → Tree
default structs VoidTy = Leaf Void
default structs IntTy = Leaf (Number (pos 0))
default structs BoolTy = Leaf (Truth false)
default structs CharTy = Leaf (Letter 0)
default structs TextTy = Leaf (Text [])
default structs (StructTy k) = get_or structs k (Leaf Void)
default structs (PointerTy t) = Leaf (Ref 0)
default structs (ArrayTy t) = Leaf (Ref 0)

-- what fresh memory of these fields holds
abbrev pub fields : List Tree → List Ty → Trees
fields structs [] = Nil
fields structs (t ∷ ts) = Cons (default structs t) (fields structs ts)

-- the same of each struct, in their order
abbrev pub struct_defaults : List Tree → List (List Ty) → List Tree
struct_defaults structs [] = structs
struct_defaults structs (ts ∷ rest) = struct_defaults (structs ++ Node (fields structs ts) ∷ []) rest

-- a fresh allocation
abbrev pub allocate : Tree → State → Outcome Value
allocate t s = Done (Ref (suc (length s.heap))) (record s { heap = s.heap ++ t ∷ [] })

-- a fresh array of n elements, or a fault where n is below 0
abbrev pub allocate_array : Tree → ℤ → State → Outcome Value
allocate_array t (pos n) s = allocate (Node (copies n t)) s
allocate_array t (negsuc n) s = stop LengthFault s

-- ---- places

-- what a pointer points to
abbrev pub pointed : Value → State → Outcome Spot
pointed v s = elim (as_ref v) [ zero ↦ stop NullFault s | suc r ↦ Done (record { allocation = suc r; path = [] }) s ]

-- an element of an array
abbrev pub element : Value → ℤ → State → Outcome Spot
element v (pos k) s =
    elim (nat_lt k (array_length s.heap (as_ref v))) [
      | true ↦ Done (record { allocation = as_ref v; path = k ∷ [] }) s
      | false ↦ stop BoundsFault s
    ]
element v (negsuc k) s = stop BoundsFault s

-- ---- locals

-- what a local holds before anything is assigned to it
abbrev pub blank : Ty → Value
blank t = leaf (default [] t)

-- the locals of a call that begins: the result, the parameters, and the others
abbrev pub locals_at_entry : Function → List Value → List Value
locals_at_entry f args = blank f.result ∷ args ++ map blank f.locals

-- ---- expressions

-- A call is evaluated by `call`: which function, its arguments, and the state.
module _ (structs : List Tree) (call : ℕ → List Value → State → Outcome Value) where
  abbrev mutual
    pub eval : Exp → State → Outcome Value
    eval (Constant v) s = Done v s
    eval (Null ty) s = Done (Ref 0) s
    eval (Local x) s = Done (local x s) s
    eval (Unary o a) s = then_do (eval a s) (λ v t. Done (unary_value o v) t)
    eval (Binary o a b) s = then_do (eval a s) (λ v t. then_do (eval b t) (λ w u. value_or ArithFault (binary_value o v w) u))
    eval (Compare ty r a b) s = then_do (eval a s) (λ v t. then_do (eval b t) (λ w u. Done (Truth (relation_value r v w)) u))
    eval (And a b) s = then_do (eval a s) (λ v t. if_true v (eval b t) (Done v t))
    eval (Or a b) s = then_do (eval a s) (λ v t. if_true v (Done v t) (eval b t))
    eval (Choose ty c a b) s = then_do (eval c s) (λ v t. if_true v (eval a t) (eval b t))
    eval (Call f args) s = then_do (evals args s) (call f)
    eval (Out o args) s = then_do (evals args s) (λ vs t. Done Void (record t { output = t.output ++ printed o vs }))
    eval (Load ty p) s = then_do (locate p s) (λ at t. Done (load t.heap at) t)
    eval (Alloc ty) s = allocate (default structs ty) s
    eval (AllocArray ty n) s = then_do (eval n s) (λ v t. allocate_array (default structs ty) (as_number v) t)
    eval (Length ty a) s = then_do (eval a s) (λ v t. Done (Number (pos (array_length t.heap (as_ref v)))) t)

    -- one after another
    pub evals : Exps → State → Outcome (List Value)
    evals NoExp s = Done [] s
    evals (More a rest) s = then_do (eval a s) (λ v t. then_do (evals rest t) (λ vs u. Done (v ∷ vs) u))

    pub locate : Place → State → Outcome Spot
    locate (Deref ty a) s = then_do (eval a s) pointed
    locate (Index ty a i) s = then_do (eval a s) (λ v t. then_do (eval i t) (λ k u. element v (as_number k) u))
    locate (Field j p k) s = then_do (locate p s) (λ at t. Done (record at { path = at.path ++ k ∷ [] }) t)

-- ---- statements

-- how a statement is left: to the next one, to the end of its function, or of the nearest loop, or of a turn of that
pub data Way : Type 0 where
  Next : Way
  Returned : Way
  Broken : Way
  Continued : Way

-- goes on where a statement was left to the next
abbrev pub and_then : Outcome Way → (State → Outcome Way) → Outcome Way
and_then o go = then_do o (λ way s. elim way [ Next ↦ go s | Returned ↦ Done Returned s | Broken ↦ Done Broken s | Continued ↦ Done Continued s ])

-- Behind the body of a loop: `continue` goes on as the body's end does, and `break` leaves the loop
abbrev pub after_body : Outcome Way → (State → Outcome Way) → Outcome Way
after_body o go = then_do o (λ way s. elim way [ Next ↦ go s | Returned ↦ Done Returned s | Broken ↦ Done Next s | Continued ↦ go s ])

-- a condition that must hold
abbrev pub holds : Value → State → Outcome Way
holds v s = if_true v (Done Next s) (stop AssertFailed s)

-- A loop: its invariants, its condition, its body and its third part. Each entry of the body uses a turn, so k is at least the turns that are left.
abbrev pub loop : (State → Outcome Way) → (State → Outcome Value) → (State → Outcome Way) → (State → Outcome Way) → ℕ → State → Outcome Way
loop invariants condition body step zero s =
    and_then (invariants s) (λ t. then_do (condition t) (λ v u. if_true v (Cut u.output) (Done Next u)))
loop invariants condition body step (suc k) s =
    and_then (invariants s) (λ t. then_do (condition t) (λ v u.
    if_true v (turn u (λ w. after_body (body w) (λ x. and_then (step x) (loop invariants condition body step k)))) (Done Next u)))

module _ (checks : Bool) (structs : List Tree) (call : ℕ → List Value → State → Outcome Value) where
  -- the conditions of a contract, in order
  abbrev pub all_hold : Exps → State → Outcome Way
  all_hold NoExp s = Done Next s
  all_hold (More a rest) s = and_then (then_do (eval structs call a s) holds) (all_hold rest)

  -- the same, where contracts are checked
  abbrev pub checked : Exps → State → Outcome Way
  checked es s = elim checks [ true ↦ all_hold es s | false ↦ Done Next s ]

  -- what a statement does
  abbrev pub exec : Stmt → State → Outcome Way
  exec Skip s = Done Next s
  exec (Seq a b) s = and_then (exec a s) (exec b)
  exec (Set x a) s = then_do (eval structs call a s) (λ v t. Done Next (set_local x v t))
  exec (Update x o a) s =
      then_do (eval structs call a s) (λ v t. then_do (value_or ArithFault (binary_value o (local x s) v) t) (λ w u. Done Next (set_local x w u)))
  exec (Store p a) s =
      then_do (locate structs call p s) (λ at t. then_do (eval structs call a t) (λ v u. Done Next (record u { heap = store u.heap at v })))
  exec (StoreUpdate p o a) s =
      then_do (locate structs call p s) (λ at t. then_do (eval structs call a t) (λ v u.
      then_do (value_or ArithFault (binary_value o (load t.heap at) v) u) (λ w x. Done Next (record x { heap = store x.heap at w }))))
  exec (Do a) s = then_do (eval structs call a s) (λ v t. Done Next t)
  exec (If c a b) s = then_do (eval structs call c s) (λ v t. if_true v (exec a t) (exec b t))
  exec (Loop invariants c body step) s = loop (checked invariants) (eval structs call c) (exec body) (exec step) s.turns s
  exec Return s = Done Returned s
  exec (ReturnValue a) s = then_do (eval structs call a s) (λ v t. Done Returned (set_local 0 v t))
  exec Break s = Done Broken s
  exec Continue s = Done Continued s
  exec (Assert a) s = then_do (eval structs call a s) holds
  exec (Error a) s = then_do (eval structs call a s) (λ v t. stop (ErrorCalled (as_text v)) t)
  exec (Check es) s = checked es s

  -- the result of a call, back in its caller's locals
  abbrev pub give : List Value → State → Outcome Value
  give locals s = Done (local 0 s) (record s { locals = locals })

  -- A call: the contract's `requires`, the body, and the `ensures`. Local 0 is the result.
  abbrev pub in_function : Function → List Value → State → Outcome Value
  in_function f args s =
      then_do (and_then (checked f.requires (record s { locals = locals_at_entry f args })) (exec f.body)) (λ way t.
      then_do (checked f.ensures t) (λ way u. give s.locals u))

-- ---- programs

-- what stands where there is no function: it does nothing
abbrev pub no_function : Function
no_function = record { result = VoidTy; parameters = []; locals = []; requires = NoExp; ensures = NoExp; body = Skip }

-- A call of function f. Each uses a turn, so no more than d are under way at once, where d is the turns of the whole program.
abbrev pub call : Bool → Program → ℕ → ℕ → List Value → State → Outcome Value
call checks p zero f args s = Cut s.output
call checks p (suc d) f args s =
    turn s (in_function checks (struct_defaults [] p.structs) (call checks p d) (get_or p.functions f no_function) args)

-- what is told of the outcome of `main`
abbrev pub told : Outcome Value → Meant
told (Done v s) = record { stop = Some (Ended (as_number v)); output = s.output }
told (Stopped x out) = record { stop = Some x; output = out }
told (Cut out) = record { stop = None; output = out }

-- the meaning within n turns
abbrev pub mean : Program → Bool → ℕ → Meant
mean p checks n = told (call checks p n p.main [] (record { turns = n; heap = []; locals = []; output = [] }))
