-- The steps of evaluations, loops and calls.
use Rattle.std.proofs.Common.{◌≡◌, ◌≢◌, ℕ, zero, suc, ◌-◌, List, [], get_or, refl, sym, ap, ◌∙◌, subst, arith, Result, Ok, Err, IfOk, Bool, true, false}
use Rattle.cells.specs.Outcomes as o
use Rattle.c0_typed.specs.Values as v
use Rattle.c0_typed.specs.Trees as t
use Rattle.c0_typed.specs.Meaning as m
use Rattle.c0_values.specs.declared.plain_state.Halt.{Halt}
use Rattle.c0_values.specs.PlainStates.{Agrees, opening}
use Rattle.c0_meaning.specs.Run.{Calls, calls_over}

-- an answer, along an equation
pub agrees_along : {T A : Type 0} (view : T → A) (r : Result T Halt) (a b : m.Outcome A) (u : m.State) → a ≡ b → Agrees view r b u → Agrees view r a u
agrees_along view r a b u e h = subst (λ x. Agrees view r x u) (sym e) h

-- where a turn is there, and u is the state with one less
pub turn_is : {A : Type 0} (s u : m.State) (go : m.State → m.Outcome A) → s.turns ≡ suc u.turns → u ≡ record s { turns = u.turns } → m.turn s go ≡ go u
turn_is {A} s u go h e =
    let at : ℕ → m.Outcome A = λ k. elim k as (λ n. m.Outcome A) [ zero ↦ o.Cut s.output | suc n ↦ go (record s { turns = n }) ] in
    ap at h ∙ ap go (sym e)

-- where none is there
pub turn_none : {A : Type 0} (s : m.State) (go : m.State → m.Outcome A) → s.turns ≡ 0 → m.turn s go ≡ o.Cut s.output
turn_none {A} s go h =
    let at : ℕ → m.Outcome A = λ k. elim k as (λ n. m.Outcome A) [ zero ↦ o.Cut s.output | suc n ↦ go (record s { turns = n }) ] in
    ap at h

-- ---- calls

-- a call that has its turn
pub call_enters : (structs : List v.Tree) (checks : Bool) (p : t.Program) (d f : ℕ) (given : List v.Value) (s u : m.State) (fn : t.Function) → d ≢ 0 → s.turns ≡ suc u.turns → u ≡ record s { turns = u.turns } → get_or p.functions f m.no_function ≡ fn
    → calls_over structs checks p d f given s ≡ m.in_function checks structs (calls_over structs checks p (d - 1)) fn given u
call_enters structs checks p zero f given s u fn h a b e = absurd (h refl)
call_enters structs checks p (suc d) f given s u fn h a b e =
    let k : d ≡ suc d - 1 = omega arith in
    turn_is s u (m.in_function checks structs (calls_over structs checks p d) (get_or p.functions f m.no_function) given) a b
    ∙ ap (λ g. m.in_function checks structs (calls_over structs checks p d) g given u) e
    ∙ ap (λ i. m.in_function checks structs (calls_over structs checks p i) fn given u) k

-- a call of no function does nothing
pub in_no_function : (checks : Bool) (structs : List v.Tree) (call : Calls) (args : List v.Value) (u : m.State) → m.in_function checks structs call m.no_function args u ≡ o.Done v.Void u
in_no_function true structs call args u = refl
in_no_function false structs call args u = refl

-- over what the structs of the program hold, the calls are the meaning's
pub calls_same : (checks : Bool) (p : t.Program) (d : ℕ) → calls_over (m.struct_defaults [] p.structs) checks p d ≡ m.call checks p d
calls_same checks p zero = refl
calls_same checks p (suc d) =
    let next : Calls → Calls = λ k f args s. m.turn s (m.in_function checks (m.struct_defaults [] p.structs) k (get_or p.functions f m.no_function) args) in
    ap next (calls_same checks p d)

-- what is told of the call of `main` is the meaning
pub mean_is : (checks : Bool) (p : t.Program) (n : ℕ) (structs : List v.Tree) (args : List v.Value) (s : m.State) → structs ≡ m.struct_defaults [] p.structs → args ≡ [] → s ≡ opening n
    → m.told (calls_over structs checks p n p.main args s) ≡ m.mean p checks n
mean_is checks p n structs args s held none begun =
    let over : List v.Tree → o.Meant = λ ts. m.told (calls_over ts checks p n p.main args s) in
    let by : Calls → o.Meant = λ k. m.told (k p.main args s) in
    ap over held ∙ ap by (calls_same checks p n)
    ∙ ap (λ xs. m.told (m.call checks p n p.main xs s)) none
    ∙ ap (λ x. m.told (m.call checks p n p.main [] x)) begun

-- what is told, along an equation
pub told_along : {T E A : Type 0} (view : T → A) (r : Result T E) (a b : A) → a ≡ b → IfOk r (λ x. view x ≡ a) → IfOk r (λ x. view x ≡ b)
told_along view (Ok x) a b e h = h ∙ e
told_along view (Err x) a b e h = tt
