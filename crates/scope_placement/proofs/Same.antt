-- Code in which scopes are placed means without them what it did.
use Rattle.std.proofs.Common.{◌≡◌, ℕ, zero, suc, Bool, true, false, cond, Option, Some, None, List, [], ◌∷◌, ◌++◌, refl, ap, ◌∙◌}
use Rattle.std.specs.Prelude.{map, slice_get}
use Rattle.std.specs.Option.{option_map}
use Rattle.code_form.specs.declared.form.Kind.{Kind}
use Rattle.code_form.specs.declared.form.Operation.{Operation}
use Rattle.code_form.specs.Form.{Simple}
use Rattle.code_form.specs.Code.{needs_shut}
use Rattle.middle_form.specs.Form.{Function, Program}
use Rattle.middle_form.specs.Form as m
use Rattle.middle_form.specs.Meaning.{Outcome, State, Left, call, called, entered, first_registers, means, on, opening, result_of, run, then_do, told}
use Rattle.middle_form.specs.Scoped.{Code, Do, Load, Store, Call, Fail, Choose, Loop, Block, Exit, plain, plain_function, plain_program}
use Rattle.scoped_building.specs.Building.{in_order}
use Rattle.scoped_building.proofs.Runs.{Run, block_same, choose_same, loop_same, then_nothing, then_regroup, then_run, then_same, turn_same}
use Rattle.scope_placement.specs.Placed.{Open, leaves, leaves_from, open_behind, placed, placed_function, placed_program, scope_for, whole}

-- a function with its scopes, without them again
abbrev pub again : Function → Function
again g = plain_function (placed_function g)

pub get_again : (gs : List Function) (f : ℕ) → slice_get (map plain_function (map placed_function gs)) f ≡ option_map again (slice_get gs f)
get_again [] f = refl
get_again (g ∷ gs) zero = refl
get_again (g ∷ gs) (suc f) = get_again gs f

module _ (P : Program) (make : ℕ → List ℕ → State → Outcome ℕ) (ks : List Kind) where
  abbrev Q : Program
  Q = plain_program (placed_program P)

  abbrev R : Code → Run
  R c = run Q make ks (plain c)

  abbrev runs : List Code → Run
  runs xs = R (in_order xs)

  runs_append : (xs ys : List Code) → ◌≡◌ {A = Run} (runs (xs ++ ys)) (then_run (runs xs) (runs ys))
  runs_append [] ys = refl
  runs_append (x ∷ xs) ys = then_same (R x) (R x) (runs (xs ++ ys)) (then_run (runs xs) (runs ys)) refl (runs_append xs ys) ∙ then_regroup (R x) (runs xs) (runs ys)

  leaves_on : (z : ℕ) (rs : Open) → ◌≡◌ {A = Run} (runs (leaves_from z rs)) on
  leaves_on z [] = refl
  leaves_on z (q ∷ rs) = leaves_on (suc z) rs

  -- code behind the end of a run
  behind_leaves : (rs : Open) (c : Code) → ◌≡◌ {A = Run} (runs (leaves rs ++ c ∷ [])) (R c)
  behind_leaves rs c = runs_append (leaves rs) (c ∷ []) ∙ (then_same (runs (leaves rs)) on (runs (c ∷ [])) (runs (c ∷ [])) (leaves_on 0 rs) refl ∙ then_nothing (R c))

  do_same : (o : Operation) (rs : Open) (b : Bool) → ◌≡◌ {A = Run} (runs (cond b (leaves rs) [] ++ Do o ∷ [])) (R (Do o))
  do_same o rs true = behind_leaves rs (Do o)
  do_same o rs false = then_nothing (R (Do o))

  called_same : (o : Option Function) (to : Option ℕ) (f : ℕ) (args : List ℕ) → ◌≡◌ {A = Run} (called Q make ks (option_map again o) to f args) (called P make ks o to f args)
  called_same None to f args = refl
  called_same (Some g) to f args = refl

  calls_same : (to : Option ℕ) (f : ℕ) (args : List ℕ) → ◌≡◌ {A = Run} (R (Call to f args)) (run P make ks (m.Call to f args))
  calls_same to f args =
      let at : Option Function → Run = λ o. called Q make ks o to f args in
      ap at (get_again P.functions f) ∙ called_same (slice_get P.functions f) to f args

  -- code that begins and ends with all scopes shut
  whole_same : (a : m.Code) → ◌≡◌ {A = Run} (runs (placed a [])) (run P make ks a) → ◌≡◌ {A = Run} (R (whole a)) (run P make ks a)
  whole_same a h =
      let rs = open_behind a [] in
      runs_append (placed a []) (leaves rs) ∙ (then_same (runs (placed a [])) (runs (placed a [])) (runs (leaves rs)) on refl (leaves_on 0 rs) ∙ (then_nothing (runs (placed a [])) ∙ h))

  placed_same : (a : m.Code) (rs : Open) → ◌≡◌ {A = Run} (runs (placed a rs)) (run P make ks a)
  placed_same m.Nothing rs = refl
  placed_same (m.Do o) rs = do_same o rs (needs_shut (Simple o))
  placed_same (m.Load to r off disp) rs = then_nothing (R (Load to (scope_for r rs) r off disp))
  placed_same (m.Store r off disp from) rs = then_nothing (R (Store (scope_for r rs) r off disp from))
  placed_same (m.Call to f args) rs = behind_leaves rs (Call to f args) ∙ calls_same to f args
  placed_same (m.Fail a) rs = then_nothing (R (Fail a))
  placed_same (m.Then a b) rs =
      runs_append (placed a rs) (placed b (open_behind a rs))
      ∙ then_same (runs (placed a rs)) (run P make ks a) (runs (placed b (open_behind a rs))) (run P make ks b) (placed_same a rs) (placed_same b (open_behind a rs))
  placed_same (m.Choose c a b) rs =
      behind_leaves rs (Choose c (whole a) (whole b))
      ∙ choose_same ks c (R (whole a)) (run P make ks a) (R (whole b)) (run P make ks b) (whole_same a (placed_same a [])) (whole_same b (placed_same b []))
  placed_same (m.Loop a c b) rs =
      behind_leaves rs (Loop (whole a) c (whole b))
      ∙ loop_same ks c (R (whole a)) (run P make ks a) (R (whole b)) (run P make ks b) (whole_same a (placed_same a [])) (whole_same b (placed_same b []))
  placed_same (m.Block a) rs = behind_leaves rs (Block (whole a)) ∙ block_same (R (whole a)) (run P make ks a) (whole_same a (placed_same a []))
  placed_same (m.Exit k) rs = behind_leaves rs (Exit k)

-- ---- functions and programs

result_same : (g : Function) (x : Left) (t : State) → result_of (again g) x t ≡ result_of g x t
result_same g (zero, rs) t = refl
result_same g (suc k, rs) t = refl

results_same : (g : Function) → ◌≡◌ {A = Left → State → Outcome ℕ} (result_of (again g)) (result_of g)
results_same g = λ i x t. result_same g x t i

module _ (P : Program) where
  entered_same : (make : ℕ → List ℕ → State → Outcome ℕ) (o : Option Function) (args : List ℕ) (t : State) → entered (plain_program (placed_program P)) make (option_map again o) args t ≡ entered P make o args t
  entered_same make None args t = refl
  entered_same make (Some g) args t =
      let rs = first_registers g args in
      let body : Run → Outcome ℕ = λ f. then_do (f rs t) (result_of (again g)) in
      ap body (whole_same P make g.kinds g.body (placed_same P make g.kinds g.body []))
      ∙ ap (λ (f : Left → State → Outcome ℕ). then_do (run P make g.kinds g.body rs t) f) (results_same g)

  call_same : (d f : ℕ) (args : List ℕ) (t : State) → call (plain_program (placed_program P)) d f args t ≡ call P d f args t
  call_same zero f args t = refl
  call_same (suc d) f args t =
      let Q = plain_program (placed_program P) in
      let inner : ◌≡◌ {A = ℕ → List ℕ → State → Outcome ℕ} (call Q d) (call P d) = λ i f args t. call_same d f args t i in
      turn_same t (entered Q (call Q d) (slice_get Q.functions f) args) (entered P (call P d) (slice_get P.functions f) args)
      (λ u. ap (λ c. entered Q c (slice_get Q.functions f) args u) inner ∙ (ap (λ o. entered Q (call P d) o args u) (get_again P.functions f) ∙ entered_same (call P d) (slice_get P.functions f) args u))

pub keeps_meaning : (P : Program) (n : ℕ) → means (plain_program (placed_program P)) n ≡ means P n
keeps_meaning P n = ap told (call_same P n 0 [] (opening n))
