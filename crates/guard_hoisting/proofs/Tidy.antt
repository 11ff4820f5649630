-- Code of the middle form with nothing between its parts. It means what the code means, names what it names, and asks for the same checks.
use Rattle.std.proofs.Common.{◌≡◌, ℕ, zero, suc, Bool, Option, Some, None, List, [], ◌∷◌, ◌++◌, length, refl, ap, ◌∙◌}
use Rattle.std.specs.Prelude.{◌&&◌, map, nat_lt, slice_get}
use Rattle.std.specs.List.{list_all}
use Rattle.std.specs.Option.{option_map}
use Rattle.std.proofs.lemmas.Option.{slice_get-map}
use Rattle.code_form.specs.declared.form.Fact.{Fact}
use Rattle.code_form.specs.declared.form.Kind.{Kind}
use Rattle.code_form.specs.declared.form.Kind.TheVariants as kind
use Rattle.code_form.specs.Code.{has}
use Rattle.middle_form.specs.Form.{Code, Nothing, Do, Load, Store, Call, Fail, Then, Choose, Loop, Block, Exit, Function, Program}
use Rattle.middle_form.specs.Guarded.{asks, is_guarded, is_guarded_function, is_guarded_program, is_nothing_asked, joined, uses_pointers}
use Rattle.middle_form.specs.Meaning.{Outcome, State, Left, call, called, entered, first_registers, means, opening, result_of, run, then_do, told}
use Rattle.middle_form.specs.Samples.{in_order}
use Rattle.middle_form.specs.WellFormed.{all_fit, callee_fits, code_fits, function_fits, is_well_formed, main_fits, result_fits}
use Rattle.scoped_building.proofs.Runs.{Run, block_same, choose_same, loop_same, then_nothing, then_regroup, then_run, then_same, turn_same}
use Rattle.scoped_building.proofs.Tests.{and_regroup, and_true}

-- the parts of code
abbrev pub parts : Code → List Code
parts Nothing = []
parts (Do o) = Do o ∷ []
parts (Load to r off disp) = Load to r off disp ∷ []
parts (Store r off disp from) = Store r off disp from ∷ []
parts (Call to f args) = Call to f args ∷ []
parts (Fail a) = Fail a ∷ []
parts (Then a b) = parts a ++ parts b
parts (Choose c a b) = Choose c (in_order (parts a)) (in_order (parts b)) ∷ []
parts (Loop a c b) = Loop (in_order (parts a)) c (in_order (parts b)) ∷ []
parts (Block a) = Block (in_order (parts a)) ∷ []
parts (Exit k) = Exit k ∷ []

abbrev pub tidy : Code → Code
tidy a = in_order (parts a)

abbrev pub tidy_function : Function → Function
tidy_function g = record { result = g.result; parameters = g.parameters; kinds = g.kinds; body = tidy g.body; value = g.value }

abbrev pub tidy_program : Program → Program
tidy_program P = record { head = P.head; functions = map tidy_function P.functions }

-- ---- what it means

module _ (P : Program) (make : ℕ → List ℕ → State → Outcome ℕ) (ks : List Kind) where
  abbrev Q : Program
  Q = tidy_program P

  abbrev R : Code → Run
  R c = run Q make ks c

  abbrev runs : List Code → Run
  runs xs = R (in_order xs)

  runs_append : (xs ys : List Code) → ◌≡◌ {A = Run} (runs (xs ++ ys)) (then_run (runs xs) (runs ys))
  runs_append [] ys = refl
  runs_append (x ∷ xs) ys = then_same (R x) (R x) (runs (xs ++ ys)) (then_run (runs xs) (runs ys)) refl (runs_append xs ys) ∙ then_regroup (R x) (runs xs) (runs ys)

  called_same : (o : Option Function) (to : Option ℕ) (f : ℕ) (args : List ℕ) → ◌≡◌ {A = Run} (called Q make ks (option_map tidy_function o) to f args) (called P make ks o to f args)
  called_same None to f args = refl
  called_same (Some g) to f args = refl

  calls_same : (to : Option ℕ) (f : ℕ) (args : List ℕ) → ◌≡◌ {A = Run} (R (Call to f args)) (run P make ks (Call to f args))
  calls_same to f args =
      let at : Option Function → Run = λ o. called Q make ks o to f args in
      ap at (slice_get-map tidy_function P.functions f) ∙ called_same (slice_get P.functions f) to f args

  tidy_same : (a : Code) → ◌≡◌ {A = Run} (runs (parts a)) (run P make ks a)
  tidy_same Nothing = refl
  tidy_same (Do o) = then_nothing (R (Do o))
  tidy_same (Load to r off disp) = then_nothing (R (Load to r off disp))
  tidy_same (Store r off disp from) = then_nothing (R (Store r off disp from))
  tidy_same (Call to f args) = then_nothing (R (Call to f args)) ∙ calls_same to f args
  tidy_same (Fail a) = then_nothing (R (Fail a))
  tidy_same (Then a b) = runs_append (parts a) (parts b) ∙ then_same (runs (parts a)) (run P make ks a) (runs (parts b)) (run P make ks b) (tidy_same a) (tidy_same b)
  tidy_same (Choose c a b) =
      then_nothing (R (Choose c (tidy a) (tidy b))) ∙ choose_same ks c (R (tidy a)) (run P make ks a) (R (tidy b)) (run P make ks b) (tidy_same a) (tidy_same b)
  tidy_same (Loop a c b) =
      then_nothing (R (Loop (tidy a) c (tidy b))) ∙ loop_same ks c (R (tidy a)) (run P make ks a) (R (tidy b)) (run P make ks b) (tidy_same a) (tidy_same b)
  tidy_same (Block a) = then_nothing (R (Block (tidy a))) ∙ block_same (R (tidy a)) (run P make ks a) (tidy_same a)
  tidy_same (Exit k) = then_nothing (R (Exit k))

result_same : (g : Function) (x : Left) (t : State) → result_of (tidy_function g) x t ≡ result_of g x t
result_same g (zero, rs) t = refl
result_same g (suc k, rs) t = refl

results_same : (g : Function) → ◌≡◌ {A = Left → State → Outcome ℕ} (result_of (tidy_function g)) (result_of g)
results_same g = λ i x t. result_same g x t i

module _ (P : Program) where
  entered_same : (make : ℕ → List ℕ → State → Outcome ℕ) (o : Option Function) (args : List ℕ) (t : State) → entered (tidy_program P) make (option_map tidy_function o) args t ≡ entered P make o args t
  entered_same make None args t = refl
  entered_same make (Some g) args t =
      let rs = first_registers g args in
      let body : Run → Outcome ℕ = λ f. then_do (f rs t) (result_of (tidy_function g)) in
      ap body (tidy_same P make g.kinds g.body)
      ∙ ap (λ (f : Left → State → Outcome ℕ). then_do (run P make g.kinds g.body rs t) f) (results_same g)

  call_same : (d f : ℕ) (args : List ℕ) (t : State) → call (tidy_program P) d f args t ≡ call P d f args t
  call_same zero f args t = refl
  call_same (suc d) f args t =
      let Q = tidy_program P in
      let inner : ◌≡◌ {A = ℕ → List ℕ → State → Outcome ℕ} (call Q d) (call P d) = λ i f args t. call_same d f args t i in
      turn_same t (entered Q (call Q d) (slice_get Q.functions f) args) (entered P (call P d) (slice_get P.functions f) args)
      (λ u. ap (λ c. entered Q c (slice_get Q.functions f) args u) inner ∙ (ap (λ o. entered Q (call P d) o args u) (slice_get-map tidy_function P.functions f) ∙ entered_same (call P d) (slice_get P.functions f) args u))

pub tidy_means : (P : Program) (n : ℕ) → means (tidy_program P) n ≡ means P n
tidy_means P n = ap told (call_same P n 0 [] (opening n))

-- ---- all that it names

module _ (P : Program) (ks : List Kind) where
  abbrev S : Program
  S = tidy_program P

  abbrev F : ℕ → List Code → Bool
  F around xs = code_fits S ks around (in_order xs)

  fits_append : (around : ℕ) (xs ys : List Code) → F around (xs ++ ys) ≡ (F around xs && F around ys)
  fits_append around [] ys = refl
  fits_append around (x ∷ xs) ys = ap (λ b. code_fits S ks around x && b) (fits_append around xs ys) ∙ and_regroup (code_fits S ks around x) (F around xs) (F around ys)

  callee_same : (o : Option Function) (to : Option ℕ) (args : List ℕ) → callee_fits S ks (option_map tidy_function o) to args ≡ callee_fits P ks o to args
  callee_same None to args = refl
  callee_same (Some g) to args = refl

  tidy_fits : (around : ℕ) (a : Code) → F around (parts a) ≡ code_fits P ks around a
  tidy_fits around Nothing = refl
  tidy_fits around (Do o) = and_true (code_fits S ks around (Do o))
  tidy_fits around (Load to r off disp) = and_true (code_fits S ks around (Load to r off disp))
  tidy_fits around (Store r off disp from) = and_true (code_fits S ks around (Store r off disp from))
  tidy_fits around (Call to f args) =
      and_true (code_fits S ks around (Call to f args)) ∙ (ap (λ o. callee_fits S ks o to args) (slice_get-map tidy_function P.functions f) ∙ callee_same (slice_get P.functions f) to args)
  tidy_fits around (Fail a) = and_true (code_fits S ks around (Fail a))
  tidy_fits around (Then a b) =
      fits_append around (parts a) (parts b) ∙ (ap (λ x. x && F around (parts b)) (tidy_fits around a) ∙ ap (λ y. code_fits P ks around a && y) (tidy_fits around b))
  tidy_fits around (Choose c a b) =
      and_true (code_fits S ks around (Choose c (tidy a) (tidy b)))
      ∙ (ap (λ x. has ks c kind.Bool && (x && F around (parts b))) (tidy_fits around a) ∙ ap (λ y. has ks c kind.Bool && (code_fits P ks around a && y)) (tidy_fits around b))
  tidy_fits around (Loop a c b) =
      and_true (code_fits S ks around (Loop (tidy a) c (tidy b)))
      ∙ (ap (λ x. has ks c kind.Bool && (x && F (suc around) (parts b))) (tidy_fits (suc around) a) ∙ ap (λ y. has ks c kind.Bool && (code_fits P ks (suc around) a && y)) (tidy_fits (suc around) b))
  tidy_fits around (Block a) = and_true (code_fits S ks around (Block (tidy a))) ∙ tidy_fits (suc around) a
  tidy_fits around (Exit k) = and_true (code_fits S ks around (Exit k))

module _ (P : Program) where
  function_fits_same : (g : Function) → function_fits (tidy_program P) (tidy_function g) ≡ function_fits P g
  function_fits_same g = ap (λ b. nat_lt g.parameters (suc (length g.kinds)) && (b && result_fits g)) (tidy_fits P g.kinds 0 g.body)

  all_fit_same : (gs : List Function) → all_fit (tidy_program P) (map tidy_function gs) ≡ all_fit P gs
  all_fit_same [] = refl
  all_fit_same (g ∷ gs) = ap (λ b. b && all_fit (tidy_program P) (map tidy_function gs)) (function_fits_same g) ∙ ap (λ b. function_fits P g && b) (all_fit_same gs)

main_fits_same : (gs : List Function) → main_fits (map tidy_function gs) ≡ main_fits gs
main_fits_same [] = refl
main_fits_same (g ∷ gs) = refl

pub tidy_well_formed : (P : Program) → is_well_formed (tidy_program P) ≡ is_well_formed P
tidy_well_formed P =
    ap (λ b. b && all_fit (tidy_program P) (map tidy_function P.functions)) (main_fits_same P.functions) ∙ ap (λ b. main_fits P.functions && b) (all_fit_same P P.functions)

-- ---- the checks that it asks for

abbrev A : List Code → List Fact → List Fact
A xs w = asks (in_order xs) w

asks_append : (xs ys : List Code) (w : List Fact) → A (xs ++ ys) w ≡ A xs (A ys w)
asks_append [] ys w = refl
asks_append (x ∷ xs) ys w = ap (asks x) (asks_append xs ys w)

pub tidy_asks : (a : Code) (w : List Fact) → asks (tidy a) w ≡ asks a w
tidy_asks Nothing w = refl
tidy_asks (Do o) w = refl
tidy_asks (Load to r off disp) w = refl
tidy_asks (Store r off disp from) w = refl
tidy_asks (Call to f args) w = refl
tidy_asks (Fail a) w = refl
tidy_asks (Then a b) w = asks_append (parts a) (parts b) w ∙ (ap (A (parts a)) (tidy_asks b w) ∙ tidy_asks a (asks b w))
tidy_asks (Choose c a b) w = ap (λ v. joined v (asks (tidy b) w)) (tidy_asks a w) ∙ ap (joined (asks a w)) (tidy_asks b w)
tidy_asks (Loop a c b) w = refl
tidy_asks (Block a) w = tidy_asks a []
tidy_asks (Exit k) w = refl

-- ---- no register that a check names is written before the access

abbrev G : List Code → List Fact → Bool
G xs w = is_guarded (in_order xs) w

guards_append : (xs ys : List Code) (w : List Fact) → G (xs ++ ys) w ≡ (G xs (A ys w) && G ys w)
guards_append [] ys w = refl
guards_append (x ∷ xs) ys w =
    ap (λ v. is_guarded x v && G (xs ++ ys) w) (asks_append xs ys w)
    ∙ (ap (λ b. is_guarded x (A xs (A ys w)) && b) (guards_append xs ys w) ∙ and_regroup (is_guarded x (A xs (A ys w))) (G xs (A ys w)) (G ys w))

loop_guards : (a b : Code) (w : List Fact) → asks (tidy a) [] ≡ asks a [] → asks (tidy b) [] ≡ asks b [] → G (parts a) [] ≡ is_guarded a [] → G (parts b) [] ≡ is_guarded b []
    → (is_nothing_asked w && (is_nothing_asked (asks (tidy a) []) && (is_nothing_asked (asks (tidy b) []) && (G (parts a) [] && G (parts b) []))))
    ≡ (is_nothing_asked w && (is_nothing_asked (asks a []) && (is_nothing_asked (asks b []) && (is_guarded a [] && is_guarded b []))))
loop_guards a b w p q x y = λ i. is_nothing_asked w && (is_nothing_asked (p i) && (is_nothing_asked (q i) && (x i && y i)))

tidy_guards : (a : Code) (w : List Fact) → G (parts a) w ≡ is_guarded a w
tidy_guards Nothing w = refl
tidy_guards (Do o) w = and_true (is_guarded (Do o) w)
tidy_guards (Load to r off disp) w = and_true (is_guarded (Load to r off disp) w)
tidy_guards (Store r off disp from) w = refl
tidy_guards (Call to f args) w = and_true (is_guarded (Call to f args) w)
tidy_guards (Fail a) w = refl
tidy_guards (Then a b) w =
    guards_append (parts a) (parts b) w
    ∙ (ap (λ v. G (parts a) v && G (parts b) w) (tidy_asks b w) ∙ (ap (λ x. x && G (parts b) w) (tidy_guards a (asks b w)) ∙ ap (λ y. is_guarded a (asks b w) && y) (tidy_guards b w)))
tidy_guards (Choose c a b) w =
    and_true (is_guarded (Choose c (tidy a) (tidy b)) w) ∙ (ap (λ x. x && G (parts b) w) (tidy_guards a w) ∙ ap (λ y. is_guarded a w && y) (tidy_guards b w))
tidy_guards (Loop a c b) w =
    and_true (is_guarded (Loop (tidy a) c (tidy b)) w) ∙ loop_guards a b w (tidy_asks a []) (tidy_asks b []) (tidy_guards a []) (tidy_guards b [])
tidy_guards (Block a) w = and_true (is_guarded (Block (tidy a)) w) ∙ ap (λ x. is_nothing_asked w && x) (tidy_guards a [])
tidy_guards (Exit k) w = refl

-- ---- a register without an offset is a pointer

module _ (ks : List Kind) where
  abbrev U : List Code → Bool
  U xs = uses_pointers ks (in_order xs)

  uses_append : (xs ys : List Code) → U (xs ++ ys) ≡ (U xs && U ys)
  uses_append [] ys = refl
  uses_append (x ∷ xs) ys = ap (λ b. uses_pointers ks x && b) (uses_append xs ys) ∙ and_regroup (uses_pointers ks x) (U xs) (U ys)

  tidy_uses : (a : Code) → U (parts a) ≡ uses_pointers ks a
  tidy_uses Nothing = refl
  tidy_uses (Do o) = refl
  tidy_uses (Load to r off disp) = and_true (uses_pointers ks (Load to r off disp))
  tidy_uses (Store r off disp from) = and_true (uses_pointers ks (Store r off disp from))
  tidy_uses (Call to f args) = refl
  tidy_uses (Fail a) = refl
  tidy_uses (Then a b) = uses_append (parts a) (parts b) ∙ (ap (λ x. x && U (parts b)) (tidy_uses a) ∙ ap (λ y. uses_pointers ks a && y) (tidy_uses b))
  tidy_uses (Choose c a b) =
      and_true (uses_pointers ks (Choose c (tidy a) (tidy b))) ∙ (ap (λ x. x && U (parts b)) (tidy_uses a) ∙ ap (λ y. uses_pointers ks a && y) (tidy_uses b))
  tidy_uses (Loop a c b) = and_true (uses_pointers ks (Loop (tidy a) c (tidy b))) ∙ (ap (λ x. x && U (parts b)) (tidy_uses a) ∙ ap (λ y. uses_pointers ks a && y) (tidy_uses b))
  tidy_uses (Block a) = and_true (uses_pointers ks (Block (tidy a))) ∙ tidy_uses a
  tidy_uses (Exit k) = refl

function_guarded_same : (g : Function) → is_guarded_function (tidy_function g) ≡ is_guarded_function g
function_guarded_same g =
    ap (λ w. (is_nothing_asked w && is_guarded (tidy g.body) []) && uses_pointers g.kinds (tidy g.body)) (tidy_asks g.body [])
    ∙ (ap (λ b. (is_nothing_asked (asks g.body []) && b) && uses_pointers g.kinds (tidy g.body)) (tidy_guards g.body [])
    ∙ ap (λ b. (is_nothing_asked (asks g.body []) && is_guarded g.body []) && b) (tidy_uses g.kinds g.body))

all_guarded_same : (gs : List Function) → list_all is_guarded_function (map tidy_function gs) ≡ list_all is_guarded_function gs
all_guarded_same [] = refl
all_guarded_same (g ∷ gs) =
    ap (λ b. b && list_all is_guarded_function (map tidy_function gs)) (function_guarded_same g) ∙ ap (λ b. is_guarded_function g && b) (all_guarded_same gs)

pub tidy_guarded : (P : Program) → is_guarded_program (tidy_program P) ≡ is_guarded_program P
tidy_guarded P = all_guarded_same P.functions
