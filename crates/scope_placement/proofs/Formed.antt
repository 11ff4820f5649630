-- Code in which scopes are placed names without them what it did, and checks each place as it did.
use Rattle.std.proofs.Common.{◌≡◌, ℕ, suc, Bool, true, false, cond, Option, Some, None, List, [], ◌∷◌, ◌++◌, length, refl, ap, ◌∙◌}
use Rattle.std.specs.Prelude.{◌&&◌, map, nat_lt, slice_get}
use Rattle.std.specs.List.{list_all}
use Rattle.std.specs.Option.{option_map}
use Rattle.code_form.specs.declared.form.Fact.{Fact}
use Rattle.code_form.specs.declared.form.Kind.{Kind}
use Rattle.code_form.specs.declared.form.Kind.TheVariants as kind
use Rattle.code_form.specs.declared.form.Operation.{Operation}
use Rattle.code_form.specs.Form.{Simple}
use Rattle.code_form.specs.Code.{has, needs_shut}
use Rattle.middle_form.specs.Form.{Function, Program}
use Rattle.middle_form.specs.Form as m
use Rattle.middle_form.specs.Guarded.{asks, is_guarded, is_guarded_function, is_guarded_program, is_nothing_asked, joined, uses_pointers}
use Rattle.middle_form.specs.Scoped.{Code, Do, Load, Store, Call, Fail, Choose, Loop, Block, Exit, plain, plain_function, plain_program}
use Rattle.middle_form.specs.WellFormed.{all_fit, callee_fits, code_fits, function_fits, is_well_formed, main_fits, result_fits}
use Rattle.scoped_building.specs.Building.{in_order}
use Rattle.scoped_building.proofs.Tests.{and_regroup, and_true}
use Rattle.scope_placement.specs.Placed.{Open, leaves, leaves_from, open_behind, placed, placed_function, placed_program, scope_for, whole}
use Rattle.scope_placement.proofs.Same.{again, get_again}

-- ---- all that it names

module _ (P : Program) (ks : List Kind) where
  abbrev Q : Program
  Q = plain_program (placed_program P)

  abbrev F : ℕ → Code → Bool
  F around c = code_fits Q ks around (plain c)

  fits_append : (around : ℕ) (xs ys : List Code) → F around (in_order (xs ++ ys)) ≡ (F around (in_order xs) && F around (in_order ys))
  fits_append around [] ys = refl
  fits_append around (x ∷ xs) ys = ap (λ b. F around x && b) (fits_append around xs ys) ∙ and_regroup (F around x) (F around (in_order xs)) (F around (in_order ys))

  leaves_fit : (around s : ℕ) (rs : Open) → F around (in_order (leaves_from s rs)) ≡ true
  leaves_fit around s [] = refl
  leaves_fit around s (q ∷ rs) = leaves_fit around (suc s) rs

  behind_fits : (around : ℕ) (rs : Open) (c : Code) → F around (in_order (leaves rs ++ c ∷ [])) ≡ F around c
  behind_fits around rs c = fits_append around (leaves rs) (c ∷ []) ∙ (ap (λ b. b && (F around c && true)) (leaves_fit around 0 rs) ∙ and_true (F around c))

  do_fits : (around : ℕ) (o : Operation) (rs : Open) (b : Bool) → F around (in_order (cond b (leaves rs) [] ++ Do o ∷ [])) ≡ F around (Do o)
  do_fits around o rs true = behind_fits around rs (Do o)
  do_fits around o rs false = and_true (F around (Do o))

  callee_same : (o : Option Function) (to : Option ℕ) (args : List ℕ) → callee_fits Q ks (option_map again o) to args ≡ callee_fits P ks o to args
  callee_same None to args = refl
  callee_same (Some g) to args = refl

  whole_fits : (around : ℕ) (a : m.Code) → F around (in_order (placed a [])) ≡ code_fits P ks around a → F around (whole a) ≡ code_fits P ks around a
  whole_fits around a h =
      let rs = open_behind a [] in
      fits_append around (placed a []) (leaves rs) ∙ (ap (λ b. F around (in_order (placed a [])) && b) (leaves_fit around 0 rs) ∙ (and_true (F around (in_order (placed a []))) ∙ h))

  placed_fits : (around : ℕ) (a : m.Code) (rs : Open) → F around (in_order (placed a rs)) ≡ code_fits P ks around a
  placed_fits around m.Nothing rs = refl
  placed_fits around (m.Do o) rs = do_fits around o rs (needs_shut (Simple o))
  placed_fits around (m.Load to r off disp) rs = and_true (F around (Load to (scope_for r rs) r off disp))
  placed_fits around (m.Store r off disp from) rs = and_true (F around (Store (scope_for r rs) r off disp from))
  placed_fits around (m.Call to f args) rs =
      behind_fits around rs (Call to f args) ∙ (ap (λ o. callee_fits Q ks o to args) (get_again P.functions f) ∙ callee_same (slice_get P.functions f) to args)
  placed_fits around (m.Fail a) rs = and_true (F around (Fail a))
  placed_fits around (m.Then a b) rs =
      fits_append around (placed a rs) (placed b (open_behind a rs))
      ∙ (ap (λ x. x && F around (in_order (placed b (open_behind a rs)))) (placed_fits around a rs) ∙ ap (λ y. code_fits P ks around a && y) (placed_fits around b (open_behind a rs)))
  placed_fits around (m.Choose c a b) rs =
      behind_fits around rs (Choose c (whole a) (whole b))
      ∙ (ap (λ x. has ks c kind.Bool && (x && F around (whole b))) (whole_fits around a (placed_fits around a []))
      ∙ ap (λ y. has ks c kind.Bool && (code_fits P ks around a && y)) (whole_fits around b (placed_fits around b [])))
  placed_fits around (m.Loop a c b) rs =
      behind_fits around rs (Loop (whole a) c (whole b))
      ∙ (ap (λ x. has ks c kind.Bool && (x && F (suc around) (whole b))) (whole_fits (suc around) a (placed_fits (suc around) a []))
      ∙ ap (λ y. has ks c kind.Bool && (code_fits P ks (suc around) a && y)) (whole_fits (suc around) b (placed_fits (suc around) b [])))
  placed_fits around (m.Block a) rs = behind_fits around rs (Block (whole a)) ∙ whole_fits (suc around) a (placed_fits (suc around) a [])
  placed_fits around (m.Exit k) rs = behind_fits around rs (Exit k)

module _ (P : Program) where
  abbrev QQ : Program
  QQ = plain_program (placed_program P)

  function_fits_same : (g : Function) → function_fits QQ (again g) ≡ function_fits P g
  function_fits_same g =
      ap (λ b. nat_lt g.parameters (suc (length g.kinds)) && (b && result_fits g)) (whole_fits P g.kinds 0 g.body (placed_fits P g.kinds 0 g.body []))

  all_fit_same : (gs : List Function) → all_fit QQ (map plain_function (map placed_function gs)) ≡ all_fit P gs
  all_fit_same [] = refl
  all_fit_same (g ∷ gs) = ap (λ b. b && all_fit QQ (map plain_function (map placed_function gs))) (function_fits_same g) ∙ ap (λ b. function_fits P g && b) (all_fit_same gs)

main_fits_same : (gs : List Function) → main_fits (map plain_function (map placed_function gs)) ≡ main_fits gs
main_fits_same [] = refl
main_fits_same (g ∷ gs) = refl

pub stays_well_formed : (P : Program) → is_well_formed (plain_program (placed_program P)) ≡ is_well_formed P
stays_well_formed P =
    ap (λ b. b && all_fit (plain_program (placed_program P)) (map plain_function (map placed_function P.functions))) (main_fits_same P.functions)
    ∙ ap (λ b. main_fits P.functions && b) (all_fit_same P P.functions)

-- ---- the checks that it asks for

abbrev A : List Code → List Fact → List Fact
A xs w = asks (plain (in_order xs)) w

asks_append : (xs ys : List Code) (w : List Fact) → A (xs ++ ys) w ≡ A xs (A ys w)
asks_append [] ys w = refl
asks_append (x ∷ xs) ys w = ap (asks (plain x)) (asks_append xs ys w)

leaves_ask : (s : ℕ) (rs : Open) (w : List Fact) → A (leaves_from s rs) w ≡ w
leaves_ask s [] w = refl
leaves_ask s (q ∷ rs) w = leaves_ask (suc s) rs w

behind_asks : (rs : Open) (c : Code) (w : List Fact) → A (leaves rs ++ c ∷ []) w ≡ asks (plain c) w
behind_asks rs c w = asks_append (leaves rs) (c ∷ []) w ∙ leaves_ask 0 rs (asks (plain c) w)

do_asks : (o : Operation) (rs : Open) (b : Bool) (w : List Fact) → A (cond b (leaves rs) [] ++ Do o ∷ []) w ≡ asks (m.Do o) w
do_asks o rs true w = behind_asks rs (Do o) w
do_asks o rs false w = refl

whole_asks : (a : m.Code) (w : List Fact) → A (placed a []) w ≡ asks a w → asks (plain (whole a)) w ≡ asks a w
whole_asks a w h = asks_append (placed a []) (leaves (open_behind a [])) w ∙ (ap (A (placed a [])) (leaves_ask 0 (open_behind a []) w) ∙ h)

placed_asks : (a : m.Code) (rs : Open) (w : List Fact) → A (placed a rs) w ≡ asks a w
placed_asks m.Nothing rs w = refl
placed_asks (m.Do o) rs w = do_asks o rs (needs_shut (Simple o)) w
placed_asks (m.Load to r off disp) rs w = refl
placed_asks (m.Store r off disp from) rs w = refl
placed_asks (m.Call to f args) rs w = behind_asks rs (Call to f args) w
placed_asks (m.Fail a) rs w = refl
placed_asks (m.Then a b) rs w =
    asks_append (placed a rs) (placed b (open_behind a rs)) w ∙ (ap (A (placed a rs)) (placed_asks b (open_behind a rs) w) ∙ placed_asks a rs (asks b w))
placed_asks (m.Choose c a b) rs w =
    behind_asks rs (Choose c (whole a) (whole b)) w
    ∙ (ap (λ v. joined v (asks (plain (whole b)) w)) (whole_asks a w (placed_asks a [] w)) ∙ ap (joined (asks a w)) (whole_asks b w (placed_asks b [] w)))
placed_asks (m.Loop a c b) rs w = behind_asks rs (Loop (whole a) c (whole b)) w
placed_asks (m.Block a) rs w = behind_asks rs (Block (whole a)) w ∙ whole_asks a [] (placed_asks a [] [])
placed_asks (m.Exit k) rs w = behind_asks rs (Exit k) w

pub asks_the_same : (a : m.Code) (w : List Fact) → asks (plain (whole a)) w ≡ asks a w
asks_the_same a w = whole_asks a w (placed_asks a [] w)

-- ---- no register that a check names is written before the access

abbrev G : List Code → List Fact → Bool
G xs w = is_guarded (plain (in_order xs)) w

guards_append : (xs ys : List Code) (w : List Fact) → G (xs ++ ys) w ≡ (G xs (A ys w) && G ys w)
guards_append [] ys w = refl
guards_append (x ∷ xs) ys w =
    ap (λ v. is_guarded (plain x) v && G (xs ++ ys) w) (asks_append xs ys w)
    ∙ (ap (λ b. is_guarded (plain x) (A xs (A ys w)) && b) (guards_append xs ys w) ∙ and_regroup (is_guarded (plain x) (A xs (A ys w))) (G xs (A ys w)) (G ys w))

leaves_guard : (s : ℕ) (rs : Open) (w : List Fact) → G (leaves_from s rs) w ≡ true
leaves_guard s [] w = refl
leaves_guard s (q ∷ rs) w = leaves_guard (suc s) rs w

behind_guards : (rs : Open) (c : Code) (w : List Fact) → G (leaves rs ++ c ∷ []) w ≡ is_guarded (plain c) w
behind_guards rs c w =
    guards_append (leaves rs) (c ∷ []) w
    ∙ (ap (λ b. b && (is_guarded (plain c) w && true)) (leaves_guard 0 rs (asks (plain c) w)) ∙ and_true (is_guarded (plain c) w))

do_guards : (o : Operation) (rs : Open) (b : Bool) (w : List Fact) → G (cond b (leaves rs) [] ++ Do o ∷ []) w ≡ is_guarded (m.Do o) w
do_guards o rs true w = behind_guards rs (Do o) w
do_guards o rs false w = and_true (is_guarded (m.Do o) w)

whole_guards : (a : m.Code) (w : List Fact) → G (placed a []) w ≡ is_guarded a w → is_guarded (plain (whole a)) w ≡ is_guarded a w
whole_guards a w h =
    let rs = open_behind a [] in
    guards_append (placed a []) (leaves rs) w
    ∙ (ap (λ v. G (placed a []) v && G (leaves rs) w) (leaves_ask 0 rs w) ∙ (ap (λ b. G (placed a []) w && b) (leaves_guard 0 rs w) ∙ (and_true (G (placed a []) w) ∙ h)))

placed_guards : (a : m.Code) (rs : Open) (w : List Fact) → G (placed a rs) w ≡ is_guarded a w
placed_guards m.Nothing rs w = refl
placed_guards (m.Do o) rs w = do_guards o rs (needs_shut (Simple o)) w
placed_guards (m.Load to r off disp) rs w = and_true (is_guarded (m.Load to r off disp) w)
placed_guards (m.Store r off disp from) rs w = refl
placed_guards (m.Call to f args) rs w = behind_guards rs (Call to f args) w
placed_guards (m.Fail a) rs w = refl
placed_guards (m.Then a b) rs w =
    let bs = placed b (open_behind a rs) in
    guards_append (placed a rs) bs w
    ∙ (ap (λ v. G (placed a rs) v && G bs w) (placed_asks b (open_behind a rs) w)
    ∙ (ap (λ x. x && G bs w) (placed_guards a rs (asks b w)) ∙ ap (λ y. is_guarded a (asks b w) && y) (placed_guards b (open_behind a rs) w)))
placed_guards (m.Choose c a b) rs w =
    behind_guards rs (Choose c (whole a) (whole b)) w
    ∙ (ap (λ x. x && is_guarded (plain (whole b)) w) (whole_guards a w (placed_guards a [] w)) ∙ ap (λ y. is_guarded a w && y) (whole_guards b w (placed_guards b [] w)))
placed_guards (m.Loop a c b) rs w = behind_guards rs (Loop (whole a) c (whole b)) w ∙ loop_guards w (asks_the_same a []) (asks_the_same b []) (whole_guards a [] (placed_guards a [] [])) (whole_guards b [] (placed_guards b [] []))
  where
    loop_guards : (w : List Fact) → asks (plain (whole a)) [] ≡ asks a [] → asks (plain (whole b)) [] ≡ asks b [] → is_guarded (plain (whole a)) [] ≡ is_guarded a [] → is_guarded (plain (whole b)) [] ≡ is_guarded b []
        → is_guarded (plain (Loop (whole a) c (whole b))) w ≡ is_guarded (m.Loop a c b) w
    loop_guards w p q x y = λ i. is_nothing_asked w && (is_nothing_asked (p i) && (is_nothing_asked (q i) && (x i && y i)))
placed_guards (m.Block a) rs w = behind_guards rs (Block (whole a)) w ∙ ap (λ x. is_nothing_asked w && x) (whole_guards a [] (placed_guards a [] []))
placed_guards (m.Exit k) rs w = behind_guards rs (Exit k) w

-- ---- a register without an offset is a pointer

module _ (ks : List Kind) where
  abbrev U : List Code → Bool
  U xs = uses_pointers ks (plain (in_order xs))

  uses_append : (xs ys : List Code) → U (xs ++ ys) ≡ (U xs && U ys)
  uses_append [] ys = refl
  uses_append (x ∷ xs) ys = ap (λ b. uses_pointers ks (plain x) && b) (uses_append xs ys) ∙ and_regroup (uses_pointers ks (plain x)) (U xs) (U ys)

  leaves_use : (s : ℕ) (rs : Open) → U (leaves_from s rs) ≡ true
  leaves_use s [] = refl
  leaves_use s (q ∷ rs) = leaves_use (suc s) rs

  behind_uses : (rs : Open) (c : Code) → U (leaves rs ++ c ∷ []) ≡ uses_pointers ks (plain c)
  behind_uses rs c =
      uses_append (leaves rs) (c ∷ []) ∙ (ap (λ b. b && (uses_pointers ks (plain c) && true)) (leaves_use 0 rs) ∙ and_true (uses_pointers ks (plain c)))

  do_uses : (o : Operation) (rs : Open) (b : Bool) → U (cond b (leaves rs) [] ++ Do o ∷ []) ≡ true
  do_uses o rs true = behind_uses rs (Do o)
  do_uses o rs false = refl

  whole_uses : (a : m.Code) → U (placed a []) ≡ uses_pointers ks a → uses_pointers ks (plain (whole a)) ≡ uses_pointers ks a
  whole_uses a h =
      let rs = open_behind a [] in
      uses_append (placed a []) (leaves rs) ∙ (ap (λ b. U (placed a []) && b) (leaves_use 0 rs) ∙ (and_true (U (placed a [])) ∙ h))

  placed_uses : (a : m.Code) (rs : Open) → U (placed a rs) ≡ uses_pointers ks a
  placed_uses m.Nothing rs = refl
  placed_uses (m.Do o) rs = do_uses o rs (needs_shut (Simple o))
  placed_uses (m.Load to r off disp) rs = and_true (uses_pointers ks (m.Load to r off disp))
  placed_uses (m.Store r off disp from) rs = and_true (uses_pointers ks (m.Store r off disp from))
  placed_uses (m.Call to f args) rs = behind_uses rs (Call to f args)
  placed_uses (m.Fail a) rs = refl
  placed_uses (m.Then a b) rs =
      uses_append (placed a rs) (placed b (open_behind a rs))
      ∙ (ap (λ x. x && U (placed b (open_behind a rs))) (placed_uses a rs) ∙ ap (λ y. uses_pointers ks a && y) (placed_uses b (open_behind a rs)))
  placed_uses (m.Choose c a b) rs =
      behind_uses rs (Choose c (whole a) (whole b))
      ∙ (ap (λ x. x && uses_pointers ks (plain (whole b))) (whole_uses a (placed_uses a [])) ∙ ap (λ y. uses_pointers ks a && y) (whole_uses b (placed_uses b [])))
  placed_uses (m.Loop a c b) rs =
      behind_uses rs (Loop (whole a) c (whole b))
      ∙ (ap (λ x. x && uses_pointers ks (plain (whole b))) (whole_uses a (placed_uses a [])) ∙ ap (λ y. uses_pointers ks a && y) (whole_uses b (placed_uses b [])))
  placed_uses (m.Block a) rs = behind_uses rs (Block (whole a)) ∙ whole_uses a (placed_uses a [])
  placed_uses (m.Exit k) rs = behind_uses rs (Exit k)

function_guarded_same : (g : Function) → is_guarded_function (again g) ≡ is_guarded_function g
function_guarded_same g =
    let p = asks_the_same g.body [] in
    let x = whole_guards g.body [] (placed_guards g.body [] []) in
    let y = whole_uses g.kinds g.body (placed_uses g.kinds g.body []) in
    ap (λ w. (is_nothing_asked w && is_guarded (plain (whole g.body)) []) && uses_pointers g.kinds (plain (whole g.body))) p
    ∙ (ap (λ b. (is_nothing_asked (asks g.body []) && b) && uses_pointers g.kinds (plain (whole g.body))) x ∙ ap (λ b. (is_nothing_asked (asks g.body []) && is_guarded g.body []) && b) y)

all_guarded_same : (gs : List Function) → list_all is_guarded_function (map plain_function (map placed_function gs)) ≡ list_all is_guarded_function gs
all_guarded_same [] = refl
all_guarded_same (g ∷ gs) =
    ap (λ b. b && list_all is_guarded_function (map plain_function (map placed_function gs))) (function_guarded_same g) ∙ ap (λ b. is_guarded_function g && b) (all_guarded_same gs)

pub stays_guarded : (P : Program) → is_guarded_program (plain_program (placed_program P)) ≡ is_guarded_program P
stays_guarded P = all_guarded_same P.functions
