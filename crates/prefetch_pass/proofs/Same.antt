-- Hints change no meaning, name nothing that was not named, and ask for no check.
use Rattle.std.proofs.Common.{◌≡◌, ℕ, zero, suc, ◌+◌, Bool, true, false, cond, Option, Some, None, List, [], ◌∷◌, length, refl, sym, ap, ◌∙◌}
use Rattle.std.specs.Prelude.{◌&&◌, map, nat_lt, slice_get, slice_index, slice_set}
use Rattle.std.specs.List.{list_all}
use Rattle.std.specs.Option.{option_map}
use Rattle.std.proofs.lemmas.Option.{slice_get-map}
use Rattle.code_form.specs.declared.form.Fact.{Fact}
use Rattle.code_form.specs.declared.form.Kind.{Kind}
use Rattle.code_form.specs.declared.form.Kind.TheVariants as kind
use Rattle.code_form.specs.Effects.{with_cell}
use Rattle.code_form.specs.Code.{Fails, Tells, can_use, cell_kind, has, if_zero, offset, on_kind, place_fits, wanted}
use Rattle.middle_form.specs.Form as m
use Rattle.middle_form.specs.Guarded.{asks, is_guarded, is_guarded_function, is_guarded_program, is_nothing_asked, joined, uses_pointers}
use Rattle.middle_form.specs.Meaning.{Outcome, Registers, State, Left, behind, call, called, cell_at, entered, falls, first_registers, loop, means, on, opening, operated, result_of, run, then_do, told, where_so}
use Rattle.middle_form.specs.Scoped.{Code, Nothing, Do, Load, Store, LoadBy, StoreBy, Aim, Leave, Loose, Call, Fail, Then, Choose, Loop, Block, Exit, Function, Program, plain, plain_function, plain_program}
use Rattle.middle_form.specs.WellFormed.{all_fit, callee_fits, code_fits, function_fits, is_well_formed, main_fits, result_fits}
use Rattle.scoped_building.proofs.Runs.{Run, turn_same}
use Rattle.scoped_building.proofs.Tests.{and_true}
use Rattle.prefetch_pass.specs.Prefetched.{hinted, hinted_for, prefetched_function, prefetched_program, with_hint}
use Rattle.prefetch_pass.specs.Raised.{is_among, offsets_with}

-- ---- what it means

-- a hint behind an access, whose place fits where the access is not stuck
hint_idle : (b c : Bool) (w : Registers → State → Option (ℕ × ℕ)) (rs : Registers) (t : State)
    → then_do (where_so (b && c) (on rs t)) (falls (λ qs u. then_do (operated (cond b (Tells (w qs u)) Fails) qs u) (falls on))) ≡ where_so (b && c) (on rs t)
hint_idle true true w rs t = refl
hint_idle true false w rs t = refl
hint_idle false c w rs t = refl

and_idle : (b c : Bool) → ((b && c) && (b && true)) ≡ (b && c)
and_idle true true = refl
and_idle true false = refl
and_idle false c = refl

module _ (cells : ℕ) where
  module _ (P : Program) (make : ℕ → List ℕ → State → Outcome ℕ) (ks : List Kind) (ds : List ℕ) where
    abbrev Q : m.Program
    Q = plain_program (prefetched_program cells P)

    abbrev R : Code → Run
    R a = run Q make ks (plain a)

    abbrev S : Code → Run
    S a = run (plain_program P) make ks (plain a)

    -- an access with its hint or without
    hint_same : (r d disp : ℕ) (a : Code) → ◌≡◌ {A = Run} (R a) (S a) → ◌≡◌ {A = Run} (R (hinted_for cells r d disp a)) (S a) → ◌≡◌ {A = Run} (R (with_hint cells ds r (Some d) disp a)) (S a)
    hint_same r d disp a without with = by_test (is_among ds d && nat_lt (disp + cells) 4294967296)
      where
        by_test : (b : Bool) → ◌≡◌ {A = Run} (R (cond b (hinted_for cells r d disp a) a)) (S a)
        by_test true = with
        by_test false = without

    -- what the hint tells
    abbrev tells : (r d disp : ℕ) → Registers → State → Option (ℕ × ℕ)
    tells r d disp qs u = wanted u.allocations (slice_index qs r) (offset qs (Some d) + (disp + cells))

    load_same : (to s r : ℕ) (off : Option ℕ) (disp : ℕ) → ◌≡◌ {A = Run} (R (with_hint cells ds r off disp (Load to s r off disp))) (S (Load to s r off disp))
    load_same to s r None disp = refl
    load_same to s r (Some d) disp =
        hint_same r d disp (Load to s r (Some d) disp) refl
        (λ i rs t. hint_idle (place_fits ks r (Some d)) (can_use P.head ks t.allocations to r disp (slice_index rs r) (cell_at rs (Some d) disp)) (tells r d disp) (slice_set rs to (t.heap (slice_index rs r) (cell_at rs (Some d) disp))) t i)

    load_by_same : (to s r : ℕ) (off : Option ℕ) (disp : ℕ) → ◌≡◌ {A = Run} (R (with_hint cells ds r off disp (LoadBy to s r off disp))) (S (LoadBy to s r off disp))
    load_by_same to s r None disp = refl
    load_by_same to s r (Some d) disp =
        hint_same r d disp (LoadBy to s r (Some d) disp) refl
        (λ i rs t. hint_idle (place_fits ks r (Some d)) (can_use P.head ks t.allocations to r disp (slice_index rs r) (cell_at rs (Some d) disp)) (tells r d disp) (slice_set rs to (t.heap (slice_index rs r) (cell_at rs (Some d) disp))) t i)

    store_same : (s r : ℕ) (off : Option ℕ) (disp from : ℕ) → ◌≡◌ {A = Run} (R (with_hint cells ds r off disp (Store s r off disp from))) (S (Store s r off disp from))
    store_same s r None disp from = refl
    store_same s r (Some d) disp from =
        hint_same r d disp (Store s r (Some d) disp from) refl
        (λ i rs t. hint_idle (place_fits ks r (Some d)) (can_use P.head ks t.allocations from r disp (slice_index rs r) (cell_at rs (Some d) disp)) (tells r d disp) rs (record t { heap = with_cell t.heap (slice_index rs r) (cell_at rs (Some d) disp) (slice_index rs from) }) i)

    store_by_same : (s r : ℕ) (off : Option ℕ) (disp from : ℕ) → ◌≡◌ {A = Run} (R (with_hint cells ds r off disp (StoreBy s r off disp from))) (S (StoreBy s r off disp from))
    store_by_same s r None disp from = refl
    store_by_same s r (Some d) disp from =
        hint_same r d disp (StoreBy s r (Some d) disp from) refl
        (λ i rs t. hint_idle (place_fits ks r (Some d)) (can_use P.head ks t.allocations from r disp (slice_index rs r) (cell_at rs (Some d) disp)) (tells r d disp) rs (record t { heap = with_cell t.heap (slice_index rs r) (cell_at rs (Some d) disp) (slice_index rs from) }) i)

    called_same : (o : Option Function) (to : Option ℕ) (f : ℕ) (args : List ℕ)
        → ◌≡◌ {A = Run} (called Q make ks (option_map plain_function (option_map (prefetched_function cells) o)) to f args) (called (plain_program P) make ks (option_map plain_function o) to f args)
    called_same None to f args = refl
    called_same (Some g) to f args = refl

    calls_same : (to : Option ℕ) (f : ℕ) (args : List ℕ) → ◌≡◌ {A = Run} (R (Call to f args)) (S (Call to f args))
    calls_same to f args =
        let at : Option m.Function → Run = λ o. called Q make ks o to f args in
        let was : Option m.Function → Run = λ o. called (plain_program P) make ks o to f args in
        ap at (slice_get-map plain_function (prefetched_program cells P).functions f) ∙ (ap (λ o. at (option_map plain_function o)) (slice_get-map (prefetched_function cells) P.functions f)
        ∙ (called_same (slice_get P.functions f) to f args ∙ sym (ap was (slice_get-map plain_function P.functions f))))

    hints_same : (a : Code) → ◌≡◌ {A = Run} (R (hinted cells ds a)) (S a)
    hints_same Nothing = refl
    hints_same (Do o) = refl
    hints_same (Load to s r off disp) = load_same to s r off disp
    hints_same (Store s r off disp from) = store_same s r off disp from
    hints_same (LoadBy to s r off disp) = load_by_same to s r off disp
    hints_same (StoreBy s r off disp from) = store_by_same s r off disp from
    hints_same (Aim s r off disp) = refl
    hints_same (Leave s) = refl
    hints_same (Loose s) = refl
    hints_same (Call to f args) = calls_same to f args
    hints_same (Fail a) = refl
    hints_same (Then a b) = λ i rs t. then_do (hints_same a i rs t) (falls (hints_same b i))
    hints_same (Choose c a b) = λ i rs t. where_so (has ks c kind.Bool) (if_zero (slice_index rs c) (hints_same b i rs t) (hints_same a i rs t))
    hints_same (Loop a c b) = λ i rs t. where_so (has ks c kind.Bool) (then_do (loop (hints_same a i) c (hints_same b i) t.turns rs t) behind)
    hints_same (Block a) = λ i rs t. then_do (hints_same a i rs t) behind
    hints_same (Exit k) = refl

  abbrev was : Function → m.Function
  was g = plain_function g

  abbrev is : Function → m.Function
  is g = plain_function (prefetched_function cells g)

  result_same : (g : Function) (x : Left) (t : State) → result_of (is g) x t ≡ result_of (was g) x t
  result_same g (zero, rs) t = refl
  result_same g (suc k, rs) t = refl

  results_same : (g : Function) → ◌≡◌ {A = Left → State → Outcome ℕ} (result_of (is g)) (result_of (was g))
  results_same g = λ i x t. result_same g x t i

  both_maps : (gs : List Function) (f : ℕ) → slice_get (map plain_function (map (prefetched_function cells) gs)) f ≡ option_map plain_function (option_map (prefetched_function cells) (slice_get gs f))
  both_maps gs f = slice_get-map plain_function (map (prefetched_function cells) gs) f ∙ ap (λ o. option_map plain_function o) (slice_get-map (prefetched_function cells) gs f)

  module _ (P : Program) where
    abbrev before : m.Program
    before = plain_program P

    abbrev hints : m.Program
    hints = plain_program (prefetched_program cells P)

    entered_same : (make : ℕ → List ℕ → State → Outcome ℕ) (o : Option Function) (args : List ℕ) (t : State)
        → entered hints make (option_map plain_function (option_map (prefetched_function cells) o)) args t ≡ entered before make (option_map plain_function o) args t
    entered_same make None args t = refl
    entered_same make (Some g) args t =
        let rs = first_registers (was g) args in
        let body : Run → Outcome ℕ = λ f. then_do (f rs t) (result_of (is g)) in
        ap body (hints_same P make g.kinds _ g.body)
        ∙ ap (λ (f : Left → State → Outcome ℕ). then_do (run before make g.kinds (plain g.body) rs t) f) (results_same g)

    call_same : (d f : ℕ) (args : List ℕ) (t : State) → call hints d f args t ≡ call before d f args t
    call_same zero f args t = refl
    call_same (suc d) f args t =
        let inner : ◌≡◌ {A = ℕ → List ℕ → State → Outcome ℕ} (call hints d) (call before d) = λ i f args t. call_same d f args t i in
        turn_same t (entered hints (call hints d) (slice_get hints.functions f) args) (entered before (call before d) (slice_get before.functions f) args)
        (λ u. ap (λ c. entered hints c (slice_get hints.functions f) args u) inner
        ∙ (ap (λ o. entered hints (call before d) o args u) (both_maps P.functions f)
        ∙ (entered_same (call before d) (slice_get P.functions f) args u ∙ sym (ap (λ o. entered before (call before d) o args u) (slice_get-map plain_function P.functions f)))))

  pub keeps_meaning : (P : Program) (n : ℕ) → means (plain_program (prefetched_program cells P)) n ≡ means (plain_program P) n
  keeps_meaning P n = ap told (call_same P n 0 [] (opening n))

  -- ---- all that it names

  module _ (P : Program) (ks : List Kind) (ds : List ℕ) where
    abbrev T : m.Program
    T = plain_program (prefetched_program cells P)

    abbrev F : ℕ → Code → Bool
    F around a = code_fits T ks around (plain a)

    abbrev G : ℕ → Code → Bool
    G around a = code_fits (plain_program P) ks around (plain a)

    -- an access of this register that has its hint, or none
    hint_fits : (around x r : ℕ) (off : Option ℕ) (disp : ℕ) (a : Code) → F around a ≡ G around a
        → F around a ≡ (place_fits ks r off && on_kind (λ k. has ks x k) (cell_kind P.head ks r disp)) → F around (with_hint cells ds r off disp a) ≡ G around a
    hint_fits around x r None disp a e is = e
    hint_fits around x r (Some d) disp a e is = by_test (is_among ds d && nat_lt (disp + cells) 4294967296)
      where
        by_test : (b : Bool) → F around (cond b (hinted_for cells r d disp a) a) ≡ G around a
        by_test true =
            let fits = place_fits ks r (Some d) in
            let cell = on_kind (λ k. has ks x k) (cell_kind P.head ks r disp) in
            ap (λ y. y && (fits && true)) is ∙ (and_idle fits cell ∙ (sym is ∙ e))
        by_test false = e

    callee_same : (o : Option Function) (to : Option ℕ) (args : List ℕ)
        → callee_fits T ks (option_map plain_function (option_map (prefetched_function cells) o)) to args ≡ callee_fits (plain_program P) ks (option_map plain_function o) to args
    callee_same None to args = refl
    callee_same (Some g) to args = refl

    hints_fit : (around : ℕ) (a : Code) → F around (hinted cells ds a) ≡ G around a
    hints_fit around Nothing = refl
    hints_fit around (Do o) = refl
    hints_fit around (Load to s r off disp) = hint_fits around to r off disp (Load to s r off disp) refl refl
    hints_fit around (Store s r off disp from) = hint_fits around from r off disp (Store s r off disp from) refl refl
    hints_fit around (LoadBy to s r off disp) = hint_fits around to r off disp (LoadBy to s r off disp) refl refl
    hints_fit around (StoreBy s r off disp from) = hint_fits around from r off disp (StoreBy s r off disp from) refl refl
    hints_fit around (Aim s r off disp) = refl
    hints_fit around (Leave s) = refl
    hints_fit around (Loose s) = refl
    hints_fit around (Call to f args) =
        ap (λ o. callee_fits T ks o to args) (both_maps P.functions f)
        ∙ (callee_same (slice_get P.functions f) to args ∙ sym (ap (λ o. callee_fits (plain_program P) ks o to args) (slice_get-map plain_function P.functions f)))
    hints_fit around (Fail a) = refl
    hints_fit around (Then a b) = λ i. hints_fit around a i && hints_fit around b i
    hints_fit around (Choose c a b) = λ i. has ks c kind.Bool && (hints_fit around a i && hints_fit around b i)
    hints_fit around (Loop a c b) = λ i. has ks c kind.Bool && (hints_fit (suc around) a i && hints_fit (suc around) b i)
    hints_fit around (Block a) = hints_fit (suc around) a
    hints_fit around (Exit k) = refl

  module _ (P : Program) where
    function_fits_same : (g : Function) → function_fits (plain_program (prefetched_program cells P)) (is g) ≡ function_fits (plain_program P) (was g)
    function_fits_same g = ap (λ b. nat_lt g.parameters (suc (length g.kinds)) && (b && result_fits (was g))) (hints_fit P g.kinds _ 0 g.body)

    all_fit_same : (gs : List Function) → all_fit (plain_program (prefetched_program cells P)) (map plain_function (map (prefetched_function cells) gs)) ≡ all_fit (plain_program P) (map plain_function gs)
    all_fit_same [] = refl
    all_fit_same (g ∷ gs) = λ i. function_fits_same g i && all_fit_same gs i

  main_fits_same : (gs : List Function) → main_fits (map plain_function (map (prefetched_function cells) gs)) ≡ main_fits (map plain_function gs)
  main_fits_same [] = refl
  main_fits_same (g ∷ gs) = refl

  pub stays_well_formed : (P : Program) → is_well_formed (plain_program (prefetched_program cells P)) ≡ is_well_formed (plain_program P)
  stays_well_formed P = λ i. main_fits_same P.functions i && all_fit_same P P.functions i

  -- ---- the checks that it asks for

  module _ (ds : List ℕ) where
    hint_asks : (r : ℕ) (off : Option ℕ) (disp : ℕ) (a : Code) (w : List Fact) → asks (plain (with_hint cells ds r off disp a)) w ≡ asks (plain a) w
    hint_asks r None disp a w = refl
    hint_asks r (Some d) disp a w = by_test (is_among ds d && nat_lt (disp + cells) 4294967296)
      where
        by_test : (b : Bool) → asks (plain (cond b (hinted_for cells r d disp a) a)) w ≡ asks (plain a) w
        by_test true = refl
        by_test false = refl

    pub asks_the_same : (a : Code) (w : List Fact) → asks (plain (hinted cells ds a)) w ≡ asks (plain a) w
    asks_the_same Nothing w = refl
    asks_the_same (Do o) w = refl
    asks_the_same (Load to s r off disp) w = hint_asks r off disp (Load to s r off disp) w
    asks_the_same (Store s r off disp from) w = hint_asks r off disp (Store s r off disp from) w
    asks_the_same (LoadBy to s r off disp) w = hint_asks r off disp (LoadBy to s r off disp) w
    asks_the_same (StoreBy s r off disp from) w = hint_asks r off disp (StoreBy s r off disp from) w
    asks_the_same (Aim s r off disp) w = refl
    asks_the_same (Leave s) w = refl
    asks_the_same (Loose s) w = refl
    asks_the_same (Call to f args) w = refl
    asks_the_same (Fail a) w = refl
    asks_the_same (Then a b) w = ap (asks (plain (hinted cells ds a))) (asks_the_same b w) ∙ asks_the_same a (asks (plain b) w)
    asks_the_same (Choose c a b) w = λ i. joined (asks_the_same a w i) (asks_the_same b w i)
    asks_the_same (Loop a c b) w = refl
    asks_the_same (Block a) w = asks_the_same a []
    asks_the_same (Exit k) w = refl

    hint_guarded : (r : ℕ) (off : Option ℕ) (disp : ℕ) (a : Code) (w : List Fact) → is_guarded (plain (with_hint cells ds r off disp a)) w ≡ is_guarded (plain a) w
    hint_guarded r None disp a w = refl
    hint_guarded r (Some d) disp a w = by_test (is_among ds d && nat_lt (disp + cells) 4294967296)
      where
        by_test : (b : Bool) → is_guarded (plain (cond b (hinted_for cells r d disp a) a)) w ≡ is_guarded (plain a) w
        by_test true = and_true (is_guarded (plain a) w)
        by_test false = refl

    guarded_same : (a : Code) (w : List Fact) → is_guarded (plain (hinted cells ds a)) w ≡ is_guarded (plain a) w
    guarded_same Nothing w = refl
    guarded_same (Do o) w = refl
    guarded_same (Load to s r off disp) w = hint_guarded r off disp (Load to s r off disp) w
    guarded_same (Store s r off disp from) w = hint_guarded r off disp (Store s r off disp from) w
    guarded_same (LoadBy to s r off disp) w = hint_guarded r off disp (LoadBy to s r off disp) w
    guarded_same (StoreBy s r off disp from) w = hint_guarded r off disp (StoreBy s r off disp from) w
    guarded_same (Aim s r off disp) w = refl
    guarded_same (Leave s) w = refl
    guarded_same (Loose s) w = refl
    guarded_same (Call to f args) w = refl
    guarded_same (Fail a) w = refl
    guarded_same (Then a b) w =
        ap (λ v. is_guarded (plain (hinted cells ds a)) v && is_guarded (plain (hinted cells ds b)) w) (asks_the_same b w) ∙ (λ i. guarded_same a (asks (plain b) w) i && guarded_same b w i)
    guarded_same (Choose c a b) w = λ i. guarded_same a w i && guarded_same b w i
    guarded_same (Loop a c b) w =
        λ i. is_nothing_asked w && (is_nothing_asked (asks_the_same a [] i) && (is_nothing_asked (asks_the_same b [] i) && (guarded_same a [] i && guarded_same b [] i)))
    guarded_same (Block a) w = λ i. is_nothing_asked w && guarded_same a [] i
    guarded_same (Exit k) w = refl

    module _ (ks : List Kind) where
      hint_uses : (r : ℕ) (off : Option ℕ) (disp : ℕ) (a : Code) → uses_pointers ks (plain (with_hint cells ds r off disp a)) ≡ uses_pointers ks (plain a)
      hint_uses r None disp a = refl
      hint_uses r (Some d) disp a = by_test (is_among ds d && nat_lt (disp + cells) 4294967296)
        where
          by_test : (b : Bool) → uses_pointers ks (plain (cond b (hinted_for cells r d disp a) a)) ≡ uses_pointers ks (plain a)
          by_test true = and_true (uses_pointers ks (plain a))
          by_test false = refl

      uses_same : (a : Code) → uses_pointers ks (plain (hinted cells ds a)) ≡ uses_pointers ks (plain a)
      uses_same Nothing = refl
      uses_same (Do o) = refl
      uses_same (Load to s r off disp) = hint_uses r off disp (Load to s r off disp)
      uses_same (Store s r off disp from) = hint_uses r off disp (Store s r off disp from)
      uses_same (LoadBy to s r off disp) = hint_uses r off disp (LoadBy to s r off disp)
      uses_same (StoreBy s r off disp from) = hint_uses r off disp (StoreBy s r off disp from)
      uses_same (Aim s r off disp) = refl
      uses_same (Leave s) = refl
      uses_same (Loose s) = refl
      uses_same (Call to f args) = refl
      uses_same (Fail a) = refl
      uses_same (Then a b) = λ i. uses_same a i && uses_same b i
      uses_same (Choose c a b) = λ i. uses_same a i && uses_same b i
      uses_same (Loop a c b) = λ i. uses_same a i && uses_same b i
      uses_same (Block a) = uses_same a
      uses_same (Exit k) = refl

  function_guarded_same : (ds : List ℕ) (g : Function)
      → ((is_nothing_asked (asks (plain (hinted cells ds g.body)) []) && is_guarded (plain (hinted cells ds g.body)) []) && uses_pointers g.kinds (plain (hinted cells ds g.body))) ≡ is_guarded_function (was g)
  function_guarded_same ds g = λ i. (is_nothing_asked (asks_the_same ds g.body [] i) && guarded_same ds g.body [] i) && uses_same ds g.kinds g.body i

  all_guarded_same : (gs : List Function) → list_all is_guarded_function (map plain_function (map (prefetched_function cells) gs)) ≡ list_all is_guarded_function (map plain_function gs)
  all_guarded_same [] = refl
  all_guarded_same (g ∷ gs) = λ i. function_guarded_same (offsets_with g.body [] []) g i && all_guarded_same gs i

  pub stays_guarded : (P : Program) → is_guarded_program (plain_program (prefetched_program cells P)) ≡ is_guarded_program (plain_program P)
  stays_guarded P = all_guarded_same P.functions
