-- What comes in place of code has without its scopes the same parts.
use Rattle.std.proofs.Common.{◌≡◌, ℕ, suc, Option, Some, None, List, [], ◌∷◌, ◌++◌, refl, sym, ap, ◌∙◌, append_assoc}
use Rattle.std.specs.Prelude.{map}
use Rattle.code_form.specs.declared.form.Fact.{Fact}
use Rattle.code_form.specs.declared.form.Kind.{Kind}
use Rattle.middle_form.specs.Form as m
use Rattle.middle_form.specs.Guarded.{asks, is_guarded_program}
use Rattle.middle_form.specs.Meaning.{means}
use Rattle.middle_form.specs.Samples as sample
use Rattle.middle_form.specs.Scoped.{Code, Nothing, Do, Load, Store, LoadBy, StoreBy, Aim, Leave, Loose, Call, Fail, Then, Choose, Loop, Block, Exit, Function, Program, plain, plain_function, plain_program}
use Rattle.middle_form.specs.WellFormed.{is_well_formed}
use Rattle.scoped_building.specs.Building.{in_order}
use Rattle.guard_hoisting.specs.declared.ways.Way.{Way}
use Rattle.guard_hoisting.specs.declared.ways.Way.TheVariants.{Fixed, Own, Shared}
use Rattle.guard_hoisting.specs.Ways.{scope_in, way_at}
use Rattle.guard_hoisting.specs.Hoisted.{closings, hoisted, hoisted_function, hoisted_program, inside, lifted, lifted_or, load_as, moved, open_behind, opening, openings, store_as, ways_behind}
use Rattle.guard_hoisting.proofs.Tidy.{parts, tidy_asks, tidy_function, tidy_guarded, tidy_means, tidy_program, tidy_well_formed}

-- the parts of code in order
abbrev plains : List Code → List m.Code
plains xs = parts (plain (in_order xs))

plains_append : (xs ys : List Code) → plains (xs ++ ys) ≡ plains xs ++ plains ys
plains_append [] ys = refl
plains_append (x ∷ xs) ys = ap (λ z. parts (plain x) ++ z) (plains_append xs ys) ∙ sym (append_assoc (parts (plain x)) (plains xs) (plains ys))

load_plain : (w : Way) (to s r : ℕ) (off : Option ℕ) (disp : ℕ) → plain (load_as w to s r off disp) ≡ m.Load to r off disp
load_plain (Fixed q e) to s r off disp = refl
load_plain (Own q) to s r off disp = refl
load_plain Shared to s r off disp = refl

store_plain : (w : Way) (s r : ℕ) (off : Option ℕ) (disp from : ℕ) → plain (store_as w s r off disp from) ≡ m.Store r off disp from
store_plain (Fixed q e) s r off disp from = refl
store_plain (Own q) s r off disp from = refl
store_plain Shared s r off disp from = refl

-- ---- a loop with its scopes

moved_parts : (ws : List Way) (a : Code) → plains (moved ws a) ≡ parts (plain a)
moved_parts ws Nothing = refl
moved_parts ws (Do o) = refl
moved_parts ws (Load to s r off disp) =
    ap (λ c. parts c ++ []) (load_plain (way_at ws (scope_in ws r off disp)) to (scope_in ws r off disp) r off disp)
moved_parts ws (Store s r off disp from) =
    ap (λ c. parts c ++ []) (store_plain (way_at ws (scope_in ws r off disp)) (scope_in ws r off disp) r off disp from)
moved_parts ws (LoadBy to s r off disp) = refl
moved_parts ws (StoreBy s r off disp from) = refl
moved_parts ws (Aim s r off disp) = refl
moved_parts ws (Leave s) = refl
moved_parts ws (Loose s) = refl
moved_parts ws (Call to f args) = refl
moved_parts ws (Fail a) = refl
moved_parts ws (Then a b) =
    plains_append (moved ws a) (moved ws b) ∙ (ap (λ z. z ++ plains (moved ws b)) (moved_parts ws a) ∙ ap (λ z. parts (plain a) ++ z) (moved_parts ws b))
moved_parts ws (Choose c a b) = λ i. m.Choose c (sample.in_order (moved_parts ws a i)) (sample.in_order (moved_parts ws b i)) ∷ []
moved_parts ws (Loop a c b) = λ i. m.Loop (sample.in_order (moved_parts ws a i)) c (sample.in_order (moved_parts ws b i)) ∷ []
moved_parts ws (Block a) = λ i. m.Block (sample.in_order (moved_parts ws a i)) ∷ []
moved_parts ws (Exit k) = refl

opening_plain : (s : ℕ) (w : Way) → plain (opening s w) ≡ m.Nothing
opening_plain s (Fixed r disp) = refl
opening_plain s (Own r) = refl
opening_plain s Shared = refl

openings_parts : (s : ℕ) (ws : List Way) → plains (openings s ws) ≡ []
openings_parts s [] = refl
openings_parts s (w ∷ ws) = ap (λ c. parts c ++ plains (openings (suc s) ws)) (opening_plain s w) ∙ openings_parts (suc s) ws

closings_parts : (s : ℕ) (ws : List Way) → plains (closings s ws) ≡ []
closings_parts s [] = refl
closings_parts s (w ∷ ws) = closings_parts (suc s) ws

lifted_parts : (ws : List Way) (a : Code) (c : ℕ) (b : Code) → plains (lifted ws a c b) ≡ parts (plain (Loop a c b))
lifted_parts ws a c b =
    let turn = Loop (in_order (moved ws a)) c (in_order (moved ws b)) in
    plains_append (openings 0 ws) (turn ∷ closings 0 ws)
    ∙ (ap (λ z. z ++ plains (turn ∷ closings 0 ws)) (openings_parts 0 ws)
    ∙ (ap (λ z. parts (plain turn) ++ z) (closings_parts 0 ws) ∙ moved_parts ws (Loop a c b)))

-- ---- code

inside_parts : (o : List ℕ) (a : Code) (xs : List Code) → plains xs ≡ parts (plain a) → parts (plain (inside o a xs)) ≡ parts (plain a)
inside_parts [] a xs h = h
inside_parts (s ∷ o) a xs h = refl

lifted_or_parts : (w : Option (List Way)) (a : Code) (c : ℕ) (b : Code) (xs : List Code) → plains xs ≡ parts (plain (Loop a c b)) → plains (lifted_or w a c b xs) ≡ parts (plain (Loop a c b))
lifted_or_parts None a c b xs h = h
lifted_or_parts (Some ws) a c b xs h = lifted_parts ws a c b

pub hoisted_parts : (ks : List Kind) (a : Code) (o : List ℕ) → plains (hoisted ks a o) ≡ parts (plain a)
hoisted_parts ks Nothing o = refl
hoisted_parts ks (Do x) o = refl
hoisted_parts ks (Load to s r off disp) o = refl
hoisted_parts ks (Store s r off disp from) o = refl
hoisted_parts ks (LoadBy to s r off disp) o = refl
hoisted_parts ks (StoreBy s r off disp from) o = refl
hoisted_parts ks (Aim s r off disp) o = refl
hoisted_parts ks (Leave s) o = refl
hoisted_parts ks (Loose s) o = refl
hoisted_parts ks (Call to f args) o = refl
hoisted_parts ks (Fail a) o = refl
hoisted_parts ks (Then a b) o =
    plains_append (hoisted ks a o) (hoisted ks b (open_behind a o))
    ∙ (ap (λ z. z ++ plains (hoisted ks b (open_behind a o))) (hoisted_parts ks a o) ∙ ap (λ z. parts (plain a) ++ z) (hoisted_parts ks b (open_behind a o)))
hoisted_parts ks (Choose c a b) o =
    let x = inside_parts o a (hoisted ks a []) (hoisted_parts ks a []) in
    let y = inside_parts o b (hoisted ks b []) (hoisted_parts ks b []) in
    λ i. m.Choose c (sample.in_order (x i)) (sample.in_order (y i)) ∷ []
hoisted_parts ks (Loop a c b) o =
    let x = inside_parts o a (hoisted ks a []) (hoisted_parts ks a []) in
    let y = inside_parts o b (hoisted ks b []) (hoisted_parts ks b []) in
    lifted_or_parts (ways_behind o ks a b) a c b (Loop (inside o a (hoisted ks a [])) c (inside o b (hoisted ks b [])) ∷ [])
    (λ i. m.Loop (sample.in_order (x i)) c (sample.in_order (y i)) ∷ [])
hoisted_parts ks (Block a) o =
    let x = inside_parts o a (hoisted ks a []) (hoisted_parts ks a []) in
    λ i. m.Block (sample.in_order (x i)) ∷ []
hoisted_parts ks (Exit k) o = refl

-- ---- functions and programs

function_same : (g : Function) → tidy_function (plain_function (hoisted_function g)) ≡ tidy_function (plain_function g)
function_same g =
    let x = hoisted_parts g.kinds g.body [] in
    λ i. record { result = g.result; parameters = g.parameters; kinds = g.kinds; body = sample.in_order (x i); value = g.value }

functions_same : (gs : List Function) → map tidy_function (map plain_function (map hoisted_function gs)) ≡ map tidy_function (map plain_function gs)
functions_same [] = refl
functions_same (g ∷ gs) = λ i. function_same g i ∷ functions_same gs i

program_same : (P : Program) → tidy_program (plain_program (hoisted_program P)) ≡ tidy_program (plain_program P)
program_same P = λ i. record { head = P.head; functions = functions_same P.functions i }

pub keeps_meaning : (P : Program) (n : ℕ) → means (plain_program (hoisted_program P)) n ≡ means (plain_program P) n
keeps_meaning P n = sym (tidy_means (plain_program (hoisted_program P)) n) ∙ (ap (λ Q. means Q n) (program_same P) ∙ tidy_means (plain_program P) n)

pub stays_well_formed : (P : Program) → is_well_formed (plain_program (hoisted_program P)) ≡ is_well_formed (plain_program P)
stays_well_formed P = sym (tidy_well_formed (plain_program (hoisted_program P))) ∙ (ap is_well_formed (program_same P) ∙ tidy_well_formed (plain_program P))

pub stays_guarded : (P : Program) → is_guarded_program (plain_program (hoisted_program P)) ≡ is_guarded_program (plain_program P)
stays_guarded P = sym (tidy_guarded (plain_program (hoisted_program P))) ∙ (ap is_guarded_program (program_same P) ∙ tidy_guarded (plain_program P))

pub asks_the_same : (ks : List Kind) (a : Code) (w : List Fact) → asks (plain (in_order (hoisted ks a []))) w ≡ asks (plain a) w
asks_the_same ks a w =
    sym (tidy_asks (plain (in_order (hoisted ks a []))) w) ∙ (ap (λ xs. asks (sample.in_order xs) w) (hoisted_parts ks a []) ∙ tidy_asks (plain a) w)
