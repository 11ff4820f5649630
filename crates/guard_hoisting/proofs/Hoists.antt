-- What comes in place of code keeps the discipline where the code did, with as many scopes as its loops have.
use Rattle.std.proofs.Common.{◌≡◌, ◌≢◌, ◌⊎◌, inl, inr, ℕ, ◌<◌, ◌≤◌, max, Bool, true, false, cond, Option, Some, None, List, [], ◌∷◌, ◌++◌, refl, sym, ap, ◌∙◌, subst, arith}
use Rattle.std.specs.Prelude.{◌==◌, ◌||◌, All, nat_lt, not, slice_index_or}
use Rattle.std.specs.List.{filter}
use Rattle.std.proofs.lemmas.Bool.{ltb-false, ltb-true, ne_eqb}
use Rattle.std.proofs.lemmas.Bool.Decides.{eqb_tells}
use Rattle.std.proofs.lemmas.List.Elements.{All-map}
use Rattle.code_form.specs.declared.form.Kind.{Kind}
use Rattle.code_form.specs.Effects.{upd}
use Rattle.code_form.specs.Known.{Knows, Unknown, KnownShut, KnownAimed, forget, written_by}
use Rattle.middle_form.specs.Scoped.{Code, Nothing, Do, Load, Store, LoadBy, StoreBy, Aim, Leave, Loose, Call, Fail, Then, Choose, Loop, Block, Exit, Function, Program}
use Rattle.middle_form.specs.Discipline.{AreShut, Brings, IsDisciplined, IsScoped, IsScopedFunction, Table, after, at_entry, join, stays, touches, writes, wrote}
use Rattle.scoped_building.specs.Building.{in_order}
use Rattle.scoped_building.proofs.Orders.{after_append, append_kept}
use Rattle.guard_hoisting.specs.declared.ways.Way.{Way}
use Rattle.guard_hoisting.specs.Ways.{ways_for}
use Rattle.guard_hoisting.specs.Hoisted.{hoisted, hoisted_function, hoisted_program, lifted_or, most_served, open_behind, served_inside, served_or}
use Rattle.guard_hoisting.proofs.Tests.{or_left, or_right}
use Rattle.guard_hoisting.proofs.Lifts.{lifted_after, lifted_kept}
use Rattle.guard_hoisting.proofs.Serving.{ways_serve}

-- ---- which scopes may be open

abbrev is_open : List ℕ → ℕ → Bool
is_open [] u = false
is_open (s ∷ o) u = (u == s) || is_open o u

-- all others are known to be shut
abbrev Shut : List ℕ → Table → Type 0
Shut o k = (u : ℕ) → is_open o u ≡ false → k u ≡ KnownShut

open_more : (o : List ℕ) (s u : ℕ) → is_open (o ++ s ∷ []) u ≡ false → (is_open o u ≡ false) × ((u == s) ≡ false)
open_more [] s u h = (refl, or_left (u == s) false h)
open_more (t ∷ o) s u h =
    let x = open_more o s u (or_right (u == t) (is_open (o ++ s ∷ []) u) h) in
    (ap (λ b. b || is_open o u) (or_left (u == t) (is_open (o ++ s ∷ []) u) h) ∙ x.0, x.1)

open_less : (o : List ℕ) (s u : ℕ) → (u == s) ≡ false → is_open (filter (λ (x : ℕ). not (x == s)) o) u ≡ false → is_open o u ≡ false
open_less [] s u n h = refl
open_less (t ∷ o) s u n h = by_case (open_less o s u n) (eqb_tells t s) h
  where
    by_case : (is_open (filter (λ (x : ℕ). not (x == s)) o) u ≡ false → is_open o u ≡ false) → (((t == s) ≡ true) × (t ≡ s)) ⊎ (((t == s) ≡ false) × (t ≢ s))
        → is_open (cond (not (t == s)) (t ∷ filter (λ (x : ℕ). not (x == s)) o) (filter (λ (x : ℕ). not (x == s)) o)) u ≡ false → ((u == t) || is_open o u) ≡ false
    by_case k (inl e) h =
        let rest = filter (λ (x : ℕ). not (x == s)) o in
        let z : is_open rest u ≡ false = ap (λ b. is_open (cond (not b) (t ∷ rest) rest) u) (sym e.0) ∙ h in
        ap (λ x. (u == x) || is_open o u) e.1 ∙ (ap (λ b. b || is_open o u) n ∙ k z)
    by_case k (inr e) h =
        let rest = filter (λ (x : ℕ). not (x == s)) o in
        let z : ((u == t) || is_open rest u) ≡ false = ap (λ b. is_open (cond (not b) (t ∷ rest) rest) u) (sym e.0) ∙ h in
        ap (λ b. b || is_open o u) (or_left (u == t) (is_open rest u) z) ∙ k (or_right (u == t) (is_open rest u) z)

wrote_shut : (d : Option ℕ) (k : Table) (u : ℕ) → k u ≡ KnownShut → wrote d k u ≡ KnownShut
wrote_shut None k u h = h
wrote_shut (Some d) k u h = ap (forget d) h

other_shut : (k : Table) (s u : ℕ) (z : Knows) → (u == s) ≡ false → k u ≡ KnownShut → upd k s z u ≡ KnownShut
other_shut k s u z n h = ap (λ b. cond b z (k u)) n ∙ h

join_shut : (a : Code) (k : Table) (u : ℕ) → k u ≡ KnownShut → join a k u ≡ KnownShut
join_shut a k u h = ap (stays (touches a u) (writes a)) h

left_shut : (o : List ℕ) (s : ℕ) (k : Table) → Shut o k → Shut (filter (λ (x : ℕ). not (x == s)) o) (upd k s KnownShut)
left_shut o s k h u e = by_case (eqb_tells u s)
  where
    by_case : (((u == s) ≡ true) × (u ≡ s)) ⊎ (((u == s) ≡ false) × (u ≢ s)) → cond (u == s) KnownShut (k u) ≡ KnownShut
    by_case (inl n) = ap (λ b. cond b KnownShut (k u)) n.0
    by_case (inr n) = ap (λ b. cond b KnownShut (k u)) n.0 ∙ h u (open_less o s u n.0 e)

opened_shut : (o : List ℕ) (s : ℕ) (z : Knows) (k : Table) → Shut o k → Shut (o ++ s ∷ []) (upd k s z)
opened_shut o s z k h u e = let x = open_more o s u e in other_shut k s u z x.1 (h u x.0)

wrote_all : (d : Option ℕ) (o : List ℕ) (k : Table) → Shut o k → Shut o (wrote d k)
wrote_all d o k h u e = wrote_shut d k u (h u e)

join_all : (a : Code) (o : List ℕ) (k : Table) → Shut o k → Shut o (join a k)
join_all a o k h u e = join_shut a k u (h u e)

shut_behind : (a : Code) (o : List ℕ) (k : Table) → Shut o k → Shut (open_behind a o) (after a k)
shut_behind Nothing o k h = h
shut_behind (Do x) o k h = wrote_all (written_by x) o k h
shut_behind (Load to s r off disp) o k h = opened_shut o s Unknown (wrote (Some to) k) (wrote_all (Some to) o k h)
shut_behind (Store s r off disp from) o k h = opened_shut o s Unknown k h
shut_behind (LoadBy to s r off disp) o k h = wrote_all (Some to) o k h
shut_behind (StoreBy s r off disp from) o k h = h
shut_behind (Aim s r off disp) o k h = opened_shut o s (KnownAimed r off disp) k h
shut_behind (Leave s) o k h = left_shut o s k h
shut_behind (Loose s) o k h = opened_shut o s Unknown k h
shut_behind (Call to f args) o k h = wrote_all to o k h
shut_behind (Fail a) o k h = h
shut_behind (Then a b) o k h = shut_behind b (open_behind a o) (after a k) (shut_behind a o k h)
shut_behind (Choose c a b) o k h = join_all (Choose c a b) o k h
shut_behind (Loop a c b) o k h = join_all (Loop a c b) o k h
shut_behind (Block a) o k h = join_all (Block a) o k h
shut_behind (Exit j) o k h = h

-- where none may be open, all are shut
all_shut : (k : Table) → Shut [] k → ◌≡◌ {A = Table} at_entry k
all_shut k h = λ i u. sym (h u refl) i

-- ---- scopes above those of the function are shut

abbrev Above : ℕ → Table → Type 0
Above n k = (u : ℕ) → n ≤ u → k u ≡ KnownShut

set_above : (n : ℕ) (k : Table) (s : ℕ) (z : Knows) → s < n → Above n k → Above n (upd k s z)
set_above n k s z lt h u le = other_shut k s u z (ne_eqb u s (λ e. omega (arith, e, lt, le))) (h u le)

wrote_above : (n : ℕ) (d : Option ℕ) (k : Table) → Above n k → Above n (wrote d k)
wrote_above n d k h u le = wrote_shut d k u (h u le)

join_above : (n : ℕ) (a : Code) (k : Table) → Above n k → Above n (join a k)
join_above n a k h u le = join_shut a k u (h u le)

shut_more : (n m : ℕ) (k : Table) → AreShut n k → Above n k → AreShut m k
shut_more n m k p h s lt = by_test (nat_lt s n) refl
  where
    by_test : (b : Bool) → nat_lt s n ≡ b → k s ≡ KnownShut
    by_test true e = p s (ltb-true s n e)
    by_test false e = h s (ltb-false s n e)

module _ (ks : List Kind) (n : ℕ) where
  abbrev D : List Table → Code → Table → Type 0
  D es a k = IsDisciplined ks n es a k

  above_behind : (a : Code) (es : List Table) (k : Table) → D es a k → Above n k → Above n (after a k)
  above_behind Nothing es k p h = h
  above_behind (Do o) es k p h = wrote_above n (written_by o) k h
  above_behind (Load to s r off disp) es k p h = set_above n (wrote (Some to) k) s Unknown p (wrote_above n (Some to) k h)
  above_behind (Store s r off disp from) es k p h = set_above n k s Unknown p h
  above_behind (LoadBy to s r off disp) es k p h = wrote_above n (Some to) k h
  above_behind (StoreBy s r off disp from) es k p h = h
  above_behind (Aim s r off disp) es k p h = set_above n k s (KnownAimed r off disp) p.0 h
  above_behind (Leave s) es k p h = set_above n k s KnownShut p h
  above_behind (Loose s) es k p h = set_above n k s Unknown p h
  above_behind (Call to f args) es k p h = wrote_above n to k h
  above_behind (Fail a) es k p h = h
  above_behind (Then a b) es k p h = above_behind b es (after a k) p.1 (above_behind a es k p.0 h)
  above_behind (Choose c a b) es k p h = join_above n (Choose c a b) k h
  above_behind (Loop a c b) es k p h = join_above n (Loop a c b) k h
  above_behind (Block a) es k p h = join_above n (Block a) k h
  above_behind (Exit j) es k p h = h

  -- ---- with more scopes

  module _ (m : ℕ) (le : n ≤ m) where
    abbrev E : List Table → Code → Table → Type 0
    E es a k = IsDisciplined ks m es a k

    more_scopes : (a : Code) (es : List Table) (k : Table) → D es a k → Above n k → E es a k
    more_scopes Nothing es k p h = tt
    more_scopes (Do o) es k p h = λ y. shut_more n m k (p y) h
    more_scopes (Load to s r off disp) es k p h = omega (arith, p)
    more_scopes (Store s r off disp from) es k p h = omega (arith, p)
    more_scopes (LoadBy to s r off disp) es k p h = (omega (arith, p.0), p.1, p.2)
    more_scopes (StoreBy s r off disp from) es k p h = (omega (arith, p.0), p.1, p.2)
    more_scopes (Aim s r off disp) es k p h = (omega (arith, p.0), p.1)
    more_scopes (Leave s) es k p h = omega (arith, p)
    more_scopes (Loose s) es k p h = omega (arith, p)
    more_scopes (Call to f args) es k p h = shut_more n m k p h
    more_scopes (Fail a) es k p h = tt
    more_scopes (Then a b) es k p h = (more_scopes a es k p.0 h, more_scopes b es (after a k) p.1 (above_behind a es k p.0 h))
    more_scopes (Choose c a b) es k p h = (more_scopes a es k p.0 h, p.1, more_scopes b es k p.2 h, p.3)
    more_scopes (Loop a c b) es k p h =
        let l = join (Loop a c b) k in
        let g = join_above n (Loop a c b) k h in
        (more_scopes a (l ∷ es) l p.0 g, p.1, more_scopes b (l ∷ es) (after a l) p.2 (above_behind a (l ∷ es) l p.0 g), p.3)
    more_scopes (Block a) es k p h = (more_scopes a (join (Block a) k ∷ es) k p.0 h, p.1)
    more_scopes (Exit j) es k p h = p

    -- ---- code

    -- what comes in place of code keeps the discipline, and the same is known behind it
    abbrev Fine : List Table → Code → List Code → Table → Type 0
    Fine es a xs k = E es (in_order xs) k × ◌≡◌ {A = Table} (after (in_order xs) k) (after a k)

    -- code that stays as it is
    fine_one : (a : Code) (es : List Table) (k : Table) → D es a k → Above n k → Fine es a (a ∷ []) k
    fine_one a es k p h = ((more_scopes a es k p h, tt), refl)

    above_entry : Above n at_entry
    above_entry u le = refl

    fine_choose : (c : ℕ) (a b : Code) (xs ys : List Code) (es : List Table) → D es (Choose c a b) at_entry → Fine es a xs at_entry → Fine es b ys at_entry
        → Fine es (Choose c a b) (Choose c (in_order xs) (in_order ys) ∷ []) at_entry
    fine_choose c a b xs ys es p x y =
        (((x.0, subst (λ (k : Table). Brings k at_entry) (sym x.1) p.1, y.0, subst (λ (k : Table). Brings k at_entry) (sym y.1) p.3), tt), refl)

    fine_block : (a : Code) (xs : List Code) (es : List Table) → D es (Block a) at_entry → Fine (at_entry ∷ es) a xs at_entry → Fine es (Block a) (Block (in_order xs) ∷ []) at_entry
    fine_block a xs es p x = (((x.0, subst (λ (k : Table). Brings k at_entry) (sym x.1) p.1), tt), refl)

    -- the body of a loop begins with all scopes shut, as the loop does
    shut_between : (a : Code) → Brings (after a at_entry) at_entry → ◌≡◌ {A = Table} at_entry (after a at_entry)
    shut_between a p = λ i u. sym (p u) i

    fine_loop : (c : ℕ) (a b : Code) (xs ys : List Code) (es : List Table) → D es (Loop a c b) at_entry → Fine (at_entry ∷ es) a xs at_entry → Fine (at_entry ∷ es) b ys at_entry
        → Fine es (Loop a c b) (Loop (in_order xs) c (in_order ys) ∷ []) at_entry
    fine_loop c a b xs ys es p x y =
        let gs : List Table = at_entry ∷ es in
        let t : ◌≡◌ {A = Table} at_entry (after (in_order xs) at_entry) = shut_between a p.1 ∙ sym x.1 in
        let u : Brings (after b at_entry) at_entry = subst (λ (k : Table). Brings (after b k) at_entry) (sym (shut_between a p.1)) p.3 in
        let v : Brings (after (in_order ys) at_entry) at_entry = subst (λ (k : Table). Brings k at_entry) (sym y.1) u in
        (((x.0, subst (λ (k : Table). Brings k at_entry) (sym x.1) p.1, subst (E gs (in_order ys)) t y.0, subst (λ (k : Table). Brings (after (in_order ys) k) at_entry) t v), tt), refl)

    pub fine : (a : Code) (o : List ℕ) (es : List Table) (k : Table) → D es a k → Above n k → Shut o k → most_served ks a o ≤ m → Fine es a (hoisted ks a o) k
    fine Nothing o es k p h s l = (tt, refl)
    fine (Do x) o es k p h s l = fine_one (Do x) es k p h
    fine (Load to z r off disp) o es k p h s l = fine_one (Load to z r off disp) es k p h
    fine (Store z r off disp from) o es k p h s l = fine_one (Store z r off disp from) es k p h
    fine (LoadBy to z r off disp) o es k p h s l = fine_one (LoadBy to z r off disp) es k p h
    fine (StoreBy z r off disp from) o es k p h s l = fine_one (StoreBy z r off disp from) es k p h
    fine (Aim z r off disp) o es k p h s l = fine_one (Aim z r off disp) es k p h
    fine (Leave z) o es k p h s l = fine_one (Leave z) es k p h
    fine (Loose z) o es k p h s l = fine_one (Loose z) es k p h
    fine (Call to f args) o es k p h s l = fine_one (Call to f args) es k p h
    fine (Fail a) o es k p h s l = fine_one (Fail a) es k p h
    fine (Then a b) o es k p h s l =
        let la : most_served ks a o ≤ m = omega (arith, l) in
        let lb : most_served ks b (open_behind a o) ≤ m = omega (arith, l) in
        let x = fine a o es k p.0 h s la in
        let y = fine b (open_behind a o) es (after a k) p.1 (above_behind a es k p.0 h) (shut_behind a o k s) lb in
        let xs = hoisted ks a o in
        let ys = hoisted ks b (open_behind a o) in
        (append_kept ks m es xs ys k x.0 (subst (E es (in_order ys)) (sym x.1) y.0), after_append xs ys k ∙ (ap (after (in_order ys)) x.1 ∙ y.1))
    fine (Choose c a b) (z ∷ o) es k p h s l = fine_one (Choose c a b) es k p h
    fine (Choose c a b) [] es k p h s l =
        let la : most_served ks a [] ≤ m = omega (arith, l) in
        let lb : most_served ks b [] ≤ m = omega (arith, l) in
        let shut = all_shut k s in
        let q : D es (Choose c a b) at_entry = subst (D es (Choose c a b)) (sym shut) p in
        subst (Fine es (Choose c a b) (hoisted ks (Choose c a b) [])) shut
        (fine_choose c a b (hoisted ks a []) (hoisted ks b []) es q (fine a [] es at_entry q.0 above_entry (λ u e. refl) la) (fine b [] es at_entry q.2 above_entry (λ u e. refl) lb))
    fine (Loop a c b) (z ∷ o) es k p h s l = fine_one (Loop a c b) es k p h
    fine (Loop a c b) [] es k p h s l =
        let shut = all_shut k s in
        let q : D es (Loop a c b) at_entry = subst (D es (Loop a c b)) (sym shut) p in
        let gs : List Table = at_entry ∷ es in
        let qb : D gs b at_entry = subst (D gs b) (sym (shut_between a q.1)) q.2 in
        let ha = λ (v : most_served ks a [] ≤ m). fine a [] gs at_entry q.0 above_entry (λ u e. refl) v in
        let hb = λ (v : most_served ks b [] ≤ m). fine b [] gs at_entry qb above_entry (λ u e. refl) v in
        subst (Fine es (Loop a c b) (hoisted ks (Loop a c b) [])) shut (by_ways q ha hb (ways_for ks a b) refl l)
      where
        gs : List Table
        gs = at_entry ∷ es

        by_ways : D es (Loop a c b) at_entry → (most_served ks a [] ≤ m → Fine gs a (hoisted ks a []) at_entry) → (most_served ks b [] ≤ m → Fine gs b (hoisted ks b []) at_entry)
            → (o : Option (List Way)) → ways_for ks a b ≡ o → served_or o (max (most_served ks a []) (most_served ks b [])) ≤ m
            → Fine es (Loop a c b) (lifted_or o a c b (Loop (in_order (hoisted ks a [])) c (in_order (hoisted ks b [])) ∷ [])) at_entry
        by_ways q ha hb None e v =
            fine_loop c a b (hoisted ks a []) (hoisted ks b []) es q (ha (omega (arith, v))) (hb (omega (arith, v)))
        by_ways q ha hb (Some ws) e v =
            let w = ways_serve ks a b ws e in (
              lifted_kept ws a c b w.quiet_test w.quiet_body w.test_served w.body_served w.calm ks m v w.fit w.test_left w.body_left es,
              lifted_after ws a c b w.quiet_test w.quiet_body w.test_served w.body_served w.calm,
            )
    fine (Block a) (z ∷ o) es k p h s l = fine_one (Block a) es k p h
    fine (Block a) [] es k p h s l =
        let shut = all_shut k s in
        let q : D es (Block a) at_entry = subst (D es (Block a)) (sym shut) p in
        subst (Fine es (Block a) (hoisted ks (Block a) [])) shut
        (fine_block a (hoisted ks a []) es q (fine a [] (at_entry ∷ es) at_entry q.0 above_entry (λ u e. refl) l))
    fine (Exit j) o es k p h s l = fine_one (Exit j) es k p h

-- ---- at most four scopes

few_served : (ks : List Kind) (a b : Code) (o : Option (List Way)) (x : ℕ) → ways_for ks a b ≡ o → x ≤ 4 → served_or o x ≤ 4
few_served ks a b None x e l = l
few_served ks a b (Some ws) x e l = (ways_serve ks a b ws e).few

few_inside : (o : List ℕ) (x : ℕ) → x ≤ 4 → served_inside o x ≤ 4
few_inside [] x l = l
few_inside (s ∷ o) x l = omega arith

pub few_in : (ks : List Kind) (a : Code) (o : List ℕ) → most_served ks a o ≤ 4
few_in ks Nothing o = omega arith
few_in ks (Do x) o = omega arith
few_in ks (Load to z r off disp) o = omega arith
few_in ks (Store z r off disp from) o = omega arith
few_in ks (LoadBy to z r off disp) o = omega arith
few_in ks (StoreBy z r off disp from) o = omega arith
few_in ks (Aim z r off disp) o = omega arith
few_in ks (Leave z) o = omega arith
few_in ks (Loose z) o = omega arith
few_in ks (Call to f args) o = omega arith
few_in ks (Fail a) o = omega arith
few_in ks (Then a b) o = let x = few_in ks a o in let y = few_in ks b (open_behind a o) in omega (arith, x, y)
few_in ks (Choose c a b) o =
    let x = few_inside o (most_served ks a []) (few_in ks a []) in
    let y = few_inside o (most_served ks b []) (few_in ks b []) in
    omega (arith, x, y)
few_in ks (Loop a c b) [] =
    let x = few_in ks a [] in
    let y = few_in ks b [] in
    few_served ks a b (ways_for ks a b) (max (most_served ks a []) (most_served ks b [])) refl (omega (arith, x, y))
few_in ks (Loop a c b) (s ∷ o) = omega arith
few_in ks (Block a) o = few_inside o (most_served ks a []) (few_in ks a [])
few_in ks (Exit j) o = omega arith

-- ---- functions and programs

pub function_few : (g : Function) → g.scopes ≤ 4 → max g.scopes (most_served g.kinds g.body []) ≤ 4
function_few g l = let x = few_in g.kinds g.body [] in omega (arith, l, x)

function_scoped : (g : Function) → IsScopedFunction g → IsScopedFunction (hoisted_function g)
function_scoped g p =
    let n = g.scopes in
    let m : ℕ = max g.scopes (most_served g.kinds g.body []) in
    let above : Above n at_entry = λ u le. refl in
    let f = fine g.kinds n m (omega arith) g.body [] [] at_entry p.body above (λ u e. refl) (omega arith) in
    let shut : AreShut m (after g.body at_entry) = shut_more n m (after g.body at_entry) p.shut (above_behind g.kinds n g.body [] at_entry p.body above) in
    record {
      few = function_few g p.few;
      body = f.0;
      shut = subst (AreShut m) (sym f.1) shut;
    }

pub stays_scoped : (P : Program) → IsScoped P → IsScoped (hoisted_program P)
stays_scoped P p = All-map IsScopedFunction hoisted_function P.functions (λ k d lt. function_scoped (slice_index_or P.functions k d) (p k d lt))

pub has_few_scopes : (P : Program) → All (λ (g : Function). g.scopes ≤ 4) P.functions → All (λ (g : Function). g.scopes ≤ 4) (hoisted_program P).functions
has_few_scopes P p = All-map (λ (g : Function). g.scopes ≤ 4) hoisted_function P.functions (λ k d lt. function_few (slice_index_or P.functions k d) (p k d lt))
