-- In a loop with its scopes the same is known of each of them wherever code begins.
use Rattle.std.proofs.Common.{◌≡◌, ◌≢◌, ◌⊎◌, inl, inr, ℕ, zero, suc, ◌<◌, ◌≤◌, Bool, true, false, cond, Option, Some, None, List, [], ◌∷◌, ◌++◌, length, refl, sym, ap, ◌∙◌, subst, arith}
use Rattle.std.specs.Prelude.{◌==◌, ◌||◌, slice_get}
use Rattle.std.proofs.lemmas.Bool.{eqb-true}
use Rattle.std.proofs.lemmas.Bool.Decides.{eqb_tells}
use Rattle.code_form.specs.declared.form.Kind.{Kind}
use Rattle.code_form.specs.Form.{Simple}
use Rattle.code_form.specs.Code.{is_register, needs_shut, place_fits}
use Rattle.code_form.specs.Effects.{upd}
use Rattle.code_form.specs.Known.{Knows, Unknown, KnownShut, KnownAimed, forget, written_by}
use Rattle.middle_form.specs.Scoped.{Code, Nothing, Do, Load, Store, LoadBy, StoreBy, Aim, Leave, Loose, Call, Fail, Then, Choose, Loop, Block, Exit}
use Rattle.middle_form.specs.Discipline.{Brings, IsDisciplined, IsKnownAs, Table, after, is_lost, join, stays, touches, writes, wrote}
use Rattle.scoped_building.specs.Building.{in_order}
use Rattle.scoped_building.proofs.Orders.{after_append, append_kept}
use Rattle.scoped_building.proofs.Tests.{or_false}
use Rattle.guard_hoisting.specs.declared.ways.Way.{Way}
use Rattle.guard_hoisting.specs.declared.ways.Way.TheVariants.{Fixed, Own, Shared}
use Rattle.guard_hoisting.specs.Ways.{is_quiet, most_left, scope_in, serves, way_at}
use Rattle.guard_hoisting.specs.Hoisted.{load_as, moved, store_as}
use Rattle.guard_hoisting.proofs.Tests.{and_left, and_right, flip, not_both, or_both, or_left, or_right}

-- what is known of a scope that serves in this way
abbrev pub held : Way → Knows
held (Fixed r disp) = KnownAimed r None disp
held (Own r) = Unknown
held Shared = Unknown

-- ... and of all scopes of the loop
abbrev pub holding : List Way → Table
holding [] u = KnownShut
holding (w ∷ ws) zero = held w
holding (w ∷ ws) (suc u) = holding ws u

-- registers that are written are not those of pointers that are aimed before the loop
abbrev pub CalmWay : (ℕ → Bool) → Way → Type 0
CalmWay f (Fixed r disp) = f r ≡ false
CalmWay f (Own r) = Unit {0}
CalmWay f Shared = Unit {0}

-- what holds of each way
abbrev pub EachWay : (Way → Type 0) → List Way → Type 0
EachWay S [] = Unit {0}
EachWay S (w ∷ ws) = S w × EachWay S ws

abbrev pub Calm : (ℕ → Bool) → List Way → Type 0
Calm f ws = EachWay (CalmWay f) ws

-- these refer to something
abbrev pub FitsWay : List Kind → Way → Type 0
FitsWay ks (Fixed r disp) = place_fits ks r None ≡ true
FitsWay ks (Own r) = Unit {0}
FitsWay ks Shared = Unit {0}

abbrev pub Fits : List Kind → List Way → Type 0
Fits ks ws = EachWay (FitsWay ks) ws

-- what holds of each cell that code loads or stores
abbrev pub AllReach : (ℕ → Option ℕ → ℕ → Type 0) → Code → Type 0
AllReach Q (Load to s r off disp) = Q r off disp
AllReach Q (Store s r off disp from) = Q r off disp
AllReach Q (Then a b) = AllReach Q a × AllReach Q b
AllReach Q (Choose c a b) = AllReach Q a × AllReach Q b
AllReach Q (Loop a c b) = AllReach Q a × AllReach Q b
AllReach Q (Block a) = AllReach Q a
AllReach Q _ = Unit {0}

-- a scope serves the cell
abbrev pub IsServed : List Way → ℕ → Option ℕ → ℕ → Type 0
IsServed ws r off disp = scope_in ws r off disp < length ws

calm_way : (f g : ℕ → Bool) → ((r : ℕ) → f r ≡ false → g r ≡ false) → (w : Way) → CalmWay f w → CalmWay g w
calm_way f g h (Fixed r disp) c = h r c
calm_way f g h (Own r) c = tt
calm_way f g h Shared c = tt

pub each_less : (S R : Way → Type 0) → ((w : Way) → S w → R w) → (ws : List Way) → EachWay S ws → EachWay R ws
each_less S R f [] h = tt
each_less S R f (w ∷ ws) h = (f w h.0, each_less S R f ws h.1)

pub calm_less : (f g : ℕ → Bool) → ((r : ℕ) → f r ≡ false → g r ≡ false) → (ws : List Way) → Calm f ws → Calm g ws
calm_less f g h ws c = each_less (CalmWay f) (CalmWay g) (calm_way f g h) ws c

-- ---- a write leaves it

way_forgets : (d : ℕ) (w : Way) → CalmWay (λ r. r == d) w → forget d (held w) ≡ held w
way_forgets d (Fixed r disp) h = ap (λ b. cond (b || false) Unknown (KnownAimed r None disp)) (flip r d h)
way_forgets d (Own r) h = refl
way_forgets d Shared h = refl

forgets : (d : ℕ) (ws : List Way) → Calm (λ r. r == d) ws → (u : ℕ) → forget d (holding ws u) ≡ holding ws u
forgets d [] h u = refl
forgets d (w ∷ ws) h zero = way_forgets d w h.0
forgets d (w ∷ ws) h (suc u) = forgets d ws h.1 u

pub hold_wrote : (d : Option ℕ) (ws : List Way) → Calm (λ r. is_register r d) ws → ◌≡◌ {A = Table} (wrote d (holding ws)) (holding ws)
hold_wrote None ws h = refl
hold_wrote (Some d) ws h = λ i u. forgets d ws h u i

-- so does an aim of a scope of which nothing is known
hold_aimed : (ws : List Way) (s : ℕ) → holding ws s ≡ Unknown → ◌≡◌ {A = Table} (upd (holding ws) s Unknown) (holding ws)
hold_aimed ws s h = λ i u. at u i
  where
    at : (u : ℕ) → cond (u == s) Unknown (holding ws u) ≡ holding ws u
    at u = by_case (eqb_tells u s)
      where
        by_case : (((u == s) ≡ true) × (u ≡ s)) ⊎ (((u == s) ≡ false) × (u ≢ s)) → cond (u == s) Unknown (holding ws u) ≡ holding ws u
        by_case (inl e) = ap (λ b. cond b Unknown (holding ws u)) e.0 ∙ (sym h ∙ ap (holding ws) (sym e.1))
        by_case (inr e) = ap (λ b. cond b Unknown (holding ws u)) e.0

-- ---- joins

abbrev is_aimed : Knows → Bool
is_aimed (KnownAimed r off disp) = true
is_aimed _ = false

abbrev lost_in : (ℕ → Bool) → Knows → Bool
lost_in f (KnownAimed r off disp) = is_lost f r off
lost_in f _ = false

-- code touches no scope that is aimed before the loop
abbrev Untouched : (ℕ → Bool) → List Way → Type 0
Untouched t ws = (u : ℕ) → is_aimed (holding ws u) ≡ true → t u ≡ false

stay : (k : Knows) (t : Bool) (f : ℕ → Bool) → (is_aimed k ≡ true → t ≡ false) → lost_in f k ≡ false → stays t f k ≡ k
stay Unknown t f h l = refl
stay KnownShut t f h l = refl
stay (KnownAimed r off disp) t f h l = ap (λ b. cond b Unknown (KnownAimed r off disp)) (or_both t (is_lost f r off) (h refl) l)

way_kept : (f : ℕ → Bool) (w : Way) → CalmWay f w → lost_in f (held w) ≡ false
way_kept f (Fixed r disp) h = h
way_kept f (Own r) h = refl
way_kept f Shared h = refl

all_kept : (f : ℕ → Bool) (ws : List Way) → Calm f ws → (u : ℕ) → lost_in f (holding ws u) ≡ false
all_kept f [] h u = refl
all_kept f (w ∷ ws) h zero = way_kept f w h.0
all_kept f (w ∷ ws) h (suc u) = all_kept f ws h.1 u

hold_joined : (ws : List Way) (a : Code) → Untouched (touches a) ws → Calm (writes a) ws → ◌≡◌ {A = Table} (join a (holding ws)) (holding ws)
hold_joined ws a t c = λ i u. stay (holding ws u) (touches a u) (writes a) (t u) (all_kept (writes a) ws c u) i

-- ---- loads and stores

served_way : (ws : List Way) (r : ℕ) (off : Option ℕ) (disp : ℕ) → IsServed ws r off disp
    → (serves (way_at ws (scope_in ws r off disp)) r off disp ≡ true) × (holding ws (scope_in ws r off disp) ≡ held (way_at ws (scope_in ws r off disp)))
served_way [] r off disp lt = absurd (let z : ⊥ = omega arith in z)
served_way (w ∷ ws) r off disp lt = by_test (λ l. served_way ws r off disp l) (serves w r off disp) refl lt
  where
    by_test : (IsServed ws r off disp → (serves (way_at ws (scope_in ws r off disp)) r off disp ≡ true) × (holding ws (scope_in ws r off disp) ≡ held (way_at ws (scope_in ws r off disp))))
        → (b : Bool) → serves w r off disp ≡ b → cond b 0 (suc (scope_in ws r off disp)) < suc (length ws)
        → (serves (way_at (w ∷ ws) (cond b 0 (suc (scope_in ws r off disp)))) r off disp ≡ true)
        × (holding (w ∷ ws) (cond b 0 (suc (scope_in ws r off disp))) ≡ held (way_at (w ∷ ws) (cond b 0 (suc (scope_in ws r off disp)))))
    by_test h true e l = (e, refl)
    by_test h false e l = h (omega arith)

fits_at : (ks : List Kind) (ws : List Way) → Fits ks ws → (s : ℕ) → FitsWay ks (way_at ws s)
fits_at ks [] h s = tt
fits_at ks (w ∷ ws) h zero = h.0
fits_at ks (w ∷ ws) h (suc s) = fits_at ks ws h.1 s

-- the cell of a pointer that is aimed before the loop
cell_is : (q e r : ℕ) (off : Option ℕ) (disp : ℕ) → serves (Fixed q e) r off disp ≡ true → (off ≡ None) × (r ≡ q) × (disp ≡ e)
cell_is q e r None disp h = (refl, eqb-true r q (and_left (r == q) (disp == e) h), eqb-true disp e (and_right (r == q) (disp == e) h))
cell_is q e r (Some d) disp h = absurd (cc h)

load_steady : (w : Way) (ws : List Way) (to s r : ℕ) (off : Option ℕ) (disp : ℕ) → holding ws s ≡ held w → Calm (λ q. q == to) ws
    → ◌≡◌ {A = Table} (after (load_as w to s r off disp) (holding ws)) (holding ws)
load_steady (Fixed q e) ws to s r off disp h c = hold_wrote (Some to) ws c
load_steady (Own q) ws to s r off disp h c = ap (λ (k : Table). upd k s Unknown) (hold_wrote (Some to) ws c) ∙ hold_aimed ws s h
load_steady Shared ws to s r off disp h c = ap (λ (k : Table). upd k s Unknown) (hold_wrote (Some to) ws c) ∙ hold_aimed ws s h

store_steady : (w : Way) (ws : List Way) (s r : ℕ) (off : Option ℕ) (disp from : ℕ) → holding ws s ≡ held w
    → ◌≡◌ {A = Table} (after (store_as w s r off disp from) (holding ws)) (holding ws)
store_steady (Fixed q e) ws s r off disp from h = refl
store_steady (Own q) ws s r off disp from h = hold_aimed ws s h
store_steady Shared ws s r off disp from h = hold_aimed ws s h

-- ---- what moved code touches and writes

touch_append : (xs ys : List Code) (u : ℕ) → touches (in_order xs) u ≡ false → touches (in_order ys) u ≡ false → touches (in_order (xs ++ ys)) u ≡ false
touch_append [] ys u h k = k
touch_append (x ∷ xs) ys u h k = or_both (touches x u) (touches (in_order (xs ++ ys)) u) (or_left _ _ h) (touch_append xs ys u (or_right (touches x u) _ h) k)

write_append : (xs ys : List Code) (r : ℕ) → writes (in_order xs) r ≡ false → writes (in_order ys) r ≡ false → writes (in_order (xs ++ ys)) r ≡ false
write_append [] ys r h k = k
write_append (x ∷ xs) ys r h k = or_both (writes x r) (writes (in_order (xs ++ ys)) r) (or_left _ _ h) (write_append xs ys r (or_right (writes x r) _ h) k)

-- a scope of which nothing is known is none that is aimed before the loop
other_scope : (ws : List Way) (s u : ℕ) → holding ws s ≡ Unknown → is_aimed (holding ws u) ≡ true → ((u == s) || false) ≡ false
other_scope ws s u h a = by_case (eqb_tells u s)
  where
    by_case : (((u == s) ≡ true) × (u ≡ s)) ⊎ (((u == s) ≡ false) × (u ≢ s)) → ((u == s) || false) ≡ false
    by_case (inl e) = let z : true ≡ false = sym a ∙ ap is_aimed (ap (holding ws) e.1 ∙ h) in absurd (cc z)
    by_case (inr e) = or_false (u == s) ∙ e.0

touch_load : (w : Way) (ws : List Way) (to s r : ℕ) (off : Option ℕ) (disp u : ℕ) → holding ws s ≡ held w → is_aimed (holding ws u) ≡ true → touches (in_order (load_as w to s r off disp ∷ [])) u ≡ false
touch_load (Fixed q e) ws to s r off disp u h a = refl
touch_load (Own q) ws to s r off disp u h a = other_scope ws s u h a
touch_load Shared ws to s r off disp u h a = other_scope ws s u h a

touch_store : (w : Way) (ws : List Way) (s r : ℕ) (off : Option ℕ) (disp from u : ℕ) → holding ws s ≡ held w → is_aimed (holding ws u) ≡ true → touches (in_order (store_as w s r off disp from ∷ [])) u ≡ false
touch_store (Fixed q e) ws s r off disp from u h a = refl
touch_store (Own q) ws s r off disp from u h a = other_scope ws s u h a
touch_store Shared ws s r off disp from u h a = other_scope ws s u h a

write_load : (w : Way) (to s r : ℕ) (off : Option ℕ) (disp q : ℕ) → (q == to) ≡ false → writes (in_order (load_as w to s r off disp ∷ [])) q ≡ false
write_load (Fixed p e) to s r off disp q h = or_false (q == to) ∙ h
write_load (Own p) to s r off disp q h = or_false (q == to) ∙ h
write_load Shared to s r off disp q h = or_false (q == to) ∙ h

write_store : (w : Way) (s r : ℕ) (off : Option ℕ) (disp from q : ℕ) → writes (in_order (store_as w s r off disp from ∷ [])) q ≡ false
write_store (Fixed p e) s r off disp from q = refl
write_store (Own p) s r off disp from q = refl
write_store Shared s r off disp from q = refl

write_moved : (ws : List Way) (a : Code) (r : ℕ) → writes a r ≡ false → writes (in_order (moved ws a)) r ≡ false
write_moved ws Nothing r h = refl
write_moved ws (Do o) r h = or_both (writes (Do o) r) false h refl
write_moved ws (Load to s q off disp) r h = write_load (way_at ws (scope_in ws q off disp)) to (scope_in ws q off disp) q off disp r h
write_moved ws (Store s q off disp from) r h = write_store (way_at ws (scope_in ws q off disp)) (scope_in ws q off disp) q off disp from r
write_moved ws (LoadBy to s q off disp) r h = or_both (r == to) false h refl
write_moved ws (StoreBy s q off disp from) r h = refl
write_moved ws (Aim s q off disp) r h = refl
write_moved ws (Leave s) r h = refl
write_moved ws (Loose s) r h = refl
write_moved ws (Call to f args) r h = or_both (is_register r to) false h refl
write_moved ws (Fail a) r h = refl
write_moved ws (Then a b) r h = write_append (moved ws a) (moved ws b) r (write_moved ws a r (or_left _ _ h)) (write_moved ws b r (or_right (writes a r) _ h))
write_moved ws (Choose c a b) r h =
    or_both (writes (in_order (moved ws a)) r || writes (in_order (moved ws b)) r) false
    (or_both (writes (in_order (moved ws a)) r) (writes (in_order (moved ws b)) r) (write_moved ws a r (or_left _ _ h)) (write_moved ws b r (or_right (writes a r) _ h))) refl
write_moved ws (Loop a c b) r h =
    or_both (writes (in_order (moved ws a)) r || writes (in_order (moved ws b)) r) false
    (or_both (writes (in_order (moved ws a)) r) (writes (in_order (moved ws b)) r) (write_moved ws a r (or_left _ _ h)) (write_moved ws b r (or_right (writes a r) _ h))) refl
write_moved ws (Block a) r h = or_both (writes (in_order (moved ws a)) r) false (write_moved ws a r h) refl
write_moved ws (Exit k) r h = refl

touch_moved : (ws : List Way) (a : Code) → is_quiet a ≡ true → AllReach (IsServed ws) a → Untouched (touches (in_order (moved ws a))) ws
touch_moved ws Nothing q v u h = refl
touch_moved ws (Do o) q v u h = refl
touch_moved ws (Load to s r off disp) q v u h = touch_load (way_at ws (scope_in ws r off disp)) ws to (scope_in ws r off disp) r off disp u (served_way ws r off disp v).1 h
touch_moved ws (Store s r off disp from) q v u h = touch_store (way_at ws (scope_in ws r off disp)) ws (scope_in ws r off disp) r off disp from u (served_way ws r off disp v).1 h
touch_moved ws (LoadBy to s r off disp) q v u h = refl
touch_moved ws (StoreBy s r off disp from) q v u h = refl
touch_moved ws (Aim s r off disp) q v u h = absurd (cc q)
touch_moved ws (Leave s) q v u h = refl
touch_moved ws (Loose s) q v u h = absurd (cc q)
touch_moved ws (Call to f args) q v u h = refl
touch_moved ws (Fail a) q v u h = refl
touch_moved ws (Then a b) q v u h =
    touch_append (moved ws a) (moved ws b) u (touch_moved ws a (and_left _ _ q) v.0 u h) (touch_moved ws b (and_right (is_quiet a) _ q) v.1 u h)
touch_moved ws (Choose c a b) q v u h =
    or_both (touches (in_order (moved ws a)) u || touches (in_order (moved ws b)) u) false
    (or_both (touches (in_order (moved ws a)) u) (touches (in_order (moved ws b)) u) (touch_moved ws a (and_left _ _ q) v.0 u h) (touch_moved ws b (and_right (is_quiet a) _ q) v.1 u h)) refl
touch_moved ws (Loop a c b) q v u h =
    or_both (touches (in_order (moved ws a)) u || touches (in_order (moved ws b)) u) false
    (or_both (touches (in_order (moved ws a)) u) (touches (in_order (moved ws b)) u) (touch_moved ws a (and_left _ _ q) v.0 u h) (touch_moved ws b (and_right (is_quiet a) _ q) v.1 u h)) refl
touch_moved ws (Block a) q v u h = or_both (touches (in_order (moved ws a)) u) false (touch_moved ws a q v u h) refl
touch_moved ws (Exit k) q v u h = refl

-- code that is one part joins where it is known so
part_joined : (ws : List Way) (x : Code) → Untouched (touches (in_order (x ∷ []))) ws → Calm (writes (in_order (x ∷ []))) ws → ◌≡◌ {A = Table} (join x (holding ws)) (holding ws)
part_joined ws x t c = hold_joined ws x (λ u h. or_left (touches x u) false (t u h)) (calm_less (writes (in_order (x ∷ []))) (writes x) (λ r h. or_left (writes x r) false h) ws c)

-- ---- what is known behind moved code

calm_moved : (ws : List Way) (a : Code) → Calm (writes a) ws → Calm (writes (in_order (moved ws a))) ws
calm_moved ws a c = calm_less (writes a) (writes (in_order (moved ws a))) (λ r h. write_moved ws a r h) ws c

pub steady : (ws : List Way) (a : Code) → is_quiet a ≡ true → AllReach (IsServed ws) a → Calm (writes a) ws → ◌≡◌ {A = Table} (after (in_order (moved ws a)) (holding ws)) (holding ws)
steady ws Nothing q v c = refl
steady ws (Do o) q v c = hold_wrote (written_by o) ws c
steady ws (Load to s r off disp) q v c = load_steady (way_at ws (scope_in ws r off disp)) ws to (scope_in ws r off disp) r off disp (served_way ws r off disp v).1 c
steady ws (Store s r off disp from) q v c = store_steady (way_at ws (scope_in ws r off disp)) ws (scope_in ws r off disp) r off disp from (served_way ws r off disp v).1
steady ws (LoadBy to s r off disp) q v c = absurd (cc q)
steady ws (StoreBy s r off disp from) q v c = absurd (cc q)
steady ws (Aim s r off disp) q v c = absurd (cc q)
steady ws (Leave s) q v c = refl
steady ws (Loose s) q v c = absurd (cc q)
steady ws (Call to f args) q v c = absurd (cc q)
steady ws (Fail a) q v c = refl
steady ws (Then a b) q v c =
    after_append (moved ws a) (moved ws b) (holding ws)
    ∙ (ap (after (in_order (moved ws b))) (steady ws a (and_left _ _ q) v.0 (calm_less (writes (Then a b)) (writes a) (λ r h. or_left (writes a r) (writes b r) h) ws c))
    ∙ steady ws b (and_right (is_quiet a) _ q) v.1 (calm_less (writes (Then a b)) (writes b) (λ r h. or_right (writes a r) (writes b r) h) ws c))
steady ws (Choose r a b) q v c =
    part_joined ws (Choose r (in_order (moved ws a)) (in_order (moved ws b))) (touch_moved ws (Choose r a b) q v) (calm_moved ws (Choose r a b) c)
steady ws (Loop a r b) q v c =
    part_joined ws (Loop (in_order (moved ws a)) r (in_order (moved ws b))) (touch_moved ws (Loop a r b) q v) (calm_moved ws (Loop a r b) c)
steady ws (Block a) q v c = part_joined ws (Block (in_order (moved ws a))) (touch_moved ws (Block a) q v) (calm_moved ws (Block a) c)
steady ws (Exit k) q v c = refl

-- ---- the discipline

known_self : (z : Knows) → IsKnownAs z z
known_self Unknown = tt
known_self KnownShut = refl
known_self (KnownAimed r off disp) = refl

pub brings_self : (k : Table) → Brings k k
brings_self k s = known_self (k s)

pub brings_same : (k l : Table) → ◌≡◌ {A = Table} k l → Brings k l
brings_same k l e = subst (Brings k) e (brings_self k)

-- so much is asked at the first ways out
abbrev pub Ahead : ℕ → List Table → Table → Type 0
Ahead d fs k = (j : ℕ) (e : Table) → j < d → slice_get fs j ≡ Some e → ◌≡◌ {A = Table} k e

pub ahead_more : (d : ℕ) (fs : List Table) (k : Table) → Ahead d fs k → Ahead (suc d) (k ∷ fs) k
ahead_more d fs k h zero e l q = cc q
ahead_more d fs k h (suc j) e l q = h j e (omega arith) q

module _ (ks : List Kind) (n : ℕ) where
  abbrev D : List Table → Code → Table → Type 0
  D fs a k = IsDisciplined ks n fs a k

  load_kept : (w : Way) (ws : List Way) (fs : List Table) (to s r : ℕ) (off : Option ℕ) (disp : ℕ) → serves w r off disp ≡ true → holding ws s ≡ held w → FitsWay ks w → s < n
      → D fs (load_as w to s r off disp) (holding ws)
  load_kept (Fixed q e) ws fs to s r off disp v h f lt =
      let c = cell_is q e r off disp v in
      let x : KnownAimed q None e ≡ KnownAimed r off disp = λ i. KnownAimed (sym c.1 i) (sym c.0 i) (sym c.2 i) in
      let y : place_fits ks r off ≡ place_fits ks q None = λ i. place_fits ks (c.1 i) (c.0 i) in
      (lt, y ∙ f, h ∙ x)
  load_kept (Own q) ws fs to s r off disp v h f lt = lt
  load_kept Shared ws fs to s r off disp v h f lt = lt

  store_kept : (w : Way) (ws : List Way) (fs : List Table) (s r : ℕ) (off : Option ℕ) (disp from : ℕ) → serves w r off disp ≡ true → holding ws s ≡ held w → FitsWay ks w → s < n
      → D fs (store_as w s r off disp from) (holding ws)
  store_kept (Fixed q e) ws fs s r off disp from v h f lt =
      let c = cell_is q e r off disp v in
      let x : KnownAimed q None e ≡ KnownAimed r off disp = λ i. KnownAimed (sym c.1 i) (sym c.0 i) (sym c.2 i) in
      let y : place_fits ks r off ≡ place_fits ks q None = λ i. place_fits ks (c.1 i) (c.0 i) in
      (lt, y ∙ f, h ∙ x)
  store_kept (Own q) ws fs s r off disp from v h f lt = lt
  store_kept Shared ws fs s r off disp from v h f lt = lt

  -- a loop at whose head this is known
  pub loop_kept : (fs : List Table) (a : Code) (c : ℕ) (b : Code) (k : Table) → ◌≡◌ {A = Table} (join (Loop a c b) k) k → ◌≡◌ {A = Table} (after a k) k → ◌≡◌ {A = Table} (after b k) k
      → D (k ∷ fs) a k → D (k ∷ fs) b k → D fs (Loop a c b) k
  loop_kept fs a c b k j x y p q =
      subst (λ (h : Table). D (h ∷ fs) a h × Brings (after a h) h × D (h ∷ fs) b (after a h) × Brings (after b (after a h)) h) (sym j)
      (p, brings_same (after a k) k x, subst (D (k ∷ fs) b) (sym x) q, brings_same (after b (after a k)) k (ap (after b) x ∙ y))

  choose_kept : (fs : List Table) (c : ℕ) (a b : Code) (k : Table) → ◌≡◌ {A = Table} (join (Choose c a b) k) k → ◌≡◌ {A = Table} (after a k) k → ◌≡◌ {A = Table} (after b k) k
      → D fs a k → D fs b k → D fs (Choose c a b) k
  choose_kept fs c a b k j x y p q =
      subst (λ (h : Table). D fs a k × Brings (after a k) h × D fs b k × Brings (after b k) h) (sym j) (p, brings_same (after a k) k x, q, brings_same (after b k) k y)

  block_kept : (fs : List Table) (a : Code) (k : Table) → ◌≡◌ {A = Table} (join (Block a) k) k → ◌≡◌ {A = Table} (after a k) k → D (k ∷ fs) a k → D fs (Block a) k
  block_kept fs a k j x p = subst (λ (h : Table). D (h ∷ fs) a k × Brings (after a k) h) (sym j) (p, brings_same (after a k) k x)

  module _ (ws : List Way) (few : length ws ≤ n) (fit : Fits ks ws) where
    pub moved_kept : (a : Code) (d : ℕ) (fs : List Table) → is_quiet a ≡ true → AllReach (IsServed ws) a → Calm (writes a) ws → most_left a ≤ d → Ahead d fs (holding ws)
        → D fs (in_order (moved ws a)) (holding ws)
    moved_kept Nothing d fs q v c l h = tt
    moved_kept (Do o) d fs q v c l h = ((λ y. not_both (needs_shut (Simple o)) q y), tt)
    moved_kept (Load to s r off disp) d fs q v c l h =
        let i = scope_in ws r off disp in
        let w = served_way ws r off disp v in
        (load_kept (way_at ws i) ws fs to i r off disp w.0 w.1 (fits_at ks ws fit i) (omega (arith, v, few)), tt)
    moved_kept (Store s r off disp from) d fs q v c l h =
        let i = scope_in ws r off disp in
        let w = served_way ws r off disp v in
        (store_kept (way_at ws i) ws fs i r off disp from w.0 w.1 (fits_at ks ws fit i) (omega (arith, v, few)), tt)
    moved_kept (LoadBy to s r off disp) d fs q v c l h = absurd (cc q)
    moved_kept (StoreBy s r off disp from) d fs q v c l h = absurd (cc q)
    moved_kept (Aim s r off disp) d fs q v c l h = absurd (cc q)
    moved_kept (Leave s) d fs q v c l h = tt
    moved_kept (Loose s) d fs q v c l h = absurd (cc q)
    moved_kept (Call to f args) d fs q v c l h = absurd (cc q)
    moved_kept (Fail a) d fs q v c l h = (tt, tt)
    moved_kept (Then a b) d fs q v c l h =
        let qa = and_left (is_quiet a) (is_quiet b) q in
        let qb = and_right (is_quiet a) (is_quiet b) q in
        let ca = calm_less (writes (Then a b)) (writes a) (λ r e. or_left (writes a r) (writes b r) e) ws c in
        let cb = calm_less (writes (Then a b)) (writes b) (λ r e. or_right (writes a r) (writes b r) e) ws c in
        let la : most_left a ≤ d = omega (arith, l) in
        let lb : most_left b ≤ d = omega (arith, l) in
        append_kept ks n fs (moved ws a) (moved ws b) (holding ws) (moved_kept a d fs qa v.0 ca la h)
        (subst (D fs (in_order (moved ws b))) (sym (steady ws a qa v.0 ca)) (moved_kept b d fs qb v.1 cb lb h))
    moved_kept (Choose r a b) d fs q v c l h =
        let qa = and_left (is_quiet a) (is_quiet b) q in
        let qb = and_right (is_quiet a) (is_quiet b) q in
        let ca = calm_less (writes (Choose r a b)) (writes a) (λ x e. or_left (writes a x) (writes b x) e) ws c in
        let cb = calm_less (writes (Choose r a b)) (writes b) (λ x e. or_right (writes a x) (writes b x) e) ws c in
        let la : most_left a ≤ d = omega (arith, l) in
        let lb : most_left b ≤ d = omega (arith, l) in (
          choose_kept fs r (in_order (moved ws a)) (in_order (moved ws b)) (holding ws) (steady ws (Choose r a b) q v c) (steady ws a qa v.0 ca) (steady ws b qb v.1 cb)
              (moved_kept a d fs qa v.0 ca la h) (moved_kept b d fs qb v.1 cb lb h),
          tt,
        )
    moved_kept (Loop a r b) d fs q v c l h =
        let qa = and_left (is_quiet a) (is_quiet b) q in
        let qb = and_right (is_quiet a) (is_quiet b) q in
        let ca = calm_less (writes (Loop a r b)) (writes a) (λ x e. or_left (writes a x) (writes b x) e) ws c in
        let cb = calm_less (writes (Loop a r b)) (writes b) (λ x e. or_right (writes a x) (writes b x) e) ws c in
        let la : most_left a ≤ suc d = omega (arith, l) in
        let lb : most_left b ≤ suc d = omega (arith, l) in
        let gs : List Table = holding ws ∷ fs in
        let g = ahead_more d fs (holding ws) h in (
          loop_kept fs (in_order (moved ws a)) r (in_order (moved ws b)) (holding ws) (steady ws (Loop a r b) q v c) (steady ws a qa v.0 ca) (steady ws b qb v.1 cb)
              (moved_kept a (suc d) gs qa v.0 ca la g) (moved_kept b (suc d) gs qb v.1 cb lb g),
          tt,
        )
    moved_kept (Block a) d fs q v c l h =
        let la : most_left a ≤ suc d = omega (arith, l) in (
          block_kept fs (in_order (moved ws a)) (holding ws) (steady ws (Block a) q v c) (steady ws a q v c)
              (moved_kept a (suc d) (holding ws ∷ fs) q v c la (ahead_more d fs (holding ws) h)),
          tt,
        )
    moved_kept (Exit k) d fs q v c l h = ((λ e p. brings_same (holding ws) e (h k e (omega (arith, l)) p)), tt)
