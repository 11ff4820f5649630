-- Code in which scopes are placed keeps the discipline.
use Rattle.std.proofs.Common.{◌≡◌, ◌≢◌, ◌⊎◌, inl, inr, ℕ, zero, suc, ◌+◌, ◌<◌, ◌≤◌, Bool, true, false, cond, Option, Some, None, List, [], ◌∷◌, ◌++◌, length, refl, sym, ap, ◌∙◌, subst, arith}
use Rattle.std.specs.Prelude.{◌==◌, slice_get, slice_index_or}
use Rattle.std.proofs.lemmas.Bool.{eq-eqb, ne_eqb}
use Rattle.std.proofs.lemmas.Bool.Decides.{eqb_tells}
use Rattle.std.proofs.lemmas.List.Elements.{All-map}
use Rattle.code_form.specs.declared.form.Kind.{Kind}
use Rattle.code_form.specs.Form.{Simple}
use Rattle.code_form.specs.Code.{needs_shut}
use Rattle.code_form.specs.Effects.{upd}
use Rattle.code_form.specs.Known.{Knows, Unknown, KnownShut, forget, written_by}
use Rattle.middle_form.specs.Form as m
use Rattle.middle_form.specs.Scoped.{Code, Do, Call, Choose, Loop, Block, Exit}
use Rattle.middle_form.specs.Discipline.{Brings, IsDisciplined, IsScoped, IsScopedFunction, Table, after, at_entry, wrote}
use Rattle.scoped_building.specs.Building.{in_order}
use Rattle.scoped_building.proofs.Orders.{after_append, append_kept}
use Rattle.scope_placement.specs.Placed.{Open, leaves, leaves_from, most_open, open_among, open_behind, open_with, placed, placed_function, placed_program, scope_among, scope_for, whole}

-- what is known in a run: nothing of the scopes that are open, and that the others are shut
abbrev pub at : Open → Table
at [] u = KnownShut
at (q ∷ rs) zero = Unknown
at (q ∷ rs) (suc u) = at rs u

-- ---- tests of numbers

no_zero : (u : ℕ) → (suc u == 0) ≡ false
no_zero u = ne_eqb (suc u) 0 (λ e. omega (arith, e))

suc_test : (u x : ℕ) → (suc u == suc x) ≡ (u == x)
suc_test u x = by_case (eqb_tells u x)
  where
    by_case : (((u == x) ≡ true) × (u ≡ x)) ⊎ (((u == x) ≡ false) × (u ≢ x)) → (suc u == suc x) ≡ (u == x)
    by_case (inl h) = eq-eqb (suc u) (suc x) (ap suc h.1) ∙ sym h.0
    by_case (inr h) = ne_eqb (suc u) (suc x) (λ e. h.1 (omega (arith, e))) ∙ sym h.0

either_unknown : (b : Bool) → cond b Unknown Unknown ≡ Unknown
either_unknown true = refl
either_unknown false = refl

-- ---- which scopes are open

-- the scope of an access is open behind it
open_here : (r u : ℕ) (x : Knows) → x ≡ KnownShut → cond (u == 0) Unknown x ≡ at (r ∷ []) u
open_here r zero x e = ap (λ b. cond b Unknown x) (eq-eqb 0 0 refl)
open_here r (suc u) x e = ap (λ b. cond b Unknown x) (no_zero u) ∙ e

opens : (k r : ℕ) (rs : Open) → length rs ≤ suc k → (u : ℕ) → cond (u == scope_among k r rs) Unknown (at rs u) ≡ at (open_among k r rs) u
opens zero r [] le u = open_here r u KnownShut refl
opens zero r (q ∷ []) le zero = either_unknown (0 == 0)
opens zero r (q ∷ []) le (suc u) = open_here r (suc u) KnownShut refl
opens zero r (q ∷ p ∷ rs) le u = absurd (let z : ⊥ = omega arith in z)
opens (suc k) r [] le u = open_here r u KnownShut refl
opens (suc k) r (q ∷ rs) le u = by_test (opens k r rs (omega arith)) (r == q) u
  where
    by_test : ((v : ℕ) → cond (v == scope_among k r rs) Unknown (at rs v) ≡ at (open_among k r rs) v) → (b : Bool) (v : ℕ)
        → cond (v == cond b 0 (suc (scope_among k r rs))) Unknown (at (q ∷ rs) v) ≡ at (cond b (q ∷ rs) (q ∷ open_among k r rs)) v
    by_test h true zero = either_unknown (0 == 0)
    by_test h true (suc v) = ap (λ b. cond b Unknown (at rs v)) (no_zero v)
    by_test h false zero = either_unknown (0 == suc (scope_among k r rs))
    by_test h false (suc v) = ap (λ b. cond b Unknown (at rs v)) (suc_test v (scope_among k r rs)) ∙ h v

opened : (r : ℕ) (rs : Open) → length rs ≤ 4 → ◌≡◌ {A = Table} (upd (at rs) (scope_for r rs) Unknown) (at (open_with r rs))
opened r rs le = λ i u. opens 3 r rs le u i

pub open_few : (k r : ℕ) (rs : Open) → length rs ≤ suc k → length (open_among k r rs) ≤ suc k
open_few zero r rs le = omega arith
open_few (suc k) r [] le = omega arith
open_few (suc k) r (q ∷ rs) le = by_test (open_few k r rs (omega arith)) (r == q)
  where
    by_test : length (open_among k r rs) ≤ suc k → (b : Bool) → length (cond b (q ∷ rs) (q ∷ open_among k r rs)) ≤ suc (suc k)
    by_test h true = omega arith
    by_test h false = omega arith

pub scope_inside : (k r : ℕ) (rs : Open) → scope_among k r rs < length (open_among k r rs)
scope_inside zero r rs = omega arith
scope_inside (suc k) r [] = omega arith
scope_inside (suc k) r (q ∷ rs) = by_test (scope_inside k r rs) (r == q)
  where
    by_test : scope_among k r rs < length (open_among k r rs) → (b : Bool) → cond b 0 (suc (scope_among k r rs)) < length (cond b (q ∷ rs) (q ∷ open_among k r rs))
    by_test h true = omega arith
    by_test h false = omega arith

-- no more are open behind code than at most in it
pub within : (a : m.Code) (rs : Open) (n : ℕ) → length rs ≤ n → most_open a rs ≤ n → length (open_behind a rs) ≤ n
within m.Nothing rs n l h = l
within (m.Do o) rs n l h = by_test (needs_shut (Simple o))
  where
    by_test : (b : Bool) → length (cond b [] rs) ≤ n
    by_test true = omega arith
    by_test false = l
within (m.Load to r off disp) rs n l h = h
within (m.Store r off disp from) rs n l h = h
within (m.Call to f args) rs n l h = omega arith
within (m.Fail a) rs n l h = l
within (m.Then a b) rs n l h =
    let x : most_open a rs ≤ n = omega arith in
    let y : most_open b (open_behind a rs) ≤ n = omega arith in
    within b (open_behind a rs) n (within a rs n l x) y
within (m.Choose c a b) rs n l h = omega arith
within (m.Loop a c b) rs n l h = omega arith
within (m.Block a) rs n l h = omega arith
within (m.Exit k) rs n l h = omega arith

-- at most four
pub few : (a : m.Code) (rs : Open) → length rs ≤ 4 → most_open a rs ≤ 4
few m.Nothing rs l = omega arith
few (m.Do o) rs l = omega arith
few (m.Load to r off disp) rs l = open_few 3 r rs l
few (m.Store r off disp from) rs l = open_few 3 r rs l
few (m.Call to f args) rs l = omega arith
few (m.Fail a) rs l = omega arith
few (m.Then a b) rs l =
    let x : most_open a rs ≤ 4 = few a rs l in
    let y : most_open b (open_behind a rs) ≤ 4 = few b (open_behind a rs) (within a rs 4 l x) in
    omega arith
few (m.Choose c a b) rs l = let x = few a [] (omega arith) in let y = few b [] (omega arith) in omega (arith, x, y)
few (m.Loop a c b) rs l = let x = few a [] (omega arith) in let y = few b [] (omega arith) in omega (arith, x, y)
few (m.Block a) rs l = few a [] (omega arith)
few (m.Exit k) rs l = omega arith

pub few_behind : (a : m.Code) (rs : Open) → length rs ≤ 4 → length (open_behind a rs) ≤ 4
few_behind a rs l = within a rs 4 l (few a rs l)

-- ---- what is known behind code

forget_at : (d : ℕ) (rs : Open) (u : ℕ) → forget d (at rs u) ≡ at rs u
forget_at d [] u = refl
forget_at d (q ∷ rs) zero = refl
forget_at d (q ∷ rs) (suc u) = forget_at d rs u

wrote_at : (w : Option ℕ) (rs : Open) → ◌≡◌ {A = Table} (wrote w (at rs)) (at rs)
wrote_at None rs = refl
wrote_at (Some d) rs = λ i u. forget_at d rs u i

-- leaves shut what is open from scope s on
left_shut : (rs : Open) (s : ℕ) (k : Table) (u : ℕ) → (k u ≡ KnownShut) ⊎ ((s ≤ u) × (u < s + length rs)) → after (in_order (leaves_from s rs)) k u ≡ KnownShut
left_shut [] s k u (inl h) = h
left_shut [] s k u (inr h) = absurd (let z : ⊥ = omega (arith, h.0, h.1) in z)
left_shut (q ∷ rs) s k u h = left_shut rs (suc s) (upd k s KnownShut) u (by_test (eqb_tells u s) h)
  where
    by_test : (((u == s) ≡ true) × (u ≡ s)) ⊎ (((u == s) ≡ false) × (u ≢ s)) → (k u ≡ KnownShut) ⊎ ((s ≤ u) × (u < s + suc (length rs)))
        → (cond (u == s) KnownShut (k u) ≡ KnownShut) ⊎ ((suc s ≤ u) × (u < suc s + length rs))
    by_test (inl e) h = inl (ap (λ b. cond b KnownShut (k u)) e.0)
    by_test (inr e) (inl h) = inl (ap (λ b. cond b KnownShut (k u)) e.0 ∙ h)
    by_test (inr e) (inr h) = inr (omega (arith, e.1, h.0), omega (arith, h.1))

at_shut : (rs : Open) (u : ℕ) → (at rs u ≡ KnownShut) ⊎ ((0 ≤ u) × (u < 0 + length rs))
at_shut [] u = inl refl
at_shut (q ∷ rs) zero = inr (omega arith, omega arith)
at_shut (q ∷ rs) (suc u) = more (at_shut rs u)
  where
    more : (at rs u ≡ KnownShut) ⊎ ((0 ≤ u) × (u < 0 + length rs)) → (at rs u ≡ KnownShut) ⊎ ((0 ≤ suc u) × (suc u < 0 + suc (length rs)))
    more (inl h) = inl h
    more (inr h) = inr (omega arith, omega (arith, h.1))

-- behind the end of a run all are shut
ended : (rs : Open) → ◌≡◌ {A = Table} (after (in_order (leaves rs)) (at rs)) at_entry
ended rs = λ i u. left_shut rs 0 (at rs) u (at_shut rs u) i

after_leaves : (rs : Open) (c : Code) → ◌≡◌ {A = Table} (after (in_order (leaves rs ++ c ∷ [])) (at rs)) (after c at_entry)
after_leaves rs c = after_append (leaves rs) (c ∷ []) (at rs) ∙ ap (after c) (ended rs)

after_placed : (a : m.Code) (rs : Open) → length rs ≤ 4 → ◌≡◌ {A = Table} (after (in_order (placed a rs)) (at rs)) (at (open_behind a rs))
after_placed m.Nothing rs l = refl
after_placed (m.Do o) rs l = by_test (needs_shut (Simple o))
  where
    by_test : (b : Bool) → ◌≡◌ {A = Table} (after (in_order (cond b (leaves rs) [] ++ Do o ∷ [])) (at rs)) (at (cond b [] rs))
    by_test true = after_leaves rs (Do o) ∙ wrote_at (written_by o) []
    by_test false = wrote_at (written_by o) rs
after_placed (m.Load to r off disp) rs l =
    let loaded : Table → Table = λ k. upd k (scope_for r rs) Unknown in
    ap loaded (wrote_at (Some to) rs) ∙ opened r rs l
after_placed (m.Store r off disp from) rs l = opened r rs l
after_placed (m.Call to f args) rs l = after_leaves rs (Call to f args) ∙ wrote_at to []
after_placed (m.Fail a) rs l = refl
after_placed (m.Then a b) rs l =
    after_append (placed a rs) (placed b (open_behind a rs)) (at rs)
    ∙ (ap (after (in_order (placed b (open_behind a rs)))) (after_placed a rs l) ∙ after_placed b (open_behind a rs) (few_behind a rs l))
after_placed (m.Choose c a b) rs l = after_leaves rs (Choose c (whole a) (whole b))
after_placed (m.Loop a c b) rs l = after_leaves rs (Loop (whole a) c (whole b))
after_placed (m.Block a) rs l = after_leaves rs (Block (whole a))
after_placed (m.Exit k) rs l = after_leaves rs (Exit k)

after_whole : (a : m.Code) → ◌≡◌ {A = Table} (after (whole a) at_entry) at_entry
after_whole a =
    let rs = open_behind a [] in
    after_append (placed a []) (leaves rs) at_entry ∙ (ap (after (in_order (leaves rs))) (after_placed a [] (omega arith)) ∙ ended rs)

-- all that is asked at joins and at ways out is that scopes are shut
whole_brings : (a : m.Code) → Brings (after (whole a) at_entry) at_entry
whole_brings a u = ap (λ (k : Table). k u) (after_whole a)

-- ---- the discipline

abbrev AskShut : List Table → Type 0
AskShut fs = (j : ℕ) (e : Table) → slice_get fs j ≡ Some e → at_entry ≡ e

ask_more : (fs : List Table) → AskShut fs → AskShut (at_entry ∷ fs)
ask_more fs h zero e q = cc q
ask_more fs h (suc j) e q = h j e q

module _ (ks : List Kind) (n : ℕ) where
  abbrev D : List Table → Code → Table → Type 0
  D fs a k = IsDisciplined ks n fs a k

  leaves_kept : (fs : List Table) (s : ℕ) (rs : Open) (k : Table) → s + length rs ≤ n → D fs (in_order (leaves_from s rs)) k
  leaves_kept fs s [] k l = tt
  leaves_kept fs s (q ∷ rs) k l = (omega arith, leaves_kept fs (suc s) rs (upd k s KnownShut) (omega arith))

  behind_kept : (fs : List Table) (rs : Open) (c : Code) → length rs ≤ n → D fs c at_entry → D fs (in_order (leaves rs ++ c ∷ [])) (at rs)
  behind_kept fs rs c l p =
      append_kept ks n fs (leaves rs) (c ∷ []) (at rs) (leaves_kept fs 0 rs (at rs) (omega arith)) (subst (D fs (in_order (c ∷ []))) (sym (ended rs)) (p, tt))

  whole_kept : (fs : List Table) (a : m.Code) → most_open a [] ≤ n → D fs (in_order (placed a [])) at_entry → D fs (whole a) at_entry
  whole_kept fs a h p =
      let l : length (open_behind a []) ≤ n = within a [] n (omega arith) h in
      append_kept ks n fs (placed a []) (leaves (open_behind a [])) at_entry p (leaves_kept fs 0 (open_behind a []) (after (in_order (placed a [])) at_entry) (omega arith))

  placed_kept : (a : m.Code) (rs : Open) (fs : List Table) → length rs ≤ 4 → length rs ≤ n → most_open a rs ≤ n → AskShut fs → D fs (in_order (placed a rs)) (at rs)
  placed_kept m.Nothing rs fs f l h e = tt
  placed_kept (m.Do o) rs fs f l h e = by_test (needs_shut (Simple o)) refl
    where
      by_test : (b : Bool) → needs_shut (Simple o) ≡ b → D fs (in_order (cond b (leaves rs) [] ++ Do o ∷ [])) (at rs)
      by_test true z = behind_kept fs rs (Do o) l (λ y u lt. refl)
      by_test false z = ((λ y. absurd (cc (z, y))), tt)
  placed_kept (m.Load to r off disp) rs fs f l h e = (omega (arith, scope_inside 3 r rs, h), tt)
  placed_kept (m.Store r off disp from) rs fs f l h e = (omega (arith, scope_inside 3 r rs, h), tt)
  placed_kept (m.Call to g args) rs fs f l h e = behind_kept fs rs (Call to g args) l (λ u lt. refl)
  placed_kept (m.Fail a) rs fs f l h e = (tt, tt)
  placed_kept (m.Then a b) rs fs f l h e =
      let x : most_open a rs ≤ n = omega arith in
      let y : most_open b (open_behind a rs) ≤ n = omega arith in
      append_kept ks n fs (placed a rs) (placed b (open_behind a rs)) (at rs) (placed_kept a rs fs f l x e)
      (subst (D fs (in_order (placed b (open_behind a rs)))) (sym (after_placed a rs f)) (placed_kept b (open_behind a rs) fs (few_behind a rs f) (within a rs n l x) y e))
  placed_kept (m.Choose c a b) rs fs f l h e =
      let x : most_open a [] ≤ n = omega arith in
      let y : most_open b [] ≤ n = omega arith in
      behind_kept fs rs (Choose c (whole a) (whole b)) l (
        whole_kept fs a x (placed_kept a [] fs (omega arith) (omega arith) x e),
        whole_brings a,
        whole_kept fs b y (placed_kept b [] fs (omega arith) (omega arith) y e),
        whole_brings b,
      )
  placed_kept (m.Loop a c b) rs fs f l h e =
      let x : most_open a [] ≤ n = omega arith in
      let y : most_open b [] ≤ n = omega arith in
      let gs : List Table = at_entry ∷ fs in
      behind_kept fs rs (Loop (whole a) c (whole b)) l (
        whole_kept gs a x (placed_kept a [] gs (omega arith) (omega arith) x (ask_more fs e)),
        whole_brings a,
        subst (D gs (whole b)) (sym (after_whole a)) (whole_kept gs b y (placed_kept b [] gs (omega arith) (omega arith) y (ask_more fs e))),
        subst (λ (k : Table). Brings (after (whole b) k) at_entry) (sym (after_whole a)) (whole_brings b),
      )
  placed_kept (m.Block a) rs fs f l h e =
      let gs : List Table = at_entry ∷ fs in
      behind_kept fs rs (Block (whole a)) l (whole_kept gs a h (placed_kept a [] gs (omega arith) (omega arith) h (ask_more fs e)), whole_brings a)
  placed_kept (m.Exit j) rs fs f l h e = behind_kept fs rs (Exit j) l (λ x q. subst (Brings at_entry) (e j x q) (λ u. refl))

-- ---- functions and programs

function_scoped : (g : m.Function) → IsScopedFunction (placed_function g)
function_scoped g =
    let n = most_open g.body [] in
    record {
      few = few g.body [] (omega arith);
      body = whole_kept g.kinds n [] g.body (omega arith) (placed_kept g.kinds n g.body [] [] (omega arith) (omega arith) (omega arith) (λ j e q. absurd (cc q)));
      shut = λ u lt. whole_brings g.body u;
    }

pub always_scoped : (P : m.Program) → IsScoped (placed_program P)
always_scoped P = All-map IsScopedFunction placed_function P.functions (λ k d lt. function_scoped (slice_index_or P.functions k d))
