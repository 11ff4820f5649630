-- A loop with its scopes keeps the discipline where all scopes are shut before it, and they are shut behind it.
use Rattle.std.proofs.Common.{◌≡◌, ◌≢◌, ◌⊎◌, inl, inr, ℕ, zero, suc, ◌+◌, ◌<◌, ◌≤◌, true, false, cond, List, [], ◌∷◌, length, refl, sym, ap, ◌∙◌, subst, arith}
use Rattle.std.specs.Prelude.{◌==◌, ◌&&◌}
use Rattle.std.proofs.lemmas.Bool.{eq-eqb, ne_eqb}
use Rattle.std.proofs.lemmas.Bool.Decides.{eqb_tells}
use Rattle.code_form.specs.declared.form.Kind.{Kind}
use Rattle.code_form.specs.Effects.{upd}
use Rattle.code_form.specs.Known.{KnownShut}
use Rattle.middle_form.specs.Scoped.{Code, Loop}
use Rattle.middle_form.specs.Discipline.{IsDisciplined, Table, after, at_entry, writes}
use Rattle.scoped_building.specs.Building.{in_order}
use Rattle.scoped_building.proofs.Orders.{after_append, append_kept}
use Rattle.guard_hoisting.specs.declared.ways.Way.{Way}
use Rattle.guard_hoisting.specs.declared.ways.Way.TheVariants.{Fixed, Own, Shared}
use Rattle.guard_hoisting.specs.Ways.{is_quiet, most_left}
use Rattle.guard_hoisting.specs.Hoisted.{closings, lifted, moved, opening, openings}
use Rattle.guard_hoisting.proofs.Tests.{or_left, or_right}
use Rattle.guard_hoisting.proofs.Steady.{AllReach, Calm, Fits, FitsWay, IsServed, ahead_more, calm_less, held, holding, loop_kept, moved_kept, steady}

-- ---- openings

opening_after : (s : ℕ) (w : Way) (k : Table) → ◌≡◌ {A = Table} (after (opening s w) k) (upd k s (held w))
opening_after s (Fixed r disp) k = refl
opening_after s (Own r) k = refl
opening_after s Shared k = refl

-- scopes before the first that is opened stay
opened_before : (ws : List Way) (s : ℕ) (k : Table) (u : ℕ) → u < s → after (in_order (openings s ws)) k u ≡ k u
opened_before [] s k u lt = refl
opened_before (w ∷ ws) s k u lt =
    let other : (u == s) ≡ false = ne_eqb u s (λ e. omega (arith, e, lt)) in
    opened_before ws (suc s) (after (opening s w) k) u (omega arith) ∙ (ap (λ (l : Table). l u) (opening_after s w k) ∙ ap (λ b. cond b (held w) (k u)) other)

opened_from : (ws : List Way) (s : ℕ) (k : Table) → ((v : ℕ) → s ≤ v → k v ≡ KnownShut) → (j u : ℕ) → u ≡ s + j → after (in_order (openings s ws)) k u ≡ holding ws j
opened_from [] s k h j u e = h u (omega (arith, e))
opened_from (w ∷ ws) s k h zero u e =
    let here : u ≡ s = omega (arith, e) in
    opened_before ws (suc s) (after (opening s w) k) u (omega (arith, here))
    ∙ (ap (λ (l : Table). l u) (opening_after s w k) ∙ ap (λ b. cond b (held w) (k u)) (eq-eqb u s here))
opened_from (w ∷ ws) s k h (suc j) u e =
    opened_from ws (suc s) (after (opening s w) k) (λ v le. ap (λ (l : Table). l v) (opening_after s w k) ∙ (ap (λ b. cond b (held w) (k v)) (ne_eqb v s (λ d. omega (arith, d, le))) ∙ h v (omega (arith, le)))) j u (omega (arith, e))

opened : (ws : List Way) → ◌≡◌ {A = Table} (after (in_order (openings 0 ws)) at_entry) (holding ws)
opened ws = λ i u. opened_from ws 0 at_entry (λ v le. refl) u u (omega arith) i

-- ---- closings

closed_from : (ws : List Way) (s : ℕ) (k : Table) (u : ℕ) → (k u ≡ KnownShut) ⊎ ((s ≤ u) × (u < s + length ws)) → after (in_order (closings s ws)) k u ≡ KnownShut
closed_from [] s k u (inl h) = h
closed_from [] s k u (inr h) = absurd (let z : ⊥ = omega (arith, h.0, h.1) in z)
closed_from (w ∷ ws) s k u h = closed_from ws (suc s) (upd k s KnownShut) u (by_test (eqb_tells u s) h)
  where
    by_test : (((u == s) ≡ true) × (u ≡ s)) ⊎ (((u == s) ≡ false) × (u ≢ s)) → (k u ≡ KnownShut) ⊎ ((s ≤ u) × (u < s + suc (length ws)))
        → (cond (u == s) KnownShut (k u) ≡ KnownShut) ⊎ ((suc s ≤ u) × (u < suc s + length ws))
    by_test (inl e) h = inl (ap (λ b. cond b KnownShut (k u)) e.0)
    by_test (inr e) (inl h) = inl (ap (λ b. cond b KnownShut (k u)) e.0 ∙ h)
    by_test (inr e) (inr h) = inr (omega (arith, e.1, h.0), omega (arith, h.1))

shut_behind : (ws : List Way) (u : ℕ) → (holding ws u ≡ KnownShut) ⊎ ((0 ≤ u) × (u < 0 + length ws))
shut_behind [] u = inl refl
shut_behind (w ∷ ws) zero = inr (omega arith, omega arith)
shut_behind (w ∷ ws) (suc u) = more (shut_behind ws u)
  where
    more : (holding ws u ≡ KnownShut) ⊎ ((0 ≤ u) × (u < 0 + length ws)) → (holding ws u ≡ KnownShut) ⊎ ((0 ≤ suc u) × (suc u < 0 + suc (length ws)))
    more (inl h) = inl h
    more (inr h) = inr (omega arith, omega (arith, h.1))

closed : (ws : List Way) → ◌≡◌ {A = Table} (after (in_order (closings 0 ws)) (holding ws)) at_entry
closed ws = λ i u. closed_from ws 0 (holding ws) u (shut_behind ws u) i

-- ---- the loop

module _ (ws : List Way) (a : Code) (c : ℕ) (b : Code) (qa : is_quiet a ≡ true) (qb : is_quiet b ≡ true) (va : AllReach (IsServed ws) a) (vb : AllReach (IsServed ws) b) (calm : Calm (writes (Loop a c b)) ws) where
  abbrev turn : Code
  turn = Loop (in_order (moved ws a)) c (in_order (moved ws b))

  both_quiet : is_quiet (Loop a c b) ≡ true
  both_quiet = ap (λ x. x && is_quiet b) qa ∙ qb

  turn_steady : ◌≡◌ {A = Table} (after turn (holding ws)) (holding ws)
  turn_steady = steady ws (Loop a c b) both_quiet (va, vb) calm

  pub lifted_after : ◌≡◌ {A = Table} (after (in_order (lifted ws a c b)) at_entry) at_entry
  lifted_after =
      after_append (openings 0 ws) (turn ∷ closings 0 ws) at_entry
      ∙ (ap (after (in_order (turn ∷ closings 0 ws))) (opened ws) ∙ (ap (after (in_order (closings 0 ws))) turn_steady ∙ closed ws))

  module _ (ks : List Kind) (n : ℕ) (few : length ws ≤ n) (fit : Fits ks ws) (la : most_left a ≤ 1) (lb : most_left b ≤ 1) where
    opening_kept : (fs : List Table) (s : ℕ) (w : Way) (k : Table) → FitsWay ks w → s < n → IsDisciplined ks n fs (opening s w) k
    opening_kept fs s (Fixed r disp) k f lt = (lt, f)
    opening_kept fs s (Own r) k f lt = lt
    opening_kept fs s Shared k f lt = lt

    openings_kept : (fs : List Table) (s : ℕ) (vs : List Way) (k : Table) → Fits ks vs → s + length vs ≤ n → IsDisciplined ks n fs (in_order (openings s vs)) k
    openings_kept fs s [] k f l = tt
    openings_kept fs s (w ∷ vs) k f l = (opening_kept fs s w k f.0 (omega arith), openings_kept fs (suc s) vs (after (opening s w) k) f.1 (omega arith))

    closings_kept : (fs : List Table) (s : ℕ) (vs : List Way) (k : Table) → s + length vs ≤ n → IsDisciplined ks n fs (in_order (closings s vs)) k
    closings_kept fs s [] k l = tt
    closings_kept fs s (w ∷ vs) k l = (omega arith, closings_kept fs (suc s) vs (upd k s KnownShut) (omega arith))

    turn_kept : (fs : List Table) → IsDisciplined ks n fs turn (holding ws)
    turn_kept fs =
        let ca = calm_less (writes (Loop a c b)) (writes a) (λ r e. or_left (writes a r) (writes b r) e) ws calm in
        let cb = calm_less (writes (Loop a c b)) (writes b) (λ r e. or_right (writes a r) (writes b r) e) ws calm in
        let gs : List Table = holding ws ∷ fs in
        let g = ahead_more 0 fs (holding ws) (λ j e lt q. absurd (let z : ⊥ = omega (arith, lt) in z)) in
        loop_kept ks n fs (in_order (moved ws a)) c (in_order (moved ws b)) (holding ws) turn_steady (steady ws a qa va ca) (steady ws b qb vb cb)
        (moved_kept ks n ws few fit a 1 gs qa va ca la g) (moved_kept ks n ws few fit b 1 gs qb vb cb lb g)

    pub lifted_kept : (fs : List Table) → IsDisciplined ks n fs (in_order (lifted ws a c b)) at_entry
    lifted_kept fs =
        append_kept ks n fs (openings 0 ws) (turn ∷ closings 0 ws) at_entry (openings_kept fs 0 ws at_entry fit (omega (arith, few)))
        (subst (IsDisciplined ks n fs (in_order (turn ∷ closings 0 ws))) (sym (opened ws)) (turn_kept fs, closings_kept fs 0 ws (after turn (holding ws)) (omega (arith, few))))
