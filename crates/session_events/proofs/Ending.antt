-- The events by which all scopes are shut, before a stop.
use Rattle.std.proofs.Common.{◌≡◌, ◌≢◌, ℕ, true, zero, suc, ◌+◌, ◌<◌, List, [], ◌∷◌, length, map, refl, sym, ap, ◌∙◌, subst, inl, inr, arith}
use Rattle.std.specs.Prelude.{Option, Some, None}
use Rattle.std.proofs.lemmas.Bool.Decides.{eqb_tells}
use Rattle.std.proofs.lemmas.List.{get_or-set_same, get_or-set_other, length-set}
use Rattle.code_form.specs.Code.{Core, effect, is_blocked}
use Rattle.code_form.specs.Touches.{touch_of}
use Rattle.code_form.specs.declared.touch.Touch.{Touch}
use Rattle.code_form.specs.declared.touch.Touch.TheVariants as touch
use Rattle.session.specs.declared.hold.Hold as own
use Rattle.session.specs.Keeping.{IsHolding, shut_at}
use Rattle.session.specs.Keeping as keeping
use Rattle.session.specs.Performing.{shut_all, shut_first}
use Rattle.session.specs.State as session
use Rattle.session.proofs.Holding.{holding_shut}
use Rattle.world_semantics.specs.Programs.{Setting, behind, finished, first_hold}
use Rattle.world_semantics.specs.Turns.{ends_by}
use Rattle.session_events.specs.Knowing.{Known}
use Rattle.session_events.specs.Laws.{IsKnown, hold_seen, program_of}
use Rattle.session_events.proofs.Ready.{IsReady, alone, answers, with_closed}
use Rattle.session_events.proofs.Seizing.{ComesTo, at_last, before, closed_then, finished_is, ready_of}

-- ---- the lowest scope that holds something

pub first_none : (hs : List (Option own.Hold)) → ((i : ℕ) → i < length hs → session.hold_at hs i ≡ None) → first_hold (map hold_seen hs) ≡ None
first_none [] h = refl
first_none (None ∷ hs) h = ap behind (first_none hs (λ i l. h (suc i) (omega arith)))
first_none (Some x ∷ hs) h = absurd (let e : Some x ≡ None = h 0 (omega arith) in cc)

pub first_some : (hs : List (Option own.Hold)) (j : ℕ) (x : own.Hold) → ((i : ℕ) → i < j → session.hold_at hs i ≡ None) → session.hold_at hs j ≡ Some x
    → first_hold (map hold_seen hs) ≡ Some (j, record { object = x.object; writes = x.writes })
first_some [] j x h e = absurd (let d : None ≡ Some x = e in cc)
first_some (None ∷ hs) zero x h e = absurd (let d : None ≡ Some x = e in cc)
first_some (Some y ∷ hs) zero x h e = let d : y ≡ x = cc in ap (λ (z : own.Hold). Some (0, record { object = z.object; writes = z.writes })) d
first_some (None ∷ hs) (suc j) x h e = ap behind (first_some hs j x (λ i l. h (suc i) (omega arith)) e)
first_some (Some y ∷ hs) (suc j) x h e = absurd (let d : Some y ≡ None = h 0 (omega arith) in cc)

-- ---- what stays where scopes are shut

-- nothing of the program changed but its holds
pub record StaysSo (s t : session.State) : Type 0 where
  pub core : t.core ≡ s.core
  pub image : t.image ≡ s.image
  pub want : t.want ≡ s.want
  pub many : length t.holds ≡ length s.holds
  pub completed : t.completed ≡ s.completed
  pub hand : t.view.hand ≡ s.view.hand
  pub low : t.view.low ≡ s.view.low
  pub high : t.view.high ≡ s.view.high
  pub refusals : t.refusals ≡ s.refusals

pub shut_stays : (s : session.State) (k : ℕ) (x : Option own.Hold) → StaysSo s (shut_at s k x)
shut_stays s k None = record { core = refl; image = refl; want = refl; many = refl; completed = refl; hand = refl; low = refl; high = refl; refusals = refl }
shut_stays s k (Some h) = record { core = refl; image = refl; want = refl; many = length-set s.holds k None; completed = refl; hand = refl; low = refl; high = refl; refusals = refl }

pub first_stays : (j : ℕ) (s : session.State) → StaysSo s (shut_first j s)
first_stays zero s = record { core = refl; image = refl; want = refl; many = refl; completed = refl; hand = refl; low = refl; high = refl; refusals = refl }
first_stays (suc j) s =
    let a = first_stays j s in
    let u : session.State = shut_first j s in
    let b = shut_stays u j (session.hold_at u.holds j) in
    record { core = b.core ∙ a.core; image = b.image ∙ a.image; want = b.want ∙ a.want; many = b.many ∙ a.many; completed = b.completed ∙ a.completed; hand = b.hand ∙ a.hand; low = b.low ∙ a.low; high = b.high ∙ a.high; refusals = b.refusals ∙ a.refusals }

pub ready_along : (g : Setting) (s t : session.State) (x : Touch) → t.core ≡ s.core → IsReady g (ready_of s) x → IsReady g (ready_of t) x
ready_along g s t x e r = record { mode = refl; free = ap is_blocked e ∙ r.free; is = ap (λ (c : Core). touch_of (effect g.image c)) e ∙ r.is }

-- a scope that was shut holds nothing
pub shut_none : (s : session.State) (k : ℕ) (x : Option own.Hold) → k < length s.holds → session.hold_at s.holds k ≡ x → session.hold_at (shut_at s k x).holds k ≡ None
shut_none s k None l e = e
shut_none s k (Some h) l e = get_or-set_same s.holds k None None l

pub shut_others : (s : session.State) (k i : ℕ) (x : Option own.Hold) → i ≢ k → session.hold_at (shut_at s k x).holds i ≡ session.hold_at s.holds i
shut_others s k i None ne = refl
shut_others s k i (Some h) ne = get_or-set_other s.holds k i None None ne

-- one scope more holds nothing
pub freed : (u : session.State) (j : ℕ) (x : Option own.Hold) → j < length u.holds → ((k : ℕ) → k < j → session.hold_at u.holds k ≡ None) → session.hold_at u.holds j ≡ x → (k : ℕ) → k < suc j → session.hold_at (shut_at u j x).holds k ≡ None
freed u j x low free d k l = elim (eqb_tells k j) [
  | inl q ↦ ap (session.hold_at (shut_at u j x).holds) q.1 ∙ shut_none u j x low d
  | inr q ↦ shut_others u j k x q.1 ∙ free k (let ne = q.1 in omega arith)
]

-- ---- all scopes

module _ (g : Setting) (s t : session.State) (r : IsReady g (ready_of s) touch.Ends) (image : g.image ≡ s.image) (none : s.want ≡ None) (e : t ≡ keeping.finished (shut_all s) 0) where
  -- from the scope j on
  shuts_on : (i j : ℕ) (n : Known) → j + i ≡ length s.holds → IsHolding (shut_first j s) → ((k : ℕ) → k < j → session.hold_at (shut_first j s).holds k ≡ None) → IsKnown (shut_first j s).view n
      → ComesTo g (ready_of (shut_first j s)) n t
  shuts_on zero j n h ok free is =
      let last : j ≡ length s.holds = omega (arith, h) in
      let u : session.State = shut_first j s in
      let a = first_stays j s in
      let many = a.many in
      let shut_all_is : shut_all s ≡ u = ap (λ m. shut_first m s) (sym last) in
      let done : t ≡ keeping.finished u 0 = e ∙ ap (λ y. keeping.finished y 0) shut_all_is in
      before g (ready_of u) (finished g (ready_of u) 0) n n t
      (λ l goes. alone g (ready_of u) (finished g (ready_of u) 0) (program_of t) n l 0 touch.Ends (ready_along g s u touch.Ends a.core r)
      (ap (ends_by g (ready_of u) (answers true)) (first_none u.holds (λ k l. free k (omega arith)))) goes)
      (at_last g (finished g (ready_of u) 0) n t (ap program_of done ∙ sym (finished_is g u 0 (a.want ∙ none) (image ∙ sym a.image))) (subst (λ (y : session.State). IsKnown y.view n) (sym done) is))
  shuts_on (suc i) j n h ok free is = by_hold (λ m. shuts_on i (suc j) m (omega (arith, h))) (session.hold_at (shut_first j s).holds j) refl
    where
      by_hold : ((m : Known) → IsHolding (shut_first (suc j) s) → ((k : ℕ) → k < suc j → session.hold_at (shut_first (suc j) s).holds k ≡ None) → IsKnown (shut_first (suc j) s).view m → ComesTo g (ready_of (shut_first (suc j) s)) m t)
          → (x : Option own.Hold) → session.hold_at (shut_first j s).holds j ≡ x → ComesTo g (ready_of (shut_first j s)) n t
      by_hold on None d =
          let u : session.State = shut_first j s in
          let low : j < length u.holds = let many = (first_stays j s).many in omega (arith, h) in
          let same : shut_first (suc j) s ≡ u = ap (shut_at u j) d in
          subst (λ (y : session.State). ComesTo g (ready_of y) n t) same
          (on n (subst IsHolding (sym same) ok)
          (λ k l. ap (λ (y : session.State). session.hold_at y.holds k) same ∙ freed u j None low free d k l) (subst (λ (y : session.State). IsKnown y.view n) (sym same) is))
      by_hold on (Some x) d =
          let u : session.State = shut_first j s in
          let v : session.State = shut_at u j (Some x) in
          let low : j < length u.holds = let many = (first_stays j s).many in omega (arith, h) in
          let same : shut_first (suc j) s ≡ v = ap (shut_at u j) d in
          let m : Known = with_closed n x.object in
          closed_then g u t n j x touch.Ends (ready_along g s u touch.Ends (first_stays j s).core r) ok d is (λ y. ap (ends_by g (ready_of u) (answers true)) (first_some u.holds j x free d))
          (λ known. subst (λ (y : session.State). ComesTo g (ready_of y) m t) same
          (on m (subst IsHolding (sym same) (holding_shut u j (Some x) d ok low))
          (λ k l. ap (λ (y : session.State). session.hold_at y.holds k) same ∙ freed u j (Some x) low free d k l) (subst (λ (y : session.State). IsKnown y.view m) (sym same) known)))

  pub shuts_all : (n : Known) → IsHolding s → IsKnown s.view n → ComesTo g (ready_of s) n t
  shuts_all n ok is = shuts_on (length s.holds) 0 n (omega arith) ok (λ k l. absurd (omega arith)) is
