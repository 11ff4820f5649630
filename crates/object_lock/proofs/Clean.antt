-- A clean object leaves its frame: the step keeps the rule, and what it says of the seat's own view.
use Rattle.std.proofs.Common.{◌≡◌, ℕ, ◌<◌, ◌≢◌, true, false, ◌&&◌, List, length, get_or, sym, refl, ap, ap₂, ◌∙◌, subst, arith, eqb, eq-eqb, [], ◌∷◌, ◌++◌}
use Rattle.std.specs.Prelude.{None, ◌==◌}
use mathlib.Core.Option as maybe
use lib.ListN.{get_elem?}
use prog.Atomic.{either}
use Rattle.atomic_table.specs.Table.{Me, keeps, Step, step, Allows}
use Rattle.atomic_table.proofs.Lists.{exchanged}
use Rattle.pointer_word.specs.Words.{Place, Away, Coming, Here, Leaving, Word, counted, face}
use Rattle.pointer_word.specs.Hands.{Hand, upd, leaving}
use Rattle.pointer_word.specs.Machine.{State as Machine, Holder, Freer, after_leave}
use Rattle.pointer_word.specs.Calls.{Leaves, leave_at, act}
use Rattle.pointer_word.proofs.Upd.{upd-same}
use Rattle.pointer_word.proofs.Bringing.{keeps_leave}
use Rattle.pointer_word.proofs.Bits.{is_clean}
use Rattle.object_lock.specs.Seats.{Owns, Sizes, View, learns, with_hand}
use Rattle.object_lock.specs.Carrying.{Carries}
use Rattle.object_lock.specs.Rule.{HandIn, Berthed, LoggedRule}
use Rattle.object_lock.specs.Plays.{IsStep, Found, told_leave}
use Rattle.object_lock.specs.Logs.{Seated, bare, kept_of}
use Rattle.object_lock.specs.Logging.{logs_leave}
use Rattle.object_lock.proofs.Allowing.{allowed, telling, no_object}
use Rattle.object_lock.proofs.Moved.{fits, fitted}
use Rattle.object_lock.proofs.Mover.{cond_true, cond_false, both, and_true, eq_of, Goes, mover_moves, mover_stays}

pub leave_hits : (x : Machine) (m o f : ℕ) → (x.word o).place ≡ Here f true → (x.word o).count ≡ 0 → leave_at x m o f (x.word o).place ≡ after_leave x m o f
leave_hits x m o f p e = ap (leave_at x m o f) p ∙ cond_true ((f == f) && ((x.word o).count == 0)) (after_leave x m o f) x (and_true (f == f) ((x.word o).count == 0) (eq-eqb f f refl) (eq-eqb (x.word o).count 0 e))

pub leave_misses : (x : Machine) (m o f : ℕ) (p : Place) → (p ≡ Here f true → (x.word o).count ≡ 0 → ⊥) → leave_at x m o f p ≡ x
leave_misses x m o f Away d = refl
leave_misses x m o f (Coming _) d = refl
leave_misses x m o f (Here g false) d = refl
leave_misses x m o f (Here g true) d = cond_false ((g == f) && ((x.word o).count == 0)) (after_leave x m o f) x (λ e. let b = both (g == f) _ e in d (ap (λ (q : ℕ). Here q true) (eq_of g f b.0)) (eq_of _ 0 b.1))
leave_misses x m o f (Leaving _ _ _) d = refl

module _ {S : Type 0} (kept : S → ℕ → List ℕ → Type 0) (there : S → Type 0) (honest : Type 0) (z : Sizes) where
  pub leaves_on : (slots id : ℕ) (me : Me S View) (o f old : ℕ) → o < z.objects → f < z.frames → me.0.hand.freed ≡ None → old ≡ face (Here f true) 0
      → Carries kept there honest z slots id me o (λ n. either (eqb n old) 0 n) (Leaves me.0.number o f ∷ []) (told_leave honest (step slots o old 0 maybe.none) me)
  leaves_on slots id me o f old near inside empty is_old s r wide at bound =
      let v = me.0 in let seat = r.seats id v at in let x = r.machine in let m = v.number in let ok = r.objects o near in let few = ok.few in let p = (x.word o).place in
      let told = told_leave honest (step slots o old 0 maybe.none) me in let word : ℕ = get_or s.words o 0 in
      let num = seat.numbered in let sl = r.slotted in let slot : o < length s.homes = omega arith in let fr = r.framed in
      let empty' : (x.hand m).freed ≡ None = subst (λ (h : Hand). h.freed ≡ None) seat.shows.0 empty in
      let hand : HandIn z (x.hand m) = subst (HandIn z) seat.shows.0 seat.inside in
      exchanged word old 0 (Goes kept there honest z s o id me (act x (Leaves m o f)) (r.led.0 ++ Leaves m o f ∷ []) r.owner told)
      (λ hit. let is = is_clean p (x.word o).count f 0 (fits z p r.framed ok.inside) (omega arith) (omega arith) (omega arith) (sym ok.word ∙ hit ∙ is_old) in
      let home = subst (Berthed kept there o (x.far o) (get_elem? s.homes o)) is.0 ok.berthed in
      let y : Hand = leaving (x.hand m) f in let w : Word = counted (x.word o).count Away in let who : ℕ → Holder = upd x.who f (Freer m) in
      let acts = leave_hits x m o f is.0 is.1 in
      let did = mover_moves kept there honest z s r o 0 id me (Leaves m o f) w y who keeps empty' at near acts
      (ap (face Away) (sym is.1)) few tt refl (λ q d. refl) home
      record { brings = hand.brings; claims = hand.claims; leaves = hand.leaves; frees = λ i e. let q : f ≡ i = cc in subst (λ (j : ℕ). j < z.frames) q inside }
      (keeps_leave honest z.cells x m o f empty' is.0 is.1 r.inv) in (
        learns v (after_leave x m o f),
        keeps,
        tt,
        did.0,
        (f, is_old, (x, (ok.word, fitted z v.sizes seat.sized (x.word o) r.framed ok.few ok.inside), did.1, ap (learns v) (sym acts)), refl),
      ))
      (λ miss. let acts = leave_misses x m o f p (λ e k. miss (ok.word ∙ (ap₂ face e k ∙ sym is_old))) in
      let did = mover_stays kept there honest z s r o id me (Leaves m o f) empty' at acts in
      (learns v x, keeps, tt, did.0, (f, is_old, (x, (ok.word, fitted z v.sizes seat.sized (x.word o) r.framed ok.few ok.inside), did.1, ap (learns v) (sym acts)), refl)))

  pub leaves : (slots id : ℕ) (me : Me S Seated) (o f old : ℕ) → o < z.objects → f < z.frames → me.0.view.hand.freed ≡ None → old ≡ face (Here f true) 0
      → Allows (LoggedRule kept there honest z) slots id me o (λ n. either (eqb n old) 0 n) (logs_leave honest (step slots o old 0 maybe.none) me)
  leaves slots id me o f old near inside empty is_old = telling (LoggedRule kept there honest z) slots id me o (λ n. either (eqb n old) 0 n) (λ n m. told_leave honest (step slots o old 0 maybe.none) (bare me) n (bare m) × (m.0.log ≡ me.0.log ++ kept_of (record { word = o; found = n; calls = Leaves me.0.view.number o f ∷ [] }))) (logs_leave honest (step slots o old 0 maybe.none) me) (λ n m h. (h.0, (f, is_old, h.1)))
      (allowed kept there honest z slots id me o (λ n. either (eqb n old) 0 n) (Leaves me.0.view.number o f ∷ []) (told_leave honest (step slots o old 0 maybe.none) (bare me)) (leaves_on slots id (bare me) o f old near inside empty is_old) (λ e w h. (refl, (refl, near))) ((λ p q. no_object (Owns me.0.view) p q), tt))

-- the words of two frames differ
pub clean_frames : (g f : ℕ) → face (Here g true) 0 ≡ face (Here f true) 0 → g ≡ f
clean_frames g f e = omega arith

pub leaves_exactly : {S : Type 0} (honest : Type 0) (st : Step S) (m : Me S View) (r : ℕ) (m' : Me S View) (f : ℕ) → st.first ≡ face (Here f true) 0 → f < 16777216 → told_leave honest st m r m'
    → (r ≡ st.first → m'.0 ≡ with_hand m.0 (leaving m.0.hand f)) × (r ≢ st.first → m'.0 ≡ m.0) × (m'.1 ≡ m.1)
leaves_exactly honest st m r m' f is_old low_f told =
    let v = m.0 in let o = st.word in let g = told.0 in let hand = told.2 in let x = hand.0 in let is = hand.2 in let w = x.word o in let found = hand.1 in let n = v.number in
    let same : g ≡ f = clean_frames g f (sym told.1 ∙ is_old) in (
      (λ hit. let q = is_clean w.place w.count f 0 found.1.0.1 found.1.0.0 (omega arith) low_f (sym found.0 ∙ (hit ∙ is_old)) in
          let acts = ap (λ (h : ℕ). leave_at x n o h w.place) same ∙ leave_hits x n o f q.0 q.1 in
          hand.3 ∙ (ap (learns v) acts ∙ ap (with_hand v) (upd-same x.hand n (leaving (x.hand n) f) n refl ∙ ap (λ (h : Hand). leaving h f) (sym is.knew.0)))),
      (λ miss. let acts = ap (λ (h : ℕ). leave_at x n o h w.place) same ∙ leave_misses x n o f w.place (λ e k. miss (found.0 ∙ (ap₂ (λ (q : Place) (c : ℕ). face q c) e k ∙ sym is_old))) in
          hand.3 ∙ (ap (learns v) acts ∙ ap (with_hand v) (sym is.knew.0))),
      told.3,
    )

pub leaves_step : {S : Type 0} (honest : Type 0) (st : Step S) (m : Me S View) (r : ℕ) (m' : Me S View) (f : ℕ) → st.first ≡ face (Here f true) 0 → told_leave honest st m r m'
    → (x : Machine) × IsStep honest (Leaves m.0.number st.word f) m.0 m'.0 x × Found m.0.sizes (x.word st.word) r
leaves_step honest st m r m' f is_old told =
    let same : told.0 ≡ f = clean_frames told.0 f (sym told.1 ∙ is_old) in let t = told.2 in
    (t.0, subst (λ (g : ℕ). IsStep honest (Leaves m.0.number st.word g) m.0 m'.0 t.0) same t.2, t.1)
