-- A step that its seat does not keep leaves the machine.
use Rattle.std.proofs.Common.{◌≡◌, ℕ, ◌<◌, Bool, true, false, cond, ◌&&◌, List, [], ◌∷◌, refl, sym, ap, ◌∙◌}
use Rattle.std.specs.Prelude.{◌==◌}
use mathlib.Core.Path.{fun_ext}
use Rattle.pointer_word.specs.Words.{Away, Coming, Here, Leaving, Place, pack}
use Rattle.pointer_word.specs.Hands.{Note}
use Rattle.pointer_word.specs.Machine.{State as Machine, after_begin, after_claim}
use Rattle.pointer_word.specs.Calls.{Aborts, Arrives, Begins, Call, Claims, Clears, Closes, Commits, Copies, Fills, Leaves, Marks, Opens, Puts, Releases, Retreats, Stores, Unclaims, act, begin_at, told_where}
use Rattle.pointer_word.specs.Sound.{Inv}
use Rattle.object_lock.specs.Seats.{Sizes}
use Rattle.object_lock.specs.Logs.{AreCallsAt, IsCallAt, IsShown, act_all, is_kept, is_told, tells_frame}
use Rattle.object_lock.proofs.Mover.{mark_misses}
use Rattle.object_lock.proofs.Clean.{leave_misses}
use Rattle.mover_events.proofs.Notes.{or_right, vain_told}
use Rattle.mover_events.proofs.Parts.{first_told, or_left, shows_another, shows_count, word_is}

module _ (honest : Type 0) (z : Sizes) (m k n : ℕ) (s : Machine) (inv : Inv honest z.cells s) (shown : IsShown z s k n) where
  -- an owner that is told that its object is in no frame knew of none
  told_nothing : (o : ℕ) (own : Bool) → (k ≡ o) × (o < z.objects) → (own && tells_frame n) ≡ false → told_where own s o ≡ s
  told_nothing o true at miss = ap (λ (ns : ℕ → Note). record s { note = ns }) (fun_ext (λ i. vain_told honest z m k n s inv shown i o true at miss))
  told_nothing o false at miss = refl

  begin_stays : (j o c : ℕ) (own : Bool) (p : Place) → (s.word o).place ≡ p → n ≡ pack (s.word o) → (n == c) ≡ false → told_where own s o ≡ s → begin_at s j o c own p ≡ s
  begin_stays j o c own Away at is miss e = go ((s.word o).count == c) refl
    where
      go : (b : Bool) → ((s.word o).count == c) ≡ b → cond b (after_begin s j o) (told_where own s o) ≡ s
      go true d = absurd (let both = sym miss ∙ shows_count s o c n at d is in cc)
      go false d = e
  begin_stays j o c own (Coming _) at is miss e = e
  begin_stays j o c own (Here _ _) at is miss e = e
  begin_stays j o c own (Leaving _ _ _) at is miss e = e

  call_stays : (c : Call) → IsCallAt z m k c → is_told n c ≡ false → act s c ≡ s
  call_stays (Opens o) at e = absurd (cc)
  call_stays (Closes o) at e = absurd (cc)
  call_stays (Clears o) at e = absurd (cc)
  call_stays (Stores o f i v) at e = absurd (cc)
  call_stays (Begins j o c own) at e = begin_stays j o c own (s.word o).place refl (word_is z m k n s shown 0 o at.1) (or_left (n == c) (own && tells_frame n) e) (told_nothing o own at.1 (or_right (n == c) (own && tells_frame n) e))
  call_stays (Claims j o f) at e = let is : n ≡ s.frame f = shown.frame f at.1.1 at.1.0 in ap (λ (b : Bool). cond b (after_claim s j o f) s) (ap (λ (q : ℕ). q == 0) (sym is) ∙ e)
  call_stays (Fills j f i v) at e = absurd (cc)
  call_stays (Arrives j o f own) at e = absurd (cc)
  call_stays (Unclaims j f) at e = absurd (cc)
  call_stays (Retreats j o) at e = absurd (cc)
  call_stays (Marks j o f) at e = mark_misses s j o f (s.word o).place (shows_another s o n (Here f false) (word_is z m k n s shown 0 o at.1) e)
  call_stays (Copies j f i) at e = absurd (cc)
  call_stays (Puts j o x) at e = absurd (cc)
  call_stays (Commits j o f) at e = absurd (cc)
  call_stays (Aborts j o f) at e = absurd (cc)
  call_stays (Leaves j o f) at e = leave_misses s j o f (s.word o).place (shows_another s o n (Here f true) (word_is z m k n s shown 0 o at.1) e)
  call_stays (Releases j f) at e = absurd (cc)

  pub step_stays : (cs : List Call) → AreCallsAt z m k cs → is_kept n cs ≡ false → act_all s cs ≡ s
  step_stays [] at e = refl
  step_stays (c ∷ []) at e = call_stays c at e
  step_stays (c ∷ d ∷ []) at e = absurd (let both = sym e ∙ first_told z m k n s shown 0 c d at.2 in cc)
  step_stays (c ∷ d ∷ r ∷ cs) at e = absurd at
