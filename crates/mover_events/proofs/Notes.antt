-- Between two steps that a seat keeps nobody changes what it knows of its objects.
use Rattle.std.proofs.Common.{◌≡◌, ◌≢◌, ℕ, suc, ◌+◌, ◌<◌, Bool, true, false, cond, ◌||◌, ◌&&◌, Option, Some, None, List, [], ◌∷◌, ◌++◌, inl, inr, refl, sym, ap, ◌∙◌, subst, eq-eqb}
use Rattle.std.specs.Prelude.{◌==◌}
use Rattle.pointer_word.specs.Words.{Away, Coming, Fits, Here, Leaving, Place, PlaceFits, framed, pack, place_bits}
use Rattle.pointer_word.specs.Hands.{Note, told}
use Rattle.pointer_word.specs.Machine.{State as Machine, after_begin, after_claim, after_commit, after_leave, after_mark}
use Rattle.pointer_word.specs.Calls.{Aborts, Arrives, Begins, Call, Claims, Clears, Closes, Commits, Copies, Fills, Leaves, Marks, Opens, Puts, Releases, Retreats, Runs, Stores, Unclaims, act, begin_at, commit_at, leave_at, mark_at, told_where}
use Rattle.pointer_word.specs.Sound.{Inv}
use Rattle.pointer_word.proofs.Fields.{state_bits, told as fields_told}
use Rattle.pointer_word.proofs.Runs.{keeps_runs}
use Rattle.pointer_word.proofs.Upd.{same_or, upd-other, upd-same}
use Rattle.object_lock.specs.Seats.{Sizes}
use Rattle.object_lock.specs.Logs.{AreCallsAt, AreOf, AreOwn, AreOwners, Deed, Follows, IsCallAt, IsShown, act_all, calls_of, is_kept, is_told, owners_object, tells_frame}
use Rattle.mover_events.specs.Parts.{NotesStay, kept_at}
use Rattle.mover_events.proofs.Parts.{first_told, run_parts}

-- ---- a call leaves what owners of other objects know

either_note : (b : Bool) (s t : Machine) (o : ℕ) (x : Note) → s.note o ≡ x → t.note o ≡ x → (cond b s t).note o ≡ x
either_note true s t o x e d = e
either_note false s t o x e d = d

told_note : (own : Bool) (s : Machine) (p o : ℕ) → (own ≡ true → o ≢ p) → (told_where own s p).note o ≡ s.note o
told_note true s p o apart = upd-other s.note p _ o (apart refl)
told_note false s p o apart = refl

begin_note : (s : Machine) (m p c : ℕ) (own : Bool) (at : Place) (o : ℕ) → (own ≡ true → o ≢ p) → (begin_at s m p c own at).note o ≡ s.note o
begin_note s m p c own Away o apart = either_note ((s.word p).count == c) (after_begin s m p) (told_where own s p) o (s.note o) refl (told_note own s p o apart)
begin_note s m p c own (Coming j) o apart = told_note own s p o apart
begin_note s m p c own (Here f k) o apart = told_note own s p o apart
begin_note s m p c own (Leaving f j k) o apart = told_note own s p o apart

mark_note : (s : Machine) (m p f : ℕ) (at : Place) (o : ℕ) → (mark_at s m p f at).note o ≡ s.note o
mark_note s m p f Away o = refl
mark_note s m p f (Coming j) o = refl
mark_note s m p f (Here g true) o = refl
mark_note s m p f (Here g false) o = either_note ((g == f) && ((s.word p).count == 0)) (after_mark s m p f) s o (s.note o) refl refl
mark_note s m p f (Leaving g j k) o = refl

commit_note : (s : Machine) (m p f : ℕ) (at : Place) (o : ℕ) → (commit_at s m p f at).note o ≡ s.note o
commit_note s m p f Away o = refl
commit_note s m p f (Coming j) o = refl
commit_note s m p f (Here g k) o = refl
commit_note s m p f (Leaving g j false) o = refl
commit_note s m p f (Leaving g j true) o = either_note ((g == f) && ((j == m) && ((s.word p).count == 0))) (after_commit s m p f) s o (s.note o) refl refl

leave_note : (s : Machine) (m p f : ℕ) (at : Place) (o : ℕ) → (leave_at s m p f at).note o ≡ s.note o
leave_note s m p f Away o = refl
leave_note s m p f (Coming j) o = refl
leave_note s m p f (Here g false) o = refl
leave_note s m p f (Here g true) o = either_note ((g == f) && ((s.word p).count == 0)) (after_leave s m p f) s o (s.note o) refl refl
leave_note s m p f (Leaving g j k) o = refl

-- a call that an owner makes with a hold is one of its object
ones_own : (own : Bool) (o p : ℕ) → ((q : ℕ) → cond own (Some p) None ≡ Some q → o ≢ q) → own ≡ true → o ≢ p
ones_own true o p apart e = apart p refl
ones_own false o p apart e = cc

call_note : (c : Call) (s : Machine) (o : ℕ) → ((p : ℕ) → owners_object c ≡ Some p → o ≢ p) → (act s c).note o ≡ s.note o
call_note (Opens p) s o apart = upd-other s.note p _ o (apart p refl)
call_note (Closes p) s o apart = upd-other s.note p _ o (apart p refl)
call_note (Clears p) s o apart = upd-other s.note p _ o (apart p refl)
call_note (Stores p f i v) s o apart = upd-other s.note p _ o (apart p refl)
call_note (Begins m p c own) s o apart = begin_note s m p c own (s.word p).place o (ones_own own o p apart)
call_note (Claims m p f) s o apart = either_note (s.frame f == 0) (after_claim s m p f) s o (s.note o) refl refl
call_note (Fills m f i v) s o apart = refl
call_note (Arrives m p f true) s o apart = upd-other s.note p _ o (apart p refl)
call_note (Arrives m p f false) s o apart = refl
call_note (Unclaims m f) s o apart = refl
call_note (Retreats m p) s o apart = refl
call_note (Marks m p f) s o apart = mark_note s m p f (s.word p).place o
call_note (Copies m f i) s o apart = refl
call_note (Puts m p x) s o apart = refl
call_note (Commits m p f) s o apart = commit_note s m p f (s.word p).place o
call_note (Aborts m p f) s o apart = refl
call_note (Leaves m p f) s o apart = leave_note s m p f (s.word p).place o
call_note (Releases m f) s o apart = refl

-- the calls of a step, where those of owners are of other objects
pub step_note : (mine : ℕ → Type 0) (o : ℕ) → ((p : ℕ) → mine p → o ≢ p) → (cs : List Call) (s : Machine) → AreOf mine cs → (act_all s cs).note o ≡ s.note o
step_note mine o apart [] s of = refl
step_note mine o apart (c ∷ cs) s of = step_note mine o apart cs (act s c) of.1 ∙ call_note c s o (λ p e. apart p (of.0 p e))

-- ---- a step that its seat does not keep leaves what all owners know

pub or_right : (a b : Bool) → (a || b) ≡ false → b ≡ false
or_right true b e = cc
or_right false b e = e

-- an owner that knows of no frame learns nothing where there is none
nothing_told : (x : Note) (at : Option ℕ) → at ≡ None → ((f : ℕ) → x.frame ≡ Some f → at ≡ Some f) → told x at ≡ x
nothing_told x at none knows = go x.frame refl
  where
    go : (b : Option ℕ) → x.frame ≡ b → told x at ≡ x
    go None e = ap (told x) (none ∙ sym e)
    go (Some f) e = absurd (let both = sym none ∙ knows f e in cc)

-- a number that tells of no frame is that of an object in none
outside : (p : Place) (c n : ℕ) → c < 65536 → PlaceFits p → n ≡ c + place_bits p → tells_frame n ≡ false → framed p ≡ None
outside p c n few fits is miss = by_place p (sym (ap (λ (b : ℕ). b == 2) (fields_told p c n few fits is).3) ∙ miss)
  where
    by_place : (q : Place) → (state_bits q == 2) ≡ false → framed q ≡ None
    by_place Away e = refl
    by_place (Coming m) e = refl
    by_place (Here f b) e = cc
    by_place (Leaving f m b) e = cc

module _ (honest : Type 0) (z : Sizes) (m k n : ℕ) (s : Machine) (inv : Inv honest z.cells s) (shown : IsShown z s k n) (i : ℕ) where
  -- what is shown of an object's word
  shown_word : (o : ℕ) → (k ≡ o) × (o < z.objects) → n ≡ pack (s.word o)
  shown_word o at = (shown.object (subst (λ (j : ℕ). j < z.objects) (sym at.0) at.1)).0 ∙ ap (λ (j : ℕ). pack (s.word j)) at.0

  fits_word : (o : ℕ) → (k ≡ o) × (o < z.objects) → Fits (s.word o)
  fits_word o at = subst (λ (j : ℕ). Fits (s.word j)) at.0 (shown.object (subst (λ (j : ℕ). j < z.objects) (sym at.0) at.1)).1

  in_none : (o : ℕ) → (k ≡ o) × (o < z.objects) → tells_frame n ≡ false → framed (s.word o).place ≡ None
  in_none o at miss = outside (s.word o).place (s.word o).count n (fits_word o at).0 (fits_word o at).1 (shown_word o at) miss

  pub vain_told : (o : ℕ) (own : Bool) → (k ≡ o) × (o < z.objects) → (own && tells_frame n) ≡ false → (told_where own s o).note i ≡ s.note i
  vain_told o true at miss =
      let stays = nothing_told (s.note o) (framed (s.word o).place) (in_none o at miss) (λ f e. ((inv.owner o).placed f e).0) in
      elim (same_or i o) [
        | inl e ↦ upd-same s.note o _ i e ∙ (stays ∙ ap s.note (sym e))
        | inr e ↦ upd-other s.note o _ i e
      ]
  vain_told o false at miss = refl

  vain_begin : (j o c : ℕ) (own : Bool) (p : Place) → (told_where own s o).note i ≡ s.note i → (begin_at s j o c own p).note i ≡ s.note i
  vain_begin j o c own Away e = either_note ((s.word o).count == c) (after_begin s j o) (told_where own s o) i (s.note i) refl e
  vain_begin j o c own (Coming _) e = e
  vain_begin j o c own (Here _ _) e = e
  vain_begin j o c own (Leaving _ _ _) e = e

  vain_call : (c : Call) → IsCallAt z m k c → is_told n c ≡ false → (act s c).note i ≡ s.note i
  vain_call (Opens o) at e = absurd (cc)
  vain_call (Closes o) at e = absurd (cc)
  vain_call (Clears o) at e = absurd (cc)
  vain_call (Stores o f j v) at e = absurd (cc)
  vain_call (Begins j o c own) at e = vain_begin j o c own (s.word o).place (vain_told o own at.1 (or_right (n == c) (own && tells_frame n) e))
  vain_call (Claims j o f) at e = either_note (s.frame f == 0) (after_claim s j o f) s i (s.note i) refl refl
  vain_call (Fills j f l v) at e = absurd (cc)
  vain_call (Arrives j o f own) at e = absurd (cc)
  vain_call (Unclaims j f) at e = absurd (cc)
  vain_call (Retreats j o) at e = absurd (cc)
  vain_call (Marks j o f) at e = mark_note s j o f (s.word o).place i
  vain_call (Copies j f l) at e = absurd (cc)
  vain_call (Puts j o x) at e = absurd (cc)
  vain_call (Commits j o f) at e = absurd (cc)
  vain_call (Aborts j o f) at e = absurd (cc)
  vain_call (Leaves j o f) at e = leave_note s j o f (s.word o).place i
  vain_call (Releases j f) at e = absurd (cc)

  vain_step : (cs : List Call) → AreCallsAt z m k cs → is_kept n cs ≡ false → (act_all s cs).note i ≡ s.note i
  vain_step [] at e = refl
  vain_step (c ∷ []) at e = vain_call c at e
  vain_step (c ∷ d ∷ []) at e = absurd (let both = sym e ∙ first_told z m k n s shown i c d at.2 in cc)
  vain_step (c ∷ d ∷ r ∷ cs) at e = absurd at

-- ---- the notes of a seat's objects

-- a seat that is another one's is none of this one's
not_this : (owner : ℕ → ℕ) (j i o : ℕ) → (i == j) ≡ false → owner o ≡ j → (p : ℕ) → owner p ≡ i → o ≢ p
not_this owner j i o other mine p theirs same = let both = sym other ∙ eq-eqb i j (sym theirs ∙ (ap owner (sym same) ∙ mine)) in cc

-- the notes that were there are the ones that are told
from_notes : (owner : ℕ → ℕ) (j : ℕ) (x y last : ℕ → Note) (ps : List (Machine × Deed)) → ((o : ℕ) → owner o ≡ j → y o ≡ x o) → NotesStay owner j y ps last → NotesStay owner j x ps last
from_notes owner j x y last [] same stay = λ o mine. stay o mine ∙ same o mine
from_notes owner j x y last (p ∷ ps) same stay = ((λ o mine. stay.0 o mine ∙ same o mine), stay.1)

module _ (honest : Type 0) (z : Sizes) (owner : ℕ → ℕ) (j : ℕ) where
  pub notes_stay : (steps : List (ℕ × Deed)) (x t : Machine) → Inv honest z.cells x → Follows z x steps t → Runs honest z.cells x (calls_of steps) t → AreOwn z steps → AreOwners owner steps → NotesStay owner j x.note (kept_at j x steps) t.note
  notes_stay [] x t inv f r own owners = λ o mine. ap (λ (y : Machine). y.note o) f
  notes_stay (d ∷ ds) x t inv f r own owners =
      let parts = run_parts honest z.cells d.1.calls (calls_of ds) x t r in let behind = act_all x d.1.calls in
      let rest = notes_stay ds behind t (keeps_runs honest z.cells d.1.calls x behind parts.0 inv) f.1 parts.1 own.1 owners.1 in
      go (d.0 == j) refl (is_kept d.1.found d.1.calls) refl rest
    where
      go : (b : Bool) → (d.0 == j) ≡ b → (q : Bool) → is_kept d.1.found d.1.calls ≡ q → NotesStay owner j (act_all x d.1.calls).note (kept_at j (act_all x d.1.calls) ds) t.note
          → NotesStay owner j x.note (cond b (cond q ((x, d.1) ∷ []) []) [] ++ kept_at j (act_all x d.1.calls) ds) t.note
      go true is true kept rest = ((λ o mine. refl), rest)
      go true is false unkept rest = from_notes owner j _ _ _ _ (λ o mine. vain_step honest z (suc d.0) d.1.word d.1.found x inv f.0 o d.1.calls own.0 unkept) rest
      go false other true kept rest = from_notes owner j _ _ _ _ (λ o mine. step_note (λ p. owner p ≡ d.0) o (not_this owner j d.0 o other mine) d.1.calls x (owners.0 kept)) rest
      go false other false unkept rest = from_notes owner j _ _ _ _ (λ o mine. vain_step honest z (suc d.0) d.1.word d.1.found x inv f.0 o d.1.calls own.0 unkept) rest
