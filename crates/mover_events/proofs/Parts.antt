-- Between two steps that a seat keeps nobody changes its hand.
use Rattle.std.proofs.Common.{◌≡◌, ◌≢◌, ℕ, suc, ◌+◌, ◌<◌, Bool, true, false, cond, ◌||◌, ◌&&◌, Option, List, [], ◌∷◌, ◌++◌, map, refl, sym, ap, ap₂, ◌∙◌, subst, arith, eq-eqb}
use Rattle.std.specs.Prelude.{◌==◌}
use Rattle.pointer_word.specs.Words.{Away, Coming, Here, Leaving, Place, face, pack}
use Rattle.pointer_word.specs.Hands.{Hand}
use Rattle.pointer_word.specs.Machine.{State as Machine, after_begin, after_claim, after_commit, after_leave, after_mark}
use Rattle.pointer_word.specs.Calls.{Aborts, Arrives, Begins, Call, Claims, Clears, Closes, Commits, Copies, Fills, Leaves, Marks, Opens, Puts, Releases, Retreats, Runs, Stores, Unclaims, act, begin_at, commit_at, leave_at, mark_at, told_where}
use Rattle.pointer_word.specs.Sound.{Inv}
use Rattle.pointer_word.proofs.Runs.{keeps_runs}
use Rattle.pointer_word.proofs.Upd.{upd-other}
use Rattle.object_lock.specs.Seats.{Sizes}
use Rattle.object_lock.specs.Logs.{AreCallsAt, AreOwn, Deed, Follows, IsCallAt, IsShown, IsTry, act_all, calls_of, is_kept, is_told, log_of, tells_frame}
use Rattle.object_lock.proofs.Mover.{eq_of, mark_misses}
use Rattle.object_lock.proofs.Clean.{leave_misses}
use Rattle.world_semantics.specs.declared.event.Choice.{Choice}
use Rattle.world_semantics.specs.Turns.{Answer, Turn}
use Rattle.mover_events.specs.Making.{MakesSteps}
use Rattle.mover_events.specs.Parts.{AreSteps, MakesThem, kept_at}

-- ---- a call leaves the hands of all movers but its own

same_if : (b : Bool) (s t : Machine) (i : ℕ) (h : Hand) → s.hand i ≡ h → t.hand i ≡ h → (cond b s t).hand i ≡ h
same_if true s t i h e d = e
same_if false s t i h e d = d

told_hand : (own : Bool) (s : Machine) (o i : ℕ) → (told_where own s o).hand i ≡ s.hand i
told_hand true s o i = refl
told_hand false s o i = refl

begin_hand : (s : Machine) (m o c : ℕ) (own : Bool) (p : Place) (i : ℕ) → i ≢ m → (begin_at s m o c own p).hand i ≡ s.hand i
begin_hand s m o c own Away i ne = same_if ((s.word o).count == c) (after_begin s m o) (told_where own s o) i (s.hand i) (upd-other s.hand m _ i ne) (told_hand own s o i)
begin_hand s m o c own (Coming j) i ne = told_hand own s o i
begin_hand s m o c own (Here f k) i ne = told_hand own s o i
begin_hand s m o c own (Leaving f j k) i ne = told_hand own s o i

mark_hand : (s : Machine) (m o f : ℕ) (p : Place) (i : ℕ) → i ≢ m → (mark_at s m o f p).hand i ≡ s.hand i
mark_hand s m o f Away i ne = refl
mark_hand s m o f (Coming j) i ne = refl
mark_hand s m o f (Here g true) i ne = refl
mark_hand s m o f (Here g false) i ne = same_if ((g == f) && ((s.word o).count == 0)) (after_mark s m o f) s i (s.hand i) (upd-other s.hand m _ i ne) refl
mark_hand s m o f (Leaving g j k) i ne = refl

commit_hand : (s : Machine) (m o f : ℕ) (p : Place) (i : ℕ) → i ≢ m → (commit_at s m o f p).hand i ≡ s.hand i
commit_hand s m o f Away i ne = refl
commit_hand s m o f (Coming j) i ne = refl
commit_hand s m o f (Here g k) i ne = refl
commit_hand s m o f (Leaving g j false) i ne = refl
commit_hand s m o f (Leaving g j true) i ne = same_if ((g == f) && ((j == m) && ((s.word o).count == 0))) (after_commit s m o f) s i (s.hand i) (upd-other s.hand m _ i ne) refl

leave_hand : (s : Machine) (m o f : ℕ) (p : Place) (i : ℕ) → i ≢ m → (leave_at s m o f p).hand i ≡ s.hand i
leave_hand s m o f Away i ne = refl
leave_hand s m o f (Coming j) i ne = refl
leave_hand s m o f (Here g false) i ne = refl
leave_hand s m o f (Here g true) i ne = same_if ((g == f) && ((s.word o).count == 0)) (after_leave s m o f) s i (s.hand i) (upd-other s.hand m _ i ne) refl
leave_hand s m o f (Leaving g j k) i ne = refl

module _ (z : Sizes) (m k : ℕ) where
  -- a call of the mover m, or of an owner
  call_hand : (c : Call) (s : Machine) (i : ℕ) → i ≢ m → IsCallAt z m k c → (act s c).hand i ≡ s.hand i
  call_hand (Opens o) s i ne at = refl
  call_hand (Closes o) s i ne at = refl
  call_hand (Clears o) s i ne at = refl
  call_hand (Stores o f j v) s i ne at = refl
  call_hand (Begins j o c own) s i ne at = begin_hand s j o c own (s.word o).place i (λ e. ne (e ∙ at.0))
  call_hand (Claims j o f) s i ne at = same_if (s.frame f == 0) (after_claim s j o f) s i (s.hand i) (upd-other s.hand j _ i (λ e. ne (e ∙ at.0))) refl
  call_hand (Fills j f l v) s i ne at = upd-other s.hand j _ i (λ e. ne (e ∙ at.0))
  call_hand (Arrives j o f true) s i ne at = upd-other s.hand j _ i (λ e. ne (e ∙ at.0))
  call_hand (Arrives j o f false) s i ne at = upd-other s.hand j _ i (λ e. ne (e ∙ at.0))
  call_hand (Unclaims j f) s i ne at = upd-other s.hand j _ i (λ e. ne (e ∙ at.0))
  call_hand (Retreats j o) s i ne at = upd-other s.hand j _ i (λ e. ne (e ∙ at.0))
  call_hand (Marks j o f) s i ne at = mark_hand s j o f (s.word o).place i (λ e. ne (e ∙ at.0))
  call_hand (Copies j f l) s i ne at = upd-other s.hand j _ i (λ e. ne (e ∙ at.0))
  call_hand (Puts j o x) s i ne at = refl
  call_hand (Commits j o f) s i ne at = commit_hand s j o f (s.word o).place i (λ e. ne (e ∙ at.0))
  call_hand (Aborts j o f) s i ne at = upd-other s.hand j _ i (λ e. ne (e ∙ at.0))
  call_hand (Leaves j o f) s i ne at = leave_hand s j o f (s.word o).place i (λ e. ne (e ∙ at.0))
  call_hand (Releases j f) s i ne at = upd-other s.hand j _ i (λ e. ne (e ∙ at.0))

  -- a step of the mover m, or of an owner
  step_hand : (cs : List Call) (s : Machine) (i : ℕ) → i ≢ m → AreCallsAt z m k cs → (act_all s cs).hand i ≡ s.hand i
  step_hand [] s i ne at = refl
  step_hand (c ∷ []) s i ne at = call_hand c s i ne at
  step_hand (c ∷ d ∷ []) s i ne at = call_hand d (act s c) i ne at.1 ∙ call_hand c s i ne at.0
  step_hand (c ∷ d ∷ e ∷ cs) s i ne at = absurd at

-- ---- a step that its seat does not keep leaves all hands

pub or_left : (a b : Bool) → (a || b) ≡ false → a ≡ false
or_left true b e = e
or_left false b e = refl

-- an object away with this count shows the count
pub shows_count : (s : Machine) (o c n : ℕ) → (s.word o).place ≡ Away → ((s.word o).count == c) ≡ true → n ≡ pack (s.word o) → (n == c) ≡ true
shows_count s o c n at counts is = ap (λ (i : ℕ). i == c) (is ∙ ap (λ (p : Place). pack (record { count = (s.word o).count; place = p })) at ∙ plain (s.word o).count) ∙ counts
  where
    plain : (i : ℕ) → i + 0 ≡ i
    plain i = omega arith

begin_vain : (s : Machine) (m o c n : ℕ) (own : Bool) (i : ℕ) (p : Place) → (s.word o).place ≡ p → n ≡ pack (s.word o) → (n == c) ≡ false → (begin_at s m o c own p).hand i ≡ s.hand i
begin_vain s m o c n own i Away at is miss = go ((s.word o).count == c) refl
  where
    go : (b : Bool) → ((s.word o).count == c) ≡ b → (cond b (after_begin s m o) (told_where own s o)).hand i ≡ s.hand i
    go true e = absurd (let both = sym miss ∙ shows_count s o c n at e is in cc)
    go false e = told_hand own s o i
begin_vain s m o c n own i (Coming j) at is miss = told_hand own s o i
begin_vain s m o c n own i (Here f k) at is miss = told_hand own s o i
begin_vain s m o c n own i (Leaving f j k) at is miss = told_hand own s o i

-- a word that shows another number is not this one
pub shows_another : (s : Machine) (o n : ℕ) (p : Place) → n ≡ pack (s.word o) → (n == face p 0) ≡ false → (s.word o).place ≡ p → (s.word o).count ≡ 0 → ⊥
shows_another s o n p is miss at none =
    let same : n ≡ face p 0 = is ∙ ap₂ (λ (q : Place) (c : ℕ). face q c) at none in let both = sym miss ∙ eq-eqb n (face p 0) same in cc

module _ (z : Sizes) (m k n : ℕ) (s : Machine) (shown : IsShown z s k n) (i : ℕ) where
  -- what is shown of an object's word
  pub word_is : (o : ℕ) → (k ≡ o) × (o < z.objects) → n ≡ pack (s.word o)
  word_is o at = (shown.object (subst (λ (j : ℕ). j < z.objects) (sym at.0) at.1)).0 ∙ ap (λ (j : ℕ). pack (s.word j)) at.0

  vain_call : (c : Call) → IsCallAt z m k c → is_told n c ≡ false → (act s c).hand i ≡ s.hand i
  vain_call (Opens o) at e = absurd (cc)
  vain_call (Closes o) at e = absurd (cc)
  vain_call (Clears o) at e = absurd (cc)
  vain_call (Stores o f j v) at e = absurd (cc)
  vain_call (Begins j o c own) at e = begin_vain s j o c n own i (s.word o).place refl (word_is o at.1) (or_left (n == c) (own && tells_frame n) e)
  vain_call (Claims j o f) at e =
      let is : n ≡ s.frame f = shown.frame f at.1.1 at.1.0 in
      ap (λ (b : Bool). (cond b (after_claim s j o f) s).hand i) (ap (λ (q : ℕ). q == 0) (sym is) ∙ e)
  vain_call (Fills j f l v) at e = absurd (cc)
  vain_call (Arrives j o f own) at e = absurd (cc)
  vain_call (Unclaims j f) at e = absurd (cc)
  vain_call (Retreats j o) at e = absurd (cc)
  vain_call (Marks j o f) at e = ap (λ (t : Machine). t.hand i) (mark_misses s j o f (s.word o).place (shows_another s o n (Here f false) (word_is o at.1) e))
  vain_call (Copies j f l) at e = absurd (cc)
  vain_call (Puts j o x) at e = absurd (cc)
  vain_call (Commits j o f) at e = absurd (cc)
  vain_call (Aborts j o f) at e = absurd (cc)
  vain_call (Leaves j o f) at e = ap (λ (t : Machine). t.hand i) (leave_misses s j o f (s.word o).place (shows_another s o n (Here f true) (word_is o at.1) e))
  vain_call (Releases j f) at e = absurd (cc)

  pub first_told : (c d : Call) → IsTry c d → is_told n c ≡ true
  first_told (Puts j o x) (Commits l p f) t = refl
  first_told _ _ t = absurd (t)

  vain_step : (cs : List Call) → AreCallsAt z m k cs → is_kept n cs ≡ false → (act_all s cs).hand i ≡ s.hand i
  vain_step [] at e = refl
  vain_step (c ∷ []) at e = vain_call c at e
  vain_step (c ∷ d ∷ []) at e = absurd (let both = sym e ∙ first_told c d at.2 in cc)
  vain_step (c ∷ d ∷ r ∷ cs) at e = absurd at

-- ---- the part of a seat

pub run_parts : (h : Type 0) (n : ℕ) (cs ds : List Call) (x t : Machine) → Runs h n x (cs ++ ds) t → Runs h n x cs (act_all x cs) × Runs h n (act_all x cs) ds t
run_parts h n [] ds x t r = (refl, r)
run_parts h n (c ∷ cs) ds x t r = let rest = run_parts h n cs ds (act x c) t r.1 in ((r.0, rest.0), rest.1)

module _ (honest : Type 0) (z : Sizes) (j : ℕ) where
  abbrev Steps : Hand → List (Machine × Deed) → Hand → Type 0
  Steps x ps y = AreSteps honest z (suc j) x ps y

  -- a step of another seat is none of this one's number
  not_this : (k : ℕ) → (k == j) ≡ false → suc j ≡ suc k → ⊥
  not_this k other e = let same : k ≡ j = omega arith in let both = sym other ∙ eq-eqb k j same in cc

  -- the hand that was there is the one that is told
  from_hand : (x y h : Hand) (ps : List (Machine × Deed)) → x ≡ y → Steps y ps h → Steps x ps h
  from_hand x y h ps e s = subst (λ (q : Hand). Steps q ps h) (sym e) s

  pub parts_are : (steps : List (ℕ × Deed)) (x t : Machine) → Inv honest z.cells x → Follows z x steps t → Runs honest z.cells x (calls_of steps) t → AreOwn z steps
      → (map (λ p. p.1) (kept_at j x steps) ≡ log_of j steps) × Steps (x.hand (suc j)) (kept_at j x steps) (t.hand (suc j))
  parts_are [] x t inv f r own = (refl, ap (λ (y : Machine). y.hand (suc j)) f)
  parts_are (d ∷ ds) x t inv f r own =
      let parts = run_parts honest z.cells d.1.calls (calls_of ds) x t r in let behind = act_all x d.1.calls in
      let rest = parts_are ds behind t (keeps_runs honest z.cells d.1.calls x behind parts.0 inv) f.1 parts.1 own.1 in
      go (d.0 == j) refl (is_kept d.1.found d.1.calls) refl rest parts.0
    where
      go : (b : Bool) → (d.0 == j) ≡ b → (q : Bool) → is_kept d.1.found d.1.calls ≡ q → (map (λ p. p.1) (kept_at j (act_all x d.1.calls) ds) ≡ log_of j ds) × Steps ((act_all x d.1.calls).hand (suc j)) (kept_at j (act_all x d.1.calls) ds) (t.hand (suc j))
          → Runs honest z.cells x d.1.calls (act_all x d.1.calls)
          → (map (λ p. p.1) (cond b (cond q ((x, d.1) ∷ []) []) [] ++ kept_at j (act_all x d.1.calls) ds) ≡ cond b (cond q (d.1 ∷ []) []) [] ++ log_of j ds)
          × Steps (x.hand (suc j)) (cond b (cond q ((x, d.1) ∷ []) []) [] ++ kept_at j (act_all x d.1.calls) ds) (t.hand (suc j))
      go true is true kept rest may =
          (ap (λ (es : List Deed). d.1 ∷ es) rest.0, (record { shown = f.0; behind = act_all x d.1.calls; may = may }, subst (λ (i : ℕ). AreCallsAt z (suc i) d.1.word d.1.calls) (eq_of d.0 j is) own.0, inv, refl, rest.1))
      go true is false unkept rest may =
          (rest.0, from_hand _ _ _ _ (sym (vain_step z (suc d.0) d.1.word d.1.found x f.0 (suc j) d.1.calls own.0 unkept)) rest.1)
      go false other q kept rest may = (rest.0, from_hand _ _ _ _ (sym (step_hand z (suc d.0) d.1.word d.1.calls x (suc j) (not_this d.0 other) own.0)) rest.1)

-- steps that an actor makes at all machines it makes at these
pub makes_them : {A : Type 0} (z : Sizes) (turn : Machine → A → Choice → Answer → Turn A) (reads : Machine → A → Option (List ℕ) → Type 0) (reliable honest : Type 0) (m : ℕ) (a b : A) (x y : Hand) (ds : List Deed) (ps : List (Machine × Deed)) → MakesSteps z turn reads reliable honest a ds b
    → AreSteps honest z m x ps y → map (λ p. p.1) ps ≡ ds → MakesThem reliable z turn reads a ps b
makes_them z turn reads reliable honest m a b x y ds [] made steps e = subst (λ es. MakesSteps z turn reads reliable honest a es b) (sym e) made
makes_them z turn reads reliable honest m a b x y ds (p ∷ ps) made steps e =
    let at = subst (λ es. MakesSteps z turn reads reliable honest a es b) (sym e) made in
    (at.0, at.1 p.0 steps.0, makes_them z turn reads reliable honest m at.0 b _ y (map (λ q. q.1) ps) ps at.2 steps.4 refl)
