-- an event of moving out, as code takes it
use Rattle.std.proofs.Common.{◌≡◌, ℕ, ◌+◌, ◌<◌, ◌≤◌, Bool, true, false, cond, ◌&&◌, List, [], ◌∷◌, ◌++◌, length, take, Option, Some, None, refl, sym, ap, ◌∙◌, subst, arith, eq-eqb}
use Rattle.std.specs.Prelude.{◌==◌, nat_lt}
use Rattle.std.proofs.Math.ListN.{set}
use Rattle.std.proofs.lemmas.List.{length-take-le, take_all, take_more_set}
use Rattle.std.proofs.lemmas.Bool.Decides.{nat_tests}
use Rattle.pointer_word.specs.Words.{Away, Leaving, Word, counted}
use Rattle.pointer_word.specs.Hands.{Hand, committing, known, leaving, marking, upd}
use Rattle.pointer_word.specs.Machine.{State, after_commit, after_leave, after_mark}
use Rattle.pointer_word.specs.Calls.{Aborts, Commits, Copies, Leaves, Marks, Puts, Releases, IsPut, act, commit_at, leave_at, mark_at}
use Rattle.pointer_word.specs.Legal.{acts, holds, legal}
use Rattle.pointer_word.proofs.Legal.{may_legal}
use Rattle.pointer_word.proofs.Upd.{upd-same}
use Rattle.world_memory.specs.Berths.{Berths}
use Rattle.world_memory.specs.declared.memory.ObjectPlace.{ObjectPlace}
use Rattle.world_memory.specs.declared.memory.ObjectPlace.TheVariants as p
use Rattle.world_actors.specs.Acting.{Leads, Moves, Outcome, On, Done, Failed, Shows, Unread, UnreadSo, resumes}
use Rattle.world_memory.specs.Answered.{storing}
use Rattle.world_semantics.specs.Programs.{Eviction, Copying, Stored, NotStored, Refused, Freed}
use Rattle.world_memory.specs.Shown.{AreFar, AreTables, Shown}
use Rattle.world_memory.specs.Tables.{Tables, cell_at, is_at_rest_in, is_clean_at, is_clean_in, is_here_at, is_marked_at, is_marked_by, object_at, place_of}
use Rattle.world_semantics.specs.Turns.{Answer, Turn, Calls, after_call, committed_so, evicts, put_of, put_so, taken}
use Rattle.world_semantics.specs.Worlds.{Sizes}
use Rattle.world_actors.proofs.Acting.{leads_call, leaving_inside, plain}

commits_yes : (s : State) (m o f c : ℕ) (x : ObjectPlace) → (s.word o).count ≡ c → is_marked_at x c f m ≡ true → commit_at s m o f (place_of x) ≡ after_commit s m o f
commits_yes s m o f c p.Away e q = cc
commits_yes s m o f c (p.Coming j) e q = cc
commits_yes s m o f c (p.Here g k) e q = cc
commits_yes s m o f c (p.Leaving g j true) e q = ap (λ n. cond ((g == f) && ((j == m) && (n == 0))) (after_commit s m o f) s) e ∙ ap (λ b. cond b (after_commit s m o f) s) q
commits_yes s m o f c (p.Leaving g j false) e q = cc

commits_no : (s : State) (m o f c : ℕ) (x : ObjectPlace) → (s.word o).count ≡ c → is_marked_at x c f m ≡ false → commit_at s m o f (place_of x) ≡ s
commits_no s m o f c p.Away e q = refl
commits_no s m o f c (p.Coming j) e q = refl
commits_no s m o f c (p.Here g k) e q = refl
commits_no s m o f c (p.Leaving g j true) e q = ap (λ n. cond ((g == f) && ((j == m) && (n == 0))) (after_commit s m o f) s) e ∙ ap (λ b. cond b (after_commit s m o f) s) q
commits_no s m o f c (p.Leaving g j false) e q = refl

module _ {C : Type 0} (content : C → Option (List ℕ)) (h : Type 0) (z : Sizes) (t : Tables) (berths : Berths C) (m : ℕ) (s : State) where
  -- a turn leads to a state that the tables and berths show, and to this
  abbrev pub LeadsTo : Eviction → Tables → Berths C → Outcome → Type 0
  LeadsTo e t' berths' r = Leads z.cells s (λ a. evicts z.cells m a e On Done Failed) Unread (λ u q. Shows content z t' berths' u × (q ≡ r))

  -- the same, where the store answered so
  abbrev pub LeadsSo : (Answer → Type 0) → Eviction → Tables → Berths C → Outcome → Type 0
  LeadsSo told e t' berths' r = Leads z.cells s (λ a. evicts z.cells m a e On Done Failed) (UnreadSo told) (λ u q. Shows content z t' berths' u × (q ≡ r))

  -- what the store answered, said otherwise
  pub told_as : (told told' : Answer → Type 0) (e : Eviction) (t' : Tables) (berths' : Berths C) (r : Outcome) → ((a : Answer) → told a → told' a) → LeadsSo told e t' berths' r → LeadsSo told' e t' berths' r
  told_as told told' e t' berths' r f l = (l.0, (l.1.0, f l.0 l.1.1), l.2)

  -- and where it can say nothing else
  pub told_so : (told : Answer → Type 0) (e : Eviction) (t' : Tables) (berths' : Berths C) (r : Outcome) → ((a : Answer) → told a) → LeadsTo e t' berths' r → LeadsSo told e t' berths' r
  told_so told e t' berths' r f l = (l.0, (l.1, f l.0), l.2)

  pub not_stored : (o f : ℕ) (t' : Tables) (berths' : Berths C) → Moves content h z t berths m (NotStored o f) s → Shows content z t' berths' (act s (Aborts m o f)) → LeadsTo (NotStored o f) t' berths' Failed
  not_stored o f t' berths' is after =
      leads_call z.cells s (λ a. evicts z.cells m a (NotStored o f) On Done Failed) Unread (λ u q. Shows content z t' berths' u × (q ≡ Failed)) plain (Aborts m o f) (λ _. Failed) refl refl
      (may_legal h z.cells s (Aborts m o f) (is.fits.0, is.fits.1)) (after, refl)

  pub refused : (o f : ℕ) (t' : Tables) (berths' : Berths C) → Moves content h z t berths m (Refused o f) s → Shows content z t' berths' (act s (Aborts m o f)) → LeadsTo (Refused o f) t' berths' Done
  refused o f t' berths' is after =
      leads_call z.cells s (λ a. evicts z.cells m a (Refused o f) On Done Failed) Unread (λ u q. Shows content z t' berths' u × (q ≡ Done)) plain (Aborts m o f) (λ _. Done) refl refl
      (may_legal h z.cells s (Aborts m o f) (is.fits.0, is.fits.1)) (after, refl)

  pub freed : (f : ℕ) (t' : Tables) (berths' : Berths C) → Moves content h z t berths m (Freed f) s → Shows content z t' berths' (act s (Releases m f)) → LeadsTo (Freed f) t' berths' Done
  freed f t' berths' is after =
      leads_call z.cells s (λ a. evicts z.cells m a (Freed f) On Done Failed) Unread (λ u q. Shows content z t' berths' u × (q ≡ Done)) plain (Releases m f) (λ _. Done) refl refl
      (may_legal h z.cells s (Releases m f) is.fits.1) (after, refl)

  commit_legal : (o f : ℕ) → Moves content h z t berths m (Stored o f) s → legal z.cells s (Commits m o f) ≡ true
  commit_legal o f is = may_legal h z.cells s (Commits m o f) (is.fits.0.0, is.fits.0.1, is.fits.0.2, is.fits.1)

  commit_to : (o f : ℕ) (t' : Tables) (u : State) (x : Eviction) → Moves content h z t berths m (Stored o f) s → commit_at s m o f (s.word o).place ≡ u
      → Shows content z t' berths u → committed_so (known (u.hand m).freed) o f ≡ x → LeadsTo (Stored o f) t' berths (On x)
  commit_to o f t' u x is e after so =
      leads_call z.cells s (λ a. evicts z.cells m a (Stored o f) On Done Failed) Unread (λ u q. Shows content z t' berths u × (q ≡ On x)) plain (Commits m o f)
      (λ v. On (committed_so (known (v.hand m).freed) o f)) refl refl (commit_legal o f is)
      (subst (λ (v : State). Shows content z t' berths v × (On (committed_so (known (v.hand m).freed) o f) ≡ On x)) (sym e) (after, ap On so))

  count_is : (o : ℕ) → Shown z t s → (s.word o).count ≡ (object_at t o).count
  count_is o shown = ap (λ (w : Word). w.count) (shown.objects o).word

  place_is : (o : ℕ) → Shown z t s → (s.word o).place ≡ place_of (object_at t o).place
  place_is o shown = ap (λ (w : Word). w.place) (shown.objects o).word

  pub committed : (o f : ℕ) (t' : Tables) → Moves content h z t berths m (Stored o f) s → is_marked_by (object_at t o) f m ≡ true
      → (Shown z t s → o < z.objects → AreTables z t' (upd s.word o (counted (s.word o).count Away)) s.note s.frame s.cell) → LeadsTo (Stored o f) t' berths (On (Freed f))
  committed o f t' is e told =
      let shows = is.shows in
      let inside = leaving_inside h z t s m o is.inv shows.tables is.fits.0.0 in
      let u : State = after_commit s m o f in
      let hand : u.hand m ≡ committing (s.hand m) f = upd-same s.hand m (committing (s.hand m) f) m refl in
      commit_to o f t' u (Freed f) is (ap (commit_at s m o f) (place_is o shows.tables) ∙ commits_yes s m o f (object_at t o).count (object_at t o).place (count_is o shows.tables) e)
      (record { tables = told shows.tables inside; far = shows.far; many = shows.many; objects_few = shows.objects_few; frames_few = shows.frames_few; size = shows.size }) (ap (λ (x : Hand). committed_so (known x.freed) o f) hand)

  pub not_committed : (o f : ℕ) → Moves content h z t berths m (Stored o f) s → is_marked_by (object_at t o) f m ≡ false → LeadsTo (Stored o f) t berths (On (Refused o f))
  not_committed o f is e =
      let shows = is.shows in
      commit_to o f t s (Refused o f) is (ap (commit_at s m o f) (place_is o shows.tables) ∙ commits_no s m o f (object_at t o).count (object_at t o).place (count_is o shows.tables) e)
      shows (ap (λ (y : Option ℕ). committed_so (known y) o f) is.fits.0.2)

  -- ---- copies and the put

  below_true : (a b : ℕ) → a < b → nat_lt a b ≡ true
  below_true a b l = grind (arith, nat_tests)

  below_false : (a b : ℕ) → b ≤ a → nat_lt a b ≡ false
  below_false a b l = grind (arith, nat_tests)

  pub copied : (o f k v : ℕ) (words : List ℕ) → Moves content h z t berths m (Copying o f (take k words)) s → length words ≡ z.cells → k < length words → v ≡ cell_at t f k
      → LeadsTo (Copying o f (take k words)) t berths (On (Copying o f (take (k + 1) (set words k v))))
  copied o f k v words is l below e =
      let ws : List ℕ = take k words in
      let many : length ws ≡ k = length-take-le k words (omega arith) in
      let shows = is.shows in
      let read : s.cell f (length ws) ≡ v = ap (s.cell f) many ∙ (shows.tables.cells f k ∙ sym e) in
      let more : ws ++ s.cell f (length ws) ∷ [] ≡ take (k + 1) (set words k v) = ap (λ x. ws ++ x ∷ []) read ∙ sym (take_more_set words k v (omega arith)) in
      leads_call z.cells s (λ a. evicts z.cells m a (Copying o f ws) On Done Failed) Unread (λ u q. Shows content z t berths u × (q ≡ On (Copying o f (take (k + 1) (set words k v))))) plain (Copies m f (length ws))
      (λ u. On (Copying o f (ws ++ u.cell f (length ws) ∷ []))) refl
      (ap (λ b. cond b (Calls (Copies m f (length ws)) (λ (u : State). On (Copying o f (ws ++ u.cell f (length ws) ∷ [])))) (Calls (Puts m o (put_of true ws)) (λ (u : State). On (put_so true o f)))) (below_true (length ws) z.cells (omega arith)))
      (may_legal h z.cells s (Copies m f (length ws)) (o, is.fits.0.0, is.fits.0.1))
      (record { tables = shows.tables; far = shows.far; many = shows.many; objects_few = shows.objects_few; frames_few = shows.frames_few; size = shows.size }, ap (λ x. On (Copying o f x)) more)

  can_put : (b : Bool) (words : List ℕ) → length words ≡ z.cells → IsPut z.cells (put_of b words)
  can_put true words l = l
  can_put false words l = tt

  pub put_out : (o f k : ℕ) (words : List ℕ) (b : Bool) (told : Answer → Type 0) (berths' : Berths C) → Moves content h z t berths m (Copying o f (take k words)) s → length words ≡ z.cells → length words ≤ k
      → (o < length berths.items → told (storing b)) → (o < length berths.items → AreFar content z.cells berths'.items (upd s.far o (put_of b words))) → length berths'.items ≡ length berths.items → berths'.cells ≡ berths.cells → LeadsSo told (Copying o f (take k words)) t berths' (On (put_so b o f))
  put_out o f k words b told berths' is l full answered kept same sized =
      let ws : List ℕ = take k words in
      let all : ws ≡ words = take_all k words (omega arith) in
      let shows = is.shows in
      let many = shows.many in
      let inside = leaving_inside h z t s m o is.inv shows.tables is.fits.0.0 in
      let size : length ws ≡ z.cells = ap length all ∙ l in
      leads_call z.cells s (λ a. evicts z.cells m a (Copying o f ws) On Done Failed) (UnreadSo told) (λ u q. Shows content z t berths' u × (q ≡ On (put_so b o f))) (storing b) (Puts m o (put_of b ws)) (λ _. On (put_so b o f)) (refl, answered (omega arith))
      (ap (λ y. cond y (Calls (Copies m f (length ws)) (λ (u : State). On (Copying o f (ws ++ u.cell f (length ws) ∷ [])))) (Calls (Puts m o (put_of b ws)) (λ (u : State). On (put_so b o f)))) (below_false (length ws) z.cells (omega arith)))
      (may_legal h z.cells s (Puts m o (put_of b ws)) (is.fits.0.0, can_put b ws size))
      (record { tables = shows.tables; far = subst (λ y. AreFar content z.cells berths'.items (upd s.far o (put_of b y))) (sym all) (kept (omega arith)); many = same ∙ shows.many; objects_few = shows.objects_few; frames_few = shows.frames_few; size = sized ∙ shows.size }, refl)

-- ---- marks

marks_yes : (s : State) (m o f c : ℕ) (x : ObjectPlace) → (s.word o).count ≡ c → is_here_at x c f ≡ true → mark_at s m o f (place_of x) ≡ after_mark s m o f
marks_yes s m o f c p.Away e q = cc
marks_yes s m o f c (p.Coming j) e q = cc
marks_yes s m o f c (p.Here g true) e q = cc
marks_yes s m o f c (p.Here g false) e q = ap (λ n. cond ((g == f) && (n == 0)) (after_mark s m o f) s) e ∙ ap (λ b. cond b (after_mark s m o f) s) q
marks_yes s m o f c (p.Leaving g j k) e q = cc

marks_no : (s : State) (m o f c : ℕ) (x : ObjectPlace) → (s.word o).count ≡ c → is_here_at x c f ≡ false → mark_at s m o f (place_of x) ≡ s
marks_no s m o f c p.Away e q = refl
marks_no s m o f c (p.Coming j) e q = refl
marks_no s m o f c (p.Here g true) e q = refl
marks_no s m o f c (p.Here g false) e q = ap (λ n. cond ((g == f) && (n == 0)) (after_mark s m o f) s) e ∙ ap (λ b. cond b (after_mark s m o f) s) q
marks_no s m o f c (p.Leaving g j k) e q = refl

module _ {C : Type 0} (content : C → Option (List ℕ)) (z : Sizes) (t : Tables) (berths : Berths C) (m : ℕ) (s : State) (shows : Shows content z t berths s) where
  -- a try to mark leads to a state that the tables show, and it is known whether the mover has the berth
  abbrev pub MarkedSo : ℕ → ℕ → Tables → Berths C → Bool → Type 0
  MarkedSo o f t' berths' b = let u : State = act s (Marks m o f) in Shows content z t' berths' u × (holds (u.hand m).leaving o ≡ b)

  pub marked : (o f : ℕ) (t' : Tables) → o < z.objects → is_at_rest_in (object_at t o) f ≡ true
      → (Shown z t s → o < z.objects → AreTables z t' (upd s.word o (counted (s.word o).count (Leaving f m true))) s.note s.frame s.cell) → MarkedSo o f t' berths true
  marked o f t' inside e told =
      let x = object_at t o in
      let u : State = after_mark s m o f in
      let hand : u.hand m ≡ marking (s.hand m) o f = upd-same s.hand m (marking (s.hand m) o f) m refl in
      let count : (s.word o).count ≡ x.count = ap (λ (w : Word). w.count) (shows.tables.objects o).word in
      let place : (s.word o).place ≡ place_of x.place = ap (λ (w : Word). w.place) (shows.tables.objects o).word in
      let same : act s (Marks m o f) ≡ u = ap (mark_at s m o f) place ∙ marks_yes s m o f x.count x.place count e in
      subst (λ (v : State). Shows content z t' berths v × (holds (v.hand m).leaving o ≡ true)) (sym same)
      (record { tables = told shows.tables inside; far = shows.far; many = shows.many; objects_few = shows.objects_few; frames_few = shows.frames_few; size = shows.size }, ap (λ (y : Hand). holds y.leaving o) hand ∙ eq-eqb o o refl)

  pub not_marked : (o f : ℕ) → (s.hand m).leaving ≡ None → is_at_rest_in (object_at t o) f ≡ false → MarkedSo o f t berths false
  not_marked o f none e =
      let x = object_at t o in
      let count : (s.word o).count ≡ x.count = ap (λ (w : Word). w.count) (shows.tables.objects o).word in
      let place : (s.word o).place ≡ place_of x.place = ap (λ (w : Word). w.place) (shows.tables.objects o).word in
      let same : act s (Marks m o f) ≡ s = ap (mark_at s m o f) place ∙ marks_no s m o f x.count x.place count e in
      subst (λ (v : State). Shows content z t berths v × (holds (v.hand m).leaving o ≡ false)) (sym same) (shows, ap (λ y. holds y o) none)

-- ---- clean objects that leave

leaves_yes : (s : State) (m o f c : ℕ) (x : ObjectPlace) → (s.word o).count ≡ c → is_clean_at x c f ≡ true → leave_at s m o f (place_of x) ≡ after_leave s m o f
leaves_yes s m o f c p.Away e q = cc
leaves_yes s m o f c (p.Coming j) e q = cc
leaves_yes s m o f c (p.Here g false) e q = cc
leaves_yes s m o f c (p.Here g true) e q = ap (λ n. cond ((g == f) && (n == 0)) (after_leave s m o f) s) e ∙ ap (λ b. cond b (after_leave s m o f) s) q
leaves_yes s m o f c (p.Leaving g j k) e q = cc

leaves_no : (s : State) (m o f c : ℕ) (x : ObjectPlace) → (s.word o).count ≡ c → is_clean_at x c f ≡ false → leave_at s m o f (place_of x) ≡ s
leaves_no s m o f c p.Away e q = refl
leaves_no s m o f c (p.Coming j) e q = refl
leaves_no s m o f c (p.Here g false) e q = refl
leaves_no s m o f c (p.Here g true) e q = ap (λ n. cond ((g == f) && (n == 0)) (after_leave s m o f) s) e ∙ ap (λ b. cond b (after_leave s m o f) s) q
leaves_no s m o f c (p.Leaving g j k) e q = refl

module _ {C : Type 0} (content : C → Option (List ℕ)) (z : Sizes) (t : Tables) (berths : Berths C) (m : ℕ) (s : State) (shows : Shows content z t berths s) where
  -- a try to have a clean object leave leads to a state that the tables show, and it is known whether the mover has the frame
  abbrev pub LeftSo : ℕ → ℕ → Tables → Berths C → Bool → Type 0
  LeftSo o f t' berths' b = let u : State = act s (Leaves m o f) in Shows content z t' berths' u × (holds (u.hand m).freed f ≡ b)

  pub left : (o f : ℕ) (t' : Tables) → o < z.objects → is_clean_in (object_at t o) f ≡ true
      → (Shown z t s → o < z.objects → AreTables z t' (upd s.word o (counted (s.word o).count Away)) s.note s.frame s.cell) → LeftSo o f t' berths true
  left o f t' inside e told =
      let x = object_at t o in
      let u : State = after_leave s m o f in
      let hand : u.hand m ≡ leaving (s.hand m) f = upd-same s.hand m (leaving (s.hand m) f) m refl in
      let count : (s.word o).count ≡ x.count = ap (λ (w : Word). w.count) (shows.tables.objects o).word in
      let place : (s.word o).place ≡ place_of x.place = ap (λ (w : Word). w.place) (shows.tables.objects o).word in
      let same : act s (Leaves m o f) ≡ u = ap (leave_at s m o f) place ∙ leaves_yes s m o f x.count x.place count e in
      subst (λ (v : State). Shows content z t' berths v × (holds (v.hand m).freed f ≡ true)) (sym same)
      (record { tables = told shows.tables inside; far = shows.far; many = shows.many; objects_few = shows.objects_few; frames_few = shows.frames_few; size = shows.size }, ap (λ (y : Hand). holds y.freed f) hand ∙ eq-eqb f f refl)

  pub not_left : (o f : ℕ) → (s.hand m).freed ≡ None → is_clean_in (object_at t o) f ≡ false → LeftSo o f t berths false
  not_left o f none e =
      let x = object_at t o in
      let count : (s.word o).count ≡ x.count = ap (λ (w : Word). w.count) (shows.tables.objects o).word in
      let place : (s.word o).place ≡ place_of x.place = ap (λ (w : Word). w.place) (shows.tables.objects o).word in
      let same : act s (Leaves m o f) ≡ s = ap (leave_at s m o f) place ∙ leaves_no s m o f x.count x.place count e in
      subst (λ (v : State). Shows content z t berths v × (holds (v.hand m).freed f ≡ false)) (sym same) (shows, ap (λ y. holds y f) none)

-- ---- whoever moves out

call_maps : {A : Type 0} (x : Option State) (f : Outcome → A) (go : State → Outcome) (r : State × Outcome) → after_call x go ≡ Some r → after_call x (λ t. f (go t)) ≡ Some (r.0, f r.1)
call_maps None f go r e = cc
call_maps (Some t) f go r e = let k : Some (t, go t) ≡ Some r = e in let q : (t, go t) ≡ r = cc in ap (λ (y : State × Outcome). Some (y.0, f y.1)) q

cond_maps : {A : Type 0} (n : ℕ) (s : State) (b : Bool) (f : Outcome → A) (x y : Turn Outcome) (x' y' : Turn A) (r : State × Outcome)
    → (taken n s x ≡ Some r → taken n s x' ≡ Some (r.0, f r.1)) → (taken n s y ≡ Some r → taken n s y' ≡ Some (r.0, f r.1))
    → taken n s (cond b x y) ≡ Some r → taken n s (cond b x' y') ≡ Some (r.0, f r.1)
cond_maps n s true f x y x' y' r p q e = p e
cond_maps n s false f x y x' y' r p q e = q e

pub evicts_maps : {A : Type 0} (n m : ℕ) (s : State) (a : Answer) (e : Eviction) (go : Eviction → A) (done failed : A) (r : State × Outcome)
    → taken n s (evicts n m a e On Done Failed) ≡ Some r → taken n s (evicts n m a e go done failed) ≡ Some (r.0, resumes go done failed r.1)
evicts_maps {A} n m s a (Copying o f words) go done failed r e =
    let g = resumes go done failed in
    cond_maps n s (nat_lt (length words) n) g
    (Calls (Copies m f (length words)) (λ t. On (Copying o f (words ++ t.cell f (length words) ∷ [])))) (Calls (Puts m o (put_of a.stored words)) (λ t. On (put_so a.stored o f)))
    (Calls (Copies m f (length words)) (λ t. go (Copying o f (words ++ t.cell f (length words) ∷ [])))) (Calls (Puts m o (put_of a.stored words)) (λ t. go (put_so a.stored o f))) r
    (call_maps (acts n s (Copies m f (length words))) g (λ t. On (Copying o f (words ++ t.cell f (length words) ∷ []))) r)
    (call_maps (acts n s (Puts m o (put_of a.stored words))) g (λ t. On (put_so a.stored o f)) r) e
evicts_maps n m s a (Stored o f) go done failed r e = call_maps (acts n s (Commits m o f)) (resumes go done failed) (λ t. On (committed_so (known (t.hand m).freed) o f)) r e
evicts_maps n m s a (NotStored o f) go done failed r e = call_maps (acts n s (Aborts m o f)) (resumes go done failed) (λ t. Failed) r e
evicts_maps n m s a (Refused o f) go done failed r e = call_maps (acts n s (Aborts m o f)) (resumes go done failed) (λ t. Done) r e
evicts_maps n m s a (Freed f) go done failed r e = call_maps (acts n s (Releases m f)) (resumes go done failed) (λ t. Done) r e

-- a turn of whoever moves out
pub leads_on : {A : Type 0} (n m : ℕ) (s : State) (e : Eviction) (honest : Answer → Type 0) (go : Eviction → A) (done failed : A) (P : State → Type 0) (o : Outcome) (q : A) → resumes go done failed o ≡ q
    → Leads n s (λ a. evicts n m a e On Done Failed) honest (λ u r. P u × (r ≡ o)) → Leads n s (λ a. evicts n m a e go done failed) honest (λ u r. P u × (r ≡ q))
leads_on n m s e honest go done failed P o q so l =
    let r = l.2.0 in
    (l.0, l.1, ((r.0, resumes go done failed r.1), evicts_maps n m s l.0 e go done failed r l.2.1, (l.2.2.0, ap (resumes go done failed) l.2.2.1 ∙ so)))
