-- The steps of visits as turns of an actor that moves objects out, as an evacuator does, at every machine in which they may have come.
use Rattle.std.proofs.Common.{◌≡◌, ◌≢◌, inl, inr, ℕ, zero, suc, ◌<◌, ◌≤◌, Bool, true, false, cond, List, [], ◌∷◌, ◌++◌, append_assoc, length, length-append, Option, Some, None, refl, sym, ap, ap₂, ◌∙◌, subst, arith, eq-eqb}
use Rattle.std.specs.Prelude.{◌⊎◌, nat_lt}
use Rattle.std.proofs.lemmas.Bool.{lt-ltb, le-ltb}
use Rattle.pointer_word.specs.Words.{Here, Leaving, Place, face}
use Rattle.pointer_word.specs.Hands.{Hand, known, listed}
use Rattle.pointer_word.specs.Machine.{Kept, State as Machine, Unknown, after_put}
use Rattle.pointer_word.specs.Calls.{Aborts, Call, Commits, Copies, Leaves, Marks, May, Puts, Releases, act}
use Rattle.pointer_word.specs.Legal.{acts, holds}
use Rattle.pointer_word.proofs.Bits.{is_clean, is_here, is_marked_here}
use Rattle.pointer_word.proofs.Legal.{may_legal}
use Rattle.pointer_word.proofs.Upd.{upd-same}
use Rattle.object_lock.specs.Seats.{Sizes, cell_word, frame_word}
use Rattle.object_lock.specs.Logs.{AreOf, Deed, deed}
use Rattle.object_lock.proofs.Mover.{commit_hits, commit_misses, mark_hits}
use Rattle.object_lock.proofs.Clean.{leave_hits}
use Rattle.object_moves.specs.declared.moved.Moved.TheVariants as M
use Rattle.object_moves.specs.Deeds.{aborts, copies, marked, marks, releases, tries}
use Rattle.object_moves.specs.Visits.{AreServed, LetsLeave, MovesOut, Visit, VisitLogged, VisitsLogged}
use Rattle.world_semantics.specs.declared.event.Choice.{Choice}
use Rattle.world_semantics.specs.declared.event.Choice.TheVariants as choice
use Rattle.world_semantics.specs.Programs.{Copying, Eviction, Freed, NotStored, Refused, Stored}
use Rattle.world_semantics.specs.Turns.{Answer, Calls, Turn, after_call, committed_so, evacuator_turn, evicts, put_of, put_so, taken}
use Rattle.mover_events.specs.Making.{EvacuatorMakes, MakesCall, MakesSteps, MayCome, reads_nothing}

-- the store answers a put so
abbrev pub answers : Bool → Answer
answers b = record { stored = b; read = None; grew = true }

-- some steps, and then others
pub makes_on : {A : Type 0} (z : Sizes) (turn : Machine → A → Choice → Answer → Turn A) (reads : Machine → A → Option (List ℕ) → Type 0) (reliable honest : Type 0) (a b c : A) (ds es : List Deed) → MakesSteps z turn reads reliable honest a ds b → MakesSteps z turn reads reliable honest b es c
    → MakesSteps z turn reads reliable honest a (ds ++ es) c
makes_on z turn reads reliable honest a b c [] es first then = subst (λ x. MakesSteps z turn reads reliable honest x es c) first then
makes_on z turn reads reliable honest a b c (d ∷ ds) es first then = (first.0, first.1, makes_on z turn reads reliable honest first.0 b c ds es first.2 then)

-- a call that may be made is one that the machine makes
made : (h : Type 0) (n : ℕ) (x : Machine) (c : Call) → May h n x c → acts n x c ≡ Some (act x c)
made h n x c may = ap (λ (b : Bool). cond b (Some (act x c)) None) (may_legal h n x c may)

-- what an actor is behind a call is told by what the call leaves
pub turned : {A : Type 0} (h : Type 0) (n : ℕ) (x : Machine) (c : Call) (go : Machine → A) (b : A) → May h n x c → go (act x c) ≡ b → after_call (acts n x c) go ≡ Some (act x c, b)
turned {A} h n x c go b may is = ap (λ (t : Option Machine). after_call t go) (made h n x c may) ∙ ap (λ (e : A). Some (act x c, e)) is

-- An actor moves objects out as the mover m of pieces of n cells: so it is at each point of that, and so before and behind it; so where the store failed
pub record MovesObjects {A : Type 0} (n m : ℕ) (turn : Machine → A → Choice → Answer → Turn A) (at : Eviction → A) (idle failed : A) : Type 0 where
  pub next : (x : Machine) (e : Eviction) (a : Answer) → turn x (at e) choice.Next a ≡ evicts n m a e at idle failed
  pub mark : (x : Machine) (o f : ℕ) (a : Answer) → turn x idle (choice.Mark o f) a ≡ Calls (Marks m o f) (λ t. cond (holds (t.hand m).leaving o) (at (Copying o f [])) idle)
  pub leave : (x : Machine) (o f : ℕ) (a : Answer) → turn x idle (choice.Leave o f) a ≡ Calls (Leaves m o f) (λ t. cond (holds (t.hand m).freed f) (at (Freed f)) idle)

-- ---- the turns of such an actor, each with what is known of the machine at which it comes

module _ {A : Type 0} (z : Sizes) (m : ℕ) (turn : Machine → A → Choice → Answer → Turn A) (at : Eviction → A) (idle failed : A) (moves : MovesObjects z.cells m turn at idle failed) (h : Type 0) (x : Machine) where
  abbrev Makes : A → Call → A → Type 0
  Makes a c b = MakesCall z turn a x c b

  -- the next copy, and the put behind the last
  abbrev copy_turn : ℕ → ℕ → List ℕ → Turn A
  copy_turn o f words = Calls (Copies m f (length words)) (λ t. at (Copying o f (words ++ t.cell f (length words) ∷ [])))

  abbrev put_turn : Bool → ℕ → ℕ → List ℕ → Turn A
  put_turn b o f words = Calls (Puts m o (put_of b words)) (λ t. at (put_so b o f))

  -- what is next, by a call that may be made, behind which it is so
  next_made : (e : Eviction) (b : Bool) (c : Call) (go : Machine → A) (then : A) → evicts z.cells m (answers b) e at idle failed ≡ Calls c go → May h z.cells x c → go (act x c) ≡ then → Makes (at e) c then
  next_made e b c go then is may so = (choice.Next, answers b, tt, refl, ap (taken z.cells x) (moves.next x e (answers b) ∙ is) ∙ turned h z.cells x c go then may so)

  marks_there : (o f : ℕ) → o < z.objects → f < z.frames → May h z.cells x (Marks m o f) → (x.word o).place ≡ Here f false → (x.word o).count ≡ 0 → Makes idle (Marks m o f) (at (Copying o f []))
  marks_there o f near low may place count =
      let hand : ((act x (Marks m o f)).hand m).leaving ≡ Some o = ap (λ (t : Machine). (t.hand m).leaving) (mark_hits x m o f place count) ∙ ap (λ (y : Hand). y.leaving) (upd-same x.hand m _ m refl) in
      let held : holds ((act x (Marks m o f)).hand m).leaving o ≡ true = ap (λ (p : Option ℕ). holds p o) hand ∙ eq-eqb o o refl in
      (choice.Mark o f, answers true, (near, low), refl, ap (taken z.cells x) (moves.mark x o f (answers true)) ∙ turned h z.cells x (Marks m o f) _ (at (Copying o f [])) may (ap (λ (b : Bool). cond b (at (Copying o f [])) idle) held))

  leaves_there : (o f : ℕ) → o < z.objects → f < z.frames → May h z.cells x (Leaves m o f) → (x.word o).place ≡ Here f true → (x.word o).count ≡ 0 → Makes idle (Leaves m o f) (at (Freed f))
  leaves_there o f near low may place count =
      let hand : ((act x (Leaves m o f)).hand m).freed ≡ Some f = ap (λ (t : Machine). (t.hand m).freed) (leave_hits x m o f place count) ∙ ap (λ (y : Hand). y.freed) (upd-same x.hand m _ m refl) in
      let held : holds ((act x (Leaves m o f)).hand m).freed f ≡ true = ap (λ (p : Option ℕ). holds p f) hand ∙ eq-eqb f f refl in
      (choice.Leave o f, answers true, (near, low), refl, ap (taken z.cells x) (moves.leave x o f (answers true)) ∙ turned h z.cells x (Leaves m o f) _ (at (Freed f)) may (ap (λ (b : Bool). cond b (at (Freed f)) idle) held))

  copies_there : (o f k v : ℕ) (words : List ℕ) → length words ≡ k → k < z.cells → May h z.cells x (Copies m f k) → v ≡ x.cell f k → Makes (at (Copying o f words)) (Copies m f k) (at (Copying o f (words ++ v ∷ [])))
  copies_there o f k v words long low may is =
      let less : nat_lt (length words) z.cells ≡ true = lt-ltb (length words) z.cells (omega (arith, long)) in
      next_made (Copying o f words) true (Copies m f k) (λ t. at (Copying o f (words ++ t.cell f k ∷ []))) (at (Copying o f (words ++ v ∷ [])))
      (ap (λ (b : Bool). cond b (copy_turn o f words) (put_turn true o f words)) less ∙ ap (λ (i : ℕ). Calls (Copies m f i) (λ (t : Machine). at (Copying o f (words ++ t.cell f i ∷ [])))) long)
      may (ap (λ (w : ℕ). at (Copying o f (words ++ w ∷ []))) (sym is))

  -- a put behind the last copy, which succeeds or not
  put_there : (o f : ℕ) (words : List ℕ) (b : Bool) → length words ≡ z.cells → May h z.cells x (Puts m o (put_of b words)) → Makes (at (Copying o f words)) (Puts m o (put_of b words)) (at (put_so b o f))
  put_there o f words b long may =
      next_made (Copying o f words) b (Puts m o (put_of b words)) (λ t. at (put_so b o f)) (at (put_so b o f)) (ap (λ (c : Bool). cond c (copy_turn o f words) (put_turn b o f words)) (le-ltb (length words) z.cells (omega (arith, long)))) may refl

  commits_there : (o f : ℕ) → May h z.cells x (Commits m o f) → (x.word o).place ≡ Leaving f m true → (x.word o).count ≡ 0 → Makes (at (Stored o f)) (Commits m o f) (at (Freed f))
  commits_there o f may place count =
      let hand : ((act x (Commits m o f)).hand m).freed ≡ Some f = ap (λ (t : Machine). (t.hand m).freed) (commit_hits x m o f place count) ∙ ap (λ (y : Hand). y.freed) (upd-same x.hand m _ m refl) in
      next_made (Stored o f) true (Commits m o f) _ (at (Freed f)) refl may (ap (λ (p : Option ℕ). at (committed_so (known p) o f)) hand)

  commits_in_vain_there : (o f : ℕ) → May h z.cells x (Commits m o f) → ((x.word o).place ≡ Leaving f m true → (x.word o).count ≡ 0 → ⊥) → Makes (at (Stored o f)) (Commits m o f) (at (Refused o f))
  commits_in_vain_there o f may miss =
      let hand : ((act x (Commits m o f)).hand m).freed ≡ None = ap (λ (t : Machine). (t.hand m).freed) (commit_misses x m o f (x.word o).place miss) ∙ may.2 in
      next_made (Stored o f) true (Commits m o f) _ (at (Refused o f)) refl may (ap (λ (p : Option ℕ). at (committed_so (known p) o f)) hand)

  aborts_there : (o f : ℕ) → May h z.cells x (Aborts m o f) → Makes (at (Refused o f)) (Aborts m o f) idle
  aborts_there o f may = next_made (Refused o f) true (Aborts m o f) _ idle refl may refl

  aborts_unstored_there : (o f : ℕ) → May h z.cells x (Aborts m o f) → Makes (at (NotStored o f)) (Aborts m o f) failed
  aborts_unstored_there o f may = next_made (NotStored o f) true (Aborts m o f) _ failed refl may refl

  releases_there : (f : ℕ) → May h z.cells x (Releases m f) → Makes (at (Freed f)) (Releases m f) idle
  releases_there f may = next_made (Freed f) true (Releases m f) _ idle refl may refl

-- ---- the words that were copied so far

abbrev firsts : List ℕ → ℕ → List ℕ
firsts ws zero = []
firsts ws (suc k) = firsts ws k ++ listed ws k ∷ []

firsts_long : (ws : List ℕ) (k : ℕ) → length (firsts ws k) ≡ k
firsts_long ws zero = refl
firsts_long ws (suc k) = omega (arith, length-append (firsts ws k) (listed ws k ∷ []), firsts_long ws k)

firsts_behind : (w : ℕ) (ws : List ℕ) (k : ℕ) → firsts (w ∷ ws) (suc k) ≡ w ∷ firsts ws k
firsts_behind w ws zero = refl
firsts_behind w ws (suc k) = ap (λ (us : List ℕ). us ++ listed ws k ∷ []) (firsts_behind w ws k)

all_firsts : (ws : List ℕ) → firsts ws (length ws) ≡ ws
all_firsts [] = refl
all_firsts (w ∷ ws) = firsts_behind w ws (length ws) ∙ ap (λ (us : List ℕ). w ∷ us) (all_firsts ws)

-- ---- steps that no owner makes

-- no call of these steps is one that an owner alone makes
abbrev pub HaveNoOwner : List Deed → Type 0
HaveNoOwner [] = Unit {0}
HaveNoOwner (d ∷ ds) = AreOf (λ o. ⊥) d.calls × HaveNoOwner ds

pub both_no_owner : (ds es : List Deed) → HaveNoOwner ds → HaveNoOwner es → HaveNoOwner (ds ++ es)
both_no_owner [] es a b = b
both_no_owner (d ∷ ds) es a b = (a.0, both_no_owner ds es a.1 b)

pub none_some : (o : ℕ) → None ≡ Some o → ⊥
none_some o e = cc

copies_no_owner : (z : Sizes) (m f : ℕ) (ws : List ℕ) (k : ℕ) → HaveNoOwner (copies z m f ws k)
copies_no_owner z m f ws zero = tt
copies_no_owner z m f ws (suc k) = both_no_owner (copies z m f ws k) (deed (cell_word z f k) (listed ws k) (Copies m f k) ∷ []) (copies_no_owner z m f ws k) ((none_some, tt), tt)

module _ {A : Type 0} (z : Sizes) (m : ℕ) (turn : Machine → A → Choice → Answer → Turn A) (reads : Machine → A → Option (List ℕ) → Type 0) (at : Eviction → A) (idle failed : A) (moves : MovesObjects z.cells m turn at idle failed)
    (reliable honest : Type 0) (narrow : z.frames ≤ 1048576) (low_mover : m < 65536) where
  abbrev Makes_steps : A → List Deed → A → Type 0
  Makes_steps a ds b = MakesSteps z turn reads reliable honest a ds b

  -- ---- single steps

  -- one step that makes one call, wherever it comes
  one_so : (a b : A) (k i : ℕ) (c : Call) → ((x : Machine) → MayCome honest z x (deed k i c) → MakesCall z turn a x c b) → Makes_steps a (deed k i c ∷ []) b
  one_so a b k i c makes = (b, (λ x may. inl (b, makes x may, refl)), refl)

  marks_so : (o f : ℕ) → o < z.objects → f < z.frames → Makes_steps idle (marks m o f ∷ []) (at (Copying o f []))
  marks_so o f near low = one_so idle (at (Copying o f [])) o (face (Here f false) 0) (Marks m o f) (λ x c.
      let w = c.shown.object near in let there = is_here (x.word o).place (x.word o).count f 0 w.1.1 w.1.0 (omega arith) (omega arith) (sym w.0) in
      marks_there z m turn at idle failed moves honest x o f near low c.may.0 there.0 there.1)

  copies_so : (o f : ℕ) (ws : List ℕ) (k : ℕ) → f < z.frames → k ≤ z.cells → Makes_steps (at (Copying o f [])) (copies z m f ws k) (at (Copying o f (firsts ws k)))
  copies_so o f ws zero low l = refl
  copies_so o f ws (suc k) low l =
      let one = one_so (at (Copying o f (firsts ws k))) (at (Copying o f (firsts ws (suc k)))) (cell_word z f k) (listed ws k) (Copies m f k)
      (λ x c. copies_there z m turn at idle failed moves honest x o f k (listed ws k) (firsts ws k) (firsts_long ws k) (omega arith) c.may.0 (c.shown.cell f k low (omega arith) refl)) in
      makes_on z turn reads reliable honest (at (Copying o f [])) (at (Copying o f (firsts ws k))) (at (Copying o f (firsts ws (suc k)))) (copies z m f ws k) _ (copies_so o f ws k low (omega arith)) one

  copied_so : (o f : ℕ) (ws : List ℕ) → f < z.frames → length ws ≡ z.cells → Makes_steps (at (Copying o f [])) (copies z m f ws z.cells) (at (Copying o f ws))
  copied_so o f ws low long =
      let all : firsts ws z.cells ≡ ws = ap (firsts ws) (sym long) ∙ all_firsts ws in
      subst (λ (us : List ℕ). Makes_steps (at (Copying o f [])) (copies z m f ws z.cells) (at (Copying o f us))) all (copies_so o f ws z.cells low (omega arith))

  tries_so : (o f : ℕ) (ws : List ℕ) (e : Eviction) (k : ℕ) → length ws ≡ z.cells → ((x : Machine) → MayCome honest z x (tries m o f ws k) → MakesCall z turn (at (Stored o f)) (after_put x o (Kept ws)) (Commits m o f) (at e))
      → Makes_steps (at (Copying o f ws)) (tries m o f ws k ∷ []) (at e)
  tries_so o f ws e k long then = (at e, (λ x c. inl (at (Stored o f), put_there z m turn at idle failed moves honest x o f ws true long c.may.0, (at e, then x c, refl))), refl)

  left_so : (o f : ℕ) (ws : List ℕ) → o < z.objects → f < z.frames → length ws ≡ z.cells → Makes_steps (at (Copying o f ws)) (tries m o f ws (marked m f) ∷ []) (at (Freed f))
  left_so o f ws near low long = tries_so o f ws (Freed f) (marked m f) long (λ x c.
      let w = c.shown.object near in let there = is_marked_here (x.word o).place (x.word o).count f m 0 w.1.1 w.1.0 (omega arith) (omega arith) low_mover (sym w.0) in
      commits_there z m turn at idle failed moves honest (after_put x o (Kept ws)) o f c.may.1.0 there.0 there.1)

  refused_so : (o f : ℕ) (ws : List ℕ) (k : ℕ) → o < z.objects → k ≢ marked m f → length ws ≡ z.cells → Makes_steps (at (Copying o f ws)) (tries m o f ws k ∷ []) (at (Refused o f))
  refused_so o f ws k near miss long = tries_so o f ws (Refused o f) k long (λ x c.
      let w = c.shown.object near in
      commits_in_vain_there z m turn at idle failed moves honest (after_put x o (Kept ws)) o f c.may.1.0 (λ e d. miss (w.0 ∙ ap₂ (λ (p : Place) (i : ℕ). face p i) e d)))

  released_so : (f i : ℕ) → Makes_steps (at (Freed f)) (releases z m f i ∷ []) idle
  released_so f i = one_so (at (Freed f)) idle (frame_word z f) i (Releases m f) (λ x c. releases_there z m turn at idle failed moves honest x f c.may.0)

  aborted_so : (o f i : ℕ) → Makes_steps (at (Refused o f)) (aborts m o f i ∷ []) idle
  aborted_so o f i = one_so (at (Refused o f)) idle o i (Aborts m o f) (λ x c. aborts_there z m turn at idle failed moves honest x o f c.may.0)

  unstored_so : (reliable → ⊥) → (o f : ℕ) (ws : List ℕ) (i : ℕ) → length ws ≡ z.cells → Makes_steps (at (Copying o f ws)) (aborts m o f i ∷ []) failed
  unstored_so unsure o f ws i long = (
    failed,
    (λ x c.
        inr (inl (
          unsure,
          m,
          o,
          (
            at (NotStored o f),
            put_there z m turn at idle failed moves honest x o f ws false long (c.may.0.0, tt),
            (failed, aborts_unstored_there z m turn at idle failed moves honest (after_put x o Unknown) o f c.may.0, refl),
          ),
        ))),
    refl,
  )

  left_clean_so : (o f : ℕ) → o < z.objects → f < z.frames → Makes_steps idle (deed o (face (Here f true) 0) (Leaves m o f) ∷ []) (at (Freed f))
  left_clean_so o f near low = one_so idle (at (Freed f)) o (face (Here f true) 0) (Leaves m o f) (λ x c.
      let w = c.shown.object near in let there = is_clean (x.word o).place (x.word o).count f 0 w.1.1 w.1.0 (omega arith) (omega arith) (sym w.0) in
      leaves_there z m turn at idle failed moves honest x o f near low c.may.0 there.0 there.1)

  -- ---- visits

  on : (a b c : A) (ds es : List Deed) → Makes_steps a ds b → Makes_steps b es c → Makes_steps a (ds ++ es) c
  on a b c ds es = makes_on z turn reads reliable honest a b c ds es

  -- the log grew by steps that lead the actor to there, of which no owner makes one
  abbrev Grows : List Deed → List Deed → A → Type 0
  Grows old new b = (ds : List Deed) × (new ≡ old ++ ds) × Makes_steps idle ds b × HaveNoOwner ds

  moved_so : (o f : ℕ) (ws : List ℕ) (es : List Deed) (old new : List Deed) (b : A) → o < z.objects → f < z.frames → length ws ≡ z.cells → Makes_steps (at (Copying o f ws)) es b → HaveNoOwner es
      → new ≡ (old ++ marks m o f ∷ []) ++ (copies z m f ws z.cells ++ es) → Grows old new b
  moved_so o f ws es old new b near low long then others e = (
    marks m o f ∷ (copies z m f ws z.cells ++ es),
    e ∙ append_assoc old (marks m o f ∷ []) (copies z m f ws z.cells ++ es),
    on idle (at (Copying o f [])) b (marks m o f ∷ []) (copies z m f ws z.cells ++ es) (marks_so o f near low)
        (on (at (Copying o f [])) (at (Copying o f ws)) b (copies z m f ws z.cells) es (copied_so o f ws low long) then),
    ((none_some, tt), both_no_owner (copies z m f ws z.cells) es (copies_no_owner z m f ws z.cells) others),
  )

  -- how the actor is behind a visit
  abbrev pub behind_visit : Visit → A
  behind_visit (MovesOut o f M.Failed) = failed
  behind_visit (MovesOut o f M.Left) = idle
  behind_visit (MovesOut o f M.Stayed) = idle
  behind_visit (LetsLeave f) = idle

  pub visit_so : (v : Visit) (old new : List Deed) → (reliable → AreServed (v ∷ [])) → VisitLogged z m v old new → Grows old new (behind_visit v)
  visit_so (MovesOut o f M.Left) old new ok l =
      moved_so o f l.2 _ old new idle l.0 l.1 l.3 (on (at (Copying o f l.2)) (at (Freed f)) idle (tries m o f l.2 (marked m f) ∷ []) (releases z m f l.4.0 ∷ []) (left_so o f l.2 l.0 l.1 l.3) (released_so f l.4.0))
      ((none_some, (none_some, tt)), ((none_some, tt), tt)) l.4.1
  visit_so (MovesOut o f M.Stayed) old new ok l =
      moved_so o f l.2 _ old new idle l.0 l.1 l.3 (on (at (Copying o f l.2)) (at (Refused o f)) idle (tries m o f l.2 l.4.0 ∷ []) (aborts m o f l.4.1 ∷ []) (refused_so o f l.2 l.4.0 l.0 l.4.2 l.3) (aborted_so o f l.4.1))
      ((none_some, (none_some, tt)), ((none_some, tt), tt)) l.4.3
  visit_so (MovesOut o f M.Failed) old new ok l = moved_so o f l.2 _ old new failed l.0 l.1 l.3 (unstored_so ok o f l.2 l.4.0 l.3) ((none_some, tt), tt) l.4.1
  visit_so (LetsLeave f) old new ok l = (
    _,
    l.3.1,
    on idle (at (Freed f)) idle (deed l.0 (face (Here f true) 0) (Leaves m l.0 f) ∷ []) (releases z m f l.3.0 ∷ []) (left_clean_so l.0 f l.1 l.2) (released_so f l.3.0),
    ((none_some, tt), ((none_some, tt), tt)),
  )

  -- of what was served the first was, and the others
  first_served : (v : Visit) (vs : List Visit) → AreServed (v ∷ vs) → AreServed (v ∷ []) × AreServed vs
  first_served (MovesOut o f M.Left) vs ok = (tt, ok)
  first_served (MovesOut o f M.Stayed) vs ok = (tt, ok)
  first_served (MovesOut o f M.Failed) vs ok = absurd ok
  first_served (LetsLeave f) vs ok = (tt, ok)

  -- behind the first of these visits it is as before it: at none of them a put was refused, or it goes on there all the same
  goes_on : (v : Visit) (vs : List Visit) → AreServed (v ∷ vs) ⊎ (failed ≡ idle) → (behind_visit v ≡ idle) × (AreServed vs ⊎ (failed ≡ idle))
  goes_on (MovesOut o f M.Left) vs all = (refl, all)
  goes_on (MovesOut o f M.Stayed) vs all = (refl, all)
  goes_on (MovesOut o f M.Failed) vs all = elim all [ inl bad ↦ absurd bad | inr same ↦ (same, inr same) ]
  goes_on (LetsLeave f) vs all = (refl, all)

  pub visits_so : (vs : List Visit) (old new : List Deed) → (reliable → AreServed vs) → AreServed vs ⊎ (failed ≡ idle) → VisitsLogged z m vs old new → Grows old new idle
  visits_so [] old new ok all l = ([], l ∙ nothing_behind old, refl, tt)
    where
      nothing_behind : (ds : List Deed) → ds ≡ ds ++ []
      nothing_behind [] = refl
      nothing_behind (d ∷ ds) = ap (λ (es : List Deed). d ∷ es) (nothing_behind ds)
  visits_so (v ∷ vs) old new ok all l =
      let then = goes_on v vs all in
      let first = subst (λ b. Grows old l.0 b) then.0 (visit_so v old l.0 (λ sure. (first_served v vs (ok sure)).0) l.1) in
      let rest = visits_so vs l.0 new (λ sure. (first_served v vs (ok sure)).1) then.1 l.2 in (
        first.0 ++ rest.0,
        rest.1 ∙ ap (λ (ds : List Deed). ds ++ rest.0) first.1 ∙ append_assoc old first.0 rest.0,
        on idle idle idle first.0 rest.0 first.2 rest.2,
        both_no_owner first.0 rest.0 first.3 rest.3,
      )

-- ---- an evacuator

-- an evacuator moves objects out, and is idle where a put was refused
pub evacuator_moves : (n m : ℕ) → MovesObjects n m (λ x. evacuator_turn n m) Some None None
evacuator_moves n m = record { next = λ x e a. refl; mark = λ x o f a. refl; leave = λ x o f a. refl }

-- what came to its log by visits are steps that it makes
pub visits_made : (reliable honest : Type 0) (z : Sizes) (m : ℕ) → z.frames ≤ 1048576 → m < 65536 → (vs : List Visit) (old new : List Deed) → (reliable → AreServed vs) → VisitsLogged z m vs old new → (ds : List Deed) × (new ≡ old ++ ds) × EvacuatorMakes reliable honest z m ds
visits_made reliable honest z m narrow low vs old new ok l =
    let all = visits_so z m (λ x. evacuator_turn z.cells m) reads_nothing Some None None (evacuator_moves z.cells m) reliable honest narrow low vs old new ok (inr refl) l in (all.0, all.1, all.2)
