-- One list of steps of a table, seat by seat, as one list of events of a world.
use Rattle.std.proofs.Common.{◌≡◌, ◌≢◌, ℕ, zero, suc, ◌+◌, ◌-◌, ◌<◌, ◌≤◌, Bool, true, false, cond, ◌&&◌, List, [], ◌∷◌, ◌++◌, inl, inr, refl, sym, ap, ap₂, ◌∙◌, subst, arith, eq-eqb, ne_eqb}
use Rattle.std.specs.Prelude.{◌==◌, ◌⊎◌, Option, Some, None}
use Rattle.std.proofs.lemmas.Bool.{lt-ltb}
use Rattle.std.proofs.lemmas.Bool.Decides.{eqb_tells, leb_tells}
use Rattle.code_form.specs.Form.{Image}
use Rattle.pointer_word.specs.Calls.{Call, Runs, act}
use Rattle.pointer_word.specs.Hands.{upd}
use Rattle.pointer_word.specs.Machine.{Far, Kept, Never, State, Unknown, opening}
use Rattle.pointer_word.specs.Sound.{Inv}
use Rattle.pointer_word.proofs.Runs.{keeps_runs, opens_well}
use Rattle.pointer_word.proofs.Upd.{upd-other, upd-same}
use Rattle.object_lock.specs.Logs.{AreOwn, AreOwners, Deed, Follows, act_all, calls_of, is_kept}
use Rattle.object_lock.specs.Seats.{Sizes}
use Rattle.world_semantics.specs.declared.event.Actor.{Actor}
use Rattle.world_semantics.specs.declared.event.Actor.TheVariants as actor
use Rattle.world_semantics.specs.declared.event.Choice.{Choice}
use Rattle.world_semantics.specs.declared.event.Choice.TheVariants as choice
use Rattle.world_semantics.specs.Fetchers.{Fetching, as_mode}
use Rattle.world_semantics.specs.Programs.{Bringing, Closing, Evicting, Filling, Missing, Mode, Program, Reading, Ready, Releasing, Retreating, Setting, Wanted}
use Rattle.world_semantics.specs.Turns.{Answer, Turn, evacuator_turn, fetcher_turn, program_turn, taken}
use Rattle.world_semantics.specs.Worlds as worlds
use Rattle.world_semantics.specs.Worlds.{Event, FetchesHonestly, IsHonest, IsHonestRead, ReadsHonestly, World, acted, event, in_range, is_actor, setting, start, with_evacuator, with_fetcher, with_program}
use Rattle.mover_events.specs.Making.{IsThere, MakesCalls, MakesStep, reads_nothing}
use Rattle.mover_events.specs.Parts.{AreSteps, EvacuatorMakesThem, FetcherMakesThem, NotesStay, kept_at}
use Rattle.mover_events.proofs.Notes.{notes_stay}
use Rattle.mover_events.proofs.Parts.{parts_are, run_parts}
use Rattle.mover_events.proofs.Unkept.{step_stays}
use Rattle.session_events.specs.Knowing.{Fits, IsOwn, Known, learned}
use Rattle.session_events.specs.Laws.{unused}
use Rattle.session_events.specs.Listed.{MakesOwn, WaitsOn, reads_of}
use Rattle.session_events.specs.OneWorld.{AreMadeByActors, IsOneWorld, world_sizes}

-- ---- an answer that reads nothing is one of an honest store

nothing_read : (n : ℕ) (far : Far) → IsHonestRead n far None
nothing_read n Never = tt
nothing_read n (Kept ws) = tt
nothing_read n Unknown = tt

no_mode_reads : (n : ℕ) (s : State) (m : Mode) → ReadsHonestly n s m None
no_mode_reads n s Ready = tt
no_mode_reads n s (Missing o) = tt
no_mode_reads n s (Bringing o) = tt
no_mode_reads n s (Reading o f) = nothing_read n (s.far o)
no_mode_reads n s (Filling o f ws k) = tt
no_mode_reads n s (Evicting o e) = tt
no_mode_reads n s (Releasing o f) = tt
no_mode_reads n s (Retreating o) = tt
no_mode_reads n s Closing = tt
no_mode_reads n s (Wanted w) = tt

no_fetcher_reads : (n : ℕ) (s : State) (d : Option Fetching) → FetchesHonestly n s d None
no_fetcher_reads n s None = tt
no_fetcher_reads n s (Some d) = no_mode_reads n s (as_mode d)

-- ---- one actor of a world

-- all actors but this one are as they were
pub record Others (a : Actor) (w v : World) : Type 0 where
  pub programs : (i : ℕ) → a ≢ actor.Program i → v.programs i ≡ w.programs i
  pub evacuators : (i : ℕ) → a ≢ actor.Evacuator i → v.evacuators i ≡ w.evacuators i
  pub fetchers : (i : ℕ) → a ≢ actor.Fetcher i → v.fetchers i ≡ w.fetchers i

others_same : (a : Actor) (w : World) → Others a w w
others_same a w = record { programs = λ i ne. refl; evacuators = λ i ne. refl; fetchers = λ i ne. refl }

others_on : (a : Actor) (w u v : World) → Others a w u → Others a u v → Others a w v
others_on a w u v x y = record { programs = λ i ne. y.programs i ne ∙ x.programs i ne; evacuators = λ i ne. y.evacuators i ne ∙ x.evacuators i ne; fetchers = λ i ne. y.fetchers i ne ∙ x.fetchers i ne }

-- where an actor stands in a world, and what it does there
pub record Part {A : Type 0} (wz : worlds.Sizes) (images : ℕ → Image) (turn : State → A → Choice → Answer → Turn A) (reads : State → A → Option (List ℕ) → Type 0) : Type 0 where
  pub who : Actor
  pub get : World → A
  pub set : World → State → A → World
  pub there : is_actor wz who ≡ true
  pub acts : (w : World) (v : Choice) (r : Answer) (s : State) (b : A) → taken wz.cells w.lock (turn w.lock (get w) v r) ≡ Some (s, b) → acted wz images w who v r ≡ Some (set w s b)
  pub lock : (w : World) (s : State) (b : A) → (set w s b).lock ≡ s
  pub got : (w : World) (s : State) (b : A) → get (set w s b) ≡ b
  pub others : (w : World) (s : State) (b : A) → Others who w (set w s b)
  pub honest : (w : World) (r : Answer) → reads w.lock (get w) r.read → IsHonest wz w who r
  pub none : (s : State) (a : A) → reads s a None

abbrev program_part : (wz : worlds.Sizes) (images : ℕ → Image) (k : ℕ) → k < wz.programs → Part wz images (program_turn (setting wz images k)) (reads_of (setting wz images k))
program_part wz images k l = record {
  who = actor.Program k;
  get = λ w. w.programs k;
  set = λ w s b. record w { lock = s; programs = upd w.programs k b };
  there = lt-ltb k wz.programs l;
  acts = λ w v r s b e. ap (with_program w k) e;
  lock = λ w s b. refl;
  got = λ w s b. upd-same w.programs k b k refl;
  others = λ w s b. record { programs = λ i ne. upd-other w.programs k b i (λ e. ne (ap actor.Program (sym e))); evacuators = λ i ne. refl; fetchers = λ i ne. refl };
  honest = λ w r is. is;
  none = λ s p. no_mode_reads wz.cells s p.mode;
}

abbrev evacuator_part : (wz : worlds.Sizes) (images : ℕ → Image) (k : ℕ) → k < wz.evacuators → Part wz images (λ x. evacuator_turn wz.cells (suc (wz.programs + k))) reads_nothing
evacuator_part wz images k l = record {
  who = actor.Evacuator k;
  get = λ w. w.evacuators k;
  set = λ w s b. record w { lock = s; evacuators = upd w.evacuators k b };
  there = lt-ltb k wz.evacuators l;
  acts = λ w v r s b e. ap (with_evacuator w k) e;
  lock = λ w s b. refl;
  got = λ w s b. upd-same w.evacuators k b k refl;
  others = λ w s b. record { programs = λ i ne. refl; evacuators = λ i ne. upd-other w.evacuators k b i (λ e. ne (ap actor.Evacuator (sym e))); fetchers = λ i ne. refl };
  honest = λ w r is. tt;
  none = λ s a. tt;
}

abbrev fetcher_part : (wz : worlds.Sizes) (images : ℕ → Image) (k : ℕ) → k < wz.fetchers → Part wz images (λ x. fetcher_turn wz.cells (suc (wz.programs + wz.evacuators + k))) (FetchesHonestly wz.cells)
fetcher_part wz images k l = record {
  who = actor.Fetcher k;
  get = λ w. w.fetchers k;
  set = λ w s b. record w { lock = s; fetchers = upd w.fetchers k b };
  there = lt-ltb k wz.fetchers l;
  acts = λ w v r s b e. ap (with_fetcher w k) e;
  lock = λ w s b. refl;
  got = λ w s b. upd-same w.fetchers k b k refl;
  others = λ w s b. record { programs = λ i ne. refl; evacuators = λ i ne. refl; fetchers = λ i ne. upd-other w.fetchers k b i (λ e. ne (ap actor.Fetcher (sym e))) };
  honest = λ w r is. is;
  none = λ s d. no_fetcher_reads wz.cells s d;
}

module _ (reliable honest : Type 0) (sure : reliable) (z : Sizes) (programs evacuators fetchers : ℕ) (images : ℕ → Image) where
  abbrev wz : worlds.Sizes
  wz = world_sizes z programs evacuators fetchers

  abbrev Goes : World → List Event → World → Type 0
  Goes w es v = worlds.Follows honest wz images w es v

  goes_on : (es fs : List Event) (w u v : World) → Goes w es u → Goes u fs v → Goes w (es ++ fs) v
  goes_on [] fs w u v a b = subst (λ (x : World). Goes x fs v) a b
  goes_on (e ∷ es) fs w u v a b = (a.0, a.1, a.2, goes_on es fs a.0 u v a.3 b)

  in_range_of : (v : Choice) → IsThere z v → in_range wz v ≡ true
  in_range_of choice.Next l = refl
  in_range_of (choice.Look f) l = lt-ltb f z.frames l
  in_range_of (choice.Claim f) l = lt-ltb f z.frames l
  in_range_of (choice.Mark o f) l = ap₂ (λ (a b : Bool). a && b) (lt-ltb o z.objects l.0) (lt-ltb f z.frames l.1)
  in_range_of (choice.Leave o f) l = ap₂ (λ (a b : Bool). a && b) (lt-ltb o z.objects l.0) (lt-ltb f z.frames l.1)
  in_range_of (choice.Begin o) l = lt-ltb o z.objects l

  -- some events lead the world w to one with this machine, in which the actor is this, and all others are as they were
  abbrev Comes : {A : Type 0} {turn : State → A → Choice → Answer → Turn A} {reads : State → A → Option (List ℕ) → Type 0} → Part wz images turn reads → World → State → A → Type 0
  Comes part w s b = (es : List Event) × (v : World) × Goes w es v × (v.lock ≡ s) × (part.get v ≡ b) × Others part.who w v

  module _ {A : Type 0} (turn : State → A → Choice → Answer → Turn A) (reads : State → A → Option (List ℕ) → Type 0) (part : Part wz images turn reads) where
    here : (w : World) (s : State) (a : A) → w.lock ≡ s → part.get w ≡ a → Comes part w s a
    here w s a lock is = ([], w, refl, lock, is, others_same part.who w)

    behind : (w : World) (s t : State) (a b : A) → Comes part w s a → ((u : World) → u.lock ≡ s → part.get u ≡ a → Comes part u t b) → Comes part w t b
    behind w s t a b first rest = let r = rest first.1 first.3 first.4 in (first.0 ++ r.0, r.1, goes_on first.0 r.0 w first.1 r.1 first.2 r.2, r.3, r.4, others_on part.who w first.1 r.1 first.5 r.5)

    -- one turn, at which an honest store may answer so
    by_turn : (w : World) (x s : State) (a b : A) (v : Choice) (r : Answer) → w.lock ≡ x → part.get w ≡ a → IsThere z v → reads x a r.read → taken z.cells x (turn x a v r) ≡ Some (s, b) → Comes part w s b
    by_turn w x s a b v r lock is there honest_read does =
        let at : taken z.cells w.lock (turn w.lock (part.get w) v r) ≡ Some (s, b) = ap₂ (λ (y : State) (c : A). taken z.cells y (turn y c v r)) lock is ∙ does in
        let happens : event wz images w (record { actor = part.who; choice = v; answer = r }) ≡ Some (part.set w s b) =
        ap (λ (c : Bool). cond c (acted wz images w part.who v r) None) (ap₂ (λ (c d : Bool). c && d) part.there (in_range_of v there)) ∙ part.acts w v r s b at in
        let may : reads w.lock (part.get w) r.read = subst (λ (y : State). reads y (part.get w) r.read) (sym lock) (subst (λ (c : A). reads x c r.read) (sym is) honest_read) in
        (record { actor = part.who; choice = v; answer = r } ∷ [], part.set w s b, (part.set w s b, happens, (λ h. part.honest w r may), refl), part.lock w s b, part.got w s b, part.others w s b)

    by_calls : (cs : List Call) (w : World) (x : State) (a b : A) → w.lock ≡ x → part.get w ≡ a → MakesCalls z turn a x cs b → Comes part w (act_all x cs) b
    by_calls [] w x a b lock is made = here w x b lock (is ∙ sym made)
    by_calls (c ∷ cs) w x a b lock is made =
        let m = made.1 in
        behind w (act x c) (act_all x (c ∷ cs)) made.0 b (by_turn w x (act x c) a made.0 m.0 m.1 lock is m.2 (subst (λ r. reads x a r) (sym m.3) (part.none x a)) m.4) (λ u l i. by_calls cs u (act x c) made.0 b l i made.2)

    by_step : (w : World) (x : State) (d : Deed) (a b : A) → w.lock ≡ x → part.get w ≡ a → MakesStep z turn reads reliable a x d b → Comes part w (act_all x d.calls) b
    by_step w x d a b lock is made = elim made [
      | inl m ↦ by_calls d.calls w x a b lock is m
      | inr more ↦ elim more [
        | inl m ↦ absurd (m.0 sure)
        | inr m ↦ let alone = m.2 in behind w (act_all x d.calls) (act_all x d.calls) m.0 b (by_calls d.calls w x a m.0 lock is m.1) (λ u l i. by_turn u (act_all x d.calls) (act_all x d.calls) m.0 b choice.Next alone.0 l i tt alone.1 alone.2)
      ]
    ]

  -- a program waits at a sound machine that fits what its seat knows
  by_waits : (k : ℕ) (low : k < programs) (kn : Known) (cs : List Program) (w : World) (x : State) (p q : Program) → w.lock ≡ x → w.programs k ≡ p → Inv honest z.cells x → Fits (setting wz images k) kn x → WaitsOn honest (setting wz images k) kn p cs q
      → Comes (program_part wz images k low) w x q
  by_waits k low kn [] w x p q lock is inv fits waits = here (program_turn (setting wz images k)) (reads_of (setting wz images k)) (program_part wz images k low) w x q lock (is ∙ sym waits)
  by_waits k low kn (c ∷ cs) w x p q lock is inv fits waits =
      let g : Setting = setting wz images k in let m = waits.0 in
      behind (program_turn g) (reads_of g) (program_part wz images k low) w x x c q
      (by_turn (program_turn g) (reads_of g) (program_part wz images k low) w x x p c choice.Next m.0 lock is tt (subst (λ r. reads_of g x p r) (sym m.1) (no_mode_reads z.cells x p.mode)) (m.2 x inv fits))
      (λ u l i. by_waits k low kn cs u x c q l i inv fits waits.1)

  -- ---- what each seat keeps of a list that begins with this step

  no_more : {B : Type 0} (xs : List B) → [] ++ xs ≡ xs
  no_more xs = refl

  kept_none : (j : ℕ) (x : State) (d : ℕ × Deed) (ds : List (ℕ × Deed)) → is_kept d.1.found d.1.calls ≡ false → kept_at j x (d ∷ ds) ≡ kept_at j (act_all x d.1.calls) ds
  kept_none j x d ds e = by_seat (d.0 == j)
    where
      rest : List (State × Deed)
      rest = kept_at j (act_all x d.1.calls) ds

      by_seat : (b : Bool) → cond b (cond (is_kept d.1.found d.1.calls) ((x, d.1) ∷ []) []) [] ++ rest ≡ rest
      by_seat true = ap (λ (c : Bool). cond c ((x, d.1) ∷ []) [] ++ rest) e
      by_seat false = refl

  kept_other : (j : ℕ) (x : State) (d : ℕ × Deed) (ds : List (ℕ × Deed)) → d.0 ≢ j → kept_at j x (d ∷ ds) ≡ kept_at j (act_all x d.1.calls) ds
  kept_other j x d ds ne = ap (λ (b : Bool). cond b (cond (is_kept d.1.found d.1.calls) ((x, d.1) ∷ []) []) [] ++ kept_at j (act_all x d.1.calls) ds) (ne_eqb d.0 j ne)

  kept_own : (j : ℕ) (x : State) (d : ℕ × Deed) (ds : List (ℕ × Deed)) → is_kept d.1.found d.1.calls ≡ true → d.0 ≡ j → kept_at j x (d ∷ ds) ≡ (x, d.1) ∷ kept_at j (act_all x d.1.calls) ds
  kept_own j x d ds e same =
      ap (λ (b : Bool). cond b (cond (is_kept d.1.found d.1.calls) ((x, d.1) ∷ []) []) [] ++ kept_at j (act_all x d.1.calls) ds) (eq-eqb d.0 j same)
      ∙ ap (λ (c : Bool). cond c ((x, d.1) ∷ []) [] ++ kept_at j (act_all x d.1.calls) ds) e

  module _ (owner : ℕ → ℕ) (ends : ℕ → Program) (t : State) (mine : (k o : ℕ) → k < programs → IsOwn (setting wz images k) o → owner o ≡ k) where
    -- what is left to the program k, which is p, of the steps that its seat keeps; what that knows stays between them
    abbrev LeftTo : ℕ → Program → List (State × Deed) → Type 0
    LeftTo k p ps = (kn : Known) × MakesOwn reliable honest z (setting wz images k) kn p ps (ends k) × AreSteps honest z (suc k) kn.hand ps (t.hand (suc k)) × NotesStay owner k kn.notes ps t.note

    -- what is left to all actors of a world, of these steps behind the machine x
    record Left (x : State) (ds : List (ℕ × Deed)) (w : World) : Type 0 where
      lock : w.lock ≡ x
      inv : Inv honest z.cells x
      follows : Follows z x ds t
      runs : Runs honest z.cells x (calls_of ds) t
      own : AreOwn z ds
      to_programs : (k : ℕ) → k < programs → LeftTo k (w.programs k) (kept_at k x ds)
      to_evacuators : (k : ℕ) → k < evacuators → EvacuatorMakesThem reliable z (suc (programs + k)) (w.evacuators k) (kept_at (programs + k) x ds) None
      to_fetchers : (k : ℕ) → k < fetchers → FetcherMakesThem reliable z (suc (programs + evacuators + k)) (w.fetchers k) (kept_at (programs + evacuators + k) x ds) None
      to_others : (j : ℕ) → programs + evacuators + fetchers ≤ j → kept_at j x ds ≡ []

    -- events lead there from the world w
    abbrev Ends : World → Type 0
    Ends w = (es : List Event) × (v : World) × Goes w es v × (v.lock ≡ t) × ((k : ℕ) → k < programs → v.programs k ≡ ends k) × ((k : ℕ) → k < evacuators → v.evacuators k ≡ None) × ((k : ℕ) → k < fetchers → v.fetchers k ≡ None)

    ends_behind : (w u : World) (es : List Event) → Goes w es u → Ends u → Ends w
    ends_behind w u es goes r = (es ++ r.0, r.1, goes_on es r.0 w u r.1 goes r.2, r.3, r.4, r.5, r.6)

    -- what a program's seat knows fits the machine of its next step, and the last one
    fits_next : (k : ℕ) → k < programs → (kn : Known) (p : State × Deed) (ps : List (State × Deed)) → AreSteps honest z (suc k) kn.hand (p ∷ ps) (t.hand (suc k)) → NotesStay owner k kn.notes (p ∷ ps) t.note → Fits (setting wz images k) kn p.0
    fits_next k low kn p ps s n = (s.3, λ o own. n.0 o (mine k o low own))

    fits_last : (k : ℕ) → k < programs → (kn : Known) → AreSteps honest z (suc k) kn.hand [] (t.hand (suc k)) → NotesStay owner k kn.notes [] t.note → Fits (setting wz images k) kn t
    fits_last k low kn s n = (s, λ o own. n o (mine k o low own))

    -- ---- the end of the list: each program goes on to its end

    finish : (i j : ℕ) → j + i ≡ programs → (w : World) → w.lock ≡ t → Inv honest z.cells t → ((k : ℕ) → k < j → w.programs k ≡ ends k) → ((k : ℕ) → j ≤ k → k < programs → LeftTo k (w.programs k) [])
        → ((k : ℕ) → k < evacuators → w.evacuators k ≡ None) → ((k : ℕ) → k < fetchers → w.fetchers k ≡ None) → Ends w
    finish zero j many w lock inv done left idle rest = ([], w, refl, lock, (λ k l. done k (omega (arith, many))), idle, rest)
    finish (suc i) j many w lock inv done left idle rest =
        let low : j < programs = omega (arith, many) in
        let mine_left = left j (omega arith) low in let kn = mine_left.0 in let m = mine_left.1 in
        let r = by_waits j low kn m.0 w t (w.programs j) (ends j) lock refl inv (fits_last j low kn mine_left.2 mine_left.3) m.1 in
        let u = r.1 in let others = r.5 in
        let apart : (k : ℕ) → k ≢ j → u.programs k ≡ w.programs k = λ k ne. others.programs k (λ e. let same : j ≡ k = cc in ne (sym same)) in
        ends_behind w u r.0 r.2
        (finish i (suc j) (omega (arith, many)) u r.3 inv
        (λ k l. elim (eqb_tells k j) [ inl q ↦ subst (λ (n : ℕ). u.programs n ≡ ends n) (sym q.1) r.4 | inr q ↦ apart k q.1 ∙ done k (let ne = q.1 in omega arith) ])
        (λ k l lo. subst (λ (p : Program). LeftTo k p []) (sym (apart k (omega arith))) (left k (omega arith) lo))
        (λ k l. others.evacuators k (λ e. cc e) ∙ idle k l) (λ k l. others.fetchers k (λ e. cc e) ∙ rest k l))

    -- ---- one step

    module _ (x : State) (d : ℕ × Deed) (ds : List (ℕ × Deed)) (w : World) (l : Left x (d ∷ ds) w) (on : (v : World) → Left (act_all x d.1.calls) ds v → Ends v) where
      next : State
      next = act_all x d.1.calls

      parts : Runs honest z.cells x d.1.calls (act_all x d.1.calls) × Runs honest z.cells (act_all x d.1.calls) (calls_of ds) t
      parts = run_parts honest z.cells d.1.calls (calls_of ds) x t l.runs

      inv_next : Inv honest z.cells (act_all x d.1.calls)
      inv_next = keeps_runs honest z.cells d.1.calls x (act_all x d.1.calls) parts.0 l.inv

      -- nobody keeps it
      unkept : is_kept d.1.found d.1.calls ≡ false → Ends w
      unkept e =
          let same : act_all x d.1.calls ≡ x = step_stays honest z (suc d.0) d.1.word d.1.found x l.inv l.follows.0 d.1.calls l.own.0 e in
          on w (record {
            lock = l.lock ∙ sym same;
            inv = inv_next;
            follows = l.follows.1;
            runs = parts.1;
            own = l.own.1;
            to_programs = λ k low. subst (LeftTo k (w.programs k)) (kept_none k x d ds e) (l.to_programs k low);
            to_evacuators = λ k low. subst (λ ps. EvacuatorMakesThem reliable z (suc (programs + k)) (w.evacuators k) ps None) (kept_none (programs + k) x d ds e) (l.to_evacuators k low);
            to_fetchers = λ k low. subst (λ ps. FetcherMakesThem reliable z (suc (programs + evacuators + k)) (w.fetchers k) ps None) (kept_none (programs + evacuators + k) x d ds e) (l.to_fetchers k low);
            to_others = λ j low. sym (kept_none j x d ds e) ∙ l.to_others j low;
          })

      -- its seat is that of this actor, behind whose turns all that is left is left to the others, and this to it
      goes_by : (a : Actor) (v : World) → Others a w v → v.lock ≡ act_all x d.1.calls
          → ((k : ℕ) → k < programs → (d.0 ≡ k → a ≡ actor.Program k) × (a ≡ actor.Program k → LeftTo k (v.programs k) (kept_at k (act_all x d.1.calls) ds)))
          → ((k : ℕ) → k < evacuators → (d.0 ≡ programs + k → a ≡ actor.Evacuator k) × (a ≡ actor.Evacuator k → EvacuatorMakesThem reliable z (suc (programs + k)) (v.evacuators k) (kept_at (programs + k) (act_all x d.1.calls) ds) None))
          → ((k : ℕ) → k < fetchers → (d.0 ≡ programs + evacuators + k → a ≡ actor.Fetcher k) × (a ≡ actor.Fetcher k → FetcherMakesThem reliable z (suc (programs + evacuators + k)) (v.fetchers k) (kept_at (programs + evacuators + k) (act_all x d.1.calls) ds) None))
          → d.0 < programs + evacuators + fetchers → Ends v
      goes_by a v others lock ps es fs few = on v (record {
        lock = lock;
        inv = inv_next;
        follows = l.follows.1;
        runs = parts.1;
        own = l.own.1;
        to_programs = λ k low. elim (eqb_tells d.0 k) [
          | inl q ↦ (ps k low).1 ((ps k low).0 q.1)
          | inr q ↦ elim (is_program a k) [
            | inl same ↦ (ps k low).1 same
            | inr other ↦ subst (LeftTo k (v.programs k)) (kept_other k x d ds q.1) (subst (λ (p : Program). LeftTo k p (kept_at k x (d ∷ ds))) (sym (others.programs k other)) (l.to_programs k low))
          ]
        ];
        to_evacuators = λ k low. elim (eqb_tells d.0 (programs + k)) [
          | inl q ↦ (es k low).1 ((es k low).0 q.1)
          | inr q ↦ elim (is_evacuator a k) [
            | inl same ↦ (es k low).1 same
            | inr other ↦ subst (λ rs. EvacuatorMakesThem reliable z (suc (programs + k)) (v.evacuators k) rs None) (kept_other (programs + k) x d ds q.1)
                (subst (λ e. EvacuatorMakesThem reliable z (suc (programs + k)) e (kept_at (programs + k) x (d ∷ ds)) None) (sym (others.evacuators k other)) (l.to_evacuators k low))
          ]
        ];
        to_fetchers = λ k low. elim (eqb_tells d.0 (programs + evacuators + k)) [
          | inl q ↦ (fs k low).1 ((fs k low).0 q.1)
          | inr q ↦ elim (is_fetcher a k) [
            | inl same ↦ (fs k low).1 same
            | inr other ↦ subst (λ rs. FetcherMakesThem reliable z (suc (programs + evacuators + k)) (v.fetchers k) rs None) (kept_other (programs + evacuators + k) x d ds q.1)
                (subst (λ e. FetcherMakesThem reliable z (suc (programs + evacuators + k)) e (kept_at (programs + evacuators + k) x (d ∷ ds)) None) (sym (others.fetchers k other)) (l.to_fetchers k low))
          ]
        ];
        to_others = λ j high. sym (kept_other j x d ds (omega arith)) ∙ l.to_others j high;
      })
        where
          is_program : (b : Actor) (k : ℕ) → (b ≡ actor.Program k) ⊎ (b ≢ actor.Program k)
          is_program (actor.Program i) k = elim (eqb_tells i k) [ inl q ↦ inl (ap actor.Program q.1) | inr q ↦ inr (λ e. let same : i ≡ k = cc in q.1 same) ]
          is_program (actor.Evacuator i) k = inr (λ e. cc e)
          is_program (actor.Fetcher i) k = inr (λ e. cc e)

          is_evacuator : (b : Actor) (k : ℕ) → (b ≡ actor.Evacuator k) ⊎ (b ≢ actor.Evacuator k)
          is_evacuator (actor.Evacuator i) k = elim (eqb_tells i k) [ inl q ↦ inl (ap actor.Evacuator q.1) | inr q ↦ inr (λ e. let same : i ≡ k = cc in q.1 same) ]
          is_evacuator (actor.Program i) k = inr (λ e. cc e)
          is_evacuator (actor.Fetcher i) k = inr (λ e. cc e)

          is_fetcher : (b : Actor) (k : ℕ) → (b ≡ actor.Fetcher k) ⊎ (b ≢ actor.Fetcher k)
          is_fetcher (actor.Fetcher i) k = elim (eqb_tells i k) [ inl q ↦ inl (ap actor.Fetcher q.1) | inr q ↦ inr (λ e. let same : i ≡ k = cc in q.1 same) ]
          is_fetcher (actor.Program i) k = inr (λ e. cc e)
          is_fetcher (actor.Evacuator i) k = inr (λ e. cc e)

      by_program : is_kept d.1.found d.1.calls ≡ true → d.0 < programs → Ends w
      by_program e low =
          let k : ℕ = d.0 in let g : Setting = setting wz images k in
          let mine_left = subst (LeftTo k (w.programs k)) (kept_own k x d ds e refl) (l.to_programs k low) in let kn = mine_left.0 in let m = mine_left.1 in
          let fits = fits_next k low kn (x, d.1) (kept_at k (act_all x d.1.calls) ds) mine_left.2 mine_left.3 in
          let part = program_part wz images k low in
          let r = behind (program_turn g) (reads_of g) part w x (act_all x d.1.calls) m.1 m.2 (by_waits k low kn m.0 w x (w.programs k) m.1 l.lock refl l.inv fits m.3) (λ u lo is. by_step (program_turn g) (reads_of g) part u x d.1 m.1 m.2 lo is m.4) in
          let v = r.1 in
          let left : LeftTo k (v.programs k) (kept_at k (act_all x d.1.calls) ds) = (learned g (act_all x d.1.calls), subst (λ (p : Program). MakesOwn reliable honest z g (learned g (act_all x d.1.calls)) p (kept_at k (act_all x d.1.calls) ds) (ends k)) (sym r.4) m.5, mine_left.2.4, mine_left.3.1) in
          ends_behind w v r.0 r.2 (goes_by (actor.Program k) v r.5 r.3
          (λ i lo. (ap actor.Program, λ same. let is : k ≡ i = cc in subst (λ (n : ℕ). LeftTo n (v.programs n) (kept_at n (act_all x d.1.calls) ds)) is left))
          (λ i lo. ((λ same. absurd (omega arith)), λ same. absurd (let no : ⊥ = cc same in no))) (λ i lo. ((λ same. absurd (omega arith)), λ same. absurd (let no : ⊥ = cc same in no))) (omega arith))

      by_evacuator : is_kept d.1.found d.1.calls ≡ true → (k : ℕ) → d.0 ≡ programs + k → k < evacuators → Ends w
      by_evacuator e k at low =
          let part = evacuator_part wz images k low in
          let m = subst (λ ps. EvacuatorMakesThem reliable z (suc (programs + k)) (w.evacuators k) ps None) (kept_own (programs + k) x d ds e at) (l.to_evacuators k low) in
          let r = by_step (λ y. evacuator_turn z.cells (suc (programs + k))) reads_nothing part w x d.1 (w.evacuators k) m.0 l.lock refl m.1 in
          let v = r.1 in
          let left = subst (λ a. EvacuatorMakesThem reliable z (suc (programs + k)) a (kept_at (programs + k) (act_all x d.1.calls) ds) None) (sym r.4) m.2 in
          ends_behind w v r.0 r.2 (goes_by (actor.Evacuator k) v r.5 r.3
          (λ i lo. ((λ same. absurd (omega arith)), λ same. absurd (let no : ⊥ = cc same in no)))
          (λ i lo. ((λ same. let is : k ≡ i = omega arith in ap actor.Evacuator is), λ same. let is : k ≡ i = cc in subst (λ (n : ℕ). EvacuatorMakesThem reliable z (suc (programs + n)) (v.evacuators n) (kept_at (programs + n) (act_all x d.1.calls) ds) None) is left))
          (λ i lo. ((λ same. absurd (omega arith)), λ same. absurd (let no : ⊥ = cc same in no))) (omega arith))

      by_fetcher : is_kept d.1.found d.1.calls ≡ true → (k : ℕ) → d.0 ≡ programs + evacuators + k → k < fetchers → Ends w
      by_fetcher e k at low =
          let part = fetcher_part wz images k low in
          let m = subst (λ ps. FetcherMakesThem reliable z (suc (programs + evacuators + k)) (w.fetchers k) ps None) (kept_own (programs + evacuators + k) x d ds e at) (l.to_fetchers k low) in
          let r = by_step (λ y. fetcher_turn z.cells (suc (programs + evacuators + k))) (FetchesHonestly z.cells) part w x d.1 (w.fetchers k) m.0 l.lock refl m.1 in
          let v = r.1 in
          let left = subst (λ a. FetcherMakesThem reliable z (suc (programs + evacuators + k)) a (kept_at (programs + evacuators + k) (act_all x d.1.calls) ds) None) (sym r.4) m.2 in
          ends_behind w v r.0 r.2 (goes_by (actor.Fetcher k) v r.5 r.3
          (λ i lo. ((λ same. absurd (omega arith)), λ same. absurd (let no : ⊥ = cc same in no)))
          (λ i lo. ((λ same. absurd (omega arith)), λ same. absurd (let no : ⊥ = cc same in no)))
          (λ i lo. ((λ same. let is : k ≡ i = omega arith in ap actor.Fetcher is), λ same. let is : k ≡ i = cc in subst (λ (n : ℕ). FetcherMakesThem reliable z (suc (programs + evacuators + n)) (v.fetchers n) (kept_at (programs + evacuators + n) (act_all x d.1.calls) ds) None) is left)) (omega arith))

      kept : is_kept d.1.found d.1.calls ≡ true → Ends w
      kept e = elim (leb_tells programs d.0) [
        | inr low ↦ by_program e low.1
        | inl high ↦ elim (leb_tells (programs + evacuators) d.0) [
          | inr low ↦ let a = low.1 in let b = high.1 in by_evacuator e (d.0 - programs) (omega arith) (omega arith)
          | inl higher ↦ elim (leb_tells (programs + evacuators + fetchers) d.0) [
            | inr low ↦ let a = low.1 in let b = higher.1 in by_fetcher e (d.0 - (programs + evacuators)) (omega arith) (omega arith)
            | inl more ↦ absurd (let both : (x, d.1) ∷ kept_at d.0 (act_all x d.1.calls) ds ≡ [] = sym (kept_own d.0 x d ds e refl) ∙ l.to_others d.0 (let c = more.1 in omega arith) in cc)
          ]
        ]
      ]

      step : Ends w
      step = by_kept (is_kept d.1.found d.1.calls) refl
        where
          by_kept : (b : Bool) → is_kept d.1.found d.1.calls ≡ b → Ends w
          by_kept true e = kept e
          by_kept false e = unkept e

    merges : (ds : List (ℕ × Deed)) (x : State) (w : World) → Left x ds w → Ends w
    merges [] x w l =
        let same : t ≡ x = l.follows in
        finish programs 0 (omega arith) w (l.lock ∙ sym same) (subst (Inv honest z.cells) (sym same) l.inv) (λ k low. absurd (omega arith)) (λ k zero_low low. l.to_programs k low) (λ k low. sym (l.to_evacuators k low)) (λ k low. sym (l.to_fetchers k low))
    merges (d ∷ ds) x w l = step x d ds w l (λ v left. merges ds (act_all x d.1.calls) v left)

pub one_world : (reliable honest : Type 0) (z : Sizes) (programs evacuators fetchers : ℕ) (images : ℕ → Image) (ends : ℕ → Program) (owner : ℕ → ℕ) (steps : List (ℕ × Deed)) (t : State) → reliable
    → Follows z opening steps t → Runs honest z.cells opening (calls_of steps) t → AreOwn z steps → AreOwners owner steps
    → ((k o : ℕ) → k < programs → IsOwn (setting (world_sizes z programs evacuators fetchers) images k) o → owner o ≡ k)
    → AreMadeByActors reliable honest z programs evacuators fetchers images steps ends → IsOneWorld honest (world_sizes z programs evacuators fetchers) images t ends
one_world reliable honest z programs evacuators fetchers images ends owner steps t sure follows runs own owners mine made =
    let opens = opens_well honest z.cells in
    merges reliable honest sure z programs evacuators fetchers images owner ends t mine steps opening (start images) (record {
      lock = refl;
      inv = opens;
      follows = follows;
      runs = runs;
      own = own;
      to_programs = λ k low. (unused, made.by_programs k low, (parts_are honest z k steps opening t opens follows runs own).1, notes_stay honest z owner k steps opening t opens follows runs own owners);
      to_evacuators = made.by_evacuators;
      to_fetchers = made.by_fetchers;
      to_others = made.by_others;
    })
