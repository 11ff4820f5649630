-- the world behind an event that code took
use Rattle.std.proofs.Common.{◌≡◌, ◌≢◌, ◌⊎◌, inl, inr, ℕ, suc, ◌+◌, ◌*◌, ◌/◌, ◌<◌, ◌≤◌, Bool, true, cond, ◌&&◌, List, [], ◌∷◌, ◌++◌, length, get_or, Option, Some, None, refl, sym, ap, ◌∙◌, subst, suc-mul, arith}
use Rattle.std.specs.Prelude.{nat_lt, slice_get}
use Rattle.std.proofs.Math.ListN.{set}
use Rattle.std.proofs.Math.Nat.{mul-div-le, mul-le-mul_right}
use Rattle.std.proofs.lemmas.Bool.Decides.{nat_tests}
use Rattle.std.proofs.lemmas.List.{length-set, get_or-set_same, get_or-set_other, set-get_or}
use Rattle.std.proofs.lemmas.Option.{slice_get-get_or, slice_get_within}
use Rattle.code_form.specs.Form.{Image}
use Rattle.pointer_word.specs.Hands.{upd}
use Rattle.pointer_word.specs.Sound.{Inv}
use Rattle.pointer_word.proofs.Upd.{same_or, upd-same, upd-other}
use Rattle.remote_store.specs.declared.port.Port.{Port}
use Rattle.world_memory.specs.Answered.{AnswersSo, Asked}
use Rattle.world_actors.specs.Asking.{asked_idly, asked_in}
use Rattle.world_fetchers.specs.Fetching.{asked_ahead}
use Rattle.world.specs.Parts.{Parts}
use Rattle.world.specs.Telling.{StoreTold}
use Rattle.world_actors.specs.declared.evacuator.EvacuatorActor.{EvacuatorActor}
use Rattle.world_fetchers.specs.declared.fetcher.FetcherActor.{FetcherActor}
use Rattle.world_semantics.specs.declared.event.Actor.TheVariants as actor
use Rattle.world_semantics.specs.declared.event.Choice.{Choice}
use Rattle.world_semantics.specs.declared.event.Step.{Step}
use Rattle.world_semantics.specs.declared.event.Step.TheVariants as step
use Rattle.world_actors.specs.Acting.{Evacuates, Goes, IsProgram, Seated, Shows, UnreadSo, eviction_in}
use Rattle.world_fetchers.specs.Fetching.{Fetches, fetching_in}
use Rattle.world.specs.Stepped.{IsWorld, Stepped}
use Rattle.world_semantics.specs.InHand.{FitsEvacuator, FitsFetcher, FitsMode}
use Rattle.world_semantics.specs.Fetchers.{Fetching}
use Rattle.world_semantics.specs.Programs.{Eviction, Setting}
use Rattle.world_actors.specs.Seats.{Seat}
use Rattle.world_semantics.specs.Steps.{IsSound}
use Rattle.world_memory.specs.Berths.{Berths}
use Rattle.world_memory.specs.Tables.{Tables}
use Rattle.world_memory.specs.declared.lock.Lock.{Lock}
use Rattle.world_semantics.specs.Turns.{Answer, evacuator_turn, fetcher_turn, program_turn, taken}
use Rattle.world_semantics.specs.Worlds.{Event, FetchesHonestly, Follows, IsHonest, ReadsHonestly, Sizes, World, event, in_range, setting, start, with_evacuator, with_fetcher, with_program}
use Rattle.world_semantics.proofs.Stepping.{reached}

-- one more event
pub follows_push : (h : Type 0) (z : Sizes) (images : ℕ → Image) (w v u : World) (es : List Event) (e : Event) → Follows h z images w es v → event z images v e ≡ Some u → (h → IsHonest z v e.actor e.answer)
    → Follows h z images w (es ++ e ∷ []) u
follows_push h z images w v u [] e f q honest =
    (u, subst (λ (x : World). event z images x e ≡ Some u) f q, subst (λ (x : World). h → IsHonest z x e.actor e.answer) f honest, refl)
follows_push h z images w v u (d ∷ es) e f q honest = (f.0, f.1, f.2, follows_push h z images f.0 v u es e f.3 q honest)

-- reading a list behind a write
pub got_set : {A : Type 0} (xs : List A) (k : ℕ) (y : A) (j : ℕ) (x : A) → slice_get (set xs k y) j ≡ Some x → ((j ≡ k) × (x ≡ y)) ⊎ ((j ≢ k) × (slice_get xs j ≡ Some x))
got_set xs k y j x e =
    let within = slice_get_within (set xs k y) j x e in
    let size = length-set xs k y in
    let read = slice_get-get_or (set xs k y) j x within in
    elim (same_or j k) [
      | inl q ↦ inl (
        q,
        (let r : get_or (set xs k y) j x ≡ x = (let s : Some (get_or (set xs k y) j x) ≡ Some x = sym read ∙ e in cc) in
            let same : get_or (set xs k y) j x ≡ y = ap (λ i. get_or (set xs k y) i x) q ∙ get_or-set_same xs k y x (omega arith) in sym r ∙ same),
      )
      | inr d ↦ inr (d, slice_get-get_or xs j x (omega arith) ∙ (ap Some (sym (get_or-set_other xs k j y x d)) ∙ (sym read ∙ e)))
    ]

-- the share of a program ends within the objects
in_share : (n p k : ℕ) → k < p → k * (n / p) + n / p ≤ n
in_share n p k l =
    let q : ℕ = n / p in
    let all : p * q ≤ n = mul-div-le n p in
    let most : suc k * q ≤ p * q = mul-le-mul_right q l in
    let one : suc k * q ≡ k * q + q = suc-mul k q in
    omega arith

module _ {S C : Type 0} (content : C → Option (List ℕ)) (h : Type 0) (z : Sizes) (images : ℕ → Image) (x : Parts S C) (w : World) (is : IsWorld content h z images x w) where
  pub sound : IsSound h z w
  sound = reached h z images w is.reached.0 is.reached.1

  true_and : (a b : Bool) → a ≡ true → b ≡ true → (a && b) ≡ true
  true_and a b e f = ap (λ (q : Bool). q && b) e ∙ f

  is_below : (a b : ℕ) → a < b → nat_lt a b ≡ true
  is_below a b l = grind (arith, nat_tests)

  inv : Inv h z.cells w.lock
  inv = sound.lock

  -- ---- an evacuator

  module _ (k : ℕ) (y : EvacuatorActor × Port S C) (here : slice_get x.evacuators k ≡ Some y) where
    evacuator_there : nat_lt k z.evacuators ≡ true
    evacuator_there = let l = slice_get_within x.evacuators k y here in let many = is.evacuators_many in is_below k z.evacuators (omega arith)

    -- what it has in hand
    pub evacuates : Evacuates content h z x.tables x.berths y.0 w.lock
    evacuates =
        let own = is.evacuators k y here in
        let l = slice_get_within x.evacuators k y here in
        let many = is.evacuators_many in
        let fits = sound.hands.evacuator k (omega arith) in
        record {
          shows = is.shows;
          inv = inv;
          fits = subst (λ m. FitsEvacuator z.cells w.lock.far (w.lock.hand m) (eviction_in y.0)) (sym own.1) (subst (FitsEvacuator z.cells w.lock.far (w.lock.hand (suc (z.programs + k)))) own.0 fits);
          wide = own.2;
        }

    -- its event is its turn
    event_is : (c : Choice) (a : Answer) → in_range z c ≡ true
        → event z images w (record { actor = actor.Evacuator k; choice = c; answer = a }) ≡ with_evacuator w k (taken z.cells w.lock (evacuator_turn z.cells y.0.mover (eviction_in y.0) c a))
    event_is c a inside =
        let own = is.evacuators k y here in
        let acts : ℕ → ℕ → Option Eviction → Option World = λ n m d. with_evacuator w k (taken n w.lock (evacuator_turn n m d c a)) in
        ap (λ b. cond b (acts z.cells (suc (z.programs + k)) (w.evacuators k)) None) (true_and (nat_lt k z.evacuators) (in_range z c) evacuator_there inside) ∙
        (ap (λ m. acts z.cells m (w.evacuators k)) (sym own.1) ∙ ap (acts z.cells y.0.mover) own.0)

    pub evacuator_stepped : (c : Choice) (t' : Tables) (berths' : Berths C) (y' : EvacuatorActor) (p' : Port S C) (honest told : Answer → Type 0) (same same' : Type 0) (r : Step) → in_range z c ≡ true → y'.mover ≡ y.0.mover → length y'.words.items ≡ length y.0.words.items → ((a : Answer) → honest a → told a) → (same → same')
        → Goes z.cells w.lock (λ a. evacuator_turn z.cells y.0.mover (eviction_in y.0) c a) honest (λ u d. Shows content z t' berths' u × (d ≡ eviction_in y')) same r
        → Stepped content h z images (record x { tables = t'; berths = berths'; evacuators = set x.evacuators k (y', p') }) w (actor.Evacuator k) c told same' r
    evacuator_stepped c t' berths' y' p' honest told same same' step.NotEnabled inside mover wide tells back g = ((λ a. event_is c a inside ∙ ap (with_evacuator w k) (g.0 a)), back g.1)
    evacuator_stepped c t' berths' y' p' honest told same same' step.Took inside mover wide tells back g =
        let a : Answer = g.0 in
        let r = g.2.0 in
        let e : Event = record { actor = actor.Evacuator k; choice = c; answer = a } in
        let u : World = record w { lock = r.0; evacuators = upd w.evacuators k r.1 } in
        let happens : event z images w e ≡ Some u = event_is c a inside ∙ ap (with_evacuator w k) g.2.1 in (
          a,
          (λ _. tt),
          tells a g.1,
          (
            u,
            happens,
            record {
              shows = g.2.2.0;
              programs = is.programs;
              evacuators = λ j v q. elim (got_set x.evacuators k (y', p') j v q) [
                | inl s ↦ subst (λ (v : EvacuatorActor × Port S C). (upd w.evacuators k r.1 j ≡ eviction_in v.0) × (v.0.mover ≡ suc (z.programs + j)) × (length v.0.words.items ≡ z.cells)) (sym s.1)
                    (upd-same w.evacuators k r.1 j s.0 ∙ g.2.2.1, mover ∙ ((is.evacuators k y here).1 ∙ ap (λ i. suc (z.programs + i)) (sym s.0)), wide ∙ (is.evacuators k y here).2)
                | inr s ↦ let was = is.evacuators j v s.1 in (upd-other w.evacuators k r.1 j s.0 ∙ was.0, was.1, was.2)
              ];
              fetchers = is.fetchers;
              reached = (is.reached.0 ++ e ∷ [], follows_push h z images (start images) w u is.reached.0 e is.reached.1 happens (λ _. tt));
              cells = is.cells;
              programs_many = is.programs_many;
              evacuators_many = length-set x.evacuators k (y', p') ∙ is.evacuators_many;
              fetchers_many = is.fetchers_many;
            },
          ),
        )

  -- ---- a fetcher

  module _ (k : ℕ) (y : FetcherActor × Port S C) (here : slice_get x.fetchers k ≡ Some y) where
    fetcher_there : nat_lt k z.fetchers ≡ true
    fetcher_there = let l = slice_get_within x.fetchers k y here in let many = is.fetchers_many in is_below k z.fetchers (omega arith)

    -- what it has in hand
    pub fetches : Fetches content h z x.tables x.berths y.0 w.lock
    fetches =
        let own = is.fetchers k y here in
        let l = slice_get_within x.fetchers k y here in
        let many = is.fetchers_many in
        let fits = sound.hands.fetcher k (omega arith) in
        record {
          shows = is.shows;
          inv = inv;
          fits = subst (λ m. FitsFetcher h z.cells w.lock.far (w.lock.hand m) (fetching_in y.0)) (sym own.1) (subst (FitsFetcher h z.cells w.lock.far (w.lock.hand (suc (z.programs + z.evacuators + k)))) own.0 fits);
          wide = own.2;
        }

    -- its event is its turn
    fetch_is : (c : Choice) (a : Answer) → in_range z c ≡ true
        → event z images w (record { actor = actor.Fetcher k; choice = c; answer = a }) ≡ with_fetcher w k (taken z.cells w.lock (fetcher_turn z.cells y.0.mover (fetching_in y.0) c a))
    fetch_is c a inside =
        let own = is.fetchers k y here in
        let m : ℕ = suc (z.programs + z.evacuators + k) in
        let acts : ℕ → ℕ → Option Fetching → Option World = λ n m d. with_fetcher w k (taken n w.lock (fetcher_turn n m d c a)) in
        ap (λ b. cond b (acts z.cells m (w.fetchers k)) None) (true_and (nat_lt k z.fetchers) (in_range z c) fetcher_there inside) ∙
        (ap (λ m. acts z.cells m (w.fetchers k)) (sym own.1) ∙ ap (acts z.cells y.0.mover) own.0)

    pub fetcher_stepped : (c : Choice) (t' : Tables) (berths' : Berths C) (y' : FetcherActor) (p' : Port S C) (honest told : Answer → Type 0) (same same' : Type 0) (r : Step) → in_range z c ≡ true → y'.mover ≡ y.0.mover → length y'.words.items ≡ length y.0.words.items → ((a : Answer) → honest a → told a) → (same → same')
        → Goes z.cells w.lock (λ a. fetcher_turn z.cells y.0.mover (fetching_in y.0) c a) (λ a. (h → FetchesHonestly z.cells w.lock (fetching_in y.0) a.read) × honest a) (λ u d. Shows content z t' berths' u × (d ≡ fetching_in y')) same r
        → Stepped content h z images (record x { tables = t'; berths = berths'; fetchers = set x.fetchers k (y', p') }) w (actor.Fetcher k) c told same' r
    fetcher_stepped c t' berths' y' p' honest told same same' step.NotEnabled inside mover wide tells back g = ((λ a. fetch_is c a inside ∙ ap (with_fetcher w k) (g.0 a)), back g.1)
    fetcher_stepped c t' berths' y' p' honest told same same' step.Took inside mover wide tells back g =
        let a : Answer = g.0 in
        let r = g.2.0 in
        let e : Event = record { actor = actor.Fetcher k; choice = c; answer = a } in
        let u : World = record w { lock = r.0; fetchers = upd w.fetchers k r.1 } in
        let happens : event z images w e ≡ Some u = fetch_is c a inside ∙ ap (with_fetcher w k) g.2.1 in
        let reads : h → IsHonest z w (actor.Fetcher k) a = λ i.
        subst (λ d. FetchesHonestly z.cells w.lock d a.read) (sym (is.fetchers k y here).0) (g.1.0 i) in (
          a,
          reads,
          tells a g.1.1,
          (
            u,
            happens,
            record {
              shows = g.2.2.0;
              programs = is.programs;
              evacuators = is.evacuators;
              fetchers = λ j v q. elim (got_set x.fetchers k (y', p') j v q) [
                | inl s ↦ subst (λ (v : FetcherActor × Port S C). (upd w.fetchers k r.1 j ≡ fetching_in v.0) × (v.0.mover ≡ suc (z.programs + z.evacuators + j)) × (length v.0.words.items ≡ z.cells)) (sym s.1)
                    (upd-same w.fetchers k r.1 j s.0 ∙ g.2.2.1, mover ∙ ((is.fetchers k y here).1 ∙ ap (λ i. suc (z.programs + z.evacuators + i)) (sym s.0)), wide ∙ (is.fetchers k y here).2)
                | inr s ↦ let was = is.fetchers j v s.1 in (upd-other w.fetchers k r.1 j s.0 ∙ was.0, was.1, was.2)
              ];
              reached = (is.reached.0 ++ e ∷ [], follows_push h z images (start images) w u is.reached.0 e is.reached.1 happens reads);
              cells = is.cells;
              programs_many = is.programs_many;
              evacuators_many = is.evacuators_many;
              fetchers_many = length-set x.fetchers k (y', p') ∙ is.fetchers_many;
            },
          ),
        )

  -- ---- a program

  module _ (k : ℕ) (y : Seat × Port S C) (here : slice_get x.programs k ≡ Some y) where
    program_low : k < z.programs
    program_low = let l = slice_get_within x.programs k y here in let many = is.programs_many in omega arith

    program_there : nat_lt k z.programs ≡ true
    program_there = is_below k z.programs program_low

    set_so : y.0.setting ≡ setting z images k
    set_so = (is.programs k y here).1

    limit_is : y.0.setting.limit ≤ z.objects
    limit_is = subst (λ n. n ≤ z.objects) (sym (ap (λ (g : Setting). g.limit) set_so)) (in_share z.objects z.programs k program_low)

    -- what it has in hand
    pub seated : Seated content h z x.tables x.berths y.0 w.lock (w.programs k)
    seated =
        let own = is.programs k y here in
        let fits = sound.hands.program k program_low in
        record {
          shows = is.shows;
          program = own.0;
          inv = inv;
          fits = subst (λ m. FitsMode h z.cells w.lock.far (w.lock.hand m) (w.programs k).mode) (sym (ap (λ (g : Setting). g.mover) set_so)) fits;
          limit = limit_is;
          size = ap (λ (g : Setting). g.size) set_so;
        }

    -- its event is its turn
    turn_event : (c : Choice) (a : Answer) → in_range z c ≡ true
        → event z images w (record { actor = actor.Program k; choice = c; answer = a }) ≡ with_program w k (taken z.cells w.lock (program_turn y.0.setting w.lock (w.programs k) c a))
    turn_event c a inside =
        let acts : ℕ → Setting → Option World = λ n g. with_program w k (taken n w.lock (program_turn g w.lock (w.programs k) c a)) in
        ap (λ b. cond b (acts z.cells (setting z images k)) None) (true_and (nat_lt k z.programs) (in_range z c) program_there inside) ∙
        ap (acts z.cells) (sym set_so)

    pub program_stepped : (c : Choice) (t' : Tables) (berths' : Berths C) (y' : Seat) (p' : Port S C) (honest told : Answer → Type 0) (same same' : Type 0) (r : Step) → in_range z c ≡ true → ((a : Answer) → honest a → told a) → (same → same')
        → Goes z.cells w.lock (λ a. program_turn y.0.setting w.lock (w.programs k) c a) (λ a. (h → ReadsHonestly z.cells w.lock (w.programs k).mode a.read) × honest a)
        (λ u q. Shows content z t' berths' u × IsProgram y' q × (y'.setting ≡ y.0.setting)) same r
        → Stepped content h z images (record x { tables = t'; berths = berths'; programs = set x.programs k (y', p') }) w (actor.Program k) c told same' r
    program_stepped c t' berths' y' p' honest told same same' step.NotEnabled inside tells back g = ((λ a. turn_event c a inside ∙ ap (with_program w k) (g.0 a)), back g.1)
    program_stepped c t' berths' y' p' honest told same same' step.Took inside tells back g =
        let a : Answer = g.0 in
        let r = g.2.0 in
        let e : Event = record { actor = actor.Program k; choice = c; answer = a } in
        let u : World = record w { lock = r.0; programs = upd w.programs k r.1 } in
        let happens : event z images w e ≡ Some u = turn_event c a inside ∙ ap (with_program w k) g.2.1 in
        let reads : h → IsHonest z w (actor.Program k) a = g.1.0 in (
          a,
          reads,
          tells a g.1.1,
          (
            u,
            happens,
            record {
              shows = g.2.2.0;
              programs = λ j v q. elim (got_set x.programs k (y', p') j v q) [
                | inl s ↦ subst (λ (v : Seat × Port S C). IsProgram v.0 (upd w.programs k r.1 j) × (v.0.setting ≡ setting z images j)) (sym s.1)
                    (subst (IsProgram y') (sym (upd-same w.programs k r.1 j s.0)) g.2.2.1, g.2.2.2 ∙ (set_so ∙ ap (setting z images) (sym s.0)))
                | inr s ↦ (subst (IsProgram v.0) (sym (upd-other w.programs k r.1 j s.0)) (is.programs j v s.1).0, (is.programs j v s.1).1)
              ];
              evacuators = is.evacuators;
              fetchers = is.fetchers;
              reached = (is.reached.0 ++ e ∷ [], follows_push h z images (start images) w u is.reached.0 e is.reached.1 happens reads);
              cells = is.cells;
              programs_many = length-set x.programs k (y', p') ∙ is.programs_many;
              evacuators_many = is.evacuators_many;
              fetchers_many = is.fetchers_many;
            },
          ),
        )

-- an element that was read
pub at_index : {A : Type 0} (xs : List A) (k : ℕ) (x : A) → k < length xs → x ≡ get_or xs k x → slice_get xs k ≡ Some x
at_index xs k x l e = slice_get-get_or xs k x l ∙ ap Some (sym e)

-- an element written back as it was
pub set_back : {A P : Type 0} (xs : List (A × P)) (k : ℕ) (x : A × P) (a : A) (p : P) → x ≡ get_or xs k x → a ≡ x.0 → p ≡ x.1 → set xs k (a, p) ≡ xs
set_back {A} {P} xs k x a p e f g =
    let pair : (a, p) ≡ x = ap (λ (y : A). (y, p)) f ∙ ap (λ (y : P). (x.0, y)) g in
    ap (set xs k) (pair ∙ e) ∙ set-get_or xs k x

-- the way to the store that stands at an index
port_at : {A P : Type 0} (xs : List (A × P)) (k : ℕ) (x : A × P) (y : A) (p : P) → slice_get xs k ≡ Some x → slice_get xs k ≡ Some (y, p) → p ≡ x.1
port_at {A} {P} xs k x y p e f =
    let both : Some x ≡ Some (y, p) = sym e ∙ f in
    let same : (y, p) ≡ x = cc in
    ap (λ (i : A × P). i.1) same

-- and behind a write of it
port_set : {A P : Type 0} (xs : List (A × P)) (k : ℕ) (x' : A) (p' : P) (y : A) (q : P) → slice_get (set xs k (x', p')) k ≡ Some (y, q) → q ≡ p'
port_set {A} {P} xs k x' p' y q e = elim (got_set xs k (x', p') k (y, q) e) [ inl r ↦ ap (λ (i : A × P). i.1) r.1 | inr r ↦ absurd (r.0 refl) ]

-- a lock that stayed
pub same_memory : {S C : Type 0} (l m : Lock S C) → l ≡ m → l.memory ≡ m.memory
same_memory {S} {C} l m e = ap (λ (k : Lock S C). k.memory) e

pub same_berths : {S C : Type 0} (l m : Lock S C) → l ≡ m → l.berths ≡ m.berths
same_berths {S} {C} l m e = ap (λ (k : Lock S C). k.berths) e

-- an actor that did nothing is written back as it was, with its way to the store
module _ {S C : Type 0} (x : Parts S C) (t : Tables) (berths : Berths C) (same_tables : t ≡ x.tables) (same_berths : berths ≡ x.berths) where
  pub program_back : (seats : List (Seat × Port S C)) → seats ≡ x.programs → record x { tables = t; berths = berths; programs = seats } ≡ x
  program_back seats e =
      ap (λ (y : Tables). record x { tables = y; berths = berths; programs = seats }) same_tables ∙
      (ap (λ (y : Berths C). record x { berths = y; programs = seats }) same_berths ∙ ap (λ (y : List (Seat × Port S C)). record x { programs = y }) e)

  pub evacuator_back : (movers : List (EvacuatorActor × Port S C)) → movers ≡ x.evacuators → record x { tables = t; berths = berths; evacuators = movers } ≡ x
  evacuator_back movers e =
      ap (λ (y : Tables). record x { tables = y; berths = berths; evacuators = movers }) same_tables ∙
      (ap (λ (y : Berths C). record x { berths = y; evacuators = movers }) same_berths ∙ ap (λ (y : List (EvacuatorActor × Port S C)). record x { evacuators = y }) e)

  pub fetcher_back : (movers : List (FetcherActor × Port S C)) → movers ≡ x.fetchers → record x { tables = t; berths = berths; fetchers = movers } ≡ x
  fetcher_back movers e =
      ap (λ (y : Tables). record x { tables = y; berths = berths; fetchers = movers }) same_tables ∙
      (ap (λ (y : Berths C). record x { berths = y; fetchers = movers }) same_berths ∙ ap (λ (y : List (FetcherActor × Port S C)). record x { fetchers = y }) e)

module _ {S C : Type 0} (reliable : Type 0) (failures : S → ℕ) (gives : S → C → List ℕ → S → Type 0) (z : Sizes) (w : World) (x : Parts S C) (k : ℕ) (t' : Tables) (berths' : Berths C) where
  -- the same answer by the same ways, to the same question
  so_told : (p q p' q' : Port S C) (y y' : Asked) (a : Answer) → p' ≡ p → q' ≡ q → y' ≡ y → AnswersSo reliable failures gives z.cells x.berths.items p q w.lock.far y a
      → AnswersSo reliable failures gives z.cells x.berths.items p' q' w.lock.far y' a
  so_told p q p' q' y y' a e f d told =
      subst (λ (i : Port S C). AnswersSo reliable failures gives z.cells x.berths.items i q' w.lock.far y' a) (sym e)
      (subst (λ (i : Port S C). AnswersSo reliable failures gives z.cells x.berths.items p i w.lock.far y' a) (sym f) (subst (λ (i : Asked). AnswersSo reliable failures gives z.cells x.berths.items p q w.lock.far i a) (sym d) told))

  pub program_told : (y : Seat × Port S C) (y' : Seat) (p' : Port S C) → slice_get x.programs k ≡ Some y → (a : Answer) → AnswersSo reliable failures gives z.cells x.berths.items y.1 p' w.lock.far (asked_in z.cells (w.programs k).mode) a
      → StoreTold reliable failures gives z w x (record x { tables = t'; berths = berths'; programs = set x.programs k (y', p') }) (actor.Program k) a
  program_told y y' p' here a told = λ p q from to.
      so_told y.1 p' p q (asked_in z.cells (w.programs k).mode) (asked_in z.cells (w.programs k).mode) a (port_at x.programs k y from.0 p here from.1) (port_set x.programs k y' p' to.0 q to.1) refl told

  pub evacuator_told : (y : EvacuatorActor × Port S C) (y' : EvacuatorActor) (p' : Port S C) → slice_get x.evacuators k ≡ Some y → w.evacuators k ≡ eviction_in y.0 → (a : Answer)
      → UnreadSo (AnswersSo reliable failures gives z.cells x.berths.items y.1 p' w.lock.far (asked_idly z.cells (eviction_in y.0))) a
      → StoreTold reliable failures gives z w x (record x { tables = t'; berths = berths'; evacuators = set x.evacuators k (y', p') }) (actor.Evacuator k) a
  evacuator_told y y' p' here is a told = λ p q from to.
      so_told y.1 p' p q (asked_idly z.cells (eviction_in y.0)) (asked_idly z.cells (w.evacuators k)) a (port_at x.evacuators k y from.0 p here from.1) (port_set x.evacuators k y' p' to.0 q to.1)
      (ap (asked_idly z.cells) is) told.1

  pub fetcher_told : (y : FetcherActor × Port S C) (y' : FetcherActor) (p' : Port S C) → slice_get x.fetchers k ≡ Some y → w.fetchers k ≡ fetching_in y.0 → (a : Answer)
      → AnswersSo reliable failures gives z.cells x.berths.items y.1 p' w.lock.far (asked_ahead z.cells (fetching_in y.0)) a
      → StoreTold reliable failures gives z w x (record x { tables = t'; berths = berths'; fetchers = set x.fetchers k (y', p') }) (actor.Fetcher k) a
  fetcher_told y y' p' here is a told = λ p q from to.
      so_told y.1 p' p q (asked_ahead z.cells (fetching_in y.0)) (asked_ahead z.cells (w.fetchers k)) a (port_at x.fetchers k y from.0 p here from.1) (port_set x.fetchers k y' p' to.0 q to.1)
      (ap (asked_ahead z.cells) is) told
