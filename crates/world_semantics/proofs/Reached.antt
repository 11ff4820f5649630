-- in every world that is reached each program is where the run of its code is
use Rattle.std.proofs.Common.{◌≡◌, inl, inr, ℕ, suc, ◌+◌, ◌*◌, ◌%◌, ◌<◌, ◌≤◌, Bool, true, false, cond, ◌&&◌, List, [], ◌∷◌, Option, Some, None, refl, sym, ◌∙◌, subst, arith}
use Rattle.std.specs.Prelude.{slice_get}
use Rattle.std.proofs.Math.Nat.{mod-lt}
use Rattle.code_form.specs.Form.{Block, Function, Image}
use Rattle.code_form.specs.Code.{Stuck, allocations_of, begins, entered, sizes}
use Rattle.code_form.specs.Placed.{next_object, object_at}
use Rattle.code_form.specs.Tracked.{WaitsShut}
use Rattle.pointer_word.specs.Hands.{upd}
use Rattle.pointer_word.specs.Machine.{State, latest}
use Rattle.pointer_word.specs.Calls.{Call, Begins, Claims, Marks, Leaves, act}
use Rattle.pointer_word.specs.Legal.{legal}
use Rattle.pointer_word.proofs.Upd.{upd-same, upd-other, same_or}
use Rattle.pointer_word.proofs.Safe.{safe}
use Rattle.world_semantics.specs.declared.event.Actor.{Actor}
use Rattle.world_semantics.specs.declared.event.Actor.TheVariants as actor
use Rattle.world_semantics.specs.declared.event.Choice.{Choice}
use Rattle.world_semantics.specs.declared.event.Choice.TheVariants as choice
use Rattle.world_semantics.specs.Fetchers as fetching
use Rattle.world_semantics.specs.Fetchers.{Fetching}
use Rattle.world_semantics.specs.Programs.{Eviction, Program, begun}
use Rattle.world_semantics.specs.Turns.{Answer, Turn, NotEnabled, Alone, Calls, after_call, taken, evacuator_idle, evacuator_turn, fetcher_idle, fetcher_claims, fetches, fetcher_turn, program_turn}
use Rattle.world_semantics.specs.Worlds.{Sizes, World, Event, setting, share, start, in_range, is_actor, with_program, with_evacuator, with_fetcher, acted, event, Follows}
use Rattle.world_semantics.specs.Steps.{IsSound}
use Rattle.world_semantics.specs.Following.{IsAt}
use Rattle.world_semantics.proofs.Few.{few_begins}
use Rattle.world_semantics.proofs.Latest.{keeps_latest}
use Rattle.world_semantics.proofs.Going.{Goes, Leads, leads_brings, leads_evicts, program_leads}
use Rattle.world_semantics.proofs.Following.{Laws, Follows1, goes_on, goes_outside, apart_from, not_in_both}
use Rattle.world_semantics.proofs.Stepping.{enabled, happened, starts}

called_leads : {A : Type 0} (n : ℕ) (s : State) (Q : State → A → Type 0) (c : Call) (go : State → A) (r : State × A) (b : Bool) → after_call (cond b (Some (act s c)) None) go ≡ Some r → Q (act s c) (go (act s c)) → Q r.0 r.1
called_leads n s Q c go r false e ok = cc
called_leads {A} n s Q c go r true e ok =
    let q : (act s c, go (act s c)) ≡ r = (let k : Some (act s c, go (act s c)) ≡ Some r = e in cc) in
    subst (λ (z : State × A). Q z.0 z.1) q ok

pub leads_taken : {A : Type 0} (n : ℕ) (s : State) (Q : State → A → Type 0) (x : Turn A) (r : State × A) → taken n s x ≡ Some r → Leads s Q x → Q r.0 r.1
leads_taken n s Q NotEnabled r e ok = cc
leads_taken {A} n s Q (Alone a) r e ok =
    let q : (s, a) ≡ r = (let k : Some (s, a) ≡ Some r = e in cc) in
    subst (λ (z : State × A). Q z.0 z.1) q ok
leads_taken n s Q (Calls c go) r e ok = called_leads n s Q c go r (legal n s c) e ok

-- nothing is stored
abbrev Same : {A : Type 0} → State → State → A → Type 0
Same s t d = (o i : ℕ) → latest t o i ≡ latest s o i

-- ---- an evacuator stores nothing

idle_leads : (s : State) (m : ℕ) (c : Choice) → Leads s (Same s) (evacuator_idle m c)
idle_leads s m choice.Next = tt
idle_leads s m (choice.Look f) = λ o i. refl
idle_leads s m (choice.Claim f) = tt
idle_leads s m (choice.Mark o f) = keeps_latest s (Marks m o f) refl
idle_leads s m (choice.Leave o f) = keeps_latest s (Leaves m o f) refl
idle_leads s m (choice.Begin o) = tt

moving_leads : (n : ℕ) (s : State) (m : ℕ) (e : Eviction) (c : Choice) (a : Answer) → Leads s (Same s) (evacuator_turn n m (Some e) c a)
moving_leads n s m e choice.Next a = leads_evicts n s m a Some None None (Same s) (λ t d same. same) (λ t same. same) (λ t same. same) e
moving_leads n s m e (choice.Look f) a = tt
moving_leads n s m e (choice.Claim f) a = tt
moving_leads n s m e (choice.Mark o f) a = tt
moving_leads n s m e (choice.Leave o f) a = tt
moving_leads n s m e (choice.Begin o) a = tt

evacuator_leads : (n : ℕ) (s : State) (m : ℕ) (d : Option Eviction) (c : Choice) (a : Answer) → Leads s (Same s) (evacuator_turn n m d c a)
evacuator_leads n s m None c a = idle_leads s m c
evacuator_leads n s m (Some e) c a = moving_leads n s m e c a

-- ---- nor does a fetcher

begin_leads : (s : State) (m : ℕ) (c : Choice) → Leads s (Same s) (fetcher_idle m c)
begin_leads s m choice.Next = tt
begin_leads s m (choice.Look f) = tt
begin_leads s m (choice.Claim f) = tt
begin_leads s m (choice.Mark o f) = tt
begin_leads s m (choice.Leave o f) = tt
begin_leads s m (choice.Begin o) = keeps_latest s (Begins m o 0 false) refl

claim_leads : (s : State) (m f : ℕ) (d : Fetching) → Leads s (Same s) (fetcher_claims m f d)
claim_leads s m f (fetching.Bringing o) = keeps_latest s (Claims m o f) refl
claim_leads s m f (fetching.Reading o g) = tt
claim_leads s m f (fetching.Filling o g words k) = tt
claim_leads s m f (fetching.Releasing o g) = tt
claim_leads s m f (fetching.Retreating o) = tt

fetches_lead : (n : ℕ) (s : State) (m : ℕ) (d : Fetching) (c : Choice) (a : Answer) → Leads s (Same s) (fetches n m d c a)
fetches_lead n s m d choice.Next a = leads_brings n s m false a Some None None (Same s) (λ t e same. same) (λ t same. same) (λ t same. same) d
fetches_lead n s m d (choice.Look f) a = tt
fetches_lead n s m d (choice.Claim f) a = claim_leads s m f d
fetches_lead n s m d (choice.Mark o f) a = tt
fetches_lead n s m d (choice.Leave o f) a = tt
fetches_lead n s m d (choice.Begin o) a = tt

fetcher_leads : (n : ℕ) (s : State) (m : ℕ) (d : Option Fetching) (c : Choice) (a : Answer) → Leads s (Same s) (fetcher_turn n m d c a)
fetcher_leads n s m None c a = begin_leads s m c
fetcher_leads n s m (Some d) c a = fetches_lead n s m d c a

-- every program is where the run of its code is
abbrev pub AllFollow : Sizes → (ℕ → Image) → World → Type 0
AllFollow z images w = (k : ℕ) → Follows1 (setting z images k) w.lock (w.programs k)

module _ (laws : Laws) (h : Type 0) (sure : h) (z : Sizes) (images : ℕ → Image) (some : 0 < z.cells) where
  by_program : (w u : World) (k : ℕ) (c : Choice) (a : Answer) (x : Option (State × Program))
      → taken z.cells w.lock (program_turn (setting z images k) w.lock (w.programs k) c a) ≡ x → with_program w k x ≡ Some u → IsSound h z w → AllFollow z images w → AllFollow z images u
  by_program w u k c a None e q is all = cc
  by_program w u k c a (Some r) e q is all =
      let g = setting z images k in
      let v : World = record w { lock = r.0; programs = upd w.programs k r.1 } in
      let same : v ≡ u = (let s : Some v ≡ Some u = q in cc) in
      let goes : Goes g w.lock (w.programs k) r.0 r.1 = leads_taken z.cells w.lock (Goes g w.lock (w.programs k)) (program_turn g w.lock (w.programs k) c a) r e (program_leads g w.lock (w.programs k) c a (all k).within.aims) in
      subst (AllFollow z images) same (λ j. elim (same_or j k) [
        | inl i ↦ subst (λ (i : ℕ). Follows1 (setting z images i) r.0 (upd w.programs k r.1 i)) (sym i)
            (subst (Follows1 g r.0) (sym (upd-same w.programs k r.1 k refl)) (goes_on laws g some w.lock (w.programs k) r.0 r.1 h sure is.lock (all k) goes))
        | inr d ↦ subst (Follows1 (setting z images j) r.0) (sym (upd-other w.programs k r.1 j d))
            (apart_from laws (setting z images j) some w.lock r.0 (w.programs j)
            (λ o i low high. goes_outside laws g some w.lock (w.programs k) r.0 r.1 (all k).within.room goes o i (not_in_both (share z) j k o d low high)) (all j))
      ])

  by_evacuator : (w u : World) (k : ℕ) (c : Choice) (a : Answer) (x : Option (State × Option Eviction))
      → taken z.cells w.lock (evacuator_turn z.cells (suc (z.programs + k)) (w.evacuators k) c a) ≡ x → with_evacuator w k x ≡ Some u → AllFollow z images w → AllFollow z images u
  by_evacuator w u k c a None e q all = cc
  by_evacuator w u k c a (Some r) e q all =
      let m : ℕ = suc (z.programs + k) in
      let v : World = record w { lock = r.0; evacuators = upd w.evacuators k r.1 } in
      let same : v ≡ u = (let s : Some v ≡ Some u = q in cc) in
      let stored : Same w.lock r.0 r.1 = leads_taken z.cells w.lock (Same w.lock) (evacuator_turn z.cells m (w.evacuators k) c a) r e (evacuator_leads z.cells w.lock m (w.evacuators k) c a) in
      subst (AllFollow z images) same (λ j. apart_from laws (setting z images j) some w.lock r.0 (w.programs j) (λ o i low high. stored o i) (all j))

  by_fetcher : (w u : World) (k : ℕ) (c : Choice) (a : Answer) (x : Option (State × Option Fetching))
      → taken z.cells w.lock (fetcher_turn z.cells (suc (z.programs + z.evacuators + k)) (w.fetchers k) c a) ≡ x → with_fetcher w k x ≡ Some u → AllFollow z images w → AllFollow z images u
  by_fetcher w u k c a None e q all = cc
  by_fetcher w u k c a (Some r) e q all =
      let m : ℕ = suc (z.programs + z.evacuators + k) in
      let v : World = record w { lock = r.0; fetchers = upd w.fetchers k r.1 } in
      let same : v ≡ u = (let s : Some v ≡ Some u = q in cc) in
      let stored : Same w.lock r.0 r.1 = leads_taken z.cells w.lock (Same w.lock) (fetcher_turn z.cells m (w.fetchers k) c a) r e (fetcher_leads z.cells w.lock m (w.fetchers k) c a) in
      subst (AllFollow z images) same (λ j. apart_from laws (setting z images j) some w.lock r.0 (w.programs j) (λ o i low high. stored o i) (all j))

  by_actor : (w u : World) (who : Actor) (c : Choice) (a : Answer) → acted z images w who c a ≡ Some u → IsSound h z w → AllFollow z images w → AllFollow z images u
  by_actor w u (actor.Program k) c a e is all = by_program w u k c a _ refl e is all
  by_actor w u (actor.Evacuator k) c a e is all = by_evacuator w u k c a _ refl e all
  by_actor w u (actor.Fetcher k) c a e is all = by_fetcher w u k c a _ refl e all

  pub all_follow : (w u : World) (e : Event) → event z images w e ≡ Some u → IsSound h z w → AllFollow z images w → AllFollow z images u
  all_follow w u e b is all = by_actor w u e.actor e.choice e.answer (enabled (is_actor z e.actor && in_range z e.choice) (acted z images w e.actor e.choice e.answer) u b).1 is all

  followed : (w v : World) (es : List Event) → Follows h z images w es v → IsSound h z w → AllFollow z images w → IsSound h z v × AllFollow z images v
  followed w v [] f is all = subst (λ (x : World). IsSound h z x × AllFollow z images x) (sym f) (is, all)
  followed w v (e ∷ es) f is all = followed f.0 v es f.3 (happened h z images w f.0 e f.1 f.2 is).sound (all_follow w f.0 e f.1 is all)

-- ---- the beginning

none_begins : (main : Option Function) → sizes (allocations_of (begins main)) ≡ []
none_begins None = refl
none_begins (Some g) = at_block (slice_get g.blocks 0)
  where
    at_block : (b : Option Block) → sizes (allocations_of (elim b [ None ↦ Stuck [] [] | Some x ↦ entered g [] None x [] [] [] ])) ≡ []
    at_block None = refl
    at_block (Some x) = refl

waits_begins : (main : Option Function) → WaitsShut (begins main)
waits_begins None = tt
waits_begins (Some g) = at_block (slice_get g.blocks 0)
  where
    at_block : (b : Option Block) → WaitsShut (elim b [ None ↦ Stuck [] [] | Some x ↦ entered g [] None x [] [] [] ])
    at_block None = tt
    at_block (Some x) = tt

pub begin : (z : Sizes) (images : ℕ → Image) → AllFollow z images (start images)
begin z images k =
    let none : sizes (allocations_of (begun (images k)).core) ≡ [] = none_begins (slice_get (images k).functions 0) in
    record {
      core = refl;
      heap = record { cell = λ r x l. refl; fresh = λ o i a b. refl; new = λ r x l. refl };
      within = record {
        room = subst (λ (cells : List ℕ). next_object z.cells (k * share z) cells ≤ k * share z + share z) (sym none) (omega arith);
        waits = waits_begins (slice_get (images k).functions 0);
        few = few_begins (images k).functions (slice_get (images k).functions 0) refl;
        aims = tt;
      };
    }

-- in every world that is reached over an honest store each program is where the run of its code is, its cells read off the objects' contents
pub at : Laws → (z : Sizes) (images : ℕ → Image) (events : List Event) (v : World) → 0 < z.cells → Follows (Unit {0}) z images (start images) events v → (k : ℕ) → IsAt z images v k
at laws z images events v some f k =
    let both = followed laws (Unit {0}) tt z images some (start images) v events f (starts (Unit {0}) z images) (begin z images) in
    let is = both.1 k in
    let fine = safe (Unit {0}) z.cells v.lock both.0.lock in
    record { core = is.core; cell = λ r x l. fine.contents tt (object_at z.cells (k * share z) _ r x) (x % z.cells) (mod-lt x some) ∙ is.heap.cell r x l }
