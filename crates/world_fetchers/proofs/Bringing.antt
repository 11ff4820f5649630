-- the turns of a fetcher that code holds
use Rattle.std.proofs.Common.{◌≡◌, ◌≢◌, ℕ, suc, ◌+◌, ◌<◌, ◌≤◌, Bool, true, false, cond, List, Option, Some, None, refl, sym, ap, ◌∙◌, subst, arith, eq-eqb, ne_eqb}
use Rattle.std.specs.Prelude.{◌==◌, is_none, option_map}
use Rattle.pointer_word.specs.Words.{Coming, Word, counted}
use Rattle.pointer_word.specs.Hands.{Hand, bringing, claiming, listed, upd}
use Rattle.pointer_word.specs.Machine.{Far, State, after_begin, after_claim, content_or, content as far_content}
use Rattle.pointer_word.specs.Calls.{Arrives, Begins, Claims, Fills, Retreats, Unclaims, act, begin_at}
use Rattle.pointer_word.specs.Legal.{holds}
use Rattle.pointer_word.proofs.Legal.{may_legal}
use Rattle.pointer_word.proofs.Ordered.{filled_all}
use Rattle.pointer_word.proofs.Upd.{upd-same}
use Rattle.remote_store.specs.declared.berth.Berth.{Berth}
use Rattle.remote_store.specs.declared.port.Port.{Port}
use Rattle.world_memory.specs.Answered.{AnswersSo, Nothing, reading}
use Rattle.world_memory.specs.Berths.{Berths}
use Rattle.world_memory.specs.Shown.{AreTables, Shown}
use Rattle.world_memory.specs.Tables.{Tables, frame_at, is_away_at, object_at, place_of}
use Rattle.world_memory.specs.declared.memory.ObjectPlace.{ObjectPlace}
use Rattle.world_memory.specs.declared.memory.ObjectPlace.TheVariants as placed
use Rattle.world_fetchers.specs.declared.fetch.Fetching.{Fetching as RustFetching}
use Rattle.world_fetchers.specs.declared.fetch.Fetching.TheVariants as d
use Rattle.world_fetchers.specs.declared.fetcher.FetcherActor.{FetcherActor}
use Rattle.world_actors.specs.Acting.{Goes, Leads, Shows, Unread}
use Rattle.world_actors.specs.Asking.{asked_in}
use Rattle.world_fetchers.specs.Fetching.{Brings, Fetches, asked_ahead, fetching_in, fetching_of}
use Rattle.world_semantics.specs.declared.event.Choice.{Choice}
use Rattle.world_semantics.specs.declared.event.Choice.TheVariants as choice
use Rattle.world_semantics.specs.declared.event.Step.{Step}
use Rattle.world_semantics.specs.Fetchers.{Fetching, Bringing, Reading, Filling, Releasing, Retreating, as_mode}
use Rattle.world_semantics.specs.InHand.{FitsFetcher}
use Rattle.world_semantics.specs.Turns.{Answer, NotEnabled, Calls, brings, claimed_so, fetcher_claims, fetcher_idle, fetcher_turn, taken, to_fill}
use Rattle.world_semantics.specs.Worlds.{FetchesHonestly, IsHonestRead, ReadsHonestly, Sizes, in_range}
use Rattle.world_semantics.proofs.Moving.{below}
use Rattle.world_actors.proofs.Acting.{leads_call, plain}
use Rattle.world_actors.proofs.Answered.{unasked}
use Rattle.world_actors.proofs.BroughtIn.{reads_none, word_is}
use Rattle.world_actors.proofs.Dispatched.{below_false, below_true}

-- an object in range is there
pub begin_inside : (z : Sizes) (o : ℕ) → in_range z (choice.Begin o) ≡ true → o < z.objects
begin_inside z o e = below o z.objects e

-- ---- tries

begins_yes : (s : State) (m o : ℕ) (x : ObjectPlace) → (s.word o).count ≡ 0 → is_away_at x ≡ true → begin_at s m o 0 false (place_of x) ≡ after_begin s m o
begins_yes s m o placed.Away e q = ap (λ b. cond b (after_begin s m o) s) (eq-eqb (s.word o).count 0 e)
begins_yes s m o (placed.Coming j) e q = cc
begins_yes s m o (placed.Here f k) e q = cc
begins_yes s m o (placed.Leaving f j k) e q = cc

begins_held : (s : State) (m o : ℕ) (x : ObjectPlace) → (s.word o).count ≢ 0 → begin_at s m o 0 false (place_of x) ≡ s
begins_held s m o placed.Away e = ap (λ b. cond b (after_begin s m o) s) (ne_eqb (s.word o).count 0 e)
begins_held s m o (placed.Coming j) e = refl
begins_held s m o (placed.Here f k) e = refl
begins_held s m o (placed.Leaving f j k) e = refl

begins_elsewhere : (s : State) (m o : ℕ) (x : ObjectPlace) → is_away_at x ≡ false → begin_at s m o 0 false (place_of x) ≡ s
begins_elsewhere s m o placed.Away e = cc
begins_elsewhere s m o (placed.Coming j) e = refl
begins_elsewhere s m o (placed.Here f k) e = refl
begins_elsewhere s m o (placed.Leaving f j k) e = refl

module _ {C : Type 0} (content : C → Option (List ℕ)) (z : Sizes) (t : Tables) (berths : Berths C) (m : ℕ) (s : State) (shows : Shows content z t berths s) where
  count_is : (o : ℕ) → (s.word o).count ≡ (object_at t o).count
  count_is o = ap (λ (w : Word). w.count) (shows.tables.objects o).word

  place_is : (o : ℕ) → (s.word o).place ≡ place_of (object_at t o).place
  place_is o = ap (λ (w : Word). w.place) (shows.tables.objects o).word

  -- a try to begin leads to a state that the tables show, and it is known whether the mover has the berth
  abbrev pub BegunSo : ℕ → Tables → Berths C → Bool → Type 0
  BegunSo o t' berths' b = let u : State = act s (Begins m o 0 false) in Shows content z t' berths' u × (holds (u.hand m).bringing o ≡ b)

  pub begun : (o : ℕ) (t' : Tables) → o < z.objects → (object_at t o).count ≡ 0 → is_away_at (object_at t o).place ≡ true
      → (Shown z t s → o < z.objects → AreTables z t' (upd s.word o (counted (s.word o).count (Coming m))) s.note s.frame s.cell) → BegunSo o t' berths true
  begun o t' inside none there told =
      let u : State = after_begin s m o in
      let y : Hand = bringing (s.hand m) o (content_or (far_content (s.far o))) in
      let hand : u.hand m ≡ y = upd-same s.hand m y m refl in
      let same : act s (Begins m o 0 false) ≡ u = ap (begin_at s m o 0 false) (place_is o) ∙ begins_yes s m o (object_at t o).place (count_is o ∙ none) there in
      subst (λ (v : State). Shows content z t' berths v × (holds (v.hand m).bringing o ≡ true)) (sym same)
      (record { tables = told shows.tables inside; far = shows.far; many = shows.many; objects_few = shows.objects_few; frames_few = shows.frames_few; size = shows.size }, ap (λ (k : Hand). holds k.bringing o) hand ∙ eq-eqb o o refl)

  nothing_begun : (o : ℕ) → act s (Begins m o 0 false) ≡ s → (s.hand m).bringing ≡ None → BegunSo o t berths false
  nothing_begun o same none = subst (λ (v : State). Shows content z t berths v × (holds (v.hand m).bringing o ≡ false)) (sym same) (shows, ap (λ y. holds y o) none)

  pub held : (o : ℕ) → (s.hand m).bringing ≡ None → 0 < (object_at t o).count → BegunSo o t berths false
  held o none some = nothing_begun o (ap (begin_at s m o 0 false) (place_is o) ∙ begins_held s m o (object_at t o).place (λ e. let c = count_is o in absurd (omega arith))) none

  pub elsewhere : (o : ℕ) → (s.hand m).bringing ≡ None → is_away_at (object_at t o).place ≡ false → BegunSo o t berths false
  elsewhere o none there = nothing_begun o (ap (begin_at s m o 0 false) (place_is o) ∙ begins_elsewhere s m o (object_at t o).place there) none

  -- so of a try to claim
  abbrev pub ClaimedSo : ℕ → ℕ → Tables → Berths C → Bool → Type 0
  ClaimedSo o f t' berths' b = let u : State = act s (Claims m o f) in Shows content z t' berths' u × (holds (u.hand m).claimed f ≡ b)

  free_is : (f : ℕ) (b : Bool) → is_none (frame_at t f) ≡ b → (s.frame f == 0) ≡ b
  free_is f b none = ap (λ n. n == 0) (shows.tables.frames f) ∙ word_is (frame_at t f) b none

  pub claimed : (o f : ℕ) (t' : Tables) → f < z.frames → is_none (frame_at t f) ≡ true
      → (Shown z t s → f < z.frames → AreTables z t' s.word s.note (upd s.frame f (suc o)) s.cell) → ClaimedSo o f t' berths true
  claimed o f t' inside none told =
      let u : State = after_claim s m o f in
      let hand : u.hand m ≡ claiming (s.hand m) f = upd-same s.hand m (claiming (s.hand m) f) m refl in
      let same : act s (Claims m o f) ≡ u = ap (λ b. cond b u s) (free_is f true none) in
      subst (λ (v : State). Shows content z t' berths v × (holds (v.hand m).claimed f ≡ true)) (sym same)
      (record { tables = told shows.tables inside; far = shows.far; many = shows.many; objects_few = shows.objects_few; frames_few = shows.frames_few; size = shows.size }, ap (λ (k : Hand). holds k.claimed f) hand ∙ eq-eqb f f refl)

  pub not_claimed : (o f : ℕ) → (s.hand m).claimed ≡ None → is_none (frame_at t f) ≡ false → ClaimedSo o f t berths false
  not_claimed o f none taken =
      let same : act s (Claims m o f) ≡ s = ap (λ b. cond b (after_claim s m o f) s) (free_is f false taken) in
      subst (λ (v : State). Shows content z t berths v × (holds (v.hand m).claimed f ≡ false)) (sym same) (shows, ap (λ y. holds y f) none)

-- ---- bringing in

module _ {C : Type 0} (content : C → Option (List ℕ)) (h : Type 0) (z : Sizes) (t : Tables) (berths : Berths C) (m : ℕ) (s : State) where
  -- a turn leads to a state that the tables and berths show, and to this
  abbrev pub LeadsTo : Fetching → Tables → Berths C → Option Fetching → Type 0
  LeadsTo e t' berths' r = Leads z.cells s (λ a. brings z.cells m false a e Some None None) Unread (λ u q. Shows content z t' berths' u × (q ≡ r))

  -- the same, where the store answered so
  abbrev pub LeadsSo : (Answer → Type 0) → Fetching → Tables → Berths C → Option Fetching → Type 0
  LeadsSo told e t' berths' r = Leads z.cells s (λ a. brings z.cells m false a e Some None None) (λ a. (h → ReadsHonestly z.cells s (as_mode e) a.read) × told a) (λ u q. Shows content z t' berths' u × (q ≡ r))

  -- where nothing is read, nothing is read wrong
  pub told_so : (told : Answer → Type 0) (e : Fetching) (t' : Tables) (berths' : Berths C) (r : Option Fetching) → ((a : Answer) → told a) → LeadsTo e t' berths' r → LeadsSo told e t' berths' r
  told_so told e t' berths' r f l = (l.0, ((λ _. subst (ReadsHonestly z.cells s (as_mode e)) (sym l.1) (reads_none z.cells s (as_mode e))), f l.0), l.2)

  pub got : (o f : ℕ) (words : List ℕ) (told : Answer → Type 0) → Brings content h z t berths m (Reading o f) s → told (reading true words) → (h → IsHonestRead z.cells (s.far o) (Some words))
      → LeadsSo told (Reading o f) t berths (Some (Filling o f words 0))
  got o f words told is answered honest = (reading true words, (honest, answered), ((s, Some (Filling o f words 0)), refl, (is.shows, refl)))

  pub not_got : (o f : ℕ) (words : List ℕ) (told : Answer → Type 0) → Brings content h z t berths m (Reading o f) s → told (reading false words) → LeadsSo told (Reading o f) t berths (Some (Releasing o f))
  not_got o f words told is answered = (reading false words, ((λ _. reads_none z.cells s (as_mode (Reading o f))), answered), ((s, Some (Releasing o f)), refl, (is.shows, refl)))

  next : (k : ℕ) → suc k ≡ k + 1
  next k = omega arith

  pub filled : (o f k v : ℕ) (words : List ℕ) (t' : Tables) (berths' : Berths C) → Brings content h z t berths m (Filling o f words k) s → k < z.cells → v ≡ listed words k
      → Shows content z t' berths' (act s (Fills m f k v)) → LeadsTo (Filling o f words k) t' berths' (Some (Filling o f words (k + 1)))
  filled o f k v words t' berths' is l value after =
      let r : Option Fetching = Some (Filling o f words (suc k)) in
      leads_call z.cells s (λ a. brings z.cells m false a (Filling o f words k) Some None None) Unread (λ u q. Shows content z t' berths' u × (q ≡ Some (Filling o f words (k + 1)))) plain (Fills m f k (listed words k)) (λ _. r) refl
      (ap (λ b. cond b (Calls (Fills m f k (listed words k)) (λ (u : State). r)) (Calls (Arrives m o f false) (λ (u : State). None))) (below_true k z.cells l))
      (may_legal h z.cells s (Fills m f k (listed words k)) is.fits.0.2)
      (subst (λ n. Shows content z t' berths' (act s (Fills m f k n))) value after, ap (λ n. Some (Filling o f words n)) (next k))

  pub arrived : (o f k : ℕ) (words : List ℕ) (t' : Tables) (berths' : Berths C) → Brings content h z t berths m (Filling o f words k) s → z.cells ≤ k → Shows content z t' berths' (act s (Arrives m o f false))
      → LeadsTo (Filling o f words k) t' berths' None
  arrived o f k words t' berths' is full after =
      let fits = is.fits in
      leads_call z.cells s (λ a. brings z.cells m false a (Filling o f words k) Some None None) Unread (λ u q. Shows content z t' berths' u × (q ≡ None)) plain (Arrives m o f false) (λ _. None) refl
      (ap (λ b. cond b (Calls (Fills m f k (listed words k)) (λ (u : State). Some (Filling o f words (suc k)))) (Calls (Arrives m o f false) (λ (u : State). None))) (below_false k z.cells full))
      (may_legal h z.cells s (Arrives m o f false) (fits.0.0, fits.0.2, filled_all h z.cells (s.hand m) words fits.2 (λ i l. fits.1 i (omega arith)), (λ own. cc))) (after, refl)

  pub released : (o f : ℕ) (t' : Tables) (berths' : Berths C) → Brings content h z t berths m (Releasing o f) s → Shows content z t' berths' (act s (Unclaims m f)) → LeadsTo (Releasing o f) t' berths' (Some (Retreating o))
  released o f t' berths' is after =
      leads_call z.cells s (λ a. brings z.cells m false a (Releasing o f) Some None None) Unread (λ u q. Shows content z t' berths' u × (q ≡ Some (Retreating o))) plain (Unclaims m f) (λ _. Some (Retreating o)) refl refl
      (may_legal h z.cells s (Unclaims m f) is.fits.2) (after, refl)

  pub gave_up : (o : ℕ) (t' : Tables) (berths' : Berths C) → Brings content h z t berths m (Bringing o) s → Shows content z t' berths' (act s (Retreats m o)) → LeadsTo (Bringing o) t' berths' None
  gave_up o t' berths' is after =
      leads_call z.cells s (λ a. brings z.cells m false a (Bringing o) Some None None) Unread (λ u q. Shows content z t' berths' u × (q ≡ None)) plain (Retreats m o) (λ _. None) refl refl
      (may_legal h z.cells s (Retreats m o) is.fits.0) (after, refl)

  pub retreated : (o : ℕ) (t' : Tables) (berths' : Berths C) → Brings content h z t berths m (Retreating o) s → Shows content z t' berths' (act s (Retreats m o)) → LeadsTo (Retreating o) t' berths' None
  retreated o t' berths' is after =
      leads_call z.cells s (λ a. brings z.cells m false a (Retreating o) Some None None) Unread (λ u q. Shows content z t' berths' u × (q ≡ None)) plain (Retreats m o) (λ _. None) refl refl
      (may_legal h z.cells s (Retreats m o) is.fits.0) (after, refl)

-- ---- a fetcher

module _ {C : Type 0} (content : C → Option (List ℕ)) (h : Type 0) (z : Sizes) (t : Tables) (berths : Berths C) (x : FetcherActor) (s : State) (is : Fetches content h z t berths x s) where
  pub fits_as : (y : Option RustFetching) → x.fetching ≡ y → FitsFetcher h z.cells s.far (s.hand x.mover) (option_map (λ e. fetching_of e x.words.items) y)
  fits_as y e = subst (λ k. FitsFetcher h z.cells s.far (s.hand x.mover) (option_map (λ e. fetching_of e x.words.items) k)) e is.fits

  pub idle_fits : x.fetching ≡ None → FitsFetcher h z.cells s.far (s.hand x.mover) None
  idle_fits e = fits_as None e

  pub fetches_on : (e : RustFetching) → x.fetching ≡ Some e → Brings content h z t berths x.mover (fetching_of e x.words.items) s
  fetches_on e q = record { shows = is.shows; inv = is.inv; fits = fits_as (Some e) q }

  -- it tries to begin to bring an object in
  pub idle_begins : (o : ℕ) (t' : Tables) (berths' : Berths C) (b : Bool) (y : Option Fetching) → x.fetching ≡ None → BegunSo content z t berths x.mover s is.shows o t' berths' b → cond b (Some (Bringing o)) None ≡ y
      → Leads z.cells s (λ a. fetcher_idle x.mover (choice.Begin o)) Unread (λ u q. Shows content z t' berths' u × (q ≡ y))
  idle_begins o t' berths' b y e so q =
      let go : State → Option Fetching = λ u. cond (holds (u.hand x.mover).bringing o) (Some (Bringing o)) None in
      leads_call z.cells s (λ a. fetcher_idle x.mover (choice.Begin o)) Unread (λ u k. Shows content z t' berths' u × (k ≡ y)) plain (Begins x.mover o 0 false) go refl refl
      (may_legal h z.cells s (Begins x.mover o 0 false) ((idle_fits e).0, (λ own. cc))) (so.0, ap (λ (k : Bool). cond k (Some (Bringing o)) None) so.1 ∙ q)

  -- it tries to claim a frame
  pub seeker_claims : (o f : ℕ) (t' : Tables) (berths' : Berths C) (b : Bool) (y : Option Fetching) → x.fetching ≡ Some (d.Bringing o) → ClaimedSo content z t berths x.mover s is.shows o f t' berths' b
      → cond b (Some (to_fill o f (s.far o))) (Some (Bringing o)) ≡ y → Leads z.cells s (λ a. fetcher_claims x.mover f (Bringing o)) Unread (λ u q. Shows content z t' berths' u × (q ≡ y))
  seeker_claims o f t' berths' b y e so q =
      let u : State = act s (Claims x.mover o f) in
      let stay : u.far ≡ s.far = far_stays (s.frame f == 0) o f in
      let goes : claimed_so x.mover o f Some (Some (Bringing o)) u ≡ y =
      ap (λ (k : Bool). cond k (Some (to_fill o f (u.far o))) (Some (Bringing o))) so.1 ∙ (ap (λ (far : ℕ → Far). cond b (Some (to_fill o f (far o))) (Some (Bringing o))) stay ∙ q) in
      leads_call z.cells s (λ a. fetcher_claims x.mover f (Bringing o)) Unread (λ u k. Shows content z t' berths' u × (k ≡ y)) plain (Claims x.mover o f) (claimed_so x.mover o f Some (Some (Bringing o))) refl refl
      (may_legal h z.cells s (Claims x.mover o f) (fits_as (Some (d.Bringing o)) e).2.0) (so.0, goes)
    where
      far_stays : (b : Bool) (o f : ℕ) → (cond b (after_claim s x.mover o f) s).far ≡ s.far
      far_stays true o f = refl
      far_stays false o f = refl

-- a turn of a fetcher that is idle, and of one that brings an object in
pub turn_idle : (n : ℕ) (x : FetcherActor) (s : State) (c : Choice) (honest : Answer → Type 0) (Q : State → Option Fetching → Type 0) (same : Type 0) (r : Step) → None ≡ x.fetching
    → Goes n s (λ a. fetcher_idle x.mover c) honest Q same r → Goes n s (λ a. fetcher_turn n x.mover (fetching_in x) c a) honest Q same r
turn_idle n x s c honest Q same r e g =
    subst (λ (k : Option RustFetching). Goes n s (λ a. fetcher_turn n x.mover (option_map (λ y. fetching_of y x.words.items) k) c a) honest Q same r) e g

pub turn_on : (n : ℕ) (x : FetcherActor) (s : State) (c : Choice) (e : RustFetching) (honest : Answer → Type 0) (Q : State → Option Fetching → Type 0) → c ≡ choice.Next → Some e ≡ x.fetching
    → Leads n s (λ a. brings n x.mover false a (fetching_of e x.words.items) Some None None) honest Q → Leads n s (λ a. fetcher_turn n x.mover (fetching_in x) c a) honest Q
turn_on n x s c e honest Q q k l =
    subst (λ (y : Choice). Leads n s (λ a. fetcher_turn n x.mover (fetching_in x) y a) honest Q) (sym q)
    (subst (λ (y : Option RustFetching). Leads n s (λ a. fetcher_turn n x.mover (option_map (λ y. fetching_of y x.words.items) y) choice.Next a) honest Q) k l)

pub turn_claims : (n : ℕ) (x : FetcherActor) (s : State) (c : Choice) (f : ℕ) (e : RustFetching) (honest : Answer → Type 0) (Q : State → Option Fetching → Type 0) (same : Type 0) (r : Step) → c ≡ choice.Claim f → Some e ≡ x.fetching
    → Goes n s (λ a. fetcher_claims x.mover f (fetching_of e x.words.items)) honest Q same r → Goes n s (λ a. fetcher_turn n x.mover (fetching_in x) c a) honest Q same r
turn_claims n x s c f e honest Q same r q k g =
    subst (λ (y : Choice). Goes n s (λ a. fetcher_turn n x.mover (fetching_in x) y a) honest Q same r) (sym q)
    (subst (λ (y : Option RustFetching). Goes n s (λ a. fetcher_turn n x.mover (option_map (λ y. fetching_of y x.words.items) y) (choice.Claim f) a) honest Q same r) k g)

-- an answer by which nothing is read
pub reads_honestly : (n : ℕ) (h : Type 0) (s : State) (y : Option Fetching) (a : Answer) → Unread a → h → FetchesHonestly n s y a.read
reads_honestly n h s None a e k = tt
reads_honestly n h s (Some y) a e k = subst (ReadsHonestly n s (as_mode y)) (sym e) (reads_none n s (as_mode y))

-- a fetcher that seeks no frame claims none
pub not_seeking : (m f : ℕ) (e : RustFetching) (words : List ℕ) → ((o : ℕ) → e ≡ d.Bringing o → ⊥) → fetcher_claims m f (fetching_of e words) ≡ NotEnabled
not_seeking m f (d.Bringing o) words not = absurd (not o refl)
not_seeking m f (d.Reading o g) words not = refl
not_seeking m f (d.Filling o g k) words not = refl
not_seeking m f (d.Clearing o g k) words not = refl
not_seeking m f (d.Releasing o g) words not = refl
not_seeking m f (d.Retreating o) words not = refl

-- one that brings an object in does nothing but claim a frame and go on
on_else : (n m : ℕ) (e : Fetching) (c : Choice) (a : Answer) → (c ≡ choice.Next → ⊥) → ((f : ℕ) → c ≡ choice.Claim f → ⊥) → fetcher_turn n m (Some e) c a ≡ NotEnabled
on_else n m e choice.Next a next claim = absurd (next refl)
on_else n m e (choice.Look f) a next claim = refl
on_else n m e (choice.Claim f) a next claim = absurd (claim f refl)
on_else n m e (choice.Mark o f) a next claim = refl
on_else n m e (choice.Leave o f) a next claim = refl
on_else n m e (choice.Begin o) a next claim = refl

pub turn_else : (n : ℕ) (x : FetcherActor) (s : State) (c : Choice) (e : RustFetching) (a : Answer) → Some e ≡ x.fetching → (c ≡ choice.Next → ⊥) → ((f : ℕ) → c ≡ choice.Claim f → ⊥)
    → taken n s (fetcher_turn n x.mover (fetching_in x) c a) ≡ None
turn_else n x s c e a k next claim =
    ap (λ (y : Option RustFetching). taken n s (fetcher_turn n x.mover (option_map (λ y. fetching_of y x.words.items) y) c a)) (sym k) ∙
    ap (taken n s) (on_else n x.mover (fetching_of e x.words.items) c a next claim)

-- what it asks of the store: where it is idle nothing, else what its bringing in asks
module _ {S C : Type 0} (reliable : Type 0) (failures : S → ℕ) (gives : S → C → List ℕ → S → Type 0) (n : ℕ) (berths : List (Berth C)) where
  pub told_idle : (p : Port S C) (far : ℕ → Far) (a : Answer) (x : FetcherActor) → None ≡ x.fetching → AnswersSo reliable failures gives n berths p p far (asked_ahead n (fetching_in x)) a
  told_idle p far a x e = subst (λ (k : Option RustFetching). AnswersSo reliable failures gives n berths p p far (asked_ahead n (option_map (λ y. fetching_of y x.words.items) k)) a) e refl

  pub told_none : (p : Port S C) (far : ℕ → Far) (a : Answer) (x : FetcherActor) (e : RustFetching) → Some e ≡ x.fetching → asked_in n (as_mode (fetching_of e x.words.items)) ≡ Nothing
      → AnswersSo reliable failures gives n berths p p far (asked_ahead n (fetching_in x)) a
  told_none p far a x e k none =
      unasked reliable failures gives n berths p p far a (asked_ahead n (fetching_in x))
      (ap (λ (y : Option RustFetching). asked_ahead n (option_map (λ y. fetching_of y x.words.items) y)) (sym k) ∙ none) refl

  pub told_on : (h : Type 0) (s : State) (p q : Port S C) (x : FetcherActor) (e : RustFetching) → Some e ≡ x.fetching → (a : Answer)
      → (h → ReadsHonestly n s (as_mode (fetching_of e x.words.items)) a.read) × AnswersSo reliable failures gives n berths p q s.far (asked_in n (as_mode (fetching_of e x.words.items))) a
      → (h → FetchesHonestly n s (fetching_in x) a.read) × AnswersSo reliable failures gives n berths p q s.far (asked_ahead n (fetching_in x)) a
  told_on h s p q x e k a so =
      subst (λ (y : Option RustFetching). (h → FetchesHonestly n s (option_map (λ y. fetching_of y x.words.items) y) a.read)
      × AnswersSo reliable failures gives n berths p q s.far (asked_ahead n (option_map (λ y. fetching_of y x.words.items) y)) a) k so
