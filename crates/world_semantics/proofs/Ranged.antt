-- whatever is in a frame, or comes into one, is one of the world's objects
use Rattle.std.proofs.Common.{◌≡◌, ◌⊎◌, inl, inr, ℕ, zero, suc, ◌+◌, ◌-◌, ◌*◌, ◌<◌, ◌≤◌, Bool, true, false, cond, ◌&&◌, List, [], ◌∷◌, Option, Some, None, refl, sym, ap, ◌∙◌, subst, arith}
use Rattle.std.specs.Prelude.{◌==◌, ◌/◌, nat_lt}
use Rattle.std.proofs.Math.Nat.{mul-div-le, mul-le-mul_right, suc-mul}
use Rattle.code_form.specs.Form.{Image}
use Rattle.pointer_word.specs.Words.{Place, Away, Coming, Here, Leaving, Word, counted, cleared, framed, Change, Open, Close, Clear, Begin, Arrive, Retreat, Mark, Commit, Abort, Leave, begun, arrived, retreated, marked, committed, aborted, left, changed}
use Rattle.pointer_word.specs.Hands.{Hand, upd}
use Rattle.pointer_word.specs.Machine.{Far, Never, Kept, Unknown, State}
use Rattle.pointer_word.specs.Calls.{Call, Begins, Claims, act, change_of, changed_or, words_with, IsLawful}
use Rattle.pointer_word.specs.Legal.{holds}
use Rattle.pointer_word.specs.Sound.{PlaceOk}
use Rattle.pointer_word.proofs.Upd.{same_or, upd-same, upd-other}
use Rattle.world_semantics.specs.declared.event.Actor.{Actor}
use Rattle.world_semantics.specs.declared.event.Actor.TheVariants as actor
use Rattle.world_semantics.specs.declared.event.Choice.{Choice}
use Rattle.world_semantics.specs.declared.event.Choice.TheVariants as choice
use Rattle.world_semantics.specs.Fetchers as fetching
use Rattle.world_semantics.specs.Fetchers.{Fetching}
use Rattle.world_semantics.specs.Programs.{Eviction, Mode, Ready, Missing, Bringing, Reading, Filling, Evicting, Releasing, Retreating, Closing, Wanted, Program, Setting}
use Rattle.world_semantics.specs.Turns.{Answer, taken, to_fill, read_so, brings, fetcher_idle, fetcher_claims, fetches, fetcher_turn}
use Rattle.world_semantics.specs.Worlds.{Sizes, World, Event, mover_of, share, setting, start, in_range, is_actor, with_fetcher, acted, event, IsHonest, Follows}
use Rattle.world_semantics.specs.InHand.{FitsMode, FitsEvacuator, FitsFetcher}
use Rattle.world_semantics.specs.Steps.{OneCall, OthersStay, IsSound}
use Rattle.world_semantics.specs.Scopes.{IsAiming, AimsIn}
use Rattle.world_semantics.proofs.Fitting.{AllFit, begin_fit, fits_on}
use Rattle.world_semantics.proofs.Following.{Laws}
use Rattle.world_semantics.proofs.Going.{Leads, leads_cond}
use Rattle.world_semantics.proofs.Holding.{InShare}
use Rattle.world_semantics.proofs.Idle.{IsNobody, Rests, rests_on, rests_first}
use Rattle.world_semantics.proofs.Moving.{below, not_below}
use Rattle.world_semantics.proofs.Reached.{leads_taken}
use Rattle.world_semantics.proofs.Stepping.{enabled, happened, starts}

-- the object that is brought in is below n
abbrev IsBelow : ℕ → Fetching → Type 0
IsBelow n (fetching.Bringing o) = o < n
IsBelow n (fetching.Reading o f) = o < n
IsBelow n (fetching.Filling o f words k) = o < n
IsBelow n (fetching.Releasing o f) = o < n
IsBelow n (fetching.Retreating o) = o < n

-- a fetcher brings in an object below n, if any
abbrev FetchesBelow : ℕ → Option Fetching → Type 0
FetchesBelow n None = Unit {0}
FetchesBelow n (Some d) = IsBelow n d

-- only the world's objects are anywhere but away, and are brought in by fetchers
pub record AreRanged (z : Sizes) (w : World) : Type 0 where
  pub away : (o : ℕ) → z.objects ≤ o → (w.lock.word o).place ≡ Away
  pub fetched : (k : ℕ) → FetchesBelow z.objects (w.fetchers k)

lt_by : (a b : ℕ) (c : Bool) → nat_lt a b ≡ c → (a < b) ⊎ (b ≤ a)
lt_by a b true e = inl (below a b e)
lt_by a b false e = inr (not_below a b e)

pub lt_or : (a b : ℕ) → (a < b) ⊎ (b ≤ a)
lt_or a b = lt_by a b (nat_lt a b) refl

-- ---- no call leads an object that is away into a frame

if_outside : (b : Bool) (v w : Word) → framed v.place ≡ None → framed w.place ≡ None → framed (changed_or (cond b (Some v) None) w).place ≡ None
if_outside true v w e d = e
if_outside false v w e d = d

module _ (w : Word) (away : w.place ≡ Away) where
  outside : framed w.place ≡ None
  outside = ap framed away

  change_outside : (c : Change) → framed (changed_or (changed c w) w).place ≡ None
  change_outside Open = if_outside (nat_lt w.count 4) (counted (w.count + 1) w.place) w outside outside
  change_outside Close = if_outside (nat_lt 0 w.count) (counted (w.count - 1) w.place) w outside outside
  change_outside Clear = if_outside (nat_lt 0 w.count) (counted w.count (cleared w.place)) w (ap (λ (p : Place). framed (cleared p)) away) outside
  change_outside (Begin m c) = subst (λ (p : Place). framed (changed_or (begun w p m c) w).place ≡ None) (sym away) (if_outside (w.count == c) (counted w.count (Coming m)) w refl outside)
  change_outside (Arrive m f) = subst (λ (p : Place). framed (changed_or (arrived w p m f) w).place ≡ None) (sym away) outside
  change_outside (Retreat m) = subst (λ (p : Place). framed (changed_or (retreated w p m) w).place ≡ None) (sym away) outside
  change_outside (Mark m f) = subst (λ (p : Place). framed (changed_or (marked w p m f) w).place ≡ None) (sym away) outside
  change_outside (Commit m f) = subst (λ (p : Place). framed (changed_or (committed w p m f) w).place ≡ None) (sym away) outside
  change_outside (Abort m) = subst (λ (p : Place). framed (changed_or (aborted w p m) w).place ≡ None) (sym away) outside
  change_outside (Leave f) = subst (λ (p : Place). framed (changed_or (left w p f) w).place ≡ None) (sym away) outside

words_outside : (x : Option (ℕ × Change)) (word : ℕ → Word) (o : ℕ) → (word o).place ≡ Away → framed (words_with x word o).place ≡ None
words_outside None word o away = outside (word o) away
words_outside (Some p) word o away =
    let new : Word = changed_or (changed p.1 (word p.0)) (word p.0) in
    elim (same_or o p.0) [
      | inl e ↦ ap (λ (w : Word). framed w.place) (upd-same word p.0 new o e) ∙ change_outside (word p.0) (subst (λ i. (word i).place ≡ Away) e away) p.1
      | inr d ↦ ap (λ (w : Word). framed w.place) (upd-other word p.0 new o d) ∙ outside (word o) away
    ]

stays_outside : (h : Type 0) (n m : ℕ) (s t : State) → OneCall h n m s t → (o : ℕ) → (s.word o).place ≡ Away → framed (t.word o).place ≡ None
stays_outside h n m s t (inl e) o away = ap (λ (y : State). framed (y.word o).place) e ∙ outside (s.word o) away
stays_outside h n m s t (inr x) o away =
    let c : Call = x.0 in
    let lawful : IsLawful s c = x.3 in
    ap (λ (y : State). framed (y.word o).place) x.4 ∙ (ap (λ (w : Word). framed w.place) (lawful.words o) ∙ words_outside (change_of c) s.word o away)

-- ---- what a mover brings in

-- the share of a program ends within the objects
share_ends : (n p k : ℕ) → k < p → k * (n / p) + n / p ≤ n
share_ends n p k l =
    let q : ℕ = n / p in
    let all : p * q ≤ n = mul-div-le n p in
    let most : suc k * q ≤ p * q = mul-le-mul_right q l in
    let one : suc k * q ≡ k * q + q = suc-mul k q in
    omega arith

brings_none : (x : Hand) (o : ℕ) → x.bringing ≡ None → x.bringing ≡ Some o → ⊥
brings_none x o none e = let k : None ≡ Some o = sym none ∙ e in cc

brings_same : (x : Hand) (i o : ℕ) → x.bringing ≡ Some i → x.bringing ≡ Some o → i ≡ o
brings_same x i o here e = let k : Some i ≡ Some o = sym here ∙ e in cc

-- a program brings in what an aim is under way for
aims_brought : (h : Type 0) (g : Setting) (p : Program) (far : ℕ → Far) (x : Hand) (y : Mode) (o : ℕ) → FitsMode h g.size far x y → AimsIn g p y → x.bringing ≡ Some o → IsAiming g p o
aims_brought h g p far x Ready o fits aims e = absurd (brings_none x o fits.0 e)
aims_brought h g p far x (Missing i) o fits aims e = absurd (brings_none x o fits.0 e)
aims_brought h g p far x (Bringing i) o fits aims e = subst (IsAiming g p) (brings_same x i o fits.0 e) aims
aims_brought h g p far x (Reading i f) o fits aims e = subst (IsAiming g p) (brings_same x i o fits.0.0 e) aims
aims_brought h g p far x (Filling i f words k) o fits aims e = subst (IsAiming g p) (brings_same x i o fits.0.0 e) aims
aims_brought h g p far x (Evicting i d) o fits aims e = subst (IsAiming g p) (brings_same x i o fits.0 e) aims
aims_brought h g p far x (Releasing i f) o fits aims e = subst (IsAiming g p) (brings_same x i o fits.0 e) aims
aims_brought h g p far x (Retreating i) o fits aims e = subst (IsAiming g p) (brings_same x i o fits.0 e) aims
aims_brought h g p far x Closing o fits aims e = absurd (brings_none x o fits.0 e)
aims_brought h g p far x (Wanted w) o fits aims e = absurd (brings_none x o fits.0 e)

-- an evacuator brings nothing in
evacuator_brings : (n : ℕ) (far : ℕ → Far) (x : Hand) (d : Option Eviction) (o : ℕ) → FitsEvacuator n far x d → x.bringing ≡ Some o → ⊥
evacuator_brings n far x None o fits e = brings_none x o fits.0 e
evacuator_brings n far x (Some d) o fits e = brings_none x o fits.0 e

-- a fetcher brings in what its mode names
fetcher_brings : (h : Type 0) (n : ℕ) (far : ℕ → Far) (x : Hand) (d : Option Fetching) (objects o : ℕ) → FitsFetcher h n far x d → FetchesBelow objects d → x.bringing ≡ Some o → o < objects
fetcher_brings h n far x None objects o fits l e = absurd (brings_none x o fits.0 e)
fetcher_brings h n far x (Some (fetching.Bringing i)) objects o fits l e = subst (λ j. j < objects) (brings_same x i o fits.0 e) l
fetcher_brings h n far x (Some (fetching.Reading i f)) objects o fits l e = subst (λ j. j < objects) (brings_same x i o fits.0.0 e) l
fetcher_brings h n far x (Some (fetching.Filling i f words k)) objects o fits l e = subst (λ j. j < objects) (brings_same x i o fits.0.0 e) l
fetcher_brings h n far x (Some (fetching.Releasing i f)) objects o fits l e = subst (λ j. j < objects) (brings_same x i o fits.0 e) l
fetcher_brings h n far x (Some (fetching.Retreating i)) objects o fits l e = subst (λ j. j < objects) (brings_same x i o fits.0 e) l

module _ (h : Type 0) (z : Sizes) (images : ℕ → Image) (w : World) (sound : IsSound h z w) (all : AllFit z images w) (rests : Rests z images w) (fetched : (k : ℕ) → FetchesBelow z.objects (w.fetchers k)) where
  abbrev hands : ℕ → Hand
  hands m = w.lock.hand m

  program_brings : (k o : ℕ) → k < z.programs → (hands (suc k)).bringing ≡ Some o → o < z.objects
  program_brings k o l e =
      let g = setting z images k in
      let aiming : IsAiming g (w.programs k) o = aims_brought h g (w.programs k) w.lock.far (hands (suc k)) (w.programs k).mode o (sound.hands.program k l) (all k).within.aims e in
      let own : InShare g o = (all k).holds.own aiming.scope (record { object = o; writes = false }) aiming.holds in
      let low : o < k * share z + share z = own.1 in
      let ends : k * share z + share z ≤ z.objects = share_ends z.objects z.programs k l in
      omega arith

  nobody_brings : (m o : ℕ) → IsNobody z m → (hands m).bringing ≡ Some o → ⊥
  nobody_brings m o nobody e = brings_none (hands m) o (ap (λ (x : Hand). x.bringing) (rests.hands m nobody)) e

  other_brings : (k o : ℕ) → z.programs ≤ k → (hands (suc k)).bringing ≡ Some o → o < z.objects
  other_brings k o l e =
      let i : ℕ = k - z.programs in
      let same : suc k ≡ suc (z.programs + i) = omega arith in
      elim (lt_or i z.evacuators) [
        | inl b ↦ absurd (evacuator_brings z.cells w.lock.far (hands (suc (z.programs + i))) (w.evacuators i) o (sound.hands.evacuator i b) (subst (λ m. (hands m).bringing ≡ Some o) same e))
        | inr b ↦
            let q : ℕ = i - z.evacuators in
            let also : suc k ≡ suc (z.programs + z.evacuators + q) = omega arith in
            elim (lt_or q z.fetchers) [
              | inl c ↦
                  fetcher_brings h z.cells w.lock.far (hands (suc (z.programs + z.evacuators + q))) (w.fetchers q) z.objects o (sound.hands.fetcher q c) (fetched q)
                  (subst (λ m. (hands m).bringing ≡ Some o) also e)
              | inr c ↦ absurd (nobody_brings (suc k) o (inr (omega arith)) e)
            ]
      ]

  brought_below : (m o : ℕ) → (hands m).bringing ≡ Some o → o < z.objects
  brought_below zero o e = absurd (nobody_brings 0 o (inl refl) e)
  brought_below (suc k) o e = elim (lt_or k z.programs) [ inl l ↦ program_brings k o l e | inr l ↦ other_brings k o l e ]

  -- what is in no frame, and is none of the objects, is away
  away_by : (o : ℕ) → z.objects ≤ o → (p : Place) → framed p ≡ None → PlaceOk h z.cells w.lock o p → p ≡ Away
  away_by o far Away none ok = refl
  away_by o far (Coming m) none ok = let near : o < z.objects = brought_below m o ok.1 in absurd (omega arith)
  away_by o far (Here f k) none ok = cc
  away_by o far (Leaving f m k) none ok = cc

-- ---- what fetchers bring in

idle_below : (z : Sizes) (s : State) (m : ℕ) (c : Choice) → in_range z c ≡ true → Leads s (λ (t : State) (d : Option Fetching). FetchesBelow z.objects d) (fetcher_idle m c)
idle_below z s m choice.Next inside = tt
idle_below z s m (choice.Look f) inside = tt
idle_below z s m (choice.Claim f) inside = tt
idle_below z s m (choice.Mark o f) inside = tt
idle_below z s m (choice.Leave o f) inside = tt
idle_below z s m (choice.Begin o) inside = by_test (holds ((act s (Begins m o 0 false)).hand m).bringing o)
  where
    by_test : (b : Bool) → FetchesBelow z.objects (cond b (Some (fetching.Bringing o)) None)
    by_test true = below o z.objects inside
    by_test false = tt

fill_below : (n o f : ℕ) (y : Far) → o < n → IsBelow n (to_fill o f y)
fill_below n o f Never l = l
fill_below n o f (Kept words) l = l
fill_below n o f Unknown l = l

read_below : (n o f : ℕ) (read : Option (List ℕ)) → o < n → IsBelow n (read_so o f read)
read_below n o f None l = l
read_below n o f (Some words) l = l

claim_below : (n : ℕ) (s : State) (m f : ℕ) (d : Fetching) → IsBelow n d → Leads s (λ (t : State) (e : Option Fetching). FetchesBelow n e) (fetcher_claims m f d)
claim_below n s m f (fetching.Bringing o) l = let t : State = act s (Claims m o f) in by_test (holds (t.hand m).claimed f) (t.far o)
  where
    by_test : (b : Bool) (y : Far) → FetchesBelow n (cond b (Some (to_fill o f y)) (Some (fetching.Bringing o)))
    by_test true y = fill_below n o f y l
    by_test false y = l
claim_below n s m f (fetching.Reading o g) l = tt
claim_below n s m f (fetching.Filling o g words k) l = tt
claim_below n s m f (fetching.Releasing o g) l = tt
claim_below n s m f (fetching.Retreating o) l = tt

brings_below : (n cells : ℕ) (s : State) (m : ℕ) (a : Answer) (d : Fetching) → IsBelow n d → Leads s (λ (t : State) (e : Option Fetching). FetchesBelow n e) (brings cells m false a d Some None None)
brings_below n cells s m a (fetching.Bringing o) l = tt
brings_below n cells s m a (fetching.Reading o f) l = read_below n o f a.read l
brings_below n cells s m a (fetching.Filling o f words k) l = leads_cond s (λ (t : State) (e : Option Fetching). FetchesBelow n e) (nat_lt k cells) _ _ (λ _. l) (λ _. tt)
brings_below n cells s m a (fetching.Releasing o f) l = l
brings_below n cells s m a (fetching.Retreating o) l = tt

fetches_below : (n cells : ℕ) (s : State) (m : ℕ) (d : Fetching) (c : Choice) (a : Answer) → IsBelow n d → Leads s (λ (t : State) (e : Option Fetching). FetchesBelow n e) (fetches cells m d c a)
fetches_below n cells s m d choice.Next a l = brings_below n cells s m a d l
fetches_below n cells s m d (choice.Look f) a l = tt
fetches_below n cells s m d (choice.Claim f) a l = claim_below n s m f d l
fetches_below n cells s m d (choice.Mark o f) a l = tt
fetches_below n cells s m d (choice.Leave o f) a l = tt
fetches_below n cells s m d (choice.Begin o) a l = tt

fetcher_below : (z : Sizes) (s : State) (m : ℕ) (d : Option Fetching) (c : Choice) (a : Answer) → in_range z c ≡ true → FetchesBelow z.objects d
    → Leads s (λ (t : State) (e : Option Fetching). FetchesBelow z.objects e) (fetcher_turn z.cells m d c a)
fetcher_below z s m None c a inside l = idle_below z s m c inside
fetcher_below z s m (Some d) c a inside l = fetches_below z.objects z.cells s m d c a l

own_below : (z : Sizes) (w u : World) (k : ℕ) (c : Choice) (a : Answer) (x : Option (State × Option Fetching))
    → taken z.cells w.lock (fetcher_turn z.cells (suc (z.programs + z.evacuators + k)) (w.fetchers k) c a) ≡ x → with_fetcher w k x ≡ Some u → in_range z c ≡ true → FetchesBelow z.objects (w.fetchers k)
    → FetchesBelow z.objects (u.fetchers k)
own_below z w u k c a None e q inside l = cc
own_below z w u k c a (Some r) e q inside l =
    let m : ℕ = suc (z.programs + z.evacuators + k) in
    let v : World = record w { lock = r.0; fetchers = upd w.fetchers k r.1 } in
    let same : v ≡ u = (let s : Some v ≡ Some u = q in cc) in
    let led : FetchesBelow z.objects r.1 =
    leads_taken z.cells w.lock (λ (t : State) (d : Option Fetching). FetchesBelow z.objects d) (fetcher_turn z.cells m (w.fetchers k) c a) r e (fetcher_below z w.lock m (w.fetchers k) c a inside l) in
    subst (λ (y : World). FetchesBelow z.objects (y.fetchers k)) same (subst (FetchesBelow z.objects) (sym (upd-same w.fetchers k r.1 k refl)) led)

fetched_by : (z : Sizes) (images : ℕ → Image) (w u : World) (who : Actor) (c : Choice) (a : Answer) → acted z images w who c a ≡ Some u → in_range z c ≡ true → OthersStay w u who
    → ((k : ℕ) → FetchesBelow z.objects (w.fetchers k)) → (k : ℕ) → FetchesBelow z.objects (u.fetchers k)
fetched_by z images w u (actor.Program k) c a e inside others all = subst (λ (fs : ℕ → Option Fetching). (j : ℕ) → FetchesBelow z.objects (fs j)) (sym others.2) all
fetched_by z images w u (actor.Evacuator k) c a e inside others all = subst (λ (fs : ℕ → Option Fetching). (j : ℕ) → FetchesBelow z.objects (fs j)) (sym others.2) all
fetched_by z images w u (actor.Fetcher k) c a e inside others all = λ j. elim (same_or j k) [
  | inl i ↦ subst (λ (i : ℕ). FetchesBelow z.objects (u.fetchers i)) (sym i) (own_below z w u k c a _ refl e inside (all k))
  | inr d ↦ subst (FetchesBelow z.objects) (sym (others.0 j d)) (all j)
]

both : (a b : Bool) → (a && b) ≡ true → (a ≡ true) × (b ≡ true)
both true b e = (refl, e)
both false b e = cc

-- ---- every list of events

module _ (laws : Laws) (h : Type 0) (z : Sizes) (images : ℕ → Image) (some : 0 < z.cells) where
  ranged_on : (w u : World) (e : Event) → event z images w e ≡ Some u → (h → IsHonest z w e.actor e.answer) → IsSound h z w → AllFit z images w → Rests z images w → AreRanged z w → AreRanged z u
  ranged_on w u e is honest sound all rests ranged =
      let did = happened h z images w u e is honest sound in
      let on = enabled (is_actor z e.actor && in_range z e.choice) (acted z images w e.actor e.choice e.answer) u is in
      let fetched : (k : ℕ) → FetchesBelow z.objects (u.fetchers k) =
      fetched_by z images w u e.actor e.choice e.answer on.1 (both (is_actor z e.actor) (in_range z e.choice) on.0).1 did.others ranged.fetched in
      record {
        away = λ o far.
            let none : framed (u.lock.word o).place ≡ None = stays_outside h z.cells (mover_of z e.actor) w.lock u.lock did.call o (ranged.away o far) in
            away_by h z images u did.sound (fits_on laws h z images some w u e is sound all).1 (rests_on h z images w u e is honest sound rests) fetched o far (u.lock.word o).place none (did.sound.lock.object o);
        fetched = fetched;
      }

  ranging : (w v : World) (es : List Event) → Follows h z images w es v → IsSound h z w → AllFit z images w → Rests z images w → AreRanged z w → AreRanged z v
  ranging w v [] f sound all rests ranged = subst (AreRanged z) (sym f) ranged
  ranging w v (e ∷ es) f sound all rests ranged =
      ranging f.0 v es f.3 (happened h z images w f.0 e f.1 f.2 sound).sound (fits_on laws h z images some w f.0 e f.1 sound all).1 (rests_on h z images w f.0 e f.1 f.2 sound rests)
      (ranged_on w f.0 e f.1 f.2 sound all rests ranged)

  -- in every world that is reached
  pub reached_ranged : (events : List Event) (v : World) → Follows h z images (start images) events v → AreRanged z v
  reached_ranged events v f = ranging (start images) v events f (starts h z images) (begin_fit z images) (rests_first z images) (record { away = λ o far. refl; fetched = λ k. tt })
