-- what a program's turn does to its code: nothing yet, or its next instruction
use Rattle.std.proofs.Common.{◌≡◌, ◌⊎◌, inl, inr, ℕ, suc, ◌+◌, ◌<◌, ◌≤◌, Bool, true, false, cond, not, ◌&&◌, List, [], length, Option, Some, None, refl, sym, subst, arith}
use Rattle.std.specs.Prelude.{◌==◌, ◌%◌, nat_lt, nat_le}
use Rattle.std.proofs.lemmas.Bool.Decides.{nat_tests}
use Rattle.std.proofs.lemmas.List.{get_or-set_same}
use Rattle.cells.specs.declared.ending.Want.TheVariants.{OutOfMemory, NoObjects}
use Rattle.code_form.specs.declared.touch.Cell.{Cell}
use Rattle.code_form.specs.declared.touch.Touch.{Touch}
use Rattle.code_form.specs.declared.touch.Touch.TheVariants as touch
use Rattle.code_form.specs.Code.{is_blocked, effect}
use Rattle.code_form.specs.Placed.{pieces}
use Rattle.code_form.specs.Touches.{resumed}
use Rattle.pointer_word.specs.Hands.{upd, known, listed}
use Rattle.pointer_word.specs.Machine.{Far, Never, Kept, Unknown, State, latest}
use Rattle.pointer_word.specs.Calls.{Call, Opens, Closes, Clears, Begins, Claims, Fills, Arrives, Unclaims, Retreats, Marks, Copies, Puts, Commits, Aborts, Leaves, Releases, act}
use Rattle.pointer_word.specs.Legal.{holds}
use Rattle.world_semantics.specs.declared.event.Choice.{Choice}
use Rattle.world_semantics.specs.declared.event.Choice.TheVariants as choice
use Rattle.world_semantics.specs.Fetchers as fetching
use Rattle.world_semantics.specs.Fetchers.{Fetching, as_mode}
use Rattle.world_semantics.specs.Programs.{Eviction, Copying, Stored, NotStored, Refused, Freed, Hold, Mode, Ready, Missing, Bringing, Reading, Filling, Evicting, Releasing, Retreating, Closing, Wanted, Program, Setting, next_touch, object_of, object_or_none, next_free, hold_at, holding, in_mode, finished, first_hold, may_grow, rest_of}
use Rattle.world_semantics.specs.Turns.{Answer, Turn, NotEnabled, Alone, Calls, as_next, put_of, evicts, grows, closes, found, aims_at, loads_from, loads_by, stores_to, stores_by, leaves_by, allocates, ends_by, ready, began, to_fill, seeks, read_so, brings, program_brings, closed_so, gives_up, by_mode, program_turn}
use Rattle.world_semantics.specs.Scopes.{IsNext, IsAiming, AimsIn}
use Rattle.world_semantics.proofs.Latest.{is_store, keeps_latest, stores_latest}

-- the state and the actor that a turn leads to, if its call may be made
abbrev pub Leads : {A : Type 0} → State → (State → A → Type 0) → Turn A → Type 0
Leads s Q NotEnabled = Unit {0}
Leads s Q (Alone a) = Q s a
Leads s Q (Calls c go) = Q (act s c) (go (act s c))

pub leads_cond : {A : Type 0} (s : State) (Q : State → A → Type 0) (b : Bool) (x y : Turn A) → (b ≡ true → Leads s Q x) → (b ≡ false → Leads s Q y) → Leads s Q (cond b x y)
leads_cond s Q true x y f g = f refl
leads_cond s Q false x y f g = g refl

pub leads_next : {A : Type 0} (s : State) (Q : State → A → Type 0) (c : Choice) (x : Turn A) → Leads s Q x → Leads s Q (as_next c x)
leads_next s Q choice.Next x ok = ok
leads_next s Q (choice.Look f) x ok = tt
leads_next s Q (choice.Claim f) x ok = tt
leads_next s Q (choice.Mark o f) x ok = tt
leads_next s Q (choice.Leave o f) x ok = tt
leads_next s Q (choice.Begin o) x ok = tt

-- moving an object out stores nothing
module _ {A : Type 0} (n : ℕ) (s : State) (m : ℕ) (a : Answer) (go : Eviction → A) (done failed : A) (Q : State → A → Type 0)
    (goes : (t : State) (d : Eviction) → ((o i : ℕ) → latest t o i ≡ latest s o i) → Q t (go d))
    (ends : (t : State) → ((o i : ℕ) → latest t o i ≡ latest s o i) → Q t done)
    (fails : (t : State) → ((o i : ℕ) → latest t o i ≡ latest s o i) → Q t failed) where
  pub leads_evicts : (e : Eviction) → Leads s Q (evicts n m a e go done failed)
  leads_evicts (Copying o f words) = leads_cond s Q (nat_lt (length words) n) _ _
      (λ _. goes (act s (Copies m f (length words))) _ (keeps_latest s (Copies m f (length words)) refl))
      (λ _. goes (act s (Puts m o (put_of a.stored words))) _ (keeps_latest s (Puts m o (put_of a.stored words)) refl))
  leads_evicts (Stored o f) = goes (act s (Commits m o f)) _ (keeps_latest s (Commits m o f) refl)
  leads_evicts (NotStored o f) = fails (act s (Aborts m o f)) (keeps_latest s (Aborts m o f) refl)
  leads_evicts (Refused o f) = ends (act s (Aborts m o f)) (keeps_latest s (Aborts m o f) refl)
  leads_evicts (Freed f) = ends (act s (Releases m f)) (keeps_latest s (Releases m f) refl)

-- bringing an object in stores nothing
module _ {A : Type 0} (n : ℕ) (s : State) (m : ℕ) (own : Bool) (a : Answer) (go : Fetching → A) (done failed : A) (Q : State → A → Type 0)
    (goes : (t : State) (d : Fetching) → ((o i : ℕ) → latest t o i ≡ latest s o i) → Q t (go d))
    (ends : (t : State) → ((o i : ℕ) → latest t o i ≡ latest s o i) → Q t done)
    (fails : (t : State) → ((o i : ℕ) → latest t o i ≡ latest s o i) → Q t failed) where
  pub leads_brings : (d : Fetching) → Leads s Q (brings n m own a d go done failed)
  leads_brings (fetching.Bringing o) = fails (act s (Retreats m o)) (keeps_latest s (Retreats m o) refl)
  leads_brings (fetching.Reading o f) = goes s (read_so o f a.read) (λ o i. refl)
  leads_brings (fetching.Filling o f words k) = leads_cond s Q (nat_lt k n) _ _
      (λ _. goes (act s (Fills m f k (listed words k))) (fetching.Filling o f words (suc k)) (keeps_latest s (Fills m f k (listed words k)) refl))
      (λ _. ends (act s (Arrives m o f own)) (keeps_latest s (Arrives m o f own) refl))
  leads_brings (fetching.Releasing o f) = goes (act s (Unclaims m f)) (fetching.Retreating o) (keeps_latest s (Unclaims m f) refl)
  leads_brings (fetching.Retreating o) = fails (act s (Retreats m o)) (keeps_latest s (Retreats m o) refl)

-- an instruction that touches this goes on or stops
abbrev pub IsMoving : Touch → Type 0
IsMoving touch.Wrong = ⊥
IsMoving touch.Nothing = ⊥
IsMoving _ = Unit {0}

-- a load takes what is in the frame that the owner was told
abbrev pub LoadsSo : Setting → State → Program → Touch → ℕ → Type 0
LoadsSo g s p (touch.Loads k x) v = (f : ℕ) × ((s.note (object_of g p x)).frame ≡ Some f) × (v ≡ s.cell f (x.index % g.size))
LoadsSo g s p _ v = Unit {0}

-- a store is the latest at its cell
abbrev pub StoresSo : Setting → State → Program → State → Touch → Type 0
StoresSo g s p t (touch.Stores k x v) = (o i : ℕ) → latest t o i ≡ upd (latest s) (object_of g p x) (upd (latest s (object_of g p x)) (x.index % g.size) v) o i
StoresSo g s p t _ = (o i : ℕ) → latest t o i ≡ latest s o i

-- an allocation fits in the share
abbrev pub RoomFor : Setting → Program → Touch → Type 0
RoomFor g p (touch.Allocs cells) = next_free g p + pieces g.size cells ≤ g.limit
RoomFor g p _ = Unit {0}

-- nothing was completed, and nothing stored
pub record Stays (s : State) (p : Program) (t : State) (q : Program) : Type 0 where
  pub core : q.core ≡ p.core
  pub completed : q.completed ≡ p.completed
  pub latest : (o i : ℕ) → latest t o i ≡ latest s o i

-- the next instruction was completed
pub record Finishes (g : Setting) (s : State) (p : Program) (t : State) (q : Program) : Type 0 where
  pub touch : Touch
  pub is : IsNext g p touch
  pub moving : IsMoving touch
  pub value : ℕ
  pub core : q.core ≡ resumed (effect g.image p.core) p.core value
  pub completed : q.completed ≡ suc p.completed
  pub ready : q.mode ≡ Ready
  pub loads : LoadsSo g s p touch value
  pub stores : StoresSo g s p t touch
  pub room : RoomFor g p touch

-- what a turn leads to
abbrev pub Goes : Setting → State → Program → State → Program → Type 0
Goes g s p t q = (Stays s p t q × AimsIn g q q.mode) ⊎ Finishes g s p t q

-- an instruction that neither loads nor stores nor allocates
abbrev IsPlain : Touch → Type 0
IsPlain (touch.Loads k x) = ⊥
IsPlain (touch.Stores k x v) = ⊥
IsPlain (touch.Allocs cells) = ⊥
IsPlain touch.Wrong = ⊥
IsPlain touch.Nothing = ⊥
IsPlain _ = Unit {0}

module _ (g : Setting) (s : State) (p : Program) (a : Answer) where
  abbrev Q : State → Program → Type 0
  Q = Goes g s p

  plain : (x : Touch) → IsNext g p x → IsPlain x → (t : State) → ((o i : ℕ) → latest t o i ≡ latest s o i) → (hs : List (Option Hold)) → Q t (finished g (record p { holds = hs }) 0)
  plain touch.Plain is ok t same hs = inr (record { touch = touch.Plain; is = is; moving = tt; value = 0; core = refl; completed = refl; ready = refl; loads = tt; stores = same; room = tt })
  plain (touch.Hints w) is ok t same hs = inr (record { touch = touch.Hints w; is = is; moving = tt; value = 0; core = refl; completed = refl; ready = refl; loads = tt; stores = same; room = tt })
  plain (touch.Aims k w) is ok t same hs = inr (record { touch = touch.Aims k w; is = is; moving = tt; value = 0; core = refl; completed = refl; ready = refl; loads = tt; stores = same; room = tt })
  plain (touch.Leaves k) is ok t same hs = inr (record { touch = touch.Leaves k; is = is; moving = tt; value = 0; core = refl; completed = refl; ready = refl; loads = tt; stores = same; room = tt })
  plain touch.Ends is ok t same hs = inr (record { touch = touch.Ends; is = is; moving = tt; value = 0; core = refl; completed = refl; ready = refl; loads = tt; stores = same; room = tt })
  plain (touch.Loads k x) is ok t same hs = absurd ok
  plain (touch.Stores k x v) is ok t same hs = absurd ok
  plain (touch.Allocs cells) is ok t same hs = absurd ok
  plain touch.Wrong is ok t same hs = absurd ok
  plain touch.Nothing is ok t same hs = absurd ok

  still : (o i : ℕ) → latest s o i ≡ latest s o i
  still o i = refl

  -- other scopes may hold other things, in a mode that is within no aim
  stays : (t : State) (q : Program) → q.core ≡ p.core → q.completed ≡ p.completed → ((o i : ℕ) → latest t o i ≡ latest s o i) → AimsIn g q q.mode → Q t q
  stays t q c d same aims = inl (record { core = c; completed = d; latest = same }, aims)

  chosen : (t : State) (b : Bool) (x y : Program) → (b ≡ true → Q t x) → (b ≡ false → Q t y) → Q t (cond b x y)
  chosen t true x y e f = e refl
  chosen t false x y e f = f refl

  same_call : (c : Call) → is_store c ≡ false → (o i : ℕ) → latest (act s c) o i ≡ latest s o i
  same_call = keeps_latest s

  grows_to : (t : State) (x : Touch) → Q s (finished g p 0) → Q s (grows g p a)
  grows_to t x done = chosen s (not a.grew && may_grow (next_touch g p) (rest_of p.core)) _ _ (λ _. stays s (in_mode p (Wanted OutOfMemory)) refl refl still tt) (λ _. done)

  ready_mode : (y : Mode) (q : Program) → y ≡ Ready → AimsIn g q y
  ready_mode Ready q e = tt
  ready_mode Closing q e = tt
  ready_mode (Wanted w) q e = tt
  ready_mode (Missing o) q e = cc
  ready_mode (Bringing o) q e = cc
  ready_mode (Reading o f) q e = cc
  ready_mode (Filling o f words k) q e = cc
  ready_mode (Evicting o d) q e = cc
  ready_mode (Releasing o f) q e = cc
  ready_mode (Retreating o) q e = cc

  closes_to : (k : ℕ) (x : Hold) → p.mode ≡ Ready → Leads s Q (closes p k x)
  closes_to k x e = stays (act s (Closes x.object)) (holding p k None) refl refl (same_call (Closes x.object) refl) (ready_mode p.mode (holding p k None) e)

  -- an aim whose hold was just opened, or is open
  found_to : (x : Touch) → IsNext g p x → IsPlain x → (t : State) (hs : List (Option Hold)) (o : ℕ) → ((o i : ℕ) → latest t o i ≡ latest s o i) → IsAiming g (record p { holds = hs }) o
      → Q t (found g (record p { holds = hs }) o t)
  found_to x is ok t hs o same aiming = chosen t (known (t.note o).frame) _ _
      (λ _. plain x is ok t same hs)
      (λ _. stays t (in_mode (record p { holds = hs }) (Missing o)) refl refl same (record { scope = aiming.scope; cell = aiming.cell; is = aiming.is; object = aiming.object; holds = aiming.holds }))

  aims_none : (k : ℕ) (h : Option Hold) → IsNext g p (touch.Aims k None) → p.mode ≡ Ready → Leads s Q (aims_at g p k h None)
  aims_none k None is e = plain (touch.Aims k None) is tt s still p.holds
  aims_none k (Some h) is e = closes_to k h e

  aims_some : (k : ℕ) (h : Option Hold) (w : Cell) → IsNext g p (touch.Aims k (Some w)) → k < length p.holds → p.mode ≡ Ready → Leads s Q (aims_at g p k h (Some (object_of g p w)))
  aims_some k None w is l e =
      let o : ℕ = object_of g p w in
      let hs : List (Option Hold) = (holding p k (Some (record { object = o; writes = false }))).holds in
      found_to (touch.Aims k (Some w)) is tt (act s (Opens o)) hs o (same_call (Opens o) refl)
      (record { scope = k; cell = w; is = is; object = refl; holds = get_or-set_same p.holds k (Some (record { object = o; writes = false })) None l })
  aims_some k (Some h) w is l e = leads_cond s Q (h.object == object_of g p w) _ _ (λ _. plain (touch.Aims k (Some w)) is tt s still p.holds) (λ _. closes_to k h e)

  aims_to : (k : ℕ) (w : Option Cell) → IsNext g p (touch.Aims k w) → k < length p.holds → p.mode ≡ Ready → Leads s Q (aims_at g p k (hold_at p.holds k) (object_or_none g p w))
  aims_to k None is l e = aims_none k (hold_at p.holds k) is e
  aims_to k (Some w) is l e = aims_some k (hold_at p.holds k) w is l e

  loads_from_to : (k : ℕ) (x : Cell) → IsNext g p (touch.Loads k x) → (f : Option ℕ) → (s.note (object_of g p x)).frame ≡ f → Leads s Q (loads_from g s p f (x.index % g.size))
  loads_from_to k x is None e = tt
  loads_from_to k x is (Some f) e = inr (record { touch = touch.Loads k x; is = is; moving = tt; value = s.cell f (x.index % g.size); core = refl; completed = refl; ready = refl; loads = (f, e, refl); stores = still; room = tt })

  loads_to : (k : ℕ) (x : Cell) (h : Option Hold) → IsNext g p (touch.Loads k x) → Leads s Q (loads_by g s p h (object_of g p x) (x.index % g.size))
  loads_to k x None is = tt
  loads_to k x (Some h) is = leads_cond s Q (h.object == object_of g p x) _ _ (λ _. loads_from_to k x is (s.note (object_of g p x)).frame refl) (λ _. tt)

  stores_to_to : (k : ℕ) (x : Cell) (v : ℕ) → IsNext g p (touch.Stores k x v) → (f : Option ℕ) → Leads s Q (stores_to g p f (object_of g p x) (x.index % g.size) v)
  stores_to_to k x v is None = tt
  stores_to_to k x v is (Some f) =
      inr (record { touch = touch.Stores k x v; is = is; moving = tt; value = 0; core = refl; completed = refl; ready = refl; loads = tt; stores = stores_latest s (object_of g p x) f (x.index % g.size) v; room = tt })

  stores_by_hold : (k : ℕ) (x : Cell) (v : ℕ) (h : Option Hold) → IsNext g p (touch.Stores k x v) → p.mode ≡ Ready → Leads s Q (stores_by g s p k h (object_of g p x) (x.index % g.size) v)
  stores_by_hold k x v None is e = tt
  stores_by_hold k x v (Some h) is e =
      leads_cond s Q (h.object == object_of g p x) _ _
      (λ _. leads_cond s Q h.writes _ _ (λ _. stores_to_to k x v is (s.note (object_of g p x)).frame)
      (λ _. stays (act s (Clears (object_of g p x))) (holding p k (Some (record { object = object_of g p x; writes = true }))) refl refl (same_call (Clears (object_of g p x)) refl) (ready_mode p.mode _ e)))
      (λ _. tt)

  leaves_to : (k : ℕ) (h : Option Hold) → IsNext g p (touch.Leaves k) → Leads s Q (leaves_by g p k h)
  leaves_to k None is = plain (touch.Leaves k) is tt s still p.holds
  leaves_to k (Some h) is = plain (touch.Leaves k) is tt (act s (Closes h.object)) (same_call (Closes h.object) refl) (holding p k None).holds

  fits_room : (n m : ℕ) → nat_le n m ≡ true → n ≤ m
  fits_room n m e = grind (arith, nat_tests)

  allocates_to : (cells : ℕ) → IsNext g p (touch.Allocs cells) → Leads s Q (allocates g p a cells)
  allocates_to cells is = leads_cond s Q (nat_le (next_free g p + pieces g.size cells) g.limit) _ _
      (λ e. grows_to s (touch.Allocs cells) (inr (record {
        touch = touch.Allocs cells;
        is = is;
        moving = tt;
        value = 0;
        core = refl;
        completed = refl;
        ready = refl;
        loads = tt;
        stores = still;
        room = fits_room (next_free g p + pieces g.size cells) g.limit e;
      })))
      (λ e. stays s (in_mode p (Wanted NoObjects)) refl refl still tt)

  ends_to : (q : Option (ℕ × Hold)) → IsNext g p touch.Ends → p.mode ≡ Ready → Leads s Q (ends_by g p a q)
  ends_to None is e = grows_to s touch.Ends (plain touch.Ends is tt s still p.holds)
  ends_to (Some q) is e = closes_to q.0 q.1 e

  ready_to : (x : Touch) → IsNext g p x → p.mode ≡ Ready → Leads s Q (ready g s p a x)
  ready_to touch.Plain is e = grows_to s touch.Plain (plain touch.Plain is tt s still p.holds)
  ready_to (touch.Hints w) is e = plain (touch.Hints w) is tt s still p.holds
  ready_to (touch.Aims k w) is e = leads_cond s Q (nat_lt k (length p.holds)) _ _ (λ l. aims_to k w is (below_so k (length p.holds) l) e) (λ _. tt)
    where
      below_so : (n m : ℕ) → nat_lt n m ≡ true → n < m
      below_so n m e = grind (arith, nat_tests)
  ready_to (touch.Loads k x) is e = loads_to k x (hold_at p.holds k) is
  ready_to (touch.Stores k x v) is e = stores_by_hold k x v (hold_at p.holds k) is e
  ready_to (touch.Leaves k) is e = leaves_to k (hold_at p.holds k) is
  ready_to (touch.Allocs cells) is e = allocates_to cells is
  ready_to touch.Ends is e = ends_to (first_hold p.holds) is e
  ready_to touch.Wrong is e = tt
  ready_to touch.Nothing is e = tt

  -- ---- within an aim

  -- a mode of the same aim
  within : (t : State) (y : Mode) → ((o i : ℕ) → latest t o i ≡ latest s o i) → AimsIn g p y → AimsIn g (in_mode p y) y → Q t (in_mode p y)
  within t y same aims there = stays t (in_mode p y) refl refl same there

  aiming_on : (y : Mode) (o : ℕ) → IsAiming g p o → IsAiming g (in_mode p y) o
  aiming_on y o aiming = record { scope = aiming.scope; cell = aiming.cell; is = aiming.is; object = aiming.object; holds = aiming.holds }

  finds : (t : State) (o : ℕ) → ((o i : ℕ) → latest t o i ≡ latest s o i) → IsAiming g p o → Q t (found g p o t)
  finds t o same aiming = found_to (touch.Aims aiming.scope (Some aiming.cell)) aiming.is tt t p.holds o same (record { scope = aiming.scope; cell = aiming.cell; is = aiming.is; object = aiming.object; holds = aiming.holds })

  missing_to : (o : ℕ) → IsAiming g p o → Leads s Q (Calls (Begins g.mover o (s.note o).count true) (began g p o))
  missing_to o aiming =
      let c : Call = Begins g.mover o (s.note o).count true in
      chosen (act s c) (holds ((act s c).hand g.mover).bringing o) _ _
      (λ _. stays (act s c) (in_mode p (Bringing o)) refl refl (same_call c refl) (aiming_on (Bringing o) o aiming))
      (λ _. finds (act s c) o (same_call c refl) aiming)

  fill_aims : (o f : ℕ) (y : Far) → IsAiming g p o → AimsIn g (in_mode p (as_mode (to_fill o f y))) (as_mode (to_fill o f y))
  fill_aims o f Never aiming = aiming_on _ o aiming
  fill_aims o f (Kept words) aiming = aiming_on _ o aiming
  fill_aims o f Unknown aiming = aiming_on _ o aiming

  seeks_to : (o : ℕ) (c : Choice) → IsAiming g p o → p.mode ≡ Bringing o → Leads s Q (seeks g p o c)
  seeks_to o choice.Next aiming e = tt
  seeks_to o (choice.Begin v) aiming e = tt
  seeks_to o (choice.Look f) aiming e = stays s p refl refl still (subst (AimsIn g p) (sym e) aiming)
  seeks_to o (choice.Claim f) aiming e =
      let c : Call = Claims g.mover o f in
      let t : State = act s c in
      chosen t (holds (t.hand g.mover).claimed f) _ _
      (λ _. stays t (in_mode p (as_mode (to_fill o f (t.far o)))) refl refl (same_call c refl) (fill_aims o f (t.far o) aiming))
      (λ _. stays t p refl refl (same_call c refl) (subst (AimsIn g p) (sym e) aiming))
  seeks_to o (choice.Mark v f) aiming e =
      let c : Call = Marks g.mover v f in
      let t : State = act s c in
      chosen t (holds (t.hand g.mover).leaving v) _ _
      (λ _. stays t (in_mode p (Evicting o (Copying v f []))) refl refl (same_call c refl) (aiming_on _ o aiming))
      (λ _. stays t p refl refl (same_call c refl) (subst (AimsIn g p) (sym e) aiming))
  seeks_to o (choice.Leave v f) aiming e =
      let c : Call = Leaves g.mover v f in
      let t : State = act s c in
      chosen t (holds (t.hand g.mover).freed f) _ _
      (λ _. stays t (in_mode p (Evicting o (Freed f))) refl refl (same_call c refl) (aiming_on _ o aiming))
      (λ _. stays t p refl refl (same_call c refl) (subst (AimsIn g p) (sym e) aiming))

  read_to : (o f : ℕ) (read : Option (List ℕ)) → IsAiming g p o → Q s (in_mode p (as_mode (read_so o f read)))
  read_to o f None aiming = stays s _ refl refl still (aiming_on _ o aiming)
  read_to o f (Some words) aiming = stays s _ refl refl still (aiming_on _ o aiming)

  fills_to : (o f : ℕ) (words : List ℕ) (k : ℕ) → IsAiming g p o → Leads s Q (program_brings g p a (fetching.Filling o f words k))
  fills_to o f words k aiming = leads_cond s Q (nat_lt k g.size) _ _
      (λ _. stays (act s (Fills g.mover f k (listed words k))) _ refl refl (same_call (Fills g.mover f k (listed words k)) refl) (aiming_on _ o aiming))
      (λ _. plain (touch.Aims aiming.scope (Some aiming.cell)) aiming.is tt (act s (Arrives g.mover o f true)) (same_call (Arrives g.mover o f true) refl) p.holds)

  closed_to : (t : State) (k : ℕ) (q : Option (ℕ × Hold)) → ((o i : ℕ) → latest t o i ≡ latest s o i) → p.mode ≡ Closing → Q t (closed_so (holding p k None) q)
  closed_to t k None same e = stays t _ refl refl same tt
  closed_to t k (Some q) same e = stays t (holding p k None) refl refl same (subst (λ y. AimsIn g (holding p k None) y) (sym e) tt)

  closing_to : (q : Option (ℕ × Hold)) → p.mode ≡ Closing → Leads s Q (gives_up p q)
  closing_to None e = stays s _ refl refl still tt
  closing_to (Some q) e = closed_to (act s (Closes q.1.object)) q.0 (first_hold (holding p q.0 None).holds) (same_call (Closes q.1.object) refl) e

  mode_to : (y : Mode) → p.mode ≡ y → AimsIn g p y → (c : Choice) → Leads s Q (by_mode g s p y c a)
  mode_to Ready e aims c = leads_next s Q c _ (leads_cond s Q (is_blocked p.core) NotEnabled (ready g s p a (next_touch g p)) (λ _. tt) (λ b. ready_to (next_touch g p) (refl, b) e))
  mode_to (Missing o) e aims c = leads_next s Q c _ (missing_to o aims)
  mode_to (Bringing o) e aims c = seeks_to o c aims e
  mode_to (Reading o f) e aims c = leads_next s Q c _ (read_to o f a.read aims)
  mode_to (Filling o f words k) e aims c = leads_next s Q c _ (fills_to o f words k aims)
  mode_to (Evicting o d) e aims c =
      leads_next s Q c _
      (leads_evicts g.size s g.mover a (λ d. in_mode p (Evicting o d)) (in_mode p (Bringing o)) (in_mode p (Retreating o)) Q
      (λ t d same. stays t (in_mode p (Evicting o d)) refl refl same (aiming_on _ o aims)) (λ t same. stays t _ refl refl same (aiming_on _ o aims)) (λ t same. stays t _ refl refl same (aiming_on _ o aims)) d)
  mode_to (Releasing o f) e aims c =
      leads_next s Q c _ (stays (act s (Unclaims g.mover f)) (in_mode p (Retreating o)) refl refl (same_call (Unclaims g.mover f) refl) (aiming_on _ o aims))
  mode_to (Retreating o) e aims c = leads_next s Q c _ (stays (act s (Retreats g.mover o)) (in_mode p Closing) refl refl (same_call (Retreats g.mover o) refl) tt)
  mode_to Closing e aims c = leads_next s Q c _ (closing_to (first_hold p.holds) e)
  mode_to (Wanted w) e aims c = tt

-- a program's turn completes its next instruction, or leaves its code and the latest stores
pub program_leads : (g : Setting) (s : State) (p : Program) (c : Choice) (a : Answer) → AimsIn g p p.mode → Leads s (Goes g s p) (program_turn g s p c a)
program_leads g s p c a aims = mode_to g s p a p.mode refl aims c
