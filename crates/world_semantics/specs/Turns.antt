-- What one actor does in one event: at most one call of the lock's machine.
use Rattle.std.specs.Prelude.{ℕ, suc, ◌+◌, ◌%◌, Bool, true, false, not, cond, ◌&&◌, ◌==◌, nat_lt, nat_le, Option, Some, None, List, [], ◌∷◌, ◌++◌, length}
use Rattle.cells.specs.declared.ending.Want.TheVariants.{OutOfMemory, NoObjects, StoreFailed}
use Rattle.code_form.specs.declared.touch.Touch.{Touch}
use Rattle.code_form.specs.declared.touch.Touch.TheVariants as touch
use Rattle.code_form.specs.Code.{is_blocked}
use Rattle.code_form.specs.Placed.{pieces}
use Rattle.pointer_word.specs.Hands.{known, listed}
use Rattle.pointer_word.specs.Machine.{Far, Never, Kept, Unknown, State}
use Rattle.pointer_word.specs.Calls.{Call, Opens, Closes, Clears, Stores, Begins, Claims, Fills, Arrives, Unclaims, Retreats, Marks, Copies, Puts, Commits, Aborts, Leaves, Releases}
use Rattle.pointer_word.specs.Legal.{holds, acts}
use Rattle.world_semantics.specs.declared.event.Choice.{Choice}
use Rattle.world_semantics.specs.declared.event.Choice.TheVariants as choice
use Rattle.world_semantics.specs.Fetchers as fetching
use Rattle.world_semantics.specs.Fetchers.{Fetching, as_mode}
use Rattle.world_semantics.specs.Programs.{Eviction, Copying, Stored, NotStored, Refused, Freed, Hold, Mode, Ready, Missing, Bringing, Reading, Filling, Evicting, Releasing, Retreating, Closing, Wanted, Program, Setting, next_touch, object_of, object_or_none, next_free, hold_at, holding, in_mode, finished, first_hold, may_grow, rest_of}

-- What nobody can know before: whether a put succeeds, what a read of the store gives (none where it fails, or finds a header that differs), and
-- whether memory grows
pub record Answer : Type 0 where
  pub stored : Bool
  pub read : Option (List ℕ)
  pub grew : Bool

-- What an actor does, A being what it is: nothing is enabled; it goes on without a call; it makes a call, and goes on by the state that the call
-- leaves
pub data Turn (A : Type 0) : Type 0 where
  NotEnabled : Turn A
  Alone : A → Turn A
  Calls : Call → (State → A) → Turn A

-- the state and the actor after a call, where it could be made
abbrev pub after_call : {A : Type 0} → Option State → (State → A) → Option (State × A)
after_call None go = None
after_call (Some t) go = Some (t, go t)

-- the state and the actor after a turn
abbrev pub taken : {A : Type 0} → ℕ → State → Turn A → Option (State × A)
taken n s NotEnabled = None
taken n s (Alone a) = Some (s, a)
taken n s (Calls c go) = after_call (acts n s c) go

-- a turn that is enabled only as what is next
abbrev pub as_next : {A : Type 0} → Choice → Turn A → Turn A
as_next choice.Next turn = turn
as_next _ turn = NotEnabled

-- ---- moving out, by the mover m: n copies in the order of the indexes, a put, a try to commit, and a release; or an abort

-- what a put leaves in the store cell
abbrev pub put_of : Bool → List ℕ → Far
put_of true words = Kept words
put_of false words = Unknown

-- after a put
abbrev pub put_so : Bool → ℕ → ℕ → Eviction
put_so true o f = Stored o f
put_so false o f = NotStored o f

-- after a try to commit, where the mover has a freed frame in hand or not
abbrev pub committed_so : Bool → ℕ → ℕ → Eviction
committed_so true o f = Freed f
committed_so false o f = Refused o f

-- what is next: `go` goes on, and the moving out ends well, or because the store failed
abbrev pub evicts : {A : Type 0} → ℕ → ℕ → Answer → Eviction → (go : Eviction → A) → (done failed : A) → Turn A
evicts n m a (Copying o f words) go done failed =
    cond (nat_lt (length words) n)
    (Calls (Copies m f (length words)) (λ t. go (Copying o f (words ++ t.cell f (length words) ∷ []))))
    (Calls (Puts m o (put_of a.stored words)) (λ t. go (put_so a.stored o f)))
evicts n m a (Stored o f) go done failed = Calls (Commits m o f) (λ t. go (committed_so (known (t.hand m).freed) o f))
evicts n m a (NotStored o f) go done failed = Calls (Aborts m o f) (λ t. failed)
evicts n m a (Refused o f) go done failed = Calls (Aborts m o f) (λ t. done)
evicts n m a (Freed f) go done failed = Calls (Releases m f) (λ t. done)

-- an evacuator that is idle looks at a frame, tries to mark an object, whose moving out begins, or tries to have a clean one leave, whose frame is then released
abbrev pub evacuator_idle : ℕ → Choice → Turn (Option Eviction)
evacuator_idle m (choice.Look f) = Alone None
evacuator_idle m (choice.Mark o f) = Calls (Marks m o f) (λ t. cond (holds (t.hand m).leaving o) (Some (Copying o f [])) None)
evacuator_idle m (choice.Leave o f) = Calls (Leaves m o f) (λ t. cond (holds (t.hand m).freed f) (Some (Freed f)) None)
evacuator_idle m _ = NotEnabled

-- an evacuator is idle, or moves an object out
abbrev pub evacuator_turn : ℕ → ℕ → Option Eviction → Choice → Answer → Turn (Option Eviction)
evacuator_turn n m None c a = evacuator_idle m c
evacuator_turn n m (Some e) c a = as_next c (evicts n m a e Some None None)

-- ---- bringing in, by the mover m: a claim of a frame, a get where something was ever put, n fills in the order of the indexes, and an arrival; or a
-- release of the frame, and a retreat

-- a frame was claimed: it is filled with zeros where nothing was ever put, else with what the store has
abbrev pub to_fill : ℕ → ℕ → Far → Fetching
to_fill o f Never = fetching.Filling o f [] 0
to_fill o f (Kept words) = fetching.Reading o f
to_fill o f Unknown = fetching.Reading o f

-- after a try to claim: `go` goes on with the frame, or the mover is as it was
abbrev pub claimed_so : {A : Type 0} → ℕ → ℕ → ℕ → (go : Fetching → A) → (same : A) → State → A
claimed_so m o f go same t = cond (holds (t.hand m).claimed f) (go (to_fill o f (t.far o))) same

-- after a read of the store
abbrev pub read_so : ℕ → ℕ → Option (List ℕ) → Fetching
read_so o f None = fetching.Releasing o f
read_so o f (Some words) = fetching.Filling o f words 0

-- what is next: `go` goes on, and the bringing in ends well, or the object is given up; `own` says that the mover owns the object and has a hold
abbrev pub brings : {A : Type 0} → ℕ → ℕ → Bool → Answer → Fetching → (go : Fetching → A) → (done failed : A) → Turn A
brings n m own a (fetching.Bringing o) go done failed = Calls (Retreats m o) (λ t. failed)
brings n m own a (fetching.Reading o f) go done failed = Alone (go (read_so o f a.read))
brings n m own a (fetching.Filling o f words k) go done failed =
    cond (nat_lt k n) (Calls (Fills m f k (listed words k)) (λ t. go (fetching.Filling o f words (suc k)))) (Calls (Arrives m o f own) (λ t. done))
brings n m own a (fetching.Releasing o f) go done failed = Calls (Unclaims m f) (λ t. go (fetching.Retreating o))
brings n m own a (fetching.Retreating o) go done failed = Calls (Retreats m o) (λ t. failed)

-- a fetcher that is idle tries to begin to bring an object in, which must be away with no hold
abbrev pub fetcher_idle : ℕ → Choice → Turn (Option Fetching)
fetcher_idle m (choice.Begin o) = Calls (Begins m o 0 false) (λ t. cond (holds (t.hand m).bringing o) (Some (fetching.Bringing o)) None)
fetcher_idle m _ = NotEnabled

-- a fetcher that seeks a frame tries to claim this one
abbrev pub fetcher_claims : ℕ → ℕ → Fetching → Turn (Option Fetching)
fetcher_claims m f (fetching.Bringing o) = Calls (Claims m o f) (claimed_so m o f Some (Some (fetching.Bringing o)))
fetcher_claims m f _ = NotEnabled

-- a fetcher that brings an object in claims a frame, or does what is next; its failure ends the bringing in, and is told to nobody
abbrev pub fetches : ℕ → ℕ → Fetching → Choice → Answer → Turn (Option Fetching)
fetches n m d (choice.Claim f) a = fetcher_claims m f d
fetches n m d c a = as_next c (brings n m false a d Some None None)

-- a fetcher is idle, or brings an object in
abbrev pub fetcher_turn : ℕ → ℕ → Option Fetching → Choice → Answer → Turn (Option Fetching)
fetcher_turn n m None c a = fetcher_idle m c
fetcher_turn n m (Some d) c a = fetches n m d c a

-- ---- an instruction

-- the next instruction is completed, or memory was refused to it
abbrev pub grows : Setting → Program → Answer → Program
grows g p a = cond (not a.grew && may_grow (next_touch g p) (rest_of p.core)) (in_mode p (Wanted OutOfMemory)) (finished g p 0)

-- scope k, which holds h, is shut
abbrev pub closes : Program → ℕ → Hold → Turn Program
closes p k h = Calls (Closes h.object) (λ t. holding p k None)

-- an aim whose hold is open completes where its owner was told a frame
abbrev pub found : Setting → Program → ℕ → State → Program
found g p o t = cond (known (t.note o).frame) (finished g p 0) (in_mode p (Missing o))

-- scope k holds an object, and is to hold none
abbrev pub aims_at : Setting → Program → ℕ → Option Hold → Option ℕ → Turn Program
aims_at g p k None None = Alone (finished g p 0)
aims_at g p k None (Some o) = Calls (Opens o) (λ t. found g (holding p k (Some (record { object = o; writes = false }))) o t)
aims_at g p k (Some h) None = closes p k h
aims_at g p k (Some h) (Some o) = cond (h.object == o) (Alone (finished g p 0)) (closes p k h)

-- a load by scope k of cell i of the object o, in the frame that its owner was told
abbrev pub loads_from : Setting → State → Program → Option ℕ → ℕ → Turn Program
loads_from g s p None i = NotEnabled
loads_from g s p (Some f) i = Alone (finished g p (s.cell f i))

-- a load by a scope that holds this
abbrev pub loads_by : Setting → State → Program → Option Hold → ℕ → ℕ → Turn Program
loads_by g s p None o i = NotEnabled
loads_by g s p (Some h) o i = cond (h.object == o) (loads_from g s p (s.note o).frame i) NotEnabled

-- a store of v by scope k, which has begun to write the object o, in the frame that its owner was told
abbrev pub stores_to : Setting → Program → Option ℕ → ℕ → ℕ → ℕ → Turn Program
stores_to g p None o i v = NotEnabled
stores_to g p (Some f) o i v = Calls (Stores o f i v) (λ t. finished g p 0)

-- a store by scope k, which holds this; it first begins to write
abbrev pub stores_by : Setting → State → Program → ℕ → Option Hold → ℕ → ℕ → ℕ → Turn Program
stores_by g s p k None o i v = NotEnabled
stores_by g s p k (Some h) o i v =
    cond (h.object == o) (cond h.writes (stores_to g p (s.note o).frame o i v) (Calls (Clears o) (λ t. holding p k (Some (record { object = o; writes = true }))))) NotEnabled

-- scope k, which holds this, is shut, and the instruction is completed
abbrev pub leaves_by : Setting → Program → ℕ → Option Hold → Turn Program
leaves_by g p k None = Alone (finished g p 0)
leaves_by g p k (Some h) = Calls (Closes h.object) (λ t. finished g (holding p k None) 0)

-- an allocation of this many cells, whose pieces fit in the share or not
abbrev pub allocates : Setting → Program → Answer → ℕ → Turn Program
allocates g p a cells = cond (nat_le (next_free g p + pieces g.size cells) g.limit) (Alone (grows g p a)) (Alone (in_mode p (Wanted NoObjects)))

-- a stop, behind a close for each hold
abbrev pub ends_by : Setting → Program → Answer → Option (ℕ × Hold) → Turn Program
ends_by g p a None = Alone (grows g p a)
ends_by g p a (Some q) = closes p q.0 q.1

-- the next instruction, by what it touches
abbrev pub ready : Setting → State → Program → Answer → Touch → Turn Program
ready g s p a touch.Plain = Alone (grows g p a)
ready g s p a (touch.Hints w) = Alone (finished g p 0)
ready g s p a (touch.Aims k w) = cond (nat_lt k (length p.holds)) (aims_at g p k (hold_at p.holds k) (object_or_none g p w)) NotEnabled
ready g s p a (touch.Loads k x) = loads_by g s p (hold_at p.holds k) (object_of g p x) (x.index % g.size)
ready g s p a (touch.Stores k x v) = stores_by g s p k (hold_at p.holds k) (object_of g p x) (x.index % g.size) v
ready g s p a (touch.Leaves k) = leaves_by g p k (hold_at p.holds k)
ready g s p a (touch.Allocs cells) = allocates g p a cells
ready g s p a touch.Ends = ends_by g p a (first_hold p.holds)
ready g s p a touch.Wrong = NotEnabled
ready g s p a touch.Nothing = NotEnabled

-- ---- a program that brings an object in

-- after a try to begin: the program has the berth, or finds the object in a frame, or neither
abbrev pub began : Setting → Program → ℕ → State → Program
began g p o t = cond (holds (t.hand g.mover).bringing o) (in_mode p (Bringing o)) (found g p o t)

-- after a try to claim
abbrev pub program_claimed : Setting → Program → ℕ → ℕ → State → Program
program_claimed g p o f = claimed_so g.mover o f (λ d. in_mode p (as_mode d)) p

-- after a try to mark
abbrev pub marked_so : Setting → Program → ℕ → ℕ → ℕ → State → Program
marked_so g p o v f t = cond (holds (t.hand g.mover).leaving v) (in_mode p (Evicting o (Copying v f []))) p

-- after a try to have a clean object leave
abbrev pub left_so : Setting → Program → ℕ → ℕ → State → Program
left_so g p o f t = cond (holds (t.hand g.mover).freed f) (in_mode p (Evicting o (Freed f))) p

-- a program that seeks a frame looks at one, tries to claim it, or tries to mark the object in it or to have it leave
abbrev pub seeks : Setting → Program → ℕ → Choice → Turn Program
seeks g p o (choice.Look f) = Alone p
seeks g p o (choice.Claim f) = Calls (Claims g.mover o f) (program_claimed g p o f)
seeks g p o (choice.Mark v f) = Calls (Marks g.mover v f) (marked_so g p o v f)
seeks g p o (choice.Leave v f) = Calls (Leaves g.mover v f) (left_so g p o f)
seeks g p o choice.Next = NotEnabled
seeks g p o (choice.Begin v) = NotEnabled

-- with a frame claimed it goes on; its aim completes with the arrival, and behind a failure it closes its holds
abbrev pub program_brings : Setting → Program → Answer → Fetching → Turn Program
program_brings g p a d = brings g.size g.mover true a d (λ e. in_mode p (as_mode e)) (finished g p 0) (in_mode p Closing)

-- with its last hold closed a program whose store failed wants that
abbrev pub closed_so : Program → Option (ℕ × Hold) → Program
closed_so p None = in_mode p (Wanted StoreFailed)
closed_so p (Some q) = p

-- a program whose store failed closes its holds, from the lowest scope on
abbrev pub gives_up : Program → Option (ℕ × Hold) → Turn Program
gives_up p None = Alone (in_mode p (Wanted StoreFailed))
gives_up p (Some q) = Calls (Closes q.1.object) (λ t. let r : Program = holding p q.0 None in closed_so r (first_hold r.holds))

-- ---- a program

-- what is next in a mode
abbrev pub by_mode : Setting → State → Program → Mode → Choice → Answer → Turn Program
by_mode g s p Ready c a = as_next c (cond (is_blocked p.core) NotEnabled (ready g s p a (next_touch g p)))
by_mode g s p (Missing o) c a = as_next c (Calls (Begins g.mover o (s.note o).count true) (began g p o))
by_mode g s p (Bringing o) c a = seeks g p o c
by_mode g s p (Reading o f) c a = as_next c (program_brings g p a (fetching.Reading o f))
by_mode g s p (Filling o f words k) c a = as_next c (program_brings g p a (fetching.Filling o f words k))
by_mode g s p (Evicting o e) c a = as_next c (evicts g.size g.mover a e (λ d. in_mode p (Evicting o d)) (in_mode p (Bringing o)) (in_mode p (Retreating o)))
by_mode g s p (Releasing o f) c a = as_next c (program_brings g p a (fetching.Releasing o f))
by_mode g s p (Retreating o) c a = as_next c (program_brings g p a (fetching.Retreating o))
by_mode g s p Closing c a = as_next c (gives_up p (first_hold p.holds))
by_mode g s p (Wanted w) c a = NotEnabled

-- what a program does
abbrev pub program_turn : Setting → State → Program → Choice → Answer → Turn Program
program_turn g s p c a = by_mode g s p p.mode c a
