-- What the seats of a table did, each with what it found, and which part of that each seat keeps.
use Rattle.std.specs.Prelude.{◌≡◌, ℕ, suc, ◌==◌, ◌&&◌, ◌||◌, ◌/◌, ◌%◌, ◌<◌, ◌≤◌, ◌++◌, Bool, true, false, cond, List, [], ◌∷◌, length, map, Option, Some, None}
use mathlib.Core.Option.{some}
use lib.ListN.{get_elem?}
use Rattle.atomic_table.specs.Table.{State, Me}
use Rattle.pointer_word.specs.Words.{Fits, Here, pack, face}
use Rattle.pointer_word.specs.Hands.{seen, listed}
use Rattle.pointer_word.specs.Machine.{State as Machine, Kept, opening}
use Rattle.pointer_word.specs.Calls.{Call, Opens, Closes, Clears, Stores, Begins, Claims, Fills, Arrives, Unclaims, Retreats, Marks, Copies, Puts, Commits, Aborts, Leaves, Releases, act}
use Rattle.object_lock.specs.Seats.{Sizes, View, frame_word, cell_word}

-- One atomic step at a word of the table: the number that was found there, and the calls of the machine that were made. A look makes none, and a try to
-- commit two, as what was put shows with it
pub record Deed : Type 0 where
  pub word : ℕ
  pub found : ℕ
  pub calls : List Call

-- a step that made one call
abbrev pub deed : ℕ → ℕ → Call → Deed
deed k n c = record { word = k; found = n; calls = c ∷ [] }

-- what a seat knows, and what it did, in order, but looks, and tries to begin, to claim, to mark and to have an object leave that did not find what they ask for
pub record Seated : Type 0 where
  pub view : View
  pub log : List Deed

-- the number is the word of an object that is in a frame
abbrev pub tells_frame : ℕ → Bool
tells_frame n = n / 262144 % 4 == 2

-- a seat keeps the call: a try to begin, to claim, to mark or to have an object leave where it found the word that it asks for, or, as the object's
-- owner, a frame, and every other call; of a try to commit the put before it shows
abbrev pub is_told : ℕ → Call → Bool
is_told n (Opens o) = true
is_told n (Closes o) = true
is_told n (Clears o) = true
is_told n (Stores o f i v) = true
is_told n (Begins m o c own) = (n == c) || (own && tells_frame n)
is_told n (Claims m o f) = n == 0
is_told n (Fills m f i v) = true
is_told n (Arrives m o f own) = true
is_told n (Unclaims m f) = true
is_told n (Retreats m o) = true
is_told n (Marks m o f) = n == face (Here f false) 0
is_told n (Copies m f i) = true
is_told n (Puts m o x) = true
is_told n (Commits m o f) = true
is_told n (Aborts m o f) = true
is_told n (Leaves m o f) = n == face (Here f true) 0
is_told n (Releases m f) = true

-- a seat keeps the step in its log
abbrev pub is_kept : ℕ → List Call → Bool
is_kept n [] = false
is_kept n (c ∷ cs) = is_told n c

-- what a seat keeps of a step of its own
abbrev pub kept_of : Deed → List Deed
kept_of d = cond (is_kept d.found d.calls) (d ∷ []) []

-- what the seat j keeps of these steps, each with the seat that made it
abbrev pub log_of : ℕ → List (ℕ × Deed) → List Deed
log_of j [] = []
log_of j (d ∷ ds) = cond (d.0 == j) (kept_of d.1) [] ++ log_of j ds

-- the calls that were made by these steps
abbrev pub calls_of : List (ℕ × Deed) → List Call
calls_of [] = []
calls_of (d ∷ ds) = d.1.calls ++ calls_of ds

-- the word k of a table of these sizes is that of the object o
abbrev pub IsObjectWord : Sizes → ℕ → ℕ → Type 0
IsObjectWord z k o = (k ≡ o) × (o < z.objects)

-- it is that of the frame f
abbrev pub IsFrameWord : Sizes → ℕ → ℕ → Type 0
IsFrameWord z k f = (k ≡ frame_word z f) × (f < z.frames)

-- it is that of the cell i of the frame f
abbrev pub IsCellWord : Sizes → ℕ → ℕ → ℕ → Type 0
IsCellWord z k f i = k ≡ cell_word z f i

-- the word k is the one that the call looks at, or changes; a mover's call is one of the mover m
abbrev pub IsCallAt : Sizes → ℕ → ℕ → Call → Type 0
IsCallAt z m k (Opens o) = IsObjectWord z k o
IsCallAt z m k (Closes o) = IsObjectWord z k o
IsCallAt z m k (Clears o) = IsObjectWord z k o
IsCallAt z m k (Stores o f i v) = IsCellWord z k f i
IsCallAt z m k (Begins j o c own) = (j ≡ m) × IsObjectWord z k o
IsCallAt z m k (Claims j o f) = (j ≡ m) × IsFrameWord z k f
IsCallAt z m k (Fills j f i v) = (j ≡ m) × IsCellWord z k f i
IsCallAt z m k (Arrives j o f own) = (j ≡ m) × IsObjectWord z k o
IsCallAt z m k (Unclaims j f) = (j ≡ m) × IsFrameWord z k f
IsCallAt z m k (Retreats j o) = (j ≡ m) × IsObjectWord z k o
IsCallAt z m k (Marks j o f) = (j ≡ m) × IsObjectWord z k o
IsCallAt z m k (Copies j f i) = (j ≡ m) × IsCellWord z k f i
IsCallAt z m k (Puts j o x) = (j ≡ m) × IsObjectWord z k o
IsCallAt z m k (Commits j o f) = (j ≡ m) × IsObjectWord z k o
IsCallAt z m k (Aborts j o f) = (j ≡ m) × IsObjectWord z k o
IsCallAt z m k (Leaves j o f) = (j ≡ m) × IsObjectWord z k o
IsCallAt z m k (Releases j f) = (j ≡ m) × IsFrameWord z k f

-- a put, and a try to commit
abbrev pub IsTry : Call → Call → Type 0
IsTry (Puts j o x) (Commits i p f) = Unit {0}
IsTry c d = ⊥

-- these are calls of one step of the mover m, or of an owner, at the word k: none, one, or a try to commit behind its put
abbrev pub AreCallsAt : Sizes → ℕ → ℕ → List Call → Type 0
AreCallsAt z m k [] = Unit {0}
AreCallsAt z m k (c ∷ []) = IsCallAt z m k c
AreCallsAt z m k (c ∷ d ∷ []) = IsCallAt z m k c × IsCallAt z m k d × IsTry c d
AreCallsAt z m k (c ∷ d ∷ e ∷ cs) = ⊥

-- the calls of each step are such ones at its word, of the seat that made it, whose number as a mover is one more than its place among the seats
abbrev pub AreOwn : Sizes → List (ℕ × Deed) → Type 0
AreOwn z [] = Unit {0}
AreOwn z (d ∷ ds) = AreCallsAt z (suc d.0) d.1.word d.1.calls × AreOwn z ds

-- the object of a call that its owner alone makes; none of another call
abbrev pub owners_object : Call → Option ℕ
owners_object (Opens o) = Some o
owners_object (Closes o) = Some o
owners_object (Clears o) = Some o
owners_object (Stores o f i v) = Some o
owners_object (Begins m o c own) = cond own (Some o) None
owners_object (Claims m o f) = None
owners_object (Fills m f i v) = None
owners_object (Arrives m o f own) = cond own (Some o) None
owners_object (Unclaims m f) = None
owners_object (Retreats m o) = None
owners_object (Marks m o f) = None
owners_object (Copies m f i) = None
owners_object (Puts m o x) = None
owners_object (Commits m o f) = None
owners_object (Aborts m o f) = None
owners_object (Leaves m o f) = None
owners_object (Releases m f) = None

-- those of these calls that an owner makes are of objects of which this is so
abbrev pub AreOf : (ℕ → Type 0) → List Call → Type 0
AreOf mine [] = Unit {0}
AreOf mine (c ∷ cs) = ((o : ℕ) → owners_object c ≡ Some o → mine o) × AreOf mine cs

-- each owner's call of a step that is kept was made by the seat that owns its object, by what owns each object
abbrev pub AreOwners : (ℕ → ℕ) → List (ℕ × Deed) → Type 0
AreOwners owner [] = Unit {0}
AreOwners owner (d ∷ ds) = (is_kept d.1.found d.1.calls ≡ true → AreOf (λ o. owner o ≡ d.0) d.1.calls) × AreOwners owner ds

-- what these calls leave, one after the other
abbrev pub act_all : Machine → List Call → Machine
act_all x [] = x
act_all x (c ∷ cs) = act_all (act x c) cs

-- the machine shows this number at the word k of a table of these sizes; an object's word fits its 64 bits
pub record IsShown (z : Sizes) (x : Machine) (k n : ℕ) : Type 0 where
  pub object : k < z.objects → (n ≡ pack (x.word k)) × Fits (x.word k)
  pub frame : (f : ℕ) → f < z.frames → k ≡ frame_word z f → n ≡ x.frame f
  pub cell : (f i : ℕ) → f < z.frames → i < z.cells → k ≡ cell_word z f i → n ≡ x.cell f i

-- these steps, in this order, each of which found what the machine showed then, led from the machine x to the machine t
abbrev pub Follows : Sizes → Machine → List (ℕ × Deed) → Machine → Type 0
Follows z x [] t = t ≡ x
Follows z x (d ∷ ds) t = IsShown z x d.1.word d.1.found × Follows z (act_all x d.1.calls) ds t

-- These steps, each at the word of its calls and by the seat that they name, made these calls, which led from the opening machine to the machine x; the log of each seat is its part of them, and each step that is kept is one of these seats'
pub record IsLogged (z : Sizes) (calls : List Call) (x : Machine) (seats : List Seated) : Type 0 where
  pub steps : List (ℕ × Deed)
  pub made : calls_of steps ≡ calls
  pub follows : Follows z opening steps x
  pub own : AreOwn z steps
  pub logs : (j : ℕ) (v : Seated) → get_elem? seats j ≡ some v → v.log ≡ log_of j steps
  pub none : (j : ℕ) → length seats ≤ j → log_of j steps ≡ []

-- the table without the logs of its seats
abbrev pub unlogged : {S : Type 0} → State S Seated → State S View
unlogged s = record { words = s.words; homes = s.homes; views = map (λ v. v.view) s.views }

-- what a seat knows, and the slots that are out, without what it did
abbrev pub bare : {S : Type 0} → Me S Seated → Me S View
bare m = (m.0.view, m.1)

-- a seat with this view that has done nothing yet
abbrev pub newly_seated : View → Seated
newly_seated v = record { view = v; log = [] }

-- the seat keeps what it did, and has this of its view
abbrev pub keeping : (View → View) → Seated → Seated
keeping f v = record { view = f v.view; log = v.log }

-- a new seat with this of the other's view
abbrev pub beginning : (View → View) → Seated → Seated
beginning f v = newly_seated (f v.view)

-- the log grew by one step at this word, which made this call and found a number of which this is so
abbrev pub Adds : List Deed → List Deed → ℕ → Call → (ℕ → Type 0) → Type 0
Adds old new k c found = (n : ℕ) × (new ≡ old ++ deed k n c ∷ []) × found n

-- the same of a step whose number is told to nobody
abbrev pub AddsOne : List Deed → List Deed → ℕ → Call → Type 0
AddsOne old new k c = (n : ℕ) × (new ≡ old ++ deed k n c ∷ [])

-- the log grew by a try to commit the object o, with the put of the cells that were copied, a piece of this many; this number was found
abbrev pub AddsTry : ℕ → View → List Deed → List Deed → ℕ → ℕ → Type 0
AddsTry cells v old new o n = (ws : List ℕ) × (length ws ≡ cells) × ((i : ℕ) → i < cells → seen v.hand.copied i ≡ Some (listed ws i))
    × (new ≡ old ++ record { word = o; found = n; calls = Puts v.number o (Kept ws) ∷ Commits v.number o v.hand.source ∷ [] } ∷ [])
