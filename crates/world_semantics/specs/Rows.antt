-- Worked schedules of one program beside one evacuator, and one fetcher or none, over pieces of 64 cells.
use Rattle.std.specs.Prelude.{ℕ, zero, suc, true, false, Option, Some, None, List, [], ◌∷◌, ◌++◌, length, pos}
use Rattle.cells.specs.declared.ending.Want.{Want}
use Rattle.cells.specs.Stops.{Stop}
use Rattle.code_form.specs.declared.form.Operation.TheVariants.{Alloc, Const, Null, CheckNull}
use Rattle.code_form.specs.Form.{Image, Simple, Aim, Leave, Return}
use Rattle.code_form.specs.Form as form
use Rattle.code_form.specs.Code.{stop_of}
use Rattle.code_form.specs.Computed.{image_v, image_with}
use Rattle.pointer_word.specs.Words.{pack}
use Rattle.pointer_word.specs.Machine.{Far, Never, Kept, Unknown, State}
use Rattle.world_semantics.specs.declared.event.Actor.{Actor}
use Rattle.world_semantics.specs.declared.event.Actor.TheVariants as actor
use Rattle.world_semantics.specs.declared.event.Choice.{Choice}
use Rattle.world_semantics.specs.declared.event.Choice.TheVariants as choice
use Rattle.world_semantics.specs.Fetchers.{Fetching, as_mode}
use Rattle.world_semantics.specs.Programs.{Mode, Reading, Wanted}
use Rattle.world_semantics.specs.Turns.{Answer}
use Rattle.world_semantics.specs.Worlds.{Sizes, World, start, event}

-- ---- lines

-- a line of a schedule
abbrev pub Line : Type 0
Line = Actor × Choice

-- a line k times
abbrev pub times : ℕ → Line → List Line
times zero l = []
times (suc k) l = l ∷ times k l

-- the program goes on
abbrev pub p0 : Line
p0 = (actor.Program 0, choice.Next)

-- the program tries to claim a frame
abbrev pub p0_claim : ℕ → Line
p0_claim f = (actor.Program 0, choice.Claim f)

-- the program tries to mark an object in a frame
abbrev pub p0_mark : ℕ → ℕ → Line
p0_mark o f = (actor.Program 0, choice.Mark o f)

-- the program tries to have a clean object leave a frame
abbrev pub p0_leave : ℕ → ℕ → Line
p0_leave o f = (actor.Program 0, choice.Leave o f)

-- the evacuator goes on
abbrev pub e0 : Line
e0 = (actor.Evacuator 0, choice.Next)

-- the evacuator tries to mark an object in a frame
abbrev pub e0_mark : ℕ → ℕ → Line
e0_mark o f = (actor.Evacuator 0, choice.Mark o f)

-- the evacuator tries to have a clean object leave a frame
abbrev pub e0_leave : ℕ → ℕ → Line
e0_leave o f = (actor.Evacuator 0, choice.Leave o f)

-- the fetcher goes on
abbrev pub f0 : Line
f0 = (actor.Fetcher 0, choice.Next)

-- the fetcher tries to begin to bring an object in
abbrev pub f0_begin : ℕ → Line
f0_begin o = (actor.Fetcher 0, choice.Begin o)

-- the fetcher tries to claim a frame
abbrev pub f0_claim : ℕ → Line
f0_claim f = (actor.Fetcher 0, choice.Claim f)

-- ---- what lines lead to

-- a store: it never fails; every put fails; every read fails
pub data Store : Type 0 where
  Reliable : Store
  NoPuts : Store
  NoReads : Store

-- what a program runs on, and how many fetchers are beside it
pub record Setup : Type 0 where
  pub image : Image
  pub frames : ℕ
  pub objects : ℕ
  pub fetchers : ℕ
  pub store : Store

-- what a store that never fails reads
abbrev pub kept : Far → Option (List ℕ)
kept Never = None
kept (Kept words) = Some words
kept Unknown = None

-- what is read in a mode that reads
abbrev pub read_in : State → Mode → Option (List ℕ)
read_in s (Reading o f) = kept (s.far o)
read_in s _ = None

-- what a fetcher reads
abbrev pub fetched : State → Option Fetching → Option (List ℕ)
fetched s None = None
fetched s (Some d) = read_in s (as_mode d)

-- what an actor reads in its next event
abbrev pub read_by : World → Actor → Option (List ℕ)
read_by w (actor.Program k) = read_in w.lock (w.programs k).mode
read_by w (actor.Evacuator k) = None
read_by w (actor.Fetcher k) = fetched w.lock (w.fetchers k)

-- the answer of a store to an actor
abbrev pub answer_of : Store → World → Actor → Answer
answer_of Reliable w who = record { stored = true; read = read_by w who; grew = true }
answer_of NoPuts w who = record { stored = false; read = read_by w who; grew = true }
answer_of NoReads w who = record { stored = true; read = None; grew = true }

-- one program, one evacuator and the fetchers
abbrev pub sizes : Setup → Sizes
sizes x = record { cells = 64; programs = 1; evacuators = 1; fetchers = x.fetchers; frames = x.frames; objects = x.objects }

-- the world after these lines; none where one of them is refused
abbrev pub replayed : Setup → Option World → List Line → Option World
replayed x None ls = None
replayed x (Some w) [] = Some w
replayed x (Some w) (l ∷ ls) = replayed x (event (sizes x) (λ _. x.image) w (record { actor = l.0; choice = l.1; answer = answer_of x.store w l.0 })) ls

-- what is shown of a world: how the program has stopped, or what it wants; the bits of object 0's word, and cell 0 of each of two frames
pub record Shown : Type 0 where
  pub stop : Option Stop
  pub want : Option Want
  pub word : ℕ
  pub first : ℕ
  pub second : ℕ

-- what a program wants
abbrev pub want_of : Mode → Option Want
want_of (Wanted w) = Some w
want_of _ = None

-- what is shown of a world, where no line was refused
abbrev pub shown : Option World → Option Shown
shown None = None
shown (Some w) =
    Some (record { stop = stop_of (w.programs 0).core; want = want_of (w.programs 0).mode; word = pack (w.lock.word 0); first = w.lock.cell 0 0; second = w.lock.cell 1 0 })

-- how many lines there are, and what they lead to
abbrev pub row : Setup → List Line → ℕ × Option Shown
row x ls = (length ls, shown (replayed x (Some (start (λ _. x.image))) ls))

-- ---- a program that writes 5 into an object, reads it back and returns it

-- with two frames, over a store
abbrev pub five : Store → Setup
five store = record { image = image_v; frames = 2; objects = 1; fetchers = 0; store = store }

-- the program writes the object: alloc, const, chk_null, open, begin, claim, 64 fills, arrive, begin to write, store, close
abbrev pub written : List Line
written = times 5 p0 ++ p0_claim 0 ∷ times 68 p0

-- the evacuator marks the object and copies it
abbrev pub copied : List Line
copied = written ++ e0_mark 0 0 ∷ times 64 e0

-- it puts it, commits, and releases the frame; the program opens a hold, begins, and claims the other frame
abbrev pub moved_out : List Line
moved_out = copied ++ times 3 e0 ++ times 2 p0 ++ p0_claim 1 ∷ []

-- the program gets the object, fills the frame, arrives, loads and closes
abbrev pub brought_back : List Line
brought_back = moved_out ++ times 68 p0

-- the program opens, loads and closes while the evacuator is moving the object out, which then puts, commits and releases; the program returns
abbrev pub read_meanwhile : List Line
read_meanwhile = copied ++ times 3 p0 ++ times 3 e0 ++ times 1 p0

-- the program opens a hold; the evacuator puts, its commit is refused, and it aborts; the program loads, closes and returns
abbrev pub held_meanwhile : List Line
held_meanwhile = copied ++ times 1 p0 ++ times 3 e0 ++ times 3 p0

-- the evacuator's put fails, and it aborts; the program opens, loads, closes and returns
abbrev pub put_failed : List Line
put_failed = copied ++ times 2 e0 ++ times 4 p0

-- the program's get fails; it releases the frame, retreats and closes
abbrev pub get_failed : List Line
get_failed = moved_out ++ times 4 p0

-- the evacuator tries to have the object leave, which was written, and then all goes on as it would have
abbrev pub brought_back_later : List Line
brought_back_later = written ++ e0_leave 0 0 ∷ e0_mark 0 0 ∷ times 67 e0 ++ times 2 p0 ++ p0_claim 1 ∷ times 69 p0

-- the object that was brought back, and only read since, leaves; its frame is released, and the program returns
abbrev pub left_clean : List Line
left_clean = brought_back ++ e0_leave 0 1 ∷ e0 ∷ p0 ∷ []

-- ---- the same program, with a fetcher

-- with three frames, over a store
abbrev pub five_fetched : Store → Setup
five_fetched store = record { image = image_v; frames = 3; objects = 1; fetchers = 1; store = store }

-- the evacuator puts the object, commits, and releases the frame
abbrev pub put_away : List Line
put_away = copied ++ times 3 e0

-- the fetcher begins to bring it in, claims a frame, gets it, fills the frame, and arrives
abbrev pub brought_by : List Line
brought_by = put_away ++ f0_begin 0 ∷ f0_claim 1 ∷ times 66 f0

-- the program opens, loads, closes and returns
abbrev pub fetched_first : List Line
fetched_first = brought_by ++ times 4 p0

-- the fetcher begins, and gives the object up
abbrev pub given_up : List Line
given_up = put_away ++ f0_begin 0 ∷ f0 ∷ []

-- the fetcher's get fails; it releases the frame and retreats, and the program opens
abbrev pub fetch_failed : List Line
fetch_failed = put_away ++ f0_begin 0 ∷ f0_claim 1 ∷ times 3 f0 ++ p0 ∷ []

-- the program opens a hold, and the fetcher tries to begin
abbrev pub opened_first : List Line
opened_first = put_away ++ p0 ∷ f0_begin 0 ∷ []

-- the fetcher begins; the program opens a hold and tries to begin; the fetcher gives the object up
abbrev pub begun_first : List Line
begun_first = put_away ++ f0_begin 0 ∷ times 2 p0 ++ f0 ∷ []

-- ---- a program that stops by a fault while it holds an object

-- it aims a scope at an object, and then meets NULL
abbrev pub faulty : Setup
faulty = record { image = image_with (Simple (Alloc 0 0) ∷ Aim 0 0 None 0 ∷ Simple (Null 0) ∷ Simple (CheckNull 0) ∷ []); frames = 1; objects = 1; fetchers = 0; store = Reliable }

-- alloc, open, begin, claim, 64 fills, arrive, null
abbrev pub holding_one : List Line
holding_one = times 3 p0 ++ p0_claim 0 ∷ times 66 p0

-- ---- a program that moves one object out for another

-- it touches two objects in turn, with one frame, and returns 5; it writes neither
abbrev pub two_objects : Store → Setup
two_objects store = record {
  image = image_with (Simple (Alloc 0 0) ∷ Aim 0 0 None 0 ∷ Leave 0 ∷ Simple (Alloc 0 0) ∷ Aim 0 0 None 0 ∷ Leave 0 ∷ Simple (Const 1 (pos 5)) ∷ Return 1 ∷ []);
  frames = 1;
  objects = 2;
  fetchers = 0;
  store = store;
}

-- alloc, open, begin, claim, 64 fills, arrive, close; alloc, open, begin
abbrev pub seeking_itself : List Line
seeking_itself = times 3 p0 ++ p0_claim 0 ∷ times 69 p0

-- leave, release, claim, 64 fills, arrive, close, const, return
abbrev pub left_itself : List Line
left_itself = seeking_itself ++ p0_leave 0 0 ∷ p0 ∷ p0_claim 0 ∷ times 68 p0

-- it writes 5 into the first of two objects, touches the second, with one frame, and returns 5
abbrev pub two_written : Store → Setup
two_written store = record {
  image = image_with (Simple (Alloc 0 0) ∷ Simple (Const 1 (pos 5)) ∷ Aim 0 0 None 0 ∷ form.Store 0 1 ∷ Leave 0 ∷ Simple (Alloc 0 0) ∷ Aim 0 0 None 0 ∷ Leave 0 ∷ Return 1 ∷ []);
  frames = 1;
  objects = 2;
  fetchers = 0;
  store = store;
}

-- alloc, const, open, begin, claim, 64 fills, arrive, begin to write, store, close; alloc, open, begin, mark, 64 copies
abbrev pub copied_itself : List Line
copied_itself = times 4 p0 ++ p0_claim 0 ∷ times 71 p0 ++ p0_mark 0 0 ∷ times 64 p0

-- put, commit, release, claim, 64 fills, arrive, close, return
abbrev pub moved_itself : List Line
moved_itself = copied_itself ++ times 3 p0 ++ p0_claim 0 ∷ times 67 p0

-- the put fails; abort, retreat, close
abbrev pub failed_itself : List Line
failed_itself = copied_itself ++ times 4 p0
