-- What a session did, as turns of its program at the machines of the one list of its table's steps.
use Rattle.std.specs.Prelude.{◌≡◌, ◌≢◌, ℕ, suc, ◌<◌, ◌≤◌, List, [], ◌∷◌, Option, Some, None}
use Rattle.cells.specs.declared.ending.Run.{Run}
use Rattle.cells.specs.declared.ending.Run.TheVariants.{Wanted}
use Rattle.cells.specs.declared.ending.Want.TheVariants.{OutOfMemory, StoreFailed}
use Rattle.code_form.specs.Form.{Image}
use Rattle.code_form.specs.declared.touch.Touch.TheVariants.{Ends}
use Rattle.pointer_word.specs.Calls.{Runs}
use Rattle.pointer_word.specs.Machine.{State, opening}
use Rattle.pointer_word.specs.Sound.{Inv}
use Rattle.object_lock.specs.Logs.{AreOwn, AreOwners, Deed, Follows, act_all, calls_of, log_of}
use Rattle.object_lock.specs.Seats.{Owns, Sizes, View}
use Rattle.session.specs.Performing.{Acts}
use Rattle.session.specs.State.{Logged, next_touch}
use Rattle.program_run.specs.Acting.{IsUnused, session_begun}
use Rattle.world_semantics.specs.Programs.{Program, Setting, begun}
use Rattle.world_semantics.specs.Turns.{Answer, program_turn, taken}
use Rattle.world_semantics.specs.Worlds.{ReadsHonestly}
use Rattle.world_semantics.specs.declared.event.Choice.TheVariants as choice
use Rattle.mover_events.specs.Making.{MakesStep}
use Rattle.mover_events.specs.Parts.{kept_at}
use Rattle.session_events.specs.Knowing.{Fits, Known, learned}
use Rattle.session_events.specs.Laws.{program_of, setting_of, unused}

-- by one turn that leaves the machine, which it may take at every sound one that fits what its seat knows, and at which the store is not read, the program p goes on as q
abbrev pub Waits : Type 0 → Setting → Known → Program → Program → Type 0
Waits honest g k p q = (w : Answer) × (w.read ≡ None) × ((x : State) → Inv honest g.size x → Fits g k x → taken g.size x (program_turn g x p choice.Next w) ≡ Some (x, q))

-- it goes on by such turns, one behind the other
abbrev pub WaitsOn : Type 0 → Setting → Known → Program → List Program → Program → Type 0
WaitsOn honest g k p [] q = q ≡ p
WaitsOn honest g k p (c ∷ cs) q = Waits honest g k p c × WaitsOn honest g k c cs q

-- what an honest store may give a program where it reads
abbrev pub reads_of : Setting → State → Program → Option (List ℕ) → Type 0
reads_of g x p r = ReadsHonestly g.size x p.mode r

-- the program makes a step at a machine of a table of these sizes, by turns of its own
abbrev pub MakesOne : Type 0 → Sizes → Setting → Program → State → Deed → Program → Type 0
MakesOne reliable z g p x d q = MakesStep z (program_turn g) (reads_of g) reliable p x d q

-- By turns of its own the program p, whose seat knows k, makes these steps, each at its machine, and is q then. Between them it takes turns without a call, which hang on nothing but what its seat
-- knows: what the step before left of that
abbrev pub MakesOwn : Type 0 → Type 0 → Sizes → Setting → Known → Program → List (State × Deed) → Program → Type 0
MakesOwn reliable honest z g k p [] q = (cs : List Program) × WaitsOn honest g k p cs q
MakesOwn reliable honest z g k p (s ∷ ss) q =
    (cs : List Program) × (c : Program) × (e : Program) × WaitsOn honest g k p cs c × MakesOne reliable z g c s.0 s.1 e × MakesOwn reliable honest z g (learned g (act_all s.0 s.1.calls)) e ss q

-- Where all that a seat did is what its session did from its beginning on, over an honest store, the program of a world makes the seat's steps of the one list, each at the machine in which it came, and comes to where
-- the session is. Left out are a session that wants the store, as a call of it was refused, which a reliable store never does; and one that wants memory for the text of an error, where it keeps its holds, which the program of a world shuts before it stops
abbrev pub SessionsAreInTheList : Type 0 → Type 0 → Type 0
SessionsAreInTheList honest reliable = (owner : ℕ → ℕ) (j : ℕ) (steps : List (ℕ × Deed)) (t : State) (C : Image) (v : View) (s : Logged) (r : Run) → honest → v.sizes.frames ≤ 1048576 → suc j < 65536
    → v.number ≡ suc j → IsUnused v → ((o : ℕ) → Owns v o → owner o ≡ j) → Follows v.sizes opening steps t → Runs honest v.sizes.cells opening (calls_of steps) t → AreOwn v.sizes steps → AreOwners owner steps
    → Acts honest reliable (session_begun s.state.table C v) s r → r ≢ Wanted StoreFailed → (r ≡ Wanted OutOfMemory → next_touch s.state ≢ Ends) → s.log ≡ log_of j steps
    → MakesOwn reliable honest v.sizes (setting_of (session_begun s.state.table C v).state) unused (begun C) (kept_at j opening steps) (program_of s.state)
