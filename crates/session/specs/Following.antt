-- What the calls of all seats say of a session.
use Rattle.std.specs.Prelude.{◌≡◌, ℕ, List}
use Rattle.pointer_word.specs.Calls.{Call, stored}
use Rattle.object_lock.specs.Plays.{IsPart}
use Rattle.object_lock.specs.Seats.{Owns}
use Rattle.session.specs.State.{IsAt, State, stores_in}

-- where a session is at its code's run, and its part of these calls is what its seat did, they store in each object of its own just what that run stored, in its order
abbrev pub StoresAreItsCodes : Type 0
StoresAreItsCodes = (s : State) (calls : List Call) → IsAt s → IsPart s.view calls → (o : ℕ) → Owns s.view o → stored o calls ≡ stores_in s.view.sizes.cells s.image s.view.low s.completed o
