-- What a mover does in events of a world.
use Rattle.std.specs.Prelude.{◌≡◌, ℕ, List, [], ◌∷◌, Some}
use Rattle.pointer_word.specs.Hands.{Hand}
use Rattle.pointer_word.specs.Machine.{State}
use Rattle.world_semantics.specs.declared.event.Choice.{Choice}
use Rattle.world_semantics.specs.Turns.{Answer, Turn, taken}

-- an event of an actor: the state of the lock's machine in which it comes, what the actor chooses, and what nobody can know before
pub record Event : Type 0 where
  pub state : State
  pub choice : Choice
  pub answer : Answer

-- By these events an actor, the mover m of pieces of n cells, whose turns are these, goes from being d with the hand x to being e with the hand y. Each event is one that it may
-- do at the state in which it comes, where it has in hand what the event before left; what others do in between is not told
abbrev pub Goes : {A : Type 0} → ℕ → ℕ → (A → Choice → Answer → Turn A) → A → Hand → List Event → A → Hand → Type 0
Goes n m turn d x [] e y = (e ≡ d) × (y ≡ x)
Goes {A} n m turn d x (v ∷ vs) e y =
    (v.state.hand m ≡ x) × ((t : State) × (c : A) × (taken n v.state (turn d v.choice v.answer) ≡ Some (t, c)) × Goes n m turn c (t.hand m) vs e y)
