-- What movers did on threads is what their actors do in events.
use Rattle.std.specs.Prelude.{◌≡◌, ℕ, List, Option, None}
use Rattle.pointer_word.specs.Asked.{HasNothing}
use Rattle.pointer_word.specs.Hands.{Hand, Move, empty_handed}
use Rattle.world_semantics.specs.declared.event.Choice.{Choice}
use Rattle.world_semantics.specs.Turns.{Answer, Turn, evacuator_turn, fetcher_turn}
use Rattle.object_lock.specs.Seats.{Sizes}
use Rattle.object_moves.specs.Ways.{Did}
use Rattle.evacuator.specs.declared.counts.Round.{Round}
use Rattle.evacuator.specs.Rounds.{HasMadeRounds, Visits}
use Rattle.fetcher.specs.Serving.{HasServed, hand_given_up, hand_released, hand_served}
use Rattle.mover_events.specs.Going.{Event, Goes}

-- an idle actor with nothing in hand comes to this past by some events, and is idle with nothing in hand then
abbrev pub DoesByEvents : {B : Type 0} → ℕ → ℕ → (Option B → Choice → Answer → Turn (Option B)) → Hand → List Move → Type 0
DoesByEvents n m turn x after = (vs : List Event) × (y : Hand) × Goes n m turn None x vs None y × HasNothing y × (y.past ≡ after)

-- so does an evacuator of a table of these sizes what it did by a round
abbrev pub RoundsAreEvents : Type 0
RoundsAreEvents = (z : Sizes) (m : ℕ) (x : Hand) (before after : Did) (r : Round) → HasNothing x → before.past ≡ x.past → Visits z m before after r → DoesByEvents z.cells m (evacuator_turn z.cells m) x after.past

-- so does a fetcher what it did with a hint of the object o: it gave the object up, or the object and a frame, or brought it in
abbrev pub ServesAreEvents : Type 0
ServesAreEvents = (n m o f : ℕ) (x : Hand) (words : List ℕ) (filled : List (ℕ × ℕ)) → HasNothing x →
    DoesByEvents n m (fetcher_turn n m) x (hand_given_up x o words).past
    × DoesByEvents n m (fetcher_turn n m) x (hand_released x o f words).past
    × DoesByEvents n m (fetcher_turn n m) x (hand_served x o f words filled).past

-- so does an evacuator all that it did by its rounds, and a fetcher all that it did with hints, from its beginning on, where it had nothing in hand and had done nothing
abbrev pub LivesAreEvents : Type 0 → Type 0
LivesAreEvents reliable = (z : Sizes) (m : ℕ) (did : Did) →
    (HasMadeRounds reliable z m did → DoesByEvents z.cells m (evacuator_turn z.cells m) empty_handed did.past)
    × (HasServed reliable z m did → DoesByEvents z.cells m (fetcher_turn z.cells m) empty_handed did.past)
