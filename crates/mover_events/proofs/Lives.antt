-- The events of all rounds, and of all hints that are served, one behind the other.
use Rattle.std.proofs.Common.{ℕ, List, [], ◌∷◌, ◌++◌, append_assoc, append-nil, Option, None, refl, sym, ap, ◌∙◌, subst}
use Rattle.pointer_word.specs.Asked.{HasNothing}
use Rattle.pointer_word.specs.Hands.{Hand, Move, empty_handed}
use Rattle.world_semantics.specs.declared.event.Choice.{Choice}
use Rattle.world_semantics.specs.Turns.{Answer, Turn, evacuator_turn, fetcher_turn}
use Rattle.object_lock.specs.Seats.{Sizes}
use Rattle.object_moves.specs.Ways.{Did}
use Rattle.evacuator.specs.Rounds.{HasMadeRounds}
use Rattle.fetcher.proofs.Services.{past_given_up, past_released, past_served}
use Rattle.fetcher.specs.Serving.{BringsTo, GivesUp, HasServed, ReadsNothing, Service, moves_for, moves_serving}
use Rattle.mover_events.specs.Going.{Event, Goes}
use Rattle.mover_events.specs.Laws.{DoesByEvents}
use Rattle.mover_events.proofs.Serving.{given_up, released, served}
use Rattle.mover_events.proofs.Visiting.{by_rounds}

-- some events, and then others
goes_on : {A : Type 0} (n m : ℕ) (turn : A → Choice → Answer → Turn A) (d c e : A) (x y z : Hand) (vs ws : List Event) → Goes n m turn d x vs c y → Goes n m turn c y ws e z → Goes n m turn d x (vs ++ ws) e z
goes_on n m turn d c e x y z [] ws first then =
    subst (λ b. Goes n m turn b x ws e z) first.0 (subst (λ h. Goes n m turn c h ws e z) first.1 then)
goes_on n m turn d c e x y z (v ∷ vs) ws first then =
    let at = first.1 in
    (first.0, (at.0, at.1, at.2, goes_on n m turn at.1 c e (at.0.hand m) y z vs ws at.3 then))

-- what was done first, and then more
does_on : {B : Type 0} (n m : ℕ) (turn : Option B → Choice → Answer → Turn (Option B)) (x : Hand) (between after : List Move) (first : DoesByEvents n m turn x between) → DoesByEvents n m turn first.1 after → DoesByEvents n m turn x after
does_on n m turn x between after first then =
    (first.0 ++ then.0, then.1, goes_on n m turn None None None x first.1 then.1 first.0 then.0 first.2 then.2, then.3, then.4)

pub all_rounds : (reliable : Type 0) (z : Sizes) (m : ℕ) (did : Did) → HasMadeRounds reliable z m did → DoesByEvents z.cells m (evacuator_turn z.cells m) empty_handed did.past
all_rounds reliable z m did made = by_rounds z m empty_handed (record { past = []; log = [] }) did made.0 (refl, refl, (refl, refl)) refl made.1

service : (n m : ℕ) (x : Hand) (w : Service) → HasNothing x → DoesByEvents n m (fetcher_turn n m) x (x.past ++ moves_for w)
service n m x (GivesUp o) h = subst (λ ms. DoesByEvents n m (fetcher_turn n m) x ms) (past_given_up x o []) (given_up n m o x [] h)
service n m x (ReadsNothing o f) h = subst (λ ms. DoesByEvents n m (fetcher_turn n m) x ms) (past_released x o f []) (released n m o f x [] h)
service n m x (BringsTo o f) h = subst (λ ms. DoesByEvents n m (fetcher_turn n m) x ms) (past_served x o f [] []) (served n m o f x [] [] h)

services : (n m : ℕ) (x : Hand) (ws : List Service) → HasNothing x → DoesByEvents n m (fetcher_turn n m) x (x.past ++ moves_serving ws)
services n m x [] h = ([], x, (refl, refl), h, sym (append-nil x.past))
services n m x (w ∷ ws) h =
    let first = service n m x w h in
    let rest = services n m first.1 ws first.3 in
    let all = does_on n m (fetcher_turn n m) x (x.past ++ moves_for w) (first.1.past ++ moves_serving ws) first rest in
    subst (λ ms. DoesByEvents n m (fetcher_turn n m) x ms) (ap (λ ms. ms ++ moves_serving ws) first.4 ∙ append_assoc x.past (moves_for w) (moves_serving ws)) all

pub all_served : (reliable : Type 0) (z : Sizes) (m : ℕ) (did : Did) → HasServed reliable z m did → DoesByEvents z.cells m (fetcher_turn z.cells m) empty_handed did.past
all_served reliable z m did done = let n = z.cells in subst (λ ms. DoesByEvents n m (fetcher_turn n m) empty_handed ms) (sym done.1) (services n m empty_handed done.0 (refl, refl, (refl, refl)))
