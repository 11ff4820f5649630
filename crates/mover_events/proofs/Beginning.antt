-- Single events of a fetcher.
use Rattle.std.proofs.Common.{◌≡◌, ℕ, suc, ◌<◌, true, List, [], ◌∷◌, Option, Some, None, refl, sym, subst, arith}
use Rattle.std.proofs.lemmas.Bool.{eq-eqb, lt-ltb, le-ltb}
use Rattle.pointer_word.specs.Legal.{filled_below}
use Rattle.pointer_word.specs.Words.{Away, Coming, counted}
use Rattle.pointer_word.specs.Hands.{Hand}
use Rattle.pointer_word.specs.Machine.{Never, Unknown, State, after_arrive, after_begin, after_claim, after_fill, after_retreat, after_unclaim}
use Rattle.world_semantics.specs.declared.event.Choice.{Choice}
use Rattle.world_semantics.specs.declared.event.Choice.TheVariants as choice
use Rattle.world_semantics.specs.Fetchers.{Fetching, Bringing, Reading, Filling, Releasing, Retreating}
use Rattle.world_semantics.specs.Turns.{fetcher_turn, taken}
use Rattle.mover_events.specs.Going.{Event, Goes}
use Rattle.mover_events.proofs.Marking.{answers, there}

-- some events of a fetcher lead there
abbrev pub Brings : ℕ → ℕ → Option Fetching → Hand → Option Fetching → Hand → Type 0
Brings n m d x e z = (vs : List Event) × Goes n m (fetcher_turn n m) d x vs e z

-- one event, and then others
pub then_brings : (n m : ℕ) (d c e : Option Fetching) (x y z : Hand) (s t : State) (k : Choice) →
    s.hand m ≡ x → taken n s (fetcher_turn n m d k (answers true)) ≡ Some (t, c) → t.hand m ≡ y → Brings n m c y e z → Brings n m d x e z
then_brings n m d c e x y z s t k at does hand rest =
    (record { state = s; choice = k; answer = answers true } ∷ rest.0, (at, (t, c, does, subst (λ h. Goes n m (fetcher_turn n m) c h rest.0 e z) (sym hand) rest.1)))

-- an object that is away with no hold is begun
pub begins : (n m o : ℕ) (x : Hand) → x.bringing ≡ None → let s : State = there (counted 0 Away) Never x in
    taken n s (fetcher_turn n m None (choice.Begin o) (answers true)) ≡ Some (after_begin s m o, Some (Bringing o))
begins n m o x h = simp (h, eq-eqb m m refl, eq-eqb o o refl) refl

-- a frame that is free is claimed, for an object of which nothing was ever put, or something
pub claims : (n m o f : ℕ) (x : Hand) → x.claimed ≡ None → let s : State = there (counted 0 (Coming m)) Never x in
    taken n s (fetcher_turn n m (Some (Bringing o)) (choice.Claim f) (answers true)) ≡ Some (after_claim s m o f, Some (Filling o f [] 0))
claims n m o f x h = simp (h, eq-eqb m m refl, eq-eqb f f refl) refl

pub claims_to_read : (n m o f : ℕ) (x : Hand) → x.claimed ≡ None → let s : State = there (counted 0 (Coming m)) Unknown x in
    taken n s (fetcher_turn n m (Some (Bringing o)) (choice.Claim f) (answers true)) ≡ Some (after_claim s m o f, Some (Reading o f))
claims_to_read n m o f x h = simp (h, eq-eqb m m refl, eq-eqb f f refl) refl

-- the read fails
pub reads_in_vain : (n m o f : ℕ) (x : Hand) → let s : State = there (counted 0 (Coming m)) Unknown x in
    taken n s (fetcher_turn n m (Some (Reading o f)) choice.Next (answers true)) ≡ Some (s, Some (Releasing o f))
reads_in_vain n m o f x = refl

-- the next cell is filled
pub fills : (n m o f k : ℕ) (x : Hand) → k < n → x.claimed ≡ Some f → let s : State = there (counted 0 (Coming m)) Never x in
    taken n s (fetcher_turn n m (Some (Filling o f [] k)) choice.Next (answers true)) ≡ Some (after_fill s m f k 0, Some (Filling o f [] (suc k)))
fills n m o f k x l h = simp (lt-ltb k n l, h, eq-eqb f f refl) refl

-- with all cells filled it arrives
pub arrives : (n m o f : ℕ) (x : Hand) → x.bringing ≡ Some o → x.claimed ≡ Some f → filled_below n x ≡ true → let s : State = there (counted 0 (Coming m)) Never x in
    taken n s (fetcher_turn n m (Some (Filling o f [] n)) choice.Next (answers true)) ≡ Some (after_arrive s m o f, None)
arrives n m o f x b c a = simp (le-ltb n n (omega arith), b, c, a, eq-eqb f f refl, eq-eqb o o refl) refl

-- the frame is given up, and then the object
pub unclaims : (n m o f : ℕ) (x : Hand) → x.claimed ≡ Some f → let s : State = there (counted 0 (Coming m)) Never x in
    taken n s (fetcher_turn n m (Some (Releasing o f)) choice.Next (answers true)) ≡ Some (after_unclaim s m f, Some (Retreating o))
unclaims n m o f x h = simp (h, eq-eqb f f refl) refl

pub retreats : (n m o : ℕ) (x : Hand) → x.bringing ≡ Some o → let s : State = there (counted 0 (Coming m)) Never x in
    taken n s (fetcher_turn n m (Some (Retreating o)) choice.Next (answers true)) ≡ Some (after_retreat s m o, None)
retreats n m o x h = simp (h, eq-eqb o o refl) refl

-- no frame is claimed
pub gives_up : (n m o : ℕ) (x : Hand) → x.bringing ≡ Some o → let s : State = there (counted 0 (Coming m)) Never x in
    taken n s (fetcher_turn n m (Some (Bringing o)) choice.Next (answers true)) ≡ Some (after_retreat s m o, None)
gives_up n m o x h = simp (h, eq-eqb o o refl) refl
