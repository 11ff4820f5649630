-- The events of a hint that is served.
use Rattle.std.proofs.Common.{◌≡◌, ℕ, zero, suc, ◌+◌, ◌<◌, ◌≤◌, Bool, true, false, cond, List, [], ◌∷◌, ◌++◌, Option, Some, None, refl, ap, ◌∙◌, subst, arith}
use Rattle.std.specs.Prelude.{◌==◌}
use Rattle.pointer_word.specs.Asked.{HasNothing}
use Rattle.pointer_word.specs.Legal.{filled_below}
use Rattle.pointer_word.specs.Words.{Away, Coming, counted}
use Rattle.pointer_word.specs.Hands.{Hand, arriving, bringing, claiming, filling, known, retreating, seen, unclaiming}
use Rattle.pointer_word.specs.Machine.{Never, Unknown, after_arrive, after_begin, after_claim, after_fill, after_retreat, after_unclaim}
use Rattle.world_semantics.specs.declared.event.Choice.TheVariants as choice
use Rattle.world_semantics.specs.Fetchers.{Fetching, Bringing, Reading, Filling, Releasing, Retreating}
use Rattle.world_semantics.specs.Turns.{fetcher_turn}
use Rattle.fetcher.specs.Serving.{hand_given_up, hand_released, hand_served}
use Rattle.mover_events.specs.Laws.{DoesByEvents}
use Rattle.mover_events.proofs.Beginning.{Brings, arrives, begins, claims, claims_to_read, fills, gives_up, reads_in_vain, retreats, then_brings, unclaims}
use Rattle.mover_events.proofs.Marking.{there, upd_same}
use Rattle.mover_events.proofs.Visiting.{later_last}

-- k cells filled with 0
abbrev pub pairs : ℕ → List (ℕ × ℕ)
pairs zero = []
pairs (suc k) = pairs k ++ (k, 0) ∷ []

-- the hand of a mover that has filled k cells since its claim
abbrev pub filled_with : Hand → ℕ → Hand
filled_with x k = record x { filled = pairs k }

-- the hand of a mover that has begun an object, of which nothing was ever put, claimed a frame, and filled k cells
abbrev after_fills : Hand → ℕ → ℕ → ℕ → Hand
after_fills x o f k = filled_with (claiming (bringing x o []) f) k

known_at : (b : Bool) (s : Option ℕ) → (b ≡ false → known s ≡ true) → known (cond b (Some 0) s) ≡ true
known_at true s h = refl
known_at false s h = h refl

filled_there : (k i : ℕ) → i < k → known (seen (pairs k) i) ≡ true
filled_there zero i l = absurd (let q : ⊥ = omega arith in q)
filled_there (suc k) i l =
    ap known (later_last None (pairs k) (k, 0) i)
    ∙ known_at (k == i) (seen (pairs k) i) (λ e. filled_there k i (below e))
  where
    below : (k == i) ≡ false → i < k
    below e = grind arith

pub pairs_filled : (x : Hand) (n k : ℕ) → k ≤ n → filled_below k (filled_with x n) ≡ true
pairs_filled x n zero h = refl
pairs_filled x n (suc k) h =
    let there_is : known (seen (pairs n) k) ≡ true = filled_there n k (omega arith) in
    let others : filled_below k (filled_with x n) ≡ true = pairs_filled x n k (omega arith) in
    simp (there_is, others) refl

fills_on : (n m o f : ℕ) (x z : Hand) (e : Option Fetching) (j k : ℕ) → k + j ≡ n → Brings n m (Some (Filling o f [] n)) (after_fills x o f n) e z → Brings n m (Some (Filling o f [] k)) (after_fills x o f k) e z
fills_on n m o f x z e zero k h goes =
    let same : n ≡ k = omega (arith, h) in
    subst (λ i. Brings n m (Some (Filling o f [] i)) (after_fills x o f i) e z) same goes
fills_on n m o f x z e (suc j) k h goes =
    let y = after_fills x o f k in
    let s = there (counted 0 (Coming m)) Never y in
    then_brings n m (Some (Filling o f [] k)) (Some (Filling o f [] (suc k))) e y (after_fills x o f (suc k)) z s (after_fill s m f k 0) choice.Next
    refl (fills n m o f k y (omega (arith, h)) refl) (upd_same s.hand m (filling y k 0)) (fills_on n m o f x z e j (suc k) (omega (arith, h)) goes)

begun_then : (n m o : ℕ) (x z : Hand) → HasNothing x → Brings n m (Some (Bringing o)) (bringing x o []) None z → Brings n m None x None z
begun_then n m o x z h goes =
    let s = there (counted 0 Away) Never x in
    then_brings n m None (Some (Bringing o)) None x (bringing x o []) z s (after_begin s m o) (choice.Begin o) refl (begins n m o x h.0) (upd_same s.hand m (bringing x o [])) goes

pub given_up : (n m o : ℕ) (x : Hand) (words : List ℕ) → HasNothing x → DoesByEvents n m (fetcher_turn n m) x (hand_given_up x o words).past
given_up n m o x words h =
    let y = bringing x o [] in
    let z = retreating y in
    let s = there (counted 0 (Coming m)) Never y in
    let all = begun_then n m o x z h
    (then_brings n m (Some (Bringing o)) None None y z z s (after_retreat s m o) choice.Next refl (gives_up n m o y refl) (upd_same s.hand m z) ([], (refl, refl))) in
    (all.0, z, all.1, (refl, h.1, h.2), refl)

pub released : (n m o f : ℕ) (x : Hand) (words : List ℕ) → HasNothing x → DoesByEvents n m (fetcher_turn n m) x (hand_released x o f words).past
released n m o f x words h =
    let y = bringing x o [] in
    let w = claiming y f in
    let u = unclaiming w in
    let z = retreating u in
    let s = there (counted 0 (Coming m)) Unknown y in
    let reading = there (counted 0 (Coming m)) Unknown w in
    let releasing = there (counted 0 (Coming m)) Never w in
    let leaving = there (counted 0 (Coming m)) Never u in
    let all = begun_then n m o x z h
    (then_brings n m (Some (Bringing o)) (Some (Reading o f)) None y w z s (after_claim s m o f) (choice.Claim f) refl (claims_to_read n m o f y h.2.0) (upd_same s.hand m w)
    (then_brings n m (Some (Reading o f)) (Some (Releasing o f)) None w w z reading reading choice.Next refl (reads_in_vain n m o f w) refl
    (then_brings n m (Some (Releasing o f)) (Some (Retreating o)) None w u z releasing (after_unclaim releasing m f) choice.Next refl (unclaims n m o f w refl) (upd_same releasing.hand m u)
    (then_brings n m (Some (Retreating o)) None None u z z leaving (after_retreat leaving m o) choice.Next refl (retreats n m o u refl) (upd_same leaving.hand m z) ([], (refl, refl)))))) in
    (all.0, z, all.1, (refl, h.1, (refl, h.2.1)), refl)

pub served : (n m o f : ℕ) (x : Hand) (words : List ℕ) (filled : List (ℕ × ℕ)) → HasNothing x → DoesByEvents n m (fetcher_turn n m) x (hand_served x o f words filled).past
served n m o f x words filled h =
    let y = bringing x o [] in
    let w = after_fills x o f n in
    let z = arriving w in
    let s = there (counted 0 (Coming m)) Never y in
    let full = there (counted 0 (Coming m)) Never w in
    let all = begun_then n m o x z h
    (then_brings n m (Some (Bringing o)) (Some (Filling o f [] 0)) None y (after_fills x o f 0) z s (after_claim s m o f) (choice.Claim f) refl (claims n m o f y h.2.0) (upd_same s.hand m (claiming y f))
    (fills_on n m o f x z None n 0 (omega arith)
    (then_brings n m (Some (Filling o f [] n)) None None w z z full (after_arrive full m o f) choice.Next refl (arrives n m o f w refl refl (pairs_filled (claiming (bringing x o []) f) n n (omega arith))) (upd_same full.hand m z) ([], (refl, refl))))) in
    (all.0, z, all.1, (refl, h.1, (refl, h.2.1)), refl)
