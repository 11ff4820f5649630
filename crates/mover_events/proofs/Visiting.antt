-- The events of visits, one behind the other.
use Rattle.std.proofs.Common.{◌≡◌, ℕ, zero, suc, ◌+◌, ◌<◌, ◌≤◌, Bool, true, false, cond, List, [], ◌∷◌, ◌++◌, append_assoc, length, length-append, Option, Some, None, slice_index_or, refl, sym, ap, ◌∙◌, subst, arith}
use Rattle.std.specs.Prelude.{◌==◌}
use Rattle.pointer_word.specs.Asked.{HasNothing}
use Rattle.pointer_word.specs.Legal.{copied_below}
use Rattle.pointer_word.specs.Words.{Away, Here, Leaving, counted}
use Rattle.pointer_word.specs.Hands.{Hand, Move, aborting, committing, copying, later, leaving, listed, marking, releasing, seen}
use Rattle.pointer_word.specs.Machine.{Kept, Never, Unknown, after_abort, after_commit, after_copy, after_leave, after_mark, after_put, after_release}
use Rattle.object_moves.specs.declared.moved.Moved.TheVariants as M
use Rattle.world_semantics.specs.declared.event.Choice.TheVariants as choice
use Rattle.world_semantics.specs.Turns.{evacuator_turn}
use Rattle.world_semantics.specs.Programs.{Copying, Eviction, Freed, NotStored, Refused, Stored}
use Rattle.object_lock.specs.Seats.{Sizes}
use Rattle.object_moves.specs.Ways.{Did}
use Rattle.object_moves.specs.Visits.{LetsLeave, MovesOut, Visit, moves_at, moves_in}
use Rattle.evacuator.specs.declared.counts.Round.{Round}
use Rattle.evacuator.specs.Rounds.{Visits}
use Rattle.mover_events.specs.Laws.{DoesByEvents}
use Rattle.mover_events.proofs.Marking.{Reaches, aborts, aborts_unstored, and_then, commits, commits_in_vain, copies, leaves, marks, puts, puts_in_vain, releases, there, upd_same}

-- ---- what is copied: k cells that hold 0

abbrev pub zeros : ℕ → List ℕ
zeros zero = []
zeros (suc k) = zeros k ++ 0 ∷ []

pub long : (k : ℕ) → length (zeros k) ≡ k
long zero = refl
long (suc k) = omega (arith, length-append (zeros k) (0 ∷ []), long k)

abbrev pub pairs : ℕ → List (ℕ × ℕ)
pairs zero = []
pairs (suc k) = pairs k ++ (length (zeros k), 0) ∷ []

-- the hand of a mover that has marked an object and copied k cells
abbrev pub after_copies : Hand → ℕ → ℕ → ℕ → Hand
after_copies x o f k = record (marking x o f) { copied = pairs k }

zero_behind : (xs : List ℕ) (i : ℕ) → slice_index_or xs i 0 ≡ 0 → slice_index_or (xs ++ 0 ∷ []) i 0 ≡ 0
zero_behind [] zero h = refl
zero_behind [] (suc i) h = refl
zero_behind (x ∷ xs) zero h = h
zero_behind (x ∷ xs) (suc i) h = zero_behind xs i h

all_zero : (k i : ℕ) → listed (zeros k) i ≡ 0
all_zero zero i = refl
all_zero (suc k) i = zero_behind (zeros k) i (all_zero k i)

pub later_last : (d : Option ℕ) (ps : List (ℕ × ℕ)) (p : ℕ × ℕ) (i : ℕ) → later d (ps ++ p ∷ []) i ≡ cond (p.0 == i) (Some p.1) (later d ps i)
later_last d [] p i = refl
later_last d (q ∷ ps) p i = later_last (cond (q.0 == i) (Some q.1) d) ps p i

told_at : (b : Bool) (s : Option ℕ) → (b ≡ false → s ≡ Some 0) → cond b (Some 0) s ≡ Some 0
told_at true s h = refl
told_at false s h = h refl

copied_there : (k i : ℕ) → i < k → seen (pairs k) i ≡ Some 0
copied_there zero i l = absurd (let q : ⊥ = omega arith in q)
copied_there (suc k) i l =
    later_last None (pairs k) (length (zeros k), 0) i
    ∙ told_at (length (zeros k) == i) (seen (pairs k) i) (λ e. copied_there k i (below e))
  where
    below : (length (zeros k) == i) ≡ false → i < k
    below e = grind (arith, long k)

pub all_copied : (x : Hand) (o f n k : ℕ) → k ≤ n → copied_below k (after_copies x o f n) (zeros n) ≡ true
all_copied x o f n zero h = refl
all_copied x o f n (suc k) h =
    let told : seen (pairs n) k ≡ Some 0 = copied_there n k (omega arith) in
    let is : listed (zeros n) k ≡ 0 = all_zero n k in
    let others : copied_below k (after_copies x o f n) (zeros n) ≡ true = all_copied x o f n k (omega arith) in
    simp (told, is, others) refl

-- from k copies on to n
copies_on : (n m o f : ℕ) (x z : Hand) (e : Option Eviction) (j k : ℕ) → k + j ≡ n → Reaches n m (Some (Copying o f (zeros n))) (after_copies x o f n) e z → Reaches n m (Some (Copying o f (zeros k))) (after_copies x o f k) e z
copies_on n m o f x z e zero k h goes =
    let same : n ≡ k = omega (arith, h) in
    subst (λ i. Reaches n m (Some (Copying o f (zeros i))) (after_copies x o f i) e z) same goes
copies_on n m o f x z e (suc j) k h goes =
    let y = after_copies x o f k in
    let s = there (counted 0 (Leaving f m true)) Never y in
    and_then n m (Some (Copying o f (zeros k))) (Some (Copying o f (zeros (suc k)))) e y (after_copies x o f (suc k)) z s (after_copy s m f (length (zeros k))) choice.Next true
    refl (copies n m o f y (zeros k) (omega (arith, h, long k)) refl refl) (upd_same s.hand m (copying y (length (zeros k)) 0)) (copies_on n m o f x z e j (suc k) (omega (arith, h)) goes)

-- ---- visits

-- the hand behind a visit, of pieces of n cells
abbrev hand_behind : ℕ → Hand → Visit → Hand
hand_behind n x (MovesOut o f M.Left) = releasing (committing (after_copies x o f n) f)
hand_behind n x (MovesOut o f M.Stayed) = aborting (after_copies x o f n)
hand_behind n x (MovesOut o f M.Failed) = aborting (after_copies x o f n)
hand_behind n x (LetsLeave f) = releasing (leaving x f)

still_nothing : (n : ℕ) (x : Hand) (w : Visit) → HasNothing x → HasNothing (hand_behind n x w)
still_nothing n x (MovesOut o f M.Left) h = (h.0, refl, (h.2.0, refl))
still_nothing n x (MovesOut o f M.Stayed) h = (h.0, refl, h.2)
still_nothing n x (MovesOut o f M.Failed) h = (h.0, refl, h.2)
still_nothing n x (LetsLeave f) h = (h.0, h.1, (h.2.0, refl))

past_behind : (n : ℕ) (x : Hand) (w : Visit) → (hand_behind n x w).past ≡ x.past ++ moves_at w
past_behind n x (MovesOut o f M.Left) = append_assoc (x.past ++ _) _ _ ∙ append_assoc x.past _ _
past_behind n x (MovesOut o f M.Stayed) = append_assoc x.past _ _
past_behind n x (MovesOut o f M.Failed) = append_assoc x.past _ _
past_behind n x (LetsLeave f) = append_assoc x.past _ _

-- the mark of an object, and the copies, before what comes then
marked_then : (n m o f : ℕ) (x z : Hand) → HasNothing x → Reaches n m (Some (Copying o f (zeros n))) (after_copies x o f n) None z → Reaches n m None x None z
marked_then n m o f x z h goes =
    let s = there (counted 0 (Here f false)) Never x in
    and_then n m None (Some (Copying o f [])) None x (after_copies x o f 0) z s (after_mark s m o f) (choice.Mark o f) true
    refl (marks n m o f x h.1) (upd_same s.hand m (marking x o f)) (copies_on n m o f x z None n 0 (omega arith) goes)

left_then : (n m o f : ℕ) (x z : Hand) → HasNothing x → Reaches n m None (hand_behind n x (MovesOut o f M.Left)) None z → Reaches n m None x None z
left_then n m o f x z h goes =
    let y = after_copies x o f n in
    let stored = there (counted 0 (Leaving f m true)) Never y in
    let kept = there (counted 0 (Leaving f m true)) (Kept (zeros n)) y in
    let freed = there (counted 0 Away) Never (committing y f) in
    marked_then n m o f x z h
    (and_then n m (Some (Copying o f (zeros n))) (Some (Stored o f)) None y y z stored (after_put stored o (Kept (zeros n))) choice.Next true
    refl (puts n m o f y (zeros n) (long n) refl) refl
    (and_then n m (Some (Stored o f)) (Some (Freed f)) None y (committing y f) z kept (after_commit kept m o f) choice.Next true
    refl (commits n m o f y (zeros n) refl refl h.2.1 (all_copied x o f n n (omega arith))) (upd_same kept.hand m (committing y f))
    (and_then n m (Some (Freed f)) None None (committing y f) (releasing (committing y f)) z freed (after_release freed m f) choice.Next true
    refl (releases n m f (committing y f) refl) (upd_same freed.hand m (releasing (committing y f))) goes)))

stayed_then : (n m o f : ℕ) (x z : Hand) → HasNothing x → Reaches n m None (hand_behind n x (MovesOut o f M.Stayed)) None z → Reaches n m None x None z
stayed_then n m o f x z h goes =
    let y = after_copies x o f n in
    let stored = there (counted 0 (Leaving f m true)) Never y in
    let used = there (counted 1 Away) (Kept (zeros n)) y in
    marked_then n m o f x z h
    (and_then n m (Some (Copying o f (zeros n))) (Some (Stored o f)) None y y z stored (after_put stored o (Kept (zeros n))) choice.Next true
    refl (puts n m o f y (zeros n) (long n) refl) refl
    (and_then n m (Some (Stored o f)) (Some (Refused o f)) None y y z used used choice.Next true
    refl (commits_in_vain n m o f y (zeros n) refl refl h.2.1 (all_copied x o f n n (omega arith))) refl
    (and_then n m (Some (Refused o f)) None None y (aborting y) z stored (after_abort stored m o f) choice.Next true
    refl (aborts n m o f y refl refl) (upd_same stored.hand m (aborting y)) goes)))

failed_then : (n m o f : ℕ) (x z : Hand) → HasNothing x → Reaches n m None (hand_behind n x (MovesOut o f M.Failed)) None z → Reaches n m None x None z
failed_then n m o f x z h goes =
    let y = after_copies x o f n in
    let stored = there (counted 0 (Leaving f m true)) Never y in
    marked_then n m o f x z h
    (and_then n m (Some (Copying o f (zeros n))) (Some (NotStored o f)) None y y z stored (after_put stored o Unknown) choice.Next false
    refl (puts_in_vain n m o f y (zeros n) (long n) refl) refl
    (and_then n m (Some (NotStored o f)) None None y (aborting y) z stored (after_abort stored m o f) choice.Next true
    refl (aborts_unstored n m o f y refl refl) (upd_same stored.hand m (aborting y)) goes))

clean_then : (n m f : ℕ) (x z : Hand) → HasNothing x → Reaches n m None (hand_behind n x (LetsLeave f)) None z → Reaches n m None x None z
clean_then n m f x z h goes =
    let clean = there (counted 0 (Here f true)) Never x in
    let freed = there (counted 0 Away) Never (leaving x f) in
    and_then n m None (Some (Freed f)) None x (leaving x f) z clean (after_leave clean m 0 f) (choice.Leave 0 f) true
    refl (leaves n m 0 f x h.2.1) (upd_same clean.hand m (leaving x f))
    (and_then n m (Some (Freed f)) None None (leaving x f) (releasing (leaving x f)) z freed (after_release freed m f) choice.Next true
    refl (releases n m f (leaving x f) refl) (upd_same freed.hand m (releasing (leaving x f))) goes)

visit_then : (n m : ℕ) (x z : Hand) (w : Visit) → HasNothing x → Reaches n m None (hand_behind n x w) None z → Reaches n m None x None z
visit_then n m x z (MovesOut o f M.Left) h goes = left_then n m o f x z h goes
visit_then n m x z (MovesOut o f M.Stayed) h goes = stayed_then n m o f x z h goes
visit_then n m x z (MovesOut o f M.Failed) h goes = failed_then n m o f x z h goes
visit_then n m x z (LetsLeave f) h goes = clean_then n m f x z h goes

nothing_more : (ms : List Move) → ms ≡ ms ++ []
nothing_more [] = refl
nothing_more (m ∷ ms) = ap (λ l. m ∷ l) (nothing_more ms)

all_visits : (n m : ℕ) (x : Hand) (ws : List Visit) → HasNothing x → DoesByEvents n m (evacuator_turn n m) x (x.past ++ moves_in ws)
all_visits n m x [] h = ([], x, (refl, refl), h, nothing_more x.past)
all_visits n m x (w ∷ ws) h =
    let rest = all_visits n m (hand_behind n x w) ws (still_nothing n x w h) in
    let first = visit_then n m x rest.1 w h (rest.0, rest.2) in
    (first.0, rest.1, first.1, rest.3, rest.4 ∙ ap (λ ms. ms ++ moves_in ws) (past_behind n x w) ∙ append_assoc x.past (moves_at w) (moves_in ws))

pub by_rounds : (z : Sizes) (m : ℕ) (x : Hand) (before after : Did) (r : Round) → HasNothing x → before.past ≡ x.past → Visits z m before after r → DoesByEvents z.cells m (evacuator_turn z.cells m) x after.past
by_rounds z m x before after r h e v =
    let all = all_visits z.cells m x v.visits h in
    (all.0, all.1, all.2, all.3, all.4 ∙ sym (v.did ∙ ap (λ (ms : List Move). ms ++ moves_in v.visits) e))
