-- What a round of an evacuator tells, and what it leaves of its seat.
use Rattle.std.specs.Prelude.{◌≡◌, ℕ, ◌+◌, ◌%◌, ◌≤◌, List, [], ◌∷◌, ◌++◌}
use Rattle.object_lock.specs.Seats.{Sizes, with_hand}
use Rattle.object_lock.specs.SeatViews.{SeatView}
use Rattle.object_moves.specs.declared.moved.Moved.{Moved}
use Rattle.object_moves.specs.declared.moved.Moved.TheVariants as M
use Rattle.object_moves.specs.Visits.{LetsLeave, MovesOut, Visit, VisitsLogged, moves_in}
use Rattle.object_moves.specs.Ways.{Did}
use Rattle.evacuator.specs.declared.counts.Round.{Round}

-- how many objects a round marked, or had leave as they were clean
abbrev pub moves_of : Round → ℕ
moves_of r = r.left + r.aborted + r.failed

-- the round that marked one object, or found one clean, of which this became
abbrev pub one_of : Moved → Round
one_of M.Left = record { left = 1; aborted = 0; failed = 0 }
one_of M.Stayed = record { left = 0; aborted = 1; failed = 0 }
one_of M.Failed = record { left = 0; aborted = 0; failed = 1 }

-- the one round and then the other
abbrev pub both : Round → Round → Round
both a b = record { left = a.left + b.left; aborted = a.aborted + b.aborted; failed = a.failed + b.failed }

-- the round of one visit
abbrev pub round_at : Visit → Round
round_at (MovesOut o f r) = one_of r
round_at (LetsLeave f) = one_of M.Left

-- the round of visits
abbrev pub round_in : List Visit → Round
round_in [] = record { left = 0; aborted = 0; failed = 0 }
round_in (x ∷ xs) = both (round_at x) (round_in xs)

-- A round of these counts: by the seat's view each object that left is a commit or left clean, each other one an abort, and all but those that left clean are marks; a
-- call was refused through the port, modulo 2^64, for each that failed. Nothing else of the seat changed but its past and its log, which frame was marked last, what was copied of it, the berth that
-- was taken, and its way to the store
pub record Evacuates {W C : Type 0} (s t : SeatView W C) (r : Round) : Type 0 where
  pub all : t.view.hand.marks + t.view.hand.leaves ≡ s.view.hand.marks + s.view.hand.leaves + moves_of r
  pub left : t.view.hand.commits + t.view.hand.leaves ≡ s.view.hand.commits + s.view.hand.leaves + r.left
  pub leaves : s.view.hand.leaves ≤ t.view.hand.leaves
  pub commits : s.view.hand.commits ≤ t.view.hand.commits
  pub aborts : t.view.hand.aborts ≡ s.view.hand.aborts + (r.aborted + r.failed)
  pub refusals : t.refusals.count ≡ (s.refusals.count + r.failed) % 18446744073709551616
  pub same : t ≡ record s { view = with_hand s.view (record s.view.hand { source = t.view.hand.source; copied = t.view.hand.copied; marks = t.view.hand.marks; commits = t.view.hand.commits; aborts = t.view.hand.aborts; leaves = t.view.hand.leaves; past = t.view.hand.past }); taken = t.taken; store = t.store; refusals = t.refusals; log = t.log }

-- A round of these counts is that of some visits of the seat m of a table of these sizes, and what they did, one behind the other, is what came to what the seat had done before, as its log
-- tells step by step
pub record Visits (z : Sizes) (m : ℕ) (before after : Did) (r : Round) : Type 0 where
  pub visits : List Visit
  pub did : after.past ≡ before.past ++ moves_in visits
  pub logged : VisitsLogged z m visits before.log after.log
  pub counted : round_in visits ≡ r

-- all that the seat m has done is what rounds did, one behind the other; a reliable store refused it no put
abbrev pub HasMadeRounds : Type 0 → Sizes → ℕ → Did → Type 0
HasMadeRounds reliable z m did = (r : Round) × Visits z m (record { past = []; log = [] }) did r × (reliable → r.failed ≡ 0)
