-- Visits of a round, one behind the other.
use Rattle.std.proofs.Common.{◌≡◌, ℕ, ◌<◌, true, List, [], ◌∷◌, ◌++◌, append_assoc, refl, sym, ap, ◌∙◌, arith}
use Rattle.object_moves.specs.Moving.{hand_after}
use Rattle.object_lock.specs.Seats.{Sizes}
use Rattle.object_lock.specs.Logs.{Deed}
use Rattle.object_moves.specs.Deeds.{LeavesLogged}
use Rattle.object_moves.specs.Visits.{AreServed, LetsLeave, MovesOut, Visit, VisitLogged}
use Rattle.object_moves.specs.Ways.{Did}
use Rattle.object_moves.specs.declared.moved.Moved.{Moved}
use Rattle.object_moves.specs.declared.moved.Moved.TheVariants as M
use Rattle.object_moves.proofs.Visiting.{logged_both, logged_once, moved_past, nothing_more, then_more}
use Rattle.pointer_word.specs.Hands.{Hand, Move, leaving, marking, releasing}
use Rattle.evacuator.specs.declared.counts.Round.{Round}
use Rattle.evacuator.specs.Rounds.{HasMadeRounds, Visits, both, moves_of, round_at, round_in}

abbrev counts : ℕ → ℕ → ℕ → Round
counts a b c = record { left = a; aborted = b; failed = c }

same_counts : (a b c d e f : ℕ) → a ≡ d → b ≡ e → c ≡ f → counts a b c ≡ counts d e f
same_counts a b c d e f x y z = ap (λ n. counts n b c) x ∙ ap (λ n. counts d n c) y ∙ ap (counts d e) z

pub nothing_counted : (r : Round) → moves_of r ≡ 0 → round_in [] ≡ r
nothing_counted r h = same_counts 0 0 0 r.left r.aborted r.failed (omega arith) (omega arith) (omega arith)

both_first : (r : Round) → both (round_in []) r ≡ r
both_first r = same_counts _ _ _ r.left r.aborted r.failed (omega arith) (omega arith) (omega arith)

both_in_order : (a b c : Round) → both (both a b) c ≡ both a (both b c)
both_in_order a b c = same_counts _ _ _ _ _ _ (omega arith) (omega arith) (omega arith)

pub one_counted : (x : Visit) → round_in (x ∷ []) ≡ round_at x
one_counted x = same_counts _ _ _ (round_at x).left (round_at x).aborted (round_at x).failed (omega arith) (omega arith) (omega arith)

pub rounds_in_order : (xs ys : List Visit) → round_in (xs ++ ys) ≡ both (round_in xs) (round_in ys)
rounds_in_order [] ys = sym (both_first (round_in ys))
rounds_in_order (x ∷ xs) ys = ap (both (round_at x)) (rounds_in_order xs ys) ∙ sym (both_in_order (round_at x) (round_in xs) (round_in ys))

pub visits_none : (z : Sizes) (m : ℕ) (before after : Did) (r : Round) → after ≡ before → moves_of r ≡ 0 → Visits z m before after r
visits_none z m before after r e h = record { visits = []; did = ap (λ (d : Did). d.past) e ∙ nothing_more before.past; logged = ap (λ (d : Did). d.log) e; counted = nothing_counted r h }

pub visits_both : (z : Sizes) (m : ℕ) (before between after : Did) (a b : Round) → Visits z m before between a → Visits z m between after b → Visits z m before after (both a b)
visits_both z m before between after a b x y = record {
  visits = x.visits ++ y.visits;
  did = then_more before.past between.past after.past x.visits y.visits x.did y.did;
  logged = logged_both z m x.visits y.visits before.log between.log after.log x.logged y.logged;
  counted = rounds_in_order x.visits y.visits ∙ ap (λ r. both r (round_in y.visits)) x.counted ∙ ap (both a) y.counted;
}

-- the object that was clean in the frame f left it
pub visits_clean : (z : Sizes) (m : ℕ) (x : Hand) (old new : List Deed) (after : List Move) (o f : ℕ) → after ≡ (releasing (leaving x f)).past → o < z.objects → f < z.frames → LeavesLogged z m o f true old new
    → Visits z m (record { past = x.past; log = old }) (record { past = after; log = new }) (round_at (LetsLeave f))
visits_clean z m x old new after o f e near low l =
    record { visits = LetsLeave f ∷ []; did = e ∙ append_assoc x.past _ _; logged = logged_once z m (LetsLeave f) old new (o, near, low, l); counted = one_counted (LetsLeave f) }

-- the object o was marked in the frame f, and this became of it
pub visits_marked : (z : Sizes) (m : ℕ) (x y : Hand) (old new : List Deed) (o f : ℕ) (r : Moved) (ps : List (ℕ × ℕ)) → y ≡ hand_after r (marking x o f) ps → VisitLogged z m (MovesOut o f r) old new
    → Visits z m (record { past = x.past; log = old }) (record { past = y.past; log = new }) (round_at (MovesOut o f r))
visits_marked z m x y old new o f r ps e l =
    record { visits = MovesOut o f r ∷ []; did = ap (λ (h : Hand). h.past) e ∙ moved_past x o f r ps; logged = logged_once z m (MovesOut o f r) old new l; counted = one_counted (MovesOut o f r) }

-- ---- all rounds of a seat

pub no_rounds : (reliable : Type 0) (z : Sizes) (m : ℕ) (did : Did) → did.past ≡ [] → did.log ≡ [] → HasMadeRounds reliable z m did
no_rounds reliable z m did e l = (round_in [], record { visits = []; did = e; logged = l; counted = refl }, λ sure. refl)

pub rounds_and_one : (reliable : Type 0) (z : Sizes) (m : ℕ) (did after : Did) (r : Round) → HasMadeRounds reliable z m did → Visits z m did after r → (reliable → r.failed ≡ 0) → HasMadeRounds reliable z m after
rounds_and_one reliable z m did after r made v none =
    (both made.0 r, visits_both z m (record { past = []; log = [] }) did after made.0 r made.1 v, λ sure. let a = made.2 sure in let b = none sure in omega arith)

-- where no put was refused, none was at any of the visits
served_in : (vs : List Visit) → (round_in vs).failed ≡ 0 → AreServed vs
served_in [] e = tt
served_in (MovesOut o f M.Left ∷ vs) e = served_in vs (omega (arith, e))
served_in (MovesOut o f M.Stayed ∷ vs) e = served_in vs (omega (arith, e))
served_in (MovesOut o f M.Failed ∷ vs) e = absurd (omega (arith, e))
served_in (LetsLeave f ∷ vs) e = served_in vs (omega (arith, e))

pub visits_served : (z : Sizes) (m : ℕ) (before after : Did) (r : Round) (v : Visits z m before after r) → r.failed ≡ 0 → AreServed v.visits
visits_served z m before after r v e = served_in v.visits (ap (λ (x : Round). x.failed) v.counted ∙ e)
