-- One round and then another, or a frame more.
use Rattle.std.proofs.Common.{◌≡◌, ℕ, ◌+◌, ◌%◌, ap, ◌∙◌, arith}
use Rattle.std.proofs.Math.Nat.{mod-add-mod}
use Rattle.object_lock.specs.Seats.{with_hand}
use Rattle.object_lock.specs.SeatViews.{SeatView}
use Rattle.evacuator.specs.declared.counts.Round.{Round}
use Rattle.evacuator.specs.Rounds.{Evacuates, both, moves_of}

-- the seat s with what a round changes taken from t
changed : {W C : Type 0} → SeatView W C → SeatView W C → SeatView W C
changed s t = record s { view = with_hand s.view (record s.view.hand { source = t.view.hand.source; copied = t.view.hand.copied; marks = t.view.hand.marks; commits = t.view.hand.commits; aborts = t.view.hand.aborts; leaves = t.view.hand.leaves; past = t.view.hand.past }); taken = t.taken; store = t.store; refusals = t.refusals; log = t.log }

-- refusals that are counted modulo 2^64
rises : (x y z a b : ℕ) → y ≡ (x + a) % 18446744073709551616 → z ≡ (y + b) % 18446744073709551616 → z ≡ (x + (a + b)) % 18446744073709551616
rises x y z a b f g =
    let same : x + a + b ≡ x + (a + b) = omega arith in
    g ∙ (ap (λ n. (n + b) % 18446744073709551616) f ∙ (mod-add-mod (x + a) 18446744073709551616 b ∙ ap (λ n. n % 18446744073709551616) same))

pub evacuates_both : {W C : Type 0} (s t u : SeatView W C) (a b : Round) → Evacuates s t a → Evacuates t u b → Evacuates s u (both a b)
unfolding changed
evacuates_both {W} {C} s t u a b x y =
    let m = x.all in let n = y.all in let c = x.left in let d = y.left in let e = x.aborts in let f = y.aborts in let g = x.leaves in let h = y.leaves in let i = x.commits in let j = y.commits in
    record {
      all = omega arith;
      left = omega arith;
      leaves = omega arith;
      commits = omega arith;
      aborts = omega arith;
      refusals = rises s.refusals.count t.refusals.count u.refusals.count a.failed b.failed x.refusals y.refusals;
      same = y.same ∙ ap (λ (z : SeatView W C). changed z u) x.same;
    }

pub still_more : {W C : Type 0} (s t u : SeatView W C) (a b : Round) → (moves_of a ≡ 0 → t ≡ s) → (moves_of b ≡ 0 → u ≡ t) → moves_of (both a b) ≡ 0 → u ≡ s
still_more s t u a b f g e = g (omega arith) ∙ f (omega arith)
