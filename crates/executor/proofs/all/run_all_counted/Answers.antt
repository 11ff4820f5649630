use Rattle.std.proofs.Common.{rules, arith, ◌≡◌, ◌∙◌, ◌+◌, ◌-◌, ◌/◌, ◌<◌, ◌≤◌, ℕ, List, ap, length, subst, suc, sym}
use Rattle.object_lock.specs.Seats.{Sizes}
use Rattle.region.specs.Admission.{image_at}
use Rattle.world_semantics.specs.Pieces.{piece_of}
use Rattle.scope_verifier.specs.declared.acceptance.Verified.{Verified}
use Rattle.std.proofs.Math.Nat.{max-eq_left}
use Rattle.object_lock.specs.Fresh.{AreNumbered}
use Rattle.object_lock.specs.Kept.{slot_has, slot_keeps}
use Rattle.executor.specs.Together.{HasRunTogether}
use Rattle.executor.proofs.Composed.{numbered_count}
use Rattle.executor.proofs.all.run_all_counted.Goals as goal

pub run_region-requires-clause-enough : goal.run_region-requires-clause-enough
run_region-requires-clause-enough g c κs within =
    let many = numbered_count (suc (length c.args.programs.items)) (c.args.config.evacuators + c.args.config.fetchers) c.in_ok-region.movers.items c.in_ok-region.ensures.movers.0 in
    let fetchers = c.in_ok-region.ensures.numbers.1 in
    omega arith

pub run_region-requires-clause-cells : goal.run_region-requires-clause-cells
run_region-requires-clause-cells g c κs within k low =
    let region = c.in_ok-region.region in
    let programs = c.in_ok-region.ensures.region.0 in
    let cells : region.table.sizes.cells ≡ piece_of (image_at c.args.programs.items) = ap (λ (z : Sizes). z.cells) c.in_ok-region.ensures.region.1 in
    let one = c.in_ok-region.ensures.admitted.2 k (subst (λ (l : List Verified). k < length l) programs low) in
    subst (λ (l : List Verified). (image_at l k).piece ≡ region.table.sizes.cells) (sym programs) (one ∙ sym cells)

pub run_region-requires-clause-mover_numbers : goal.run_region-requires-clause-mover_numbers
run_region-requires-clause-mover_numbers g c κs within =
    let movers = c.in_ok-region.movers.items in
    let numbers = c.in_ok-region.ensures.movers.0 in
    let first : suc (length c.args.programs.items) ≡ length c.in_ok-region.region.programs + 1 = let same = ap length c.in_ok-region.ensures.region.0 in omega arith in
    let many = numbered_count (suc (length c.args.programs.items)) (c.args.config.evacuators + c.args.config.fetchers) movers numbers in
    subst (λ (n : ℕ × ℕ). AreNumbered n.0 n.1 movers) (λ i. (first i, sym many i)) numbers

pub run_region-requires-clause-some : goal.run_region-requires-clause-some
run_region-requires-clause-some g c κs within =
    let many = numbered_count (suc (length c.args.programs.items)) (c.args.config.evacuators + c.args.config.fetchers) c.in_ok-region.movers.items c.in_ok-region.ensures.movers.0 in
    let limits = c.in_ok-region.ensures.admitted.0 in
    let programs = limits.0 in
    let objects = limits.4 in
    let same = ap length c.in_ok-region.ensures.region.0 in
    let sizes = ap (λ (z : Sizes). z.objects) c.in_ok-region.ensures.region.1 in
    (omega arith, omega arith, omega arith)

pub run_region-requires-clause-seats : goal.run_region-requires-clause-seats
run_region-requires-clause-seats g c κs within =
    let many = numbered_count (suc (length c.args.programs.items)) (c.args.config.evacuators + c.args.config.fetchers) c.in_ok-region.movers.items c.in_ok-region.ensures.movers.0 in
    let same = ap length c.in_ok-region.ensures.region.0 in
    let sizes = ap (λ (z : Sizes). z.seats) c.in_ok-region.ensures.region.1 in
    omega arith

pub returns-in-Ok-clause-together : goal.returns-in-Ok-clause-together
returns-in-Ok-clause-together g c = λ sure.
    let all = c.args.programs.items in
    let config = c.args.config in
    let many = numbered_count (suc (length all)) (config.evacuators + config.fetchers) c.in_ok-region.movers.items c.in_ok-region.ensures.movers.0 in
    let programs = c.in_ok-region.ensures.region.0 in
    let sizes = c.in_ok-region.ensures.region.1 in
    let count = c.programs.ensures.programs ∙ ap length programs in
    let most = c.max.ensures in
    let some = c.in_ok-region.ensures.admitted.0.0 in
    let some_programs : 1 ≤ c.programs.result = omega arith in
    let positive : c.max.result ≡ length all = most ∙ max-eq_left some_programs ∙ count in
    let share : config.objects / c.max.result ≡ config.objects / length all = ap (λ n. config.objects / n) positive in
    let left : length c.in_ok-region.movers.items - config.evacuators ≡ config.fetchers = omega arith in
    subst (λ (x : Sizes × ℕ × List Verified × ℕ). HasRunTogether (slot_keeps g.S.RawStore.fits g.S.RawStore.content x.0.cells) (slot_has g.S.RawStore.fits x.0.cells) g.S.RawStore.honest g.S.RawStore.reliable x.0 x.1 (length x.2) config.evacuators x.3 (image_at x.2) c.in-Ok.counted.programs.items)
    (λ i. (sizes i, share i, programs i, left i)) (c.in-Ok.ensures.together sure)
