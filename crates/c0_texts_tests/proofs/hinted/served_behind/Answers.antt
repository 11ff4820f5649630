use Rattle.std.proofs.Common.{rules, arith, ◌≡◌, ◌∙◌, ◌≤◌, ◌/◌, ◌∷◌, [], ap, length, subst, sym}
use Rattle.object_lock.specs.Fresh.{IsFreshMover, IsFreshOwner}
use Rattle.c0_texts_tests.proofs.Last.{all_before, last_of_all, only_number}
use Rattle.c0_texts_tests.proofs.hinted.served_behind.Goals as goal

pub run_alone-requires-clause-fresh : goal.run_alone-requires-clause-fresh
run_alone-requires-clause-fresh g c =
    (last_of_all (IsFreshOwner c.in-Ok.region.table (10 / length c.push.new.self.items)) c.in-Ok.owners.items c.pop.new.self.items c.in-Some-Some.owner c.in-Some-Some.ensures.items c.in-Ok.ensures.owners.1).0

pub run_alone-requires-clause-own : goal.run_alone-requires-clause-own
run_alone-requires-clause-own g c =
    let end = (last_of_all (IsFreshOwner c.in-Ok.region.table (10 / length c.push.new.self.items)) c.in-Ok.owners.items c.pop.new.self.items c.in-Some-Some.owner c.in-Some-Some.ensures.items c.in-Ok.ensures.owners.1).2 in
    omega arith

pub run_alone-requires-clause-program : goal.run_alone-requires-clause-program
run_alone-requires-clause-program g c =
    let programs : c.push.new.self.items ≡ c.args.verified ∷ [] = search rules in
    let one : length c.push.new.self.items ≡ 1 = ap length programs in
    let number = only_number (length c.push.new.self.items) c.in-Ok.owners.items c.pop.new.self.items c.in-Some-Some.owner one c.in-Some-Some.ensures.items c.in-Ok.ensures.owners.0 in
    let many : length c.in-Ok.region.programs ≡ 1 = ap length c.in-Ok.ensures.region.0 ∙ one in
    (omega arith, omega arith)

pub run_alone-requires-clause-pass : goal.run_alone-requires-clause-pass
run_alone-requires-clause-pass g c =
    last_of_all (λ p. p ≡ c.in-Ok-new.hints) c.in-Ok-new.passes.items c.pop-3.new.self.items c.in-Some-Some-2.first c.in-Some-Some-2.ensures.items c.in-Ok-new.ensures.passes.1

pub serve-requires-clause-seat : goal.serve-requires-clause-seat
serve-requires-clause-seat g c =
    last_of_all (IsFreshMover c.in-Ok.region.table) c.in-Ok.movers.items c.pop-2.new.self.items c.in-Some-Some.mover c.in-Some-Some.ensures'.items c.in-Ok.ensures.movers.1

pub serve-requires-clause-pass : goal.serve-requires-clause-pass
serve-requires-clause-pass g c =
    let left = all_before (λ p. p ≡ c.in-Ok-new.hints) c.in-Ok-new.passes.items c.pop-3.new.self.items c.in-Some-Some-2.first c.in-Some-Some-2.ensures.items c.in-Ok-new.ensures.passes.1 in
    last_of_all (λ p. p ≡ c.in-Ok-new.hints) c.pop-3.new.self.items c.pop-4.new.self.items c.in-Some-Some-2.second c.in-Some-Some-2.ensures'.items left
