use Rattle.std.proofs.Common.{◌≡◌, ◌/◌, List, arith, length, subst, sym}
use Rattle.cells.specs.declared.ending.Ended.{Ended}
use Rattle.executor.specs.Ends.{AreEnds}
use Rattle.executor.proofs.Composed.{ends_alone}
use Rattle.executor.proofs.all.run_all.Goals as goal

pub without_numbers-requires-clause-room : goal.without_numbers-requires-clause-room
without_numbers-requires-clause-room g c =
    let programs = c.args.programs.items in
    let many : length c.in_ok-counted.counted.programs.items ≡ length programs = c.in_ok-counted.ensures.ends.count in
    let room = c.in-Ok.ensures.capacity in
    let count = c.len.ensures in
    omega arith

pub returns-clause-ends : goal.returns-clause-ends
returns-clause-ends g c =
    let programs = c.args.programs.items in
    let objects = c.args.config.objects / length programs in
    let all = c.in_ok-counted.counted.programs.items in
    subst (λ (ends : List Ended). AreEnds g.S.RawStore.honest g.S.RawStore.reliable objects programs ends) (sym c.without_numbers.ensures)
    (ends_alone g.S.RawStore.honest g.S.RawStore.reliable objects programs all c.in_ok-counted.ensures.ends)
