use Rattle.program_run.proofs.Acting.{acted_on}
use Rattle.program_run.proofs.Ending.{refused_own}
use Rattle.program_run.proofs.Growing.{grown, same_program}
use Rattle.std.proofs.Common.{ap}
use Rattle.atomic_table.specs.Seated.{TableId}
use Rattle.object_lock.specs.Seats.{View}
use Rattle.program_run.proofs.run.run_on.Goals as goal

pub returns-clause-own : goal.returns-clause-own
returns-clause-own g c = λ honest none.
    refused_own g.S.RawStore.reliable c.args.quantum c.args.session.now.state c.run.new.self.state c.run.result c.requires.going none c.run.ensures.told (c.run.ensures.refused honest c.requires.going)

pub returns-clause-grows : goal.returns-clause-grows
returns-clause-grows g c = λ honest at.
    grown c.run_laws.ensures.add c.run_laws.ensures.output g.S.RawStore.reliable c.args.quantum c.args.session.now.state c.run.new.self.state c.run.result at (c.run.ensures.at honest) c.run.ensures.told

pub returns-clause-acted : goal.returns-clause-acted
returns-clause-acted g c = λ was.
    let same = same_program g.S.RawStore.reliable c.args.quantum c.args.session.now.state c.run.new.self.state c.run.result c.run.ensures.told in
    acted_on g.S.RawStore.honest g.S.RawStore.reliable c.args.session.now c.run.new.self c.run.result was (c.run.ensures.acts c.requires.going) same

pub returns-clause-seat : goal.returns-clause-seat
returns-clause-seat g c =
    let same = same_program g.S.RawStore.reliable c.args.quantum c.args.session.now.state c.run.new.self.state c.run.result c.run.ensures.told in
    (ap (λ (z : TableId × View). z.0) same.3, ap (λ (z : TableId × View). z.1.sizes) same.3)
