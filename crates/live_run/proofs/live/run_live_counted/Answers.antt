use Rattle.std.proofs.Common.{◌/◌, length}
use Rattle.streams.specs.Streams.{writes}
use Rattle.live_run.specs.Lives.{EndsLive}
use Rattle.program_run.specs.Executed.{IsFinishedOver}
use Rattle.live_run.proofs.Alone.{ends_alone, seat_alone}
use Rattle.live_run.proofs.live.run_live_counted.Goals as goal

pub returns-clause-ends : goal.returns-clause-ends
returns-clause-ends g c =
    let programs = c.args.programs.items in
    let seat = c.in-Some.seat in
    let region = c.in-Ok.admitted.0 in
    let owners = c.in-Ok.ensures.owners in
    let w = writes g.O.Stream.contents g.O.Stream.failures c.args.out.now c.run_region.new.out in
    let alone = seat_alone region.table (length programs) (c.args.config.objects / length programs) c.in-Ok.admitted.1.items c.pop.new.self.items seat c.requires.one c.in-Some.ensures.items owners.0 owners.1 in
    ends_alone (λ own C f. EndsLive g.S.RawStore.honest g.S.RawStore.reliable own.objects C w f.end) c.args.config.objects programs region.programs seat.view c.run_region.result c.requires.one c.in-Ok.ensures.region.0 alone.0 alone.1.1
    alone.1.2 c.run_region.ensures.ends

pub returns-clause-finished : goal.returns-clause-finished
returns-clause-finished g c =
    let programs = c.args.programs.items in
    let seat = c.in-Some.seat in
    let region = c.in-Ok.admitted.0 in
    let owners = c.in-Ok.ensures.owners in
    let alone = seat_alone region.table (length programs) (c.args.config.objects / length programs) c.in-Ok.admitted.1.items c.pop.new.self.items seat c.requires.one c.in-Some.ensures.items owners.0 owners.1 in
    ends_alone (λ own C f. g.S.RawStore.honest → IsFinishedOver g.S.RawStore.reliable own C f) c.args.config.objects programs region.programs seat.view c.run_region.result c.requires.one c.in-Ok.ensures.region.0 alone.0 alone.1.1
    alone.1.2 c.run_region.ensures.finished
