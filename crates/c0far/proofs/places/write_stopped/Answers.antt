use Rattle.std.proofs.Common.{◌≡◌, rules}
use Rattle.cells.specs.declared.ending.Run.TheVariants.{Stopped}
use Rattle.c0far.proofs.Placed.{written_at}
use Rattle.command_messages.specs.Statuses.{run_status}
use Rattle.streams.specs.Streams.{writes}
use Rattle.c0far.proofs.places.write_stopped.Goals as goal

pub returns-in-Some-clause-written : goal.returns-in-Some-clause-written
returns-in-Some-clause-written g c =
    let found = c.in-Some.found in
    let told = c.write_found.ensures in
    let is : c.args.run.now ≡ Stopped c.in-Stopped.stop = search rules in
    let other : run_status c.args.run.now ≡ 1 = search rules in
    written_at c.args.file.now (g.F.Files.holds c.args.files.now c.args.file.now) c.args.run.now c.in-Stopped.stop found.text.items found.site.offset told.0 told.1 found.numbers
    (writes g.E.Stream.contents g.E.Stream.failures c.args.err.now c.write_found.new.err) c.write_found.result is other c.in-Some.ensures.named c.in-Some.ensures.text told.2 told.3
