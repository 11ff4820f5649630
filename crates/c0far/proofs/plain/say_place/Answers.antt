use Rattle.std.proofs.Common.{◌≡◌, Some, rules}
use Rattle.c0_meaning.specs.Run.{ended_of}
use Rattle.c0far.proofs.Placed.{place_told}
use Rattle.command_messages.specs.Statuses.{ended_status}
use Rattle.streams.specs.Streams.{writes}
use Rattle.c0far.proofs.plain.say_place.Goals as goal

pub returns : goal.returns
returns g c =
    let placed = c.args.placed.now in
    let told = c.say_stop.ensures in
    let is : placed.meant.stop ≡ Some c.in-Some-stop.stop = search rules in
    let other : ended_status (ended_of placed.meant.stop) ≡ 1 = search rules in
    place_told c.args.file.now c.args.text.now placed.meant.stop c.in-Some-stop.stop c.in-Some.site.offset told.0 told.1 placed.numbers (writes g.E.Stream.contents g.E.Stream.failures c.args.err.now c.say_stop.new.err) c.args.status c.say_stop.result is other
    told.2 told.3
