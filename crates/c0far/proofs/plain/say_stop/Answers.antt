use Rattle.cells.specs.Stops.{stop_of}
use Rattle.c0far.proofs.Placed.{said}
use Rattle.command_messages.specs.Shown.{shown_stop}
use Rattle.streams.specs.Streams.{writes}
use Rattle.c0far.proofs.plain.say_stop.Goals as goal

pub returns : goal.returns
returns g c =
    let at = c.line_column-position in
    let bytes = shown_stop c.args.file.now at.result.line at.result.column (stop_of c.args.stop.now) c.args.numbers in
    (at.result.line, at.result.column, (at.ensures.line, at.ensures.column), said (writes g.E.Stream.contents g.E.Stream.failures c.args.err.now c.write_stop.new.err) bytes c.args.status c.after.result c.write_stop.result c.write_stop.ensures c.after.ensures)
