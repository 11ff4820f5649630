use Rattle.std.proofs.Common.{◌++◌}
use Rattle.std.specs.Prelude.{codes}
use Rattle.c0far.proofs.Placed.{said}
use Rattle.command_messages.specs.Shown.{newline}
use Rattle.command_messages.specs.Wants.{passed_line}
use Rattle.streams.specs.Streams.{writes}
use Rattle.c0far.proofs.plain.say_over.Goals as goal

pub returns : goal.returns
returns g c = λ held out typed accepted read quiet. record {
  limited = c.requires;
  text = c.args.text.now;
  read = read;
  typed = typed;
  accepted = accepted;
  taker = c.args.taker;
  middle = record { contents = g.E.Stream.contents c.write_over.new.err; failures = g.E.Stream.failures c.write_over.new.err };
  status = c.after-status.result;
  shown = said (writes g.E.Stream.contents g.E.Stream.failures c.args.err.now c.write_over.new.err) ((codes "out of memory" ++ newline) ++ passed_line 0 c.args.taker c.args.bound.limit) 3 c.after-status.result c.write_over.result c.write_over.ensures
      c.after-status.ensures;
  call = c.say_call.ensures;
  quiet = quiet;
}
