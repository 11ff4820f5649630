use Rattle.std.proofs.Common.{inl, subst}
use Rattle.cells.specs.Outcomes.{Meant}
use Rattle.c0far.proofs.Memory.{told_apart}
use Rattle.command_messages.specs.Shown.{TellsWhere, shown_meaning}
use Rattle.command_messages.specs.Statuses.{ended_status}
use Rattle.streams.specs.Streams.{Says, writes}
use Rattle.c0far.proofs.plain.mean_named.Goals as goal

-- a fault of memory was told before
pub say_refused-requires-clause-none : goal.say_refused-requires-clause-none
say_refused-requires-clause-none g c = λ p is. told_apart _ c.if-eq.ensures (c.in-Err.ensures.every p is)

pub say_refused-requires-clause-other : goal.say_refused-requires-clause-other
say_refused-requires-clause-other g c = told_apart _ c.if-eq.ensures

-- what it printed and its end were shown, and where it stopped
pub returns-in-Ok : goal.returns-in-Ok
returns-in-Ok g c = λ held read.
    let m = c.in-Ok.ensures.meant in
    let said = c.say_placed.ensures in
    let out = writes g.O.Stream.contents g.O.Stream.failures c.args.out.now c.say_placed.new.out in
    let err = writes g.E.Stream.contents g.E.Stream.failures c.args.err.now c.say_placed.new.err in
    inl (record {
      text = c.args.text.now;
      read = read;
      typed = m.0;
      accepted = m.1;
      status = said.0;
      shown = subst (λ (z : Meant). Says out (shown_meaning z) (ended_status z.stop) said.0) m.2 said.1;
      told = subst (λ (z : Meant). TellsWhere c.args.bound.explains c.args.file.now c.args.text.now z.stop err said.0 c.say_placed.result) m.2 said.2;
    })
