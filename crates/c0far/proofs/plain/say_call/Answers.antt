use Rattle.std.proofs.Common.{◌≡◌, rules, true}
use Rattle.std.specs.Prelude.{string_bytes}
use Rattle.c0far.proofs.Placed.{call_told, said}
use Rattle.command_messages.specs.Shown.{call_line}
use Rattle.streams.specs.Streams.{writes}
use Rattle.c0far.proofs.plain.say_call.Goals as goal

pub returns-in-Some : goal.returns-in-Some
returns-in-Some g c =
    let told = c.write_call.ensures in
    let is : c.args.bound.explains ≡ true = search rules in
    let name = string_bytes c.in-Some.name.text in
    let err = writes g.E.Stream.contents g.E.Stream.failures c.args.err.now c.write_call.new.err in
    call_told c.args.bound.explains c.args.file.now c.args.text.now c.in-Some.name.span.start told.0 told.1 name err c.args.status c.after.result is told.2
    (said err (call_line c.args.file.now told.0 told.1 name) c.args.status c.after.result c.write_call.result told.3 c.after.ensures)
