use Rattle.std.proofs.Common.{◌≡◌, List, rules, subst, ℕ}
use Rattle.cells.specs.declared.ending.Run.TheVariants.{Wanted}
use Rattle.cells.specs.declared.ending.Want.TheVariants.{OutOfMemory}
use Rattle.std.specs.Prelude.{string_bytes}
use Rattle.c0far.proofs.Placed.{called_at}
use Rattle.command_messages.specs.Shown.{StandsAt}
use Rattle.streams.specs.Streams.{writes}
use Rattle.c0far.proofs.places.write_wanted.Goals as goal

pub returns-in-Some-clause-written : goal.returns-in-Some-clause-written
returns-in-Some-clause-written g c =
    let found = c.in-Some.found in
    let told = c.write_call.ensures in
    let is : c.args.run.now ≡ Wanted OutOfMemory = search rules in
    let stands = subst (λ (t : List ℕ). StandsAt t found.name.span.start told.0 told.1) c.deref.ensures.value told.2 in
    called_at c.args.file.now (g.F.Files.holds c.args.files.now c.args.file.now) c.args.run.now found.text.items found.name.span.start told.0 told.1 (string_bytes found.name.text)
    (writes g.E.Stream.contents g.E.Stream.failures c.args.err.now c.write_call.new.err) c.write_call.result is c.in-Some.ensures.named c.in-Some.ensures.text stands told.3
