use Rattle.std.proofs.Common.{◌≡◌, List, rules, subst, ℕ}
use Rattle.std.specs.Prelude.{string_bytes}
use Rattle.command_messages.specs.Shown.{call_line}
use Rattle.streams.specs.Streams.{IsWritten, writes}
use Rattle.c0far.proofs.last_calls.write_call.Goals as goal

pub returns : goal.returns
returns g c =
    let at = c.line_column-position in
    let err = writes g.E.Stream.contents g.E.Stream.failures c.args.err.now c.write_name.new.err in
    let same : c.deref.result.now ≡ string_bytes c.args.name.now.text = search rules in (
      at.result.line,
      at.result.column,
      (at.ensures.line, at.ensures.column),
      subst (λ (n : List ℕ). IsWritten err (call_line c.args.file.now at.result.line at.result.column n) c.write_name.result) same c.write_name.ensures,
    )
