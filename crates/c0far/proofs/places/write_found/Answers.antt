use Rattle.std.proofs.Common.{List, subst, ℕ}
use Rattle.command_messages.specs.Shown.{StandsAt}
use Rattle.c0far.proofs.places.write_found.Goals as goal

pub returns : goal.returns
returns g c =
    let at = c.line_column-position in
    let stands = subst (λ (t : List ℕ). StandsAt t c.args.found.now.site.offset at.result.line at.result.column) c.deref.ensures.value (at.ensures.line, at.ensures.column) in
    (at.result.line, at.result.column, stands, c.write_stop.ensures)
