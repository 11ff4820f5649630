use Rattle.command_messages.proofs.say.say_fault.Goals as goal

pub returns : goal.returns
returns g c =
    let e = c.line_column-position.ensures in
    (c.line_column-position.result.line, c.line_column-position.result.column, (e.line, e.column), c.say_at.ensures)
