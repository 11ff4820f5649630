use Rattle.command_line.proofs.line.run.Goals as goal

pub returns-clause-shape : goal.returns-clause-shape
returns-clause-shape c =
    let written = c.with-written.ensures.shape _ _ c.of_programs.ensures.shape c.live.ensures.rule c.live.ensures.own in
    let told = c.with-told.ensures.shape _ _ written c.stats.ensures.rule c.stats.ensures.own in
    let explained = c.with-explained.ensures.shape _ _ told c.explains.ensures.rule c.explains.ensures.own in
    let limited = c.with-limited.ensures.shape _ _ explained c.option.ensures.rule c.option.ensures.own in
    c.with.ensures.shape _ _ limited c.files.ensures.rule c.files.ensures.own

pub returns-clause-local : goal.returns-clause-local
returns-clause-local c =
    let written = c.with-written.ensures.local c.of_programs.ensures.local c.live.ensures.own in
    let told = c.with-told.ensures.local written c.stats.ensures.own in
    let explained = c.with-explained.ensures.local told c.explains.ensures.own in
    let limited = c.with-limited.ensures.local explained c.option.ensures.own in
    c.with.ensures.local limited c.files.ensures.own
