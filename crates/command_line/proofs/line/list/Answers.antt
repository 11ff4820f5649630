use Rattle.command_line.proofs.line.list.Goals as goal

pub returns-clause-shape : goal.returns-clause-shape
returns-clause-shape c =
    let sized = c.with-sized.ensures.shape _ _ c.of_texts.ensures.shape c.option.ensures.rule c.option.ensures.own in
    c.with.ensures.shape _ _ sized c.one_file.ensures.rule c.one_file.ensures.own

pub returns-clause-local : goal.returns-clause-local
returns-clause-local c =
    let sized = c.with-sized.ensures.local c.of_texts.ensures.local c.option.ensures.own in
    c.with.ensures.local sized c.one_file.ensures.own
