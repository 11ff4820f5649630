use Rattle.command_line.proofs.line.check.Goals as goal

pub returns-clause-shape : goal.returns-clause-shape
returns-clause-shape c = c.with.ensures.shape _ _ c.of_texts.ensures.shape c.one_file.ensures.rule c.one_file.ensures.own

pub returns-clause-local : goal.returns-clause-local
returns-clause-local c = c.with.ensures.local c.of_texts.ensures.local c.one_file.ensures.own
