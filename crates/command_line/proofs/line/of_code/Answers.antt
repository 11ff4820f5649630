use Rattle.command_line.proofs.line.of_code.Goals as goal

pub returns-clause-shape : goal.returns-clause-shape
returns-clause-shape c = c.with.ensures.shape _ _ c.of_checked_texts.ensures.shape c.option.ensures.rule c.option.ensures.own

pub returns-clause-local : goal.returns-clause-local
returns-clause-local c = c.with.ensures.local c.of_checked_texts.ensures.local c.option.ensures.own
