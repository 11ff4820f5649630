use Rattle.command_line.proofs.line.of_texts.Goals as goal

pub returns-clause-shape : goal.returns-clause-shape
returns-clause-shape c = c.with.ensures.shape _ _ c.new.ensures.app c.option.ensures.rule c.option.ensures.own

pub returns-clause-local : goal.returns-clause-local
returns-clause-local c = c.with.ensures.local c.new.ensures.local c.option.ensures.own
