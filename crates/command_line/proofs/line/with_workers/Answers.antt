use Rattle.std.proofs.Common.{refl}
use Rattle.command_line.proofs.line.with_workers.Goals as goal

pub returns-clause-shape : goal.returns-clause-shape
returns-clause-shape c =
    let worked = c.with-worked.ensures.shape _ _ refl c.option.ensures.rule c.option.ensures.own in
    c.with.ensures.shape _ _ worked c.option-2.ensures.rule c.option-2.ensures.own

pub returns-clause-local : goal.returns-clause-local
returns-clause-local c local =
    let worked = c.with-worked.ensures.local local c.option.ensures.own in
    c.with.ensures.local worked c.option-2.ensures.own
