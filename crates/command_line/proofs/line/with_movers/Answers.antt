use Rattle.std.proofs.Common.{refl}
use Rattle.command_line.proofs.line.with_movers.Goals as goal

pub returns-clause-shape : goal.returns-clause-shape
returns-clause-shape c =
    let evacuated = c.with-evacuated.ensures.shape _ _ refl c.option.ensures.rule c.option.ensures.own in
    c.with.ensures.shape _ _ evacuated c.option-2.ensures.rule c.option-2.ensures.own

pub returns-clause-local : goal.returns-clause-local
returns-clause-local c local =
    let evacuated = c.with-evacuated.ensures.local local c.option.ensures.own in
    c.with.ensures.local evacuated c.option-2.ensures.own
