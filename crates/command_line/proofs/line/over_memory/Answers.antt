use Rattle.std.proofs.Common.{refl}
use Rattle.command_line.proofs.line.over_memory.Goals as goal

pub returns-clause-shape : goal.returns-clause-shape
returns-clause-shape c =
    let framed = c.with-framed.ensures.shape _ _ refl c.option.ensures.rule c.option.ensures.own in
    let counted = c.with-counted.ensures.shape _ _ framed c.option-2.ensures.rule c.option-2.ensures.own in
    let stored = c.with-stored.ensures.shape _ _ counted c.option-3.ensures.rule c.option-3.ensures.own in
    c.with.ensures.shape _ _ stored c.option-4.ensures.rule c.option-4.ensures.own

pub returns-clause-local : goal.returns-clause-local
returns-clause-local c local =
    let framed = c.with-framed.ensures.local local c.option.ensures.own in
    let counted = c.with-counted.ensures.local framed c.option-2.ensures.own in
    let stored = c.with-stored.ensures.local counted c.option-3.ensures.own in
    c.with.ensures.local stored c.option-4.ensures.own
