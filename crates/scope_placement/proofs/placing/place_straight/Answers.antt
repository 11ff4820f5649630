use Rattle.scope_placement.proofs.Rows.{not_straight}
use Rattle.scope_placement.proofs.placing.place_straight.Goals as goal

pub returns-clause-parts : goal.returns-clause-parts
returns-clause-parts c h =
    let d = c.in_default in
    not_straight c.args.code d.not-Do d.not-Load d.not-Store d.not-Call d.not-Fail d.not-Exit h

pub returns-clause-registers : goal.returns-clause-registers
returns-clause-registers c h =
    let d = c.in_default in
    not_straight c.args.code d.not-Do d.not-Load d.not-Store d.not-Call d.not-Fail d.not-Exit h

pub returns-clause-most : goal.returns-clause-most
returns-clause-most c h =
    let d = c.in_default in
    not_straight c.args.code d.not-Do d.not-Load d.not-Store d.not-Call d.not-Fail d.not-Exit h
