use Rattle.codegen.proofs.Rows.{not_straight}
use Rattle.codegen.proofs.asked.asks_straight.Goals as goal

pub returns-in_default : goal.returns-in_default
returns-in_default c h =
    let d = c.in_default in
    not_straight c.args.code.now d.not-Do d.not-Load d.not-Store d.not-LoadBy d.not-StoreBy d.not-Aim d.not-Leave d.not-Loose d.not-Call d.not-Fail d.not-Exit h
