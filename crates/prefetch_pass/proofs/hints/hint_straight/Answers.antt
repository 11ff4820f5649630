use Rattle.prefetch_pass.proofs.Ordered.{hinted_alone}
use Rattle.prefetch_pass.proofs.hints.hint_straight.Goals as goal

pub returns-in_default : goal.returns-in_default
returns-in_default c h =
    let d = c.in_default in
    hinted_alone c.args.ahead c.args.offsets.now.registers.items c.args.code d.not-Load d.not-Store d.not-LoadBy d.not-StoreBy h
