use Rattle.guard_hoisting.proofs.Parts.{open_alone}
use Rattle.guard_hoisting.proofs.hoisting.follow.Goals as goal

pub returns-in_default : goal.returns-in_default
returns-in_default c h =
    let d = c.in_default in
    open_alone c.args.opened.now.items c.args.code.now d.not-Load d.not-Store d.not-Aim d.not-Loose d.not-Leave h
