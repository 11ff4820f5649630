use Rattle.codegen.proofs.Rows.{no_access}
use Rattle.codegen.proofs.emit.emit_access.Goals as goal

pub returns-in_default : goal.returns-in_default
returns-in_default c h =
    let d = c.in_default in
    no_access c.args.code.now d.not-Load d.not-Store d.not-LoadBy d.not-StoreBy d.not-Aim h
