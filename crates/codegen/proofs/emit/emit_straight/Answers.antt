use Rattle.std.proofs.lemmas.Result.{IfOk-weaker}
use Rattle.codegen.specs.Building.{exits_of}
use Rattle.codegen.proofs.Rows.{straight_access}
use Rattle.codegen.proofs.emit.emit_straight.Goals as goal

pub returns-in_default : goal.returns-in_default
returns-in_default c =
    let d = c.in_default in
    IfOk-weaker c.emit_access.result _ _ (λ v h e b. h (straight_access c.args.code.now d.not-Do d.not-Leave d.not-Loose d.not-Call d.not-Fail d.not-Exit e) b (exits_of c.args.exits.now)) c.emit_access.ensures
