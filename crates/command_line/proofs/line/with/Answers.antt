use Rattle.std.proofs.Common.{◌∙◌, ap₂}
use Rattle.std.proofs.lemmas.Result.{IfOk-weaker}
use Rattle.clap.specs.Words.{with_rule}
use Rattle.command_line.proofs.Found.{still_local}
use Rattle.command_line.proofs.line.with.Goals as goal

pub returns-clause-shape : goal.returns-clause-shape
returns-clause-shape c app rule made is own =
    let before = rw c.in_ok-command.was at made in
    IfOk-weaker c.arg.result _ _ (λ r h. h.shape own ∙ ap₂ with_rule before is) c.arg.ensures

pub returns-clause-local : goal.returns-clause-local
returns-clause-local c made own =
    let before = rw c.in_ok-command.was at made in
    IfOk-weaker c.arg.result _ _ (λ r h. still_local _ _ _ h.globals before own) c.arg.ensures
