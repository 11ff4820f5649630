use Rattle.std.proofs.Common.{◌∙◌, ap}
use Rattle.std.proofs.lemmas.Result.{IfOk-weaker}
use Rattle.command_line.specs.Shell.{with_memory, with_movers, with_work}
use Rattle.command_line.proofs.line.of_programs.Goals as goal

pub returns-clause-shape : goal.returns-clause-shape
returns-clause-shape c =
    let memory = c.in_ok-command.ensures.shape ∙ ap with_memory c.in_ok-of_code.ensures.shape in
    let movers = c.in_ok-with_movers.ensures.shape ∙ ap with_movers memory in
    IfOk-weaker c.with_workers.result _ _ (λ r h. h ∙ ap with_work movers) c.with_workers.ensures.shape

pub returns-clause-local : goal.returns-clause-local
returns-clause-local c = c.with_workers.ensures.local (c.in_ok-with_movers.ensures.local (c.in_ok-command.ensures.local c.in_ok-of_code.ensures.local))
