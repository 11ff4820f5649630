use Rattle.std.proofs.Common.{◌∙◌, ap, ap₂}
use Rattle.std.proofs.lemmas.Result.{IfOk-weaker}
use Rattle.clap.specs.Words.{App, with_subcommand}
use Rattle.command_line.proofs.line.with_below.Goals as goal

pub returns : goal.returns
returns c top shape made is local =
    let before = rw c.in_ok-command.was at made in
    let form = rw c.in_ok-below.was at is in
    let own = rw c.in_ok-below.was at local in
    IfOk-weaker c.subcommand.result _ _ (λ r h. h.shape own ∙ ap₂ with_subcommand before (ap (λ (a : App). a.top) form)) c.subcommand.ensures
