use Rattle.std.proofs.Common.{rules, ◌≡◌}
use Rattle.clap.specs.Words.{rule_of}
use Rattle.command_line.specs.Shell.{checks_rule}
use Rattle.command_line.proofs.line.of_checked_texts.Goals as goal

pub returns-clause-shape : goal.returns-clause-shape
returns-clause-shape c =
    let rule : rule_of c.action-checks.result ≡ checks_rule = search rules in
    c.with.ensures.shape _ _ c.of_texts.ensures.shape rule (search rules)

pub returns-clause-local : goal.returns-clause-local
returns-clause-local c = c.with.ensures.local c.of_texts.ensures.local (search rules)
