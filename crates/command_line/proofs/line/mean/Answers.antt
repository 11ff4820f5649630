use Rattle.std.proofs.Common.{rules, ◌≡◌}
use Rattle.clap.specs.Words.{rule_of}
use Rattle.command_line.specs.Shell.{turns_rule}
use Rattle.command_line.proofs.line.mean.Goals as goal

pub returns-clause-shape : goal.returns-clause-shape
returns-clause-shape c =
    let rule : rule_of c.action-turns.result ≡ turns_rule = search rules in
    let bound = c.with-bound.ensures.shape _ _ c.of_checked_texts.ensures.shape rule (search rules) in
    let explained = c.with-explained.ensures.shape _ _ bound c.explains.ensures.rule c.explains.ensures.own in
    let limited = c.with-limited.ensures.shape _ _ explained c.option.ensures.rule c.option.ensures.own in
    c.with.ensures.shape _ _ limited c.one_file.ensures.rule c.one_file.ensures.own

pub returns-clause-local : goal.returns-clause-local
returns-clause-local c =
    let bound = c.with-bound.ensures.local c.of_checked_texts.ensures.local (search rules) in
    let explained = c.with-explained.ensures.local bound c.explains.ensures.own in
    let limited = c.with-limited.ensures.local explained c.option.ensures.own in
    c.with.ensures.local limited c.one_file.ensures.own
