use Rattle.std.proofs.Common.{rules, ◌≡◌}
use Rattle.clap.specs.Words.{rule_of}
use Rattle.command_line.specs.Shell.{schedule_rule}
use Rattle.command_line.proofs.line.replay.Goals as goal

pub returns-clause-shape : goal.returns-clause-shape
returns-clause-shape c =
    let rule : rule_of c.required-schedule.result ≡ schedule_rule = search rules in
    let scheduled = c.with-scheduled.ensures.shape _ _ c.of_programs.ensures.shape rule (search rules) in
    c.with.ensures.shape _ _ scheduled c.files.ensures.rule c.files.ensures.own

pub returns-clause-local : goal.returns-clause-local
returns-clause-local c =
    let scheduled = c.with-scheduled.ensures.local c.of_programs.ensures.local (search rules) in
    c.with.ensures.local scheduled c.files.ensures.own
