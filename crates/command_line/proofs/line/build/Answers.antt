use Rattle.std.proofs.Common.{rules, ◌≡◌}
use Rattle.clap.specs.Words.{rule_of}
use Rattle.command_line.specs.Shell.{out_rule}
use Rattle.command_line.proofs.line.build.Goals as goal

pub returns-clause-shape : goal.returns-clause-shape
returns-clause-shape c =
    let rule : rule_of c.action-out.result ≡ out_rule = search rules in
    let named = c.with-named.ensures.shape _ _ c.of_code.ensures.shape rule (search rules) in
    c.with.ensures.shape _ _ named c.one_file.ensures.rule c.one_file.ensures.own

pub returns-clause-local : goal.returns-clause-local
returns-clause-local c =
    let named = c.with-named.ensures.local c.of_code.ensures.local (search rules) in
    c.with.ensures.local named c.one_file.ensures.own
