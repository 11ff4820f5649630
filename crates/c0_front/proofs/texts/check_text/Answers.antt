use Rattle.std.proofs.lemmas.Result.{err_from_is_err_and}
use Rattle.c0_syntax.specs.Levels.{has_loops}
use Rattle.c0_front.proofs.TextSteps.{rules_every, rules_refused}
use Rattle.c0_front.proofs.texts.check_text.Goals as goal

pub returns-in_err-program-clause-every : goal.returns-in_err-program-clause-every
returns-in_err-program-clause-every c = λ p w.
    let q = err_from_is_err_and c.from_residual.result c.from_residual.ensures.1 in
    rw (q.1, q.2) (c.in_err-program.ensures.every w.program w.written)

pub returns-clause-refused : goal.returns-clause-refused
returns-clause-refused c = rules_refused (has_loops c.args.level) c.args.text.now c.in_ok-program.program c.in_ok-program.ensures.read c.check.result c.check.ensures.cause

pub returns-clause-every : goal.returns-clause-every
returns-clause-every c = rules_every (has_loops c.args.level) c.args.text.now c.in_ok-program.program c.in_ok-program.ensures.read c.check.result c.check.ensures.answers
