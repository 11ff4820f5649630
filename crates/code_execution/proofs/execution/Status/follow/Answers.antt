use Rattle.code_execution.proofs.execution.Status.follow.Goals as goal

pub returns-in-Does : goal.returns-in-Does
returns-in-Does c = λ al. rw c.in-Does.is (rw c.in-Running.is (c.obey.ensures al c.args.loaded))
