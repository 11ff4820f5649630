use Rattle.code_form.proofs.Runs.{output_grows, steps_add, steps_suc, stopped_stays, stuck_stays}
use Rattle.code_form.proofs.laws.run_laws.Goals as goal

pub returns-clause-add : goal.returns-clause-add
returns-clause-add c = steps_add

pub returns-clause-next : goal.returns-clause-next
returns-clause-next c = steps_suc

pub returns-clause-stopped : goal.returns-clause-stopped
returns-clause-stopped c = stopped_stays

pub returns-clause-stuck : goal.returns-clause-stuck
returns-clause-stuck c = stuck_stays

pub returns-clause-output : goal.returns-clause-output
returns-clause-output c = output_grows
