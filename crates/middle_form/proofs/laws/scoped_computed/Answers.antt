use Rattle.middle_form.proofs.ScopedComputing.{left_open_refused, left_shut_kept, shared_kept}
use Rattle.middle_form.proofs.laws.scoped_computed.Goals as goal

pub returns-clause-shared_kept : goal.returns-clause-shared_kept
returns-clause-shared_kept c = shared_kept

pub returns-clause-shut_kept : goal.returns-clause-shut_kept
returns-clause-shut_kept c = left_shut_kept

pub returns-clause-refused : goal.returns-clause-refused
returns-clause-refused c = left_open_refused
