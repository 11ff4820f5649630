use Rattle.code_form.proofs.Computing.{printed, error}
use Rattle.code_form.proofs.laws.computed.Goals as goal

pub returns-clause-printed : goal.returns-clause-printed
returns-clause-printed c = printed

pub returns-clause-error : goal.returns-clause-error
returns-clause-error c = error
