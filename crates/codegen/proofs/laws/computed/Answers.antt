use Rattle.codegen.proofs.Computing.{behind, calls, cut, error, left, printed}
use Rattle.codegen.proofs.laws.computed.Goals as goal

pub returns-clause-calls : goal.returns-clause-calls
returns-clause-calls c = calls

pub returns-clause-left : goal.returns-clause-left
returns-clause-left c = left

pub returns-clause-cut : goal.returns-clause-cut
returns-clause-cut c = cut

pub returns-clause-behind : goal.returns-clause-behind
returns-clause-behind c = behind

pub returns-clause-error : goal.returns-clause-error
returns-clause-error c = error

pub returns-clause-printed : goal.returns-clause-printed
returns-clause-printed c = printed
