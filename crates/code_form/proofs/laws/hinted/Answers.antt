use Rattle.code_form.proofs.Computing.{element_hinted}
use Rattle.code_form.proofs.laws.hinted.Goals as goal

pub returns-clause-element : goal.returns-clause-element
returns-clause-element c = element_hinted
