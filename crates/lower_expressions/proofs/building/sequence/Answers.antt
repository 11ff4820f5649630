use Rattle.std.proofs.Common.{sym, ap, ◌∙◌, rules}
use Rattle.middle_form.specs.Views.{code_of}
use Rattle.lower_expressions.proofs.CodeLists.{sequence_is}
use Rattle.lower_expressions.proofs.building.sequence.Goals as goal

pub returns : goal.returns
returns c = ap code_of c.in_ok-whole.ensures.ok ∙ sequence_is c.args.parts
