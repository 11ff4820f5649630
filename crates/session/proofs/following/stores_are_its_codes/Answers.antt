use Rattle.std.proofs.Common.{sym, ◌∙◌}
use Rattle.session.proofs.following.stores_are_its_codes.Goals as goal

pub returns : goal.returns
returns c = λ s calls at part o own. sym (part.stores o own) ∙ at.stored o
