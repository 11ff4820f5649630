use Rattle.code_form.proofs.Endings.{ends_so}
use Rattle.code_form.proofs.Tidy.{tidy}
use Rattle.code_form.proofs.Tracks.{tracked, waits_shut}
use Rattle.code_form.proofs.laws.effect_laws.Goals as goal

pub returns-clause-tidy : goal.returns-clause-tidy
returns-clause-tidy c = tidy

pub returns-clause-tracked : goal.returns-clause-tracked
returns-clause-tracked c = tracked

pub returns-clause-waits : goal.returns-clause-waits
returns-clause-waits c = waits_shut

pub returns-clause-ends : goal.returns-clause-ends
returns-clause-ends c = ends_so
