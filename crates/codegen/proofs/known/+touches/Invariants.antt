use Rattle.std.proofs.Common.{◌≡◌, drop}
use Rattle.middle_form.specs.Discipline.{touches}
use Rattle.middle_form.specs.ScopedViews.{scoped_code_of, scoped_sequence_of}
use Rattle.codegen.proofs.known.+touches.Given as goal

abbrev pub invariant-loop-part : goal.invariant-loop-part
invariant-loop-part l = touches (scoped_code_of l.code) l.scope ≡ touches (scoped_sequence_of (drop l.part-index l.part-items)) l.scope
