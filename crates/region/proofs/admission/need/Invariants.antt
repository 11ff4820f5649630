use Rattle.std.proofs.Common.{◌≡◌}
use Rattle.std.specs.Prelude.{min}
use Rattle.region.specs.Admission.{image_at}
use Rattle.world_semantics.specs.Enough.{scopes_below}
use Rattle.region.proofs.admission.need.Given as goal

-- the scopes of the programs so far
abbrev pub invariant-loop-program : goal.invariant-loop-program
invariant-loop-program l = l.frames ≡ min (scopes_below (image_at l.programs) l.program-index) 18446744073709551615
