use Rattle.std.proofs.Common.{◌≡◌, ◌<◌, ℕ}
use Rattle.cells.specs.Pieces.{cells_in}
use Rattle.region.specs.Admission.{image_at}
use Rattle.world_semantics.specs.Pieces.{piece_of}
use Rattle.region.proofs.admission.first_other.Given as goal

-- the pieces of the programs so far have one size
abbrev pub invariant-loop-program : goal.invariant-loop-program
invariant-loop-program l = record {
  counted : l.index ≡ l.program-index;
  cells : l.cells ≡ piece_of (image_at l.programs);
  same : (i : ℕ) → i < l.program-index → (image_at l.programs i).piece ≡ piece_of (image_at l.programs);
}
