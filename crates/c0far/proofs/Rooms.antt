-- The cells of stores in folders have room for a piece of any programs.
use Rattle.std.proofs.Common.{◌≤◌, ◌+◌, List, Option, Some, None, arith, lit≤}
use Rattle.std.specs.Prelude.{slice_get}
use Rattle.cells.proofs.Pieces.{is_a_piece, piece_most}
use Rattle.cells.specs.Pieces.{cells_in}
use Rattle.file_store.specs.FileRows.{HasRoom}
use Rattle.region.specs.Admission.{image_at, image_by}
use Rattle.remote_store.specs.declared.raw.TheConstants.{MOST_WORDS}
use Rattle.scope_verifier.specs.declared.acceptance.Verified.{Verified}
use Rattle.world_semantics.specs.Pieces.{piece_of}

-- a piece has no more than 256 cells, also that of no program
most_cells : (o : Option Verified) → (image_by o).piece ≤ 256
most_cells None = lit≤ tt
most_cells (Some v) = piece_most (cells_in v.image.piece) (is_a_piece v.image.piece)

pub has_room : (programs : List Verified) → HasRoom (piece_of (image_at programs) + 3)
has_room programs =
    let cells : piece_of (image_at programs) ≤ 256 = most_cells (slice_get programs 0) in
    let top : 256 + 3 ≤ MOST_WORDS = lit≤ tt in
    omega arith
