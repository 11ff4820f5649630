-- Sizes of pieces.
use Rattle.std.specs.Prelude.{ℕ, ◌==◌, Bool, ◌||◌}
use Rattle.cells.specs.declared.piece.Piece.{Piece}
use Rattle.cells.specs.declared.piece.Piece.TheVariants as p

-- how many cells a piece has
abbrev pub cells_in : Piece → ℕ
cells_in p.Cells16 = 16
cells_in p.Cells32 = 32
cells_in p.Cells64 = 64
cells_in p.Cells128 = 128
cells_in p.Cells256 = 256

-- a piece may have so many cells
abbrev pub is_piece : ℕ → Bool
is_piece n = (n == 16) || ((n == 32) || ((n == 64) || ((n == 128) || (n == 256))))
