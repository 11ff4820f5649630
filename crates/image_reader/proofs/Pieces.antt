-- Numbers that are sizes of pieces.
use Rattle.std.proofs.Common.{◌≡◌, ℕ, ◌<◌, ◌≤◌, true, arith}
use Rattle.cells.specs.Pieces.{is_piece}
use Rattle.cells.proofs.Pieces.{piece_most}

-- two bytes hold them
pub piece_is_small : (n : ℕ) → is_piece n ≡ true → n < 65536
piece_is_small n is = let most : n ≤ 256 = piece_most n is in omega arith
