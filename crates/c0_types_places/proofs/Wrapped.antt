-- Numbers below 2^32, read as signed ones.
use Rattle.std.proofs.Common.{◌≡◌, ℕ, ◌<◌, ◌^◌, ◌%◌, ap, arith, pos}
use Rattle.std.specs.Int.{cast_signed, int_wrap, w32}
use Rattle.cells.specs.Numbers.{wrap32}

pub number_wraps : (n : ℕ) → n < 2 ^ 32 → cast_signed w32 n ≡ wrap32 (pos n)
unfolding int_wrap
number_wraps n h = let same : n ≡ n % 2 ^ 32 = omega (arith, h) in ap (cast_signed w32) same
