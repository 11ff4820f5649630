-- Numbers by their digits.
use Rattle.std.specs.Prelude.{ℕ, ◌^◌, ◌&&◌, ◌||◌, ◌==◌, nat_le, nat_lt, if◌then◌else◌, List, [], ◌∷◌, Option, Some, None}
use Rattle.c0_source.specs.Bytes.{is_digit, is_hex, all_of}
use Rattle.c0_source.specs.Spelling.{value_from, hex_from, hex_digit}

-- the value of a hexadecimal digit, where it is one
abbrev pub hex_digit_value : ℕ → Option ℕ
hex_digit_value b = if is_hex b then Some (hex_digit b) else None

-- the value of these decimal digits behind those of `n`, where they are all digits, and it is at most 2^31
abbrev pub digits_value : ℕ → List ℕ → Option ℕ
digits_value n digits = if all_of is_digit digits && nat_le (value_from n digits) (2 ^ 31) then Some (value_from n digits) else None

-- the value of these hexadecimal digits behind those of `n`, where they are all digits, and it is below 2^32
abbrev pub hex_value : ℕ → List ℕ → Option ℕ
hex_value n digits = if all_of is_hex digits && nat_lt (hex_from n digits) (2 ^ 32) then Some (hex_from n digits) else None

-- the value of a number, by its first byte and what follows it
abbrev pub number_value : List ℕ → Option ℕ
number_value [] = None
number_value (b ∷ []) = digits_value 0 (b ∷ [])
number_value (b ∷ x ∷ []) = if b == 48 then None else digits_value 0 (b ∷ x ∷ [])
number_value (b ∷ x ∷ d ∷ ds) =
    if b == 48 then (if x == 120 || x == 88 then hex_value 0 (d ∷ ds) else None) else digits_value 0 (b ∷ x ∷ d ∷ ds)
