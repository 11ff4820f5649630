-- Classes of bytes.
use Rattle.std.specs.Prelude.{ℕ, Bool, true, not, ◌&&◌, ◌||◌, if◌then◌else◌, ◌==◌, nat_le, List, [], ◌∷◌, Option, Some, None}

-- space, tab, newline, carriage return, 11 and 12
abbrev pub is_blank : ℕ → Bool
is_blank b = b == 32 || (nat_le 9 b && nat_le b 13)

-- `0` to `9`
abbrev pub is_digit : ℕ → Bool
is_digit b = nat_le 48 b && nat_le b 57

-- a hexadecimal digit
abbrev pub is_hex : ℕ → Bool
is_hex b = is_digit b || (nat_le 97 b && nat_le b 102) || (nat_le 65 b && nat_le b 70)

-- a letter or `_`
abbrev pub is_letter : ℕ → Bool
is_letter b = (nat_le 97 b && nat_le b 122) || (nat_le 65 b && nat_le b 90) || b == 95

-- what a name may go on with
abbrev pub is_word : ℕ → Bool
is_word b = is_letter b || is_digit b

-- any byte but a newline
abbrev pub not_newline : ℕ → Bool
not_newline b = not (b == 10)

-- 32 to 126
abbrev pub is_printable : ℕ → Bool
is_printable b = nat_le 32 b && nat_le b 126

-- each byte passes the test
abbrev pub all_of : (ℕ → Bool) → List ℕ → Bool
all_of p [] = true
all_of p (b ∷ bs) = p b && all_of p bs

-- what stands for a byte behind `\`
abbrev pub escape : ℕ → Option ℕ
escape b =
    if b == 110 then Some 10 else (if b == 116 then Some 9 else (if b == 118 then Some 11 else (if b == 98 then Some 8
    else (if b == 114 then Some 13 else (if b == 102 then Some 12 else (if b == 97 then Some 7
    else (if b == 92 || b == 39 || b == 34 then Some b else None)))))))
