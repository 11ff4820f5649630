-- What is asked of tokens, and the names of types.
use Rattle.std.specs.Prelude.{ℕ, ◌+◌, ◌<◌, ◌≤◌, Bool, true, false, if◌then◌else◌, List, [], ◌∷◌, length, All, Option, Some, None}
use Rattle.c0_source.specs.Bytes.{escape, is_printable}
use Rattle.c0_source.specs.Spelling.{Lexeme}

-- a token of a text: its bytes are below 128, and it ends at most at the place where the longest text does
pub record IsToken (t : Lexeme) : Type 0 where
  pub ascii : All (λ b. b < 128) t.text
  pub placed : t.start + length t.text ≤ 1048576

-- all of these are tokens of a text
abbrev pub AreTokens : List Lexeme → Type 0
AreTokens [] = Unit {0}
AreTokens (t ∷ ts) = IsToken t × AreTokens ts

-- names in the order of their declarations, put before others with the last one first
abbrev pub last_first : List (List ℕ) → List (List ℕ) → List (List ℕ)
last_first before [] = before
last_first before (x ∷ xs) = last_first (x ∷ before) xs

-- the byte of a text that a byte stands for, behind `\` or not
abbrev pub byte_value : Bool → ℕ → Option ℕ
byte_value true b = escape b
byte_value false b = if is_printable b then Some b else None
