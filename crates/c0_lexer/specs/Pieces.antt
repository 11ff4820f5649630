-- What is found at the front of a text.
use Rattle.std.specs.Prelude.{◌≡◌, ◌≢◌, ℕ, false, List, Option, Some, None}
use Rattle.c0_source.specs.Bytes.{is_blank, is_letter, is_digit}
use Rattle.c0_source.specs.declared.kind.Mode.{Mode}
use Rattle.c0_source.specs.Spelling.{Cut, NoCut}
use Rattle.c0_lexer.specs.declared.longest.LongestPiece.{LongestPiece}

-- the longest piece at the front of these bytes in this mode, or that there is none
abbrev pub Gives : Mode → List ℕ → Option LongestPiece → Type 0
Gives mode bytes None = NoCut mode bytes
Gives mode bytes (Some x) = Cut mode bytes x.length x.piece

-- the byte begins no piece but a sign
pub record IsSignByte (b : ℕ) : Type 0 where
  pub blank : is_blank b ≡ false
  pub letter : is_letter b ≡ false
  pub digit : is_digit b ≡ false
  pub slash : b ≢ 47
  pub text : b ≢ 34
  pub character : b ≢ 39
  pub backslash : b ≢ 92
  pub library : b ≢ 35
  pub annotation_end : b ≢ 64
