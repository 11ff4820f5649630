-- What holds of all texts.
use Rattle.std.specs.Prelude.{◌≡◌, ℕ, ◌++◌, ◌∷◌, List, length, Result, Ok, Err, Some}
use Rattle.c0_source.specs.declared.kind.Mode.{Mode}
use Rattle.c0_source.specs.declared.kind.Piece.{Piece}
use Rattle.c0_source.specs.declared.kind.Piece.TheVariants as p
use Rattle.c0_source.specs.declared.fault.FaultKind.{FaultKind}
use Rattle.c0_source.specs.Spelling.{Lexeme, Spells, Stops, Cut, piece_of, AreSlices, Rise}
use Rattle.c0_source.specs.Terminals.{Terminal, terminals}
use Rattle.c0_source.specs.Scanning.{answer}

-- no text spells two lists of tokens
abbrev pub OneSpelling : Type 0
OneSpelling = (bytes : List ℕ) (ts us : List Lexeme) → Spells bytes ts → Spells bytes us → ts ≡ us

-- a text with a fault spells no tokens
abbrev pub FaultExcludes : Type 0
FaultExcludes = (bytes : List ℕ) (fault : FaultKind) (at : ℕ) (ts : List Lexeme) → Stops bytes fault at → Spells bytes ts → ⊥

-- no text has two faults
abbrev pub OneFault : Type 0
OneFault = (bytes : List ℕ) (f g : FaultKind) (at here : ℕ) → Stops bytes f at → Stops bytes g here → (f ≡ g) × (at ≡ here)

-- what is told of a text holds of it
abbrev pub Right : List ℕ → Result (List Lexeme) (FaultKind × ℕ) → Type 0
Right bytes (Ok ts) = Spells bytes ts
Right bytes (Err x) = Stops bytes x.0 x.1

-- each text spells tokens or has a fault, and both can be computed
abbrev pub EachTextIsTold : Type 0
EachTextIsTold = (bytes : List ℕ) → Right bytes (answer bytes)

-- the tokens that a text spells are parts of it, one behind the other
abbrev pub TokensRise : Type 0
TokensRise = (bytes : List ℕ) (ts : List Lexeme) → Spells bytes ts → AreSlices bytes ts × Rise 0 (length bytes) ts

-- the piece is no blank and no comment
abbrev pub NotGap : Piece → Type 0
NotGap p.Gap = ⊥
NotGap _ = Unit {0}

-- a blank ends each token: what is a token as a whole is the longest piece where a blank follows it
abbrev pub BlankEnds : Type 0
BlankEnds = (mode : Mode) (s rest : List ℕ) (what : Piece) → piece_of mode s ≡ Some what → NotGap what → Cut mode (s ++ 32 ∷ rest) (length s) what

-- these bytes spell tokens of which the grammar sees these terminals
pub record SpellsAs (bytes : List ℕ) (seen : List Terminal) : Type 0 where
  pub tokens : List Lexeme
  pub spelled : Spells bytes tokens
  pub terminals : terminals tokens ≡ seen
