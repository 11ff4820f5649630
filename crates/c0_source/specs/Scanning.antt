-- What a text spells, or its fault, computed.
use Rattle.std.specs.Prelude.{ℕ, zero, suc, if◌then◌else◌, List, [], ◌∷◌, ◌++◌, length, take, drop, Option, Some, None, Result, Ok, Err}
use Rattle.c0_source.specs.declared.kind.Mode.{Mode}
use Rattle.c0_source.specs.declared.kind.Mode.TheVariants as m
use Rattle.c0_source.specs.declared.kind.Piece.{Piece}
use Rattle.c0_source.specs.declared.fault.FaultKind.{FaultKind}
use Rattle.c0_source.specs.declared.fault.FaultKind.TheVariants as f
use Rattle.c0_source.specs.Spelling.{piece_of, apart, after, Pieces, Lexeme, lexemes, ending, begins_comment, opening, extent}

-- a piece of this length, or else a shorter one
abbrev pub or_shorter : Option Piece → ℕ → Option (ℕ × Piece) → Option (ℕ × Piece)
or_shorter None n shorter = shorter
or_shorter (Some what) n shorter = Some (n, what)

-- the longest beginning of at most n bytes that is a piece
abbrev pub longest_of : Mode → List ℕ → ℕ → Option (ℕ × Piece)
longest_of mode bytes zero = None
longest_of mode bytes (suc n) = or_shorter (piece_of mode (take (suc n) bytes)) (suc n) (longest_of mode bytes n)

-- a piece, where what follows it may follow
abbrev pub if_apart : List ℕ → Option (ℕ × Piece) → Option (ℕ × Piece)
if_apart bytes None = None
if_apart bytes (Some x) = if apart x.1 (drop x.0 bytes) then Some x else None

-- the longest piece at the front
abbrev pub cut_of : Mode → List ℕ → Option (ℕ × Piece)
cut_of mode bytes = if_apart bytes (longest_of mode bytes (length bytes))

-- pieces, and what is left behind them
pub record Scan : Type 0 where
  pub pieces : Pieces
  pub last : Mode
  pub rest : List ℕ

-- one more piece in front
abbrev pub add_piece : ℕ × Piece → Scan → Scan
add_piece x s = record { pieces = x ∷ s.pieces; last = s.last; rest = s.rest }

-- the longest piece, and what is cut behind it
abbrev pub scan_by : (Mode → List ℕ → Scan) → Mode → List ℕ → Option (ℕ × Piece) → Scan
scan_by go_on mode bytes None = record { pieces = []; last = mode; rest = bytes }
scan_by go_on mode bytes (Some x) = add_piece x (go_on (after mode x.1) (drop x.0 bytes))

-- the pieces of a text, at most `n` of them
abbrev pub scan : ℕ → Mode → List ℕ → Scan
scan zero mode bytes = record { pieces = []; last = mode; rest = bytes }
scan (suc n) mode bytes = scan_by (scan n) mode bytes (cut_of mode bytes)

-- where a comment that is not closed is told
abbrev pub place_by : Mode → Pieces → ℕ
place_by m.Block ps = opening 0 0 ps
place_by _ ps = extent ps

-- what is told of a text that is cut into these pieces, to this rest
abbrev pub told : List ℕ → Mode → Pieces → List ℕ → Result (List Lexeme) (FaultKind × ℕ)
told bytes m.Block ps [] = Err (f.OpenComment, opening 0 0 ps)
told bytes m.Plain ps [] = Ok (lexemes 0 bytes ps ++ [])
told bytes m.Line ps [] = Ok (lexemes 0 bytes ps ++ ending m.Line (length bytes))
told bytes mode ps (b ∷ rest) = if begins_comment (b ∷ rest) then Err (f.OpenComment, place_by mode ps) else Err (f.BadToken, extent ps)

-- what is told of a text by its pieces
abbrev pub told_of : List ℕ → Scan → Result (List Lexeme) (FaultKind × ℕ)
told_of bytes s = told bytes s.last s.pieces s.rest

-- the tokens that a text spells, or its fault and where that stands
abbrev pub answer : List ℕ → Result (List Lexeme) (FaultKind × ℕ)
answer bytes = told_of bytes (scan (length bytes) m.Plain bytes)
