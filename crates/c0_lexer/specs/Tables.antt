-- Tables of texts.
use Rattle.std.specs.Prelude.{ℕ, List, [], ◌∷◌, length, take, Option, Some, None, if◌then◌else◌}
use Rattle.std.specs.Str.{bytes_eq}
use Rattle.std.specs.Borrow.{Bor}
use Rattle.c0_source.specs.declared.kind.Kind.{Kind}
use Rattle.c0_source.specs.declared.kind.Piece.{Piece}
use Rattle.c0_source.specs.declared.kind.Piece.TheVariants as p
use Rattle.c0_source.specs.Spelling.{Table}
use Rattle.c0_lexer.specs.declared.longest.LongestPiece.{LongestPiece}

-- an entry of a table as the definition of tokens has it
abbrev pub entry : Bor (List ℕ) × Kind → List ℕ × Kind
entry e = (e.0.now, e.1)

-- the first entry of the table that the text begins with: how long it is, and what it is
abbrev pub first_entry : Table → List ℕ → Option (ℕ × Piece)
first_entry [] text = None
first_entry (s ∷ ss) text = if bytes_eq s.0 (take (length s.0) text) then Some (length s.0, p.Token s.1) else first_entry ss text

-- a piece that was found, by its length and what it is
abbrev pub found : Option LongestPiece → Option (ℕ × Piece)
found None = None
found (Some x) = Some (x.length, x.piece)
