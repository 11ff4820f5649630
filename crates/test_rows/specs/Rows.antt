-- Which rows a text has.
use Rattle.std.specs.Cmp.Lexicographic.{pointwise}
use Rattle.std.specs.List.{join_with_byte, slice_split}
use Rattle.std.specs.Prelude.{ℕ, ◌==◌, ◌-◌, Bool, false, ◌&&◌, not, cond, nat_eq, List, [], ◌∷◌, length, take, drop, Option, None, Some, is_some}
use Rattle.test_rows.specs.declared.reading.Row.{Row}

-- a text with its title, and what must be told of it
pub record TextRow : Type 0 where
  pub title : List ℕ
  pub given : List ℕ
  pub wanted : List ℕ

-- the row that code has
abbrev pub row_of : Row → TextRow
row_of r = record { title = r.title.items; given = r.given.items; wanted = r.wanted.items }

-- a text without the newline at its end, where there is one
abbrev pub without_end : List ℕ → List ℕ
without_end text = cond (pointwise nat_eq (drop (length text - 1) text) (10 ∷ [])) (take (length text - 1) text) text

-- the lines of a text, of which a newline ends the last or does not
abbrev pub lines_of : List ℕ → List (List ℕ)
lines_of text = slice_split (λ b. b == 10) (without_end text)

-- what stands behind the `==` that begins a line, if one does: the line begins a row, of this title
abbrev pub title_of : List ℕ → Option (List ℕ)
title_of [] = None
title_of (a ∷ []) = None
title_of (a ∷ b ∷ title) = cond ((a == 61) && (b == 61)) (Some title) None

-- a line begins a row
abbrev pub begins_row : List ℕ → Bool
begins_row line = is_some (title_of line)

-- a line is `--`, which parts a text from what must be told of it
abbrev pub is_parting : List ℕ → Bool
is_parting (a ∷ b ∷ []) = (a == 45) && (b == 45)
is_parting _ = false

-- the lines before the first that begins a row, or all
abbrev pub own : List (List ℕ) → List (List ℕ)
own [] = []
own (line ∷ lines) = cond (begins_row line) [] (line ∷ own lines)

-- the lines before the first that parts, or all
abbrev pub before : List (List ℕ) → List (List ℕ)
before [] = []
before (line ∷ lines) = cond (is_parting line) [] (line ∷ before lines)

-- the lines behind the first that parts, if one does
abbrev pub behind : List (List ℕ) → List (List ℕ)
behind [] = []
behind (line ∷ lines) = cond (is_parting line) lines (behind lines)

-- the row of a title and the lines behind it: its text, and what must be told of it, each with a newline between two lines
abbrev pub text_row : List ℕ → List (List ℕ) → TextRow
text_row title lines = record { title = title; given = join_with_byte 10 (before lines); wanted = join_with_byte 10 (behind lines) }

-- a row before others, where a line begins one
abbrev pub put_row : Option (List ℕ) → List (List ℕ) → List TextRow → List TextRow
put_row None lines rows = rows
put_row (Some title) lines rows = text_row title (own lines) ∷ rows

-- the rows that begin among these lines, in order
abbrev pub rows_of : List (List ℕ) → List TextRow
rows_of [] = []
rows_of (line ∷ lines) = put_row (title_of line) lines (rows_of lines)

-- a byte that is no blank and no newline
abbrev pub is_kept : ℕ → Bool
is_kept b = not (b == 32) && not (b == 10)
