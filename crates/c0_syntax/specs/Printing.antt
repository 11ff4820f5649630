-- The text that a program is printed as, and what is promised of it.
use Rattle.std.specs.Prelude.{ℕ, zero, suc, Bool, true, false, ◌&&◌, ◌||◌, ◌==◌, List, [], ◌∷◌, ◌++◌, codes}
use Rattle.c0_source.specs.Bytes.{is_word}
use Rattle.c0_source.specs.Spelling.{Lexeme, Spells}
use Rattle.c0_source.specs.Terminals.{terminals}
use Rattle.c0_syntax.specs.declared.mark.Gap.{Gap}
use Rattle.c0_syntax.specs.declared.mark.Gap.TheVariants as g
use Rattle.c0_syntax.specs.Trees.{Program}
use Rattle.c0_syntax.specs.Programs.{Reads}
use Rattle.c0_syntax.specs.Spellings.{spelling}
use Rattle.c0_syntax.specs.Layouts.{Mark, layout_program}

-- a byte that makes one sign with another of it: `+ - & | < > /`
abbrev pub doubles : ℕ → Bool
doubles b = b == 43 || b == 45 || b == 38 || b == 124 || b == 60 || b == 62 || b == 47

-- Whether a token that begins with `b` may read as part of the one before it, which begins with `a`, if nothing stands between them: both
-- are words, or the signs make another sign (`==`, `++`, `->`, `/*`).
abbrev pub joins : ℕ → ℕ → Bool
joins a b = (is_word b && is_word a) || b == 61 || (doubles b && a == b) || (b == 62 && a == 45) || (b == 42 && a == 47)

-- the first byte, or 0
abbrev pub first_of : List ℕ → ℕ
first_of [] = 0
first_of (b ∷ bs) = b

-- four blanks a level
abbrev pub indentation : ℕ → List ℕ
indentation zero = []
indentation (suc level) = codes "    " ++ indentation level

-- the bytes of a gap; `joined` tells whether the tokens may not touch
abbrev pub gap_text : Gap → Bool → List ℕ
gap_text g.Touching false = []
gap_text g.Touching true = codes " "
gap_text g.Blank joined = codes " "
gap_text (g.Line level) joined = codes "\n" ++ indentation level
gap_text g.EmptyLine joined = codes "\n\n"

-- tokens with their gaps, and the end of the line; `before` is the first byte of the token before them
abbrev pub rendered : ℕ → List Mark → List ℕ
rendered before [] = codes "\n"
rendered before (m ∷ ms) =
    gap_text m.gap (joins before (first_of (spelling m.token))) ++ (spelling m.token ++ rendered (first_of (spelling m.token)) ms)

-- the text that a program is printed as
abbrev pub printed : Program → List ℕ
printed program = rendered 0 (layout_program g.Touching program)

-- These bytes spell tokens that read as this program.
pub record ReadsBack (loops : Bool) (bytes : List ℕ) (program : Program) : Type 0 where
  pub tokens : List Lexeme
  pub spelled : Spells bytes tokens
  pub reads : Reads loops (terminals tokens) program

-- Where some text reads as the program, so does the printed one. A tree that no text reads as, as one with a name that is no name, has no promise.
abbrev pub PrintsBack : List ℕ → Program → Type 0
PrintsBack text program = (loops : Bool) (bytes : List ℕ) → ReadsBack loops bytes program → ReadsBack loops text program
