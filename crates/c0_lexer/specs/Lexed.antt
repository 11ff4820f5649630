-- What the lexer gives for a text.
use Rattle.std.specs.Prelude.{◌≡◌, ℕ, ◌+◌, ◌==◌, not, ◌&&◌, if◌then◌else◌, List, [], ◌∷◌, ◌++◌, length, map, Result, Ok, Err, Vec}
use Rattle.std.specs.declared.alloc.Global.{Global}
use Rattle.c0_source.specs.declared.fault.FaultKind.{FaultKind}
use Rattle.c0_source.specs.declared.fault.FaultKind.TheVariants as f
use Rattle.c0_source.specs.declared.fault.Fault.{Fault}
use Rattle.c0_source.specs.declared.fault.Span.{Span}
use Rattle.c0_source.specs.FaultNumbers.{byte_fault, memory_fault}
use Rattle.c0_source.specs.Spelling.{Lexeme, Spells, Stops, begins_comment, end_of_text}
use Rattle.c0_source.specs.declared.kind.Mode.{Mode}
use Rattle.c0_source.specs.declared.kind.Mode.TheVariants as m
use Rattle.c0_lexer.specs.declared.token.Token.{Token}

-- a token without its place in memory
abbrev pub lexeme : Token → Lexeme
lexeme t = record { kind = t.kind; text = t.text.now; start = t.start }

-- The tokens are those that the text spells, and the token of no bytes at the text's end.
pub record IsLexed (bytes : List ℕ) (tokens : List Lexeme) : Type 0 where
  pub all : List Lexeme
  pub spelled : Spells bytes all
  pub given : tokens ≡ all ++ end_of_text bytes ∷ []

-- A fault stands at one byte, and the text has it there.
pub record StopsAt (bytes : List ℕ) (fault : FaultKind) (span : Span) : Type 0 where
  pub cause : Stops bytes fault span.start
  pub end : span.end ≡ span.start + 1

-- the faults of a text: bytes that are no token, a comment or an annotation that is not closed, and want of memory, which has no place
abbrev pub IsFault : FaultKind → List ℕ → Fault → Type 0
IsFault f.BadToken bytes fault = StopsAt bytes f.BadToken fault.span
IsFault f.OpenComment bytes fault = StopsAt bytes f.OpenComment fault.span
IsFault f.OutOfMemory bytes fault = fault ≡ memory_fault
IsFault _ bytes fault = ⊥

-- what is answered for a text that spells these tokens: they, unless memory ran out
abbrev pub Answers : List ℕ → List Lexeme → Result (Vec Token Global) Fault → Type 0
Answers bytes ts (Ok v) = map lexeme v.items ≡ ts ++ end_of_text bytes ∷ []
Answers bytes ts (Err fault) = fault ≡ memory_fault

-- where a comment or an annotation that is not closed is told: an annotation at its opening
abbrev pub open_place : Mode → ℕ → ℕ → ℕ
open_place m.Block opening at = opening
open_place _ opening at = at

-- the fault of a text that is cut into pieces up to `at`, where no piece stands
abbrev pub rest_fault : Mode → ℕ → ℕ → List ℕ → Fault
rest_fault mode opening at rest = if not (begins_comment rest) && not (length rest == 0) then byte_fault f.BadToken at else byte_fault f.OpenComment (open_place mode opening at)
