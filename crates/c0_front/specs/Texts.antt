-- What a text is the text of, and why a text is refused: by the first stage that finds a fault.
use Rattle.std.specs.Prelude.{◌≡◌, ◌⊎◌, ℕ, Bool, List, length, Some}
use Rattle.c0_source.specs.declared.fault.Fault.{Fault}
use Rattle.c0_source.specs.SourceTexts.{IsRefused, IsSourceText}
use Rattle.c0_source.specs.Spelling.{Lexeme}
use Rattle.c0_lexer.specs.Lexed.{IsFault, IsLexed}
use Rattle.c0_syntax.specs.Programs.{Reads}
use Rattle.c0_syntax.specs.Trees as s
use Rattle.c0_syntax.specs.Views.{program_of}
use Rattle.c0_syntax.specs.declared.program.Program.{Program}
use Rattle.c0_typed.specs.Trees as y
use Rattle.c0_grammar_laws.specs.Parsing.{Meets, before_last, read_from}
use Rattle.c0_grammar_laws.specs.PlacedPrograms.{PlacedIn}
use Rattle.c0_rules.specs.FaultPrograms.{FaultAt}
use Rattle.c0_rules.specs.Programs.{typed_program}

-- the text has only bytes of ASCII, is not too long, and spells these tokens
pub record HasTokens (text : List ℕ) (tokens : List Lexeme) : Type 0 where
  pub source : IsSourceText text
  pub lexed : IsLexed text tokens

-- the tokens of the text read as this program; `loops`: whether there are `break` and `continue`
pub record IsTextOf (loops : Bool) (text : List ℕ) (program : s.Program) : Type 0 where
  pub tokens : List Lexeme
  pub spelled : HasTokens text tokens
  pub read : Reads loops (read_from tokens) program

-- ... and each part of it begins where the first of its tokens does, and ends where the last one does
pub record IsPlacedTextOf (loops : Bool) (text : List ℕ) (program : Program) : Type 0 where
  pub written : IsTextOf loops text (program_of program)
  pub placed : PlacedIn (before_last written.tokens) program
  pub ends : program.end ≡ length text

-- this program is well typed, and this is its typed tree
pub record IsTypedAs (loops : Bool) (text : List ℕ) (typed : y.Program) : Type 0 where
  pub program : s.Program
  pub written : IsTextOf loops text program
  pub rules : typed_program program ≡ Some typed

-- a fault of the text itself
abbrev pub IsSourceFault : List ℕ → Fault → Type 0
IsSourceFault text fault = IsRefused text fault

-- a fault of its tokens
abbrev pub IsTokenFault : List ℕ → Fault → Type 0
IsTokenFault text fault = IsSourceText text × IsFault fault.kind text fault

-- a fault that reading its tokens from left to right meets
abbrev pub IsReadingFault : Bool → List ℕ → Fault → Type 0
IsReadingFault loops text fault = (tokens : List Lexeme) × HasTokens text tokens × Meets loops tokens fault

-- no stage before the static rules takes the text
abbrev pub IsUnreadText : Bool → List ℕ → Fault → Type 0
IsUnreadText loops text fault = IsSourceFault text fault ⊎ IsTokenFault text fault ⊎ IsReadingFault loops text fault

-- the program of the text, each part of which stands where its tokens do, breaks a static rule at the fault's place
pub record IsRuleFault (loops : Bool) (text : List ℕ) (fault : Fault) : Type 0 where
  pub program : Program
  pub written : IsPlacedTextOf loops text program
  pub cause : FaultAt program fault

-- the first stage that finds a fault
abbrev pub IsRefusedText : Bool → List ℕ → Fault → Type 0
IsRefusedText loops text fault = IsUnreadText loops text fault ⊎ IsRuleFault loops text fault
