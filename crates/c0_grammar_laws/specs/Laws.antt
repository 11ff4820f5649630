-- What holds of all tokens.
use Rattle.std.specs.Prelude.{◌≡◌, ◌↔◌, ℕ, suc, Bool, List, ◌∷◌, ◌++◌, length, Ok, Err}
use Rattle.c0_source.specs.Terminals.{Terminal, Word}
use Rattle.c0_syntax.specs.Trees.{Program}
use Rattle.c0_syntax.specs.Programs.{Reads}
use Rattle.c0_source.specs.SourceTexts.{IsSourceText}
use Rattle.c0_source.specs.Spelling.{AreSlices, Lexeme, Rise}
use Rattle.c0_grammar_laws.specs.declared.read_error.ReadError.{ReadError}
use Rattle.c0_grammar_laws.specs.declared.read_error.ReadError.TheVariants.{OutOfMemory, Syntax, TooDeep, TooLarge}
use Rattle.c0_grammar_laws.specs.Limits.{ReadsWithin, AreSigns, OneTooMany}
use Rattle.c0_grammar_laws.specs.ReadPrograms.{read_program}
use Rattle.c0_grammar_laws.specs.Tokens.{AreTokens}

-- no tokens read as two programs
abbrev pub OneProgram : Type 0
OneProgram = (loops : Bool) (ts : List Terminal) (p q : Program) → Reads loops ts p → Reads loops ts q → p ≡ q

-- reading from left to right gives a program exactly where the tokens read as it
abbrev pub ReadsExactly : Type 0
ReadsExactly = (loops : Bool) (ts : List Terminal) (program : Program) → (read_program loops ts ≡ Ok program) ↔ Reads loops ts program

-- what the lexer promises of its tokens makes them tokens of a text
abbrev pub LexedAreTokens : Type 0
LexedAreTokens = (bytes : List ℕ) (ts : List Lexeme) → IsSourceText bytes → AreSlices bytes ts → Rise 0 (length bytes) ts → AreTokens ts

-- a fault that is told of the token from which on so many stand; one name too many is told of that name, which may stand before the token that tells so
abbrev pub IsAt : ReadError → ℕ → Type 0
IsAt OutOfMemory n = ⊥
IsAt (Syntax m) n = m ≡ n
IsAt (TooDeep m) n = m ≡ n
IsAt (TooLarge m) n = ⊥

-- where reading meets such a fault at a token, no program begins with the tokens up to and with that one
abbrev pub FaultsAreCaused : Type 0
FaultsAreCaused =
    (loops : Bool) (before : List Terminal) (t : Terminal) (behind : List Terminal) (error : ReadError) → IsAt error (suc (length behind)) → read_program loops (before ++ t ∷ behind) ≡ Err error
    → (others : List Terminal) (program : Program) → Reads loops (before ++ t ∷ others) program → ⊥

-- the limits of the language are 200 nodes on a path, 1024 locals with parameters in a function, and 4096 functions
abbrev pub LimitsAreThese : Type 0
LimitsAreThese = (loops : Bool) (ts : List Terminal) (program : Program) → Reads loops ts program ↔ ReadsWithin 200 1024 4096 loops ts program

-- Where reading meets such a fault, at a token or at the end, the tokens before it begin a program that has at most one node on a path, and one local in a
-- function, more than the limits let it have.
abbrev pub FaultsAreFirst : Type 0
FaultsAreFirst =
    (loops : Bool) (ts : List Terminal) (error : ReadError) (n : ℕ) → IsAt error n → read_program loops ts ≡ Err error
    → (before : List Terminal) × (behind : List Terminal) × (others : List Terminal) × (program : Program)
    × (ts ≡ before ++ behind) × (length behind ≡ n) × ReadsWithin 201 1025 4096 loops (before ++ others) program

-- Where reading meets such a fault at a token, no program of at most 200 nodes on a path begins with the tokens up to and with that one, however many names it
-- declares: at the fault of depth, each program that begins so is too deep.
abbrev pub NoneIsShallow : Type 0
NoneIsShallow =
    (loops : Bool) (before : List Terminal) (t : Terminal) (behind : List Terminal) (error : ReadError) → IsAt error (suc (length behind)) → read_program loops (before ++ t ∷ behind) ≡ Err error
    → (locals functions : ℕ) (others : List Terminal) (program : Program) → ReadsWithin 200 locals functions loops (before ++ t ∷ others) program → ⊥

-- Where reading meets a name too many, the fault is told of a name. The tokens up to and with it go on with signs alone to a program, but for the limits, whose
-- last function has 1025 locals with its parameters, or which has 4097 functions: that name is the first too many.
abbrev pub NamesAreTooMany : Type 0
NamesAreTooMany =
    (loops : Bool) (ts : List Terminal) (n : ℕ) → read_program loops ts ≡ Err (TooLarge n)
    → (before : List Terminal) × (x : List ℕ) × (behind : List Terminal) × (signs : List Terminal) × (program : Program)
    × (ts ≡ before ++ Word x ∷ behind) × (length (Word x ∷ behind) ≡ n) × AreSigns signs × ReadsWithin 201 1025 4097 loops (before ++ Word x ∷ signs) program × OneTooMany 4096 program

-- where reading meets a syntax fault at a token, no program begins with the tokens up to and with that one, however deep it is and however many names it declares
abbrev pub SyntaxExcludes : Type 0
SyntaxExcludes =
    (loops : Bool) (before : List Terminal) (t : Terminal) (behind : List Terminal) → read_program loops (before ++ t ∷ behind) ≡ Err (Syntax (suc (length behind)))
    → (nodes locals functions : ℕ) (others : List Terminal) (program : Program) → ReadsWithin nodes locals functions loops (before ++ t ∷ others) program → ⊥
