-- What the parser answers for the tokens of a text.
use Rattle.std.specs.Prelude.{◌≡◌, ℕ, zero, suc, ◌-◌, ◌⊎◌, Bool, List, [], ◌∷◌, length, take, Err}
use Rattle.c0_source.specs.declared.fault.FaultKind.TheVariants as f
use Rattle.c0_source.specs.declared.fault.Fault.{Fault}
use Rattle.c0_source.specs.FaultNumbers.{byte_fault, memory_fault}
use Rattle.c0_source.specs.Spelling.{Lexeme}
use Rattle.c0_source.specs.Terminals.{Terminal, terminals}
use Rattle.c0_grammar_laws.specs.declared.read_error.ReadError.{ReadError}
use Rattle.c0_grammar_laws.specs.declared.read_error.ReadError.TheVariants.{OutOfMemory, Syntax, TooDeep, TooLarge}
use Rattle.c0_grammar_laws.specs.ReadPrograms.{read_program}

-- the tokens before the last one, which is the end of the text
abbrev pub before_last : List Lexeme → List Lexeme
before_last ts = take (length ts - 1) ts

-- what the grammar sees of them
abbrev pub read_from : List Lexeme → List Terminal
read_from ts = terminals (before_last ts)

-- where a token starts, by how many stand before it
abbrev pub start_at : List Lexeme → ℕ → ℕ
start_at [] i = 0
start_at (t ∷ ts) zero = t.start
start_at (t ∷ ts) (suc i) = start_at ts i

-- where the token starts from which on `n` tokens stand, the end of the text not among them
abbrev pub place_of : List Lexeme → ℕ → ℕ
place_of ts n = start_at ts (length ts - 1 - n)

-- what is told of the fault that reading meets first
abbrev pub fault_by : List Lexeme → ReadError → Fault
fault_by ts OutOfMemory = memory_fault
fault_by ts (Syntax n) = byte_fault f.Syntax (place_of ts n)
fault_by ts (TooDeep n) = byte_fault f.TooDeep (place_of ts n)
fault_by ts (TooLarge n) = byte_fault f.TooLarge (place_of ts n)

-- reading from left to right meets this fault
pub record Meets (loops : Bool) (ts : List Lexeme) (fault : Fault) : Type 0 where
  pub error : ReadError
  pub met : read_program loops (read_from ts) ≡ Err error
  pub told : fault ≡ fault_by ts error

-- why no program is given: a fault that reading meets, or want of memory
abbrev pub IsReadFault : Bool → List Lexeme → Fault → Type 0
IsReadFault loops ts fault = (fault ≡ memory_fault) ⊎ Meets loops ts fault
