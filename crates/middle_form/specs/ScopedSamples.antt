-- Scoped programs whose meaning is computed.
use Rattle.std.specs.Prelude.{List, [], ◌∷◌, Some, None, pos}
use Rattle.code_form.specs.declared.form.Kind.{Kind}
use Rattle.code_form.specs.declared.form.Kind.TheVariants as kind
use Rattle.code_form.specs.declared.form.Operation.TheVariants.{Const, Move, Alloc}
use Rattle.middle_form.specs.Samples.{head}
use Rattle.middle_form.specs.Scoped.{Code, Do, Store, LoadBy, Aim, Leave, Then, Block, Exit, Program}

-- a number, a truth value, a second number and a pointer
abbrev pub registers : List Kind
registers = kind.Int ∷ kind.Bool ∷ kind.Int ∷ kind.Ptr 0 ∷ []

-- `main` alone, over these registers, with one scope
abbrev pub program_of : Code → Program
program_of a = record {
  head = head;
  functions = record {
    result = Some kind.Int;
    parameters = 0;
    kinds = registers;
    scopes = 1;
    body = a;
    value = 0;
  } ∷ [];
}

-- these parts in order, and then the scope is left
abbrev pub held : List Code → Code
held [] = Leave 0
held (a ∷ rest) = Then a (held rest)

-- 7 is stored in a struct, and the scope is aimed at its cell for these parts
abbrev pub holding : List Code → Program
holding parts = program_of (Then (Do (Alloc 3 0)) (Then (Do (Const 2 (pos 7))) (Then (Store 0 3 None 0 2) (Then (Aim 0 3 None 0) (held parts)))))

-- two loads by one scope
abbrev pub shared : Program
shared = holding (LoadBy 2 0 3 None 0 ∷ LoadBy 0 0 3 None 0 ∷ [])

-- the register of the pointer is written before the load
abbrev pub stale : Program
stale = holding (Do (Move 3 3) ∷ LoadBy 0 0 3 None 0 ∷ [])

-- the scope is left before the load
abbrev pub left : Program
left = holding (Leave 0 ∷ LoadBy 0 0 3 None 0 ∷ [])

-- a block that is left with its scope open
abbrev pub left_open : Program
left_open = program_of (Block (Then (Aim 0 3 None 0) (Exit 0)))

-- ... and with its scope shut
abbrev pub left_shut : Program
left_shut = program_of (Block (Then (Aim 0 3 None 0) (Then (Leave 0) (Exit 0))))
