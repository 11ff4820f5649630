-- Blocks under construction, as those of the definitions.
use Rattle.std.specs.Prelude.{ℕ, Bool, true, false, List, [], ◌∷◌, ◌++◌, map, reverse}
use Rattle.std.specs.declared.vec.Vec.{Vec}
use Rattle.std.specs.declared.alloc.Global.{Global}
use Rattle.code_form.specs.declared.form.Fact.{Fact}
use Rattle.code_form.specs.declared.form.Instruction.{Instruction as RustInstruction}
use Rattle.code_form.specs.Form.{Instruction, Jump, Return, ReturnVoid, instruction_of}
use Rattle.code_form.specs.Known as known
use Rattle.middle_form.specs.Scoped.{Code, Nothing, Do, Load, Store, LoadBy, StoreBy, Aim, Leave, Loose, Call, Fail, Then, Choose, Loop, Block, Exit}
use Rattle.middle_form.specs.Discipline.{Table, after, join}
use Rattle.codegen.specs.declared.emit.Exits.{Exits, Nowhere, Around'}
use Rattle.codegen.specs.declared.emit.Continuation.{Continuation}
use Rattle.codegen.specs.declared.emit.Continuation.TheVariants as way
use Rattle.codegen.specs.declared.known.Knows.{Knows}
use Rattle.codegen.specs.declared.known.Knows.TheVariants.{Unknown, Shut, Aimed}
use Rattle.codegen.specs.Generated.{scope_fact}

-- the instructions of a block that is held last first
abbrev pub back : List RustInstruction → List Instruction
back is = reverse (map instruction_of is)

-- those of some blocks
abbrev pub backs : List (Vec RustInstruction Global) → List (List Instruction)
backs bs = map (λ (b : Vec RustInstruction Global). back b.items) bs

-- some lists of facts
abbrev pub lists : List (Vec Fact Global) → List (List Fact)
lists ws = map (λ (w : Vec Fact Global). w.items) ws

-- the instruction by which code goes on so
abbrev pub way_of : Continuation → List Instruction
way_of (way.Jump b) = Jump b ∷ []
way_of (way.Return a) = Return a ∷ []
way_of way.ReturnVoid = ReturnVoid ∷ []

-- the ways out that exits are, the innermost first
abbrev pub exits_of : Exits → List (List Instruction)
exits_of Nowhere = []
exits_of (Around' w p outer) = way_of w ∷ exits_of outer

-- what is known of a scope
abbrev pub knows_of : Knows → known.Knows
knows_of Unknown = known.Unknown
knows_of Shut = known.KnownShut
knows_of (Aimed r off disp) = known.KnownAimed r off disp

-- what is known of scope s among others
abbrev pub of_scope : ℕ → Table → known.Knows
of_scope s k = k s

-- code is a load, a store or an aim
abbrev pub is_access : Code → Bool
is_access (Load to s r off disp) = true
is_access (Store s r off disp from) = true
is_access (LoadBy to s r off disp) = true
is_access (StoreBy s r off disp from) = true
is_access (Aim s r off disp) = true
is_access _ = false

-- What is known of scope s at the entry of each of the blocks that code needs beside its first instructions, the last block's first, where so much is
-- known of it before the code
abbrev pub known_back : ℕ → Code → known.Knows → List known.Knows
known_back s Nothing x = []
known_back s (Do o) x = []
known_back s (Load to z r off disp) x = []
known_back s (Store z r off disp from) x = []
known_back s (LoadBy to z r off disp) x = []
known_back s (StoreBy z r off disp from) x = []
known_back s (Aim z r off disp) x = []
known_back s (Leave z) x = []
known_back s (Loose z) x = []
known_back s (Call to f args) x = []
known_back s (Fail a) x = []
known_back s (Then a c) x = known_back s a x ++ known_back s c (after a (λ _. x) s)
known_back s (Choose r a c) x = x ∷ (known_back s c x ++ (x ∷ (known_back s a x ++ join (Choose r a c) (λ _. x) s ∷ [])))
known_back s (Loop test r body) x =
    known_back s test (join (Loop test r body) (λ _. x) s)
    ++ (after test (λ _. join (Loop test r body) (λ _. x) s) s
    ∷ (known_back s body (after test (λ _. join (Loop test r body) (λ _. x) s) s)
    ++ (join (Loop test r body) (λ _. x) s ∷ join (Loop test r body) (λ _. x) s ∷ [])))
known_back s (Block a) x = known_back s a x ++ join (Block a) (λ _. x) s ∷ []
known_back s (Exit k) x = []

-- in front of the facts of each block what is known of scope s there
abbrev pub in_front : ℕ → List known.Knows → List (List Fact) → List (List Fact)
in_front s xs [] = []
in_front s [] (w ∷ ws) = w ∷ in_front s [] ws
in_front s (x ∷ xs) (w ∷ ws) = (scope_fact s x ++ w) ∷ in_front s xs ws
