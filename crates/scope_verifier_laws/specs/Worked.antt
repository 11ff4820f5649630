-- Small images, of which one has no fault and each other one.
use Rattle.std.specs.Prelude.{ℕ, List, [], ◌∷◌, Some, None, pos}
use Rattle.code_form.specs.declared.form.Kind.{Kind}
use Rattle.code_form.specs.declared.form.Kind.TheVariants as kind
use Rattle.code_form.specs.declared.form.Fact.{Fact}
use Rattle.code_form.specs.declared.form.Fact.TheVariants as fact
use Rattle.code_form.specs.declared.form.Operation.TheVariants.{Const, CheckNull, Null, Alloc}
use Rattle.code_form.specs.Form.{Instruction, Simple, Aim, Load, Store, Leave, Jump, Return, Block, Function, Image}

-- an image with these functions, and a layout of one number
abbrev pub image_of_functions : List Function → Image
image_of_functions fs = record { piece = 64; head = record { texts = []; layouts = (kind.Int ∷ []) ∷ [] }; functions = fs }

-- a function over a pointer and a number, with so many scopes and these blocks
abbrev pub main_of : ℕ → List Block → Function
main_of scopes bs = record { result = Some kind.Int; parameters = 0; kinds = kind.Ptr 0 ∷ kind.Int ∷ []; scopes = scopes; blocks = bs }

-- an image of one such function
abbrev pub image_of_blocks : ℕ → List Block → Image
image_of_blocks scopes bs = image_of_functions (main_of scopes bs ∷ [])

-- one of one block, with these facts at its entry
abbrev pub image_of_block : ℕ → List Fact → List Instruction → Image
image_of_block scopes facts is = image_of_blocks scopes (record { facts = facts; code = is } ∷ [])

-- one of one block with one scope, which is shut at its entry
abbrev pub image_of_code : List Instruction → Image
image_of_code is = image_of_block 1 (fact.Shut 0 ∷ []) is

-- a new struct gets a number, which is read back and returned
abbrev pub whole : List Instruction
whole = Simple (Alloc 0 0) ∷ Simple (Const 1 (pos 5)) ∷ Simple (CheckNull 0) ∷ Aim 0 0 None 0 ∷ Store 0 1 ∷ Leave 0 ∷ Aim 0 0 None 0 ∷ Load 1 0 ∷ Leave 0 ∷ Return 1 ∷ []

-- the same, without the first aim
abbrev pub without_aim : List Instruction
without_aim = Simple (Alloc 0 0) ∷ Simple (Const 1 (pos 5)) ∷ Simple (CheckNull 0) ∷ Store 0 1 ∷ Leave 0 ∷ Aim 0 0 None 0 ∷ Load 1 0 ∷ Leave 0 ∷ Return 1 ∷ []

-- NULL in place of the struct, and no check
abbrev pub without_check : List Instruction
without_check = Simple (Null 0) ∷ Simple (Const 1 (pos 5)) ∷ Aim 0 0 None 0 ∷ Store 0 1 ∷ Leave 0 ∷ Aim 0 0 None 0 ∷ Load 1 0 ∷ Leave 0 ∷ Return 1 ∷ []

-- the scope is not shut before the end
abbrev pub without_leave : List Instruction
without_leave = Simple (Alloc 0 0) ∷ Simple (Const 1 (pos 5)) ∷ Simple (CheckNull 0) ∷ Aim 0 0 None 0 ∷ Store 0 1 ∷ Leave 0 ∷ Aim 0 0 None 0 ∷ Load 1 0 ∷ Return 1 ∷ []

-- a jump to a block that is not there, in place of the return
abbrev pub with_jump : List Instruction
with_jump = Simple (Alloc 0 0) ∷ Simple (Const 1 (pos 5)) ∷ Simple (CheckNull 0) ∷ Aim 0 0 None 0 ∷ Store 0 1 ∷ Leave 0 ∷ Aim 0 0 None 0 ∷ Load 1 0 ∷ Leave 0 ∷ Jump 7 ∷ []

-- the pointer is stored in place of the number
abbrev pub with_pointer : List Instruction
with_pointer = Simple (Alloc 0 0) ∷ Simple (Const 1 (pos 5)) ∷ Simple (CheckNull 0) ∷ Aim 0 0 None 0 ∷ Store 0 0 ∷ Leave 0 ∷ Aim 0 0 None 0 ∷ Load 1 0 ∷ Leave 0 ∷ Return 1 ∷ []

-- a block that goes round, and asks for a check that it does not make again
abbrev pub turning : Image
turning = image_of_blocks 0 (record { facts = []; code = Simple (CheckNull 0) ∷ Jump 1 ∷ [] } ∷ record { facts = fact.Nonnull 0 ∷ []; code = Simple (Null 0) ∷ Jump 1 ∷ [] } ∷ [])

-- a main with a parameter
abbrev pub main_takes : Image
main_takes = image_of_functions (record { result = Some kind.Int; parameters = 1; kinds = kind.Int ∷ []; scopes = 0; blocks = record { facts = []; code = Return 0 ∷ [] } ∷ [] } ∷ [])

-- an image with this kind in a layout
abbrev pub with_cell : Kind → Image
with_cell k = record { piece = 64; head = record { texts = []; layouts = (k ∷ []) ∷ [] }; functions = main_of 0 (record { facts = []; code = Return 1 ∷ [] } ∷ []) ∷ [] }
