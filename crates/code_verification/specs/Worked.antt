-- Small images, of which some are well formed or verified and each other is not for one cause.
use Rattle.std.specs.Prelude.{ℕ, List, [], ◌∷◌, Option, Some, None}
use Rattle.code_form.specs.declared.form.Fact.{Fact}
use Rattle.code_form.specs.declared.form.Fact.TheVariants as fact
use Rattle.code_form.specs.declared.form.Kind.TheVariants as kind
use Rattle.code_form.specs.declared.form.Operation.TheVariants.{CheckIndex}
use Rattle.code_form.specs.Form.{Instruction, Simple, Aim, Load, Leave, Call, Jump, Branch, Return, ReturnVoid, Block, Function, Image}
use Rattle.code_verification.specs.Verified.{IsVerified}
use Rattle.code_verification.specs.WellFormed.{IsWellFormed}

-- a function of these blocks with one scope, over a pointer, a number, a truth value, an array and an offset in it
abbrev pub function_of_blocks : List Block → Function
function_of_blocks bs = record { result = Some kind.Int; parameters = 0; kinds = kind.Ptr 0 ∷ kind.Int ∷ kind.Bool ∷ kind.Arr 0 ∷ kind.Off 0 ∷ []; scopes = 1; blocks = bs }

-- a block that returns at once
abbrev pub idle_block : Block
idle_block = record { facts = []; code = ReturnVoid ∷ [] }

-- a function that takes nothing, does nothing and gives nothing
abbrev pub idle : Function
idle = record { result = None; parameters = 0; kinds = []; scopes = 0; blocks = idle_block ∷ [] }

-- an image of both
abbrev pub image_of_blocks : List Block → Image
image_of_blocks bs = record { piece = 64; head = record { texts = []; layouts = (kind.Int ∷ []) ∷ [] }; functions = function_of_blocks bs ∷ idle ∷ [] }

-- a block at whose entry the scope is shut
abbrev pub shut_block : List Instruction → Block
shut_block is = record { facts = fact.Shut 0 ∷ []; code = is }

-- an image with one such block
abbrev pub image_of_code : List Instruction → Image
image_of_code is = image_of_blocks (shut_block is ∷ [])

-- a block with these facts at its entry, which loads by the scope
abbrev pub loading_block : List Fact → Block
loading_block facts = record { facts = facts; code = Load 1 0 ∷ Leave 0 ∷ Return 1 ∷ [] }

-- the scope is aimed at the array, behind this offset, before a jump to such a block
abbrev pub image_through_jump : Option ℕ → List Fact → Image
image_through_jump off facts = image_of_blocks (shut_block (Aim 0 3 off 0 ∷ Jump 1 ∷ []) ∷ loading_block facts ∷ [])

-- an image that is well formed and not verified
abbrev pub IsRefused : Image → Type 0
IsRefused C = IsWellFormed C × (IsVerified C → ⊥)

-- the aim, and the check of its place, go through a jump
abbrev pub brings : Image
brings = image_of_blocks (shut_block (Simple (CheckIndex 4 3 1 1) ∷ Aim 0 3 (Some 4) 0 ∷ Jump 1 ∷ []) ∷ loading_block (fact.Inside 4 3 ∷ fact.Aimed 0 3 (Some 4) 0 ∷ []) ∷ [])

-- a function of one such block, with a second array
abbrev pub function_with_arrays : List Instruction → Function
function_with_arrays is = record {
  result = Some kind.Int;
  parameters = 0;
  kinds = kind.Ptr 0 ∷ kind.Int ∷ kind.Bool ∷ kind.Arr 0 ∷ kind.Off 0 ∷ kind.Arr 0 ∷ [];
  scopes = 1;
  blocks = shut_block is ∷ [];
}

-- an image of it
abbrev pub image_with_arrays : List Instruction → Image
image_with_arrays is = record { piece = 64; head = record { texts = []; layouts = (kind.Int ∷ []) ∷ [] }; functions = function_with_arrays is ∷ [] }

-- a function that does nothing for ever, with five scopes
abbrev pub turning : Function
turning = record { result = Some kind.Int; parameters = 0; kinds = []; scopes = 5; blocks = record { facts = []; code = Jump 0 ∷ [] } ∷ [] }

-- an image of it
abbrev pub many_scopes : Image
many_scopes = record { piece = 64; head = record { texts = []; layouts = [] }; functions = turning ∷ [] }

-- a block that calls and jumps
abbrev pub calling : Block
calling = shut_block (Call None 1 [] ∷ Jump 1 ∷ [])

-- an image that calls, jumps, branches and returns
abbrev pub branching : Image
branching = image_of_blocks (calling ∷ shut_block (Branch 2 0 2 ∷ []) ∷ shut_block (Return 1 ∷ []) ∷ [])
