-- Which blocks a run enters, and that their entry facts hold there.
use Rattle.std.specs.Prelude.{◌≡◌, ℕ, zero, suc, All, List, ◌∷◌, Option, Some, None, slice_get, slice_index}
use Rattle.code_form.specs.Form.{Instruction, Call, Jump, Branch, Block, Function, Image}
use Rattle.code_form.specs.Effects.{code_run}
use Rattle.code_form.specs.Code.{Core, Frame, Running, and_then, code, if_zero}
use Rattle.code_form.specs.Facts.{FactHolds}

-- the block that a function begins at
abbrev pub first_block : Option Function → Option Block
first_block g = and_then g (λ h. slice_get h.blocks 0)

-- the block that the first of these instructions of a call leads to, where it leads to the entry of one: by a jump, a branch or a call
abbrev pub led_to : Image → Frame → List Instruction → Option Block
led_to C f (Jump b ∷ _) = slice_get f.function.blocks b
led_to C f (Branch a b c ∷ _) = if_zero (slice_index f.registers a) (slice_get f.function.blocks c) (slice_get f.function.blocks b)
led_to C f (Call to g args ∷ _) = first_block (slice_get C.functions g)
led_to C f _ = None

-- the block that the next instruction of a state leads to
abbrev pub next_block : Image → Core → Option Block
next_block C (Running f st al o) = led_to C f f.rest
next_block C _ = None

-- the block that a run enters by its k-th instruction; it begins in the first block of `main`
abbrev pub entered_after : Image → ℕ → Option Block
entered_after C zero = first_block (slice_get C.functions 0)
entered_after C (suc k) = next_block C (code_run (code C) k).0

-- a state is at the entry of a block, and each entry fact of the block holds of the call that runs
abbrev pub IsAtEntry : Image → Block → Core → Type 0
IsAtEntry C b (Running f st al o) = (f.rest ≡ b.code) × All (FactHolds C.head al f) b.facts
IsAtEntry C b _ = ⊥

-- so it is wherever a run enters a block
abbrev pub EntryFactsHold : Image → Type 0
EntryFactsHold C = (k : ℕ) (b : Block) → entered_after C k ≡ Some b → IsAtEntry C b (code_run (code C) k).0
