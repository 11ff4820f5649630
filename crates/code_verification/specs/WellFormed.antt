-- Images that name nothing but what is there, each of the right kind, whose scopes are aimed where they are used and shut where that is asked, and each
-- block of which ends in one instruction that leads out of it.
use Rattle.std.specs.Prelude.{◌≡◌, ◌≤◌, Bool, true, false, List, [], ◌∷◌, All, Option, Some, None, length, slice_get}
use Rattle.code_form.specs.declared.form.Kind.TheVariants as kind
use Rattle.code_form.specs.Form.{Instruction, Block, Function, Image}
use Rattle.code_form.specs.Code.{call_fits}
use Rattle.code_form.specs.Known.{Known, after, at_entry, facts_known}
use Rattle.code_form.specs.Asked.{Enters, IsAllowed, leads_out}

module _ (C : Image) (f : Function) where
  -- each of these instructions may come where so much is known, and the last of them, and no other, leads out of the block
  abbrev pub IsRest : Known → List Instruction → Type 0
  IsRest k [] = ⊥
  IsRest k (i ∷ rest) = IsAllowed C f k i × elim (leads_out i) as (λ b. Type 0) [ true ↦ rest ≡ [] | false ↦ IsRest (after i k) rest ]

  -- a block is right where its entry facts are known
  abbrev pub IsWellFormedBlock : Block → Type 0
  IsWellFormedBlock b = IsRest (facts_known b.facts) b.code

-- a function
pub record IsWellFormedFunction (C : Image) (f : Function) : Type 0 where
  -- its parameters are registers
  pub parameters : f.parameters ≤ length f.kinds
  -- it begins somewhere, and all scopes are shut there
  pub begins : Enters C f at_entry 0
  pub blocks : All (IsWellFormedBlock C f) f.blocks

-- `main` takes nothing and gives a number
abbrev pub main_fits : Option Function → Bool
main_fits None = false
main_fits (Some g) = call_fits (kind.Int ∷ []) g.result g.parameters g.kinds (Some 0) []

-- an image
pub record IsWellFormed (C : Image) : Type 0 where
  pub main : main_fits (slice_get C.functions 0) ≡ true
  pub functions : All (IsWellFormedFunction C) C.functions
