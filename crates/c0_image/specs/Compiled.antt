-- The image of a text.
use Rattle.std.specs.Prelude.{◌≡◌, ℕ, Bool, List}
use Rattle.c0_front.specs.Texts.{IsTypedAs}
use Rattle.c0_typed.specs.Trees.{Program}
use Rattle.c0_typed.specs.Views.{program_of}
use Rattle.c0_typed.specs.declared.tree.Typed.{Typed}
use Rattle.code_form.specs.Form.{Image}
use Rattle.code_form.specs.Code.{Covered}
use Rattle.code_verification.specs.Entries.{EntryFactsHold}
use Rattle.code_verification.specs.Verified.{IsVerified}
use Rattle.c0_well_formed.specs.Images.{image_of_tree}
use Rattle.c0_well_formed.specs.Laws.{IsConsistent}
use Rattle.c0_image.specs.Correct.{Behaves}

-- the image, for pieces of so many cells, is that of the one program that the text is the text of: it does what that means, both ways; `loops`: whether there
-- are `break` and `continue`
pub record IsCompiled (loops : Bool) (text : List ℕ) (checks : Bool) (cells : ℕ) (C : Image) : Type 0 where
  pub program : Program
  pub typed : IsTypedAs loops text program
  -- and of no other program
  pub only : (other : Program) → IsTypedAs loops text other → other ≡ program
  -- it is the image that the definitions give of a typed tree of that program
  pub tree : Typed
  pub read_as : program_of tree ≡ program
  pub made : C ≡ image_of_tree checks cells tree
  pub behaves : Behaves program checks C
  -- no function has more than four scopes, none of its runs gets stuck or allocates, calls or returns with a scope open
  pub covered : Covered C
  -- it may be run without a look at what it does: it is verified, and names nothing but what is there
  pub verified : IsVerified C
  pub consistent : IsConsistent C

-- at each level and for pieces of each size a text has one image: any two are the same, whichever typed trees of its program they were made of
abbrev pub OneImage : Type 0
OneImage = (loops : Bool) (text : List ℕ) (checks : Bool) (cells : ℕ) (C D : Image) → IsCompiled loops text checks cells C → IsCompiled loops text checks cells D → C ≡ D

-- whenever a run of an image of a text enters a block, the block's entry facts hold
abbrev pub FactsOfImagesHold : Type 0
FactsOfImagesHold = (loops : Bool) (text : List ℕ) (checks : Bool) (cells : ℕ) (C : Image) → IsCompiled loops text checks cells C → EntryFactsHold C
