-- What holds of the code and of the image of every well-typed program.
use Rattle.std.specs.Prelude.{◌≡◌, ℕ, ◌<◌, ◌≤◌, Bool, true, All, None, FitsSigned, length, take}
use Rattle.std.specs.Int.{w32}
use Rattle.cells.specs.Pieces.{is_piece}
use Rattle.c0_typed.specs.Typing.{FitsProgram}
use Rattle.c0_typed.specs.Views.{program_of}
use Rattle.c0_typed.specs.declared.tree.Typed.{Typed}
use Rattle.code_form.specs.declared.form.Fact.{Fact}
use Rattle.code_form.specs.declared.form.Fact.TheVariants as fact
use Rattle.code_form.specs.declared.form.Operation.{Operation}
use Rattle.code_form.specs.declared.form.Operation.TheVariants as op
use Rattle.code_form.specs.Counts.{has_few_items}
use Rattle.code_form.specs.Form.{Simple, Aim, Instruction, Block, Function, Image}
use Rattle.middle_form.specs.WellFormed.{is_well_formed}
use Rattle.lower_tables.specs.Gathered.{singles_of}
use Rattle.lower.specs.Lowered.{lowered}
use Rattle.code_verification.specs.Verified.{IsVerified, NamesFacts}
use Rattle.middle_form.specs.Guarded.{is_guarded_program}
use Rattle.scope_verifier_laws.specs.Numbers.{is_cell_kind, is_result_kind, names_layout}
use Rattle.scope_verifier_laws.specs.Faults.{fault_of}
use Rattle.c0_well_formed.specs.Images.{image_of_tree}

-- the structured code of a well-typed program is well formed
abbrev pub LoweredIsWellFormed : Type 0
LoweredIsWellFormed = (checks : Bool) (typed : Typed) → FitsProgram (program_of typed) → is_well_formed (lowered (singles_of typed) checks typed) ≡ true

-- in the structured code of a well-typed program each load and store of a place comes behind its check
abbrev pub LoweredIsGuarded : Type 0
LoweredIsGuarded = (checks : Bool) (typed : Typed) → FitsProgram (program_of typed) → is_guarded_program (lowered (singles_of typed) checks typed) ≡ true

-- the image of a well-typed program is verified
abbrev pub ImagesAreVerified : Type 0
ImagesAreVerified = (checks : Bool) (cells : ℕ) (typed : Typed) → FitsProgram (program_of typed) → IsVerified (image_of_tree checks cells typed)

-- a number or a displacement that a simple instruction names is one of 32 bits, and a character is below 128
abbrev pub NamesNumber : Operation → Type 0
NamesNumber (op.Const d z) = FitsSigned w32 z
NamesNumber (op.CharOf d c) = c < 128
NamesNumber (op.Prefetch r off disp) = disp < 4294967296
NamesNumber _ = Unit {0}

-- the same of any instruction, and of the displacement that it aims a scope at
abbrev pub NamesNumbers : Instruction → Type 0
NamesNumbers (Simple o) = NamesNumber o
NamesNumbers (Aim s r off disp) = disp < 4294967296
NamesNumbers _ = Unit {0}

-- the displacement at which a scope is aimed is one of 32 bits, where an entry fact tells of one
abbrev pub TellsNumber : Fact → Type 0
TellsNumber (fact.Aimed s r off disp) = disp < 4294967296
TellsNumber _ = Unit {0}

-- the kinds of a function's registers name one of so many layouts; those of its parameters and of its result are kinds of values; it has at most four scopes;
-- its instructions name numbers of 32 bits and characters below 128, and its entry facts tell of displacements of 32 bits
pub record IsConsistentFunction (count : ℕ) (f : Function) : Type 0 where
  pub kinds : All (λ k. names_layout count k ≡ true) f.kinds
  pub parameters : All (λ k. is_cell_kind count k ≡ true) (take f.parameters f.kinds)
  pub result : is_result_kind count f.result ≡ true
  pub scopes : f.scopes ≤ 4
  pub numbers : All (λ (b : Block). All NamesNumbers b.code) f.blocks
  pub told : All (λ (b : Block). All TellsNumber b.facts) f.blocks

-- A piece has one of the sizes that there are; no list has 2^32 items; each kind names a layout that is there, and no cell of a layout is an offset; each byte of a text is below 128; entry facts
-- name registers and scopes that are there
pub record IsConsistent (C : Image) : Type 0 where
  pub pieces : is_piece C.piece ≡ true
  pub few : has_few_items C ≡ true
  pub texts : All (All (λ b. b < 128)) C.head.texts
  pub layouts : All (All (λ k. is_cell_kind (length C.head.layouts) k ≡ true)) C.head.layouts
  pub functions : All (IsConsistentFunction (length C.head.layouts)) C.functions
  pub facts : All NamesFacts C.functions

-- so is the image of a well-typed program, for pieces of one of these sizes, where no list of it has 2^32 items
abbrev pub ImagesAreConsistent : Type 0
ImagesAreConsistent =
    (checks : Bool) (cells : ℕ) (typed : Typed) → is_piece cells ≡ true → FitsProgram (program_of typed) → has_few_items (image_of_tree checks cells typed) ≡ true → IsConsistent (image_of_tree checks cells typed)

-- The image of a well-typed program has no fault, for pieces of any number of cells and lists of any length
abbrev pub ImagesHaveNoFault : Type 0
ImagesHaveNoFault = (checks : Bool) (cells : ℕ) (typed : Typed) → FitsProgram (program_of typed) → fault_of (image_of_tree checks cells typed) ≡ None
