-- What code gives of what is read.
use Rattle.std.specs.Prelude.{◌≡◌, ◌⊎◌, ℕ, List, Result, Ok, Err}
use Rattle.code_form.specs.Form.{Image}
use Rattle.image_bytes.specs.Encodable.{IsImage}
use Rattle.instruction_table.specs.declared.fault.ImageFault.{ImageFault}
use Rattle.instruction_table.specs.declared.fault.ImageFault.TheVariants.{OutOfMemory}
use Rattle.image_reader.specs.declared.failure.Failure.{Failure}
use Rattle.image_reader.specs.declared.failure.Failure.TheVariants as f

-- a failure comes of want of memory, or is what is wrong
abbrev pub Fails : {Y : Type 0} → Failure → Result Y ImageFault → Type 0
Fails f.Memory read = Unit {0}
Fails (f.Fault fault) read = read ≡ Err fault

-- what was returned, seen by view, is what is read, unless memory ran out
abbrev pub Gives : {X Y : Type 0} → (X → Y) → Result X Failure → Result Y ImageFault → Type 0
Gives view (Ok x) read = read ≡ Ok (view x)
Gives view (Err e) read = Fails e read

-- the same of an answer that tells want of memory as a fault
abbrev pub Answers : {X Y : Type 0} → (X → Y) → Result X ImageFault → Result Y ImageFault → Type 0
Answers view (Ok x) read = read ≡ Ok (view x)
Answers view (Err fault) read = (fault ≡ OutOfMemory) ⊎ (read ≡ Err fault)

-- what holds of each image that has these bytes
abbrev pub EachImageOf : List ℕ → (Image → Type 0) → Type 0
EachImageOf bytes Holds = (C : Image) → IsImage bytes C → Holds C
