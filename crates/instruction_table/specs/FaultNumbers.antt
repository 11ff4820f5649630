-- The faults of images as they are shown.
use Rattle.std.specs.Prelude.{ℕ, List, ◌++◌, codes, decimal}
use Rattle.instruction_table.specs.declared.fault.ImageFault.{ImageFault}
use Rattle.instruction_table.specs.declared.fault.ImageFault.TheVariants as f

-- the number of a fault
abbrev pub fault_number : ImageFault → ℕ
fault_number f.Short = 1
fault_number f.Magic = 2
fault_number f.Version = 3
fault_number f.BadOp = 4
fault_number f.BadOperand = 5
fault_number f.Trailing = 6
fault_number f.OutOfMemory = 7

-- `image fault NUMBER`
abbrev pub fault_line : ImageFault → List ℕ
fault_line fault = codes "image fault " ++ decimal (fault_number fault)
