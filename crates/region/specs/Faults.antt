-- The faults of admission as they are shown.
use Rattle.std.specs.Prelude.{ℕ, List, ◌++◌, codes, decimal}
use Rattle.region.specs.declared.fault.AdmitFault.{AdmitFault}
use Rattle.region.specs.declared.fault.AdmitFault.TheVariants as f

-- the number of a fault
abbrev pub fault_number : AdmitFault → ℕ
fault_number (f.TooSmall need have) = 1
fault_number f.TooMany = 2
fault_number f.OutOfMemory = 3
fault_number (f.PieceDiffers program) = 4

-- the line of a fault
abbrev pub fault_line : AdmitFault → List ℕ
fault_line (f.TooSmall need have) = codes "too small: need " ++ decimal need ++ codes " have " ++ decimal have
fault_line f.TooMany = codes "too many"
fault_line f.OutOfMemory = codes "out of memory"
fault_line (f.PieceDiffers program) = codes "piece differs: program " ++ decimal program
