-- The faults of verification as they are shown.
use Rattle.std.specs.Prelude.{ℕ, List, ◌++◌, codes, decimal}
use Rattle.scope_verifier_laws.specs.declared.fault.VerifyFault.{VerifyFault}
use Rattle.scope_verifier_laws.specs.declared.fault.VerifyFault.TheVariants as f

-- the number of a fault
abbrev pub fault_number : VerifyFault → ℕ
fault_number f.NotAimed = 1
fault_number f.NotChecked = 2
fault_number f.OpenScope = 3
fault_number f.TooManyScopes = 4
fault_number f.OutOfCode = 5
fault_number f.OperandKind = 6
fault_number f.EntryFacts = 7
fault_number f.OutOfMemory = 8

-- `verify fault NUMBER`
abbrev pub fault_line : VerifyFault → List ℕ
fault_line fault = codes "verify fault " ++ decimal (fault_number fault)
