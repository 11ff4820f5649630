-- The numbers of faults.
use Rattle.std.specs.Prelude.{ℕ, ◌+◌}
use Rattle.c0_source.specs.declared.fault.FaultKind.{FaultKind}
use Rattle.c0_source.specs.declared.fault.FaultKind.TheVariants as f
use Rattle.c0_source.specs.declared.fault.Fault.{Fault}

-- the number by which a kind of fault is shown: 10 to 12 of the text, 20 to 22 of its grammar and limits, 30 to 48 of types, 50 of memory
abbrev pub fault_number : FaultKind → ℕ
fault_number f.BadByte = 10
fault_number f.BadToken = 11
fault_number f.OpenComment = 12
fault_number f.Syntax = 20
fault_number f.TooDeep = 21
fault_number f.TooLarge = 22
fault_number f.UnknownName = 30
fault_number f.UnknownField = 31
fault_number f.DuplicateName = 32
fault_number f.TypeMismatch = 33
fault_number f.NotSmall = 34
fault_number f.VoidUse = 35
fault_number f.ArgumentCount = 36
fault_number f.NotDestination = 37
fault_number f.NotAssigned = 38
fault_number f.NoReturn = 39
fault_number f.NotDefined = 40
fault_number f.BadMain = 41
fault_number f.StructNotComplete = 42
fault_number f.NullDereference = 43
fault_number f.BadContract = 44
fault_number f.DeclMismatch = 45
fault_number f.StepDeclares = 46
fault_number f.BadUse = 47
fault_number f.NotInLoop = 48
fault_number f.OutOfMemory = 50

-- want of memory, which stands at no byte
abbrev pub memory_fault : Fault
memory_fault = record { kind = f.OutOfMemory; span = record { start = 0; end = 0 } }

-- a fault at one byte, or at the text's end
abbrev pub byte_fault : FaultKind → ℕ → Fault
byte_fault kind at = record { kind = kind; span = record { start = at; end = at + 1 } }
