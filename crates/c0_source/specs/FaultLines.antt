-- The bytes that are printed of a fault.
use Rattle.std.specs.Prelude.{ℕ, List, ◌++◌, codes, decimal}
use Rattle.c0_source.specs.declared.fault.FaultKind.{FaultKind}
use Rattle.c0_source.specs.declared.fault.FaultKind.TheVariants as f
use Rattle.c0_source.specs.declared.fault.Fault.{Fault}
use Rattle.c0_source.specs.FaultNumbers.{fault_number}

-- the name by which a kind of fault is shown
abbrev pub name_of_kind : FaultKind → List ℕ
name_of_kind f.BadByte = codes "BadByte"
name_of_kind f.BadToken = codes "BadToken"
name_of_kind f.OpenComment = codes "OpenComment"
name_of_kind f.Syntax = codes "Syntax"
name_of_kind f.TooDeep = codes "TooDeep"
name_of_kind f.TooLarge = codes "TooLarge"
name_of_kind f.UnknownName = codes "UnknownName"
name_of_kind f.UnknownField = codes "UnknownField"
name_of_kind f.DuplicateName = codes "DuplicateName"
name_of_kind f.TypeMismatch = codes "TypeMismatch"
name_of_kind f.NotSmall = codes "NotSmall"
name_of_kind f.VoidUse = codes "VoidUse"
name_of_kind f.ArgumentCount = codes "ArgumentCount"
name_of_kind f.NotDestination = codes "NotDestination"
name_of_kind f.NotAssigned = codes "NotAssigned"
name_of_kind f.NoReturn = codes "NoReturn"
name_of_kind f.NotDefined = codes "NotDefined"
name_of_kind f.BadMain = codes "BadMain"
name_of_kind f.StructNotComplete = codes "StructNotComplete"
name_of_kind f.NullDereference = codes "NullDereference"
name_of_kind f.BadContract = codes "BadContract"
name_of_kind f.DeclMismatch = codes "DeclMismatch"
name_of_kind f.StepDeclares = codes "StepDeclares"
name_of_kind f.BadUse = codes "BadUse"
name_of_kind f.NotInLoop = codes "NotInLoop"
name_of_kind f.OutOfMemory = codes "OutOfMemory"

-- `fault NUMBER NAME`: a fault is shown by its kind alone, its number in decimal
abbrev pub fault_line : Fault → List ℕ
fault_line fault = codes "fault " ++ (decimal (fault_number fault.kind) ++ (codes " " ++ name_of_kind fault.kind))
