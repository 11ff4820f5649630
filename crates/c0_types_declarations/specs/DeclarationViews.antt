-- What code holds of headers and structs, and what it answers, read as the definitions have it.
use Rattle.std.specs.Prelude.{◌≡◌, ◌⊎◌, Bool, true, false, ◌&&◌, not, List, [], Option, Some, is_some, nat_le, Result, Ok, Err}
use Rattle.std.specs.String.{string_bytes}
use Rattle.c0_source.specs.declared.fault.Fault.{Fault}
use Rattle.c0_source.specs.declared.fault.FaultKind.TheVariants as k
use Rattle.c0_syntax.specs.Trees.{ValueType, TypedName}
use Rattle.c0_syntax.specs.Views.{name_of}
use Rattle.c0_syntax.specs.declared.name.Name as n
use Rattle.c0_syntax.specs.declared.program.TypedName as y
use Rattle.c0_rules.specs.FaultExpressions.{Told}
use Rattle.c0_rules.specs.FaultPrograms.{InFields, LargeCause, SecondName}
use Rattle.c0_rules.specs.Programs.{cell_limit, cells_in, fields_of, names_of}
use Rattle.c0_rules.specs.Types.{Name, Environment, FieldEntry, ResolvedType, and_so, are_distinct, cells_of, provided, resolved_type}
use Rattle.c0_types_tables.specs.Views.{resolved_of}
use Rattle.c0_types_declarations.specs.declared.definitions.Field.{Field}

-- Ok exactly where the test holds, want of memory aside
abbrev pub Accepts : {T : Type 0} → Result T Fault → Bool → Type 0
Accepts (Ok x) b = b ≡ true
Accepts (Err f) b = (f.kind ≡ k.OutOfMemory) ⊎ (b ≡ false)

-- a field
abbrev pub typed_field_of : Field → FieldEntry
typed_field_of f = record { name = string_bytes f.name; resolved = resolved_of f.resolved }

-- the type of what memory can hold here
abbrev pub held_type : Environment → ValueType → Option ResolvedType
held_type env a = and_so (resolved_type env.typedefs a) (λ r. provided (is_some (cells_of env.structs r)) (Some r))

-- the fields of a struct that may be defined here
abbrev pub new_fields : Environment → Name → List TypedName → Option (List FieldEntry)
new_fields env n items =
    provided (not (is_some (env.structs n)) && are_distinct (names_of items)) (
    and_so (fields_of env items) (λ fields. provided (nat_le (cells_in env.structs fields) cell_limit) (Some fields)))

-- what is wrong with a struct
abbrev pub InStruct : Environment → Fault → n.Name → List y.TypedName → Type 0
InStruct env fault x items =
    ((is_some (env.structs (name_of x)) ≡ true) × Told k.DuplicateName x.span fault)
    ⊎ SecondName fault [] items ⊎ InFields fault env items ⊎ LargeCause fault env items x.span
