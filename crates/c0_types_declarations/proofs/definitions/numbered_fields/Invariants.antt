use Rattle.std.proofs.Common.{◌≡◌, map, take}
use Rattle.c0_typed.specs.Views.{type_of}
use Rattle.c0_types_tables.specs.Views.{environment_of}
use Rattle.c0_types_declarations.proofs.FieldLists.{numbers_of}
use Rattle.c0_types_declarations.proofs.definitions.numbered_fields.Given as goal

-- the types so far
abbrev pub invariant-loop-field : goal.invariant-loop-field
invariant-loop-field l = map type_of l.types.items ≡ numbers_of (environment_of l.environment) (take l.field-index l.fields)
