use Rattle.std.proofs.Common.{map}
use Rattle.c0_types_declarations.specs.DeclarationViews.{typed_field_of}
use Rattle.c0_types_tables.specs.Views.{environment_of}
use Rattle.c0_types_declarations.proofs.FieldLists.{Holds}
use Rattle.c0_types_declarations.proofs.definitions.fields.Given as goal

-- the fields so far, and what is left to look at
abbrev pub invariant-loop-item : goal.invariant-loop-item
invariant-loop-item l = Holds (environment_of l.environment) (map typed_field_of l.fields.items) l.item-index l.items
