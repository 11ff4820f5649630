use Rattle.std.proofs.Common.{map, vec_len}
use Rattle.c0_types_declarations.specs.DeclarationViews.{typed_field_of}
use Rattle.c0_types_tables.specs.Views.{field_table_of}
use Rattle.c0_types_declarations.proofs.FieldLists.{Tabled}
use Rattle.c0_types_declarations.proofs.definitions.field_table.Given as goal

-- the fields that are in the table, and those that are not yet
abbrev pub invariant-loop-field : goal.invariant-loop-field
invariant-loop-field l = Tabled (map typed_field_of l.fn.fields.items) l.fields.items (field_table_of l.table)

abbrev pub decreases-loop-field : goal.decreases-loop-field
decreases-loop-field l = vec_len l.fields
