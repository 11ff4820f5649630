use Rattle.c0_types_tables.specs.Views.{structs_of}
use Rattle.c0_types_declarations.proofs.FieldLists.{Counts}
use Rattle.c0_types_declarations.proofs.definitions.cells_within.Given as goal

-- the cells so far, and those of what is left
abbrev pub invariant-loop-field : goal.invariant-loop-field
invariant-loop-field l = Counts (structs_of l.structs) l.sum l.field-index l.fields
