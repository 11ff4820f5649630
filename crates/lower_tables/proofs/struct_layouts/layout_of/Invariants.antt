use Rattle.std.proofs.Common.{◌≡◌, ◌++◌, map, drop}
use Rattle.c0_typed.specs.Views.{type_of}
use Rattle.lower_tables.specs.Kinds.{field_kinds}
use Rattle.lower_tables.specs.Tables.{layouts_read}
use Rattle.lower_tables.proofs.struct_layouts.layout_of.Given as goal

-- the cells so far, and then those of the rest
abbrev pub invariant-loop-field : goal.invariant-loop-field
invariant-loop-field l =
    field_kinds l.structs l.singles (layouts_read l.layouts) (map type_of l.fields) ≡ l.layout.items ++ field_kinds l.structs l.singles (layouts_read l.layouts) (map type_of (drop l.field-index l.fields))
