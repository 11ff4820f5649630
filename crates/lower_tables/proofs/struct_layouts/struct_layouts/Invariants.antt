use Rattle.std.proofs.Common.{◌≡◌, [], map, drop}
use Rattle.c0_typed.specs.Views.{struct_of}
use Rattle.lower_tables.specs.Kinds.{struct_layouts}
use Rattle.lower_tables.specs.Tables.{layouts_read}
use Rattle.lower_tables.proofs.struct_layouts.struct_layouts.Given as goal

-- the layouts from those so far
abbrev pub invariant-loop-fields : goal.invariant-loop-fields
invariant-loop-fields l =
    struct_layouts l.number l.singles [] (map struct_of l.structs) ≡ struct_layouts l.number l.singles (layouts_read l.layouts.items) (map struct_of (drop l.fields-index l.structs))
