use Rattle.std.proofs.Common.{◌≡◌, ◌++◌, ℕ, List, map, drop}
use Rattle.c0_typed.specs.Views.{struct_of}
use Rattle.code_form.specs.declared.form.Kind.{Kind}
use Rattle.lower_tables.specs.Tables.{layouts_read, offsets_read, starts}
use Rattle.lower_tables.proofs.struct_layouts.all_starts.Given as goal

-- what is found, and then that of the rest
abbrev pub invariant-loop-fields : goal.invariant-loop-fields
invariant-loop-fields l =
    (n : ℕ) (singles : List Kind) → map (starts n singles (layouts_read l.layouts) 0) (map struct_of l.structs)
    ≡ offsets_read l.found.items ++ map (starts n singles (layouts_read l.layouts) 0) (map struct_of (drop l.fields-index l.structs))
