use Rattle.std.proofs.Common.{◌≡◌, ◌++◌, ℕ, List, map, drop}
use Rattle.c0_typed.specs.Views.{type_of}
use Rattle.code_form.specs.declared.form.Kind.{Kind}
use Rattle.lower_tables.specs.Tables.{layouts_read, starts}
use Rattle.lower_tables.proofs.struct_layouts.field_starts.Given as goal

-- what is found, and then from here on
abbrev pub invariant-loop-field : goal.invariant-loop-field
invariant-loop-field l =
    (n : ℕ) (singles : List Kind) → starts n singles (layouts_read l.layouts) 0 (map type_of l.fields) ≡ l.found.items ++ starts n singles (layouts_read l.layouts) l.start (map type_of (drop l.field-index l.fields))
