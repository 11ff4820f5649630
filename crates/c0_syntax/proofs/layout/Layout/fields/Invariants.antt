use Rattle.std.proofs.Common.{◌≡◌, ◌++◌, map, drop}
use Rattle.c0_syntax.specs.Layouts.{layout_fields}
use Rattle.c0_syntax.specs.Views.{typed_name_of}
use Rattle.c0_syntax.proofs.layout.Layout.fields.Given as goal

-- what is laid out, and what the other fields will add
abbrev pub invariant-loop-field : goal.invariant-loop-field
invariant-loop-field l = l.self ++ layout_fields (map typed_name_of (drop l.field-index l.fields)) ≡ l.initial.self ++ layout_fields (map typed_name_of l.fields)
