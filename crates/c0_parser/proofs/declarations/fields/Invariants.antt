use Rattle.std.proofs.Common.{◌≡◌, ◌-◌, map}
use Rattle.c0_syntax.specs.Views.{typed_name_of}
use Rattle.c0_grammar_laws.specs.ReadPrograms.{read_fields}
use Rattle.c0_parser.proofs.ListLoops.{with_list}
use Rattle.c0_grammar_laws.specs.PlacedPrograms.{PlacedTypedNames, after_typed_names}
use Rattle.c0_parser.proofs.declarations.fields.Given as goal

-- the fields so far, with those that are read from here on
abbrev pub invariant-loop-turn : goal.invariant-loop-turn
invariant-loop-turn l =
    (with_list (map typed_name_of l.fields.items) (read_fields l.types l.depth (l.most - l._turn) l.cursor.seen) ≡ read_fields l.types l.depth l.most l.fn.cursor.seen)
    × (PlacedTypedNames l.fn.cursor.position l.fields.items × (after_typed_names (map typed_name_of l.fields.items) l.fn.cursor.position ≡ l.cursor.position))
