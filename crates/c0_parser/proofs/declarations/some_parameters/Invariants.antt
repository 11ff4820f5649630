use Rattle.std.proofs.Common.{◌≡◌, ◌-◌, length, map}
use Rattle.c0_syntax.specs.Views.{typed_name_of}
use Rattle.c0_grammar_laws.specs.ReadPrograms.{read_parameters}
use Rattle.c0_parser.proofs.ProgramLoops.{with_parameters}
use Rattle.c0_grammar_laws.specs.PlacedPrograms.{PlacedTypedNames, after_typed_names}
use Rattle.c0_parser.proofs.declarations.some_parameters.Given as goal

-- the parameters so far, with those that are read from here on
abbrev pub invariant-loop-turn : goal.invariant-loop-turn
invariant-loop-turn l =
    (with_parameters (map typed_name_of l.parameters.items) l.over (read_parameters l.types l.depth l.room (length l.fn.cursor.seen - l._turn) l.cursor.seen) ≡ read_parameters l.types l.depth 1024 (length l.fn.cursor.seen) l.fn.cursor.seen)
    × (PlacedTypedNames l.fn.cursor.position l.parameters.items × (after_typed_names (map typed_name_of l.parameters.items) l.fn.cursor.position ≡ l.cursor.position))
