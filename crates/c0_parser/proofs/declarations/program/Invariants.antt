use Rattle.std.proofs.Common.{◌≡◌, ◌-◌, length, map}
use Rattle.c0_syntax.specs.Views.{declaration_of}
use Rattle.c0_grammar_laws.specs.ReadPrograms.{read_declarations, read_program}
use Rattle.c0_parser.proofs.ProgramLoops.{with_declarations}
use Rattle.c0_grammar_laws.specs.PlacedPrograms.{PlacedDeclarations}
use Rattle.c0_grammar_laws.proofs.PlacedLists.{after_declarations}
use Rattle.c0_parser.proofs.declarations.program.Given as goal

-- the declarations so far, with those that are read from here on
abbrev pub invariant-loop-turn : goal.invariant-loop-turn
invariant-loop-turn l =
    (with_declarations (map declaration_of l.declarations.items) (read_declarations l.types l.loops (length l.fn.cursor.seen - l._turn) l.room l.cursor.seen) ≡ read_program l.loops l.fn.cursor.seen)
    × (PlacedDeclarations l.fn.cursor.position l.declarations.items × (after_declarations (map declaration_of l.declarations.items) l.fn.cursor.position ≡ l.cursor.position))
