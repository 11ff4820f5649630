use Rattle.std.proofs.Common.{◌≡◌, ◌-◌, suc, length, map}
use Rattle.c0_syntax.specs.Views.{annotation_of}
use Rattle.c0_grammar_laws.specs.ReadStatements.{read_annotations}
use Rattle.c0_parser.proofs.ListLoops.{with_list}
use Rattle.c0_grammar_laws.specs.PlacedStatements.{PlacedAnnotations, after_annotations}
use Rattle.c0_parser.proofs.annotations.annotations.Given as goal

-- the annotations so far, with those that are read from here on
abbrev pub invariant-loop-turn : goal.invariant-loop-turn
invariant-loop-turn l =
    (with_list (map annotation_of l.annotations.items) (read_annotations l.types l.depth (suc (length l.fn.cursor.seen) - l._turn) l.cursor.seen) ≡ read_annotations l.types l.depth (suc (length l.fn.cursor.seen)) l.fn.cursor.seen)
    × (PlacedAnnotations l.fn.cursor.position l.annotations.items × (after_annotations (map annotation_of l.annotations.items) l.fn.cursor.position ≡ l.cursor.position))
