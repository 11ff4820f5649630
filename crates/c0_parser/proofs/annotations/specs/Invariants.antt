use Rattle.std.proofs.Common.{◌≡◌, ◌-◌, map}
use Rattle.c0_syntax.specs.Views.{spec_of}
use Rattle.c0_grammar_laws.specs.ReadStatements.{read_specs}
use Rattle.c0_parser.proofs.ListLoops.{with_list}
use Rattle.c0_grammar_laws.specs.PlacedStatements.{PlacedSpecs, after_each_spec}
use Rattle.c0_parser.proofs.annotations.specs.Given as goal

-- the specs so far, with those that are read from here on
abbrev pub invariant-loop-turn : goal.invariant-loop-turn
invariant-loop-turn l =
    (with_list (map spec_of l.specs.items) (read_specs l.types l.depth (l.most - l._turn) l.cursor.seen) ≡ read_specs l.types l.depth l.most l.fn.cursor.seen)
    × (PlacedSpecs l.fn.cursor.position l.specs.items × (after_each_spec (map spec_of l.specs.items) l.fn.cursor.position ≡ l.cursor.position))
