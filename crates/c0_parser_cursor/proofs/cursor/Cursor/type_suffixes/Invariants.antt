use Rattle.std.proofs.Common.{◌≡◌, ◌-◌, ◌≤◌}
use Rattle.c0_grammar_laws.specs.ReadExpressions.{suffixes}
use Rattle.c0_grammar_laws.specs.Places.{Position, TypeStands}
use Rattle.c0_parser_cursor.specs.Found.{found_type}
use Rattle.c0_parser_cursor.proofs.cursor.Cursor.type_suffixes.Given as goal

-- reading on from here gives what reading from the start gives
abbrev pub invariant-loop-turn : goal.invariant-loop-turn
invariant-loop-turn l =
    (l.found.height ≤ l.depth) × (suffixes l.depth (l.depth - l._turn) (found_type l.self.seen l.found) ≡ suffixes l.depth l.depth (found_type l.fn.self.seen l.fn.found))
    × ((first : Position) → TypeStands first l.fn.found.value_type l.fn.self.position → TypeStands first l.found.value_type l.self.position)
