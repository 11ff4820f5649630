use Rattle.std.proofs.Common.{◌≡◌, ◌-◌}
use Rattle.image_reader.specs.Reading.{items_at, list_at, cell_at}
use Rattle.image_reader.proofs.Loops.{with_front}
use Rattle.image_reader.proofs.lists.layout_of.Given as goal

abbrev pub invariant-loop : goal.invariant-loop
invariant-loop l = with_front (l.items.items) (items_at cell_at (l.count - l.counter) l.rest) ≡ list_at cell_at l.fn.bytes
