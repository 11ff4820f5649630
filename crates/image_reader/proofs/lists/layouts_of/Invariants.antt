use Rattle.std.proofs.Common.{◌≡◌, ◌-◌, map}
use Rattle.image_reader.specs.Reading.{items_at, list_at, layout_at}
use Rattle.image_reader.proofs.Loops.{with_front}
use Rattle.image_reader.proofs.lists.layouts_of.Given as goal

abbrev pub invariant-loop : goal.invariant-loop
invariant-loop l = with_front (map (λ v. v.items) l.items.items) (items_at layout_at (l.count - l.counter) l.rest) ≡ list_at layout_at l.fn.bytes
