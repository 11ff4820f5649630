use Rattle.std.proofs.Common.{◌≡◌, ◌-◌, map}
use Rattle.std.specs.Prelude.{string_bytes}
use Rattle.image_reader.specs.Reading.{items_at, list_at, text_at}
use Rattle.image_reader.proofs.Loops.{with_front}
use Rattle.image_reader.proofs.lists.texts_of.Given as goal

abbrev pub invariant-loop : goal.invariant-loop
invariant-loop l = with_front (map string_bytes l.items.items) (items_at text_at (l.count - l.counter) l.rest) ≡ list_at text_at l.fn.bytes
