use Rattle.std.proofs.Common.{◌≡◌, ◌-◌}
use Rattle.std.specs.Prelude.{string_bytes}
use Rattle.image_reader.specs.Reading.{items_at, list_at, letter_at}
use Rattle.image_reader.proofs.Loops.{with_front}
use Rattle.image_reader.proofs.lists.text_of.Given as goal

abbrev pub invariant-loop : goal.invariant-loop
invariant-loop l = with_front (string_bytes l.text) (items_at letter_at (l.count - l.counter) l.rest) ≡ list_at letter_at l.fn.bytes
