use Rattle.std.proofs.Common.{◌≡◌, ◌-◌, map}
use Rattle.code_form.specs.Form.{block_of}
use Rattle.image_reader.specs.Reading.{items_at, list_at, block_at}
use Rattle.image_reader.proofs.Loops.{with_front}
use Rattle.image_reader.proofs.lists.blocks_of.Given as goal

abbrev pub invariant-loop : goal.invariant-loop
invariant-loop l = with_front (map block_of l.items.items) (items_at block_at (l.count - l.counter) l.rest) ≡ list_at block_at l.fn.bytes
