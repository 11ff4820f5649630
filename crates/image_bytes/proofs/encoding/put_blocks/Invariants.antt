use Rattle.std.proofs.Common.{◌≡◌, ◌++◌, length, map, take}
use Rattle.std.specs.List.{flat_map}
use Rattle.code_form.specs.Form.{block_of}
use Rattle.image_bytes.specs.Bytes.{block_bytes, word}
use Rattle.image_bytes.proofs.encoding.put_blocks.Given as goal

abbrev pub invariant-loop-block : goal.invariant-loop-block
invariant-loop-block l = l.out.items ≡ l.fn.out.items ++ (word (length l.blocks) ++ flat_map block_bytes (map block_of (take l.block-index l.blocks)))
