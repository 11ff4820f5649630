use Rattle.std.proofs.Common.{◌≡◌, ◌++◌, length, map, take}
use Rattle.std.specs.List.{flat_map}
use Rattle.std.specs.Prelude.{string_bytes}
use Rattle.image_bytes.specs.Bytes.{text_bytes, word}
use Rattle.image_bytes.proofs.encoding.put_texts.Given as goal

abbrev pub invariant-loop-text : goal.invariant-loop-text
invariant-loop-text l = l.out.items ≡ l.fn.out.items ++ (word (length l.texts) ++ flat_map text_bytes (map string_bytes (take l.text-index l.texts)))
