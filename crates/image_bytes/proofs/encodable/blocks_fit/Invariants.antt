use Rattle.std.proofs.Common.{map, take}
use Rattle.std.specs.List.{AllByRecursion}
use Rattle.code_form.specs.Form.{block_of}
use Rattle.image_bytes.specs.Encodable.{BlockFits}
use Rattle.image_bytes.proofs.encodable.blocks_fit.Given as goal

abbrev pub invariant-loop-block : goal.invariant-loop-block
invariant-loop-block l = AllByRecursion BlockFits (map block_of (take l.block-index l.blocks))
