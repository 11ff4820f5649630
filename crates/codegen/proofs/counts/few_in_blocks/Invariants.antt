use Rattle.std.proofs.Common.{◌≡◌, drop, map}
use Rattle.std.specs.List.{list_all}
use Rattle.code_form.specs.Counts.{few_in_block}
use Rattle.code_form.specs.Form.{block_of}
use Rattle.codegen.proofs.counts.few_in_blocks.Given as goal

abbrev pub invariant-loop-block : goal.invariant-loop-block
invariant-loop-block l = list_all few_in_block (map block_of l.blocks) ≡ list_all few_in_block (map block_of (drop l.block-index l.blocks))
