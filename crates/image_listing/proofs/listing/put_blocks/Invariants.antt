use Rattle.std.proofs.Common.{◌≡◌, ◌++◌, drop, map}
use Rattle.std.specs.Prelude.{string_bytes}
use Rattle.code_form.specs.Form.{block_of}
use Rattle.image_listing.specs.Listing.{block_lines}
use Rattle.image_listing.proofs.listing.put_blocks.Given as goal

abbrev pub invariant-loop-number : goal.invariant-loop-number
invariant-loop-number l = string_bytes l.text ++ block_lines l.function l.number (map block_of (drop l.number l.blocks)) ≡ string_bytes l.fn.text ++ block_lines l.function 0 (map block_of l.blocks)
