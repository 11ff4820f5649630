use Rattle.std.proofs.Common.{◌≡◌, ◌++◌, drop, map}
use Rattle.std.specs.Prelude.{string_bytes}
use Rattle.code_form.specs.Form.{instruction_of}
use Rattle.image_listing.specs.Listing.{code_lines}
use Rattle.image_listing.proofs.listing.put_code.Given as goal

abbrev pub invariant-loop-number : goal.invariant-loop-number
invariant-loop-number l = string_bytes l.text ++ code_lines l.function l.block l.number (map instruction_of (drop l.number l.code)) ≡ string_bytes l.fn.text ++ code_lines l.function l.block 0 (map instruction_of l.code)
