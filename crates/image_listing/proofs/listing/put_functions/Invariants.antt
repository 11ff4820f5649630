use Rattle.std.proofs.Common.{◌≡◌, ◌++◌, drop, map}
use Rattle.std.specs.Prelude.{string_bytes}
use Rattle.code_form.specs.Form.{function_of}
use Rattle.image_listing.specs.Listing.{function_lines}
use Rattle.image_listing.proofs.listing.put_functions.Given as goal

abbrev pub invariant-loop-number : goal.invariant-loop-number
invariant-loop-number l = string_bytes l.text ++ function_lines l.number (map function_of (drop l.number l.functions)) ≡ string_bytes l.fn.text ++ function_lines 0 (map function_of l.functions)
