use Rattle.std.proofs.Common.{◌≡◌, length, map}
use Rattle.code_form.specs.Form.{block_of}
use Rattle.codegen.specs.Building.{backs, lists}
use Rattle.codegen.specs.Generated.{blocks_with}
use Rattle.codegen.proofs.image.close_all.Given as goal

abbrev pub invariant-loop-code : goal.invariant-loop-code
invariant-loop-code l = (map block_of l.closed.items ≡ blocks_with (lists l.facts) (backs l.yielded)) × (length l.closed.items ≡ length l.yielded)
