-- What the images of the samples come to, computed.
use Rattle.std.proofs.Common.{◌≡◌, [], Some, None, pos, codes, refl}
use Rattle.std.specs.Fmt.{digits}
use Rattle.std.specs.Int.{int_wrap}
use Rattle.cells.specs.Stops.{Ended, ErrorCalled}
use Rattle.codegen.specs.Correct.{ran}
use Rattle.codegen.specs.Generated.{generated}
use Rattle.codegen.specs.Samples.{counting, failing, fibonacci, held, program_of, stepping}

pub calls : ran (generated 64 fibonacci) 200 ≡ record { stop = Some (Ended (pos 5)); output = [] }
unfolding int_wrap digits
calls = refl

pub left : ran (generated 64 counting) 60 ≡ record { stop = Some (Ended (pos 3)); output = codes "012" }
unfolding int_wrap digits
left = refl

pub cut : ran (generated 64 counting) 22 ≡ record { stop = None; output = codes "01" }
unfolding int_wrap digits
cut = refl

pub behind : ran (generated 64 stepping) 60 ≡ record { stop = Some (Ended (pos 3)); output = [] }
unfolding int_wrap digits
behind = refl

pub error : ran (generated 64 failing) 10 ≡ record { stop = Some (ErrorCalled (codes "no")); output = codes "0" }
unfolding int_wrap digits
error = refl

pub printed : ran (generated 64 (program_of held)) 60 ≡ record { stop = Some (Ended (pos 3)); output = codes "555" }
unfolding int_wrap digits
printed = refl
