-- What the samples mean, computed.
use Rattle.std.proofs.Common.{◌≡◌, [], Some, None, pos, codes, refl}
use Rattle.std.specs.Fmt.{digits}
use Rattle.std.specs.Int.{int_wrap}
use Rattle.cells.specs.Stops.{Ended, ErrorCalled}
use Rattle.middle_form.specs.Meaning.{means}
use Rattle.middle_form.specs.Samples.{counting, failing, fibonacci, stepping}

pub calls : means fibonacci 16 ≡ Some (record { stop = Some (Ended (pos 5)); output = [] })
unfolding int_wrap digits
calls = refl

pub turns : means fibonacci 15 ≡ Some (record { stop = None; output = [] })
unfolding int_wrap digits
turns = refl

pub left : means counting 4 ≡ Some (record { stop = Some (Ended (pos 3)); output = codes "012" })
unfolding int_wrap digits
left = refl

pub cut : means counting 3 ≡ Some (record { stop = None; output = codes "01" })
unfolding int_wrap digits
cut = refl

pub behind : means stepping 4 ≡ Some (record { stop = Some (Ended (pos 3)); output = [] })
unfolding int_wrap digits
behind = refl

pub error : means failing 1 ≡ Some (record { stop = Some (ErrorCalled (codes "no")); output = codes "0" })
unfolding int_wrap digits
error = refl
