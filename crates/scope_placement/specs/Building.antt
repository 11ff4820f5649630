-- Structured code, as it is gone through.
use Rattle.std.specs.Prelude.{Bool, true, false}
use Rattle.middle_form.specs.Form.{Code, Do, Load, Store, Call, Fail, Exit}

-- code that has no other code in it
abbrev pub is_straight : Code → Bool
is_straight (Do o) = true
is_straight (Load to r off disp) = true
is_straight (Store r off disp from) = true
is_straight (Call to f args) = true
is_straight (Fail a) = true
is_straight (Exit k) = true
is_straight _ = false
