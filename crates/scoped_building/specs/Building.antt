-- Scoped code under construction, in the words of the definitions.
use Rattle.std.specs.Prelude.{Bool, true, false, List, [], ◌∷◌, map}
use Rattle.middle_form.specs.declared.scoped.ScopedCode.{ScopedCode}
use Rattle.middle_form.specs.Scoped.{Code, Nothing, Do, Load, Store, LoadBy, StoreBy, Aim, Leave, Loose, Call, Fail, Then, Exit}
use Rattle.middle_form.specs.ScopedViews.{scoped_code_of}

-- code in order
abbrev pub in_order : List Code → Code
in_order [] = Nothing
in_order (a ∷ rest) = Then a (in_order rest)

-- parts of scoped code
abbrev pub codes : List ScopedCode → List Code
codes parts = map scoped_code_of parts

-- code that has no other code in it
abbrev pub is_straight : Code → Bool
is_straight (Do o) = true
is_straight (Load to s r off disp) = true
is_straight (Store s r off disp from) = true
is_straight (LoadBy to s r off disp) = true
is_straight (StoreBy s r off disp from) = true
is_straight (Aim s r off disp) = true
is_straight (Leave s) = true
is_straight (Loose s) = true
is_straight (Call to f args) = true
is_straight (Fail a) = true
is_straight (Exit k) = true
is_straight _ = false
