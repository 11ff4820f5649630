-- The first of several faults.
use Rattle.std.specs.Prelude.{Bool, true, false, List, [], ◌∷◌, Option, Some, None}
use Rattle.scope_verifier_laws.specs.declared.fault.VerifyFault.{VerifyFault}

-- this fault, where a test fails
abbrev pub unless : Bool → VerifyFault → Option VerifyFault
unless true f = None
unless false f = Some f

-- the first of two
abbrev pub first_of : Option VerifyFault → Option VerifyFault → Option VerifyFault
first_of None b = b
first_of (Some f) b = Some f

-- the first of a list's items
abbrev pub first_in : {A : Type 0} → (A → Option VerifyFault) → List A → Option VerifyFault
first_in g [] = None
first_in g (x ∷ xs) = first_of (g x) (first_in g xs)
