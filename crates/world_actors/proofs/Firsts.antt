-- the lowest scope that holds something
use Rattle.std.proofs.Common.{◌≡◌, ℕ, zero, suc, ◌<◌, List, [], ◌∷◌, length, Option, Some, None, refl, ap, arith}
use Rattle.world_semantics.specs.declared.hold.Hold.{Hold}
use Rattle.world_semantics.specs.Programs.{behind, first_hold, hold_at}

pub first_there : (hs : List (Option Hold)) (k : ℕ) (h : Hold) → ((j : ℕ) → j < k → hold_at hs j ≡ None) → hold_at hs k ≡ Some h → first_hold hs ≡ Some (k, h)
first_there [] k h below e = cc
first_there (None ∷ hs) zero h below e = cc
first_there (Some x ∷ hs) zero h below e = let q : x ≡ h = cc in ap (λ (y : Hold). Some (0, y)) q
first_there (None ∷ hs) (suc k) h below e = ap behind (first_there hs k h (λ j l. below (suc j) (omega arith)) e)
first_there (Some x ∷ hs) (suc k) h below e = let z : Some x ≡ None = below 0 (omega arith) in cc

pub first_nowhere : (hs : List (Option Hold)) → ((j : ℕ) → j < length hs → hold_at hs j ≡ None) → first_hold hs ≡ None
first_nowhere [] all = refl
first_nowhere (None ∷ hs) all = ap behind (first_nowhere hs (λ j l. all (suc j) (omega arith)))
first_nowhere (Some x ∷ hs) all = let z : Some x ≡ None = all 0 (omega arith) in cc
