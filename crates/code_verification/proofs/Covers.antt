-- A verified image is covered: each state of its run is good, so it is not stuck, and all scopes are shut where that is asked.
use Rattle.std.proofs.Common.{◌≡◌, ◌≤◌, ℕ, zero, suc, Bool, true, false, Option, Some, None, List, [], ◌∷◌, refl, sym, ap, subst, arith}
use Rattle.std.specs.Prelude.{◌&&◌, not, slice_get}
use Rattle.code_form.specs.Form.{Block, Function, Image, Instruction}
use Rattle.code_form.specs.declared.allocation.Allocation.{Allocation}
use Rattle.code_form.specs.Effects.{Heap, code_run}
use Rattle.code_form.specs.Code.{Core, Covered, Frame, IsCovered, Running, Stopped, Stuck, all_shut, begins, code, entered, is_blocked_at, most_scopes, needs_shut}
use Rattle.code_verification.specs.Verified.{IsVerified}
use Rattle.code_verification.proofs.States.{Checks, IsGood, IsGoodState, ScopeIs}
use Rattle.code_verification.proofs.Typed.{first_length, typed_zeros}
use Rattle.code_verification.proofs.Scopes.{all_are_shut, opens_within}
use Rattle.code_verification.proofs.Functions.{begins_at, entry_good, main_there}
use Rattle.code_verification.proofs.Steps.{steps_good}

-- the state that a run begins in
start_good : (C : Image) → IsVerified C → IsGoodState C (begins (slice_get C.functions 0)) (λ _ _. 0)
start_good C V =
    let g = (main_there C V).0 in
    let is = (main_there C V).1 in
    let e = begins_at C V 0 g is in
    subst (λ z. IsGoodState C (begins z) (λ _ _. 0)) (sym is)
    (subst (λ z. IsGoodState C (elim z as (λ (y : Option Block). Core) [ None ↦ Stuck [] [] | Some b ↦ entered g [] None b [] [] [] ]) (λ _ _. 0)) (sym e.1) (
      record { sized = λ q a t. absurd (cc t); cells = λ q i d a cs k t. absurd (cc t); fresh = λ q x l. refl },
      entry_good C V [] 0 g e.0 [] None is e.1 e.2 (typed_zeros C.head [] g.kinds _) (first_length g [] (omega arith)),
      tt,
    ))

-- each state of a run
pub run_good : (C : Image) → IsVerified C → (k : ℕ) → IsGoodState C (code_run (code C) k).0 (code_run (code C) k).1
run_good C V k = steps_good C V k (begins (slice_get C.functions 0)) (λ _ _. 0) (start_good C V)

-- ---- scopes

most_at : (gs : List Function) (k : ℕ) (g : Function) → slice_get gs k ≡ Some g → g.scopes ≤ most_scopes gs
most_at [] k g e = cc
most_at (x ∷ gs) zero g e = let same : x ≡ g = cc in let count : x.scopes ≡ g.scopes = cc in omega arith
most_at (x ∷ gs) (suc k) g e = let rest = most_at gs k g e in omega arith

unblocked : (needs shut : Bool) → (needs ≡ true → shut ≡ true) → (needs && not shut) ≡ false
unblocked true shut h = ap not (h refl)
unblocked false shut h = refl

-- an instruction that asks that all scopes are shut finds them so
not_blocked : (C : Image) (al : List Allocation) (f : Frame) (G : IsGood C al f None) (is : List Instruction) → Checks C f.function G.known is → is_blocked_at is f.scopes ≡ false
not_blocked C al f G [] c = refl
not_blocked C al f G (i ∷ rest) c =
    let size = G.scopes in
    unblocked (needs_shut i) (all_shut f.scopes) (λ n. all_are_shut f.scopes (λ s l.
    subst (λ q. ScopeIs f.registers q (slice_get f.scopes s)) (c.0.0.0 n s (omega (arith, l, size))) (G.holds.scope s l)))

good_covered : (C : Image) (c : Core) (h : Heap) → IsGoodState C c h → IsCovered (most_scopes C.functions) c
good_covered C (Running f st al o) h g =
    let opens = opens_within f.scopes in
    let size = g.1.scopes in
    let most = most_at C.functions g.1.number f.function g.1.is in
    (omega (arith, opens, size, most), not_blocked C al f g.1 f.rest g.1.checks)
good_covered C (Stopped s al o) h g = tt
good_covered C (Stuck al o) h g = absurd g

pub covered : (C : Image) → IsVerified C → Covered C
covered C V = record {
  few = V.few;
  everywhere = λ k. good_covered C (code_run (code C) k).0 (code_run (code C) k).1 (run_good C V k);
}
