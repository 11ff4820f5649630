-- Sums of scopes.
use Rattle.std.proofs.Common.{◌≡◌, ℕ, zero, suc, ◌+◌, ◌*◌, ◌≤◌, ◌∙◌, List, Option, Some, None, ap, arith, refl}
use Rattle.std.specs.Prelude.{slice_get}
use Rattle.code_form.specs.Form.{Image, image_of}
use Rattle.code_form.specs.Code.{most_scopes}
use Rattle.code_verification.specs.Verified.{IsVerified}
use Rattle.scope_verifier.specs.declared.acceptance.Verified.{Verified}
use Rattle.scope_verifier_laws.specs.Faults.{fault_of}
use Rattle.world_semantics.specs.Enough.{scopes_below}
use Rattle.region.specs.Admission.{image_at, image_by}

-- one program more
pub one_more : (programs : List Verified) (k : ℕ) (v : Verified) → slice_get programs k ≡ Some v
    → scopes_below (image_at programs) (k + 1) ≡ scopes_below (image_at programs) k + most_scopes (image_of v.image).functions
one_more programs k v h =
    let next : k + 1 ≡ suc k = omega arith in
    ap (scopes_below (image_at programs)) next ∙ ap (λ (o : Option Verified). scopes_below (image_at programs) k + most_scopes (image_by o).functions) h

-- an image without a fault is verified
abbrev pub AreVerified : Type 0
AreVerified = (C : Image) → fault_of C ≡ None → IsVerified C

few_by : AreVerified → (o : Option Verified) → most_scopes (image_by o).functions ≤ 4
few_by h None = omega arith
few_by h (Some v) = (h (image_of v.image) v.no_fault).few

-- no program has more than four scopes
pub few_below : AreVerified → (programs : List Verified) (k : ℕ) → scopes_below (image_at programs) k ≤ k * 4
few_below h programs zero = omega arith
few_below h programs (suc k) =
    let before : scopes_below (image_at programs) k ≤ k * 4 = few_below h programs k in
    let here : most_scopes (image_at programs k).functions ≤ 4 = few_by h (slice_get programs k) in
    let all : scopes_below (image_at programs) (suc k) ≡ scopes_below (image_at programs) k + most_scopes (image_at programs k).functions = refl in
    omega (arith, before, here, all)
