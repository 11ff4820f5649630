-- Scopes that are set, and scopes that are all shut.
use Rattle.std.proofs.Common.{◌≡◌, ◌≢◌, inl, inr, ℕ, zero, suc, ◌<◌, ◌≤◌, true, cond, Some, List, [], ◌∷◌, length, replicate, refl, sym, ap, ◌∙◌, subst, arith}
use Rattle.std.specs.Prelude.{slice_get, slice_set}
use Rattle.std.proofs.lemmas.Bool.Decides.{eqb_tells}
use Rattle.std.proofs.lemmas.List.{length-replicate, length-set}
use Rattle.code_form.specs.declared.form.Kind.{Kind}
use Rattle.code_form.specs.Form.{Head}
use Rattle.code_form.specs.declared.allocation.Allocation.{Allocation}
use Rattle.code_form.specs.Code.{Aimed, Scope, Shut, Stale, all_shut, is_shut, opens_of}
use Rattle.code_form.specs.Known.{Known, Knows, at_entry, with_scope}
use Rattle.code_verification.proofs.States.{Holds, ScopeIs}
use Rattle.code_verification.proofs.SameKinds.{both}
use Rattle.code_verification.proofs.Holding.{none}

set_same : (zs : List Scope) (s : ℕ) (z : Scope) → s < length zs → slice_get (slice_set zs s z) s ≡ Some z
set_same [] s z l = absurd (omega arith)
set_same (x ∷ zs) zero z l = refl
set_same (x ∷ zs) (suc s) z l = set_same zs s z (omega arith)

set_other : (zs : List Scope) (s : ℕ) (z : Scope) (t : ℕ) → t ≢ s → slice_get (slice_set zs s z) t ≡ slice_get zs t
set_other [] s z t n = refl
set_other (x ∷ zs) zero z zero n = absurd (n refl)
set_other (x ∷ zs) zero z (suc t) n = refl
set_other (x ∷ zs) (suc s) z zero n = refl
set_other (x ∷ zs) (suc s) z (suc t) n = set_other zs s z t (λ e. n (ap suc e))

-- a scope is set, and known to be as it is set
pub holds_scope : (H : Head) (al : List Allocation) (ks : List Kind) (rs : List ℕ) (scopes : List Scope) (k : Known) (s : ℕ) (n : Knows) (z : Scope) → s < length scopes → ScopeIs rs n (Some z)
    → Holds H al ks rs scopes k → Holds H al ks rs (slice_set scopes s z) (with_scope s n k)
holds_scope H al ks rs scopes k s n z l ok h = record {
  nonnull = h.nonnull;
  inside = h.inside;
  scope = λ t m. elim (eqb_tells t s) [
    | inl f ↦ subst (λ b. ScopeIs rs (cond b n (k.scope t)) (slice_get (slice_set scopes s z) t)) (sym f.0)
        (subst (ScopeIs rs n) (sym (ap (slice_get (slice_set scopes s z)) f.1 ∙ set_same scopes s z l)) ok)
    | inr f ↦ subst (λ b. ScopeIs rs (cond b n (k.scope t)) (slice_get (slice_set scopes s z) t)) (sym f.0)
        (subst (ScopeIs rs (k.scope t)) (sym (set_other scopes s z t f.1)) (h.scope t (subst (λ q. t < q) (length-set scopes s z) m)))
  ];
}

pub shut_at : (n s : ℕ) → s < n → slice_get (replicate n Shut) s ≡ Some Shut
shut_at zero s l = absurd (omega arith)
shut_at (suc n) zero l = refl
shut_at (suc n) (suc s) l = shut_at n s (omega arith)

-- at the entry of a function all its scopes are shut
pub holds_at_entry : (H : Head) (al : List Allocation) (ks : List Kind) (rs : List ℕ) (n : ℕ) → Holds H al ks rs (replicate n Shut) at_entry
holds_at_entry H al ks rs n = record {
  nonnull = λ r c. absurd (none r c);
  inside = λ d r c. absurd (none (d, r) c);
  scope = λ s l. shut_at n s (subst (λ q. s < q) (length-replicate n Shut) l);
}

pub all_are_shut : (zs : List Scope) → ((s : ℕ) → s < length zs → slice_get zs s ≡ Some Shut) → all_shut zs ≡ true
all_are_shut [] h = refl
all_are_shut (z ∷ zs) h =
    let first : z ≡ Shut = let e = h 0 (omega arith) in cc e in
    both (is_shut z) (all_shut zs) (ap is_shut first) (all_are_shut zs (λ s l. h (suc s) (omega arith)))

pub opens_within : (zs : List Scope) → opens_of zs ≤ length zs
opens_within [] = omega arith
opens_within (Shut ∷ zs) = let z = opens_within zs in omega arith
opens_within (Aimed r off i q x ∷ zs) = let z = opens_within zs in omega arith
opens_within (Stale q x ∷ zs) = let z = opens_within zs in omega arith
