-- Which scope serves a register, found from the first on.
use Rattle.std.proofs.Common.{◌≡◌, ◌≢◌, ℕ, zero, suc, ◌+◌, ◌-◌, ◌<◌, ◌≤◌, Bool, true, false, cond, List, [], ◌∷◌, ◌++◌, length, get_or, drop, refl, sym, ap, ◌∙◌, arith, append_assoc}
use Rattle.std.specs.Prelude.{◌==◌, slice_set}
use Rattle.std.proofs.lemmas.Bool.{eq-eqb, eqb-true, ne_eqb}
use Rattle.middle_form.specs.declared.scoped.ScopedCode.{ScopedCode}
use Rattle.middle_form.specs.declared.scoped.ScopedCode as scoped
use Rattle.middle_form.specs.Scoped.{Code, Leave}
use Rattle.scoped_building.specs.Building.{codes}
use Rattle.scoped_building.proofs.Rows.{codes_push}
use Rattle.scoped_building.proofs.Tests.{nil_right}
use Rattle.scope_placement.specs.Placed.{Open, leaves_from, open_among, scope_among}

-- ---- the register at place i, for which k scopes and one more are left

scope_more : (k r : ℕ) (rs : Open) (i : ℕ) → i < length rs → r ≢ get_or rs i 0 → scope_among (suc k) r (drop i rs) ≡ suc (scope_among k r (drop (suc i) rs))
scope_more k r [] i lt n = absurd (let z : ⊥ = omega arith in z)
scope_more k r (q ∷ rs) zero lt n = ap (λ b. cond b 0 (suc (scope_among k r rs))) (ne_eqb r q n)
scope_more k r (q ∷ rs) (suc i) lt n = scope_more k r rs i (omega arith) n

scope_found : (k r : ℕ) (rs : Open) (i : ℕ) → i < length rs → r ≡ get_or rs i 0 → scope_among (suc k) r (drop i rs) ≡ 0
scope_found k r [] i lt e = absurd (let z : ⊥ = omega arith in z)
scope_found k r (q ∷ rs) zero lt e = ap (λ b. cond b 0 (suc (scope_among k r rs))) (eq-eqb r q e)
scope_found k r (q ∷ rs) (suc i) lt e = scope_found k r rs i (omega arith) e

scope_past : (k r : ℕ) (rs : Open) (i : ℕ) → length rs ≤ i → scope_among (suc k) r (drop i rs) ≡ 0
scope_past k r [] zero le = refl
scope_past k r [] (suc i) le = refl
scope_past k r (q ∷ rs) zero le = absurd (let z : ⊥ = omega arith in z)
scope_past k r (q ∷ rs) (suc i) le = scope_past k r rs i (omega arith)

-- the next one
pub scope_next : (r : ℕ) (rs : Open) (i w : ℕ) → i < 3 → i < length rs → r ≢ get_or rs i 0 → w ≡ i + scope_among (3 - i) r (drop i rs) → w ≡ i + 1 + scope_among (3 - (i + 1)) r (drop (i + 1) rs)
scope_next r rs i w few lt n e =
    let left : 3 - i ≡ suc (3 - (i + 1)) = omega arith in
    let next : i + 1 ≡ suc i = omega arith in
    let more : scope_among (3 - i) r (drop i rs) ≡ suc (scope_among (3 - (i + 1)) r (drop (i + 1) rs)) =
    ap (λ k. scope_among k r (drop i rs)) left ∙ (scope_more (3 - (i + 1)) r rs i lt n ∙ ap (λ j. suc (scope_among (3 - (i + 1)) r (drop j rs))) (sym next)) in
    omega (arith, e, more)

pub scope_here : (r : ℕ) (rs : Open) (i w : ℕ) → i < 3 → i < length rs → r ≡ get_or rs i 0 → w ≡ i + scope_among (3 - i) r (drop i rs) → i ≡ w
scope_here r rs i w few lt q e =
    let left : 3 - i ≡ suc (2 - i) = omega arith in
    let none : scope_among (3 - i) r (drop i rs) ≡ 0 = ap (λ k. scope_among k r (drop i rs)) left ∙ scope_found (2 - i) r rs i lt q in
    omega (arith, e, none)

pub scope_behind : (r : ℕ) (rs : Open) (i w : ℕ) → i < 3 → length rs ≤ i → w ≡ i + scope_among (3 - i) r (drop i rs) → i ≡ w
scope_behind r rs i w few le e =
    let left : 3 - i ≡ suc (2 - i) = omega arith in
    let none : scope_among (3 - i) r (drop i rs) ≡ 0 = ap (λ k. scope_among k r (drop i rs)) left ∙ scope_past (2 - i) r rs i le in
    omega (arith, e, none)

pub scope_last : (r : ℕ) (rs : Open) (i w : ℕ) → i ≡ 3 → w ≡ i + scope_among (3 - i) r (drop i rs) → 3 ≡ w
scope_last r rs i w last e =
    let left : 3 - i ≡ 0 = omega arith in
    let none : scope_among (3 - i) r (drop i rs) ≡ 0 = ap (λ k. scope_among k r (drop i rs)) left in
    omega (arith, e, none, last)

-- ---- what is open behind an access

pub open_there : (k r : ℕ) (rs : Open) → length rs ≤ suc k → scope_among k r rs < length rs → slice_set rs (scope_among k r rs) r ≡ open_among k r rs
open_there zero r [] le lt = absurd (let z : ⊥ = omega arith in z)
open_there zero r (q ∷ []) le lt = refl
open_there zero r (q ∷ p ∷ rs) le lt = absurd (let z : ⊥ = omega arith in z)
open_there (suc k) r [] le lt = absurd (let z : ⊥ = omega arith in z)
open_there (suc k) r (q ∷ rs) le lt = by_test (λ l. open_there k r rs (omega arith) l) (r == q) refl lt
  where
    by_test : (scope_among k r rs < length rs → slice_set rs (scope_among k r rs) r ≡ open_among k r rs) → (b : Bool) → (r == q) ≡ b → cond b 0 (suc (scope_among k r rs)) < suc (length rs)
        → slice_set (q ∷ rs) (cond b 0 (suc (scope_among k r rs))) r ≡ cond b (q ∷ rs) (q ∷ open_among k r rs)
    by_test h true e l = ap (λ (x : ℕ). x ∷ rs) (eqb-true r q e)
    by_test h false e l = ap (λ (xs : Open). q ∷ xs) (h (omega arith))

pub open_new : (k r : ℕ) (rs : Open) → length rs ≤ scope_among k r rs → rs ++ r ∷ [] ≡ open_among k r rs
open_new zero r [] le = refl
open_new zero r (q ∷ rs) le = absurd (let z : ⊥ = omega arith in z)
open_new (suc k) r [] le = refl
open_new (suc k) r (q ∷ rs) le = by_test (λ l. open_new k r rs l) (r == q) le
  where
    by_test : (length rs ≤ scope_among k r rs → rs ++ r ∷ [] ≡ open_among k r rs) → (b : Bool) → suc (length rs) ≤ cond b 0 (suc (scope_among k r rs)) → q ∷ (rs ++ r ∷ []) ≡ cond b (q ∷ rs) (q ∷ open_among k r rs)
    by_test h true l = absurd (let z : ⊥ = omega arith in z)
    by_test h false l = ap (λ (xs : Open). q ∷ xs) (h (omega arith))

-- ---- the leaves of a run

leaves_at : (s : ℕ) (rs : Open) (i : ℕ) → i < length rs → leaves_from s (drop i rs) ≡ Leave s ∷ leaves_from (suc s) (drop (suc i) rs)
leaves_at s [] i lt = absurd (let z : ⊥ = omega arith in z)
leaves_at s (q ∷ rs) zero lt = refl
leaves_at s (q ∷ rs) (suc i) lt = leaves_at s rs i (omega arith)

pub leave_next : (rs : Open) (i : ℕ) (parts : List ScopedCode) (all : List Code) → i < length rs → codes parts ++ leaves_from i (drop i rs) ≡ all → codes (parts ++ scoped.Leave i ∷ []) ++ leaves_from (i + 1) (drop (i + 1) rs) ≡ all
leave_next rs i parts all lt e =
    let next : i + 1 ≡ suc i = omega arith in
    let rest = leaves_from (suc i) (drop (suc i) rs) in
    ap (λ xs. xs ++ leaves_from (i + 1) (drop (i + 1) rs)) (codes_push parts (scoped.Leave i))
    ∙ (ap (λ j. (codes parts ++ Leave i ∷ []) ++ leaves_from j (drop j rs)) next
    ∙ (append_assoc (codes parts) (Leave i ∷ []) rest ∙ (ap (λ xs. codes parts ++ xs) (sym (leaves_at i rs i lt)) ∙ e)))

leaves_past : (s : ℕ) (rs : Open) (i : ℕ) → length rs ≤ i → leaves_from s (drop i rs) ≡ []
leaves_past s [] zero le = refl
leaves_past s [] (suc i) le = refl
leaves_past s (q ∷ rs) zero le = absurd (let z : ⊥ = omega arith in z)
leaves_past s (q ∷ rs) (suc i) le = leaves_past s rs i (omega arith)

pub leave_last : (rs : Open) (i : ℕ) (parts : List ScopedCode) (all : List Code) → length rs ≤ i → codes parts ++ leaves_from i (drop i rs) ≡ all → codes parts ≡ all
leave_last rs i parts all le e = sym (nil_right (codes parts)) ∙ (ap (λ xs. codes parts ++ xs) (sym (leaves_past i rs i le)) ∙ e)
