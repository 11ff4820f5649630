-- Registers keep their kinds: after a write, and at the entry of a function.
use Rattle.std.proofs.Common.{◌≡◌, inl, inr, ℕ, zero, suc, ◌-◌, ◌≤◌, true, Some, List, [], ◌∷◌, ◌++◌, length, replicate, refl, sym, ap, ◌∙◌, subst, arith}
use Rattle.std.specs.Prelude.{map, slice_get, slice_index, slice_set}
use Rattle.std.proofs.lemmas.List.{get_or-set_other, get_or-set_same, length-append, length-map, length-replicate}
use Rattle.std.proofs.lemmas.Option.{slice_get_within}
use Rattle.code_form.specs.declared.form.Kind.{Kind}
use Rattle.code_form.specs.Form.{Function, Head}
use Rattle.code_form.specs.declared.allocation.Allocation.{Allocation}
use Rattle.code_form.specs.Code.{args_fit, first_registers, has}
use Rattle.code_verification.proofs.States.{AreTyped, IsKind}
use Rattle.code_verification.proofs.SameKinds.{both_left, both_right, has_is, same_or}
use Rattle.code_verification.proofs.Allocations.{zero_is}

-- a register that has a kind is there, and holds what is written
pub register_same : (ks : List Kind) (rs : List ℕ) (d v : ℕ) (k : Kind) → slice_get ks d ≡ Some k → length rs ≡ length ks → slice_index (slice_set rs d v) d ≡ v
register_same ks rs d v k is long = let l = slice_get_within ks d k is in get_or-set_same rs d v 0 (omega (arith, l, long))

pub typed_written : (H : Head) (al : List Allocation) (ks : List Kind) (rs : List ℕ) (d v : ℕ) (k : Kind) → slice_get ks d ≡ Some k → IsKind H al k v → length rs ≡ length ks → AreTyped H al ks rs → AreTyped H al ks (slice_set rs d v)
typed_written H al ks rs d v k is ok long typed r j e = elim (same_or r d) [
  | inl s ↦
      let j_is : k ≡ j = let z : Some k ≡ Some j = sym is ∙ ap (slice_get ks) (sym s) ∙ e in cc in
      subst (λ q. IsKind H al j (slice_index (slice_set rs d v) q)) (sym s) (subst (IsKind H al j) (sym (register_same ks rs d v k is long)) (subst (λ q. IsKind H al q v) j_is ok))
  | inr n ↦ subst (IsKind H al j) (sym (get_or-set_other rs d r v 0 n)) (typed r j e)
]

-- ---- entries

zeros : (n r : ℕ) → slice_index (replicate n 0) r ≡ 0
zeros zero zero = refl
zeros zero (suc r) = refl
zeros (suc n) zero = refl
zeros (suc n) (suc r) = zeros n r

-- registers that hold 0 have any kinds
pub typed_zeros : (H : Head) (al : List Allocation) (ks : List Kind) (n : ℕ) → AreTyped H al ks (replicate n 0)
typed_zeros H al ks n r k is = subst (IsKind H al k) (sym (zeros n r)) (zero_is H al k)

-- arguments that fit have the kinds of the parameters, and the registers behind them hold 0
pub typed_arguments : (H : Head) (al : List Allocation) (mine theirs : List Kind) (n m : ℕ) (args rs : List ℕ) → args_fit mine theirs n args ≡ true → AreTyped H al mine rs → AreTyped H al theirs (map (slice_index rs) args ++ replicate m 0)
typed_arguments H al mine theirs zero m [] rs e typed r k is = typed_zeros H al theirs m r k is
typed_arguments H al mine theirs zero m (a ∷ args) rs e typed r k is = absurd (cc e)
typed_arguments H al mine [] (suc n) m args rs e typed r k is = absurd (cc e)
typed_arguments H al mine (q ∷ theirs) (suc n) m [] rs e typed r k is = absurd (cc e)
typed_arguments H al mine (q ∷ theirs) (suc n) m (a ∷ args) rs e typed zero k is =
    let same : q ≡ k = cc is in
    typed a k (has_is mine a k (subst (λ z. has mine a z ≡ true) same (both_left _ _ e)))
typed_arguments H al mine (q ∷ theirs) (suc n) m (a ∷ args) rs e typed (suc r) k is = typed_arguments H al mine theirs n m args rs (both_right _ _ e) typed r k is

-- there are no more of them than registers
arguments_within : (mine theirs : List Kind) (n : ℕ) (args : List ℕ) → args_fit mine theirs n args ≡ true → length args ≤ length theirs
arguments_within mine theirs zero [] e = omega arith
arguments_within mine theirs zero (a ∷ args) e = absurd (cc e)
arguments_within mine [] (suc n) args e = absurd (cc e)
arguments_within mine (q ∷ theirs) (suc n) [] e = absurd (cc e)
arguments_within mine (q ∷ theirs) (suc n) (a ∷ args) e = let z = arguments_within mine theirs n args (both_right (has mine a q) (args_fit mine theirs n args) e) in omega arith

pub first_length : (g : Function) (values : List ℕ) → length values ≤ length g.kinds → length (first_registers g values) ≡ length g.kinds
first_length g values l =
    let a = length-append values (replicate (length g.kinds - length values) 0) in
    let rest : List ℕ = replicate (length g.kinds - length values) 0 in
    let b : length rest ≡ length g.kinds - length values = length-replicate (length g.kinds - length values) 0 in
    omega (arith, a, b, l)

pub passed_length : (mine : List Kind) (g : Function) (n : ℕ) (args rs : List ℕ) → args_fit mine g.kinds n args ≡ true → length (first_registers g (map (slice_index rs) args)) ≡ length g.kinds
passed_length mine g n args rs e =
    let l = arguments_within mine g.kinds n args e in
    let same = length-map args (slice_index rs) in
    first_length g (map (slice_index rs) args) (omega (arith, l, same))
