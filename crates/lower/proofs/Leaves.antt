-- Constants and operators on one value, and what their cells hold.
use Rattle.std.proofs.Common.{◌≡◌, ◌≢◌, ℕ, zero, suc, ◌+◌, ◌<◌, ◌≤◌, ◌⊎◌, inl, inr, Bool, true, false, List, [], ◌∷◌, length, get_or, Option, Some, None, ℤ, pos, negsuc, FitsSigned, refl, sym, ap, ◌∙◌, subst, arith, cond}
use Rattle.std.specs.Prelude.{◌==◌, slice_get, map, nat_le, neg_ℤ, not}
use Rattle.std.specs.Int.{int_bit_not, int_wrap, w32}
use Rattle.std.proofs.lemmas.Int.{int_wrap_fits, ints, fits_signed_from_abs}
use Rattle.std.proofs.lemmas.Bool.{leb-false, leb-true}
use Rattle.std.proofs.lemmas.Bool.Decides.{eqb_tells}
use Rattle.std.proofs.lemmas.Option.{slice_get-get_or}
use Rattle.cells.specs.Numbers.{wrap32}
use Rattle.c0_typed.specs.Values.{Value, Number, Truth, Text, as_number, as_truth}
use Rattle.c0_typed.specs.Trees.{Program, Ty, IntTy, BoolTy}
use Rattle.c0_typed.specs.Meaning.{unary_value}
use Rattle.c0_typed.specs.Typing.{Is, Kept, unary_type}
use Rattle.c0_typed.specs.Views.{text_at, unary_of}
use Rattle.c0_typed.specs.declared.tree.UnaryOperator.{UnaryOperator}
use Rattle.c0_typed.specs.declared.tree.UnaryOperator.TheVariants as u
use Rattle.code_form.specs.Code as k
use Rattle.code_form.specs.Code.{Did, Sets, if_zero, int_of, of_bool, of_int, op_does}
use Rattle.code_form.specs.declared.allocation.Allocation.{Allocation}
use Rattle.code_form.specs.declared.form.Operation.TheVariants as op
use Rattle.code_form.specs.Form.{Head}
use Rattle.lower.specs.Coded.{Coded}
use Rattle.lower_expressions.specs.Expressions.{unary_operator}
use Rattle.lower.proofs.Operators.{coded_number, coded_truth}
use Rattle.std.specs.Prelude.{slice_index}

lowest : of_int (wrap32 (pos 2147483648)) ≡ 2147483648
unfolding int_wrap
lowest = refl

fitting : (z : ℤ) → FitsSigned w32 z → of_int z ≡ of_int (wrap32 z)
fitting z h = ap of_int (sym (int_wrap_fits w32 z h))

-- the negative's cell, wrapped or not
pub negative_cell : (z : ℤ) → FitsSigned w32 z → of_int (neg_ℤ z) ≡ of_int (wrap32 (neg_ℤ z))
negative_cell (pos zero) h = fitting (pos 0) h
negative_cell (pos (suc k)) h = fitting (negsuc k) (record { sfits = omega (arith, ints, h.sfits) })
negative_cell (negsuc k) h = at (eqb_tells k 2147483647)
  where
    at : (((k == 2147483647) ≡ true) × (k ≡ 2147483647)) ⊎ (((k == 2147483647) ≡ false) × (k ≢ 2147483647)) → of_int (pos (suc k)) ≡ of_int (wrap32 (pos (suc k)))
    at (inl q) = subst (λ j. of_int (pos (suc j)) ≡ of_int (wrap32 (pos (suc j)))) (sym q.1) (sym lowest)
    at (inr q) = let ne = q.1 in fitting (pos (suc k)) (record { sfits = omega (arith, ints, h.sfits) })

not_cell : (b : Bool) → if_zero (of_bool b) 1 0 ≡ of_bool (not b)
not_cell true = refl
not_cell false = refl

module _ (H : Head) where
  -- what an operator on one value sets is its value's cell
  pub unary_cell : (p : Program) (made : List Kept) (o : UnaryOperator) (v : Value) (al : List Allocation) (xs : List ℕ) (d a : ℕ) → Is p made (unary_type (unary_of o)) v → Coded H v (slice_index xs a)
      → (n : ℕ) × (op_does H al xs (op.Unary (unary_operator o) d a) ≡ Sets d n) × Coded H (unary_value (unary_of o) v) n
  unary_cell p made u.Negate v al xs d a i c =
      let q : int_of (slice_index xs a) ≡ as_number v = coded_number H p made v (slice_index xs a) i c in
      let f : FitsSigned w32 (as_number v) = subst (λ (x : Value). FitsSigned w32 (as_number x)) (sym i.1) i.2 in
      (of_int (neg_ℤ (int_of (slice_index xs a))), refl, ap (λ z. of_int (neg_ℤ z)) q ∙ negative_cell (as_number v) f)
  unary_cell p made u.Complement v al xs d a i c =
      (of_int (int_bit_not w32 (int_of (slice_index xs a))), refl, ap (λ z. of_int (int_bit_not w32 z)) (coded_number H p made v (slice_index xs a) i c))
  unary_cell p made u.Not v al xs d a i c =
      (if_zero (slice_index xs a) 1 0, refl, ap (λ z. if_zero z 1 0) (coded_truth H p made v (slice_index xs a) i c) ∙ not_cell (as_truth v))
