-- The operators keep to 32 bits.
use Rattle.std.proofs.Common.{◌≡◌, ◌≢◌, ℕ, zero, suc, ◌≤◌, ◌^◌, ◌/◌, refl, subst, arith, Bool, true, false, Some, ℤ, pos, negsuc, FitsSigned}
use Rattle.std.specs.Prelude.{nat_lt, not, ◌&&◌, ◌==◌, int_div, int_rem, neg_ℤ}
use Rattle.std.specs.Int.{w32, int_bit_not, int_bit_and, int_bit_or, int_bit_xor, int_shl, int_shr}
use Rattle.std.specs.Int.Signed.{mag_shr}
use Rattle.std.proofs.lemmas.Int.{SFits-int_wrap, fits_signed_from_abs, rem_below}
use Rattle.std.proofs.Math.Nat.{div-le_self, div-le_of_le-mul}
use Rattle.std.proofs.Math.Facts.{sfits_to_z, Fits-of_z, Fits-and, Fits-or, Fits-xor, Fits-of_lt}
use Rattle.cells.specs.declared.int32.Int32Op.{Int32Op}
use Rattle.cells.specs.declared.int32.Int32Op.TheVariants.{Add, Sub, Mul, Div, Mod, And, Or, Xor, Shl, Shr}
use Rattle.cells.specs.Numbers.{op_value, wrap32, can_divide, where_so, shifted}

add_fits : (x z : ℤ) → Some (wrap32 x) ≡ Some z → FitsSigned w32 z
add_fits x z e = let q : wrap32 x ≡ z = cc e in subst (FitsSigned w32) q (SFits-int_wrap w32 x)

and_fits : (a b : ℤ) → FitsSigned w32 a → FitsSigned w32 b → FitsSigned w32 (int_bit_and w32 a b)
and_fits a b f g = sfits_to_z (Fits-and _ (Fits-of_z f))

or_fits : (a b : ℤ) → FitsSigned w32 a → FitsSigned w32 b → FitsSigned w32 (int_bit_or w32 a b)
or_fits a b f g = sfits_to_z (Fits-or (Fits-of_z f) (Fits-of_z g))

xor_fits : (a b : ℤ) → FitsSigned w32 a → FitsSigned w32 b → FitsSigned w32 (int_bit_xor w32 a b)
xor_fits a b f g = sfits_to_z (Fits-xor (Fits-of_z f) (Fits-of_z g))

pub not_fits : (z : ℤ) → FitsSigned w32 (int_bit_not w32 z)
not_fits z = sfits_to_z (Fits-of_lt (omega arith))

shl_fits : (a : ℤ) (k : ℕ) → FitsSigned w32 (int_shl w32 a k)
shl_fits a k = sfits_to_z (Fits-of_lt (omega arith))

shr_fits : (a : ℤ) (k : ℕ) → FitsSigned w32 a → FitsSigned w32 (int_shr a k)
shr_fits a k f = record { sfits = omega (arith, mag_shr a (2 ^ k), f.sfits) }

neg_fits : (n : ℕ) → n ≤ 2 ^ 31 → FitsSigned w32 (neg_ℤ (pos n))
neg_fits zero h = record { sfits = omega arith }
neg_fits (suc k) h = record { sfits = omega (arith, h) }

div_fits : (a b : ℤ) → FitsSigned w32 a → can_divide a b ≡ true → FitsSigned w32 (int_div a b)
div_fits (pos a) (pos b) f c = record { sfits = omega (arith, f.sfits, div-le_self a b) }
div_fits (pos a) (negsuc b) f c = neg_fits (a / suc b) (omega (arith, f.sfits, div-le_self a (suc b)))
div_fits (negsuc a) (pos b) f c = neg_fits (suc a / b) (omega (arith, f.sfits, div-le_self (suc a) b))
div_fits (negsuc a) (negsuc zero) f c = record { sfits = omega (arith, f.sfits, div-le_self (suc a) 1, other a c) }
  where
    other : (n : ℕ) → not ((n == 2147483647) && true) ≡ true → n ≢ 2147483647
    other n e q = absurd (let r : not ((2147483647 == 2147483647) && true) ≡ true = subst (λ x. not ((x == 2147483647) && true) ≡ true) q e in cc r)
div_fits (negsuc a) (negsuc (suc b)) f c = record { sfits = omega (arith, f.sfits, div-le_of_le-mul (suc (suc b)) {m = suc a} {n = 2 ^ 30} (omega (arith, f.sfits))) }

rem_fits : (a b : ℤ) → FitsSigned w32 b → can_divide a b ≡ true → FitsSigned w32 (int_rem a b)
rem_fits a (pos zero) f c = absurd (cc c)
rem_fits a (pos (suc b)) f c = fits_signed_from_abs w32 (int_rem a (pos (suc b))) (omega (arith, f.sfits, rem_below a (pos (suc b)) (omega arith)))
rem_fits a (negsuc b) f c = fits_signed_from_abs w32 (int_rem a (negsuc b)) (omega (arith, f.sfits, rem_below a (negsuc b) (omega arith)))

so_fits : (b : Bool) (x z : ℤ) → (b ≡ true → FitsSigned w32 x) → where_so b x ≡ Some z → FitsSigned w32 z
so_fits true x z h e = let q : x ≡ z = cc e in subst (FitsSigned w32) q (h refl)
so_fits false x z h e = absurd (cc e)

some_fits : (x z : ℤ) → FitsSigned w32 x → Some x ≡ Some z → FitsSigned w32 z
some_fits x z h e = let q : x ≡ z = cc e in subst (FitsSigned w32) q h

shift_fits : (f : ℕ → ℤ) (b z : ℤ) → ((k : ℕ) → FitsSigned w32 (f k)) → shifted f b ≡ Some z → FitsSigned w32 z
shift_fits f (pos k) z h e = so_fits (nat_lt k 32) (f k) z (λ q. h k) e
shift_fits f (negsuc k) z h e = absurd (cc e)

pub ops_fit : (o : Int32Op) (a b z : ℤ) → FitsSigned w32 a → FitsSigned w32 b → op_value o a b ≡ Some z → FitsSigned w32 z
ops_fit Add a b z f g e = add_fits _ z e
ops_fit Sub a b z f g e = add_fits _ z e
ops_fit Mul a b z f g e = add_fits _ z e
ops_fit Div a b z f g e = so_fits (can_divide a b) (int_div a b) z (div_fits a b f) e
ops_fit Mod a b z f g e = so_fits (can_divide a b) (int_rem a b) z (rem_fits a b g) e
ops_fit And a b z f g e = some_fits _ z (and_fits a b f g) e
ops_fit Or a b z f g e = some_fits _ z (or_fits a b f g) e
ops_fit Xor a b z f g e = some_fits _ z (xor_fits a b f g) e
ops_fit Shl a b z f g e = shift_fits (int_shl w32 a) b z (shl_fits a) e
ops_fit Shr a b z f g e = shift_fits (int_shr a) b z (λ k. shr_fits a k f) e
