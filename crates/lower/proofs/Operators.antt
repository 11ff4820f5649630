-- What operators come to on values and on their cells.
use Rattle.std.proofs.Common.{◌≡◌, ◌≢◌, ℕ, zero, suc, ◌<◌, ◌⊎◌, inl, inr, Bool, true, false, cond, List, [], ◌∷◌, Option, Some, None, ℤ, pos, negsuc, FitsSigned, refl, sym, ap, ◌∙◌, subst, arith, mod-eq_of_lt}
use Rattle.std.specs.Prelude.{◌==◌, nat_lt, not, neg_ℤ, int_lt}
use Rattle.std.specs.Bool.{beq}
use Rattle.std.specs.Int.{w32, cast_signed, int_bit_not}
use Rattle.std.proofs.lemmas.Bool.{ltb-true}
use Rattle.std.proofs.lemmas.Bool.Decides.{eqb_tells}
use Rattle.std.proofs.lemmas.Int.{to_z-of_z, to_z_pos}
use Rattle.std.proofs.Math.Facts.{Fits-of_z}
use Rattle.cells.specs.declared.int32.Int32Op.{Int32Op}
use Rattle.cells.specs.Numbers.{op_value, wrap32}
use Rattle.c0_typed.specs.Values.{Value, Number, Truth, Letter, Text, Ref, Void, as_number, as_truth, as_letter, as_ref, same_value, value_below}
use Rattle.c0_typed.specs.Trees as t
use Rattle.c0_typed.specs.Trees.{Program, Ty, VoidTy, IntTy, BoolTy, CharTy, TextTy, StructTy, PointerTy, ArrayTy}
use Rattle.c0_typed.specs.Meaning.{unary_value, binary_value, relation_value}
use Rattle.c0_typed.specs.Typing.{Is, IsCompared, Kept}
use Rattle.c0_typed.specs.Views.{relation_of, unary_of}
use Rattle.c0_typed.specs.declared.tree.Relation.{Relation}
use Rattle.c0_typed.specs.declared.tree.Relation.TheVariants as r
use Rattle.c0_typed.specs.declared.tree.UnaryOperator.{UnaryOperator}
use Rattle.c0_typed.specs.declared.tree.UnaryOperator.TheVariants as u
use Rattle.code_form.specs.Code.{char_of, compares, if_zero, int_of, of_bool, of_int}
use Rattle.code_form.specs.Form.{Head}
use Rattle.lower.specs.Coded.{Coded}
use Rattle.lower_expressions.specs.Expressions.{code_relation}

-- a number is read back from its cell
pub number_back : (z : ℤ) → FitsSigned w32 z → int_of (of_int z) ≡ z
number_back z h =
    let small : of_int z < 4294967296 = (Fits-of_z {w = w32} h).fits in
    ap (cast_signed w32) (mod-eq_of_lt small) ∙ to_z-of_z w32 z h

-- a small natural number is its own cell
pub small_cell : (n : ℕ) → FitsSigned w32 (pos n) → of_int (pos n) ≡ n
small_cell n h = refl

pub same_bools : (x y : Bool) → (x ≡ true → y ≡ true) → (y ≡ true → x ≡ true) → x ≡ y
same_bools true y f g = sym (f refl)
same_bools false true f g = g refl
same_bools false false f g = refl

eqb_same : (a b : ℕ) → (a == b) ≡ true → a ≡ b
eqb_same a b e = at (eqb_tells a b)
  where
    at : (((a == b) ≡ true) × (a ≡ b)) ⊎ (((a == b) ≡ false) × (a ≢ b)) → a ≡ b
    at (inl q) = q.1
    at (inr q) = let z = sym e ∙ q.0 in absurd (cc z)

eqb_refl : (a : ℕ) → (a == a) ≡ true
eqb_refl a = at (eqb_tells a a)
  where
    at : (((a == a) ≡ true) × (a ≡ a)) ⊎ (((a == a) ≡ false) × (a ≢ a)) → (a == a) ≡ true
    at (inl q) = q.0
    at (inr q) = absurd (q.1 refl)

same_number : (a b : ℤ) → same_value (Number a) (Number b) ≡ true → a ≡ b
same_number (pos a) (pos b) e = ap pos (eqb_same a b e)
same_number (pos a) (negsuc b) e = absurd (cc e)
same_number (negsuc a) (pos b) e = absurd (cc e)
same_number (negsuc a) (negsuc b) e = ap negsuc (eqb_same a b e)

number_same : (a : ℤ) → same_value (Number a) (Number a) ≡ true
number_same (pos a) = eqb_refl a
number_same (negsuc a) = eqb_refl a

-- numbers are the same where their cells are
same_numbers : (a b : ℤ) → FitsSigned w32 a → FitsSigned w32 b → (of_int a == of_int b) ≡ same_value (Number a) (Number b)
same_numbers a b f g =
    same_bools (of_int a == of_int b) (same_value (Number a) (Number b))
    (λ e. let q : a ≡ b = sym (number_back a f) ∙ ap int_of (eqb_same (of_int a) (of_int b) e) ∙ number_back b g in subst (λ z. same_value (Number a) (Number z) ≡ true) q (number_same a))
    (λ e. subst (λ z. (of_int a == of_int z) ≡ true) (same_number a b e) (eqb_refl (of_int a)))

same_truths : (a b : Bool) → (of_bool a == of_bool b) ≡ beq a b
same_truths true true = refl
same_truths true false = refl
same_truths false true = refl
same_truths false false = refl

letter_back : (c : ℕ) → c < 128 → int_of c ≡ pos c
letter_back c h =
    let small : c < 4294967296 = omega arith in
    let half : c < 2147483648 = omega arith in
    ap (cast_signed w32) (mod-eq_of_lt small) ∙ to_z_pos w32 c half

module _ (H : Head) (p : Program) (made : List Kept) where
  pub coded_number : (v : Value) (n : ℕ) → Is p made IntTy v → Coded H v n → int_of n ≡ as_number v
  coded_number v n h c = at h.0 h.1 h.2 c
    where
      at : (z : ℤ) → v ≡ Number z → FitsSigned w32 z → Coded H v n → int_of n ≡ as_number v
      at z e f c =
          let q : n ≡ of_int z = subst (λ x. Coded H x n) e c in
          ap int_of q ∙ number_back z f ∙ sym (ap as_number e)

  pub coded_truth : (v : Value) (n : ℕ) → Is p made BoolTy v → Coded H v n → n ≡ of_bool (as_truth v)
  coded_truth v n h c = subst (λ x. Coded H x n) h.1 c ∙ sym (ap (λ x. of_bool (as_truth x)) h.1)

  pub coded_pointer : (u : Ty) (v : Value) (n : ℕ) → Is p made (PointerTy u) v → Coded H v n → n ≡ as_ref v
  coded_pointer u v n h c = subst (λ x. Coded H x n) h.1 c ∙ sym (ap as_ref h.1)

  pub coded_array : (u : Ty) (v : Value) (n : ℕ) → Is p made (ArrayTy u) v → Coded H v n → n ≡ as_ref v
  coded_array u v n h c = subst (λ x. Coded H x n) h.1 c ∙ sym (ap as_ref h.1)

  pub coded_letter : (v : Value) (n : ℕ) → Is p made CharTy v → Coded H v n → n ≡ as_letter v
  coded_letter v n h c = subst (λ x. Coded H x n) h.1 c ∙ sym (ap as_letter h.1)

  -- a letter is printed as itself
  pub letter_shown : (v : Value) (n : ℕ) → Is p made CharTy v → Coded H v n → char_of n ≡ as_letter v
  letter_shown v n h c =
      let below : h.0 < 128 = h.2 in
      let within : h.0 < 256 = (omega arith) in
      ap char_of (coded_letter v n h c ∙ ap as_letter h.1) ∙ mod-eq_of_lt within ∙ sym (ap as_letter h.1)

  -- two values are the same where their cells are
  same_cells : (ty : Ty) (v w : Value) (a b : ℕ) → IsCompared t.Equal ty → Is p made ty v → Is p made ty w → Coded H v a → Coded H w b → (a == b) ≡ same_value v w
  same_cells VoidTy v w a b k h i c d = absurd k
  same_cells TextTy v w a b k h i c d = absurd k
  same_cells (StructTy j) v w a b k h i c d = absurd k
  same_cells IntTy v w a b k h i c d =
      let x : a ≡ of_int h.0 = subst (λ x. Coded H x a) h.1 c in
      let y : b ≡ of_int i.0 = subst (λ x. Coded H x b) i.1 d in
      rw (x, y, h.1, i.1) (same_numbers h.0 i.0 h.2 i.2)
  same_cells BoolTy v w a b k h i c d =
      let x : a ≡ of_bool h.0 = subst (λ x. Coded H x a) h.1 c in
      let y : b ≡ of_bool i.0 = subst (λ x. Coded H x b) i.1 d in
      rw (x, y, h.1, i.1) (same_truths h.0 i.0)
  same_cells CharTy v w a b k h i c d =
      let x : a ≡ h.0 = subst (λ x. Coded H x a) h.1 c in
      let y : b ≡ i.0 = subst (λ x. Coded H x b) i.1 d in
      rw (x, y, h.1, i.1) refl
  same_cells (PointerTy u) v w a b k h i c d =
      let x : a ≡ h.0 = subst (λ x. Coded H x a) h.1 c in
      let y : b ≡ i.0 = subst (λ x. Coded H x b) i.1 d in
      rw (x, y, h.1, i.1) refl
  same_cells (ArrayTy u) v w a b k h i c d =
      let x : a ≡ h.0 = subst (λ x. Coded H x a) h.1 c in
      let y : b ≡ i.0 = subst (λ x. Coded H x b) i.1 d in
      rw (x, y, h.1, i.1) refl

  -- the order of two values is that of their cells
  below_cells : (ty : Ty) (v w : Value) (a b : ℕ) → IsCompared t.Below ty → Is p made ty v → Is p made ty w → Coded H v a → Coded H w b → int_lt (int_of a) (int_of b) ≡ value_below v w
  below_cells IntTy v w a b k h i c d =
      let x : int_of a ≡ h.0 = coded_number v a h c ∙ ap as_number h.1 in
      let y : int_of b ≡ i.0 = coded_number w b i d ∙ ap as_number i.1 in
      rw (x, y, h.1, i.1) refl
  below_cells CharTy v w a b k h i c d =
      let x : int_of a ≡ pos h.0 = ap int_of (subst (λ x. Coded H x a) h.1 c) ∙ letter_back h.0 h.2 in
      let y : int_of b ≡ pos i.0 = ap int_of (subst (λ x. Coded H x b) i.1 d) ∙ letter_back i.0 i.2 in
      rw (x, y, h.1, i.1) refl
  below_cells VoidTy v w a b k h i c d = absurd k
  below_cells TextTy v w a b k h i c d = absurd k
  below_cells (StructTy j) v w a b k h i c d = absurd k
  below_cells BoolTy v w a b k h i c d = absurd k
  below_cells (PointerTy u) v w a b k h i c d = absurd k
  below_cells (ArrayTy u) v w a b k h i c d = absurd k

  unequal : (ty : Ty) → IsCompared t.Unequal ty → IsCompared t.Equal ty
  unequal VoidTy k = k
  unequal IntTy k = k
  unequal BoolTy k = k
  unequal CharTy k = k
  unequal TextTy k = k
  unequal (StructTy j) k = k
  unequal (PointerTy u) k = k
  unequal (ArrayTy u) k = k

  ordered : (o : t.Relation) (ty : Ty) → (o ≢ t.Equal) → (o ≢ t.Unequal) → IsCompared o ty → IsCompared t.Below ty
  ordered t.Equal ty a b k = absurd (a refl)
  ordered t.Unequal ty a b k = absurd (b refl)
  ordered t.Below ty a b k = k
  ordered t.AtMost IntTy a b k = k
  ordered t.AtMost CharTy a b k = k
  ordered t.Above IntTy a b k = k
  ordered t.Above CharTy a b k = k
  ordered t.AtLeast IntTy a b k = k
  ordered t.AtLeast CharTy a b k = k
  ordered t.AtMost VoidTy a b k = absurd k
  ordered t.AtMost BoolTy a b k = absurd k
  ordered t.AtMost TextTy a b k = absurd k
  ordered t.AtMost (StructTy j) a b k = absurd k
  ordered t.AtMost (PointerTy u) a b k = absurd k
  ordered t.AtMost (ArrayTy u) a b k = absurd k
  ordered t.Above VoidTy a b k = absurd k
  ordered t.Above BoolTy a b k = absurd k
  ordered t.Above TextTy a b k = absurd k
  ordered t.Above (StructTy j) a b k = absurd k
  ordered t.Above (PointerTy u) a b k = absurd k
  ordered t.Above (ArrayTy u) a b k = absurd k
  ordered t.AtLeast VoidTy a b k = absurd k
  ordered t.AtLeast BoolTy a b k = absurd k
  ordered t.AtLeast TextTy a b k = absurd k
  ordered t.AtLeast (StructTy j) a b k = absurd k
  ordered t.AtLeast (PointerTy u) a b k = absurd k
  ordered t.AtLeast (ArrayTy u) a b k = absurd k

  -- a comparison of values is that of their cells
  pub compared : (o : Relation) (ty : Ty) (v w : Value) (a b : ℕ) → IsCompared (relation_of o) ty → Is p made ty v → Is p made ty w → Coded H v a → Coded H w b → compares (code_relation o) a b ≡ relation_value (relation_of o) v w
  compared r.Equal ty v w a b k h i c d = same_cells ty v w a b k h i c d
  compared r.Unequal ty v w a b k h i c d = ap not (same_cells ty v w a b (unequal ty k) h i c d)
  compared r.Below ty v w a b k h i c d = below_cells ty v w a b k h i c d
  compared r.AtMost ty v w a b k h i c d = ap not (below_cells ty w v b a (ordered t.AtMost ty (λ e. cc e) (λ e. cc e) k) i h d c)
  compared r.Above ty v w a b k h i c d = below_cells ty w v b a (ordered t.Above ty (λ e. cc e) (λ e. cc e) k) i h d c
  compared r.AtLeast ty v w a b k h i c d = ap not (below_cells ty v w a b (ordered t.AtLeast ty (λ e. cc e) (λ e. cc e) k) h i c d)
