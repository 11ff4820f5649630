-- A simple instruction that fits, over registers that hold values of their kinds, does not fail, and what it writes is of its register's kind.
use Rattle.std.proofs.Common.{◌≡◌, inr, ℕ, zero, suc, ◌*◌, ◌<◌, Bool, true, false, cond, Option, Some, None, List, [], ◌∷◌, length, refl, sym, subst, arith}
use Rattle.std.specs.Prelude.{ℤ, is_some, nat_lt, slice_get, slice_index}
use Rattle.cells.specs.Stops.{Stop, BoundsFault}
use Rattle.code_form.specs.declared.allocation.Allocation.{Allocation}
use Rattle.code_form.specs.declared.form.Kind.{Kind}
use Rattle.code_form.specs.declared.form.Kind.TheVariants as kind
use Rattle.code_form.specs.declared.form.UnaryOperator.TheVariants as operator
use Rattle.code_form.specs.declared.form.Operation.{Operation}
use Rattle.code_form.specs.declared.form.Operation.TheVariants.{Const, TextOf, BoolOf, CharOf, Null, Move, Binary, Unary, Compare, CheckNull, CheckIndex, Len, Prefetch, Alloc, AllocArray, Print, Println, Printint, Printbool, Printchar, Flush, Assert}
use Rattle.code_form.specs.Form.{Head}
use Rattle.code_form.specs.Code.{Did, Goes, Tells, Sets, Makes, Prints, Stops, Fails, has, if_zero, indexes, int_of, is_reference, length_of, makes, natural, of_int, op_does, op_fits, prints_text, sets_some, text_at}
use Rattle.code_verification.proofs.States.{AreTyped, IsKind}
use Rattle.code_verification.proofs.SameKinds.{array_of_is, below, both_left, both_right, has_is, on_kind_is}
use Rattle.code_verification.proofs.Allocations.{newest, zero_is}

-- what an instruction does is of the right kinds
abbrev pub IsTypedDid : Head → List Allocation → List Kind → Did → Type 0
IsTypedDid H al ks Goes = Unit {0}
IsTypedDid H al ks (Tells w) = Unit {0}
IsTypedDid H al ks (Sets d v) = (k : Kind) × (slice_get ks d ≡ Some k) × IsKind H al k v
IsTypedDid H al ks (Makes d a) = (k : Kind) × (cs : List Kind) × (slice_get ks d ≡ Some k) × (slice_get H.layouts a.layout ≡ Some cs) × (a.cells ≡ a.length * length cs) × IsKind H (a ∷ al) k (suc (length al))
IsTypedDid H al ks (Prints b) = Unit {0}
IsTypedDid H al ks (Stops s) = Unit {0}
IsTypedDid H al ks Fails = ⊥

module _ (H : Head) (al : List Allocation) (ks : List Kind) (rs : List ℕ) (typed : AreTyped H al ks rs) where
  sets_int : (d v : ℕ) → has ks d kind.Int ≡ true → IsTypedDid H al ks (Sets d v)
  sets_int d v e = (kind.Int, has_is ks d kind.Int e, tt)

  sets_bool : (d v : ℕ) → has ks d kind.Bool ≡ true → IsTypedDid H al ks (Sets d v)
  sets_bool d v e = (kind.Bool, has_is ks d kind.Bool e, tt)

  sets_number : (d : ℕ) (z : Option ℤ) → has ks d kind.Int ≡ true → IsTypedDid H al ks (sets_some d z)
  sets_number d None e = tt
  sets_number d (Some z) e = sets_int d (of_int z) e

  test_ok : (x : ℕ) (s : Stop) → IsTypedDid H al ks (if_zero x (Stops s) Goes)
  test_ok zero s = tt
  test_ok (suc x) s = tt

  text_ok : (a : ℕ) (more : List ℕ) → has ks a kind.Text ≡ true → IsTypedDid H al ks (prints_text (text_at H (slice_index rs a)) more)
  text_ok a more e = let t = typed a kind.Text (has_is ks a kind.Text e) in subst (λ x. IsTypedDid H al ks (prints_text x more)) (sym t.1) tt

  numbered : (n : ℕ) → nat_lt n (suc (length H.texts)) ≡ true → (t : List ℕ) × (text_at H n ≡ Some t)
  numbered zero e = ([], refl)
  numbered (suc n) e = there H.texts n (let l = below (suc n) (suc (length H.texts)) e in omega arith)
    where
      there : (xs : List (List ℕ)) (n : ℕ) → n < length xs → (t : List ℕ) × (slice_get xs n ≡ Some t)
      there [] n lt = absurd (omega arith)
      there (x ∷ xs) zero lt = (x, refl)
      there (x ∷ xs) (suc n) lt = there xs n (omega arith)

  null_ok : (k : Kind) → is_reference k ≡ true → IsKind H al k 0
  null_ok k e = zero_is H al k

  index_ok : (d : ℕ) (i : Option ℕ) (n size l : ℕ) → slice_get ks d ≡ Some (kind.Off l) → IsTypedDid H al ks (indexes d i n size)
  index_ok d None n size l e = tt
  index_ok d (Some i) n size l e = by_test (nat_lt i n)
    where
      by_test : (b : Bool) → IsTypedDid H al ks (cond b (Sets d (i * size)) (Stops BoundsFault))
      by_test true = (kind.Off l, e, tt)
      by_test false = tt

  alloc_ok : (d l : ℕ) (x : Option (List Kind)) → has ks d (kind.Ptr l) ≡ true → slice_get H.layouts l ≡ x → is_some x ≡ true → IsTypedDid H al ks (makes d l (Some 1) x)
  alloc_ok d l None e h k = absurd (cc k)
  alloc_ok d l (Some cs) e h k =
      let a : Allocation = record { layout = l; length = 1; cells = 1 * length cs } in
      (kind.Ptr l, cs, has_is ks d (kind.Ptr l) e, h, refl, inr (a, newest a al, refl, omega arith))

  array_ok : (d l : ℕ) (n : Option ℕ) (x : Option (List Kind)) → has ks d (kind.Arr l) ≡ true → slice_get H.layouts l ≡ x → is_some x ≡ true → IsTypedDid H al ks (makes d l n x)
  array_ok d l n None e h k = absurd (cc k)
  array_ok d l None (Some cs) e h k = tt
  array_ok d l (Some n) (Some cs) e h k =
      let a : Allocation = record { layout = l; length = n; cells = n * length cs } in
      (kind.Arr l, cs, has_is ks d (kind.Arr l) e, h, refl, inr (a, newest a al, refl, omega arith))

  pub op_typed : (o : Operation) → op_fits H ks o ≡ true → IsTypedDid H al ks (op_does H al rs o)
  op_typed (Const d z) e = sets_int d _ e
  op_typed (TextOf d n) e = (kind.Text, has_is ks d kind.Text (both_left _ _ e), numbered n (both_right _ _ e))
  op_typed (BoolOf d b) e = sets_bool d _ e
  op_typed (CharOf d c) e = (kind.Char, has_is ks d kind.Char e, tt)
  op_typed (Null d) e = let z = on_kind_is is_reference (slice_get ks d) e in (z.0, z.1, null_ok z.0 z.2)
  op_typed (Move d a) e = let z = on_kind_is (λ k. has ks d k) (slice_get ks a) e in (z.0, has_is ks d z.0 z.2, typed a z.0 z.1)
  op_typed (Binary o d a b) e = sets_number d _ (both_left _ _ e)
  op_typed (Unary operator.Negate d a) e = sets_int d _ (both_left _ _ e)
  op_typed (Unary operator.Complement d a) e = sets_int d _ (both_left _ _ e)
  op_typed (Unary operator.Not d a) e = sets_bool d _ (both_left _ _ e)
  op_typed (Compare r d a b) e = sets_bool d _ (both_left _ _ e)
  op_typed (CheckNull r) e = test_ok (slice_index rs r) _
  op_typed (CheckIndex d r i size) e = let z = array_of_is (slice_get ks d) (slice_get ks r) (both_left _ _ e) in index_ok d (natural (int_of (slice_index rs i))) (length_of al (slice_index rs r)) size z.0 z.1
  op_typed (Len d r) e = sets_int d _ (both_left _ _ e)
  op_typed (Prefetch r off i) e = tt
  op_typed (Alloc d l) e = alloc_ok d l (slice_get H.layouts l) (both_left _ _ e) refl (both_right _ _ e)
  op_typed (AllocArray d l n) e = array_ok d l _ (slice_get H.layouts l) (both_left _ _ e) refl (both_right _ _ (both_right _ _ e))
  op_typed (Print a) e = text_ok a [] e
  op_typed (Println a) e = text_ok a _ e
  op_typed (Printint a) e = tt
  op_typed (Printbool a) e = tt
  op_typed (Printchar a) e = tt
  op_typed Flush e = tt
  op_typed (Assert a) e = test_ok (slice_index rs a) _
