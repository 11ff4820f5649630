-- What is known behind a simple instruction holds where what was known before it did.
use Rattle.std.proofs.Common.{◌≡◌, ◌≢◌, ℕ, zero, suc, ◌*◌, ◌<◌, Bool, true, false, cond, Option, Some, None, List, ◌∷◌, length, refl, sym, ap, ◌∙◌, subst}
use Rattle.std.specs.Prelude.{ℤ, map, nat_lt, slice_get, slice_index, slice_set}
use Rattle.std.proofs.lemmas.List.{get_or-set_other}
use Rattle.cells.specs.Stops.{Stop, BoundsFault, NullFault}
use Rattle.code_form.specs.declared.allocation.Allocation.{Allocation}
use Rattle.code_form.specs.declared.form.Kind.{Kind}
use Rattle.code_form.specs.declared.form.Kind.TheVariants as kind
use Rattle.code_form.specs.declared.form.UnaryOperator.TheVariants as operator
use Rattle.code_form.specs.declared.form.Operation.{Operation}
use Rattle.code_form.specs.declared.form.Operation.TheVariants.{Const, TextOf, BoolOf, CharOf, Null, Move, Binary, Unary, Compare, CheckNull, CheckIndex, Len, Prefetch, Alloc, AllocArray, Print, Println, Printint, Printbool, Printchar, Flush, Assert}
use Rattle.code_form.specs.Form.{Head}
use Rattle.code_form.specs.Code.{Did, Goes, Tells, Sets, Makes, Prints, Stops, Fails, Scope, has_size, if_zero, indexes, int_of, is_pointer, is_size, length_of, makes, natural, on_kind, op_does, op_fits, prints_text, sets_some, written}
use Rattle.code_form.specs.Known.{Known, after_operation, with_inside, with_nonnull, wrote}
use Rattle.code_verification.proofs.States.{Holds, IsOffset}
use Rattle.code_verification.proofs.SameKinds.{array_of_is, below, both_left, both_right, equal}
use Rattle.code_verification.proofs.Holding.{holds_grown, holds_inside, holds_nonnull, holds_written}
use Rattle.code_verification.proofs.Typed.{register_same}

-- what is known holds behind what an instruction does
abbrev pub HoldsDid : Head → List Allocation → List Kind → List ℕ → List Scope → Known → Did → Type 0
HoldsDid H al ks rs scopes k Goes = Holds H al ks rs scopes k
HoldsDid H al ks rs scopes k (Tells w) = Holds H al ks rs scopes k
HoldsDid H al ks rs scopes k (Sets d v) = Holds H al ks (slice_set rs d v) (map (written d) scopes) k
HoldsDid H al ks rs scopes k (Makes d a) = Holds H (a ∷ al) ks (slice_set rs d (suc (length al))) (map (written d) scopes) k
HoldsDid H al ks rs scopes k (Prints b) = Holds H al ks rs scopes k
HoldsDid H al ks rs scopes k (Stops s) = Unit {0}
HoldsDid H al ks rs scopes k Fails = Unit {0}

module _ (H : Head) (al : List Allocation) (ks : List Kind) (rs : List ℕ) (scopes : List Scope) (k : Known) (h : Holds H al ks rs scopes k) where
  sets : (d v : ℕ) → HoldsDid H al ks rs scopes (wrote d k) (Sets d v)
  sets d v = holds_written H al ks rs scopes k d v h

  sets_number : (d : ℕ) (z : Option ℤ) → HoldsDid H al ks rs scopes (wrote d k) (sets_some d z)
  sets_number d None = tt
  sets_number d (Some z) = sets d _

  tests : (x : ℕ) (s : Stop) → HoldsDid H al ks rs scopes k (if_zero x (Stops s) Goes)
  tests zero s = tt
  tests (suc x) s = h

  tests_null : (r x : ℕ) → on_kind is_pointer (slice_get ks r) ≡ true → slice_index rs r ≡ x → HoldsDid H al ks rs scopes (with_nonnull r k) (if_zero x (Stops NullFault) Goes)
  tests_null r zero p e = tt
  tests_null r (suc x) p e = holds_nonnull H al ks rs scopes k r (p, (λ z. let y : suc x ≡ 0 = sym e ∙ z in cc)) h

  prints : (t : Option (List ℕ)) (more : List ℕ) → HoldsDid H al ks rs scopes k (prints_text t more)
  prints None more = tt
  prints (Some t) more = h

  made : (d l : ℕ) (n : Option ℕ) (x : Option (List Kind)) → HoldsDid H al ks rs scopes (wrote d k) (makes d l n x)
  made d l n None = tt
  made d l None (Some cs) = tt
  made d l (Some n) (Some cs) = let a : Allocation = record { layout = l; length = n; cells = n * length cs } in
      holds_written H (a ∷ al) ks rs scopes k d (suc (length al)) (holds_grown H a al ks rs scopes k h)

  -- an index within the length gives the offset of an element
  indexed : (d r size l : ℕ) (cs : List Kind) (i : Option ℕ) → slice_get ks d ≡ Some (kind.Off l) → slice_get ks r ≡ Some (kind.Arr l) → slice_get H.layouts l ≡ Some cs → length cs ≡ size → length rs ≡ length ks
      → HoldsDid H al ks rs scopes (with_inside d r (wrote d k)) (indexes d i (length_of al (slice_index rs r)) size)
  indexed d r size l cs None kd kr lay same long = tt
  indexed d r size l cs (Some i) kd kr lay same long = by_test (nat_lt i (length_of al (slice_index rs r))) refl
    where
      by_test : (b : Bool) → nat_lt i (length_of al (slice_index rs r)) ≡ b → HoldsDid H al ks rs scopes (with_inside d r (wrote d k)) (cond b (Sets d (i * size)) (Stops BoundsFault))
      by_test false e = tt
      by_test true e =
          let differ : r ≢ d = λ s. let z : Some (kind.Arr l) ≡ Some (kind.Off l) = sym kr ∙ ap (slice_get ks) s ∙ kd in cc in
          let so : IsOffset H al ks (slice_set rs d (i * size)) d r = record {
            layout = l;
            cells = cs;
            index = i;
            array = kr;
            offsets = kd;
            element = lay;
            place = register_same ks rs d (i * size) (kind.Off l) kd long ∙ ap (λ z. i * z) (sym same);
            inside = subst (λ z. i < length_of al z) (sym (get_or-set_other rs d r (i * size) 0 differ)) (below i (length_of al (slice_index rs r)) e);
          } in
          holds_inside H al ks (slice_set rs d (i * size)) (map (written d) scopes) (wrote d k) d r so (holds_written H al ks rs scopes k d (i * size) h)

-- ---- sizes

sized : (size : ℕ) (x : Option (List Kind)) → is_size size x ≡ true → (cs : List Kind) × (x ≡ Some cs) × (length cs ≡ size)
sized size None e = absurd (cc e)
sized size (Some cs) e = (cs, refl, equal (length cs) size e)

-- the elements of an array have the size that the check names
element_size : (H : Head) (ks : List Kind) (r l size : ℕ) → slice_get ks r ≡ Some (kind.Arr l) → has_size H size (slice_get ks r) ≡ true → (cs : List Kind) × (slice_get H.layouts l ≡ Some cs) × (length cs ≡ size)
element_size H ks r l size kr e = sized size (slice_get H.layouts l) (subst (λ q. has_size H size q ≡ true) kr e)

pub op_holds : (H : Head) (al : List Allocation) (ks : List Kind) (rs : List ℕ) (scopes : List Scope) (k : Known) → Holds H al ks rs scopes k → (o : Operation) → op_fits H ks o ≡ true → length rs ≡ length ks → HoldsDid H al ks rs scopes (after_operation o k) (op_does H al rs o)
op_holds H al ks rs scopes k h (Const d z) e long = sets H al ks rs scopes k h d _
op_holds H al ks rs scopes k h (TextOf d n) e long = sets H al ks rs scopes k h d _
op_holds H al ks rs scopes k h (BoolOf d b) e long = sets H al ks rs scopes k h d _
op_holds H al ks rs scopes k h (CharOf d c) e long = sets H al ks rs scopes k h d _
op_holds H al ks rs scopes k h (Null d) e long = sets H al ks rs scopes k h d _
op_holds H al ks rs scopes k h (Move d a) e long = sets H al ks rs scopes k h d _
op_holds H al ks rs scopes k h (Binary o d a b) e long = sets_number H al ks rs scopes k h d _
op_holds H al ks rs scopes k h (Unary operator.Negate d a) e long = sets H al ks rs scopes k h d _
op_holds H al ks rs scopes k h (Unary operator.Complement d a) e long = sets H al ks rs scopes k h d _
op_holds H al ks rs scopes k h (Unary operator.Not d a) e long = sets H al ks rs scopes k h d _
op_holds H al ks rs scopes k h (Compare r d a b) e long = sets H al ks rs scopes k h d _
op_holds H al ks rs scopes k h (CheckNull r) e long = tests_null H al ks rs scopes k h r (slice_index rs r) e refl
op_holds H al ks rs scopes k h (CheckIndex d r i size) e long =
    let z = array_of_is (slice_get ks d) (slice_get ks r) (both_left _ _ e) in
    let s = element_size H ks r z.0 size z.2 (both_right _ _ (both_right _ _ e)) in
    indexed H al ks rs scopes k h d r size z.0 s.0 (natural (int_of (slice_index rs i))) z.1 z.2 s.1 s.2 long
op_holds H al ks rs scopes k h (Len d r) e long = sets H al ks rs scopes k h d _
op_holds H al ks rs scopes k h (Prefetch r off i) e long = h
op_holds H al ks rs scopes k h (Alloc d l) e long = made H al ks rs scopes k h d l (Some 1) (slice_get H.layouts l)
op_holds H al ks rs scopes k h (AllocArray d l n) e long = made H al ks rs scopes k h d l (natural (int_of (slice_index rs n))) (slice_get H.layouts l)
op_holds H al ks rs scopes k h (Print a) e long = prints H al ks rs scopes k h _ _
op_holds H al ks rs scopes k h (Println a) e long = prints H al ks rs scopes k h _ _
op_holds H al ks rs scopes k h (Printint a) e long = h
op_holds H al ks rs scopes k h (Printbool a) e long = h
op_holds H al ks rs scopes k h (Printchar a) e long = h
op_holds H al ks rs scopes k h Flush e long = h
op_holds H al ks rs scopes k h (Assert a) e long = tests H al ks rs scopes k h (slice_index rs a) _
