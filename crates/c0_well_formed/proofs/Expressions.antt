-- The code of expressions and of places fits, and a place is a cell of its type.
use Rattle.std.proofs.Common.{◌≡◌, ℕ, suc, ◌+◌, Bool, true, List, [], ◌∷◌, ◌++◌, length, Option, Some, refl, sym, ap, ◌∙◌, subst, arith}
use Rattle.std.specs.Prelude.{◌&&◌, ◌==◌, nat_lt, slice_get, is_some}
use Rattle.std.proofs.lemmas.Bool.{eq-eqb, lt-ltb}
use Rattle.c0_typed.specs.Trees as t
use Rattle.c0_typed.specs.Trees.{Program, Ty, IntTy, BoolTy, StructTy, PointerTy, ArrayTy}
use Rattle.c0_typed.specs.Typing.{FitsProgram, Has, HasAll, Holds, IsSmall, IsWay, output_types, unary_type}
use Rattle.c0_typed.specs.Views.{exp_of, output_of, place_of, program_of, row_of, text_at, texts_of, type_of, unary_of}
use Rattle.c0_typed.proofs.Soundness.{way_on}
use Rattle.c0_typed.specs.declared.tree.Constant.{Constant as ConstantValue}
use Rattle.c0_typed.specs.declared.tree.Constant.TheVariants as c
use Rattle.c0_typed.specs.declared.tree.UnaryOperator.{UnaryOperator}
use Rattle.c0_typed.specs.declared.tree.UnaryOperator.TheVariants as u
use Rattle.c0_typed.specs.declared.tree.ValueType.{ValueType}
use Rattle.c0_typed.specs.declared.tree.Expression.{Expression, Row_of-Expression, end_of-Expression, more_of-Expression, At', Constant, Null, Local, Unary', Binary', Compare', And', Or', Choose', Call', Print', Load', Alloc, AllocArray', Length'}
use Rattle.c0_typed.specs.declared.tree.Place.{Place, Deref', Index', Field'}
use Rattle.c0_typed.specs.declared.tree.Typed.{Typed}
use Rattle.code_form.specs.declared.form.Kind.{Kind}
use Rattle.code_form.specs.declared.form.Kind.TheVariants as kind
use Rattle.code_form.specs.declared.form.Operation.TheVariants as op
use Rattle.code_form.specs.Code.{and_then, call_fits, cell_kind, has, has_size, is_array, is_array_of, is_compared, is_pointer, is_reference, is_size, layout_of, on_kind, op_fits, place_fits, result_fits}
use Rattle.code_form.specs.Form.{Head}
use Rattle.middle_form.specs.Form.{Code}
use Rattle.middle_form.specs.Form as f
use Rattle.middle_form.specs.WellFormed.{access_fits, callee_fits}
use Rattle.middle_form.specs.Guarded.{is_by_pointer}
use Rattle.lower.specs.Coded.{type_offset}
use Rattle.lower_tables.specs.Kinds as k
use Rattle.lower_tables.specs.Known.{IsKnown, Knows, KnowsPlace, KnowsRow}
use Rattle.lower_expressions.specs.Expressions as parts
use Rattle.lower_tables.specs.Texts.{number_among}
use Rattle.lower.specs.Lowered.{lowered, result_kind}
use Rattle.lower_expressions.specs.Expressions.{code_relation, constant_code, constant_kind, layout_at, moved, print_code, result_register, sequence, swapped, unary_kind, unary_operator, value_at}
use Rattle.lower.proofs.Calling.{function_at, its_code}
use Rattle.lower.proofs.Layouts.{kind_there, number_known, type_offset_on}
use Rattle.lower.proofs.Registers.{At, and_true, at_head, at_left, at_right, at_tail, has_it}
use Rattle.lower_tables.proofs.TextNumbers.{text_in}
use Rattle.lower.proofs.Values.{AreOf, LocalsAt, given_type, row_of_kinds, value_kind}
use Rattle.c0_well_formed.proofs.Fits.{AllFit, fit_append, fit_none, fit_one, fit_then}
use Rattle.c0_well_formed.proofs.Operators.{arguments_fit, compared_fits, print_fits, result_fits_there, unary_fits}

module _ (typed : Typed) (singles : List Kind) (checks : Bool) (fp : FitsProgram (program_of typed)) (types : List Ty) (locals : ℕ) (ks : List Kind) (locals_at : LocalsAt typed singles types locals ks) where
  abbrev pub p : Program
  p = program_of typed

  abbrev pub P : f.Program
  P = lowered singles checks typed

  abbrev pub H : Head
  H = P.head

  abbrev pub n : ℕ
  n = length p.structs

  abbrev pub texts : List (List ℕ)
  texts = texts_of typed

  abbrev pub kinds : Expression → List Kind
  kinds a = parts.exp_kinds p.structs singles (texts_of typed) typed.functions.items typed.main a

  abbrev kinds_row : {i : _} → Row_of-Expression i → List Kind
  kinds_row es = parts.row_kinds p.structs singles (texts_of typed) typed.functions.items typed.main es

  abbrev pub kinds_place : Place → List Kind
  kinds_place q = parts.place_kinds p.structs singles (texts_of typed) typed.functions.items typed.main q

  abbrev pub code : Expression → ℕ → List Code
  code a d = parts.exp_code p.structs singles (texts_of typed) typed.functions.items typed.main locals a d

  abbrev code_row : {i : _} → Row_of-Expression i → ℕ → List Code
  code_row es d = parts.row_code p.structs singles (texts_of typed) typed.functions.items typed.main locals es d

  abbrev pub code_place : Place → ℕ → List Code
  code_place q d = parts.place_code p.structs singles (texts_of typed) typed.functions.items typed.main locals q d

  abbrev at_row : {i : _} → Row_of-Expression i → ℕ → List ℕ
  at_row es d = parts.row_at p.structs singles (texts_of typed) typed.functions.items typed.main locals es d

  abbrev pub base : Place → ℕ → ℕ
  base q d = parts.base_at p.structs singles (texts_of typed) typed.functions.items typed.main locals q d

  abbrev pub off : Place → ℕ → Option ℕ
  off q d = parts.offset_at p.structs singles (texts_of typed) typed.functions.items typed.main locals q d

  abbrev pub shift : Place → ℕ
  shift q = parts.displacement p.structs singles (texts_of typed) typed.functions.items typed.main locals q

  abbrev layout : ValueType → ℕ
  layout ty = layout_at p.structs singles (texts_of typed) typed.functions.items typed.main ty

  -- the register of an expression's value has the kind of its type
  pub kind_is : (a : Expression) (ty : Ty) (d : ℕ) → At ks d (kinds a) → Has p types (exp_of texts a) ty → slice_get ks (value_at locals a d) ≡ Some (k.kind_of n singles ty)
  kind_is a ty d h q = value_kind typed singles types locals ks locals_at a ty d h q

  -- and passes for it
  pub has_kind : (a : Expression) (ty : Ty) (d : ℕ) → At ks d (kinds a) → Has p types (exp_of texts a) ty → has ks (value_at locals a d) (k.kind_of n singles ty) ≡ true
  has_kind a ty d h q = has_it ks (value_at locals a d) (k.kind_of n singles ty) (kind_is a ty d h q)

  -- the layout of what a program allocates or looks at
  layout_there : (ty : Ty) → IsKnown n singles ty → slice_get H.layouts (k.layout_number n singles ty) ≡ Some (k.cells_of p.structs singles ty)
  layout_there ty h = number_known p.structs singles ty h

  some_there : (o : Option (List Kind)) (cs : List Kind) → o ≡ Some cs → is_some o ≡ true
  some_there o cs e = ap is_some e

  -- the cells of what a register refers to
  cells_there : (r : ℕ) (a : Kind) (i : ℕ) (cs : List Kind) → slice_get ks r ≡ Some a → layout_of a ≡ Some i → slice_get H.layouts i ≡ Some cs → (x : ℕ) → cell_kind H ks r x ≡ slice_get cs x
  cells_there r a i cs e q z x =
      ap (λ o. and_then o (λ b. and_then (layout_of b) (λ j. and_then (slice_get H.layouts j) (λ ds. slice_get ds x)))) e
      ∙ ap (λ o. and_then o (λ j. and_then (slice_get H.layouts j) (λ ds. slice_get ds x))) q ∙ ap (λ o. and_then o (λ (ds : List Kind). slice_get ds x)) z

  size_there : (r : ℕ) (a : Kind) (i : ℕ) (cs : List Kind) → slice_get ks r ≡ Some a → layout_of a ≡ Some i → slice_get H.layouts i ≡ Some cs → has_size H (length cs) (slice_get ks r) ≡ true
  size_there r a i cs e q z =
      ap (λ o. is_size (length cs) (and_then o (λ j. and_then (layout_of j) (λ y. slice_get H.layouts y)))) e ∙ ap (λ o. is_size (length cs) (and_then o (λ y. slice_get H.layouts y))) q
      ∙ ap (is_size (length cs)) z ∙ eq-eqb (length cs) (length cs) refl

  -- A place holds something of this type: it is a part of what its reference refers to, as the types on the way tell
  pub record PlaceIs (q : Place) (ty : Ty) (d : ℕ) : Type 0 where
    pub whole : Ty
    pub path : List ℕ
    pub way : IsWay p whole path ty
    pub shifted : shift q ≡ type_offset p.structs singles whole path
    pub fits : place_fits ks (base q d) (off q d) ≡ true
    pub by_pointer : is_by_pointer ks (base q d) (off q d) ≡ true
    pub cells : (x : ℕ) → cell_kind H ks (base q d) x ≡ slice_get (k.cells_of p.structs singles whole) x

  -- a register of its kind may be loaded or stored there
  pub access : (q : Place) (ty : Ty) (d a : ℕ) → PlaceIs q ty d → IsSmall ty → slice_get ks a ≡ Some (k.kind_of n singles ty) → access_fits P ks a (base q d) (off q d) (shift q) ≡ true
  access q ty d a h small e =
      and_true (place_fits ks (base q d) (off q d)) (on_kind (λ b. has ks a b) (cell_kind H ks (base q d) (shift q))) h.fits
      (ap (on_kind (λ b. has ks a b)) (h.cells (shift q) ∙ ap (slice_get (k.cells_of p.structs singles h.whole)) h.shifted ∙ kind_there p singles fp h.path h.whole ty h.way small)
      ∙ has_it ks a (k.kind_of n singles ty) e)

  same_layout : (i : ℕ) → (i == i) ≡ true
  same_layout i = eq-eqb i i refl

  element_fits : (d r i : ℕ) → slice_get ks d ≡ Some (kind.Off i) → slice_get ks r ≡ Some (kind.Arr i) → is_array_of (slice_get ks d) (slice_get ks r) ≡ true
  element_fits d r i e q = ap (λ o. is_array_of o (slice_get ks r)) e ∙ ap (is_array_of (Some (kind.Off i))) q ∙ same_layout i

  -- where a place stands, by the types of its parts
  pub place_is : (q : Place) (ty : Ty) (d : ℕ) → At ks d (kinds_place q) → KnowsPlace n singles q → Holds p types (place_of texts q) ty → PlaceIs q ty d
  place_is (Deref' ty w a) u d at known h = record {
    whole = type_of ty;
    path = [];
    way = sym h.0;
    shifted = refl;
    fits = ap (on_kind is_reference) (kind_is a (PointerTy (type_of ty)) d at h.1);
    by_pointer = ap (on_kind is_pointer) (kind_is a (PointerTy (type_of ty)) d at h.1);
    cells = cells_there (value_at locals a d) (kind.Ptr (layout ty)) (layout ty) (k.cells_of p.structs singles (type_of ty)) (kind_is a (PointerTy (type_of ty)) d at h.1) refl (layout_there (type_of ty) known.0);
  }
  place_is (Index' ty w a v i) u d at known h =
      let behind = at_tail ks d (kind.Off (layout ty)) (kinds a ++ kinds i) at in
      let array = kind_is a (ArrayTy (type_of ty)) (suc d) (at_left ks (suc d) (kinds a) (kinds i) behind) h.1 in
      record {
        whole = type_of ty;
        path = [];
        way = sym h.0;
        shifted = refl;
        fits = element_fits d (value_at locals a (suc d)) (layout ty) (at_head ks d (kind.Off (layout ty)) (kinds a ++ kinds i) at) array;
        by_pointer = refl;
        cells = cells_there (value_at locals a (suc d)) (kind.Arr (layout ty)) (layout ty) (k.cells_of p.structs singles (type_of ty)) array refl (layout_there (type_of ty) known.0);
      }
  place_is (Field' j w q i) u d at known h =
      let inner = place_is q (StructTy j) d at known h.0 in
      record {
        whole = inner.whole;
        path = inner.path ++ i ∷ [];
        way = way_on p inner.path inner.whole j i u inner.way h.1;
        shifted = ap (λ z. z + k.field_offset p.structs singles j i) inner.shifted ∙ sym (type_offset_on p singles inner.path inner.whole j i inner.way);
        fits = inner.fits;
        by_pointer = inner.by_pointer;
        cells = inner.cells;
      }

  -- a call fits
  call_fits_there : (i : ℕ) (es : List ℕ) (d : ℕ) (g : t.Function) → slice_get p.functions i ≡ Some g → slice_get ks d ≡ Some (k.kind_of n singles g.result) → AreOf typed singles types locals ks g.parameters es
      → callee_fits P ks (slice_get P.functions (swapped typed.main i)) (result_register (parts.type_given p.structs singles (texts_of typed) typed.functions.items typed.main typed.functions.items i) d) es ≡ true
  call_fits_there i es d g e kd are =
      let there = function_at typed singles checks i g fp.main.0 fp.main.1 e in
      ap (λ o. callee_fits P ks o (result_register (parts.type_given p.structs singles (texts_of typed) typed.functions.items typed.main typed.functions.items i) d) es) there.3
      ∙ ap (λ z. call_fits ks (its_code typed singles checks there.0).result (its_code typed singles checks there.0).parameters (its_code typed singles checks there.0).kinds (result_register z d) es)
      (given_type typed singles types locals ks typed.functions.items i g e)
      ∙ and_true _ _ (arguments_fit typed singles types locals ks there.0.parameters.items _ es (subst (λ (z : t.Function). AreOf typed singles types locals ks z.parameters es) there.2 are))
      (subst (λ (z : t.Function). result_fits ks (result_kind n singles z.result) (result_register g.result d) ≡ true) there.2 (result_fits_there typed singles types locals ks g.result d kd))

  constant_fits : (x : ConstantValue) (d : ℕ) → slice_get ks d ≡ Some (constant_kind x) → op_fits H ks (constant_code texts x d) ≡ true
  constant_fits (c.Number z) d e = has_it ks d kind.Int e
  constant_fits (c.Truth b) d e = has_it ks d kind.Bool e
  constant_fits (c.Letter x) d e = has_it ks d kind.Char e
  constant_fits (c.Text i) d e =
      and_true (has ks d kind.Text) (nat_lt (number_among texts (text_at texts i)) (suc (length H.texts))) (has_it ks d kind.Text e)
      (let le = text_in texts (text_at texts i) in lt-ltb (number_among texts (text_at texts i)) (suc (length texts)) (omega (arith, le)))

  -- an expression's value is moved to a register of its kind
  pub move_fits : (r a : ℕ) (b : Kind) → slice_get ks a ≡ Some b → slice_get ks r ≡ Some b → op_fits H ks (op.Move r a) ≡ true
  move_fits r a b e q = ap (on_kind (λ j. has ks r j)) e ∙ has_it ks r b q

  unary_operand : (o : UnaryOperator) (a : Expression) (d : ℕ) → At ks d (kinds a) → Has p types (exp_of texts a) (unary_type (unary_of o)) → has ks (value_at locals a d) (unary_kind o) ≡ true
  unary_operand u.Negate a d at h = has_kind a IntTy d at h
  unary_operand u.Complement a d at h = has_kind a IntTy d at h
  unary_operand u.Not a d at h = has_kind a BoolTy d at h

  module _ (around : ℕ) where
    moved_fits : (a : Expression) (ty : Ty) (d r : ℕ) → AllFit P ks around (code a d) → At ks d (kinds a) → Has p types (exp_of texts a) ty → slice_get ks r ≡ Some (k.kind_of n singles ty) → AllFit P ks around (moved locals a (code a d) d r)
    moved_fits a ty d r fit at h q = fit_append P ks around (code a d) _ fit (fit_one P ks around _ (move_fits r (value_at locals a d) (k.kind_of n singles ty) (kind_is a ty d at h) q) refl)

    mutual
      pub exp_fits : (a : Expression) (ty : Ty) (d : ℕ) → At ks d (kinds a) → Knows n singles a → Has p types (exp_of texts a) ty → AllFit P ks around (code a d)
      exp_fits (At' here q e) ty d at known h = exp_fits e ty d at known h
      exp_fits (Constant x) ty d at known h = fit_one P ks around _ (constant_fits x d (at_head ks d (constant_kind x) [] at)) refl
      exp_fits (Null w) ty d at known h = fit_one P ks around _ (ap (on_kind is_reference) (at_head ks d (kind.Ptr (layout w)) [] at)) refl
      exp_fits (Local x) ty d at known h = fit_none P ks around
      exp_fits (Unary' o w a) ty d at known h =
          let behind = at_tail ks d (unary_kind o) (kinds a) at in
          fit_append P ks around (code a (suc d)) _ (exp_fits a (unary_type (unary_of o)) (suc d) behind known h.1)
          (fit_one P ks around _ (unary_fits H ks o d (value_at locals a (suc d)) (has_it ks d (unary_kind o) (at_head ks d (unary_kind o) (kinds a) at)) (unary_operand o a (suc d) behind h.1)) refl)
      exp_fits (Binary' o w a s b) ty d at known h =
          let behind = at_tail ks d kind.Int (kinds a ++ kinds b) at in
          let left = at_left ks (suc d) (kinds a) (kinds b) behind in
          let right = at_right ks (suc d) (kinds a) (kinds b) behind in
          fit_append P ks around (code a (suc d)) _ (exp_fits a IntTy (suc d) left known.0 h.1)
          (fit_append P ks around (code b (suc d + length (kinds a))) _ (exp_fits b IntTy (suc d + length (kinds a)) right known.1 h.2)
          (fit_one P ks around _ (and_true _ _ (has_it ks d kind.Int (at_head ks d kind.Int (kinds a ++ kinds b) at)) (and_true _ _ (has_kind a IntTy (suc d) left h.1) (has_kind b IntTy (suc d + length (kinds a)) right h.2))) refl))
      exp_fits (Compare' w o v a s b) ty d at known h =
          let behind = at_tail ks d kind.Bool (kinds a ++ kinds b) at in
          let left = at_left ks (suc d) (kinds a) (kinds b) behind in
          let right = at_right ks (suc d) (kinds a) (kinds b) behind in
          fit_append P ks around (code a (suc d)) _ (exp_fits a (type_of w) (suc d) left known.0 h.2)
          (fit_append P ks around (code b (suc d + length (kinds a))) _ (exp_fits b (type_of w) (suc d + length (kinds a)) right known.1 h.3)
          (fit_one P ks around _ (and_true _ _ (has_it ks d kind.Bool (at_head ks d kind.Bool (kinds a ++ kinds b) at))
          (ap (on_kind (λ j. is_compared (code_relation o) j && has ks (value_at locals b (suc d + length (kinds a))) j)) (kind_is a (type_of w) (suc d) left h.2)
          ∙ and_true _ _ (compared_fits n singles o (type_of w) h.1) (has_kind b (type_of w) (suc d + length (kinds a)) right h.3))) refl))
      exp_fits (And' w a s b) ty d at known h =
          let behind = at_tail ks d kind.Bool (kinds a ++ kinds b) at in
          let left = at_left ks (suc d) (kinds a) (kinds b) behind in
          let right = at_right ks (suc d) (kinds a) (kinds b) behind in
          let here = at_head ks d kind.Bool (kinds a ++ kinds b) at in
          let other = moved_fits b BoolTy (suc d + length (kinds a)) d (exp_fits b BoolTy (suc d + length (kinds a)) right known.1 h.2) right h.2 here in
          fit_append P ks around (code a (suc d)) _ (exp_fits a BoolTy (suc d) left known.0 h.1)
          (fit_then P ks around _ _ (move_fits d (value_at locals a (suc d)) kind.Bool (kind_is a BoolTy (suc d) left h.1) here) refl
          (fit_one P ks around _ (and_true _ _ (has_it ks d kind.Bool here) (and_true _ _ other.fits refl)) (and_true _ _ other.pointers refl)))
      exp_fits (Or' w a s b) ty d at known h =
          let behind = at_tail ks d kind.Bool (kinds a ++ kinds b) at in
          let left = at_left ks (suc d) (kinds a) (kinds b) behind in
          let right = at_right ks (suc d) (kinds a) (kinds b) behind in
          let here = at_head ks d kind.Bool (kinds a ++ kinds b) at in
          let other = moved_fits b BoolTy (suc d + length (kinds a)) d (exp_fits b BoolTy (suc d + length (kinds a)) right known.1 h.2) right h.2 here in
          fit_append P ks around (code a (suc d)) _ (exp_fits a BoolTy (suc d) left known.0 h.1)
          (fit_then P ks around _ _ (move_fits d (value_at locals a (suc d)) kind.Bool (kind_is a BoolTy (suc d) left h.1) here) refl
          (fit_one P ks around _ (and_true _ _ (has_it ks d kind.Bool here) other.fits) other.pointers))
      exp_fits (Choose' w v a q b s e) ty d at known h =
          let here = at_head ks d (k.kind_of n singles (type_of w)) (kinds a ++ (kinds b ++ kinds e)) at in
          let behind = at_tail ks d (k.kind_of n singles (type_of w)) (kinds a ++ (kinds b ++ kinds e)) at in
          let first = at_left ks (suc d) (kinds a) (kinds b ++ kinds e) behind in
          let rest = at_right ks (suc d) (kinds a) (kinds b ++ kinds e) behind in
          let second = at_left ks (suc d + length (kinds a)) (kinds b) (kinds e) rest in
          let third = at_right ks (suc d + length (kinds a)) (kinds b) (kinds e) rest in
          let one = moved_fits b (type_of w) (suc d + length (kinds a)) d (exp_fits b (type_of w) (suc d + length (kinds a)) second known.1 h.2) second h.2 here in
          let other = moved_fits e (type_of w) (suc d + length (kinds a) + length (kinds b)) d (exp_fits e (type_of w) (suc d + length (kinds a) + length (kinds b)) third known.2 h.3) third h.3 here in
          fit_append P ks around (code a (suc d)) _ (exp_fits a BoolTy (suc d) first known.0 h.1)
          (fit_one P ks around _ (and_true _ _ (has_kind a BoolTy (suc d) first h.1) (and_true _ _ one.fits other.fits)) (and_true _ _ one.pointers other.pointers))
      exp_fits (Call' i shape es) ty d at known h =
          let result = parts.type_given p.structs singles (texts_of typed) typed.functions.items typed.main typed.functions.items i in
          let behind = at_tail ks d (k.kind_of n singles result) (kinds_row es) at in
          let here = at_head ks d (k.kind_of n singles result) (kinds_row es) at ∙ ap (λ z. Some (k.kind_of n singles z)) (given_type typed singles types locals ks typed.functions.items i h.0 h.1) in
          fit_append P ks around (code_row es (suc d)) _ (row_fits es h.0.parameters (suc d) behind known h.3)
          (fit_one P ks around _ (call_fits_there i (at_row es (suc d)) d h.0 h.1 here (row_of_kinds typed singles types locals ks locals_at es h.0.parameters (suc d) behind h.3)) refl)
      exp_fits (Print' out shape es) ty d at known h =
          let behind = at_tail ks d kind.Int (kinds_row es) at in
          fit_append P ks around (code_row es (suc d)) _ (row_fits es (output_types (output_of out)) (suc d) behind known h.1)
          (fit_one P ks around _ (print_fits typed singles types locals ks H out (at_row es (suc d)) (row_of_kinds typed singles types locals ks locals_at es (output_types (output_of out)) (suc d) behind h.1)) refl)
      exp_fits (Load' w v q) ty d at known h =
          let here = at_head ks d (k.kind_of n singles (type_of w)) (kinds_place q) at in
          let behind = at_tail ks d (k.kind_of n singles (type_of w)) (kinds_place q) at in
          let place = place_is q (type_of w) (suc d) behind known h.2 in
          fit_append P ks around (code_place q (suc d)) _ (place_fits_there q (type_of w) (suc d) behind known h.2) (fit_one P ks around _ (access q (type_of w) (suc d) d place h.1 here) place.by_pointer)
      exp_fits (Alloc w) ty d at known h =
          fit_one P ks around _ (and_true _ _ (has_it ks d (kind.Ptr (layout w)) (at_head ks d (kind.Ptr (layout w)) [] at)) (some_there _ (k.cells_of p.structs singles (type_of w)) (layout_there (type_of w) known))) refl
      exp_fits (AllocArray' w v a) ty d at known h =
          let behind = at_tail ks d (kind.Arr (layout w)) (kinds a) at in
          fit_append P ks around (code a (suc d)) _ (exp_fits a IntTy (suc d) behind known.1 h.2)
          (fit_one P ks around _ (and_true _ _ (has_it ks d (kind.Arr (layout w)) (at_head ks d (kind.Arr (layout w)) (kinds a) at))
          (and_true _ _ (has_kind a IntTy (suc d) behind h.2) (some_there _ (k.cells_of p.structs singles (type_of w)) (layout_there (type_of w) known.0)))) refl)
      exp_fits (Length' w v a) ty d at known h =
          let behind = at_tail ks d kind.Int (kinds a) at in
          fit_append P ks around (code a (suc d)) _ (exp_fits a (ArrayTy (type_of w)) (suc d) behind known h.1)
          (fit_one P ks around _ (and_true _ _ (has_it ks d kind.Int (at_head ks d kind.Int (kinds a) at)) (ap (on_kind is_array) (kind_is a (ArrayTy (type_of w)) (suc d) behind h.1))) refl)

      row_fits : {i : _} (es : Row_of-Expression i) (ts : List Ty) (d : ℕ) → At ks d (kinds_row es) → KnowsRow n singles es → HasAll p types (row_of texts es) ts → AllFit P ks around (code_row es d)
      row_fits end_of-Expression ts d at known h = fit_none P ks around
      row_fits (more_of-Expression a rest) [] d at known h = absurd h
      row_fits (more_of-Expression a rest) (ty ∷ ts) d at known h =
          fit_append P ks around (code a d) _ (exp_fits a ty d (at_left ks d (kinds a) (kinds_row rest) at) known.0 h.0)
          (row_fits rest ts (d + length (kinds a)) (at_right ks d (kinds a) (kinds_row rest) at) known.1 h.1)

      pub place_fits_there : (q : Place) (ty : Ty) (d : ℕ) → At ks d (kinds_place q) → KnowsPlace n singles q → Holds p types (place_of texts q) ty → AllFit P ks around (code_place q d)
      place_fits_there (Deref' w v a) ty d at known h =
          fit_append P ks around (code a d) _ (exp_fits a (PointerTy (type_of w)) d at known.1 h.1)
          (fit_one P ks around _ (ap (on_kind is_pointer) (kind_is a (PointerTy (type_of w)) d at h.1)) refl)
      place_fits_there (Index' w v a s i) ty d at known h =
          let behind = at_tail ks d (kind.Off (layout w)) (kinds a ++ kinds i) at in
          let left = at_left ks (suc d) (kinds a) (kinds i) behind in
          let right = at_right ks (suc d) (kinds a) (kinds i) behind in
          let array = kind_is a (ArrayTy (type_of w)) (suc d) left h.1 in
          fit_append P ks around (code a (suc d)) _ (exp_fits a (ArrayTy (type_of w)) (suc d) left known.1 h.1)
          (fit_append P ks around (code i (suc d + length (kinds a))) _ (exp_fits i IntTy (suc d + length (kinds a)) right known.2 h.2)
          (fit_one P ks around _ (and_true _ _ (element_fits d (value_at locals a (suc d)) (layout w) (at_head ks d (kind.Off (layout w)) (kinds a ++ kinds i) at) array)
          (and_true _ _ (has_kind i IntTy (suc d + length (kinds a)) right h.2)
          (size_there (value_at locals a (suc d)) (kind.Arr (layout w)) (layout w) (k.cells_of p.structs singles (type_of w)) array refl (layout_there (type_of w) known.0)))) refl))
      place_fits_there (Field' j v q i) ty d at known h = place_fits_there q (StructTy j) d at known h.0
