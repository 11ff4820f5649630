-- Places of the heap, and the registers that lead to them.
use Rattle.std.proofs.Common.{◌≡◌, ◌≢◌, ℕ, zero, suc, ◌+◌, ◌*◌, ◌<◌, ◌≤◌, ◌⊎◌, inl, inr, Bool, true, false, List, [], ◌∷◌, ◌++◌, length, get_or, Option, Some, None, ℤ, pos, negsuc, refl, sym, ap, ◌∙◌, subst, arith, cond}
use Rattle.std.specs.Prelude.{◌==◌, ◌&&◌, slice_get, slice_index, slice_set, nat_lt}
use Rattle.std.proofs.lemmas.Bool.{lt-ltb, ltb-true}
use Rattle.std.proofs.lemmas.List.{length-append}
use Rattle.cells.specs.Stops.{BoundsFault, NullFault}
use Rattle.cells.specs.Outcomes.{Done, Stopped, Cut, then_do}
use Rattle.c0_typed.specs.Values.{Value, Ref, Tree, Spot, as_number, as_ref, array_length, load, store}
use Rattle.c0_typed.specs.Trees.{Program, Ty, IntTy, StructTy, PointerTy, ArrayTy}
use Rattle.c0_typed.specs.Meaning.{State, Outcome, Way, element, pointed, stop, struct_defaults}
use Rattle.c0_typed.specs.Typing.{Has, Is, IsField, IsHeap, IsMade, IsPlace, IsSmall, IsState, IsWay, IsWayIn, Kept, One, Many}
use Rattle.c0_typed.specs.Views.{exp_of, program_of, texts_of, type_of}
use Rattle.c0_typed.proofs.Soundness.{array_long, load_is, way_in_on}
use Rattle.c0_typed.specs.declared.tree.ValueType.{ValueType}
use Rattle.c0_typed.specs.declared.tree.Expression.{Expression}
use Rattle.c0_typed.specs.declared.tree.Place.{Place, Deref', Index', Field'}
use Rattle.c0_typed.specs.declared.tree.Typed.{Typed}
use Rattle.code_form.specs.declared.form.Kind.{Kind}
use Rattle.code_form.specs.declared.form.Kind.TheVariants as kind
use Rattle.code_form.specs.declared.form.Operation.TheVariants as op
use Rattle.code_form.specs.Code.{Goes, Sets, Stops, and_then, can_use, cell_kind, has, has_size, if_zero, indexes, int_of, is_array_of, is_pointer, is_reference, is_size, layout_of, length_of, natural, offset, on_kind, op_does, op_fits, place_fits}
use Rattle.code_form.specs.Form.{Head}
use Rattle.middle_form.specs.Form.{Code}
use Rattle.middle_form.specs.Form as f
use Rattle.middle_form.specs.Meaning as m
use Rattle.lower.specs.Coded.{Coded, inner_path, kept_offset, kept_type, type_offset}
use Rattle.lower_tables.specs.Kinds as k
use Rattle.lower_tables.specs.Known.{IsKnown}
use Rattle.lower.specs.Lowered.{lowered}
use Rattle.lower_expressions.specs.Expressions.{base_at, displacement, local_register, offset_at, place_kinds, value_at}
use Rattle.c0_typed.proofs.Ops.{not_fits, ops_fit}
use Rattle.lower.proofs.Joint.{Joint, joint_done, run_one}
use Rattle.lower.proofs.Operators.{coded_array, coded_number, coded_pointer}
use Rattle.lower.proofs.Registers.{and_true, has_it, number_same, put_other, put_same}
use Rattle.lower.proofs.Running.{does_last, going_set, going_then, set_valued}
use Rattle.lower.proofs.Sides.{Alike, Going, HeapFacts, Valued}
use Rattle.lower.proofs.Expressions as e

-- the first cell of an element
lead : ℕ → Kept → List ℕ → ℕ
lead size (One t) path = 0
lead size (Many n t) [] = 0
lead size (Many n t) (i ∷ path) = i * size

module _ (typed : Typed) (singles : List Kind) (checks : Bool) (call : ℕ → List Value → State → Outcome Value) (call' : ℕ → List ℕ → m.State → m.Outcome ℕ) (types : List Ty) (locals : ℕ) (ks : List Kind) where
  abbrev p : Program
  p = program_of typed

  abbrev H : Head
  H = e.H typed singles checks call call' types locals ks

  abbrev n : ℕ
  n = length p.structs

  abbrev Runs : List Code → List ℕ → m.State → m.Outcome m.Left
  Runs cs rs w = e.Runs typed singles checks call call' types locals ks cs rs w

  abbrev Going_on : ℕ → List ℕ → List Kept → State → List ℕ → m.State → Type 0
  Going_on d rs made s xs w = Going p H types locals d rs made s xs w

  abbrev pub base : Place → ℕ → ℕ
  base q d = base_at p.structs singles (texts_of typed) typed.functions.items typed.main locals q d

  abbrev pub off : Place → ℕ → Option ℕ
  off q d = offset_at p.structs singles (texts_of typed) typed.functions.items typed.main locals q d

  abbrev pub shift : Place → ℕ
  shift q = displacement p.structs singles (texts_of typed) typed.functions.items typed.main locals q

  -- a place was found, and its registers lead to its cell
  pub record Placed (q : Place) (u : Ty) (d : ℕ) (rs : List ℕ) (made : List Kept) (at : Spot) (s : State) (x : m.Left) (w : m.State) : Type 0 where
    pub falls : x.0 ≡ 0
    pub place : IsPlace p made u at
    pub base_is : slice_index x.1 (base q d) ≡ at.allocation
    pub cell : offset x.1 (off q d) + shift q ≡ kept_offset p.structs singles place.kept at.path
    pub inner : shift q ≡ type_offset p.structs singles (kept_type place.kept) (inner_path place.kept at.path)
    pub layout : and_then (slice_get ks (base q d)) layout_of ≡ Some (k.layout_number n singles (kept_type place.kept))
    pub fits : place_fits ks (base q d) (off q d) ≡ true
    pub known : IsKnown n singles (kept_type place.kept)
    pub going : Going_on d rs made s x.1 w

  -- what a pointer points to
  pub pointed_ok : (ty : ValueType) (q : _) (a : Expression) (d : ℕ) (v : Value) (made : List Kept) (s : State) (rs xs : List ℕ) (w : m.State) → IsKnown n singles (type_of ty) → slice_get ks (value_at locals a d) ≡ Some (k.kind_of n singles (PointerTy (type_of ty)))
      → Going_on d rs made s xs w → Is p made (PointerTy (type_of ty)) v → Coded H v (slice_index xs (value_at locals a d))
      → Joint made (Placed (Deref' ty q a) (type_of ty) d rs) (pointed v s) (Runs (f.Do (op.CheckNull (value_at locals a d)) ∷ []) xs w)
  pointed_ok ty q a d v made s rs xs w known ka g i c =
      subst (λ z. Joint made (Placed (Deref' ty q a) (type_of ty) d rs) (pointed v s) z) (sym (does_last (lowered singles checks typed) call' ks (op.CheckNull ra) xs w (ap (on_kind is_pointer) ka)))
      (subst (λ z. Joint made (Placed (Deref' ty q a) (type_of ty) d rs) (pointed z s) (m.operated (if_zero (slice_index xs ra) (Stops NullFault) Goes) xs w)) (sym i.1) (at (slice_index xs ra) i.0 (coded_pointer H p made (type_of ty) v (slice_index xs ra) i c ∙ ap as_ref i.1) refl i.2))
    where
      ra : ℕ
      ra = value_at locals a d

      at : (cell r : ℕ) → cell ≡ r → slice_index xs ra ≡ cell → ((r ≡ 0) ⊎ IsMade made r (One (type_of ty))) → Joint made (Placed (Deref' ty q a) (type_of ty) d rs) (pointed (Ref r) s) (m.operated (if_zero cell (Stops NullFault) Goes) xs w)
      at zero zero e h z = ap (m.Stopped NullFault) (sym g.alike.output)
      at zero (suc r) e h z = absurd (cc e)
      at (suc x) zero e h z = absurd (cc e)
      at (suc x) (suc r) e h (inl z) = absurd (cc z)
      at (suc x) (suc r) e h (inr made_so) =
          joint_done made (Placed (Deref' ty q a) (type_of ty) d rs) (record { allocation = suc r; path = [] }) s (0, xs) w
          (record {
            falls = refl;
            place = record { kept = One (type_of ty); made_so = made_so; way = refl };
            base_is = h ∙ e;
            cell = (let z : 0 + 0 ≡ 0 = omega arith in z);
            inner = refl;
            layout = ap (λ z. and_then z layout_of) ka;
            fits = ap (on_kind is_reference) ka;
            known = known;
            going = g;
          })

  -- an element of an array
  pub element_ok : (facts : HeapFacts p singles H) (ty : ValueType) (q : _) (a : Expression) (r : _) (b : Expression) (d rb : ℕ) (v u : Value) (made : List Kept) (s : State) (rs xs : List ℕ) (w : m.State) → suc locals ≤ d → d < length rs → IsKnown n singles (type_of ty)
      → slice_get ks d ≡ Some (kind.Off (k.layout_number n singles (type_of ty))) → slice_get ks (value_at locals a (suc d)) ≡ Some (k.kind_of n singles (ArrayTy (type_of ty))) → slice_get ks rb ≡ Some kind.Int → value_at locals a (suc d) ≢ d
      → Going_on (suc d) rs made s xs w → Is p made (ArrayTy (type_of ty)) v → Is p made IntTy u → Coded H v (slice_index xs (value_at locals a (suc d))) → Coded H u (slice_index xs rb)
      → Joint made (Placed (Index' ty q a r b) (type_of ty) d rs) (element v (as_number u) s) (Runs (f.Do (op.CheckIndex d (value_at locals a (suc d)) rb (length (k.cells_of p.structs singles (type_of ty)))) ∷ []) xs w)
  element_ok facts ty q a r b d rb v u made s rs xs w low sh known kd ka kb apart g i j c e =
      subst (λ z. Joint made (Placed (Index' ty q a r b) (type_of ty) d rs) (element v (as_number u) s) z) (sym (does_last (lowered singles checks typed) call' ks (op.CheckIndex d ra rb size) xs w fits))
      (subst (λ z. Joint made (Placed (Index' ty q a r b) (type_of ty) d rs) (element v (as_number u) s) (m.operated (indexes d (natural z) (length_of w.allocations (slice_index xs ra)) size) xs w)) (sym (coded_number H p made u (slice_index xs rb) j e))
      (subst (λ z. Joint made (Placed (Index' ty q a r b) (type_of ty) d rs) (element v (as_number u) s) (m.operated (indexes d (natural (as_number u)) z size) xs w)) (sym long) (at (as_number u))))
    where
      ra : ℕ
      ra = value_at locals a (suc d)

      t : Ty
      t = type_of ty

      size : ℕ
      size = length (k.cells_of p.structs singles t)

      same : slice_index xs ra ≡ as_ref v
      same = coded_array H p made t v (slice_index xs ra) i c

      long : length_of w.allocations (slice_index xs ra) ≡ array_length s.heap (as_ref v)
      long = ap (length_of w.allocations) same ∙ facts.long made s.heap w.allocations w.heap t v g.alike.heap g.state.0 i

      fits : op_fits H ks (op.CheckIndex d ra rb size) ≡ true
      fits =
          and_true _ _ (ap (λ x. is_array_of x (slice_get ks ra)) kd ∙ ap (λ x. is_array_of (Some (kind.Off (k.layout_number n singles t))) x) ka ∙ number_same (k.layout_number n singles t))
          (and_true _ _ (has_it ks rb kind.Int kb) (ap (has_size H size) ka ∙ ap (is_size size) (facts.layout t known) ∙ number_same size))

      found : (i0 : ℕ) → (m0 : ℕ) → v ≡ Ref m0 → ((m0 ≡ 0) ⊎ ((n0 : ℕ) × IsMade made m0 (Many n0 t))) → i0 < array_length s.heap (as_ref v) → (n0 : ℕ) × IsMade made (as_ref v) (Many n0 t) × (i0 < n0)
      found i0 m0 eq (inl z) l =
          let none : i0 < array_length s.heap 0 = subst (λ x. i0 < array_length s.heap x) (ap as_ref eq ∙ z) l in
          absurd (let y : ⊥ = omega (arith, none) in y)
      found i0 m0 eq (inr x) l =
          (x.0, subst (λ y. IsMade made y (Many x.0 t)) (sym (ap as_ref eq)) x.1, subst (λ y. i0 < y) (ap (array_length s.heap) (ap as_ref eq) ∙ array_long ops_fit not_fits p types made s.heap m0 x.0 t g.state.0 x.1) l)

      at : (z : ℤ) → Joint made (Placed (Index' ty q a r b) t d rs) (element v z s) (m.operated (indexes d (natural z) (array_length s.heap (as_ref v)) size) xs w)
      at (negsuc y) = ap (m.Stopped BoundsFault) (sym g.alike.output)
      at (pos i0) = by (nat_lt i0 (array_length s.heap (as_ref v))) refl
        where
          by : (x : Bool) → nat_lt i0 (array_length s.heap (as_ref v)) ≡ x
              → Joint made (Placed (Index' ty q a r b) t d rs) (elim x [ true ↦ Done (record { allocation = as_ref v; path = i0 ∷ [] }) s | false ↦ stop BoundsFault s ]) (m.operated (cond x (Sets d (i0 * size)) (Stops BoundsFault)) xs w)
          by false y = ap (m.Stopped BoundsFault) (sym g.alike.output)
          by true y =
              let h = found i0 i.0 i.1 i.2 (ltb-true i0 (array_length s.heap (as_ref v)) y) in
              let short : d < length xs = subst (λ z. d < z) (sym g.long) sh in
              joint_done made (Placed (Index' ty q a r b) t d rs) (record { allocation = as_ref v; path = i0 ∷ [] }) s (0, slice_set xs d (i0 * size)) w
              (record {
                falls = refl;
                place = record { kept = Many h.0 t; made_so = h.1; way = (h.2, refl) };
                base_is = put_other xs d (i0 * size) ra apart ∙ same;
                cell = ap (λ z. z + 0) (put_same xs d (i0 * size) short);
                inner = refl;
                layout = ap (λ z. and_then z layout_of) ka;
                fits = ap (λ x. is_array_of x (slice_get ks ra)) kd ∙ ap (λ x. is_array_of (Some (kind.Off (k.layout_number n singles t))) x) ka ∙ number_same (k.layout_number n singles t);
                known = known;
                going = going_set p H types locals d (suc d) rs xs (i0 * size) made s w low (omega arith) g;
              })
