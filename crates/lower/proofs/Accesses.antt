-- Loads and stores at places that were found, fields of structs, and allocations.
use Rattle.std.proofs.Common.{◌≡◌, ◌≢◌, ℕ, zero, suc, ◌+◌, ◌*◌, ◌<◌, ◌≤◌, ◌⊎◌, inl, inr, Bool, true, false, List, [], ◌∷◌, ◌++◌, length, get_or, Option, Some, None, ℤ, pos, negsuc, FitsSigned, refl, sym, ap, ◌∙◌, subst, arith, cond}
use Rattle.std.specs.Prelude.{◌&&◌, slice_get, slice_index, slice_set, nat_lt, is_some}
use Rattle.std.specs.Int.{w32}
use Rattle.std.proofs.lemmas.Bool.{lt-ltb}
use Rattle.cells.specs.Stops.{LengthFault}
use Rattle.cells.specs.Outcomes.{Done, Stopped, Cut, then_do}
use Rattle.c0_typed.specs.Values.{Value, Number, Ref, Tree, Node, Spot, as_number, as_ref, array_length, copies, count, load, store}
use Rattle.c0_typed.specs.Trees.{Program, Ty, IntTy, StructTy, PointerTy, ArrayTy}
use Rattle.c0_typed.specs.Meaning.{State, Outcome, Way, Next, allocate, allocate_array, default, stop, struct_defaults}
use Rattle.c0_typed.specs.Typing.{Extends, FitsProgram, FreshSound, Is, IsField, IsHeap, IsHeld, IsMade, IsObject, IsPlace, IsSmall, IsState, IsWayIn, Kept, One, Many}
use Rattle.c0_typed.specs.Views.{program_of, type_of}
use Rattle.c0_typed.proofs.Ops.{not_fits, ops_fit}
use Rattle.c0_typed.proofs.Soundness.{are_more, each_copies, fine_length, get_last, load_is, number_fits, objects_add, objects_more, same_length, store_is, way_in_on}
use Rattle.c0_typed.specs.declared.tree.ValueType.{ValueType}
use Rattle.c0_typed.specs.declared.tree.Place.{Place, Deref', Index', Field'}
use Rattle.c0_typed.specs.declared.tree.Typed.{Typed}
use Rattle.code_form.specs.declared.form.Kind.{Kind}
use Rattle.code_form.specs.declared.form.Kind.TheVariants as kind
use Rattle.code_form.specs.declared.form.Operation.TheVariants as op
use Rattle.code_form.specs.Code.{Makes, Sets, Stops, and_then, can_use, cell_kind, cells_of, has, int_of, is_array, layout_of, length_of, makes, natural, offset, of_int, on_kind, op_does, op_fits, place_fits, sizes}
use Rattle.code_form.specs.declared.allocation.Allocation.{Allocation}
use Rattle.code_form.specs.Effects.{Heap, with_cell}
use Rattle.code_form.specs.Form.{Head}
use Rattle.middle_form.specs.Form.{Code}
use Rattle.middle_form.specs.Form as f
use Rattle.middle_form.specs.Meaning as m
use Rattle.lower.specs.Coded.{Coded, Heaps, inner_path, kept_offset, kept_type, type_offset}
use Rattle.lower_tables.specs.Kinds as k
use Rattle.lower_tables.specs.Known.{IsKnown}
use Rattle.lower.specs.Lowered.{lowered}
use Rattle.lower.proofs.Joint.{Joint, joint_done, run_one}
use Rattle.lower.proofs.Operators.{coded_array, coded_number}
use Rattle.lower.proofs.Registers.{and_true, has_it, matched_keep, put_same}
use Rattle.lower.proofs.Running.{does, set_valued}
use Rattle.lower.proofs.Sides.{Alike, Going, HeapFacts, Valued}
use Rattle.lower.proofs.Places.{Placed}
use Rattle.lower.proofs.Places as q

module _ (typed : Typed) (singles : List Kind) (checks : Bool) (call : ℕ → List Value → State → Outcome Value) (call' : ℕ → List ℕ → m.State → m.Outcome ℕ) (types : List Ty) (locals : ℕ) (ks : List Kind) where
  abbrev p : Program
  p = program_of typed

  abbrev P : f.Program
  P = lowered singles checks typed

  abbrev H : Head
  H = P.head

  abbrev n : ℕ
  n = length p.structs

  abbrev ds : List Tree
  ds = struct_defaults [] p.structs

  abbrev Goes : ℕ → List ℕ → List Kept → State → List ℕ → m.State → Type 0
  Goes d rs made s xs w = Going p H types locals d rs made s xs w

  abbrev Gives : ℕ → Ty → ℕ → List ℕ → List Kept → Value → State → m.Left → m.State → Type 0
  Gives r t d rs made v s x w = Valued p H types locals r t d rs made v s x w

  abbrev At : Place → Ty → ℕ → List ℕ → List Kept → Spot → State → m.Left → m.State → Type 0
  At pl u d rs made at s x w = Placed typed singles checks call call' types locals ks pl u d rs made at s x w

  abbrev base : Place → ℕ → ℕ
  base pl d = q.base typed singles checks call call' types locals ks pl d

  abbrev off : Place → ℕ → Option ℕ
  off pl d = q.off typed singles checks call call' types locals ks pl d

  abbrev shift : Place → ℕ
  shift pl = q.shift typed singles checks call call' types locals ks pl

  -- a step to a field
  pub field_ok : HeapFacts p singles H → (j : ℕ) (x : _) (pl : Place) (i : ℕ) (u : Ty) (d : ℕ) (rs : List ℕ) (made : List Kept) (at : Spot) (s : State) (y : m.Left) (w : m.State) → IsField p.structs j i u
      → At pl (StructTy j) d rs made at s y w → At (Field' j x pl i) u d rs made (record { allocation = at.allocation; path = at.path ++ i ∷ [] }) s y w
  field_ok facts j x pl i u d rs made at s y w field h = record {
    falls = h.falls;
    place = record { kept = h.place.kept; made_so = h.place.made_so; way = way_in_on p h.place.kept at.path j i u h.place.way field };
    base_is = h.base_is;
    cell = further h.place.kept at.path h.place.way (offset y.1 (off pl d)) (shift pl) h.cell h.inner;
    inner = ap (λ z. z + k.field_offset p.structs singles j i) h.inner ∙ sym (facts.onward h.place.kept at.path j i h.place.way);
    layout = h.layout;
    fits = h.fits;
    known = h.known;
    going = h.going;
  }
    where
      further : (kept : Kept) (path : List ℕ) → IsWayIn p kept path (StructTy j) → (o z : ℕ) → o + z ≡ kept_offset p.structs singles kept path → z ≡ type_offset p.structs singles (kept_type kept) (inner_path kept path)
          → o + (z + k.field_offset p.structs singles j i) ≡ kept_offset p.structs singles kept (path ++ i ∷ [])
      further (One t) path way o z e g =
          let step = facts.onward (One t) path j i way in
          let sum : o + (z + k.field_offset p.structs singles j i) ≡ (o + z) + k.field_offset p.structs singles j i = omega arith in
          sum ∙ ap (λ y. y + k.field_offset p.structs singles j i) e ∙ sym step
      further (Many n t) [] way o z e g = absurd way
      further (Many n t) (a ∷ path) way o z e g =
          let step = facts.onward (Many n t) (a ∷ path) j i way in
          let first : ℕ = a * length (k.cells_of p.structs singles t) in
          let sum : o + (z + k.field_offset p.structs singles j i) ≡ (o + z) + k.field_offset p.structs singles j i = omega arith in
          let sums : (first + type_offset p.structs singles t path) + k.field_offset p.structs singles j i ≡ first + (type_offset p.structs singles t path + k.field_offset p.structs singles j i) = omega arith in
          sum ∙ ap (λ y. y + k.field_offset p.structs singles j i) e ∙ sums ∙ ap (λ y. first + y) (sym step)

  -- a register of the right kind may be loaded or stored there
  accessible : HeapFacts p singles H → (pl : Place) (u : Ty) (d a : ℕ) (rs xs : List ℕ) (made : List Kept) (at : Spot) (s : State) (w : m.State) → IsSmall u → slice_get ks a ≡ Some (k.kind_of n singles u)
      → (h : At pl u d rs made at s (0, xs) w) → m.can_access H ks w xs a (base pl d) (off pl d) (shift pl) ≡ true
  accessible facts pl u d a rs xs made at s w small ka h =
      and_true _ _ h.fits (and_true _ _ (ap (on_kind (λ x. has ks a x)) kind_is ∙ has_it ks a (k.kind_of n singles u) ka) (lt-ltb _ _ there))
    where
      kind_is : cell_kind H ks (base pl d) (shift pl) ≡ Some (k.kind_of n singles u)
      kind_is =
          under (slice_get ks (base pl d)) h.layout
          ∙ ap (λ z. and_then z (λ cs. slice_get cs (shift pl))) (facts.layout (kept_type h.place.kept) h.known)
          ∙ ap (slice_get (k.cells_of p.structs singles (kept_type h.place.kept))) h.inner ∙ facts.kind h.place.kept at.path u h.place.way small
        where
          under : (o : Option Kind) → and_then o layout_of ≡ Some (k.layout_number n singles (kept_type h.place.kept))
              → and_then o (λ x. and_then (layout_of x) (λ l. and_then (slice_get H.layouts l) (λ cs. slice_get cs (shift pl)))) ≡ and_then (slice_get H.layouts (k.layout_number n singles (kept_type h.place.kept))) (λ cs. slice_get cs (shift pl))
          under None e = absurd (cc e)
          under (Some x) e = ap (λ z. and_then z (λ l. and_then (slice_get H.layouts l) (λ cs. slice_get cs (shift pl)))) e

      there : m.cell_at xs (off pl d) (shift pl) < cells_of (sizes w.allocations) (slice_index xs (base pl d))
      there =
          subst (λ z. z < cells_of (sizes w.allocations) (slice_index xs (base pl d))) (sym h.cell)
          (subst (λ z. kept_offset p.structs singles h.place.kept at.path < cells_of (sizes w.allocations) z) (sym h.base_is) (facts.there made s.heap w.allocations w.heap u at h.going.alike.heap h.going.state.0 h.place small))

  -- what a load sets
  pub load_runs : HeapFacts p singles H → (pl : Place) (u : Ty) (d to : ℕ) (rs xs : List ℕ) (made : List Kept) (at : Spot) (s : State) (w : m.State) → IsSmall u → slice_get ks to ≡ Some (k.kind_of n singles u) → At pl u d rs made at s (0, xs) w
      → (cell : ℕ) × (m.run P call' ks (f.Load to (base pl d) (off pl d) (shift pl)) xs w ≡ m.on (slice_set xs to cell) w) × Coded H (load s.heap at) cell × Is p made u (load s.heap at)
  load_runs facts pl u d to rs xs made at s w small ka h = (
    w.heap (slice_index xs (base pl d)) (m.cell_at xs (off pl d) (shift pl)),
    ap (λ z. m.where_so z (m.on (slice_set xs to (w.heap (slice_index xs (base pl d)) (m.cell_at xs (off pl d) (shift pl)))) w)) (accessible facts pl u d to rs xs made at s w small ka h),
    subst (Coded H (load s.heap at)) (sym (ap (λ z. w.heap z (m.cell_at xs (off pl d) (shift pl))) h.base_is ∙ ap (w.heap at.allocation) h.cell)) (facts.load made s.heap w.allocations w.heap u at h.going.alike.heap h.going.state.0 h.place small),
    load_is p made s.heap u at h.going.state.0 h.place small,
  )

  -- a load
  pub load_ok : HeapFacts p singles H → (pl : Place) (u : Ty) (d b to : ℕ) (rs xs : List ℕ) (made : List Kept) (at : Spot) (s : State) (w : m.State) → suc locals ≤ to → to ≤ d → to < length rs → IsSmall u → slice_get ks to ≡ Some (k.kind_of n singles u)
      → At pl u d rs made at s (0, xs) w → Joint made (Gives to u to rs) (Done (load s.heap at) s) (m.run P call' ks (f.Load to (base pl d) (off pl d) (shift pl)) xs w)
  load_ok facts pl u d b to rs xs made at s w low le sh small ka h =
      subst (λ z. Joint made (Gives to u to rs) (Done (load s.heap at) s) (m.where_so z (m.on (slice_set xs to (w.heap (slice_index xs (base pl d)) (m.cell_at xs (off pl d) (shift pl)))) w))) (sym (accessible facts pl u d to rs xs made at s w small ka h))
      (joint_done made (Gives to u to rs) (load s.heap at) s (0, slice_set xs to _) w
      (set_valued p H types locals to d rs xs u (load s.heap at) _ made s w low le sh h.going (load_is p made s.heap u at h.going.state.0 h.place small)
      (subst (Coded H (load s.heap at)) (sym (ap (λ z. w.heap z (m.cell_at xs (off pl d) (shift pl))) h.base_is ∙ ap (w.heap at.allocation) h.cell)) (facts.load made s.heap w.allocations w.heap u at h.going.alike.heap h.going.state.0 h.place small))))

  -- a store, of a value in a register
  pub store_ok : HeapFacts p singles H → (pl : Place) (u : Ty) (d a : ℕ) (rs xs : List ℕ) (v : Value) (made : List Kept) (at : Spot) (s : State) (w : m.State) → IsSmall u → slice_get ks a ≡ Some (k.kind_of n singles u)
      → (h : At pl u d rs made at s (0, xs) w) → Is p made u v → Coded H v (slice_index xs a)
      → (y : m.State) × (m.run P call' ks (f.Store (base pl d) (off pl d) (shift pl) a) xs w ≡ m.on xs y) × Goes d rs made (record s { heap = store s.heap at v }) xs y
  store_ok facts pl u d a rs xs v made at s w small ka h i c = (
    after,
    ap (λ z. m.where_so z (m.on xs after)) (accessible facts pl u d a rs xs made at s w small ka h),
    record {
      state = (store_is p made s.heap u at v h.going.state.0 h.place small i, h.going.state.1);
      keeps = h.going.keeps;
      long = h.going.long;
      matched = h.going.matched;
      alike = record {
        turns = h.going.alike.turns;
        output = h.going.alike.output;
        heap = subst (λ z. Heaps H made (store s.heap at v) w.allocations z) (sym same) (facts.store made s.heap w.allocations w.heap u at v (slice_index xs a) h.going.alike.heap h.going.state.0 h.place small i c);
      };
    },
  )
    where
      after : m.State
      after = record w { heap = with_cell w.heap (slice_index xs (base pl d)) (m.cell_at xs (off pl d) (shift pl)) (slice_index xs a) }

      same : with_cell w.heap (slice_index xs (base pl d)) (m.cell_at xs (off pl d) (shift pl)) (slice_index xs a) ≡ with_cell w.heap at.allocation (kept_offset p.structs singles h.place.kept at.path) (slice_index xs a)
      same = ap (λ z. with_cell w.heap z (m.cell_at xs (off pl d) (shift pl)) (slice_index xs a)) h.base_is ∙ ap (λ z. with_cell w.heap at.allocation z (slice_index xs a)) h.cell

  -- one more allocation, whose reference goes to a register
  added : (kept : Kept) (t : Ty) (a : Tree) (new : Allocation) (d b : ℕ) (rs xs : List ℕ) (made : List Kept) (s : State) (w : m.State) → suc locals ≤ d → d ≤ b → d < length rs → Goes b rs made s xs w
      → IsObject p (made ++ kept ∷ []) kept a → ((r : ℕ) → IsMade (made ++ kept ∷ []) r kept → Is p (made ++ kept ∷ []) t (Ref r)) → Heaps H (made ++ kept ∷ []) (s.heap ++ a ∷ []) (new ∷ w.allocations) w.heap
      → Joint made (Gives d t d rs) (allocate a s) (m.operated (Makes d new) xs w)
  added kept t a new d b rs xs made s w low le sh g o is heaps =
      (made ++ kept ∷ [], e, set_valued p H types locals d b rs xs t (Ref (suc (length s.heap))) (suc (length w.allocations)) (made ++ kept ∷ []) _ _ low le sh going (is (suc (length s.heap)) here) (ap suc g.alike.heap.count))
    where
      e : Extends made (made ++ kept ∷ [])
      e = (kept ∷ [], refl)

      here : slice_get (made ++ kept ∷ []) (length s.heap) ≡ Some kept
      here = ap (slice_get (made ++ kept ∷ [])) (same_length p made made s.heap g.state.0) ∙ get_last made kept

      going : Goes b rs (made ++ kept ∷ []) (record s { heap = s.heap ++ a ∷ [] }) xs (record w { allocations = new ∷ w.allocations })
      going = record {
        state = (objects_add p (made ++ kept ∷ []) made s.heap kept a (objects_more p made (made ++ kept ∷ []) e made s.heap g.state.0) o, are_more p made (made ++ kept ∷ []) e types s.locals g.state.1);
        keeps = g.keeps;
        long = g.long;
        matched = g.matched;
        alike = record { turns = g.alike.turns; output = g.alike.output; heap = heaps };
      }

  -- a new struct, or a new thing of another type
  pub alloc_ok : HeapFacts p singles H → FreshSound → FitsProgram p → (ty : ValueType) (d : ℕ) (rs xs : List ℕ) (made : List Kept) (s : State) (w : m.State) → suc locals ≤ d → d < length rs → IsHeld (length p.structs) (type_of ty) → IsKnown n singles (type_of ty)
      → slice_get ks d ≡ Some (kind.Ptr (k.layout_number n singles (type_of ty))) → Goes d rs made s xs w
      → Joint made (Gives d (PointerTy (type_of ty)) d rs) (allocate (default ds (type_of ty)) s) (m.run P call' ks (f.Do (op.Alloc d (k.layout_number n singles (type_of ty)))) xs w)
  alloc_ok facts fresh fp ty d rs xs made s w low sh held known kd g =
      let t : Ty = type_of ty in
      let l : ℕ = k.layout_number n singles t in
      let there = facts.layout t known in
      subst (λ z. Joint made (Gives d (PointerTy t) d rs) (allocate (default ds t) s) z)
      (sym (does P call' ks (op.Alloc d l) xs w (and_true _ _ (has_it ks d (kind.Ptr l) kd) (ap is_some there)) ∙ ap (λ z. m.operated (makes d l (Some 1) z) xs w) there))
      (added (One t) (PointerTy t) (default ds t) (record { layout = l; length = 1; cells = 1 * length (k.cells_of p.structs singles t) }) d d rs xs made s w low (omega arith) sh g
      (fresh p fp (made ++ One t ∷ []) t held) (λ r m. (r, refl, inr m)) (facts.alloc made s.heap w.allocations w.heap l t held g.alike.heap g.state.0))

  -- a new array
  pub array_ok : HeapFacts p singles H → FreshSound → FitsProgram p → (ty : ValueType) (d b a : ℕ) (v : Value) (rs xs : List ℕ) (made : List Kept) (s : State) (w : m.State) → suc locals ≤ d → d ≤ b → d < length rs → IsHeld (length p.structs) (type_of ty) → IsKnown n singles (type_of ty)
      → slice_get ks d ≡ Some (kind.Arr (k.layout_number n singles (type_of ty))) → slice_get ks a ≡ Some kind.Int → Goes b rs made s xs w → Is p made IntTy v → Coded H v (slice_index xs a)
      → Joint made (Gives d (ArrayTy (type_of ty)) d rs) (allocate_array (default ds (type_of ty)) (as_number v) s) (m.run P call' ks (f.Do (op.AllocArray d (k.layout_number n singles (type_of ty)) a)) xs w)
  array_ok facts fresh fp ty d b a v rs xs made s w low le sh held known kd ka g i c =
      subst (λ z. Joint made (Gives d (ArrayTy t) d rs) (allocate_array (default ds t) (as_number v) s) z)
      (sym (does P call' ks (op.AllocArray d l a) xs w (and_true _ _ (has_it ks d (kind.Arr l) kd) (and_true _ _ (has_it ks a kind.Int ka) (ap is_some there)))
      ∙ ap (λ z. m.operated (makes d l (natural z) (slice_get H.layouts l)) xs w) (coded_number H p made v (slice_index xs a) i c) ∙ ap (λ z. m.operated (makes d l (natural (as_number v)) z) xs w) there))
      (at (as_number v) (number_fits p made v i))
    where
      t : Ty
      t = type_of ty

      l : ℕ
      l = k.layout_number n singles t

      there : slice_get H.layouts l ≡ Some (k.cells_of p.structs singles t)
      there = facts.layout t known

      count_copies : (i : ℕ) → count (copies i (default ds t)) ≡ i
      count_copies zero = refl
      count_copies (suc i) = ap suc (count_copies i)

      at : (z : ℤ) → FitsSigned w32 z → Joint made (Gives d (ArrayTy t) d rs) (allocate_array (default ds t) z s) (m.operated (makes d l (natural z) (Some (k.cells_of p.structs singles t))) xs w)
      at (negsuc i) f = ap (m.Stopped LengthFault) (sym g.alike.output)
      at (pos i) f =
          added (Many i t) (ArrayTy t) (Node (copies i (default ds t))) (record { layout = l; length = i; cells = i * length (k.cells_of p.structs singles t) }) d b rs xs made s w low le sh g
          (copies i (default ds t), refl, count_copies i, f, each_copies p (made ++ Many i t ∷ []) t i (default ds t) (fresh p fp (made ++ Many i t ∷ []) t held)) (λ r x. (r, refl, inr (i, x)))
          (facts.array made s.heap w.allocations w.heap l i t held g.alike.heap g.state.0)

  -- the length of an array
  pub length_ok : HeapFacts p singles H → (t : Ty) (d b a : ℕ) (v : Value) (rs xs : List ℕ) (made : List Kept) (s : State) (w : m.State) → suc locals ≤ d → d ≤ b → d < length rs → slice_get ks d ≡ Some kind.Int → slice_get ks a ≡ Some (k.kind_of n singles (ArrayTy t))
      → Goes b rs made s xs w → Is p made (ArrayTy t) v → Coded H v (slice_index xs a)
      → Joint made (Gives d IntTy d rs) (Done (Number (pos (array_length s.heap (as_ref v)))) s) (m.run P call' ks (f.Do (op.Len d a)) xs w)
  length_ok facts t d b a v rs xs made s w low le sh kd ka g i c =
      let same : length_of w.allocations (slice_index xs a) ≡ array_length s.heap (as_ref v) = ap (length_of w.allocations) (coded_array H p made t v (slice_index xs a) i c) ∙ facts.long made s.heap w.allocations w.heap t v g.alike.heap g.state.0 i in
      subst (λ z. Joint made (Gives d IntTy d rs) (Done (Number (pos (array_length s.heap (as_ref v)))) s) z)
      (sym (does P call' ks (op.Len d a) xs w (and_true _ _ (has_it ks d kind.Int kd) (ap (on_kind is_array) ka))))
      (joint_done made (Gives d IntTy d rs) (Number (pos (array_length s.heap (as_ref v)))) s (0, slice_set xs d (length_of w.allocations (slice_index xs a))) w
      (set_valued p H types locals d b rs xs IntTy (Number (pos (array_length s.heap (as_ref v)))) (length_of w.allocations (slice_index xs a)) made s w low le sh g (fine_length ops_fit not_fits p types made t v s g.state i) same))
