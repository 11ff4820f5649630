-- The cell that a load or a store is of, where the check of its place was made: it is in its allocation, and of the register's kind.
use Rattle.std.proofs.Common.{◌≡◌, inl, inr, ℕ, ◌+◌, ◌*◌, ◌<◌, true, Option, Some, None, List, length, refl, sym, ap, ◌∙◌, subst, arith}
use Rattle.std.specs.Prelude.{slice_get, slice_index}
use Rattle.std.proofs.lemmas.Option.{slice_get_within}
use Rattle.code_form.specs.declared.allocation.Allocation.{Allocation}
use Rattle.code_form.specs.declared.form.Kind.{Kind}
use Rattle.code_form.specs.declared.form.Kind.TheVariants as kind
use Rattle.code_form.specs.Form.{Function, Head, Image}
use Rattle.code_form.specs.Effects.{Heap, with_cell}
use Rattle.code_form.specs.Code.{Scope, and_then, cell_kind, cells_of, has, is_pointer, layout_of, length_of, offset, on_kind, sizes}
use Rattle.code_form.specs.Known.{Known, Knows, KnownAimed, KnownShut, Unknown}
use Rattle.code_form.specs.Asked.{IsAimChecked, IsAimedAt, IsChecked}
use Rattle.code_verification.proofs.States.{AreTyped, Holds, IsKind, IsTypedHeap, allocation_at}
use Rattle.code_verification.proofs.SameKinds.{has_is, on_kind_is}
use Rattle.code_verification.proofs.Allocations.{length_at, length_zero}
use Rattle.code_verification.proofs.Heaps.{heap_stored, is_within}

pointer_is : (k : Kind) → is_pointer k ≡ true → (l : ℕ) × (k ≡ kind.Ptr l)
pointer_is (kind.Ptr l) e = (l, refl)
pointer_is kind.Int e = absurd (cc e)
pointer_is kind.Bool e = absurd (cc e)
pointer_is kind.Char e = absurd (cc e)
pointer_is kind.Text e = absurd (cc e)
pointer_is (kind.Arr l) e = absurd (cc e)
pointer_is (kind.Off l) e = absurd (cc e)

layout_is : (x : Option (List Kind)) (i : ℕ) (j : Kind) → and_then x (λ cs. slice_get cs i) ≡ Some j → (cs : List Kind) × (x ≡ Some cs) × (slice_get cs i ≡ Some j)
layout_is None i j e = absurd (cc e)
layout_is (Some cs) i j e = (cs, refl, e)

-- the kind of a cell of what a register refers to, where its layout is known
cell_of : (H : Head) (ks : List Kind) (r i l : ℕ) (k j : Kind) → slice_get ks r ≡ Some k → layout_of k ≡ Some l → cell_kind H ks r i ≡ Some j → (cs : List Kind) × (slice_get H.layouts l ≡ Some cs) × (slice_get cs i ≡ Some j)
cell_of H ks r i l k j is lay e =
    layout_is (slice_get H.layouts l) i j
    (sym (ap (λ q. and_then q (λ t. and_then (layout_of t) (λ n. and_then (slice_get H.layouts n) (λ cs. slice_get cs i)))) is
    ∙ ap (λ q. and_then q (λ n. and_then (slice_get H.layouts n) (λ cs. slice_get cs i))) lay) ∙ e)

-- a scope that is known to be aimed at a cell of the kind of register a, the check of whose place was made
pub record IsAim (C : Image) (f : Function) (k : Known) (z : Knows) (a : ℕ) : Type 0 where
  pub r : ℕ
  pub off : Option ℕ
  pub disp : ℕ
  pub is : z ≡ KnownAimed r off disp
  pub cell : on_kind (λ j. has f.kinds a j) (cell_kind C.head f.kinds r disp) ≡ true
  pub checked : IsChecked k r off

pub aim_of : (C : Image) (f : Function) (k : Known) (z : Knows) (a : ℕ) → IsAimedAt C f z a → IsAimChecked k z → IsAim C f k z a
aim_of C f k Unknown a p q = absurd p
aim_of C f k KnownShut a p q = absurd p
aim_of C f k (KnownAimed r off disp) a p q = record { r = r; off = off; disp = disp; is = refl; cell = p.1; checked = q }

-- cell x of allocation q is that of an element, and of the kind of register a
pub record IsUsable (H : Head) (al : List Allocation) (ks : List Kind) (q x a : ℕ) : Type 0 where
  pub owner : Allocation
  pub cs : List Kind
  pub element : ℕ
  pub disp : ℕ
  pub kind : Kind
  pub there : allocation_at al q ≡ Some owner
  pub laid : slice_get H.layouts owner.layout ≡ Some cs
  pub below : element < owner.length
  pub kind_is : slice_get cs disp ≡ Some kind
  pub cell_is : x ≡ element * length cs + disp
  pub register : slice_get ks a ≡ Some kind

module _ (H : Head) (al : List Allocation) (ks : List Kind) (h : Heap) (rs : List ℕ) (heap : IsTypedHeap H al h) (typed : AreTyped H al ks rs) where
  by_pointer : (r i a l : ℕ) (j : Kind) (cs : List Kind) → (slice_index rs r ≡ 0 → ⊥) → IsKind H al (kind.Ptr l) (slice_index rs r) → slice_get H.layouts l ≡ Some cs → slice_get cs i ≡ Some j → slice_get ks a ≡ Some j
      → IsUsable H al ks (slice_index rs r) (0 + i) a
  by_pointer r i a l j cs n (inl z) lay is reg = absurd (n z)
  by_pointer r i a l j cs n (inr x) lay is reg =
      let least = x.3 in
      record { owner = x.0; cs = cs; element = 0; disp = i; kind = j; there = x.1; laid = ap (slice_get H.layouts) x.2 ∙ lay; below = omega arith; kind_is = is; cell_is = omega arith; register = reg }

  by_array : (r d i a l : ℕ) (j : Kind) (cs : List Kind) (e : ℕ) → IsKind H al (kind.Arr l) (slice_index rs r) → slice_get H.layouts l ≡ Some cs → slice_get cs i ≡ Some j → slice_get ks a ≡ Some j
      → slice_index rs d ≡ e * length cs → e < length_of al (slice_index rs r) → IsUsable H al ks (slice_index rs r) (slice_index rs d + i) a
  by_array r d i a l j cs e (inl z) lay is reg off l' = absurd (let y = ap (length_of al) z ∙ length_zero al in omega (arith, l', y))
  by_array r d i a l j cs e (inr x) lay is reg off l' =
      let long = length_at al (slice_index rs r) x.0 x.1 in
      record { owner = x.0; cs = cs; element = e; disp = i; kind = j; there = x.1; laid = ap (slice_get H.layouts) x.2 ∙ lay; below = omega (arith, l', long); kind_is = is; cell_is = ap (λ q. q + i) off; register = reg }

  pub usable : (scopes : List Scope) (k : Known) (a r : ℕ) (off : Option ℕ) (i : ℕ) → Holds H al ks rs scopes k → on_kind (λ j. has ks a j) (cell_kind H ks r i) ≡ true → IsChecked k r off → IsUsable H al ks (slice_index rs r) (offset rs off + i) a
  usable scopes k a r None i holds kinds safe =
      let n = holds.nonnull r safe in
      let p = on_kind_is is_pointer (slice_get ks r) n.0 in
      let l = pointer_is p.0 p.2 in
      let kr : slice_get ks r ≡ Some (kind.Ptr l.0) = p.1 ∙ ap Some l.1 in
      let c = on_kind_is (λ j. has ks a j) (cell_kind H ks r i) kinds in
      let lay = cell_of H ks r i l.0 (kind.Ptr l.0) c.0 kr refl c.1 in
      by_pointer r i a l.0 c.0 lay.0 n.1 (typed r (kind.Ptr l.0) kr) lay.1 lay.2 (has_is ks a c.0 c.2)
  usable scopes k a r (Some d) i holds kinds safe =
      let z = holds.inside d r safe in
      let c = on_kind_is (λ j. has ks a j) (cell_kind H ks r i) kinds in
      let lay = cell_of H ks r i z.layout (kind.Arr z.layout) c.0 z.array refl c.1 in
      let same : lay.0 ≡ z.cells = let y : Some lay.0 ≡ Some z.cells = sym lay.1 ∙ z.element in cc y in
      by_array r d i a z.layout c.0 z.cells z.index (typed r (kind.Arr z.layout) z.array) z.element (subst (λ q. slice_get q i ≡ Some c.0) same lay.2) (has_is ks a c.0 c.2) z.place z.inside

  pub in_cells : (q x a : ℕ) → IsUsable H al ks q x a → x < cells_of (sizes al) q
  in_cells q x a u = subst (λ y. y < cells_of (sizes al) q) (sym u.cell_is) (is_within H al h q u.owner u.cs u.element u.disp heap u.there u.laid u.below (slice_get_within u.cs u.disp u.kind u.kind_is))

  pub loaded_kind : (q x a : ℕ) (u : IsUsable H al ks q x a) → IsKind H al u.kind (h q x)
  loaded_kind q x a u = subst (λ y. IsKind H al u.kind (h q y)) (sym u.cell_is) (heap.cells q u.element u.disp u.owner u.cs u.kind u.there u.laid u.below u.kind_is)

  pub stored_heap : (q x a : ℕ) (u : IsUsable H al ks q x a) → IsTypedHeap H al (with_cell h q x (slice_index rs a))
  stored_heap q x a u =
      subst (λ y. IsTypedHeap H al (with_cell h q y (slice_index rs a))) (sym u.cell_is)
      (heap_stored H al h q u.owner u.cs u.element u.disp u.kind (slice_index rs a) heap u.there u.laid u.kind_is (slice_get_within u.cs u.disp u.kind u.kind_is) (typed a u.kind u.register))
