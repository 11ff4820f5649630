-- Heaps of cells that are those of trees: what is loaded, what a store and an allocation leave.
use Rattle.std.proofs.Common.{◌≡◌, ◌≢◌, ◌⊎◌, inl, inr, ℕ, zero, suc, ◌-◌, ◌*◌, ◌<◌, cond, List, [], ◌∷◌, ◌++◌, length, get_or, set, refl, sym, ap, ◌∙◌, subst, arith, Some}
use Rattle.std.specs.Prelude.{slice_get}
use Rattle.std.proofs.lemmas.Bool.{eq-eqb, ne_eqb}
use Rattle.std.proofs.lemmas.Bool.Decides.{eqb_tells}
use Rattle.std.proofs.lemmas.List.{length-map, length-set}
use Rattle.std.proofs.lemmas.Option.{slice_get_within, slice_get-get_or}
use Rattle.c0_typed.specs.Values.{Value, Void, Tree, Leaf, Node, Spot, leaf, count, parts, part_at, with_part_at, copies, allocated, load, store, array_length}
use Rattle.c0_typed.specs.Trees.{Ty, Program}
use Rattle.c0_typed.specs.Layouts.{flat, offset}
use Rattle.c0_typed.specs.Meaning.{default, struct_defaults}
use Rattle.c0_typed.specs.Typing.{IsSmall, IsHeld, FitsProgram, Kept, One, Many, IsMade, IsObject, IsHeap, IsWayIn, IsPlace}
use Rattle.c0_typed.proofs.Soundness.{allocated_object, fresh_fits, object_at, same_length}
use Rattle.code_form.specs.declared.allocation.Allocation.{Allocation}
use Rattle.code_form.specs.declared.form.Kind.{Kind}
use Rattle.code_form.specs.Code.{cells_of, length_of, sizes}
use Rattle.code_form.specs.Effects.{Heap, with_cell, upd}
use Rattle.code_form.specs.Form.{Head}
use Rattle.lower_tables.specs.Kinds as layout
use Rattle.lower.specs.Coded.{Coded, Heaps, kept_offset}
use Rattle.lower.proofs.Defaults.{AreZero, copies_coded, copies_size, default_coded}
use Rattle.lower.proofs.Lists.{get_set, get_set_other, last_or, length_more}
use Rattle.lower.proofs.Offsets.{kept_cell, kept_offset_is, kept_set, size_is}

-- ---- a heap with one cell changed

pub stored_same : (h : Heap) (r x v : ℕ) → with_cell h r x v r x ≡ v
stored_same h r x v = ap (λ b. cond b (upd (h r) x v) (h r) x) (eq-eqb r r refl) ∙ ap (λ b. cond b v (h r x)) (eq-eqb x x refl)

pub stored_other : (h : Heap) (r x v q y : ℕ) → (q ≢ r) ⊎ (y ≢ x) → with_cell h r x v q y ≡ h q y
stored_other h r x v q y (inl d) = ap (λ b. cond b (upd (h r) x v) (h q) y) (ne_eqb q r d)
stored_other h r x v q y (inr d) = elim (eqb_tells q r) [
  | inl e ↦ ap (λ b. cond b (upd (h r) x v) (h q) y) e.0 ∙ ap (λ b. cond b v (h r y)) (ne_eqb y x d) ∙ ap (λ z. h z y) (sym e.1)
  | inr e ↦ ap (λ b. cond b (upd (h r) x v) (h q) y) e.0
]

same_or : (i k : ℕ) → (i ≡ k) ⊎ (i ≢ k)
same_or i k = elim (eqb_tells i k) [ inl e ↦ inl e.1 | inr e ↦ inr e.1 ]

-- NULL has no elements
none_made : (al : List Allocation) → length_of al 0 ≡ 0
none_made [] = refl
none_made (a ∷ older) = ap (λ b. cond b a.length (length_of older 0)) (ne_eqb 0 (suc (length older)) (λ e. absurd (cc e))) ∙ none_made older

sizes_length : (al : List Allocation) → length (sizes al) ≡ length al
sizes_length al = length-map al (λ (a : Allocation). a.cells)

-- ---- loads and stores in well-typed heaps

module _ (p : Program) (fp : FitsProgram p) (singles : List Kind) (H : Head) (made : List Kept) (trees : List Tree) (al : List Allocation) (h : Heap) (same : Heaps H made trees al h) (typed : IsHeap p made trees) where
  -- what was made is there
  tree_there : (r : ℕ) (kept : Kept) → slice_get made r ≡ Some kept → slice_get trees r ≡ Some (get_or trees r (Leaf Void))
  tree_there r kept m =
      let within : r < length made = slice_get_within made r kept m in
      slice_get-get_or trees r (Leaf Void) (omega (arith, within, same_length p made made trees typed))

  -- a value that is loaded is that of its cell
  pub load_coded : (u : Ty) (at : Spot) (q : IsPlace p made u at) → IsSmall u → Coded H (load trees at) (h at.allocation (kept_offset p.structs singles q.kept at.path))
  load_coded u at q s = by_number at.allocation q.made_so
    where
      by_number : (r : ℕ) → IsMade made r q.kept → Coded H (leaf (part_at at.path (allocated trees r))) (h r (kept_offset p.structs singles q.kept at.path))
      by_number zero m = absurd m
      by_number (suc r) m =
          let a : Tree = get_or trees r (Leaf Void) in
          let o : IsObject p made q.kept a = object_at p made made trees r q.kept typed m in
          subst (λ x. Coded H (leaf (part_at at.path a)) (h (suc r) x)) (kept_offset_is p fp singles made q.kept at.path u a q.way o)
          (same.coded r (offset at.path a) a (leaf (part_at at.path a)) (tree_there r q.kept m) (kept_cell p made q.kept at.path u a q.way o s))

  -- and the cell is one of its allocation
  pub load_there : (u : Ty) (at : Spot) (q : IsPlace p made u at) → IsSmall u → (kept_offset p.structs singles q.kept at.path < cells_of (sizes al) at.allocation) × (at.allocation ≢ 0)
  load_there u at q s = by_number at.allocation q.made_so
    where
      by_number : (r : ℕ) → IsMade made r q.kept → (kept_offset p.structs singles q.kept at.path < cells_of (sizes al) r) × (r ≢ 0)
      by_number zero m = absurd m
      by_number (suc r) m =
          let a : Tree = get_or trees r (Leaf Void) in
          let o : IsObject p made q.kept a = object_at p made made trees r q.kept typed m in
          let within : offset at.path a < length (flat a) = slice_get_within (flat a) (offset at.path a) (leaf (part_at at.path a)) (kept_cell p made q.kept at.path u a q.way o s) in (
            subst (λ x. x < cells_of (sizes al) (suc r)) (kept_offset_is p fp singles made q.kept at.path u a q.way o)
                (subst (λ z. offset at.path a < z) (sym (same.cells r a (tree_there r q.kept m))) within),
            λ e. absurd (cc e),
          )

  -- ---- stores

  store_at : (r x : ℕ) (kept : Kept) (path : List ℕ) (u : Ty) (v : Value) (n : ℕ) → slice_get made r ≡ Some kept → IsWayIn p kept path u → IsSmall u → Coded H v n → x ≡ kept_offset p.structs singles kept path
      → Heaps H made (set trees r (with_part_at path (Leaf v) (get_or trees r (Leaf Void)))) al (with_cell h (suc r) x n)
  store_at r x kept path u v n m w s c at_x =
      record {
        count = same.count ∙ sym (length-set trees r new);
        cells = λ q b g. by_place q b g (same_or q r);
        lengths = same.lengths;
        coded = λ q y b z g f. by_cell q y b z g f (same_or q r) (same_or y x);
        fresh = λ q y l. stored_other h (suc r) x n q y (inl (λ e. absurd (let no : ⊥ = omega (arith, l, e, there, length-set trees r new) in no)))
            ∙ same.fresh q y (omega (arith, l, length-set trees r new));
      }
    where
      a : Tree
      a = get_or trees r (Leaf Void)

      new : Tree
      new = with_part_at path (Leaf v) a

      o : IsObject p made kept a
      o = object_at p made made trees r kept typed m

      there : r < length trees
      there = slice_get_within trees r a (tree_there r kept m)

      inside : x < length (flat a)
      inside = subst (λ z. z < length (flat a)) (kept_offset_is p fp singles made kept path u a w o ∙ sym at_x) (slice_get_within (flat a) (offset path a) (leaf (part_at path a)) (kept_cell p made kept path u a w o s))

      cells_new : flat new ≡ set (flat a) x v
      cells_new = kept_set p made v kept path u a w o s ∙ ap (λ z. set (flat a) z v) (kept_offset_is p fp singles made kept path u a w o ∙ sym at_x)

      is_new : (q : ℕ) (b : Tree) → slice_get (set trees r new) q ≡ Some b → q ≡ r → new ≡ b
      is_new q b g e = let known : slice_get (set trees r new) q ≡ Some new = ap (slice_get (set trees r new)) e ∙ get_set trees r new there in cc (known, g)

      by_place : (q : ℕ) (b : Tree) → slice_get (set trees r new) q ≡ Some b → ((q ≡ r) ⊎ (q ≢ r)) → cells_of (sizes al) (suc q) ≡ length (flat b)
      by_place q b g (inl e) =
          ap (λ z. cells_of (sizes al) (suc z)) e ∙ same.cells r a (tree_there r kept m) ∙ sym (length-set (flat a) x v) ∙ ap (λ (l : List Value). length l) (sym cells_new)
          ∙ ap (λ z. length (flat z)) (is_new q b g e)
      by_place q b g (inr d) = same.cells q b (sym (get_set_other trees r q new d) ∙ g)

      by_cell : (q y : ℕ) (b : Tree) (z : Value) → slice_get (set trees r new) q ≡ Some b → slice_get (flat b) y ≡ Some z → ((q ≡ r) ⊎ (q ≢ r)) → ((y ≡ x) ⊎ (y ≢ x)) → Coded H z (with_cell h (suc r) x n (suc q) y)
      by_cell q y b z g f (inl e) (inl i) =
          let known : slice_get (flat b) y ≡ Some v = ap (λ t. slice_get (flat t) y) (sym (is_new q b g e)) ∙ ap (λ (l : List Value). slice_get l y) cells_new ∙ ap (slice_get (set (flat a) x v)) i ∙ get_set (flat a) x v inside in
          let value : v ≡ z = cc (known, f) in
          let cell : n ≡ with_cell h (suc r) x n (suc q) y = sym (ap (λ k. with_cell h (suc r) x n (suc k) y) e ∙ ap (with_cell h (suc r) x n (suc r)) i ∙ stored_same h (suc r) x n) in
          subst (λ k. Coded H z k) cell (subst (λ k. Coded H k n) value c)
      by_cell q y b z g f (inl e) (inr d) =
          let old : slice_get (flat a) y ≡ Some z = sym (get_set_other (flat a) x y v d) ∙ ap (λ (l : List Value). slice_get l y) (sym cells_new) ∙ ap (λ t. slice_get (flat t) y) (is_new q b g e) ∙ f in
          let cell : h (suc r) y ≡ with_cell h (suc r) x n (suc q) y = sym (stored_other h (suc r) x n (suc q) y (inr d) ∙ ap (λ k. h (suc k) y) e) in
          subst (λ k. Coded H z k) cell (same.coded r y a z (tree_there r kept m) old)
      by_cell q y b z g f (inr d) k =
          let cell : h (suc q) y ≡ with_cell h (suc r) x n (suc q) y = sym (stored_other h (suc r) x n (suc q) y (inl (λ e. d (let i : q ≡ r = cc e in i)))) in
          subst (λ i. Coded H z i) cell (same.coded q y b z (sym (get_set_other trees r q new d) ∙ g) f)

  -- a value that is stored is stored in its cell
  pub store_heaps : (u : Ty) (at : Spot) (q : IsPlace p made u at) (v : Value) (n : ℕ) → IsSmall u → Coded H v n
      → Heaps H made (store trees at v) al (with_cell h at.allocation (kept_offset p.structs singles q.kept at.path) n)
  store_heaps u at q v n s c = by_number at.allocation q.made_so
    where
      by_number : (r : ℕ) → IsMade made r q.kept → Heaps H made (set trees (r - 1) (with_part_at at.path (Leaf v) (allocated trees r))) al (with_cell h r (kept_offset p.structs singles q.kept at.path) n)
      by_number zero m = absurd m
      by_number (suc r) m =
          let x : ℕ = kept_offset p.structs singles q.kept at.path in
          let less : suc r - 1 ≡ r = omega arith in
          subst (λ z. Heaps H made (set trees z (with_part_at at.path (Leaf v) (allocated trees (suc r)))) al (with_cell h (suc r) x n)) (sym less)
          (store_at r x q.kept at.path u v n m q.way s c refl)

  -- ---- lengths

  -- an array has its length
  pub array_length_is : (r : ℕ) (t : Ty) → ((r ≡ 0) ⊎ ((n : ℕ) × IsMade made r (Many n t))) → length_of al r ≡ array_length trees r
  array_length_is zero t k = none_made al
  array_length_is (suc r) t (inl e) = absurd (cc e)
  array_length_is (suc r) t (inr m) =
      let o = allocated_object p made trees (suc r) (Many m.0 t) typed m.1 in
      same.lengths r m.0 t m.1 ∙ sym (ap (λ a. count (parts a)) o.1 ∙ o.2)

-- ---- allocations

module _ (H : Head) (made : List Kept) (trees : List Tree) (al : List Allocation) (h : Heap) (same : Heaps H made trees al h) (alike : length trees ≡ length made) where
  -- one more allocation, of so many cells that hold 0
  add_heaps : (kept : Kept) (a : Tree) (new : Allocation) → new.cells ≡ length (flat a) → ((n : ℕ) (t : Ty) → kept ≡ Many n t → new.length ≡ n) → AreZero H (flat a)
      → Heaps H (made ++ kept ∷ []) (trees ++ a ∷ []) (new ∷ al) h
  add_heaps kept a new size long zeros =
      record {
        count = ap suc same.count ∙ sym (length_more trees a);
        cells = λ r b e. cells_at r b (last_or trees a r b e);
        lengths = λ r n t e. length_at r n t (last_or made kept r (Many n t) e);
        coded = λ r x b v e f. coded_at r x b v (last_or trees a r b e) f;
        fresh = λ r x l. same.fresh r x (omega (arith, l, length_more trees a));
      }
    where
      behind : length (sizes al) ≡ length trees
      behind = sizes_length al ∙ same.count

      cells_at : (r : ℕ) (b : Tree) → ((slice_get trees r ≡ Some b) ⊎ ((r ≡ length trees) × (b ≡ a))) → cells_of (sizes (new ∷ al)) (suc r) ≡ length (flat b)
      cells_at r b (inl z) =
          let within : r < length trees = slice_get_within trees r b z in
          ap (λ c. cond c new.cells (cells_of (sizes al) (suc r))) (ne_eqb (suc r) (suc (length (sizes al))) (λ e. absurd (let no : ⊥ = omega (arith, within, e, behind) in no))) ∙ same.cells r b z
      cells_at r b (inr z) =
          ap (λ c. cond c new.cells (cells_of (sizes al) (suc r))) (eq-eqb (suc r) (suc (length (sizes al))) (ap suc (z.0 ∙ sym behind))) ∙ size ∙ ap (λ t. length (flat t)) (sym z.1)

      length_at : (r n : ℕ) (t : Ty) → ((slice_get made r ≡ Some (Many n t)) ⊎ ((r ≡ length made) × (Many n t ≡ kept))) → length_of (new ∷ al) (suc r) ≡ n
      length_at r n t (inl z) =
          let within : r < length made = slice_get_within made r (Many n t) z in
          ap (λ c. cond c new.length (length_of al (suc r))) (ne_eqb (suc r) (suc (length al)) (λ e. absurd (let no : ⊥ = omega (arith, within, e, alike, same.count) in no))) ∙ same.lengths r n t z
      length_at r n t (inr z) =
          ap (λ c. cond c new.length (length_of al (suc r))) (eq-eqb (suc r) (suc (length al)) (ap suc (z.0 ∙ sym alike ∙ sym same.count))) ∙ long n t (sym z.1)

      coded_at : (r x : ℕ) (b : Tree) (v : Value) → ((slice_get trees r ≡ Some b) ⊎ ((r ≡ length trees) × (b ≡ a))) → slice_get (flat b) x ≡ Some v → Coded H v (h (suc r) x)
      coded_at r x b v (inl z) f = same.coded r x b v z f
      coded_at r x b v (inr z) f =
          let none : h (suc r) x ≡ 0 = same.fresh (suc r) x (omega (arith, z.0)) in
          subst (λ k. Coded H v k) (sym none) (zeros x v (ap (λ t. slice_get (flat t) x) (sym z.1) ∙ f))

module _ (p : Program) (fp : FitsProgram p) (singles : List Kind) (H : Head) (made : List Kept) (trees : List Tree) (al : List Allocation) (h : Heap) (same : Heaps H made trees al h) (typed : IsHeap p made trees) where
  -- one more thing of a type
  pub alloc_heaps : (l : ℕ) (t : Ty) → IsHeld (length p.structs) t
      → Heaps H (made ++ One t ∷ []) (trees ++ default (struct_defaults [] p.structs) t ∷ []) (record { layout = l; length = 1; cells = 1 * length (layout.cells_of p.structs singles t) } ∷ al) h
  alloc_heaps l t held =
      let size : ℕ = length (layout.cells_of p.structs singles t) in
      let whole = size_is p fp singles made t (default (struct_defaults [] p.structs) t) (fresh_fits p fp made t held) in
      add_heaps H made trees al h same (same_length p made made trees typed) (One t) (default (struct_defaults [] p.structs) t) (record { layout = l; length = 1; cells = 1 * size })
      ((let z : 1 * size ≡ size = omega arith in z) ∙ sym whole) (λ n u e. absurd (cc e)) (default_coded H p.structs t)

  -- one more array
  pub array_heaps : (l n : ℕ) (t : Ty) → IsHeld (length p.structs) t
      → Heaps H (made ++ Many n t ∷ []) (trees ++ Node (copies n (default (struct_defaults [] p.structs) t)) ∷ []) (record { layout = l; length = n; cells = n * length (layout.cells_of p.structs singles t) } ∷ al) h
  array_heaps l n t held =
      let size : ℕ = length (layout.cells_of p.structs singles t) in
      let one : Tree = default (struct_defaults [] p.structs) t in
      let whole = size_is p fp singles made t one (fresh_fits p fp made t held) in
      add_heaps H made trees al h same (same_length p made made trees typed) (Many n t) (Node (copies n one)) (record { layout = l; length = n; cells = n * size })
      (sym (copies_size n one ∙ ap (λ z. n * z) whole)) (λ m u e. cc e) (copies_coded H n one (default_coded H p.structs t))
