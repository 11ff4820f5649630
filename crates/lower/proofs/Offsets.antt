-- The cells of well-typed trees: their number, where the part at the end of a way stands, and what a store does to them.
use Rattle.std.proofs.Common.{◌≡◌, ℕ, zero, suc, ◌+◌, ◌*◌, ◌<◌, ◌≤◌, List, [], ◌∷◌, ◌++◌, length, take, set, refl, sym, ap, ◌∙◌, subst, arith, Some}
use Rattle.std.specs.Prelude.{slice_get}
use Rattle.std.proofs.lemmas.List.{length-append}
use Rattle.std.proofs.lemmas.Option.{slice_get_within}
use Rattle.c0_typed.specs.Values.{Value, Tree, Leaf, Node, Trees, Nil, Cons, leaf, part, parts, part_at, with_part, with_part_at, count}
use Rattle.c0_typed.specs.Trees.{Ty, Program}
use Rattle.c0_typed.specs.Layouts.{flat, flats, before, offset}
use Rattle.c0_typed.specs.Typing.{IsSmall, FitsProgram, Kept, One, Many, Grown, GrownAll, GrownEach, IsObject, IsWay, IsWayIn}
use Rattle.c0_typed.proofs.Cells.{part_grown, parts_grown, part_way, cell_at_offset}
use Rattle.c0_typed.proofs.Soundness.{each_part}
use Rattle.code_form.specs.declared.form.Kind.{Kind}
use Rattle.lower_tables.specs.Kinds.{cells_of, field_offset}
use Rattle.lower.specs.Coded.{type_offset, kept_offset}
use Rattle.lower.proofs.Layouts.{kinds_of_fields, struct_cells, small_cells, field_offset_is, type_offset_step}
use Rattle.lower.proofs.Lists.{get_front, get_behind, set_front, set_behind}

-- ---- sizes and offsets

module _ (p : Program) (fp : FitsProgram p) (singles : List Kind) (made : List Kept) where
  mutual
    -- a tree has the cells of its type
    pub size_is : (t : Ty) (a : Tree) → Grown p made t a → length (flat a) ≡ length (cells_of p.structs singles t)
    size_is t (Leaf v) g = ap (λ (l : List Kind). length l) (sym (small_cells p.structs singles t g.0))
    size_is t (Node ts) g =
        sizes_are g.1 ts g.4 ∙ ap (λ (l : List Kind). length l) (sym (ap (cells_of p.structs singles) g.2 ∙ struct_cells p.structs singles g.0 g.1 fp.structs g.3))

    -- and so have the fields of a struct
    pub sizes_are : (fs : List Ty) (ts : Trees) → GrownAll p made fs ts → length (flats ts) ≡ length (kinds_of_fields p.structs singles fs)
    sizes_are [] Nil g = refl
    sizes_are [] (Cons a ts) g = absurd g
    sizes_are (t ∷ fs) Nil g = absurd g
    sizes_are (t ∷ fs) (Cons a ts) g =
        length-append (flat a) (flats ts) ∙ ap (λ k. k + length (flats ts)) (size_is t a g.0)
        ∙ ap (λ k. length (cells_of p.structs singles t) + k) (sizes_are fs ts g.1) ∙ sym (length-append (cells_of p.structs singles t) (kinds_of_fields p.structs singles fs))

  -- the cells before a field
  before_is : (k : ℕ) (fs : List Ty) (ts : Trees) → GrownAll p made fs ts → before k ts ≡ length (kinds_of_fields p.structs singles (take k fs))
  before_is zero [] Nil g = refl
  before_is (suc k) [] Nil g = refl
  before_is k [] (Cons a ts) g = absurd g
  before_is k (t ∷ fs) Nil g = absurd g
  before_is zero (t ∷ fs) (Cons a ts) g = refl
  before_is (suc k) (t ∷ fs) (Cons a ts) g =
      ap (λ z. z + before k ts) (size_is t a g.0) ∙ ap (λ z. length (cells_of p.structs singles t) + z) (before_is k fs ts g.1)
      ∙ sym (length-append (cells_of p.structs singles t) (kinds_of_fields p.structs singles (take k fs)))

  -- the types on a way tell the offset of its end
  pub offset_is : (path : List ℕ) (t u : Ty) (a : Tree) → IsWay p t path u → Grown p made t a → offset path a ≡ type_offset p.structs singles t path
  offset_is [] t u a w g = refl
  offset_is (k ∷ path) t u a w g =
      let fs : List Ty = w.3.0 in
      let all = parts_grown p made w.0 fs a w.3.1 (subst (λ z. Grown p made z a) w.2 g) in
      ap (λ z. z + offset path (part k (parts a))) (before_is k fs (parts a) all ∙ sym (field_offset_is p.structs singles w.0 k fs w.3.1))
      ∙ ap (λ z. field_offset p.structs singles w.0 k + z) (offset_is path w.1 u (part k (parts a)) w.4 (part_grown p made fs (parts a) k w.1 all w.3.2))
      ∙ sym (type_offset_step p.structs singles t w.0 k w.1 path w.2 w.3)

  -- the cells before an element
  before_each : (t : Ty) (k : ℕ) (ts : Trees) → GrownEach p made t ts → k ≤ count ts → before k ts ≡ k * length (cells_of p.structs singles t)
  before_each t zero Nil g l = omega arith
  before_each t (suc k) Nil g l = absurd (let z : ⊥ = omega arith in z)
  before_each t zero (Cons a ts) g l = omega arith
  before_each t (suc k) (Cons a ts) g l =
      let size : ℕ = length (cells_of p.structs singles t) in
      ap (λ z. z + before k ts) (size_is t a g.0) ∙ ap (λ z. size + z) (before_each t k ts g.1 (omega arith)) ∙ (let z : size + k * size ≡ suc k * size = omega arith in z)

  -- the same in an allocation
  pub kept_offset_is : (kept : Kept) (path : List ℕ) (u : Ty) (a : Tree) → IsWayIn p kept path u → IsObject p made kept a → offset path a ≡ kept_offset p.structs singles kept path
  kept_offset_is (One t) path u a w g = offset_is path t u a w g
  kept_offset_is (Many n t) [] u a w g = absurd w
  kept_offset_is (Many n t) (i ∷ path) u a w g =
      let within : i < count g.0 = subst (λ z. i < z) (sym g.2) w.0 in
      ap (offset (i ∷ path)) g.1
      ∙ ap (λ z. z + offset path (part i g.0)) (before_each t i g.0 g.4 (omega (arith, within)))
      ∙ ap (λ z. i * length (cells_of p.structs singles t) + z) (offset_is path t u (part i g.0) w.1 (each_part p made t g.0 i g.4 within))

-- ---- what a place holds

-- the cells of a part stand behind those of the parts before
part_there : (ts : Trees) (k x : ℕ) (v : Value) → k < count ts → slice_get (flat (part k ts)) x ≡ Some v → slice_get (flats ts) (before k ts + x) ≡ Some v
part_there Nil k x v l e = absurd (let z : ⊥ = omega arith in z)
part_there (Cons a ts) zero x v l e = ap (slice_get (flat a ++ flats ts)) (let z : 0 + x ≡ x = omega arith in z) ∙ get_front (flat a) (flats ts) x v e
part_there (Cons a ts) (suc k) x v l e =
    ap (slice_get (flat a ++ flats ts)) (let z : length (flat a) + before k ts + x ≡ length (flat a) + (before k ts + x) = omega arith in z)
    ∙ get_behind (flat a) (flats ts) (before k ts + x) ∙ part_there ts k x v (omega arith) e

module _ (p : Program) (made : List Kept) where
  -- what is no struct has one cell
  small_flat : (u : Ty) (a : Tree) → IsSmall u → Grown p made u a → flat a ≡ leaf a ∷ []
  small_flat u (Leaf v) s g = refl
  small_flat u (Node ts) s g = absurd (subst IsSmall g.2 s)

  -- the cell at the end of a way
  way_cell : (path : List ℕ) (t u : Ty) (a : Tree) → IsWay p t path u → Grown p made t a → IsSmall u → slice_get (flat a) (offset path a) ≡ Some (leaf (part_at path a))
  way_cell path t u a w g s =
      ap (slice_get (flat a)) (let z : offset path a ≡ offset path a + 0 = omega arith in z)
      ∙ cell_at_offset p made path t u a 0 (leaf (part_at path a)) w g (ap (λ (l : List Value). slice_get l 0) (small_flat u (part_at path a) s (part_way p made path t u a w g)))

  -- the same in an allocation
  pub kept_cell : (kept : Kept) (path : List ℕ) (u : Ty) (a : Tree) → IsWayIn p kept path u → IsObject p made kept a → IsSmall u → slice_get (flat a) (offset path a) ≡ Some (leaf (part_at path a))
  kept_cell (One t) path u a w g s = way_cell path t u a w g s
  kept_cell (Many n t) [] u a w g s = absurd w
  kept_cell (Many n t) (i ∷ path) u a w g s =
      let within : i < count g.0 = subst (λ z. i < z) (sym g.2) w.0 in
      let inner : Tree = part i g.0 in
      subst (λ z. slice_get (flat z) (offset (i ∷ path) z) ≡ Some (leaf (part_at (i ∷ path) z))) (sym g.1)
      (part_there g.0 i (offset path inner) (leaf (part_at path inner)) within (way_cell path t u inner w.1 (each_part p made t g.0 i g.4 within) s))

-- ---- stores

-- another part with one cell changed
part_set : (ts : Trees) (k x : ℕ) (new : Tree) (v : Value) → k < count ts → x < length (flat (part k ts)) → flat new ≡ set (flat (part k ts)) x v → flats (with_part k new ts) ≡ set (flats ts) (before k ts + x) v
part_set Nil k x new v l m e = absurd (let z : ⊥ = omega arith in z)
part_set (Cons a ts) zero x new v l m e =
    ap (λ (l : List Value). l ++ flats ts) e ∙ sym (set_front (flat a) (flats ts) x v m) ∙ ap (λ z. set (flat a ++ flats ts) z v) (let z : x ≡ 0 + x = omega arith in z)
part_set (Cons a ts) (suc k) x new v l m e =
    ap (λ (l : List Value). flat a ++ l) (part_set ts k x new v (omega arith) m e) ∙ sym (set_behind (flat a) (flats ts) (before k ts + x) v)
    ∙ ap (λ z. set (flat a ++ flats ts) z v) (let z : length (flat a) + (before k ts + x) ≡ length (flat a) + before k ts + x = omega arith in z)

-- a struct has its fields
field_there : (p : Program) (made : List Kept) (fs : List Ty) (ts : Trees) (k : ℕ) (t : Ty) → GrownAll p made fs ts → slice_get fs k ≡ Some t → k < count ts
field_there p made [] ts k t g e = absurd (cc e)
field_there p made (f ∷ fs) Nil k t g e = absurd g
field_there p made (f ∷ fs) (Cons a ts) zero t g e = omega arith
field_there p made (f ∷ fs) (Cons a ts) (suc k) t g e = let l = field_there p made fs ts k t g.1 e in omega (arith, l)

module _ (p : Program) (made : List Kept) (v : Value) where
  -- a store at the end of a way changes its cell
  way_set : (path : List ℕ) (t u : Ty) (a : Tree) → IsWay p t path u → Grown p made t a → IsSmall u → flat (with_part_at path (Leaf v) a) ≡ set (flat a) (offset path a) v
  way_set [] t u a w g s = ap (λ (l : List Value). set l 0 v) (sym (small_flat p made u a s (subst (λ z. Grown p made z a) w g)))
  way_set (k ∷ path) t u (Leaf x) w g s = absurd (subst IsSmall w.2 g.0)
  way_set (k ∷ path) t u (Node ts) w g s =
      let fs : List Ty = w.3.0 in
      let all = parts_grown p made w.0 fs (Node ts) w.3.1 (subst (λ z. Grown p made z (Node ts)) w.2 g) in
      let one = part_grown p made fs ts k w.1 all w.3.2 in
      let within = slice_get_within (flat (part k ts)) (offset path (part k ts)) (leaf (part_at path (part k ts))) (way_cell p made path w.1 u (part k ts) w.4 one s) in
      part_set ts k (offset path (part k ts)) (with_part_at path (Leaf v) (part k ts)) v (field_there p made fs ts k w.1 all w.3.2) within (way_set path w.1 u (part k ts) w.4 one s)

  -- the same in an allocation
  pub kept_set : (kept : Kept) (path : List ℕ) (u : Ty) (a : Tree) → IsWayIn p kept path u → IsObject p made kept a → IsSmall u → flat (with_part_at path (Leaf v) a) ≡ set (flat a) (offset path a) v
  kept_set (One t) path u a w g s = way_set path t u a w g s
  kept_set (Many n t) [] u a w g s = absurd w
  kept_set (Many n t) (i ∷ path) u a w g s =
      let within : i < count g.0 = subst (λ z. i < z) (sym g.2) w.0 in
      let inner : Tree = part i g.0 in
      let one = each_part p made t g.0 i g.4 within in
      let inside = slice_get_within (flat inner) (offset path inner) (leaf (part_at path inner)) (way_cell p made path t u inner w.1 one s) in
      subst (λ z. flat (with_part_at (i ∷ path) (Leaf v) z) ≡ set (flat z) (offset (i ∷ path) z) v) (sym g.1)
      (part_set g.0 i (offset path inner) (with_part_at path (Leaf v) inner) v within inside (way_set path t u inner w.1 one s))
