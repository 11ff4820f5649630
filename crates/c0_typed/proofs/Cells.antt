-- The cells of well-typed trees: their number and the offset of a place are told by the type.
use Rattle.std.proofs.Common.{◌≡◌, ℕ, zero, suc, ◌+◌, List, [], ◌∷◌, ◌++◌, length, refl, sym, ap, ◌∙◌, subst, arith, Some}
use Rattle.std.specs.Prelude.{slice_get}
use Rattle.std.proofs.lemmas.List.{length-append}
use Rattle.c0_typed.specs.Values.{Value, Tree, Leaf, Node, Trees, Nil, Cons, part, parts, part_at}
use Rattle.c0_typed.specs.Trees.{Ty, StructTy, Program}
use Rattle.c0_typed.specs.Layouts.{flat, flats, before, offset}
use Rattle.c0_typed.specs.Typing.{IsSmall, Kept, Grown, GrownAll, IsWay}

-- ---- trees of one type have one shape

module _ (p : Program) (m n : List Kept) where
  mutual
    same_size : (t : Ty) (a b : Tree) → Grown p m t a → Grown p n t b → length (flat a) ≡ length (flat b)
    same_size t (Leaf v) (Leaf w) g h = refl
    same_size t (Leaf v) (Node ts) g h = absurd (subst IsSmall h.2 g.0)
    same_size t (Node ts) (Leaf w) g h = absurd (subst IsSmall g.2 h.0)
    same_size t (Node ts) (Node us) g h =
        let j : g.0 ≡ h.0 = cc (g.2, h.2) in
        let fs : g.1 ≡ h.1 = cc (g.3, h.3, j) in
        same_sizes g.1 ts us g.4 (subst (λ z. GrownAll p n z us) (sym fs) h.4)

    same_sizes : (fs : List Ty) (ts us : Trees) → GrownAll p m fs ts → GrownAll p n fs us → length (flats ts) ≡ length (flats us)
    same_sizes [] Nil Nil g h = refl
    same_sizes (t ∷ fs) (Cons a ts) (Cons b us) g h =
        length-append (flat a) (flats ts) ∙ ap (λ k. k + length (flats ts)) (same_size t a b g.0 h.0) ∙ ap (λ k. length (flat b) + k) (same_sizes fs ts us g.1 h.1) ∙ sym (length-append (flat b) (flats us))
    same_sizes [] Nil (Cons b us) g h = absurd h
    same_sizes [] (Cons a ts) us g h = absurd g
    same_sizes (t ∷ fs) Nil us g h = absurd g
    same_sizes (t ∷ fs) (Cons a ts) Nil g h = absurd h

  pub same_before : (k : ℕ) (fs : List Ty) (ts us : Trees) → GrownAll p m fs ts → GrownAll p n fs us → before k ts ≡ before k us
  same_before k [] Nil Nil g h = refl
  same_before k [] Nil (Cons b us) g h = absurd h
  same_before k [] (Cons a ts) us g h = absurd g
  same_before k (t ∷ fs) Nil us g h = absurd g
  same_before k (t ∷ fs) (Cons a ts) Nil g h = absurd h
  same_before zero (t ∷ fs) (Cons a ts) (Cons b us) g h = refl
  same_before (suc k) (t ∷ fs) (Cons a ts) (Cons b us) g h = ap (λ z. z + before k ts) (same_size t a b g.0 h.0) ∙ ap (λ z. length (flat b) + z) (same_before k fs ts us g.1 h.1)

pub part_grown : (p : Program) (made : List Kept) (ts : List Ty) (as' : Trees) (k : ℕ) (t : Ty) → GrownAll p made ts as' → slice_get ts k ≡ Some t → Grown p made t (part k as')
part_grown p made [] as' k t h e = absurd (cc e)
part_grown p made (u ∷ ts) Nil k t h e = absurd h
part_grown p made (u ∷ ts) (Cons a rest) zero t h e = let same : u ≡ t = cc e in subst (λ z. Grown p made z a) same h.0
part_grown p made (u ∷ ts) (Cons a rest) (suc k) t h e = part_grown p made ts rest k t h.1 e

-- the fields of a struct
pub parts_grown : (p : Program) (made : List Kept) (j : ℕ) (fs : List Ty) (a : Tree) → slice_get p.structs j ≡ Some fs → Grown p made (StructTy j) a → GrownAll p made fs (parts a)
parts_grown p made j fs (Leaf v) e g = absurd g.0
parts_grown p made j fs (Node ts) e g =
    let same : j ≡ g.0 = cc g.2 in
    let here : g.1 ≡ fs = cc (g.3, e, same) in
    subst (λ z. GrownAll p made z ts) here g.4

-- a place has the same offset in every tree of its type
pub same_offset : (p : Program) (m n : List Kept) (path : List ℕ) (t u : Ty) (a b : Tree) → IsWay p t path u → Grown p m t a → Grown p n t b → offset path a ≡ offset path b
same_offset p m n [] t u a b w g h = refl
same_offset p m n (k ∷ path) t u a b w g h =
    let ga = parts_grown p m w.0 w.3.0 a w.3.1 (subst (λ z. Grown p m z a) w.2 g) in
    let hb = parts_grown p n w.0 w.3.0 b w.3.1 (subst (λ z. Grown p n z b) w.2 h) in
    ap (λ z. z + offset path (part k (parts a))) (same_before p m n k w.3.0 (parts a) (parts b) ga hb)
    ∙ ap (λ z. before k (parts b) + z) (same_offset p m n path w.1 u (part k (parts a)) (part k (parts b)) w.4 (part_grown p m w.3.0 (parts a) k w.1 ga w.3.2) (part_grown p n w.3.0 (parts b) k w.1 hb w.3.2))

-- a part of a tree has the type of its way
pub part_way : (p : Program) (made : List Kept) (path : List ℕ) (t u : Ty) (a : Tree) → IsWay p t path u → Grown p made t a → Grown p made u (part_at path a)
part_way p made [] t u a w g = subst (λ z. Grown p made z a) w g
part_way p made (k ∷ path) t u a w g =
    part_way p made path w.1 u (part k (parts a)) w.4 (part_grown p made w.3.0 (parts a) k w.1 (parts_grown p made w.0 w.3.0 a w.3.1 (subst (λ z. Grown p made z a) w.2 g)) w.3.2)

-- one step more
pub offset_on : (path : List ℕ) (k : ℕ) (a : Tree) → offset (path ++ (k ∷ [])) a ≡ offset path a + before k (parts (part_at path a))
offset_on [] k a = omega arith
offset_on (i ∷ path) k a =
    let inner = offset_on path k (part i (parts a)) in
    ap (λ z. before i (parts a) + z) inner ∙ (let z : before i (parts a) + (offset path (part i (parts a)) + before k (parts (part_at path (part i (parts a))))) ≡ before i (parts a) + offset path (part i (parts a)) + before k (parts (part_at path (part i (parts a)))) = omega arith in z)

-- ---- a part's cells stand at its offset

get_front : {A : Type 0} (xs ys : List A) (k : ℕ) (x : A) → slice_get xs k ≡ Some x → slice_get (xs ++ ys) k ≡ Some x
get_front [] ys k x e = absurd (cc e)
get_front (y ∷ xs) ys zero x e = e
get_front (y ∷ xs) ys (suc k) x e = get_front xs ys k x e

get_behind : {A : Type 0} (xs ys : List A) (k : ℕ) → slice_get (xs ++ ys) (length xs + k) ≡ slice_get ys k
get_behind [] ys k = ap (slice_get ys) (let z : 0 + k ≡ k = omega arith in z)
get_behind (x ∷ xs) ys k = ap (slice_get (x ∷ (xs ++ ys))) (let z : suc (length xs) + k ≡ suc (length xs + k) = omega arith in z) ∙ get_behind xs ys k

part_cells : (p : Program) (made : List Kept) (fs : List Ty) (ts : Trees) (k j : ℕ) (t : Ty) (v : Value) → GrownAll p made fs ts → slice_get fs k ≡ Some t → slice_get (flat (part k ts)) j ≡ Some v → slice_get (flats ts) (before k ts + j) ≡ Some v
part_cells p made [] ts k j t v g e h = absurd (cc e)
part_cells p made (f ∷ fs) Nil k j t v g e h = absurd g
part_cells p made (f ∷ fs) (Cons a ts) zero j t v g e h = ap (slice_get (flat a ++ flats ts)) (let z : 0 + j ≡ j = omega arith in z) ∙ get_front (flat a) (flats ts) j v h
part_cells p made (f ∷ fs) (Cons a ts) (suc k) j t v g e h =
    ap (slice_get (flat a ++ flats ts)) (let z : length (flat a) + before k ts + j ≡ length (flat a) + (before k ts + j) = omega arith in z)
    ∙ get_behind (flat a) (flats ts) (before k ts + j) ∙ part_cells p made fs ts k j t v g.1 e h

-- what a load gives is the cell at the place's offset
pub cell_at_offset : (p : Program) (made : List Kept) (path : List ℕ) (t u : Ty) (a : Tree) (j : ℕ) (v : Value) → IsWay p t path u → Grown p made t a → slice_get (flat (part_at path a)) j ≡ Some v → slice_get (flat a) (offset path a + j) ≡ Some v
cell_at_offset p made [] t u a j v w g h = ap (slice_get (flat a)) (let z : 0 + j ≡ j = omega arith in z) ∙ h
cell_at_offset p made (k ∷ path) t u (Leaf x) j v w g h = absurd (subst IsSmall w.2 g.0)
cell_at_offset p made (k ∷ path) t u (Node ts) j v w g h =
    let ga = parts_grown p made w.0 w.3.0 (Node ts) w.3.1 (subst (λ z. Grown p made z (Node ts)) w.2 g) in
    let inner = cell_at_offset p made path w.1 u (part k ts) j v w.4 (part_grown p made w.3.0 ts k w.1 ga w.3.2) h in
    ap (slice_get (flats ts)) (let z : before k ts + offset path (part k ts) + j ≡ before k ts + (offset path (part k ts) + j) = omega arith in z)
    ∙ part_cells p made w.3.0 ts k (offset path (part k ts) + j) w.1 v ga w.3.2 inner
