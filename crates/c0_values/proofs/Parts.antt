-- The parts of a tree as a list.
use Rattle.std.proofs.Common.{◌≡◌, refl, ap, sym, ◌∙◌, List, [], ◌∷◌, ◌++◌, rules, ℕ, zero, suc, ◌+◌, ◌<◌, ◌≤◌, length, get_or, set, map, take, length-append, replicate, arith}
use Rattle.std.specs.declared.vec.Vec.{Vec}
use Rattle.std.specs.declared.alloc.Global.{Global}
use Rattle.c0_typed.specs.Values as v
use Rattle.c0_typed.specs.Trees.{Ty}
use Rattle.c0_typed.specs.Meaning.{default, fields, struct_defaults}
use Rattle.c0_typed.specs.Views.{struct_of}
use Rattle.c0_typed.specs.declared.tree.Struct.{Struct}
use Rattle.std.proofs.Math.Seq.{get_or-append_seam}
use Rattle.std.proofs.lemmas.List.{get_or_append_left, get_or_past, get_or-map, length-map, take-map}
use Rattle.c0_values.specs.PlainStates.{Texts, tree_of, row_of, trees_of, parts_in_order}
use Rattle.c0_values.specs.declared.value.Value.{Value}
use Rattle.c0_values.specs.declared.heap.Tree.{Tree, Leaf, Row_of-Tree, end_of-Tree, more_of-Tree, items-the_row-Tree, the_lemmas}
use Rattle.c0_values.specs.declared.heap.Tree.TheViews.{Node}

pub void_at : (path : List ℕ) → v.leaf (v.part_at path (v.Leaf v.Void)) ≡ v.Void
void_at [] = refl
void_at (k ∷ path) = void_at path

module _ (texts : Texts) where
  pub trees_row : {n : _} (k : Row_of-Tree n) → row_of texts k ≡ trees_of texts (items-the_row-Tree n k)
  trees_row end_of-Tree = refl
  trees_row (more_of-Tree t rest) = ap (v.Cons (tree_of texts t)) (trees_row rest)

  pub tree_node : (all : Vec Tree Global) → tree_of texts (Node all) ≡ v.Node (trees_of texts all.items)
  tree_node all = search (rules, the_lemmas, trees_row)

  pub part_is : (xs : List Tree) (k : ℕ) (t : Tree) → k < length xs → t ≡ get_or xs k t → v.part k (trees_of texts xs) ≡ tree_of texts t
  part_is [] k t h e = absurd (let q : ⊥ = omega arith in q)
  part_is (x ∷ xs) zero t h e = ap (tree_of texts) (sym e)
  part_is (x ∷ xs) (suc k) t h e = part_is xs k t (omega arith) e

  pub part_past : (xs : List Tree) (k : ℕ) → length xs ≤ k → v.part k (trees_of texts xs) ≡ v.Leaf v.Void
  part_past [] k h = refl
  part_past (x ∷ xs) zero h = absurd (let q : ⊥ = omega arith in q)
  part_past (x ∷ xs) (suc k) h = part_past xs k (omega arith)

  pub with_part_is : (xs : List Tree) (k : ℕ) (t : Tree) → v.with_part k (tree_of texts t) (trees_of texts xs) ≡ trees_of texts (set xs k t)
  with_part_is [] k t = refl
  with_part_is (x ∷ xs) zero t = refl
  with_part_is (x ∷ xs) (suc k) t = ap (v.Cons (tree_of texts x)) (with_part_is xs k t)

  pub with_part_past : (xs : List Tree) (k : ℕ) (t : v.Tree) → length xs ≤ k → v.with_part k t (trees_of texts xs) ≡ trees_of texts xs
  with_part_past [] k t h = refl
  with_part_past (x ∷ xs) zero t h = absurd (let q : ⊥ = omega arith in q)
  with_part_past (x ∷ xs) (suc k) t h = ap (v.Cons (tree_of texts x)) (with_part_past xs k t (omega arith))

  pub load_leaf : (p rest : List ℕ) (k : ℕ) (t : Tree) (a : Value) → p ≡ k ∷ rest → t ≡ Leaf a → v.leaf (v.part_at p (tree_of texts t)) ≡ v.Void
  load_leaf p rest k t a way is = ap (λ q. v.leaf (v.part_at q (tree_of texts t))) way ∙ ap (λ x. v.leaf (v.part_at (k ∷ rest) (tree_of texts x))) is ∙ void_at rest

  pub load_node : (p rest : List ℕ) (k : ℕ) (t : Tree) (all : Vec Tree Global) → p ≡ k ∷ rest → t ≡ Node all → v.leaf (v.part_at p (tree_of texts t)) ≡ v.leaf (v.part_at rest (v.part k (trees_of texts all.items)))
  load_node p rest k t all way is = ap (λ q. v.leaf (v.part_at q (tree_of texts t))) way ∙ ap (λ x. v.leaf (v.part_at (k ∷ rest) x)) (ap (tree_of texts) is ∙ tree_node all)

  at_node : (p rest : List ℕ) (k : ℕ) (t : Tree) (all : Vec Tree Global) (new : v.Tree) → p ≡ k ∷ rest → t ≡ Node all → v.with_part_at p new (tree_of texts t) ≡ v.Node (v.with_part k (v.with_part_at rest new (v.part k (trees_of texts all.items))) (trees_of texts all.items))
  at_node p rest k t all new way is = ap (λ q. v.with_part_at q new (tree_of texts t)) way ∙ ap (λ x. v.with_part_at (k ∷ rest) new x) (ap (tree_of texts) is ∙ tree_node all)

  pub store_node : (p rest : List ℕ) (k : ℕ) (t inner y : Tree) (all after : Vec Tree Global) (new : v.Tree) → p ≡ k ∷ rest → t ≡ Node all → k < length all.items → inner ≡ get_or all.items k inner → tree_of texts y ≡ v.with_part_at rest new (tree_of texts inner) → after.items ≡ set all.items k y → tree_of texts (Node after) ≡ v.with_part_at p new (tree_of texts t)
  store_node p rest k t inner y all after new way is h i e s =
      tree_node after ∙ ap (λ xs. v.Node (trees_of texts xs)) s ∙ ap v.Node (sym (with_part_is all.items k y))
      ∙ ap (λ z. v.Node (v.with_part k z (trees_of texts all.items))) (e ∙ ap (λ z. v.with_part_at rest new z) (sym (part_is all.items k inner h i)))
      ∙ sym (at_node p rest k t all new way is)

  pub store_past : (p rest : List ℕ) (k : ℕ) (t : Tree) (all : Vec Tree Global) (new : v.Tree) → p ≡ k ∷ rest → t ≡ Node all → length all.items ≤ k → tree_of texts (Node all) ≡ v.with_part_at p new (tree_of texts t)
  store_past p rest k t all new way is h =
      tree_node all ∙ ap v.Node (sym (with_part_past all.items k _ h)) ∙ sym (at_node p rest k t all new way is)

pub set_twice : (xs : List Tree) (k : ℕ) (a b : Tree) → set (set xs k a) k b ≡ set xs k b
set_twice [] k a b = refl
set_twice (x ∷ xs) zero a b = refl
set_twice (x ∷ xs) (suc k) a b = ap (λ ys. x ∷ ys) (set_twice xs k a b)

pub copies_are : (n : ℕ) (t : v.Tree) → v.copies n t ≡ parts_in_order (replicate n t)
copies_are zero t = refl
copies_are (suc n) t = ap (v.Cons t) (copies_are n t)

pub fields_are : (structs : List v.Tree) (ts : List Ty) → fields structs ts ≡ parts_in_order (map (default structs) ts)
fields_are structs [] = refl
fields_are structs (t ∷ ts) = ap (v.Cons (default structs t)) (fields_are structs ts)

-- what a struct holds that is defined before
held_before : (held : List v.Tree) (ss : List (List Ty)) (k : ℕ) (d : v.Tree) → k < length held → get_or (struct_defaults held ss) k d ≡ get_or held k d
held_before held [] k d h = refl
held_before held (ts ∷ rest) k d h =
    let next : List v.Tree = v.Node (fields held ts) ∷ [] in
    held_before (held ++ next) rest k d (omega (arith, h, length-append held next)) ∙ get_or_append_left held next d k h

-- what the next structs hold: a struct holds its fields over those before it
next_holds : (held : List v.Tree) (ss : List (List Ty)) (k i : ℕ) (d : v.Tree) (ts : List Ty) → k < length ss → i ≡ length held + k → ts ≡ get_or ss k ts
    → get_or (struct_defaults held ss) i d ≡ v.Node (fields (struct_defaults held (take k ss)) ts)
next_holds held [] k i d ts h at is = absurd (let q : ⊥ = omega (arith, h) in q)
next_holds held (x ∷ rest) zero i d ts h at is =
    let next : List v.Tree = v.Node (fields held x) ∷ [] in
    let here : i < length (held ++ next) = omega (arith, at, length-append held next) in
    let last : i ≡ length held = omega (arith, at) in
    held_before (held ++ next) rest i d here ∙ ap (λ j. get_or (held ++ next) j d) last ∙ get_or-append_seam held (v.Node (fields held x)) [] d ∙ ap (λ y. v.Node (fields held y)) (sym is)
next_holds held (x ∷ rest) (suc k) i d ts h at is =
    let next : List v.Tree = v.Node (fields held x) ∷ [] in
    next_holds (held ++ next) rest k i d ts (omega (arith, h)) (omega (arith, at, length-append held next)) is

-- there is one for each struct
defaults_length : (held : List v.Tree) (ss : List (List Ty)) → length (struct_defaults held ss) ≡ length held + length ss
defaults_length held [] = omega arith
defaults_length held (ts ∷ rest) =
    let next : List v.Tree = v.Node (fields held ts) ∷ [] in
    omega (arith, defaults_length (held ++ next) rest, length-append held next)

-- a struct of the program holds its fields, over the structs before it
pub struct_holds : (structs : List Struct) (k : ℕ) (x : Struct) → k < length structs → x ≡ get_or structs k x
    → get_or (struct_defaults [] (map struct_of structs)) k (v.Leaf v.Void) ≡ v.Node (fields (struct_defaults [] (map struct_of (take k structs))) (struct_of x))
struct_holds structs k x h is =
    let there : struct_of x ≡ get_or (map struct_of structs) k (struct_of x) = ap struct_of is ∙ sym (get_or-map struct_of structs k x (struct_of x) h) in
    next_holds [] (map struct_of structs) k k (v.Leaf v.Void) (struct_of x) (omega (arith, h, length-map structs struct_of)) (omega arith) there
    ∙ ap (λ ss. v.Node (fields (struct_defaults [] ss) (struct_of x))) (take-map struct_of k structs)

-- no other holds anything
pub struct_past : (structs : List Struct) (k : ℕ) → length structs ≤ k → get_or (struct_defaults [] (map struct_of structs)) k (v.Leaf v.Void) ≡ v.Leaf v.Void
struct_past structs k h = get_or_past (struct_defaults [] (map struct_of structs)) k (v.Leaf v.Void) (omega (arith, h, defaults_length [] (map struct_of structs), length-map structs struct_of))
