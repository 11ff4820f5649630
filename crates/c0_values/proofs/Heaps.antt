-- The heap of the plain run as that of the meaning.
use Rattle.std.proofs.Common.{◌≡◌, ◌≢◌, refl, ap, sym, ◌∙◌, subst, List, [], ◌∷◌, ◌++◌, ℕ, zero, suc, ◌-◌, ◌+◌, take, ◌<◌, ◌≤◌, length, get_or, set, map, ℤ, pos, negsuc, Some, arith}
use Rattle.std.proofs.lemmas.List.{get_or-map, map-set, map-append, append_assoc}
use Rattle.std.proofs.Math.Seq.{take-suc}
use Rattle.c0_typed.specs.Trees.{Output, Print, Println, Printint, Printbool, Printchar, Flush}
use Rattle.c0_typed.specs.declared.tree.ValueType.{ValueType}
use Rattle.std.specs.Prelude.{slice_get}
use Rattle.c0_typed.specs.Values as v
use Rattle.c0_typed.specs.Meaning as m
use Rattle.c0_typed.specs.Views.{text_at, type_of}
use Rattle.c0_values.specs.PlainStates.{Texts, natural, value_of, tree_of, trees_of}
use Rattle.c0_values.specs.declared.value.Value.{Value}
use Rattle.c0_values.specs.declared.heap.Tree.{Tree}
use Rattle.c0_values.proofs.Parts.{void_at, set_twice}

-- a list's item behind its end
pub get_past : {A : Type 0} (xs : List A) (k : ℕ) (d : A) → length xs ≤ k → get_or xs k d ≡ d
get_past [] k d h = refl
get_past (x ∷ xs) zero d h = absurd (let q : ⊥ = omega arith in q)
get_past (x ∷ xs) (suc k) d h = get_past xs k d (omega arith)

pub is_natural : (z : ℤ) (n : ℕ) → Some n ≡ natural z → z ≡ pos n
is_natural (pos m') n e = let q : m' ≡ n = cc e in ap pos q
is_natural (negsuc m') n e = absurd (cc e)

-- how many parts there are in a list of them
pub count_is : (texts : Texts) (xs : List Tree) → length xs ≡ v.count (trees_of texts xs)
count_is texts [] = refl
count_is texts (x ∷ xs) = ap suc (count_is texts xs)

module _ (texts : Texts) (h : List Tree) where
  past : (xs : List Tree) (r : ℕ) → length xs ≤ r → get_or (map (tree_of texts) xs) r (v.Leaf v.Void) ≡ v.Leaf v.Void
  past [] r k = refl
  past (x ∷ xs) zero k = absurd (let q : ⊥ = omega arith in q)
  past (x ∷ xs) (suc r) k = past xs r (omega arith)

  -- an allocation's length
  pub length_is : (r : ℕ) (x : Tree) → r ≢ 0 → r - 1 < length h → x ≡ get_or h (r - 1) x → v.count (v.parts (tree_of texts x)) ≡ v.array_length (map (tree_of texts) h) r
  length_is zero x p k e = absurd (p refl)
  length_is (suc r) x p k e =
      let i : suc r - 1 ≡ r = omega arith in
      let here : r < length h = subst (λ j. j < length h) i k in
      let is : x ≡ get_or h r x = subst (λ j. x ≡ get_or h j x) i e in
      ap (λ t. v.count (v.parts t)) (ap (tree_of texts) is ∙ sym (get_or-map (tree_of texts) h r x (v.Leaf v.Void) here))

  pub length_past : (r : ℕ) → r ≢ 0 → length h ≤ r - 1 → 0 ≡ v.array_length (map (tree_of texts) h) r
  length_past zero p k = absurd (p refl)
  length_past (suc r) p k = ap (λ t. v.count (v.parts t)) (sym (past h r (omega arith)))

  pub load_past : (i : ℕ) (path : List ℕ) → length h ≤ i → v.Void ≡ v.load (map (tree_of texts) h) (record { allocation = suc i; path = path })
  load_past i path k = sym (ap (λ t. v.leaf (v.part_at path t)) (past h i k) ∙ void_at path)

  pub store_is : (i : ℕ) (path : List ℕ) (x a b : Tree) (w : Value) → i < length h → x ≡ get_or h i x → tree_of texts b ≡ v.with_part_at path (v.Leaf (value_of texts w)) (tree_of texts x)
      → map (tree_of texts) (set (set h i a) i b) ≡ v.store (map (tree_of texts) h) (record { allocation = suc i; path = path }) (value_of texts w)
  store_is i path x a b w k e made =
      let new : v.Tree = v.Leaf (value_of texts w) in
      let held = map (tree_of texts) h in
      let there : suc i - 1 ≡ i = omega arith in
      ap (map (tree_of texts)) (set_twice h i a b) ∙ map-set (tree_of texts) h i b
      ∙ ap (λ t. set held i t) (made ∙ ap (v.with_part_at path new) (ap (tree_of texts) e ∙ sym (get_or-map (tree_of texts) h i x (v.Leaf v.Void) k)))
      ∙ ap (λ j. set held j (v.with_part_at path new (get_or held i (v.Leaf v.Void)))) (sym there)

-- an array that has an element isn't the empty default one
pub not_empty : (heap : List v.Tree) (r n k : ℕ) → n ≡ v.array_length heap r → k < n → 1 ≤ r
not_empty heap zero n k e h = absurd (let q : ⊥ = omega (arith, e, h) in q)
not_empty heap (suc r) n k e h = omega arith

-- the text with a number
pub text_is : {S : Type 0} (f : S → List ℕ) (xs : List S) (n : ℕ) (x : S) → n ≢ 0 → n - 1 < length xs → x ≡ get_or xs (n - 1) x → f x ≡ text_at (map f xs) n
text_is f xs zero x p k e = absurd (p refl)
text_is f xs (suc n) x p k e =
    let i : suc n - 1 ≡ n = omega arith in
    let here : n < length xs = subst (λ j. j < length xs) i k in
    let is : x ≡ get_or xs n x = subst (λ j. x ≡ get_or xs j x) i e in
    ap f is ∙ sym (get_or-map f xs n x [] here)

-- what a call of the library prints is told by its first argument
printed_first : (out : Output) (a : v.Value) (rest : List v.Value) → m.printed out (a ∷ rest) ≡ m.printed out (a ∷ [])
printed_first Print a rest = refl
printed_first Println a rest = refl
printed_first Printint a rest = refl
printed_first Printbool a rest = refl
printed_first Printchar a rest = refl
printed_first Flush a rest = refl

pub printed_is : (texts : Texts) (out : Output) (vs : List Value) (x : Value) → Some x ≡ slice_get vs 0 → m.printed out (map (value_of texts) vs) ≡ m.printed out (value_of texts x ∷ [])
printed_is texts out [] x e = absurd (cc e)
printed_is texts out (y ∷ ys) x e =
    let same : y ≡ x = cc e in
    printed_first out (value_of texts y) (map (value_of texts) ys) ∙ ap (λ z. m.printed out (value_of texts z ∷ [])) same

-- the next local of a call that begins
pub next_local : (texts : Texts) (held after : List Value) (w : Value) (b : v.Value) (args : List v.Value) (tys : List ValueType) (i : ℕ) (ty : ValueType)
    → i < length tys → ty ≡ get_or tys i ty → after ≡ held ++ (w ∷ []) → value_of texts w ≡ m.blank (type_of ty) → map (value_of texts) held ≡ b ∷ args ++ map m.blank (map type_of (take i tys))
    → map (value_of texts) after ≡ b ∷ args ++ map m.blank (map type_of (take (i + 1) tys))
next_local texts held after w b args tys i ty h is e made before =
    let k : suc i ≡ i + 1 = omega arith in
    let blanks : List ValueType → List v.Value = λ ts. map m.blank (map type_of ts) in
    let taken : take i tys ++ (ty ∷ []) ≡ take (i + 1) tys = ap (λ x. take i tys ++ (x ∷ [])) is ∙ sym (take-suc tys i ty h) ∙ ap (λ j. take j tys) k in
    ap (map (value_of texts)) e ∙ map-append (value_of texts) held (w ∷ []) ∙ ap (λ xs. xs ++ (value_of texts w ∷ [])) before ∙ ap (λ x. (b ∷ args ++ blanks (take i tys)) ++ (x ∷ [])) made
    ∙ append_assoc (b ∷ args) (blanks (take i tys)) (m.blank (type_of ty) ∷ [])
    ∙ ap (λ xs. (b ∷ args) ++ xs) (sym (ap (map m.blank) (map-append type_of (take i tys) (ty ∷ [])) ∙ map-append m.blank (map type_of (take i tys)) (type_of ty ∷ [])))
    ∙ ap (λ ts. (b ∷ args) ++ blanks ts) taken
