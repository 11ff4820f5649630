-- The cells of a value tree, in the order of fields and indexes, and where a part's cells stand.
use Rattle.std.specs.Prelude.{ℕ, zero, suc, ◌+◌, List, [], ◌∷◌, ◌++◌, length}
use Rattle.c0_typed.specs.Values.{Value, Tree, Leaf, Node, Trees, Nil, Cons, part, parts}

abbrev mutual
  pub flat : Tree → List Value
  flat (Leaf v) = v ∷ []
  flat (Node ts) = flats ts

  pub flats : Trees → List Value
  flats Nil = []
  flats (Cons t ts) = flat t ++ flats ts

-- the cells before part k
abbrev pub before : ℕ → Trees → ℕ
before k Nil = 0
before zero (Cons t ts) = 0
before (suc k) (Cons t ts) = length (flat t) + before k ts

-- the cells in front of a part, by the way to it
abbrev pub offset : List ℕ → Tree → ℕ
offset [] a = 0
offset (k ∷ path) a = before k (parts a) + offset path (part k (parts a))
