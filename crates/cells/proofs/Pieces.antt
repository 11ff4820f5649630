-- What is so of each size of a piece.
use Rattle.std.proofs.Common.{◌≡◌, ◌⊎◌, ℕ, ◌<◌, ◌≤◌, ◌==◌, Bool, true, false, ◌||◌, refl, sym, subst, inl, inr, lit≤, lit<}
use Rattle.std.proofs.lemmas.Bool.Decides.{Decides-eqb}
use Rattle.cells.specs.Pieces.{cells_in, is_piece}
use Rattle.cells.specs.declared.piece.Piece.{Piece}
use Rattle.cells.specs.declared.piece.Piece.TheVariants as p

-- one of two tests that hold together
one_of : (a b : Bool) → (a || b) ≡ true → (a ≡ true) ⊎ (b ≡ true)
one_of true b e = inl refl
one_of false b e = inr e

is : (P : ℕ → Type 0) (n k : ℕ) → P k → (n == k) ≡ true → P n
is P n k a e = subst P (sym ((Decides-eqb n k).0 e)) a

-- what is so of each of the five sizes
sized : (P : ℕ → Type 0) (n : ℕ) → P 16 → P 32 → P 64 → P 128 → P 256 → is_piece n ≡ true → P n
sized P n a b c d e h = elim (one_of (n == 16) ((n == 32) || ((n == 64) || ((n == 128) || (n == 256)))) h) [
  | inl x ↦ is P n 16 a x
  | inr h1 ↦ elim (one_of (n == 32) ((n == 64) || ((n == 128) || (n == 256))) h1) [
    | inl x ↦ is P n 32 b x
    | inr h2 ↦ elim (one_of (n == 64) ((n == 128) || (n == 256)) h2) [
      | inl x ↦ is P n 64 c x
      | inr h3 ↦ elim (one_of (n == 128) (n == 256) h3) [
        | inl x ↦ is P n 128 d x
        | inr x ↦ is P n 256 e x
      ]
    ]
  ]
]

-- a piece has some cells
pub piece_some : (n : ℕ) → is_piece n ≡ true → 0 < n
piece_some n h = let P : ℕ → Type 0 = λ k. 0 < k in sized P n (lit< tt) (lit< tt) (lit< tt) (lit< tt) (lit< tt) h

-- and no more than 256
pub piece_most : (n : ℕ) → is_piece n ≡ true → n ≤ 256
piece_most n h = let P : ℕ → Type 0 = λ k. k ≤ 256 in sized P n (lit≤ tt) (lit≤ tt) (lit≤ tt) (lit≤ tt) (lit≤ tt) h

-- the size of a piece is one of the five
pub is_a_piece : (x : Piece) → is_piece (cells_in x) ≡ true
is_a_piece p.Cells16 = refl
is_a_piece p.Cells32 = refl
is_a_piece p.Cells64 = refl
is_a_piece p.Cells128 = refl
is_a_piece p.Cells256 = refl
