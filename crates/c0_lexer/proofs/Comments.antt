-- Comments, the openings of annotations, `/` and `/=`.
use Rattle.std.proofs.Common.{◌≡◌, ℕ, zero, suc, ◌+◌, ◌<◌, ◌≤◌, true, false, not, ◌==◌, List, [], ◌∷◌, length, take, drop, Option, Some, None, refl, sym, subst, arith}
use Rattle.std.specs.Prelude.{slice_index}
use Rattle.std.specs.List.{prefix_len}
use Rattle.std.proofs.lemmas.Bool.{ne_eqb, eqb-true}
use Rattle.std.proofs.lemmas.List.{length-take-le}
use Rattle.c0_source.specs.declared.kind.Kind.TheVariants as k
use Rattle.c0_source.specs.declared.kind.Operator.TheVariants as o
use Rattle.c0_source.specs.declared.kind.Mode.{Mode}
use Rattle.c0_source.specs.declared.kind.Mode.TheVariants as m
use Rattle.c0_source.specs.declared.kind.Piece.{Piece}
use Rattle.c0_source.specs.declared.kind.Piece.TheVariants as p
use Rattle.c0_source.specs.Bytes.{not_newline}
use Rattle.c0_source.specs.Spelling.{closes, begins_annotation, begins_star, piece_of, apart, Cut, NoCut}
use Rattle.c0_lexer.specs.Ends.{comment_end}
use Rattle.c0_lexer.proofs.Ends.{EndsAt, EndsBy, comment_ends}
use Rattle.c0_lexer.proofs.Words.{all_prefix, all_longer, prefix_within}

-- a beginning of what opens no annotation opens none
opens_none_by : (b i : ℕ) (bs : List ℕ) → (b == 64) ≡ false → begins_annotation m.Plain (take i (b ∷ bs)) ≡ false
opens_none_by b zero bs e = refl
opens_none_by b (suc i) bs e = e

opens_none : (mode : Mode) (bs : List ℕ) (i : ℕ) → begins_annotation mode bs ≡ false → begins_annotation mode (take i bs) ≡ false
opens_none m.Line bs i e = refl
opens_none m.Block bs i e = refl
opens_none m.Plain [] zero e = refl
opens_none m.Plain [] (suc i) e = refl
opens_none m.Plain (b ∷ bs) i e = opens_none_by b i bs e

-- Comments to the end of the line.

line_longer : (mode : Mode) (i : ℕ) (bs : List ℕ) → begins_annotation mode bs ≡ false → suc (suc (prefix_len not_newline bs)) < i → i ≤ suc (suc (length bs)) → piece_of mode (take i (47 ∷ 47 ∷ bs)) ≡ None
line_longer mode zero bs e lt le = absurd (omega arith)
line_longer mode (suc zero) bs e lt le = absurd (omega arith)
line_longer mode (suc (suc i)) bs e lt le = rw (opens_none mode bs i e, all_longer not_newline bs i (omega arith) (omega arith)) refl

line_cut : (mode : Mode) (bs : List ℕ) → begins_annotation mode bs ≡ false → Cut mode (47 ∷ 47 ∷ bs) (suc (suc (prefix_len not_newline bs))) p.Gap
line_cut mode bs e = record {
  some = omega arith;
  within = omega (arith, prefix_within not_newline bs);
  shape = rw (opens_none mode bs (prefix_len not_newline bs) e, all_prefix not_newline bs) refl;
  longest = λ i lt le. line_longer mode i bs e lt le;
  stands = refl;
}

pub line_front : (mode : Mode) (xs : List ℕ) (n : ℕ) → slice_index xs 0 ≡ 47 → slice_index xs 1 ≡ 47 → begins_annotation mode (drop 2 xs) ≡ false → n ≡ prefix_len not_newline (drop 2 xs) → Cut mode xs (n + 2) p.Gap
line_front mode [] n a b e len = absurd (omega (arith, a))
line_front mode (x ∷ []) n a b e len = absurd (omega (arith, b))
line_front mode (x ∷ y ∷ bs) n a b e len =
    let size : n + 2 ≡ suc (suc (prefix_len not_newline bs)) = omega (arith, len) in
    rw (size, a, b) (line_cut mode bs e)

-- Openings of annotations.

open_longer : (b i : ℕ) (bs : List ℕ) → 1 < i → i ≤ suc (length bs) → (length (take i (b ∷ bs)) == 1) ≡ false
open_longer b i bs lt le = ne_eqb _ _ (omega (arith, length-take-le i (b ∷ bs) le))

open_line_longer : (i : ℕ) (bs : List ℕ) → 3 < i → i ≤ suc (suc (suc (length bs))) → piece_of m.Plain (take i (47 ∷ 47 ∷ 64 ∷ bs)) ≡ None
open_line_longer zero bs lt le = absurd (omega arith)
open_line_longer (suc zero) bs lt le = absurd (omega arith)
open_line_longer (suc (suc zero)) bs lt le = absurd (omega arith)
open_line_longer (suc (suc (suc i))) bs lt le = let none = open_longer 64 (suc i) bs (omega arith) (omega arith) in rw none refl

open_block_longer : (i : ℕ) (bs : List ℕ) → 3 < i → i ≤ suc (suc (suc (length bs))) → piece_of m.Plain (take i (47 ∷ 42 ∷ 64 ∷ bs)) ≡ None
open_block_longer zero bs lt le = absurd (omega arith)
open_block_longer (suc zero) bs lt le = absurd (omega arith)
open_block_longer (suc (suc zero)) bs lt le = absurd (omega arith)
open_block_longer (suc (suc (suc i))) bs lt le = let none = open_longer 64 (suc i) bs (omega arith) (omega arith) in rw none refl

open_line_cut : (bs : List ℕ) → Cut m.Plain (47 ∷ 47 ∷ 64 ∷ bs) 3 (p.Opens m.Line)
open_line_cut bs = record {
  some = omega arith;
  within = omega arith;
  shape = refl;
  longest = λ i lt le. open_line_longer i bs lt le;
  stands = refl;
}

open_block_cut : (bs : List ℕ) → Cut m.Plain (47 ∷ 42 ∷ 64 ∷ bs) 3 (p.Opens m.Block)
open_block_cut bs = record {
  some = omega arith;
  within = omega arith;
  shape = refl;
  longest = λ i lt le. open_block_longer i bs lt le;
  stands = refl;
}

-- what opens an annotation stands outside of annotations, and is a `@`
record OpensOne (mode : Mode) (bs : List ℕ) : Type 0 where
  plain : mode ≡ m.Plain
  others : List ℕ
  at : bs ≡ 64 ∷ others

opens_by : (b : ℕ) (bs : List ℕ) → b ≡ 64 → OpensOne m.Plain (b ∷ bs)
opens_by b bs e = record { plain = refl; others = bs; at = rw e refl }

opens_one : (mode : Mode) (bs : List ℕ) → begins_annotation mode bs ≡ true → OpensOne mode bs
opens_one m.Line bs e = absurd cc
opens_one m.Block bs e = absurd cc
opens_one m.Plain [] e = absurd cc
opens_one m.Plain (b ∷ bs) e = opens_by b bs (eqb-true b 64 e)

pub open_line_front : (mode : Mode) (xs : List ℕ) → slice_index xs 0 ≡ 47 → slice_index xs 1 ≡ 47 → begins_annotation mode (drop 2 xs) ≡ true → Cut mode xs 3 (p.Opens m.Line)
open_line_front mode [] a b e = absurd (omega (arith, a))
open_line_front mode (x ∷ []) a b e = absurd (omega (arith, b))
open_line_front mode (x ∷ y ∷ bs) a b e = let h = opens_one mode bs e in rw (h.plain, h.at, a, b) (open_line_cut h.others)

pub open_block_front : (mode : Mode) (xs : List ℕ) → slice_index xs 0 ≡ 47 → slice_index xs 1 ≡ 42 → begins_annotation mode (drop 2 xs) ≡ true → Cut mode xs 3 (p.Opens m.Block)
open_block_front mode [] a b e = absurd (omega (arith, a))
open_block_front mode (x ∷ []) a b e = absurd (omega (arith, b))
open_block_front mode (x ∷ y ∷ bs) a b e = let h = opens_one mode bs e in rw (h.plain, h.at, a, b) (open_block_cut h.others)

-- Nested comments.

block_longer : (mode : Mode) (n i : ℕ) (bs : List ℕ) → begins_annotation mode bs ≡ false → (h : EndsBy (closes 0 0) 0 bs n) → suc (suc h.size) < i → i ≤ suc (suc (length bs)) → piece_of mode (take i (47 ∷ 42 ∷ bs)) ≡ None
block_longer mode n zero bs e h lt le = absurd (omega arith)
block_longer mode n (suc zero) bs e h lt le = absurd (omega arith)
block_longer mode n (suc (suc i)) bs e h lt le = rw (opens_none mode bs i e, h.longest i (omega arith) (omega arith)) refl

block_cut : (mode : Mode) (n : ℕ) (bs : List ℕ) → begins_annotation mode bs ≡ false → (h : EndsBy (closes 0 0) 0 bs n) → Cut mode (47 ∷ 42 ∷ bs) (suc (suc h.size)) p.Gap
block_cut mode n bs e h = record {
  some = omega arith;
  within = omega (arith, h.within);
  shape = rw (opens_none mode bs h.size e, h.whole) refl;
  longest = λ i lt le. block_longer mode n i bs e h lt le;
  stands = refl;
}

pub block_front : (mode : Mode) (xs : List ℕ) (n : ℕ) → slice_index xs 0 ≡ 47 → slice_index xs 1 ≡ 42 → begins_annotation mode (drop 2 xs) ≡ false → comment_end 0 0 0 (drop 2 xs) ≡ Some n → Cut mode xs (n + 2) p.Gap
block_front mode [] n a b e is = absurd (omega (arith, a))
block_front mode (x ∷ []) n a b e is = absurd (omega (arith, b))
block_front mode (x ∷ y ∷ bs) n a b e is =
    let h : EndsBy (closes 0 0) 0 bs n = subst (EndsAt (closes 0 0) 0 bs) is (comment_ends bs 0 0 0) in
    let size : n + 2 ≡ suc (suc h.size) = omega (arith, h.place) in
    rw (size, a, b) (block_cut mode n bs e h)

some_is : (x y : Piece) (o : Option Piece) → o ≡ Some x → o ≡ Some y → x ≡ y
some_is x y o e f = cc

open_comment : (mode : Mode) (bs : List ℕ) → begins_annotation mode bs ≡ false → ((i : ℕ) → closes 0 0 (take i bs) ≡ false) → NoCut mode (47 ∷ 42 ∷ bs)
open_comment mode bs e none zero what c = let s = c.some in absurd (omega arith)
open_comment mode bs e none (suc zero) what c =
    let is : p.Token (k.Infix o.Divide) ≡ what = some_is (p.Token (k.Infix o.Divide)) what (Some (p.Token (k.Infix o.Divide))) refl c.shape in
    let stands : apart (p.Token (k.Infix o.Divide)) (42 ∷ bs) ≡ true = subst (λ (w : Piece). apart w (42 ∷ bs) ≡ true) (sym is) c.stands in
    cc
open_comment mode bs e none (suc (suc i)) what c =
    let nothing : piece_of mode (take (suc (suc i)) (47 ∷ 42 ∷ bs)) ≡ None = rw (opens_none mode bs i e, none i) refl in
    let some = c.shape in
    cc

pub open_front : (mode : Mode) (xs : List ℕ) → slice_index xs 0 ≡ 47 → slice_index xs 1 ≡ 42 → begins_annotation mode (drop 2 xs) ≡ false → comment_end 0 0 0 (drop 2 xs) ≡ None → NoCut mode xs
open_front mode [] a b e is = absurd (omega (arith, a))
open_front mode (x ∷ []) a b e is = absurd (omega (arith, b))
open_front mode (x ∷ y ∷ bs) a b e is =
    let none : (i : ℕ) → closes 0 0 (take i bs) ≡ false = subst (EndsAt (closes 0 0) 0 bs) is (comment_ends bs 0 0 0) in
    rw (a, b) (open_comment mode bs e none)

-- Signs.

update_longer : (mode : Mode) (i : ℕ) (bs : List ℕ) → 2 < i → i ≤ suc (suc (length bs)) → piece_of mode (take i (47 ∷ 61 ∷ bs)) ≡ None
update_longer mode zero bs lt le = absurd (omega arith)
update_longer mode (suc zero) bs lt le = absurd (omega arith)
update_longer mode (suc (suc i)) bs lt le =
    let some : (length (take i bs) == 0) ≡ false = ne_eqb _ _ (omega (arith, length-take-le i bs (omega arith))) in
    rw some refl

pub update_front : (mode : Mode) (xs : List ℕ) → slice_index xs 0 ≡ 47 → slice_index xs 1 ≡ 61 → Cut mode xs 2 (p.Token (k.Update o.Divide))
update_front mode [] a b = absurd (omega (arith, a))
update_front mode (x ∷ []) a b = absurd (omega (arith, b))
update_front mode (x ∷ y ∷ bs) a b = rw (a, b) (record {
  some = omega arith;
  within = omega arith;
  shape = refl;
  longest = λ i lt le. update_longer mode i bs lt le;
  stands = refl;
})

divide_longer : (mode : Mode) (i : ℕ) (bs : List ℕ) → (slice_index bs 0 == 47) ≡ false → (slice_index bs 0 == 42) ≡ false → (slice_index bs 0 == 61) ≡ false → 1 < i → i ≤ suc (length bs) → piece_of mode (take i (47 ∷ bs)) ≡ None
divide_longer mode zero bs a b c lt le = absurd (omega arith)
divide_longer mode (suc zero) bs a b c lt le = absurd (omega arith)
divide_longer mode (suc (suc i)) [] a b c lt le = absurd (omega arith)
divide_longer mode (suc (suc i)) (x ∷ bs) a b c lt le = rw (a, b, c) refl

not_star : (bs : List ℕ) → (slice_index bs 0 == 42) ≡ false → not (begins_star bs) ≡ true
not_star [] e = refl
not_star (b ∷ bs) e = rw e refl

pub divide_front : (mode : Mode) (xs : List ℕ) → slice_index xs 0 ≡ 47 → (slice_index xs 1 ≡ 47 → ⊥) → (slice_index xs 1 ≡ 42 → ⊥) → (slice_index xs 1 ≡ 61 → ⊥) → Cut mode xs 1 (p.Token (k.Infix o.Divide))
divide_front mode [] a b c d = absurd (omega (arith, a))
divide_front mode (x ∷ bs) a b c d = rw a (record {
  some = omega arith;
  within = omega arith;
  shape = refl;
  longest = λ i lt le. divide_longer mode i bs (ne_eqb _ _ b) (ne_eqb _ _ c) (ne_eqb _ _ d) lt le;
  stands = not_star bs (ne_eqb _ _ c);
})
