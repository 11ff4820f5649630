-- Texts, characters and `#use`.
use Rattle.std.proofs.Common.{◌≡◌, ℕ, zero, suc, ◌+◌, ◌<◌, ◌≤◌, Bool, true, false, not, ◌&&◌, ◌==◌, List, [], ◌∷◌, ◌++◌, length, take, drop, Some, None, refl, sym, ap, subst, ◌∙◌, arith}
use Rattle.std.specs.Prelude.{slice_index, codes}
use Rattle.std.specs.Str.{bytes_eq}
use Rattle.std.proofs.lemmas.Bool.{ne_eqb}
use Rattle.std.proofs.lemmas.List.{at_drop_more, take-append-drop}
use Rattle.std.proofs.lemmas.Slice.Eq.{bytes_eq-Decides}
use Rattle.c0_source.specs.declared.kind.Kind.TheVariants as k
use Rattle.c0_source.specs.declared.kind.Mode.{Mode}
use Rattle.c0_source.specs.declared.kind.Piece.TheVariants as p
use Rattle.c0_source.specs.Bytes.{is_printable}
use Rattle.c0_source.specs.Spelling.{letter_value, use_of, piece_of, Cut, NoCut}
use Rattle.c0_lexer.specs.Ends.{name_end, text_end, use_end}
use Rattle.c0_lexer.specs.Characters.{escaped_value, plain_value}
use Rattle.c0_lexer.proofs.Ends.{EndsAt, EndsBy, is_text, is_used, text_ends, use_ends}

none_front : (mode : Mode) (b : ℕ) (bs : List ℕ) → ((i : ℕ) → piece_of mode (b ∷ take i bs) ≡ None) → NoCut mode (b ∷ bs)
none_front mode b bs h zero what c = let s = c.some in absurd (omega arith)
none_front mode b bs h (suc i) what c = let none = h i in let some = c.shape in cc

-- Texts.

text_longer : (mode : Mode) (n i : ℕ) (bs : List ℕ) → (h : EndsBy (is_text false) 1 bs n) → suc h.size < i → i ≤ suc (length bs) → piece_of mode (take i (34 ∷ bs)) ≡ None
text_longer mode n zero bs h lt le = absurd (omega arith)
text_longer mode n (suc i) bs h lt le = rw (h.longest i (omega arith) (omega arith)) refl

text_cut : (mode : Mode) (n : ℕ) (bs : List ℕ) → (h : EndsBy (is_text false) 1 bs n) → Cut mode (34 ∷ bs) (suc h.size) (p.Token k.Text)
text_cut mode n bs h = record {
  some = omega arith;
  within = omega (arith, h.within);
  shape = rw h.whole refl;
  longest = λ i lt le. text_longer mode n i bs h lt le;
  stands = refl;
}

pub text_front : (mode : Mode) (xs : List ℕ) (n : ℕ) → slice_index xs 0 ≡ 34 → text_end false 1 (drop 1 xs) ≡ Some n → Cut mode xs n (p.Token k.Text)
text_front mode [] n a is = absurd (omega (arith, a))
text_front mode (x ∷ bs) n a is =
    let h : EndsBy (is_text false) 1 bs n = subst (EndsAt (is_text false) 1 bs) is (text_ends bs false 1) in
    let size : n ≡ suc h.size = omega (arith, h.place) in
    rw (size, a) (text_cut mode n bs h)

pub no_text : (mode : Mode) (xs : List ℕ) → slice_index xs 0 ≡ 34 → text_end false 1 (drop 1 xs) ≡ None → NoCut mode xs
no_text mode [] a is = absurd (omega (arith, a))
no_text mode (x ∷ bs) a is =
    let none : (i : ℕ) → is_text false (take i bs) ≡ false = subst (EndsAt (is_text false) 1 bs) is (text_ends bs false 1) in
    rw a (none_front mode 34 bs (λ i. rw (none i) refl))

-- `#use`.

use_longer : (mode : Mode) (n i : ℕ) (bs : List ℕ) → (h : EndsBy is_used 0 bs n) → suc (suc (suc (suc h.size))) < i → i ≤ suc (suc (suc (suc (length bs)))) → piece_of mode (take i (35 ∷ 117 ∷ 115 ∷ 101 ∷ bs)) ≡ None
use_longer mode n zero bs h lt le = absurd (omega arith)
use_longer mode n (suc zero) bs h lt le = absurd (omega arith)
use_longer mode n (suc (suc zero)) bs h lt le = absurd (omega arith)
use_longer mode n (suc (suc (suc zero))) bs h lt le = absurd (omega arith)
use_longer mode n (suc (suc (suc (suc i)))) bs h lt le = rw (h.longest i (omega arith) (omega arith)) refl

use_cut : (mode : Mode) (n : ℕ) (bs : List ℕ) → (h : EndsBy is_used 0 bs n) → Cut mode (35 ∷ 117 ∷ 115 ∷ 101 ∷ bs) (suc (suc (suc (suc h.size)))) (p.Token k.Use)
use_cut mode n bs h = record {
  some = omega arith;
  within = omega (arith, h.within);
  shape = rw h.whole refl;
  longest = λ i lt le. use_longer mode n i bs h lt le;
  stands = refl;
}

no_use_by : (mode : Mode) (bs : List ℕ) → ((i : ℕ) → is_used (take i bs) ≡ false) → (i : ℕ) → piece_of mode (35 ∷ take i (117 ∷ 115 ∷ 101 ∷ bs)) ≡ None
no_use_by mode bs none zero = refl
no_use_by mode bs none (suc zero) = refl
no_use_by mode bs none (suc (suc zero)) = refl
no_use_by mode bs none (suc (suc (suc i))) = rw (none i) refl

-- the bytes of a text that begins with `#use`
begins_use : (xs : List ℕ) → bytes_eq (codes "#use") (take 4 xs) ≡ true → (bs : List ℕ) × (xs ≡ 35 ∷ 117 ∷ 115 ∷ 101 ∷ bs) × (drop 4 xs ≡ bs)
begins_use xs e =
    let same : codes "#use" ≡ take 4 xs = (bytes_eq-Decides (codes "#use") (take 4 xs)).0 e in
    let whole : xs ≡ codes "#use" ++ drop 4 xs = sym (take-append-drop 4 xs) ∙ ap (λ (t : List ℕ). t ++ drop 4 xs) (sym same) in
    (drop 4 xs, whole, refl)

pub use_front : (mode : Mode) (xs : List ℕ) (n : ℕ) → bytes_eq (codes "#use") (take 4 xs) ≡ true → use_end 0 (drop 4 xs) ≡ Some n → Cut mode xs (n + 4) (p.Token k.Use)
use_front mode xs n a is =
    let b = begins_use xs a in
    let end : use_end 0 b.0 ≡ Some n = subst (λ (bs : List ℕ). use_end 0 bs ≡ Some n) b.2 is in
    let h : EndsBy is_used 0 b.0 n = subst (EndsAt is_used 0 b.0) end (use_ends b.0 0) in
    let size : n + 4 ≡ suc (suc (suc (suc h.size))) = omega (arith, h.place) in
    subst (λ (ys : List ℕ). Cut mode ys (n + 4) (p.Token k.Use)) (sym b.1) (rw size (use_cut mode n b.0 h))

pub no_use : (mode : Mode) (xs : List ℕ) → bytes_eq (codes "#use") (take 4 xs) ≡ true → use_end 0 (drop 4 xs) ≡ None → NoCut mode xs
no_use mode xs a is =
    let b = begins_use xs a in
    let end : use_end 0 b.0 ≡ None = subst (λ (bs : List ℕ). use_end 0 bs ≡ None) b.2 is in
    let none : (i : ℕ) → is_used (take i b.0) ≡ false = subst (EndsAt is_used 0 b.0) end (use_ends b.0 0) in
    subst (λ (ys : List ℕ). NoCut mode ys) (sym b.1) (none_front mode 35 (117 ∷ 115 ∷ 101 ∷ b.0) (λ i. no_use_by mode b.0 none i))

other_use_by : (u s e : ℕ) (bs : List ℕ) (c : Bool) → bytes_eq (u ∷ s ∷ e ∷ []) (codes "use") ≡ c → bytes_eq (codes "#use") (35 ∷ u ∷ s ∷ e ∷ []) ≡ false → use_of (u ∷ s ∷ e ∷ bs) ≡ None
other_use_by u s e bs false is not_use = rw is refl
other_use_by u s e bs true is not_use =
    let same : u ∷ s ∷ e ∷ [] ≡ codes "use" = (bytes_eq-Decides (u ∷ s ∷ e ∷ []) (codes "use")).0 is in
    let all : bytes_eq (codes "#use") (35 ∷ u ∷ s ∷ e ∷ []) ≡ true = (bytes_eq-Decides (codes "#use") (35 ∷ u ∷ s ∷ e ∷ [])).1 (ap (λ (t : List ℕ). 35 ∷ t) (sym same)) in
    absurd cc

other_use : (mode : Mode) (bs : List ℕ) (i : ℕ) → bytes_eq (codes "#use") (take 4 (35 ∷ bs)) ≡ false → use_of (take i bs) ≡ None
other_use mode bs zero not_use = refl
other_use mode [] (suc i) not_use = refl
other_use mode (u ∷ bs) (suc zero) not_use = refl
other_use mode (u ∷ []) (suc (suc i)) not_use = refl
other_use mode (u ∷ s ∷ bs) (suc (suc zero)) not_use = refl
other_use mode (u ∷ s ∷ []) (suc (suc (suc i))) not_use = refl
other_use mode (u ∷ s ∷ e ∷ bs) (suc (suc (suc i))) not_use = other_use_by u s e (take i bs) (bytes_eq (u ∷ s ∷ e ∷ []) (codes "use")) refl not_use

pub not_use : (mode : Mode) (xs : List ℕ) → slice_index xs 0 ≡ 35 → bytes_eq (codes "#use") (take 4 xs) ≡ false → NoCut mode xs
not_use mode [] a is = absurd (omega (arith, a))
not_use mode (x ∷ bs) a is =
    let moved : bytes_eq (codes "#use") (take 4 (35 ∷ bs)) ≡ false = subst (λ (y : ℕ). bytes_eq (codes "#use") (take 4 (y ∷ bs)) ≡ false) a is in
    rw a (none_front mode 35 bs (λ i. rw (other_use mode bs i moved) refl))

-- Characters.

and_false : (c : Bool) → (c && false) ≡ false
and_false true = refl
and_false false = refl

and_true : (c : Bool) → (c && true) ≡ c
and_true true = refl
and_true false = refl

escaped_by : (b q : ℕ) (bs : List ℕ) (c : Bool) → (q == 39) ≡ c → letter_value (92 ∷ b ∷ q ∷ []) ≡ escaped_value (39 ∷ 92 ∷ b ∷ q ∷ bs)
escaped_by b q bs true e = rw e refl
escaped_by b q bs false e = rw e refl

-- `'\'` goes on
backslash_short : (b : ℕ) → letter_value (92 ∷ b ∷ []) ≡ None
backslash_short b = rw (and_false ((b == 39) && is_printable 92 && not (92 == 39))) refl

escaped_longer : (mode : Mode) (b q i : ℕ) (bs : List ℕ) → 4 < i → i ≤ suc (suc (suc (suc (length bs)))) → piece_of mode (take i (39 ∷ 92 ∷ b ∷ q ∷ bs)) ≡ None
escaped_longer mode b q zero bs lt le = absurd (omega arith)
escaped_longer mode b q (suc zero) bs lt le = absurd (omega arith)
escaped_longer mode b q (suc (suc zero)) bs lt le = absurd (omega arith)
escaped_longer mode b q (suc (suc (suc zero))) bs lt le = absurd (omega arith)
escaped_longer mode b q (suc (suc (suc (suc zero)))) bs lt le = absurd (omega arith)
escaped_longer mode b q (suc (suc (suc (suc (suc i))))) [] lt le = absurd (omega arith)
escaped_longer mode b q (suc (suc (suc (suc (suc i))))) (x ∷ bs) lt le = refl

escaped_cut : (mode : Mode) (b q n : ℕ) (bs : List ℕ) → escaped_value (39 ∷ 92 ∷ b ∷ q ∷ bs) ≡ Some n → Cut mode (39 ∷ 92 ∷ b ∷ q ∷ bs) 4 (p.Token (k.Character n))
escaped_cut mode b q n bs is = record {
  some = omega arith;
  within = omega arith;
  shape = rw (escaped_by b q bs (q == 39) refl ∙ is) refl;
  longest = λ i lt le. escaped_longer mode b q i bs lt le;
  stands = refl;
}

pub escaped_front : (mode : Mode) (xs : List ℕ) (n : ℕ) → slice_index xs 0 ≡ 39 → slice_index xs 1 ≡ 92 → escaped_value xs ≡ Some n → Cut mode xs 4 (p.Token (k.Character n))
escaped_front mode [] n a s is = absurd cc
escaped_front mode (x ∷ []) n a s is = absurd cc
escaped_front mode (x ∷ y ∷ []) n a s is = absurd cc
escaped_front mode (x ∷ y ∷ b ∷ []) n a s is = absurd cc
escaped_front mode (x ∷ y ∷ b ∷ q ∷ bs) n a s is = rw (a, s) (escaped_cut mode b q n bs is)

no_escaped_by : (mode : Mode) (b q i : ℕ) (bs : List ℕ) → escaped_value (39 ∷ 92 ∷ b ∷ q ∷ bs) ≡ None → letter_value (take i (92 ∷ b ∷ q ∷ bs)) ≡ None
no_escaped_by mode b q zero bs is = refl
no_escaped_by mode b q (suc zero) bs is = refl
no_escaped_by mode b q (suc (suc zero)) bs is = backslash_short b
no_escaped_by mode b q (suc (suc (suc zero))) bs is = escaped_by b q bs (q == 39) refl ∙ is
no_escaped_by mode b q (suc (suc (suc (suc i)))) [] is = escaped_by b q [] (q == 39) refl ∙ is
no_escaped_by mode b q (suc (suc (suc (suc i)))) (x ∷ bs) is = refl

no_escaped_short : (b i : ℕ) → letter_value (take i (92 ∷ b ∷ [])) ≡ None
no_escaped_short b zero = refl
no_escaped_short b (suc zero) = refl
no_escaped_short b (suc (suc zero)) = backslash_short b
no_escaped_short b (suc (suc (suc i))) = backslash_short b

no_escaped_one : (i : ℕ) → letter_value (take i (92 ∷ [])) ≡ None
no_escaped_one zero = refl
no_escaped_one (suc zero) = refl
no_escaped_one (suc (suc i)) = refl

pub no_escaped : (mode : Mode) (xs : List ℕ) → slice_index xs 0 ≡ 39 → slice_index xs 1 ≡ 92 → escaped_value xs ≡ None → NoCut mode xs
no_escaped mode [] a s is = absurd (omega (arith, a))
no_escaped mode (x ∷ []) a s is = absurd (omega (arith, s))
no_escaped mode (x ∷ y ∷ []) a s is = rw (a, s) (none_front mode 39 (92 ∷ []) (λ i. rw (no_escaped_one i) refl))
no_escaped mode (x ∷ y ∷ b ∷ []) a s is = rw (a, s) (none_front mode 39 (92 ∷ b ∷ []) (λ i. rw (no_escaped_short b i) refl))
no_escaped mode (x ∷ y ∷ b ∷ q ∷ bs) a s is = rw (a, s) (none_front mode 39 (92 ∷ b ∷ q ∷ bs) (λ i. rw (no_escaped_by mode b q i bs is) refl))

plain_by : (b q : ℕ) (bs : List ℕ) → (b == 92) ≡ false → letter_value (b ∷ q ∷ []) ≡ plain_value (39 ∷ b ∷ q ∷ bs)
plain_by b q bs e = rw (e, and_true (q == 39 && is_printable b && not (b == 39))) refl

-- a character without a `\` has one byte
plain_long : (b q x : ℕ) → (b == 92) ≡ false → letter_value (b ∷ q ∷ x ∷ []) ≡ None
plain_long b q x e = rw (e, and_false (x == 39)) refl

plain_longer : (mode : Mode) (b q i : ℕ) (bs : List ℕ) → (b == 92) ≡ false → 3 < i → i ≤ suc (suc (suc (length bs))) → piece_of mode (take i (39 ∷ b ∷ q ∷ bs)) ≡ None
plain_longer mode b q zero bs e lt le = absurd (omega arith)
plain_longer mode b q (suc zero) bs e lt le = absurd (omega arith)
plain_longer mode b q (suc (suc zero)) bs e lt le = absurd (omega arith)
plain_longer mode b q (suc (suc (suc zero))) bs e lt le = absurd (omega arith)
plain_longer mode b q (suc (suc (suc (suc i)))) [] e lt le = absurd (omega arith)
plain_longer mode b q (suc (suc (suc (suc zero)))) (x ∷ bs) e lt le = rw (plain_long b q x e) refl
plain_longer mode b q (suc (suc (suc (suc (suc i))))) (x ∷ []) e lt le = absurd (omega arith)
plain_longer mode b q (suc (suc (suc (suc (suc i))))) (x ∷ y ∷ bs) e lt le = refl

plain_cut : (mode : Mode) (b q n : ℕ) (bs : List ℕ) → (b == 92) ≡ false → plain_value (39 ∷ b ∷ q ∷ bs) ≡ Some n → Cut mode (39 ∷ b ∷ q ∷ bs) 3 (p.Token (k.Character n))
plain_cut mode b q n bs e is = record {
  some = omega arith;
  within = omega arith;
  shape = rw (plain_by b q bs e ∙ is) refl;
  longest = λ i lt le. plain_longer mode b q i bs e lt le;
  stands = refl;
}

pub plain_front : (mode : Mode) (xs : List ℕ) (n : ℕ) → slice_index xs 0 ≡ 39 → (slice_index xs 1 ≡ 92 → ⊥) → plain_value xs ≡ Some n → Cut mode xs 3 (p.Token (k.Character n))
plain_front mode [] n a s is = absurd cc
plain_front mode (x ∷ []) n a s is = absurd cc
plain_front mode (x ∷ b ∷ []) n a s is = absurd cc
plain_front mode (x ∷ b ∷ q ∷ bs) n a s is = rw a (plain_cut mode b q n bs (ne_eqb _ _ s) is)

no_plain_by : (b q i : ℕ) (bs : List ℕ) → (b == 92) ≡ false → plain_value (39 ∷ b ∷ q ∷ bs) ≡ None → letter_value (take i (b ∷ q ∷ bs)) ≡ None
no_plain_by b q zero bs e is = refl
no_plain_by b q (suc zero) bs e is = refl
no_plain_by b q (suc (suc zero)) bs e is = plain_by b q bs e ∙ is
no_plain_by b q (suc (suc (suc i))) [] e is = plain_by b q [] e ∙ is
no_plain_by b q (suc (suc (suc zero))) (x ∷ bs) e is = plain_long b q x e
no_plain_by b q (suc (suc (suc (suc i)))) (x ∷ []) e is = plain_long b q x e
no_plain_by b q (suc (suc (suc (suc i)))) (x ∷ y ∷ bs) e is = refl

no_plain_one : (b i : ℕ) → letter_value (take i (b ∷ [])) ≡ None
no_plain_one b zero = refl
no_plain_one b (suc zero) = refl
no_plain_one b (suc (suc i)) = refl

no_plain_none : (i : ℕ) → letter_value (take i []) ≡ None
no_plain_none zero = refl
no_plain_none (suc i) = refl

pub no_plain : (mode : Mode) (xs : List ℕ) → slice_index xs 0 ≡ 39 → (slice_index xs 1 ≡ 92 → ⊥) → plain_value xs ≡ None → NoCut mode xs
no_plain mode [] a s is = absurd (omega (arith, a))
no_plain mode (x ∷ []) a s is = rw a (none_front mode 39 [] (λ i. rw (no_plain_none i) refl))
no_plain mode (x ∷ b ∷ []) a s is = rw a (none_front mode 39 (b ∷ []) (λ i. rw (no_plain_one b i) refl))
no_plain mode (x ∷ b ∷ q ∷ bs) a s is = rw a (none_front mode 39 (b ∷ q ∷ bs) (λ i. rw (no_plain_by b q i bs (ne_eqb _ _ s) is) refl))

-- What `#use` names.

pub used_name : (at : ℕ) (xs : List ℕ) → at < length xs → slice_index xs at ≡ 60 → use_end at (drop at xs) ≡ name_end false (at + 1) (drop (at + 1) xs)
used_name at xs lt e = at_drop_more (use_end at) xs at 0 lt ∙ rw e refl

pub used_text : (at : ℕ) (xs : List ℕ) → at < length xs → slice_index xs at ≡ 34 → use_end at (drop at xs) ≡ text_end false (at + 1) (drop (at + 1) xs)
used_text at xs lt e = at_drop_more (use_end at) xs at 0 lt ∙ rw e refl
