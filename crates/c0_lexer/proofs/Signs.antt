-- Signs, `\result`, `\length`, and the end of an annotation.
use Rattle.std.proofs.Common.{◌≡◌, ℕ, zero, suc, ◌<◌, ◌≤◌, Bool, true, false, cond, ◌==◌, List, [], ◌∷◌, length, take, Option, Some, None, refl, sym, ap, ◌∙◌, subst, arith}
use Rattle.std.specs.Prelude.{slice_index, codes}
use Rattle.std.specs.Str.{bytes_eq}
use Rattle.std.proofs.lemmas.Bool.{eq-eqb, ne_eqb}
use Rattle.std.proofs.lemmas.Slice.Eq.{bytes_eq-Decides}
use Rattle.c0_source.specs.declared.kind.Kind.{Kind}
use Rattle.c0_source.specs.declared.kind.Kind.TheVariants as k
use Rattle.c0_source.specs.declared.kind.Mode.{Mode}
use Rattle.c0_source.specs.declared.kind.Mode.TheVariants as m
use Rattle.c0_source.specs.declared.kind.Piece.{Piece}
use Rattle.c0_source.specs.declared.kind.Piece.TheVariants as p
use Rattle.c0_source.specs.Spelling.{Table, lookup, token_of, when, signs, sign_of, at_of, backslash_of, newline_of, piece_of, apart, Cut, NoCut}
use Rattle.c0_source.specs.Bytes.{is_blank}
use Rattle.c0_lexer.specs.declared.longest.LongestPiece.{LongestPiece}
use Rattle.c0_lexer.specs.Tables.{first_entry, found}
use Rattle.c0_lexer.specs.Pieces.{Gives, IsSignByte}
use Rattle.c0_lexer.proofs.Tables.{all_plain, falls, none_gives, table_gives}

-- Signs.

sign_piece : (mode : Mode) (b : ℕ) (bs : List ℕ) (i : ℕ) → IsSignByte b → 0 < i → piece_of mode (take i (b ∷ bs)) ≡ token_of (lookup signs (take i (b ∷ bs)))
unfolding sign_of
sign_piece mode b bs zero s lt = absurd (omega arith)
sign_piece mode b bs (suc i) s lt = rw (s.blank, s.letter, s.digit, ne_eqb _ _ s.slash, ne_eqb _ _ s.text, ne_eqb _ _ s.character, ne_eqb _ _ s.backslash, ne_eqb _ _ s.library, ne_eqb _ _ s.annotation_end) refl

-- those of a table whose texts begin with byte b
abbrev pub begun : ℕ → Table → Table
begun b [] = []
begun b (s ∷ ss) = cond (slice_index s.0 0 == b) (s ∷ begun b ss) (begun b ss)

-- a table has the signs that begin with byte b, and is in order
pub record IsGroup (b : ℕ) (ss : Table) : Type 0 where
  pub order : falls ss ≡ true
  pub plain : all_plain ss ≡ true
  pub empty : lookup ss [] ≡ None
  pub same : (t : List ℕ) → lookup signs (b ∷ t) ≡ lookup ss (b ∷ t)

same_front : (b : ℕ) (bs : List ℕ) (ss : Table) (i : ℕ) → IsGroup b ss → 0 < i → lookup signs (take i (b ∷ bs)) ≡ lookup ss (take i (b ∷ bs))
same_front b bs ss zero g lt = absurd (omega arith)
same_front b bs ss (suc i) g lt = g.same (take i bs)

pub group_front : (mode : Mode) (b : ℕ) (ss : Table) (xs : List ℕ) (o : Option LongestPiece) → 0 < length xs → IsSignByte (slice_index xs 0) → slice_index xs 0 ≡ b → IsGroup b ss → found o ≡ first_entry ss xs → Gives mode xs o
group_front mode b ss [] o lt s is g e = absurd (omega arith)
group_front mode b ss (c ∷ bs) o lt s is g e =
    let h : IsGroup c ss = subst (λ y. IsGroup y ss) (sym is) g in
    table_gives mode ss (c ∷ bs) o (record { order = h.order; plain = h.plain; empty = h.empty; pieces = λ i some. sign_piece mode c bs i s some ∙ ap token_of (same_front c bs ss i h some) }) e

-- a sign of one byte with which no longer one begins
pub lone_front : (mode : Mode) (b : ℕ) (kind : Kind) (xs : List ℕ) (o : Option LongestPiece) → 0 < length xs → IsSignByte (slice_index xs 0) → slice_index xs 0 ≡ b → IsGroup b ((b ∷ [], kind) ∷ [])
    → found o ≡ Some (1, p.Token kind) → Gives mode xs o
lone_front mode b kind [] o lt s is g e = absurd (omega arith)
lone_front mode b kind (c ∷ bs) o lt s is g e =
    group_front mode b ((b ∷ [], kind) ∷ []) (c ∷ bs) o lt s is g (rw (is, eq-eqb b b refl) e)

-- with another byte no sign begins
pub no_sign : (mode : Mode) (xs : List ℕ) → 0 < length xs → IsSignByte (slice_index xs 0) → ((t : List ℕ) → lookup signs (slice_index xs 0 ∷ t) ≡ None) → Gives mode xs None
no_sign mode [] lt s h = absurd (omega arith)
no_sign mode (b ∷ bs) lt s h = none_gives mode (b ∷ bs) (λ i some le. sign_piece mode b bs i s some ∙ ap token_of (none_at b bs i h some))
  where
    none_at : (b : ℕ) (bs : List ℕ) (i : ℕ) → ((t : List ℕ) → lookup signs (b ∷ t) ≡ None) → 0 < i → lookup signs (take i (b ∷ bs)) ≡ None
    none_at b bs zero h lt = absurd (omega arith)
    none_at b bs (suc i) h lt = h (take i bs)

-- Words behind `\`.

bytes_by : (xs ys : List ℕ) (c d : Bool) → bytes_eq xs ys ≡ c → bytes_eq ys xs ≡ d → c ≡ d
bytes_by xs ys true true e f = refl
bytes_by xs ys false false e f = refl
bytes_by xs ys true false e f = absurd (let g = (bytes_eq-Decides ys xs).1 (sym ((bytes_eq-Decides xs ys).0 e)) in cc)
bytes_by xs ys false true e f = absurd (let g = (bytes_eq-Decides xs ys).1 (sym ((bytes_eq-Decides ys xs).0 f)) in cc)

turned : (xs ys : List ℕ) → bytes_eq xs ys ≡ bytes_eq ys xs
turned xs ys = bytes_by xs ys (bytes_eq xs ys) (bytes_eq ys xs) refl refl

-- the table of the words behind `\`
abbrev pub results : Table
results = (codes "\\result", k.Result) ∷ (codes "\\length", k.Length) ∷ []

results_by : (c d : Bool) → cond c (Some (p.Token k.Result)) (when d (p.Token k.Length)) ≡ token_of (cond c (Some k.Result) (cond d (Some k.Length) None))
results_by true d = refl
results_by false true = refl
results_by false false = refl

backslash_piece : (mode : Mode) (bs : List ℕ) → (mode ≡ m.Plain → ⊥) → backslash_of mode bs ≡ token_of (lookup results (92 ∷ bs))
backslash_piece m.Plain bs ne = absurd (ne refl)
backslash_piece m.Line bs ne = rw (turned bs (codes "result"), turned bs (codes "length")) (results_by (bytes_eq (codes "result") bs) (bytes_eq (codes "length") bs))
backslash_piece m.Block bs ne = rw (turned bs (codes "result"), turned bs (codes "length")) (results_by (bytes_eq (codes "result") bs) (bytes_eq (codes "length") bs))

result_piece : (mode : Mode) (bs : List ℕ) (i : ℕ) → (mode ≡ m.Plain → ⊥) → 0 < i → piece_of mode (take i (92 ∷ bs)) ≡ token_of (lookup results (take i (92 ∷ bs)))
result_piece mode bs zero ne lt = absurd (omega arith)
result_piece mode bs (suc i) ne lt = backslash_piece mode (take i bs) ne

pub result_front : (mode : Mode) (xs : List ℕ) (o : Option LongestPiece) → slice_index xs 0 ≡ 92 → (mode ≡ m.Plain → ⊥) → found o ≡ first_entry results xs → Gives mode xs o
result_front mode [] o b ne e = absurd (omega (arith, b))
result_front mode (x ∷ bs) o b ne e =
    let moved : found o ≡ first_entry results (92 ∷ bs) = subst (λ (y : ℕ). found o ≡ first_entry results (y ∷ bs)) b e in
    subst (λ (y : ℕ). Gives mode (y ∷ bs) o) (sym b) (table_gives mode results (92 ∷ bs) o (record { order = refl; plain = refl; empty = refl; pieces = λ i some. result_piece mode bs i ne some }) moved)

none_front : (mode : Mode) (bs : List ℕ) (b : ℕ) → ((i : ℕ) → piece_of mode (b ∷ take i bs) ≡ None) → NoCut mode (b ∷ bs)
none_front mode bs b h zero what c = let s = c.some in absurd (omega arith)
none_front mode bs b h (suc i) what c = let none = h i in let some = c.shape in cc

pub no_result : (mode : Mode) (xs : List ℕ) → slice_index xs 0 ≡ 92 → mode ≡ m.Plain → NoCut mode xs
no_result mode [] b e = absurd (omega (arith, b))
no_result mode (x ∷ bs) b e = subst (λ (n : Mode). NoCut n (x ∷ bs)) (sym e) (subst (λ (y : ℕ). NoCut m.Plain (y ∷ bs)) (sym b) (none_front m.Plain bs 92 (λ i. refl)))

-- The end of an annotation of a block.

-- the table of it
abbrev pub ends : Table
ends = (codes "@*/", k.End) ∷ []

ends_by : (c : Bool) → when c (p.Token k.End) ≡ token_of (cond c (Some k.End) None)
ends_by true = refl
ends_by false = refl

end_piece : (bs : List ℕ) (i : ℕ) → 0 < i → piece_of m.Block (take i (64 ∷ bs)) ≡ token_of (lookup ends (take i (64 ∷ bs)))
end_piece bs zero lt = absurd (omega arith)
end_piece bs (suc i) lt = rw (turned (take i bs) (codes "*/")) (ends_by (bytes_eq (codes "*/") (take i bs)))

pub end_front : (mode : Mode) (xs : List ℕ) (o : Option LongestPiece) → slice_index xs 0 ≡ 64 → mode ≡ m.Block → found o ≡ first_entry ends xs → Gives mode xs o
end_front mode [] o b is e = absurd (omega (arith, b))
end_front mode (x ∷ bs) o b is e =
    let moved : found o ≡ first_entry ends (64 ∷ bs) = subst (λ (y : ℕ). found o ≡ first_entry ends (y ∷ bs)) b e in
    subst (λ (n : Mode). Gives n (x ∷ bs) o) (sym is) (subst (λ (y : ℕ). Gives m.Block (y ∷ bs) o) (sym b) (table_gives m.Block ends (64 ∷ bs) o (record { order = refl; plain = refl; empty = refl; pieces = λ i some. end_piece bs i some }) moved))

at_none : (mode : Mode) (bs : List ℕ) → (mode ≡ m.Block → ⊥) → at_of mode bs ≡ None
at_none m.Plain bs ne = refl
at_none m.Line bs ne = refl
at_none m.Block bs ne = absurd (ne refl)

pub no_end : (mode : Mode) (xs : List ℕ) → slice_index xs 0 ≡ 64 → (mode ≡ m.Block → ⊥) → NoCut mode xs
no_end mode [] b ne = absurd (omega (arith, b))
no_end mode (x ∷ bs) b ne = subst (λ (y : ℕ). NoCut mode (y ∷ bs)) (sym b) (none_front mode bs 64 (λ i. at_none mode (take i bs) ne))

-- Blanks.

blank_longer : (mode : Mode) (b i : ℕ) (bs : List ℕ) → is_blank b ≡ true → 1 < i → i ≤ suc (length bs) → piece_of mode (take i (b ∷ bs)) ≡ None
blank_longer mode b zero bs e lt le = absurd (omega arith)
blank_longer mode b (suc zero) bs e lt le = absurd (omega arith)
blank_longer mode b (suc (suc i)) [] e lt le = absurd (omega arith)
blank_longer mode b (suc (suc i)) (x ∷ bs) e lt le =
    let some : (length (x ∷ take i bs) == 0) ≡ false = ne_eqb _ _ (omega arith) in
    rw (e, some) refl

newline_apart : (mode : Mode) (c : Bool) (rest : List ℕ) → apart (cond c (newline_of mode) p.Gap) rest ≡ true
newline_apart m.Plain true rest = refl
newline_apart m.Line true rest = refl
newline_apart m.Block true rest = refl
newline_apart mode false rest = refl

pub blank_front : (mode : Mode) (xs : List ℕ) (what : Piece) → 0 < length xs → is_blank (slice_index xs 0) ≡ true → what ≡ cond (slice_index xs 0 == 10) (newline_of mode) p.Gap → Cut mode xs 1 what
blank_front mode [] what lt e is = absurd (omega arith)
blank_front mode (b ∷ bs) what lt e is = record {
  some = omega arith;
  within = omega arith;
  shape = rw (e, is) refl;
  longest = λ i more le. blank_longer mode b i bs e more le;
  stands = rw is (newline_apart mode (b == 10) bs);
}
