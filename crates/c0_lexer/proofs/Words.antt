-- Keywords and names.
use Rattle.std.proofs.Common.{◌≡◌, ℕ, zero, suc, ◌+◌, ◌<◌, ◌≤◌, Bool, true, false, cond, List, [], ◌∷◌, ◌++◌, length, take, drop, Option, Some, None, refl, ap, ◌∙◌, arith}
use Rattle.std.specs.Prelude.{slice_index}
use Rattle.std.specs.Str.{bytes_eq}
use Rattle.std.specs.List.{prefix_len}
use Rattle.c0_source.specs.declared.kind.Kind.{Kind}
use Rattle.c0_source.specs.declared.kind.Mode.{Mode}
use Rattle.c0_source.specs.declared.kind.Mode.TheVariants as m
use Rattle.c0_source.specs.declared.kind.Piece.TheVariants as p
use Rattle.c0_source.specs.Bytes.{is_blank, is_letter, is_word, all_of}
use Rattle.c0_source.specs.Spelling.{Table, lookup, keywords, clauses, or_name, words_of, word_kind, piece_of, begins_word, Cut}
use Rattle.c0_lexer.proofs.Tables.{is_plain, all_plain, lookup_plain, apart_plain}

all_prefix_by : (f : ℕ → Bool) (b : ℕ) (bs : List ℕ) (c : Bool) → f b ≡ c → all_of f (take (prefix_len f bs) bs) ≡ true → all_of f (take (cond c (1 + prefix_len f bs) 0) (b ∷ bs)) ≡ true
all_prefix_by f b bs false e h = refl
all_prefix_by f b bs true e h =
    let one : 1 + prefix_len f bs ≡ suc (prefix_len f bs) = omega arith in
    rw (one, e) h

-- the bytes that pass from the front on pass
pub all_prefix : (f : ℕ → Bool) (bs : List ℕ) → all_of f (take (prefix_len f bs) bs) ≡ true
all_prefix f [] = refl
all_prefix f (b ∷ bs) = all_prefix_by f b bs (f b) refl (all_prefix f bs)

all_longer_by : (f : ℕ → Bool) (b m : ℕ) (bs : List ℕ) (c : Bool) → f b ≡ c → ((n : ℕ) → prefix_len f bs < n → n ≤ length bs → all_of f (take n bs) ≡ false) → cond c (1 + prefix_len f bs) 0 < m → m ≤ suc (length bs) → all_of f (take m (b ∷ bs)) ≡ false
all_longer_by f b zero bs c e ih lt le = absurd (omega arith)
all_longer_by f b (suc m) bs false e ih lt le = rw e refl
all_longer_by f b (suc m) bs true e ih lt le = rw e (ih m (omega arith) (omega arith))

-- ... and no longer beginning does
pub all_longer : (f : ℕ → Bool) (bs : List ℕ) (m : ℕ) → prefix_len f bs < m → m ≤ length bs → all_of f (take m bs) ≡ false
all_longer f [] m lt le = absurd (omega arith)
all_longer f (b ∷ bs) m lt le = all_longer_by f b m bs (f b) refl (λ n p q. all_longer f bs n p q) lt le

pub prefix_within : (f : ℕ → Bool) (bs : List ℕ) → prefix_len f bs ≤ length bs
prefix_within f [] = omega arith
prefix_within f (b ∷ bs) =
    let ih = prefix_within f bs in
    elim (f b) as (λ (c : Bool). cond c (1 + prefix_len f bs) 0 ≤ suc (length bs)) [ true ↦ omega (arith, ih) | false ↦ omega arith ]

begins_by : (b : ℕ) (bs : List ℕ) (c : Bool) → is_word b ≡ c → begins_word (drop (prefix_len is_word bs) bs) ≡ false → begins_word (drop (cond c (1 + prefix_len is_word bs) 0) (b ∷ bs)) ≡ false
begins_by b bs false e h = e
begins_by b bs true e h =
    let one : 1 + prefix_len is_word bs ≡ suc (prefix_len is_word bs) = omega arith in
    rw one h

-- behind the first word stands no letter, digit or `_`
pub ends_word : (bs : List ℕ) → begins_word (drop (prefix_len is_word bs) bs) ≡ false
ends_word [] = refl
ends_word (b ∷ bs) = begins_by b bs (is_word b) refl (ends_word bs)

inside_by : (b n : ℕ) (bs : List ℕ) (c : Bool) → is_word b ≡ c → ((i : ℕ) → i < prefix_len is_word bs → begins_word (drop i bs) ≡ true) → n < cond c (1 + prefix_len is_word bs) 0 → begins_word (drop n (b ∷ bs)) ≡ true
inside_by b n bs false e ih lt = absurd (omega arith)
inside_by b zero bs true e ih lt = e
inside_by b (suc n) bs true e ih lt = ih n (omega arith)

-- ... and within it everywhere one
pub inside_word : (bs : List ℕ) (n : ℕ) → n < prefix_len is_word bs → begins_word (drop n bs) ≡ true
inside_word [] n lt = absurd (omega arith)
inside_word (b ∷ bs) n lt = inside_by b n bs (is_word b) refl (λ i l. inside_word bs i l) lt

or_left : (a b : Bool) → a ≡ true → (cond a true b) ≡ true
or_left a b e = rw e refl

pub word_first : (b : ℕ) (bs : List ℕ) → is_word b ≡ true → prefix_len is_word (b ∷ bs) ≡ suc (prefix_len is_word bs)
word_first b bs e =
    let one : 1 + prefix_len is_word bs ≡ suc (prefix_len is_word bs) = omega arith in
    rw (e, one) refl

pub letter_word : (b : ℕ) → is_letter b ≡ true → is_word b ≡ true
letter_word b e = rw e refl

-- Kinds of words.

name_plain : (o : Option Kind) → ((kind : Kind) → o ≡ Some kind → is_plain kind ≡ true) → is_plain (or_name o) ≡ true
name_plain None h = refl
name_plain (Some kind) h = h kind refl

words_plain : (mode : Mode) → all_plain (words_of mode) ≡ true
words_plain m.Plain = refl
words_plain m.Line = refl
words_plain m.Block = refl

kind_plain : (mode : Mode) (text : List ℕ) → is_plain (word_kind mode text) ≡ true
unfolding word_kind
kind_plain mode text = name_plain (lookup (words_of mode) text) (λ kind e. lookup_plain (words_of mode) text kind (words_plain mode) e)

-- Words.

word_longer : (mode : Mode) (b i : ℕ) (bs : List ℕ) → is_blank b ≡ false → is_letter b ≡ true → suc (prefix_len is_word bs) < i → i ≤ suc (length bs) → piece_of mode (take i (b ∷ bs)) ≡ None
word_longer mode b zero bs blank letter lt le = absurd (omega arith)
word_longer mode b (suc i) bs blank letter lt le = rw (blank, letter, all_longer is_word bs i (omega arith) (omega arith)) refl

word_cut : (mode : Mode) (b : ℕ) (bs : List ℕ) → is_blank b ≡ false → is_letter b ≡ true → Cut mode (b ∷ bs) (suc (prefix_len is_word bs)) (p.Token (word_kind mode (take (suc (prefix_len is_word bs)) (b ∷ bs))))
word_cut mode b bs blank letter = record {
  some = omega arith;
  within = omega (arith, prefix_within is_word bs);
  shape = rw (blank, letter, all_prefix is_word bs) refl;
  longest = λ i lt le. word_longer mode b i bs blank letter lt le;
  stands = apart_plain _ (drop (suc (prefix_len is_word bs)) (b ∷ bs)) (kind_plain mode (take (suc (prefix_len is_word bs)) (b ∷ bs)));
}

pub word_front : (mode : Mode) (xs : List ℕ) (n : ℕ) (kind : Kind) → 0 < length xs → is_blank (slice_index xs 0) ≡ false → is_letter (slice_index xs 0) ≡ true → n ≡ prefix_len is_word xs → kind ≡ word_kind mode (take n xs) → Cut mode xs n (p.Token kind)
word_front mode [] n kind lt blank letter len is = absurd (omega arith)
word_front mode (b ∷ bs) n kind lt blank letter len is =
    let size : n ≡ suc (prefix_len is_word bs) = len ∙ word_first b bs (letter_word b letter) in
    let whole : kind ≡ word_kind mode (take (suc (prefix_len is_word bs)) (b ∷ bs)) = is ∙ ap (λ (i : ℕ). word_kind mode (take i (b ∷ bs))) size in
    rw (size, whole) (word_cut mode b bs blank letter)

-- The kind of a word, by the two tables.

either : Option Kind → Option Kind → Option Kind
either None o = o
either (Some kind) o = Some kind

either_by : (c : Bool) (kind : Kind) (o u : Option Kind) → cond c (Some kind) (either o u) ≡ either (cond c (Some kind) o) u
unfolding either
either_by true kind o u = refl
either_by false kind o u = refl

lookup-append : (a b : Table) (text : List ℕ) → lookup (a ++ b) text ≡ either (lookup a text) (lookup b text)
unfolding either
lookup-append [] b text = refl
lookup-append (s ∷ a) b text = rw (lookup-append a b text) (either_by (bytes_eq s.0 text) s.1 (lookup a text) (lookup b text))

pub clause_kind : (mode : Mode) (text : List ℕ) (kind : Kind) → (mode ≡ m.Plain → ⊥) → lookup clauses text ≡ Some kind → word_kind mode text ≡ kind
unfolding word_kind either
clause_kind m.Plain text kind ne e = absurd (ne refl)
clause_kind m.Line text kind ne e = rw (lookup-append clauses keywords text, e) refl
clause_kind m.Block text kind ne e = rw (lookup-append clauses keywords text, e) refl

pub other_kind : (mode : Mode) (text : List ℕ) → ((mode ≡ m.Plain → ⊥) → lookup clauses text ≡ None) → word_kind mode text ≡ or_name (lookup keywords text)
unfolding word_kind either
other_kind m.Plain text h = refl
other_kind m.Line text h = let none = h (λ e. cc) in rw (lookup-append clauses keywords text, none) refl
other_kind m.Block text h = let none = h (λ e. cc) in rw (lookup-append clauses keywords text, none) refl
