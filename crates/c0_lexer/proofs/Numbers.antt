-- Numbers.
use Rattle.std.proofs.Common.{◌≡◌, ℕ, zero, suc, ◌+◌, ◌-◌, ◌*◌, ◌^◌, ◌<◌, ◌≤◌, Bool, true, false, cond, not, ◌&&◌, ◌||◌, ◌==◌, List, [], ◌∷◌, length, get_or, take, drop, Option, Some, None, refl, sym, ap, subst, ◌∙◌, arith, inl, inr}
use Rattle.std.specs.Prelude.{slice_index, nat_le, nat_lt}
use Rattle.std.specs.List.{prefix_len}
use Rattle.std.proofs.lemmas.Bool.{ne_eqb, eqb-true, and_parts, or_cases, cases_lt, leb-true, le-leb, lt-leb, le-ltb}
use Rattle.std.proofs.lemmas.List.{at_drop_more}
use Rattle.c0_source.specs.declared.kind.Kind.TheVariants as k
use Rattle.c0_source.specs.declared.kind.Mode.{Mode}
use Rattle.c0_source.specs.declared.kind.Piece.{Piece}
use Rattle.c0_source.specs.declared.kind.Piece.TheVariants as p
use Rattle.c0_source.specs.Bytes.{is_blank, is_letter, is_digit, is_hex, is_word, all_of}
use Rattle.c0_source.specs.Spelling.{value_from, hex_from, hex_digit, decimal_of, hex_of, number_of, piece_of, begins_word, apart, Cut, NoCut}
use Rattle.c0_lexer.specs.Numbers.{digits_value, hex_digit_value, hex_value, number_value}
use Rattle.c0_lexer.proofs.Words.{all_longer, prefix_within, ends_word, inside_word, word_first}

-- a number as a piece
abbrev pub numbered : Option ℕ → Option Piece
numbered None = None
numbered (Some n) = Some (p.Token (k.Number n))

numbered_by : (c : Bool) (n : ℕ) → cond c (Some (p.Token (k.Number n))) None ≡ numbered (cond c (Some n) None)
numbered_by true n = refl
numbered_by false n = refl

-- values grow with their digits
value_more : (n : ℕ) (bs : List ℕ) → n ≤ value_from n bs
value_more n [] = omega arith
value_more n (b ∷ bs) = omega (arith, value_more (10 * n + (b - 48)) bs)

hex_more : (n : ℕ) (bs : List ℕ) → n ≤ hex_from n bs
hex_more n [] = omega arith
hex_more n (b ∷ bs) = omega (arith, hex_more (16 * n + hex_digit b) bs)

and_none : (a b : Bool) (n : ℕ) → b ≡ false → cond (a && b) (Some n) None ≡ None
and_none true b n e = rw e refl
and_none false b n e = refl

-- beyond its limit no more digits give a value
pub digits_beyond : (n : ℕ) (bs : List ℕ) → 2147483648 < n → digits_value n bs ≡ None
digits_beyond n bs lt = and_none (all_of is_digit bs) (nat_le (value_from n bs) (2 ^ 31)) (value_from n bs) (lt-leb (value_from n bs) (2 ^ 31) (omega (arith, value_more n bs)))

pub hex_beyond : (n : ℕ) (bs : List ℕ) → 4294967295 < n → hex_value n bs ≡ None
hex_beyond n bs lt = and_none (all_of is_hex bs) (nat_lt (hex_from n bs) (2 ^ 32)) (hex_from n bs) (le-ltb (hex_from n bs) (2 ^ 32) (omega (arith, hex_more n bs)))

or_true : (c : Bool) → (c || true) ≡ true
or_true true = refl
or_true false = refl

and_true : (c : Bool) → (c && true) ≡ c
and_true true = refl
and_true false = refl

and_false : (c : Bool) → (c && false) ≡ false
and_false true = refl
and_false false = refl

-- What a number is, by its value.

one_digit : (b : ℕ) → is_digit b ≡ true → decimal_of b [] ≡ numbered (digits_value 0 (b ∷ []))
one_digit b e = rw (or_true (not (b == 48)), e) (numbered_by (nat_le (value_from 0 (b ∷ [])) (2 ^ 31)) (value_from 0 (b ∷ [])))

more_digits : (b x : ℕ) (bs : List ℕ) → is_digit b ≡ true → (b == 48) ≡ false → decimal_of b (x ∷ bs) ≡ numbered (digits_value 0 (b ∷ x ∷ bs))
more_digits b x bs e n = rw (n, e, and_true (all_of is_digit (x ∷ bs))) (numbered_by (all_of is_digit (x ∷ bs) && nat_le (value_from 0 (b ∷ x ∷ bs)) (2 ^ 31)) (value_from 0 (b ∷ x ∷ bs)))

leading_zero : (b x : ℕ) (bs : List ℕ) → (b == 48) ≡ true → decimal_of b (x ∷ bs) ≡ None
leading_zero b x bs n =
    let some : (length (x ∷ bs) == 0) ≡ false = ne_eqb _ _ (omega arith) in
    rw (n, some, and_false (all_of is_digit (x ∷ bs))) refl

hex_is : (d : ℕ) (ds : List ℕ) → hex_of (d ∷ ds) ≡ numbered (hex_value 0 (d ∷ ds))
hex_is d ds = numbered_by (all_of is_hex (d ∷ ds) && nat_lt (hex_from 0 (d ∷ ds)) (2 ^ 32)) (hex_from 0 (d ∷ ds))

number_by : (b x : ℕ) (bs : List ℕ) (c d : Bool) → is_digit b ≡ true → (b == 48) ≡ c → (x == 120 || x == 88) ≡ d → number_of b (x ∷ bs) ≡ numbered (number_value (b ∷ x ∷ bs))
number_by b x [] true true e n h = rw (n, h) refl
number_by b x (y ∷ bs) true true e n h = rw (n, h) (hex_is y bs)
number_by b x [] true false e n h =
    let left : number_of b (x ∷ []) ≡ decimal_of b (x ∷ []) = rw (n, h) refl in
    let right : number_value (b ∷ x ∷ []) ≡ None = rw n refl in
    left ∙ (leading_zero b x [] n ∙ ap numbered (sym right))
number_by b x (y ∷ bs) true false e n h =
    let left : number_of b (x ∷ y ∷ bs) ≡ decimal_of b (x ∷ y ∷ bs) = rw (n, h) refl in
    let right : number_value (b ∷ x ∷ y ∷ bs) ≡ None = rw (n, h) refl in
    left ∙ (leading_zero b x (y ∷ bs) n ∙ ap numbered (sym right))
number_by b x [] false d e n h =
    let left : number_of b (x ∷ []) ≡ decimal_of b (x ∷ []) = rw n refl in
    let right : number_value (b ∷ x ∷ []) ≡ digits_value 0 (b ∷ x ∷ []) = rw n refl in
    left ∙ (more_digits b x [] e n ∙ ap numbered (sym right))
number_by b x (y ∷ bs) false d e n h =
    let left : number_of b (x ∷ y ∷ bs) ≡ decimal_of b (x ∷ y ∷ bs) = rw n refl in
    let right : number_value (b ∷ x ∷ y ∷ bs) ≡ digits_value 0 (b ∷ x ∷ y ∷ bs) = rw n refl in
    left ∙ (more_digits b x (y ∷ bs) e n ∙ ap numbered (sym right))

number_is : (b : ℕ) (bs : List ℕ) → is_digit b ≡ true → number_of b bs ≡ numbered (number_value (b ∷ bs))
number_is b [] e = one_digit b e
number_is b (x ∷ bs) e = number_by b x bs (b == 48) (x == 120 || x == 88) e refl refl

-- A number has letters, digits and `_` alone.

digit_word : (b : ℕ) → is_digit b ≡ true → is_word b ≡ true
digit_word b e = rw (e, or_true (is_letter b)) refl

letter_word : (b : ℕ) → is_letter b ≡ true → is_word b ≡ true
letter_word b e = rw e refl

low_letter : (b : ℕ) → 97 ≤ b → b ≤ 122 → is_letter b ≡ true
low_letter b lo hi = rw (le-leb 97 b lo, le-leb b 122 hi) refl

high_letter : (b : ℕ) → 65 ≤ b → b ≤ 90 → is_letter b ≡ true
high_letter b lo hi = rw (le-leb 65 b lo, le-leb b 90 hi, or_true (nat_le 97 b && nat_le b 122)) refl

hex_letter : (b : ℕ) → (nat_le 97 b && nat_le b 102) ≡ true → is_word b ≡ true
hex_letter b e =
    let parts = and_parts (nat_le 97 b) (nat_le b 102) e in
    let lo : 97 ≤ b = leb-true 97 b parts.0 in
    let hi : b ≤ 102 = leb-true b 102 parts.1 in
    letter_word b (low_letter b lo (omega arith))

hex_capital : (b : ℕ) → (nat_le 65 b && nat_le b 70) ≡ true → is_word b ≡ true
hex_capital b e =
    let parts = and_parts (nat_le 65 b) (nat_le b 70) e in
    let lo : 65 ≤ b = leb-true 65 b parts.0 in
    let hi : b ≤ 70 = leb-true b 70 parts.1 in
    letter_word b (high_letter b lo (omega arith))

hex_word : (b : ℕ) → is_hex b ≡ true → is_word b ≡ true
hex_word b e =
    elim (or_cases (is_digit b || (nat_le 97 b && nat_le b 102)) (nat_le 65 b && nat_le b 70) e) [
      | inl h ↦ elim (or_cases (is_digit b) (nat_le 97 b && nat_le b 102) h) [
        | inl d ↦ digit_word b d
        | inr l ↦ hex_letter b l
      ]
      | inr h ↦ hex_capital b h
    ]

all_weaker : (f g : ℕ → Bool) (bs : List ℕ) → ((b : ℕ) → f b ≡ true → g b ≡ true) → all_of f bs ≡ true → all_of g bs ≡ true
all_weaker f g [] h e = refl
all_weaker f g (b ∷ bs) h e =
    let parts = and_parts (f b) (all_of f bs) e in
    rw (h b parts.0) (all_weaker f g bs h parts.1)

test_of : (a b : Bool) (n v : ℕ) → cond (a && b) (Some n) None ≡ Some v → a ≡ true
test_of true b n v e = refl
test_of false b n v e = absurd cc

digits_word : (bs : List ℕ) (v : ℕ) → digits_value 0 bs ≡ Some v → all_of is_word bs ≡ true
digits_word bs v e = all_weaker is_digit is_word bs digit_word (test_of (all_of is_digit bs) (nat_le (value_from 0 bs) (2 ^ 31)) (value_from 0 bs) v e)

hexes_word : (bs : List ℕ) (v : ℕ) → hex_value 0 bs ≡ Some v → all_of is_word bs ≡ true
hexes_word bs v e = all_weaker is_hex is_word bs hex_word (test_of (all_of is_hex bs) (nat_lt (hex_from 0 bs) (2 ^ 32)) (hex_from 0 bs) v e)

x_word : (x : ℕ) → (x == 120 || x == 88) ≡ true → is_word x ≡ true
x_word x e =
    elim (or_cases (x == 120) (x == 88) e) [
      | inl h ↦ let is : x ≡ 120 = eqb-true x 120 h in rw is refl
      | inr h ↦ let is : x ≡ 88 = eqb-true x 88 h in rw is refl
    ]

hexadecimal_word : (b x d v : ℕ) (ds : List ℕ) (c h : Bool) → (b == 48) ≡ c → (x == 120 || x == 88) ≡ h → number_value (b ∷ x ∷ d ∷ ds) ≡ Some v → all_of is_word (b ∷ x ∷ d ∷ ds) ≡ true
hexadecimal_word b x d v ds true true n is e =
    let g : hex_value 0 (d ∷ ds) ≡ Some v = rw (n, is) at e in
    let zero_is : b ≡ 48 = eqb-true b 48 n in
    let first : is_word b ≡ true = rw zero_is refl in
    rw (first, x_word x is) (hexes_word (d ∷ ds) v g)
hexadecimal_word b x d v ds true false n is e = absurd (let g = rw (n, is) at e in cc)
hexadecimal_word b x d v ds false h n is e = digits_word (b ∷ x ∷ d ∷ ds) v (rw n at e)

two_word : (b x v : ℕ) (c : Bool) → (b == 48) ≡ c → number_value (b ∷ x ∷ []) ≡ Some v → all_of is_word (b ∷ x ∷ []) ≡ true
two_word b x v true n e = absurd (let g = rw n at e in cc)
two_word b x v false n e = digits_word (b ∷ x ∷ []) v (rw n at e)

pub number_word : (bs : List ℕ) (v : ℕ) → number_value bs ≡ Some v → all_of is_word bs ≡ true
number_word [] v e = refl
number_word (b ∷ []) v e = digits_word (b ∷ []) v e
number_word (b ∷ x ∷ []) v e = two_word b x v (b == 48) refl e
number_word (b ∷ x ∷ d ∷ ds) v e = hexadecimal_word b x d v ds (b == 48) (x == 120 || x == 88) refl refl e

no_number_by : (bs : List ℕ) (o : Option ℕ) → number_value bs ≡ o → all_of is_word bs ≡ false → number_value bs ≡ None
no_number_by bs None e no_word = e
no_number_by bs (Some v) e no_word = absurd (let w = number_word bs v e in cc)

-- what has another byte is no number
no_number : (bs : List ℕ) → all_of is_word bs ≡ false → number_value bs ≡ None
no_number bs no_word = no_number_by bs (number_value bs) refl no_word

-- The number at the front.

-- the first byte of a number
pub record IsDigitByte (b : ℕ) : Type 0 where
  pub blank : is_blank b ≡ false
  pub letter : is_letter b ≡ false
  pub digit : is_digit b ≡ true

piece_is : (mode : Mode) (b : ℕ) (bs : List ℕ) (i : ℕ) → IsDigitByte b → 0 < i → piece_of mode (take i (b ∷ bs)) ≡ numbered (number_value (take i (b ∷ bs)))
piece_is mode b bs zero d lt = absurd (omega arith)
piece_is mode b bs (suc i) d lt = rw (d.blank, d.letter, d.digit) (number_is b (take i bs) d.digit)

some_word : (b : ℕ) (bs : List ℕ) → is_digit b ≡ true → 0 < prefix_len is_word (b ∷ bs)
some_word b bs e = omega (arith, word_first b bs (digit_word b e))

number_longer : (mode : Mode) (b i : ℕ) (bs : List ℕ) → IsDigitByte b → prefix_len is_word (b ∷ bs) < i → i ≤ suc (length bs) → piece_of mode (take i (b ∷ bs)) ≡ None
number_longer mode b i bs d lt le =
    let none = no_number (take i (b ∷ bs)) (all_longer is_word (b ∷ bs) i lt le) in
    piece_is mode b bs i d (omega arith) ∙ ap numbered none

number_cut : (mode : Mode) (b n : ℕ) (bs : List ℕ) → IsDigitByte b → number_value (take (prefix_len is_word (b ∷ bs)) (b ∷ bs)) ≡ Some n → Cut mode (b ∷ bs) (prefix_len is_word (b ∷ bs)) (p.Token (k.Number n))
number_cut mode b n bs d e = record {
  some = some_word b bs d.digit;
  within = prefix_within is_word (b ∷ bs);
  shape = piece_is mode b bs (prefix_len is_word (b ∷ bs)) d (some_word b bs d.digit) ∙ ap numbered e;
  longest = λ i lt le. number_longer mode b i bs d lt le;
  stands = ap not (ends_word (b ∷ bs));
}

value_of : (o : Option ℕ) (what : Piece) → numbered o ≡ Some what → (v : ℕ) × (what ≡ p.Token (k.Number v))
value_of None what e = absurd cc
value_of (Some v) what e = (v, cc)

-- a piece that begins with a digit goes as far as letters, digits and `_` do
number_all : (mode : Mode) (b : ℕ) (bs : List ℕ) (i : ℕ) (what : Piece) → IsDigitByte b → Cut mode (b ∷ bs) i what → i ≡ prefix_len is_word (b ∷ bs)
number_all mode b bs i what d c =
    let shape : numbered (number_value (take i (b ∷ bs))) ≡ Some what = sym (piece_is mode b bs i d c.some) ∙ c.shape in
    let value = value_of (number_value (take i (b ∷ bs))) what shape in
    let stands : not (begins_word (drop i (b ∷ bs))) ≡ true = subst (λ (w : Piece). apart w (drop i (b ∷ bs)) ≡ true) value.1 c.stands in
    elim (cases_lt i (prefix_len is_word (b ∷ bs))) [
      | inl lt ↦ absurd (let inside = inside_word (b ∷ bs) i lt in let no_word : not true ≡ true = subst (λ (t : Bool). not t ≡ true) inside stands in cc)
      | inr ge ↦ elim (cases_lt (prefix_len is_word (b ∷ bs)) i) [
        | inl lt ↦ absurd (let none = number_longer mode b i bs d lt c.within in let some = c.shape in cc)
        | inr le ↦ omega arith
      ]
    ]

number_none : (mode : Mode) (b : ℕ) (bs : List ℕ) → IsDigitByte b → number_value (take (prefix_len is_word (b ∷ bs)) (b ∷ bs)) ≡ None → NoCut mode (b ∷ bs)
number_none mode b bs d e n what c =
    let size = number_all mode b bs n what d c in
    let none : piece_of mode (take n (b ∷ bs)) ≡ None = piece_is mode b bs n d c.some ∙ ap numbered (subst (λ (i : ℕ). number_value (take i (b ∷ bs)) ≡ None) (sym size) e) in
    let some = c.shape in
    cc

pub number_front : (mode : Mode) (xs : List ℕ) (l n : ℕ) → 0 < length xs → is_blank (slice_index xs 0) ≡ false → is_letter (slice_index xs 0) ≡ false → is_digit (slice_index xs 0) ≡ true
    → l ≡ prefix_len is_word xs → number_value (take l xs) ≡ Some n → Cut mode xs l (p.Token (k.Number n))
number_front mode [] l n lt blank letter digit len e = absurd (omega arith)
number_front mode (b ∷ bs) l n lt blank letter digit len e =
    let moved : number_value (take (prefix_len is_word (b ∷ bs)) (b ∷ bs)) ≡ Some n = subst (λ (i : ℕ). number_value (take i (b ∷ bs)) ≡ Some n) len e in
    subst (λ (i : ℕ). Cut mode (b ∷ bs) i (p.Token (k.Number n))) (sym len) (number_cut mode b n bs (record { blank = blank; letter = letter; digit = digit }) moved)

pub no_number_front : (mode : Mode) (xs : List ℕ) (l : ℕ) → 0 < length xs → is_blank (slice_index xs 0) ≡ false → is_letter (slice_index xs 0) ≡ false → is_digit (slice_index xs 0) ≡ true
    → l ≡ prefix_len is_word xs → number_value (take l xs) ≡ None → NoCut mode xs
no_number_front mode [] l lt blank letter digit len e = absurd (omega arith)
no_number_front mode (b ∷ bs) l lt blank letter digit len e =
    let moved : number_value (take (prefix_len is_word (b ∷ bs)) (b ∷ bs)) ≡ None = subst (λ (i : ℕ). number_value (take i (b ∷ bs)) ≡ None) len e in
    number_none mode b bs (record { blank = blank; letter = letter; digit = digit }) moved

-- Values, digit by digit.

digits_step : (n b : ℕ) (bs : List ℕ) → is_digit b ≡ true → digits_value n (b ∷ bs) ≡ digits_value (10 * n + (b - 48)) bs
digits_step n b bs e = rw e refl

pub digits_over : (n i : ℕ) (ds : List ℕ) → i < length ds → is_digit (get_or ds i 0) ≡ true → 2147483648 < n * 10 + (get_or ds i 0 - 48) → digits_value n (drop i ds) ≡ None
digits_over n i ds lt e over =
    let front = at_drop_more (digits_value n) ds i 0 lt in
    let step = digits_step n (get_or ds i 0) (drop (i + 1) ds) e in
    front ∙ (step ∙ digits_beyond (10 * n + (get_or ds i 0 - 48)) (drop (i + 1) ds) (omega arith))

hex_step : (n b : ℕ) (bs : List ℕ) → is_hex b ≡ true → hex_value n (b ∷ bs) ≡ hex_value (16 * n + hex_digit b) bs
hex_step n b bs e = rw e refl

known_by : (b d : ℕ) (c : Bool) → is_hex b ≡ c → cond c (Some (hex_digit b)) None ≡ Some d → (is_hex b ≡ true) × (hex_digit b ≡ d)
known_by b d true e h = (e, cc)
known_by b d false e h = absurd cc

pub hex_next : (n i d : ℕ) (ds : List ℕ) → i < length ds → hex_digit_value (get_or ds i 0) ≡ Some d → hex_value n (drop i ds) ≡ hex_value (n * 16 + d) (drop (i + 1) ds)
hex_next n i d ds lt e =
    let known = known_by (get_or ds i 0) d (is_hex (get_or ds i 0)) refl e in
    let front = at_drop_more (hex_value n) ds i 0 lt in
    let step = hex_step n (get_or ds i 0) (drop (i + 1) ds) known.0 in
    let same : 16 * n + hex_digit (get_or ds i 0) ≡ n * 16 + d = omega (arith, known.1) in
    front ∙ (step ∙ ap (λ (v : ℕ). hex_value v (drop (i + 1) ds)) same)
